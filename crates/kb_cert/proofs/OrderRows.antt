-- The orders on small terms.
use Rattle.std.specs.Prelude.{ℕ, List, zero, suc, [], ◌∷◌, ◌≡◌, Contains, length, codes, take}
use Rattle.std.proofs.Common.{refl, arith}
use Rattle.kb_term.specs.Tree.{variable}
use Rattle.kb_term.specs.Signature.{Signature}
use Rattle.kb_lpo.specs.PathOrder.{LpoGreater, variable_within, symbol_greater, arguments_greater}
use Rattle.kb_linear.specs.LinearOrder.{LinearGreater}
use Rattle.kb_kbo.specs.KnuthBendix.{KboOrder}
use Rattle.kb_kbo.specs.Orders.{kbo_orders}
use Rattle.kb_cert.specs.Family.{family, Orders}
use Rattle.kb_lpo.specs.Precedences.{precedences}
use Rattle.kb_cert.specs.declared.certificate.Certificate.TheVariants.{Lpo, Linear, Kbo}
use Rattle.kb_cert.specs.declared.family.Family.TheVariants.{Stated}
use Rattle.kb_term.proofs.PairRows.{one}
use Rattle.kb_term.proofs.Trees.{apply≢variable, each-more, each-none}

-- with f above g, f(g(x)) is greater than g(f(x))
pub lpo-fg-gf : LpoGreater (0 ∷ 1 ∷ []) (one 0 (one 1 (variable 0))) (one 1 (one 0 (variable 0)))
lpo-fg-gf = symbol_greater (each-more _ _ [] f-arguments (each-none _)) (omega arith)
  where
    here : Contains {X = ℕ} (0 ∷ []) 0
    here = (0, omega arith, refl)

    f-arguments : LpoGreater (0 ∷ 1 ∷ []) (one 0 (one 1 (variable 0))) (one 0 (variable 0))
    f-arguments =
        arguments_greater
        (each-more _ _ [] (variable_within here apply≢variable) (each-none _))
        []
        (one 1 (variable 0))
        (variable 0)
        []
        []
        refl
        refl
        (variable_within here apply≢variable)

-- with f = 2x + 1 and g = 2x, g(f(x)) is greater than f(g(x)): 4x + 2 and 4x + 1
pub linear-gf-fg : LinearGreater ((1, 2 ∷ []) ∷ (0, 2 ∷ []) ∷ []) (one 1 (one 0 (variable 0))) (one 0 (one 1 (variable 0)))
linear-gf-fg a = omega arith

-- f/1 and g/1
abbrev pub f1-g1 : Signature
f1-g1 = record { name = codes "f"; arity = 1 } ∷ record { name = codes "g"; arity = 1 } ∷ []

-- two precedences, 64 interpretations and 18 Knuth-Bendix orders
pub family-length : length (family Stated f1-g1) ≡ 84
family-length = refl

pub family-first : take 4 (family Stated f1-g1) ≡ Lpo (0 ∷ 1 ∷ []) ∷ Lpo (1 ∷ 0 ∷ []) ∷ Linear ((0, 1 ∷ []) ∷ (0, 1 ∷ []) ∷ []) ∷ Linear ((0, 1 ∷ []) ∷ (0, 2 ∷ []) ∷ []) ∷ []
family-first = refl

pub precedences-3 : precedences 3 ≡ (0 ∷ 1 ∷ 2 ∷ []) ∷ (0 ∷ 2 ∷ 1 ∷ []) ∷ (1 ∷ 0 ∷ 2 ∷ []) ∷ (1 ∷ 2 ∷ 0 ∷ []) ∷ (2 ∷ 0 ∷ 1 ∷ []) ∷ (2 ∷ 1 ∷ 0 ∷ []) ∷ []
precedences-3 = refl

-- the weights count up from the last symbol, and each list of weights stands with each precedence
abbrev kbo : List ℕ → List ℕ → KboOrder
kbo weights precedence = record { weights = weights; precedence = precedence }

pub kbo-first : take 3 (kbo_orders f1-g1) ≡ kbo (1 ∷ 1 ∷ []) (0 ∷ 1 ∷ []) ∷ kbo (1 ∷ 1 ∷ []) (1 ∷ 0 ∷ []) ∷ kbo (1 ∷ 2 ∷ []) (0 ∷ 1 ∷ []) ∷ []
kbo-first = refl

-- the empty signature has the empty precedence, the empty interpretation and the order of no weights
pub family-empty : family Stated [] ≡ Lpo [] ∷ Linear [] ∷ Kbo (kbo [] []) ∷ []
family-empty = refl

-- of the family, LINEAR 1,2 0,2 orders f(f(x)) -> g(x) and g(f(x)) -> f(g(x)); it is number 27
pub orders-row : Orders (Linear ((1, 2 ∷ []) ∷ (0, 2 ∷ []) ∷ [])) (record { left = one 0 (one 0 (variable 0)); right = one 1 (variable 0) } ∷ record { left = one 1 (one 0 (variable 0)); right = one 0 (one 1 (variable 0)) } ∷ [])
orders-row zero d p a = omega arith
orders-row (suc zero) d p a = omega arith
orders-row (suc (suc k)) d p a = absurd (omega (arith, p))

pub family-row : Contains (family Stated f1-g1) (Linear ((1, 2 ∷ []) ∷ (0, 2 ∷ []) ∷ []))
family-row = (27, omega arith, refl)
