-- Runs of the strategy that grow at their end.
use Rattle.std.proofs.Common.{ℕ, ◌+◌, ◌≡◌, refl, sym, subst, arith, List, [], ◌∷◌, ◌++◌, length, length-append, Some, None}
use Rattle.std.specs.Prelude.{◌<◌, ◌≤◌, false}
use Rattle.std.proofs.lemmas.List.Elements.{All-append, All-cons, All-nil}
use Rattle.kb_term.specs.Tree.{Tree}
use Rattle.kb_term.specs.Pair.{term_limit}
use Rattle.kb_term.specs.Rule.{Rule}
use Rattle.kb_term.specs.Proving.{IsPath}
use Rattle.kb_term.specs.declared.limit.Limit.{Limit}
use Rattle.kb_rewrite.specs.NormalForm.{StrategyStep, IsRunWithinLimits, HasNoRedex, NormalisesTo, form, large}
use Rattle.kb_rewrite.proofs.Irreducible.{normal_from}

-- a path, and one step more
path_more : {X : Type 0} (R : X → X → Type 0) (path : List X) (s t u : X) → IsPath R path s t → R t u → IsPath R (path ++ u ∷ []) s u
path_more R [] s t u e r = (subst (λ x. R x u) (sym e) r, refl)
path_more R (x ∷ path) s t u h r = (h.0, path_more R path x t u h.1 r)

-- a run within the limits, of so many steps
abbrev pub Run : List Rule → Tree → Tree → ℕ → Type 0
Run rules t u n = (path : List Tree) × IsRunWithinLimits rules path t u × (length path ≡ n)

pub run_none : (rules : List Rule) (t u : Tree) → t ≡ u → Run rules t u 0
run_none rules t u e = ([], (e, λ k d p. absurd (omega (arith, p))), refl)

pub run_more : (rules : List Rule) (t u v : Tree) (n : ℕ) → Run rules t u n → StrategyStep rules u v → term_limit v ≡ None → Run rules t v (n + 1)
run_more rules t u v n (path, (h, small), e) s limit = (path ++ v ∷ [], (path_more (StrategyStep rules) path t u v h s, All-append (λ w. term_limit w ≡ None) path (v ∷ []) small (All-cons (λ w. term_limit w ≡ None) v [] limit (All-nil (λ w. term_limit w ≡ None)))), omega (arith, e, length-append path (v ∷ [])))

pub run_same : (rules : List Rule) (t : Tree) (n : ℕ) {u v : Tree} → u ≡ v → Run rules t u n → Run rules t v n
run_same rules t n e h = subst (λ x. Run rules t x n) e h

-- the answers after a run
pub answers_form : (rules : List Rule) (t u : Tree) (n : ℕ) → Run rules t u n → n ≤ 10000 → HasNoRedex rules false u → NormalisesTo rules t (form u n)
answers_form rules t u n (path, h, e) few none = (path, h, e, few, normal_from rules u none)

pub answers_large : (rules : List Rule) (t u v : Tree) (n : ℕ) (l : Limit) → Run rules t u n → n < 10000 → StrategyStep rules u v → term_limit v ≡ Some l → NormalisesTo rules t (large l)
answers_large rules t u v n l (path, h, e) few s limit = (path, u, v, h, omega (arith, few, e), s, limit)
