-- Unifiers of small terms: a term with its own variable, and eight doublings.
use Rattle.std.specs.Prelude.{ℕ, zero, suc, ◌≡◌, [], ◌∷◌, None, Some}
use Rattle.std.proofs.Common.{refl, arith, ap, ◌∙◌}
use Rattle.kb_term.specs.Tree.{Tree, variable, apply_to, trees_of, tree_size}
use Rattle.kb_term.specs.Substitution.{instance}
use Rattle.kb_term.proofs.Trees.{apply-inj, more_trees-inj}
use Rattle.kb_term.specs.declared.limit.Limit.TheVariants.{Size}
use Rattle.kb_unify.specs.Unifier.{IsUnifier, IsUnifiable, IsInstanceOfSubstitution}
use Rattle.kb_unify.specs.Answer.{IsUnifierWith}

-- f(x) and x: no term is the one argument of itself
pub own_variable : ¬ IsUnifiable (apply_to 0 (variable 0 ∷ [])) (variable 0)
own_variable (m, e) = absurd (omega (arith, ap tree_size e))

-- f(t, t)
abbrev doubled : Tree → Tree
doubled t = apply_to 1 (t ∷ t ∷ [])

-- p(x1, .., x8) and p(f(x2, x2), .., f(x8, x8), last)
abbrev lefts : Tree
lefts = apply_to 0 (variable 0 ∷ variable 1 ∷ variable 2 ∷ variable 3 ∷ variable 4 ∷ variable 5 ∷ variable 6 ∷ variable 7 ∷ [])

abbrev rights : Tree → Tree
rights last = apply_to 0 (doubled (variable 1) ∷ doubled (variable 2) ∷ doubled (variable 3) ∷ doubled (variable 4) ∷ doubled (variable 5) ∷ doubled (variable 6) ∷ doubled (variable 7) ∷ last ∷ [])

-- the term doubled so many times
abbrev level : Tree → ℕ → Tree
level last zero = last
level last (suc n) = doubled (level last n)

-- each of the eight variables gets the doubling of the next one's term, and the eighth the last term
abbrev doubling : Tree → ℕ → Tree
doubling last zero = level last 7
doubling last (suc zero) = level last 6
doubling last (suc (suc zero)) = level last 5
doubling last (suc (suc (suc zero))) = level last 4
doubling last (suc (suc (suc (suc zero)))) = level last 3
doubling last (suc (suc (suc (suc (suc zero))))) = level last 2
doubling last (suc (suc (suc (suc (suc (suc zero)))))) = level last 1
doubling last (suc (suc (suc (suc (suc (suc (suc zero))))))) = last
doubling last (suc (suc (suc (suc (suc (suc (suc (suc n)))))))) = variable (suc (suc (suc (suc (suc (suc (suc (suc n))))))))

-- whatever makes the terms equal follows from it
doubling-general : (last : Tree) (k : ℕ → Tree) → IsUnifier k lefts (rights last) → IsInstanceOfSubstitution k (doubling last)
doubling-general last k e = (k, go)
  where
    a0 : (k 0 ≡ doubled (k 1)) × (trees_of (k 1 ∷ k 2 ∷ k 3 ∷ k 4 ∷ k 5 ∷ k 6 ∷ k 7 ∷ []) ≡ trees_of (doubled (k 2) ∷ doubled (k 3) ∷ doubled (k 4) ∷ doubled (k 5) ∷ doubled (k 6) ∷ doubled (k 7) ∷ instance k last ∷ []))
    a0 = more_trees-inj ((apply-inj e).1)

    a1 : (k 1 ≡ doubled (k 2)) × (trees_of (k 2 ∷ k 3 ∷ k 4 ∷ k 5 ∷ k 6 ∷ k 7 ∷ []) ≡ trees_of (doubled (k 3) ∷ doubled (k 4) ∷ doubled (k 5) ∷ doubled (k 6) ∷ doubled (k 7) ∷ instance k last ∷ []))
    a1 = more_trees-inj a0.1

    a2 : (k 2 ≡ doubled (k 3)) × (trees_of (k 3 ∷ k 4 ∷ k 5 ∷ k 6 ∷ k 7 ∷ []) ≡ trees_of (doubled (k 4) ∷ doubled (k 5) ∷ doubled (k 6) ∷ doubled (k 7) ∷ instance k last ∷ []))
    a2 = more_trees-inj a1.1

    a3 : (k 3 ≡ doubled (k 4)) × (trees_of (k 4 ∷ k 5 ∷ k 6 ∷ k 7 ∷ []) ≡ trees_of (doubled (k 5) ∷ doubled (k 6) ∷ doubled (k 7) ∷ instance k last ∷ []))
    a3 = more_trees-inj a2.1

    a4 : (k 4 ≡ doubled (k 5)) × (trees_of (k 5 ∷ k 6 ∷ k 7 ∷ []) ≡ trees_of (doubled (k 6) ∷ doubled (k 7) ∷ instance k last ∷ []))
    a4 = more_trees-inj a3.1

    a5 : (k 5 ≡ doubled (k 6)) × (trees_of (k 6 ∷ k 7 ∷ []) ≡ trees_of (doubled (k 7) ∷ instance k last ∷ []))
    a5 = more_trees-inj a4.1

    a6 : (k 6 ≡ doubled (k 7)) × (trees_of (k 7 ∷ []) ≡ trees_of (instance k last ∷ []))
    a6 = more_trees-inj a5.1

    h7 : k 7 ≡ instance k last
    h7 = (more_trees-inj a6.1).0

    h6 : k 6 ≡ instance k (level last 1)
    h6 = a6.0 ∙ ap doubled h7

    h5 : k 5 ≡ instance k (level last 2)
    h5 = a5.0 ∙ ap doubled h6

    h4 : k 4 ≡ instance k (level last 3)
    h4 = a4.0 ∙ ap doubled h5

    h3 : k 3 ≡ instance k (level last 4)
    h3 = a3.0 ∙ ap doubled h4

    h2 : k 2 ≡ instance k (level last 5)
    h2 = a2.0 ∙ ap doubled h3

    h1 : k 1 ≡ instance k (level last 6)
    h1 = a1.0 ∙ ap doubled h2

    go : (n : ℕ) → k n ≡ instance k (doubling last n)
    go zero = a0.0 ∙ ap doubled h1
    go (suc zero) = h1
    go (suc (suc zero)) = h2
    go (suc (suc (suc zero))) = h3
    go (suc (suc (suc (suc zero)))) = h4
    go (suc (suc (suc (suc (suc zero))))) = h5
    go (suc (suc (suc (suc (suc (suc zero)))))) = h6
    go (suc (suc (suc (suc (suc (suc (suc zero))))))) = h7
    go (suc (suc (suc (suc (suc (suc (suc (suc n)))))))) = refl

-- f(x9, x9) at the end: the first variable gets a term of size 511, and no limit is passed
pub doubling-511 : IsUnifierWith None (doubling (doubled (variable 8))) lefts (rights (doubled (variable 8)))
doubling-511 = record { most_general = record { unifies = refl; most_general = doubling-general (doubled (variable 8)) }; passes = refl }

pub doubling-size : tree_size (doubling (doubled (variable 8)) 0) ≡ 511
doubling-size = refl

-- f(s(x9), s(x9)) at the end: the size is passed
pub doubling-large : (let s : Tree = apply_to 2 (variable 8 ∷ []) in IsUnifierWith (Some Size) (doubling (doubled s)) lefts (rights (doubled s)))
doubling-large = record { most_general = record { unifies = refl; most_general = doubling-general (doubled (apply_to 2 (variable 8 ∷ []))) }; passes = refl }
