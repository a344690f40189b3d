-- Overlaps on small rules.
use Rattle.std.specs.Prelude.{ℕ, zero, suc, ◌+◌, ◌-◌, [], ◌∷◌, ◌≡◌, Contains, Ok, true}
use Rattle.std.proofs.Common.{refl, arith, inr}
use Rattle.kb_term.specs.Tree.{Tree, variable}
use Rattle.kb_term.specs.Substitution.{instance}
use Rattle.kb_term.specs.Rule.{Rule, apart}
use Rattle.kb_unify.specs.Unifier.{IsUnifier, IsInstanceOfSubstitution}
use Rattle.kb_overlap.specs.Overlap.{IsOverlapList, IsRenamedApart}
use Rattle.kb_term.proofs.PairRows.{one, none}
use Rattle.kb_term.proofs.Trees.{each-more, each-none, apply-inj, more_trees-inj}

-- f(f(x)) -> a
abbrev pub ff-a : Rule
ff-a = record { left = one 0 (one 0 (variable 0)); right = none 1 }

-- the most general unifier of f(x1) and f(f(x65)): x1 becomes f(x65)
abbrev pub m : ℕ → Tree
m zero = one 0 (variable 64)
m (suc n) = variable (suc n)

-- any unifier k follows from it
pub m-most-general : (k : ℕ → Tree) → IsUnifier k (one 0 (variable 0)) (one 0 (one 0 (variable 64))) → IsInstanceOfSubstitution k m
m-most-general k e = (k, go)
  where
    go : (n : ℕ) → k n ≡ instance k (m n)
    go zero = (more_trees-inj ((apply-inj e).1)).0
    go (suc n) = refl

-- no variable of the rule is one of the rule renamed apart
pub ff-apart : IsRenamedApart ff-a ff-a (apart ff-a)
ff-apart =
    record {
      variant = ((λ n. n + 64), (λ n. n - 64), record { there = refl; back_again = refl }, record { there = refl; back_again = refl });
      apart = each-more (λ n. ¬ Contains (64 ∷ []) n) 0 [] not-64 (each-none _);
    }
  where
    not-64 : ¬ Contains {X = ℕ} (64 ∷ []) 0
    not-64 c = each-more (λ n. n ≡ 0 → ⊥) 64 [] (λ e. absurd (omega (arith, e))) (each-none _) 0 c refl

-- one overlap with itself, at position 1, with the sides a and f(a)
pub ff-overlaps : IsOverlapList ff-a ff-a true (record { position = 1 ∷ []; sides = Ok (none 1, one 0 (none 1)) } ∷ [])
ff-overlaps =
    inr (
      record { position = 1 ∷ []; sides = Ok (none 1, one 0 (none 1)) },
      [],
      refl,
      refl,
      record {
        renamed = apart ff-a;
        m = m;
        s = none 1;
        t = one 0 (none 1);
        renamed_apart = ff-apart;
        overlaps =
            record {
              subterm = one 0 (variable 0);
              there = refl;
              no_variable = (1, omega arith, refl);
              unifier = record { unifies = refl; most_general = m-most-general };
            };
        pair = record { by_outer = refl; by_inner = refl };
        sides = refl;
      },
      refl,
    )
