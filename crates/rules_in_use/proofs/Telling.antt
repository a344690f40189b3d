-- The list that tells under which keys the index holds anything.
use Rattle.std.proofs.Common.{ℕ, zero, suc, ◌<◌, ◌≡◌, ◌≢◌, ◌↔◌, refl, sym, ap, ◌∙◌, subst, List, [], ◌∷◌, Bool, true, false, IsTrue, get_or, length, slice_set, inl, inr, ⊎_elim, arith, true≢false}
use mathlib.Core.Bool.{beq}
use Rattle.kb_term.specs.Tree.{Tree}
use Rattle.mkb_model.proofs.commits.Roles.{numbers_decide}
use Rattle.rule_index.specs.declared.index.RuleIndex.{RuleIndex}
use Rattle.rule_index.specs.Index.{IsThere, IsWith}
use Rattle.rule_index.specs.Marks.{marks_of}
use Rattle.rules_in_use.specs.InUse.{TellsKeys}

-- of two answers that differ the first is no
pub differs : (x y : Bool) → beq x y ≡ false → x ≡ false → y ≡ true
differs false false e f = absurd (true≢false e)
differs false true e f = refl
differs true y e f = absurd (true≢false f)

pub told_inside : (told : List Bool) (key : ℕ) → get_or told key false ≡ true → key < length told
told_inside [] key e = absurd (true≢false (sym e))
told_inside (x ∷ xs) zero e = omega arith
told_inside (x ∷ xs) (suc k) e = let h = told_inside xs k e in omega (arith, h)

told_at : (told : List Bool) (key : ℕ) (x : Bool) → key < length told → get_or (slice_set told key x) key false ≡ x
told_at [] key x h = absurd (omega (arith, h))
told_at (y ∷ ys) zero x h = refl
told_at (y ∷ ys) (suc k) x h = told_at ys k x (omega (arith, h))

told_other : (told : List Bool) (key k : ℕ) (x : Bool) → k ≢ key → get_or (slice_set told key x) k false ≡ get_or told k false
told_other [] key k x h = refl
told_other (y ∷ ys) zero zero x h = absurd (h refl)
told_other (y ∷ ys) zero (suc k) x h = refl
told_other (y ∷ ys) (suc key) zero x h = refl
told_other (y ∷ ys) (suc key) (suc k) x h = told_other ys key k x (λ e. h (ap suc e))

-- the list grows by what tells of nothing
pub tells_still : (old new : RuleIndex) (told grown : List Bool) → TellsKeys old told → new ≡ old → ((k : ℕ) → get_or grown k false ≡ get_or told k false) → TellsKeys new grown
tells_still old new told grown h e same key = subst {A = RuleIndex} (λ z. IsThere z key ↔ IsTrue (get_or grown key false)) (sym e) (λ i. same key ∙ (h key).0 i, λ t. (h key).1 (sym (same key) ∙ t))

pub tells_new : (old new : RuleIndex) (told : List Bool) (key : ℕ) (left : Tree) → TellsKeys old told → key < length told → IsWith key left old new → TellsKeys new (slice_set told key true)
tells_new old new told key left h inside w k = ⊎_elim own other (numbers_decide k key)
  where
    own : k ≡ key → IsThere new k ↔ IsTrue (get_or (slice_set told key true) k false)
    own e = (λ i. ap (λ j. get_or (slice_set told key true) j false) e ∙ told_at told key true inside, λ t. (marks_of left, (w k (marks_of left)).1 (inl (e, refl))))

    other : k ≢ key → IsThere new k ↔ IsTrue (get_or (slice_set told key true) k false)
    other ne = (
      λ i. told_other told key k true ne ∙ (h k).0 (i.0, ⊎_elim (λ e. absurd (ne e.0)) (λ j. j) ((w k i.0).0 i.1)),
      λ t. let i = (h k).1 (sym (told_other told key k true ne) ∙ t) in (i.0, (w k i.0).1 (inr i.1)),
    )
