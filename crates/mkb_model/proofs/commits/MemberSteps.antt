-- Steps of completion from what a list loses member by member: sameness can be decided, so a list without a member can be made.
use Rattle.std.proofs.Common.{ℕ, ◌≡◌, ◌⊎◌, ◌↔◌, inl, inr, refl, sym, ap, ap₂, ◌∙◌, subst, arith, List, [], ◌∷◌, Contains, ⊎_elim}
use Rattle.kb_lemmas.proofs.Membership.{contains_cases, contains_behind, contains_first}
use Rattle.kb_term.specs.Tree.{Tree}
use Rattle.kb_term.specs.Substitution.{IsVariant}
use Rattle.kb_term.specs.Rule.{Rule, rule_between, IsVariantRule}
use Rattle.kb_term.specs.Signature.{Signature}
use Rattle.kb_term.specs.Pair.{Pair, numbered, canonical, IsSameEquation}
use Rattle.kb_term.specs.Proving.{Step, RewritesAt}
use Rattle.kb_cert.specs.Family.{IsOrderable}
use Rattle.kb_laws.specs.Completion.{KbState, KbStep, Has, Keeps, Gains, GainsEquation, KeepsEquations, KeepsRules, KeepsConstraints, GainsRule, GainsConstraint}
use Rattle.kb_laws.specs.Completion as Completion
use Rattle.kb_term.proofs.Instances.{trees_decide}
use Rattle.kb_term.proofs.Variants.{numbered_from_variants, variants_from_numbered}
use Rattle.kb_term.proofs.CanonicalPairs.{canonical_from_same, same_from_canonical}

-- the old list has x, and the new one has all its members but x
abbrev pub Loses : {X : Type 0} → (X → X → Type 0) → List X → List X → X → Type 0
Loses {X} Same old new x = Has Same old x × ((y : X) → (Has Same old y × ¬ Same x y) ↔ Has Same new y)

-- the old list has x, and the new one has all its members but x, and z
abbrev pub Replaces : {X : Type 0} → (X → X → Type 0) → List X → List X → X → X → Type 0
Replaces {X} Same old new x z = Has Same old x × ((y : X) → (Has Same old y × ¬ Same x y ⊎ Same z y) ↔ Has Same new y)

-- sameness that a code tells
module _ {X : Type 0} (Same : X → X → Type 0) (code : X → Pair) (to : (x y : X) → Same x y → code x ≡ code y) (from : (x y : X) → code x ≡ code y → Same x y) where
  same_trans : (x y z : X) → Same x y → Same y z → Same x z
  same_trans x y z h k = from x z (to x y h ∙ to y z k)

  same_decides : (x y : X) → Same x y ⊎ (Same x y → ⊥)
  same_decides x y = both (trees_decide (code x).first (code y).first) (trees_decide (code x).second (code y).second)
    where
      both : ((code x).first ≡ (code y).first) ⊎ ((code x).first ≡ (code y).first → ⊥) → ((code x).second ≡ (code y).second) ⊎ ((code x).second ≡ (code y).second → ⊥) → Same x y ⊎ (Same x y → ⊥)
      both (inl p) (inl q) = inl (from x y (ap₂ (λ (a b : Tree). record { first = a; second = b }) p q))
      both (inl p) (inr n) = inr (λ h. n (ap (λ e. e.second) (to x y h)))
      both (inr n) q = inr (λ h. n (ap (λ e. e.first) (to x y h)))

  loses_from : (old new : List X) (x : X) → Loses Same old new x → Completion.Loses Same old new x
  loses_from old new x (has, rest) = ((λ y. (⊎_elim (λ h. ((rest y).1 h).0) (λ s. (has.0, has.1, same_trans has.0 x y has.2 s)), λ h. ⊎_elim (λ s. inr s) (λ n. inl ((rest y).0 (h, n))) (same_decides x y))), λ h. ((rest x).1 h).1 (from x x refl))

  same_sym : (x y : X) → Same x y → Same y x
  same_sym x y h = from y x (sym (to x y h))

  abbrev kept_if : {P : Type 0} → P ⊎ (P → ⊥) → X → List X → List X
  kept_if (inl h) y ys = ys
  kept_if (inr n) y ys = y ∷ ys

  -- the members that are not x
  abbrev without : X → List X → List X
  without x [] = []
  without x (y ∷ ys) = kept_if (same_decides x y) y (without x ys)

  kept_in : {P : Type 0} (d : P ⊎ (P → ⊥)) (y w : X) (ys : List X) → Contains (kept_if d y ys) w → ((y ≡ w) × (P → ⊥)) ⊎ Contains ys w
  kept_in (inl h) y w ys c = inr c
  kept_in (inr n) y w ys c = ⊎_elim (λ e. inl (e, n)) (λ k. inr k) (contains_cases y ys w c)

  in_kept : {P : Type 0} (d : P ⊎ (P → ⊥)) (y w : X) (ys : List X) → ((y ≡ w) × (P → ⊥)) ⊎ Contains ys w → Contains (kept_if d y ys) w
  in_kept (inl h) y w ys (inl q) = absurd (q.1 h)
  in_kept (inl h) y w ys (inr c) = c
  in_kept (inr n) y w ys (inl q) = subst (Contains (y ∷ ys)) q.0 (contains_first y ys)
  in_kept (inr n) y w ys (inr c) = contains_behind y ys w c

  in_without : (x : X) (ys : List X) (w : X) → Contains (without x ys) w → Contains ys w × (Same x w → ⊥)
  in_without x [] w c = absurd (omega arith)
  in_without x (y ∷ ys) w c = ⊎_elim (λ q. (subst (Contains (y ∷ ys)) q.0 (contains_first y ys), λ h. q.1 (subst (Same x) (sym q.0) h))) (λ k. let r = in_without x ys w k in (contains_behind y ys w r.0, r.1)) (kept_in (same_decides x y) y w (without x ys) c)

  without_in : (x : X) (ys : List X) (w : X) → Contains ys w → (Same x w → ⊥) → Contains (without x ys) w
  without_in x [] w c n = absurd (omega arith)
  without_in x (y ∷ ys) w c n = in_kept (same_decides x y) y w (without x ys) (⊎_elim (λ e. inl (e, λ h. n (subst (Same x) e h))) (λ k. inr (without_in x ys w k n)) (contains_cases y ys w c))

  has_without : (x : X) (old : List X) (y : X) → Has Same old y → (Same x y → ⊥) → Has Same (without x old) y
  has_without x old y (w, i, s) n = (w, without_in x old w i (λ h. n (same_trans x w y h s)), s)

  without_has : (x : X) (old : List X) (y : X) → Has Same (without x old) y → Has Same old y × (Same x y → ⊥)
  without_has x old y (w, i, s) = let r = in_without x old w i in ((w, r.0, s), λ h. r.1 (same_trans x y w h (same_sym w y s)))

  replaces_from : (old new : List X) (x z : X) → Replaces Same old new x z → Completion.Replaces Same old new x z
  replaces_from old new x z (has, r) = (
    without x old,
    (
      (λ y. (⊎_elim (λ h. (without_has x old y h).0) (λ s. (has.0, has.1, same_trans has.0 x y has.2 s)), λ h. ⊎_elim (λ s. inr s) (λ n. inl (has_without x old y h n)) (same_decides x y))),
      λ h. (without_has x old x h).1 (from x x refl),
    ),
    λ y. ((λ q. (r y).0 (⊎_elim (λ h. inl (without_has x old y h)) (λ s. inr s) q)), λ h. ⊎_elim (λ q. inl (has_without x old y q.0 q.1)) (λ s. inr s) ((r y).1 h)),
  )

abbrev equation_code : Tree × Tree → Pair
equation_code d = canonical d.0 d.1

abbrev rule_code : Rule → Pair
rule_code r = numbered r.left r.right

to_equation : (d e : Tree × Tree) → IsSameEquation d e → equation_code d ≡ equation_code e
to_equation d e h = canonical_from_same d.0 d.1 e.0 e.1 h

from_equation : (d e : Tree × Tree) → equation_code d ≡ equation_code e → IsSameEquation d e
from_equation d e h = same_from_canonical d.0 d.1 e.0 e.1 h

to_rule : (q r : Rule) → IsVariantRule q r → rule_code q ≡ rule_code r
to_rule q r h = numbered_from_variants q.left q.right r.left r.right h

from_rule : (q r : Rule) → rule_code q ≡ rule_code r → IsVariantRule q r
from_rule q r h = variants_from_numbered q.left q.right r.left r.right h

pub loses_equation : (ds es : List (Tree × Tree)) (x : Tree × Tree) → Loses IsSameEquation ds es x → Completion.Loses IsSameEquation ds es x
loses_equation ds es x h = loses_from IsSameEquation equation_code to_equation from_equation ds es x h

pub loses_rule : (qs rs : List Rule) (x : Rule) → Loses IsVariantRule qs rs x → Completion.Loses IsVariantRule qs rs x
loses_rule qs rs x h = loses_from IsVariantRule rule_code to_rule from_rule qs rs x h

-- the steps of completion, with what is lost said member by member
module _ {signature : Signature} {a b : KbState} where
  pub orient : (s t : Tree) → IsOrderable signature (rule_between s t ∷ a.constraints)
      → Loses IsSameEquation a.equations b.equations (s, t) → GainsRule a b s t → GainsConstraint a b s t → KbStep signature a b
  orient s t o l gr gc = Completion.orient s t o (loses_equation a.equations b.equations (s, t) l) gr gc

  pub delete : (s : Tree) → Loses IsSameEquation a.equations b.equations (s, s) → KeepsRules a b → KeepsConstraints a b → KbStep signature a b
  delete s l kr kc = Completion.delete s (loses_equation a.equations b.equations (s, s) l) kr kc

  pub simplify : (s t u : Tree) → Step a.rules s u
      → Replaces IsSameEquation a.equations b.equations (s, t) (u, t) → KeepsRules a b → KeepsConstraints a b → KbStep signature a b
  simplify s t u h l kr kc = Completion.simplify s t u h (replaces_from IsSameEquation equation_code to_equation from_equation a.equations b.equations (s, t) (u, t) l) kr kc

  pub compose : (s t u : Tree) (rule : Rule) (p : List ℕ) → Contains a.rules rule → ¬ IsVariantRule rule (rule_between s t) → RewritesAt rule p t u
      → KeepsEquations a b → Replaces IsVariantRule a.rules b.rules (rule_between s t) (rule_between s u) → KeepsConstraints a b → KbStep signature a b
  compose s t u q p i n h ke l kc = Completion.compose s t u q p i n h ke (replaces_from IsVariantRule rule_code to_rule from_rule a.rules b.rules (rule_between s t) (rule_between s u) l) kc

  pub collapse : (s t u : Tree) (rule : Rule) (p : List ℕ) → Contains a.rules rule → ¬ IsVariant s rule.left → RewritesAt rule p s u
      → GainsEquation a b u t → Loses IsVariantRule a.rules b.rules (rule_between s t) → KeepsConstraints a b → KbStep signature a b
  collapse s t u q p i n h ge l kc = Completion.collapse s t u q p i n h ge (loses_rule a.rules b.rules (rule_between s t) l) kc
