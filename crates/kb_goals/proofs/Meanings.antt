-- What the decisions and normal forms by a good answer's rules mean for the equations of its problem.
use Rattle.std.proofs.Common.{subst, List, [], ◌∷◌, All}
use Rattle.std.specs.List.{AllZip, zip}
use Rattle.std.proofs.lemmas.List.Elements.{All-contains, All-head, All-tail, All-nil, All-cons}
use Rattle.kb_term.specs.Signature.{IsWellFormed, IsEquationWithinLimits}
use Rattle.kb_term.specs.Proving.{Proves}
use Rattle.kb_term.specs.Tree.{Tree}
use Rattle.kb_term.specs.View.{tree_of}
use Rattle.kb_laws.proofs.Conversion.{equal_sym, equal_trans}
use Rattle.kb_laws.proofs.CompletionLaws.{Members, proves_from, proves_to}
use Rattle.kb_checker.specs.Answers.{Answer, IsGoodAnswer, rules_of}
use Rattle.kb_decide.specs.Deciding.{IsDecidable, IsDecision}
use Rattle.kb_decide.specs.declared.decision.Decision.{Decision}
use Rattle.kb_decide.specs.declared.decision.Decision.TheVariants.{Yes, No}
use Rattle.kb_decide.specs.declared.decision.Decision.TheVariants as decisions
use Rattle.kb_decide.proofs.Means.{yes_replays, replays_proves, no_is_right, form_normal, form_proved, one_form}
use Rattle.kb_goals.specs.Answering.{AreDecided, IsRight, AreRight}
use Rattle.kb_goals.specs.Simplifying.{IsNumberedTerm, IsSimplified, AreSimplified, IsRightForm, AreRightForms, HaveOneForm}
use Rattle.kb_goals.specs.declared.simplifying.Simplified.{Simplified}
use Rattle.kb_goals.specs.declared.simplifying.Simplified.TheVariants.{Normal, Unknown}

-- ---- lists, place by place

zip_weaker : {X Y : Type 0} (P : X → Type 0) (R S : X → Y → Type 0) → ((x : X) (y : Y) → P x → R x y → S x y) → (xs : List X) (ys : List Y) → All P xs → AllZip R xs ys → AllZip S xs ys
zip_weaker P R S f [] [] all h = tt
zip_weaker P R S f [] (y ∷ ys) all h = absurd h
zip_weaker P R S f (x ∷ xs) [] all h = absurd h
zip_weaker P R S f (x ∷ xs) (y ∷ ys) all h = (f x y (All-head P x xs all) h.0, zip_weaker P R S f xs ys (All-tail P x xs all) h.1)

all_zipped : {X Y : Type 0} (S : X → Y → Type 0) (xs : List X) (ys : List Y) → AllZip S xs ys → All (λ (z : X × Y). S z.0 z.1) (zip xs ys)
all_zipped {X} {Y} S [] [] h = All-nil (λ (z : X × Y). S z.0 z.1)
all_zipped S [] (y ∷ ys) h = absurd h
all_zipped S (x ∷ xs) [] h = absurd h
all_zipped {X} {Y} S (x ∷ xs) (y ∷ ys) h = All-cons (λ (z : X × Y). S z.0 z.1) (x, y) (zip xs ys) h.0 (all_zipped S xs ys h.1)

-- ---- a chain of equations

proves_sym_trans : (es : List (Tree × Tree)) (s t u : Tree) → Proves es s u → Proves es t u → Proves es s t
proves_sym_trans es s t u p q = proves_to es s t (equal_trans (Members es) s u t (proves_from es s u p) (equal_sym (Members es) t u (proves_from es t u q)))

module _ (a : Answer) (g : IsGoodAnswer a) where
  -- the rules decide terms over the signature
  decidable : (s t : Tree) → IsWellFormed a.problem.signature s → IsWellFormed a.problem.signature t → IsDecidable a.problem.signature (rules_of a.rules) s t
  decidable s t v w = record { over = g.system.over; confluent = g.system.confluent; left_over = v; right_over = w }

  -- ---- decisions

  decision_right : (goal : Tree × Tree) (d : Decision) → IsEquationWithinLimits a.problem.signature goal → IsDecision (rules_of a.rules) goal.0 goal.1 d → IsRight a.problem.equations goal d
  decision_right goal (Yes ls rs) e h = (g.system.proves_same goal.0 goal.1).1 (replays_proves (rules_of a.rules) goal.0 goal.1 (Yes ls rs) (yes_replays (rules_of a.rules) goal.0 goal.1 (Yes ls rs) h tt))
  decision_right goal (No s t) e h = λ p. no_is_right a.problem.signature (rules_of a.rules) goal.0 goal.1 s t (decidable goal.0 goal.1 e.left.well_formed e.right.well_formed) h ((g.system.proves_same goal.0 goal.1).0 p)
  decision_right goal (decisions.Unknown reason) e h = tt

  pub decisions_right : (goals : List (Tree × Tree)) (ds : List Decision) → All (IsEquationWithinLimits a.problem.signature) goals → AreDecided (rules_of a.rules) goals ds → AreRight a.problem.equations goals ds
  decisions_right goals ds over h = zip_weaker (IsEquationWithinLimits a.problem.signature) (λ goal d. IsDecision (rules_of a.rules) goal.0 goal.1 d) (IsRight a.problem.equations) decision_right goals ds over h

  -- ---- normal forms

  form_right : (t : Tree) (z : Simplified) → IsNumberedTerm a.problem.signature t → IsSimplified (rules_of a.rules) t z → IsRightForm a.problem.equations (rules_of a.rules) t z
  form_right t (Normal n u) f h = (form_normal (rules_of a.rules) t (tree_of u) n h, (g.system.proves_same t (tree_of u)).1 (form_proved (rules_of a.rules) t (tree_of u) n h))
  form_right t (Unknown reason) f h = tt

  pub forms_right : (terms : List Tree) (zs : List Simplified) → All (IsNumberedTerm a.problem.signature) terms → AreSimplified (rules_of a.rules) terms zs → AreRightForms a.problem.equations (rules_of a.rules) terms zs
  forms_right terms zs over h = zip_weaker (IsNumberedTerm a.problem.signature) (IsSimplified (rules_of a.rules)) (IsRightForm a.problem.equations (rules_of a.rules)) form_right terms zs over h

  -- the term is over the signature, and this is what it is simplified to
  abbrev IsOne : Tree → Simplified → Type 0
  IsOne t z = IsNumberedTerm a.problem.signature t × IsSimplified (rules_of a.rules) t z

  pub forms_one : (terms : List Tree) (zs : List Simplified) → All (IsNumberedTerm a.problem.signature) terms → AreSimplified (rules_of a.rules) terms zs → HaveOneForm a.problem.equations terms zs
  forms_one terms zs over h s t m n u v i j =
      let rules = rules_of a.rules in
      let equations = a.problem.equations in
      let each = all_zipped IsOne terms zs (zip_weaker (IsNumberedTerm a.problem.signature) (IsSimplified rules) IsOne (λ x y p r. (p, r)) terms zs over h) in
      let one : IsOne s (Normal m u) = All-contains (λ (z : Tree × Simplified). IsOne z.0 z.1) (zip terms zs) (s, Normal m u) each i in
      let other : IsOne t (Normal n v) = All-contains (λ (z : Tree × Simplified). IsOne z.0 z.1) (zip terms zs) (t, Normal n v) each j in
      let left = form_right s (Normal m u) one.0 one.1 in
      let right = form_right t (Normal n v) other.0 other.1 in (
        (λ p. one_form a.problem.signature rules s t (tree_of u) (tree_of v) m n (decidable s t one.0.left.well_formed other.0.left.well_formed) one.1 other.1 ((g.system.proves_same s t).0 p)),
        (λ e. proves_sym_trans equations s t (tree_of v) (subst (Proves equations s) e left.1) right.1),
      )
