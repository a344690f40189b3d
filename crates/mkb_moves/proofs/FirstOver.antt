-- The reason that a verdict names is that of the first process by name that gave up.
use Rattle.std.proofs.Common.{◌≡◌, refl, sym, ap, ◌∙◌, subst, List, [], ◌∷◌, Bool, true, false, cond, ◌||◌, ◌==◌, Option, Some, None, Less, Equal, ⊎_elim}
use Rattle.std.specs.Prelude.{option_map, option_and_then}
use Rattle.std.specs.List.{find, list_all}
use Rattle.std.proofs.lemmas.Bool.{or_cases}
use Rattle.kb_lemmas.proofs.Options.{some_is, none_some}
use Rattle.kb_term.specs.Signature.{Problem}
use Rattle.kb_label.specs.Names.{Name, has, name_eq, IsInNameOrder}
use Rattle.kb_label.specs.NameOrder.{name_cmp-total, name_cmp-same}
use Rattle.kb_label.specs.declared.verdict.Reason.{Reason}
use Rattle.kb_label.specs.declared.verdict.Spent.TheVariants.{Commits, Over}
use Rattle.kb_label.specs.declared.verdict.Verdict.TheVariants.{Complete, AllFailed, Spent as IsSpent}
use Rattle.kb_label.proofs.Members.{name_eq-eq}
use Rattle.kb_label.proofs.Ordered.{rest, skip}
use Rattle.mkb_model.specs.Plain.{Plain, is_over, over_reason}
use Rattle.mkb_model.specs.Effects.{first_some, some_if}
use Rattle.mkb_model.specs.Verdicts.{verdict, is_complete, first_over}
use Rattle.mkb_model.specs.Sleeping.{is_failed}
use Rattle.mkb_model.specs.Journals.{Moment, IsPossibleRun}
use Rattle.mkb_model.specs.declared.settings.Settings.{Settings}
use Rattle.mkb_model.proofs.Lists.{clash, find_in}
use Rattle.mkb_model.proofs.runs.Endings.{has_in}
use Rattle.mkb_model.proofs.labels.LivingLabels.{labelled_run}
use Rattle.mkb_moves.specs.Order.{IsNameBefore, IsFirstOver}

-- the last part of a verdict gives its reason
last_part : (a : Option Name) (f s o : Bool) (q : Option Reason) (r : Reason) → first_some (option_map Complete a ∷ some_if f AllFailed ∷ some_if s (IsSpent Commits) ∷ cond o (option_map (λ k. IsSpent (Over k)) q) None ∷ []) ≡ Some (IsSpent (Over r)) → q ≡ Some r
last_part (Some p) f s o q r h = absurd (cc)
last_part None true s o q r h = absurd (cc)
last_part None false true o q r h = absurd (cc)
last_part None false false true (Some k) r h = let e : k ≡ r = cc in ap Some e
last_part None false false true None r h = none_some h
last_part None false false false q r h = none_some h

-- names are not before one another both ways
one_way : (p q : Name) {P : Type 0} → IsNameBefore p q → IsNameBefore q p → P
one_way p q h k = let e : Less ≡ Equal = sym (name_cmp-total.trans p q p h k) ∙ name_cmp-same p in absurd (cc)

-- the first name of an ordered list comes before the others
before_rest : (p q : Name) (l : List Name) → IsInNameOrder (p ∷ l) → has l q ≡ true → IsNameBefore p q
before_rest p q [] o h = clash h refl
before_rest p q (r ∷ l) o h = ⊎_elim (λ e. subst {A = Name} (IsNameBefore p) (sym (name_eq-eq q r e)) o.0) (λ k. before_rest p q l (skip p r l o) k) (or_cases (name_eq q r) (has l q) h)

-- before the first found name of an ordered list nothing is found
none_before : (f : Name → Bool) (l : List Name) (p q : Name) → IsInNameOrder l → find f l ≡ Some p → has l q ≡ true → IsNameBefore q p → f q ≡ false
none_before f [] p q o e h before = none_some e
none_before f (x ∷ l) p q o e h before = go (f x) refl e (λ k i. none_before f l p q (rest x l o) k i before)
  where
    go : (y : Bool) → f x ≡ y → cond y (Some x) (find f l) ≡ Some p → (find f l ≡ Some p → has l q ≡ true → f q ≡ false) → f q ≡ false
    go true d k ih =
        let at : IsNameBefore q x = subst {A = Name} (IsNameBefore q) (sym (some_is k)) before in
        ⊎_elim (λ i. let s : IsNameBefore x x = subst {A = Name} (λ z. IsNameBefore z x) (name_eq-eq q x i) at in one_way x x s s) (λ i. one_way q x at (before_rest x q l o i)) (or_cases (name_eq q x) (has l q) h)
    go false d k ih = ⊎_elim (λ i. subst {A = Name} (λ z. f z ≡ false) (sym (name_eq-eq q x i)) d) (λ i. ih k i) (or_cases (name_eq q x) (has l q) h)

pub first_gave_up : (P : Problem) (n : Settings) (ms : List Moment) (b : Plain) (r : Reason) → IsPossibleRun P n ms b → verdict b ≡ Some (IsSpent (Over r)) → (p : Name) × IsFirstOver b p r
first_gave_up P n ms b r run h = go (first_over b) refl (last_part (find (is_complete b) b.living) (list_all (is_failed b) b.living) (b.commits == b.settings.budget) (list_all (λ p. is_failed b p || is_over b p) b.living) (option_and_then (over_reason b) (first_over b)) r h)
  where
    go : (o : Option Name) → first_over b ≡ o → option_and_then (over_reason b) o ≡ Some r → (p : Name) × IsFirstOver b p r
    go None e k = none_some k
    go (Some p) e k = (p, record { lives = has_in b.living p (find_in (is_over b) b.living p e).0; reason = k; first = λ q lives before. none_before (is_over b) b.living p q (labelled_run P n ms b run).alive e lives before })
