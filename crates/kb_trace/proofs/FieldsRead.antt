-- What is read of fields says what the bytes are.
use Rattle.std.proofs.Common.{◌≡◌, refl, ap, ap₂, sym, ◌∙◌, subst, arith, ℕ, ◌+◌, ◌-◌, ◌<◌, ◌≤◌, ◌==◌, List, [], ◌∷◌, Bool, true, length, get_or, Option, Some, None, Result, Ok, Err}
use Rattle.std.specs.Prelude.{codes, decimal, map, IfOk, MatchOption, count_by}
use Rattle.std.specs.List.{join_with_byte, slice_split}
use Rattle.std.proofs.lemmas.List.Splits.{join_with_byte-slice_split, length-slice_split}
use Rattle.kb_term.specs.Pair.{Pair, IsWithin, ArePairWithin, canonical_pair}
use Rattle.kb_term.specs.Signature.{Signature, IsSignature, IsTermWithinLimits}
use Rattle.kb_term.specs.Tree.{Tree}
use Rattle.kb_overlap.specs.Trace.{TraceStep}
use Rattle.kb_text.specs.Terms.{TermSpelled, names_of, term_text, IsPairForm}
use Rattle.kb_text.proofs.TermParts.{one_spelled}
use Rattle.kb_trace.specs.TraceText.{position_text, is_position, step_fields}
use Rattle.kb_trace.specs.Reading.{IsPositionText, IsOwnPair, IsPairIn, IsStepIn, IsStepText}
use Rattle.kb_trace.proofs.OneStep.{again, position_parts}
use Rattle.kb_trace.proofs.StepForms.{placed, first_spelled, second_spelled}
use Rattle.kb_trace.proofs.TraceLines.{body_fields}

-- what is read, said in other words
pub said : {A E : Type 0} (P Q : Type 0) (F G : A → Type 0) (r : Result (Option A) E) → (P → Q) → ((a : A) → F a → G a) → IfOk r (λ o. MatchOption o P F) → IfOk r (λ o. MatchOption o Q G)
said P Q F G (Err e) p f h = tt
said P Q F G (Ok None) p f h = p h
said P Q F G (Ok (Some a)) p f h = f a h

-- ---- positions

abbrev IsNumbered : List (List ℕ) → List ℕ → Type 0
IsNumbered numbers p = (is_position p ≡ true) × (map decimal p ≡ numbers)

pub position_read : {E : Type 0} (field : List ℕ) (numbers : List (List ℕ)) (r : Result (Option (List ℕ)) E) → numbers ≡ slice_split (λ b. b == 46) field → ¬ (field ≡ codes "e")
    → IfOk r (λ o. MatchOption o ((p : List ℕ) → is_position p ≡ true → ¬ (map decimal p ≡ numbers)) (λ p. (is_position p ≡ true) × (map decimal p ≡ numbers))) → IfOk r (λ o. MatchOption o ((p : List ℕ) → ¬ IsPositionText field p) (IsPositionText field))
position_read field numbers r e refused h = said ((p : List ℕ) → is_position p ≡ true → ¬ (map decimal p ≡ numbers)) ((p : List ℕ) → ¬ IsPositionText field p) (IsNumbered numbers) (IsPositionText field) r none some h
  where
    none : ((p : List ℕ) → is_position p ≡ true → ¬ (map decimal p ≡ numbers)) → (p : List ℕ) → ¬ IsPositionText field p
    none h [] t = refused (sym t.spelling)
    none h (n ∷ ns) t = h (n ∷ ns) t.form (sym (position_parts n ns (placed (n ∷ ns) t.form).each) ∙ ap (slice_split (λ b. b == 46)) t.spelling ∙ sym e)

    some : (p : List ℕ) → IsNumbered numbers p → IsPositionText field p
    some [] k = absurd (let long = ap length (k.1 ∙ e) in omega (arith, length-slice_split (λ b. b == 46) field))
    some (n ∷ ns) k = record { form = k.0; spelling = ap (join_with_byte 46) (k.1 ∙ e) ∙ join_with_byte-slice_split 46 field }

-- ---- pairs

-- the last four fields say the two terms
pub record AreSides (signature : Signature) (fields : List (List ℕ)) (at : ℕ) (s t : Tree) : Type 0 where
  pub colon : get_or fields at [] ≡ codes ":"
  pub first : TermSpelled signature (get_or fields (at + 1) []) s
  pub sign : get_or fields (at + 2) [] ≡ codes "="
  pub second : TermSpelled signature (get_or fields (at + 3) []) t

pub no_side : (signature : Signature) (bytes : List ℕ) (t : Tree) → bytes ≡ term_text (names_of signature) t → TermSpelled signature (term_text (names_of signature) t) t → ((u : Tree) → ¬ TermSpelled signature bytes u) → ⊥
no_side signature bytes t e h refused = refused t (again signature bytes t e h)

pub pair_read : {E : Type 0} (signature : Signature) → IsSignature signature → (fields : List (List ℕ)) (at n : ℕ) (s t : Tree) (r : Result (Option Pair) E) → n ≡ at → AreSides signature fields at s t
    → IfOk r (λ o. MatchOption o ((p : Pair) → ¬ IsOwnPair s t p) (IsOwnPair s t)) → IfOk r (λ o. MatchOption o ((p : Pair) → ¬ IsPairIn signature fields n p) (IsPairIn signature fields n))
pair_read signature i fields at n s t r e sides h = said ((p : Pair) → ¬ IsOwnPair s t p) ((p : Pair) → ¬ IsPairIn signature fields n p) (IsOwnPair s t) (IsPairIn signature fields n) r none some h
  where
    none : ((p : Pair) → ¬ IsOwnPair s t p) → (p : Pair) → ¬ IsPairIn signature fields n p
    none h p q =
        let there = subst (λ (k : ℕ). IsPairIn signature fields k p) e q in
        let firsts : s ≡ p.first = one_spelled signature (get_or fields (at + 1) []) s p.first i sides.first (again signature (get_or fields (at + 1) []) p.first there.first (first_spelled signature p q.form)) in
        let seconds : t ≡ p.second = one_spelled signature (get_or fields (at + 3) []) t p.second i sides.second (again signature (get_or fields (at + 3) []) p.second there.second (second_spelled signature p q.form)) in
        let firsts_back = sym firsts in
        let seconds_back = sym seconds in
        h p (record {
          sides = λ j. record { first = firsts_back j; second = seconds_back j };
          within = subst (λ (v : Tree). ArePairWithin v t) (sym firsts) (subst (λ (v : Tree). ArePairWithin p.first v) (sym seconds) (record {
            first = record { size = q.form.first.size; depth = q.form.first.depth };
            second = record { size = q.form.second.size; depth = q.form.second.depth };
            few = q.form.variables;
          }));
          canonical = ap₂ canonical_pair firsts seconds ∙ q.form.canonical;
        })

    some : (p : Pair) → IsOwnPair s t p → IsPairIn signature fields n p
    some p o =
        let firsts : s ≡ p.first = ap (λ (v : Pair). v.first) (sym o.sides) in
        let seconds : t ≡ p.second = ap (λ (v : Pair). v.second) (sym o.sides) in
        subst (λ (k : ℕ). IsPairIn signature fields k p) (sym e) (record {
          form = record {
            first = subst (IsTermWithinLimits signature) firsts sides.first.within;
            second = subst (IsTermWithinLimits signature) seconds sides.second.within;
            variables = (subst (λ (v : Tree). ArePairWithin v p.second) firsts (subst (λ (v : Tree). ArePairWithin s v) seconds o.within)).few;
            canonical = sym (ap₂ canonical_pair firsts seconds) ∙ o.canonical;
          };
          colon = sides.colon;
          first = sides.first.spelling ∙ ap (term_text (names_of signature)) firsts;
          sign = sides.sign;
          second = sides.second.spelling ∙ ap (term_text (names_of signature)) seconds;
        })

-- ---- steps

pub step_read : {E : Type 0} (signature : Signature) → IsSignature signature → (number : ℕ) → number ≤ 100000 → (line : List ℕ) (fields : List (List ℕ)) (r : Result (Option TraceStep) E) → fields ≡ slice_split (λ b. b == 32) line
    → IfOk r (λ o. MatchOption o ((s : TraceStep) → ¬ IsStepIn signature number fields s) (IsStepIn signature number fields)) → IfOk r (λ o. MatchOption o ((s : TraceStep) → ¬ IsStepText signature number line s) (IsStepText signature number line))
step_read signature i number l line fields r e h = said ((s : TraceStep) → ¬ IsStepIn signature number fields s) ((s : TraceStep) → ¬ IsStepText signature number line s) (IsStepIn signature number fields) (IsStepText signature number line) r none some h
  where
    none : ((s : TraceStep) → ¬ IsStepIn signature number fields s) → (s : TraceStep) → ¬ IsStepText signature number line s
    none h s t = h s (record { form = t.form; spelling = e ∙ ap (slice_split (λ b. b == 32)) t.spelling ∙ body_fields signature i number l s t.form })

    some : (s : TraceStep) → IsStepIn signature number fields s → IsStepText signature number line s
    some s k = record { form = k.form; spelling = sym (join_with_byte-slice_split 32 line) ∙ ap (join_with_byte 32) (sym e ∙ k.spelling) }
