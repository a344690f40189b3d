-- Equations and rules, field by field.
use Rattle.std.proofs.Common.{◌≡◌, refl, ap, sym, ◌∙◌, subst, arith, ℕ, ◌≤◌, ◌==◌, List, [], ◌∷◌, ◌++◌, length, get_or, Result}
use Rattle.std.specs.Prelude.{Option, codes, decimal, IfOk, MatchOption}
use Rattle.std.specs.List.{join_with_byte, slice_split}
use Rattle.std.proofs.lemmas.List.Splits.{join_with_byte-slice_split}
use Rattle.std.proofs.lemmas.Fmt.{decimal_injective}
use Rattle.kb_trace.proofs.OneStep.{again}
use Rattle.kb_lemmas.proofs.Numbers.{eq_above}
use Rattle.kb_term.specs.Rule.{Rule}
use Rattle.kb_term.specs.Signature.{Signature, IsSignature, IsEquationWithinLimits}
use Rattle.kb_term.specs.Tree.{Tree, variable}
use Rattle.kb_term.specs.View.{tree_of}
use Rattle.kb_term.specs.declared.term.Term.{Term}
use Rattle.kb_text.specs.Fields.{IsWithout}
use Rattle.kb_text.specs.Terms.{TermSpelled, names_of, term_text, infix_text}
use Rattle.kb_text.proofs.Cuts.{AreWithout, are_without-append, fields_cut}
use Rattle.kb_text.proofs.PlainTexts.{IsBlank, space_blank, feed_blank, word_without, decimal_without, join_without}
use Rattle.kb_text.proofs.TermParts.{one_spelled}
use Rattle.kb_trace.proofs.FieldsRead.{said}
use Rattle.kb_trace.proofs.StepForms.{up_to, is_up_to-true}
use Rattle.kb_checker.specs.Answers.{IsRuleForm}
use Rattle.kb_report.specs.SystemSections.{rule_body, AreSidesIn, IsEquationLine, IsRuleLine}
use Rattle.kb_report.proofs.SystemLines.{field, sides_spelled, sides_without, one_sides, equation_cut}

-- ---- sides

pub no_left : (sig : Signature) (fields : List (List ℕ)) (sign bytes : List ℕ) → bytes ≡ get_or fields 0 [] → ((t : Tree) → ¬ TermSpelled sig bytes t) → (e : Tree × Tree) → ¬ AreSidesIn sig fields sign e
no_left sig fields sign bytes b h e i = h e.0 (again sig bytes e.0 (b ∙ i.left) (sides_spelled sig e.0 e.1 i.form).left)

pub no_right : (sig : Signature) (fields : List (List ℕ)) (sign bytes : List ℕ) → bytes ≡ get_or fields 2 [] → ((t : Tree) → ¬ TermSpelled sig bytes t) → (e : Tree × Tree) → ¬ AreSidesIn sig fields sign e
no_right sig fields sign bytes b h e i = h e.1 (again sig bytes e.1 (b ∙ i.right) (sides_spelled sig e.0 e.1 i.form).right)

pub not_numbered : (sig : Signature) → IsSignature sig → (fields : List (List ℕ)) (sign left right : List ℕ) (s t : Tree) → left ≡ get_or fields 0 [] → right ≡ get_or fields 2 [] → TermSpelled sig left s → TermSpelled sig right t → ¬ IsEquationWithinLimits sig (s, t) → (e : Tree × Tree) → ¬ AreSidesIn sig fields sign e
not_numbered sig i fields sign left right s t l r sl sr h e k =
    let sides = sides_spelled sig e.0 e.1 k.form in
    let lefts = one_spelled sig left e.0 s i (again sig left e.0 (l ∙ k.left) sides.left) sl in
    let rights = one_spelled sig right e.1 t i (again sig right e.1 (r ∙ k.right) sides.right) sr in
    h (subst (λ (x : Tree). IsEquationWithinLimits sig (x, t)) lefts (subst (λ (y : Tree). IsEquationWithinLimits sig (e.0, y)) rights k.form))

-- x1 = x1
pub some_equation : (sig : Signature) → IsEquationWithinLimits sig (variable 0, variable 0)
some_equation sig = record {
  left = record { well_formed = tt; size = omega arith; depth = omega arith };
  right = record { well_formed = tt; size = omega arith; depth = omega arith };
  variables = omega arith;
  by_occurrence = refl;
}

pub some_rule : (sig : Signature) → IsRuleForm sig (record { left = variable 0; right = variable 0 }, 1)
some_rule sig = record { sides = some_equation sig; cited = refl }

three_fields : (xs : List (List ℕ)) → length xs ≡ 3 → xs ≡ get_or xs 0 [] ∷ get_or xs 1 [] ∷ get_or xs 2 [] ∷ []
three_fields [] h = absurd (omega arith)
three_fields (a ∷ []) h = absurd (omega arith)
three_fields (a ∷ b ∷ []) h = absurd (omega arith)
three_fields (a ∷ b ∷ c ∷ []) h = refl
three_fields (a ∷ b ∷ c ∷ d ∷ xs) h = absurd (omega arith)

five_fields : (xs : List (List ℕ)) → length xs ≡ 5 → xs ≡ get_or xs 0 [] ∷ get_or xs 1 [] ∷ get_or xs 2 [] ∷ get_or xs 3 [] ∷ get_or xs 4 [] ∷ []
five_fields [] h = absurd (omega arith)
five_fields (a ∷ []) h = absurd (omega arith)
five_fields (a ∷ b ∷ []) h = absurd (omega arith)
five_fields (a ∷ b ∷ c ∷ []) h = absurd (omega arith)
five_fields (a ∷ b ∷ c ∷ d ∷ []) h = absurd (omega arith)
five_fields (a ∷ b ∷ c ∷ d ∷ e ∷ []) h = refl
five_fields (a ∷ b ∷ c ∷ d ∷ e ∷ f ∷ xs) h = absurd (omega arith)

-- ---- equations

pub equation_fields_are : (sig : Signature) → IsSignature sig → (line : List ℕ) (fields : List (List ℕ)) (e : Tree × Tree) → fields ≡ slice_split (λ b. b == 32) line → IsEquationLine sig line e → fields ≡ infix_text (names_of sig) (codes "=") e.0 e.1
equation_fields_are sig i line fields e c k = c ∙ ap (slice_split (λ b. b == 32)) k.spelling ∙ equation_cut sig i e k.form

pub equation_read : {E : Type 0} (sig : Signature) → IsSignature sig → (line : List ℕ) (fields : List (List ℕ)) (r : Result (Option (Term × Term)) E) → fields ≡ slice_split (λ b. b == 32) line → length fields ≡ 3
    → IfOk r (λ o. MatchOption o ((e : Tree × Tree) → ¬ AreSidesIn sig fields (codes "=") e) (λ (e : Term × Term). AreSidesIn sig fields (codes "=") (tree_of e.0, tree_of e.1)))
    → IfOk r (λ o. MatchOption o ((e : Tree × Tree) → ¬ IsEquationLine sig line e) (λ (e : Term × Term). IsEquationLine sig line (tree_of e.0, tree_of e.1)))
equation_read sig i line fields r c n h =
    said ((e : Tree × Tree) → ¬ AreSidesIn sig fields (codes "=") e) ((e : Tree × Tree) → ¬ IsEquationLine sig line e) (λ (e : Term × Term). AreSidesIn sig fields (codes "=") (tree_of e.0, tree_of e.1)) (λ (e : Term × Term). IsEquationLine sig line (tree_of e.0, tree_of e.1)) r none some h
  where
    none : ((e : Tree × Tree) → ¬ AreSidesIn sig fields (codes "=") e) → (e : Tree × Tree) → ¬ IsEquationLine sig line e
    none h e k = let f = equation_fields_are sig i line fields e c k in h e (record { form = k.form; left = ap (field 0) f; sign_is = ap (field 1) f; right = ap (field 2) f })

    some : (e : Term × Term) → AreSidesIn sig fields (codes "=") (tree_of e.0, tree_of e.1) → IsEquationLine sig line (tree_of e.0, tree_of e.1)
    some e k = record {
      form = k.form;
      spelling = sym (join_with_byte-slice_split 32 line) ∙ ap (join_with_byte 32) (sym c ∙ three_fields fields n ∙ (λ j. k.left j ∷ k.sign_is j ∷ k.right j ∷ []));
    }

-- ---- rules

abbrev rule_rest : ℕ → List (List ℕ)
rule_rest n = codes ":" ∷ decimal n ∷ []

rest_without : (c : ℕ) → IsBlank c → (n : ℕ) → n ≤ 4096 → AreWithout c (rule_rest n)
rest_without c k n h = let low = k.low in (word_without c low (codes ":") refl, (decimal_without c n (omega arith) (omega arith), tt))

rule_fields : (c : ℕ) → IsBlank c → (sig : Signature) → IsSignature sig → (r : Rule × ℕ) → IsRuleForm sig r → AreWithout c (infix_text (names_of sig) (codes "->") r.0.left r.0.right ++ rule_rest r.1)
rule_fields c k sig i r f =
    let low = k.low in
    are_without-append c (infix_text (names_of sig) (codes "->") r.0.left r.0.right) (rule_rest r.1) (sides_without c k sig i (codes "->") (word_without c low (codes "->") refl) r.0.left r.0.right f.sides) (rest_without c k r.1 (up_to 4096 r.1 f.cited).high)

pub rule_without : (sig : Signature) → IsSignature sig → (r : Rule × ℕ) → IsRuleForm sig r → IsWithout 10 (rule_body (names_of sig) r)
rule_without sig i r f = join_without 10 32 (infix_text (names_of sig) (codes "->") r.0.left r.0.right ++ rule_rest r.1) (eq_above 32 10 (omega arith)) (rule_fields 10 feed_blank sig i r f)

pub rule_cut : (sig : Signature) → IsSignature sig → (r : Rule × ℕ) → IsRuleForm sig r → slice_split (λ b. b == 32) (rule_body (names_of sig) r) ≡ infix_text (names_of sig) (codes "->") r.0.left r.0.right ++ rule_rest r.1
rule_cut sig i r f = let names = names_of sig in fields_cut 32 (term_text names r.0.left) (codes "->" ∷ term_text names r.0.right ∷ rule_rest r.1) (rule_fields 32 space_blank sig i r f)

pub one_rule : (sig : Signature) → IsSignature sig → (r q : Rule × ℕ) → IsRuleForm sig r → IsRuleForm sig q → rule_body (names_of sig) r ≡ rule_body (names_of sig) q → r ≡ q
one_rule sig i r q f g e =
    let fields = sym (rule_cut sig i r f) ∙ ap (slice_split (λ b. b == 32)) e ∙ rule_cut sig i q g in
    let s = one_sides sig i r.0.left r.0.right q.0.left q.0.right f.sides g.sides (ap (field 0) fields) (ap (field 2) fields) in
    let fc = up_to 4096 r.1 f.cited in
    let gc = up_to 4096 q.1 g.cited in
    let steps = decimal_injective r.1 q.1 (omega arith) (omega arith) (ap (field 4) fields) in
    let lefts = s.0 in
    let rights = s.1 in
    λ j. (record { left = lefts j; right = rights j }, steps j)

pub rule_fields_are : (sig : Signature) → IsSignature sig → (line : List ℕ) (fields : List (List ℕ)) (r : Rule × ℕ) → fields ≡ slice_split (λ b. b == 32) line → IsRuleLine sig line r → fields ≡ infix_text (names_of sig) (codes "->") r.0.left r.0.right ++ rule_rest r.1
rule_fields_are sig i line fields r c k = c ∙ ap (slice_split (λ b. b == 32)) k.spelling ∙ rule_cut sig i r k.form

pub no_step : (sig : Signature) → IsSignature sig → (line bytes : List ℕ) (fields : List (List ℕ)) → fields ≡ slice_split (λ b. b == 32) line → bytes ≡ get_or fields 4 [] → ((n : ℕ) → 1 ≤ n → n ≤ 4096 → ¬ (decimal n ≡ bytes)) → (r : Rule × ℕ) → ¬ IsRuleLine sig line r
no_step sig i line bytes fields c b h r k =
    let l = up_to 4096 r.1 k.form.cited in
    h r.1 l.low l.high (sym (ap (field 4) (rule_fields_are sig i line fields r c k)) ∙ sym b)

pub no_sides : (sig : Signature) → IsSignature sig → (line : List ℕ) (fields : List (List ℕ)) → fields ≡ slice_split (λ b. b == 32) line → ((e : Tree × Tree) → ¬ AreSidesIn sig fields (codes "->") e) → (r : Rule × ℕ) → ¬ IsRuleLine sig line r
no_sides sig i line fields c h r k =
    let f = rule_fields_are sig i line fields r c k in
    h (r.0.left, r.0.right) (record { form = k.form.sides; left = ap (field 0) f; sign_is = ap (field 1) f; right = ap (field 2) f })

pub rule_made : (sig : Signature) (line : List ℕ) (fields : List (List ℕ)) (s t : Tree) (n : ℕ) → fields ≡ slice_split (λ b. b == 32) line → length fields ≡ 5 → AreSidesIn sig fields (codes "->") (s, t) → get_or fields 3 [] ≡ codes ":" → 1 ≤ n → n ≤ 4096 → decimal n ≡ get_or fields 4 []
    → IsRuleLine sig line (record { left = s; right = t }, n)
rule_made sig line fields s t n c five k colon low high d = record {
  form = record { sides = k.form; cited = is_up_to-true 4096 n low high };
  spelling = sym (join_with_byte-slice_split 32 line) ∙ ap (join_with_byte 32) (sym c ∙ five_fields fields five ∙ (λ j. k.left j ∷ k.sign_is j ∷ k.right j ∷ colon j ∷ sym d j ∷ []));
}
