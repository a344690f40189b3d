use Rattle.std.proofs.Common.{arith, ◌≡◌, ◌+◌, ◌-◌, ℕ, length, get_or, [], List, sym, ap, subst, ◌∙◌}
use Rattle.std.proofs.lemmas.Bool.{false≢true}
use Rattle.kb_term.specs.View.{tree_of}
use Rattle.kb_text.specs.Terms.{TermSpelled}
use Rattle.kb_trace.proofs.StepForms.{first_spelled, second_spelled}
use Rattle.kb_trace.proofs.FieldsRead.{no_side, pair_read}
use Rattle.kb_trace.proofs.fields.read_pair.Goals as goal

pub returns-then-not-is_word : goal.returns-then-not-is_word
returns-then-not-is_word c = λ p i.
    let at = c.last_four-at.result in
    let same : at ≡ length c.args.fields.now - 4 = omega arith in
    false≢true (sym c.if-not-is_word.true ∙ c.is_word.ensures.1 (c.field-colon.ensures ∙ ap (λ (n : ℕ). get_or c.args.fields.now n []) same ∙ i.colon))

pub returns-then-not-is_word-2 : goal.returns-then-not-is_word-2
returns-then-not-is_word-2 c = λ p i.
    let at = c.last_four-at.result in
    let same : at ≡ length c.args.fields.now - 4 = omega arith in
    false≢true (sym c.if-not-is_word-2.true ∙ c.is_word-2.ensures.1 (c.field-sign.ensures ∙ ap (λ (n : ℕ). get_or c.args.fields.now (n + 2) []) same ∙ i.sign))

pub returns-in_default : goal.returns-in_default
returns-in_default c = λ p i.
    let at = c.last_four-at.result in
    let same : at ≡ length c.args.fields.now - 4 = omega arith in
    no_side c.args.signature.now c.field-first.result.now p.first (c.field-first.ensures ∙ ap (λ (n : ℕ). get_or c.args.fields.now (n + 1) []) same ∙ i.first) (first_spelled c.args.signature.now p i.form) (rw c.in_default.is at c.in_ok-s.ensures.read)

pub returns-in_default-2 : goal.returns-in_default-2
returns-in_default-2 c = λ p i.
    let at = c.last_four-at.result in
    let same : at ≡ length c.args.fields.now - 4 = omega arith in
    no_side c.args.signature.now c.field-second.result.now p.second (c.field-second.ensures ∙ ap (λ (n : ℕ). get_or c.args.fields.now (n + 3) []) same ∙ i.second) (second_spelled c.args.signature.now p i.form) (rw c.in_default-2.is at c.in_ok-t.ensures.read)

pub returns : goal.returns
returns c =
    let signature = c.args.signature.now in
    let fields = c.args.fields.now in
    let at = c.last_four-at.result in
    let same : length fields - 4 ≡ at = omega arith in
    let s = tree_of c.in-Some.s in
    let t = tree_of c.in-Some-2.t in
    pair_read signature c.requires.names fields at (length fields - 4) s t c.own_pair.result same
    (record {
      colon = sym c.field-colon.ensures ∙ c.is_word.ensures.0 c.if-not-is_word.false;
      first = subst (λ (b : List ℕ). TermSpelled signature b s) c.field-first.ensures (rw c.in-Some.is at c.in_ok-s.ensures.read);
      sign = sym c.field-sign.ensures ∙ c.is_word-2.ensures.0 c.if-not-is_word-2.false;
      second = subst (λ (b : List ℕ). TermSpelled signature b t) c.field-second.ensures (rw c.in-Some-2.is at c.in_ok-t.ensures.read);
    })
    c.own_pair.ensures
