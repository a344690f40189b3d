use Rattle.std.proofs.Common.{arith, ap, sym, ◌∙◌, subst, length}
use Rattle.std.proofs.lemmas.Bool.{false≢true}
use Rattle.kb_term.specs.Rule.{Rule}
use Rattle.kb_term.specs.View.{tree_of}
use Rattle.kb_report.specs.SystemSections.{IsRuleLine}
use Rattle.kb_report.proofs.SystemLines.{field}
use Rattle.kb_report.proofs.SidesRead.{rule_fields_are, no_step, no_sides, rule_made}
use Rattle.kb_report.proofs.sides.rule_of_line.Goals as goal

pub returns-then-len-ne5 : goal.returns-then-len-ne5
returns-then-len-ne5 c = λ r k. let n = ap length (rule_fields_are c.args.sig.now c.requires.names c.args.line.now _ r c.in_ok-fields.ensures k) in omega arith

pub returns-then-not-is_word : goal.returns-then-not-is_word
returns-then-not-is_word c = λ r k.
    false≢true (sym c.if-not-is_word.true ∙ c.is_word.ensures.1 (c.field.ensures ∙ ap (field 3) (rule_fields_are c.args.sig.now c.requires.names c.args.line.now _ r c.in_ok-fields.ensures k)))

pub returns-in_default : goal.returns-in_default
returns-in_default c = no_step c.args.sig.now c.requires.names c.args.line.now c.field-2.result.now _ c.in_ok-fields.ensures c.field-2.ensures c.in_default.ensures

pub returns-in-Some-2 : goal.returns-in-Some-2
returns-in-Some-2 c =
    let sig = c.args.sig.now in
    let line = c.args.line.now in
    let s = c.in-Some.ensures in
    let n = c.in-Some.step in
    subst {A = Rule} (λ r. IsRuleLine sig line (r, n)) (sym c.new.ensures)
    (rule_made sig line _ (tree_of c.in-Some-2.left) (tree_of c.in-Some-2.right) n c.in_ok-fields.ensures (omega arith) (rw c.in-Some-2.is at c.in_ok-left.ensures) (sym c.field.ensures ∙ c.is_word.ensures.0 c.if-not-is_word.false) s.0 s.1 (s.2 ∙ c.field-2.ensures))

pub returns : goal.returns
returns c = no_sides c.args.sig.now c.requires.names c.args.line.now _ c.in_ok-fields.ensures (rw c.in-None.is at c.in_ok-left.ensures)
