use Rattle.std.proofs.Common.{sym, ◌∙◌}
use Rattle.std.proofs.lemmas.Bool.{false≢true}
use Rattle.kb_term.specs.View.{tree_of}
use Rattle.kb_report.proofs.SidesRead.{no_left, no_right, not_numbered}
use Rattle.kb_report.proofs.sides.read_sides.Goals as goal

pub returns-in_default : goal.returns-in_default
returns-in_default c = no_left c.args.sig.now c.args.fields.now c.args.sign.now c.field-2.result.now c.field-2.ensures (rw c.in_default.is at c.in_ok-left.ensures.read)

pub returns-in_default-2 : goal.returns-in_default-2
returns-in_default-2 c = no_right c.args.sig.now c.args.fields.now c.args.sign.now c.field-3.result.now c.field-3.ensures (rw c.in_default-2.is at c.in_ok-right.ensures.read)

pub returns-then-not-branch : goal.returns-then-not-branch
returns-then-not-branch c =
    not_numbered c.args.sig.now c.requires.names c.args.fields.now c.args.sign.now c.field-2.result.now c.field-3.result.now (tree_of c.in-Some.left) (tree_of c.in-Some-2.right) c.field-2.ensures c.field-3.ensures
    (rw c.in-Some.is at c.in_ok-left.ensures.read) (rw c.in-Some-2.is at c.in_ok-right.ensures.read)
    (λ h. false≢true (sym c.if-not-branch.true ∙ c.in_ok-are_numbered.ensures.1 h))
