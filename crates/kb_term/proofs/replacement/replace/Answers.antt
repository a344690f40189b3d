use Rattle.std.proofs.Common.{arith, ap, ◌∙◌}
use Rattle.kb_term.specs.Position.{replace_at}
use Rattle.kb_term.specs.View.{tree_of}
use Rattle.kb_term.proofs.Replaced.{replaced_at_position}
use Rattle.kb_term.proofs.Limited.{limit-size, limit-depth, limit-none, limited-memory}
use Rattle.kb_term.proofs.replacement.replace.Goals as goal

pub returns-then-replaced_size_up_to-gt-MAX_SIZE : goal.returns-then-replaced_size_up_to-gt-MAX_SIZE
returns-then-replaced_size_up_to-gt-MAX_SIZE c =
    let v = replaced_at_position (tree_of c.args.t.now) c.args.p.now (tree_of c.args.u.now) c.requires in
    let size = c.replaced_size_up_to.ensures.size v.0 (ap (λ p. replace_at (tree_of c.args.t.now) p (tree_of c.args.u.now)) c.steps-steps.ensures ∙ v.1) in
    rw v.1 (limit-size v.0 (omega (arith, size, c.if-replaced_size_up_to-gt-MAX_SIZE.true)))

pub returns-then-replaced_depth_up_to-gt-MAX_DEPTH : goal.returns-then-replaced_depth_up_to-gt-MAX_DEPTH
returns-then-replaced_depth_up_to-gt-MAX_DEPTH c =
    let v = replaced_at_position (tree_of c.args.t.now) c.args.p.now (tree_of c.args.u.now) c.requires in
    let at = ap (λ p. replace_at (tree_of c.args.t.now) p (tree_of c.args.u.now)) c.steps-steps.ensures ∙ v.1 in
    rw v.1 (limit-depth v.0 (omega (arith, c.replaced_size_up_to.ensures.size v.0 at, c.if-replaced_size_up_to-gt-MAX_SIZE.false)) (omega (arith, c.replaced_depth_up_to.ensures.depth v.0 at, c.if-replaced_depth_up_to-gt-MAX_DEPTH.true)))

pub returns-in_err-made : goal.returns-in_err-made
returns-in_err-made c =
    let v = replaced_at_position (tree_of c.args.t.now) c.args.p.now (tree_of c.args.u.now) c.requires in
    rw v.1 (limited-memory v.0 c.from_residual.result c.from_residual.ensures.1)

pub returns : goal.returns
returns c =
    let v = replaced_at_position (tree_of c.args.t.now) c.args.p.now (tree_of c.args.u.now) c.requires in
    let at = ap (λ p. replace_at (tree_of c.args.t.now) p (tree_of c.args.u.now)) c.steps-steps.ensures ∙ v.1 in
    rw v.1 (c.in_ok-made.ensures v.0 at, limit-none v.0 (omega (arith, c.replaced_size_up_to.ensures.size v.0 at, c.if-replaced_size_up_to-gt-MAX_SIZE.false)) (omega (arith, c.replaced_depth_up_to.ensures.depth v.0 at, c.if-replaced_depth_up_to-gt-MAX_DEPTH.false)))
