use Rattle.std.proofs.Common.{arith, ◌≡◌, ◌<◌, ◌+◌, ◌∙◌, ◌++◌, ◌∷◌, [], suc, sym, ap, length, refl, take, List, append_assoc}
use Rattle.std.specs.Prelude.{map}
use Rattle.kb_term.specs.Tree.{tree_depth, trees_of, apply}
use Rattle.kb_term.specs.View.{tree_of}
use Rattle.kb_term.proofs.Arguments.{argument-is, argument-depth, arguments-length}
use Rattle.rule_index.specs.declared.mark.Mark.{Mark}
use Rattle.rule_index.specs.declared.mark.Mark.TheVariants.{Apply}
use Rattle.rule_index.specs.Marks.{marks_of}
use Rattle.rule_index.proofs.Strings.{marks_row, row_more, marks_of-application, take_all}
use Rattle.rule_index.proofs.mark.+push_marks.Goals as goal

pub push_marks-requires : goal.push_marks-requires
push_marks-requires t c =
    let items = c.items-arguments.result.now in
    let us = map tree_of items in
    let i = c.loop-argument.argument-index in
    let here = argument-is items us i c.argument-item.result refl c.loop-argument-test.true c.argument-item.is in
    let room : i < length us = omega (arith, arguments-length items) in
    let whole : tree_of c.args.t.now ≡ apply c.in-App.f.0 (trees_of us) = ap tree_of c.in-App.is ∙ ap (λ vs. apply c.in-App.f.0 (trees_of vs)) (sym c.items-arguments.ensures) in
    (omega (arith, ap tree_depth here, argument-depth us i room, ap tree_depth whole, c.decreases), tt)

pub loop-argument-preserved : goal.loop-argument-preserved
loop-argument-preserved t c =
    let items = c.items-arguments.result.now in
    let i = c.loop-argument.argument-index in
    let old = c.push-in-App.new.self.items in
    let more = row_more items i c.argument-item.result c.loop-argument-test.true c.argument-item.is in
    let next : i + 1 ≡ suc i = omega arith in
    c.in_ok-push_marks-in-App.ensures
    ∙ ap (λ (ms : List Mark). ms ++ marks_of (tree_of c.argument-item.result)) c.loop-argument.invariant
    ∙ append_assoc old (marks_row (take i items)) (marks_of (tree_of c.argument-item.result))
    ∙ ap (λ (ms : List Mark). old ++ ms) (sym more)
    ∙ ap (λ k. old ++ marks_row (take k items)) (sym next)

pub returns-after-loop-argument : goal.returns-after-loop-argument
returns-after-loop-argument t c =
    let items = c.items-arguments.result.now in
    let us = map tree_of items in
    let old = c.args.marks.now.items in
    let whole : tree_of c.args.t.now ≡ apply c.in-App.f.0 (trees_of us) = ap tree_of c.in-App.is ∙ ap (λ vs. apply c.in-App.f.0 (trees_of vs)) (sym c.items-arguments.ensures) in
    let row : List Mark = marks_row items in
    let head : List Mark = Apply c.in-App.f.0 (length items) ∷ [] in
    c.loop-argument.invariant
    ∙ ap (λ (ts : _). c.push-in-App.new.self.items ++ marks_row ts) (take_all items c.loop-argument.argument-index (omega (arith, c.loop-argument-test.false)))
    ∙ ap (λ (ms : List Mark). ms ++ row) c.in_ok-push-in-App.ensures.items
    ∙ append_assoc old head row
    ∙ ap (λ (ms : List Mark). old ++ ms) (sym (ap marks_of whole ∙ marks_of-application c.in-App.f.0 (length items) items refl))
