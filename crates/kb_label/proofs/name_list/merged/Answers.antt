use Rattle.std.proofs.Common.{sym, inl, inr, arith}
use Rattle.std.proofs.lemmas.List.{take_rest}
use Rattle.kb_label.proofs.Merged.{appended, pushed, taken-less, taken-equal, taken-greater, joined}
use Rattle.kb_label.proofs.name_list.merged.Goals as goal
use Rattle.kb_label.proofs.name_list.merged.Goals.{then-loop-i-test+else-j-right, else-loop-i-test}

pub loop-i-preserved-in-Less : goal.loop-i-preserved-in-Less
loop-i-preserved-in-Less c = record {
  left_within = omega arith;
  right_within = omega arith;
  joined =
      rw c.in_ok-push-in-Less.ensures.items
      (pushed c.loop-i.names.items _ _ c.index-left-i.result _ c.in_ok-clone-in-Less.ensures.cases (taken-less c.args.left.now c.args.right.now c.loop-i.names.items c.requires.left_in_order c.requires.right_in_order c.loop-i.i c.loop-i.j c.loop-i-test.true c.if-j-right.true c.index-left-i.result c.index-right-j.result c.index-left-i.is c.index-right-j.is c.loop-i.invariant.joined (sym c.in-Less.ensures)));
}

pub loop-i-preserved-in-Equal : goal.loop-i-preserved-in-Equal
loop-i-preserved-in-Equal c = record {
  left_within = omega arith;
  right_within = omega arith;
  joined =
      rw c.in_ok-push-in-Equal.ensures.items
      (pushed c.loop-i.names.items _ _ c.index-left-i.result _ c.in_ok-clone-in-Equal.ensures.cases (taken-equal c.args.left.now c.args.right.now c.loop-i.names.items c.requires.left_in_order c.requires.right_in_order c.loop-i.i c.loop-i.j c.loop-i-test.true c.if-j-right.true c.index-left-i.result c.index-right-j.result c.index-left-i.is c.index-right-j.is c.loop-i.invariant.joined (sym c.in-Equal.ensures)));
}

pub loop-i-preserved : goal.loop-i-preserved
loop-i-preserved c = record {
  left_within = omega arith;
  right_within = omega arith;
  joined =
      rw c.in_ok-push-in-Greater.ensures.items
      (pushed c.loop-i.names.items _ _ c.index-right-j.result _ c.in_ok-clone-in-Greater.ensures.cases (taken-greater c.args.left.now c.args.right.now c.loop-i.names.items c.requires.left_in_order c.requires.right_in_order c.loop-i.i c.loop-i.j c.loop-i-test.true c.if-j-right.true c.index-left-i.result c.index-right-j.result c.index-left-i.is c.index-right-j.is c.loop-i.invariant.joined (sym c.in-Greater.ensures)));
}

pub returns : goal.returns
returns c =
    rw (appended _ _ _ c.in_ok-extend_from_slice-2.ensures.items, appended _ _ _ c.in_ok-extend_from_slice.ensures.items, take_rest c.args.left.now c.loop-i.i, take_rest c.args.right.now c.loop-i.j)
    (joined c.args.left.now c.args.right.now c.loop-i.names.items c.loop-i.i c.loop-i.j c.requires.left_in_order
    (elim c.loop-i-test.branch [ then-loop-i-test+else-j-right w ↦ inr w.if-j-right.false | else-loop-i-test w ↦ inl w.loop-i-test.false ])
    c.loop-i.invariant.joined)
