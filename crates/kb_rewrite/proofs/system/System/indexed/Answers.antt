use Rattle.std.proofs.Common.{◌+◌, sym, subst}
use Rattle.kb_rewrite.specs.Indexed.{IsIndexOf, IsRepeated}
use Rattle.kb_rewrite.proofs.FirstRedexes.{rule_there}
use Rattle.kb_rewrite.proofs.Indexing.{index_none, index_more, index_same}
use Rattle.kb_rewrite.proofs.system.System.indexed.Goals as goal
use Rattle.kb_rewrite.proofs.system.System.indexed.Goals.{then-not-branch+in_ok-add, else-not-branch}

pub loop-i-init : goal.loop-i-init
loop-i-init c = index_none c.args.rules.now c.new-index.result c.new-index.ensures

pub loop-i-preserved : goal.loop-i-preserved
loop-i-preserved c =
    let rules = c.args.rules.now in
    let i = c.loop-i.i in
    let rule = c.index-rules-i.result in
    let there = rule_there rules i rule c.loop-i-test.true c.index-rules-i.is in
    elim c.if-not-branch.branch [
      | then-not-branch+in_ok-add w ↦ subst (IsIndexOf (i + 1) rules) (sym w.index-is) (index_more rules c.loop-i.index _ i rule there c.loop-i.invariant w.in_ok-add.ensures.ok)
      | else-not-branch w ↦ subst (IsIndexOf (i + 1) rules) (sym w.index-is) (index_same rules c.loop-i.index i rule there c.loop-i.invariant (subst (IsRepeated rules c.loop-i.index) c.left.ensures (c.in_ok-is_repeated.ensures.0 (cc w.if-not-branch.false))))
    ]
