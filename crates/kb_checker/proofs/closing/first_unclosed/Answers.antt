use Rattle.std.proofs.Common.{◌≡◌, ◌+◌, ◌++◌, ap, subst, arith, length, length-append}
use Rattle.std.proofs.lemmas.List.Elements.{All-append}
use Rattle.kb_term.specs.Rule.{Rule}
use Rattle.kb_checker.specs.Verdicts.{FailsFirst, Closes, FailsToClose, IsRowAnswer, AreOuterOverlaps}
use Rattle.kb_checker.proofs.Firsts.{fails_behind}
use Rattle.kb_checker.proofs.RowsOfOverlaps.{outer_more, all_close}
use Rattle.kb_checker.proofs.closing.first_unclosed.Goals as goal

pub returns-in-Open : goal.returns-in-Open
returns-in-Open c =
    let rules = c.args.system.now in
    let i = c.loop-i.i in
    let failure = c.in-Open.failure in
    let row = subst (IsRowAnswer rules i c.loop-i.count) c.in-Open.is c.in_ok-more.ensures in
    let before = c.loop-i.invariant.0 in
    let number : length before + row.2 ≡ c.in-Open.n = omega (arith, c.loop-i.invariant.3, row.5) in (
      i,
      row.0,
      before,
      row.1,
      c.loop-i.invariant.1,
      row.3,
      subst (FailsFirst (Closes rules) (FailsToClose rules failure) (before ++ row.1)) number (fails_behind (Closes rules) (FailsToClose rules failure) before row.1 row.2 c.loop-i.invariant.2 row.4),
    )

pub loop-i-preserved : goal.loop-i-preserved
loop-i-preserved c =
    let rules = c.args.system.now in
    let i = c.loop-i.i in
    let row = subst (IsRowAnswer rules i c.loop-i.count) c.in-Closed.is c.in_ok-more.ensures in
    let before = c.loop-i.invariant.0 in (
      before ++ row.0,
      outer_more rules i before row.0 c.loop-i.invariant.1 row.1,
      All-append (Closes rules) before row.0 c.loop-i.invariant.2 row.2,
      omega (arith, c.loop-i.invariant.3, row.3, length-append before row.0),
      omega (arith, c.loop-i.invariant.4, row.4),
    )

pub returns : goal.returns
returns c =
    let rules = c.args.system.now in
    let all : c.loop-i.i ≡ length rules = omega (arith, c.loop-i-test.false, c.loop-i.auto.i-end, ap (length {A = Rule}) c.rules-i-end.ensures) in
    all_close rules c.loop-i.invariant.0 (subst (λ n. AreOuterOverlaps rules n c.loop-i.invariant.0) all c.loop-i.invariant.1) c.loop-i.invariant.2
