use Rattle.std.proofs.Common.{◌<◌, List, get_or, length, sym, ap, ◌∙◌, subst}
use Rattle.kb_journal.specs.declared.entry_line.EntryLine.{EntryLine}
use Rattle.kb_journal.proofs.Making.{is_at_more, bad_at}
use Rattle.kb_journal.proofs.replaying.make_all.Goals as goal

pub loop-k-preserved : goal.loop-k-preserved
loop-k-preserved c =
    let k = c.loop-k.k in
    let l = c.index-lines-k.result in
    let lines = c.lines-lines.ensures.lines in
    let made = rw c.if-not-branch.false at c.in_ok-make.ensures in
    record {
      held = made.1;
      is_at = is_at_more c.loop-k.board c.make.new.board c.args.j.now k l c.make.new.hands.items c.lines-lines.ensures.kept.problem (subst {A = List EntryLine} (λ ls. k < length ls) lines c.loop-k-test.true)
          (sym (c.index-lines-k.is ∙ ap (λ (ls : List EntryLine). get_or ls k l) lines)) c.loop-k.invariant.is_at made.0 made.1;
    }

pub returns-then-not-branch-clause-bad : goal.returns-then-not-branch-clause-bad
returns-then-not-branch-clause-bad c =
    let k = c.loop-k.k in
    let l = c.index-lines-k.result in
    let lines = c.lines-lines.ensures.lines in
    bad_at c.loop-k.board c.args.j.now k l c.lines-lines.ensures.kept.problem (subst {A = List EntryLine} (λ ls. k < length ls) lines c.loop-k-test.true)
    (sym (c.index-lines-k.is ∙ ap (λ (ls : List EntryLine). get_or ls k l) lines)) c.loop-k.invariant.is_at (rw c.if-not-branch.true at c.in_ok-make.ensures)
