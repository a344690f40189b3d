use Rattle.std.proofs.Common.{ap, subst}
use Rattle.kb_journal.specs.Journals.{Journal}
use Rattle.kb_journal.specs.Replays.{IsReplayFault}
use Rattle.kb_journal.specs.declared.fault.ReplayFault.{ReplayFault}
use Rattle.mkbtt_top.specs.Replaying.{made, bad}
use Rattle.mkbtt_top.proofs.replaying.replay_journal.Goals as goal

pub returns-in-Ok-board_text : goal.returns-in-Ok-board_text
returns-in-Ok-board_text c = made c.in-Ok.board (record { after = c.in-Ok.ensures.legal; lines_are = ap (λ (j : Journal). j.lines) c.in-Ok.ensures.made }) c.in-Ok-board_text.ensures

pub returns-in_ok-bad_entry_text-in-Err-BadEntry : goal.returns-in_ok-bad_entry_text-in-Err-BadEntry
returns-in_ok-bad_entry_text-in-Err-BadEntry c =
    bad c.in-Err-BadEntry.n (subst {A = ReplayFault} (IsReplayFault c.args.journal.now) c.in-Err-BadEntry.field-0-is c.in-Err-BadEntry.ensures.bad) c.in_ok-bad_entry_text-in-Err-BadEntry.ensures
