use Rattle.std.proofs.Common.{refl}
use Rattle.mkbtt_top.specs.Runs.{StopsBy}
use Rattle.mkbtt_top.specs.declared.task.Task.TheVariants.{Replay}
use Rattle.mkbtt_top.proofs.Endings.{stops_by}
use Rattle.mkbtt_top.proofs.Handed.{handed_on}
use Rattle.mkbtt_top.proofs.replaying.replay_source.Goals as goal

pub returns-in_err-journal-clause-stop : goal.returns-in_err-journal-clause-stop
returns-in_err-journal-clause-stop g c =
    let old = g.S.Source.left c.args.source.now in
    let new = g.S.Source.left c.journal_from.new.source in
    let quiet = g.S.Source.quiet c.args.source.now in
    let before = g.S.Source.faults c.args.source.now in
    let after = g.S.Source.faults c.journal_from.new.source in
    let stop = c.in_err-journal.field-0.0 in
    handed_on (StopsBy Replay old new quiet before after) c.from_residual.result stop c.from_residual.ensures.0 c.from_residual.ensures.1 (stops_by Replay old new quiet before after stop refl c.in_err-journal.ensures.stop)
