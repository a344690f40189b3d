use Rattle.std.proofs.Common.{subst, sym}
use Rattle.std.specs.Prelude.{IfErr}
use Rattle.std.proofs.lemmas.Result.{IfErr-weaker}
use Rattle.mkbtt_top.specs.Completing.{IsUnfinishedBy}
use Rattle.mkbtt_top.specs.Runs.{StopsBy}
use Rattle.mkbtt_top.specs.declared.task.Task.{Task}
use Rattle.mkbtt_top.specs.declared.task.Task.TheVariants.{Complete, Journal}
use Rattle.mkbtt_top.proofs.Endings.{unfinished, unwritten}
use Rattle.mkbtt_top.proofs.top.make.Goals as goal

pub returns-in-Complete-clause-stop : goal.returns-in-Complete-clause-stop
returns-in-Complete-clause-stop g c =
    let old = g.S.Source.left c.args.source.now in
    let new = g.S.Source.left c.complete_source.new.source in
    let quiet = g.S.Source.quiet c.args.source.now in
    let before = g.S.Source.faults c.args.source.now in
    let after = g.S.Source.faults c.complete_source.new.source in
    subst {A = Task} (λ z. IfErr c.complete_source.result (StopsBy z old new quiet before after)) (sym c.in-Complete.is)
    (IfErr-weaker c.complete_source.result (IsUnfinishedBy c.in-Complete.settings c.in-Complete.workers old new quiet before after) (StopsBy (Complete c.in-Complete.settings c.in-Complete.workers) old new quiet before after) (unfinished c.in-Complete.settings c.in-Complete.workers old new quiet before after) c.complete_source.ensures.stop)

pub returns-in-Journal-clause-stop : goal.returns-in-Journal-clause-stop
returns-in-Journal-clause-stop g c =
    let old = g.S.Source.left c.args.source.now in
    let new = g.S.Source.left c.complete_source-in-Journal.new.source in
    let quiet = g.S.Source.quiet c.args.source.now in
    let before = g.S.Source.faults c.args.source.now in
    let after = g.S.Source.faults c.complete_source-in-Journal.new.source in
    subst {A = Task} (λ z. IfErr c.complete_source-in-Journal.result (StopsBy z old new quiet before after)) (sym c.in-Journal.is)
    (IfErr-weaker c.complete_source-in-Journal.result (IsUnfinishedBy c.in-Journal.settings c.in-Journal.workers old new quiet before after) (StopsBy (Journal c.in-Journal.settings c.in-Journal.workers) old new quiet before after) (unwritten c.in-Journal.settings c.in-Journal.workers old new quiet before after) c.complete_source-in-Journal.ensures.stop)
