use Rattle.std.proofs.Common.{◌∙◌, sym}
use Rattle.mkb_pick.proofs.Firsts.{held_reduction, held_overlap}
use Rattle.mkb_pick.proofs.search.first_task.Goals as goal

pub returns-in-Some : goal.returns-in-Some
returns-in-Some c =
    held_reduction c.args.tasks.now c.args.flight.now c.args.process.now (sym c.is_open.ensures ∙ c.if-is_open.false) c.in-Some.task c.in-Some.ensures

pub returns-in-None : goal.returns-in-None
returns-in-None c =
    held_overlap c.args.tasks.now c.args.flight.now c.args.process.now (sym c.is_open.ensures ∙ c.if-is_open.false) c.in-None.ensures c.first_between-in-None.result c.first_between-in-None.ensures
