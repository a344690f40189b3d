use Rattle.std.proofs.Common.{sym, subst}
use Rattle.std.specs.Prelude.{IfOk}
use Rattle.kb_jobs.specs.Working.{ProposesBy}
use Rattle.work_crew.specs.declared.shared.Assignment.{Assignment}
use Rattle.mkb_rounds.proofs.Playing.{one_at_place, right_kept}
use Rattle.mkb_rounds.proofs.ending.worked_at.Goals as goal

pub returns-in-Some-clause-right : goal.returns-in-Some-clause-right
returns-in-Some-clause-right g c = right_kept c.args.round.now c.args.outcomes.now.items c.take_outcome.new.outcomes.items c.requires.right c.take_outcome.ensures.kept

pub returns-in-None-clause-worked : goal.returns-in-None-clause-worked
returns-in-None-clause-worked g c = λ a found.
    subst {A = Assignment} (λ z. IfOk c.work_one.result (ProposesBy z.snapshot)) (one_at_place c.args.round.now c.args.place c.index-round-place.result a c.requires.inside c.index-round-place.is found) c.work_one.ensures

pub returns-in-None-clause-right : goal.returns-in-None-clause-right
returns-in-None-clause-right g c = right_kept c.args.round.now c.args.outcomes.now.items c.take_outcome.new.outcomes.items c.requires.right c.take_outcome.ensures.kept
