use Rattle.mkb_agenda.proofs.Followed.{stopped_followed}
use Rattle.mkb_agenda.proofs.following.follow.Goals as goal

pub returns-in-Over : goal.returns-in-Over
returns-in-Over c = stopped_followed c.args.state.now c.args.commit.now c.args.agenda.now.processes c.stop.new.agenda.processes c.in-Over.field-0 c.in-Over.is c.stop.ensures.gone c.stop.ensures.others
