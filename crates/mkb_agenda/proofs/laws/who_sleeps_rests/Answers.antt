use Rattle.mkb_agenda.proofs.Sleeping.{sleeper_rests, waker_works, flight_unlisted}
use Rattle.mkb_agenda.proofs.laws.who_sleeps_rests.Goals as goal

pub returns-clause-sleeps : goal.returns-clause-sleeps
returns-clause-sleeps c = sleeper_rests

pub returns-clause-wakes : goal.returns-clause-wakes
returns-clause-wakes c = waker_works

pub returns-clause-flies : goal.returns-clause-flies
returns-clause-flies c = flight_unlisted
