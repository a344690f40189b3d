use Rattle.mkb_board.proofs.Held.{held_taken, held_numbered, held_on, held_after_take, held_after_finish, held_proposes}
use Rattle.mkb_board.proofs.Others.{held_of_others}
use Rattle.mkb_board.proofs.laws.held_tickets_stay.Goals as goal

pub returns-clause-taken : goal.returns-clause-taken
returns-clause-taken c = held_taken

pub returns-clause-numbered : goal.returns-clause-numbered
returns-clause-numbered c = held_numbered

pub returns-clause-in_flight : goal.returns-clause-in_flight
returns-clause-in_flight c = held_on

pub returns-clause-of_others : goal.returns-clause-of_others
returns-clause-of_others c = held_of_others

pub returns-clause-after_take : goal.returns-clause-after_take
returns-clause-after_take c = held_after_take

pub returns-clause-after_finish : goal.returns-clause-after_finish
returns-clause-after_finish c = held_after_finish

pub returns-clause-proposes : goal.returns-clause-proposes
returns-clause-proposes c = held_proposes
