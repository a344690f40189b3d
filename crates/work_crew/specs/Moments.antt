-- How a board stands as a ticket is taken.
use Rattle.std.specs.Prelude.{ℕ, ◌-◌, length, Bool, Option, Some, None, if◌then◌else◌}
use Rattle.kb_io.specs.declared.gate.Moment.{Moment}
use Rattle.kb_jobs.specs.declared.working.Snapshot.{Snapshot}
use Rattle.mkb_model.specs.Jobs.{process_of}
use Rattle.mkb_model.specs.Plain.{Plain, cost}
use Rattle.mkb_model.specs.declared.entry.Ticket.{Ticket}
use Rattle.work_crew.specs.declared.shared.Assignment.{Assignment}

-- the cost of the ticket's process, where it is asked for
abbrev pub cost_told : Bool → Plain → Ticket → Option ℕ
cost_told asked b t = if asked then Some (cost b (process_of t.job)) else None

-- the ticket's number, the counts of the board, and the cost of the ticket's process where it is asked for
abbrev pub moment_at : Bool → Plain → Ticket → Moment
moment_at asked b t = record { ticket = t.number; commits = b.commits; nodes = length b.nodes; living = length b.living; awake = length b.living - length b.asleep; cost = cost_told asked b t }

-- the ticket that was just taken on the board, with what its job reads
abbrev pub assigned : Bool → Plain → Ticket → Snapshot → Assignment
assigned asked b t s = record { ticket = t; snapshot = s; moment = moment_at asked b t }
