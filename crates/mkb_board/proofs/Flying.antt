-- What a snapshot reads of the board has nothing to do with the flight.
use Rattle.std.proofs.Common.{List}
use Rattle.mkb_model.specs.Plain.{Plain}
use Rattle.mkb_model.specs.declared.entry.Ticket.{Ticket}
use Rattle.kb_jobs.specs.Working.{IsTaken}
use Rattle.kb_jobs.specs.declared.working.Snapshot.{Snapshot}
use Rattle.kb_jobs.specs.declared.working.Snapshot.TheVariants.{Reduce, Orient, Overlap, Close}

pub taken_flying : (state : Plain) (flight : List Ticket) (s : Snapshot) → IsTaken state s → IsTaken (record state { flight = flight }) s
taken_flying state flight (Reduce s) h = record { pair = h.pair; rules = h.rules; others = h.others; any_first = h.any_first; any_second = h.any_second; unknown = h.unknown }
taken_flying state flight (Orient s) h = record { family = h.family; signature = h.signature; in_force = h.in_force; forth = h.forth; back = h.back }
taken_flying state flight (Overlap s) h = record { first = h.first; second = h.second }
taken_flying state flight (Close s) h = record { rules = h.rules; equations = h.equations; inputs = h.inputs }
