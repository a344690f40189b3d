-- What the lists and trees of an agenda are seen as.
use Rattle.std.specs.Prelude.{ℕ, List, map, zip}
use Rattle.kb_label.specs.Names.{Name}
use Rattle.kb_node.specs.declared.job.Job.{Job}
use Rattle.mkb_pick.specs.declared.task.Task.{Task}
use Rattle.mkb_pick.specs.declared.queue.Entry.{Entry}
use Rattle.mkb_pick.specs.declared.queue.Queue.{Queue}
use Rattle.mkb_pick.specs.declared.stores.Stores.{Stores}
use Rattle.mkb_pick.specs.Tasks.{job_of, seen}
use Rattle.mkb_pick.specs.Listings.{Listed, Listing}

-- a task as a job of its process
abbrev pub job_in : Name → Task → Job × ℕ
job_in p t = (job_of p t.work, t.weight)

-- a name and its entry, with its jobs in their order
abbrev pub listed_in : Name × Entry → Listed
listed_in s = record { name = s.0; cost = s.1.cost; resting = s.1.resting; jobs = seen (job_in s.0) s.1.tasks }

-- the processes in the order of their names
abbrev pub processes_of : Queue → List Listed
processes_of q = map listed_in (zip q.names.items q.entries.items)

abbrev pub listing_of : Queue → Stores → Listing
listing_of q s = record { processes = processes_of q; spare_jobs = s.spare_jobs; spare_processes = q.spare }
