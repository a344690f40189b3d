-- What a job proposes by its snapshot.
use Rattle.kb_node.specs.declared.job.Job.{Job}
use Rattle.kb_node.specs.declared.job.Job.TheVariants as jobs
use Rattle.mkb_model.specs.declared.proposed.Proposed.{Proposed}
use Rattle.mkb_model.specs.Plain.{Plain}
use Rattle.kb_jobs.specs.Reducing.{IsReducible, ProposesReduce}
use Rattle.kb_jobs.specs.Orienting.{IsOrientable, ProposesOrient}
use Rattle.kb_jobs.specs.Overlapping.{IsOverlapping, ProposesOverlap}
use Rattle.kb_jobs.specs.Closing.{IsClosable, ProposesClose}
use Rattle.kb_jobs.specs.Taken.{IsTakenReduce, IsTakenOrient, IsTakenOverlap, IsTakenClose}
use Rattle.kb_jobs.specs.declared.working.Snapshot.{Snapshot}
use Rattle.kb_jobs.specs.declared.working.Snapshot.TheVariants.{Reduce, Orient, Overlap, Close}

-- the job that reads the snapshot
abbrev pub job_of : Snapshot → Job
job_of (Reduce s) = jobs.Reduce s.process s.node
job_of (Orient s) = jobs.Orient s.process s.node
job_of (Overlap s) = jobs.Overlap s.process s.first s.second
job_of (Close s) = jobs.Close s.process

-- what a job may read
abbrev pub IsReadable : Snapshot → Type 0
IsReadable (Reduce s) = IsReducible s
IsReadable (Orient s) = IsOrientable s
IsReadable (Overlap s) = IsOverlapping s
IsReadable (Close s) = IsClosable s

-- what the job proposes by what it reads
abbrev pub ProposesBy : Snapshot → Proposed → Type 0
ProposesBy (Reduce s) x = ProposesReduce s x
ProposesBy (Orient s) x = ProposesOrient s x
ProposesBy (Overlap s) x = ProposesOverlap s x
ProposesBy (Close s) x = ProposesClose s x

-- the snapshot has what the board has
abbrev pub IsTaken : Plain → Snapshot → Type 0
IsTaken b (Reduce s) = IsTakenReduce b s
IsTaken b (Orient s) = IsTakenOrient b s
IsTaken b (Overlap s) = IsTakenOverlap b s
IsTaken b (Close s) = IsTakenClose b s
