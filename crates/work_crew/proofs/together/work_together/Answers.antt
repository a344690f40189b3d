use denote.Param.Send.{sendable}
use Rattle.cert_pool.proofs.Sent.{pool_sync}
use Rattle.work_crew.proofs.together.work_together.Goals as goal

pub work_together_by-requires-sync-S : goal.work_together_by-requires-sync-S
work_together_by-requires-sync-S g c κs within = search (sendable, pool_sync) depth 20
