use Rattle.std.proofs.Common.{◌≡◌}
use Rattle.mkb_pick.specs.declared.task.Work.TheVariants.{Reducing}
use Rattle.mkb_pick.specs.Tasks.{task_at}
use Rattle.mkb_pick.proofs.Rising.{NoneBefore}
use Rattle.mkb_pick.proofs.entry.any_reducing.Given as goal

-- none so far is that of a reducing of the node
abbrev pub invariant-loop-key : goal.invariant-loop-key
invariant-loop-key l = NoneBefore (λ k. (task_at k).work ≡ Reducing l.n) l.keys l.key-index
