use Rattle.std.proofs.Common.{subst}
use Rattle.work_crew.specs.Together.{HoldsNext}
use Rattle.work_crew.specs.declared.shared.Next.{Next}
use Rattle.work_crew.proofs.together.serve.Goals as goal

pub work_one-worked-requires-after_bounds : goal.work_one-worked-requires-after_bounds
work_one-worked-requires-after_bounds g c κs within =
    let h = subst {A = Next} (HoldsNext c.args.place.now.turns c.loop.seat) c.in-Work.is c.loop.invariant.2 in h.held.readable

pub end_one-next-requires-clause-holds : goal.end_one-next-requires-clause-holds
end_one-next-requires-clause-holds g c = subst {A = Next} (HoldsNext c.args.place.now.turns c.loop.seat) c.in-Work.is c.loop.invariant.2
