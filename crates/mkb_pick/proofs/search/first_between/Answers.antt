use Rattle.std.proofs.Common.{◌≡◌, true, sym, subst, arith}
use Rattle.mkb_pick.specs.declared.task.Task.{Task}
use Rattle.std.specs.Prelude.{Some}
use Rattle.mkb_pick.specs.Tasks.{IsAgenda, IsWithin, is_open}
use Rattle.mkb_pick.specs.Firsts.{IsFirst}
use Rattle.mkb_pick.proofs.Firsts.{none_wanted, first_wanted}
use Rattle.mkb_pick.proofs.search.first_between.Goals as goal

pub first-requires : goal.first-requires
unfolding IsAgenda
first-requires c = c.requires.0

pub returns-in-Some : goal.returns-in-Some
returns-in-Some c =
    let first = first_wanted c.args.tasks.now c.requires c.args.flight.now c.args.process.now c.args.low c.args.high _ _ (omega (arith, c.from.ensures)) (omega (arith, c.from-2.ensures)) c.in-Some.key c.in-Some.ensures in
    subst (λ (t : Task). IsFirst c.args.tasks.now (λ t. IsWithin c.args.low c.args.high t × (is_open c.args.flight.now c.args.process.now t ≡ true)) (Some t)) (sym c.of_key.ensures) first

pub returns-in-None : goal.returns-in-None
returns-in-None c = none_wanted c.args.tasks.now c.requires c.args.flight.now c.args.process.now c.args.low c.args.high _ _ (omega (arith, c.from.ensures)) (omega (arith, c.from-2.ensures)) c.in-None.ensures
