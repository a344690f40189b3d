use Rattle.std.proofs.Common.{◌≡◌, ◌⊎◌, ◌↔◌, sym, subst, Ok, Err, Contains, arith}
use Rattle.mkb_pick.specs.Runs.{IsRising, Holds, IsFilled, size, Precedes}
use Rattle.mkb_pick.proofs.Rising.{told, at_place, rising_insert, contains_insert}
use Rattle.mkb_pick.proofs.run.Run.insert.Goals as goal

pub returns-clause-keys : goal.returns-clause-keys
unfolding Holds IsFilled size Precedes
returns-clause-keys c m =
    let xs = c.args.self.now.keys.items in
    let s = told c.as_slice.result.now xs c.args.key (Err c.in-Err.place) c.as_slice.ensures.value c.requires.filled.0 c.in-Err.ensures.position in
    subst (λ ys. Contains ys m ↔ ((m ≡ c.args.key) ⊎ Contains xs m)) (sym c.insert.ensures.items) (contains_insert xs c.requires.filled.0 c.in-Err.place c.args.key s.0 s.1 s.2 m)

pub returns-clause-filled : goal.returns-clause-filled
unfolding Holds IsFilled size Precedes
returns-clause-filled c =
    let xs = c.args.self.now.keys.items in
    let s = told c.as_slice.result.now xs c.args.key (Err c.in-Err.place) c.as_slice.ensures.value c.requires.filled.0 c.in-Err.ensures.position in
    (subst IsRising (sym c.insert.ensures.items) (rising_insert xs c.requires.filled.0 c.in-Err.place c.args.key s.0 s.1 s.2), omega (arith, c.insert.ensures.len))

pub unreachable-requires : goal.unreachable-requires
unfolding Holds IsFilled size Precedes
unreachable-requires c =
    let xs = c.args.self.now.keys.items in
    let s = told c.as_slice.result.now xs c.args.key (Ok c.in-Ok.field-0) c.as_slice.ensures.value c.requires.filled.0 c.in-Ok.ensures.position in
    c.requires.absent (subst (Contains xs) s.1 (at_place xs c.in-Ok.field-0 s.0))
