use Rattle.std.proofs.Common.{◌≡◌, ◌<◌, ◌↔◌, refl, sym, subst, length, Ok, Err, Contains, arith}
use Rattle.mkb_pick.specs.Runs.{IsRising, Holds, IsFilled, size, Precedes}
use Rattle.mkb_pick.proofs.Rising.{told, found_or_not, rising_remove, contains_remove}
use Rattle.mkb_pick.proofs.run.Run.remove.Goals as goal

pub returns-in-Ok-clause-found : goal.returns-in-Ok-clause-found
unfolding Holds IsFilled size Precedes
returns-in-Ok-clause-found c =
    let xs = c.args.self.now.keys.items in
    let s = found_or_not c.as_slice.result.now xs c.args.key (Ok c.in-Ok.place) c.as_slice.ensures.value c.requires.filled.0 c.in-Ok.ensures.position in
    (λ h. s.0 refl, λ h. refl)

pub returns-in-Ok-clause-keys : goal.returns-in-Ok-clause-keys
unfolding Holds IsFilled size Precedes
returns-in-Ok-clause-keys c m =
    let xs = c.args.self.now.keys.items in
    let s = told c.as_slice.result.now xs c.args.key (Ok c.in-Ok.place) c.as_slice.ensures.value c.requires.filled.0 c.in-Ok.ensures.position in
    subst (λ ys. Contains ys m ↔ (Contains xs m × ¬ (m ≡ c.args.key))) (sym c.remove.ensures.items) (contains_remove xs c.requires.filled.0 c.in-Ok.place c.args.key s.0 s.1 m)

pub returns-in-Ok-clause-filled : goal.returns-in-Ok-clause-filled
unfolding Holds IsFilled size Precedes
returns-in-Ok-clause-filled c =
    let xs = c.args.self.now.keys.items in
    let t = found_or_not c.as_slice.result.now xs c.args.key (Ok c.in-Ok.place) c.as_slice.ensures.value c.requires.filled.0 c.in-Ok.ensures.position in
    let s = told c.as_slice.result.now xs c.args.key (Ok c.in-Ok.place) c.as_slice.ensures.value c.requires.filled.0 c.in-Ok.ensures.position in
    let two : 1 < length xs = c.requires.more (t.0 refl) in
    (subst IsRising (sym c.remove.ensures.items) (rising_remove xs c.requires.filled.0 c.in-Ok.place c.args.key s.0 s.1), omega (arith, c.remove.ensures.len, two))

pub returns-in-Err-clause-found : goal.returns-in-Err-clause-found
unfolding Holds IsFilled size Precedes
returns-in-Err-clause-found c =
    let xs = c.args.self.now.keys.items in
    found_or_not c.as_slice.result.now xs c.args.key (Err c.in-Err.field-0) c.as_slice.ensures.value c.requires.filled.0 c.in-Err.ensures.position

pub returns-in-Err-clause-keys : goal.returns-in-Err-clause-keys
unfolding Holds IsFilled size Precedes
returns-in-Err-clause-keys c m =
    let xs = c.args.self.now.keys.items in
    let s = found_or_not c.as_slice.result.now xs c.args.key (Err c.in-Err.field-0) c.as_slice.ensures.value c.requires.filled.0 c.in-Err.ensures.position in
    (λ h. (h, λ e. let t = s.1 (subst (Contains xs) e h) in absurd (cc)), λ h. h.0)
