use Rattle.std.proofs.Common.{◌≡◌, ◌⊎◌, ◌↔◌, ◌∙◌, ap, sym, subst, length, take, drop, Contains, length-drop, arith}
use Rattle.std.proofs.lemmas.List.{take_rest}
use Rattle.mkb_pick.specs.Runs.{IsRising, Holds, IsFilled, size, Precedes}
use Rattle.mkb_pick.proofs.Rising.{rising_take, rising_drop, parts_apart, parts_keys}
use Rattle.mkb_pick.proofs.run.Run.give_half.Goals as goal

pub returns-clause-low : goal.returns-clause-low
unfolding Holds IsFilled size Precedes
returns-clause-low c =
    let xs = c.args.self.now.keys.items in
    (subst IsRising (sym c.truncate.ensures.items) (rising_take 16 xs c.requires.filled.0), omega (arith, c.truncate.ensures.len, c.requires.full))

pub returns-clause-high : goal.returns-clause-high
unfolding Holds IsFilled size Precedes
returns-clause-high c =
    let xs = c.args.self.now.keys.items in
    let is : c.fill.new.self.keys.items ≡ drop 16 xs = c.fill.ensures ∙ take_rest c.as_slice-keys.result.now 16 ∙ ap (drop 16) c.as_slice-keys.ensures.value in
    (subst IsRising (sym is) (rising_drop 16 xs c.requires.filled.0), omega (arith, ap length is, length-drop 16 xs, c.requires.full))

pub returns-clause-apart : goal.returns-clause-apart
unfolding Holds IsFilled size Precedes
returns-clause-apart c k m h i =
    let xs = c.args.self.now.keys.items in
    let is : c.fill.new.self.keys.items ≡ drop 16 xs = c.fill.ensures ∙ take_rest c.as_slice-keys.result.now 16 ∙ ap (drop 16) c.as_slice-keys.ensures.value in
    parts_apart 16 xs c.requires.filled.0 k m (subst (λ ys. Contains ys k) c.truncate.ensures.items h) (subst (λ ys. Contains ys m) is i)

pub returns-clause-keys : goal.returns-clause-keys
unfolding Holds IsFilled size Precedes
returns-clause-keys c k =
    let xs = c.args.self.now.keys.items in
    let is : c.fill.new.self.keys.items ≡ drop 16 xs = c.fill.ensures ∙ take_rest c.as_slice-keys.result.now 16 ∙ ap (drop 16) c.as_slice-keys.ensures.value in
    subst (λ ys. Contains xs k ↔ (Contains ys k ⊎ Contains c.fill.new.self.keys.items k)) (sym c.truncate.ensures.items) (subst (λ ys. Contains xs k ↔ (Contains (take 16 xs) k ⊎ Contains ys k)) (sym is) (parts_keys 16 xs k))
