use Rattle.std.proofs.Common.{refl, subst, ap, sym, ◌∙◌, ◌≡◌, ◌+◌, ◌-◌, List, arith}
use Rattle.std.specs.Fn.{iterate}
use Rattle.kb_label.specs.Names.{Name}
use Rattle.mkb_model.specs.Plain.{Plain}
use Rattle.mkb_model.specs.Invariants.{IsLabel}
use Rattle.mkb_model.specs.Sleeping.{most_awake, with_one_awake}
use Rattle.mkb_board.proofs.Sleepers.{awake_same, how_many, iterate_fixed, label_wakes, none_left, none_waits, none_wakes, one_less, same_label, same_limits, same_order, with_sleepers}
use Rattle.mkb_board.proofs.AtRest.{same_rest}
use Rattle.mkb_board.proofs.settling.wake.Goals as goal

pub loop-init : goal.loop-init
loop-init c =
    let b = c.args.state.now in
    record { differs = refl; label = c.requires.sleepers; works = c.requires.works; agenda = c.requires.agenda; few = omega (arith, c.len-counter.ensures); left = ap (λ n. iterate (with_one_awake b) (most_awake - n) b.asleep) (c.len-counter.ensures ∙ how_many b c.args.working.now c.requires.works) }

pub wake_one-requires-clause-rest : goal.wake_one-requires-clause-rest
wake_one-requires-clause-rest c = same_rest c.args.state.now c.loop.state c.loop.invariant.differs c.requires.rest

pub wake_one-requires-clause-limited : goal.wake_one-requires-clause-limited
wake_one-requires-clause-limited c = same_limits c.args.state.now c.loop.state c.loop.invariant.differs c.requires.limited

pub wake_one-requires-clause-in_order : goal.wake_one-requires-clause-in_order
wake_one-requires-clause-in_order c = same_order c.args.state.now c.loop.state c.loop.invariant.differs c.requires.in_order

pub wake_one-requires-clause-sleepers : goal.wake_one-requires-clause-sleepers
wake_one-requires-clause-sleepers c = same_label c.args.state.now c.loop.state c.loop.state.asleep c.loop.invariant.differs c.loop.invariant.label

pub returns-then-not-wake_one-clause-awake : goal.returns-then-not-wake_one-clause-awake
returns-then-not-wake_one-clause-awake c =
    let b = c.args.state.now in
    let s = c.loop.state in
    let d = c.loop.invariant.differs in
    let still = none_wakes b s.asleep (none_waits b s d (c.wake_one.ensures.none c.if-not-wake_one.true)) in
    let last = sym (iterate_fixed (with_one_awake b) (most_awake - c.loop.counter) s.asleep still) ∙ c.loop.invariant.left in
    with_sleepers b s c.wake_one.new.state (with_one_awake s s.asleep) d c.wake_one.ensures.wakes
    ∙ ap (λ (l : List Name). record b { asleep = l }) (ap (λ (z : Plain). z.asleep) c.wake_one.ensures.wakes ∙ awake_same b s d ∙ still ∙ last)

pub loop-preserved : goal.loop-preserved
loop-preserved c =
    let b = c.args.state.now in
    let s = c.loop.state in
    let d = c.loop.invariant.differs in
    let now : c.wake_one.new.state.asleep ≡ with_one_awake b s.asleep = ap (λ (z : Plain). z.asleep) c.wake_one.ensures.wakes ∙ awake_same b s d in
    record {
      differs = with_sleepers b s c.wake_one.new.state (with_one_awake s s.asleep) d c.wake_one.ensures.wakes;
      label = subst {A = List Name} (IsLabel b) (sym now) (label_wakes b s.asleep c.requires.in_order c.loop.invariant.label);
      works = c.wake_one.ensures.works;
      agenda = c.wake_one.ensures.agenda;
      few = omega (arith, c.wake_one.ensures.len, c.loop.invariant.few);
      left = ap (iterate (with_one_awake b) (most_awake - (c.loop.counter + 1))) now ∙ sym (one_less (with_one_awake b) most_awake c.loop.counter s.asleep c.loop-test.true) ∙ c.loop.invariant.left;
    }

pub returns-clause-awake : goal.returns-clause-awake
returns-clause-awake c =
    let b = c.args.state.now in
    c.loop.invariant.differs
    ∙ ap (λ (l : List Name). record b { asleep = l }) (none_left (with_one_awake b) most_awake c.loop.counter c.loop.state.asleep c.loop-test.false ∙ c.loop.invariant.left)
