use Rattle.std.proofs.Common.{refl, subst, ap, sym, ◌∙◌, ◌≡◌, ◌+◌, ◌-◌, ◌<◌, ◌≤◌, arith, List, vec_len}
use Rattle.std.specs.Fn.{iterate}
use Rattle.kb_label.specs.Names.{Name}
use Rattle.mkb_model.specs.Plain.{Plain}
use Rattle.mkb_model.specs.Invariants.{IsLabel}
use Rattle.mkb_model.specs.Sleeping.{most_awake, with_one_asleep}
use Rattle.mkb_board.proofs.Sleepers.{asleep_same, how_many, label_rests, none_left, one_less, same_label, same_limits, same_order, with_sleepers}
use Rattle.mkb_board.proofs.settling.rest.Goals as goal

pub loop-init : goal.loop-init
loop-init c =
    let b = c.args.state.now in
    record { differs = refl; label = c.requires.sleepers; works = c.requires.works; agenda = c.requires.agenda; left = ap (λ n. iterate (with_one_asleep b) (n - most_awake) b.asleep) (how_many b c.args.working.now c.requires.works) }

pub rest_one-requires-clause-limited : goal.rest_one-requires-clause-limited
rest_one-requires-clause-limited c = same_limits c.args.state.now c.loop.state c.loop.invariant.differs c.requires.limited

pub rest_one-requires-clause-in_order : goal.rest_one-requires-clause-in_order
rest_one-requires-clause-in_order c = same_order c.args.state.now c.loop.state c.loop.invariant.differs c.requires.in_order

pub rest_one-requires-clause-sleepers : goal.rest_one-requires-clause-sleepers
rest_one-requires-clause-sleepers c = same_label c.args.state.now c.loop.state c.loop.state.asleep c.loop.invariant.differs c.loop.invariant.label

pub loop-preserved : goal.loop-preserved
loop-preserved c =
    let b = c.args.state.now in
    let s = c.loop.state in
    let d = c.loop.invariant.differs in
    let n = vec_len c.args.working.now in
    let more : c.loop.counter < n = omega (arith, c.loop-test.true, c.len-end.ensures) in
    let now : c.rest_one.new.state.asleep ≡ with_one_asleep b s.asleep = ap (λ (z : Plain). z.asleep) c.rest_one.ensures.rests ∙ asleep_same b s d in
    record {
      differs = with_sleepers b s c.rest_one.new.state (with_one_asleep s s.asleep) d c.rest_one.ensures.rests;
      label = subst {A = List Name} (IsLabel b) (sym now) (label_rests b s.asleep c.requires.in_order c.loop.invariant.label);
      works = c.rest_one.ensures.works;
      agenda = c.rest_one.ensures.agenda;
      left = ap (iterate (with_one_asleep b) (n - (c.loop.counter + 1))) now ∙ sym (one_less (with_one_asleep b) n c.loop.counter s.asleep more) ∙ c.loop.invariant.left;
    }

pub returns-clause-rested : goal.returns-clause-rested
returns-clause-rested c =
    let b = c.args.state.now in
    let none : vec_len c.args.working.now ≤ c.loop.counter = omega (arith, c.loop-test.false, c.len-end.ensures) in
    c.loop.invariant.differs
    ∙ ap (λ (l : List Name). record b { asleep = l }) (none_left (with_one_asleep b) (vec_len c.args.working.now) c.loop.counter c.loop.state.asleep none ∙ c.loop.invariant.left)
