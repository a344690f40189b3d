use Rattle.std.proofs.Common.{◌+◌, ◌<◌, List, filter, drop, true, false, Contains, get_or, length, ap, subst, sym, ◌∙◌, arith}
use Rattle.std.proofs.lemmas.List.Elements.{Contains-get_or}
use Rattle.kb_label.specs.Names.{Name}
use Rattle.mkb_model.specs.Sleeping.{is_active, process_cmp}
use Rattle.mkb_model.proofs.runs.Endings.{has_in}
use Rattle.mkb_board.proofs.Sleepers.{filter_at, lesser_taken, passed, IsStep}
use Rattle.mkb_board.proofs.settling.least_waiting.Goals as goal
use Rattle.mkb_board.proofs.settling.least_waiting.Goals.{then-is_active, else-is_active}

pub is_active-requires-clause-lives : goal.is_active-requires-clause-lives
is_active-requires-clause-lives c =
    let sleepers = c.sleepers-sleepers.result.now in
    let p = c.index-sleepers-i.result in
    c.requires.sleepers.living p (has_in c.args.state.now.asleep p
    (subst {A = List Name} (λ z. Contains z p) c.sleepers-sleepers.ensures
    (subst {A = Name} (Contains sleepers) (sym c.index-sleepers-i.is) (Contains-get_or sleepers c.loop-i.i p c.loop-i-test.true))))

pub loop-i-preserved : goal.loop-i-preserved
loop-i-preserved c =
    let b = c.args.state.now in
    let p = c.index-sleepers-i.result in
    let same = c.sleepers-sleepers.ensures in
    let there : c.loop-i.i < length b.asleep = omega (arith, c.loop-i-test.true, ap length same) in
    let is = c.index-sleepers-i.is ∙ ap (λ (l : List Name). get_or l c.loop-i.i p) same in
    let left = filter (is_active b) (drop c.loop-i.i b.asleep) in
    let others = filter (is_active b) (drop (c.loop-i.i + 1) b.asleep) in
    let step : IsStep b (process_cmp b) left others c.loop-i.best c.if-is_active.best =
    elim c.if-is_active.branch [
      | then-is_active w ↦ lesser_taken b p left others (filter_at (is_active b) b.asleep c.loop-i.i p true there is (sym c.is_active.ensures ∙ w.if-is_active.true)) c.loop-i.best c.if-is_active.best w.with_cost.result w.lesser.result c.loop-i.invariant.priced w.with_cost.ensures.cost w.with_cost.ensures.process w.lesser.ensures w.best-is
      | else-is_active w ↦ passed b (process_cmp b) left others (filter_at (is_active b) b.asleep c.loop-i.i p false there is (sym c.is_active.ensures ∙ w.if-is_active.false)) c.loop-i.best c.if-is_active.best c.loop-i.invariant.priced w.best-is
    ] in
    record { pick = step.pick ∙ c.loop-i.invariant.pick; priced = step.priced }
