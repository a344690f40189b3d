use Rattle.std.proofs.Common.{◌≡◌, ◌<◌, ◌≤◌, ◌+◌, ◌∙◌, List, Contains, false, ◌&&◌, ◌||◌, not, length, drop, get_or, ap, ap₂, arith, subst, sym}
use Rattle.std.specs.Prelude.{is_some}
use Rattle.std.specs.List.{list_any}
use Rattle.std.proofs.Math.Bool.{and-false}
use Rattle.std.proofs.Math.ListN.{drop_of_length-le}
use Rattle.std.proofs.lemmas.List.Elements.{Contains-get_or}
use Rattle.kb_label.specs.Names.{Name, has}
use Rattle.mkb_model.proofs.runs.Endings.{has_in}
use Rattle.mkb_board.specs.Choosing.{first_choice, jobs_of}
use Rattle.mkb_board.proofs.AnyJob.{any_from, gets_job, some_first}
use Rattle.mkb_board.proofs.takable.has_first.Goals as goal
use Rattle.mkb_board.proofs.takable.has_first.Goals.{else-not-is_asleep-via-then-not-is_asleep+else-has_choice, else-not-is_asleep-via-else-not-is_asleep}

pub has_choice-requires-clause-lives : goal.has_choice-requires-clause-lives
has_choice-requires-clause-lives c =
    let living = c.processes-living.result.now in
    let p = c.index-living-i.result in
    has_in c.args.state.now.living p
    (subst {A = List Name} (λ z. Contains z p) (c.processes-living.ensures ∙ c.log.ensures)
    (subst {A = Name} (Contains living) (sym c.index-living-i.is) (Contains-get_or living c.loop-i.i p c.loop-i-test.true)))

pub loop-i-init : goal.loop-i-init
loop-i-init c = some_first c.args.state.now c.args.flight.now

pub loop-i-preserved : goal.loop-i-preserved
loop-i-preserved c =
    let b = c.args.state.now in
    let p = c.index-living-i.result in
    let flight = jobs_of c.args.flight.now in
    let same = c.processes-living.ensures ∙ c.log.ensures in
    let there : c.loop-i.i < length b.living = omega (arith, c.loop-i-test.true, ap length same) in
    let is = c.index-living-i.is ∙ ap (λ (l : List Name). get_or l c.loop-i.i p) same in
    let passed : gets_job b flight p ≡ false = elim c.else-not-is_asleep.branch [
      | else-not-is_asleep-via-then-not-is_asleep+else-has_choice w ↦ ap (λ z. not (has b.asleep p) && z) (sym w.has_choice.ensures ∙ w.if-has_choice.false) ∙ and-false (not (has b.asleep p))
      | else-not-is_asleep-via-else-not-is_asleep w ↦ ap (λ z. not z && is_some (first_choice b flight p)) (sym c.is_asleep.ensures ∙ w.if-not-is_asleep.false)
    ] in
    c.loop-i.invariant ∙ any_from (gets_job b flight) b.living c.loop-i.i p p there is ∙ ap (λ z. z || list_any (gets_job b flight) (drop (c.loop-i.i + 1) b.living)) passed

pub returns-then-has_choice : goal.returns-then-has_choice
returns-then-has_choice c =
    let b = c.args.state.now in
    let p = c.index-living-i.result in
    let flight = jobs_of c.args.flight.now in
    let same = c.processes-living.ensures ∙ c.log.ensures in
    let there : c.loop-i.i < length b.living = omega (arith, c.loop-i-test.true, ap length same) in
    let is = c.index-living-i.is ∙ ap (λ (l : List Name). get_or l c.loop-i.i p) same in
    let gets = ap₂ (λ x y. not x && y) (sym c.is_asleep.ensures ∙ c.if-not-is_asleep.true) (sym c.has_choice.ensures ∙ c.if-has_choice.true) in
    sym (c.loop-i.invariant ∙ any_from (gets_job b flight) b.living c.loop-i.i p p there is ∙ ap (λ z. z || list_any (gets_job b flight) (drop (c.loop-i.i + 1) b.living)) gets)

pub returns : goal.returns
returns c =
    let b = c.args.state.now in
    let all : length b.living ≤ c.loop-i.i = omega (arith, c.loop-i-test.false, ap length (c.processes-living.ensures ∙ c.log.ensures)) in
    sym (c.loop-i.invariant ∙ ap (list_any (gets_job b (jobs_of c.args.flight.now))) (drop_of_length-le b.living all))
