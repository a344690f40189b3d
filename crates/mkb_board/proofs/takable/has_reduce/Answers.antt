use Rattle.std.proofs.Common.{◌<◌, ◌≤◌, length, arith, sym, ◌∙◌}
use Rattle.kb_node.specs.declared.job.Job.TheVariants.{Reduce}
use Rattle.mkb_model.specs.Plain.{node_numbers}
use Rattle.mkb_board.specs.Choosing.{is_choice, jobs_of}
use Rattle.mkb_board.proofs.AnyJob.{any_first, any_here, any_mapped, any_on, none_behind}
use Rattle.mkb_board.proofs.takable.has_reduce.Goals as goal

pub loop-n-init : goal.loop-n-init
loop-n-init c =
    let b = c.args.state.now in
    let p = c.args.p.now in
    let flight = jobs_of c.args.flight.now in
    any_mapped (is_choice b flight) (λ n. Reduce p (record { 0 = n })) (node_numbers b) ∙ any_first (λ n. is_choice b flight (Reduce p (record { 0 = n }))) (length b.nodes)

pub loop-n-preserved : goal.loop-n-preserved
loop-n-preserved c =
    let b = c.args.state.now in
    let p = c.args.p.now in
    let flight = jobs_of c.args.flight.now in
    let there : c.loop-n.n < length b.nodes = omega arith in
    c.loop-n.invariant ∙ any_on (λ n. is_choice b flight (Reduce p (record { 0 = n }))) c.loop-n.n (length b.nodes) there (sym c.may_reduce.ensures ∙ c.if-may_reduce.false)

pub returns-then-may_reduce : goal.returns-then-may_reduce
returns-then-may_reduce c =
    let b = c.args.state.now in
    let p = c.args.p.now in
    let flight = jobs_of c.args.flight.now in
    let there : c.loop-n.n < length b.nodes = omega arith in
    sym (c.loop-n.invariant ∙ any_here (λ n. is_choice b flight (Reduce p (record { 0 = n }))) c.loop-n.n (length b.nodes) there (sym c.may_reduce.ensures ∙ c.if-may_reduce.true))

pub returns : goal.returns
returns c =
    let b = c.args.state.now in
    let p = c.args.p.now in
    let flight = jobs_of c.args.flight.now in
    let all : length b.nodes ≤ c.loop-n.n = omega arith in
    sym (c.loop-n.invariant ∙ none_behind (λ n. is_choice b flight (Reduce p (record { 0 = n }))) c.loop-n.n (length b.nodes) all)
