use Rattle.std.proofs.Common.{◌<◌, ◌≤◌, ◌&&◌, map, length, arith, sym, ◌∙◌}
use Rattle.std.specs.List.{list_any}
use Rattle.kb_term.specs.declared.origin.RuleRef.{RuleRef}
use Rattle.kb_node.specs.declared.job.Job.TheVariants.{Overlap}
use Rattle.mkb_model.specs.Plain.{directions, is_rule, rules_of}
use Rattle.mkb_board.specs.Choosing.{is_choice, jobs_of}
use Rattle.mkb_board.proofs.AnyJob.{any_first, any_here, any_on, any_overlap, none_behind}
use Rattle.mkb_board.proofs.takable.has_overlap.Goals as goal

pub loop-n-init : goal.loop-n-init
loop-n-init c =
    let b = c.args.state.now in
    let p = c.args.p.now in
    let flight = jobs_of c.args.flight.now in
    let q = is_choice b flight in
    any_overlap b q p ∙ any_first (λ n. list_any (λ (a : RuleRef). is_rule b p a && list_any q (map (Overlap p a) (rules_of b p))) (directions n)) (length b.nodes)

pub loop-n-preserved : goal.loop-n-preserved
loop-n-preserved c =
    let b = c.args.state.now in
    let p = c.args.p.now in
    let flight = jobs_of c.args.flight.now in
    let q = is_choice b flight in
    let there : c.loop-n.n < length b.nodes = omega arith in
    c.loop-n.invariant ∙ any_on (λ n. list_any (λ (a : RuleRef). is_rule b p a && list_any q (map (Overlap p a) (rules_of b p))) (directions n)) c.loop-n.n (length b.nodes) there (sym c.has_overlap_at.ensures ∙ c.if-has_overlap_at.false)

pub returns-then-has_overlap_at : goal.returns-then-has_overlap_at
returns-then-has_overlap_at c =
    let b = c.args.state.now in
    let p = c.args.p.now in
    let flight = jobs_of c.args.flight.now in
    let q = is_choice b flight in
    let there : c.loop-n.n < length b.nodes = omega arith in
    sym (c.loop-n.invariant ∙ any_here (λ n. list_any (λ (a : RuleRef). is_rule b p a && list_any q (map (Overlap p a) (rules_of b p))) (directions n)) c.loop-n.n (length b.nodes) there (sym c.has_overlap_at.ensures ∙ c.if-has_overlap_at.true))

pub returns : goal.returns
returns c =
    let b = c.args.state.now in
    let p = c.args.p.now in
    let flight = jobs_of c.args.flight.now in
    let q = is_choice b flight in
    let all : length b.nodes ≤ c.loop-n.n = omega arith in
    sym (c.loop-n.invariant ∙ none_behind (λ n. list_any (λ (a : RuleRef). is_rule b p a && list_any q (map (Overlap p a) (rules_of b p))) (directions n)) c.loop-n.n (length b.nodes) all)
