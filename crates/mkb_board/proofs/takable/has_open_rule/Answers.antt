use Rattle.std.proofs.Common.{◌<◌, ◌≤◌, ◌&&◌, length, arith, sym, ◌∙◌}
use Rattle.std.specs.List.{list_any}
use Rattle.kb_term.specs.declared.origin.RuleRef.{RuleRef}
use Rattle.mkb_model.specs.Plain.{directions, is_rule}
use Rattle.mkb_agenda.specs.Open.{is_open_to}
use Rattle.mkb_board.proofs.AnyJob.{any_first, any_here, any_on, any_open, none_behind}
use Rattle.mkb_board.proofs.takable.has_open_rule.Goals as goal

pub loop-m-init : goal.loop-m-init
loop-m-init c =
    let b = c.args.state.now in
    let p = c.args.p.now in
    let r = c.args.roles in
    let n = c.args.n.0 in
    any_open b p r n c.requires ∙ any_first (λ m. list_any (λ (a : RuleRef). is_rule b p a && is_open_to b r n a) (directions m)) (length b.nodes)

pub loop-m-preserved : goal.loop-m-preserved
loop-m-preserved c =
    let b = c.args.state.now in
    let p = c.args.p.now in
    let r = c.args.roles in
    let n = c.args.n.0 in
    let there : c.loop-m.m < length b.nodes = omega arith in
    c.loop-m.invariant ∙ any_on (λ m. list_any (λ (a : RuleRef). is_rule b p a && is_open_to b r n a) (directions m)) c.loop-m.m (length b.nodes) there (sym c.has_open_direction.ensures ∙ c.if-has_open_direction.false)

pub returns-then-has_open_direction : goal.returns-then-has_open_direction
returns-then-has_open_direction c =
    let b = c.args.state.now in
    let p = c.args.p.now in
    let r = c.args.roles in
    let n = c.args.n.0 in
    let there : c.loop-m.m < length b.nodes = omega arith in
    sym (c.loop-m.invariant ∙ any_here (λ m. list_any (λ (a : RuleRef). is_rule b p a && is_open_to b r n a) (directions m)) c.loop-m.m (length b.nodes) there (sym c.has_open_direction.ensures ∙ c.if-has_open_direction.true))

pub returns : goal.returns
returns c =
    let b = c.args.state.now in
    let p = c.args.p.now in
    let r = c.args.roles in
    let n = c.args.n.0 in
    let all : length b.nodes ≤ c.loop-m.m = omega arith in
    sym (c.loop-m.invariant ∙ none_behind (λ m. list_any (λ (a : RuleRef). is_rule b p a && is_open_to b r n a) (directions m)) c.loop-m.m (length b.nodes) all)
