use Rattle.std.proofs.Common.{◌≡◌, ◌<◌, ◌∙◌, refl, ap, sym, subst, arith, List, map, length, All, Some}
use Rattle.std.specs.Prelude.{IsSome}
use Rattle.std.proofs.lemmas.List.{length-map}
use Rattle.kb_term.specs.Pair.{Pair}
use Rattle.kb_term.specs.declared.origin.Origin.{Origin}
use Rattle.kb_term.specs.declared.origin.RuleRef.{RuleRef}
use Rattle.kb_trace.specs.Reached.{CitesEarlier}
use Rattle.kb_checker.specs.Answers.{Answer}
use Rattle.kb_label.specs.Names.{Name}
use Rattle.mkb_model.specs.Plain.{Plain, rules_of, constraints_of}
use Rattle.mkb_rules.specs.Parts.{plain_node}
use Rattle.mkb_rules.specs.Named.{IsRuleThere}
use Rattle.mkb_report.specs.Reports.{IsAnswerOf, pairs_of, wanted_nodes}
use Rattle.mkb_report.proofs.Boards.{good}
use Rattle.mkb_report.proofs.Made.{AreRead, answer_read, few_steps, made_form, nodes_cite_earlier, trace_read, wanted_read, wanted_there}
use Rattle.mkb_rules.proofs.Viewed.{rules_there, constraints_there}
use Rattle.mkb_report.proofs.Viewed.{parts}
use Rattle.mkb_report.proofs.report.answer_of.Goals as goal

pub certificate-requires-clause-lives : goal.certificate-requires-clause-lives
certificate-requires-clause-lives c = (good c.args.state.now c.requires.reached c.args.p.now c.requires.stands).lives

pub certificate-requires-clause-ordered : goal.certificate-requires-clause-ordered
certificate-requires-clause-ordered c = subst IsSome (sym (good c.args.state.now c.requires.reached c.args.p.now c.requires.stands).there) refl

pub trace_of-requires-clause-earlier : goal.trace_of-requires-clause-earlier
trace_of-requires-clause-earlier c =
    let nodes : c.as_slice.result.now ≡ pairs_of c.args.state.now = c.as_slice.ensures.value ∙ c.in_ok-nodes.ensures.nodes ∙ ap (map parts) c.nodes.ensures in
    subst CitesEarlier (sym nodes) (nodes_cite_earlier c.args.state.now c.requires.reached)

pub trace_of-requires-clause-there : goal.trace_of-requires-clause-there
trace_of-requires-clause-there c =
    let b : Plain = c.args.state.now in
    let p : Name = c.args.p.now in
    let nodes : c.as_slice.result.now ≡ pairs_of b = c.as_slice.ensures.value ∙ c.in_ok-nodes.ensures.nodes ∙ ap (map parts) c.nodes.ensures in
    let r : AreRead b p c.as_slice.result.now c.items-rule_names.result.now c.items-constraint_names.result.now c.as_slice-2.result.now = record { nodes_are = nodes; rules_are = c.items-rule_names.ensures ∙ c.in_ok-view.ensures.rules; constraints_are = c.items-constraint_names.ensures ∙ c.in_ok-view.ensures.constraints; wanted_are = c.as_slice-2.ensures.value ∙ c.in_ok-wanted.ensures } in
    let wanted : c.as_slice-2.result.now ≡ wanted_nodes b p = wanted_read b p c.as_slice.result.now c.items-rule_names.result.now c.items-constraint_names.result.now c.as_slice-2.result.now r in
    subst {A = List (Pair × Origin)} (λ ns. All (λ w. w < length ns) c.as_slice-2.result.now) (sym nodes)
    (subst (All (λ w. w < length (pairs_of b))) (sym wanted) (wanted_there b p))

pub cited_rules-requires-clause-there : goal.cited_rules-requires-clause-there
cited_rules-requires-clause-there c =
    let names : c.items-rule_names.result.now ≡ rules_of c.args.state.now c.args.p.now = c.items-rule_names.ensures ∙ c.in_ok-view.ensures.rules in
    subst (All (IsRuleThere c.args.state.now)) (sym names) (rules_there c.args.state.now c.args.p.now)

pub cited_rules-requires-2-clause-there : goal.cited_rules-requires-2-clause-there
cited_rules-requires-2-clause-there c =
    let names : c.items-constraint_names.result.now ≡ constraints_of c.args.state.now c.args.p.now = c.items-constraint_names.ensures ∙ c.in_ok-view.ensures.constraints in
    subst (All (IsRuleThere c.args.state.now)) (sym names) (constraints_there c.args.state.now c.args.p.now)

pub cited_rules-requires-clause-few : goal.cited_rules-requires-clause-few
cited_rules-requires-clause-few c =
    let b : Plain = c.args.state.now in
    let p : Name = c.args.p.now in
    let nodes : c.as_slice.result.now ≡ pairs_of b = c.as_slice.ensures.value ∙ c.in_ok-nodes.ensures.nodes ∙ ap (map parts) c.nodes.ensures in
    let r : AreRead b p c.as_slice.result.now c.items-rule_names.result.now c.items-constraint_names.result.now c.as_slice-2.result.now = record { nodes_are = nodes; rules_are = c.items-rule_names.ensures ∙ c.in_ok-view.ensures.rules; constraints_are = c.items-constraint_names.ensures ∙ c.in_ok-view.ensures.constraints; wanted_are = c.as_slice-2.ensures.value ∙ c.in_ok-wanted.ensures } in
    let t = trace_read b p c.as_slice.result.now c.items-rule_names.result.now c.items-constraint_names.result.now c.as_slice-2.result.now c.in_ok-trace.trace r c.in_ok-trace.ensures in
    omega (arith, few_steps b (wanted_nodes b p) c.in_ok-trace.trace t, ap length c.steps-steps.ensures, ap length c.nodes.ensures, length-map c.nodes.result.now plain_node, c.in_ok-nodes.ensures.few)

pub cited_rules-requires-2-clause-few : goal.cited_rules-requires-2-clause-few
cited_rules-requires-2-clause-few c =
    let b : Plain = c.args.state.now in
    let p : Name = c.args.p.now in
    let nodes : c.as_slice.result.now ≡ pairs_of b = c.as_slice.ensures.value ∙ c.in_ok-nodes.ensures.nodes ∙ ap (map parts) c.nodes.ensures in
    let r : AreRead b p c.as_slice.result.now c.items-rule_names.result.now c.items-constraint_names.result.now c.as_slice-2.result.now = record { nodes_are = nodes; rules_are = c.items-rule_names.ensures ∙ c.in_ok-view.ensures.rules; constraints_are = c.items-constraint_names.ensures ∙ c.in_ok-view.ensures.constraints; wanted_are = c.as_slice-2.ensures.value ∙ c.in_ok-wanted.ensures } in
    let t = trace_read b p c.as_slice.result.now c.items-rule_names.result.now c.items-constraint_names.result.now c.as_slice-2.result.now c.in_ok-trace.trace r c.in_ok-trace.ensures in
    omega (arith, few_steps b (wanted_nodes b p) c.in_ok-trace.trace t, ap length c.steps-steps.ensures, ap length c.nodes.ensures, length-map c.nodes.result.now plain_node, c.in_ok-nodes.ensures.few)

pub new-requires : goal.new-requires
new-requires c =
    let b : Plain = c.args.state.now in
    let p : Name = c.args.p.now in
    let nodes : c.as_slice.result.now ≡ pairs_of b = c.as_slice.ensures.value ∙ c.in_ok-nodes.ensures.nodes ∙ ap (map parts) c.nodes.ensures in
    let r : AreRead b p c.as_slice.result.now c.items-rule_names.result.now c.items-constraint_names.result.now c.as_slice-2.result.now = record { nodes_are = nodes; rules_are = c.items-rule_names.ensures ∙ c.in_ok-view.ensures.rules; constraints_are = c.items-constraint_names.ensures ∙ c.in_ok-view.ensures.constraints; wanted_are = c.as_slice-2.ensures.value ∙ c.in_ok-wanted.ensures } in
    let a : Answer = record { problem = c.in_ok-problem.problem; rules = c.in_ok-rules.rules.items; constraints = c.in_ok-constraints.constraints.items; cert = c.in_ok-cert.cert; trace = c.in_ok-trace.trace } in
    let h : IsAnswerOf b p a = answer_read b p a c.as_slice.result.now c.items-rule_names.result.now c.items-constraint_names.result.now c.as_slice-2.result.now c.steps-steps.result.now c.requires.reached r c.in_ok-problem.ensures.problem (c.certificate.ensures ∙ ap Some (sym c.in_ok-cert.ensures.cases)) c.in_ok-trace.ensures c.steps-steps.ensures c.in_ok-rules.ensures.rules c.in_ok-rules.ensures.cites c.in_ok-constraints.ensures.rules c.in_ok-constraints.ensures.cites in
    made_form b p a c.requires.reached c.requires.stands h (omega (arith, ap length c.nodes.ensures, length-map c.nodes.result.now plain_node, c.in_ok-nodes.ensures.few))

pub returns-clause-answer : goal.returns-clause-answer
returns-clause-answer c =
    let b : Plain = c.args.state.now in
    let p : Name = c.args.p.now in
    let nodes : c.as_slice.result.now ≡ pairs_of b = c.as_slice.ensures.value ∙ c.in_ok-nodes.ensures.nodes ∙ ap (map parts) c.nodes.ensures in
    let r : AreRead b p c.as_slice.result.now c.items-rule_names.result.now c.items-constraint_names.result.now c.as_slice-2.result.now = record { nodes_are = nodes; rules_are = c.items-rule_names.ensures ∙ c.in_ok-view.ensures.rules; constraints_are = c.items-constraint_names.ensures ∙ c.in_ok-view.ensures.constraints; wanted_are = c.as_slice-2.ensures.value ∙ c.in_ok-wanted.ensures } in
    let a : Answer = record { problem = c.in_ok-problem.problem; rules = c.in_ok-rules.rules.items; constraints = c.in_ok-constraints.constraints.items; cert = c.in_ok-cert.cert; trace = c.in_ok-trace.trace } in
    let h : IsAnswerOf b p a = answer_read b p a c.as_slice.result.now c.items-rule_names.result.now c.items-constraint_names.result.now c.as_slice-2.result.now c.steps-steps.result.now c.requires.reached r c.in_ok-problem.ensures.problem (c.certificate.ensures ∙ ap Some (sym c.in_ok-cert.ensures.cases)) c.in_ok-trace.ensures c.steps-steps.ensures c.in_ok-rules.ensures.rules c.in_ok-rules.ensures.cites c.in_ok-constraints.ensures.rules c.in_ok-constraints.ensures.cites in
    subst {A = Answer} (IsAnswerOf b p) (sym c.new.ensures) h
