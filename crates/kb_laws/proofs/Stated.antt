-- The laws as they are stated, from the proofs over steps by terms' structure.
use Rattle.std.proofs.Common.{List, Contains, length}
use Rattle.std.proofs.lemmas.List.Elements.{All-contains}
use Rattle.kb_term.specs.Tree.{Tree}
use Rattle.kb_linear.specs.LinearOrder.{Interpretation, LinearGreater}
use Rattle.kb_linear.proofs.LinearHalting.{linear_halts}
use Rattle.kb_lpo.proofs.Arities.{keeps_well}
use Rattle.std.specs.List.{range_with_len}
use Rattle.kb_cert.specs.declared.certificate.Certificate.TheVariants.{Lpo}
use Rattle.kb_term.specs.Rule.{Rule}
use Rattle.kb_term.specs.Signature.{Signature, Problem, IsRuleOver}
use Rattle.kb_term.proofs.Steps.{Step}
use Rattle.kb_term.proofs.Bridge.{halts_to, step_from_position, step_to_position, reaches_from, reaches_to}
use Rattle.kb_cert.specs.declared.certificate.Certificate.{Certificate}
use Rattle.kb_cert.specs.declared.family.Family.{Family}
use Rattle.kb_kbo.specs.KnuthBendix.{KboOrder}
use Rattle.kb_kbo.proofs.KboHalting.{lighter_few, chains_short}
use Rattle.kb_cert.proofs.FamilyLaws.{ordered_rules, some_member, member_weighs}
use Rattle.kb_laws.specs.Completion.{KbState}
use Rattle.kb_laws.specs.Confluence.{ChurchRosser}
use Rattle.kb_laws.specs.Runs.{ReachesByStep, IsEquationOver, IsStateOver, StepKeepsOver, StepKeepsChained, RunIsChained, RunIsOver}
use Rattle.kb_laws.specs.Complete.{CompleteStateIsSystem}
use Rattle.kb_laws.specs.Halting.{HasMember, MemberOrdersRulesOnly, InterpretationHalts, LighterAreFew, ChainsAreShort}
use Rattle.kb_laws.proofs.ConfluenceLaws.{joinable_by_confluence}
use Rattle.kb_laws.proofs.RunLaws.{Chain, step_chained, run_chained}
use Rattle.kb_laws.proofs.Complete.{IsSoundState, step_sound, run_sound, complete_state, proved_by_joining, all_from}

pub church_rosser : (signature : Signature) (rules : List Rule) → ChurchRosser signature rules
church_rosser g rules over conf s t ws wt = ((λ p. joinable_by_confluence g rules over conf s t ws wt p), (λ j. proved_by_joining rules s t j))

chain_to : (rules : List Rule) (s t : Tree) → Chain (Step (Contains rules)) s t → ReachesByStep rules s t
chain_to rules s t (u, h, c) = (u, step_to_position (Contains rules) h, reaches_to rules u t c)

chain_from : (rules : List Rule) (s t : Tree) → ReachesByStep rules s t → Chain (Step (Contains rules)) s t
chain_from rules s t (u, h, c) = (u, step_from_position (Contains rules) s u h, reaches_from rules u t c)

pub step_keeps_chained : (signature : Signature) → StepKeepsChained signature
step_keeps_chained g old new h c = λ r i. chain_to new.constraints r.left r.right (step_chained g old new h (λ q j. chain_from old.constraints q.left q.right (c q j)) r i)

pub run_is_chained : (problem : Problem) (states : List KbState) → RunIsChained problem states
run_is_chained problem states run a i = λ r j. chain_to a.constraints r.left r.right (run_chained problem states run a i r j)

over_to : (g : Signature) (a : KbState) → IsSoundState g a → IsStateOver g a
over_to g a h = record {
  equations = all_from (IsEquationOver g) a.equations h.equations;
  rules = all_from (IsRuleOver g) a.rules h.rules;
  constraints = all_from (IsRuleOver g) a.constraints h.constraints;
}

over_from : (g : Signature) (a : KbState) → IsStateOver g a → IsSoundState g a
over_from g a h = record {
  equations = λ d i. All-contains (IsEquationOver g) a.equations d h.equations i;
  rules = λ r i. All-contains (IsRuleOver g) a.rules r h.rules i;
  constraints = λ r i. All-contains (IsRuleOver g) a.constraints r h.constraints i;
}

pub step_keeps_over : (signature : Signature) → StepKeepsOver signature
step_keeps_over g old new h o = over_to g new (step_sound g old new h (over_from g old o))

pub run_is_over : (problem : Problem) (states : List KbState) → RunIsOver problem states
run_is_over problem states run over a i = over_to problem.signature a (run_sound problem states run over a i)

pub complete_state_is_system : (problem : Problem) (states : List KbState) (order : Certificate) (state : KbState) → CompleteStateIsSystem problem states order state
complete_state_is_system problem states c a h = complete_state problem states h.run h.over a h.reached h.no_equations c h.member h.ordered h.joinable

pub has_member : (f : Family) (signature : Signature) → HasMember f signature
has_member f g = some_member f g

pub member_orders_rules_only : (signature : Signature) (order : Certificate) → MemberOrdersRulesOnly signature order
member_orders_rules_only g c m rules well h = ordered_rules g c m rules well h

pub interpretation_halts : (signature : Signature) (i : Interpretation) → InterpretationHalts signature i
interpretation_halts g i fit rules over h t w = halts_to rules t (linear_halts g i (Contains rules) fit (λ r j. All-contains (λ (r : Rule). LinearGreater i r.left r.right) rules r h j) (keeps_well g rules over) t w)

pub lighter_are_few : (signature : Signature) (order : KboOrder) → LighterAreFew signature order
lighter_are_few g o m t = lighter_few g o (member_weighs g o m) t

pub chains_are_short : (signature : Signature) (order : KboOrder) → ChainsAreShort signature order
chains_are_short g o m rules over h = chains_short g o (member_weighs g o m) rules over h
