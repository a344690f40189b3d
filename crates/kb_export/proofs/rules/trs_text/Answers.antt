use Rattle.std.proofs.Common.{◌≤◌, ◌∙◌, ap, ℕ, List, length, subst, sym}
use Rattle.std.proofs.lemmas.Result.{IfOk-weaker}
use Rattle.kb_term.specs.Signature.{Problem, IsSignature}
use Rattle.kb_export.specs.ReadBack.{SpellsSame}
use Rattle.kb_export.specs.RuleTexts.{rules_problem}
use Rattle.kb_export.proofs.Bounds.{rules_within}
use Rattle.kb_export.proofs.RulesSpelled.{rules_spelled}
use Rattle.kb_export.proofs.rules.trs_text.Goals as goal

pub returns-clause-read : goal.returns-clause-read
returns-clause-read c =
    let p = rules_problem c.args.answer.now in
    let signature = c.signature.ensures ∙ ap (λ (q : Problem). q.signature) c.problem.ensures.problem in
    let names : IsSignature p.signature = subst IsSignature signature c.names_are_identifiers.ensures.kept in
    IfOk-weaker c.rule_lines.result _ _ (λ text is few short.
    subst (λ (bytes : List ℕ). SpellsSame bytes p) (sym is)
    (rules_spelled p names (rules_within c.args.answer.now c.problem.ensures.kept few) (subst (λ (bytes : List ℕ). length bytes ≤ 1048576) is short))) c.rule_lines.ensures
