-- Rules of an answer can be overlapped and measured.
use Rattle.std.proofs.Common.{ℕ, ◌<◌, ◌≤◌, ◌≡◌, sym, subst, arith, List, [], ◌∷◌, length, get_or, All}
use Rattle.std.proofs.lemmas.List.Elements.{All-cons, All-nil}
use Rattle.kb_term.specs.Pair.{Pair}
use Rattle.kb_term.specs.Rule.{Rule, IsRuleBelow}
use Rattle.kb_term.specs.Signature.{Signature, SymbolEntry, IsEquationWithinLimits}
use Rattle.kb_term.proofs.RuleBelow.{numbered-below}
use Rattle.kb_term.proofs.FewArguments.{few_from_arities}
use Rattle.kb_linear.specs.Limits.{IsMeasurable, AreMeasurable}
use Rattle.kb_checker.specs.Answers.{Answer, rules_of, IsAnswer, IsRuleForm, IsReady}
use Rattle.kb_checker.proofs.Firsts.{mapped_member}
use Rattle.kb_checker.proofs.Sound.{all_mapped}
use Rattle.kb_laws.proofs.Complete.{all_from}

below : (signature : Signature) (rule : Rule) → IsEquationWithinLimits signature (rule.left, rule.right) → IsRuleBelow 64 rule
below signature rule w = subst (λ (p : Pair). IsRuleBelow 64 (record { left = p.first; right = p.second })) w.by_occurrence (numbered-below rule.left rule.right 64 w.variables)

ready : (signature : Signature) (rule : Rule) → All (λ (f : SymbolEntry). f.arity ≤ 8) signature → IsEquationWithinLimits signature (rule.left, rule.right) → IsReady rule
ready signature rule arities w =
    let b = below signature rule w in
    record {
      variables = (b.left, b.right);
      size = w.left.size;
      arguments = few_from_arities signature (λ k d l. omega (arith, arities k d l)) rule.left w.left.well_formed;
    }

pub rules_ready : (a : Answer) → IsAnswer a → All IsReady (rules_of a.rules)
rules_ready a form = all_mapped (λ (r : Rule × ℕ). r.0) IsReady a.rules (λ k d l. ready a.problem.signature _ form.problem.arities (form.rules k d l).sides)

pub rules_measurable : (signature : Signature) (rules : List (Rule × ℕ)) → All (IsRuleForm signature) rules → AreMeasurable (rules_of rules)
rules_measurable signature rules form = all_mapped (λ (r : Rule × ℕ). r.0) (λ (r : Rule). IsMeasurable r.left × IsMeasurable r.right) rules (λ k d l.
    let w = (form k d l).sides in
    let b = below signature _ w in (
      record { variables = all_from (λ n. n < 64) _ b.left; size = w.left.size; depth = w.left.depth },
      record { variables = all_from (λ n. n < 64) _ b.right; size = w.right.size; depth = w.right.depth },
    ))

-- one of them can be measured
pub measurable_at : (rules : List (Rule × ℕ)) (k : ℕ) (r : Rule × ℕ) → k < length rules → r ≡ get_or rules k r → AreMeasurable (rules_of rules) → AreMeasurable (r.0 ∷ [])
measurable_at rules k r room is h =
    let P = λ (x : Rule). IsMeasurable x.left × IsMeasurable x.right in
    let m = mapped_member (λ (x : Rule × ℕ). x.0) rules k r room is in
    All-cons P r.0 [] (subst {A = Rule} P (sym m.1) (h k r.0 m.0)) (All-nil P)
