use Rattle.std.proofs.Common.{ℕ, ◌≡◌, ◌∙◌, sym, ap, subst, subst₂, All, List}
use Rattle.kb_term.specs.Tree.{Tree}
use Rattle.kb_term.specs.Rule.{Rule}
use Rattle.kb_term.specs.Signature.{Problem}
use Rattle.kb_term.specs.View.{equations_of_list}
use Rattle.kb_linear.specs.Limits.{AreMeasurable}
use Rattle.kb_cert.specs.declared.certificate.Certificate.{Certificate}
use Rattle.kb_overlap.specs.Trace.{TraceStep, IsRightTrace}
use Rattle.kb_laws.specs.Overlaps.{OverlapsClose}
use Rattle.kb_checker.specs.Answers.{rules_of, IsTraced, IsOriented, IsReady}
use Rattle.kb_checker.specs.Verdicts.{FailsFirst, FirstUnclosed, IsProved, FailsToProve, IsRejected}
use Rattle.kb_checker.specs.declared.joining.Failure.{Failure}
use Rattle.kb_checker.specs.declared.verdict.Reject.{Reject}
use Rattle.kb_checker.proofs.Ready.{rules_ready, rules_measurable}
use Rattle.kb_checker.proofs.Rejected.{none_says, some_says, pair_rejected, equation_rejected}
use Rattle.kb_checker.proofs.Sound.{accepted_is_good}
use Rattle.kb_checker.proofs.checking.check.Goals as goal

pub first_unoriented-requires : goal.first_unoriented-requires
first_unoriented-requires c =
    let a = c.args.a.now in
    subst (λ (rs : List (Rule × ℕ)). AreMeasurable (rules_of rs)) (sym c.constraints-2.ensures) (rules_measurable a.problem.signature a.constraints c.problem.ensures.kept.constraints)

pub first_unoriented-requires-2 : goal.first_unoriented-requires-2
first_unoriented-requires-2 c =
    let a = c.args.a.now in
    subst (λ (rs : List (Rule × ℕ)). AreMeasurable (rules_of rs)) (sym c.rules-2.ensures) (rules_measurable a.problem.signature a.rules c.problem.ensures.kept.rules)

pub first_unclosed-requires-clause-ready : goal.first_unclosed-requires-clause-ready
first_unclosed-requires-clause-ready c =
    let rules = c.in_ok-system.ensures ∙ c.deref.ensures.value ∙ c.in_ok-rules.ensures ∙ ap rules_of c.rules-3.ensures in
    subst (All IsReady) (sym rules) (rules_ready c.args.a.now c.problem.ensures.kept)

pub returns-in-Some-2-clause-verdict : goal.returns-in-Some-2-clause-verdict
returns-in-Some-2-clause-verdict c =
    let a = c.args.a.now in
    let steps = subst₂ IsRightTrace (ap (λ (p : Problem). p.equations) c.problem.ensures.problem) c.trace.ensures c.in-Ok.ensures.right in
    let trace : c.steps-steps.result.now ≡ a.trace = c.steps-steps.ensures ∙ c.trace-2.ensures in
    let traced : All (IsTraced a.trace) a.rules = subst₂ (λ (t : List TraceStep) (rs : List (Rule × ℕ)). All (IsTraced t) rs) trace c.rules.ensures (none_says _ _ _ c.in_default.is c.in_ok-n.ensures) in
    let n = c.in-Some-2.n in
    let fails = some_says _ n _ (FailsFirst (IsTraced c.steps-steps.result.now) (λ r. IsTraced c.steps-steps.result.now r → ⊥) c.constraints.result.now) c.in-Some-2.is c.in_ok-n-2.ensures in
    ((steps, traced), subst₂ (λ (t : List TraceStep) (rs : List (Rule × ℕ)). FailsFirst (IsTraced t) (λ r. IsTraced t r → ⊥) rs n) trace c.constraints.ensures fails)

pub returns-in-Some-first_unoriented-clause-verdict : goal.returns-in-Some-first_unoriented-clause-verdict
returns-in-Some-first_unoriented-clause-verdict c =
    let a = c.args.a.now in
    let steps = subst₂ IsRightTrace (ap (λ (p : Problem). p.equations) c.problem.ensures.problem) c.trace.ensures c.in-Ok.ensures.right in
    let trace : c.steps-steps.result.now ≡ a.trace = c.steps-steps.ensures ∙ c.trace-2.ensures in
    let traced : All (IsTraced a.trace) a.rules = subst₂ (λ (t : List TraceStep) (rs : List (Rule × ℕ)). All (IsTraced t) rs) trace c.rules.ensures (none_says _ _ _ c.in_default.is c.in_ok-n.ensures) in
    let constraints_traced : All (IsTraced a.trace) a.constraints = subst₂ (λ (t : List TraceStep) (rs : List (Rule × ℕ)). All (IsTraced t) rs) trace c.constraints.ensures (none_says _ _ _ c.in_default-2.is c.in_ok-n-2.ensures) in
    let n = c.in-Some-first_unoriented.n in
    (((steps, traced), constraints_traced), subst₂ (λ (k : Certificate) (rs : List (Rule × ℕ)). FailsFirst (IsOriented k) (λ r. IsOriented k r → ⊥) rs n) c.cert.ensures c.constraints-2.ensures c.in-Some-first_unoriented.ensures)

pub returns-in-Some-first_unoriented-2-clause-verdict : goal.returns-in-Some-first_unoriented-2-clause-verdict
returns-in-Some-first_unoriented-2-clause-verdict c =
    let a = c.args.a.now in
    let steps = subst₂ IsRightTrace (ap (λ (p : Problem). p.equations) c.problem.ensures.problem) c.trace.ensures c.in-Ok.ensures.right in
    let trace : c.steps-steps.result.now ≡ a.trace = c.steps-steps.ensures ∙ c.trace-2.ensures in
    let traced : All (IsTraced a.trace) a.rules = subst₂ (λ (t : List TraceStep) (rs : List (Rule × ℕ)). All (IsTraced t) rs) trace c.rules.ensures (none_says _ _ _ c.in_default.is c.in_ok-n.ensures) in
    let constraints_traced : All (IsTraced a.trace) a.constraints = subst₂ (λ (t : List TraceStep) (rs : List (Rule × ℕ)). All (IsTraced t) rs) trace c.constraints.ensures (none_says _ _ _ c.in_default-2.is c.in_ok-n-2.ensures) in
    let constraints_oriented : All (IsOriented a.cert) a.constraints = subst₂ (λ (k : Certificate) (rs : List (Rule × ℕ)). All (IsOriented k) rs) c.cert.ensures c.constraints-2.ensures c.in_default-first_unoriented.ensures in
    let n = c.in-Some-first_unoriented-2.n in
    ((((steps, traced), constraints_traced), constraints_oriented), subst₂ (λ (k : Certificate) (rs : List (Rule × ℕ)). FailsFirst (IsOriented k) (λ r. IsOriented k r → ⊥) rs n) c.cert-2.ensures c.rules-2.ensures c.in-Some-first_unoriented-2.ensures)

pub returns-in-Some-3-clause-verdict : goal.returns-in-Some-3-clause-verdict
returns-in-Some-3-clause-verdict c =
    let a = c.args.a.now in
    let steps = subst₂ IsRightTrace (ap (λ (p : Problem). p.equations) c.problem.ensures.problem) c.trace.ensures c.in-Ok.ensures.right in
    let trace : c.steps-steps.result.now ≡ a.trace = c.steps-steps.ensures ∙ c.trace-2.ensures in
    let traced : All (IsTraced a.trace) a.rules = subst₂ (λ (t : List TraceStep) (rs : List (Rule × ℕ)). All (IsTraced t) rs) trace c.rules.ensures (none_says _ _ _ c.in_default.is c.in_ok-n.ensures) in
    let constraints_traced : All (IsTraced a.trace) a.constraints = subst₂ (λ (t : List TraceStep) (rs : List (Rule × ℕ)). All (IsTraced t) rs) trace c.constraints.ensures (none_says _ _ _ c.in_default-2.is c.in_ok-n-2.ensures) in
    let constraints_oriented : All (IsOriented a.cert) a.constraints = subst₂ (λ (k : Certificate) (rs : List (Rule × ℕ)). All (IsOriented k) rs) c.cert.ensures c.constraints-2.ensures c.in_default-first_unoriented.ensures in
    let oriented : All (IsOriented a.cert) a.rules = subst₂ (λ (k : Certificate) (rs : List (Rule × ℕ)). All (IsOriented k) rs) c.cert-2.ensures c.rules-2.ensures c.in_default-first_unoriented-2.ensures in
    let made = c.in_ok-rules.ensures ∙ ap rules_of c.rules-3.ensures in
    let f = c.in-Some-3.failure in
    let n = c.in-Some-3.n in
    let unclosed : FirstUnclosed c.in_ok-system.system f n = some_says _ (f, n) _ (λ (f : Failure × ℕ). FirstUnclosed c.in_ok-system.system f.0 f.1) c.in-Some-3.is c.in_ok-failure.ensures in
    subst (λ (r : Reject). IsRejected a r n) (sym c.pair_reject.ensures)
    (pair_rejected a f n ((((steps, traced), constraints_traced), constraints_oriented), oriented) (subst (λ (rs : List Rule). FirstUnclosed rs f n) (c.in_ok-system.ensures ∙ c.deref.ensures.value ∙ made) unclosed))

pub returns-in-Some-4-clause-verdict : goal.returns-in-Some-4-clause-verdict
returns-in-Some-4-clause-verdict c =
    let a = c.args.a.now in
    let steps = subst₂ IsRightTrace (ap (λ (p : Problem). p.equations) c.problem.ensures.problem) c.trace.ensures c.in-Ok.ensures.right in
    let trace : c.steps-steps.result.now ≡ a.trace = c.steps-steps.ensures ∙ c.trace-2.ensures in
    let traced : All (IsTraced a.trace) a.rules = subst₂ (λ (t : List TraceStep) (rs : List (Rule × ℕ)). All (IsTraced t) rs) trace c.rules.ensures (none_says _ _ _ c.in_default.is c.in_ok-n.ensures) in
    let constraints_traced : All (IsTraced a.trace) a.constraints = subst₂ (λ (t : List TraceStep) (rs : List (Rule × ℕ)). All (IsTraced t) rs) trace c.constraints.ensures (none_says _ _ _ c.in_default-2.is c.in_ok-n-2.ensures) in
    let constraints_oriented : All (IsOriented a.cert) a.constraints = subst₂ (λ (k : Certificate) (rs : List (Rule × ℕ)). All (IsOriented k) rs) c.cert.ensures c.constraints-2.ensures c.in_default-first_unoriented.ensures in
    let oriented : All (IsOriented a.cert) a.rules = subst₂ (λ (k : Certificate) (rs : List (Rule × ℕ)). All (IsOriented k) rs) c.cert-2.ensures c.rules-2.ensures c.in_default-first_unoriented-2.ensures in
    let made = c.in_ok-rules.ensures ∙ ap rules_of c.rules-3.ensures in
    let closes : OverlapsClose c.in_ok-system.system = none_says _ _ (λ (f : Failure × ℕ). FirstUnclosed c.in_ok-system.system f.0 f.1) c.in_default-3.is c.in_ok-failure.ensures in
    let closed = subst OverlapsClose (c.in_ok-system.ensures ∙ c.deref.ensures.value ∙ made) closes in
    let equations = c.equations.ensures ∙ ap (λ (p : Problem). p.equations) c.problem-2.ensures.problem in
    let rules = c.in_ok-system.system in
    let es = equations_of_list c.equations.result.now in
    let f = c.in-Some-4.failure in
    let n = c.in-Some-4.n in
    let unproved : FailsFirst (IsProved rules) (FailsToProve rules f) es n = some_says _ (f, n) _ (λ (f : Failure × ℕ). FailsFirst (IsProved rules) (FailsToProve rules f.0) es f.1) c.in-Some-4.is c.in_ok-failure-2.ensures in
    subst (λ (r : Reject). IsRejected a r n) (sym c.equation_reject.ensures)
    (equation_rejected a f n (((((steps, traced), constraints_traced), constraints_oriented), oriented), closed) (subst₂ (λ (rs : List Rule) (xs : List (Tree × Tree)). FailsFirst (IsProved rs) (FailsToProve rs f) xs n) (c.in_ok-system.ensures ∙ c.deref.ensures.value ∙ made) equations unproved))

pub returns-clause-verdict : goal.returns-clause-verdict
returns-clause-verdict c =
    let a = c.args.a.now in
    let steps = subst₂ IsRightTrace (ap (λ (p : Problem). p.equations) c.problem.ensures.problem) c.trace.ensures c.in-Ok.ensures.right in
    let trace : c.steps-steps.result.now ≡ a.trace = c.steps-steps.ensures ∙ c.trace-2.ensures in
    let traced : All (IsTraced a.trace) a.rules = subst₂ (λ (t : List TraceStep) (rs : List (Rule × ℕ)). All (IsTraced t) rs) trace c.rules.ensures (none_says _ _ _ c.in_default.is c.in_ok-n.ensures) in
    let constraints_traced : All (IsTraced a.trace) a.constraints = subst₂ (λ (t : List TraceStep) (rs : List (Rule × ℕ)). All (IsTraced t) rs) trace c.constraints.ensures (none_says _ _ _ c.in_default-2.is c.in_ok-n-2.ensures) in
    let constraints_oriented : All (IsOriented a.cert) a.constraints = subst₂ (λ (k : Certificate) (rs : List (Rule × ℕ)). All (IsOriented k) rs) c.cert.ensures c.constraints-2.ensures c.in_default-first_unoriented.ensures in
    let oriented : All (IsOriented a.cert) a.rules = subst₂ (λ (k : Certificate) (rs : List (Rule × ℕ)). All (IsOriented k) rs) c.cert-2.ensures c.rules-2.ensures c.in_default-first_unoriented-2.ensures in
    let made = c.in_ok-rules.ensures ∙ ap rules_of c.rules-3.ensures in
    let closes : OverlapsClose c.in_ok-system.system = none_says _ _ (λ (f : Failure × ℕ). FirstUnclosed c.in_ok-system.system f.0 f.1) c.in_default-3.is c.in_ok-failure.ensures in
    let closed = subst OverlapsClose (c.in_ok-system.ensures ∙ c.deref.ensures.value ∙ made) closes in
    let equations = c.equations.ensures ∙ ap (λ (p : Problem). p.equations) c.problem-2.ensures.problem in
    let rules = c.in_ok-system.system in
    let es = equations_of_list c.equations.result.now in
    let proved : All (IsProved rules) es = none_says _ _ (λ (f : Failure × ℕ). FailsFirst (IsProved rules) (FailsToProve rules f.0) es f.1) c.in_default-4.is c.in_ok-failure-2.ensures in
    record {
      steps = steps;
      citations = traced;
      constraint_citations = constraints_traced;
      constraints = constraints_oriented;
      orders = oriented;
      overlaps = closed;
      equations = subst₂ (λ (rs : List Rule) (xs : List (Tree × Tree)). All (IsProved rs) xs) (c.in_ok-system.ensures ∙ c.deref.ensures.value ∙ made) equations proved;
    }

pub returns-clause-good : goal.returns-clause-good
returns-clause-good c e = accepted_is_good c.args.a.now c.problem.ensures.kept (returns-clause-verdict c)
