-- What the laws ask can be met: f(x) -> x over the signature of f, as one rule and as a state of a run.
use Rattle.std.proofs.Common.{◌⊎◌, ⊎_elim, inl, inr, refl, sym, subst, arith, [], ◌∷◌}
use Rattle.kb_lemmas.proofs.Membership.{all_one, contains_cases, contains_first}
use Rattle.kb_term.specs.Tree.{Tree, variable}
use Rattle.kb_term.specs.Pair.{IsSameEquation}
use Rattle.kb_term.specs.Rule.{Rule, IsVariantRule}
use Rattle.kb_term.specs.Signature.{Signature}
use Rattle.kb_term.proofs.PairRows.{one}
use Rattle.kb_lpo.specs.PathOrder.{LpoGreater, argument_equal}
use Rattle.kb_cert.specs.declared.certificate.Certificate.{Certificate}
use Rattle.kb_cert.specs.declared.certificate.Certificate.TheVariants.{Lpo}
use Rattle.kb_cert.specs.Family.{Orders}
use Rattle.kb_cert.proofs.FamilyLaws.{first_member}
use Rattle.kb_laws.specs.Completion.{KbState, KbStep, orient, Has, Gains, IsKbRun, kb_start}
use Rattle.kb_laws.specs.Runs.{IsEquationOver}
use Rattle.kb_laws.specs.Complete.{IsCompleteSystem, IsLoneRule, problem_of}
use Rattle.kb_laws.proofs.LoneRule.{lone_joins, lone_rule_is_system}
use Rattle.kb_laws.proofs.Stated.{complete_state_is_system}

abbrev f-only : Signature
f-only = record { name = 102 ∷ []; arity = 1 } ∷ []

abbrev f-rule : Rule
f-rule = record { left = one 0 (variable 0); right = variable 0 }

abbrev f-equation : Tree × Tree
f-equation = (one 0 (variable 0), variable 0)

abbrev f-order : Certificate
f-order = Lpo (0 ∷ [])

f-ordered : Orders f-order (f-rule ∷ [])
f-ordered = all_one (λ (r : Rule). LpoGreater (0 ∷ []) r.left r.right) f-rule (argument_equal (contains_first (variable 0) []))

f-lone : IsLoneRule f-only f-order f-rule
f-lone = record { over = ((refl, (tt, tt)), tt); member = first_member f-only; ordered = f-ordered; no_overlap = refl }

-- the rule is a complete system for x = f(x)
pub f-system : IsCompleteSystem (problem_of f-only (variable 0, one 0 (variable 0))) f-order (f-rule ∷ [])
f-system = lone_rule_is_system f-only f-order f-rule (variable 0, one 0 (variable 0)) f-lone (inr ((λ n. n), (λ n. n), record { there = refl; back_again = refl }, record { there = refl; back_again = refl }))

-- the list of one member is the empty one and that member
pub gains_one : {X : Type 0} (Same : X → X → Type 0) (x : X) → Gains Same [] (x ∷ []) x
gains_one {X} Same x y = (there, back)
  where
    there : Has Same [] y ⊎ Same x y → Has Same (x ∷ []) y
    there (inl (z, c, s)) = absurd (omega arith)
    there (inr s) = (x, contains_first x [], s)

    back : Has Same (x ∷ []) y → Has Same [] y ⊎ Same x y
    back (z, c, s) = ⊎_elim (λ q. inr (subst (λ w. Same w y) (sym q) s)) (λ k. absurd (omega arith)) (contains_cases x [] z c)

abbrev f-state : KbState
f-state = record { equations = []; rules = f-rule ∷ []; constraints = f-rule ∷ [] }

f-step : KbStep f-only (kb_start (problem_of f-only f-equation)) f-state
f-step = orient (one 0 (variable 0)) (variable 0) (f-order, first_member f-only, f-ordered)
    (gains_one IsSameEquation f-equation, λ h. absurd (let c = h.1 in omega arith))
    (gains_one IsVariantRule f-rule) (gains_one IsVariantRule f-rule)

f-run : IsKbRun (problem_of f-only f-equation) (f-state ∷ [])
f-run = ((f-state ∷ [], f-state, (f-step, refl), record { equations = λ y. ((λ h. h), (λ h. h)); rules = λ y. ((λ h. h), (λ h. h)); constraints = λ y. ((λ h. h), (λ h. h)) }), tt)

-- orienting f(x) = x leads to a complete state
pub f-completed : IsCompleteSystem (problem_of f-only f-equation) f-order (f-rule ∷ [])
f-completed = complete_state_is_system (problem_of f-only f-equation) (f-state ∷ []) f-order f-state (record {
  run = f-run;
  over = all_one (IsEquationOver f-only) f-equation ((refl, (tt, tt)), tt);
  reached = contains_first f-state [];
  no_equations = refl;
  member = first_member f-only;
  ordered = f-ordered;
  joinable = lone_joins f-rule refl;
})
