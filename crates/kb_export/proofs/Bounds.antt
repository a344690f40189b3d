-- The greatest variable of terms.
use Rattle.std.proofs.Common.{ℕ, zero, suc, ◌≡◌, ◌≤◌, ◌<◌, arith, length, refl, subst, List, [], ◌∷◌, All}
use Rattle.std.proofs.lemmas.List.{length-map}
use Rattle.kb_term.specs.Pair.{Pair}
use Rattle.kb_term.specs.Rule.{Rule, IsRuleBelow}
use Rattle.kb_term.specs.Signature.{Signature, IsEquationWithinLimits, IsWithinLimits}
use Rattle.kb_term.specs.Tree.{Tree, variables_of}
use Rattle.kb_term.proofs.Bounded.{AreBelow, IsLeastBound}
use Rattle.kb_term.proofs.RuleBelow.{numbered-below}
use Rattle.kb_checker.specs.Answers.{Answer, IsAnswer, IsRuleForm}
use Rattle.kb_export.specs.RuleTexts.{bound_of, rules_problem, sides_of, variable_bound_of}

-- each member is below the bound
pub within_bound : (ns : List ℕ) → AreBelow (bound_of ns) ns
within_bound [] n (k, h, e) = absurd (omega (arith, h))
within_bound (m ∷ ns) n (zero, h, e) = let d : m ≡ n = e in omega (arith, d)
within_bound (m ∷ ns) n (suc k, h, e) = let l = within_bound ns n (k, omega (arith, h), e) in omega (arith, l)

-- no other bound is less
pub bound_least : (ns : List ℕ) (b : ℕ) → AreBelow b ns → bound_of ns ≤ b
bound_least [] b h = omega arith
bound_least (n ∷ ns) b h =
    let l : n < b = h n (0, omega arith, refl) in
    omega (arith, l, bound_least ns b (λ m c. h m (suc c.0, omega (arith, c.1), c.2)))

pub one_bound : (m : ℕ) (ns : List ℕ) → IsLeastBound m ns → m ≡ bound_of ns
one_bound m ns h =
    let up : m ≤ bound_of ns = (h (bound_of ns)).1 (within_bound ns) in
    let down : bound_of ns ≤ m = bound_least ns m ((h m).0 (omega arith)) in
    omega (arith, up, down)

-- the variables of an equation within the limits are below 64
pub equation_below : (signature : Signature) (e : Tree × Tree) → IsEquationWithinLimits signature e → IsRuleBelow 64 (record { left = e.0; right = e.1 })
equation_below signature e w = subst (λ (p : Pair). IsRuleBelow 64 (record { left = p.first; right = p.second })) w.by_occurrence (numbered-below e.0 e.1 64 w.variables)

pub equations_small : (signature : Signature) (es : List (Tree × Tree)) → All (IsEquationWithinLimits signature) es → variable_bound_of es ≤ 64
equations_small signature [] h = omega arith
equations_small signature (e ∷ es) h =
    let b = equation_below signature e (h 0 e (omega arith)) in
    omega (arith, bound_least (variables_of e.0) 64 b.left, bound_least (variables_of e.1) 64 b.right, equations_small signature es (λ k d l. h (suc k) d (omega (arith, l))))

-- the rules of an answer are equations within the limits
pub sides_within : (signature : Signature) (rules : List (Rule × ℕ)) → All (IsRuleForm signature) rules → All (IsEquationWithinLimits signature) (sides_of rules)
sides_within signature [] h k d l = absurd (omega (arith, l))
sides_within signature (r ∷ rules) h zero d l = (h 0 r (omega arith)).sides
sides_within signature (r ∷ rules) h (suc k) d l = sides_within signature rules (λ k d l. h (suc k) d (omega (arith, l))) k d (omega (arith, l))

pub rules_within : (a : Answer) → IsAnswer a → length a.rules ≤ 256 → IsWithinLimits (rules_problem a)
rules_within a form few = record {
  symbols = form.problem.symbols;
  arities = form.problem.arities;
  count = omega (arith, few, length-map {B = Tree × Tree} a.rules (λ (r : Rule × ℕ). (r.0.left, r.0.right)));
  each = sides_within a.problem.signature a.rules form.rules;
}
