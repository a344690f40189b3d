-- The reduced system of an answer: right sides are normalised, and then rules are left out whose left sides other rules rewrite.
use Rattle.std.specs.Prelude.{ℕ, ◌+◌, ◌-◌, ◌≤◌, ◌≡◌, ◌⊎◌, cond, List, [], ◌∷◌, ◌++◌, length, All, Some, None, slice_get, false}
use Rattle.kb_term.specs.Tree.{Tree}
use Rattle.kb_term.specs.Pair.{canonical, term_limit}
use Rattle.kb_term.specs.Rule.{Rule, rule_between, pair_of_rule}
use Rattle.kb_term.specs.TermOrder.{pair_eq}
use Rattle.kb_term.specs.Proving.{RewritesAt}
use Rattle.kb_term.specs.declared.origin.Origin.TheVariants.{Rewrite}
use Rattle.kb_rewrite.specs.NormalForm.{IsFirstRedex, HasRedex, IsNormal, NormalisesTo, form}
use Rattle.kb_overlap.specs.Trace.{TraceStep}
use Rattle.kb_checker.specs.Answers.{Answer, rules_of}
use Rattle.kb_term.specs.declared.limits.TheConstants.{MAX_NODES}

-- ---- right sides

-- the direction in which a rule reads its canonical pair: 0 where the pair has its left side first
abbrev pub direction_of : Rule → ℕ
direction_of rule = cond (pair_eq (pair_of_rule rule) (record { first = rule.left; second = rule.right })) 0 1

-- the step that rewrites the right side of a rule at p, by another rule, to u; each rule comes with the step that it cites
abbrev pub rewriting : Rule × ℕ → List ℕ → Rule × ℕ → Tree → TraceStep
rewriting from p by u = record {
  origin = Rewrite from.1 (1 - direction_of from.0) p (record { node = by.1; dir = direction_of by.0 });
  pair = canonical from.0.left u;
}

-- the rule with another right side, which cites another step
abbrev pub with_right : Rule × ℕ → Tree → ℕ → Rule × ℕ
with_right from u k = (rule_between from.0.left u, k)

-- the strategy rewrites the right side of the rule to u, which passes no limit, and this is its trace step
pub record IsRewriting (rules : List (Rule × ℕ)) (from : Rule × ℕ) (step : TraceStep) (u : Tree) : Type 0 where
  pub position : List ℕ
  pub index : ℕ
  pub by : Rule × ℕ
  pub there : slice_get rules index ≡ Some by
  pub first : IsFirstRedex (rules_of rules) false from.0.right position index
  pub rewrites : RewritesAt by.0 position from.0.right u
  pub within : term_limit u ≡ None
  pub told : step ≡ rewriting from position by u

-- step by step the strategy rewrites the right side of the one rule to that of the other, which cites the last step; n steps stand before these ones
abbrev pub AreRewritings : List (Rule × ℕ) → ℕ → List TraceStep → Rule × ℕ → Rule × ℕ → Type 0
AreRewritings rules n [] from to = from ≡ to
AreRewritings rules n (step ∷ steps) from to = (u : Tree) × IsRewriting rules from step u × AreRewritings rules (n + 1) steps (with_right from u (n + 1)) to

-- these steps lead to the rule whose right side is the normal form
pub record IsComposed (rules : List (Rule × ℕ)) (n : ℕ) (from : Rule × ℕ) (steps : List TraceStep) (to : Rule × ℕ) : Type 0 where
  pub rewritings : AreRewritings rules n steps from to
  pub normal : NormalisesTo (rules_of rules) from.0.right (form to.0.right (length steps))

-- so for each rule of the first list, in order, with the steps of all
abbrev pub AreComposed : List (Rule × ℕ) → ℕ → List (Rule × ℕ) → List TraceStep → List (Rule × ℕ) → Type 0
AreComposed rules n [] steps tos = (steps ≡ []) × (tos ≡ [])
AreComposed rules n (from ∷ froms) steps tos =
    (first rest : List TraceStep) × (to : Rule × ℕ) × (others : List (Rule × ℕ)) × (steps ≡ first ++ rest) × (tos ≡ to ∷ others)
    × IsComposed rules n from first to × AreComposed rules (n + length first) froms rest others

-- ---- left sides

-- a rule of the list has a redex in the left side of the rule
abbrev pub IsCovered : List (Rule × ℕ) → Rule × ℕ → Type 0
IsCovered rules r = HasRedex (rules_of rules) r.0.left

-- what is left of some rules behind those that stay: in order, each is left out that another one which is still there covers
abbrev pub IsThinned : List (Rule × ℕ) → List (Rule × ℕ) → List (Rule × ℕ) → Type 0
IsThinned kept [] left = left ≡ kept
IsThinned kept (r ∷ rules) left = (IsCovered (kept ++ rules) r × IsThinned kept rules left) ⊎ (¬ IsCovered (kept ++ rules) r × IsThinned (kept ++ r ∷ []) rules left)

-- ---- the answer

-- the answer b is a with its rules reduced and with the steps that show it behind its trace, all others the same
pub record IsReduced (a b : Answer) : Type 0 where
  pub steps : List TraceStep
  pub composed : List (Rule × ℕ)
  pub are_composed : AreComposed a.rules (length a.trace) a.rules steps composed
  pub room : length a.trace + length steps ≤ MAX_NODES
  pub thinned : IsThinned [] composed b.rules
  pub trace : b.trace ≡ a.trace ++ steps
  pub problem : b.problem ≡ a.problem
  pub constraints : b.constraints ≡ a.constraints
  pub cert : b.cert ≡ a.cert

-- each right side is normal by the rules, and each left side by the other rules
pub record IsReducedSystem (rules : List (Rule × ℕ)) : Type 0 where
  pub rights : All (λ (r : Rule × ℕ). IsNormal (rules_of rules) r.0.right) rules
  pub lefts : (before after : List (Rule × ℕ)) (r : Rule × ℕ) → rules ≡ before ++ r ∷ after → IsNormal (rules_of (before ++ after)) r.0.left

-- the answer b has the problem, the certificate and the constraints of a, and goes on with its trace
abbrev pub KeepsAllButRules : Answer → Answer → Type 0
KeepsAllButRules a b =
    (b.problem ≡ a.problem) × (b.cert ≡ a.cert) × (b.constraints ≡ a.constraints) × ((more : List TraceStep) × (b.trace ≡ a.trace ++ more))
