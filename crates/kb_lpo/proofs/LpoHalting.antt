-- What a path order orders halts.
use Rattle.std.proofs.Common.{ℕ, zero, suc, ◌≤◌, ◌<◌, arith, List, [], ◌∷◌, All, Contains, max, length, get_or, le_of_suc-le-suc}
use Rattle.std.proofs.lemmas.List.Elements.{All-contains}
use Rattle.kb_term.specs.Tree.{Tree, tree_depth}
use Rattle.kb_term.proofs.Relation.{Halts}
use Rattle.kb_term.specs.Rule.{Rule}
use Rattle.kb_term.proofs.Steps.{IsWellFormed, Step}
use Rattle.kb_lpo.proofs.Lpo.{PathGreater}
use Rattle.kb_term.proofs.Chains.{Bounded, halts_from_bounded}
use Rattle.kb_lpo.proofs.WellFormed.{IsSound, step_well}
use Rattle.kb_lpo.proofs.LpoBelow.{Below, below_from_lpo, step_below}
use Rattle.kb_lpo.proofs.LpoBound.{Lower, term_bound}

-- no right side is deeper
abbrev rules_depth : List Rule → ℕ
rules_depth [] = 0
rules_depth (r ∷ rs) = max (tree_depth r.right) (rules_depth rs)

rule_depth : (rs : List Rule) (k : ℕ) (d : Rule) → k < length rs → tree_depth (get_or rs k d).right ≤ rules_depth rs
rule_depth [] k d h = absurd (omega arith)
rule_depth (r ∷ rs) zero d h = omega arith
rule_depth (r ∷ rs) (suc k) d h = let i = rule_depth rs k d (le_of_suc-le-suc h) in omega arith

steps_bounded : (a : ℕ → ℕ) (fs p : List ℕ) (K : ℕ) (rules : Rule → Type 0) → ((r : Rule) → rules r → IsSound a fs r) → ((r : Rule) → rules r → Below p (suc K) (suc K) r.left r.right) → (n : ℕ) (t : Tree) → IsWellFormed a fs t → Bounded (Lower a fs p (suc K)) n t → Bounded (Step rules) n t
steps_bounded a fs p K rules sound all zero t w b = λ u h. b u (step_below p K rules all h, step_well a fs rules sound h w)
steps_bounded a fs p K rules sound all (suc n) t w b = λ u h. let v = step_well a fs rules sound h w in steps_bounded a fs p K rules sound all n u v (b u (step_below p K rules all h, v))

-- rules that a path order orders halt on every well-formed term
pub lpo_halts : (a : ℕ → ℕ) (fs p : List ℕ) (rules : List Rule) → All (IsSound a fs) rules → All (λ r. PathGreater p r.left r.right) rules → (t : Tree) → IsWellFormed a fs t → Halts (Step (Contains rules)) t
lpo_halts a fs p rules sound all t w =
    let K : ℕ = rules_depth rules in
    let b = term_bound a fs p (suc K) t w in
    let below : All (λ r. Below p (suc K) (suc K) r.left r.right) rules = λ k d h. let e = rule_depth rules k d h in below_from_lpo p (suc K) (all k d h) (suc K) (omega arith) (omega arith) in
    halts_from_bounded (Step (Contains rules)) b.0 t (steps_bounded a fs p K (Contains rules) (λ r i. All-contains (IsSound a fs) rules r sound i) (λ r i. All-contains (λ x. Below p (suc K) (suc K) x.left x.right) rules r below i) b.0 t w b.1)
