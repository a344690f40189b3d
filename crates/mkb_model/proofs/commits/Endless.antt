-- Rules that halt on a term rewrite it to no instance of itself, and none of them its own right side.
use Rattle.std.proofs.Common.{ℕ, zero, suc, ◌≤◌, ◌≡◌, ◌≢◌, refl, sym, ap, ◌∙◌, subst, arith, List, [], ◌∷◌, length, Contains, ⊎_elim}
use Rattle.kb_lemmas.proofs.Membership.{contains_cases, contains_first, none_in}
use Rattle.kb_term.specs.Tree.{Tree, Trees, variable, apply, more_trees}
use Rattle.kb_term.specs.Substitution.{instance}
use Rattle.kb_term.specs.Rule.{Rule}
use Rattle.kb_term.specs.Proving.{RewritesAt, Step, IsChain, Halts}
use Rattle.kb_laws.proofs.Renamings.{rewrites_instance}
use Rattle.kb_term.proofs.Instances.{instance-instance, instance-variable}
use Rattle.kb_term.proofs.Steps as Positioned
use Rattle.kb_term.proofs.Steps.{StepIn, at_root, inside, here, there}
use Rattle.kb_term.proofs.Relation.{Steps}
use Rattle.kb_term.proofs.Bridge.{step_from_position, halts_from}

pub step_instance : (rules : List Rule) (d : ℕ → Tree) (t u : Tree) → Step rules t u → Step rules (instance d t) (instance d u)
step_instance rules d t u (rule, i, p, h) = (rule, i, p, rewrites_instance d rule p t u h)

-- where a term is rewritten to an instance of itself, chains of any length begin at each instance
chains : (rules : List Rule) (s u : Tree) (m : ℕ → Tree) → Step rules s u → u ≡ instance m s → (n : ℕ) (d : ℕ → Tree) → (path : List Tree) × (v : Tree) × IsChain rules path (instance d s) v × (length path ≡ n)
chains rules s u m h e zero d = ([], instance d s, refl, refl)
chains rules s u m h e (suc n) d =
    let r = chains rules s u m h e n (λ x. instance d (m x)) in
    (instance d u ∷ r.0, r.1, (step_instance rules d s u h, subst {A = Tree} (λ z. IsChain rules r.0 z r.1) (sym (ap (instance d) e ∙ instance-instance d m s)) r.2), ap suc r.3)

pub never_instance : (rules : List Rule) (s u : Tree) (m : ℕ → Tree) → Halts rules s → Step rules s u → u ≢ instance m s
never_instance rules s u m halts h e =
    let r = chains rules s u m h e (suc halts.0) variable in
    let l : length r.0 ≤ halts.0 = halts.1 r.0 r.1 (subst {A = Tree} (λ z. IsChain rules r.0 z r.1) (instance-variable s) r.2) in
    let k : length r.0 ≡ suc halts.0 = r.3 in
    absurd (omega (arith, l, k))

-- ---- a rule and its own right side

module _ (rule : Rule) (p : List ℕ) (v : Tree) (again : RewritesAt rule p rule.right v) where
  -- where the rule rewrites its own right side, each step by it is followed by another
  mutual
    next : {t u : Tree} → Positioned.Step (Contains (rule ∷ [])) t u → (w : Tree) × Positioned.Step (Contains (rule ∷ [])) u w
    next (at_root (r, m, i, e, d)) = (
      instance m v,
      subst {A = Tree} (λ z. Positioned.Step (Contains (rule ∷ [])) z (instance m v)) (sym (d ∙ ap (λ (z : Rule). instance m z.right) (⊎_elim (λ q. sym q) (λ k. none_in k) (contains_cases rule [] r i))))
          (step_from_position (Contains (rule ∷ [])) (instance m rule.right) (instance m v) (rule, contains_first rule [], p, rewrites_instance m rule p rule.right v again)),
    )
    next (inside {f = f} h) = let r = next_in h in (apply f r.0, inside r.1)

    next_in : {ts us : Trees} → StepIn (Contains (rule ∷ [])) ts us → (ws : Trees) × StepIn (Contains (rule ∷ [])) us ws
    next_in (here {ts = ts} h) = let r = next h in (more_trees r.0 ts, here r.1)
    next_in (there {t = t} h) = let r = next_in h in (more_trees t r.0, there r.1)

  long : (n : ℕ) (t u : Tree) → Positioned.Step (Contains (rule ∷ [])) t u → (w : Tree) × Steps (Positioned.Step (Contains (rule ∷ []))) n t w
  long zero t u h = (t, refl)
  long (suc n) t u h = let k = next h in let r = long n u k.0 k.1 in (r.0, (u, h, r.1))

path_more : (rule : Rule) (rules : List Rule) → Contains rules rule → (path : List Tree) (t u : Tree) → IsChain (rule ∷ []) path t u → IsChain rules path t u
path_more rule rules i [] t u e = e
path_more rule rules i (v ∷ path) t u (h, k) = ((h.0, subst {A = Rule} (Contains rules) (⊎_elim (λ q. q) (λ z. none_in z) (contains_cases rule [] h.0 h.1)) i, h.2, h.3), path_more rule rules i path v u k)

-- a rule that halts on its left side doesn't rewrite its right side
pub right_irreducible : (rules : List Rule) (rule : Rule) → Contains rules rule → Halts rules rule.left → (p : List ℕ) (v : Tree) → ¬ RewritesAt rule p rule.right v
right_irreducible rules rule i halts p v again =
    let own : Halts (rule ∷ []) rule.left = (halts.0, λ path u c. halts.1 path u (path_more rule rules i path rule.left u c)) in
    let bound = halts_from (rule ∷ []) rule.left own in
    let root : Positioned.Step (Contains (rule ∷ [])) rule.left rule.right = at_root (rule, variable, contains_first rule [], sym (instance-variable rule.left), sym (instance-variable rule.right)) in
    let r = long rule p v again (suc bound.0) rule.left rule.right root in
    let l : suc bound.0 ≤ bound.0 = bound.1 (suc bound.0) r.0 r.1 in
    absurd (omega (arith, l))
