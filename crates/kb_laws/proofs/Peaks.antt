-- Where two steps from one term part, and how they come together.
use Rattle.std.proofs.Common.{ℕ, suc, ◌≡◌, ◌⊎◌, inl, inr, refl, sym, ap, ◌∙◌, subst, List, [], ◌∷◌, Some, option_map, cond, ◌==◌, eqb-true}
use Rattle.std.proofs.lemmas.Bool.{cond_both, cond-true, eq-eqb}
use Rattle.kb_term.specs.Tree.{Tree, variable, apply, Trees, no_trees, more_trees}
use Rattle.kb_term.proofs.Relation.{Reaches, IsJoinable}
use Rattle.kb_term.specs.Substitution.{instance, instances}
use Rattle.kb_term.specs.Rule.{Rule}
use Rattle.kb_term.proofs.Steps.{Occurs, RootStep, Step, StepIn, at_root, inside, here, there}
use Rattle.kb_term.proofs.Subterms.{subterm_at, argument_at, replace_at, replace_in, IsApplied}
use Rattle.kb_term.proofs.StepsInside.{reaches_inside, reaches_here, reaches_there, reaches_more, reaches-instance}
use Rattle.kb_term.proofs.Instances.{agree_at, instance-agree, rules_decide}
use Rattle.kb_term.proofs.Chains.{reaches_refl, reaches_eq, reaches_one, reaches_trans, joinable_sym}

-- where a substitution's terms go on by chains, so do instances of lists
reaches-instances : (rules : Rule → Type 0) (m k : ℕ → Tree) → ((x : ℕ) → Reaches (Step rules) (m x) (k x)) → (ts : Trees) → Reaches (StepIn rules) (instances m ts) (instances k ts)
reaches-instances rules m k h no_trees = reaches_refl (StepIn rules) no_trees
reaches-instances rules m k h (more_trees t ts) = reaches_more rules (instance m t) (instance k t) (instances m ts) (instances k ts) (reaches-instance rules m k h t) (reaches-instances rules m k h ts)

-- a step at a position of l at which no variable stands
abbrev pub Meets : (Rule → Type 0) → Tree → (ℕ → Tree) → Tree → Type 0
Meets rules l m s = (p : List ℕ) × (u : Tree) × (v : Tree) × subterm_at l p ≡ Some u × IsApplied u × RootStep rules (instance m u) v × replace_at (instance m l) p v ≡ Some s

abbrev MeetsIn : (Rule → Type 0) → Trees → (ℕ → Tree) → Trees → Type 0
MeetsIn rules ls m ss = (k : ℕ) × (p : List ℕ) × (u : Tree) × (v : Tree) × argument_at ls (suc k) p ≡ Some u × IsApplied u × RootStep rules (instance m u) v × replace_in (instances m ls) (suc k) p v ≡ Some ss

-- a step in what the substitution gives for a variable, which is made up for at its other places
abbrev pub Absorbed : (Rule → Type 0) → Tree → (ℕ → Tree) → Tree → Type 0
Absorbed rules l m s = (k : ℕ → Tree) × ((x : ℕ) → Reaches (Step rules) (m x) (k x)) × Reaches (Step rules) s (instance k l)

abbrev AbsorbedIn : (Rule → Type 0) → Trees → (ℕ → Tree) → Trees → Type 0
AbsorbedIn rules ls m ss = (k : ℕ → Tree) × ((x : ℕ) → Reaches (Step rules) (m x) (k x)) × Reaches (StepIn rules) ss (instances k ls)

-- the substitution with another term for one variable
abbrev put : (ℕ → Tree) → ℕ → Tree → ℕ → Tree
put m n s = λ x. cond (n == x) s (m x)

reaches_put : (rules : Rule → Type 0) (m : ℕ → Tree) (n : ℕ) (s : Tree) → Step rules (m n) s → (x : ℕ) → Reaches (Step rules) (m x) (put m n s x)
reaches_put rules m n s h x = cond_both (n == x) s (m x) (λ z. Reaches (Step rules) (m x) z)
    (λ e. subst (λ y. Reaches (Step rules) (m y) s) (eqb-true n x e) (reaches_one (Step rules) (m n) s h)) (λ e. reaches_refl (Step rules) (m x))

put_same : (m : ℕ → Tree) (n : ℕ) (s : Tree) → put m n s n ≡ s
put_same m n s = cond-true (n == n) s (m n) (eq-eqb n n refl)

whole : (rules : Rule → Type 0) (f : ℕ) (ls : Trees) (m : ℕ → Tree) (ss : Trees) → MeetsIn rules ls m ss ⊎ AbsorbedIn rules ls m ss → Meets rules (apply f ls) m (apply f ss) ⊎ Absorbed rules (apply f ls) m (apply f ss)
whole rules f ls m ss (inl (k, p, u, v, e, a, r, d)) = inl (suc k ∷ p, u, v, e, a, r, ap (option_map (apply f)) d)
whole rules f ls m ss (inr (k, h, c)) = inr (k, h, reaches_inside rules f ss (instances k ls) c)

first : (rules : Rule → Type 0) (l : Tree) (ls : Trees) (m : ℕ → Tree) (s : Tree) → Meets rules l m s ⊎ Absorbed rules l m s → MeetsIn rules (more_trees l ls) m (more_trees s (instances m ls)) ⊎ AbsorbedIn rules (more_trees l ls) m (more_trees s (instances m ls))
first rules l ls m s (inl (p, u, v, e, a, r, d)) = inl (0, p, u, v, e, a, r, ap (option_map (λ x. more_trees x (instances m ls))) d)
first rules l ls m s (inr (k, h, c)) = inr (k, h, reaches_more rules s (instance k l) (instances m ls) (instances k ls) c (reaches-instances rules m k h ls))

later : (rules : Rule → Type 0) (l : Tree) (ls : Trees) (m : ℕ → Tree) (ss : Trees) → MeetsIn rules ls m ss ⊎ AbsorbedIn rules ls m ss → MeetsIn rules (more_trees l ls) m (more_trees (instance m l) ss) ⊎ AbsorbedIn rules (more_trees l ls) m (more_trees (instance m l) ss)
later rules l ls m ss (inl (k, p, u, v, e, a, r, d)) = inl (suc k, p, u, v, e, a, r, ap (option_map (more_trees (instance m l))) d)
later rules l ls m ss (inr (k, h, c)) = inr (k, h, reaches_more rules (instance m l) (instance k l) ss (instances k ls) (reaches-instance rules m k h l) c)

mutual
  pub step_in_instance : (rules : Rule → Type 0) (l : Tree) (m : ℕ → Tree) (s : Tree) → Step rules (instance m l) s → Meets rules l m s ⊎ Absorbed rules l m s
  step_in_instance rules (variable n) m s h = inr (put m n s, reaches_put rules m n s h, reaches_eq (Step rules) s (put m n s n) (sym (put_same m n s)))
  step_in_instance rules (apply f ls) m s (at_root r) = inl ([], apply f ls, s, refl, tt, r, refl)
  step_in_instance rules (apply f ls) m s (inside {us = us} h) = whole rules f ls m us (step_in_instances rules ls m us h)

  step_in_instances : (rules : Rule → Type 0) (ls : Trees) (m : ℕ → Tree) (ss : Trees) → StepIn rules (instances m ls) ss → MeetsIn rules ls m ss ⊎ AbsorbedIn rules ls m ss
  step_in_instances rules no_trees m ss h = elim h [ ]
  step_in_instances rules (more_trees l ls) m ss (here {u = u} h) = first rules l ls m u (step_in_instance rules l m u h)
  step_in_instances rules (more_trees l ls) m ss (there {us = us} h) = later rules l ls m us (step_in_instances rules ls m us h)

-- every peak of a rule at the root and a rule at a position at which no variable stands is joinable, but for a rule with itself at the root
abbrev pub PeaksJoin : (Rule → Type 0) → Type 0
PeaksJoin rules = (A B : Rule) (p : List ℕ) (w : Tree) (m k : ℕ → Tree) (t : Tree) → rules A → rules B
    → subterm_at A.left p ≡ Some w → IsApplied w → instance m w ≡ instance k B.left
    → replace_at (instance m A.left) p (instance k B.right) ≡ Some t → (p ≡ [] → A ≡ B → ⊥)
    → IsJoinable (Step rules) (instance m A.right) t

subterm_at_root : (t w : Tree) → subterm_at t [] ≡ Some w → t ≡ w
subterm_at_root (variable n) w e = cc
subterm_at_root (apply f ts) w e = cc

replace_at_root : (t v u : Tree) → replace_at t [] v ≡ Some u → v ≡ u
replace_at_root (variable n) v u e = cc
replace_at_root (apply f ts) v u e = cc

-- a rule at the root, and any step
meets_joins : (rules : Rule → Type 0) → PeaksJoin rules → ((r : Rule) → rules r → (x : ℕ) → Occurs x r.right → Occurs x r.left) → (A : Rule) (m : ℕ → Tree) → rules A → (u : Tree) → Meets rules A.left m u → IsJoinable (Step rules) (instance m A.right) u
meets_joins rules join holds A m a u ([], w, v, e, i, (B, k, b, d, c), q) = go (rules_decide A B)
  where
    same : A ≡ B → instance m A.right ≡ u
    same h =
        let l : A.left ≡ w = subterm_at_root A.left w e in
        let j : instance m A.left ≡ instance k A.left = ap (instance m) l ∙ d ∙ ap (λ r. instance k r.left) (sym h) in
        instance-agree m k A.right (λ x o. agree_at m k A.left j x (holds A a x o))
        ∙ ap (λ r. instance k r.right) h ∙ sym c ∙ replace_at_root (instance m A.left) v u q

    go : (A ≡ B) ⊎ (A ≡ B → ⊥) → IsJoinable (Step rules) (instance m A.right) u
    go (inl h) = (u, reaches_eq (Step rules) (instance m A.right) u (same h), reaches_refl (Step rules) u)
    go (inr h) = join A B [] w m k u a b e i d (subst (λ x. replace_at (instance m A.left) [] x ≡ Some u) c q) (λ _. h)
meets_joins rules join holds A m a u (n ∷ p, w, v, e, i, (B, k, b, d, c), q) = join A B (n ∷ p) w m k u a b e i d (subst (λ x. replace_at (instance m A.left) (n ∷ p) x ≡ Some u) c q) (λ l. absurd (cc))

root_joins : (rules : Rule → Type 0) → PeaksJoin rules → ((r : Rule) → rules r → (x : ℕ) → Occurs x r.right → Occurs x r.left) → (s t u : Tree) → RootStep rules s t → Step rules s u → IsJoinable (Step rules) t u
root_joins rules join holds s t u (A, m, a, e, d) h = subst (λ x. IsJoinable (Step rules) x u) (sym d) (go (step_in_instance rules A.left m u (subst (λ x. Step rules x u) e h)))
  where
    go : Meets rules A.left m u ⊎ Absorbed rules A.left m u → IsJoinable (Step rules) (instance m A.right) u
    go (inl q) = meets_joins rules join holds A m a u q
    go (inr (k, c, r)) = (
      instance k A.right,
      reaches-instance rules m k c A.right,
      reaches_trans (Step rules) u (instance k A.left) (instance k A.right) r (reaches_one (Step rules) (instance k A.left) (instance k A.right) (at_root (A, k, a, refl, refl))),
    )

-- joinable arguments make joinable terms
joins_inside : (rules : Rule → Type 0) (f : ℕ) (ts us : Trees) → IsJoinable (StepIn rules) ts us → IsJoinable (Step rules) (apply f ts) (apply f us)
joins_inside rules f ts us (vs, c, d) = (apply f vs, reaches_inside rules f ts vs c, reaches_inside rules f us vs d)

joins_here : (rules : Rule → Type 0) (t u : Tree) (ts : Trees) → IsJoinable (Step rules) t u → IsJoinable (StepIn rules) (more_trees t ts) (more_trees u ts)
joins_here rules t u ts (v, c, d) = (more_trees v ts, reaches_here rules t v ts c, reaches_here rules u v ts d)

joins_there : (rules : Rule → Type 0) (t : Tree) (ts us : Trees) → IsJoinable (StepIn rules) ts us → IsJoinable (StepIn rules) (more_trees t ts) (more_trees t us)
joins_there rules t ts us (vs, c, d) = (more_trees t vs, reaches_there rules t ts vs c, reaches_there rules t us vs d)

joins_apart : (rules : Rule → Type 0) (t u : Tree) (ts us : Trees) → Step rules t u → StepIn rules ts us → IsJoinable (StepIn rules) (more_trees u ts) (more_trees t us)
joins_apart rules t u ts us h k = (more_trees u us, reaches_one (StepIn rules) (more_trees u ts) (more_trees u us) (there k), reaches_one (StepIn rules) (more_trees t us) (more_trees u us) (here h))

-- the critical pair lemma: where the peaks of rules join, any two steps from one term join
mutual
  pub steps_join : (rules : Rule → Type 0) → PeaksJoin rules → ((r : Rule) → rules r → (x : ℕ) → Occurs x r.right → Occurs x r.left) → {s t : Tree} (u : Tree) → Step rules s t → Step rules s u → IsJoinable (Step rules) t u
  steps_join rules join holds u (at_root {s = s} {t = t} r) k = root_joins rules join holds s t u r k
  steps_join rules join holds u (inside {f = f} {ts = ts} {us = us} h) (at_root r) = joinable_sym (Step rules) u (apply f us) (root_joins rules join holds (apply f ts) u (apply f us) r (inside h))
  steps_join rules join holds u (inside {f = f} {us = us} h) (inside {us = vs} k) = joins_inside rules f us vs (steps_in_join rules join holds vs h k)

  steps_in_join : (rules : Rule → Type 0) → PeaksJoin rules → ((r : Rule) → rules r → (x : ℕ) → Occurs x r.right → Occurs x r.left) → {ss ts : Trees} (us : Trees) → StepIn rules ss ts → StepIn rules ss us → IsJoinable (StepIn rules) ts us
  steps_in_join rules join holds us (here {u = t} {ts = ts} h) (here {u = u} k) = joins_here rules t u ts (steps_join rules join holds u h k)
  steps_in_join rules join holds us (here {t = t} {u = u} {ts = ts} h) (there {us = vs} k) = joins_apart rules t u ts vs h k
  steps_in_join rules join holds us (there {t = t} {ts = ts} {us = vs} h) (here {u = u} k) = joinable_sym (StepIn rules) (more_trees u ts) (more_trees t vs) (joins_apart rules t u ts vs k h)
  steps_in_join rules join holds us (there {t = t} {us = vs} h) (there {us = ws} k) = joins_there rules t vs ws (steps_in_join rules join holds ws h k)
