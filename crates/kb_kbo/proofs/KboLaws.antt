-- The Knuth-Bendix order is kept under substitutions and contexts; so what rules rewrite by ordered rules is ordered.
use Rattle.std.proofs.Common.{ℕ, zero, suc, ◌≤◌, ◌≡◌, inl, inr, ⊎_elim, refl, sym, ap, subst, subst₂, arith, [], ◌∷◌, Option, Some, None, option_map, option_and_then, Contains}
use Rattle.std.proofs.lemmas.Bool.{cases_lt}
use Rattle.std.proofs.lemmas.List.Elements.{All-contains}
use Rattle.kb_term.specs.Tree.{Tree, variable, apply, Trees, no_trees, more_trees, variables_of, variables_in}
use Rattle.kb_term.specs.Substitution.{instance, instances, rename}
use Rattle.kb_term.specs.Position.{argument, with_argument, replace_at}
use Rattle.kb_term.specs.Rule.{Rule}
use Rattle.kb_term.proofs.Steps.{Step, StepIn, at_root, inside, here, there}
use Rattle.kb_term.proofs.Relation.{Steps}
use Rattle.kb_term.proofs.Bridge.{step_from_position}
use Rattle.kb_lpo.specs.PathOrderLaws.{IsClosedUnderSubstitutions, IsClosedUnderContexts}
use Rattle.kb_kbo.specs.KnuthBendix.{KboOrder, KboGreater, weight, weight_in, HoldsVariables}
use Rattle.kb_kbo.specs.KnuthBendixLaws.{HasWeights, RewritingDescends}
use Rattle.kb_kbo.proofs.KboOccurrences.{HoldsAll, occurrences-append}
use Rattle.kb_kbo.proofs.KboWeights.{IsHeavy, term_weighs, weight-instance, growth-holds, holds-instance}
use Rattle.kb_kbo.proofs.KboCases.{FirstGreater, HeadGreater, WeightGreater, greater_holds, greater_weighs, greater_cases, greater_from, kbo_trans}

-- a term that holds as many variables, weighs at least as much and is above by its head is above
greater_by_head : (order : KboOrder) (s t : Tree) → HoldsVariables s t → weight order t ≤ weight order s → HeadGreater order s t → KboGreater order s t
greater_by_head order s t h l d = greater_from order s t h (⊎_elim (λ m. inl m) (λ m. inr (omega arith, d)) (cases_lt (weight order t) (weight order s)))

instance_weights : (order : KboOrder) (m : ℕ → Tree) → IsHeavy order m → (s t : Tree) → HoldsVariables s t → weight order t ≤ weight order s → weight order (instance m t) ≤ weight order (instance m s)
instance_weights order m heavy s t h l = omega (arith, weight-instance order m heavy s, weight-instance order m heavy t, growth-holds order m s t h)

instance_greater : (order : KboOrder) (m : ℕ → Tree) → IsHeavy order m → (s t : Tree) → HoldsVariables s t → WeightGreater order s t → (HeadGreater order s t → HeadGreater order (instance m s) (instance m t)) → KboGreater order (instance m s) (instance m t)
instance_greater order m heavy s t h (inl l) head =
    greater_from order (instance m s) (instance m t) (holds-instance m s t h) (inl (omega (arith, weight-instance order m heavy s, weight-instance order m heavy t, growth-holds order m s t h)))
instance_greater order m heavy s t h (inr (e, d)) head = greater_by_head order (instance m s) (instance m t) (holds-instance m s t h) (instance_weights order m heavy s t h (omega arith)) (head d)

instance_head : (order : KboOrder) (m : ℕ → Tree) (f : ℕ) (ss : Trees) (t : Tree) → ((ts : Trees) → FirstGreater order ss ts → FirstGreater order (instances m ss) (instances m ts)) → HeadGreater order (apply f ss) t → HeadGreater order (apply f (instances m ss)) (instance m t)
instance_head order m f ss (variable n) first d = absurd d
instance_head order m f ss (apply g ts) first (inl a) = inl a
instance_head order m f ss (apply g ts) first (inr (e, d)) = inr (e, first ts d)

mutual
  greater-instance : (order : KboOrder) (m : ℕ → Tree) → IsHeavy order m → (s t : Tree) → KboGreater order s t → KboGreater order (instance m s) (instance m t)
  greater-instance order m heavy (variable n) t g = instance_greater order m heavy (variable n) t (greater_holds g) (greater_cases g) (λ d. absurd d)
  greater-instance order m heavy (apply f ss) t g = instance_greater order m heavy (apply f ss) t (greater_holds g) (greater_cases g) (instance_head order m f ss t (first-instance order m heavy ss))

  first-instance : (order : KboOrder) (m : ℕ → Tree) → IsHeavy order m → (ss ts : Trees) → FirstGreater order ss ts → FirstGreater order (instances m ss) (instances m ts)
  first-instance order m heavy no_trees ts d = absurd d
  first-instance order m heavy (more_trees s ss) no_trees d = absurd d
  first-instance order m heavy (more_trees s ss) (more_trees t ts) (inl g) = inl (greater-instance order m heavy s t g)
  first-instance order m heavy (more_trees s ss) (more_trees t ts) (inr d) = inr (ap (instance m) d.0, first-instance order m heavy ss ts d.1)

-- the order is kept under substitutions
pub kbo-instance : (order : KboOrder) → HasWeights order → IsClosedUnderSubstitutions (KboGreater order)
kbo-instance order w m s t g = greater-instance order m (λ n. term_weighs order w (m n)) s t g

-- and under renamings, whatever the weights are
pub kbo-rename : (order : KboOrder) (f : ℕ → ℕ) (s t : Tree) → KboGreater order s t → KboGreater order (rename f s) (rename f t)
kbo-rename order f s t g = greater-instance order (λ x. variable (f x)) (λ n. omega arith) s t g

-- what the arguments of a rewritten list are
record Rewritten (order : KboOrder) (ts us : Trees) : Type 0 where
  holds : HoldsAll (variables_in ts) (variables_in us)
  weighs : weight_in order us ≤ weight_in order ts
  first : FirstGreater order ts us

in_context : (order : KboOrder) (f : ℕ) (ts us : Trees) → Rewritten order ts us → KboGreater order (apply f ts) (apply f us)
in_context order f ts us r = greater_by_head order (apply f ts) (apply f us) r.holds (let l = r.weighs in omega arith) (inr (refl, r.first))

rewritten_here : (order : KboOrder) (t u : Tree) (ts : Trees) → KboGreater order t u → Rewritten order (more_trees t ts) (more_trees u ts)
rewritten_here order t u ts g = record {
  holds = λ n. omega (arith, greater_holds g n, occurrences-append n (variables_of t) (variables_in ts), occurrences-append n (variables_of u) (variables_in ts));
  weighs = omega (arith, greater_weighs g);
  first = inl g;
}

rewritten_there : (order : KboOrder) (t : Tree) (ts us : Trees) → Rewritten order ts us → Rewritten order (more_trees t ts) (more_trees t us)
rewritten_there order t ts us r = record {
  holds = λ n. omega (arith, r.holds n, occurrences-append n (variables_of t) (variables_in ts), occurrences-append n (variables_of t) (variables_in us));
  weighs = let l = r.weighs in omega arith;
  first = inr (refl, r.first);
}

rewritten_at : (order : KboOrder) (ts : Trees) (i : ℕ) (x v w : Tree) → argument ts i ≡ Some x → KboGreater order v w → Rewritten order (with_argument ts i v) (with_argument ts i w)
rewritten_at order no_trees zero x v w e h = absurd (cc)
rewritten_at order (more_trees t ts) zero x v w e h = absurd (cc)
rewritten_at order no_trees (suc i) x v w e h = absurd (cc)
rewritten_at order (more_trees t ts) (suc zero) x v w e h = rewritten_here order v w ts h
rewritten_at order (more_trees t ts) (suc (suc i)) x v w e h = rewritten_there order t (with_argument ts (suc i) v) (with_argument ts (suc i) w) (rewritten_at order ts (suc i) x v w e h)

-- the order is kept where the terms stand at one position of a third
pub kbo_at : (order : KboOrder) → IsClosedUnderContexts (KboGreater order)
kbo_at order u [] s t v w h e d = let a : s ≡ v = cc in let b : t ≡ w = cc in subst₂ (KboGreater order) a b h
kbo_at order (variable n) (i ∷ q) s t v w h e d = absurd (cc)
kbo_at order (apply f ts) (i ∷ q) s t v w h e d = go (λ x a b m n. kbo_at order x q s t a b h m n) (argument ts i) refl e d
  where
    at_argument : (x : Tree) → argument ts i ≡ Some x → ((a b : Tree) → replace_at x q s ≡ Some a → replace_at x q t ≡ Some b → KboGreater order a b) → (a b : Option Tree) → replace_at x q s ≡ a → replace_at x q t ≡ b → option_map (λ z. apply f (with_argument ts i z)) a ≡ Some v → option_map (λ z. apply f (with_argument ts i z)) b ≡ Some w → KboGreater order v w
    at_argument x k inner None b m n e d = absurd (cc)
    at_argument x k inner (Some a) None m n e d = absurd (cc)
    at_argument x k inner (Some a) (Some b) m n e d =
        let r : apply f (with_argument ts i a) ≡ v = cc in
        let o : apply f (with_argument ts i b) ≡ w = cc in
        subst₂ (KboGreater order) r o (in_context order f (with_argument ts i a) (with_argument ts i b) (rewritten_at order ts i x a b k (inner a b m n)))

    go : ((x a b : Tree) → replace_at x q s ≡ Some a → replace_at x q t ≡ Some b → KboGreater order a b) → (o : Option Tree) → argument ts i ≡ o → option_and_then (λ x. option_map (λ z. apply f (with_argument ts i z)) (replace_at x q s)) o ≡ Some v → option_and_then (λ x. option_map (λ z. apply f (with_argument ts i z)) (replace_at x q t)) o ≡ Some w → KboGreater order v w
    go inner None k e d = absurd (cc)
    go inner (Some x) k e d = at_argument x k (inner x) (replace_at x q s) (replace_at x q t) refl refl e d

-- each step by ordered rules is ordered
mutual
  pub step_greater : (order : KboOrder) → HasWeights order → (rules : Rule → Type 0) → ((r : Rule) → rules r → KboGreater order r.left r.right) → {s t : Tree} → Step rules s t → KboGreater order s t
  step_greater order w rules all (at_root (r, m, i, e, d)) = subst₂ (KboGreater order) (sym e) (sym d) (kbo-instance order w m r.left r.right (all r i))
  step_greater order w rules all (inside {f = f} {ts = ts} {us = us} h) = in_context order f ts us (step_in_greater order w rules all h)

  step_in_greater : (order : KboOrder) → HasWeights order → (rules : Rule → Type 0) → ((r : Rule) → rules r → KboGreater order r.left r.right) → {ts us : Trees} → StepIn rules ts us → Rewritten order ts us
  step_in_greater order w rules all (here {t = t} {u = u} {ts = ts} h) = rewritten_here order t u ts (step_greater order w rules all h)
  step_in_greater order w rules all (there {t = t} {ts = ts} {us = us} h) = rewritten_there order t ts us (step_in_greater order w rules all h)

-- and so is each chain with at least one step
pub kbo_chain : (order : KboOrder) → HasWeights order → (rules : Rule → Type 0) → ((r : Rule) → rules r → KboGreater order r.left r.right) → (n : ℕ) (s t : Tree) → Steps (Step rules) (suc n) s t → KboGreater order s t
kbo_chain order w rules all zero s t (u, h, e) = subst (KboGreater order s) e (step_greater order w rules all h)
kbo_chain order w rules all (suc n) s t (u, h, c) = kbo_trans order s u t (step_greater order w rules all h) (kbo_chain order w rules all n u t c)

pub kbo_step : (order : KboOrder) → RewritingDescends order
kbo_step order w rules all s t h = step_greater order w (Contains rules) (λ r i. All-contains (λ (r : Rule). KboGreater order r.left r.right) rules r all i) (step_from_position (Contains rules) s t h)
