-- The path order with a bound, which every rewrite step of ordered rules keeps.
use Rattle.std.proofs.Common.{ℕ, zero, suc, ◌≡◌, ◌≢◌, ◌≤◌, ◌⊎◌, inl, inr, refl, sym, ap, subst, subst₂, arith, List, max}
use Rattle.kb_term.specs.Tree.{Tree, variable, apply, Trees, no_trees, more_trees, tree_depth, trees_depth}
use Rattle.kb_term.specs.Substitution.{instance, instances}
use Rattle.kb_term.specs.Rule.{Rule}
use Rattle.kb_term.proofs.Steps.{occurs_from, Occurs, OccursIn, RootStep, Step, StepIn, at_root, inside, here, there}
use Rattle.kb_lpo.specs.PathOrder.{IsAbove}
use Rattle.kb_lpo.proofs.Lpo.{IsArgument, DifferFirst, PathGreater, has_variable, has_argument, through_argument, symbol_above, first_greater}

-- the path order in which at most k symbols of the smaller term are gone through, and K after going to an argument
pub data Below (precedence : List ℕ) (K : ℕ) : ℕ → Tree → Tree → Type 0 where
  argument : {k f : ℕ} {ss : Trees} {t : Tree} → IsArgument t ss → Below precedence K k (apply f ss) t
  under_argument : {k f : ℕ} {ss : Trees} {t : Tree} (s : Tree) → IsArgument s ss → Below precedence K K s t → Below precedence K k (apply f ss) t
  above : {k f g : ℕ} {ss ts : Trees} → IsAbove precedence f g → ((t : Tree) → IsArgument t ts → Below precedence K k (apply f ss) t) → Below precedence K (suc k) (apply f ss) (apply g ts)
  lexicographic : {k f : ℕ} {ss ts : Trees} (s t : Tree) → DifferFirst s t ss ts → Below precedence K K s t → ((u : Tree) → IsArgument u ts → Below precedence K k (apply f ss) u) → Below precedence K (suc k) (apply f ss) (apply f ts)

argument_depth : (t : Tree) (ts : Trees) → IsArgument t ts → tree_depth t ≤ trees_depth ts
argument_depth t no_trees i = absurd i
argument_depth t (more_trees u us) (inl e) = subst (λ x. tree_depth x ≤ max (tree_depth u) (trees_depth us)) e (omega arith)
argument_depth t (more_trees u us) (inr i) = let h = argument_depth t us i in omega arith

-- a variable is an argument, or below one
abbrev VariableIn : (p : List ℕ) (K x : ℕ) (ss : Trees) → Type 0
VariableIn p K x ss = IsArgument (variable x) ss ⊎ ((s : Tree) × IsArgument s ss × Below p K K s (variable x))

below_by : (p : List ℕ) (K k f x : ℕ) (ss : Trees) → VariableIn p K x ss → Below p K k (apply f ss) (variable x)
below_by p K k f x ss (inl i) = argument i
below_by p K k f x ss (inr (s, i, b)) = under_argument s i b

variable_behind : (p : List ℕ) (K x : ℕ) (t : Tree) (ss : Trees) → VariableIn p K x ss → VariableIn p K x (more_trees t ss)
variable_behind p K x t ss (inl i) = inl (inr i)
variable_behind p K x t ss (inr (s, i, b)) = inr (s, inr i, b)

variable_in : (p : List ℕ) (K x : ℕ) (ss : Trees) → OccursIn x ss → VariableIn p K x ss
variable_in p K x no_trees o = absurd o
variable_in p K x (more_trees (variable n) ss) (inl o) = inl (inl (ap variable o))
variable_in p K x (more_trees (apply g us) ss) (inl o) = inr (apply g us, inl refl, below_by p K K g x us (variable_in p K x us o))
variable_in p K x (more_trees (variable n) ss) (inr o) = variable_behind p K x (variable n) ss (variable_in p K x ss o)
variable_in p K x (more_trees (apply g us) ss) (inr o) = variable_behind p K x (apply g us) ss (variable_in p K x ss o)

below_variable : (p : List ℕ) (K k x : ℕ) (s : Tree) → Occurs x s → s ≢ variable x → Below p K k s (variable x)
below_variable p K k x (variable n) o d = absurd (d (ap variable o))
below_variable p K k x (apply f ss) o d = below_by p K k f x ss (variable_in p K x ss o)

pub argument_differs : (s t : Tree) (ss ts : Trees) → DifferFirst s t ss ts → IsArgument t ts
argument_differs s t no_trees ts d = absurd d
argument_differs s t (more_trees x xs) no_trees d = absurd d
argument_differs s t (more_trees x xs) (more_trees y ys) (inl d) = inl d.1
argument_differs s t (more_trees x xs) (more_trees y ys) (inr d) = inr (argument_differs s t xs ys d.1)

pub below_from_lpo : (p : List ℕ) (K : ℕ) {s t : Tree} → PathGreater p s t → (k : ℕ) → tree_depth t ≤ k → tree_depth t ≤ K → Below p K k s t
below_from_lpo p K (has_variable {s = s} {x = x} o d) k h b = below_variable p K k x s (occurs_from x s o) d
below_from_lpo p K (has_argument i) k h b = argument i
below_from_lpo p K {t = t} (through_argument s i l) k h b = under_argument s i (below_from_lpo p K l K b b)
below_from_lpo p K (symbol_above a each) zero h b = absurd (omega arith)
below_from_lpo p K (symbol_above {ts = ts} a each) (suc k) h b =
    above a (λ u i. let d = argument_depth u ts i in below_from_lpo p K (each u i) k (omega arith) (omega arith))
below_from_lpo p K (first_greater s t d l each) zero h b = absurd (omega arith)
below_from_lpo p K (first_greater {ss = ss} {ts = ts} s t d l each) (suc k) h b =
    let w = argument_depth t ts (argument_differs s t ss ts d) in
    lexicographic s t d (below_from_lpo p K l K (omega arith) (omega arith)) (λ u i. let e = argument_depth u ts i in below_from_lpo p K (each u i) k (omega arith) (omega arith))

pub argument-instance : (m : ℕ → Tree) (t : Tree) (ts : Trees) → IsArgument t ts → IsArgument (instance m t) (instances m ts)
argument-instance m t no_trees i = absurd i
argument-instance m t (more_trees u us) (inl e) = inl (ap (instance m) e)
argument-instance m t (more_trees u us) (inr i) = inr (argument-instance m t us i)

-- an argument of the instance is the instance of an argument
pub argument_before : (m : ℕ → Tree) (t : Tree) (ts : Trees) → IsArgument t (instances m ts) → (u : Tree) × IsArgument u ts × instance m u ≡ t
argument_before m t no_trees i = absurd i
argument_before m t (more_trees u us) (inl e) = (u, inl refl, e)
argument_before m t (more_trees u us) (inr i) = let h = argument_before m t us i in (h.0, inr h.1, h.2)

pub differ-instance : (m : ℕ → Tree) (s t : Tree) (ss ts : Trees) → DifferFirst s t ss ts → DifferFirst (instance m s) (instance m t) (instances m ss) (instances m ts)
differ-instance m s t no_trees ts d = absurd d
differ-instance m s t (more_trees x xs) no_trees d = absurd d
differ-instance m s t (more_trees x xs) (more_trees y ys) (inl d) = inl (ap (instance m) d.0, ap (instance m) d.1)
differ-instance m s t (more_trees x xs) (more_trees y ys) (inr d) = inr (ap (instance m) d.0, differ-instance m s t xs ys d.1)

-- the order is kept under substitutions
below-instance : (p : List ℕ) (K : ℕ) (m : ℕ → Tree) {k : ℕ} {s t : Tree} → Below p K k s t → Below p K k (instance m s) (instance m t)
below-instance p K m (argument {ss = ss} {t = t} i) = argument (argument-instance m t ss i)
below-instance p K m (under_argument {ss = ss} s i b) = under_argument (instance m s) (argument-instance m s ss i) (below-instance p K m b)
below-instance p K m (above {k = k} {f = f} {ss = ss} {ts = ts} a each) =
    above a (λ t i. let h = argument_before m t ts i in subst (λ x. Below p K k (apply f (instances m ss)) x) h.2 (below-instance p K m (each h.0 h.1)))
below-instance p K m (lexicographic {k = k} {f = f} {ss = ss} {ts = ts} s u d b each) =
    lexicographic (instance m s) (instance m u) (differ-instance m s u ss ts d) (below-instance p K m b)
    (λ t i. let h = argument_before m t ts i in subst (λ x. Below p K k (apply f (instances m ss)) x) h.2 (below-instance p K m (each h.0 h.1)))

-- what the arguments of a rewritten list are
abbrev RewrittenIn : (p : List ℕ) (K : ℕ) (ts us : Trees) → Type 0
RewrittenIn p K ts us = (s : Tree) × (t : Tree) × DifferFirst s t ts us × Below p K K s t × ((u : Tree) → IsArgument u us → IsArgument u ts ⊎ ((v : Tree) × IsArgument v ts × Below p K K v u))

root_below : (p : List ℕ) (K : ℕ) (rules : Rule → Type 0) → ((r : Rule) → rules r → Below p K K r.left r.right) → (s t : Tree) → RootStep rules s t → Below p K K s t
root_below p K rules all s t (r, m, in_rules, e, d) =
    let h : Below p K K r.left r.right = all r in_rules in
    subst₂ (λ x y. Below p K K x y) (sym e) (sym d) (below-instance p K m h)

in_context : (p : List ℕ) (K f : ℕ) (ts us : Trees) → RewrittenIn p (suc K) ts us → Below p (suc K) (suc K) (apply f ts) (apply f us)
in_context p K f ts us (s, t, d, b, each) = lexicographic s t d b (λ u i. go u (each u i))
  where
    go : (u : Tree) → IsArgument u ts ⊎ ((v : Tree) × IsArgument v ts × Below p (suc K) (suc K) v u) → Below p (suc K) K (apply f ts) u
    go u (inl i) = argument i
    go u (inr (v, i, b)) = under_argument v i b

rewritten_here : (p : List ℕ) (K : ℕ) (t u : Tree) (ts : Trees) → Below p K K t u → RewrittenIn p K (more_trees t ts) (more_trees u ts)
rewritten_here p K t u ts b = (t, u, inl (refl, refl), b, λ x i. go x i)
  where
    go : (x : Tree) → IsArgument x (more_trees u ts) → IsArgument x (more_trees t ts) ⊎ ((v : Tree) × IsArgument v (more_trees t ts) × Below p K K v x)
    go x (inl e) = inr (t, inl refl, subst (λ y. Below p K K t y) e b)
    go x (inr i) = inl (inr i)

rewritten_there : (p : List ℕ) (K : ℕ) (t : Tree) (ts us : Trees) → RewrittenIn p K ts us → RewrittenIn p K (more_trees t ts) (more_trees t us)
rewritten_there p K t ts us (s, u, d, b, each) = (s, u, inr (refl, d), b, λ x i. go x i)
  where
    behind : (x : Tree) → IsArgument x ts ⊎ ((v : Tree) × IsArgument v ts × Below p K K v x) → IsArgument x (more_trees t ts) ⊎ ((v : Tree) × IsArgument v (more_trees t ts) × Below p K K v x)
    behind x (inl i) = inl (inr i)
    behind x (inr (v, i, b)) = inr (v, inr i, b)

    go : (x : Tree) → IsArgument x (more_trees t us) → IsArgument x (more_trees t ts) ⊎ ((v : Tree) × IsArgument v (more_trees t ts) × Below p K K v x)
    go x (inl e) = inl (inl e)
    go x (inr i) = behind x (each x i)

-- each rewrite step of ordered rules is ordered
mutual
  pub step_below : (p : List ℕ) (K : ℕ) (rules : Rule → Type 0) → ((r : Rule) → rules r → Below p (suc K) (suc K) r.left r.right) → {s t : Tree} → Step rules s t → Below p (suc K) (suc K) s t
  step_below p K rules all (at_root {s = s} {t = t} r) = root_below p (suc K) rules all s t r
  step_below p K rules all (inside {f = f} {ts = ts} {us = us} h) = in_context p K f ts us (step_in_rewritten p K rules all h)

  step_in_rewritten : (p : List ℕ) (K : ℕ) (rules : Rule → Type 0) → ((r : Rule) → rules r → Below p (suc K) (suc K) r.left r.right) → {ts us : Trees} → StepIn rules ts us → RewrittenIn p (suc K) ts us
  step_in_rewritten p K rules all (here {t = t} {u = u} {ts = ts} h) = rewritten_here p (suc K) t u ts (step_below p K rules all h)
  step_in_rewritten p K rules all (there {t = t} {ts = ts} {us = us} h) = rewritten_there p (suc K) t ts us (step_in_rewritten p K rules all h)
