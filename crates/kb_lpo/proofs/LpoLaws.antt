-- The path order is transitive, and is kept under substitutions and contexts; so what rules rewrite by ordered rules is ordered.
use Rattle.std.proofs.Common.{ℕ, zero, suc, ◌≡◌, ◌≢◌, ◌⊎◌, inl, inr, refl, sym, ap, ◌∙◌, subst, subst₂, arith, List, [], ◌∷◌, Option, Some, None, option_map, option_and_then}
use Rattle.kb_term.specs.Tree.{Tree, variable, apply, Trees, no_trees, more_trees}
use Rattle.kb_term.specs.Substitution.{instance, instances}
use Rattle.kb_term.specs.Position.{argument, with_argument, replace_at}
use Rattle.kb_term.specs.Rule.{Rule}
use Rattle.kb_lpo.specs.PathOrder.{IsAbove}
use Rattle.kb_term.proofs.Relation.{Steps}
use Rattle.kb_term.proofs.Steps.{Occurs, OccursIn, occurs_from, occurs_to, Step, StepIn, at_root, inside, here, there}
use Rattle.kb_lpo.proofs.Lpo.{IsArgument, DifferFirst, PathGreater, has_variable, has_argument, through_argument, symbol_above, first_greater}
use Rattle.kb_lpo.proofs.LpoBelow.{argument-instance, argument_before, differ-instance}

-- the variables of an argument stand in the list
pub occurs_argument : (x : ℕ) (t : Tree) (ts : Trees) → IsArgument t ts → Occurs x t → OccursIn x ts
occurs_argument x t no_trees i o = absurd i
occurs_argument x t (more_trees u us) (inl e) o = inl (subst (Occurs x) (sym e) o)
occurs_argument x t (more_trees u us) (inr i) o = inr (occurs_argument x t us i o)

pub occurs_in_some : (x : ℕ) (ts : Trees) → OccursIn x ts → (t : Tree) × IsArgument t ts × Occurs x t
occurs_in_some x no_trees o = absurd o
occurs_in_some x (more_trees t ts) (inl o) = (t, inl refl, o)
occurs_in_some x (more_trees t ts) (inr o) = let r = occurs_in_some x ts o in (r.0, inr r.1, r.2)

-- a lesser term has no more variables
pub lesser_variables : {p : List ℕ} (x : ℕ) {s t : Tree} → PathGreater p s t → Occurs x t → Occurs x s
lesser_variables x (has_variable {s = s} {x = y} c d) o = subst (λ z. Occurs z s) o (occurs_from y s c)
lesser_variables x (has_argument {ss = ss} {t = t} i) o = occurs_argument x t ss i o
lesser_variables x (through_argument {ss = ss} s i l) o = occurs_argument x s ss i (lesser_variables x l o)
lesser_variables x (symbol_above {ts = ts} up each) o = let r = occurs_in_some x ts o in lesser_variables x (each r.0 r.1) r.2
lesser_variables x (first_greater {ts = ts} s t d l each) o = let r = occurs_in_some x ts o in lesser_variables x (each r.0 r.1) r.2

-- the application of f is greater than all that is less than an argument of t, and its symbol and arguments are above those of t or the same up to a greater one
abbrev Dominates : (p : List ℕ) (f : ℕ) (ss : Trees) → Tree → Type 0
Dominates p f ss (variable x) = ⊥
Dominates p f ss (apply g ts) =
    ((v : Tree) → IsArgument v ts → PathGreater p (apply f ss) v × ((u : Tree) → PathGreater p v u → PathGreater p (apply f ss) u))
    × (IsAbove p f g ⊎ (f ≡ g × ((x : Tree) × (y : Tree) × DifferFirst x y ss ts × PathGreater p x y × ((u : Tree) → PathGreater p y u → PathGreater p x u))))

dominates_variables : (p : List ℕ) (f : ℕ) (ss : Trees) (t : Tree) → Dominates p f ss t → (x : ℕ) → Occurs x t → Occurs x (apply f ss)
dominates_variables p f ss (variable y) d x o = absurd d
dominates_variables p f ss (apply g ts) d x o = let r = occurs_in_some x ts o in lesser_variables x (d.0 r.0 r.1).0 r.2

-- first differences of three lists
abbrev Follow : (p : List ℕ) (ss us : Trees) → Type 0
Follow p ss us = (x : Tree) × (y : Tree) × DifferFirst x y ss us × PathGreater p x y

follow : (p : List ℕ) (x y z w : Tree) (ss ts us : Trees) → PathGreater p x y → ((u : Tree) → PathGreater p y u → PathGreater p x u) → PathGreater p z w → DifferFirst x y ss ts → DifferFirst z w ts us → Follow p ss us
follow p x y z w no_trees ts us l ih k d e = absurd d
follow p x y z w (more_trees a as') no_trees us l ih k d e = absurd d
follow p x y z w (more_trees a as') (more_trees b bs) no_trees l ih k d e = absurd e
follow p x y z w (more_trees a as') (more_trees b bs) (more_trees c cs) l ih k (inl d) (inl e) = (x, w, inl (d.0, e.1), ih w (subst (λ q. PathGreater p q w) (sym e.0 ∙ d.1) k))
follow p x y z w (more_trees a as') (more_trees b bs) (more_trees c cs) l ih k (inl d) (inr e) = (x, y, inl (d.0, sym e.0 ∙ d.1), l)
follow p x y z w (more_trees a as') (more_trees b bs) (more_trees c cs) l ih k (inr d) (inl e) = (z, w, inl (d.0 ∙ e.0, e.1), k)
follow p x y z w (more_trees a as') (more_trees b bs) (more_trees c cs) l ih k (inr d) (inr e) =
    let r = follow p x y z w as' bs cs l ih k d.1 e.1 in (r.0, r.1, inr (d.0 ∙ e.0, r.2), r.3)

above_trans : (p : List ℕ) (f g h : ℕ) → IsAbove p f g → IsAbove p g h → IsAbove p f h
above_trans p f g h a b = omega arith

through : (p : List ℕ) (f : ℕ) (ss : Trees) {t u : Tree} → PathGreater p t u → Dominates p f ss t → PathGreater p (apply f ss) u
through p f ss (has_variable {s = t} {x = x} c d) dom = has_variable (occurs_to x (apply f ss) (dominates_variables p f ss t dom x (occurs_from x t c))) (λ e. cc)
through p f ss (has_argument {t = u} i) dom = (dom.0 u i).0
through p f ss (through_argument {t = u} v i l) dom = (dom.0 v i).1 u l
through p f ss (symbol_above {f = g} {g = h} {ss = ts} {ts = us} up each) dom = symbol_above (go dom.1) (λ u i. through p f ss (each u i) dom)
  where
    go : IsAbove p f g ⊎ (f ≡ g × ((x : Tree) × (y : Tree) × DifferFirst x y ss ts × PathGreater p x y × ((u : Tree) → PathGreater p y u → PathGreater p x u))) → IsAbove p f h
    go (inl a) = above_trans p f g h a up
    go (inr (e, r)) = subst (λ z. IsAbove p z h) (sym e) up
through p f ss (first_greater {f = g} {ss = ts} {ts = us} z w d l each) dom = go dom.1 (λ u i. through p f ss (each u i) dom)
  where
    go : IsAbove p f g ⊎ (f ≡ g × ((x : Tree) × (y : Tree) × DifferFirst x y ss ts × PathGreater p x y × ((u : Tree) → PathGreater p y u → PathGreater p x u))) → ((u : Tree) → IsArgument u us → PathGreater p (apply f ss) u) → PathGreater p (apply f ss) (apply g us)
    go (inl a) all = symbol_above a all
    go (inr (e, (x, y, d0, l0, ih))) all = let r = follow p x y z w ss ts us l0 ih l d0 d in subst (λ q. PathGreater p (apply f ss) (apply q us)) e (first_greater r.0 r.1 r.2 r.3 all)

pub no_lesser : {p : List ℕ} {x : ℕ} {s u : Tree} → s ≡ variable x → PathGreater p s u → ⊥
no_lesser {x = x} e (has_variable {s = s} {x = y} c d) = d (e ∙ ap variable (subst (Occurs y) e (occurs_from y s c)))
no_lesser e (has_argument i) = cc
no_lesser e (through_argument s i l) = cc
no_lesser e (symbol_above up each) = cc
no_lesser e (first_greater s t d l each) = cc

pub path_trans : (p : List ℕ) {s t : Tree} → PathGreater p s t → (u : Tree) → PathGreater p t u → PathGreater p s u
path_trans p (has_variable c d) u k = absurd (no_lesser refl k)
path_trans p (has_argument {ss = ss} {t = t} i) u k = through_argument t i k
path_trans p (through_argument s i l) u k = through_argument s i (path_trans p l u k)
path_trans p (symbol_above {f = f} {ss = ss} up each) u k = through p f ss k ((λ v i. (each v i, λ w. path_trans p (each v i) w)), inl up)
path_trans p (first_greater {f = f} {ss = ss} s t d l each) u k = through p f ss k ((λ v i. (each v i, λ w. path_trans p (each v i) w)), inr (refl, (s, t, d, l, λ w. path_trans p l w)))

-- what a substitution gives for a variable is an argument of the instance, or less than one
abbrev InstanceIn : (p : List ℕ) (m : ℕ → Tree) (x : ℕ) (ss : Trees) → Type 0
InstanceIn p m x ss = IsArgument (m x) (instances m ss) ⊎ ((s : Tree) × IsArgument s (instances m ss) × PathGreater p s (m x))

instance_by : (p : List ℕ) (m : ℕ → Tree) (f x : ℕ) (ss : Trees) → InstanceIn p m x ss → PathGreater p (apply f (instances m ss)) (m x)
instance_by p m f x ss (inl i) = has_argument i
instance_by p m f x ss (inr (s, i, b)) = through_argument s i b

instance_behind : (p : List ℕ) (m : ℕ → Tree) (x : ℕ) (t : Tree) (ss : Trees) → InstanceIn p m x ss → InstanceIn p m x (more_trees t ss)
instance_behind p m x t ss (inl i) = inl (inr i)
instance_behind p m x t ss (inr (s, i, b)) = inr (s, inr i, b)

instance_in : (p : List ℕ) (m : ℕ → Tree) (x : ℕ) (ss : Trees) → OccursIn x ss → InstanceIn p m x ss
instance_in p m x no_trees o = absurd o
instance_in p m x (more_trees (variable n) ss) (inl o) = inl (inl (ap m o))
instance_in p m x (more_trees (apply g us) ss) (inl o) = inr (apply g (instances m us), inl refl, instance_by p m g x us (instance_in p m x us o))
instance_in p m x (more_trees (variable n) ss) (inr o) = instance_behind p m x (variable n) ss (instance_in p m x ss o)
instance_in p m x (more_trees (apply g us) ss) (inr o) = instance_behind p m x (apply g us) ss (instance_in p m x ss o)

variable_instance : (p : List ℕ) (m : ℕ → Tree) (x : ℕ) (s : Tree) → Occurs x s → s ≢ variable x → PathGreater p (instance m s) (m x)
variable_instance p m x (variable n) o d = absurd (d (ap variable o))
variable_instance p m x (apply f ss) o d = instance_by p m f x ss (instance_in p m x ss o)

-- the order is kept under substitutions
pub path-instance : (p : List ℕ) (m : ℕ → Tree) {s t : Tree} → PathGreater p s t → PathGreater p (instance m s) (instance m t)
path-instance p m (has_variable {s = s} {x = x} c d) = variable_instance p m x s (occurs_from x s c) d
path-instance p m (has_argument {ss = ss} {t = t} i) = has_argument (argument-instance m t ss i)
path-instance p m (through_argument {ss = ss} s i l) = through_argument (instance m s) (argument-instance m s ss i) (path-instance p m l)
path-instance p m (symbol_above {f = f} {ss = ss} {ts = ts} up each) =
    symbol_above up (λ t i. let h = argument_before m t ts i in subst (λ x. PathGreater p (apply f (instances m ss)) x) h.2 (path-instance p m (each h.0 h.1)))
path-instance p m (first_greater {f = f} {ss = ss} {ts = ts} s u d l each) =
    first_greater (instance m s) (instance m u) (differ-instance m s u ss ts d) (path-instance p m l)
    (λ t i. let h = argument_before m t ts i in subst (λ x. PathGreater p (apply f (instances m ss)) x) h.2 (path-instance p m (each h.0 h.1)))

-- what the arguments of a rewritten list are
abbrev Rewritten : (p : List ℕ) (ts us : Trees) → Type 0
Rewritten p ts us = (s : Tree) × (t : Tree) × DifferFirst s t ts us × PathGreater p s t × ((u : Tree) → IsArgument u us → IsArgument u ts ⊎ ((v : Tree) × IsArgument v ts × PathGreater p v u))

in_context : (p : List ℕ) (f : ℕ) (ts us : Trees) → Rewritten p ts us → PathGreater p (apply f ts) (apply f us)
in_context p f ts us (s, t, d, b, each) = first_greater s t d b (λ u i. go u (each u i))
  where
    go : (u : Tree) → IsArgument u ts ⊎ ((v : Tree) × IsArgument v ts × PathGreater p v u) → PathGreater p (apply f ts) u
    go u (inl i) = has_argument i
    go u (inr (v, i, b)) = through_argument v i b

rewritten_here : (p : List ℕ) (t u : Tree) (ts : Trees) → PathGreater p t u → Rewritten p (more_trees t ts) (more_trees u ts)
rewritten_here p t u ts b = (t, u, inl (refl, refl), b, λ x i. go x i)
  where
    go : (x : Tree) → IsArgument x (more_trees u ts) → IsArgument x (more_trees t ts) ⊎ ((v : Tree) × IsArgument v (more_trees t ts) × PathGreater p v x)
    go x (inl e) = inr (t, inl refl, subst (λ y. PathGreater p t y) e b)
    go x (inr i) = inl (inr i)

rewritten_there : (p : List ℕ) (t : Tree) (ts us : Trees) → Rewritten p ts us → Rewritten p (more_trees t ts) (more_trees t us)
rewritten_there p t ts us (s, u, d, b, each) = (s, u, inr (refl, d), b, λ x i. go x i)
  where
    behind : (x : Tree) → IsArgument x ts ⊎ ((v : Tree) × IsArgument v ts × PathGreater p v x) → IsArgument x (more_trees t ts) ⊎ ((v : Tree) × IsArgument v (more_trees t ts) × PathGreater p v x)
    behind x (inl i) = inl (inr i)
    behind x (inr (v, i, b)) = inr (v, inr i, b)

    go : (x : Tree) → IsArgument x (more_trees t us) → IsArgument x (more_trees t ts) ⊎ ((v : Tree) × IsArgument v (more_trees t ts) × PathGreater p v x)
    go x (inl e) = inl (inl e)
    go x (inr i) = behind x (each x i)

-- each step by ordered rules is ordered
mutual
  pub step_greater : (p : List ℕ) (rules : Rule → Type 0) → ((r : Rule) → rules r → PathGreater p r.left r.right) → {s t : Tree} → Step rules s t → PathGreater p s t
  step_greater p rules all (at_root (r, m, i, e, d)) = subst₂ (PathGreater p) (sym e) (sym d) (path-instance p m (all r i))
  step_greater p rules all (inside {f = f} {ts = ts} {us = us} h) = in_context p f ts us (step_in_greater p rules all h)

  step_in_greater : (p : List ℕ) (rules : Rule → Type 0) → ((r : Rule) → rules r → PathGreater p r.left r.right) → {ts us : Trees} → StepIn rules ts us → Rewritten p ts us
  step_in_greater p rules all (here {t = t} {u = u} {ts = ts} h) = rewritten_here p t u ts (step_greater p rules all h)
  step_in_greater p rules all (there {t = t} {ts = ts} {us = us} h) = rewritten_there p t ts us (step_in_greater p rules all h)

-- and so is each chain with at least one step
pub chain_greater : (p : List ℕ) (rules : Rule → Type 0) → ((r : Rule) → rules r → PathGreater p r.left r.right) → (n : ℕ) (s t : Tree) → Steps (Step rules) (suc n) s t → PathGreater p s t
chain_greater p rules all zero s t (u, h, e) = subst (PathGreater p s) e (step_greater p rules all h)
chain_greater p rules all (suc n) s t (u, h, c) = path_trans p (step_greater p rules all h) t (chain_greater p rules all n u t c)

rewritten_at : (p : List ℕ) (ts : Trees) (i : ℕ) (x v w : Tree) → argument ts i ≡ Some x → PathGreater p v w → Rewritten p (with_argument ts i v) (with_argument ts i w)
rewritten_at p no_trees zero x v w e h = absurd (cc)
rewritten_at p (more_trees t ts) zero x v w e h = absurd (cc)
rewritten_at p no_trees (suc i) x v w e h = absurd (cc)
rewritten_at p (more_trees t ts) (suc zero) x v w e h = rewritten_here p v w ts h
rewritten_at p (more_trees t ts) (suc (suc i)) x v w e h = rewritten_there p t (with_argument ts (suc i) v) (with_argument ts (suc i) w) (rewritten_at p ts (suc i) x v w e h)

-- the order is kept where the terms stand at one position of a third
pub path_at : (p : List ℕ) (u : Tree) (q : List ℕ) (s t v w : Tree) → PathGreater p s t → replace_at u q s ≡ Some v → replace_at u q t ≡ Some w → PathGreater p v w
path_at p u [] s t v w h e d = let a : s ≡ v = cc in let b : t ≡ w = cc in subst₂ (PathGreater p) a b h
path_at p (variable n) (i ∷ q) s t v w h e d = absurd (cc)
path_at p (apply f ts) (i ∷ q) s t v w h e d = go (λ x a b m n. path_at p x q s t a b h m n) (argument ts i) refl e d
  where
    at_argument : (x : Tree) → argument ts i ≡ Some x → ((a b : Tree) → replace_at x q s ≡ Some a → replace_at x q t ≡ Some b → PathGreater p a b) → (a b : Option Tree) → replace_at x q s ≡ a → replace_at x q t ≡ b → option_map (λ z. apply f (with_argument ts i z)) a ≡ Some v → option_map (λ z. apply f (with_argument ts i z)) b ≡ Some w → PathGreater p v w
    at_argument x k inner None b m n e d = absurd (cc)
    at_argument x k inner (Some a) None m n e d = absurd (cc)
    at_argument x k inner (Some a) (Some b) m n e d =
        let r : apply f (with_argument ts i a) ≡ v = cc in
        let o : apply f (with_argument ts i b) ≡ w = cc in
        subst₂ (PathGreater p) r o (in_context p f (with_argument ts i a) (with_argument ts i b) (rewritten_at p ts i x a b k (inner a b m n)))

    go : ((x a b : Tree) → replace_at x q s ≡ Some a → replace_at x q t ≡ Some b → PathGreater p a b) → (o : Option Tree) → argument ts i ≡ o → option_and_then (λ x. option_map (λ z. apply f (with_argument ts i z)) (replace_at x q s)) o ≡ Some v → option_and_then (λ x. option_map (λ z. apply f (with_argument ts i z)) (replace_at x q t)) o ≡ Some w → PathGreater p v w
    go inner None k e d = absurd (cc)
    go inner (Some x) k e d = at_argument x k (inner x) (replace_at x q s) (replace_at x q t) refl refl e d
