-- The path order is irreflexive, and can be decided.
use Rattle.std.proofs.Common.{ℕ, ◌≡◌, ◌≤◌, ◌⊎◌, inl, inr, refl, sym, ap, ◌∙◌, subst, subst₂, arith, List, ⊎_elim}
use Rattle.std.proofs.lemmas.Bool.{cases_lt, cases_eq}
use Rattle.kb_term.specs.Tree.{Tree, variable, apply, Trees, no_trees, more_trees, tree_size, trees_size}
use Rattle.kb_term.specs.Pair.{place_in}
use Rattle.kb_lpo.specs.PathOrder.{IsAbove, LpoGreater}
use Rattle.kb_term.proofs.Steps.{Occurs, OccursIn, occurs_from, occurs_to}
use Rattle.kb_term.proofs.Instances.{trees_decide}
use Rattle.kb_lpo.proofs.Lpo.{IsArgument, DifferFirst, PathGreater, has_variable, has_argument, through_argument, symbol_above, first_greater, path_from_lpo, lpo_from_path}
use Rattle.kb_lpo.proofs.LpoLaws.{path_trans, no_lesser}

pub argument_smaller : (t : Tree) (ts : Trees) → IsArgument t ts → tree_size t ≤ trees_size ts
argument_smaller t no_trees i = absurd i
argument_smaller t (more_trees u us) (inl e) = let q : tree_size u ≡ tree_size t = ap tree_size e in omega arith
argument_smaller t (more_trees u us) (inr i) = let h = argument_smaller t us i in omega arith

pub differ_same : (x y : Tree) (ss : Trees) → DifferFirst x y ss ss → IsArgument x ss × x ≡ y
differ_same x y no_trees d = absurd d
differ_same x y (more_trees s ss) (inl d) = (inl d.0, sym d.0 ∙ d.1)
differ_same x y (more_trees s ss) (inr d) = let r = differ_same x y ss d.1 in (inr r.0, r.1)

-- the cases of the order, for an application
abbrev pub Cases : (p : List ℕ) (f : ℕ) (ss : Trees) → Tree → Type 0
Cases p f ss t =
    IsArgument t ss
    ⊎ (((s : Tree) × IsArgument s ss × PathGreater p s t)
    ⊎ ((g : ℕ) × (ts : Trees) × (t ≡ apply g ts) × ((u : Tree) → IsArgument u ts → PathGreater p (apply f ss) u)
    × (IsAbove p f g ⊎ (f ≡ g × ((x : Tree) × (y : Tree) × DifferFirst x y ss ts × PathGreater p x y)))))

variable_cases : (p : List ℕ) (f x : ℕ) (ss : Trees) → OccursIn x ss → Cases p f ss (variable x)
variable_cases p f x no_trees o = absurd o
variable_cases p f x (more_trees (variable n) ss) (inl o) = inl (inl (ap variable o))
variable_cases p f x (more_trees (apply g us) ss) (inl o) = inr (inl (apply g us, inl refl, has_variable (occurs_to x (apply g us) o) (λ e. cc)))
variable_cases p f x (more_trees s ss) (inr o) = behind (variable_cases p f x ss o)
  where
    behind : Cases p f ss (variable x) → Cases p f (more_trees s ss) (variable x)
    behind (inl i) = inl (inr i)
    behind (inr (inl (u, i, l))) = inr (inl (u, inr i, l))
    behind (inr (inr (g, ts, e, r, q))) = absurd (cc)

pub path_cases : {p : List ℕ} (f : ℕ) (ss : Trees) {s t : Tree} → PathGreater p s t → s ≡ apply f ss → Cases p f ss t
path_cases {p} f ss (has_variable {s = s} {x = x} c d) e = variable_cases p f x ss (subst (Occurs x) e (occurs_from x s c))
path_cases {p} f ss (has_argument {f = g} {ss = ts} {t = t} i) e = let q : ts ≡ ss = cc in inl (subst (IsArgument t) q i)
path_cases {p} f ss (through_argument {f = g} {ss = ts} s i l) e = let q : ts ≡ ss = cc in inr (inl (s, subst (IsArgument s) q i, l))
path_cases {p} f ss (symbol_above {f = k} {g = g} {ss = us} {ts = ts} up each) e =
    let q : k ≡ f = cc in inr (inr (g, ts, refl, (λ u i. subst (λ x. PathGreater p x u) e (each u i)), inl (subst (λ x. IsAbove p x g) q up)))
path_cases {p} f ss (first_greater {f = k} {ss = us} {ts = ts} x y d l each) e =
    let q : us ≡ ss = cc in let r : f ≡ k = cc in inr (inr (k, ts, refl, (λ u i. subst (λ x. PathGreater p x u) e (each u i)), inr (r, (x, y, subst (λ z. DifferFirst x y z ts) q d, l))))

application_irreflexive : (p : List ℕ) (f : ℕ) (ss : Trees) → ((s : Tree) → IsArgument s ss → PathGreater p s s → ⊥) → Cases p f ss (apply f ss) → ⊥
application_irreflexive p f ss h (inl i) = let k = argument_smaller (apply f ss) ss i in omega arith
application_irreflexive p f ss h (inr (inl (s, i, l))) = h s i (path_trans p l s (has_argument i))
application_irreflexive p f ss h (inr (inr (g, ts, e, each, inl up))) = let q : f ≡ g = cc in let r : place_in p f ≡ place_in p g = ap (place_in p) q in omega arith
application_irreflexive p f ss h (inr (inr (g, ts, e, each, inr (q, (x, y, d, l))))) =
    let r : ts ≡ ss = cc in
    let k = differ_same x y ss (subst (DifferFirst x y ss) r d) in
    h x k.0 (subst (PathGreater p x) (sym k.1) l)

mutual
  pub path_irreflexive : (p : List ℕ) (s : Tree) → PathGreater p s s → ⊥
  path_irreflexive p (variable n) l = no_lesser refl l
  path_irreflexive p (apply f ss) l = application_irreflexive p f ss (λ s i. arguments_irreflexive p ss s i) (path_cases f ss l refl)

  arguments_irreflexive : (p : List ℕ) (ss : Trees) (s : Tree) → IsArgument s ss → PathGreater p s s → ⊥
  arguments_irreflexive p no_trees s i l = i
  arguments_irreflexive p (more_trees t ts) s (inl e) l = path_irreflexive p t (subst (λ x. PathGreater p x x) (sym e) l)
  arguments_irreflexive p (more_trees t ts) s (inr i) l = arguments_irreflexive p ts s i l

-- s is greater than t, or not
abbrev pub Decided : List ℕ → Tree → Tree → Type 0
Decided p s t = PathGreater p s t ⊎ (PathGreater p s t → ⊥)

-- some argument is t or greater
abbrev SomeArgument : (p : List ℕ) (ss : Trees) (t : Tree) → Type 0
SomeArgument p ss t = (s : Tree) × IsArgument s ss × ((s ≡ t) ⊎ PathGreater p s t)

some_decides : (p : List ℕ) (ss : Trees) (t : Tree) → ((s : Tree) → IsArgument s ss → Decided p s t) → SomeArgument p ss t ⊎ (SomeArgument p ss t → ⊥)
some_decides p no_trees t h = inr (λ q. q.1)
some_decides p (more_trees s ss) t h = go (trees_decide s t) (h s (inl refl)) (some_decides p ss t (λ u i. h u (inr i)))
  where
    go : (s ≡ t) ⊎ (s ≡ t → ⊥) → Decided p s t → SomeArgument p ss t ⊎ (SomeArgument p ss t → ⊥) → SomeArgument p (more_trees s ss) t ⊎ (SomeArgument p (more_trees s ss) t → ⊥)
    go (inl e) d r = inl (s, inl refl, inl e)
    go (inr n) (inl l) r = inl (s, inl refl, inr l)
    go (inr n) (inr m) (inl (u, i, q)) = inl (u, inr i, q)
    go (inr n) (inr m) (inr k) = inr (λ q. no q.0 q.1 q.2)
      where
        no : (u : Tree) → IsArgument u (more_trees s ss) → (u ≡ t) ⊎ PathGreater p u t → ⊥
        no u (inl e) (inl d) = n (e ∙ d)
        no u (inl e) (inr l) = m (subst (λ x. PathGreater p x t) (sym e) l)
        no u (inr i) q = k (u, i, q)

-- the first argument that differs is greater
abbrev FirstGreater : (p : List ℕ) (ss ts : Trees) → Type 0
FirstGreater p ss ts = (x : Tree) × (y : Tree) × DifferFirst x y ss ts × PathGreater p x y

first_decides : (p : List ℕ) (ss ts : Trees) → ((s : Tree) → IsArgument s ss → (t : Tree) → Decided p s t) → FirstGreater p ss ts ⊎ (FirstGreater p ss ts → ⊥)
first_decides p no_trees ts h = inr (λ q. q.2)
first_decides p (more_trees s ss) no_trees h = inr (λ q. q.2)
first_decides p (more_trees s ss) (more_trees t ts) h = go (trees_decide s t) (h s (inl refl) t) (first_decides p ss ts (λ u i. h u (inr i)))
  where
    go : (s ≡ t) ⊎ (s ≡ t → ⊥) → Decided p s t → FirstGreater p ss ts ⊎ (FirstGreater p ss ts → ⊥) → FirstGreater p (more_trees s ss) (more_trees t ts) ⊎ (FirstGreater p (more_trees s ss) (more_trees t ts) → ⊥)
    go (inr n) (inl l) r = inl (s, t, inl (refl, refl), l)
    go (inr n) (inr m) r = inr (λ q. no q.0 q.1 q.2 q.3)
      where
        no : (x y : Tree) → DifferFirst x y (more_trees s ss) (more_trees t ts) → PathGreater p x y → ⊥
        no x y (inl d) l = m (subst₂ (PathGreater p) (sym d.0) (sym d.1) l)
        no x y (inr d) l = n d.0
    go (inl e) d (inl (x, y, k, l)) = inl (x, y, inr (e, k), l)
    go (inl e) d (inr k) = inr (λ q. no q.0 q.1 q.2 q.3)
      where
        no : (x y : Tree) → DifferFirst x y (more_trees s ss) (more_trees t ts) → PathGreater p x y → ⊥
        no x y (inl d) l = path_irreflexive p x (subst (PathGreater p x) (sym d.1 ∙ sym e ∙ d.0) l)
        no x y (inr d) l = k (x, y, d.1, l)

-- the symbols are in order, or the same with a greater first argument that differs
abbrev HeadGreater : (p : List ℕ) (f : ℕ) (ss : Trees) (g : ℕ) (ts : Trees) → Type 0
HeadGreater p f ss g ts = IsAbove p f g ⊎ (f ≡ g × FirstGreater p ss ts)

head_decides : (p : List ℕ) (f : ℕ) (ss : Trees) (g : ℕ) (ts : Trees) → ((s : Tree) → IsArgument s ss → (t : Tree) → Decided p s t) → HeadGreater p f ss g ts ⊎ (HeadGreater p f ss g ts → ⊥)
head_decides p f ss g ts h = go (cases_lt (place_in p f) (place_in p g)) (cases_eq f g) (first_decides p ss ts h)
  where
    go : IsAbove p f g ⊎ (place_in p g ≤ place_in p f) → (f ≡ g) ⊎ (f ≡ g → ⊥) → FirstGreater p ss ts ⊎ (FirstGreater p ss ts → ⊥) → HeadGreater p f ss g ts ⊎ (HeadGreater p f ss g ts → ⊥)
    go (inl a) e r = inl (inl a)
    go (inr n) (inl e) (inl r) = inl (inr (e, r))
    go (inr n) (inl e) (inr k) = inr (λ q. ⊎_elim (λ a. omega arith) (λ r. k r.1) q)
    go (inr n) (inr d) r = inr (λ q. ⊎_elim (λ a. omega arith) (λ r. d r.0) q)

by_some : (p : List ℕ) (f : ℕ) (ss : Trees) (t : Tree) → SomeArgument p ss t → PathGreater p (apply f ss) t
by_some p f ss t (s, i, inl e) = has_argument (subst (λ x. IsArgument x ss) e i)
by_some p f ss t (s, i, inr l) = through_argument s i l

by_head : (p : List ℕ) (f : ℕ) (ss : Trees) (g : ℕ) (ts : Trees) → ((u : Tree) → IsArgument u ts → PathGreater p (apply f ss) u) → HeadGreater p f ss g ts → PathGreater p (apply f ss) (apply g ts)
by_head p f ss g ts each (inl up) = symbol_above up each
by_head p f ss g ts each (inr (e, (x, y, d, l))) = subst (λ z. PathGreater p (apply f ss) (apply z ts)) e (first_greater x y d l each)

-- all arguments are less than the application
abbrev AllLess : (p : List ℕ) (f : ℕ) (ss ts : Trees) → Type 0
AllLess p f ss ts = (u : Tree) → IsArgument u ts → PathGreater p (apply f ss) u

mutual
  application_decides : (p : List ℕ) (f : ℕ) (ss : Trees) → ((s : Tree) → IsArgument s ss → (t : Tree) → Decided p s t) → (t : Tree) → Decided p (apply f ss) t
  application_decides p f ss h (variable x) = ⊎_elim (λ q. inl (by_some p f ss (variable x) q)) (λ n. inr (λ l. go n (path_cases f ss l refl))) (some_decides p ss (variable x) (λ s i. h s i (variable x)))
    where
      go : (SomeArgument p ss (variable x) → ⊥) → Cases p f ss (variable x) → ⊥
      go n (inl i) = n (variable x, i, inl refl)
      go n (inr (inl (s, i, l))) = n (s, i, inr l)
      go n (inr (inr (g, ts, e, r, q))) = cc
  application_decides p f ss h (apply g ts) = go (some_decides p ss (apply g ts) (λ s i. h s i (apply g ts))) (head_decides p f ss g ts h) (all_decide p f ss h ts)
    where
      go : SomeArgument p ss (apply g ts) ⊎ (SomeArgument p ss (apply g ts) → ⊥) → HeadGreater p f ss g ts ⊎ (HeadGreater p f ss g ts → ⊥) → AllLess p f ss ts ⊎ (AllLess p f ss ts → ⊥) → Decided p (apply f ss) (apply g ts)
      go (inl q) d r = inl (by_some p f ss (apply g ts) q)
      go (inr n) (inl d) (inl r) = inl (by_head p f ss g ts r d)
      go (inr n) (inr m) r = inr (λ l. no (path_cases f ss l refl))
        where
          no : Cases p f ss (apply g ts) → ⊥
          no (inl i) = n (apply g ts, i, inl refl)
          no (inr (inl (s, i, l))) = n (s, i, inr l)
          no (inr (inr (k, us, e, each, q))) = let a : k ≡ g = cc in let b : us ≡ ts = cc in m (subst₂ (HeadGreater p f ss) a b q)
      go (inr n) (inl d) (inr m) = inr (λ l. no (path_cases f ss l refl))
        where
          no : Cases p f ss (apply g ts) → ⊥
          no (inl i) = n (apply g ts, i, inl refl)
          no (inr (inl (s, i, l))) = n (s, i, inr l)
          no (inr (inr (k, us, e, each, q))) = let b : us ≡ ts = cc in m (subst (AllLess p f ss) b each)

  all_decide : (p : List ℕ) (f : ℕ) (ss : Trees) → ((s : Tree) → IsArgument s ss → (t : Tree) → Decided p s t) → (ts : Trees) → AllLess p f ss ts ⊎ (AllLess p f ss ts → ⊥)
  all_decide p f ss h no_trees = inl (λ u i. absurd i)
  all_decide p f ss h (more_trees t ts) = go (application_decides p f ss h t) (all_decide p f ss h ts)
    where
      go : Decided p (apply f ss) t → AllLess p f ss ts ⊎ (AllLess p f ss ts → ⊥) → AllLess p f ss (more_trees t ts) ⊎ (AllLess p f ss (more_trees t ts) → ⊥)
      go (inl l) (inl r) = inl (λ u i. ⊎_elim (λ e. subst (PathGreater p (apply f ss)) e l) (λ j. r u j) i)
      go (inl l) (inr n) = inr (λ q. n (λ u i. q u (inr i)))
      go (inr m) r = inr (λ q. m (q t (inl refl)))

mutual
  pub path_decides : (p : List ℕ) (s t : Tree) → Decided p s t
  path_decides p (variable n) t = inr (λ l. no_lesser refl l)
  path_decides p (apply f ss) t = application_decides p f ss (λ s i u. arguments_decide p ss s i u) t

  arguments_decide : (p : List ℕ) (ss : Trees) (s : Tree) → IsArgument s ss → (t : Tree) → Decided p s t
  arguments_decide p no_trees s i t = absurd i
  arguments_decide p (more_trees u us) s (inl e) t = subst (λ x. Decided p x t) e (path_decides p u t)
  arguments_decide p (more_trees u us) s (inr i) t = arguments_decide p us s i t

-- in the words of the definition
pub lpo_irreflexive : (p : List ℕ) (s : Tree) → LpoGreater p s s → ⊥
lpo_irreflexive p s l = path_irreflexive p s (path_from_lpo p l)

pub lpo_trans : (p : List ℕ) (s t u : Tree) → LpoGreater p s t → LpoGreater p t u → LpoGreater p s u
lpo_trans p s t u h k = lpo_from_path p (path_trans p (path_from_lpo p h) u (path_from_lpo p k))

pub lpo_decides : (p : List ℕ) (s t : Tree) → LpoGreater p s t ⊎ (LpoGreater p s t → ⊥)
lpo_decides p s t = ⊎_elim (λ l. inl (lpo_from_path p l)) (λ n. inr (λ l. n (path_from_lpo p l))) (path_decides p s t)
