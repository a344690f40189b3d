-- Every chain of the bounded path order has a bound.
use Rattle.std.proofs.Common.{ℕ, zero, suc, ◌+◌, ◌≡◌, ◌≤◌, ◌<◌, ◌⊎◌, inl, inr, refl, sym, ap, ◌∙◌, subst, arith, List, [], ◌∷◌, Contains, length, lt-suc_self}
use Rattle.std.proofs.lemmas.Bool.{cases_lt}
use Rattle.kb_term.proofs.Numbered.{place_in-le-length}
use Rattle.kb_lemmas.proofs.Membership.{contains_cases}
use Rattle.kb_term.specs.Tree.{Tree, variable, apply, Trees, no_trees, more_trees}
use Rattle.kb_term.proofs.Steps.{trees_length, IsWellFormed, AreWellFormed}
use Rattle.kb_term.specs.Pair.{place_in}
use Rattle.kb_lpo.specs.PathOrder.{IsAbove}
use Rattle.kb_lpo.proofs.Lpo.{IsArgument, DifferFirst}
use Rattle.kb_term.proofs.Chains.{Bounded, bounded_more}
use Rattle.kb_lpo.proofs.LpoBelow.{Below, argument, under_argument, above, lexicographic, argument_differs}

-- where each member of a list has a number, one number serves for all
one_for_all : {X : Type 0} (Q : X → ℕ → Type 0) → ((x : X) (n m : ℕ) → Q x n → n ≤ m → Q x m) → (xs : List X) → ((x : X) → Contains xs x → (n : ℕ) × Q x n) → (n : ℕ) × ((x : X) → Contains xs x → Q x n)
one_for_all Q more [] each = (0, λ x c. absurd (omega arith))
one_for_all {X} Q more (y ∷ ys) each =
    let a : (n : ℕ) × Q y n = each y (0, omega arith, refl) in
    let b = one_for_all Q more ys (λ x c. each x (suc c.0, omega arith, c.2)) in
    (a.0 + b.0, λ x c. go a b x (contains_cases y ys x c))
  where
    go : (a : (n : ℕ) × Q y n) (b : (n : ℕ) × ((x : X) → Contains ys x → Q x n)) (x : X) → (y ≡ x) ⊎ Contains ys x → Q x (a.0 + b.0)
    go a b x (inl e) = more x a.0 (a.0 + b.0) (subst (λ z. Q z a.0) e a.1) (omega arith)
    go a b x (inr c) = more x b.0 (a.0 + b.0) (b.1 x c) (omega arith)

-- ms comes before ns, compared from the left
abbrev LexLess : List ℕ → List ℕ → Type 0
LexLess [] ns = ⊥
LexLess (m ∷ ms) [] = ⊥
LexLess (m ∷ ms) (n ∷ ns) = (m < n × length ms ≡ length ns) ⊎ (m ≡ n × LexLess ms ns)

lex_nil : (ms : List ℕ) → LexLess ms [] → ⊥
lex_nil [] h = h
lex_nil (m ∷ ms) h = h

-- what holds of a list where it holds of all lists before it
abbrev IsStep : ℕ → (List ℕ → Type 0) → Type 0
IsStep l P = (ns : List ℕ) → length ns ≡ l → ((ms : List ℕ) → LexLess ms ns → P ms) → P ns

lex_inner : (l : ℕ) → ((Q : List ℕ → Type 0) → IsStep l Q → (ns : List ℕ) → length ns ≡ l → Q ns) → (P : List ℕ → Type 0) → IsStep (suc l) P → (b n : ℕ) → n < b → (ns : List ℕ) → length ns ≡ l → P (n ∷ ns)
lex_inner l rec P step zero n h ns e = absurd (omega arith)
lex_inner l rec P step (suc b) n h ns e = rec (λ ms. P (n ∷ ms)) (λ ms d each. step (n ∷ ms) (ap suc d) (λ qs k. go (λ q lt rs c. lex_inner l rec P step b q (omega arith) rs c) ms d each qs k)) ns e
  where
    go : ((q : ℕ) → q < n → (rs : List ℕ) → length rs ≡ l → P (q ∷ rs)) → (ms : List ℕ) → length ms ≡ l → ((qs : List ℕ) → LexLess qs ms → P (n ∷ qs)) → (qs : List ℕ) → LexLess qs (n ∷ ms) → P qs
    go less ms d each [] k = absurd k
    go less ms d each (q ∷ qs) (inl k) = less q k.0 qs (k.1 ∙ d)
    go less ms d each (q ∷ qs) (inr k) = subst (λ x. P (x ∷ qs)) (sym k.0) (each qs k.1)

lex_induction : (l : ℕ) (P : List ℕ → Type 0) → IsStep l P → (ns : List ℕ) → length ns ≡ l → P ns
lex_induction zero P step [] e = step [] e (λ ms h. absurd (lex_nil ms h))
lex_induction zero P step (n ∷ ns) e = absurd (omega arith)
lex_induction (suc l) P step [] e = absurd (omega arith)
lex_induction (suc l) P step (n ∷ ns) e = lex_inner l (lex_induction l) P step (suc n) n (lt-suc_self n) ns (omega arith)

copies : ℕ → ℕ → List ℕ
copies zero n = []
copies (suc k) n = n ∷ copies k n

length-copies : (k n : ℕ) → length (copies k n) ≡ k
unfolding copies
length-copies zero n = refl
length-copies (suc k) n = ap suc (length-copies k n)

abbrev IsApplied : Tree → Type 0
IsApplied (variable x) = ⊥
IsApplied (apply f ts) = Unit {0}

greater_applied : {p : List ℕ} {K k : ℕ} {s t : Tree} → Below p K k s t → IsApplied s
greater_applied (argument i) = tt
greater_applied (under_argument s i h) = tt
greater_applied (above up each) = tt
greater_applied (lexicographic s t d h each) = tt

module _ (a : ℕ → ℕ) (fs p : List ℕ) (K : ℕ) where
  -- s is above t, and t is well formed
  abbrev pub Lower : Tree → Tree → Type 0
  Lower s t = Below p K K s t × IsWellFormed a fs t

  -- the numbers are bounds of the terms
  abbrev Bounds : List ℕ → Trees → Type 0
  Bounds [] no_trees = Unit {0}
  Bounds [] (more_trees t ts) = ⊥
  Bounds (n ∷ ns) no_trees = ⊥
  Bounds (n ∷ ns) (more_trees t ts) = Bounded Lower n t × Bounds ns ts

  abbrev AllBounded : ℕ → Trees → Type 0
  AllBounded n ts = (t : Tree) → IsArgument t ts → Bounded Lower n t

  bounds_copies : (n : ℕ) (ts : Trees) → AllBounded n ts → Bounds (copies (trees_length ts) n) ts
  unfolding copies
  bounds_copies n no_trees h = tt
  bounds_copies n (more_trees t ts) h = (h t (inl refl), bounds_copies n ts (λ u i. h u (inr i)))

  -- an application of f to terms with these bounds has a bound
  abbrev HasBound : ℕ → List ℕ → Type 0
  HasBound f ns = (b : ℕ) × ((ts : Trees) → Bounds ns ts → Bounded Lower b (apply f ts))

  bounded_next : (n : ℕ) (s t : Tree) → Bounded Lower n s → Lower s t → Bounded Lower n t
  bounded_next zero s t b h = absurd (b t h)
  bounded_next (suc n) s t b h = bounded_more Lower n (suc n) t (b t h) (omega arith)

  -- the arguments have one bound
  argument_bound : (ns : List ℕ) → (n : ℕ) × ((ts : Trees) → Bounds ns ts → AllBounded n ts)
  argument_bound [] = (0, λ ts b. go ts b)
    where
      go : (ts : Trees) → Bounds [] ts → AllBounded 0 ts
      go no_trees b = λ t i. absurd i
      go (more_trees t ts) b = absurd b
  argument_bound (n ∷ ns) = let r = argument_bound ns in (n + r.0, λ ts b. go r.0 r.1 ts b)
    where
      pick : (m : ℕ) (h : (ts : Trees) → Bounds ns ts → AllBounded m ts) (u : Tree) (ts : Trees) → Bounded Lower n u → Bounds ns ts → (t : Tree) → (u ≡ t) ⊎ IsArgument t ts → Bounded Lower (n + m) t
      pick m h u ts b c t (inl e) = bounded_more Lower n (n + m) t (subst (Bounded Lower n) e b) (omega arith)
      pick m h u ts b c t (inr i) = bounded_more Lower m (n + m) t (h ts c t i) (omega arith)

      go : (m : ℕ) → ((ts : Trees) → Bounds ns ts → AllBounded m ts) → (ts : Trees) → Bounds (n ∷ ns) ts → AllBounded (n + m) ts
      go m h no_trees b = absurd b
      go m h (more_trees u ts) b = λ t i. pick m h u ts b.0 b.1 t i

  -- the same of the list with one more term in front, which n bounds
  abbrev Behind : ℕ → (Trees → ℕ → Type 0) → Trees → ℕ → Type 0
  Behind n Good ts b = (u : Tree) → Bounded Lower n u → Good (more_trees u ts) b

  -- the first argument becomes smaller
  first_bound : (n : ℕ) (ns : List ℕ) (Good : Trees → ℕ → Type 0) (c : ℕ)
      → ((ms : List ℕ) → LexLess ms (n ∷ ns) → (b : ℕ) × ((ts : Trees) → Bounds ms ts → Good ts b))
      → (b : ℕ) × ((s t : Tree) (ts : Trees) → Bounded Lower n s → Lower s t → trees_length ts ≡ length ns → AllBounded c ts → Good (more_trees t ts) b)
  first_bound zero ns Good c each = (0, λ s t ts b l e w. absurd (b t l))
  first_bound (suc n) ns Good c each =
      let h = each (n ∷ copies (length ns) c) (inl (lt-suc_self n, length-copies (length ns) c)) in
      (h.0, λ s t ts b l e w. h.1 (more_trees t ts) (b t l, subst (λ x. Bounds (copies x c) ts) e (bounds_copies c ts w)))

  -- where an earlier list of bounds gives a number, one number serves all arguments that become smaller at the first place that differs
  lex_bound : (ns : List ℕ) (Good : Trees → ℕ → Type 0) → ((ts : Trees) (n m : ℕ) → Good ts n → n ≤ m → Good ts m) → (c : ℕ)
      → ((ms : List ℕ) → LexLess ms ns → (b : ℕ) × ((ts : Trees) → Bounds ms ts → Good ts b))
      → (b : ℕ) × ((s t : Tree) (ss ts : Trees) → Bounds ns ss → DifferFirst s t ss ts → Lower s t → trees_length ts ≡ length ns → AllBounded c ts → Good ts b)
  lex_bound [] Good more c each = (0, λ s t ss ts b d l e w. go s t ss ts b d)
    where
      go : (s t : Tree) (ss ts : Trees) → Bounds [] ss → DifferFirst s t ss ts → Good ts 0
      go s t no_trees ts b d = absurd d
      go s t (more_trees u us) ts b d = absurd b
  lex_bound (n ∷ ns) Good more c each =
      let later = lex_bound ns (Behind n Good) (λ ts i j g h. λ u b. more (more_trees u ts) i j (g u b) h) c (λ ms l. let h = each (n ∷ ms) (inr (refl, l)) in (h.0, λ ts b u bu. h.1 (more_trees u ts) (bu, b))) in
      let first = first_bound n ns Good c (λ ms l. each ms l) in
      (first.0 + later.0, λ s t ss ts b d l e w. go first later s t ss ts b d l e w)
    where
      go : (first : (b : ℕ) × ((s t : Tree) (ts : Trees) → Bounded Lower n s → Lower s t → trees_length ts ≡ length ns → AllBounded c ts → Good (more_trees t ts) b))
          → (later : (b : ℕ) × ((s t : Tree) (ss ts : Trees) → Bounds ns ss → DifferFirst s t ss ts → Lower s t → trees_length ts ≡ length ns → AllBounded c ts → Behind n Good ts b))
          → (s t : Tree) (ss ts : Trees) → Bounds (n ∷ ns) ss → DifferFirst s t ss ts → Lower s t → trees_length ts ≡ length (n ∷ ns) → AllBounded c ts → Good ts (first.0 + later.0)
      go first later s t no_trees ts b d l e w = absurd b
      go first later s t (more_trees x xs) no_trees b d l e w = absurd d
      go first later s t (more_trees x xs) (more_trees y ys) b (inl d) l e w =
          more (more_trees y ys) first.0 (first.0 + later.0)
          (subst (λ z. Good (more_trees z ys) first.0) (sym d.1) (first.1 s t ys (subst (Bounded Lower n) d.0 b.0) l (omega arith) (λ u i. w u (inr i)))) (omega arith)
      go first later s t (more_trees x xs) (more_trees y ys) b (inr d) l e w =
          more (more_trees y ys) later.0 (first.0 + later.0)
          (later.1 s t xs ys b.1 d.1 l (omega arith) (λ u i. w u (inr i)) y (subst (Bounded Lower n) d.0 b.0)) (omega arith)

  well_argument : (t : Tree) (ts : Trees) → IsArgument t ts → AreWellFormed a fs ts → IsWellFormed a fs t
  well_argument t no_trees i w = absurd i
  well_argument t (more_trees u us) (inl e) w = subst (IsWellFormed a fs) e w.0
  well_argument t (more_trees u us) (inr i) w = well_argument t us i w.1

  -- a symbol below f, with arguments that c bounds
  abbrev LowerBound : ℕ → ℕ → ℕ → ℕ → Type 0
  LowerBound f c g b = IsAbove p f g → (ts : Trees) → trees_length ts ≡ a g → AllBounded c ts → Bounded Lower b (apply g ts)

  lower_bound : (f c g : ℕ) → Contains fs g → ((ms : List ℕ) → IsAbove p f g → length ms ≡ a g → HasBound g ms) → (b : ℕ) × LowerBound f c g b
  lower_bound f c g i lower = go (cases_lt (place_in p f) (place_in p g))
    where
      go : (IsAbove p f g) ⊎ (place_in p g ≤ place_in p f) → (b : ℕ) × LowerBound f c g b
      go (inl h) = let r = lower (copies (a g) c) h (length-copies (a g) c) in
          (r.0, λ h ts e w. r.1 ts (subst (λ x. Bounds (copies x c) ts) e (bounds_copies c ts w)))
      go (inr h) = (0, λ k. absurd (omega arith))

  next_bound : (f : ℕ) (ns : List ℕ) → length ns ≡ a f
      → ((g : ℕ) → Contains fs g → IsAbove p f g → (ms : List ℕ) → length ms ≡ a g → HasBound g ms)
      → ((ms : List ℕ) → LexLess ms ns → HasBound f ms)
      → (k c : ℕ) → ((ss : Trees) → Bounds ns ss → (t : Tree) → IsWellFormed a fs t → Below p K k (apply f ss) t → Bounded Lower c t)
      → (b : ℕ) × ((ss : Trees) → Bounds ns ss → (t : Tree) → IsWellFormed a fs t → Below p K (suc k) (apply f ss) t → Bounded Lower b t)
  next_bound f ns e lower earlier k c before =
      let x : (b : ℕ) × ((g : ℕ) → Contains fs g → LowerBound f c g b) =
      one_for_all (LowerBound f c) (λ g n m q h. λ up ts l w. bounded_more Lower n m (apply g ts) (q up ts l w) h) fs (λ g i. lower_bound f c g i (λ ms up. lower g i up ms)) in
      let y = lex_bound ns (λ ts b. Bounded Lower b (apply f ts)) (λ ts n m q h. bounded_more Lower n m (apply f ts) q h) c earlier in
      (c + x.0 + y.0, λ ss b t w h. go x y b t w h)
    where
      go : (x : (b : ℕ) × ((g : ℕ) → Contains fs g → LowerBound f c g b))
          → (y : (b : ℕ) × ((s t : Tree) (ss ts : Trees) → Bounds ns ss → DifferFirst s t ss ts → Lower s t → trees_length ts ≡ length ns → AllBounded c ts → Bounded Lower b (apply f ts)))
          → {ss : Trees} → Bounds ns ss → (t : Tree) → IsWellFormed a fs t → Below p K (suc k) (apply f ss) t → Bounded Lower (c + x.0 + y.0) t
      go x y {ss} b t w (argument i) = bounded_more Lower c (c + x.0 + y.0) t (before ss b t w (argument i)) (omega arith)
      go x y {ss} b t w (under_argument s i h) = bounded_more Lower c (c + x.0 + y.0) t (before ss b t w (under_argument s i h)) (omega arith)
      go x y {ss} b t w (above {g = g} {ts = ts} up each) =
          bounded_more Lower x.0 (c + x.0 + y.0) t (x.1 g w.0 up ts w.1 (λ u i. before ss b u (well_argument u ts i w.2) (each u i))) (omega arith)
      go x y {ss} b t w (lexicographic {ts = ts} s u d h each) =
          bounded_more Lower y.0 (c + x.0 + y.0) t (y.1 s u ss ts b d (h, well_argument u ts (argument_differs s u ss ts d) w.2) (w.1 ∙ sym e) (λ v i. before ss b v (well_argument v ts i w.2) (each v i))) (omega arith)

  -- where lists of bounds for lower symbols and earlier lists give bounds, the application has one: what is below it at the bound k has one number
  below_bound : (f : ℕ) (ns : List ℕ) → length ns ≡ a f
      → ((g : ℕ) → Contains fs g → IsAbove p f g → (ms : List ℕ) → length ms ≡ a g → HasBound g ms)
      → ((ms : List ℕ) → LexLess ms ns → HasBound f ms)
      → (k : ℕ) → (b : ℕ) × ((ss : Trees) → Bounds ns ss → (t : Tree) → IsWellFormed a fs t → Below p K k (apply f ss) t → Bounded Lower b t)
  below_bound f ns e lower earlier zero = let r = argument_bound ns in (r.0, λ ss b t w h. go r.0 (r.1 ss b) t w h)
    where
      go : (c : ℕ) {ss : Trees} → AllBounded c ss → (t : Tree) → IsWellFormed a fs t → Below p K zero (apply f ss) t → Bounded Lower c t
      go c all t w (argument i) = all t i
      go c all t w (under_argument s i h) = bounded_next c s t (all s i) (h, w)
  below_bound f ns e lower earlier (suc k) =
      let r = below_bound f ns e lower earlier k in
      next_bound f ns e lower earlier k r.0 r.1

  symbol_step : (f : ℕ) → ((g : ℕ) → IsAbove p f g → (qs : List ℕ) → length qs ≡ a g → HasBound g qs) → (ns : List ℕ) → length ns ≡ a f → HasBound f ns
  symbol_step f lower ns e = lex_induction (a f) (HasBound f) (λ ms l earlier. top ms (below_bound f ms l (λ g i up qs q. lower g up qs q) earlier K)) ns e
    where
      top : (ms : List ℕ) → (b : ℕ) × ((ss : Trees) → Bounds ms ss → (t : Tree) → IsWellFormed a fs t → Below p K K (apply f ss) t → Bounded Lower b t) → HasBound f ms
      top ms r = (suc r.0, λ ss b. λ t l. r.1 ss b t l.1 l.0)

  -- each symbol, by its place from the end of the precedence
  symbol_bound : (d f : ℕ) → length p ≤ place_in p f + d → (ns : List ℕ) → length ns ≡ a f → HasBound f ns
  symbol_bound zero f h ns e = symbol_step f (λ g up qs q. absurd (omega (arith, place_in-le-length p g))) ns e
  symbol_bound (suc d) f h ns e = symbol_step f (λ g up qs q. symbol_bound d g (omega arith) qs q) ns e

  no_variable : (k x : ℕ) (t : Tree) → Below p K k (variable x) t → ⊥
  no_variable k x t h = greater_applied h

  mutual
    pub term_bound : (t : Tree) → IsWellFormed a fs t → (n : ℕ) × Bounded Lower n t
    term_bound (variable x) w = (0, λ t h. no_variable K x t h.0)
    term_bound (apply f ts) w =
        let r = terms_bound ts w.2 in
        let h = symbol_bound (length p) f (omega arith) r.0 (r.1 ∙ w.1) in
        (h.0, h.1 ts r.2)

    terms_bound : (ts : Trees) → AreWellFormed a fs ts → (ns : List ℕ) × length ns ≡ trees_length ts × Bounds ns ts
    terms_bound no_trees w = ([], refl, tt)
    terms_bound (more_trees t ts) w =
        let h = term_bound t w.0 in
        let r = terms_bound ts w.1 in
        (h.0 ∷ r.0, ap suc r.1, (h.1, r.2))
