-- The Knuth-Bendix order by cases on the terms; it is transitive, irreflexive and decided.
use Rattle.std.proofs.Common.{ℕ, ◌≤◌, ◌<◌, ◌≡◌, ◌⊎◌, inl, inr, ⊎_elim, refl, sym, ap, ◌∙◌, subst, arith, List, [], ◌∷◌, ◌++◌, Contains}
use Rattle.std.proofs.lemmas.Bool.{cases_lt, cases_eq}
use Rattle.kb_lemmas.proofs.Membership.{contains_cases}
use Rattle.kb_term.specs.Tree.{Tree, variable, apply, Trees, no_trees, more_trees, list_of, variables_of}
use Rattle.kb_term.proofs.Instances.{trees_decide}
use Rattle.kb_term.specs.Pair.{place_in}
use Rattle.kb_lpo.specs.PathOrder.{IsAbove}
use Rattle.kb_kbo.specs.KnuthBendix.{KboOrder, KboGreater, heavier, symbol_greater, arguments_greater, weight, HoldsVariables, occurrences}
use Rattle.kb_kbo.proofs.KboOccurrences.{HoldsAll, contains_from_occurrence}

-- the arguments are above at the first difference
abbrev pub FirstGreater : KboOrder → Trees → Trees → Type 0
FirstGreater order no_trees ts = ⊥
FirstGreater order (more_trees s ss) no_trees = ⊥
FirstGreater order (more_trees s ss) (more_trees t ts) = KboGreater order s t ⊎ ((s ≡ t) × FirstGreater order ss ts)

-- above by the symbols, or by the arguments of one symbol
abbrev pub HeadGreater : KboOrder → Tree → Tree → Type 0
HeadGreater order (variable m) t = ⊥
HeadGreater order (apply f ss) (variable n) = ⊥
HeadGreater order (apply f ss) (apply g ts) = IsAbove order.precedence f g ⊎ ((f ≡ g) × FirstGreater order ss ts)

-- above by the weight, or of one weight
abbrev pub WeightGreater : KboOrder → Tree → Tree → Type 0
WeightGreater order s t = (weight order t < weight order s) ⊎ ((weight order s ≡ weight order t) × HeadGreater order s t)

first_from : (order : KboOrder) (front : List Tree) (s t : Tree) (ss ts : Trees) (xs ys : List Tree) → list_of ss ≡ front ++ s ∷ xs → list_of ts ≡ front ++ t ∷ ys → KboGreater order s t → FirstGreater order ss ts
first_from order [] s t no_trees ts xs ys e d h = absurd (cc)
first_from order [] s t (more_trees u us) no_trees xs ys e d h = absurd (cc)
first_from order [] s t (more_trees u us) (more_trees v vs) xs ys e d h = let p : s ≡ u = cc in let q : t ≡ v = cc in inl (subst (KboGreater order u) q (subst (λ z. KboGreater order z t) p h))
first_from order (x ∷ front) s t no_trees ts xs ys e d h = absurd (cc)
first_from order (x ∷ front) s t (more_trees u us) no_trees xs ys e d h = absurd (cc)
first_from order (x ∷ front) s t (more_trees u us) (more_trees v vs) xs ys e d h = inr (cc, first_from order front s t us vs xs ys (cc) (cc) h)

first_to : (order : KboOrder) (ss ts : Trees) → FirstGreater order ss ts → (front : List Tree) × (s : Tree) × (t : Tree) × (xs : List Tree) × (ys : List Tree) × list_of ss ≡ front ++ s ∷ xs × list_of ts ≡ front ++ t ∷ ys × KboGreater order s t
first_to order no_trees ts d = absurd d
first_to order (more_trees u us) no_trees d = absurd d
first_to order (more_trees u us) (more_trees v vs) (inl h) = ([], u, v, list_of us, list_of vs, refl, refl, h)
first_to order (more_trees u us) (more_trees v vs) (inr d) =
    let r = first_to order us vs d.1 in
    (u ∷ r.0, r.1, r.2, r.3, r.4, ap (u ∷◌) r.5, ap (v ∷◌) r.6 ∙ ap (λ x. x ∷ (r.0 ++ r.2 ∷ r.4)) (sym d.0), r.7)

pub greater_holds : {order : KboOrder} {s t : Tree} → KboGreater order s t → HoldsVariables s t
greater_holds (heavier h l) = h
greater_holds (symbol_greater h e up) = h
greater_holds (arguments_greater h e front s t xs ys d c g) = h

pub greater_cases : {order : KboOrder} {s t : Tree} → KboGreater order s t → WeightGreater order s t
greater_cases (heavier h l) = inl l
greater_cases (symbol_greater h e up) = inr (e, inl up)
greater_cases {order} (arguments_greater {f = f} {ss = ss} {ts = ts} h e front s t xs ys d c g) = inr (e, inr (refl, first_from order front s t ss ts xs ys d c g))

pub greater_from : (order : KboOrder) (s t : Tree) → HoldsVariables s t → WeightGreater order s t → KboGreater order s t
greater_from order s t h (inl l) = heavier h l
greater_from order (variable m) t h (inr r) = absurd r.1
greater_from order (apply f ss) (variable n) h (inr r) = absurd r.1
greater_from order (apply f ss) (apply g ts) h (inr (e, inl up)) = symbol_greater h e up
greater_from order (apply f ss) (apply g ts) h (inr (e, inr (q, d))) =
    let r = first_to order ss ts d in
    subst (λ z. KboGreater order (apply f ss) (apply z ts)) q (arguments_greater h (e ∙ ap (λ z. weight order (apply z ts)) (sym q)) r.0 r.1 r.2 r.3 r.4 r.5 r.6 r.7)

-- what is above weighs at least as much
pub greater_weighs : {order : KboOrder} {s t : Tree} → KboGreater order s t → weight order t ≤ weight order s
greater_weighs g = ⊎_elim (λ l. omega arith) (λ r. let e = r.0 in omega arith) (greater_cases g)

join_weights : (order : KboOrder) (s t u : Tree) → (HeadGreater order s t → HeadGreater order t u → HeadGreater order s u) → WeightGreater order s t → WeightGreater order t u → WeightGreater order s u
join_weights order s t u head (inl l) (inl m) = inl (omega arith)
join_weights order s t u head (inl l) (inr (d, y)) = inl (omega arith)
join_weights order s t u head (inr (e, x)) (inl m) = inl (omega arith)
join_weights order s t u head (inr (e, x)) (inr (d, y)) = inr (e ∙ d, head x y)

join_heads : (order : KboOrder) (s : Tree) (g : ℕ) (ts : Trees) (u : Tree) → ((ss us : Trees) → FirstGreater order ss ts → FirstGreater order ts us → FirstGreater order ss us) → HeadGreater order s (apply g ts) → HeadGreater order (apply g ts) u → HeadGreater order s u
join_heads order (variable m) g ts u first x y = absurd x
join_heads order (apply f ss) g ts (variable n) first x y = absurd y
join_heads order (apply f ss) g ts (apply h us) first (inl a) (inl b) = inl (omega arith)
join_heads order (apply f ss) g ts (apply h us) first (inl a) (inr (e, d)) = inl (subst (IsAbove order.precedence f) e a)
join_heads order (apply f ss) g ts (apply h us) first (inr (e, d)) (inl b) = inl (subst (λ z. IsAbove order.precedence z h) (sym e) b)
join_heads order (apply f ss) g ts (apply h us) first (inr (e, d)) (inr (q, c)) = inr (e ∙ q, first ss us d c)

joined : (order : KboOrder) (s t u : Tree) → (HeadGreater order s t → HeadGreater order t u → HeadGreater order s u) → KboGreater order s t → KboGreater order t u → KboGreater order s u
joined order s t u head h k = greater_from order s u (λ n. let a = greater_holds h n in let b = greater_holds k n in omega arith) (join_weights order s t u head (greater_cases h) (greater_cases k))

mutual
  pub through : (order : KboOrder) (t s u : Tree) → KboGreater order s t → KboGreater order t u → KboGreater order s u
  through order (variable n) s u h k = joined order s (variable n) u (λ x y. absurd y) h k
  through order (apply g ts) s u h k = joined order s (apply g ts) u (join_heads order s g ts u (λ ss us. first_through order ts ss us)) h k

  first_through : (order : KboOrder) (ts ss us : Trees) → FirstGreater order ss ts → FirstGreater order ts us → FirstGreater order ss us
  first_through order no_trees ss us d e = absurd e
  first_through order (more_trees t ts) no_trees us d e = absurd d
  first_through order (more_trees t ts) (more_trees s ss) no_trees d e = absurd e
  first_through order (more_trees t ts) (more_trees s ss) (more_trees u us) (inl h) (inl k) = inl (through order t s u h k)
  first_through order (more_trees t ts) (more_trees s ss) (more_trees u us) (inl h) (inr e) = inl (subst (KboGreater order s) e.0 h)
  first_through order (more_trees t ts) (more_trees s ss) (more_trees u us) (inr d) (inl k) = inl (subst (λ z. KboGreater order z u) (sym d.0) k)
  first_through order (more_trees t ts) (more_trees s ss) (more_trees u us) (inr d) (inr e) = inr (d.0 ∙ e.0, first_through order ts ss us d.1 e.1)

pub kbo_trans : (order : KboOrder) (s t u : Tree) → KboGreater order s t → KboGreater order t u → KboGreater order s u
kbo_trans order s t u h k = through order t s u h k

mutual
  pub kbo_irreflexive : (order : KboOrder) (s : Tree) → KboGreater order s s → ⊥
  kbo_irreflexive order (variable n) h = ⊎_elim (λ l. omega arith) (λ r. r.1) (greater_cases h)
  kbo_irreflexive order (apply f ss) h = ⊎_elim (λ l. omega arith) (λ r. ⊎_elim (λ a. omega arith) (λ d. first_irreflexive order ss d.1) r.1) (greater_cases h)

  first_irreflexive : (order : KboOrder) (ss : Trees) → FirstGreater order ss ss → ⊥
  first_irreflexive order no_trees d = d
  first_irreflexive order (more_trees s ss) (inl h) = kbo_irreflexive order s h
  first_irreflexive order (more_trees s ss) (inr d) = first_irreflexive order ss d.1

-- whether the numbers of a third list occur in the first list at least as often as in the second
among : (xs ys zs : List ℕ) → ((n : ℕ) → Contains zs n → occurrences n ys ≤ occurrences n xs) ⊎ ((n : ℕ) × (occurrences n xs < occurrences n ys))
among xs ys [] = inl (λ n c. absurd (omega arith))
among xs ys (z ∷ zs) = go (cases_lt (occurrences z xs) (occurrences z ys)) (among xs ys zs)
  where
    go : (occurrences z xs < occurrences z ys) ⊎ (occurrences z ys ≤ occurrences z xs) → ((n : ℕ) → Contains zs n → occurrences n ys ≤ occurrences n xs) ⊎ ((n : ℕ) × (occurrences n xs < occurrences n ys)) → ((n : ℕ) → Contains (z ∷ zs) n → occurrences n ys ≤ occurrences n xs) ⊎ ((n : ℕ) × (occurrences n xs < occurrences n ys))
    go (inl l) r = inr (z, l)
    go (inr m) (inr r) = inr r
    go (inr m) (inl r) = inl (λ n c. ⊎_elim (λ e. subst (λ v. occurrences v ys ≤ occurrences v xs) e m) (λ d. r n d) (contains_cases z zs n c))

holds_decides : (xs ys : List ℕ) → HoldsAll xs ys ⊎ (HoldsAll xs ys → ⊥)
holds_decides xs ys = go (among xs ys ys)
  where
    go : ((n : ℕ) → Contains ys n → occurrences n ys ≤ occurrences n xs) ⊎ ((n : ℕ) × (occurrences n xs < occurrences n ys)) → HoldsAll xs ys ⊎ (HoldsAll xs ys → ⊥)
    go (inl h) = inl (λ n. ⊎_elim (λ l. h n (contains_from_occurrence n ys l)) (λ m. omega arith) (cases_lt 0 (occurrences n ys)))
    go (inr r) = inr (λ h. let a = h r.0 in let b = r.1 in omega arith)

abbrev Decided : Type 0 → Type 0
Decided P = P ⊎ (P → ⊥)

by_head : (order : KboOrder) (s t : Tree) → Decided (HeadGreater order s t) → Decided (KboGreater order s t)
by_head order s t d = go (holds_decides (variables_of s) (variables_of t)) (cases_lt (weight order t) (weight order s)) (cases_eq (weight order s) (weight order t)) d
  where
    go : Decided (HoldsVariables s t) → (weight order t < weight order s) ⊎ (weight order s ≤ weight order t) → Decided (weight order s ≡ weight order t) → Decided (HeadGreater order s t) → Decided (KboGreater order s t)
    go (inr n) l e d = inr (λ g. n (greater_holds g))
    go (inl h) (inl l) e d = inl (greater_from order s t h (inl l))
    go (inl h) (inr m) (inl e) (inl d) = inl (greater_from order s t h (inr (e, d)))
    go (inl h) (inr m) (inl e) (inr n) = inr (λ g. ⊎_elim (λ l. omega arith) (λ r. n r.1) (greater_cases g))
    go (inl h) (inr m) (inr n) d = inr (λ g. ⊎_elim (λ l. omega arith) (λ r. n r.0) (greater_cases g))

by_first : (order : KboOrder) (f g : ℕ) (ss ts : Trees) → Decided (FirstGreater order ss ts) → Decided (HeadGreater order (apply f ss) (apply g ts))
by_first order f g ss ts d = go (cases_lt (place_in order.precedence f) (place_in order.precedence g)) (cases_eq f g) d
  where
    go : IsAbove order.precedence f g ⊎ (place_in order.precedence g ≤ place_in order.precedence f) → Decided (f ≡ g) → Decided (FirstGreater order ss ts) → Decided (HeadGreater order (apply f ss) (apply g ts))
    go (inl a) e d = inl (inl a)
    go (inr m) (inl e) (inl d) = inl (inr (e, d))
    go (inr m) (inl e) (inr n) = inr (λ q. ⊎_elim (λ a. omega arith) (λ r. n r.1) q)
    go (inr m) (inr n) d = inr (λ q. ⊎_elim (λ a. omega arith) (λ r. n r.0) q)

first_cons : (order : KboOrder) (s t : Tree) (ss ts : Trees) → Decided (KboGreater order s t) → Decided (s ≡ t) → Decided (FirstGreater order ss ts) → Decided (FirstGreater order (more_trees s ss) (more_trees t ts))
first_cons order s t ss ts (inl h) e d = inl (inl h)
first_cons order s t ss ts (inr n) (inl e) (inl d) = inl (inr (e, d))
first_cons order s t ss ts (inr n) (inl e) (inr m) = inr (λ q. ⊎_elim (λ h. n h) (λ r. m r.1) q)
first_cons order s t ss ts (inr n) (inr m) d = inr (λ q. ⊎_elim (λ h. n h) (λ r. m r.0) q)

mutual
  pub kbo_decides : (order : KboOrder) (s t : Tree) → KboGreater order s t ⊎ (KboGreater order s t → ⊥)
  kbo_decides order (variable m) t = by_head order (variable m) t (inr (λ x. x))
  kbo_decides order (apply f ss) (variable n) = by_head order (apply f ss) (variable n) (inr (λ x. x))
  kbo_decides order (apply f ss) (apply g ts) = by_head order (apply f ss) (apply g ts) (by_first order f g ss ts (first_decides order ss ts))

  first_decides : (order : KboOrder) (ss ts : Trees) → FirstGreater order ss ts ⊎ (FirstGreater order ss ts → ⊥)
  first_decides order no_trees ts = inr (λ x. x)
  first_decides order (more_trees s ss) no_trees = inr (λ x. x)
  first_decides order (more_trees s ss) (more_trees t ts) = first_cons order s t ss ts (kbo_decides order s t) (trees_decide s t) (first_decides order ss ts)
