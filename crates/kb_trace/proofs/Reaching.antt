-- Marking what is reached, and numbering what is marked.
use Rattle.std.proofs.Common.{ℕ, zero, suc, ◌≡◌, ◌≢◌, ◌+◌, ◌-◌, ◌<◌, ◌≤◌, ◌⊎◌, ◌∙◌, refl, sym, ap, ap₂, subst, arith, inl, inr, ⊎_elim, List, [], ◌∷◌, ◌++◌, Contains, All, AllPairs, length, length-append, append_assoc, append-nil, add-one, zero-add, get_or, set, filter, cond, Bool, true, false, not, ◌==◌, Some, slice_get}
use Rattle.std.specs.Prelude.{IsTrue, replicate, ◌↔◌}
use Rattle.std.specs.List.{AllZip, range_with_len}
use Rattle.std.proofs.lemmas.List.{get_or_append_left, get_or-set_same, get_or-set_other, length-set}
use Rattle.std.proofs.lemmas.List.Quantifiers.{all_pairs_push}
use Rattle.std.proofs.Math.Seq.{get_or-append_seam}
use Rattle.std.proofs.lemmas.List.Elements.{All-push, filter-append, Contains-append_cases, Contains-append_left, Contains-append_right}
use Rattle.std.proofs.lemmas.Option.{slice_get_within, same_Some}
use Rattle.std.proofs.lemmas.Bool.{cases_eq, ne_eqb}
use Rattle.kb_lemmas.proofs.Lists.{zip_push}
use Rattle.kb_lemmas.proofs.Membership.{contains_cases, contains_first, contains_behind}
use Rattle.kb_term.specs.Proving.{IsPath}
use Rattle.kb_term.specs.Pair.{Pair, place_in}
use Rattle.kb_term.specs.declared.origin.Origin.{Origin}
use Rattle.kb_term.specs.declared.origin.Origin.TheVariants.{Input, Rewrite, Overlap}
use Rattle.kb_term.proofs.Numbered.{place_in_is}
use Rattle.kb_text.proofs.PrintLaws.{range_push}
use Rattle.kb_trace.specs.Reached.{cites, Cites, CitesEarlier, IsReached, HasMarked, with_numbers, number_in, IsStepOf, IsTraceOf, AreMarks}
use Rattle.kb_overlap.specs.Trace.{TraceStep}

abbrev pub Marked : List Bool → ℕ → Type 0
Marked marks n = IsTrue (get_or marks n false)

-- paths
path_more : {X : Type 0} (R : X → X → Type 0) (path : List X) (s t u : X) → IsPath R path s t → R t u → IsPath R (path ++ u ∷ []) s u
path_more R [] s t u e r = (subst (λ x. R x u) (sym e) r, refl)
path_more R (x ∷ path) s t u (h, p) r = (h, path_more R path x t u p r)

pub reached_more : (nodes : List (Pair × Origin)) (wanted : List ℕ) (n m : ℕ) → IsReached nodes wanted n → Cites nodes n m → IsReached nodes wanted m
reached_more nodes wanted n m (w, c, path, p) r = (w, c, path ++ m ∷ [], path_more (Cites nodes) path w n m p r)

path_keeps : {X : Type 0} (R : X → X → Type 0) (P : X → Type 0) → ((s t : X) → P s → R s t → P t) → (path : List X) (s t : X) → IsPath R path s t → P s → P t
path_keeps R P h [] s t e p = subst P e p
path_keeps R P h (x ∷ path) s t (r, q) p = path_keeps R P h path x t q (h s x p r)

pub reached_marked : (nodes : List (Pair × Origin)) (wanted : List ℕ) (marks : List Bool) → ((m : ℕ) → Contains wanted m → Marked marks m) → ((j m : ℕ) → Marked marks j → Cites nodes j m → Marked marks m) → (m : ℕ) → IsReached nodes wanted m → Marked marks m
reached_marked nodes wanted marks first closed m (w, c, path, p) = path_keeps (Cites nodes) (Marked marks) (λ j k. closed j k) path w m p (first w c)

-- the marked numbers below a bound
abbrev pub kept : List Bool → ℕ → List ℕ
kept marks n = filter (λ m. get_or marks m false) (range_with_len 0 n)

pub kept_marked : (marks : List Bool) (n : ℕ) → get_or marks n false ≡ true → kept marks (n + 1) ≡ kept marks n ++ n ∷ []
kept_marked marks n e = ap (filter (λ m. get_or marks m false)) (range_push 0 n n (zero-add n)) ∙ filter-append (λ m. get_or marks m false) (range_with_len 0 n) (n ∷ []) ∙ ap (λ (b : Bool). kept marks n ++ cond b (n ∷ []) []) e

pub kept_unmarked : (marks : List Bool) (n : ℕ) → get_or marks n false ≡ false → kept marks (n + 1) ≡ kept marks n
kept_unmarked marks n e = ap (filter (λ m. get_or marks m false)) (range_push 0 n n (zero-add n)) ∙ filter-append (λ m. get_or marks m false) (range_with_len 0 n) (n ∷ []) ∙ ap (λ (b : Bool). kept marks n ++ cond b (n ∷ []) []) e ∙ append-nil (kept marks n)

-- the marks, after so many nodes from the last on were looked at: they are of reached nodes, wanted ones are marked, and so is what these nodes cite
pub record IsSwept (nodes : List (Pair × Origin)) (wanted : List ℕ) (marks : List Bool) (i : ℕ) : Type 0 where
  pub count : length marks ≡ length nodes
  pub sound : (m : ℕ) → Marked marks m → IsReached nodes wanted m
  pub first : (m : ℕ) → Contains wanted m → Marked marks m
  pub closed : (j m : ℕ) → length nodes ≤ j + i → Marked marks j → Cites nodes j m → Marked marks m

pub swept_marked : (nodes : List (Pair × Origin)) (wanted : List ℕ) (marks new : List Bool) (i n : ℕ) (x : Pair × Origin) → CitesEarlier nodes → IsSwept nodes wanted marks i → i < length nodes → n ≡ length nodes - 1 - i → Marked marks n → slice_get nodes n ≡ Some x → HasMarked (cites x.1) marks new → IsSwept nodes wanted new (i + 1)
swept_marked nodes wanted marks new i n x earlier s room is marked at h = record {
  count = h.count ∙ s.count;
  sound = λ m k. ⊎_elim (s.sound m) (λ c. reached_more nodes wanted n m (s.sound n marked) (x, at, c)) ((h.marked m).0 k);
  first = λ m c. (h.marked m).1 (inl (s.first m c));
  closed = λ j m l k r.
      ⊎_elim
      (λ (old : Marked marks j).
      ⊎_elim
      (λ (e : j ≡ n). (h.marked m).1 (inr (subst (λ (y : Pair × Origin). Contains (cites y.1) m) (same_Some r.0 x (sym r.1 ∙ ap (slice_get nodes) e ∙ at)) r.2)))
      (λ (ne : j ≢ n). let past : length nodes ≤ j + i = omega arith in (h.marked m).1 (inl (s.closed j m past old r)))
      (cases_eq j n))
      (λ c. let less : j < n = earlier n j (x, at, c) in absurd (omega arith))
      ((h.marked j).0 k);
}

pub swept_unmarked : (nodes : List (Pair × Origin)) (wanted : List ℕ) (marks : List Bool) (i n : ℕ) → IsSwept nodes wanted marks i → i < length nodes → n ≡ length nodes - 1 - i → get_or marks n false ≡ false → IsSwept nodes wanted marks (i + 1)
swept_unmarked nodes wanted marks i n s room is none = record {
  count = s.count;
  sound = s.sound;
  first = s.first;
  closed = λ j m l k r.
      ⊎_elim
      (λ (e : j ≡ n). let yes : get_or marks j false ≡ true = k in let same : get_or marks j false ≡ false = ap (λ y. get_or marks y false) e ∙ none in absurd (cc))
      (λ (ne : j ≢ n). let past : length nodes ≤ j + i = omega arith in s.closed j m past k r)
      (cases_eq j n);
}

-- members are below the bound
below_next : (marks : List Bool) (n : ℕ) (b : Bool) → get_or marks n false ≡ b → All (λ m. m < n) (kept marks n) → All (λ m. m < n + 1) (kept marks (n + 1))
below_next marks n true e h = subst (All (λ m. m < n + 1)) (sym (kept_marked marks n e)) (All-push (λ m. m < n + 1) (kept marks n) n (λ k d l. omega (arith, h k d l)) (omega arith))
below_next marks n false e h = subst (All (λ m. m < n + 1)) (sym (kept_unmarked marks n e)) (λ k d l. omega (arith, h k d l))

pub kept_below : (marks : List Bool) (n : ℕ) → All (λ m. m < n) (kept marks n)
kept_below marks zero = λ k d l. absurd (omega (arith, l))
kept_below marks (suc n) = subst (λ x. All (λ m. m < x) (kept marks x)) (add-one n) (below_next marks n (get_or marks n false) refl (kept_below marks n))

-- a marked number stands behind those before it
kept_split : (marks : List Bool) (m d : ℕ) → get_or marks m false ≡ true → (rest : List ℕ) × (kept marks (m + 1 + d) ≡ kept marks m ++ m ∷ rest)
kept_split marks m zero e = let same : m + 1 + 0 ≡ m + 1 = omega arith in ([], ap (kept marks) same ∙ kept_marked marks m e)
kept_split marks m (suc d) e = go (get_or marks (m + 1 + d) false) refl (kept_split marks m d e)
  where
    next : m + 1 + suc d ≡ m + 1 + d + 1
    next = omega arith

    go : (b : Bool) → get_or marks (m + 1 + d) false ≡ b → (rest : List ℕ) × (kept marks (m + 1 + d) ≡ kept marks m ++ m ∷ rest) → (rest : List ℕ) × (kept marks (m + 1 + suc d) ≡ kept marks m ++ m ∷ rest)
    go true f h = (h.0 ++ (m + 1 + d) ∷ [], ap (kept marks) next ∙ kept_marked marks (m + 1 + d) f ∙ ap (λ xs. xs ++ (m + 1 + d) ∷ []) h.1 ∙ append_assoc (kept marks m) (m ∷ h.0) ((m + 1 + d) ∷ []))
    go false f h = (h.0, ap (kept marks) next ∙ kept_unmarked marks (m + 1 + d) f ∙ h.1)

-- so its place is how many stand before it
pub place_kept : (marks : List Bool) (n m : ℕ) → m < n → get_or marks m false ≡ true → place_in (kept marks n) m ≡ length (kept marks m)
place_kept marks n m l e =
    let d = n - (m + 1) in
    let h = kept_split marks m d e in
    let same : m + 1 + d ≡ n = omega arith in
    let xs = kept marks m in
    let long : length xs ≤ length (xs ++ m ∷ h.0) = omega (arith, length-append xs (m ∷ h.0)) in
    let place : length xs ≡ place_in (xs ++ m ∷ h.0) m = place_in_is (xs ++ m ∷ h.0) m (length xs) long
    (λ k p. let less : get_or xs k 0 < m = kept_below marks m k 0 p in let front : get_or (xs ++ m ∷ h.0) k 0 ≡ get_or xs k 0 = get_or_append_left xs (m ∷ h.0) 0 k p in ne_eqb (get_or (xs ++ m ∷ h.0) k 0) m (λ q. omega arith))
    (λ p. get_or-append_seam xs m h.0 0) in
    ap (λ ys. place_in ys m) (sym (ap (kept marks) same) ∙ h.1) ∙ sym place

-- the kept numbers are the marked ones, in order
order_next : (marks : List Bool) (n : ℕ) (b : Bool) → get_or marks n false ≡ b → AllPairs (λ k m. k < m) (kept marks n) → AllPairs (λ k m. k < m) (kept marks (n + 1))
order_next marks n true e h = subst (AllPairs (λ k m. k < m)) (sym (kept_marked marks n e)) (all_pairs_push (λ k m. k < m) (kept marks n) n h (kept_below marks n))
order_next marks n false e h = subst (AllPairs (λ k m. k < m)) (sym (kept_unmarked marks n e)) h

pub kept_in_order : (marks : List Bool) (n : ℕ) → AllPairs (λ k m. k < m) (kept marks n)
kept_in_order marks zero = λ i j d l p. absurd (omega (arith, p))
kept_in_order marks (suc n) = subst (λ x. AllPairs (λ k m. k < m) (kept marks x)) (add-one n) (order_next marks n (get_or marks n false) refl (kept_in_order marks n))

pub kept_contains : (marks : List Bool) (n m : ℕ) → m < n → Marked marks m → Contains (kept marks n) m
kept_contains marks n m l e = let d = n - (m + 1) in let h = kept_split marks m d e in let same : m + 1 + d ≡ n = omega arith in subst (λ xs. Contains xs m) (sym h.1 ∙ ap (kept marks) same) (Contains-append_right (kept marks m) (m ∷ h.0) m (contains_first m h.0))

contains_next : (marks : List Bool) (n m : ℕ) (b : Bool) → get_or marks n false ≡ b → (Contains (kept marks n) m → Marked marks m) → Contains (kept marks (n + 1)) m → Marked marks m
contains_next marks n m true e back h = ⊎_elim back (λ d. ⊎_elim (λ (q : n ≡ m). subst (Marked marks) q e) (λ z. absurd (omega (arith, z.1))) (contains_cases n [] m d)) (Contains-append_cases (kept marks n) (n ∷ []) m (subst (λ xs. Contains xs m) (kept_marked marks n e) h))
contains_next marks n m false e back h = back (subst (λ xs. Contains xs m) (kept_unmarked marks n e) h)

pub contains_kept : (marks : List Bool) (n m : ℕ) → Contains (kept marks n) m → Marked marks m
contains_kept marks zero m c = absurd (omega (arith, c.1))
contains_kept marks (suc n) m c = contains_next marks n m (get_or marks n false) refl (contains_kept marks n m) (subst (λ x. Contains (kept marks x) m) (sym (add-one n)) c)

unmarked_all : (n m : ℕ) → get_or (replicate n false) m false ≡ false
unmarked_all zero m = refl
unmarked_all (suc n) zero = refl
unmarked_all (suc n) (suc m) = unmarked_all n m

-- no node was looked at
pub swept_first : (nodes : List (Pair × Origin)) (wanted : List ℕ) (new : List Bool) → HasMarked wanted (replicate (length nodes) false) new → length new ≡ length nodes → IsSwept nodes wanted new 0
swept_first nodes wanted new h count = record {
  count = count;
  sound = λ m k. ⊎_elim (λ (old : get_or (replicate (length nodes) false) m false ≡ true). let none = unmarked_all (length nodes) m in absurd (cc)) (λ c. (m, c, [], refl)) ((h.marked m).0 k);
  first = λ m c. (h.marked m).1 (inr c);
  closed = λ j m l k r. absurd (let room = slice_get_within nodes j r.0 r.1 in omega (arith, room, l));
}

pub at_default : (marks : List Bool) (n : ℕ) (b d : Bool) → n < length marks → b ≡ get_or marks n b → b ≡ d → get_or marks n false ≡ d
at_default [] n b d l e f = absurd (omega (arith, l))
at_default (x ∷ marks) zero b d l e f = sym e ∙ f
at_default (x ∷ marks) (suc n) b d l e f = at_default marks n b d (omega (arith, l)) e f

-- numbers that agree on what is cited
pub numbers_agree : (f g : ℕ → ℕ) (origin : Origin) → ((m : ℕ) → Contains (cites origin) m → f m ≡ g m) → with_numbers f origin ≡ with_numbers g origin
numbers_agree f g (Input i) h = refl
numbers_agree f g (Rewrite a w p b) h = λ i. Rewrite (h a (contains_first a (b.node ∷ [])) i) w p (record { node = h b.node (contains_behind a (b.node ∷ []) b.node (contains_first b.node [])) i; dir = b.dir })
numbers_agree f g (Overlap a b p) h = λ i. Overlap (record { node = h a.node (contains_first a.node (b.node ∷ [])) i; dir = a.dir }) (record { node = h b.node (contains_behind a.node (b.node ∷ []) b.node (contains_first b.node [])) i; dir = b.dir }) p

-- one more number is marked
pub mark_next : (ns : List ℕ) (j : ℕ) (old mid : List Bool) → j < length mid → HasMarked ns old mid → HasMarked (ns ++ j ∷ []) old (set mid j true)
mark_next ns j old mid room h = record {
  count = length-set mid j true ∙ h.count;
  marked = λ n. ⊎_elim
      (λ (e : n ≡ j). (
        (λ k. inr (Contains-append_right ns (j ∷ []) n (subst (Contains (j ∷ [])) (sym e) (contains_first j [])))),
        (λ k. subst (Marked (set mid j true)) (sym e) (get_or-set_same mid j true false room)),
      ))
      (λ (ne : n ≢ j).
      let same : get_or (set mid j true) n false ≡ get_or mid n false = rw get_or-set_other refl in (
        (λ k. ⊎_elim (λ g. inl g) (λ c. inr (Contains-append_left ns (j ∷ []) n c)) ((h.marked n).0 (subst IsTrue same k))),
        (λ k. subst IsTrue (sym same) ((h.marked n).1 (⊎_elim (λ g. inl g) (λ c. ⊎_elim (λ d. inr d) (λ d. absurd (⊎_elim (λ e. ne (sym e)) (λ z. omega (arith, z.1)) (contains_cases j [] n d))) (Contains-append_cases ns (j ∷ []) n c)) k))),
      ))
      (cases_eq n j);
}

-- the steps of the nodes so far, with their places
pub record IsListed (nodes : List (Pair × Origin)) (marks : List Bool) (places : List ℕ) (steps : List TraceStep) (n : ℕ) : Type 0 where
  pub count : length places ≡ n
  pub placed_at : (m : ℕ) → m < n → get_or places m 0 ≡ length (kept marks m)
  pub long : length steps ≡ length (kept marks n)
  pub zipped : AllZip (IsStepOf nodes (kept marks (length nodes))) (kept marks n) steps

few_next : (marks : List Bool) (n : ℕ) (b : Bool) → get_or marks n false ≡ b → length (kept marks n) ≤ n → length (kept marks (n + 1)) ≤ n + 1
few_next marks n true e h = omega (arith, ap length (kept_marked marks n e), length-append (kept marks n) (n ∷ []))
few_next marks n false e h = omega (arith, ap length (kept_unmarked marks n e))

pub few_kept : (marks : List Bool) (n : ℕ) → length (kept marks n) ≤ n
few_kept marks zero = omega arith
few_kept marks (suc n) = subst (λ x. length (kept marks x) ≤ x) (add-one n) (few_next marks n (get_or marks n false) refl (few_kept marks n))

marked_within : (marks : List Bool) (n : ℕ) → Marked marks n → n < length marks
marked_within [] n h = absurd (cc)
marked_within (x ∷ marks) zero h = omega arith
marked_within (x ∷ marks) (suc n) h = omega (arith, marked_within marks n h)

-- the next node's place
pub placed : (marks : List Bool) (places : List ℕ) (n k : ℕ) → length places ≡ n → ((m : ℕ) → m < n → get_or places m 0 ≡ length (kept marks m)) → k ≡ length (kept marks n) → (m : ℕ) → m < n + 1 → get_or (places ++ k ∷ []) m 0 ≡ length (kept marks m)
placed marks places n k count h is m l =
    ⊎_elim
    (λ (e : m ≡ n). ap (λ x. get_or (places ++ k ∷ []) x 0) (e ∙ sym count) ∙ get_or-append_seam places k [] 0 ∙ is ∙ ap (λ x. length (kept marks x)) (sym e))
    (λ (ne : m ≢ n). let less : m < n = omega arith in let room : m < length places = omega (arith, count) in get_or_append_left places (k ∷ []) 0 m room ∙ h m less)
    (cases_eq m n)

pub any_default : (xs : List ℕ) (k d e : ℕ) → k < length xs → get_or xs k d ≡ get_or xs k e
any_default [] k d e l = absurd (omega (arith, l))
any_default (x ∷ xs) zero d e l = refl
any_default (x ∷ xs) (suc k) d e l = any_default xs k d e (omega (arith, l))

pub placed_small : (marks : List Bool) (places : List ℕ) (n most : ℕ) → length places ≡ n + 1 → ((m : ℕ) → m < n + 1 → get_or places m 0 ≡ length (kept marks m)) → n < most → All (λ p. p < most) places
placed_small marks places n most count h l k d p =
    let within : k < n + 1 = omega (arith, count) in
    omega (arith, any_default places k d 0 p, h k within, few_kept marks k)

-- a node that isn't reached is passed over
pub listed_unmarked : (nodes : List (Pair × Origin)) (marks : List Bool) (places : List ℕ) (steps : List TraceStep) (n k : ℕ) → IsListed nodes marks places steps n → k ≡ length steps → get_or marks n false ≡ false → IsListed nodes marks (places ++ k ∷ []) steps (n + 1)
listed_unmarked nodes marks places steps n k h is none = record {
  count = omega (arith, length-append places (k ∷ []), h.count);
  placed_at = placed marks places n k h.count h.placed_at (is ∙ h.long);
  long = h.long ∙ ap length (sym (kept_unmarked marks n none));
  zipped = subst (λ (xs : List ℕ). AllZip (IsStepOf nodes (kept marks (length nodes))) xs steps) (sym (kept_unmarked marks n none)) h.zipped;
}

-- a reached node is the next step
pub listed_marked : (nodes : List (Pair × Origin)) (marks : List Bool) (places : List ℕ) (steps : List TraceStep) (n k : ℕ) (step : TraceStep) → IsListed nodes marks places steps n → k ≡ length steps → get_or marks n false ≡ true → IsStepOf nodes (kept marks (length nodes)) n step → IsListed nodes marks (places ++ k ∷ []) (steps ++ step ∷ []) (n + 1)
listed_marked nodes marks places steps n k step h is marked s = record {
  count = omega (arith, length-append places (k ∷ []), h.count);
  placed_at = placed marks places n k h.count h.placed_at (is ∙ h.long);
  long = omega (arith, h.long, ap length (kept_marked marks n marked), length-append (kept marks n) (n ∷ []), length-append steps (step ∷ []));
  zipped = subst (λ (xs : List ℕ). AllZip (IsStepOf nodes (kept marks (length nodes))) xs (steps ++ step ∷ [])) (sym (kept_marked marks n marked)) (zip_push (IsStepOf nodes (kept marks (length nodes))) (kept marks n) steps n step h.zipped s);
}

-- the step of a node, renumbered by places
pub step_of : (nodes : List (Pair × Origin)) (wanted : List ℕ) (marks : List Bool) (places : List ℕ) (n : ℕ) (x : Pair × Origin) (step : TraceStep) → CitesEarlier nodes → AreMarks nodes wanted marks → n < length nodes → Marked marks n → slice_get nodes n ≡ Some x → ((m : ℕ) → m < n + 1 → get_or places m 0 ≡ length (kept marks m)) → step.pair ≡ x.0 → step.origin ≡ with_numbers (λ m. get_or places m 0 + 1) x.1 → IsStepOf nodes (kept marks (length nodes)) n step
step_of nodes wanted marks places n x step earlier all room marked at h pair origin = (
  x,
  at,
  pair,
  origin ∙ numbers_agree (λ m. get_or places m 0 + 1) (number_in (kept marks (length nodes))) x.1 (λ m c.
      let less : m < n = earlier n m (x, at, c) in
      let cited : Marked marks m = (all.reached m).1 (reached_more nodes wanted n m ((all.reached n).0 marked) (x, at, c)) in
      let within : m < length nodes = omega arith in
      let next : m < n + 1 = omega arith in
      ap (λ k. k + 1) (h m next ∙ sym (place_kept marks (length nodes) m within cited))),
)

-- all nodes were looked at
pub listed_all : (nodes : List (Pair × Origin)) (wanted : List ℕ) (marks : List Bool) (places : List ℕ) (steps : List TraceStep) → AreMarks nodes wanted marks → IsListed nodes marks places steps (length nodes) → IsTraceOf nodes wanted steps
listed_all nodes wanted marks places steps all h = record {
  kept = kept marks (length nodes);
  in_order = kept_in_order marks (length nodes);
  reached = λ n. (
    (λ c. (all.reached n).0 (contains_kept marks (length nodes) n c)),
    (λ r. let marked = (all.reached n).1 r in kept_contains marks (length nodes) n (let inside = marked_within marks n marked in omega (arith, inside, all.count)) marked),
  );
  steps = h.zipped;
}
