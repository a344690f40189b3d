-- The trace of the nodes that wanted ones reach: it is right where the nodes' origins are, and it has each of these nodes' pairs at its number.
use Rattle.std.proofs.Common.{ℕ, suc, ◌+◌, ◌<◌, ◌≡◌, ◌∙◌, refl, sym, ap, ap₂, subst, arith, ⊎_elim, ◌⊎◌, inl, inr, eq-eqb, add-one, append_assoc, append-nil, eqb→eq, List, [], ◌∷◌, ◌++◌, take, Contains, Bool, true, false, cond, not, ◌==◌, Option, Some, slice_get}
use Rattle.std.specs.Prelude.{T, option_map}
use Rattle.std.specs.List.{AllZip}
use Rattle.std.proofs.lemmas.List.Elements.{Contains-append_cases, Contains-append_right}
use Rattle.kb_term.specs.Tree.{Tree}
use Rattle.kb_term.specs.Pair.{Pair, place_in}
use Rattle.kb_term.specs.declared.origin.Origin.{Origin}
use Rattle.kb_term.specs.declared.origin.Origin.TheVariants.{Input, Rewrite, Overlap}
use Rattle.kb_overlap.specs.Trace.{TraceStep, item, FollowsBy, IsOriginOfForm, IsRightOrigin, IsRightAfter, IsRightTrace}
use Rattle.kb_trace.specs.Steps.{pairs_of}
use Rattle.kb_trace.specs.Reached.{cites, CitesEarlier, IsStepOf, IsTraceOf, number_in, with_numbers}
use Rattle.kb_trace.proofs.Reaching.{reached_more}
use mathlib.Core.Bool.{true≢false}
use Rattle.kb_lemmas.proofs.Options.{some_of_map, some_is}
use Rattle.kb_lemmas.proofs.Membership.{contains_cases, contains_first, contains_behind, none_in}
use Rattle.kb_lemmas.proofs.Lists.{get_take}
use Rattle.mkb_report.proofs.Rising.{Rising, rising_from, rising_behind, one_rising}

-- ---- the pairs of nodes

-- the pair of a node, if it is there
abbrev pub node_pair : List (Pair × Origin) → ℕ → Option Pair
node_pair nodes m = option_map (λ (x : Pair × Origin). x.0) (slice_get nodes m)

-- each node's origin is of the form, and its pair follows from the equations and the pairs of earlier nodes as it says
abbrev pub OriginsAreRight : List (Tree × Tree) → List (Pair × Origin) → Type 0
OriginsAreRight es nodes = (n : ℕ) (x : Pair × Origin) → slice_get nodes n ≡ Some x → IsRightOrigin es (node_pair (take n nodes)) x.1 x.0

-- a pair among the first nodes is that of the node, which is one of them
pub earlier_is : (nodes : List (Pair × Origin)) (n m : ℕ) (q : Pair) → node_pair (take n nodes) m ≡ Some q → (m < n) × (node_pair nodes m ≡ Some q)
earlier_is nodes n m q e =
    let x = some_of_map (λ (x : Pair × Origin). x.0) (slice_get (take n nodes) m) q e in
    let r = get_take n nodes m x.0 x.1 in
    (r.0, ap (option_map (λ (x : Pair × Origin). x.0)) r.1 ∙ ap Some x.2)

-- ---- origins with other numbers

-- what an origin cites it has
cited_there : (es : List (Tree × Tree)) (e : ℕ → Option Pair) (o : Origin) (q : Pair) → FollowsBy es e o q → (m : ℕ) → Contains (cites o) m → (old : Pair) × (e m ≡ Some old)
cited_there es e (Input i) q r m c = none_in c
cited_there es e (Rewrite a w p b) q r m c =
    ⊎_elim
    (λ h. subst (λ z. (old : Pair) × (e z ≡ Some old)) h (r.0, r.2))
    (λ d. ⊎_elim (λ h. subst (λ z. (old : Pair) × (e z ≡ Some old)) h (r.1, r.3)) (λ z. none_in z) (contains_cases b.node [] m d))
    (contains_cases a (b.node ∷ []) m c)
cited_there es e (Overlap a b p) q r m c =
    ⊎_elim
    (λ h. subst (λ z. (old : Pair) × (e z ≡ Some old)) h (r.0, r.2))
    (λ d. ⊎_elim (λ h. subst (λ z. (old : Pair) × (e z ≡ Some old)) h (r.1, r.3)) (λ z. none_in z) (contains_cases b.node [] m d))
    (contains_cases a.node (b.node ∷ []) m c)

-- a pair still follows where what the origin cites has other numbers
follows_renumbered : (es : List (Tree × Tree)) (f : ℕ → ℕ) (e l : ℕ → Option Pair) (o : Origin) (q : Pair) → ((m : ℕ) → Contains (cites o) m → (old : Pair) → e m ≡ Some old → l (f m) ≡ Some old) → FollowsBy es e o q → FollowsBy es l (with_numbers f o) q
follows_renumbered es f e l (Input i) q h r = r
follows_renumbered es f e l (Rewrite a w p b) q h r =
    (r.0, r.1, h a (contains_first a (b.node ∷ [])) r.0 r.2, h b.node (contains_behind a (b.node ∷ []) b.node (contains_first b.node [])) r.1 r.3, r.4)
follows_renumbered es f e l (Overlap a b p) q h r =
    (r.0, r.1, h a.node (contains_first a.node (b.node ∷ [])) r.0 r.2, h b.node (contains_behind a.node (b.node ∷ []) b.node (contains_first b.node [])) r.1 r.3, r.4)

form_renumbered : (f : ℕ → ℕ) (o : Origin) → IsOriginOfForm o → IsOriginOfForm (with_numbers f o)
form_renumbered f (Input i) h = h
form_renumbered f (Rewrite a w p b) h = h
form_renumbered f (Overlap a b p) h = h

-- an origin stays right where what it cites has other numbers
pub right_renumbered : (es : List (Tree × Tree)) (f : ℕ → ℕ) (e l : ℕ → Option Pair) (o : Origin) (q : Pair) → ((m : ℕ) → Contains (cites o) m → (old : Pair) → e m ≡ Some old → l (f m) ≡ Some old) → IsRightOrigin es e o q → IsRightOrigin es l (with_numbers f o) q
right_renumbered es f e l o q h (form, follows) = (form_renumbered f o form, follows_renumbered es f e l o q h follows)

-- a pair still follows where what the origin cites is the same
pub follows_alike : (es : List (Tree × Tree)) (e l : ℕ → Option Pair) (o : Origin) (q : Pair) → ((m : ℕ) → e m ≡ l m) → FollowsBy es e o q → FollowsBy es l o q
follows_alike es e l (Input i) q h r = r
follows_alike es e l (Rewrite a w p b) q h r = (r.0, r.1, sym (h a) ∙ r.2, sym (h b.node) ∙ r.3, r.4)
follows_alike es e l (Overlap a b p) q h r = (r.0, r.1, sym (h a.node) ∙ r.2, sym (h b.node) ∙ r.3, r.4)

-- nodes whose origins are right cite earlier ones alone
pub right_cites : (es : List (Tree × Tree)) (nodes : List (Pair × Origin)) → OriginsAreRight es nodes → CitesEarlier nodes
right_cites es nodes right n m (x, at, c) = let old = cited_there es (node_pair (take n nodes)) x.1 x.0 (right n x at).1 m c in (earlier_is nodes n m old.0 old.1).0

-- ---- numbers

item_next : {X : Type 0} (xs : List X) (k : ℕ) → item xs (k + 1) ≡ slice_get xs k
item_next xs k = ap (item xs) (add-one k)

module _ (nodes : List (Pair × Origin)) where
  -- these are the pairs of these nodes
  abbrev pub ArePairsOf : List ℕ → List Pair → Type 0
  ArePairsOf ns qs = AllZip (λ n q. node_pair nodes n ≡ Some q) ns qs

  pairs_push : (ns : List ℕ) (qs : List Pair) (n : ℕ) (q : Pair) → ArePairsOf ns qs → node_pair nodes n ≡ Some q → ArePairsOf (ns ++ n ∷ []) (qs ++ q ∷ [])
  pairs_push [] [] n q h e = (e, tt)
  pairs_push [] (r ∷ qs) n q h e = absurd h
  pairs_push (m ∷ ns) [] n q h e = absurd h
  pairs_push (m ∷ ns) (r ∷ qs) n q h e = (h.0, pairs_push ns qs n q h.1 e)

  -- a listed node's pair is at the place of the node
  at_place : (front rest : List ℕ) (qs : List Pair) → ArePairsOf front qs → (m : ℕ) → Contains front m → slice_get qs (place_in (front ++ rest) m) ≡ node_pair nodes m
  at_place [] rest qs h m c = none_in c
  at_place (n ∷ front) rest [] h m c = absurd h
  at_place (n ∷ front) rest (q ∷ qs) h m c = go (λ d. at_place front rest qs h.1 m d) (n == m) refl (contains_cases n front m c)
    where
      go : (Contains front m → slice_get qs (place_in (front ++ rest) m) ≡ node_pair nodes m) → (b : Bool) → (n == m) ≡ b → (n ≡ m) ⊎ Contains front m → slice_get (q ∷ qs) (cond (not b) (1 + place_in (front ++ rest) m) 0) ≡ node_pair nodes m
      go ih true e d = sym h.0 ∙ ap (node_pair nodes) (eqb→eq n m (subst T (sym e) tt))
      go ih false e (inl d) = absurd (true≢false (sym (eq-eqb n m d) ∙ e))
      go ih false e (inr d) =
          let next : 1 + place_in (front ++ rest) m ≡ suc (place_in (front ++ rest) m) = omega arith in
          ap (slice_get (q ∷ qs)) next ∙ ih d

  module _ (wanted : List ℕ) (steps : List TraceStep) (t : IsTraceOf nodes wanted steps) where
    step_pairs : (ns : List ℕ) (ss : List TraceStep) → AllZip (IsStepOf nodes t.kept) ns ss → ArePairsOf ns (pairs_of ss)
    step_pairs [] [] h = tt
    step_pairs [] (s ∷ ss) h = absurd h
    step_pairs (n ∷ ns) [] h = absurd h
    step_pairs (n ∷ ns) (s ∷ ss) h = (ap (option_map (λ (x : Pair × Origin). x.0)) h.0.1 ∙ ap Some (sym h.0.2), step_pairs ns ss h.1)

    -- the step with the number of a kept node has the node's pair
    pub traced : (n : ℕ) → Contains t.kept n → item (pairs_of steps) (number_in t.kept n) ≡ node_pair nodes n
    traced n c = item_next (pairs_of steps) (place_in t.kept n) ∙ ap (λ ks. slice_get (pairs_of steps) (place_in ks n)) (sym (append-nil t.kept)) ∙ at_place t.kept [] (pairs_of steps) (step_pairs t.kept steps t.steps) n c

    rising : Rising t.kept
    rising = rising_from t.kept t.in_order

    -- of the kept numbers those below one of them stand before it
    stands_before : (front rest : List ℕ) (n m : ℕ) → t.kept ≡ front ++ n ∷ rest → Contains t.kept m → m < n → Contains front m
    stands_before front rest n m e c l =
        let order = rising_behind front (n ∷ rest) (subst Rising e rising) in
        ⊎_elim (λ d. d)
        (λ d. absurd (⊎_elim (λ (q : n ≡ m). omega arith) (λ k. omega (arith, order.0 m k)) (contains_cases n rest m d)))
        (Contains-append_cases front (n ∷ rest) m (subst (λ ks. Contains ks m) e c))

    module _ (es : List (Tree × Tree)) (right : OriginsAreRight es nodes) where
      right_after : (rest : List ℕ) (ss : List TraceStep) (front : List ℕ) (qs : List Pair) → t.kept ≡ front ++ rest → ArePairsOf front qs → AllZip (IsStepOf nodes t.kept) rest ss → IsRightAfter es qs ss
      right_after [] [] front qs e h z = tt
      right_after [] (s ∷ ss) front qs e h z = absurd z
      right_after (n ∷ rest) [] front qs e h z = absurd z
      right_after (n ∷ rest) (s ∷ ss) front qs e h z = (here, right_after rest ss (front ++ n ∷ []) (qs ++ s.pair ∷ []) (e ∙ sym (append_assoc front (n ∷ []) rest)) (pairs_push front qs n s.pair h (ap (option_map (λ (x : Pair × Origin). x.0)) z.0.1 ∙ ap Some (sym z.0.2))) z.1)
        where
          x : Pair × Origin
          x = z.0.0

          kept : Contains t.kept n
          kept = subst (λ ks. Contains ks n) (sym e) (Contains-append_right front (n ∷ rest) n (contains_first n rest))

          cited : (m : ℕ) → Contains (cites x.1) m → (old : Pair) → node_pair (take n nodes) m ≡ Some old → item qs (number_in t.kept m) ≡ Some old
          cited m c old at =
              let r = earlier_is nodes n m old at in
              let there = (t.reached m).1 (reached_more nodes wanted n m ((t.reached n).0 kept) (x, z.0.1, c)) in
              item_next qs (place_in t.kept m) ∙ ap (λ ks. slice_get qs (place_in ks m)) e
              ∙ at_place front (n ∷ rest) qs h m (stands_before front rest n m e there r.0) ∙ r.1

          here : IsRightOrigin es (item qs) s.origin s.pair
          here =
              subst (λ o. IsRightOrigin es (item qs) o s.pair) (sym z.0.3)
              (subst (λ q. IsRightOrigin es (item qs) (with_numbers (number_in t.kept) x.1) q) (sym z.0.2)
              (right_renumbered es (number_in t.kept) (node_pair (take n nodes)) (item qs) x.1 x.0 cited (right n x z.0.1)))

      -- where the nodes' origins are right, so is the trace
      pub right_trace : IsRightTrace es steps
      right_trace = right_after t.kept steps [] [] refl tt t.steps

-- ---- one trace

one_steps : (nodes : List (Pair × Origin)) (kept ns : List ℕ) (t u : List TraceStep) → AllZip (IsStepOf nodes kept) ns t → AllZip (IsStepOf nodes kept) ns u → t ≡ u
one_steps nodes kept [] [] [] h k = refl
one_steps nodes kept [] [] (s ∷ u) h k = absurd k
one_steps nodes kept [] (s ∷ t) u h k = absurd h
one_steps nodes kept (n ∷ ns) [] u h k = absurd h
one_steps nodes kept (n ∷ ns) (s ∷ t) [] h k = absurd k
one_steps nodes kept (n ∷ ns) (s ∷ t) (r ∷ u) h k =
    let same : h.0.0 ≡ k.0.0 = some_is (sym h.0.1 ∙ k.0.1) in
    let origin : s.origin ≡ r.origin = h.0.3 ∙ ap (λ (x : Pair × Origin). with_numbers (number_in kept) x.1) same ∙ sym k.0.3 in
    let pair : s.pair ≡ r.pair = h.0.2 ∙ ap (λ (x : Pair × Origin). x.0) same ∙ sym k.0.2 in
    ap₂ (λ (x : TraceStep) (xs : List TraceStep). x ∷ xs) (λ i. record { origin = origin i; pair = pair i }) (one_steps nodes kept ns t u h.1 k.1)

-- the kept nodes are determined, and so is the trace
pub one_kept : (nodes : List (Pair × Origin)) (wanted : List ℕ) (t u : List TraceStep) → (a : IsTraceOf nodes wanted t) → (b : IsTraceOf nodes wanted u) → a.kept ≡ b.kept
one_kept nodes wanted t u a b = one_rising a.kept b.kept (rising_from a.kept a.in_order) (rising_from b.kept b.in_order) (λ m c. (b.reached m).1 ((a.reached m).0 c)) (λ m c. (a.reached m).1 ((b.reached m).0 c))

pub one_trace : (nodes : List (Pair × Origin)) (wanted : List ℕ) (t u : List TraceStep) → IsTraceOf nodes wanted t → IsTraceOf nodes wanted u → t ≡ u
one_trace nodes wanted t u a b = one_steps nodes a.kept a.kept t u a.steps (subst (λ ks. AllZip (IsStepOf nodes ks) ks u) (sym (one_kept nodes wanted t u a b)) b.steps)
