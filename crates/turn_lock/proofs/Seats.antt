-- What the seats know stays true.
use Rattle.std.proofs.Common.{◌≡◌, ◌≢◌, ℕ, ◌+◌, ◌<◌, ◌≤◌, ◌⊎◌, Bool, List, [], ◌∷◌, ◌++◌, length, refl, ap, sym, ◌∙◌, subst, ⊎_elim, inl, inr, arith, set}
use Rattle.std.proofs.lemmas.List.Elements.{All-append}
use mathlib.Core.Option.{some}
use lib.ListN.{get_elem?}
use Rattle.atomic_table.proofs.Lists.{at_set, at_snoc}
use Rattle.turn_lock.specs.declared.rule.View.{View}
use Rattle.turn_lock.specs.declared.rule.Joined.{Joined}
use Rattle.turn_lock.specs.Turn.{IsFrom, IsKept, Sits, Seated, seeing, drawing, drawn_view, joined_of, taking, spent_view}
use Rattle.turn_lock.proofs.Entries.{starts_self, starts_more, own_others, own_beyond, own_beyond_front, numbered_more, all_one, at_end}

module _ {P E : Type 0} (worker : E → ℕ) (p : P) (b : ℕ) where
  -- one seat sees the whole history, which has grown by entries of its own
  module _ (log more : List E) (drawn : ℕ) (joined : List (Joined E)) (views : List (View P E)) (id : ℕ) (v : View P E) (h : Bool)
      (s : Seated worker p b log drawn joined views) (at : get_elem? views id ≡ some v) (alive : 0 < v.worker) (from : IsFrom worker v.worker more) where
    abbrev after : View P E
    after = seeing v (log ++ more) h

    was : (j : ℕ) (u : View P E) → get_elem? (set views id after) j ≡ some u → (u0 : View P E) × (get_elem? views j ≡ some u0) × (u0.worker ≡ u.worker)
    was j u e = ⊎_elim (λ (t : (j ≡ id) × (after ≡ u)). (v, subst (λ (k : ℕ). get_elem? views k ≡ some v) (sym t.0) at, ap (λ (x : View P E). x.worker) t.1))
        (λ (t : (j ≢ id) × (get_elem? views j ≡ some u)). (u, t.1, refl)) (at_set views id j after u e)

    mine : Sits worker p b (log ++ more) drawn joined after
    mine = let k = s.each id v at alive in record {
      problem = k.problem;
      budget = k.budget;
      drawn_before = k.drawn_before;
      prefix = starts_self (log ++ more);
      mine = refl;
      apart = k.apart;
      first = k.first;
    }

    theirs : (j : ℕ) (u : View P E) → get_elem? views j ≡ some u → 0 < u.worker → j ≢ id → Sits worker p b (log ++ more) drawn joined u
    theirs j u there pos other = let k = s.each j u there pos in record {
      problem = k.problem;
      budget = k.budget;
      drawn_before = k.drawn_before;
      prefix = starts_more log more u.seen k.prefix;
      mine = own_others worker v.worker u.worker log more from pos (λ same. other (s.distinct j id u v there at pos same)) ∙ k.mine;
      apart = k.apart;
      first = k.first;
    }

    pub sees_all : Seated worker p b (log ++ more) drawn joined (set views id after)
    sees_all = let k = s.each id v at alive in record {
      some_drawn = s.some_drawn;
      numbered = numbered_more worker drawn v.worker log more s.numbered from k.drawn_before;
      each = λ j u e pos. ⊎_elim (λ (t : (j ≡ id) × (after ≡ u)). subst (Sits worker p b (log ++ more) drawn joined) t.1 mine)
          (λ (t : (j ≢ id) × (get_elem? views j ≡ some u)). theirs j u t.1 pos t.0) (at_set views id j after u e);
      distinct = λ i j x y ei ej pos same. let a = was i x ei in let c = was j y ej in
          s.distinct i j a.0 c.0 a.1 c.1 (subst (λ (n : ℕ). 0 < n) (sym a.2) pos) (a.2 ∙ (same ∙ sym c.2));
      kept = λ n d l. let q = s.kept n d l in
          (q.0, starts_more log more _ q.1, own_others worker v.worker _ log more from q.0 (k.apart n d l) ∙ q.2);
      joined_drawn = s.joined_drawn;
    }

  -- the first seat draws a number
  module _ (log : List E) (drawn : ℕ) (joined : List (Joined E)) (views : List (View P E)) (id : ℕ) (v : View P E)
      (s : Seated worker p b log drawn joined views) (at : get_elem? views id ≡ some v) (one : v.worker ≡ 1) where
    abbrev new_view : View P E
    new_view = drawn_view v

    of_one : Sits worker p b log drawn joined v
    of_one = s.each id v at (omega arith)

    count : v.drawn ≡ drawn
    count = (of_one.first one).0

    before : (j : ℕ) (u : View P E) → get_elem? (set views id (drawing v)) j ≡ some u → (u0 : View P E) × (get_elem? views j ≡ some u0) × (u0.worker ≡ u.worker)
    before j u e = ⊎_elim (λ (t : (j ≡ id) × (drawing v ≡ u)). (v, subst (λ (k : ℕ). get_elem? views k ≡ some v) (sym t.0) at, ap (λ (x : View P E). x.worker) t.1))
        (λ (t : (j ≢ id) × (get_elem? views j ≡ some u)). (u, t.1, refl)) (at_set views id j (drawing v) u e)

    low_before : (j : ℕ) (u : View P E) → get_elem? (set views id (drawing v)) j ≡ some u → 0 < u.worker → u.worker ≤ drawn
    low_before j u e pos = let a = before j u e in subst (λ (n : ℕ). n ≤ drawn) a.2 ((s.each j a.0 a.1 (subst (λ (n : ℕ). 0 < n) (sym a.2) pos)).drawn_before)

    pub draws : Seated worker p b log (drawn + 1) joined (set views id (drawing v) ++ new_view ∷ [])
    draws = record {
      some_drawn = omega arith;
      numbered = λ n d l. let a = s.numbered n d l in omega arith;
      each = λ j u e pos. ⊎_elim
          (λ (old : get_elem? (set views id (drawing v)) j ≡ some u). ⊎_elim
          (λ (t : (j ≡ id) × (drawing v ≡ u)). subst (Sits worker p b log (drawn + 1) joined) t.1 (let k = of_one in record {
            problem = k.problem;
            budget = k.budget;
            drawn_before = let a = k.drawn_before in omega arith;
            prefix = k.prefix;
            mine = k.mine;
            apart = k.apart;
            first = λ _. (ap (λ (n : ℕ). n + 1) count, (k.first one).1);
          }))
          (λ (t : (j ≢ id) × (get_elem? views j ≡ some u)). let k = s.each j u t.1 pos in record {
            problem = k.problem;
            budget = k.budget;
            drawn_before = let a = k.drawn_before in omega arith;
            prefix = k.prefix;
            mine = k.mine;
            apart = k.apart;
            first = λ is. absurd (t.0 (s.distinct j id u v t.1 at pos (is ∙ sym one)));
          })
          (at_set views id j (drawing v) u old))
          (λ (new : new_view ≡ u). subst (Sits worker p b log (drawn + 1) joined) new (let k = of_one in record {
            problem = k.problem;
            budget = k.budget;
            drawn_before = let c = count in omega arith;
            prefix = k.prefix;
            mine = let c = count in own_beyond worker drawn (v.drawn + 1) log s.numbered (omega arith) ∙ sym (own_beyond_front worker drawn (v.drawn + 1) log v.seen s.numbered (omega arith) k.prefix);
            apart = λ n d l. let a = s.joined_drawn n d l in let c = count in (λ same. omega arith);
            first = λ is. let c = count in let a = s.some_drawn in absurd (omega arith);
          }))
          (at_snoc (set views id (drawing v)) new_view u j e);
      distinct = λ i j x y ei ej pos same. let c : v.drawn ≡ drawn = count in ⊎_elim
          (λ (ti : get_elem? (set views id (drawing v)) i ≡ some x). ⊎_elim
          (λ (tj : get_elem? (set views id (drawing v)) j ≡ some y). let a = before i x ti in let e = before j y tj in
          s.distinct i j a.0 e.0 a.1 e.1 (subst (λ (n : ℕ). 0 < n) (sym a.2) pos) (a.2 ∙ (same ∙ sym e.2)))
          (λ (tj : (j ≡ length (set views id (drawing v))) × (new_view ≡ y)). let le = low_before i x ti pos in let is : v.drawn + 1 ≡ y.worker = ap (λ (z : View P E). z.worker) tj.1 in absurd (omega arith))
          (at_end (set views id (drawing v)) new_view y j ej))
          (λ (ti : (i ≡ length (set views id (drawing v))) × (new_view ≡ x)). let is : v.drawn + 1 ≡ x.worker = ap (λ (z : View P E). z.worker) ti.1 in ⊎_elim
          (λ (tj : get_elem? (set views id (drawing v)) j ≡ some y). let le = low_before j y tj (omega arith) in absurd (omega arith))
          (λ (tj : (j ≡ length (set views id (drawing v))) × (new_view ≡ y)). ti.0 ∙ sym tj.0)
          (at_end (set views id (drawing v)) new_view y j ej))
          (at_end (set views id (drawing v)) new_view x i ei);
      kept = s.kept;
      joined_drawn = λ n d l. let a = s.joined_drawn n d l in omega arith;
    }

  -- the first seat takes in another
  module _ (log : List E) (drawn : ℕ) (joined : List (Joined E)) (views : List (View P E)) (id : ℕ) (v : View P E) (other : ℕ) (w : View P E)
      (s : Seated worker p b log drawn joined views) (at : get_elem? views id ≡ some v) (one : v.worker ≡ 1) (differs : other ≢ id)
      (there : get_elem? views other ≡ some w) (alive : 0 < w.worker) where
    abbrev both_view : View P E
    both_view = taking v w

    abbrev views_after : List (View P E)
    views_after = set (set views id both_view) other spent_view

    first_sits : Sits worker p b log drawn joined v
    first_sits = s.each id v at (omega arith)

    gone_sits : Sits worker p b log drawn joined w
    gone_sits = s.each other w there alive

    not_first : w.worker ≢ 1
    not_first is = differs (s.distinct other id w v there at alive (is ∙ sym one))

    -- a living seat afterwards is the first, or another that stays as it was
    living : (j : ℕ) (u : View P E) → get_elem? views_after j ≡ some u → 0 < u.worker → ((j ≡ id) × (both_view ≡ u)) ⊎ ((j ≢ id) × (j ≢ other) × (get_elem? views j ≡ some u))
    living j u e pos = ⊎_elim (λ (t : (j ≡ other) × (spent_view ≡ u)). let none : 0 ≡ u.worker = ap (λ (z : View P E). z.worker) t.1 in absurd (omega arith))
        (λ (t : (j ≢ other) × (get_elem? (set views id both_view) j ≡ some u)). ⊎_elim (λ (k : (j ≡ id) × (both_view ≡ u)). inl k)
        (λ (k : (j ≢ id) × (get_elem? views j ≡ some u)). inr (k.0, t.0, k.1)) (at_set views id j both_view u t.1))
        (at_set (set views id both_view) other j spent_view u e)

    lived : (j : ℕ) (u : View P E) → get_elem? views_after j ≡ some u → 0 < u.worker → (u0 : View P E) × (get_elem? views j ≡ some u0) × (u0.worker ≡ u.worker)
    lived j u e pos = ⊎_elim (λ (t : (j ≡ id) × (both_view ≡ u)). (v, subst (λ (k : ℕ). get_elem? views k ≡ some v) (sym t.0) at, ap (λ (x : View P E). x.worker) t.1))
        (λ (t : (j ≢ id) × (j ≢ other) × (get_elem? views j ≡ some u)). (u, t.2, refl)) (living j u e pos)

    abbrev joined_after : List (Joined E)
    joined_after = joined ++ joined_of w ∷ []

    pub takes_in : Seated worker p b log drawn joined_after views_after
    takes_in = record {
      some_drawn = s.some_drawn;
      numbered = s.numbered;
      each = λ j u e pos. ⊎_elim
          (λ (t : (j ≡ id) × (both_view ≡ u)). subst (Sits worker p b log drawn joined_after) t.1 (let k = first_sits in record {
            problem = k.problem;
            budget = k.budget;
            drawn_before = k.drawn_before;
            prefix = k.prefix;
            mine = k.mine;
            apart = All-append (λ (j : Joined E). j.worker ≢ v.worker) joined (joined_of w ∷ []) k.apart (all_one (λ (j : Joined E). j.worker ≢ v.worker) (joined_of w) (λ same. not_first (same ∙ one)));
            first = λ _. ((k.first one).0, ap (λ l. l ++ joined_of w ∷ []) (k.first one).1);
          }))
          (λ (t : (j ≢ id) × (j ≢ other) × (get_elem? views j ≡ some u)). let k = s.each j u t.2 pos in record {
            problem = k.problem;
            budget = k.budget;
            drawn_before = k.drawn_before;
            prefix = k.prefix;
            mine = k.mine;
            apart = All-append (λ (j : Joined E). j.worker ≢ u.worker) joined (joined_of w ∷ []) k.apart (all_one (λ (j : Joined E). j.worker ≢ u.worker) (joined_of w) (λ same. t.1 (s.distinct j other u w t.2 there pos (sym same))));
            first = λ is. absurd (t.0 (s.distinct j id u v t.2 at pos (is ∙ sym one)));
          })
          (living j u e pos);
      distinct = λ i j x y ei ej pos same. let a = lived i x ei pos in let c = lived j y ej (subst (λ (n : ℕ). 0 < n) same pos) in
          s.distinct i j a.0 c.0 a.1 c.1 (subst (λ (n : ℕ). 0 < n) (sym a.2) pos) (a.2 ∙ (same ∙ sym c.2));
      kept = All-append (IsKept worker log) joined (joined_of w ∷ []) s.kept (all_one (IsKept worker log) (joined_of w) (alive, gone_sits.prefix, gone_sits.mine));
      joined_drawn = All-append (λ (j : Joined E). j.worker ≤ drawn) joined (joined_of w ∷ []) s.joined_drawn (all_one (λ (j : Joined E). j.worker ≤ drawn) (joined_of w) gone_sits.drawn_before);
    }
