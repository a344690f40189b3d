-- Each step keeps the rule.
use Rattle.std.proofs.Common.{◌≡◌, ◌≢◌, ℕ, zero, suc, ◌+◌, ◌*◌, ◌%◌, ◌^◌, ◌<◌, ◌≤◌, Bool, true, false, eqb, List, [], ◌∷◌, ◌++◌, length, All, Any, Option, Some, None, refl, ap, sym, ◌∙◌, subst, ⊎_elim, inl, inr, arith, set, get_or, eq-eqb, ne_eqb}
use Rattle.std.proofs.lemmas.List.{append-nil}
use mathlib.Core.Logic.{dite}
use mathlib.Core.Option.{some, none, some-injective}
use Rattle.std.proofs.lemmas.Bool.{false_from_ne_true}
use Rattle.std.proofs.lemmas.Option.{same_Some}
use Rattle.kb_lemmas.proofs.Membership.{all_none}
use native.Mathlib.Decide.{ℕ_discrete}
use lib.ListN.{get_elem?}
use prog.Atomic.{either}
use Rattle.atomic_table.specs.Table.{State, Me, step, keeps, takes, gives, stepped, Allows, Splits, Joins, opening, Final, Seen}
use Rattle.atomic_table.proofs.Lists.{at_set, at_snoc, at_longer, set_again, set_else}
use Rattle.turn_lock.specs.declared.rule.View.{View}
use Rattle.turn_lock.specs.declared.rule.Joined.{Joined}
use Rattle.turn_lock.specs.Turn.{StartsWith, own, IsFrom, IsKept, Sits, Seated, Free, Held, Turning, Fits, Enters, tried, released, looked, seeing, first_view, drawing, drawn_view, joined_of, taking, spent_view}
use Rattle.turn_lock.proofs.Entries.{set_there, starts_self}
use Rattle.turn_lock.proofs.Seats.{sees_all, draws, takes_in}

clash : {X : Type 0} (b : Bool) → b ≡ true → b ≡ false → X
clash true t f = absurd (cc f)
clash false t f = absurd (cc t)

module _ {T P E : Type 0} (problem : T → P) (budget : T → ℕ) (entries : T → List E) (worker : E → ℕ) (p : P) (b : ℕ) where
  abbrev V : Type 0
  V = View P E

  abbrev slot_head : List (ℕ × Option T) → Option T
  slot_head [] = None
  slot_head (q ∷ qs) = q.1

  abbrev S : Type 0
  S = State (Option T) V

  abbrev Rule : S → Type 0
  Rule s = Turning problem budget entries worker p b s

  abbrev At : List E → S → Type 0
  At log s = Free problem budget entries worker p b log s

  abbrev Out : List E → S → Type 0
  Out log s = Held problem budget entries worker log s

  abbrev M : Type 0
  M = Me (Option T) V

  none_made : (w : ℕ) → IsFrom worker w []
  none_made w k d l = absurd (omega arith)

  -- a seat that sees a history that has not grown
  sees : (log : List E) (drawn : ℕ) (joined : List (Joined E)) (views : List V) (id : ℕ) (v : V) (h : Bool)
      → Seated worker p b log drawn joined views → get_elem? views id ≡ some v → 0 < v.worker → Seated worker p b log drawn joined (set views id (seeing v log h))
  sees log drawn joined views id v h s at alive = subst (λ (l : List E). Seated worker p b l drawn joined (set views id (seeing v l h))) (append-nil log)
      (sees_all worker p b log [] drawn joined views id v h s at alive (none_made v.worker))

  -- who has the turn has it still after a change of a view that keeps the number and the turn
  still_there : (views : List V) (id : ℕ) (v v' : V) (h : ℕ) → get_elem? views id ≡ some v → v'.worker ≡ v.worker → v'.holds ≡ v.holds
      → ((u : V) × (get_elem? views h ≡ some u) × (0 < u.worker) × (u.holds ≡ true)) → (u : V) × (get_elem? (set views id v') h ≡ some u) × (0 < u.worker) × (u.holds ≡ true)
  still_there views id v v' h at n t u = dite (ℕ_discrete h id)
      (λ is. let same : v ≡ u.0 = some_inside' is in (
        v',
        subst (λ (k : ℕ). get_elem? (set views id v') k ≡ some v') (sym is) (set_there views id v v' at),
        subst (λ (k : ℕ). 0 < k) (sym (n ∙ ap (λ (x : V). x.worker) same)) u.2,
        t ∙ (ap (λ (x : V). x.holds) same ∙ u.3),
      ))
      (λ other. (u.0, set_else views id h v' other ∙ u.1, u.2, u.3))
    where
      some_inside' : h ≡ id → v ≡ u.0
      some_inside' is = some-injective v u.0 (sym at ∙ subst (λ (k : ℕ). get_elem? views k ≡ some u.0) is u.1)

  one_word : (s : S) → Rule s → (k : ℕ) × (s.words ≡ k ∷ [])
  one_word s r = ⊎_elim (λ (f : Free problem budget entries worker p b r.log s). (2 * length r.log, f.words)) (λ (h : Held problem budget entries worker r.log s). (2 * length r.log + 1, h.words)) r.turn

  same_words : (ws : List ℕ) → ((k : ℕ) × (ws ≡ k ∷ [])) → set ws 0 (get_or ws 0 0) ≡ ws
  same_words ws e = subst (λ (l : List ℕ). set l 0 (get_or l 0 0) ≡ l) (sym e.1) refl

  -- a step that changes nothing
  unmoved : (s : S) (r : Rule s) (id : ℕ) (v : V) (c : List (ℕ × Option T)) → get_elem? s.views id ≡ some v → Rule (stepped s 0 (get_or s.words 0 0) id c v keeps)
  unmoved s r id v c at = subst Rule (sym (λ i. record { words = same_words s.words (one_word s r) i; homes = s.homes; views = set_again s.views id v at i })) r

  alive_at : (s : S) (r : Rule s) (id : ℕ) (v : V) → get_elem? s.views id ≡ some v → 0 < v.worker → Sits worker p b r.log r.drawn r.joined v
  alive_at s r id v at pos = r.seats.each id v at pos

  -- trying the word
  module _ (s : S) (r : Rule s) (id : ℕ) (v : V) (c : List (ℕ × Option T)) (at : get_elem? s.views id ≡ some v) (pos : 0 < v.worker) (old : ℕ)
      (even : old % 2 ≡ 0) (found : get_or s.words 0 0 ≡ old) where
    was_free : At r.log s
    was_free = ⊎_elim (λ (f : At r.log s). f)
        (λ (h : Out r.log s). let n : get_or s.words 0 0 ≡ 2 * length r.log + 1 = ap (λ (l : List ℕ). get_or l 0 0) h.words in absurd (omega arith)) r.turn

    length_is : old ≡ 2 * length r.log
    length_is = sym found ∙ ap (λ (l : List ℕ). get_or l 0 0) was_free.words

    hit_state : Rule (stepped s 0 (old + 1) id c (seeing v r.log true) (takes 0 (Some was_free.value)))
    hit_state = let f = was_free in let k = alive_at s r id v at pos in record {
      log = r.log;
      drawn = r.drawn;
      joined = r.joined;
      few = r.few;
      seats = sees r.log r.drawn r.joined s.views id v true r.seats at pos;
      turn = inr record {
        holder = id;
        words = ap (λ (l : List ℕ). set l 0 (old + 1)) f.words ∙ ap (λ (n : ℕ). (n + 1) ∷ []) length_is;
        away = ap (λ (l : List (mathlib.Core.Option.Option (Option T))). set l 0 none) f.home;
        there = (seeing v r.log true, set_there s.views id v (seeing v r.log true) at, pos, refl);
        only = λ j u e t. ⊎_elim (λ (a : (j ≡ id) × (seeing v r.log true ≡ u)). (a.0, sym (ap (λ (x : V). x.seen) a.1)))
            (λ (a : (j ≢ id) × (get_elem? s.views j ≡ some u)). clash u.holds t (f.idle j u a.1)) (at_set s.views id j (seeing v r.log true) u e);
      };
    }

    hit_told : Enters problem budget entries worker (v, c) (seeing v r.log true, (0, Some was_free.value) ∷ c) old
    hit_told = let f = was_free in let k = alive_at s r id v at pos in (
      f.value,
      ap (λ (l : List E). (seeing v l true, (0, Some f.value) ∷ c)) (sym f.history),
      (k.problem ∙ ap (λ (q : P). Some q) (sym f.for_problem), k.budget ∙ sym f.for_budget),
      subst (λ (l : List E). StartsWith l v.seen) (sym f.history) k.prefix,
      ap (own worker v.worker) f.history ∙ k.mine,
      subst (λ (l : List E). length l < 2 ^ 62) (sym f.history) r.few,
      length_is ∙ ap (λ (l : List E). 2 * length l) (sym f.history),
    )

  pub tries : (n id : ℕ) (m : M) (old new : ℕ) → old % 2 ≡ 0 → new ≡ old + 1 → 0 < m.0.worker
      → Allows Rule n id m 0 (λ z. either (eqb z old) new z) (tried problem budget entries worker (step n 0 old new none) m)
  tries n id m old new even up pos s r _ at _ = let k : ℕ = get_or s.words 0 0 in dite (ℕ_discrete k old)
      (λ hit. let f = was_free s r id m.0 m.1 at pos old even hit in let w : V = seeing m.0 r.log true in (
        w,
        takes 0 (Some f.value),
        ap (λ (l : List (mathlib.Core.Option.Option (Option T))). get_elem? l 0) f.home,
        subst (λ (z : ℕ). Rule (stepped s 0 z id m.1 w (takes 0 (Some f.value)))) (sym (ap (λ (q : Bool). either q new k) (eq-eqb k old hit) ∙ up)) (hit_state s r id m.0 m.1 at pos old even hit),
        ((λ _. subst (Enters problem budget entries worker m (w, (0, Some f.value) ∷ m.1)) (sym hit) (hit_told s r id m.0 m.1 at pos old even hit)), λ not. absurd (not hit)),
      ))
      (λ miss. (
        m.0,
        keeps,
        tt,
        subst (λ (z : ℕ). Rule (stepped s 0 z id m.1 m.0 keeps)) (sym (ap (λ (q : Bool). either q new k) (ne_eqb k old miss))) (unmoved s r id m.0 m.1 at),
        ((λ is. absurd (miss is)), λ _. refl),
      ))

  -- loading the word
  pub looks : (n id : ℕ) (m : M) → 0 < m.0.worker → Allows Rule n id m 0 (λ z. z) (looked worker (step n 0 0 0 none) m)
  looks n id m pos s r _ at _ =
      let v : V = m.0 in let w : V = seeing v r.log v.holds in let k = alive_at s r id v at pos in
      let same : set s.words 0 (get_or s.words 0 0) ≡ s.words = same_words s.words (one_word s r) in (
        w,
        keeps,
        tt,
        record {
          log = r.log;
          drawn = r.drawn;
          joined = r.joined;
          few = r.few;
          seats = sees r.log r.drawn r.joined s.views id v v.holds r.seats at pos;
          turn = ⊎_elim
              (λ (f : At r.log s). inl record {
                value = f.value;
                words = same ∙ f.words;
                home = f.home;
                history = f.history;
                for_problem = f.for_problem;
                for_budget = f.for_budget;
                idle = λ j u e. ⊎_elim (λ (a : (j ≡ id) × (w ≡ u)). sym (ap (λ (x : V). x.holds) a.1) ∙ f.idle id v at)
                    (λ (a : (j ≢ id) × (get_elem? s.views j ≡ some u)). f.idle j u a.1) (at_set s.views id j w u e);
              })
              (λ (h : Out r.log s). inr record {
                holder = h.holder;
                words = same ∙ h.words;
                away = h.away;
                there = still_there s.views id v w h.holder at refl refl h.there;
                only = λ j u e t. ⊎_elim (λ (a : (j ≡ id) × (w ≡ u)). (a.0 ∙ (h.only id v at (ap (λ (x : V). x.holds) a.1 ∙ t)).0, sym (ap (λ (x : V). x.seen) a.1)))
                    (λ (a : (j ≢ id) × (get_elem? s.views j ≡ some u)). h.only j u a.1 t) (at_set s.views id j w u e);
              })
              r.turn;
        },
        (
          r.log,
          refl,
          k.prefix,
          k.mine,
          r.few,
          ⊎_elim (λ (f : At r.log s). inl (ap (λ (l : List ℕ). get_or l 0 0) f.words)) (λ (h : Out r.log s). inr (ap (λ (l : List ℕ). get_or l 0 0) h.words)) r.turn,
        ),
      )

  -- releasing the word
  module _ (s : S) (r : Rule s) (id : ℕ) (v : V) (x : T) (more : List (ℕ × Option T)) (mine : List E) (at : get_elem? s.views id ≡ some v) (pos : 0 < v.worker)
      (has : v.holds ≡ true) (fits : Fits problem budget v x) (grown : entries x ≡ v.seen ++ mine) (from : IsFrom worker v.worker mine) (small : length (entries x) < 2 ^ 62) where
    was_out : Out r.log s
    was_out = ⊎_elim (λ (f : At r.log s). clash v.holds has (f.idle id v at)) (λ (h : Out r.log s). h) r.turn

    grew : entries x ≡ r.log ++ mine
    grew = grown ∙ ap (λ (l : List E). l ++ mine) (was_out.only id v at has).1

    released_state : Rule (stepped s 0 (2 * length (entries x)) id ((0, Some x) ∷ more) (seeing v (entries x) false) gives)
    released_state = let h = was_out in let k = alive_at s r id v at pos in record {
      log = entries x;
      drawn = r.drawn;
      joined = r.joined;
      few = small;
      seats = subst (λ (l : List E). Seated worker p b l r.drawn r.joined (set s.views id (seeing v l false))) (sym grew)
          (sees_all worker p b r.log mine r.drawn r.joined s.views id v false r.seats at pos from);
      turn = inl record {
        value = x;
        words = ap (λ (l : List ℕ). set l 0 (2 * length (entries x))) h.words;
        home = ap (λ (l : List (mathlib.Core.Option.Option (Option T))). set l 0 (some (Some x))) h.away;
        history = refl;
        for_problem = same_Some (problem x) p (sym fits.0 ∙ k.problem);
        for_budget = sym fits.1 ∙ k.budget;
        idle = λ j u e. ⊎_elim (λ (a : (j ≡ id) × (seeing v (entries x) false ≡ u)). sym (ap (λ (y : V). y.holds) a.1))
            (λ (a : (j ≢ id) × (get_elem? s.views j ≡ some u)). false_from_ne_true u.holds (λ t. a.0 ((h.only j u a.1 t).0 ∙ sym (h.only id v at has).0))) (at_set s.views id j (seeing v (entries x) false) u e);
      };
    }

  pub releases : (n id : ℕ) (m : M) (v : V) (x : T) (more : List (ℕ × Option T)) (mine : List E) (new : ℕ) → m ≡ (v, (0, Some x) ∷ more) → new ≡ 2 * length (entries x) → 0 < v.worker → v.holds ≡ true
      → Fits problem budget v x → entries x ≡ v.seen ++ mine → IsFrom worker v.worker mine → length (entries x) < 2 ^ 62
      → Allows Rule n id m 0 (λ _. new) (λ _. released entries (step n 0 new 0 none) m new)
  releases n id m v x more mine new is_m is pos has fits grown from small =
      subst (λ (q : ℕ × M). Allows Rule n id q.1 0 (λ _. q.0) (λ _. released entries (step n 0 q.0 0 none) q.1 q.0)) (λ i. (sym is i, sym is_m i))
      (λ s r _ at _. (
        seeing v (entries x) false,
        gives,
        tt,
        released_state s r id v x more mine at pos has fits grown from small,
        (λ y more' same. let here : x ≡ y = same_Some x y (ap slot_head same) in let rest' : more ≡ more' = cc same in
            (λ i. (seeing v (entries (here i)) false, rest' i))),
      ))

  -- drawing a number
  pub splits : (id : ℕ) (v : V) → v.worker ≡ 1 → Splits Rule id v (drawing v) (drawn_view v)
  splits id v one s r at = record {
    log = r.log;
    drawn = r.drawn + 1;
    joined = r.joined;
    few = r.few;
    seats = draws worker p b r.log r.drawn r.joined s.views id v r.seats at one;
    turn = ⊎_elim
        (λ (f : At r.log s). inl record {
          value = f.value;
          words = f.words;
          home = f.home;
          history = f.history;
          for_problem = f.for_problem;
          for_budget = f.for_budget;
          idle = λ j u e. ⊎_elim
              (λ (o : get_elem? (set s.views id (drawing v)) j ≡ some u). ⊎_elim (λ (a : (j ≡ id) × (drawing v ≡ u)). sym (ap (λ (x : V). x.holds) a.1) ∙ f.idle id v at)
              (λ (a : (j ≢ id) × (get_elem? s.views j ≡ some u)). f.idle j u a.1) (at_set s.views id j (drawing v) u o))
              (λ (o : drawn_view v ≡ u). sym (ap (λ (x : V). x.holds) o)) (at_snoc (set s.views id (drawing v)) (drawn_view v) u j e);
        })
        (λ (h : Out r.log s). inr record {
          holder = h.holder;
          words = h.words;
          away = h.away;
          there = let t = still_there s.views id v (drawing v) h.holder at refl refl h.there in (t.0, at_longer (set s.views id (drawing v)) (drawn_view v ∷ []) h.holder t.0 t.1, t.2, t.3);
          only = λ j u e t. ⊎_elim
              (λ (o : get_elem? (set s.views id (drawing v)) j ≡ some u). ⊎_elim
              (λ (a : (j ≡ id) × (drawing v ≡ u)). let k = h.only id v at (ap (λ (x : V). x.holds) a.1 ∙ t) in (a.0 ∙ k.0, sym (ap (λ (x : V). x.seen) a.1) ∙ k.1))
              (λ (a : (j ≢ id) × (get_elem? s.views j ≡ some u)). h.only j u a.1 t) (at_set s.views id j (drawing v) u o))
              (λ (o : drawn_view v ≡ u). clash u.holds t (sym (ap (λ (x : V). x.holds) o))) (at_snoc (set s.views id (drawing v)) (drawn_view v) u j e);
        })
        r.turn;
  }

  -- taking a seat in
  pub joins : (id : ℕ) (v : V) (other : ℕ) (w : V) → v.worker ≡ 1 → 0 < w.worker → w.holds ≡ false → Joins Rule id v other w (taking v w) spent_view
  joins id v other w one pos rests s r at apart there' =
      let there : get_elem? s.views other ≡ some w = sym (set_else s.views id other (taking v w) apart) ∙ there' in
      let first_set : List V = set s.views id (taking v w) in record {
        log = r.log;
        drawn = r.drawn;
        joined = r.joined ++ joined_of w ∷ [];
        few = r.few;
        seats = takes_in worker p b r.log r.drawn r.joined s.views id v other w r.seats at one apart there pos;
        turn = ⊎_elim
            (λ (f : At r.log s). inl record {
              value = f.value;
              words = f.words;
              home = f.home;
              history = f.history;
              for_problem = f.for_problem;
              for_budget = f.for_budget;
              idle = λ j u e. ⊎_elim (λ (a : (j ≡ other) × (spent_view ≡ u)). sym (ap (λ (x : V). x.holds) a.1))
                  (λ (o : (j ≢ other) × (get_elem? first_set j ≡ some u)). ⊎_elim (λ (a : (j ≡ id) × (taking v w ≡ u)). sym (ap (λ (x : V). x.holds) a.1) ∙ f.idle id v at)
                  (λ (a : (j ≢ id) × (get_elem? s.views j ≡ some u)). f.idle j u a.1) (at_set s.views id j (taking v w) u o.1)) (at_set first_set other j spent_view u e);
            })
            (λ (h : Out r.log s). inr record {
              holder = h.holder;
              words = h.words;
              away = h.away;
              there = let t = still_there s.views id v (taking v w) h.holder at refl refl h.there in
                  let not : h.holder ≢ other = λ is. clash t.0.holds t.3 (ap (λ (x : V). x.holds) (some-injective t.0 w (sym t.1 ∙ (ap (get_elem? first_set) is ∙ there'))) ∙ rests) in
                  (t.0, set_else first_set other h.holder spent_view not ∙ t.1, t.2, t.3);
              only = λ j u e t. ⊎_elim (λ (a : (j ≡ other) × (spent_view ≡ u)). clash u.holds t (sym (ap (λ (x : V). x.holds) a.1)))
                  (λ (o : (j ≢ other) × (get_elem? first_set j ≡ some u)). ⊎_elim
                  (λ (a : (j ≡ id) × (taking v w ≡ u)). let k = h.only id v at (ap (λ (x : V). x.holds) a.1 ∙ t) in (a.0 ∙ k.0, sym (ap (λ (x : V). x.seen) a.1) ∙ k.1))
                  (λ (a : (j ≢ id) × (get_elem? s.views j ≡ some u)). h.only j u a.1 t) (at_set s.views id j (taking v w) u o.1)) (at_set first_set other j spent_view u e);
            })
            r.turn;
      }

  -- the rule holds at the start
  first_only : (j : ℕ) (v : V) → get_elem? (first_view {E = E} p b ∷ []) j ≡ some v → (j ≡ 0) × (first_view {E = E} p b ≡ v)
  first_only zero v e = (refl, some-injective (first_view p b) v e)
  first_only (suc j) v e = absurd (mathlib.Core.Option.some-ne-none v (sym e))

  pub opens : (x : T) → entries x ≡ [] → problem x ≡ p → budget x ≡ b → Rule (opening (0 ∷ []) (Some x ∷ []) (first_view p b))
  opens x none_yet of_p of_b = record {
    log = [];
    drawn = 1;
    joined = [];
    few = omega arith;
    seats = record {
      some_drawn = omega arith;
      numbered = all_none (λ e. worker e ≤ 1);
      each = λ j v e pos. subst (Sits worker p b [] 1 []) (first_only j v e).1 (record {
        problem = refl;
        budget = refl;
        drawn_before = omega arith;
        prefix = starts_self [];
        mine = refl;
        apart = all_none (λ (q : Joined E). q.worker ≢ 1);
        first = λ _. (refl, refl);
      });
      distinct = λ i j v w ei ej pos same. (first_only i v ei).0 ∙ sym (first_only j w ej).0;
      kept = all_none (IsKept worker []);
      joined_drawn = all_none (λ (q : Joined E). q.worker ≤ 1);
    };
    turn = inl record {
      value = x;
      words = refl;
      home = refl;
      history = none_yet;
      for_problem = of_p;
      for_budget = of_b;
      idle = λ j v e. sym (ap (λ (y : V). y.holds) (first_only j v e).1);
    };
  }

  -- what is known of the value at the end
  pub record Ended (v : V) (x : T) : Type 0 where
    pub of_problem : problem x ≡ p
    pub of_budget : budget x ≡ b
    pub begins : StartsWith (entries x) v.seen
    pub mine : own worker v.worker (entries x) ≡ own worker v.worker v.seen
    pub joined : All (IsKept worker (entries x)) v.joined
    pub numbered : All (λ e. worker e ≤ v.drawn) (entries x)

  module _ (s : S) (r : Rule s) (id : ℕ) (v : V) (at : get_elem? s.views id ≡ some v) (one : v.worker ≡ 1) (rests : v.holds ≡ false)
      (all : (n : ℕ) → 1 < n → n ≤ v.drawn → Any (λ (j : Joined E). j.worker ≡ n) v.joined) where
    last_sits : Sits worker p b r.log r.drawn r.joined v
    last_sits = alive_at s r id v at (omega arith)

    none_out : Out r.log s → ⊥
    none_out h = let t = h.there in let u : V = t.0 in let k = alive_at s r h.holder u t.1 t.2 in let f = last_sits.first one in dite (ℕ_discrete u.worker 1)
        (λ is. let here : id ≡ h.holder = r.seats.distinct id h.holder v u at t.1 (omega arith) (one ∙ sym is) in
        clash u.holds t.3 (ap (λ (y : V). y.holds) (some-injective u v (sym t.1 ∙ (ap (get_elem? s.views) (sym here) ∙ at))) ∙ rests))
        (λ other. let pos : 0 < u.worker = t.2 in let low : u.worker ≤ r.drawn = k.drawn_before in let count : v.drawn ≡ r.drawn = f.0 in
        let j = all u.worker (omega arith) (omega arith) in
        let apart : All (λ (q : Joined E). q.worker ≢ u.worker) v.joined = subst (λ (l : List (Joined E)). All (λ (q : Joined E). q.worker ≢ u.worker) l) (sym f.1) k.apart in
        apart j.0 j.1 j.2 (ap (λ (q : Joined E). q.worker) j.3 ∙ j.4))

    at_home : At r.log s
    at_home = ⊎_elim (λ (f : At r.log s). f) (λ (h : Out r.log s). absurd (none_out h)) r.turn

    ends : Ended v at_home.value
    ends = let f = at_home in let k = last_sits in let first = k.first one in record {
      of_problem = f.for_problem;
      of_budget = f.for_budget;
      begins = subst (λ (l : List E). StartsWith l v.seen) (sym f.history) k.prefix;
      mine = ap (own worker v.worker) f.history ∙ k.mine;
      joined = subst (λ (l : List E). All (IsKept worker l) v.joined) (sym f.history) (subst (λ (l : List (Joined E)). All (IsKept worker r.log) l) (sym first.1) r.seats.kept);
      numbered = subst (λ (l : List E). All (λ e. worker e ≤ v.drawn) l) (sym f.history) (λ n d l. subst (λ (z : ℕ). worker (get_or r.log n d) ≤ z) (sym first.0) (r.seats.numbered n d l));
    }

  pub closes : (id : ℕ) (v : V) (ws : List ℕ) (xs : List (Option T)) → v.worker ≡ 1 → v.holds ≡ false → ((n : ℕ) → 1 < n → n ≤ v.drawn → Any (λ (j : Joined E). j.worker ≡ n) v.joined)
      → Final (Seen Rule id v) ws xs → (x : T) × (get_elem? xs 0 ≡ some (Some x)) × Ended v x
  closes id v ws xs one rests all final =
      let s = final.0 in let r = final.1.0 in let at = final.1.1 in let f = at_home s r id v at one rests all in
      (f.value, final.4 0 (Some f.value) (ap (λ (l : List (mathlib.Core.Option.Option (Option T))). get_elem? l 0) f.home), ends s r id v at one rests all)
