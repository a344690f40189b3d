-- The search, number by number.
use Rattle.std.proofs.Common.{ℕ, suc, ◌+◌, ◌≤◌, ◌<◌, ◌≡◌, ⊎_elim, refl, sym, ap, ◌∙◌, subst, arith, List, length, get_or, set, take, drop, true, false, Bool}
use Rattle.std.proofs.lemmas.Bool.{cases_lt}
use Rattle.std.proofs.lemmas.List.{length-set}
use Rattle.std.specs.Prelude.{Vec}
use Rattle.std.specs.declared.alloc.Global.{Global}
use Rattle.kb_term.specs.Rule.{Rule}
use Rattle.kb_linear.specs.Limits.{interpretation_of}
use Rattle.kb_linear.specs.LinearOrder.{Interpretation}
use Rattle.kb_linear.specs.Interpretations.{LinearOrients}
use Rattle.kb_linear.specs.Numbers.{numbers_of, shape_of, IsWithin, IsLess, IsMember, BeginsWith, AreBounds, low_of, high_of, IsAt, IsStartAt, IsSearched}
use Rattle.kb_linear.specs.declared.search.Bounds.{Bounds}
use Rattle.kb_linear.specs.declared.search.Space.{Space}
use Rattle.kb_linear.proofs.Values.{read_at}
use Rattle.kb_linear.proofs.Within.{within_lengths, within_at, within_set, below_from, above_from, take_parts, take_join, parts_same, drop_more, take_set, drop_set, get_set, take_whole, rest_at, less_self, less_at, less_from, same_interpretation}
use Rattle.kb_linear.proofs.Between.{MayOrient, may_orient_between}

-- the numbers of a member are as many as the bounds have
pub member_length : (shape : List ℕ) (bounds : Bounds) (i : Interpretation) → IsMember shape bounds i → length (numbers_of i) ≡ length bounds.least.items
member_length shape bounds i m = sym (within_lengths bounds.least.items bounds.most.items (numbers_of i) m.within).0

-- what the bounds refuse no member orients
pub refused : (rules : List Rule) (shape : List ℕ) (bounds : Bounds) (space : Space) (k : ℕ) → IsAt shape bounds space k → ¬ MayOrient (low_of space) (high_of space) rules → IsSearched rules shape bounds k space space false
refused rules shape bounds space k s n = (
  refl,
  refl,
  λ j m b o. n (may_orient_between (low_of space) (high_of space) j rules (s.low_member.shape_is ∙ sym m.shape_is) (m.shape_is ∙ sym s.high_member.shape_is)
      (below_from k bounds.least.items bounds.most.items (numbers_of j) (numbers_of (low_of space)) m.within (sym b) s.low_rest)
      (above_from k bounds.least.items bounds.most.items (numbers_of j) (numbers_of (high_of space)) m.within (s.fixed ∙ sym b) s.high_rest) o),
)

-- with all numbers fixed the test is exact
pub complete : (rules : List Rule) (shape : List ℕ) (bounds : Bounds) (space : Space) (k : ℕ) → IsAt shape bounds space k → k ≡ length bounds.least.items → MayOrient (low_of space) (high_of space) rules → IsSearched rules shape bounds k space space true
complete rules shape bounds space k s e o =
    (s.low_member, refl, subst (λ i. MayOrient (low_of space) i rules) same o, λ j m b l. absurd (less_self (numbers_of (low_of space)) (subst (λ ns. IsLess ns (numbers_of (low_of space))) (whole j m b) l)))
  where
    whole : (j : Interpretation) → IsMember shape bounds j → BeginsWith k j (low_of space) → numbers_of j ≡ numbers_of (low_of space)
    whole j m b =
        let p = member_length shape bounds j m in
        let q = member_length shape bounds (low_of space) s.low_member in
        sym (take_whole k (numbers_of j) (omega arith)) ∙ b ∙ take_whole k (numbers_of (low_of space)) (omega arith)

    same : high_of space ≡ low_of space
    same = same_interpretation (high_of space) (low_of space) (s.high_member.shape_is ∙ sym s.low_member.shape_is) (whole (high_of space) s.high_member s.fixed)

-- place k is tried: with a number below value there no member orients the rules
pub record IsTrying (rules : List Rule) (shape : List ℕ) (bounds : Bounds) (old now : Space) (k value : ℕ) : Type 0 where
  pub low_member : IsMember shape bounds (low_of now)
  pub high_member : IsMember shape bounds (high_of now)
  pub low_front : BeginsWith k (low_of now) (low_of old)
  pub high_front : BeginsWith k (high_of now) (low_of old)
  pub low_rest : drop (suc k) (numbers_of (low_of now)) ≡ drop (suc k) bounds.least.items
  pub high_rest : drop (suc k) (numbers_of (high_of now)) ≡ drop (suc k) bounds.most.items
  pub from_least : get_or bounds.least.items k 0 ≤ value
  pub none : (j : Interpretation) → IsMember shape bounds j → BeginsWith k j (low_of old) → get_or (numbers_of j) k 0 < value → ¬ LinearOrients j rules

pub trying_loose : (rules : List Rule) (shape : List ℕ) (bounds : Bounds) (space : Space) (k value : ℕ) → IsAt shape bounds space k → value ≡ get_or bounds.least.items k 0 → IsTrying rules shape bounds space space k value
trying_loose rules shape bounds space k value s e = record {
  low_member = s.low_member;
  high_member = s.high_member;
  low_front = refl;
  high_front = s.fixed;
  low_rest = drop_more k (numbers_of (low_of space)) bounds.least.items s.low_rest;
  high_rest = drop_more k (numbers_of (high_of space)) bounds.most.items s.high_rest;
  from_least = omega arith;
  none = λ j m b l o. let w = within_at bounds.least.items bounds.most.items (numbers_of j) k m.within in omega arith;
}

pub trying_tight : (rules : List Rule) (shape : List ℕ) (bounds : Bounds) (space : Space) (k value : ℕ) → IsAt shape bounds space k → IsStartAt rules shape bounds space k → k < length bounds.least.items → value ≡ get_or bounds.start.items k 0 → IsTrying rules shape bounds space space k value
trying_tight rules shape bounds space k value s t h e =
    let w = within_at bounds.least.items bounds.most.items bounds.start.items k t.within in
    let n = within_lengths bounds.least.items bounds.most.items bounds.start.items t.within in
    record {
      low_member = s.low_member;
      high_member = s.high_member;
      low_front = refl;
      high_front = s.fixed;
      low_rest = drop_more k (numbers_of (low_of space)) bounds.least.items s.low_rest;
      high_rest = drop_more k (numbers_of (high_of space)) bounds.most.items s.high_rest;
      from_least = omega arith;
      none = λ j m b l. let p = member_length shape bounds j m in t.first j m b (less_from k (numbers_of j) bounds.start.items (omega arith) (omega arith) (b ∙ sym t.begins) (omega arith));
    }

-- the interpretation with the number at place k set
pub record IsSet (k value : ℕ) (i new : Interpretation) : Type 0 where
  pub numbers : numbers_of new ≡ set (numbers_of i) k value
  pub shape : shape_of new ≡ shape_of i

set_member : (shape : List ℕ) (bounds : Bounds) (k value : ℕ) (i new : Interpretation) → IsMember shape bounds i → IsSet k value i new → get_or bounds.least.items k 0 ≤ value → value ≤ get_or bounds.most.items k 0 → IsMember shape bounds new
set_member shape bounds k value i new m s l h = record {
  shape_is = s.shape ∙ m.shape_is;
  within = subst (IsWithin bounds.least.items bounds.most.items) (sym s.numbers) (within_set bounds.least.items bounds.most.items (numbers_of i) k value m.within l h);
}

set_front : (k value : ℕ) (i new : Interpretation) → IsSet k value i new → BeginsWith k new i
set_front k value i new s = ap (take k) s.numbers ∙ take_set k value (numbers_of i)

set_rest : (k value : ℕ) (i new : Interpretation) → IsSet k value i new → drop (suc k) (numbers_of new) ≡ drop (suc k) (numbers_of i)
set_rest k value i new s = ap (drop (suc k)) s.numbers ∙ drop_set k value (numbers_of i)

set_at : (k value : ℕ) (i new : Interpretation) → IsSet k value i new → k < length (numbers_of i) → get_or (numbers_of new) k 0 ≡ value
set_at k value i new s h = ap (λ ns. get_or ns k 0) s.numbers ∙ get_set k value (numbers_of i) h

-- place k is set to a value in both, and the search goes on behind it
pub record IsPut (rules : List Rule) (shape : List ℕ) (bounds : Bounds) (old now put : Space) (k value : ℕ) : Type 0 where
  pub trying : IsTrying rules shape bounds old now k value
  pub low_set : IsSet k value (low_of now) (low_of put)
  pub high_set : IsSet k value (high_of now) (high_of put)
  pub place : k < length bounds.least.items
  pub at_most : value ≤ get_or bounds.most.items k 0

put_length : {rules : List Rule} {shape : List ℕ} {bounds : Bounds} {old now put : Space} {k value : ℕ} → IsPut rules shape bounds old now put k value → k < length (numbers_of (low_of now))
put_length {shape = shape} {bounds = bounds} {now = now} p = let e = member_length shape bounds (low_of now) p.trying.low_member in let h = p.place in omega arith

put_high_length : {rules : List Rule} {shape : List ℕ} {bounds : Bounds} {old now put : Space} {k value : ℕ} → IsPut rules shape bounds old now put k value → k < length (numbers_of (high_of now))
put_high_length {shape = shape} {bounds = bounds} {now = now} p = let e = member_length shape bounds (high_of now) p.trying.high_member in let h = p.place in omega arith

pub put_low : {rules : List Rule} {shape : List ℕ} {bounds : Bounds} {old now put : Space} {k value : ℕ} → IsPut rules shape bounds old now put k value → IsMember shape bounds (low_of put)
put_low {shape = shape} {bounds = bounds} {now = now} {put = put} {k = k} {value = value} p = set_member shape bounds k value (low_of now) (low_of put) p.trying.low_member p.low_set p.trying.from_least p.at_most

put_high : {rules : List Rule} {shape : List ℕ} {bounds : Bounds} {old now put : Space} {k value : ℕ} → IsPut rules shape bounds old now put k value → IsMember shape bounds (high_of put)
put_high {shape = shape} {bounds = bounds} {now = now} {put = put} {k = k} {value = value} p = set_member shape bounds k value (high_of now) (high_of put) p.trying.high_member p.high_set p.trying.from_least p.at_most

-- a member begins so up to place k where it begins so before and has the value there
pub put_begins : {rules : List Rule} {shape : List ℕ} {bounds : Bounds} {old now put : Space} {k value : ℕ} → IsPut rules shape bounds old now put k value → (j : Interpretation) → IsMember shape bounds j → BeginsWith k j (low_of old) → get_or (numbers_of j) k 0 ≡ value → BeginsWith (suc k) j (low_of put)
put_begins {shape = shape} {bounds = bounds} {old = old} {now = now} {put = put} {k = k} {value = value} p j m b e =
    let h = p.place in
    let q = member_length shape bounds j m in
    let r = member_length shape bounds (low_of put) (put_low p) in
    take_join k (numbers_of j) (numbers_of (low_of put)) (omega arith) (omega arith) (b ∙ sym (set_front k value (low_of now) (low_of put) p.low_set ∙ p.trying.low_front)) (e ∙ sym (set_at k value (low_of now) (low_of put) p.low_set (put_length p)))

pub put_parts : {rules : List Rule} {shape : List ℕ} {bounds : Bounds} {old now put : Space} {k value : ℕ} → IsPut rules shape bounds old now put k value → (j : Interpretation) → IsMember shape bounds j → BeginsWith (suc k) j (low_of put) → BeginsWith k j (low_of old) × (get_or (numbers_of j) k 0 ≡ value)
put_parts {shape = shape} {bounds = bounds} {old = old} {now = now} {put = put} {k = k} {value = value} p j m b =
    let h = p.place in
    let q = member_length shape bounds j m in
    let r = member_length shape bounds (low_of put) (put_low p) in
    let t = take_parts k (numbers_of j) (numbers_of (low_of put)) (omega arith) (omega arith) b in
    (t.0 ∙ set_front k value (low_of now) (low_of put) p.low_set ∙ p.trying.low_front, t.1 ∙ set_at k value (low_of now) (low_of put) p.low_set (put_length p))

pub put_next : {rules : List Rule} {shape : List ℕ} {bounds : Bounds} {old now put : Space} {k value : ℕ} → IsPut rules shape bounds old now put k value → IsAt shape bounds put (suc k)
put_next {shape = shape} {bounds = bounds} {old = old} {now = now} {put = put} {k = k} {value = value} p = record {
  low_member = put_low p;
  high_member = put_high p;
  fixed = put_begins p (high_of put) (put_high p) (set_front k value (high_of now) (high_of put) p.high_set ∙ p.trying.high_front) (set_at k value (high_of now) (high_of put) p.high_set (put_high_length p));
  low_rest = set_rest k value (low_of now) (low_of put) p.low_set ∙ p.trying.low_rest;
  high_rest = set_rest k value (high_of now) (high_of put) p.high_set ∙ p.trying.high_rest;
}

-- where the value is that of start, start still begins with the fixed numbers
pub put_start : {rules : List Rule} {shape : List ℕ} {bounds : Bounds} {old now put : Space} {k value : ℕ} → IsPut rules shape bounds old now put k value → IsStartAt rules shape bounds old k → value ≡ get_or bounds.start.items k 0 → IsStartAt rules shape bounds put (suc k)
put_start {shape = shape} {bounds = bounds} {old = old} {now = now} {put = put} {k = k} {value = value} p s e =
    let h = p.place in
    let q = within_lengths bounds.least.items bounds.most.items bounds.start.items s.within in
    let r = member_length shape bounds (low_of put) (put_low p) in
    record {
      within = s.within;
      begins = take_join k bounds.start.items (numbers_of (low_of put)) (omega arith) (omega arith) (s.begins ∙ sym (set_front k value (low_of now) (low_of put) p.low_set ∙ p.trying.low_front)) (sym e ∙ sym (set_at k value (low_of now) (low_of put) p.low_set (put_length p)));
      first = λ j m b. s.first j m (put_parts p j m b).0;
    }

pub put_found : {rules : List Rule} {shape : List ℕ} {bounds : Bounds} {old now put : Space} {k value : ℕ} → IsPut rules shape bounds old now put k value → (new : Space) → IsSearched rules shape bounds (suc k) put new true → IsSearched rules shape bounds k old new true
put_found {rules = rules} {shape = shape} {bounds = bounds} {old = old} {put = put} {k = k} {value = value} p new (m, b, o, n) =
    let t = put_parts p (low_of new) m b in (
      m,
      t.0,
      o,
      λ j mj bj l.
          let le = less_at k (numbers_of j) (numbers_of (low_of new)) l (bj ∙ sym t.0) in
          let v = t.1 in
          ⊎_elim (λ h. p.trying.none j mj bj h) (λ h. n j mj (put_begins p j mj bj (omega arith)) l) (cases_lt (get_or (numbers_of j) k 0) value),
    )

pub put_none : {rules : List Rule} {shape : List ℕ} {bounds : Bounds} {old now put : Space} {k value : ℕ} → IsPut rules shape bounds old now put k value → (new : Space) → IsSearched rules shape bounds (suc k) put new false → IsTrying rules shape bounds old new k (value + 1)
put_none {rules = rules} {shape = shape} {bounds = bounds} {old = old} {now = now} {put = put} {k = k} {value = value} p new (l, h, n) =
    let low = p.trying.from_least in
    record {
      low_member = subst (IsMember shape bounds) (sym l) (put_low p);
      high_member = subst (IsMember shape bounds) (sym h) (put_high p);
      low_front = ap (λ i. take k (numbers_of i)) l ∙ set_front k value (low_of now) (low_of put) p.low_set ∙ p.trying.low_front;
      high_front = ap (λ i. take k (numbers_of i)) h ∙ set_front k value (high_of now) (high_of put) p.high_set ∙ p.trying.high_front;
      low_rest = ap (λ i. drop (suc k) (numbers_of i)) l ∙ set_rest k value (low_of now) (low_of put) p.low_set ∙ p.trying.low_rest;
      high_rest = ap (λ i. drop (suc k) (numbers_of i)) h ∙ set_rest k value (high_of now) (high_of put) p.high_set ∙ p.trying.high_rest;
      from_least = omega arith;
      none = λ j mj bj lt. ⊎_elim (λ q. p.trying.none j mj bj q) (λ q. n j mj (put_begins p j mj bj (omega arith))) (cases_lt (get_or (numbers_of j) k 0) value);
    }

-- all values are tried, and the place is set back
restored : (k value : ℕ) (shape : List ℕ) (bounds : Bounds) (i now new : Interpretation) (ends : List ℕ) → IsMember shape bounds i → IsMember shape bounds now → IsSet k value now new → k < length bounds.least.items → BeginsWith k now i → drop (suc k) (numbers_of now) ≡ drop (suc k) ends → drop k (numbers_of i) ≡ drop k ends → value ≡ get_or ends k 0 → new ≡ i
restored k value shape bounds i now new ends mi mn s h f r d e =
    let p = member_length shape bounds i mi in
    let q = member_length shape bounds now mn in
    let l : length (numbers_of new) ≡ length (numbers_of now) = ap length s.numbers ∙ length-set (numbers_of now) k value in
    same_interpretation new i (s.shape ∙ mn.shape_is ∙ sym mi.shape_is)
    (parts_same k (numbers_of new) (numbers_of i) (omega arith) (omega arith) (set_front k value now new s ∙ f)
    (set_at k value now new s (omega arith) ∙ e ∙ sym (rest_at k k (numbers_of i) ends d (omega arith)))
    (set_rest k value now new s ∙ r ∙ sym (drop_more k (numbers_of i) ends d)))

pub tried_all : (rules : List Rule) (shape : List ℕ) (bounds : Bounds) (old now new : Space) (k value least most : ℕ) → IsAt shape bounds old k → IsTrying rules shape bounds old now k value → k < length bounds.least.items → get_or bounds.most.items k 0 < value
    → least ≡ get_or bounds.least.items k 0 → most ≡ get_or bounds.most.items k 0 → IsSet k least (low_of now) (low_of new) → IsSet k most (high_of now) (high_of new) → IsSearched rules shape bounds k old new false
tried_all rules shape bounds old now new k value least most s t h m le me ls hs = (
  restored k least shape bounds (low_of old) (low_of now) (low_of new) bounds.least.items s.low_member t.low_member ls h t.low_front t.low_rest s.low_rest le,
  restored k most shape bounds (high_of old) (high_of now) (high_of new) bounds.most.items s.high_member t.high_member hs h (t.high_front ∙ sym s.fixed) t.high_rest s.high_rest me,
  λ j mj bj. let w = within_at bounds.least.items bounds.most.items (numbers_of j) k mj.within in t.none j mj bj (omega arith),
)

-- the first value that is tried
pub trying_first : (rules : List Rule) (shape : List ℕ) (bounds : Bounds) (space : Space) (k value : ℕ) (is_tight : Bool) → IsAt shape bounds space k → (is_tight ≡ true → IsStartAt rules shape bounds space k) → k < length bounds.least.items
    → (is_tight ≡ true → value ≡ get_or bounds.start.items k 0) → (is_tight ≡ false → value ≡ get_or bounds.least.items k 0) → IsTrying rules shape bounds space space k value
trying_first rules shape bounds space k value true s t h e f = trying_tight rules shape bounds space k value s (t refl) h (e refl)
trying_first rules shape bounds space k value false s t h e f = trying_loose rules shape bounds space k value s (f refl)

-- the same facts at equal shapes, places and rows
pub at_shape : {shape other : List ℕ} {bounds : Bounds} {space : Space} {k n : ℕ} → shape ≡ other → k ≡ n → IsAt shape bounds space k → IsAt other bounds space n
at_shape {shape = shape} {other = other} {bounds = bounds} {space = space} {k = k} {n = n} e d h = subst (λ m. IsAt other bounds space m) d (subst (λ s. IsAt s bounds space k) e h)

pub start_shape : {rules : List Rule} {shape other : List ℕ} {bounds : Bounds} {space : Space} {k n : ℕ} → shape ≡ other → k ≡ n → IsStartAt rules shape bounds space k → IsStartAt rules other bounds space n
start_shape {rules = rules} {shape = shape} {other = other} {bounds = bounds} {space = space} {k = k} {n = n} e d h = subst (λ m. IsStartAt rules other bounds space m) d (subst (λ s. IsStartAt rules s bounds space k) e h)

pub searched_shape : (rules : List Rule) (bounds : Bounds) (old new : Space) {shape other : List ℕ} {k n : ℕ} {b d : Bool} → shape ≡ other → k ≡ n → b ≡ d → IsSearched rules shape bounds k old new b → IsSearched rules other bounds n old new d
searched_shape rules bounds old new {shape = shape} {other = other} {k = k} {n = n} {b = b} {d = d} e f g h =
    subst (λ z. IsSearched rules other bounds n old new z) g (subst (λ m. IsSearched rules other bounds m old new b) f (subst (λ s. IsSearched rules s bounds k old new b) e h))

pub judged : (rules : List Rule) (space : Space) (lows highs : List (ℕ × Vec ℕ Global)) → lows ≡ space.low.items → highs ≡ space.high.items → {P : Type 0} → (P → MayOrient (interpretation_of lows) (interpretation_of highs) rules) → P → MayOrient (low_of space) (high_of space) rules
judged rules space lows highs l h f p = subst (λ i. MayOrient (low_of space) (interpretation_of i) rules) h (subst (λ i. MayOrient (interpretation_of i) (interpretation_of highs) rules) l (f p))

pub unjudged : (rules : List Rule) (space : Space) (lows highs : List (ℕ × Vec ℕ Global)) → lows ≡ space.low.items → highs ≡ space.high.items → MayOrient (low_of space) (high_of space) rules → MayOrient (interpretation_of lows) (interpretation_of highs) rules
unjudged rules space lows highs l h o = subst (λ i. MayOrient (interpretation_of lows) (interpretation_of i) rules) (sym h) (subst (λ i. MayOrient (interpretation_of i) (high_of space) rules) (sym l) o)

-- a value that is put, below one more than the greatest as it was read
pub put_of : (rules : List Rule) (shape : List ℕ) (bounds : Bounds) (old now put : Space) (k value top : ℕ) → AreBounds shape bounds → IsTrying rules shape bounds old now k value → k < length bounds.least.items → top ≡ get_or bounds.most.items k top → value < top + 1
    → numbers_of (low_of put) ≡ set (numbers_of (low_of now)) k value → shape_of (low_of put) ≡ shape_of (low_of now) → numbers_of (high_of put) ≡ set (numbers_of (high_of now)) k value → shape_of (high_of put) ≡ shape_of (high_of now) → IsPut rules shape bounds old now put k value
put_of rules shape bounds old now put k value top b t h e l ln ls hn hs =
    let n = within_lengths bounds.least.items bounds.most.items bounds.least.items b.least_within in
    let r = read_at bounds.most.items k top (omega arith) e in
    record {
      trying = t;
      low_set = record { numbers = ln; shape = ls };
      high_set = record { numbers = hn; shape = hs };
      place = h;
      at_most = omega arith;
    }
