-- Processes that fall asleep or wake, one after another.
use Rattle.std.proofs.Common.{ℕ, zero, suc, ◌+◌, ◌-◌, ◌≤◌, ◌<◌, ◌≡◌, refl, sym, ap, ◌∙◌, subst, arith, List, [], ◌∷◌, filter, drop, length, get_or, Bool, true, false, cond, not, ◌&&◌, ◌||◌, Option, Some, None}
use Rattle.std.specs.Prelude.{IfSome, option_map}
use Rattle.std.specs.Fn.{iterate}
use Rattle.std.specs.Option.{option_map_or}
use Rattle.std.specs.Cmp.{IsTotalOrder}
use Rattle.std.specs.Ordering.{ordering_then, is_le, nat_cmp}
use Rattle.std.specs.declared.cmp.Ordering.{Ordering}
use Rattle.std.proofs.lemmas.Cmp.{alike_right, on_total, then_total, nat_cmp_total}
use Rattle.std.proofs.lemmas.Bool.{and_from, or_left, or_right}
use Rattle.kb_lemmas.proofs.Booleans.{and_gives_left, and_gives_right}
use Rattle.kb_lemmas.proofs.Options.{some_is}
use Rattle.kb_label.specs.Names.{Name, name_cmp, name_eq, has, add, minus, IsInNameOrder}
use Rattle.kb_label.specs.NameOrder.{name_cmp-total}
use Rattle.kb_label.proofs.Members.{name_eq-eq, name_eq-refl, has-add, has-minus}
use Rattle.kb_label.proofs.Ordered.{rest, before-absent, ordered-add, ordered-filter, length-add, length-without}
use Rattle.mkb_model.specs.Jobs.{least}
use Rattle.mkb_model.specs.Limits.{AreLimited}
use Rattle.mkb_model.specs.Plain.{Plain, cost}
use Rattle.mkb_model.specs.Invariants.{IsLabel}
use Rattle.mkb_model.specs.Sleeping.{is_active, most_awake, process_cmp, rested, settle, waiting, with_one_asleep, with_one_awake, working}
use Rattle.mkb_model.proofs.Lists.{clash, not_true}
use Rattle.mkb_model.proofs.labels.NameLists.{label-add}
use Rattle.std.specs.Prelude.{Vec, vec_len, vec_capacity}
use Rattle.std.specs.declared.alloc.Global.{Global}
use Rattle.std.proofs.lemmas.List.{length-map}
use Rattle.kb_label.proofs.Sets.{same_names}
use Rattle.mkb_model.proofs.runs.Endings.{has_in}
use Rattle.mkb_model.proofs.runs.Selections.{least-in}
use Rattle.mkb_board.specs.Working.{processes_in, IsWorking}
use Rattle.mkb_board.specs.declared.working.Placed.{Placed}
use Rattle.mkb_model.proofs.labels.Sleepers.{in_waiting, in_working, label_asleep, label_awake, label_rested, working_ordered}
use Rattle.mkb_board.specs.Choosing.{costed_cmp, merged}
use Rattle.mkb_board.specs.declared.settling.Costed.{Costed}
use Rattle.mkb_board.proofs.Asleep.{asleep_at, awake_at}
use Rattle.mkb_board.proofs.Picking.{drop_at}
use Rattle.mkb_board.proofs.Least.{merged_both}

-- ---- how many names a label has

-- of two labels the one that names no more is no longer
pub label_short : (l m : List Name) → IsInNameOrder l → IsInNameOrder m → ((q : Name) → has l q ≡ true → has m q ≡ true) → length l ≤ length m
label_short [] m o w h = omega arith
label_short (p ∷ l) m o w h =
    let one = length-without p m w (h p (or_left (name_eq p p) (has l p) (name_eq-refl p))) in
    let fewer =
    label_short l (minus m (p ∷ [])) (rest p l o) (ordered-filter (λ q. not (has (p ∷ []) q)) m w)
    (λ q k. has-minus m (p ∷ []) q ∙ and_from (not (name_eq q p || false)) (has m q) (differs q k (name_eq q p) refl) (h q (or_right (name_eq q p) (has l q) k))) in
    omega (arith, one, fewer)
  where
    differs : (q : Name) → has l q ≡ true → (x : Bool) → name_eq q p ≡ x → not (x || false) ≡ true
    differs q k false e = refl
    differs q k true e = clash (subst {A = Name} (λ z. has l z ≡ true) (name_eq-eq q p e) k) (before-absent p l o)

-- no more sleep than live
pub sleepers_few : (b : Plain) → IsInNameOrder b.living → IsLabel b b.asleep → length b.asleep ≤ length b.living
sleepers_few b alive h = label_short b.asleep b.living h.ordered alive h.living

-- beside a process that works fewer sleep than live
pub room_to_sleep : (b : Plain) (p : Name) → IsInNameOrder b.living → IsLabel b b.asleep → has (working b b.asleep) p ≡ true → length b.asleep < length b.living
room_to_sleep b p alive h works =
    let w = and_gives_right (is_active b p) (not (has b.asleep p) && has b.living p) (sym (in_working b b.asleep p) ∙ works) in
    let l = label-add b.living p b.asleep (and_gives_right (not (has b.asleep p)) (has b.living p) w) (record { ordered = h.ordered; lives = h.living }) in
    let one = length-add p b.asleep (not_true (and_gives_left (not (has b.asleep p)) (has b.living p) w)) in
    let few = label_short (add p b.asleep) b.living l.ordered alive l.lives in
    omega (arith, one, few)

-- ---- boards that differ in who sleeps alone

abbrev pub DiffersInSleepers : Plain → Plain → Type 0
DiffersInSleepers b s = s ≡ record b { asleep = s.asleep }

pub same_limits : (b s : Plain) → DiffersInSleepers b s → AreLimited b.problem.signature b.nodes → AreLimited s.problem.signature s.nodes
same_limits b s e h = subst {A = Plain} (λ z. AreLimited z.problem.signature z.nodes) (sym e) h

pub same_order : (b s : Plain) → DiffersInSleepers b s → IsInNameOrder b.living → IsInNameOrder s.living
same_order b s e h = subst {A = Plain} (λ z. IsInNameOrder z.living) (sym e) h

pub same_label : (b s : Plain) (l : List Name) → DiffersInSleepers b s → IsLabel b l → IsLabel s l
same_label b s l e h = subst {A = Plain} (λ z. IsLabel z l) (sym e) (record { ordered = h.ordered; living = h.living })

pub with_sleepers : (b s t : Plain) (a : List Name) → DiffersInSleepers b s → t ≡ record s { asleep = a } → DiffersInSleepers b t
with_sleepers b s t a e f = f ∙ ap (λ (z : Plain). record z { asleep = a }) e ∙ sym (ap (λ l. record b { asleep = l }) (ap (λ (z : Plain). z.asleep) f))

pub asleep_same : (b s : Plain) → DiffersInSleepers b s → with_one_asleep s s.asleep ≡ with_one_asleep b s.asleep
asleep_same b s e = ap (λ (z : Plain). with_one_asleep z s.asleep) e ∙ asleep_at b s.asleep s.asleep

pub awake_same : (b s : Plain) → DiffersInSleepers b s → with_one_awake s s.asleep ≡ with_one_awake b s.asleep
awake_same b s e = ap (λ (z : Plain). with_one_awake z s.asleep) e ∙ awake_at b s.asleep s.asleep

pub label_rests : (b : Plain) (l : List Name) → IsInNameOrder b.living → IsLabel b l → IsLabel b (with_one_asleep b l)
label_rests b l alive h = let k = label_asleep b alive l (record { ordered = h.ordered; lives = h.living }) in record { ordered = k.ordered; living = k.lives }

pub label_wakes : (b : Plain) (l : List Name) → IsInNameOrder b.living → IsLabel b l → IsLabel b (with_one_awake b l)
label_wakes b l alive h = let k = label_awake b alive l (record { ordered = h.ordered; lives = h.living }) in record { ordered = k.ordered; living = k.lives }

-- ---- one after another

pub one_less : (f : List Name → List Name) (n i : ℕ) (l : List Name) → i < n → iterate f (n - i) l ≡ iterate f (n - (i + 1)) (f l)
one_less f n i l h = let e : n - i ≡ suc (n - (i + 1)) = omega (arith, h) in ap (λ k. iterate f k l) e

pub iterate_fixed : (f : List Name → List Name) (n : ℕ) (l : List Name) → f l ≡ l → iterate f n l ≡ l
iterate_fixed f zero l e = refl
iterate_fixed f (suc n) l e = ap (iterate f n) e ∙ iterate_fixed f n l e

-- in the end
pub none_left : (f : List Name → List Name) (n i : ℕ) (l : List Name) → n ≤ i → l ≡ iterate f (n - i) l
none_left f n i l h = let e : 0 ≡ n - i = omega (arith, h) in ap (λ k. iterate f k l) e

-- where none waits, none wakes
pub none_wakes : (b : Plain) (l : List Name) → waiting b l ≡ [] → with_one_awake b l ≡ l
none_wakes b l h = ap (λ w. option_map_or (λ p. minus l (p ∷ [])) (least (process_cmp b) w) l) h

pub none_waits : (b s : Plain) → DiffersInSleepers b s → waiting s s.asleep ≡ [] → waiting b s.asleep ≡ []
none_waits b s e h = subst {A = Plain} (λ z. waiting z s.asleep ≡ []) e h

-- ---- who works

pub how_many : (b : Plain) (l : Vec Placed Global) → IsWorking b l → vec_len l ≡ length (working b b.asleep)
how_many b l h = l.ok.0 ∙ sym (length-map l.items (λ (it : Placed). it.process)) ∙ ap length h.all

module _ (b : Plain) (alive : IsInNameOrder b.living) where
  pub listed_ordered : (l : Vec Placed Global) → IsWorking b l → IsInNameOrder (processes_in l.items)
  listed_ordered l h = subst {A = List Name} IsInNameOrder (sym h.all) (working_ordered b alive b.asleep)

  -- without one who falls asleep
  pub one_rests : (s : Plain) (p : Name) (l m : Vec Placed Global) → s ≡ record b { asleep = add p b.asleep } → IsWorking b l → processes_in m.items ≡ minus (processes_in l.items) (p ∷ []) → vec_capacity l ≤ vec_capacity m → IsWorking s m
  one_rests s p l m e h names room = subst {A = Plain} (λ z. IsWorking z m) (sym e) (record { all = names ∙ ap (λ k. minus k (p ∷ [])) h.all ∙ sym less; room = let k = h.room in omega (arith, k, room) })
    where
      without : (a x y v : Bool) → (a && (not (x || y) && v)) ≡ (not (x || false) && (a && (not y && v)))
      without true true y v = refl
      without false true y v = refl
      without a false y v = refl

      less : working b (add p b.asleep) ≡ minus (working b b.asleep) (p ∷ [])
      less = same_names (working b (add p b.asleep)) (minus (working b b.asleep) (p ∷ [])) (working_ordered b alive (add p b.asleep)) (ordered-filter (λ q. not (has (p ∷ []) q)) (working b b.asleep) (working_ordered b alive b.asleep))
          (λ q. in_working b (add p b.asleep) q ∙ ap (λ x. is_active b q && (not x && has b.living q)) (has-add p b.asleep q) ∙ without (is_active b q) (name_eq q p) (has b.asleep q) (has b.living q)
          ∙ sym (has-minus (working b b.asleep) (p ∷ []) q ∙ ap (λ x. not (name_eq q p || false) && x) (in_working b b.asleep q)))

  -- with one who wakes
  pub one_wakes : IsLabel b b.asleep → (s : Plain) (p : Name) (l m : Vec Placed Global) → least (process_cmp b) (waiting b b.asleep) ≡ Some p → s ≡ record b { asleep = minus b.asleep (p ∷ []) } → IsWorking b l
      → processes_in m.items ≡ add p (processes_in l.items) → vec_capacity l ≤ vec_capacity m → IsWorking s m
  one_wakes label s p l m first e h names room = subst {A = Plain} (λ z. IsWorking z m) (sym e) (record { all = names ∙ ap (add p) h.all ∙ sym more; room = let k = h.room in omega (arith, k, room) })
    where
      waits : (is_active b p && has b.asleep p) ≡ true
      waits = sym (in_waiting b b.asleep p) ∙ has_in (waiting b b.asleep) p (least-in (process_cmp b) (waiting b b.asleep) p first)

      at : (q : Name) (x : Bool) → name_eq q p ≡ x → (is_active b q && (not (not (x || false) && has b.asleep q) && has b.living q)) ≡ (x || (is_active b q && (not (has b.asleep q) && has b.living q)))
      at q true k = subst {A = Name} (λ z. (is_active b z && (true && has b.living z)) ≡ true) (sym (name_eq-eq q p k)) (and_from (is_active b p) (has b.living p) (and_gives_left (is_active b p) (has b.asleep p) waits) (label.living p (and_gives_right (is_active b p) (has b.asleep p) waits)))
      at q false k = refl

      more : working b (minus b.asleep (p ∷ [])) ≡ add p (working b b.asleep)
      more = same_names (working b (minus b.asleep (p ∷ []))) (add p (working b b.asleep)) (working_ordered b alive (minus b.asleep (p ∷ []))) (ordered-add p (working b b.asleep) (working_ordered b alive b.asleep))
          (λ q. in_working b (minus b.asleep (p ∷ [])) q ∙ ap (λ x. is_active b q && (not x && has b.living q)) (has-minus b.asleep (p ∷ []) q) ∙ at q (name_eq q p) refl
          ∙ sym (has-add p (working b b.asleep) q ∙ ap (λ x. name_eq q p || x) (in_working b b.asleep q)))

-- ---- the whole

pub settles : (b s t : Plain) → s ≡ record b { asleep = rested b } → t ≡ record s { asleep = iterate (with_one_awake s) (most_awake - length (working s s.asleep)) s.asleep } → t ≡ settle b
settles b s t e f =
    f ∙ ap (λ (z : Plain). record z { asleep = iterate (with_one_awake z) (most_awake - length (working z z.asleep)) z.asleep }) e
    ∙ (λ i. record b { asleep = iterate (λ l. awake_at b (rested b) l i) (most_awake - length (working b (rested b))) (rested b) })

pub differs_rested : (b s : Plain) → s ≡ record b { asleep = rested b } → DiffersInSleepers b s
differs_rested b s e = e ∙ sym (ap (λ l. record b { asleep = l }) (ap (λ (z : Plain). z.asleep) e))

pub rested_label : (b s : Plain) → s ≡ record b { asleep = rested b } → IsInNameOrder b.living → IsLabel b b.asleep → IsLabel s s.asleep
rested_label b s e alive h =
    let k = label_rested b alive (record { ordered = h.ordered; lives = h.living }) in
    subst {A = Plain} (λ z. IsLabel z z.asleep) (sym e) (record { ordered = k.ordered; living = k.lives })

-- ---- the processes one after another

pub filter_at : (t : Name → Bool) (l : List Name) (n : ℕ) (p : Name) (x : Bool) → n < length l → p ≡ get_or l n p → t p ≡ x → filter t (drop n l) ≡ cond x (p ∷ filter t (drop (n + 1) l)) (filter t (drop (n + 1) l))
filter_at t l n p x h e k = ap (filter t) (drop_at l n p p h e) ∙ ap (λ y. cond y (p ∷ filter t (drop (n + 1) l)) (filter t (drop (n + 1) l))) k

-- ---- the least and the greatest

pub process_cmp-total : (b : Plain) → IsTotalOrder (process_cmp b)
process_cmp-total b = then_total (on_total (cost b) nat_cmp_total) name_cmp-total

-- the order turned round
abbrev pub turned_cmp : Plain → Name → Name → Ordering
turned_cmp b p q = process_cmp b q p

pub turned_cmp-total : (b : Plain) → IsTotalOrder (turned_cmp b)
turned_cmp-total b =
    let o = process_cmp-total b in
    record {
      antisymm = λ p q. o.antisymm q p;
      trans = λ p q r h k. o.trans r q p k h;
      congr = λ p q r h. sym (alike_right o q p r h);
    }

-- the cost that is kept beside the process is its own
abbrev pub IsPriced : Plain → Costed → Type 0
IsPriced b c = c.cost ≡ cost b c.process.now

abbrev pub process_in : Option Costed → Option Name
process_in o = option_map (λ (c : Costed). c.process.now) o

-- the best so far and those left give the same after one more
pub record IsStep (b : Plain) (R : Name → Name → Ordering) (left others : List Name) (best new : Option Costed) : Type 0 where
  pub pick : merged R (process_in new) (least R others) ≡ merged R (process_in best) (least R left)
  pub priced : IfSome new (IsPriced b)

pub passed : (b : Plain) (R : Name → Name → Ordering) (left others : List Name) → left ≡ others → (best new : Option Costed) → IfSome best (IsPriced b) → new ≡ best → IsStep b R left others best new
passed b R left others e best new priced same = subst {A = Option Costed} (IsStep b R left others best) (sym same) (record { pick = sym (ap (λ (ps : List Name). merged R (process_in best) (least R ps)) e); priced = priced })

module _ (b : Plain) (order : Costed → Costed → Ordering) (R : Name → Name → Ordering) (agrees : (c d : Costed) → IsPriced b c → IsPriced b d → order c d ≡ R c.process.now d.process.now) where
  -- the better of the best so far and the next one
  better : (best : Option Costed) (next r : Costed) → IfSome best (IsPriced b) → IsPriced b next → Some r ≡ merged order best (Some next)
      → (Some r.process.now ≡ merged R (process_in best) (Some next.process.now)) × IsPriced b r
  better None next r k h e = (ap process_in e, subst {A = Costed} (IsPriced b) (sym (some_is e)) h)
  better (Some c) next r k h e = go (is_le (order c next)) refl
    where
      by : (x : Bool) → Some r ≡ Some (cond x c next) → is_le (R c.process.now next.process.now) ≡ x → (Some r.process.now ≡ merged R (Some c.process.now) (Some next.process.now)) × IsPriced b r
      by true f g = (ap process_in f ∙ sym (ap (λ y. Some (cond y c.process.now next.process.now)) g), subst {A = Costed} (IsPriced b) (sym (some_is f)) k)
      by false f g = (ap process_in f ∙ sym (ap (λ y. Some (cond y c.process.now next.process.now)) g), subst {A = Costed} (IsPriced b) (sym (some_is f)) h)

      go : (x : Bool) → is_le (order c next) ≡ x → (Some r.process.now ≡ merged R (Some c.process.now) (Some next.process.now)) × IsPriced b r
      go x f = by x (e ∙ ap (λ y. Some (cond y c next)) f) (sym (ap is_le (agrees c next k h)) ∙ f)

  taken : IsTotalOrder R → (p : Name) (left others : List Name) → left ≡ p ∷ others → (best new : Option Costed) (next r : Costed) → IfSome best (IsPriced b)
      → next.cost ≡ cost b p → next.process.now ≡ p → Some r ≡ merged order best (Some next) → new ≡ Some r → IsStep b R left others best new
  taken o p left others there best new next r priced costs named e same =
      let m = better best next r priced (costs ∙ ap (cost b) (sym named)) e in
      subst {A = Option Costed} (IsStep b R left others best) (sym same) (record {
        pick =
            ap (λ z. merged R z (least R others)) m.0
            ∙ merged_both R o (process_in best) (Some next.process.now) (least R others)
            ∙ ap (λ (q : Name). merged R (process_in best) (least R (q ∷ others))) named
            ∙ sym (ap (λ (ps : List Name). merged R (process_in best) (least R ps)) there);
        priced = m.1;
      })

pub costed_agrees : (b : Plain) (c d : Costed) → IsPriced b c → IsPriced b d → costed_cmp c d ≡ process_cmp b c.process.now d.process.now
costed_agrees b c d h k = ap (λ n. ordering_then (nat_cmp n d.cost) (name_cmp c.process.now d.process.now)) h ∙ ap (λ n. ordering_then (nat_cmp (cost b c.process.now) n) (name_cmp c.process.now d.process.now)) k

pub lesser_taken : (b : Plain) (p : Name) (left others : List Name) → left ≡ p ∷ others → (best new : Option Costed) (next r : Costed) → IfSome best (IsPriced b)
    → next.cost ≡ cost b p → next.process.now ≡ p → Some r ≡ merged costed_cmp best (Some next) → new ≡ Some r → IsStep b (process_cmp b) left others best new
lesser_taken b = taken b costed_cmp (process_cmp b) (costed_agrees b) (process_cmp-total b)

pub greater_taken : (b : Plain) (p : Name) (left others : List Name) → left ≡ p ∷ others → (best new : Option Costed) (next r : Costed) → IfSome best (IsPriced b)
    → next.cost ≡ cost b p → next.process.now ≡ p → Some r ≡ merged (λ c d. costed_cmp d c) best (Some next) → new ≡ Some r → IsStep b (turned_cmp b) left others best new
greater_taken b = taken b (λ c d. costed_cmp d c) (turned_cmp b) (λ c d h k. costed_agrees b d c k h) (turned_cmp-total b)
