-- The places of the living names after a fork: the parent's place is taken out, and those of its children are put in.
use Rattle.std.proofs.Common.{◌≡◌, ℕ, ◌<◌, ◌≤◌, List, [], ◌∷◌, length, Bool, true, false, ◌||◌, ◌&&◌, not, get_or, map, cond, zero, suc, refl, sym, ap, ap₂, subst, ◌∙◌, arith, length-append}
use Rattle.std.specs.List.{insert, remove}
use Rattle.std.proofs.lemmas.List.{get_or-map}
use Rattle.std.proofs.lemmas.List.Edits.{length-remove, get_or-remove_below}
use mathlib.Core.Bool.{true≢false}
use Rattle.std.specs.Cmp.{tied_itself, nat_cmp_total}
use Rattle.std.specs.Ordering.{is_eq, nat_cmp, ordering_then}
use Rattle.std.specs.declared.cmp.Ordering.TheVariants.{Less, Equal, Greater}
use Rattle.std.proofs.Math.Bool.{or-true}
use Rattle.kb_label.specs.Names.{Name, child, bits_cmp, name_cmp, name_eq, has, minus, relabel, IsInNameOrder}
use Rattle.kb_label.specs.NameOrder.{name_cmp-same, name_eq-by_cmp}
use Rattle.kb_label.proofs.Members.{name_eq-refl, name_eq-eq, has-minus}
use Rattle.kb_label.proofs.Ordered.{turned_back, rest, skip, before-absent, ordered-filter}
use Rattle.kb_label.proofs.Sets.{same_names, has-relabel}
use Rattle.kb_label.proofs.Forked.{leaves-forked, length-relabel}
use Rattle.fork_labels.specs.Places.{names_of, living_of, IsLog, place_in, forked}
use Rattle.fork_labels.proofs.Picked.{sorted}
use Rattle.fork_labels.proofs.Logs.{fork_living}
use Rattle.fork_labels.proofs.Relabelled.{good-log}
use Rattle.fork_labels.proofs.PlaceOf.{absent_child, first_place, second_place, kept_place}

-- ---- lists

insert-removed : {X : Type 0} (xs : List X) (k : ℕ) (x : X) → k < length xs → get_or xs k x ≡ x → insert (remove xs k) k x ≡ xs
insert-removed [] k x h e = absurd (omega arith)
insert-removed (y ∷ xs) zero x h e = ap (λ z. z ∷ xs) (sym e)
insert-removed (y ∷ xs) (suc k) x h e = ap (λ zs. y ∷ zs) (insert-removed xs k x (omega arith) e)

map-insert : {X Y : Type 0} (f : X → Y) (xs : List X) (k : ℕ) (x : X) → map f (insert xs k x) ≡ insert (map f xs) k (f x)
map-insert f [] zero x = refl
map-insert f [] (suc k) x = refl
map-insert f (y ∷ xs) zero x = refl
map-insert f (y ∷ xs) (suc k) x = ap (λ zs. f y ∷ zs) (map-insert f xs k x)

map-remove : {X Y : Type 0} (f : X → Y) (xs : List X) (k : ℕ) → map f (remove xs k) ≡ remove (map f xs) k
map-remove f [] zero = refl
map-remove f [] (suc k) = refl
map-remove f (y ∷ xs) zero = refl
map-remove f (y ∷ xs) (suc k) = ap (λ zs. f y ∷ zs) (map-remove f xs k)

-- two maps that agree on the names of a list
map_agree : (f g : Name → ℕ) (l : List Name) → ((q : Name) → has l q ≡ true → f q ≡ g q) → map f l ≡ map g l
map_agree f g [] h = refl
map_agree f g (p ∷ l) h = ap₂ ◌∷◌ (h p (ap (λ b. b || has l p) (name_eq-refl p))) (map_agree f g l (λ q k. h q (ap (λ b. name_eq q p || b) k ∙ or-true (name_eq q p))))

-- ---- names in their order

after_first : (p : Name) (l : List Name) (k : ℕ) (d : Name) → IsInNameOrder (p ∷ l) → k < length l → name_cmp p (get_or l k d) ≡ Less
after_first p [] k d o h = absurd (omega arith)
after_first p (q ∷ l) zero d o h = o.0
after_first p (q ∷ l) (suc k) d o h = after_first p l k d (skip p q l o) (omega arith)

-- what comes first in the order stands first
index_below : (l : List Name) (a b : Name) (i k : ℕ) → IsInNameOrder l → i < length l → k < length l → get_or l i a ≡ a → get_or l k b ≡ b → name_cmp a b ≡ Less → i < k
index_below [] a b i k o h g e f c = absurd (omega arith)
index_below (p ∷ l) a b zero zero o h g e f c = absurd (differ (sym (name_cmp-same p) ∙ ap₂ name_cmp e f ∙ c))
  where
    differ : Equal ≡ Less → ⊥
    differ e = absurd (cc)
index_below (p ∷ l) a b zero (suc k) o h g e f c = omega arith
index_below (p ∷ l) a b (suc i) zero o h g e f c = absurd (differ (sym (turned_back b a (ap₂ name_cmp (sym f) (sym e) ∙ after_first p l i a o (omega arith))) ∙ c))
  where
    differ : Greater ≡ Less → ⊥
    differ e = absurd (cc)
index_below (p ∷ l) a b (suc i) (suc k) o h g e f c = let w = index_below l a b i k (rest p l o) (omega arith) (omega arith) e f c in omega (arith, w)

minus-absent : (l : List Name) (c : Name) → IsInNameOrder l → has l c ≡ false → minus l (c ∷ []) ≡ l
minus-absent l c o h =
    same_names (minus l (c ∷ [])) l (ordered-filter (λ r. not (has (c ∷ []) r)) l o) o
    (λ q. has-minus l (c ∷ []) q ∙ go (name_eq q c) (has l q) (λ e. ap (has l) (name_eq-eq q c e) ∙ h))
  where
    go : (e x : Bool) → (e ≡ true → x ≡ false) → (not (e || false) && x) ≡ x
    go true x h = sym (h refl)
    go false x h = refl

-- a name is taken out at its index
removed : (l : List Name) (k : ℕ) (c : Name) → IsInNameOrder l → k < length l → get_or l k c ≡ c → remove l k ≡ minus l (c ∷ [])
removed [] k c o h e = absurd (omega arith)
removed (q ∷ l) zero c o h e =
    sym (minus-absent l c (rest q l o) (ap (has l) (sym e) ∙ before-absent q l o))
    ∙ ap (λ b. cond (not (b || false)) (q ∷ minus l (c ∷ [])) (minus l (c ∷ []))) (sym (ap (name_eq q) (sym e) ∙ name_eq-refl q))
removed (q ∷ l) (suc k) c o h e =
    ap (λ m. q ∷ m) (removed l k c (rest q l o) (omega arith) e)
    ∙ ap (λ b. cond (not (b || false)) (q ∷ minus l (c ∷ [])) (minus l (c ∷ []))) (sym (name_eq-by_cmp q c ∙ ap is_eq (ap (name_cmp q) (sym e) ∙ after_first q l k c o (omega arith))))

-- the first child comes before the second
children_bits : (p : Name) → bits_cmp (child p false) (child p true) ≡ Less
children_bits [] = refl
children_bits (true ∷ p) = children_bits p
children_bits (false ∷ p) = children_bits p

children_order : (p : Name) → name_cmp (child p false) (child p true) ≡ Less
children_order p =
    let long : length (child p false) ≡ length (child p true) = length-append p (false ∷ []) ∙ sym (length-append p (true ∷ [])) in
    ap (λ n. ordering_then (nat_cmp n (length (child p true))) (bits_cmp (child p false) (child p true))) long
    ∙ ap₂ ordering_then (tied_itself nat_cmp_total (length (child p true))) (children_bits p)

-- ---- a fork

module _ (fs : List ℕ) (p : Name) (l : IsLog fs) (h : has (living_of fs) p ≡ true) where
  pub in_order : IsInNameOrder (relabel p (living_of fs))
  in_order = subst IsInNameOrder (fork_living fs p l h (forked fs p) refl) (sorted (names_of (forked fs p)))

  pub length-after : length (relabel p (living_of fs)) ≡ suc (length (living_of fs))
  length-after = length-relabel p (living_of fs) h (leaves-forked (living_of fs) (good-log fs l).forked)

  pub has-child : (b : Bool) → has (relabel p (living_of fs)) (child p b) ≡ true
  has-child false = has-relabel p (child p false) (living_of fs) h ∙ ap (λ b. b || (name_eq (child p false) (child p true) || (not (name_eq (child p false) p) && has (living_of fs) (child p false)))) (name_eq-refl (child p false))
  has-child true =
      has-relabel p (child p true) (living_of fs) h
      ∙ ap (λ b. name_eq (child p true) (child p false) || (b || (not (name_eq (child p true) p) && has (living_of fs) (child p true)))) (name_eq-refl (child p true))
      ∙ or-true (name_eq (child p true) (child p false))

  -- without its children the names are those that lived beside the parent
  others : minus (minus (relabel p (living_of fs)) (child p true ∷ [])) (child p false ∷ []) ≡ minus (living_of fs) (p ∷ [])
  others =
      let more = relabel p (living_of fs) in
      let one = minus more (child p true ∷ []) in
      same_names (minus one (child p false ∷ [])) (minus (living_of fs) (p ∷ []))
      (ordered-filter (λ r. not (has (child p false ∷ []) r)) one (ordered-filter (λ r. not (has (child p true ∷ []) r)) more in_order))
      (ordered-filter (λ r. not (has (p ∷ []) r)) (living_of fs) (sorted (names_of fs)))
      (λ q.
      has-minus one (child p false ∷ []) q
      ∙ ap (λ b. not (name_eq q (child p false) || false) && b) (has-minus more (child p true ∷ []) q ∙ ap (λ b. not (name_eq q (child p true) || false) && b) (has-relabel p q (living_of fs) h))
      ∙ go (name_eq q (child p false)) (name_eq q (child p true)) (name_eq q p) (has (living_of fs) q) (absent q false) (absent q true)
      ∙ sym (has-minus (living_of fs) (p ∷ []) q))
    where
      absent : (q : Name) (b : Bool) → name_eq q (child p b) ≡ true → has (living_of fs) q ≡ false
      absent q b e = ap (has (living_of fs)) (name_eq-eq q (child p b) e) ∙ absent_child fs p l h b

      out : (e : Bool) → false ≡ (not (e || false) && false)
      out true = refl
      out false = refl

      go : (a b e x : Bool) → (a ≡ true → x ≡ false) → (b ≡ true → x ≡ false) → (not (a || false) && (not (b || false) && (a || (b || (not e && x))))) ≡ (not (e || false) && x)
      go true b e x f g = rw (f refl) (out e)
      go false true e x f g = rw (g refl) (out e)
      go false false true x f g = refl
      go false false false x f g = refl

  kept : map (place_in (names_of (forked fs p))) (minus (living_of fs) (p ∷ [])) ≡ map (place_in (names_of fs)) (minus (living_of fs) (p ∷ []))
  kept =
      map_agree (place_in (names_of (forked fs p))) (place_in (names_of fs)) (minus (living_of fs) (p ∷ []))
      (λ q k. let w = both (name_eq q p) (has (living_of fs) q) (sym (has-minus (living_of fs) (p ∷ []) q) ∙ k) in kept_place fs p l h q w.1 w.0)
    where
      both : (e x : Bool) → (not (e || false) && x) ≡ true → (e ≡ false) × (x ≡ true)
      both true x k = absurd (true≢false (sym k))
      both false x k = (refl, k)

  module _ (living names : List Name) (q r : Name) (i k m : ℕ) (v : living ≡ living_of fs) (n : names ≡ relabel p (living_of fs)) (is_first : q ≡ child p false) (is_second : r ≡ child p true) (parent : i < length living) (parent_is : get_or living i p ≡ p) (first : k < length names) (first_is : get_or names k q ≡ q) (second : m < length names) (second_is : get_or names m r ≡ r) where
    ordered : IsInNameOrder names
    ordered = subst IsInNameOrder (sym n) in_order

    lived : i < length (living_of fs)
    lived = subst (λ (u : List Name). i < length u) v parent

    at_parent : get_or (living_of fs) i p ≡ p
    at_parent = subst (λ (u : List Name). get_or u i p ≡ p) v parent_is

    at_first : get_or names k (child p false) ≡ child p false
    at_first = subst (λ (u : Name). get_or names k u ≡ u) is_first first_is

    at_second : get_or names m (child p true) ≡ child p true
    at_second = subst (λ (u : Name). get_or names m u ≡ u) is_second second_is

    first_below : k < m
    first_below = index_below names (child p false) (child p true) k m ordered first second at_first at_second (children_order p)

    without : remove names m ≡ minus names (child p true ∷ [])
    without = removed names m (child p true) ordered second at_second

    at_first_left : get_or (remove names m) k (child p false) ≡ child p false
    at_first_left = get_or-remove_below names m (child p false) k first_below second ∙ at_first

    first_left : k < length (remove names m)
    first_left = omega (arith, first_below, second, length-remove names m second)

    left : remove (remove names m) k ≡ minus (living_of fs) (p ∷ [])
    left =
        removed (remove names m) k (child p false) (subst IsInNameOrder (sym without) (ordered-filter (λ r. not (has (child p true ∷ []) r)) names ordered)) first_left at_first_left
        ∙ ap (λ (r : List Name). minus r (child p false ∷ [])) (without ∙ ap (λ (r : List Name). minus r (child p true ∷ [])) n)
        ∙ others

    built : insert (insert (minus (living_of fs) (p ∷ [])) k (child p false)) m (child p true) ≡ names
    built =
        ap (λ (r : List Name). insert r m (child p true)) (ap (λ (r : List Name). insert r k (child p false)) (sym left) ∙ insert-removed (remove names m) k (child p false) first_left at_first_left)
        ∙ insert-removed names m (child p true) second at_second

    pub first_fits : k < length living
    first_fits = omega (arith, first_below, second, ap length n, length-after, ap length v)

    pub second_fits : m ≤ length living
    second_fits = omega (arith, second, ap length n, length-after, ap length v)

    pub fork_places : (places : List ℕ) (s t : ℕ) → places ≡ map (place_in (names_of fs)) (living_of fs) → s ≡ get_or places i s → t ≡ length (living_of fs)
        → insert (insert (remove places i) k s) m t ≡ map (place_in (names_of (forked fs p))) names
    fork_places places s t e f g =
        let after = place_in (names_of (forked fs p)) in
        let beside = minus (living_of fs) (p ∷ []) in
        let place : s ≡ place_in (names_of fs) p = f ∙ ap (λ (u : List ℕ). get_or u i s) e ∙ get_or-map (place_in (names_of fs)) (living_of fs) i p s lived ∙ ap (place_in (names_of fs)) at_parent in
        ap (λ (u : List ℕ). insert (insert (remove u i) k s) m t) e
        ∙ ap (λ (u : List ℕ). insert (insert u k s) m t) (sym (map-remove (place_in (names_of fs)) (living_of fs) i) ∙ ap (map (place_in (names_of fs))) (removed (living_of fs) i p (sorted (names_of fs)) lived at_parent) ∙ sym kept)
        ∙ ap₂ (λ a b. insert (insert (map after beside) k a) m b) (place ∙ sym (first_place fs p l h)) (g ∙ sym (second_place fs p l h))
        ∙ ap (λ (u : List ℕ). insert u m (after (child p true))) (sym (map-insert after beside k (child p false)))
        ∙ sym (map-insert after (insert beside k (child p false)) m (child p true))
        ∙ ap (map after) built
