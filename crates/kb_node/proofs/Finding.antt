-- A pair is looked up by the cells of its sides.
use Rattle.std.proofs.Common.{◌≡◌, ℕ, suc, zero, ◌+◌, ◌<◌, ◌≤◌, ◌⊎◌, inl, inr, Bool, true, false, cond, List, [], ◌∷◌, ◌++◌, length, take, get_or, Some, None, Option, refl, sym, ap, ap₂, subst, ◌∙◌, arith, ⊎_elim}
use Rattle.std.specs.Prelude.{not, ◌&&◌, ◌==◌, nat_lt, position, slice_get, option_map}
use Rattle.std.specs.List.{position_or_len}
use Rattle.std.proofs.lemmas.Bool.Decides.{nat_tests}
use Rattle.std.proofs.lemmas.List.{take-map}
use Rattle.std.proofs.lemmas.List.Quantifiers.{position-Some}
use Rattle.std.proofs.lemmas.List.Folds.{list_any_none}
use Rattle.std.proofs.lemmas.Option.{slice_get-get_or, slice_get_read, slice_get_within, get_or_from_slice_get, same_Some}
use mathlib.Core.Bool.{true≢false}
use Rattle.indexmap.specs.IndexSet.{insert_key}
use Rattle.std.specs.Ordering.{is_eq}
use Rattle.kb_term.specs.Tree.{Tree, variable, tree_cmp, tree_size}
use Rattle.kb_term.specs.TermOrder.{pair_eq, tree_cmp-equal, pair_cmp-total}
use Rattle.std.specs.Cmp.{tied_itself}
use Rattle.std.proofs.lemmas.Bool.{false_from_ne_true, eqb-true, and_parts}
use Rattle.kb_lemmas.proofs.Booleans.{then_equal, is_equal}
use Rattle.kb_lemmas.proofs.Numbers.{eq_itself}
use Rattle.kb_term.specs.Pair.{Pair, pair_cmp}
use Rattle.term_bank.specs.Terms.{term_at}
use Rattle.term_bank.proofs.Missing.{IsFront}
use Rattle.kb_node.specs.Banked.{AreSides, LacksSide, IsBanked, sides_eq}
use Rattle.kb_node.specs.Labelled.{Node, pairs_of, HasPair, LacksPair, AreDistinct}
use Rattle.kb_node.specs.declared.sides.Sides.{Sides}
use Rattle.kb_node.proofs.Pairs.{pair_get, pair_read, pairs-length}
use Rattle.kb_node.proofs.Banking.{sides_at, sides-front, distinct, start_low, banked-take}

-- ---- tests of pairs and sides

pub pair_eq-same : (d e : Pair) → pair_eq d e ≡ true → d ≡ e
pair_eq-same d e h =
    let both = then_equal (tree_cmp d.first e.first) (tree_cmp d.second e.second) (is_equal (pair_cmp d e) h) in
    λ i. record { first = tree_cmp-equal d.first e.first both.0 i; second = tree_cmp-equal d.second e.second both.1 i }

pub pair_eq-refl : (d : Pair) → pair_eq d d ≡ true
pair_eq-refl d = ap is_eq (tied_itself pair_cmp-total d)

sides_eq-same : (s t : Sides) → sides_eq s t ≡ true → s ≡ t
sides_eq-same s t h =
    let both = and_parts (s.first.0 == t.first.0) (s.second.0 == t.second.0) h in
    λ i. record { first = record { 0 = eqb-true s.first.0 t.first.0 both.0 i }; second = record { 0 = eqb-true s.second.0 t.second.0 both.1 i } }

-- ---- where no key is found

less_after : {X : Type 0} (p : X → Bool) (xs : List X) → nat_lt (1 + position_or_len p xs) (suc (length xs)) ≡ false → nat_lt (position_or_len p xs) (length xs) ≡ false
less_after p xs g = grind (arith, nat_tests)

all_fail : {X : Type 0} (p : X → Bool) (xs : List X) → nat_lt (position_or_len p xs) (length xs) ≡ false → (i : ℕ) (d : X) → i < length xs → p (get_or xs i d) ≡ false
all_fail p [] h i d w = absurd (omega arith)
all_fail p (x ∷ xs) h i d w = go (p x) refl h i w (λ g j v. all_fail p xs g j d v)
  where
    go : (b : Bool) → p x ≡ b → nat_lt (cond (not b) (1 + position_or_len p xs) 0) (suc (length xs)) ≡ false → (i : ℕ) → i < suc (length xs)
        → (nat_lt (position_or_len p xs) (length xs) ≡ false → (i : ℕ) → i < length xs → p (get_or xs i d) ≡ false) → p (get_or (x ∷ xs) i d) ≡ false
    go true e g i u ih = absurd (grind (arith, nat_tests))
    go false e g zero u ih = e
    go false e g (suc i) u ih = ih (less_after p xs g) i (omega arith)

pub position-None : {X : Type 0} (p : X → Bool) (xs : List X) → position p xs ≡ None → (i : ℕ) (d : X) → i < length xs → p (get_or xs i d) ≡ false
position-None p xs h = all_fail p xs (go (nat_lt (position_or_len p xs) (length xs)) h)
  where
    go : (b : Bool) → cond b (Some (position_or_len p xs)) None ≡ None → b ≡ false
    go true e = absurd (cc)
    go false e = refl

-- less, equal or greater
pub compared : (m n : ℕ) → (m < n) ⊎ ((m ≡ n) ⊎ (n < m))
compared m n = go (nat_lt m n) refl (nat_lt n m) refl
  where
    go : (b : Bool) → nat_lt m n ≡ b → (d : Bool) → nat_lt n m ≡ d → (m < n) ⊎ ((m ≡ n) ⊎ (n < m))
    go true e d g = inl (grind (arith, nat_tests))
    go false e true g = inr (inr (grind (arith, nat_tests)))
    go false e false g = inr (inl (grind (arith, nat_tests)))

-- ---- the nodes of a table

abbrev pub no_sides : Sides
no_sides = record { first = record { 0 = 0 }; second = record { 0 = 0 } }

no_pair : Pair
no_pair = record { first = variable 0; second = variable 0 }

-- cells have the sides of one pair
one_pair : (terms : List Tree) (s : Sides) (d e : Pair) → AreSides terms s d → AreSides terms s e → d ≡ e
one_pair terms s d e g h =
    λ i. record { first = same_Some d.first e.first (sym g.first ∙ h.first) i; second = same_Some d.second e.second (sym g.second ∙ h.second) i }

module _ {L : Type 0} (terms : List Tree) (sides : List Sides) (starts : List ℕ) (nodes : List (Node L)) (f : IsBanked terms sides starts (pairs_of nodes)) where
  pub distinct_nodes : AreDistinct nodes
  distinct_nodes i j d h k e = f.one_pair i j (get_or nodes i d).pair h (pair_read nodes i d (omega arith)) (pair_read nodes j d k ∙ ap Some (sym e))

  -- the sides of a node are there
  pub key_at : (i : ℕ) (e : Pair) → slice_get (pairs_of nodes) i ≡ Some e → slice_get sides i ≡ Some (get_or sides i no_sides)
  key_at i e g = slice_get-get_or sides i no_sides (omega (arith, slice_get_within (pairs_of nodes) i e g, f.side_count))

  pub key_sides : (i : ℕ) (e : Pair) → slice_get (pairs_of nodes) i ≡ Some e → AreSides terms (get_or sides i no_sides) e
  key_sides i e g = sides_at terms sides starts (pairs_of nodes) f i (get_or sides i no_sides) e (key_at i e g) g

  -- ---- the sizes of a node

  pub pair_of_node : (n : ℕ) → n < length nodes → (e : Pair) × (slice_get (pairs_of nodes) n ≡ Some e)
  pair_of_node n l = (get_or (pairs_of nodes) n no_pair, slice_get-get_or (pairs_of nodes) n no_pair (omega (arith, pairs-length nodes)))

  pub cells_there : (n : ℕ) → n < length nodes → ((get_or sides n no_sides).first.0 < length terms) × ((get_or sides n no_sides).second.0 < length terms)
  cells_there n l =
      let e = pair_of_node n l in
      let has = key_sides n e.0 e.1 in
      (slice_get_within terms (get_or sides n no_sides).first.0 e.0.first has.first, slice_get_within terms (get_or sides n no_sides).second.0 e.0.second has.second)

  module _ (n first second : ℕ) (l : n < length nodes) (g : first ≡ tree_size (term_at terms (get_or sides n no_sides).first.0)) (h : second ≡ tree_size (term_at terms (get_or sides n no_sides).second.0)) where
    both : (first ≡ tree_size (pair_of_node n l).0.first) × (second ≡ tree_size (pair_of_node n l).0.second)
    both =
        let e = pair_of_node n l in
        let has = key_sides n e.0 e.1 in (
          g ∙ ap tree_size (get_or_from_slice_get terms (get_or sides n no_sides).first.0 e.0.first (variable 0) has.first),
          h ∙ ap tree_size (get_or_from_slice_get terms (get_or sides n no_sides).second.0 e.0.second (variable 0) has.second),
        )

    pub sizes_most : first + second ≤ 1024
    sizes_most =
        let e = pair_of_node n l in
        let within = f.within n e.0 e.1 in
        omega (arith, both.0, both.1, within.0.size, within.1.size)

    pub sizes_are : option_map (λ (node : Node L). tree_size node.pair.first + tree_size node.pair.second) (slice_get nodes n) ≡ Some (first + second)
    sizes_are =
        let e = pair_of_node n l in
        go (slice_get nodes n) (pair_get nodes n e.0 e.1) ∙ ap₂ (λ j k. Some (j + k)) (sym both.0) (sym both.1)
      where
        go : (o : Option (Node L)) → option_map (λ (node : Node L). node.pair) o ≡ Some (pair_of_node n l).0
            → option_map (λ (node : Node L). tree_size node.pair.first + tree_size node.pair.second) o ≡ Some (tree_size (pair_of_node n l).0.first + tree_size (pair_of_node n l).0.second)
        go None e = absurd (cc)
        go (Some node) e = ap (λ (d : Pair). Some (tree_size d.first + tree_size d.second)) (same_Some node.pair (pair_of_node n l).0 e)

  -- ---- the first nodes alone

  pub start_at : (n start : ℕ) → n < length nodes → start ≡ get_or starts n start → slice_get starts n ≡ Some start
  start_at n start l is = slice_get_read starts (length starts) n start refl (omega (arith, f.start_count, pairs-length nodes)) is

  pub cut_low : (n start : ℕ) → n < length nodes → start ≡ get_or starts n start → start ≤ length terms
  cut_low n start l is = start_low terms sides starts (pairs_of nodes) f n start (start_at n start l is)

  pub first_nodes : (n start : ℕ) → n < length nodes → start ≡ get_or starts n start → IsBanked (take start terms) (take n sides) (take n starts) (pairs_of (take n nodes))
  first_nodes n start l is =
      subst (IsBanked (take start terms) (take n sides) (take n starts)) (take-map (λ (node : Node L). node.pair) n nodes)
      (banked-take terms sides starts (pairs_of nodes) f n start (omega (arith, pairs-length nodes)) (start_at n start l is))

  -- ---- the search

  module _ (pair : Pair) where
    lacks_if : ((i : ℕ) → slice_get (pairs_of nodes) i ≡ Some pair → ⊥) → LacksPair nodes pair
    lacks_if h i d l e = h i (pair_read nodes i d l ∙ ap Some e)

    pub lacks_side : LacksSide terms pair → LacksPair nodes pair
    lacks_side = ⊎_elim
        (λ l. lacks_if (λ i g. l (get_or sides i no_sides).first.0 (key_sides i pair g).first))
        (λ l. lacks_if (λ i g. l (get_or sides i no_sides).second.0 (key_sides i pair g).second))

    module _ (s : Sides) (has : AreSides terms s pair) where
      pub found : (n : ℕ) → Some n ≡ position (sides_eq s) sides → HasPair nodes n pair
      found n h =
          let at = position-Some (sides_eq s) sides n no_sides (sym h) in
          let same = sides_eq-same s (get_or sides n no_sides) at.1 in
          let there : slice_get (pairs_of nodes) n ≡ Some (get_or (pairs_of nodes) n pair) = slice_get-get_or (pairs_of nodes) n pair (omega (arith, at.0, f.side_count)) in
          let is = one_pair terms (get_or sides n no_sides) (get_or (pairs_of nodes) n pair) pair (key_sides n (get_or (pairs_of nodes) n pair) there) (subst (λ t. AreSides terms t pair) same has) in
          pair_get nodes n pair (there ∙ ap Some is)

      pub lacks_none : None ≡ position (sides_eq s) sides → LacksPair nodes pair
      lacks_none h = lacks_if (λ i g.
          let t = get_or sides i no_sides in
          let k = key_sides i pair g in
          let apart = distinct terms sides starts (pairs_of nodes) f in
          let first = apart s.first.0 t.first.0 pair.first has.first k.first in
          let second = apart s.second.0 t.second.0 pair.second has.second k.second in
          let differs = position-None (sides_eq s) sides (sym h) i no_sides (slice_get_within sides i t (key_at i pair g)) in
          true≢false (sym (ap₂ ◌&&◌ (ap (λ n. s.first.0 == n) (sym first) ∙ eq_itself s.first.0) (ap (λ n. s.second.0 == n) (sym second) ∙ eq_itself s.second.0)) ∙ differs))

    -- the sides of a pair that no node has are a new key
    pub new_key : (s : Sides) (new : List Tree) → IsFront terms new → AreSides new s pair → ((i : ℕ) → slice_get (pairs_of nodes) i ≡ Some pair → ⊥) → insert_key sides_eq sides s ≡ sides ++ s ∷ []
    new_key s new front has lacks = ap (λ b. cond b sides (sides ++ s ∷ [])) (list_any_none (sides_eq s) sides (λ i d l. false_from_ne_true (sides_eq s (get_or sides i d)) (λ h.
        let e = get_or (pairs_of nodes) i pair in
        let there : slice_get (pairs_of nodes) i ≡ Some e = slice_get-get_or (pairs_of nodes) i pair (omega (arith, f.side_count)) in
        let old = sides_at terms sides starts (pairs_of nodes) f i (get_or sides i d) e (slice_get-get_or sides i d l) there in
        let mine = subst (λ t. AreSides new t pair) (sides_eq-same s (get_or sides i d) h) has in
        lacks i (there ∙ ap Some (one_pair new (get_or sides i d) e pair (sides-front terms new (get_or sides i d) e front old) mine)))))
