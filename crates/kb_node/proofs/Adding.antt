-- A node of a pair is there once, or not at all.
use Rattle.std.proofs.Common.{◌≡◌, ℕ, ◌<◌, List, [], ◌∷◌, ◌++◌, length, get_or, Some, None, Option, Result, Ok, Err, refl, sym, ap, subst, ◌∙◌, arith, ⊎_elim}
use Rattle.std.specs.Prelude.{slice_get, option_map, OnErr}
use Rattle.std.proofs.lemmas.List.{map_push}
use Rattle.indexmap.specs.IndexSet.{insert_key}
use Rattle.kb_term.specs.Tree.{Tree}
use Rattle.std.proofs.lemmas.Option.{slice_get_within, get_or_from_slice_get}
use Rattle.kb_term.specs.Pair.{Pair}
use Rattle.term_bank.proofs.Missing.{IsFront}
use Rattle.kb_node.specs.Banked.{AreSides, IsPairWithin, IsBanked, with_sides, sides_eq}
use Rattle.kb_node.specs.Labelled.{Node, pairs_of, HasPair, LacksPair, AreDistinct}
use Rattle.kb_node.specs.declared.sides.Sides.{Sides}
use Rattle.kb_node.proofs.Pairs.{pair_get, pairs-length}
use Rattle.kb_node.proofs.Banking.{with_sides-front, banked-push}
use Rattle.kb_node.proofs.Finding.{compared, new_key}

pub on_err : {T E P : Type 0} (r : Result T E) → P → OnErr r P
on_err (Ok x) h = tt
on_err (Err e) h = h

module _ {L : Type 0} (nodes : List (Node L)) (pair : Pair) where
  -- the node that has the pair
  node_of : (n : ℕ) → HasPair nodes n pair → (node : Node L) × (slice_get nodes n ≡ Some node) × (node.pair ≡ pair)
  node_of n h = go (slice_get nodes n) refl h
    where
      go : (o : Option (Node L)) → slice_get nodes n ≡ o → option_map (λ (node : Node L). node.pair) o ≡ Some pair → (node : Node L) × (slice_get nodes n ≡ Some node) × (node.pair ≡ pair)
      go None e g = absurd (cc)
      go (Some node) e g = (node, e, cc)

  pub has-lacks : (n : ℕ) → HasPair nodes n pair → LacksPair nodes pair → ⊥
  has-lacks n h lacks =
      let found = node_of n h in
      lacks n found.0 (slice_get_within nodes n found.0 found.1) (ap (λ (m : Node L). m.pair) (get_or_from_slice_get nodes n found.0 found.0 found.1) ∙ found.2)

  pub same_number : (m n : ℕ) → AreDistinct nodes → HasPair nodes m pair → HasPair nodes n pair → m ≡ n
  same_number m n distinct h k =
      let one = node_of m h in
      let two = node_of n k in
      let first : (get_or nodes m one.0).pair ≡ pair = ap (λ (v : Node L). v.pair) (get_or_from_slice_get nodes m one.0 one.0 one.1) ∙ one.2 in
      let second : (get_or nodes n one.0).pair ≡ pair = ap (λ (v : Node L). v.pair) (get_or_from_slice_get nodes n two.0 one.0 two.1) ∙ two.2 in
      ⊎_elim
      (λ v. absurd (distinct m n one.0 v (slice_get_within nodes n two.0 two.1) (first ∙ sym second)))
      (λ v. ⊎_elim (λ e. e) (λ u. absurd (distinct n m one.0 u (slice_get_within nodes m one.0 one.1) (second ∙ sym first))) v)
      (compared m n)

-- one node more, of a pair that no node has
module _ {L : Type 0} (terms : List Tree) (sides : List Sides) (starts : List ℕ) (nodes : List (Node L)) (pair : Pair) (f : IsBanked terms sides starts (pairs_of nodes)) (lacks : LacksPair nodes pair) where
  pub absent : (i : ℕ) → slice_get (pairs_of nodes) i ≡ Some pair → ⊥
  absent i g = has-lacks nodes pair i (pair_get nodes i pair g) lacks

  pub more_nodes : (s : Sides) (start : ℕ) (new : List Tree) (node : Node L) → length nodes < 4096 → IsPairWithin pair → new ≡ with_sides terms pair → AreSides new s pair → start ≡ length terms → node.pair ≡ pair
      → IsBanked new (insert_key sides_eq sides s) (starts ++ start ∷ []) (pairs_of (nodes ++ node ∷ []))
  more_nodes s start new node few within made has counted is =
      let front : IsFront terms new = subst (IsFront terms) (sym made) (with_sides-front terms pair) in
      let pairs : pairs_of nodes ++ pair ∷ [] ≡ pairs_of (nodes ++ node ∷ []) = sym (map_push (λ (n : Node L). n.pair) nodes node ∙ ap (λ e. pairs_of nodes ++ e ∷ []) is) in
      let keys = new_key terms sides starts nodes f pair s new front has absent in
      subst (λ ks. IsBanked new ks (starts ++ start ∷ []) (pairs_of (nodes ++ node ∷ []))) (sym keys)
      (subst (IsBanked new (sides ++ s ∷ []) (starts ++ start ∷ [])) pairs
      (banked-push terms sides starts (pairs_of nodes) f pair s start new (omega (arith, pairs-length nodes)) within made has counted absent))
