-- The pairs of nodes.
use Rattle.std.proofs.Common.{◌≡◌, ℕ, ◌<◌, List, length, set, get_or, Some, refl, sym, ap, ◌∙◌, arith}
use Rattle.std.specs.Prelude.{slice_get}
use Rattle.std.proofs.lemmas.List.{get_or-map, length-map, map-set, set-get_or}
use Rattle.std.proofs.lemmas.Option.{slice_get_read, slice_get-map}
use Rattle.kb_term.specs.Pair.{Pair}
use Rattle.kb_node.specs.Labelled.{Node, pairs_of, with_label, HasPair}
use Rattle.kb_node.specs.declared.node.LabelKind.{LabelKind}
use Rattle.kb_node.specs.declared.node.LabelKind.TheVariants.{R0, R1, E, C0, C1, X}

module _ {L : Type 0} where
  pub pair_at : (nodes : List (Node L)) (i : ℕ) (d : Node L) (e : Pair) → i < length nodes → get_or (pairs_of nodes) i e ≡ (get_or nodes i d).pair
  pair_at nodes i d e h = get_or-map (λ (node : Node L). node.pair) nodes i d e h

  pub pairs-length : (nodes : List (Node L)) → length (pairs_of nodes) ≡ length nodes
  pairs-length nodes = length-map nodes (λ (node : Node L). node.pair)

  pub pair_read : (nodes : List (Node L)) (i : ℕ) (d : Node L) → i < length nodes → slice_get (pairs_of nodes) i ≡ Some (get_or nodes i d).pair
  pair_read nodes i d h =
      let e = (get_or nodes i d).pair in
      slice_get_read (pairs_of nodes) (length (pairs_of nodes)) i e refl (omega (arith, pairs-length nodes)) (sym (pair_at nodes i d e h))

  -- the pair with a number is that of the node
  pub pair_get : (nodes : List (Node L)) (i : ℕ) (e : Pair) → slice_get (pairs_of nodes) i ≡ Some e → HasPair nodes i e
  pair_get nodes i e h = sym (slice_get-map (λ (node : Node L). node.pair) nodes i) ∙ h

  with_label-pair : (node : Node L) (kind : LabelKind) (label : L) → (with_label node kind label).pair ≡ node.pair
  with_label-pair node R0 label = refl
  with_label-pair node R1 label = refl
  with_label-pair node E label = refl
  with_label-pair node C0 label = refl
  with_label-pair node C1 label = refl
  with_label-pair node X label = refl

  module _ (nodes : List (Node L)) (i : ℕ) (old new : Node L) (h : i < length nodes) (is : old ≡ get_or nodes i old) where
    pub node_at : slice_get nodes i ≡ Some old
    node_at = slice_get_read nodes (length nodes) i old refl h is

    pub pairs-with_label : (kind : LabelKind) (label : L) → new ≡ with_label old kind label → pairs_of (set nodes i new) ≡ pairs_of nodes
    pairs-with_label kind label e =
        map-set (λ (node : Node L). node.pair) nodes i new
        ∙ ap (set (pairs_of nodes) i) (ap (λ (node : Node L). node.pair) e ∙ with_label-pair old kind label ∙ ap (λ (node : Node L). node.pair) is ∙ sym (pair_at nodes i old old.pair h))
        ∙ set-get_or (pairs_of nodes) i old.pair
