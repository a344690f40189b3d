-- Nodes with their labels.
use Rattle.std.specs.Prelude.{◌≡◌, ℕ, Bool, ◌&&◌, List, [], ◌∷◌, ◌++◌, map, Some, All, AllPairs, slice_get, slice_set, option_map}
use Rattle.std.specs.Option.{option_map_or}
use Rattle.kb_label.specs.Names.{Name, is_empty}
use Rattle.kb_term.specs.Pair.{Pair}
use Rattle.kb_term.specs.declared.origin.Origin.{Origin}
use Rattle.kb_node.specs.declared.node.LabelKind.{LabelKind}
use Rattle.kb_node.specs.declared.node.LabelKind.TheVariants.{R0, R1, E, C0, C1, X}

-- a pair, how it was made first, and for each kind the label of the processes that have it so
pub record Node (L : Type 0) : Type 0 where
  pub pair : Pair
  pub origin : Origin
  pub rule0 : L
  pub rule1 : L
  pub equation : L
  pub constraint0 : L
  pub constraint1 : L
  pub refused : L

-- the label of a node that has this kind
abbrev pub label_in : {L : Type 0} → Node L → LabelKind → L
label_in node R0 = node.rule0
label_in node R1 = node.rule1
label_in node E = node.equation
label_in node C0 = node.constraint0
label_in node C1 = node.constraint1
label_in node X = node.refused

-- the node with another label of this kind
abbrev pub with_label : {L : Type 0} → Node L → LabelKind → L → Node L
with_label node R0 label = record node { rule0 = label }
with_label node R1 label = record node { rule1 = label }
with_label node E label = record node { equation = label }
with_label node C0 label = record node { constraint0 = label }
with_label node C1 label = record node { constraint1 = label }
with_label node X label = record node { refused = label }

module _ {L : Type 0} where
  -- the pairs of the nodes
  abbrev pub pairs_of : List (Node L) → List Pair
  pairs_of nodes = map (λ (node : Node L). node.pair) nodes

  -- the node of this number has the pair
  abbrev pub HasPair : List (Node L) → ℕ → Pair → Type 0
  HasPair nodes n pair = option_map (λ (node : Node L). node.pair) (slice_get nodes n) ≡ Some pair

  -- no node has the pair
  abbrev pub LacksPair : List (Node L) → Pair → Type 0
  LacksPair nodes pair = All (λ (node : Node L). node.pair ≡ pair → ⊥) nodes

  -- no two nodes have the same pair
  abbrev pub AreDistinct : List (Node L) → Type 0
  AreDistinct nodes = AllPairs (λ (m n : Node L). m.pair ≡ n.pair → ⊥) nodes

  -- the nodes after another label is put into the node of this number
  abbrev pub with_label_at : List (Node L) → ℕ → LabelKind → L → List (Node L)
  with_label_at nodes n kind label = option_map_or (λ (node : Node L). slice_set nodes n (with_label node kind label)) (slice_get nodes n) nodes

  module _ {K : Type 0} (names : K → L → List Name) where
    -- no process has the node as a rule or as an equation
    abbrev pub is_dead_under : K → Node L → Bool
    is_dead_under log node = is_empty (names log node.rule0) && (is_empty (names log node.rule1) && is_empty (names log node.equation))

    -- one node more, of this pair and origin, with six empty labels
    pub record AddsNode (old new : List (Node L)) (pair : Pair) (origin : Origin) : Type 0 where
      pub node : Node L
      pub appended : new ≡ old ++ node ∷ []
      pub pair_is : node.pair ≡ pair
      pub origin_is : node.origin ≡ origin
      pub unlabelled : (kind : LabelKind) (log : K) → names log (label_in node kind) ≡ []
