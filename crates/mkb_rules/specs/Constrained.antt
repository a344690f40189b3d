-- In which nodes processes have constraints, as it is kept.
use Rattle.std.specs.Prelude.{ℕ, ◌≡◌, Bool, true, false, ◌&&◌, List, filter, length, map, slice_get, get_or}
use Rattle.std.specs.Option.{option_map_or}
use Rattle.kb_label.specs.Names.{is_empty}
use Rattle.kb_node.specs.declared.node.LabelKind.{LabelKind}
use Rattle.kb_node.specs.declared.node.LabelKind.TheVariants.{C0, C1}
use Rattle.kb_node.specs.declared.node.NodeId.{NodeId}
use Rattle.mkb_model.specs.Plain.{PlainNode, numbers_from}

-- a label of this kind is one of constraints
abbrev pub is_constraint_kind : LabelKind → Bool
is_constraint_kind C0 = true
is_constraint_kind C1 = true
is_constraint_kind k = false

-- no process has a constraint in the node
abbrev pub is_free_node : PlainNode → Bool
is_free_node x = is_empty x.constraint0 && is_empty x.constraint1

-- no process has a constraint in the node of this number
abbrev pub is_free_at : List PlainNode → ℕ → Bool
is_free_at xs n = option_map_or is_free_node (slice_get xs n) true

-- in each node that is marked as out of use nobody has a constraint
abbrev pub AreConstraintsMarked : List PlainNode → List Bool → Type 0
AreConstraintsMarked xs used = (n : ℕ) → get_or used n true ≡ false → is_free_at xs n ≡ true

-- the list has, in their order, nodes outside of which nobody has a constraint
pub record AreConstrained (xs : List PlainNode) (l : List NodeId) : Type 0 where
  pub has : ℕ → Bool
  pub is : map (λ (n : NodeId). n.0) l ≡ filter has (numbers_from 0 (length xs))
  pub others : (n : ℕ) → has n ≡ false → is_free_at xs n ≡ true
