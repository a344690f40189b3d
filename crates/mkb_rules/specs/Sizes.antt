-- What processes pay for the nodes that they have, as it is kept.
use Rattle.std.specs.Prelude.{ℕ, ◌+◌, ◌≡◌, Bool, true, false, ◌&&◌, List, filter, length, map, sum_by, slice_get, get_or, if◌then◌else◌}
use Rattle.std.specs.Option.{option_map_or}
use Rattle.kb_label.specs.Names.{Name, has, is_empty}
use Rattle.kb_node.specs.declared.node.LabelKind.{LabelKind}
use Rattle.kb_node.specs.declared.node.LabelKind.TheVariants.{R0, R1, E, C0, C1}
use Rattle.kb_node.specs.declared.node.NodeId.{NodeId}
use Rattle.mkb_model.specs.Plain.{PlainNode, label_at, numbers_from, pair_size}
use Rattle.mkb_model.specs.declared.settings.Selection.{Selection}
use Rattle.mkb_model.specs.declared.settings.Selection.TheVariants.{Stated, Size}
use Rattle.mkb_rules.specs.declared.sizes.Sizes.{Sizes}

-- the size, where it is so
abbrev pub size_if : Bool → ℕ → ℕ
size_if t s = if t then s else 0

-- what p pays for the node as an equation, and as a constraint in each direction
abbrev pub open_share : Name → PlainNode → ℕ
open_share p x = size_if (has x.equation p) (pair_size x.pair) + (size_if (has x.constraint0 p) (pair_size x.pair) + size_if (has x.constraint1 p) (pair_size x.pair))

-- what p pays for the node as a rule in each direction
abbrev pub rule_share : Name → PlainNode → ℕ
rule_share p x = size_if (has x.rule0 p) (pair_size x.pair) + size_if (has x.rule1 p) (pair_size x.pair)

-- the sizes of both sides of the node's pair together
abbrev pub size_at : List PlainNode → ℕ → ℕ
size_at xs n = option_map_or (λ (x : PlainNode). pair_size x.pair) (slice_get xs n) 0

-- what p pays for the node of this number as an equation and as a constraint
abbrev pub open_share_at : List PlainNode → ℕ → Name → ℕ
open_share_at xs n p = option_map_or (open_share p) (slice_get xs n) 0

-- what p pays for the node of this number as a rule
abbrev pub rule_share_at : List PlainNode → ℕ → Name → ℕ
rule_share_at xs n p = option_map_or (rule_share p) (slice_get xs n) 0

-- what p pays for its equations and constraints
abbrev pub open_sizes : List PlainNode → Name → ℕ
open_sizes xs p = sum_by (open_share p) xs

-- what p pays for its rules
abbrev pub rule_sizes : List PlainNode → Name → ℕ
rule_sizes xs p = sum_by (rule_share p) xs

-- the sizes of rules that count, by the selection
abbrev pub counted_sizes : Selection → ℕ → ℕ
counted_sizes Stated s = 0
counted_sizes Size s = s

-- a label of this kind is one of equations or constraints
abbrev pub is_open_kind : LabelKind → Bool
is_open_kind E = true
is_open_kind C0 = true
is_open_kind C1 = true
is_open_kind k = false

-- a label of this kind is one of rules
abbrev pub is_rule_kind : LabelKind → Bool
is_rule_kind R0 = true
is_rule_kind R1 = true
is_rule_kind k = false

-- the size of the node, where what it is asked for counts and its label of this kind names p
abbrev pub size_by : Bool → LabelKind → List PlainNode → ℕ → Name → ℕ
size_by counts k xs n p = size_if (counts && has (label_at xs n k) p) (size_at xs n)

-- the sizes are those that their process pays
pub record AreSizesOf (xs : List PlainNode) (s : Sizes) : Type 0 where
  pub open_is : s.open_sizes ≡ open_sizes xs s.process
  pub rules_is : s.rule_sizes ≡ rule_sizes xs s.process

-- no process has the node as an equation or as a rule
abbrev pub is_dead_node : PlainNode → Bool
is_dead_node x = is_empty x.rule0 && (is_empty x.rule1 && is_empty x.equation)

-- no process has the node of this number as an equation or as a rule
abbrev pub is_dead_at : List PlainNode → ℕ → Bool
is_dead_at xs n = option_map_or is_dead_node (slice_get xs n) true

-- each node that is marked as out of use is dead
abbrev pub AreMarked : List PlainNode → List Bool → Type 0
AreMarked xs used = (n : ℕ) → get_or used n true ≡ false → is_dead_at xs n ≡ true

-- the list has, in their order, nodes of which each other one is marked as out of use
pub record AreListed (used : List Bool) (count : ℕ) (l : List NodeId) : Type 0 where
  pub has : ℕ → Bool
  pub is : map (λ (n : NodeId). n.0) l ≡ filter has (numbers_from 0 count)
  pub others : (n : ℕ) → has n ≡ false → get_or used n true ≡ false

-- the list has, in their order, nodes of which each other one is dead
pub record AreAlive (xs : List PlainNode) (l : List NodeId) : Type 0 where
  pub has : ℕ → Bool
  pub is : map (λ (n : NodeId). n.0) l ≡ filter has (numbers_from 0 (length xs))
  pub others : (n : ℕ) → has n ≡ false → is_dead_at xs n ≡ true
