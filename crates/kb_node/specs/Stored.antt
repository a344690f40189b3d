-- How a table keeps its nodes: the cells of their pairs, and the rest of each.
use Rattle.std.specs.Prelude.{List, [], ◌∷◌, ◌≡◌, ℕ, length, slice_get, Some}
use Rattle.kb_term.specs.Tree.{Tree}
use Rattle.kb_term.specs.Pair.{Pair, IsCanonicalPair}
use Rattle.term_bank.specs.Terms.{term_at}
use Rattle.kb_node.specs.Banked.{IsBanked}
use Rattle.kb_node.specs.Labelled.{Node, pairs_of}
use Rattle.kb_node.specs.declared.node.Entry.{Entry}
use Rattle.kb_node.specs.declared.sides.Sides.{Sides}

-- the node of this pair, of which the rest is kept
abbrev pub node_of : {L : Type 0} → Pair → Entry L → Node L
node_of e k = record { pair = e; origin = k.origin; rule0 = k.rule0; rule1 = k.rule1; equation = k.equation; constraint0 = k.constraint0; constraint1 = k.constraint1; refused = k.refused }

-- the pair whose sides have these cells
abbrev pub pair_in : List Tree → Sides → Pair
pair_in terms s = record { first = term_at terms s.first.0; second = term_at terms s.second.0 }

-- the nodes that are kept so
abbrev pub nodes_in : {L : Type 0} → List Tree → List Sides → List (Entry L) → List (Node L)
nodes_in terms [] entries = []
nodes_in terms (s ∷ sides) [] = []
nodes_in terms (s ∷ sides) (k ∷ entries) = node_of (pair_in terms s) k ∷ nodes_in terms sides entries

-- the bank has the terms of the nodes alone, and each node has a canonical pair
pub record IsStored {L : Type 0} (terms : List Tree) (sides : List Sides) (starts : List ℕ) (entries : List (Entry L)) : Type 0 where
  pub as_many : length sides ≡ length entries
  pub canonical : (i : ℕ) (e : Pair) → slice_get (pairs_of (nodes_in terms sides entries)) i ≡ Some e → IsCanonicalPair e
  pub banked : IsBanked terms sides starts (pairs_of (nodes_in terms sides entries))
