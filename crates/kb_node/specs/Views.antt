-- What one process sees of the nodes.
use Rattle.std.specs.Prelude.{ℕ, Bool, List, [], ◌∷◌, ◌++◌, if◌then◌else◌}
use Rattle.std.specs.List.{flat_map, enumerate_from}
use Rattle.kb_label.specs.Names.{Name, has}
use Rattle.kb_term.specs.declared.origin.RuleRef.{RuleRef}
use Rattle.kb_node.specs.Labelled.{Node}
use Rattle.kb_node.specs.declared.node.NodeId.{NodeId}

-- the member, where the test holds
abbrev pub when : {A : Type 0} → Bool → A → List A
when test x = if test then x ∷ [] else []

module _ {K L : Type 0} (names : K → L → List Name) (log : K) (p : Name) where
  -- a node as an equation of the process
  abbrev pub equation_at : ℕ × Node L → List NodeId
  equation_at (n, node) = when (has (names log node.equation) p) (record { 0 = n })

  -- the directions of the node with this number, of the two labels those that have the process
  abbrev pub directions_at : ℕ → L → L → List RuleRef
  directions_at n forth back = when (has (names log forth) p) (record { node = n; dir = 0 }) ++ when (has (names log back) p) (record { node = n; dir = 1 })

  -- the directions in which the process has a node as a rule
  abbrev pub rules_at : ℕ × Node L → List RuleRef
  rules_at (n, node) = directions_at n node.rule0 node.rule1

  -- the directions in which the process has a node as a constraint
  abbrev pub constraints_at : ℕ × Node L → List RuleRef
  constraints_at (n, node) = directions_at n node.constraint0 node.constraint1

  -- the equations of the process, by number
  abbrev pub equations_of : List (Node L) → List NodeId
  equations_of nodes = flat_map equation_at (enumerate_from 0 nodes)

  -- its rules, by number, then direction
  abbrev pub rules_of : List (Node L) → List RuleRef
  rules_of nodes = flat_map rules_at (enumerate_from 0 nodes)

  -- its constraints, by number, then direction
  abbrev pub constraints_of : List (Node L) → List RuleRef
  constraints_of nodes = flat_map constraints_at (enumerate_from 0 nodes)
