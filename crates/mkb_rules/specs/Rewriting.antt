-- The parts of a rewriting: what its sources lose, and the pair that gains it.
use Rattle.std.specs.Prelude.{ℕ, ◌≡◌, ◌≤◌, List, length, Option, Some, None, IfSome, option_map, option_to_list}
use Rattle.kb_term.specs.Tree.{Tree}
use Rattle.kb_term.specs.Pair.{Pair, canonical_pair, variables_of_pair}
use Rattle.kb_term.specs.declared.origin.Origin.{Origin}
use Rattle.kb_overlap.specs.Trace.{other_side}
use Rattle.kb_node.specs.declared.node.LabelKind.TheVariants.{E}
use Rattle.kb_node.specs.declared.node.NodeId.{NodeId}
use Rattle.kb_term.specs.View.{tree_of}
use Rattle.mkb_model.specs.Plain.{Plain, PlainNode, pair_at, pair_in, rule_kind, other}
use Rattle.mkb_model.specs.Effects.{direction, gains_equation, gains_rule, loses, node_of, with_node}
use Rattle.mkb_model.specs.declared.proposed.Proposed.{Proposed}
use Rattle.mkb_model.specs.declared.proposed.Proposed.TheVariants.{Facts, Rewrite, One, Both, Refuse, Deduce, Unjoined, Closed, Limit}
use Rattle.mkb_rules.specs.Named.{IsThere}
use Rattle.mkb_rules.specs.declared.effects.rewriting.Sources.{Sources}
use Rattle.mkb_rules.specs.declared.effects.rewriting.Target.{Target}
use Rattle.kb_term.specs.declared.limits.TheConstants.{MAX_VARIABLES}

-- the term and the other side of the node have at most 64 variables together
abbrev pub HasFewVariables : Plain → ℕ → ℕ → Tree → Type 0
HasFewVariables b n w t = (q : Pair) → pair_at b n ≡ Some q → length (variables_of_pair t (other_side q w)) ≤ MAX_VARIABLES

-- the pair of a rewriting of the other side's term to the result, if there is one
abbrev pub target_of : Option Pair → Origin → Tree → Tree → Option Target
target_of o origin rest outcome = option_map (λ q. record { pair = q; origin = origin; dir = direction rest outcome q }) o

-- the pair to which a rewriting of a side of the pair leads, where the side becomes this term
abbrev pub target_at : Pair → ℕ → Origin → Tree → Option Target
target_at q w origin outcome = target_of (canonical_pair outcome (other_side q w)) origin (other_side q w) outcome

-- the pairs for which a rewriting wants nodes
abbrev pub wanted_by : Option Target → List Pair
wanted_by o = option_to_list (option_map (λ (t : Target). t.pair) o)

-- the sources lose the names: the rule with the side on the left only where the redex is strict
abbrev pub lost : ℕ → ℕ → Sources → List PlainNode → List PlainNode
lost n w s xs = loses n E s.names (loses n (rule_kind (other w)) s.names (loses n (rule_kind w) s.strict xs))

-- the pair, if there is one, gains what the sources lost
abbrev pub gained : Option Target → Sources → List PlainNode → List PlainNode
gained None s xs = xs
gained (Some t) s xs =
    let n : ℕ = node_of (with_node t.pair t.origin xs) t.pair in
    gains_equation n s.left (gains_equation n s.equation (gains_rule (record { node = n; dir = t.dir }) s.right (with_node t.pair t.origin xs)))

-- the node has the pair of the rewriting, if there is one, and there is no node where there is none
abbrev pub IsNodeOfTarget : List PlainNode → Option Target → Option NodeId → Type 0
IsNodeOfTarget xs None o = o ≡ None
IsNodeOfTarget xs (Some t) o = (n : NodeId) × (o ≡ Some n) × (pair_in xs n.0 ≡ Some t.pair)

-- a rewriting of a side of the node to the term leads to this node: that of the canonical pair of the term and the other side, or none where they are equal
pub record LeadsFrom (c : Plain) (n w : ℕ) (t : Tree) (o : Option NodeId) : Type 0 where
  pub there : IfSome o (λ m. IsThere c m.0)
  pub trivial : (q : Pair) → pair_at c n ≡ Some q → canonical_pair t (other_side q w) ≡ None → o ≡ None
  pub target : (q r : Pair) (m : ℕ) → pair_at c n ≡ Some q → canonical_pair t (other_side q w) ≡ Some r → pair_at c m ≡ Some r → o ≡ Some (record { 0 = m })

-- where a commit that had its effect leads: a rewriting to a node, other commits to none
abbrev pub LeadsTo : Plain → Proposed → Option NodeId → Type 0
LeadsTo c (Facts fs) o = o ≡ None
LeadsTo c (Rewrite n w at a kind t) o = LeadsFrom c n.0 w (tree_of t) o
LeadsTo c (One p n d e) o = o ≡ None
LeadsTo c (Both p n e0 e1) o = o ≡ None
LeadsTo c (Refuse p n) o = o ≡ None
LeadsTo c (Deduce a b pairs) o = o ≡ None
LeadsTo c (Unjoined p pairs) o = o ≡ None
LeadsTo c (Closed p) o = o ≡ None
LeadsTo c (Limit j cause) o = o ≡ None
