-- How a process has each node, as it is kept.
use Rattle.std.specs.Prelude.{ℕ, zero, suc, ◌≡◌, ◌<◌, Bool, false, ◌||◌, if◌then◌else◌, List, [], ◌∷◌, ◌++◌, filter, length, map, get_or, set, slice_get, sum_by}
use Rattle.std.specs.List.{flat_map}
use Rattle.std.specs.Option.{option_map_or}
use Rattle.kb_label.specs.Names.{Name, has}
use Rattle.kb_term.specs.declared.origin.RuleRef.{RuleRef}
use Rattle.kb_node.specs.declared.node.LabelKind.{LabelKind}
use Rattle.kb_node.specs.declared.node.NodeId.{NodeId}
use Rattle.kb_node.specs.declared.node.LabelKind.TheVariants.{R0, R1, E}
use Rattle.mkb_model.specs.Jobs.{ref_eq}
use Rattle.mkb_model.specs.Plain.{Plain, PlainNode, directions, is_equation, is_rule, node_numbers, numbers_from}
use Rattle.mkb_rules.specs.declared.roles.Roles.{Roles}

-- neither as an equation nor as a rule
abbrev pub no_roles : Roles
no_roles = record { equation = false; first = false; second = false }

-- how p has the node
abbrev pub roles_in : Name → PlainNode → Roles
roles_in p x = record { equation = has x.equation p; first = has x.rule0 p; second = has x.rule1 p }

-- how p has the node of this number
abbrev pub roles_at : List PlainNode → ℕ → Name → Roles
roles_at xs n p = option_map_or (roles_in p) (slice_get xs n) no_roles

-- the roles after the label of this kind has come to name the process, or not to name it
abbrev pub with_role : Roles → LabelKind → Bool → Roles
with_role r E t = record r { equation = t }
with_role r R0 t = record r { first = t }
with_role r R1 t = record r { second = t }
with_role r k t = r

-- the same for the node of this number, where its roles are kept
abbrev pub with_role_at : List Roles → ℕ → LabelKind → Bool → List Roles
with_role_at roles n k t = set roles n (with_role (get_or roles n no_roles) k t)

-- the roles that are kept, of the first nodes, are those in which p has them
abbrev pub AreRolesOf : List PlainNode → Name → List Roles → Type 0
AreRolesOf xs p roles = (n : ℕ) → n < length roles → get_or roles n no_roles ≡ roles_at xs n p

-- the node has one of the roles
abbrev pub is_in_use : Roles → Bool
is_in_use r = r.equation || (r.first || r.second)

-- the node is the rule of this direction
abbrev pub has_rule : Roles → ℕ → Bool
has_rule r zero = r.first
has_rule r (suc d) = r.second

-- the rules of whoever has the node in these roles
abbrev pub rules_in : ℕ → Roles → List RuleRef
rules_in n r = (if r.first then record { node = n; dir = 0 } ∷ [] else []) ++ (if r.second then record { node = n; dir = 1 } ∷ [] else [])

-- the roles in which p has the node
abbrev pub roles_of : Plain → Name → ℕ → Roles
roles_of b p n = record { equation = is_equation b p n; first = is_rule b p (record { node = n; dir = 0 }); second = is_rule b p (record { node = n; dir = 1 }) }

-- the nodes that p has as an equation or as a rule, in their order
abbrev pub held_of : Plain → Name → List ℕ
held_of b p = filter (λ n. is_in_use (roles_of b p n)) (node_numbers b)

-- the nodes, of those whose roles are kept, that have one, in their order
abbrev pub held_by : List Roles → List ℕ
held_by row = filter (λ n. is_in_use (get_or row n no_roles)) (numbers_from 0 (length row))

-- these are the nodes, of those whose roles are kept, that have one, in their order
abbrev pub AreHeldBy : List Roles → List NodeId → Type 0
AreHeldBy row l = map (λ (n : NodeId). n.0) l ≡ held_by row

-- the rules in the nodes of smaller numbers, in both directions, by node, then direction
abbrev pub rules_below : ℕ → List RuleRef
rules_below count = flat_map directions (numbers_from 0 count)

-- how many of the nodes whose roles are kept are equations
abbrev pub equation_count : List Roles → ℕ
equation_count row = sum_by (λ (r : Roles). if r.equation then 1 else 0) row

-- the rules in the nodes whose roles are kept, by node, then direction
abbrev pub rules_by : List Roles → List RuleRef
rules_by row = filter (λ a. has_rule (get_or row a.node no_roles) a.dir) (flat_map directions (numbers_from 0 (length row)))

-- the test that answers so for the rule, and as before for any other
abbrev pub but_for : (RuleRef → Bool) → RuleRef → Bool → RuleRef → Bool
but_for has rule t a = if ref_eq a rule then t else has a
