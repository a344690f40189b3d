-- The plain board: a record of lists, in which each label is the list of its names.
use Rattle.std.specs.Prelude.{ℕ, zero, suc, ◌+◌, List, [], ◌∷◌, map, length, Bool, ◌&&◌, ◌==◌, if◌then◌else◌, filter, sum_by, slice_get, option_map, unwrap_or}
use Rattle.std.specs.List.{list_any, find, filter_map, flat_map}
use Rattle.std.specs.Option.{option_map_or}
use Rattle.std.specs.declared.option.Option.{Option}
use Rattle.std.specs.declared.option.Option.TheVariants.{Some, None}
use Rattle.kb_term.specs.Tree.{Tree, tree_size}
use Rattle.kb_term.specs.Pair.{Pair}
use Rattle.kb_term.specs.Rule.{Rule, rule_of}
use Rattle.kb_term.specs.Signature.{Problem}
use Rattle.kb_laws.specs.Completion.{KbState}
use Rattle.mkb_model.specs.Jobs.{ref_eq}
use Rattle.kb_label.specs.Names.{Name, has, name_eq, is_beginning}
use Rattle.kb_term.specs.declared.origin.RuleRef.{RuleRef}
use Rattle.kb_term.specs.declared.origin.Found.{Found}
use Rattle.kb_term.specs.declared.origin.Origin.{Origin}
use Rattle.kb_cert.specs.Family.{family}
use Rattle.kb_cert.specs.declared.certificate.Certificate.{Certificate}
use Rattle.kb_label.specs.declared.verdict.Reason.{Reason}
use Rattle.kb_label.specs.declared.verdict.Reason.TheVariants.{Nodes, Processes, Size, Depth, Variables, Steps}
use Rattle.kb_node.specs.declared.node.LabelKind.{LabelKind}
use Rattle.kb_node.specs.declared.node.LabelKind.TheVariants.{R0, R1, E, C0, C1, X}
use Rattle.kb_node.specs.declared.job.Fact.{Fact}
use Rattle.kb_node.specs.declared.job.Job.{Job}
use Rattle.kb_node.specs.declared.job.Job.TheVariants.{Reduce, Orient, Overlap, Close}
use Rattle.mkb_model.specs.declared.entry.Ticket.{Ticket}
use Rattle.mkb_model.specs.declared.settings.Selection.{Selection}
use Rattle.mkb_model.specs.declared.settings.Selection.TheVariants.{Stated, Size as BySize}
use Rattle.mkb_model.specs.declared.settings.Settings.{Settings}

-- ---- the parts

-- a node: a pair, where it came from, and for each of its six roles the processes that have it so
pub record PlainNode : Type 0 where
  pub pair : Pair
  pub origin : Origin
  pub rule0 : List Name
  pub rule1 : List Name
  pub equation : List Name
  pub constraint0 : List Name
  pub constraint1 : List Name
  pub refused : List Name

-- the processes for which two rules have been overlapped
pub record Done : Type 0 where
  pub first : RuleRef
  pub second : RuleRef
  pub names : List Name

-- the processes that gave up for one reason
pub record GivenUp : Type 0 where
  pub reason : Reason
  pub names : List Name

-- the order by which a process orients its constraints
pub record Certified : Type 0 where
  pub name : Name
  pub certificate : Certificate

-- the whole board without its journal
pub record Plain : Type 0 where
  pub problem : Problem
  pub settings : Settings
  pub living : List Name
  pub nodes : List PlainNode
  pub done : List Done
  pub facts : List Fact
  pub closed : List Name
  pub over : List GivenUp
  -- the processes that get no job until a place is free
  pub asleep : List Name
  pub commits : ℕ
  pub flight : List Ticket
  pub certificates : List Certified

-- the orders that are searched: those of the run's family for the signature of the problem
abbrev pub orders_of : Plain → List Certificate
orders_of b = family b.settings.family b.problem.signature

-- ---- numbers of nodes and rules

-- the numbers n, n + 1, .., as many as the second says
abbrev pub numbers_from : ℕ → ℕ → List ℕ
numbers_from n zero = []
numbers_from n (suc k) = n ∷ numbers_from (n + 1) k

-- the numbers of all nodes
abbrev pub node_numbers : Plain → List ℕ
node_numbers b = numbers_from 0 (length b.nodes)

-- both directions of a node
abbrev pub directions : ℕ → List RuleRef
directions n = record { node = n; dir = 0 } ∷ record { node = n; dir = 1 } ∷ []

-- ---- labels

-- the label of a node that has this kind
abbrev pub label_in : PlainNode → LabelKind → List Name
label_in x R0 = x.rule0
label_in x R1 = x.rule1
label_in x E = x.equation
label_in x C0 = x.constraint0
label_in x C1 = x.constraint1
label_in x X = x.refused

-- the label of a node, and no name where there is no node
abbrev pub label_or_none : Option PlainNode → LabelKind → List Name
label_or_none None kind = []
label_or_none (Some x) kind = label_in x kind

-- the label of a node of the list, which is empty where the node is not there
abbrev pub label_at : List PlainNode → ℕ → LabelKind → List Name
label_at xs n kind = label_or_none (slice_get xs n) kind

-- the label of a node of the board
abbrev pub label : Plain → ℕ → LabelKind → List Name
label b n kind = label_at b.nodes n kind

-- the label of the rules of a direction
abbrev pub rule_kind : ℕ → LabelKind
rule_kind zero = R0
rule_kind (suc d) = R1

-- the label of the constraints of a direction
abbrev pub constraint_kind : ℕ → LabelKind
constraint_kind zero = C0
constraint_kind (suc d) = C1

-- the side that is not this one, and so the direction whose rule has this side on the right
abbrev pub other : ℕ → ℕ
other zero = 1
other (suc w) = 0

-- p has the node as an equation
abbrev pub is_equation : Plain → Name → ℕ → Bool
is_equation b p n = has (label b n E) p

-- p has the rule
abbrev pub is_rule : Plain → Name → RuleRef → Bool
is_rule b p a = has (label b a.node (rule_kind a.dir)) p

-- p has the rule among its constraints
abbrev pub is_constraint : Plain → Name → RuleRef → Bool
is_constraint b p a = has (label b a.node (constraint_kind a.dir)) p

-- ---- the view of a process

-- the nodes that the process has as equations
abbrev pub equations_of : Plain → Name → List ℕ
equations_of b p = filter (is_equation b p) (node_numbers b)

-- the rules of the process, by node, then direction
abbrev pub rules_of : Plain → Name → List RuleRef
rules_of b p = filter (is_rule b p) (flat_map directions (node_numbers b))

-- the constraints of the process: each rule that it ever had
abbrev pub constraints_of : Plain → Name → List RuleRef
constraints_of b p = filter (is_constraint b p) (flat_map directions (node_numbers b))

-- what one process sees of the board
pub record View : Type 0 where
  pub equations : List ℕ
  pub rules : List RuleRef
  pub constraints : List RuleRef

-- the view of p
abbrev pub view : Plain → Name → View
view b p = record { equations = equations_of b p; rules = rules_of b p; constraints = constraints_of b p }

-- ---- terms on the board

-- the pair of a node of the list, if it is there
abbrev pub pair_in : List PlainNode → ℕ → Option Pair
pair_in xs n = option_map (λ (x : PlainNode). x.pair) (slice_get xs n)

-- the pair of a node, if it is there
abbrev pub pair_at : Plain → ℕ → Option Pair
pair_at b n = pair_in b.nodes n

-- the two terms of a pair
abbrev pub sides : Pair → Tree × Tree
sides q = (q.first, q.second)

-- the rule that the reference names, if its node is there
abbrev pub rule_at : Plain → RuleRef → Option Rule
rule_at b a = option_map (λ q. rule_of q a.dir) (pair_at b a.node)

-- the rules that the references name
abbrev pub rules_at : Plain → List RuleRef → List Rule
rules_at b refs = filter_map (rule_at b) refs

-- the equations that the node numbers name
abbrev pub equations_at : Plain → List ℕ → List (Tree × Tree)
equations_at b ns = map sides (filter_map (pair_at b) ns)

-- the process's equations, rules and constraints: the state of its own completion
abbrev pub state_of : Plain → Name → KbState
state_of b p = record {
  equations = equations_at b (equations_of b p);
  rules = rules_at b (rules_of b p);
  constraints = rules_at b (constraints_of b p);
}

-- ---- what else is known of a process

-- the names that the list has for the two rules
abbrev pub done_in : List Done → RuleRef → RuleRef → List Name
done_in [] a b = []
done_in (d ∷ ds) a b = if ref_eq d.first a && ref_eq d.second b then d.names else done_in ds a b

-- the processes for which the two rules have been overlapped
abbrev pub done_of : Plain → RuleRef → RuleRef → List Name
done_of b = done_in b.done

-- what is known of one side of a node and a rule
abbrev pub known : Plain → ℕ → ℕ → RuleRef → Option Found
known b n w a = option_map (λ (f : Fact). f.found) (find (λ (f : Fact). (f.node.0 == n) && ((f.side == w) && ref_eq f.rule a)) b.facts)

-- the reason for which the list names p, if it does
abbrev pub over_in : List GivenUp → Name → Option Reason
over_in [] p = None
over_in (g ∷ gs) p = if has g.names p then Some g.reason else over_in gs p

-- why the process gave up, if it did
abbrev pub over_reason : Plain → Name → Option Reason
over_reason b = over_in b.over

-- p gave up
abbrev pub is_over : Plain → Name → Bool
is_over b p = list_any (λ (g : GivenUp). has g.names p) b.over

-- the order by which p orients, if p lives
abbrev pub certificate_of : Plain → Name → Option Certificate
certificate_of b p = option_map (λ (c : Certified). c.certificate) (find (λ (c : Certified). name_eq c.name p) b.certificates)

-- the living process whose forks lead to p; p itself where it lives, or where none does
abbrev pub ancestor : Plain → Name → Name
ancestor b p = unwrap_or (find (λ q. is_beginning q p) b.living) p

-- the sizes of both sides of a pair
abbrev pub pair_size : Pair → ℕ
pair_size q = tree_size q.first + tree_size q.second

-- the sizes of both sides of a node's pair together
abbrev pub node_size : Plain → ℕ → ℕ
node_size b n = option_map_or pair_size (pair_at b n) 0

-- the sizes of the nodes of these rules
abbrev pub rule_sizes : Plain → List RuleRef → ℕ
rule_sizes b refs = sum_by (λ (a : RuleRef). node_size b a.node) refs

-- the rules that count for the cost of a process, by the selection
abbrev pub counted_rules : Selection → Plain → Name → List RuleRef
counted_rules Stated b p = []
counted_rules BySize b p = rules_of b p

-- the cost of a process: the sizes of both sides of its equations and its constraints, and of its rules where the selection counts them
abbrev pub cost : Plain → Name → ℕ
cost b p = (sum_by (node_size b) (equations_of b p) + rule_sizes b (constraints_of b p)) + rule_sizes b (counted_rules b.settings.selection b p)

-- the nodes that a job names
abbrev pub job_nodes : Job → List ℕ
job_nodes (Reduce p n) = n.0 ∷ []
job_nodes (Orient p n) = n.0 ∷ []
job_nodes (Overlap p a c) = a.node ∷ c.node ∷ []
job_nodes (Close p) = []

-- the weight of a job by the selection: of the stated one no job has any, of the other the sizes of the nodes that it names
abbrev pub weight_by : Selection → Plain → Job → ℕ
weight_by Stated b j = 0
weight_by BySize b j = sum_by (node_size b) (job_nodes j)

-- the weight of a job
abbrev pub weight : Plain → Job → ℕ
weight b = weight_by b.settings.selection b

-- the six reasons, with nobody who gave up
abbrev pub nobody_over : List GivenUp
nobody_over = map (λ r. record { reason = r; names = [] }) (Nodes ∷ Processes ∷ Size ∷ Depth ∷ Variables ∷ Steps ∷ [])
