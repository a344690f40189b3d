-- What a commit does to the plain board.
use Rattle.std.specs.Prelude.{ℕ, zero, suc, ◌+◌, List, [], ◌∷◌, ◌++◌, map, length, Bool, true, false, ◌&&◌, not, ◌==◌, nat_lt, nat_le, if◌then◌else◌, filter, option_and_then, option_to_list}
use Rattle.std.specs.List.{list_any}
use Rattle.std.specs.Ordering.{is_eq}
use Rattle.std.specs.declared.option.Option.{Option}
use Rattle.std.specs.declared.option.Option.TheVariants.{Some, None}
use Rattle.kb_term.specs.Tree.{Tree}
use Rattle.kb_term.specs.View.{tree_of}
use Rattle.kb_term.specs.Pair.{Pair, pair_cmp, canonical_pair, numbered}
use Rattle.kb_overlap.specs.Trace.{other_side}
use Rattle.std.specs.Option.{option_map_or}
use Rattle.mkb_model.specs.Jobs.{ref_eq}
use Rattle.mkb_model.specs.Sleeping.{settle}
use Rattle.kb_label.specs.Names.{Name, name_eq, child, add, join, meet, minus, relabel, is_empty}
use Rattle.mkb_model.specs.Plain.{Plain, label_at, PlainNode, Done, GivenUp, Certified, label, rule_kind, constraint_kind, other, is_equation, done_of, is_over, pair_at}
use Rattle.kb_term.specs.declared.origin.RuleRef.{RuleRef}
use Rattle.kb_term.specs.declared.origin.Found.{Found}
use Rattle.kb_term.specs.declared.origin.Found.TheVariants.{No, Variant, Strict}
use Rattle.kb_term.specs.declared.origin.Origin.{Origin}
use Rattle.kb_term.specs.declared.origin.Origin.TheVariants.{Input, Rewrite as ByRewrite, Overlap as ByOverlap}
use Rattle.kb_cert.specs.declared.certificate.Certificate.{Certificate}
use Rattle.kb_label.specs.declared.verdict.Reason.{Reason}
use Rattle.kb_label.specs.declared.verdict.Reason.TheVariants.{Nodes, Processes, Size, Depth, Variables, Steps}
use Rattle.kb_node.specs.declared.node.LabelKind.{LabelKind}
use Rattle.kb_node.specs.declared.node.LabelKind.TheVariants.{R0, R1, E, C0, C1, X}
use Rattle.kb_node.specs.declared.job.Job.{Job}
use Rattle.kb_node.specs.declared.job.Job.TheVariants.{Reduce, Orient, Overlap, Close}
use Rattle.kb_node.specs.declared.job.Deduced.{Deduced}
use Rattle.kb_node.specs.declared.job.LimitCause.{LimitCause}
use Rattle.mkb_model.specs.declared.proposed.Proposed.{Proposed}
use Rattle.mkb_model.specs.declared.proposed.Proposed.TheVariants.{Facts, Rewrite, One, Both, Refuse, Deduce, Unjoined, Closed, Limit}
use Rattle.mkb_model.specs.declared.entry.Effect.{Effect}
use Rattle.mkb_model.specs.declared.entry.Effect.TheVariants.{Over, Made}
use Rattle.kb_term.specs.declared.limits.TheConstants.{MAX_NODES}

-- ---- limits

-- as many nodes as there may be
abbrev pub most_nodes : ℕ
most_nodes = MAX_NODES

-- as many processes as may live
abbrev pub most_living : ℕ
most_living = 1024

-- ---- parts of the board put anew

-- the node with another label of one kind
abbrev pub with_label_in : PlainNode → LabelKind → List Name → PlainNode
with_label_in x R0 l = record x { rule0 = l }
with_label_in x R1 l = record x { rule1 = l }
with_label_in x E l = record x { equation = l }
with_label_in x C0 l = record x { constraint0 = l }
with_label_in x C1 l = record x { constraint1 = l }
with_label_in x X l = record x { refused = l }

-- the nodes with another label at a number, if that node is there
abbrev pub with_label : ℕ → LabelKind → List Name → List PlainNode → List PlainNode
with_label n kind l [] = []
with_label zero kind l (x ∷ xs) = with_label_in x kind l ∷ xs
with_label (suc n) kind l (x ∷ xs) = x ∷ with_label n kind l xs

-- a label of a node loses these names
abbrev pub loses : ℕ → LabelKind → List Name → List PlainNode → List PlainNode
loses n kind l xs = with_label n kind (minus (label_at xs n kind) l) xs

-- a label of a node gains these names
abbrev pub gains : ℕ → LabelKind → List Name → List PlainNode → List PlainNode
gains n kind l xs = with_label n kind (join (label_at xs n kind) l) xs

-- the names gain the node as an equation, but for those that have it as a rule
abbrev pub gains_equation : ℕ → List Name → List PlainNode → List PlainNode
gains_equation n l xs = gains n E (minus (minus l (label_at xs n R0)) (label_at xs n R1)) xs

-- the names gain the node as a rule, and lose it as an equation
abbrev pub gains_rule : RuleRef → List Name → List PlainNode → List PlainNode
gains_rule a l xs = gains a.node (rule_kind a.dir) l (loses a.node E l xs)

-- ---- nodes

-- whether two pairs are the same
abbrev pub pair_eq : Pair → Pair → Bool
pair_eq q r = is_eq (pair_cmp q r)

-- the number of the first node with this pair, or else the number of nodes
abbrev pub node_of : List PlainNode → Pair → ℕ
node_of [] q = 0
node_of (x ∷ xs) q = if pair_eq x.pair q then 0 else node_of xs q + 1

-- some node has this pair
abbrev pub is_present : List PlainNode → Pair → Bool
is_present xs q = list_any (λ (x : PlainNode). pair_eq x.pair q) xs

-- a node that no process has yet
abbrev pub new_node : Pair → Origin → PlainNode
new_node q o = record { pair = q; origin = o; rule0 = []; rule1 = []; equation = []; constraint0 = []; constraint1 = []; refused = [] }

-- the nodes with one for the pair: the one that is there, or else a new one at the end
abbrev pub with_node : Pair → Origin → List PlainNode → List PlainNode
with_node q o xs = if is_present xs q then xs else xs ++ new_node q o ∷ []

-- ---- forks

-- the node after a fork of p
abbrev pub forked_node : Name → PlainNode → PlainNode
forked_node p x = record {
  pair = x.pair;
  origin = x.origin;
  rule0 = relabel p x.rule0;
  rule1 = relabel p x.rule1;
  equation = relabel p x.equation;
  constraint0 = relabel p x.constraint0;
  constraint1 = relabel p x.constraint1;
  refused = relabel p x.refused;
}

-- the certificates after a fork of p: both children have that of p
abbrev pub forked_certificates : Name → List Certified → List Certified
forked_certificates p [] = []
forked_certificates p (c ∷ cs) = if name_eq c.name p then record c { name = child p false } ∷ record c { name = child p true } ∷ cs else c ∷ forked_certificates p cs

-- the two children stand in the place of p in every list of names
abbrev pub fork : Name → Plain → Plain
fork p b = record b {
  living = relabel p b.living;
  nodes = map (forked_node p) b.nodes;
  done = map (λ (d : Done). record d { names = relabel p d.names }) b.done;
  closed = relabel p b.closed;
  over = map (λ (g : GivenUp). record g { names = relabel p g.names }) b.over;
  asleep = relabel p b.asleep;
  certificates = forked_certificates p b.certificates;
}

-- the list with another certificate for p
abbrev pub certify_in : Name → Certificate → List Certified → List Certified
certify_in p c [] = []
certify_in p c (d ∷ ds) = if name_eq d.name p then record d { certificate = c } ∷ ds else d ∷ certify_in p c ds

-- the process orients its constraints by this order from now on
abbrev pub certify : Name → Certificate → Plain → Plain
certify p c b = record b { certificates = certify_in p c b.certificates }

-- ---- effect labels

-- the side is no variant of the left side that matches in it
abbrev pub is_strict : Found → Bool
is_strict No = false
is_strict Variant = false
is_strict Strict = true

-- these names where the redex is strict, else none
abbrev pub if_strict : Found → List Name → List Name
if_strict found l = if is_strict found then l else []

-- the processes that have the rule and are in a source of the redex: an equation, the rule with the side on the right, or for a strict redex the rule with it on the left
abbrev pub rewrite_label : Plain → ℕ → ℕ → RuleRef → Found → List Name
rewrite_label b n w a found =
    meet (label b a.node (rule_kind a.dir))
    (join (label b n E) (join (label b n (rule_kind (other w))) (if_strict found (label b n (rule_kind w)))))

-- the processes that have both rules and have not overlapped them yet
abbrev pub overlap_label : Plain → RuleRef → RuleRef → List Name
overlap_label b a c = minus (meet (label b a.node (rule_kind a.dir)) (label b c.node (rule_kind c.dir))) (done_of b a c)

-- the process, where it has the node as an equation
abbrev pub orient_label : Plain → Name → ℕ → List Name
orient_label b p n = if is_equation b p n then p ∷ [] else []

-- the processes on which a redex of the node acts, if there is a redex
abbrev pub redex_label : Plain → ℕ → Option (ℕ × RuleRef × Found) → List Name
redex_label b n None = []
redex_label b n (Some r) = rewrite_label b n r.0 r.1 r.2

-- the processes that a limit of the job stops
abbrev pub limit_label : Plain → Job → LimitCause → List Name
limit_label b (Reduce p n) cause = redex_label b n.0 cause.redex
limit_label b (Orient p n) cause = []
limit_label b (Overlap p a c) cause = overlap_label b a c
limit_label b (Close p) cause = p ∷ []

-- the names that have not given up
abbrev pub not_over : Plain → List Name → List Name
not_over b l = filter (λ p. not (is_over b p)) l

-- the effect label: the processes on which the proposal acts
abbrev pub effect_label : Plain → Proposed → List Name
effect_label b (Facts fs) = []
effect_label b (Rewrite n w at a found t) = rewrite_label b n.0 w a found
effect_label b (One p n d c) = orient_label b p n.0
effect_label b (Both p n c0 c1) = orient_label b p n.0
effect_label b (Refuse p n) = orient_label b p n.0
effect_label b (Deduce a c pairs) = overlap_label b a c
effect_label b (Unjoined p pairs) = p ∷ []
effect_label b (Closed p) = p ∷ []
effect_label b (Limit j cause) = not_over b (limit_label b j cause)

-- ---- effects

-- the direction in which the canonical pair of the two terms leads from the first to the second
abbrev pub direction : Tree → Tree → Pair → ℕ
direction s t q = if pair_eq (numbered s t) q then 0 else 1

-- the new pair of a rewriting gains what the sources lost; a trivial pair gains nothing
abbrev pub moved_to : Option Pair → Origin → Tree → Tree → List Name → List Name → List Name → List PlainNode → List PlainNode
moved_to None o rest result from_equation from_right from_left xs = xs
moved_to (Some q) o rest result from_equation from_right from_left xs =
    let n : ℕ = node_of (with_node q o xs) q in
    gains_equation n from_left
    (gains_equation n from_equation
    (gains_rule (record { node = n; dir = direction rest result q }) from_right (with_node q o xs)))

-- each source loses the label, and the canonical pair of the result and the other side gains it: as an equation, or as the rule whose right side is the result
abbrev pub rewritten : List Name → ℕ → ℕ → List ℕ → RuleRef → Found → Tree → Pair → List PlainNode → List PlainNode
rewritten l n w at a found result q xs =
    moved_to (canonical_pair result (other_side q w)) (ByRewrite n w at a) (other_side q w) result
    (meet l (label_at xs n E)) (meet l (label_at xs n (rule_kind (other w)))) (if_strict found (meet l (label_at xs n (rule_kind w))))
    (loses n E l (loses n (rule_kind (other w)) l (loses n (rule_kind w) (if_strict found l) xs)))

-- the process turns the equation into a rule, and keeps the rule as a constraint
abbrev pub oriented : Name → RuleRef → List PlainNode → List PlainNode
oriented p a xs = gains a.node (constraint_kind a.dir) (p ∷ []) (gains a.node (rule_kind a.dir) (p ∷ []) (loses a.node E (p ∷ []) xs))

-- each pair has a node, and the label gains it as an equation
abbrev pub added : List Name → List Deduced → List PlainNode → List PlainNode
added l [] xs = xs
added l (d ∷ ds) xs =
    let ys : List PlainNode = with_node d.pair (ByOverlap d.outer d.inner d.position) xs in
    added l ds (gains_equation (node_of ys d.pair) l ys)

-- a change of the nodes alone
abbrev pub on_nodes : (List PlainNode → List PlainNode) → Plain → Plain
on_nodes f b = record b { nodes = f b.nodes }

-- the list in which these names are added for the two rules
abbrev pub gains_done_in : RuleRef → RuleRef → List Name → List Done → List Done
gains_done_in a c l [] = record { first = a; second = c; names = l } ∷ []
gains_done_in a c l (d ∷ ds) = if ref_eq d.first a && ref_eq d.second c then record d { names = join d.names l } ∷ ds else d ∷ gains_done_in a c l ds

-- the two rules have been overlapped for these processes
abbrev pub gains_done : RuleRef → RuleRef → List Name → Plain → Plain
gains_done a c l b = record b { done = gains_done_in a c l b.done }

-- the place of a reason among the six
abbrev pub reason_number : Reason → ℕ
reason_number Nodes = 0
reason_number Processes = 1
reason_number Size = 2
reason_number Depth = 3
reason_number Variables = 4
reason_number Steps = 5

-- whether two reasons are the same
abbrev pub reason_eq : Reason → Reason → Bool
reason_eq r s = reason_number r == reason_number s

-- these processes give up, but for those that did before
abbrev pub give_up : Reason → List Name → Plain → Plain
give_up r l b = record b { over = map (λ (g : GivenUp). if reason_eq g.reason r then record g { names = join g.names (not_over b l) } else g) b.over }

-- the effect of each kind of proposal, where it meets no limit of the board
abbrev pub applied : Plain → Proposed → Plain
applied b (Facts fs) = record b { facts = b.facts ++ fs }
applied b (Rewrite n w at a found t) = on_nodes (option_map_or (λ q. rewritten (rewrite_label b n.0 w a found) n.0 w at a found (tree_of t) q) (pair_at b n.0) (λ xs. xs)) b
applied b (One p n d c) = certify p c (on_nodes (oriented p (record { node = n.0; dir = d })) b)
applied b (Both p n c0 c1) =
    certify (child p true) c1
    (certify (child p false) c0
    (on_nodes (λ xs. oriented (child p true) (record { node = n.0; dir = 1 }) (oriented (child p false) (record { node = n.0; dir = 0 }) xs)) (fork p b)))
applied b (Refuse p n) = on_nodes (gains n.0 X (p ∷ [])) b
applied b (Deduce a c pairs) = gains_done a c (overlap_label b a c) (on_nodes (added (overlap_label b a c) pairs) b)
applied b (Unjoined p pairs) = on_nodes (added (p ∷ []) pairs) b
applied b (Closed p) = record b { closed = add p b.closed }
applied b (Limit j cause) = b

-- the pairs for which the proposal wants nodes
abbrev pub wanted : Plain → Proposed → List Pair
wanted b (Facts fs) = []
wanted b (Rewrite n w at a found t) = option_to_list (option_and_then (λ q. canonical_pair (tree_of t) (other_side q w)) (pair_at b n.0))
wanted b (One p n d c) = []
wanted b (Both p n c0 c1) = []
wanted b (Refuse p n) = []
wanted b (Deduce a c pairs) = map (λ (d : Deduced). d.pair) pairs
wanted b (Unjoined p pairs) = map (λ (d : Deduced). d.pair) pairs
wanted b (Closed p) = []
wanted b (Limit j cause) = []

-- the nodes with one for each of these pairs
abbrev pub with_nodes : List Pair → List PlainNode → List PlainNode
with_nodes [] xs = xs
with_nodes (q ∷ qs) xs = with_nodes qs (with_node q (Input 0) xs)

-- the proposal is a fork
abbrev pub is_fork : Proposed → Bool
is_fork (Both p n c0 c1) = true
is_fork x = false

-- the reason that the proposal itself brings
abbrev pub own_reason : Proposed → Option Reason
own_reason (Limit j cause) = Some cause.reason
own_reason x = None

-- the first of these, if there is one
abbrev pub first_some : {A : Type 0} → List (Option A) → Option A
first_some [] = None
first_some (None ∷ os) = first_some os
first_some (Some x ∷ os) = Some x

-- the value, where the test says so
abbrev pub some_if : {A : Type 0} → Bool → A → Option A
some_if b x = if b then Some x else None

-- a fork finds no room for one process more
abbrev pub is_crowded : Plain → Proposed → Bool
is_crowded b x = is_fork x && nat_le most_living (length b.living)

-- the new nodes find no room
abbrev pub is_full : Plain → Proposed → Bool
is_full b x = nat_lt most_nodes (length (with_nodes (wanted b x) b.nodes))

-- the limit that the commit comes to: the proposal's own, or want of room
abbrev pub limit_of : Plain → Proposed → Option Reason
limit_of b x = first_some (own_reason x ∷ some_if (is_crowded b x) Processes ∷ some_if (is_full b x) Nodes ∷ [])

-- the commit is counted
abbrev pub counted : Plain → Plain
counted b = record b { commits = b.commits + 1 }

-- what the commit itself does: at a limit the processes of the effect label give up, else the proposal has its effect
abbrev pub acted : Plain → Proposed → Plain
acted b x = counted (option_map_or (λ r. give_up r (effect_label b x) b) (limit_of b x) (applied b x))

-- the board after the commit: then processes fall asleep or wake
abbrev pub effect : Plain → Proposed → Plain
effect b x = settle (acted b x)

-- how the journal writes the effect
abbrev pub effect_entry : Plain → Proposed → Effect
effect_entry b x = option_map_or Over (limit_of b x) (Made x)

-- nothing is left to act on, since other commits came first
abbrev pub is_dropped : Plain → Proposed → Bool
is_dropped b (Facts fs) = false
is_dropped b x = is_empty (effect_label b x)
