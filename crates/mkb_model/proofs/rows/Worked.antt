-- Worked examples, computed.
use Rattle.std.specs.Prelude.{ℕ, map, List, [], ◌∷◌, true, false, ◌≡◌, refl, length, take as list_take}
use Rattle.std.specs.declared.option.Option.TheVariants.{Some, None}
use Rattle.kb_term.specs.Tree.{Tree, variable, apply, no_trees, more_trees}
use Rattle.kb_term.specs.Signature.{Problem, SymbolEntry}
use Rattle.kb_term.specs.declared.origin.Origin.TheVariants.{Input, Rewrite as ByRewrite}
use Rattle.kb_label.specs.Names.{Name}
use Rattle.mkb_model.specs.Plain.{Plain, PlainNode, cost, view, label}
use Rattle.mkb_model.specs.Effects.{effect_label, is_dropped}
use Rattle.kb_node.specs.declared.job.Deduced.{Deduced}
use Rattle.kb_node.specs.declared.node.LabelKind.TheVariants.{E}
use Rattle.kb_label.specs.declared.verdict.Reason.TheVariants.{Depth}
use Rattle.kb_label.specs.declared.verdict.Spent.TheVariants.{Commits, Over}
use Rattle.mkb_model.specs.DueJobs.{first_job}
use Rattle.mkb_model.specs.Verdicts.{verdict}
use Rattle.mkb_model.specs.Journals.{opening, stated}
use Rattle.mkb_model.proofs.rows.Replays.{turns, first_jobs, take, finish}
use Rattle.kb_term.specs.View.{tree_of}
use Rattle.kb_term.specs.declared.term.Term.{Term}
use Rattle.kb_term.specs.declared.term.Term.TheVariants.{App}
use Rattle.kb_term.specs.declared.origin.Found.TheVariants.{No, Variant}
use Rattle.kb_node.specs.declared.job.Fact.{Fact}
use Rattle.kb_term.specs.declared.origin.RuleRef.{RuleRef}
use Rattle.kb_cert.specs.declared.certificate.Certificate.TheVariants.{Lpo}
use Rattle.kb_label.specs.declared.verdict.Verdict.TheVariants.{Complete, AllFailed, Spent}
use Rattle.kb_node.specs.declared.job.Job.TheVariants.{Reduce, Orient, Overlap, Close}
use Rattle.mkb_model.specs.declared.proposed.Proposed.{Proposed}
use Rattle.mkb_model.specs.declared.proposed.Proposed.TheVariants.{Facts, Rewrite, One, Both, Refuse, Deduce, Closed, Limit}
use Rattle.kb_node.specs.declared.node.NodeId.{NodeId}

abbrev pub node : ℕ → NodeId
node n = record { 0 = n }

abbrev pub rule : ℕ → ℕ → RuleRef
rule n d = record { node = n; dir = d }

-- the symbol with this letter as its name
abbrev pub symbol : ℕ → ℕ → SymbolEntry
symbol letter arity = record { name = letter ∷ []; arity = arity }

abbrev pub constant : ℕ → Tree
constant f = apply f no_trees

abbrev pub binary : ℕ → Tree → Tree → Tree
binary f s t = apply f (more_trees s (more_trees t no_trees))

abbrev pub unary : ℕ → Tree → Tree
unary f t = apply f (more_trees t no_trees)

-- the processes e, 0 and 1
abbrev pub e : Name
e = []

abbrev pub p0 : Name
p0 = false ∷ []

abbrev pub p1 : Name
p1 = true ∷ []

abbrev pub p00 : Name
p00 = false ∷ false ∷ []

abbrev pub p01 : Name
p01 = false ∷ true ∷ []

-- the terms of the program
abbrev pub given_constant : ℕ → Term
given_constant f = App (record { 0 = f }) []

abbrev pub given_unary : ℕ → Term → Term
given_unary f t = App (record { 0 = f }) (tree_of t ∷ [])

abbrev pub fact : ℕ → ℕ → RuleRef → Fact
fact n w a = record { node = node n; side = w; rule = a; found = No }

-- ---- a == b: a fork, no overlap, and process 0 closes

abbrev pub two_constants : Problem
two_constants = record { signature = symbol 97 0 ∷ symbol 98 0 ∷ []; equations = (constant 0, constant 1) ∷ [] }

abbrev pub two_constants_proposals : List Proposed
two_constants_proposals =
    Both e (node 0) (Lpo (0 ∷ 1 ∷ [])) (Lpo (1 ∷ 0 ∷ []))
    ∷ Deduce (rule 0 0) (rule 0 0) []
    ∷ Closed p0
    ∷ []

two_constants_jobs : first_jobs 1 two_constants_proposals (opening two_constants (stated 100)) ≡
    Some (Orient e (node 0))
    ∷ Some (Overlap p0 (rule 0 0) (rule 0 0))
    ∷ Some (Close p0)
    ∷ Some (Overlap p1 (rule 0 1) (rule 0 1))
    ∷ []
two_constants_jobs = refl

two_constants_verdict : verdict (turns 1 two_constants_proposals (opening two_constants (stated 100))) ≡ Some (Complete p0)
two_constants_verdict = refl

-- ---- f(x,y) == f(y,x): refused in both directions, and closed with its equation

abbrev pub commuting : Problem
commuting = record { signature = symbol 102 2 ∷ []; equations = (binary 0 (variable 0) (variable 1), binary 0 (variable 1) (variable 0)) ∷ [] }

abbrev pub commuting_proposals : List Proposed
commuting_proposals = Refuse e (node 0) ∷ Closed e ∷ []

commuting_jobs : first_jobs 1 commuting_proposals (opening commuting (stated 100)) ≡ Some (Orient e (node 0)) ∷ Some (Close e) ∷ None ∷ []
commuting_jobs = refl

commuting_verdict : verdict (turns 1 commuting_proposals (opening commuting (stated 100))) ≡ Some AllFailed
commuting_verdict = refl

-- ---- f(f(x)) == g(x): a fork; process 0 deduces an equation, and process 1, which costs less from then on, closes

abbrev pub square : Problem
square = record { signature = symbol 102 1 ∷ symbol 103 1 ∷ []; equations = (unary 0 (unary 0 (variable 0)), unary 1 (variable 0)) ∷ [] }

abbrev pub square_proposals : List Proposed
square_proposals =
    Both e (node 0) (Lpo (0 ∷ 1 ∷ [])) (Lpo (1 ∷ 0 ∷ []))
    ∷ Deduce (rule 0 0) (rule 0 0) (record {
      outer = rule 0 0;
      inner = rule 0 0;
      position = 1 ∷ [];
      pair = record { first = unary 0 (unary 1 (variable 0)); second = unary 1 (unary 0 (variable 0)) };
    } ∷ [])
    ∷ Deduce (rule 0 1) (rule 0 1) []
    ∷ Closed p1
    ∷ []

square_jobs : first_jobs 1 square_proposals (opening square (stated 100)) ≡
    Some (Orient e (node 0))
    ∷ Some (Overlap p0 (rule 0 0) (rule 0 0))
    ∷ Some (Overlap p1 (rule 0 1) (rule 0 1))
    ∷ Some (Close p1)
    ∷ Some (Reduce p0 (node 1))
    ∷ []
square_jobs = refl

abbrev pub square_end : Plain
square_end = turns 1 square_proposals (opening square (stated 100))

square_verdict : verdict square_end ≡ Some (Complete p1)
square_verdict = refl

square_cost0 : cost square_end p0 ≡ 11
square_cost0 = refl

square_cost1 : cost square_end p1 ≡ 5
square_cost1 = refl

square_nodes : length square_end.nodes ≡ 2
square_nodes = refl

square_commits : square_end.commits ≡ 4
square_commits = refl

-- ---- f(a) == b, f(a) == c: eleven commits, with a simplified equation, a composed rule and two forks

abbrev pub two_values : Problem
two_values = record {
  signature = symbol 102 1 ∷ symbol 97 0 ∷ symbol 98 0 ∷ symbol 99 0 ∷ [];
  equations = (unary 0 (constant 1), constant 2) ∷ (unary 0 (constant 1), constant 3) ∷ [];
}

abbrev pub two_values_proposals : List Proposed
two_values_proposals =
    Both e (node 0) (Lpo (0 ∷ 1 ∷ 2 ∷ 3 ∷ [])) (Lpo (2 ∷ 0 ∷ 1 ∷ 3 ∷ []))
    ∷ Rewrite (node 1) 0 [] (rule 0 0) Variant (given_constant 2)
    ∷ Facts (fact 2 0 (rule 0 0) ∷ fact 2 1 (rule 0 0) ∷ [])
    ∷ Both p0 (node 2) (Lpo (0 ∷ 1 ∷ 2 ∷ 3 ∷ [])) (Lpo (0 ∷ 1 ∷ 3 ∷ 2 ∷ []))
    ∷ Rewrite (node 0) 1 [] (rule 2 0) Variant (given_constant 3)
    ∷ Facts (fact 1 0 (rule 2 0) ∷ fact 1 1 (rule 2 0) ∷ [])
    ∷ Facts (fact 2 0 (rule 1 0) ∷ fact 2 1 (rule 1 0) ∷ [])
    ∷ Deduce (rule 1 0) (rule 1 0) []
    ∷ Deduce (rule 1 0) (rule 2 0) []
    ∷ Deduce (rule 2 0) (rule 2 0) []
    ∷ Closed p00
    ∷ []

two_values_jobs : first_jobs 1 two_values_proposals (opening two_values (stated 100)) ≡
    Some (Orient e (node 0))
    ∷ Some (Reduce p0 (node 1))
    ∷ Some (Reduce p0 (node 2))
    ∷ Some (Orient p0 (node 2))
    ∷ Some (Reduce p00 (node 0))
    ∷ Some (Reduce p00 (node 1))
    ∷ Some (Reduce p00 (node 2))
    ∷ Some (Overlap p00 (rule 1 0) (rule 1 0))
    ∷ Some (Overlap p00 (rule 1 0) (rule 2 0))
    ∷ Some (Overlap p00 (rule 2 0) (rule 2 0))
    ∷ Some (Close p00)
    ∷ Some (Reduce p01 (node 0))
    ∷ []
two_values_jobs = refl

abbrev pub two_values_end : Plain
two_values_end = turns 1 two_values_proposals (opening two_values (stated 100))

two_values_verdict : verdict two_values_end ≡ Some (Complete p00)
two_values_verdict = refl

two_values_living : two_values_end.living ≡ p1 ∷ p00 ∷ p01 ∷ []
two_values_living = refl

two_values_view : view two_values_end p00 ≡ record { equations = []; rules = rule 1 0 ∷ rule 2 0 ∷ []; constraints = rule 0 0 ∷ rule 2 0 ∷ [] }
two_values_view = refl

-- ---- the same with a budget of one commit

one_commit_verdict : verdict (turns 1 (Both e (node 0) (Lpo (0 ∷ 1 ∷ 2 ∷ 3 ∷ [])) (Lpo (2 ∷ 0 ∷ 1 ∷ 3 ∷ [])) ∷ []) (opening two_values (stated 1))) ≡ Some (Spent Commits)
one_commit_verdict = refl

-- ---- f(f(x)) == a: eight commits; the pair of the last overlap is there already, as a rule

abbrev pub square_constant : Problem
square_constant = record { signature = symbol 102 1 ∷ symbol 97 0 ∷ []; equations = (unary 0 (unary 0 (variable 0)), constant 1) ∷ [] }

abbrev pub fa_is_a : RuleRef → RuleRef → Deduced
fa_is_a outer inner = record { outer = outer; inner = inner; position = 1 ∷ []; pair = record { first = unary 0 (constant 1); second = constant 1 } }

abbrev pub square_constant_proposals : List Proposed
square_constant_proposals =
    One e (node 0) 0 (Lpo (0 ∷ 1 ∷ []))
    ∷ Deduce (rule 0 0) (rule 0 0) (fa_is_a (rule 0 0) (rule 0 0) ∷ [])
    ∷ Facts (fact 1 0 (rule 0 0) ∷ fact 1 1 (rule 0 0) ∷ [])
    ∷ One e (node 1) 0 (Lpo (0 ∷ 1 ∷ []))
    ∷ Facts (fact 0 0 (rule 1 0) ∷ fact 0 1 (rule 1 0) ∷ [])
    ∷ Deduce (rule 0 0) (rule 1 0) (fa_is_a (rule 0 0) (rule 1 0) ∷ [])
    ∷ Deduce (rule 1 0) (rule 1 0) []
    ∷ Closed e
    ∷ []

square_constant_jobs : first_jobs 1 square_constant_proposals (opening square_constant (stated 100)) ≡
    Some (Orient e (node 0))
    ∷ Some (Overlap e (rule 0 0) (rule 0 0))
    ∷ Some (Reduce e (node 1))
    ∷ Some (Orient e (node 1))
    ∷ Some (Reduce e (node 0))
    ∷ Some (Overlap e (rule 0 0) (rule 1 0))
    ∷ Some (Overlap e (rule 1 0) (rule 1 0))
    ∷ Some (Close e)
    ∷ None
    ∷ []
square_constant_jobs = refl

square_constant_verdict : verdict (turns 1 square_constant_proposals (opening square_constant (stated 100))) ≡ Some (Complete e)
square_constant_verdict = refl

-- ---- a limit stops the only process

stopped_verdict : verdict (turns 1 (One e (node 0) 0 (Lpo (0 ∷ 1 ∷ [])) ∷ Limit (Overlap e (rule 0 0) (rule 0 0)) (record { redex = None; reason = Depth }) ∷ []) (opening square_constant (stated 100))) ≡ Some (Spent (Over Depth))
stopped_verdict = refl

-- ---- f(f(x)) == a, b == c with tickets in flight: a fork while the overlap of the forked process is under way

abbrev pub fork_in_flight : Problem
fork_in_flight = record {
  signature = symbol 102 1 ∷ symbol 97 0 ∷ symbol 98 0 ∷ symbol 99 0 ∷ [];
  equations = (unary 0 (unary 0 (variable 0)), constant 1) ∷ (constant 2, constant 3) ∷ [];
}

-- two tickets are finished, and two are in flight
abbrev pub fork_in_flight_flying : Plain
fork_in_flight_flying = take 4 (take 3 (turns 1 (One e (node 0) 0 (Lpo (0 ∷ 1 ∷ 2 ∷ 3 ∷ [])) ∷ Facts (fact 1 0 (rule 0 0) ∷ fact 1 1 (rule 0 0) ∷ []) ∷ []) (opening fork_in_flight (stated 100))))

fork_in_flight_flight : fork_in_flight_flying.flight ≡
    record { number = 3; worker = 1; job = Orient e (node 1) }
    ∷ record { number = 4; worker = 1; job = Overlap e (rule 0 0) (rule 0 0) }
    ∷ []
fork_in_flight_flight = refl

fork_in_flight_idle : first_job fork_in_flight_flying ≡ None
fork_in_flight_idle = refl

abbrev pub fork_in_flight_end : Plain
fork_in_flight_end = finish 4 (Deduce (rule 0 0) (rule 0 0) (fa_is_a (rule 0 0) (rule 0 0) ∷ [])) (finish 3 (Both e (node 1) (Lpo (0 ∷ 1 ∷ 2 ∷ 3 ∷ [])) (Lpo (0 ∷ 1 ∷ 3 ∷ 2 ∷ []))) fork_in_flight_flying)

fork_in_flight_equation : label fork_in_flight_end 2 E ≡ p0 ∷ p1 ∷ []
fork_in_flight_equation = refl

-- ---- f(a) == b, f(a) == c with tickets in flight: an orientation is dropped, since its equation was rewritten meanwhile

abbrev pub drop_in_flight_flying : Plain
drop_in_flight_flying = take 3 (take 2 (turns 1 (Both e (node 0) (Lpo (0 ∷ 1 ∷ 2 ∷ 3 ∷ [])) (Lpo (2 ∷ 0 ∷ 1 ∷ 3 ∷ [])) ∷ []) (opening two_values (stated 100))))

drop_in_flight_flight : drop_in_flight_flying.flight ≡
    record { number = 2; worker = 1; job = Reduce p0 (node 1) }
    ∷ record { number = 3; worker = 1; job = Orient p0 (node 1) }
    ∷ []
drop_in_flight_flight = refl

drop_in_flight_drop : is_dropped (finish 2 (Rewrite (node 1) 0 [] (rule 0 0) Variant (given_constant 2)) drop_in_flight_flying) (One p0 (node 1) 0 (Lpo (0 ∷ 1 ∷ 2 ∷ 3 ∷ []))) ≡ true
drop_in_flight_drop = refl

-- ---- the same after four tickets: a rule is composed while its overlaps are under way

abbrev pub compose_in_flight_flying : Plain
compose_in_flight_flying = take 7 (take 6 (take 5 (turns 1 (list_take 4 two_values_proposals) (opening two_values (stated 100)))))

compose_in_flight_flight : compose_in_flight_flying.flight ≡
    record { number = 5; worker = 1; job = Reduce p00 (node 0) }
    ∷ record { number = 6; worker = 1; job = Overlap p00 (rule 0 0) (rule 0 0) }
    ∷ record { number = 7; worker = 1; job = Overlap p00 (rule 0 0) (rule 2 0) }
    ∷ []
compose_in_flight_flight = refl

abbrev pub compose_in_flight_after : Plain
compose_in_flight_after = finish 5 (Rewrite (node 0) 1 [] (rule 2 0) Variant (given_constant 3)) compose_in_flight_flying

compose_in_flight_label : effect_label compose_in_flight_after (Deduce (rule 0 0) (rule 0 0) []) ≡ p01 ∷ []
compose_in_flight_label = refl

compose_in_flight_drop : is_dropped (finish 6 (Deduce (rule 0 0) (rule 0 0) []) compose_in_flight_after) (Deduce (rule 0 0) (rule 2 0) []) ≡ true
compose_in_flight_drop = refl

-- ---- x == f(x): the rule leads from side 1, since a variable comes first in the pair

abbrev pub identity_law : Problem
identity_law = record { signature = symbol 102 1 ∷ []; equations = (unary 0 (variable 0), variable 0) ∷ [] }

abbrev pub identity_law_proposals : List Proposed
identity_law_proposals = One e (node 0) 1 (Lpo (0 ∷ [])) ∷ Deduce (rule 0 1) (rule 0 1) [] ∷ Closed e ∷ []

identity_law_jobs : first_jobs 1 identity_law_proposals (opening identity_law (stated 100)) ≡ Some (Orient e (node 0)) ∷ Some (Overlap e (rule 0 1) (rule 0 1)) ∷ Some (Close e) ∷ None ∷ []
identity_law_jobs = refl

identity_law_verdict : verdict (turns 1 identity_law_proposals (opening identity_law (stated 100))) ≡ Some (Complete e)
identity_law_verdict = refl

-- ---- a == a: no node, and a close at once

abbrev pub trivial_one : Problem
trivial_one = record { signature = symbol 97 0 ∷ []; equations = (constant 0, constant 0) ∷ [] }

trivial_one_nodes : (opening trivial_one (stated 100)).nodes ≡ []
trivial_one_nodes = refl

trivial_one_job : first_job (opening trivial_one (stated 100)) ≡ Some (Close e)
trivial_one_job = refl

-- ---- f(x) == x, f(y) == y: one node, from the first equation

abbrev pub repeated_one : Problem
repeated_one = record { signature = symbol 102 1 ∷ []; equations = (unary 0 (variable 0), variable 0) ∷ (unary 0 (variable 0), variable 0) ∷ [] }

repeated_one_origins : map (λ (x : PlainNode). x.origin) (opening repeated_one (stated 100)).nodes ≡ Input 1 ∷ []
repeated_one_origins = refl

-- ---- f(a) == b, f(a) == c at the end of its run: where the nodes came from

two_values_origins : map (λ (x : PlainNode). x.origin) two_values_end.nodes ≡ Input 1 ∷ Input 2 ∷ ByRewrite 1 0 [] (rule 0 0) ∷ []
two_values_origins = refl
