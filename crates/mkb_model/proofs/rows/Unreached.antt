-- Small examples of what the worked ones do not reach: a collapse, a second overlap of the same rules, raw pairs, and the limits of the board.
use Rattle.std.specs.Prelude.{ℕ, [], ◌∷◌, ◌++◌, true, ◌≡◌, refl, replicate, take as list_take}
use Rattle.std.specs.declared.option.Option.TheVariants.{Some, None}
use Rattle.kb_term.specs.Signature.{Problem}
use Rattle.kb_term.specs.declared.origin.Found.TheVariants.{Strict}
use Rattle.kb_term.specs.declared.origin.Origin.TheVariants.{Input}
use Rattle.kb_cert.specs.declared.certificate.Certificate.TheVariants.{Lpo}
use Rattle.mkb_model.specs.Plain.{Plain, cost, view, label, over_reason}
use Rattle.mkb_model.specs.DueJobs.{first_job}
use Rattle.mkb_model.specs.Effects.{effect, effect_entry, is_dropped, limit_of, new_node}
use Rattle.mkb_model.specs.Journals.{opening, stated}
use Rattle.mkb_model.specs.declared.entry.Effect.TheVariants.{Over}
use Rattle.mkb_model.specs.declared.settings.Selection.TheVariants.{Size}
use Rattle.kb_label.specs.declared.verdict.Reason.TheVariants.{Nodes, Processes}
use Rattle.kb_node.specs.declared.node.LabelKind.TheVariants.{E}
use Rattle.kb_node.specs.declared.job.Job.TheVariants.{Reduce, Overlap}
use Rattle.mkb_model.specs.declared.proposed.Proposed.{Proposed}
use Rattle.mkb_model.specs.declared.proposed.Proposed.TheVariants.{Rewrite, One, Both, Refuse, Deduce, Unjoined}
use Rattle.mkb_model.proofs.rows.Replays.{turns}
use Rattle.mkb_model.proofs.rows.Worked.{two_constants, square_constant, square_constant_proposals, two_values, two_values_proposals, p00, fa_is_a, node, rule, constant, unary, symbol, e, p0, given_constant, given_unary}

-- ---- f(a) == c, a == b: the rule f(a) -> c collapses by a -> b into the equation f(b) = c

abbrev pub collapsing : Problem
collapsing = record {
  signature = symbol 102 1 ∷ symbol 97 0 ∷ symbol 99 0 ∷ symbol 98 0 ∷ [];
  equations = (unary 0 (constant 1), constant 2) ∷ (constant 1, constant 3) ∷ [];
}

abbrev pub both_oriented : Plain
both_oriented = effect (effect (opening collapsing (stated 100)) (One e (node 0) 0 (Lpo (0 ∷ 1 ∷ 2 ∷ 3 ∷ [])))) (One e (node 1) 0 (Lpo (0 ∷ 1 ∷ 2 ∷ 3 ∷ [])))

collapse_is_first : first_job both_oriented ≡ Some (Reduce e (node 0))
collapse_is_first = refl

abbrev pub collapsed : Plain
collapsed = effect both_oriented (Rewrite (node 0) 0 (1 ∷ []) (rule 1 0) Strict (given_unary 0 (given_constant 3)))

collapsed_view : view collapsed e ≡ record { equations = 2 ∷ []; rules = rule 1 0 ∷ []; constraints = rule 0 0 ∷ rule 1 0 ∷ [] }
collapsed_view = refl

-- ---- two rules that were overlapped are not overlapped again

overlapped_once : is_dropped (turns 1 (list_take 2 square_constant_proposals) (opening square_constant (stated 100))) (Deduce (rule 0 0) (rule 0 0) (fa_is_a (rule 0 0) (rule 0 0) ∷ [])) ≡ true
overlapped_once = refl

-- ---- of three due overlaps of f(a) -> c and b -> c the stated selection takes that of the older rule with itself, the other one that of the smaller rule with itself

abbrev pub by_size : Plain
by_size = let b : Plain = turns 1 (list_take 7 two_values_proposals) (opening two_values (stated 100)) in record b { living = p00 ∷ []; settings = record (stated 100) { selection = Size } }

smallest_overlap : first_job by_size ≡ Some (Overlap p00 (rule 2 0) (rule 2 0))
smallest_overlap = refl

oldest_overlap : first_job (record by_size { settings = stated 100 }) ≡ Some (Overlap p00 (rule 1 0) (rule 1 0))
oldest_overlap = refl

-- the rules f(a) -> c and b -> c count beside the constraints f(a) -> b and b -> c
cost_by_size : cost by_size p00 ≡ 10
cost_by_size = refl

stated_cost : cost (record by_size { settings = stated 100 }) p00 ≡ 5
stated_cost = refl

-- ---- a raw pair becomes an equation of the process alone

abbrev pub forked_once : Plain
forked_once = turns 1 (Both e (node 0) (Lpo (0 ∷ 1 ∷ [])) (Lpo (1 ∷ 0 ∷ [])) ∷ []) (opening square_constant (stated 100))

raw_pair : label (effect forked_once (Unjoined p0 (fa_is_a (rule 0 0) (rule 0 0) ∷ []))) 1 E ≡ p0 ∷ []
raw_pair = refl

-- ---- a fork with 1,024 living processes

abbrev pub crowded : Plain
crowded = let b : Plain = opening two_constants (stated 100) in record b { living = replicate 1024 e }

abbrev pub forking : Proposed
forking = Both e (node 0) (Lpo (0 ∷ 1 ∷ [])) (Lpo (1 ∷ 0 ∷ []))

crowded_entry : effect_entry crowded forking ≡ Over Processes
crowded_entry = refl

crowded_over : over_reason (effect crowded forking) e ≡ Some Processes
crowded_over = refl

crowded_equation : label (effect crowded forking) 0 E ≡ e ∷ []
crowded_equation = refl

not_crowded : limit_of (let b : Plain = opening two_constants (stated 100) in record b { living = replicate 1023 e }) forking ≡ None
not_crowded = refl

-- ---- 4,096 nodes: a new pair finds no room, one that is there does

abbrev pub with_count : ℕ → Plain
with_count n = record forked_once { nodes = forked_once.nodes ++ replicate n (new_node (record { first = constant 0; second = constant 1 }) (Input 1)) }

abbrev pub deducing : Proposed
deducing = Deduce (rule 0 0) (rule 0 0) (fa_is_a (rule 0 0) (rule 0 0) ∷ [])

full_entry : effect_entry (with_count 4095) deducing ≡ Over Nodes
full_entry = refl

room_left : limit_of (with_count 4094) deducing ≡ None
room_left = refl

present_pair : limit_of (with_count 4095) (Deduce (rule 0 0) (rule 0 0) (record {
  outer = rule 0 0;
  inner = rule 0 0;
  position = [];
  pair = record { first = constant 0; second = constant 1 };
} ∷ [])) ≡ None
present_pair = refl

only_forks_crowd : limit_of crowded (Refuse e (node 0)) ≡ None
only_forks_crowd = refl
