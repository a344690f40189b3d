-- The steps that the rules and the constraints of an answer cite.
use Rattle.std.specs.Prelude.{ℕ, ◌+◌, List}
use Rattle.std.specs.List.{position_or_len}
use Rattle.std.specs.Option.{option_map_or}
use Rattle.kb_term.specs.Pair.{Pair}
use Rattle.kb_term.specs.declared.origin.RuleRef.{RuleRef}
use Rattle.kb_overlap.specs.Trace.{TraceStep}
use Rattle.mkb_model.specs.Plain.{Plain, pair_at}
use Rattle.mkb_model.specs.Effects.{pair_eq}

-- the number, from 1, of the first step with the pair
abbrev pub number_with : List TraceStep → Pair → ℕ
number_with trace q = position_or_len (λ (s : TraceStep). pair_eq s.pair q) trace + 1

-- the number of the first step with the pair of the rule's node
abbrev pub cited_by : Plain → List TraceStep → RuleRef → ℕ
cited_by b trace a = option_map_or (number_with trace) (pair_at b a.node) 0
