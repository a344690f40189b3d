use Rattle.std.proofs.Common.{◌≡◌, true, take}
use Rattle.std.specs.Prelude.{decimal, map}
use Rattle.std.specs.List.{list_all}
use Rattle.kb_trace.specs.TraceText.{is_up_to}
use Rattle.kb_trace.proofs.fields.position_of.Given as goal

-- the argument numbers so far
abbrev pub invariant-loop-k : goal.invariant-loop-k
invariant-loop-k l = record {
  numbers : map decimal l.position ≡ take l.k l.numbers;
  each : list_all (is_up_to 8) l.position ≡ true;
}
