use Rattle.std.proofs.Common.{◌-◌, length}
use Rattle.kb_syntax.specs.Looks.{look_side}
use Rattle.kb_syntax.specs.Reader.{TellsLast, place_look}
use Rattle.kb_syntax.proofs.Reached.{Reached}
use Rattle.kb_syntax.proofs.parse.read_tokens.Given as goal

-- the reader stands behind the tokens so far, which show nothing
abbrev pub invariant-loop-kind : goal.invariant-loop-kind
invariant-loop-kind l = record {
  reached : Reached l.text l.at l.number l.reader;
  told : TellsLast l.reader.notes.variables.declared (look_side (place_look l.reader.place)) l.last_is_variable;
}

abbrev pub decreases-loop-kind : goal.decreases-loop-kind
decreases-loop-kind l = length l.text - l.at
