use Rattle.std.proofs.Common.{◌≡◌, length}
use Rattle.kb_term.specs.View.{tree_of}
use Rattle.kb_decide.specs.Deciding.{IsStrategyStepBy, LeadsBy}
use Rattle.kb_decide.specs.Running.{IsOver}
use Rattle.kb_decide.proofs.normalising.normalised.Given as goal

-- the lines, one for each turn, are the run of the strategy to the term, which is over the signature of the rules
abbrev pub invariant-loop : goal.invariant-loop
invariant-loop l = record {
  over : IsOver l.system (tree_of l.term);
  leads : LeadsBy (IsStrategyStepBy l.system) l.lines.items (tree_of l.t) (tree_of l.term);
  count : length l.lines.items ≡ l.counter;
}
