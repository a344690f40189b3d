use Rattle.std.proofs.Common.{◌≡◌, ◌≤◌, length, drop}
use Rattle.std.specs.Prelude.{map}
use Rattle.kb_node.specs.declared.job.Deduced.{Deduced}
use Rattle.mkb_model.specs.Effects.{added, most_nodes, with_nodes}
use Rattle.mkb_rules.proofs.effects.deducing.add_pairs.Given as goal

-- what is left to add
abbrev pub invariant-loop-i : goal.invariant-loop-i
invariant-loop-i l = record {
  rest : added l.names l.pairs l.fn.nodes.now ≡ added l.names (drop l.i l.pairs) l.nodes.now;
  wanted : length (with_nodes (map (λ (d : Deduced). d.pair) l.pairs) l.fn.nodes.now) ≡ length (with_nodes (map (λ (d : Deduced). d.pair) (drop l.i l.pairs)) l.nodes.now);
  few : length l.nodes.now ≤ most_nodes;
  before : l.nodes.before ≡ l.fn.nodes.before;
}
