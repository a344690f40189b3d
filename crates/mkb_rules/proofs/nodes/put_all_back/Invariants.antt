use Rattle.std.proofs.Common.{◌≡◌, ◌<◌, length, vec_len}
use Rattle.std.specs.Prelude.{All}
use Rattle.mkb_rules.specs.Parts.{plain_nodes}
use Rattle.mkb_rules.specs.Nodes.{put_back}
use Rattle.mkb_rules.specs.declared.nodes.Replaced.{Replaced}
use Rattle.mkb_rules.proofs.nodes.put_all_back.Given as goal

abbrev pub invariant-loop-last : goal.invariant-loop-last
invariant-loop-last l = record {
  there : All (λ (r : Replaced). r.node.0 < length l.table) l.replaced.items;
  same : put_back l.replaced.items (plain_nodes l.table) ≡ put_back l.fn.replaced.items (plain_nodes l.fn.table);
}

abbrev pub decreases-loop-last : goal.decreases-loop-last
decreases-loop-last l = vec_len l.replaced
