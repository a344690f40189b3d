use Rattle.std.proofs.Common.{◌<◌, ◌∙◌, length}
use Rattle.std.proofs.lemmas.List.Elements.{All-take}
use Rattle.mkb_rules.specs.declared.nodes.Replaced.{Replaced}
use Rattle.mkb_rules.proofs.PutBack.{put_back-last}
use Rattle.mkb_rules.proofs.nodes.put_all_back.Goals as goal

pub loop-last-preserved : goal.loop-last-preserved
loop-last-preserved c =
    let last = c.in-Some.last in
    record {
      there =
          rw (c.in-Some.ensures.rest, c.put_one_back.ensures.count)
          (All-take (λ (r : Replaced). r.node.0 < length c.loop-last.table) _ c.loop-last.replaced.items c.loop-last.invariant.there);
      same =
          put_back-last c.loop-last.table c.put_one_back.new.table c.loop-last.replaced.items c.pop.new.self.items last c.in-Some.ensures.items c.put_one_back.ensures.nodes
          ∙ c.loop-last.invariant.same;
    }
