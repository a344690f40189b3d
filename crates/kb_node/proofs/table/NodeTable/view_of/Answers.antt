use Rattle.std.proofs.Common.{◌<◌, ◌≡◌, ◌++◌, ◌∙◌, length, get_or, sym, ap, arith}
use Rattle.std.proofs.lemmas.Option.{get_or_from_slice_get}
use Rattle.kb_node.specs.Stored.{node_of, pair_in, nodes_in}
use Rattle.kb_node.specs.Views.{equation_at, rules_at, constraints_at}
use Rattle.kb_node.proofs.Finding.{no_sides}
use Rattle.kb_node.proofs.Kept.{count, node_read}
use Rattle.kb_node.proofs.Viewed.{viewed-more}
use Rattle.kb_node.proofs.table.NodeTable.view_of.Goals as goal

pub loop-i-preserved : goal.loop-i-preserved
loop-i-preserved g c =
    let items = (nodes_in c.self.inside.bank c.self.inside.sides.keys c.self.inside.entries.items) in
    let i = c.loop-i.i in
    let there : i < length c.self.inside.entries.items = omega (arith, c.loop-i-test.true, c.len-i-end.ensures) in
    let node = node_of (pair_in c.self.inside.bank (get_or c.self.inside.sides.keys i no_sides)) c.index-entry.result.now in
    let within : i < length items = omega (arith, there, count c.self.inside.bank c.self.inside.sides.keys c.self.inside.starts.items c.self.inside.entries.items c.self.invariant) in
    let is : node ≡ get_or items i node = sym (get_or_from_slice_get items i node node (node_read c.self.inside.bank c.self.inside.sides.keys c.self.inside.starts.items c.self.inside.entries.items c.self.invariant i c.index-entry.result.now there c.index-entry.ensures)) in
    record {
      equations =
          c.in_ok-push_equation.ensures ∙ ap (λ l. l ++ equation_at g.L.Labels.names_under c.args.log.now c.args.p.now (i, node)) c.loop-i.invariant.equations
          ∙ sym (viewed-more (equation_at g.L.Labels.names_under c.args.log.now c.args.p.now) items i node within is);
      rules =
          c.in_ok-push_directions.ensures ∙ ap (λ l. l ++ rules_at g.L.Labels.names_under c.args.log.now c.args.p.now (i, node)) c.loop-i.invariant.rules
          ∙ sym (viewed-more (rules_at g.L.Labels.names_under c.args.log.now c.args.p.now) items i node within is);
      constraints =
          c.in_ok-push_directions-2.ensures ∙ ap (λ l. l ++ constraints_at g.L.Labels.names_under c.args.log.now c.args.p.now (i, node)) c.loop-i.invariant.constraints
          ∙ sym (viewed-more (constraints_at g.L.Labels.names_under c.args.log.now c.args.p.now) items i node within is);
    }
