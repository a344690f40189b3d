use Rattle.std.proofs.Common.{◌≡◌, ◌∙◌, ◌+◌, ◌<◌, suc, ap, sym, arith, length, take}
use Rattle.std.specs.Prelude.{sum_by}
use Rattle.std.proofs.lemmas.List.{length-map}
use Rattle.mkb_rules.specs.Parts.{plain_node, plain_nodes}
use Rattle.mkb_rules.specs.Sizes.{open_share, rule_share, open_share_at, rule_share_at}
use Rattle.mkb_rules.proofs.Paying.{prefix_next}
use Rattle.mkb_rules.proofs.sizes.sizes_of.Goals as goal

pub loop-n-preserved : goal.loop-n-preserved
loop-n-preserved c =
    let xs = plain_nodes c.args.table.now in
    let n = c.loop-n.n in
    let p = c.args.p.now in
    let named = c.loop-n.invariant.process in
    let next : n + 1 ≡ suc n = omega arith in
    let within : n < length xs = omega (arith, c.loop-n-test.true, c.len-n-end.ensures.count, length-map c.args.table.now plain_node) in
    record {
      process = c.in_ok-sizes.ensures.process ∙ named;
      open_is =
          c.in_ok-sizes.ensures.open ∙ ap (λ q. c.loop-n.sizes.open_sizes + open_share_at xs n q) named
          ∙ ap (λ k. k + open_share_at xs n p) c.loop-n.invariant.open_is
          ∙ sym (prefix_next (open_share p) xs n within) ∙ ap (λ k. sum_by (open_share p) (take k xs)) (sym next);
      rules_is =
          c.in_ok-sizes.ensures.rules ∙ ap (λ q. c.loop-n.sizes.rule_sizes + rule_share_at xs n q) named
          ∙ ap (λ k. k + rule_share_at xs n p) c.loop-n.invariant.rules_is
          ∙ sym (prefix_next (rule_share p) xs n within) ∙ ap (λ k. sum_by (rule_share p) (take k xs)) (sym next);
    }
