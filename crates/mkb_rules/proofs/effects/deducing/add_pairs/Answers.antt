use Rattle.std.proofs.Common.{◌+◌, ◌<◌, ◌∙◌, Err, ℕ, List, length, drop, map, ap, sym, subst, arith}
use Rattle.std.proofs.lemmas.Result.{err_from_is_err_and}
use Rattle.kb_node.specs.declared.job.Deduced.{Deduced}
use Rattle.mkb_model.specs.Effects.{added, most_nodes, with_nodes}
use Rattle.mkb_rules.proofs.Rows.{drop_at}
use Rattle.mkb_model.proofs.nodes.NewPairs.{wanted-add_one}
use Rattle.mkb_rules.proofs.SamePairs.{overfull}
use Rattle.mkb_rules.proofs.effects.deducing.add_pairs.Goals as goal

pub returns-in_err-add_pair-clause-full : goal.returns-in_err-add_pair-clause-full
returns-in_err-add_pair-clause-full c =
    let p = err_from_is_err_and c.from_residual.result c.from_residual.ensures.1 in
    let d = c.index-pairs-i.result in
    let within : c.loop-i.i < length c.args.pairs.now = omega (arith, c.loop-i-test.true, c.loop-i.auto.i-end) in
    λ e.
    let full = c.in_err-add_pair.ensures.full (ap Err (sym p.2) ∙ sym p.1 ∙ e) in
    subst {A = ℕ} (λ n. most_nodes < n)
    (sym (c.loop-i.invariant.wanted ∙ ap (λ (ds : List Deduced). length (with_nodes (map (λ (x : Deduced). x.pair) ds) c.loop-i.nodes.now)) (drop_at c.args.pairs.now c.loop-i.i d within c.index-pairs-i.is)))
    (overfull d.pair (map (λ (x : Deduced). x.pair) (drop (c.loop-i.i + 1) c.args.pairs.now)) c.loop-i.nodes.now full.0 full.1)

pub loop-i-preserved : goal.loop-i-preserved
loop-i-preserved c =
    let d = c.index-pairs-i.result in
    let within : c.loop-i.i < length c.args.pairs.now = omega (arith, c.loop-i-test.true, c.loop-i.auto.i-end) in
    let rest = drop_at c.args.pairs.now c.loop-i.i d within c.index-pairs-i.is in
    let after = drop (c.loop-i.i + 1) c.args.pairs.now in
    record {
      rest = c.loop-i.invariant.rest ∙ ap (λ ds. added c.args.names.now ds c.loop-i.nodes.now) rest ∙ ap (added c.args.names.now after) (sym c.in_ok-add_pair.ensures.ok);
      wanted =
          c.loop-i.invariant.wanted
          ∙ ap (λ (ds : List Deduced). length (with_nodes (map (λ (e : Deduced). e.pair) ds) c.loop-i.nodes.now)) rest
          ∙ wanted-add_one c.args.names.now d (map (λ (e : Deduced). e.pair) after) c.loop-i.nodes.now
          ∙ ap (λ xs. length (with_nodes (map (λ (e : Deduced). e.pair) after) xs)) (sym c.in_ok-add_pair.ensures.ok);
      few = c.in_ok-add_pair.ensures.few;
      before = c.add_pair.ensures.before ∙ c.loop-i.invariant.before;
    }
