use Rattle.std.proofs.Common.{◌<◌, refl, ap, ◌∙◌, Err, List, length, arith}
use Rattle.std.specs.Prelude.{slice_get}
use Rattle.kb_term.specs.View.{tree_of}
use Rattle.kb_term.specs.Rule.{Rule}
use Rattle.kb_rewrite.proofs.FirstRedexes.{rule_inside}
use Rattle.kb_jobs.proofs.Reduced.{rewriting, large, read_at}
use Rattle.kb_jobs.proofs.reducing.rewrite.Goals as goal

pub returns-in-Ok : goal.returns-in-Ok
returns-in-Ok c =
    let s = c.args.s.now in
    let f = c.requires.first.0 in
    let inside : c.args.redex.rule < length s.rules.names.items = omega (arith, c.requires.reducible.rules.as_many, rule_inside s.rules.rules c.args.redex.rule f.redex.rule f.redex.there) in (
      refl,
      rewriting s c.requires.reducible c.args.w c.args.redex c.index-rule.result.now (tree_of c.args.t.now) c.step-stepped.result c.in-Ok.result c.requires.side c.requires.term c.requires.first
          (read_at s.rules.names.items c.args.redex.rule c.index-rule.result.now inside c.index-rule.ensures)
          (λ r e. c.step-stepped.ensures r (ap (λ (rs : List Rule). slice_get rs c.args.redex.rule) c.as_slice.ensures ∙ e)) c.in-Ok.is c.requires.before,
    )

pub returns : goal.returns
returns c =
    let s = c.args.s.now in
    let f = c.requires.first.0 in
    let inside : c.args.redex.rule < length s.rules.names.items = omega (arith, c.requires.reducible.rules.as_many, rule_inside s.rules.rules c.args.redex.rule f.redex.rule f.redex.there) in (
      refl,
      large s c.requires.reducible c.args.w c.args.redex c.index-rule.result.now (tree_of c.args.t.now) c.step-stepped.result c.in-Large.limit _ c.requires.side c.requires.term c.requires.first
          (read_at s.rules.names.items c.args.redex.rule c.index-rule.result.now inside c.index-rule.ensures)
          (λ r e. c.step-stepped.ensures r (ap (λ (rs : List Rule). slice_get rs c.args.redex.rule) c.as_slice.ensures ∙ e)) (c.in-Err.is ∙ ap Err c.in-Large.is) c.requires.before refl c.reason_of.ensures,
    )
