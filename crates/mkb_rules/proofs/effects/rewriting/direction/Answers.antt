use Rattle.kb_term.specs.Pair.{numbered}
use Rattle.kb_term.specs.View.{tree_of}
use Rattle.mkb_model.specs.Effects.{pair_eq}
use Rattle.mkb_rules.proofs.Directions.{leads_forth, not_so}
use Rattle.mkb_rules.proofs.effects.rewriting.direction.Goals as goal

pub returns-then-not-fit_sides-2 : goal.returns-then-not-fit_sides-2
returns-then-not-fit_sides-2 c =
    let s = tree_of c.args.rest.now in
    let t = tree_of c.args.outcome.now in
    leads_forth s t c.args.pair.now c.requires.of_both (not_so (pair_eq (numbered t s) c.args.pair.now) c.fit_sides-2.result c.fit_sides-2.ensures c.if-not-fit_sides-2.true)
