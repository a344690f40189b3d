use Rattle.std.proofs.Common.{subst, sym}
use Rattle.kb_term.specs.Tree.{Tree}
use Rattle.kb_term.specs.View.{tree_of}
use Rattle.kb_match.specs.Fitting.{Fits}
use Rattle.mkb_rules.proofs.Directions.{first_fits, second_fits}
use Rattle.mkb_rules.proofs.effects.rewriting.fit_sides.Goals as goal

pub returns-then-fits : goal.returns-then-fits
returns-then-fits c = λ e.
    let s = tree_of c.args.first.now in
    let t = tree_of c.args.second.now in
    c.fits-then-fits.ensures.1 (subst {A = Tree} (Fits t) (sym c.second.ensures.side) (second_fits s t c.args.pair.now e))

pub returns-else-fits : goal.returns-else-fits
returns-else-fits c = λ e.
    let s = tree_of c.args.first.now in
    let t = tree_of c.args.second.now in
    c.fits.ensures.1 (subst {A = Tree} (Fits s) (sym c.first.ensures.side) (first_fits s t c.args.pair.now e))
