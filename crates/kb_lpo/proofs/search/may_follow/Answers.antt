use Rattle.std.proofs.Common.{◌++◌, ◌∷◌, ◌≤◌, sym, arith}
use Rattle.kb_term.specs.Pair.{place_in}
use Rattle.kb_lpo.specs.Search.{numbers}
use Rattle.kb_lpo.proofs.Answering.{no}
use Rattle.kb_lpo.proofs.First.{above_rest}
use Rattle.kb_lpo.proofs.search.may_follow.Goals as goal

pub returns-then-not-is_listed-clause-sound : goal.returns-then-not-is_listed-clause-sound
returns-then-not-is_listed-clause-sound c = λ rest n fit.
    let xs = numbers c.args.symbols.now in
    let f = c.args.f.0 in
    let y = c.loop-y.y in
    let above : place_in (xs ++ f ∷ rest) y ≤ place_in (xs ++ f ∷ rest) f = c.is_from.ensures c.if-is_from.true (xs ++ f ∷ rest) fit in
    let h = above_rest xs rest f y n (no c.is_listed-then-is_from.ensures c.if-not-is_listed.true) (λ e. c.if-y-f.true (sym e)) in absurd (omega (arith, h, above))
