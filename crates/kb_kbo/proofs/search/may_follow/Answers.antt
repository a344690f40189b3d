use Rattle.std.proofs.Common.{◌++◌, ◌∷◌, sym, subst, arith, ⊎_elim}
use Rattle.std.proofs.lemmas.Bool.{cases_eq}
use Rattle.kb_lpo.specs.Search.{numbers}
use Rattle.kb_lpo.specs.PathOrder.{IsAbove}
use Rattle.kb_lpo.proofs.Answering.{no}
use Rattle.kb_lpo.proofs.First.{above_rest}
use Rattle.kb_kbo.proofs.search.may_follow.Goals as goal

pub returns-then-not-is_listed-clause-sound : goal.returns-then-not-is_listed-clause-sound
returns-then-not-is_listed-clause-sound c = λ rest n fit.
    let xs = numbers c.args.symbols.now in
    let f = c.args.f.0 in
    let y = c.loop-y.y in
    let above : IsAbove (xs ++ f ∷ rest) y f = c.is_above.ensures c.if-is_above.true (xs ++ f ∷ rest) fit in
    absurd (⊎_elim (λ e. let h : IsAbove (xs ++ f ∷ rest) f f = subst (λ z. IsAbove (xs ++ f ∷ rest) z f) (sym e) above in omega (arith, h)) (λ d. let h = above_rest xs rest f y n (no c.is_listed-then-is_above.ensures c.if-not-is_listed.true) d in omega (arith, h, above)) (cases_eq f y))
