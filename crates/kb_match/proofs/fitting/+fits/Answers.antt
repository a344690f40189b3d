use Rattle.std.proofs.Common.{arith, ◌≡◌, ◌<◌, ◌∙◌, sym, ap, length, refl, below_more}
use Rattle.std.specs.Prelude.{map}
use Rattle.kb_term.specs.Tree.{tree_depth, trees_of, apply}
use Rattle.kb_term.specs.View.{tree_of}
use Rattle.kb_term.proofs.Arguments.{argument-is, argument-depth, arguments-length}
use Rattle.kb_match.specs.Fitting.{Fits}
use Rattle.kb_match.proofs.FittingLaws.{fits_same, fit_each, fits_at, fit_length}
use Rattle.kb_match.proofs.fitting.+fits.Goals as goal
use Rattle.kb_match.proofs.fitting.+fits.Goals.{then-f-g-via-then-f-g, then-f-g-via-else-f-g+then-patterns-subjects}

pub returns-then-f-g : goal.returns-then-f-g
returns-then-f-g t c =
    let ps = map tree_of c.items-patterns.result.now in
    let ts = map tree_of c.items-subjects.result.now in
    let whole : tree_of c.args.pattern.now ≡ apply c.in-App-App.f.0 (trees_of ps) = ap tree_of c.in-App-App.is-0 ∙ ap (λ vs. apply c.in-App-App.f.0 (trees_of vs)) (sym c.items-patterns.ensures) in
    let other : tree_of c.args.subject.now ≡ apply c.in-App-App.g.0 (trees_of ts) = ap tree_of c.in-App-App.is-1 ∙ ap (λ vs. apply c.in-App-App.g.0 (trees_of vs)) (sym c.items-subjects.ensures) in (
      (λ e. absurd (cc)),
      λ h. let fit : Fits (apply c.in-App-App.f.0 (trees_of ps)) (apply c.in-App-App.g.0 (trees_of ts)) = fits_same whole other h in
          elim c.then-f-g.branch [
            | then-f-g-via-then-f-g w ↦ absurd (omega (arith, w.if-f-g.true, fit.0))
            | then-f-g-via-else-f-g+then-patterns-subjects w ↦ absurd (omega (arith, w.if-patterns-subjects.true, fit_length ps ts fit.1, arguments-length c.items-patterns.result.now, arguments-length c.items-subjects.result.now))
          ],
    )

pub fits-requires : goal.fits-requires
fits-requires t c =
    let items = c.items-patterns.result.now in
    let us = map tree_of items in
    let i = c.loop-i.i in
    let here = argument-is items us i c.index-patterns-i.result refl c.loop-i-test.true c.index-patterns-i.is in
    let room : i < length us = omega (arith, arguments-length items) in
    let whole : tree_of c.args.pattern.now ≡ apply c.in-App-App.f.0 (trees_of us) = ap tree_of c.in-App-App.is-0 ∙ ap (λ vs. apply c.in-App-App.f.0 (trees_of vs)) (sym c.items-patterns.ensures) in
    (omega (arith, ap tree_depth here, argument-depth us i room, ap tree_depth whole, c.decreases), tt)

pub returns-then-not-fits : goal.returns-then-not-fits
returns-then-not-fits t c =
    let items = c.items-patterns.result.now in
    let others = c.items-subjects.result.now in
    let ps = map tree_of items in
    let ts = map tree_of others in
    let i = c.loop-i.i in
    let room : i < length ps = omega (arith, arguments-length items) in
    let here = argument-is items ps i c.index-patterns-i.result refl c.loop-i-test.true c.index-patterns-i.is in
    let there = argument-is others ts i c.index-subjects-i.result refl (omega (arith, c.loop-i-test.true, c.if-patterns-subjects.false)) c.index-subjects-i.is in
    let whole : tree_of c.args.pattern.now ≡ apply c.in-App-App.f.0 (trees_of ps) = ap tree_of c.in-App-App.is-0 ∙ ap (λ vs. apply c.in-App-App.f.0 (trees_of vs)) (sym c.items-patterns.ensures) in
    let other : tree_of c.args.subject.now ≡ apply c.in-App-App.g.0 (trees_of ts) = ap tree_of c.in-App-App.is-1 ∙ ap (λ vs. apply c.in-App-App.g.0 (trees_of vs)) (sym c.items-subjects.ensures) in (
      (λ e. absurd (cc)),
      λ h. let fit : Fits (apply c.in-App-App.f.0 (trees_of ps)) (apply c.in-App-App.g.0 (trees_of ts)) = fits_same whole other h in
          c.if-not-fits.ensures.1 (fits_same (sym here) (sym there) (fits_at ps ts i room fit.1)),
    )

pub loop-i-preserved : goal.loop-i-preserved
loop-i-preserved t c =
    let items = c.items-patterns.result.now in
    let others = c.items-subjects.result.now in
    let ps = map tree_of items in
    let ts = map tree_of others in
    let i = c.loop-i.i in
    let here = argument-is items ps i c.index-patterns-i.result refl c.loop-i-test.true c.index-patterns-i.is in
    let there = argument-is others ts i c.index-subjects-i.result refl (omega (arith, c.loop-i-test.true, c.if-patterns-subjects.false)) c.index-subjects-i.is in
    below_more _ _ c.loop-i.invariant (fits_same here there (c.if-not-fits.ensures.0 refl))

pub returns-after-loop-i : goal.returns-after-loop-i
returns-after-loop-i t c =
    let items = c.items-patterns.result.now in
    let others = c.items-subjects.result.now in
    let ps = map tree_of items in
    let ts = map tree_of others in
    let whole : tree_of c.args.pattern.now ≡ apply c.in-App-App.f.0 (trees_of ps) = ap tree_of c.in-App-App.is-0 ∙ ap (λ vs. apply c.in-App-App.f.0 (trees_of vs)) (sym c.items-patterns.ensures) in
    let other : tree_of c.args.subject.now ≡ apply c.in-App-App.g.0 (trees_of ts) = ap tree_of c.in-App-App.is-1 ∙ ap (λ vs. apply c.in-App-App.g.0 (trees_of vs)) (sym c.items-subjects.ensures) in
    let one : c.in-App-App.f.0 ≡ c.in-App-App.g.0 = omega (arith, c.if-f-g.false) in
    let fit : Fits (apply c.in-App-App.f.0 (trees_of ps)) (apply c.in-App-App.g.0 (trees_of ts)) = (one, fit_each ps ts (omega (arith, c.if-patterns-subjects.false, arguments-length items, arguments-length others)) (λ j p. c.loop-i.invariant j (omega (arith, p, arguments-length items, c.loop-i-test.false)))) in
    ((λ e. fits_same (sym whole) (sym other) fit), λ h. refl)
