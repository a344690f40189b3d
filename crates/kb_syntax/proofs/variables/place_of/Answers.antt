use Rattle.std.proofs.Common.{refl, arith}
use Rattle.kb_syntax.proofs.PlacedLaws.{place_kept, place_lost}
use Rattle.kb_syntax.proofs.variables.place_of.Goals.{else-at-found-via-then-at-found+else-found-at, else-at-found-via-else-at-found}
use Rattle.kb_syntax.proofs.variables.place_of.Goals as goal

pub returns-then-found-at : goal.returns-then-found-at
returns-then-found-at c = place_kept c.args.found.now c.args.places.now c.args.number _ c.requires.placed refl c.if-at-found.true c.if-found-at.true

pub returns-else-at-found : goal.returns-else-at-found
returns-else-at-found c =
    place_lost c.args.found.now c.args.places.now c.args.number _ c.requires.placed refl
    (λ inside same. elim c.else-at-found.branch [ else-at-found-via-then-at-found+else-found-at w ↦ w.if-found-at.false same | else-at-found-via-else-at-found w ↦ absurd (omega (arith, inside, w.if-at-found.false)) ])
