use Rattle.std.proofs.Common.{◌∙◌, sym, ap}
use Rattle.kb_unify.specs.declared.extent.Extent.{Extent}
use Rattle.kb_unify.proofs.Measuring.{extents_of-at, extents_of-none}
use Rattle.kb_unify.proofs.reading.known_at.Goals as goal

nothing : Extent
nothing = record { size = 0; depth = 0 }

pub returns-in-Some-clause-size : goal.returns-in-Some-clause-size
unfolding nothing
returns-in-Some-clause-size c = ap (λ (e : Extent). e.size) (sym (extents_of-at c.args.known.now c.args.place c.in-Some.extent nothing c.in-Some.is))

pub returns-in-Some-clause-depth : goal.returns-in-Some-clause-depth
unfolding nothing
returns-in-Some-clause-depth c = ap (λ (e : Extent). e.depth) (sym (extents_of-at c.args.known.now c.args.place c.in-Some.extent nothing c.in-Some.is))

pub returns-in-None-clause-size : goal.returns-in-None-clause-size
returns-in-None-clause-size c = c.empty.ensures.size ∙ ap (λ (e : Extent). e.size) (sym (extents_of-none c.args.known.now c.args.place c.in-None.is))

pub returns-in-None-clause-depth : goal.returns-in-None-clause-depth
returns-in-None-clause-depth c = c.empty.ensures.depth ∙ ap (λ (e : Extent). e.depth) (sym (extents_of-none c.args.known.now c.args.place c.in-None.is))
