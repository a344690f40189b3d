use Rattle.std.proofs.Common.{ap, sym, ◌∙◌, inl, Some}
use Rattle.kb_overlap.specs.View.{sides_of}
use Rattle.kb_term.specs.View.{tree_of}
use Rattle.mkb_model.specs.Proposals.{own_limit}
use Rattle.kb_jobs.proofs.closing.settle.Goals as goal

pub returns-in-Err : goal.returns-in-Err
returns-in-Err c = inl (ap (λ z. own_limit (sides_of z)) c.in-Err.is ∙ ap Some (sym c.reason_of.ensures))

pub settle_sides-requires-clause-sides : goal.settle_sides-requires-clause-sides
settle_sides-requires-clause-sides c = ap sides_of c.in-Ok.is

pub settle_sides-requires-clause-few : goal.settle_sides-requires-clause-few
settle_sides-requires-clause-few c = c.requires.few (tree_of c.in-Ok.first) (tree_of c.in-Ok.second) (ap sides_of c.in-Ok.is)
