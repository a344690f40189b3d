use Rattle.std.proofs.Common.{refl, sym, ◌∙◌, true}
use Rattle.kb_term.specs.View.{tree_of}
use Rattle.kb_jobs.specs.Closing.{equations_of}
use Rattle.kb_jobs.proofs.Settling.{joined_none, joined_some}
use Rattle.kb_jobs.proofs.closing.is_joined.Goals as goal

pub returns-in-None : goal.returns-in-None
returns-in-None c = joined_none (equations_of c.args.equations.now) (tree_of c.args.u.now) (tree_of c.args.v.now) true refl (sym c.in-None.is ∙ c.in_ok-canonical.ensures)

pub returns-in-Some : goal.returns-in-Some
returns-in-Some c = joined_some c.args.equations.now (tree_of c.args.u.now) (tree_of c.args.v.now) c.in-Some.pair c.contains.result c.contains.ensures.value (sym c.in-Some.is ∙ c.in_ok-canonical.ensures)
