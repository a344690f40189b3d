use Rattle.std.proofs.Common.{List, Contains, subst, sym, ◌∙◌}
use Rattle.std.proofs.lemmas.List.Elements.{Contains-get_or}
use Rattle.kb_label.specs.Names.{Name}
use Rattle.mkb_model.proofs.runs.Endings.{has_in}
use Rattle.mkb_board.proofs.choosing.have_all_failed.Goals as goal

pub is_failed-requires-clause-lives : goal.is_failed-requires-clause-lives
is_failed-requires-clause-lives c =
    let living = c.processes-living.result.now in
    let p = c.index-living-i.result in
    has_in c.args.state.now.living p
    (subst {A = List Name} (λ z. Contains z p) (c.processes-living.ensures ∙ c.log.ensures)
    (subst {A = Name} (Contains living) (sym c.index-living-i.is) (Contains-get_or living c.loop-i.i p c.loop-i-test.true)))
