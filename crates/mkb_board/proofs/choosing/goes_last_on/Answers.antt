use Rattle.std.proofs.Common.{ℕ, zero, suc, ◌≡◌, ◌<◌, ◌-◌, ◌==◌, false, List, Contains, length, subst, ap, sym, ◌∙◌, arith}
use Rattle.std.specs.List.{list_all}
use Rattle.std.proofs.lemmas.List.Elements.{Contains-get_or}
use Rattle.std.proofs.lemmas.List.Folds.{list_all_at}
use Rattle.kb_label.specs.Names.{Name}
use Rattle.mkb_model.specs.Sleeping.{is_failed}
use Rattle.mkb_model.proofs.runs.Endings.{has_in}
use Rattle.mkb_model.proofs.Lists.{not_true}
use Rattle.mkb_board.proofs.choosing.goes_last_on.Goals as goal

last_there : (n : ℕ) → (n == 0) ≡ false → n - 1 < n
last_there zero e = absurd (cc)
last_there (suc n) e = omega arith

pub is_failed-requires-clause-lives : goal.is_failed-requires-clause-lives
is_failed-requires-clause-lives c =
    let living = c.processes-living.result.now in
    let p = c.index-living-last.result in
    let there = last_there (length living) (sym c.is_empty.ensures ∙ c.if-is_empty.false) in
    has_in c.args.state.now.living p
    (subst {A = List Name} (λ z. Contains z p) (c.processes-living.ensures ∙ c.log.ensures)
    (subst {A = Name} (Contains living) (sym c.index-living-last.is) (Contains-get_or living (length living - 1) p there)))

pub returns : goal.returns
returns c t =
    let b = c.args.state.now in
    let living = c.processes-living.result.now in
    let p = c.index-living-last.result in
    let there = last_there (length living) (sym c.is_empty.ensures ∙ c.if-is_empty.false) in
    sym (ap (list_all (is_failed b)) (c.processes-living.ensures ∙ c.log.ensures))
    ∙ list_all_at (is_failed b) living (length living - 1) p there (ap (is_failed b) (sym c.index-living-last.is) ∙ sym c.is_failed.ensures ∙ not_true t)
