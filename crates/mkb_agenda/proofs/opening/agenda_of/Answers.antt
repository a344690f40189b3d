use Rattle.std.proofs.Common.{◌≡◌, ◌<◌, ◌≤◌, ◌+◌, ◌++◌, ◌∷◌, sym, ap, ◌∙◌, subst, List, [], length, take, get_or, not}
use Rattle.std.proofs.lemmas.Bool.{and_from}
use Rattle.std.proofs.lemmas.List.{take_all}
use Rattle.std.proofs.lemmas.List.Elements.{Contains-get_or}
use Rattle.std.specs.Prelude.{Contains}
use Rattle.kb_lemmas.proofs.Lists.{take_next}
use Rattle.kb_label.specs.Names.{Name, has}
use Rattle.mkb_model.specs.Plain.{is_over}
use Rattle.mkb_model.proofs.Lists.{not_of_false}
use Rattle.mkb_model.proofs.runs.Endings.{has_in}
use Rattle.mkb_pick.specs.Listings.{Listed, Listing}
use Rattle.mkb_agenda.proofs.Opened.{IsListedUpTo, up_none, up_idle, up_listed, up_all, and_not}
use Rattle.mkb_agenda.proofs.opening.agenda_of.Goals.{then-not-is_over+in_ok-list, else-not-is_over}
use Rattle.mkb_agenda.proofs.opening.agenda_of.Goals as goal

pub list-requires : goal.list-requires
list-requires c =
    let q = c.index-living-i.result in
    let living = c.processes-living.result.now in
    let here : Contains c.args.state.now.living q = subst {A = List Name} (λ z. Contains z q) (c.processes-living.ensures ∙ c.log.ensures) (subst {A = Name} (Contains living) (sym c.index-living-i.is) (Contains-get_or living c.loop-i.i q c.loop-i-test.true)) in
    and_from (has c.args.state.now.living q) (not (is_over c.args.state.now q)) (has_in c.args.state.now.living q here) (not_of_false (sym c.is_over.ensures ∙ c.if-not-is_over.true))

pub loop-i-init : goal.loop-i-init
loop-i-init c = subst {A = List Listed} (λ z. IsListedUpTo c.args.state.now [] z) (sym (ap (λ (z : Listing). z.processes) c.new-agenda.ensures)) (up_none c.args.state.now)

pub loop-i-preserved : goal.loop-i-preserved
loop-i-preserved c =
    let b = c.args.state.now in
    let q = c.index-living-i.result in
    let i = c.loop-i.i in
    let old = c.loop-i.agenda.processes in
    let new = c.if-not-is_over.agenda.processes in
    let same = c.processes-living.ensures ∙ c.log.ensures in
    let e : take (i + 1) b.living ≡ take i b.living ++ q ∷ [] = take_next b.living i q (subst {A = List Name} (λ z. i < length z) same c.loop-i-test.true) (subst {A = List Name} (λ z. q ≡ get_or z i q) same c.index-living-i.is) in
    subst {A = List Name} (λ z. IsListedUpTo b z new) (sym e) (elim c.if-not-is_over.branch [
      | then-not-is_over+in_ok-list w ↦ subst {A = Listing} (λ z. IsListedUpTo b (take i b.living ++ q ∷ []) z.processes) (sym w.agenda-is) (up_listed b (take i b.living) q old c.loop-i.invariant w.list.new.agenda.processes w.in_ok-list.ensures.listed w.in_ok-list.ensures.others)
      | else-not-is_over w ↦ subst {A = Listing} (λ z. IsListedUpTo b (take i b.living ++ q ∷ []) z.processes) (sym w.agenda-is) (up_idle b (take i b.living) q old c.loop-i.invariant (and_not (has b.living q) (is_over b q) (sym c.is_over.ensures ∙ w.if-not-is_over.false)))
    ])

pub returns : goal.returns
returns c = up_all c.args.state.now c.loop-i.agenda.processes (subst {A = List Name} (λ z. IsListedUpTo c.args.state.now z c.loop-i.agenda.processes) (take_all c.loop-i.i c.args.state.now.living (subst {A = List Name} (λ z. length z ≤ c.loop-i.i) (c.processes-living.ensures ∙ c.log.ensures) c.loop-i-test.false)) c.loop-i.invariant)
