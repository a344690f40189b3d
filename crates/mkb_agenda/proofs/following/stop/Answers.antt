use Rattle.std.proofs.Common.{List, ◌≡◌, ◌∷◌, [], false, sym, ◌∙◌, subst}
use Rattle.std.proofs.lemmas.List.{take_all}
use mathlib.Core.Bool.{true≢false}
use Rattle.kb_label.specs.Names.{Name, has}
use Rattle.mkb_model.specs.Jobs.{process_of}
use Rattle.mkb_pick.specs.Listings.{Listing}
use Rattle.mkb_agenda.proofs.Brought.{TakesOff, takes_none, takes_one, takes_absent, takes_next, others_stay, same_at}
use Rattle.mkb_agenda.proofs.following.stop.Goals.{then-is_listed, else-is_listed}
use Rattle.mkb_agenda.proofs.following.stop.Goals as goal

pub loop-i-init : goal.loop-i-init
loop-i-init c = takes_none c.args.agenda.now.processes

pub loop-i-preserved : goal.loop-i-preserved
loop-i-preserved c = takes_next c.args.names.now c.loop-i.i c.index-names-i.result _ c.loop-i.agenda.processes c.if-is_listed.agenda.processes c.loop-i-test.true c.index-names-i.is c.loop-i.invariant
    (elim c.if-is_listed.branch as (λ _. TakesOff (c.index-names-i.result ∷ []) c.loop-i.agenda.processes c.if-is_listed.agenda.processes) [
      | then-is_listed w ↦ subst {A = Listing} (λ z. TakesOff (c.index-names-i.result ∷ []) c.loop-i.agenda.processes z.processes) (sym w.agenda-is)
          (subst {A = Name} (λ q. TakesOff (q ∷ []) c.loop-i.agenda.processes w.unlist.new.self.processes) (same_at c.args.names.now c.loop-i.i _ _ c.loop-i-test.true w.index-names-i-then-is_listed.is c.index-names-i.is) (takes_one _ _ _ w.unlist.ensures.processes w.unlist.ensures.jobs))
      | else-is_listed w ↦ subst {A = Listing} (λ z. TakesOff (c.index-names-i.result ∷ []) c.loop-i.agenda.processes z.processes) (sym w.agenda-is)
          (takes_absent _ _ (λ h. true≢false (sym (c.is_listed.ensures.1 h) ∙ w.if-is_listed.false)))
    ])

pub returns-clause-gone : goal.returns-clause-gone
returns-clause-gone c p d r h m =
    let all = take_all c.loop-i.i c.args.names.now c.loop-i-test.false in
    true≢false (sym h ∙ subst {A = List Name} (λ l. has l p ≡ false) all ((c.loop-i.invariant.processes p d r).0 m).1)

pub returns-clause-no_job : goal.returns-clause-no_job
returns-clause-no_job c j w h m =
    let all = take_all c.loop-i.i c.args.names.now c.loop-i-test.false in
    true≢false (sym h ∙ subst {A = List Name} (λ l. has l (process_of j) ≡ false) all ((c.loop-i.invariant.jobs j w).0 m).1)

pub returns-clause-others : goal.returns-clause-others
returns-clause-others c x p q h =
    let all = take_all c.loop-i.i c.args.names.now c.loop-i-test.false in
    others_stay _ _ _ c.loop-i.invariant x p q (subst {A = List Name} (λ l. has l q ≡ false) (sym all) h)
