-- A commit whose entry is that a proposal had its effect.
use Rattle.std.proofs.Common.{ℕ, ◌≡◌, refl, sym, ap, ◌∙◌, subst, List, Option, Some, None, ◌∷◌}
use Rattle.std.specs.Prelude.{IsFalse}
use Rattle.std.specs.Option.{option_map_or}
use Rattle.kb_term.specs.Signature.{Problem}
use Rattle.kb_label.specs.declared.verdict.Reason.{Reason}
use Rattle.kb_node.specs.declared.job.Job.{Job}
use Rattle.mkb_model.specs.Plain.{Plain}
use Rattle.mkb_model.specs.Effects.{applied, counted, give_up, effect_entry, effect_label, limit_of, is_dropped}
use Rattle.mkb_model.specs.Sleeping.{settle}
use Rattle.mkb_model.specs.Journals.{Moment, IsPossibleRun, IsCommitting, IsFinishing, IsFreeJob, landed}
use Rattle.mkb_model.specs.Ready.{KeepsPairs}
use Rattle.mkb_model.specs.declared.entry.Effect.{Effect}
use Rattle.mkb_model.specs.declared.entry.Effect.TheVariants.{Over, Made}
use Rattle.mkb_model.specs.declared.entry.Entry.TheVariants.{Take, Commit}
use Rattle.mkb_model.specs.declared.proposed.Proposed.{Proposed}
use Rattle.mkb_model.specs.declared.settings.Settings.{Settings}
use Rattle.mkb_model.proofs.commits.RoleChanges.{Fits}
use Rattle.mkb_model.proofs.nodes.DistinctPairs.{fits_run, pairs_stay}

-- the proposal has its effect on the board
pub record IsMaking (past : List Moment) (b : Plain) (w t : ℕ) (x : Proposed) (c : Plain) : Type 0 where
  pub job : Job
  pub finishing : IsFinishing past b w t job x
  pub acts : IsFalse (is_dropped b x)
  pub leads_to : c ≡ landed t (settle (counted (applied b x)))

made_is : (x y : Proposed) → Made x ≡ Made y → x ≡ y
made_is x y h = cc

entry_made : (b : Plain) (x y : Proposed) → Made y ≡ effect_entry b x → (x ≡ y) × (limit_of b x ≡ None)
entry_made b x y h = go (limit_of b x) refl h
  where
    go : (o : Option Reason) → limit_of b x ≡ o → Made y ≡ option_map_or Over o (Made x) → (x ≡ y) × (limit_of b x ≡ None)
    go None e k = (sym (made_is y x k), e)
    go (Some r) e k = absurd (cc)

pub making : (past : List Moment) (b : Plain) (w t : ℕ) (y : Proposed) (c : Plain) → IsCommitting past b w t (Made y) c → IsMaking past b w t y c
making past b w t y c f = subst {A = Proposed} (λ z. IsMaking past b w t z c) k.0 (record {
  job = f.job;
  finishing = f.finishing;
  acts = f.acts;
  leads_to = f.leads_to ∙ ap (λ (o : Option Reason). landed t (settle (counted (option_map_or (λ r. give_up r (effect_label b f.proposal) b) o (applied b f.proposal))))) k.1;
})
  where
    k : (f.proposal ≡ y) × (limit_of b f.proposal ≡ None)
    k = entry_made b f.proposal y f.names_effect

over_is : (r s : Reason) → Over r ≡ Over s → r ≡ s
over_is r s h = cc

-- a commit at a limit
pub stopping : (past : List Moment) (b : Plain) (w t : ℕ) (r : Reason) (c : Plain) (f : IsCommitting past b w t (Over r) c) → c ≡ landed t (settle (counted (give_up r (effect_label b f.proposal) b)))
stopping past b w t r c f = f.leads_to ∙ ap (λ (o : Option Reason). landed t (settle (counted (option_map_or (λ r. give_up r (effect_label b f.proposal) b) o (applied b f.proposal))))) (go (limit_of b f.proposal) refl f.names_effect)
  where
    go : (o : Option Reason) → limit_of b f.proposal ≡ o → Over r ≡ option_map_or Over o (Made f.proposal) → limit_of b f.proposal ≡ Some r
    go None e k = absurd (cc)
    go (Some s) e k = e ∙ ap Some (sym (over_is r s k))

pub commit_fits : (P : Problem) (n : Settings) (past : List Moment) (b : Plain) (w t : ℕ) (e : Effect) (c : Plain) → IsPossibleRun P n past b → IsCommitting past b w t e c → Fits c.nodes
commit_fits P n past b w t e c run f = fits_run IsFreeJob P n (record { board = b; entry = Commit w t e } ∷ past) c (run, f)

-- and they stayed since the take
pub taken_keeps : (P : Problem) (n : Settings) (past : List Moment) (b : Plain) (w t : ℕ) (j : Job) (x : Proposed) → IsPossibleRun P n past b → (f : IsFinishing past b w t j x) → KeepsPairs f.before.nodes b.nodes
taken_keeps P n past b w t j x run f = pairs_stay IsFreeJob P n past b run (record { board = f.before; entry = Take w t j }) f.taken
