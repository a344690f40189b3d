-- In a possible run at most 64 processes are active and awake, and where fewer are, no active one sleeps.
use Rattle.std.proofs.Common.{ℕ, sym, subst, List, [], ◌∷◌, refl}
use Rattle.std.specs.Prelude.{IsFalse}
use Rattle.kb_term.specs.Signature.{Problem}
use Rattle.mkb_model.specs.Plain.{Plain}
use Rattle.mkb_model.specs.Effects.{acted, is_dropped}
use Rattle.mkb_model.specs.Sleeping.{settle}
use Rattle.mkb_model.specs.Invariants.{SleepersWait}
use Rattle.mkb_model.specs.Journals.{Moment, Follows, IsFinishing, IsPossibleRun, IsFreeJob}
use Rattle.kb_node.specs.declared.job.Job.{Job}
use Rattle.mkb_model.specs.declared.proposed.Proposed.{Proposed}
use Rattle.mkb_model.specs.declared.entry.Entry.{Entry}
use Rattle.mkb_model.specs.declared.entry.Entry.TheVariants.{Take, Commit, Drop, Abandon, Halt}
use Rattle.mkb_model.specs.declared.settings.Settings.{Settings}
use Rattle.mkb_model.proofs.Lists.{clash}
use Rattle.mkb_model.proofs.tickets.InFlight.{owners_live}
use Rattle.mkb_model.proofs.labels.LivingLabels.{IsLabelled, actor_lives, labelled_acted, labelled_run}
use Rattle.mkb_model.proofs.labels.Sleepers.{sleepers_settled, opening_works}

-- what a commit itself does leaves labels
pub acted_labelled : (P : Problem) (n : Settings) (past : List Moment) (b : Plain) → IsPossibleRun P n past b → (w t : ℕ) (j : Job) (x : Proposed) → IsFinishing past b w t j x → IsFalse (is_dropped b x) → IsLabelled (acted b x)
acted_labelled P n past b run w t j x f acts =
    labelled_acted b x acts (actor_lives f.before b (record { number = t; worker = w; job = j }) x f.proposed (owners_live P n past b run) f.flying) (labelled_run P n past b run)

pub sleepers_run : (P : Problem) (n : Settings) (ms : List Moment) (c : Plain) → IsPossibleRun P n ms c → SleepersWait c
sleepers_run P n [] c run = subst {A = Plain} SleepersWait (sym run) (record { few = opening_works P n; none_waits = λ l p s. clash s refl })
sleepers_run P n (m ∷ ms) c (run, f) = go m.entry f (sleepers_run P n ms m.board run)
  where
    go : (e : Entry) → Follows IsFreeJob ms m.board e c → SleepersWait m.board → SleepersWait c
    go (Take w t j) f h = subst {A = Plain} SleepersWait (sym f.leads_to) (record { few = h.few; none_waits = h.none_waits })
    go (Commit w t e) f h =
        let a = acted_labelled P n ms m.board run w t f.job f.proposal f.finishing f.acts in
        let k : SleepersWait (settle (acted m.board f.proposal)) = sleepers_settled (acted m.board f.proposal) a.alive a.asleep in
        subst {A = Plain} SleepersWait (sym f.leads_to) (record { few = k.few; none_waits = k.none_waits })
    go (Drop w t p) f h = subst {A = Plain} SleepersWait (sym f.leads_to) (record { few = h.few; none_waits = h.none_waits })
    go (Abandon w t) f h = subst {A = Plain} SleepersWait (sym f.leads_to) (record { few = h.few; none_waits = h.none_waits })
    go Halt f h = subst {A = Plain} SleepersWait (sym f.1) h
