-- Rounds take tickets as worker 1.
use Rattle.std.proofs.Common.{ℕ, ◌+◌, ◌≤◌, ◌≡◌, ◌∙◌, sym, ap, arith, List, [], ◌∷◌, Contains, Option, Some, None, ⊎_elim}
use Rattle.std.specs.Option.{option_map_or}
use Rattle.std.proofs.lemmas.List.Elements.{Contains-push_cases}
use Rattle.kb_node.specs.declared.job.Job.{Job}
use Rattle.mkb_model.specs.Plain.{Plain}
use Rattle.mkb_model.specs.Headline.{TakesAreBy}
use Rattle.mkb_model.specs.Journals.{Moment, takes, ends, move_of, tickets, journal_of}
use Rattle.mkb_model.specs.declared.entry.Entry.{Entry}
use Rattle.mkb_model.specs.declared.entry.Entry.TheVariants.{Take}
use Rattle.mkb_rounds.specs.Rounds.{GoByRounds, first_number, next_job, round_move}

took : (past : List Moment) (b : Plain) (e : Entry) (w t : ℕ) (j : Job) → move_of e ≡ round_move past b → e ≡ Take w t j → (1 ≤ w) × (w ≤ 1)
took past b e w t j h q = go (next_job past b) (ap move_of (sym q) ∙ h)
  where
    go : (o : Option Job) → takes w t j ≡ option_map_or (takes 1 (tickets past + 1)) o (ends (first_number b.flight)) → (1 ≤ w) × (w ≤ 1)
    go None k = absurd (cc)
    go (Some i) k = let one : w ≡ 1 = cc in (omega (arith, one), omega (arith, one))

pub takes_of_rounds : (ms : List Moment) → GoByRounds ms → TakesAreBy 1 (journal_of ms)
takes_of_rounds [] g w t j k = absurd (omega (arith, k.1))
takes_of_rounds (m ∷ ms) (g, h) w t j k = ⊎_elim (takes_of_rounds ms g w t j) (took ms m.board m.entry w t j h) (Contains-push_cases (journal_of ms) m.entry (Take w t j) k)
