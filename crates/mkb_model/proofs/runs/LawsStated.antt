-- The laws as they are stated, from what is proved of the pairs at their numbers.
use Rattle.std.proofs.Common.{ℕ, ◌<◌, ◌≡◌, ◌≢◌, sym, ap, ◌∙◌, arith, List, [], length, get_or, Some}
use Rattle.std.specs.Prelude.{option_map}
use Rattle.std.proofs.lemmas.Option.{slice_get-get_or}
use Rattle.kb_term.specs.Signature.{Problem}
use Rattle.mkb_model.specs.Plain.{Plain, PlainNode, pair_in}
use Rattle.mkb_model.specs.DueJobs.{first_job, free_jobs}
use Rattle.mkb_model.specs.Invariants.{PairsDiffer, SleepersWait}
use Rattle.mkb_model.specs.Verdicts.{verdict}
use Rattle.mkb_model.specs.Journals.{Moment, IsPossibleRun, IsFreeJob}
use Rattle.std.specs.declared.option.Option.TheVariants.{None}
use Rattle.mkb_model.proofs.runs.Selections.{least-none}
use Rattle.mkb_model.specs.Jobs.{job_cmp}
use Rattle.mkb_model.specs.Plain.{cost, weight}
use Rattle.mkb_model.proofs.commits.RoleChanges.{Fits}
use Rattle.mkb_model.proofs.nodes.DistinctPairs.{fits_run}
use Rattle.mkb_model.proofs.runs.Endings.{some_flies}
use Rattle.mkb_model.specs.declared.settings.Settings.{Settings}

-- the pair at a number
at_number : (xs : List PlainNode) (k : ℕ) (d : PlainNode) → k < length xs → pair_in xs k ≡ Some (get_or xs k d).pair
at_number xs k d l = ap (option_map (λ (x : PlainNode). x.pair)) (slice_get-get_or xs k d l)

pub pairs_differ : (b : Plain) → Fits b.nodes → PairsDiffer b
pairs_differ b f = record {
  canonical = λ x i.
      let e : pair_in b.nodes i.0 ≡ Some x.pair = at_number b.nodes i.0 x i.1 ∙ ap (λ (y : PlainNode). Some y.pair) i.2 in
      (f.canonical i.0 x.pair e, f.nontrivial i.0 x.pair e);
  distinct = λ i j d h l e.
      let k : i ≡ j = f.distinct i j (get_or b.nodes i d).pair (at_number b.nodes i d (omega (arith, h, l))) (at_number b.nodes j d l ∙ ap Some (sym e)) in
      omega (arith, h, k);
}

pub run_pairs_differ : (P : Problem) (n : Settings) (ms : List Moment) (b : Plain) → IsPossibleRun P n ms b → PairsDiffer b
run_pairs_differ P n ms b run = pairs_differ b (fits_run IsFreeJob P n ms b run)

pub none_first : (b : Plain) → SleepersWait b → verdict b ≡ None → first_job b ≡ None → b.flight ≢ []
none_first b waits h k = some_flies b waits h (least-none (job_cmp (cost b) (weight b)) (free_jobs b) k)
