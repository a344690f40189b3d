-- All invariants hold of each board of a possible run of a problem within the limits.
use Rattle.std.proofs.Common.{List}
use Rattle.kb_term.specs.Signature.{Problem, IsWithinLimits}
use Rattle.mkb_model.specs.Plain.{Plain}
use Rattle.mkb_model.specs.Invariants.{IsSound}
use Rattle.mkb_model.specs.Journals.{Moment, IsPossibleRun, IsFreeJob, tickets}
use Rattle.mkb_model.proofs.tickets.NoClash.{flight_clear}
use Rattle.mkb_model.proofs.labels.LivingNames.{living_forked, flight_numbered}
use Rattle.mkb_model.proofs.runs.KnownFacts.{facts_hold}
use Rattle.mkb_model.proofs.runs.LawsStated.{run_pairs_differ}
use Rattle.mkb_model.proofs.labels.LivingLabels.{labels_live}
use Rattle.mkb_model.proofs.labels.AtMostSixtyFour.{sleepers_run}
use Rattle.mkb_model.proofs.closing.RestInRuns.{closed_rests}
use Rattle.mkb_model.proofs.runs.AllFine.{runs_one_role}
use Rattle.mkb_model.proofs.closing.StillClosed.{closed_run}
use Rattle.mkb_model.proofs.runs.Certificates.{certified_run, rules_follow}
use Rattle.mkb_model.proofs.nodes.Origins.{pairs_follow_run}
use Rattle.mkb_model.specs.declared.settings.Settings.{Settings}

pub boards_sound : (P : Problem) (n : Settings) (ms : List Moment) (c : Plain) → IsWithinLimits P → IsPossibleRun P n ms c → IsSound (tickets ms) c
boards_sound P n ms c within run = record {
  labels = labels_live P n ms c run;
  one_role = runs_one_role P n ms c within run;
  certified = certified_run P n ms c within run;
  rules_follow = λ p lives. rules_follow P n ms c within run p;
  facts_hold = facts_hold IsFreeJob P n ms c run;
  flight_clear = flight_clear P n ms c run;
  at_rest = closed_rests P n ms c run;
  pairs_differ = run_pairs_differ P n ms c run;
  pairs_follow = pairs_follow_run P n ms c within run;
  closed = closed_run P n ms c run;
  living = living_forked IsFreeJob P n ms c run;
  flight_numbered = flight_numbered IsFreeJob P n ms c run;
  sleepers_wait = sleepers_run P n ms c run;
}
