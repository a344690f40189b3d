use Rattle.kb_laws.proofs.CompletionLaws.{kb_run_keeps}
use Rattle.kb_laws.proofs.Orderable.{run_orderable}
use Rattle.kb_laws.proofs.Stated.{run_is_over, run_is_chained}
use Rattle.kb_laws.proofs.laws.runs_keep.Goals as goal

pub returns : goal.returns
returns c = record { proved = kb_run_keeps; chained = run_is_chained; over = run_is_over; orderable = run_orderable }
