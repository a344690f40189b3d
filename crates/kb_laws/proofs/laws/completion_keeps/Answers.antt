use Rattle.kb_laws.proofs.CompletionLaws.{kb_step_keeps}
use Rattle.kb_laws.proofs.Orderable.{step_orderable}
use Rattle.kb_laws.proofs.Stated.{step_keeps_over, step_keeps_chained}
use Rattle.kb_laws.proofs.laws.completion_keeps.Goals as goal

pub returns : goal.returns
returns c = record { proved = kb_step_keeps; over = step_keeps_over; chained = step_keeps_chained; orderable = step_orderable }
