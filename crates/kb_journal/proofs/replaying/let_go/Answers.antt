use Rattle.std.proofs.Common.{◌==◌, not, rules}
use Rattle.std.proofs.lemmas.Fn.{filter_same}
use Rattle.kb_journal.specs.declared.replaying.Hand.{Hand}
use Rattle.kb_journal.proofs.replaying.let_go.Goals as goal

pub returns : goal.returns
returns c = filter_same _ (λ (h : Hand). not (h.ticket.number == c.args.number)) _ (λ x b f' k. search rules) _ _ c.retain.ensures.filtered
