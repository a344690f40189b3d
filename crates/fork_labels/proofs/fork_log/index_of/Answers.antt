use Rattle.std.proofs.Common.{sym, ◌∙◌, get_or, Err}
use mathlib.Core.Bool.{true≢false}
use Rattle.kb_label.specs.NameOrder.{name_cmp-equal}
use Rattle.kb_label.proofs.Searched.{search-found}
use Rattle.fork_labels.proofs.fork_log.index_of.Goals as goal

pub returns-in-Ok-clause-at : goal.returns-in-Ok-clause-at
returns-in-Ok-clause-at c = name_cmp-equal (get_or c.args.names.now c.in-Ok.i c.args.process.now) c.args.process.now (c.in-Ok.ensures.position c.args.process.now)

pub returns-in-Err-clause-within : goal.returns-in-Err-clause-within
returns-in-Err-clause-within c =
    absurd (true≢false (sym c.requires.there ∙ sym (search-found c.args.names.now c.args.process.now c.requires.in_order (Err c.in-Err.i) c.in-Err.ensures.bound c.in-Err.ensures.position)))

pub returns-in-Err-clause-at : goal.returns-in-Err-clause-at
returns-in-Err-clause-at c =
    absurd (true≢false (sym c.requires.there ∙ sym (search-found c.args.names.now c.args.process.now c.requires.in_order (Err c.in-Err.i) c.in-Err.ensures.bound c.in-Err.ensures.position)))
