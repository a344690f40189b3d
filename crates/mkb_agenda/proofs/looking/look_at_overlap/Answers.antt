use Rattle.std.proofs.Common.{sym, subst, [], ◌∷◌, Option}
use Rattle.std.specs.Prelude.{OnOk}
use Rattle.std.specs.Option.{option_map_or}
use Rattle.kb_node.specs.declared.job.Job.TheVariants.{Overlap}
use Rattle.kb_term.specs.declared.origin.RuleRef.{RuleRef}
use Rattle.mkb_agenda.specs.Looking.{ListsAnew}
use Rattle.mkb_agenda.proofs.looking.look_at_overlap.Goals as goal

pub returns-in-Some-clause-jobs : goal.returns-in-Some-clause-jobs
returns-in-Some-clause-jobs c = subst {A = Option (RuleRef × RuleRef)} (λ z. OnOk c.look_at.result (ListsAnew c.args.seen.now.state.now (option_map_or (λ (o : RuleRef × RuleRef). Overlap c.args.seen.now.process.now o.0 o.1 ∷ []) z []) c.args.agenda.now.processes c.look_at.new.agenda.processes))
    (sym c.in-Some.is) c.look_at.ensures.jobs
