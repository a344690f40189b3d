use Rattle.std.proofs.Common.{◌∙◌, sym, ap}
use Rattle.std.specs.Prelude.{option_copied}
use Rattle.kb_node.specs.declared.job.Fact.{Fact}
use Rattle.mkb_model.specs.Plain.{Plain}
use Rattle.mkb_agenda.specs.Following.{BringsHolders}
use Rattle.mkb_agenda.proofs.Brought.{on_first}
use Rattle.mkb_agenda.proofs.following.know.Goals as goal

pub returns-in-Some-clause-exact : goal.returns-in-Some-clause-exact
returns-in-Some-clause-exact c = on_first (λ (f : Fact) (b : Plain). BringsHolders b c.args.state.now f.node c.args.agenda.now.processes c.look_for_holders.new.agenda.processes)
    c.look_for_holders.result c.args.facts.now c.in-Some.fact.now (sym c.first.ensures.value ∙ ap option_copied c.in-Some.is) c.look_for_holders.ensures
