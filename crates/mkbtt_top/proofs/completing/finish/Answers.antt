use Rattle.std.proofs.Common.{◌∙◌, sym, subst}
use Rattle.mkb_model.specs.Plain.{Plain}
use Rattle.mkbtt_top.specs.Workers.{EndsBy}
use Rattle.mkbtt_top.proofs.Takes.{broken_by, finished_by}
use Rattle.mkbtt_top.proofs.completing.finish.Goals as goal

pub returns-in-Some-clause-finished : goal.returns-in-Some-clause-finished
returns-in-Some-clause-finished g c =
    let crew = c.worked_on-crew.result in
    finished_by c.args.problem c.args.settings c.args.workers crew c.in-Some.verdict c.requires.within (subst {A = Plain} (λ z. EndsBy z.problem z.settings c.args.workers crew) c.in-Ok.ensures.plain c.worked_on-crew.ensures) (sym c.verdict.ensures ∙ c.in-Some.is)

pub returns-in-None-clause-broken : goal.returns-in-None-clause-broken
returns-in-None-clause-broken g c =
    let crew = c.worked_on-crew.result in
    broken_by c.args.problem c.args.settings c.args.workers crew c.requires.within (subst {A = Plain} (λ z. EndsBy z.problem z.settings c.args.workers crew) c.in-Ok.ensures.plain c.worked_on-crew.ensures) (sym c.verdict.ensures ∙ c.in-None.is)
