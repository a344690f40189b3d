use Rattle.std.proofs.Common.{◌≡◌, List, ap, ◌∙◌}
use Rattle.kb_label.specs.Names.{Name}
use Rattle.mkb_model.specs.Effects.{give_up, counted}
use Rattle.mkb_model.specs.declared.proposed.Proposed.TheVariants.{Limit}
use Rattle.mkb_rules.specs.Applying.{Commits}
use Rattle.mkb_rules.specs.declared.applied.Applied.{Applied}
use Rattle.mkb_rules.specs.declared.applied.Applied.TheVariants.{Over}
use Rattle.mkb_rules.proofs.Answered.{ok_so}
use Rattle.mkb_rules.proofs.state.State.pass_limit.Goals as goal

pub returns-clause-ok : goal.returns-clause-ok
returns-clause-ok c =
    let b = c.args.self.now in
    let j = c.args.job.now in
    let cause = c.args.cause.now in
    let names = c.in_ok-names.ensures in
    ok_so c.give_up.result (λ (answer : Applied). (c.give_up.new.self ≡ counted (give_up cause.reason c.in_ok-names.names b)) × (answer ≡ Over cause.reason))
    (Commits b (Limit j cause) c.give_up.new.self)
    (λ answer h. (h.0 ∙ ap (λ (l : List Name). counted (give_up cause.reason l b)) names, h.1)) c.give_up.ensures.ok
