use Rattle.std.proofs.Common.{◌∙◌, sym, ap, Some}
use Rattle.cert_pool.proofs.Deciding.{none_orders, bounds_all, member_orders}
use Rattle.cert_pool.proofs.pool.told_by.Goals as goal

pub returns-in-None : goal.returns-in-None
returns-in-None c = none_orders c.args.found.now c.args.rules.now (c.more_rules_are_never_earlier.ensures.none c.args.found.now.family c.args.found.now.signature) c.requires.holds c.in-None.is

pub returns-then-orients : goal.returns-then-orients
returns-then-orients c =
    member_orders c.args.found.now c.args.rules.now c.in_ok-member-in-Some.member (c.more_rules_are_never_earlier.ensures.bound c.args.found.now.family c.args.found.now.signature) c.requires.holds
    (c.in-Some.is ∙ ap Some (sym c.in_ok-member-in-Some.ensures.cases)) (c.orients.ensures.0 c.if-orients.true)

pub returns-else-orients : goal.returns-else-orients
returns-else-orients c =
    bounds_all c.args.found.now c.args.rules.now c.in_ok-member-in-Some.member (c.more_rules_are_never_earlier.ensures.bound c.args.found.now.family c.args.found.now.signature) c.requires.holds
    (c.in-Some.is ∙ ap Some (sym c.in_ok-member-in-Some.ensures.cases))
