use Rattle.std.proofs.Common.{◌∙◌, ◌∷◌, [], ap, sym, subst, Some}
use Rattle.std.specs.Option.{option_copied}
use Rattle.kb_cert.specs.Family.{Orders, IsFirstOrder, IsLowerBound}
use Rattle.kb_cert.specs.declared.certificate.Certificate.{Certificate}
use Rattle.kb_jobs.proofs.InForce.{bound_in_force, first_in_force, first_is}
use Rattle.kb_jobs.proofs.orienting.start_for.Goals as goal

pub returns-in-Some : goal.returns-in-Some
returns-in-Some c =
    let s = c.args.s.now in
    let same = c.in_ok-order.ensures.cases in
    let first = sym c.first.ensures.value ∙ ap option_copied c.in-Some.is in
    let orders = subst {A = Certificate} (λ z. Orders z (c.in-Some.rule.now ∷ [])) same (c.is_greater.ensures.0 c.if-is_greater.true) in
    subst {A = Certificate} (λ z. IsFirstOrder s.family s.signature c.args.rules.now (Some z)) (sym same)
    (first_in_force s c.args.rules.now c.in-Some.rule.now (c.more_rules_are_never_earlier.ensures.bound s.family s.signature) c.requires.more (first_is c.args.rules.now c.in-Some.rule.now first) orders)

pub returns-in_default : goal.returns-in_default
returns-in_default c =
    let s = c.args.s.now in
    subst {A = Certificate} (IsLowerBound s.family s.signature c.args.rules.now) (sym c.in_ok-order.ensures.cases)
    (bound_in_force s c.args.rules.now (c.more_rules_are_never_earlier.ensures.bound s.family s.signature) c.requires.more)
