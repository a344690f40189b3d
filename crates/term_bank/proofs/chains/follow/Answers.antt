use Rattle.std.proofs.Common.{◌≡◌, ◌+◌, ◌-◌, ◌<◌, length, get_or, subst, arith}
use Rattle.std.proofs.lemmas.Option.{slice_get-get_or}
use Rattle.term_bank.specs.declared.chains.Link.{Link}
use Rattle.term_bank.proofs.Linking.{HasPassed, passed_more}
use Rattle.term_bank.proofs.chains.follow.Goals as goal

pub loop-link-preserved : goal.loop-link-preserved
loop-link-preserved c =
    let links = c.args.links.now in
    let place = c.loop-link.link - 1 in
    let none : Link = record { hash = 0; next = 0 } in
    let e : c.loop-link.link ≡ (c.loop-link.link - 1) + 1 = omega arith in
    let within : c.loop-link.link - 1 < length links = omega (arith, c.loop-link.invariant.low, c.requires.low) in
    passed_more c.args.heads.now links c.args.hash c.args.from place (get_or links place none) c.requires.chained
    (subst (HasPassed c.args.heads.now links c.args.hash c.args.from) e c.loop-link.invariant)
    (slice_get-get_or links place none within) c.if-at-hash.false
