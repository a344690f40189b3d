use Rattle.std.proofs.Common.{ℕ, ◌<◌, List, length, get_or, set, ap, ◌∙◌, arith}
use Rattle.mkb_rules.specs.Kept.{plain_certificates, place_in}
use Rattle.mkb_rules.specs.declared.state.Certified.{Certified}
use Rattle.mkb_rules.proofs.Certified.{certified_there, certified_nowhere}
use Rattle.mkb_rules.proofs.effects.orienting.certify.Goals as goal

pub returns-then-place-len : goal.returns-then-place-len
returns-then-place-len c =
    let cs = c.args.certificates.now.items in
    let p = c.args.p.now in
    let x = c.index_mut.result.now in
    let place = c.certificate_place-place.ensures ∙ ap (λ (z : List Certified). place_in (plain_certificates z) p) c.deref.ensures.value in
    let there : place_in (plain_certificates cs) p < length cs = omega (arith, place, c.if-place-len.true, c.len.ensures, c.args.certificates.now.ok.0) in
    let read = c.index_mut.ensures.value ∙ ap (λ n. get_or cs n x) place in
    ap (λ (n : ℕ). plain_certificates (set cs n (record { name = x.name; certificate = c.args.certificate }))) place
    ∙ certified_there cs p c.args.certificate x there read

pub returns-else-place-len : goal.returns-else-place-len
returns-else-place-len c =
    let cs = c.args.certificates.now.items in
    let p = c.args.p.now in
    let place = c.certificate_place-place.ensures ∙ ap (λ (z : List Certified). place_in (plain_certificates z) p) c.deref.ensures.value in
    certified_nowhere cs p c.args.certificate (omega (arith, place, c.if-place-len.false, c.len.ensures, c.args.certificates.now.ok.0))
