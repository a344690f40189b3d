use Rattle.std.proofs.Common.{true, suc, ◌≡◌, ◌+◌, ◌<◌, List, length, get_or, set, ap, ◌∙◌, arith}
use Rattle.std.specs.Prelude.{insert}
use Rattle.kb_label.specs.Names.{child}
use Rattle.mkb_rules.specs.Kept.{plain_certificates, place_in}
use Rattle.mkb_rules.specs.declared.state.Certified.{Certified}
use Rattle.mkb_rules.proofs.Certified.{forked_there, forked_nowhere}
use Rattle.mkb_rules.proofs.effects.forking.fork_certificates.Goals as goal

pub returns-then-place-len-clause-ok : goal.returns-then-place-len-clause-ok
returns-then-place-len-clause-ok c =
    let cs = c.args.certificates.now.items in
    let p = c.args.p.now in
    let place = c.certificate_place-place.ensures ∙ ap (λ (z : List Certified). place_in (plain_certificates z) p) c.deref.ensures.value in
    forked_nowhere cs p (omega (arith, place, c.if-place-len.true, c.len.ensures, c.args.certificates.now.ok.0))

pub returns-clause-ok : goal.returns-clause-ok
returns-clause-ok c =
    let cs = c.args.certificates.now.items in
    let p = c.args.p.now in
    let x = c.index_mut.result.now in
    let y = c.index.result.now in
    let place = c.certificate_place-place.ensures ∙ ap (λ (z : List Certified). place_in (plain_certificates z) p) c.deref.ensures.value in
    let there : place_in (plain_certificates cs) p < length cs = omega (arith, place, c.if-place-len.false, c.len.ensures, c.args.certificates.now.ok.0) in
    let next : c.certificate_place-place.result + 1 ≡ suc (place_in (plain_certificates cs) p) = omega (arith, place) in
    let inserted : c.insert.new.self.items ≡ insert cs (suc (place_in (plain_certificates cs) p)) (record { name = child p true; certificate = y.certificate }) =
    c.in_ok-insert.ensures.items ∙ (λ i. insert cs (next i) (record { name = c.child.ensures i; certificate = c.in_ok-certificate.ensures.cases i })) in
    let read = c.index.ensures ∙ ap (λ n. get_or cs n y) place in
    let written = c.index_mut.ensures.value ∙ (λ i. get_or (inserted i) (place i) x) in
    (λ i. plain_certificates (set (inserted i) (place i) (record { name = c.child-2.ensures i; certificate = x.certificate })))
    ∙ forked_there cs p x y there read written
