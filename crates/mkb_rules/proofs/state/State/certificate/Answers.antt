use Rattle.std.proofs.Common.{◌≡◌, get_or, Some, IsSome, ap, sym, subst, ◌∙◌, arith}
use Rattle.mkb_model.specs.Plain.{Plain, certificate_of}
use Rattle.mkb_rules.specs.Kept.{plain_certificates, place_in}
use Rattle.mkb_rules.specs.declared.state.Certified.{Certified}
use Rattle.mkb_rules.proofs.Certified.{order_in, is_placed, placed_order}
use Rattle.mkb_rules.proofs.state.State.certificate.Goals as goal

pub index-requires : goal.index-requires
index-requires c =
    let cs = c.self.inside.certificates.items in
    let p = c.args.p.now in
    let kept : IsSome (order_in (plain_certificates cs) p) = subst {A = Plain} (λ b. IsSome (certificate_of b p)) (sym c.self.view_is) c.requires.ordered in
    let place = c.certificate_place-place.ensures ∙ ap (λ (z : _). place_in (plain_certificates z) p) c.deref.ensures.value in
    omega (arith, is_placed cs p kept, place, c.self.inside.certificates.ok.0)

pub returns : goal.returns
returns c =
    let cs = c.self.inside.certificates.items in
    let p = c.args.p.now in
    let x = c.index.result.now in
    let kept : IsSome (order_in (plain_certificates cs) p) = subst {A = Plain} (λ b. IsSome (certificate_of b p)) (sym c.self.view_is) c.requires.ordered in
    let place = c.certificate_place-place.ensures ∙ ap (λ (z : _). place_in (plain_certificates z) p) c.deref.ensures.value in
    subst {A = Plain} (λ b. certificate_of b p ≡ Some x.certificate) c.self.view_is
    (placed_order cs p x (is_placed cs p kept) ∙ ap (λ (y : Certified). Some y.certificate) (sym (c.index.ensures ∙ ap (λ n. get_or cs n x) place)))
