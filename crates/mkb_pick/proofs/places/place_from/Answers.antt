use Rattle.std.proofs.Common.{◌≡◌, ◌<◌, ◌∙◌, sym, ap, length, get_or, arith}
use Rattle.std.proofs.lemmas.List.{get_or_default}
use Rattle.std.specs.declared.cmp.Ordering.TheVariants.{Less, Greater}
use Rattle.kb_label.specs.Names.{name_cmp}
use Rattle.kb_label.specs.NameOrder.{name_cmp-equal}
use Rattle.mkb_pick.proofs.Narrowed.{narrowed_up, narrowed_down}
use Rattle.mkb_pick.proofs.places.place_from.Goals as goal

pub returns-in-Equal : goal.returns-in-Equal
returns-in-Equal c =
    let l = c.args.names.now in
    let n = c.args.name.now in
    let place = c.place_between-place.result in
    let at = c.index-names-place.result in
    let within : place < length l = omega (arith, c.place_between-place.ensures.before, c.loop-low.invariant.1) in
    let same = name_cmp-equal at n (sym c.cmp.ensures ∙ c.in-Equal.is) in
    (within, get_or_default l place n at within ∙ sym c.index-names-place.is ∙ same)

pub loop-low-preserved-in-Less : goal.loop-low-preserved-in-Less
loop-low-preserved-in-Less c =
    let l = c.args.names.now in
    let n = c.args.name.now in
    let place = c.place_between-place.result in
    let at = c.index-names-place.result in
    let is = c.loop-low.invariant in
    let within : place < length l = omega (arith, c.place_between-place.ensures.before, is.1) in
    let less : name_cmp (get_or l place at) n ≡ Less = ap (λ m. name_cmp m n) (sym c.index-names-place.is) ∙ sym c.cmp.ensures ∙ c.in-Less.is in (
      narrowed_up l n c.requires c.loop-low.low c.loop-low.high place at within is.0 less,
      is.1,
      omega (arith, c.saturating_add-next.ensures, c.place_between-place.ensures.most, c.place_between-place.ensures.before, is.3, is.4),
      omega (arith, c.saturating_mul-step.ensures, is.3),
      is.4,
    )

pub loop-low-preserved : goal.loop-low-preserved
loop-low-preserved c =
    let l = c.args.names.now in
    let n = c.args.name.now in
    let place = c.place_between-place.result in
    let at = c.index-names-place.result in
    let is = c.loop-low.invariant in
    let within : place < length l = omega (arith, c.place_between-place.ensures.before, is.1) in
    let more : name_cmp (get_or l place at) n ≡ Greater = ap (λ m. name_cmp m n) (sym c.index-names-place.is) ∙ sym c.cmp.ensures ∙ c.in-Greater.is in (
      narrowed_down l n c.requires c.loop-low.low c.loop-low.high place at within is.0 more,
      omega (arith, within),
      omega (arith, c.loop-low-test.true, is.4),
      is.3,
      omega (arith, c.place_between-place.ensures.before, is.4),
    )
