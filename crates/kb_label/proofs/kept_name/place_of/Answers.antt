use Rattle.std.proofs.Common.{None, subst, arith}
use Rattle.kb_label.specs.Kept.{IsPlaceOf}
use Rattle.kb_label.specs.Names.{Name}
use Rattle.kb_label.proofs.Kept.{keeps, keeps_name}
use Rattle.kb_label.proofs.kept_name.place_of.Goals as goal

pub short_place-requires-clause-kept : goal.short_place-requires-clause-kept
short_place-requires-clause-kept c =
    let len = c.len-then-len-le-WORD_BITS in
    keeps c.first_word.result len.result c.args.name.now c.first_word.ensures len.ensures.count None (omega (arith, c.if-len-le-WORD_BITS.true, c.len.ensures.count, len.ensures.count))

pub returns-then-len-le-WORD_BITS : goal.returns-then-len-le-WORD_BITS
returns-then-len-le-WORD_BITS c =
    let len = c.len-then-len-le-WORD_BITS in
    subst {A = Name} (λ p. IsPlaceOf c.args.names.now p c.short_place.result)
    (keeps_name c.first_word.result len.result c.args.name.now c.first_word.ensures len.ensures.count None (omega (arith, c.if-len-le-WORD_BITS.true, c.len.ensures.count, len.ensures.count)))
    c.short_place.ensures
