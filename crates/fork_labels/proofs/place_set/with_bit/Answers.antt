use Rattle.std.proofs.Common.{ap, sym, ◌∙◌}
use mir.Syntax.{w64}
use Rattle.std.proofs.lemmas.Nat.Bits.{bit_at_set_same, bit_at_set_other, bit_at_clear_same, bit_at_clear_other}
use Rattle.kb_label.specs.Packed.{digit}
use Rattle.fork_labels.proofs.place_set.with_bit.Goals as goal

pub returns-then-bit-clause-same : goal.returns-then-bit-clause-same
returns-then-bit-clause-same c = bit_at_set_same w64 c.args.word c.args.i c.requires ∙ ap digit (sym c.if-bit.true)

pub returns-then-bit-clause-others : goal.returns-then-bit-clause-others
returns-then-bit-clause-others c = λ j h k. bit_at_set_other w64 c.args.word c.args.i c.requires j k

pub returns-else-bit-clause-same : goal.returns-else-bit-clause-same
returns-else-bit-clause-same c = bit_at_clear_same w64 c.args.word c.args.i c.requires ∙ ap digit (sym c.if-bit.false)

pub returns-else-bit-clause-others : goal.returns-else-bit-clause-others
returns-else-bit-clause-others c = λ j h k. bit_at_clear_other w64 c.args.word c.args.i c.requires j h k
