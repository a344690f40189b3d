use Rattle.std.proofs.Common.{refl, arith}
use Rattle.kb_label.specs.Packed.{name_in, word, words_of}
use Rattle.kb_label.proofs.process.Process.root.Goals as goal

pub invariant_of-result : goal.invariant_of-result
unfolding name_in word words_of
invariant_of-result c = (omega arith, refl, refl)

pub returns : goal.returns
unfolding name_in
returns c = refl
