use Rattle.std.proofs.Common.{ap, sym, ◌∙◌, length, arith}
use Rattle.kb_label.specs.Packed.{words_of}
use Rattle.kb_label.proofs.Kept.{short_words, short_same}
use Rattle.kb_label.proofs.process.Process.of_word.Goals as goal

pub invariant_of-result : goal.invariant_of-result
invariant_of-result c =
    let same = short_same c.args.first c.args.len c.requires in
    (omega (arith, c.requires.2), short_words c.args.first c.args.len c.requires ∙ ap (words_of 16) (sym same), ap length same ∙ sym c.requires.1)

pub returns : goal.returns
returns c = short_same c.args.first c.args.len c.requires
