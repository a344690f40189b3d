use Rattle.std.proofs.Common.{length, ap, sym, ◌∙◌}
use Rattle.kb_label.specs.Packed.{word}
use Rattle.kb_label.proofs.kept_name.KeptName.of.Goals as goal

pub invariant_of-result : goal.invariant_of-result
invariant_of-result c =
    let same = sym c.in_ok-new.ensures.ok in
    (c.first_word.ensures ∙ ap (word 64) same, c.len-2.ensures.count ∙ ap length same, tt)

pub returns : goal.returns
returns c = c.in_ok-new.ensures.ok
