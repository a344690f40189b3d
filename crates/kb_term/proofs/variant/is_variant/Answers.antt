use Rattle.std.proofs.Common.{◌≡◌, ◌∙◌, ap, ℕ, ◌≤◌, arith, length, List, take}
use Rattle.std.proofs.lemmas.List.{take_all, length-take}
use Rattle.kb_term.specs.Tree.{variables_of}
use Rattle.kb_term.specs.Pair.{distinct}
use Rattle.kb_term.specs.View.{tree_of}
use Rattle.kb_term.proofs.VariantTests.{named_decides, paired_decides}
use Rattle.kb_term.proofs.variant.is_variant.Goals as goal

-- at most 64 of the first 65 names are all
whole : (names ds : List ℕ) → names ≡ take 65 ds → length names ≤ 64 → names ≡ ds
whole names ds e h =
    let short : length ds ≤ 65 = omega (arith, h, ap (length {A = ℕ}) e, length-take 65 ds) in
    e ∙ take_all 65 ds short

pub returns-then-len-le64-2 : goal.returns-then-len-le64-2
returns-then-len-le64-2 c =
    let s = tree_of c.args.a.now in
    let t = tree_of c.args.b.now in
    named_decides s t c.of_term-forth.result c.of_term-back.result
    (whole c.of_term-forth.result (distinct (variables_of s)) c.of_term-forth.ensures (omega (arith, c.if-len-le64.true, c.len.ensures.count)))
    (whole c.of_term-back.result (distinct (variables_of t)) c.of_term-back.ensures (omega arith))
    c.named_alike.result c.named_alike.ensures

pub returns-else-len-le64 : goal.returns-else-len-le64
returns-else-len-le64 c = paired_decides (tree_of c.args.a.now) (tree_of c.args.b.now) c.paired.result c.paired.ensures
