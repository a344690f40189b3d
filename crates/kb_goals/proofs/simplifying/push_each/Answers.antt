use Rattle.std.proofs.Common.{append_assoc, ◌≡◌, ◌∙◌, ◌<◌, ◌+◌, ◌++◌, ◌∷◌, [], sym, ap, ap₂, take, length, List, ℕ, arith}
use Rattle.std.proofs.lemmas.List.{take_more, length-take-le}
use Rattle.kb_text.specs.Terms.{names_of}
use Rattle.kb_goals.specs.declared.simplifying.Simplified.{Simplified}
use Rattle.kb_goals.specs.Simplifying.{simplified_line, simplified_lines}
use Rattle.kb_goals.proofs.SimplifiedLines.{simplified_lines-more}
use Rattle.kb_goals.proofs.simplifying.push_each.Goals as goal

pub loop-k-preserved : goal.loop-k-preserved
loop-k-preserved c =
    let ds = c.args.simplified.now in
    let k = c.loop-k.k in
    let names = names_of c.args.signature.now in
    let d = c.index-simplified-k.result in
    let room : k < length ds = omega (arith, c.loop-k-test.true) in
    let number : k + 1 ≡ 1 + length (take k ds) = omega (arith, length-take-le k ds (omega arith)) in
    c.in_ok-push_simplified.ensures ∙ ap₂ (λ (xs : List ℕ) n. xs ++ simplified_line names n d) c.loop-k.invariant number
    ∙ append_assoc c.args.out.now.items (simplified_lines names 1 (take k ds)) (simplified_line names (1 + length (take k ds)) d)
    ∙ ap (c.args.out.now.items ++◌) (sym (ap (simplified_lines names 1) (take_more ds k d room ∙ ap (λ (x : Simplified). take k ds ++ x ∷ []) (sym c.index-simplified-k.is)) ∙ simplified_lines-more names 1 (take k ds) d))
