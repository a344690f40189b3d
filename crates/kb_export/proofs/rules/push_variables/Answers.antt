use Rattle.std.proofs.Common.{ℕ, ◌∙◌, ◌∷◌, ◌++◌, [], sym, ap, append_assoc, arith}
use Rattle.std.specs.Prelude.{flat_map}
use Rattle.std.specs.List.{range_with_len}
use Rattle.std.proofs.lemmas.List.{flat_map_more}
use Rattle.kb_text.specs.Terms.{names_of, variable_text}
use Rattle.kb_text.proofs.PrintLaws.{range_push}
use Rattle.kb_export.proofs.rules.push_variables.Goals as goal

pub loop-n-preserved : goal.loop-n-preserved
loop-n-preserved c =
    let names = names_of c.args.signature.now in
    let n = c.loop-n.n in
    let old = c.args.out.now.items in
    let f = λ (n : ℕ). 32 ∷ variable_text names n in
    c.in_ok-push_term.ensures.ok ∙ ap (λ xs. xs ++ variable_text names n) c.in_ok-push.ensures.items
    ∙ append_assoc c.loop-n.out.items (32 ∷ []) (variable_text names n)
    ∙ ap (λ xs. xs ++ f n) c.loop-n.invariant
    ∙ flat_map_more f old (range_with_len 0 n) n
    ∙ ap (λ xs. old ++ flat_map f xs) (sym (range_push 0 n n (omega arith)))
