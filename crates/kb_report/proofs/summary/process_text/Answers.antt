use Rattle.std.proofs.Common.{◌≡◌, ◌<◌, ◌++◌, ◌∷◌, [], ℕ, Bool, false, List, Some, length, map, take, get_or, sym, ap, ◌∙◌, arith}
use Rattle.std.proofs.lemmas.List.{map_more}
use Rattle.std.proofs.lemmas.Option.{slice_get-get_or}
use Rattle.kb_report.specs.Summaries.{bit_digit}
use Rattle.kb_report.proofs.summary.process_text.Goals as goal

some_of : (a b : Bool) → Some a ≡ Some b → a ≡ b
some_of a b h = cc

pub loop-i-preserved : goal.loop-i-preserved
loop-i-preserved c =
    let p = c.args.process.now in
    let i = c.loop-i.i in
    let below : i < length p = omega (arith, c.len-i-end.ensures.count) in
    let same : get_or p i false ≡ c.bit.result = some_of (get_or p i false) c.bit.result (sym (slice_get-get_or p i false below) ∙ c.bit.ensures) in
    c.in_ok-push.ensures.items
    ∙ ap (λ (l : List ℕ). l ++ c.bit_digit.result ∷ []) c.loop-i.invariant
    ∙ ap (λ n. map bit_digit (take i p) ++ n ∷ []) (c.bit_digit.ensures ∙ ap bit_digit (sym same))
    ∙ sym (map_more bit_digit p i false below)
