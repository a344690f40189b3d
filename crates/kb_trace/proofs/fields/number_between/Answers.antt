use Rattle.std.proofs.Common.{arith, ◌≡◌, ◌<◌, ◌≤◌, sym, ◌∙◌}
use Rattle.std.specs.Prelude.{decimal}
use Rattle.std.proofs.lemmas.Fmt.{decimal_injective}
use Rattle.kb_trace.proofs.fields.number_between.Goals as goal

pub returns-then-number-least : goal.returns-then-number-least
returns-then-number-least c = λ n t.
    let h = t.high in
    let l = t.low in
    let e = c.in-Some.ensures in
    let same = decimal_injective n c.in-Some.number (omega arith) (omega (arith, e.0)) (t.spelling ∙ sym e.1) in
    omega arith

pub returns-then-number-greatest : goal.returns-then-number-greatest
returns-then-number-greatest c = λ n t.
    let h = t.high in
    let l = t.low in
    let e = c.in-Some.ensures in
    let same = decimal_injective n c.in-Some.number (omega arith) (omega (arith, e.0)) (t.spelling ∙ sym e.1) in
    omega arith
