use Rattle.std.proofs.Common.{arith, ◌∙◌, sym}
use Rattle.kb_lemmas.proofs.Booleans.{fails}
use Rattle.kb_lpo.proofs.Answering.{holds, place_within, place_reached, place_passed, same_number, other_number}
use Rattle.kb_lpo.proofs.order.is_above.Goals as goal

pub returns-then-eq : goal.returns-then-eq
returns-then-eq c =
    let h = place_reached c.args.symbols.now c.loop-i.i c.args.g.0 (record { 0 = 0 }) c.loop-i-test.true (same_number (sym c.eq.ensures ∙ c.if-eq.true)) in
    fails (λ a. omega (arith, h, a, c.loop-i.invariant.0))

pub returns-then-eq-2 : goal.returns-then-eq-2
returns-then-eq-2 c =
    let h = place_reached c.args.symbols.now c.loop-i.i c.args.f.0 (record { 0 = 0 }) c.loop-i-test.true (same_number (sym c.eq-in-loop-i.ensures ∙ c.if-eq-2.true)) in
    let k = place_passed c.args.symbols.now c.loop-i.i c.args.g.0 (record { 0 = 0 }) c.loop-i-test.true c.loop-i.invariant.1 (other_number (sym c.eq.ensures ∙ c.if-eq.false)) in
    holds (omega (arith, h, k))

pub loop-i-preserved : goal.loop-i-preserved
loop-i-preserved c =
    let h = place_passed c.args.symbols.now c.loop-i.i c.args.f.0 (record { 0 = 0 }) c.loop-i-test.true c.loop-i.invariant.0 (other_number (sym c.eq-in-loop-i.ensures ∙ c.if-eq-2.false)) in
    let k = place_passed c.args.symbols.now c.loop-i.i c.args.g.0 (record { 0 = 0 }) c.loop-i-test.true c.loop-i.invariant.1 (other_number (sym c.eq.ensures ∙ c.if-eq.false)) in
    (h, k)

pub returns : goal.returns
returns c =
    let k = place_within c.args.symbols.now c.args.g.0 in
    fails (λ a. omega (arith, k, a, c.loop-i.invariant.0, c.loop-i-test.false))
