use Rattle.std.proofs.Common.{arith, sym, ◌<◌, List, ℕ, subst}
use Rattle.std.specs.Prelude.{MatchOption, Vec}
use Rattle.std.specs.declared.alloc.Global.{Global}
use Rattle.kb_cert.specs.Reading.{IsWeightsText, IsPrecedenceText, IsOrderText}
use Rattle.kb_cert.proofs.OrderTexts.{order_found, order_no_weights, order_no_precedence}
use Rattle.kb_cert.proofs.read.read_order.Goals as goal

pub returns-in-Some-3 : goal.returns-in-Some-3
returns-in-Some-3 c =
    let sig = c.args.sig.now in
    let field = c.in-Some.field.now in
    let rest = c.in-Some.rest.now in
    let n = c.count-2.result in
    let some : 0 < n = omega (arith, c.count.ensures.count, c.count-2.ensures.count, c.if-count-eq0.false) in
    let w = subst (λ read. MatchOption read ((weights : List ℕ) → ¬ IsWeightsText n field weights) (λ (weights : Vec ℕ Global). IsWeightsText n field weights.items)) c.in-Some-2.is c.in_ok-weights.ensures in
    let p = subst (λ read. MatchOption read ((symbols : List ℕ) → ¬ IsPrecedenceText sig rest symbols) (IsPrecedenceText sig rest)) c.in-Some-3.is c.in_ok-precedence-in-Some-2.ensures in
    subst (IsOrderText sig c.args.text.now) (sym c.new-in-Some-3.ensures) (order_found sig n c.args.text.now field rest c.in-Some-2.weights.items c.in-Some-3.precedence some c.count-2.ensures.count c.in-Some.ensures.1 w p)

pub returns-in-None-2 : goal.returns-in-None-2
returns-in-None-2 c =
    let sig = c.args.sig.now in
    let field = c.in-Some.field.now in
    let rest = c.in-Some.rest.now in
    let n = c.count-2.result in
    let some : 0 < n = omega (arith, c.count.ensures.count, c.count-2.ensures.count, c.if-count-eq0.false) in
    let p = subst (λ read. MatchOption read ((symbols : List ℕ) → ¬ IsPrecedenceText sig rest symbols) (IsPrecedenceText sig rest)) c.in-None-2.is c.in_ok-precedence-in-Some-2.ensures in
    order_no_precedence sig n c.args.text.now field rest some c.count-2.ensures.count c.in-Some.ensures.0 c.in-Some.ensures.1 p

pub returns-in-None : goal.returns-in-None
returns-in-None c =
    let sig = c.args.sig.now in
    let field = c.in-Some.field.now in
    let rest = c.in-Some.rest.now in
    let n = c.count-2.result in
    let some : 0 < n = omega (arith, c.count.ensures.count, c.count-2.ensures.count, c.if-count-eq0.false) in
    let w = subst (λ read. MatchOption read ((weights : List ℕ) → ¬ IsWeightsText n field weights) (λ (weights : Vec ℕ Global). IsWeightsText n field weights.items)) c.in-None.is c.in_ok-weights.ensures in
    order_no_weights sig n c.args.text.now field rest some c.count-2.ensures.count c.in-Some.ensures.0 c.in-Some.ensures.1 w
