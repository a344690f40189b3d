use Rattle.std.proofs.Common.{arith, ◌≡◌, sym, ◌∙◌}
use Rattle.std.proofs.lemmas.Fmt.{decimal_injective}
use Rattle.kb_cert.proofs.read.read_positive.Goals as goal

pub returns-in_default : goal.returns-in_default
returns-in_default c = λ n h e.
    let k = c.in-Some.ensures in
    let q : n ≡ c.in-Some.n = decimal_injective n c.in-Some.n (omega (arith, h.1, c.requires)) (omega (arith, k.0)) (e ∙ sym k.1) in
    omega (arith, h.1, c.if-n-most.false)

pub returns-in_default-2 : goal.returns-in_default-2
returns-in_default-2 c = λ n h e.
    let k = c.in-Some.ensures in
    let q : n ≡ c.in-Some.n = decimal_injective n c.in-Some.n (omega (arith, h.1, c.requires)) (omega (arith, k.0)) (e ∙ sym k.1) in
    omega (arith, h.0, c.if-n-ge1.false)
