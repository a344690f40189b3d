use Rattle.std.proofs.Common.{◌∙◌, sym, arith}
use Rattle.cert_pool.proofs.Signatures.{same_symbols}
use Rattle.cert_pool.proofs.comparing.is_same_signature.Goals as goal

pub returns : goal.returns
returns c _ =
    let h = same_symbols c.symbols-ours.result.now c.symbols-theirs.result.now c.if-ours-theirs.false (λ k d l. c.loop-i.invariant k d (let t = c.loop-i-test.false in omega (arith, l, t))) in
    sym c.symbols-ours.ensures.symbols ∙ h ∙ c.symbols-theirs.ensures.symbols
