use Rattle.std.proofs.Common.{arith, sym, ◌∙◌, below_more, refl}
use Rattle.std.proofs.lemmas.Bool.{false≢true}
use Rattle.kb_lemmas.proofs.Booleans.{fails}
use Rattle.kb_cert.proofs.Different.{different_from, twice_from, among_behind, behind_among}
use Rattle.kb_cert.proofs.read.are_different.Goals as goal

pub returns-then-is_listed : goal.returns-then-is_listed
returns-then-is_listed c =
    let symbols = c.args.symbols.now in
    let i = c.loop-i.i in
    fails (twice_from symbols i c.loop-i-test.true (among_behind symbols i (record { 0 = 0 }) c.loop-i-test.true (c.is_listed.ensures.0 c.if-is_listed.true)))

pub loop-i-preserved : goal.loop-i-preserved
loop-i-preserved c =
    let symbols = c.args.symbols.now in
    let i = c.loop-i.i in
    below_more _ _ c.loop-i.invariant (λ d. false≢true (sym c.if-is_listed.false ∙ c.is_listed.ensures.1 (behind_among symbols i (record { 0 = 0 }) c.loop-i-test.true d)))

pub returns : goal.returns
returns c = (λ e. different_from c.args.symbols.now (λ k p. c.loop-i.invariant k (omega arith)), λ d. refl)
