use Rattle.std.proofs.Common.{arith, sym, ◌∙◌, below_more}
use Rattle.std.specs.Cmp.Lexicographic.{same_text, other_text}
use Rattle.kb_term.proofs.SymbolNames.{name_read}
use Rattle.kb_term.proofs.signature.Signature.symbol_named.Goals as goal

pub returns-then-eq : goal.returns-then-eq
returns-then-eq c =
    (omega arith, sym (name_read c.args.self.now c.loop-f.f c.name.result.now c.name.ensures) ∙ same_text c.name.result.now c.args.name.now (sym c.if-eq.true ∙ c.eq.ensures))

pub loop-f-preserved : goal.loop-f-preserved
loop-f-preserved c =
    below_more _ _ c.loop-f.invariant
    (λ e. other_text c.name.result.now c.args.name.now (sym c.if-eq.false ∙ c.eq.ensures) (name_read c.args.self.now c.loop-f.f c.name.result.now c.name.ensures ∙ e))
