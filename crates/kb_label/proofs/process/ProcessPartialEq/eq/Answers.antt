use Rattle.std.proofs.Common.{◌≡◌, ◌∙◌, ap, ap₂, sym, ℕ, arith, rules}
use Rattle.std.proofs.Math.Dec.{eqb}
use Rattle.std.specs.Ordering.{is_eq, nat_cmp}
use Rattle.std.specs.Cmp.{tied_itself, nat_cmp_total}
use Rattle.kb_label.specs.Names.{name_eq}
use Rattle.kb_label.specs.NameOrder.{name_eq-by_cmp}
use Rattle.kb_label.specs.Packed.{name_in}
use Rattle.kb_label.proofs.Words.{name_cmp_word}
use Rattle.kb_label.proofs.process.ProcessPartialEq.eq.Goals as goal

told : (a b : ℕ) → eqb a b ≡ is_eq (nat_cmp a b)
told a b = search rules

pub returns-then-self-le-WORD_BITS : goal.returns-then-self-le-WORD_BITS
returns-then-self-le-WORD_BITS c =
    let p = name_in c.self.inside.words c.self.inside.len in
    let q = name_in c.other.inside.words c.other.inside.len in
    told _ _
    ∙ ap is_eq (name_cmp_word c.self.inside.words c.other.inside.words p q c.self.invariant.1 c.other.invariant.1 (omega (arith, c.if-self-le-WORD_BITS.true, c.self.invariant.2)) (ap₂ nat_cmp c.self.invariant.2 (c.other.invariant.2 ∙ sym c.if-self-other.true) ∙ tied_itself nat_cmp_total c.self.inside.len))
    ∙ sym (name_eq-by_cmp p q)
    ∙ ap₂ name_eq c.self.view_is c.other.view_is

pub returns-else-self-other : goal.returns-else-self-other
returns-else-self-other c = c.is_eq.ensures ∙ ap is_eq c.cmp.ensures ∙ sym (name_eq-by_cmp c.args.self.now c.args.other.now)
