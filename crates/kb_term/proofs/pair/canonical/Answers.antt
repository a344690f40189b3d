use Rattle.std.proofs.Common.{◌≡◌, refl, sym, ap, subst, ◌∙◌, true, false, Some}
use Rattle.std.specs.Prelude.{◌==◌}
use Rattle.std.specs.Ordering.{ordering_index}
use Rattle.kb_term.specs.Tree.{tree_eq}
use Rattle.kb_term.specs.Pair.{IsCanonicalPair}
use Rattle.kb_term.specs.View.{tree_of}
use Rattle.kb_term.proofs.Compared.{tree-is_eq}
use Rattle.kb_term.proofs.OwnPair.{canonical_own}
use Rattle.kb_term.proofs.pair.canonical.Goals as goal

pub returns-then-eq : goal.returns-then-eq
returns-then-eq c =
    let s = tree_of c.args.a.now in
    let t = tree_of c.args.b.now in
    let same : tree_eq s t ≡ true = tree-is_eq s t ∙ ap (λ o. ordering_index o == 1) (sym c.compare.ensures) ∙ sym c.eq.ensures ∙ c.if-eq.true in
    rw same refl

differ : (c : goal.In_ok-first) → tree_eq (tree_of c.args.a.now) (tree_of c.args.b.now) ≡ false
differ c = tree-is_eq (tree_of c.args.a.now) (tree_of c.args.b.now) ∙ ap (λ o. ordering_index o == 1) (sym c.compare.ensures) ∙ sym c.eq.ensures ∙ c.if-eq.false

pub invariant_of-result : goal.invariant_of-result
invariant_of-result c = subst IsCanonicalPair (sym c.in_ok-first.ensures) (canonical_own (tree_of c.args.a.now) (tree_of c.args.b.now) (differ c) c.requires)

pub returns : goal.returns
returns c = rw (differ c) (ap Some c.in_ok-first.ensures)
