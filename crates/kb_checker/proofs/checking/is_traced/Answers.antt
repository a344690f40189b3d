use Rattle.std.proofs.Common.{◌≡◌, ◌∙◌, sym, ap, ap₂, subst, arith, Some, None}
use Rattle.std.proofs.lemmas.Option.{same_Some}
use Rattle.kb_term.specs.Pair.{Pair, canonical, canonical_pair, IsCanonicalPair}
use Rattle.kb_term.specs.View.{pair_of}
use Rattle.kb_overlap.specs.Trace.{item}
use Rattle.kb_trace.specs.Steps.{pairs_of}
use Rattle.kb_checker.proofs.Citing.{cited_pair, traced_not, traced_is}
use Rattle.kb_checker.proofs.checking.is_traced.Goals as goal

pub returns-in-None : goal.returns-in-None
returns-in-None c =
    let rule = c.args.rule.now in
    let step = c.index-trace-cited.result in
    let at : item (pairs_of c.args.trace.now) c.args.cited ≡ Some step.pair = cited_pair c.args.trace.now c.args.cited step (λ e. omega arith) (omega arith) c.index-trace-cited.is in
    let none : canonical_pair rule.left rule.right ≡ None = ap₂ canonical_pair (sym c.left.ensures) (sym c.right.ensures) ∙ sym c.in_ok-canonical.ensures ∙ c.in-None.is in (
      λ e. absurd (cc),
      λ h. absurd (traced_not rule.left rule.right step.pair (subst IsCanonicalPair c.pair-pair.ensures c.first-first.ensures.canonical) none (same_Some step.pair (canonical rule.left rule.right) (sym at ∙ h))),
    )

pub returns-in-Some : goal.returns-in-Some
returns-in-Some c =
    let rule = c.args.rule.now in
    let step = c.index-trace-cited.result in
    let found = c.in-Some.found in
    let at : item (pairs_of c.args.trace.now) c.args.cited ≡ Some step.pair = cited_pair c.args.trace.now c.args.cited step (λ e. omega arith) (omega arith) c.index-trace-cited.is in
    let made : Some found ≡ canonical_pair rule.left rule.right = sym c.in-Some.is ∙ c.in_ok-canonical.ensures ∙ ap₂ canonical_pair c.left.ensures c.right.ensures in
    let same : pair_of c.first-first.result.now c.second-second.result.now ≡ step.pair = λ i. record { first = (c.first-first.ensures.side ∙ ap (λ (p : Pair). p.first) c.pair-pair.ensures) i; second = (c.second-second.ensures.side ∙ ap (λ (p : Pair). p.second) c.pair-pair.ensures) i } in
    traced_is rule.left rule.right step.pair found (item (pairs_of c.args.trace.now) c.args.cited) c.has_sides.result at made ((λ y. c.has_sides.ensures.0 y ∙ same), (λ z. c.has_sides.ensures.1 (z ∙ sym same)))
