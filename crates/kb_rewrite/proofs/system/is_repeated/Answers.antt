use Rattle.std.proofs.Common.{◌<◌, ◌≡◌, ◌∙◌, sym, ap, subst, arith, refl, length, below_more, get_or, Some}
use Rattle.std.proofs.lemmas.Grind.{get_or_default_zero}
use Rattle.std.specs.Prelude.{slice_get}
use Rattle.kb_term.specs.Rule.{Rule}
use Rattle.kb_term.specs.View.{tree_of}
use Rattle.rule_index.specs.Index.{IsCandidate}
use Rattle.kb_rewrite.proofs.FirstRedexes.{rule_at, rule_there}
use Rattle.kb_rewrite.proofs.Positions.{false_true}
use Rattle.kb_rewrite.proofs.Indexing.{candidate_inside, key_at, number_at, held_candidate, candidate_of_held}
use Rattle.kb_rewrite.proofs.system.is_repeated.Goals as goal

pub bounds-rules-index : goal.bounds-rules-index
bounds-rules-index c =
    let key = c.index.result.now in
    let found : IsCandidate c.args.index.now (tree_of c.args.left.now) key = (c.in_ok-keys.ensures.keys key).0 (key_at c.in_ok-keys.keys.items c.loop-k.k key (omega (arith, c.loop-k-test.true, c.len-k-end.ensures)) c.index.ensures) in
    candidate_inside c.args.rules.now c.args.index.now (tree_of c.args.left.now) key c.requires found

pub returns-then-eq : goal.returns-then-eq
returns-then-eq c =
    let rules = c.args.rules.now in
    let key = c.index.result.now in
    let left = tree_of c.args.left.now in
    let rule = c.index-rules-index.result in
    let found : IsCandidate c.args.index.now left key = (c.in_ok-keys.ensures.keys key).0 (key_at c.in_ok-keys.keys.items c.loop-k.k key (omega (arith, c.loop-k-test.true, c.len-k-end.ensures)) c.index.ensures) in
    let there = rule_there rules key rule (candidate_inside rules c.args.index.now left key c.requires found) c.index-rules-index.is in
    let same : rule.left ≡ left = sym c.left.ensures ∙ c.eq.ensures.same.0 c.if-eq.true in
    (λ t. (key, held_candidate rules c.args.index.now left left key rule c.requires found there same), λ h. refl)

pub loop-k-preserved : goal.loop-k-preserved
loop-k-preserved c =
    let rules = c.args.rules.now in
    let keys = c.in_ok-keys.keys.items in
    let key = c.index.result.now in
    let left = tree_of c.args.left.now in
    let room : c.loop-k.k < length keys = omega (arith, c.loop-k-test.true, c.len-k-end.ensures) in
    let found : IsCandidate c.args.index.now left key = (c.in_ok-keys.ensures.keys key).0 (key_at keys c.loop-k.k key room c.index.ensures) in
    let inside = candidate_inside rules c.args.index.now left key c.requires found in
    below_more _ _ c.loop-k.invariant (λ rule there same.
    let here : slice_get rules key ≡ Some rule = subst (λ n. slice_get rules n ≡ Some rule) (sym (number_at keys c.loop-k.k key room c.index.ensures)) there in
    let one : rule ≡ c.index-rules-index.result = rule_at rules key c.index-rules-index.result rule inside c.index-rules-index.is here in
    false_true c.if-eq.false (c.eq.ensures.same.1 (c.left.ensures ∙ ap (λ (r : Rule). r.left) (sym one) ∙ same)))

pub returns : goal.returns
returns c =
    let rules = c.args.rules.now in
    let keys = c.in_ok-keys.keys.items in
    let left = tree_of c.args.left.now in (
      λ t. absurd (cc),
      λ h.
          let in_keys = candidate_of_held rules c.args.index.now left keys c.in_ok-keys.ensures.matches h.0 h.1 in
          let number : get_or keys in_keys.0 0 ≡ h.0 = sym (get_or_default_zero keys in_keys.0 h.0 in_keys.1) ∙ in_keys.2 in
          absurd (c.loop-k.invariant in_keys.0 (omega (arith, in_keys.1, c.loop-k-test.false, c.len-k-end.ensures)) h.1.rule (subst (λ n. slice_get rules n ≡ Some h.1.rule) (sym number) h.1.there) h.1.same),
    )
