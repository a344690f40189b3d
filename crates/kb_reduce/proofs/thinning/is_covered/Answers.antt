use Rattle.std.proofs.Common.{ℕ, ◌+◌, ◌-◌, ◌≡◌, ◌∙◌, sym, ap, subst, arith, refl, length, take, drop, get_or, ⊎_elim}
use Rattle.std.proofs.lemmas.List.{take_all, length-drop}
use Rattle.std.proofs.lemmas.Option.{slice_get-get_or, same_Some}
use Rattle.kb_term.specs.Rule.{Rule}
use Rattle.kb_term.specs.View.{tree_of}
use Rattle.kb_rewrite.specs.NormalForm.{HasRedex}
use Rattle.kb_checker.specs.Answers.{rules_of}
use Rattle.kb_reduce.proofs.Covering.{covered_before, covered_behind, covered_either}
use Rattle.kb_reduce.proofs.thinning.is_covered.Goals as goal

pub returns-then-branch : goal.returns-then-branch
returns-then-branch c r e =
    let before = take c.args.k c.args.rules.now in
    let same : get_or c.args.rules.now c.args.k c.index-rules-k.result ≡ r = same_Some _ _ (sym (slice_get-get_or c.args.rules.now c.args.k c.index-rules-k.result c.requires) ∙ e) in
    let left : tree_of c.left-left.result.now ≡ r.0.left = c.left-left.ensures ∙ ap (λ (x : Rule × ℕ). x.0.left) same in
    (λ _. covered_before before (drop (c.args.k + 1) c.args.rules.now) r (subst (HasRedex (rules_of before)) left (c.in_ok-has_redex.ensures.0 (grind (arith, c.if-branch.true)))), λ _. refl)

pub returns : goal.returns
returns c r e =
    let rules = c.args.rules.now in
    let before = take c.args.k rules in
    let behind = drop (c.args.k + 1) rules in
    let same : get_or rules c.args.k c.index-rules-k.result ≡ r = same_Some _ _ (sym (slice_get-get_or rules c.args.k c.index-rules-k.result c.requires) ∙ e) in
    let left : tree_of c.left-left.result.now ≡ r.0.left = c.left-left.ensures ∙ ap (λ (x : Rule × ℕ). x.0.left) same in
    let whole : take (length rules - (c.args.k + 1)) behind ≡ behind = take_all (length rules - (c.args.k + 1)) behind (omega (arith, length-drop (c.args.k + 1) rules)) in (
      λ h. covered_behind before behind r (subst (HasRedex (rules_of behind)) left (subst (λ xs. HasRedex (rules_of xs) (tree_of c.left-left.result.now)) whole (c.in_ok-behind.ensures.0 h))),
      λ h.
          ⊎_elim
          (λ k. let y = c.in_ok-has_redex.ensures.1 (subst (HasRedex (rules_of before)) (sym left) k) in absurd (grind (arith, y, c.if-branch.false)))
          (λ k. c.in_ok-behind.ensures.1 (subst (λ xs. HasRedex (rules_of xs) (tree_of c.left-left.result.now)) (sym whole) (subst (HasRedex (rules_of behind)) (sym left) k)))
          (covered_either before behind r h),
    )
