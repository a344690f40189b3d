use Rattle.std.proofs.Common.{ℕ, ◌+◌, ◌<◌, ◌≡◌, ◌∙◌, sym, ap, subst, subst₂, arith, ◌++◌, length, length-append, get_or, take, drop, Some}
use Rattle.std.specs.Prelude.{slice_get}
use Rattle.std.proofs.lemmas.List.{length-take-le, length-drop}
use Rattle.std.proofs.lemmas.Option.{slice_get-get_or}
use Rattle.kb_term.specs.Tree.{variable}
use Rattle.kb_term.specs.Rule.{Rule, rule_between}
use Rattle.kb_reduce.specs.Reducing.{IsCovered, IsThinned}
use Rattle.kb_reduce.proofs.Dropping.{left_out, stays, all_left}
use Rattle.kb_reduce.proofs.thinning.thin.Goals as goal
use Rattle.kb_reduce.proofs.thinning.thin.Goals.{then-branch, else-branch}

pub loop-preserved : goal.loop-preserved
loop-preserved c =
    let rules = c.loop.rules.items in
    let k = c.loop.k in
    let room : k < length rules = omega (arith, c.loop.invariant.count, c.loop-test.true, c.len-end.ensures) in
    let d : Rule × ℕ = (rule_between (variable 0) (variable 0), 0) in
    let r : Rule × ℕ = get_or rules k d in
    let at : slice_get rules k ≡ Some r = slice_get-get_or rules k d room in
    let said = c.in_ok-is_covered.ensures r (ap (λ xs. slice_get xs k) c.deref.ensures.value ∙ at) in
    let whole : take k c.deref.result.now ++ drop (k + 1) c.deref.result.now ≡ take k rules ++ drop (k + 1) rules = ap (λ xs. take k xs ++ drop (k + 1) xs) c.deref.ensures.value in
    elim c.if-branch.branch [
      | then-branch w ↦
          let items : c.if-branch.rules.items ≡ take k rules ++ drop (k + 1) rules = ap (λ v. v.items) w.rules-is ∙ w.leave_out.ensures in
          record {
            left = λ left h. c.loop.invariant.left left (left_out rules k r left room at (subst (λ xs. IsCovered xs r) whole (said.0 (grind (arith, w.if-branch.true)))) (subst₂ (λ n xs. IsThinned (take n xs) (drop n xs) left) w.k-is items h));
            count = omega (arith, c.loop.invariant.count, w.k-is, ap (length {A = Rule × ℕ}) items, length-append (take k rules) (drop (k + 1) rules), length-take-le k rules (omega (arith, room)), length-drop (k + 1) rules, room);
          }
      | else-branch w ↦
          record {
            left = λ left h. c.loop.invariant.left left (stays rules k r left room at (λ q. let y = said.1 (subst (λ xs. IsCovered xs r) (sym whole) q) in absurd (grind (arith, y, w.if-branch.false))) (subst₂ (λ n xs. IsThinned (take n xs) (drop n xs) left) w.k-is (ap (λ v. v.items) w.rules-is) h));
            count = omega (arith, c.loop.invariant.count, w.k-is, ap (λ v. length v.items) w.rules-is);
          }
    ]

pub returns : goal.returns
returns c = c.loop.invariant.left c.loop.rules.items (all_left c.loop.rules.items c.loop.k (omega (arith, c.loop.invariant.count, c.loop-test.false, c.loop.auto.counter-end, c.len-end.ensures)))
