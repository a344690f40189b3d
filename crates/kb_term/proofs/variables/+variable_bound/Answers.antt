use Rattle.std.proofs.Common.{◌≡◌, ◌+◌, refl, sym, ap, subst, ◌∙◌, ◌++◌, [], ◌∷◌, arith}
use Rattle.std.specs.Prelude.{take}
use Rattle.std.proofs.lemmas.List.{take_all}
use Rattle.kb_term.specs.Tree.{variables_of}
use Rattle.kb_term.specs.View.{tree_of}
use Rattle.kb_term.proofs.Numbered.{variables_list, variables_list_more}
use Rattle.kb_term.proofs.Bounded.{IsLeastBound, bound-none, bound-one, bound-append}
use Rattle.kb_term.proofs.variables.+variable_bound.Goals as goal

pub loop-argument-init : goal.loop-argument-init
loop-argument-init t c = record {
  least = bound-none;
  whole = rw (c.in-App.is, ← c.arguments.view_is, c.deref-argument-items.ensures.value) refl;
}

pub loop-argument-preserved : goal.loop-argument-preserved
loop-argument-preserved t c =
    let items = c.deref-argument-items.result.now in
    let k = c.loop-argument.argument-index in
    let more = variables_list_more items k c.argument-item.result c.loop-argument-test.true in
    let before = variables_list (take k items) in
    let here = variables_of (tree_of c.argument-item.result) in
    let same : before ++ here ≡ variables_list (take (k + 1) items) = ap (λ u. before ++ variables_of (tree_of u)) c.argument-item.is ∙ sym more in
    record {
      least = subst (IsLeastBound c.max-bound.result) same (subst (λ m. IsLeastBound m (before ++ here)) (sym c.max-bound.ensures) (bound-append c.loop-argument.bound c.variable_bound.result before here c.loop-argument.invariant.least c.variable_bound.ensures));
      whole = c.loop-argument.invariant.whole;
    }

pub returns-after-loop-argument : goal.returns-after-loop-argument
returns-after-loop-argument t c =
    let items = c.deref-argument-items.result.now in
    let all = ap variables_list (take_all c.loop-argument.argument-index items c.loop-argument-test.false) in
    subst (IsLeastBound c.loop-argument.bound) (all ∙ sym c.loop-argument.invariant.whole) c.loop-argument.invariant.least

pub returns-in-Var : goal.returns-in-Var
returns-in-Var t c =
    let one : c.in-Var.n + 1 ≡ c.from.result + 1 = grind arith in
    subst (λ u. IsLeastBound (c.from.result + 1) (variables_of (tree_of u))) (sym c.in-Var.is) (subst (λ m. IsLeastBound m (c.in-Var.n ∷ [])) one (bound-one c.in-Var.n))
