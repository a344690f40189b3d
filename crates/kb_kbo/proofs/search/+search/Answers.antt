use Rattle.std.proofs.Common.{sym, ◌∙◌, ◌++◌, ◌∷◌, [], ap, subst, arith, ◌≡◌, ◌+◌, ◌-◌, suc, refl, List, ℕ, length, ◌≤◌, All}
use Rattle.std.specs.Prelude.{Some, None, slice_index_or}
use Rattle.std.proofs.lemmas.Bool.{false≢true}
use Rattle.std.proofs.lemmas.List.{length-append}
use Rattle.std.proofs.lemmas.List.Elements.{All-append}
use Rattle.std.proofs.lemmas.Result.{IfOk-weaker}
use Rattle.kb_term.specs.First.{IsFirst}
use Rattle.kb_lpo.specs.Precedences.{precedences}
use Rattle.kb_kbo.specs.Measures.{IsWeight, order_of}
use Rattle.kb_kbo.specs.Orders.{KboOrients}
use Rattle.kb_kbo.specs.Asking.{AreAskedAll}
use Rattle.kb_kbo.specs.Search.{IsBetween, IsWeighed, orders_behind}
use Rattle.kb_kbo.proofs.Weighing.{NoneBelow, all_one, chosen_between, chosen_length, floor_next, leaf_weighed, lowest_least, none_behind, none_lowest, none_more, none_weighed, popped, some_weighed}
use Rattle.kb_kbo.proofs.search.+search.Goals as goal

pub returns-then-not-may_orient-clause-found : goal.returns-then-not-may_orient-clause-found
returns-then-not-may_orient-clause-found t c =
    let ws = c.args.weights.now.items in (
      refl,
      none_behind c.args.rules.now (length ws + c.args.left) c.args.left ws (λ w p ch cp o.
          let order = order_of (ws ++ w) p in
          let len : length (ws ++ w) ≤ 8 = omega (arith, length-append ws w, chosen_length c.args.left w ch, c.requires.few) in
          let b : IsBetween order c.filled.result c.filled-2.result = λ f h.
          let e = chosen_between ws c.args.left w f ch in
          let l = ap (λ z. slice_index_or z f 1) c.deref-2.ensures.value in
          let m = ap (λ z. slice_index_or z f 3) c.deref-3.ensures.value in
          (omega (arith, e, l, c.filled.ensures f h), omega (arith, e, m, c.filled-2.ensures f h)) in
          false≢true (sym c.if-not-may_orient.true ∙ c.may_orient.ensures order b (subst (AreAskedAll order) (sym c.deref.ensures.value) (c.requires.asked order len o).0))),
    )

pub returns-then-left-eq0-clause-found : goal.returns-then-left-eq0-clause-found
returns-then-left-eq0-clause-found t c =
    let ws = c.args.weights.now.items in
    let list = c.deref-then-left-eq0.result.now in
    let same = c.deref-then-left-eq0.ensures.value in
    let k = length ws + c.args.left in
    let rules = c.args.rules.now in
    let count : length list ≡ k = omega (arith, ap length same) in
    IfOk-weaker c.first_precedence.result (λ found. IsFirst (λ p. KboOrients (order_of list p) rules) (precedences (length list)) found) (IsWeighed rules k c.args.left ws ws)
    (λ found h. leaf_weighed rules k (length list) c.args.left ws list found (grind arith) count same h) c.first_precedence.ensures

pub loop-weight-init : goal.loop-weight-init
loop-weight-init t c =
    let ws = c.args.weights.now.items in
    let k = length ws + c.args.left in
    let n : suc (c.args.left - 1) ≡ c.args.left = grind arith in
    record {
      weights = refl;
      least = omega (arith, c.lowest-weight.ensures, lowest_least c.args.rules.now k c.args.left ws c.args.floor.now c.requires.floor);
      none = subst (NoneBelow c.args.rules.now k (c.args.left - 1) ws) (sym c.lowest-weight.ensures) (none_lowest c.args.rules.now k (c.args.left - 1) c.args.left ws c.args.floor.now n c.requires.floor);
    }

pub search-requires : goal.search-requires
search-requires t c =
    let ws = c.args.weights.now.items in
    let v = c.loop-weight.weight in
    let n : suc (c.args.left - 1) ≡ c.args.left = grind arith in
    let pushed : c.push.new.self.items ≡ ws ++ v ∷ [] = c.in_ok-push.ensures.items ∙ ap (λ z. z ++ v ∷ []) c.loop-weight.invariant.weights in
    let count : length ws + c.args.left ≡ length c.push.new.self.items + (c.args.left - 1) = omega (arith, n, ap length pushed, length-append ws (v ∷ [])) in (
      omega (arith, n, c.decreases),
      (
        omega (arith, count, c.requires.few),
        (
          subst (All IsWeight) (sym pushed) (All-append IsWeight ws (v ∷ []) c.requires.weights (all_one IsWeight v (c.loop-weight.invariant.least, omega (arith, c.loop-weight-test.true)))),
          (
            c.requires.measurable,
            (
              c.requires.asked,
              floor_next c.args.rules.now (length ws + c.args.left) (length c.push.new.self.items + (c.args.left - 1)) (c.args.left - 1) c.args.left v ws c.push.new.self.items c.args.floor.now c.behind.result.now n count pushed c.loop-weight.invariant.least (omega (arith, c.loop-weight-test.true)) c.behind.ensures c.requires.floor,
            ),
          ),
        ),
      ),
    )

pub returns-in-Some-clause-found : goal.returns-in-Some-clause-found
returns-in-Some-clause-found t c =
    let ws = c.args.weights.now.items in
    let v = c.loop-weight.weight in
    let k = length ws + c.args.left in
    let m = c.args.left - 1 in
    let rules = c.args.rules.now in
    let n : suc (c.args.left - 1) ≡ c.args.left = grind arith in
    let pushed : c.push.new.self.items ≡ ws ++ v ∷ [] = c.in_ok-push.ensures.items ∙ ap (λ z. z ++ v ∷ []) c.loop-weight.invariant.weights in
    let count : length c.push.new.self.items + m ≡ k = omega (arith, n, ap length pushed, length-append ws (v ∷ [])) in
    let s = subst (λ o. IsWeighed rules (length c.push.new.self.items + m) m c.push.new.self.items c.search.new.weights.items o) c.in-Some.is c.in_ok-found.ensures.found in
    let r = subst (λ (z : List ℕ). IsWeighed rules k m z c.search.new.weights.items (Some c.in-Some.found)) pushed (subst (λ (x : ℕ). IsWeighed rules x m c.push.new.self.items c.search.new.weights.items (Some c.in-Some.found)) count s) in
    some_weighed rules k m c.args.left ws v (order_of c.search.new.weights.items c.in-Some.found) n c.loop-weight.invariant.least (omega (arith, c.loop-weight-test.true)) c.loop-weight.invariant.none r

pub loop-weight-preserved : goal.loop-weight-preserved
loop-weight-preserved t c =
    let ws = c.args.weights.now.items in
    let v = c.loop-weight.weight in
    let k = length ws + c.args.left in
    let m = c.args.left - 1 in
    let rules = c.args.rules.now in
    let n : suc (c.args.left - 1) ≡ c.args.left = grind arith in
    let pushed : c.push.new.self.items ≡ ws ++ v ∷ [] = c.in_ok-push.ensures.items ∙ ap (λ z. z ++ v ∷ []) c.loop-weight.invariant.weights in
    let count : length c.push.new.self.items + m ≡ k = omega (arith, n, ap length pushed, length-append ws (v ∷ [])) in
    let s = subst (λ o. IsWeighed rules (length c.push.new.self.items + m) m c.push.new.self.items c.search.new.weights.items o) c.in_default.is c.in_ok-found.ensures.found in
    let r = subst (λ (z : List ℕ). IsFirst (λ order. KboOrients order rules) (orders_behind k m z) None) pushed (subst (λ (x : ℕ). IsFirst (λ order. KboOrients order rules) (orders_behind x m c.push.new.self.items) None) count s.1) in
    record {
      weights = popped ws v c.search.new.weights.items c.pop.new.self.items c.pop.result (s.0 ∙ pushed) c.pop.ensures.items (λ h. c.pop.ensures.variant.1 (let q = c.search.new.weights.ok in grind (arith, h, q)));
      least = omega (arith, c.loop-weight.invariant.least);
      none = none_more rules k m ws v c.loop-weight.invariant.none r;
    }

pub returns-clause-found : goal.returns-clause-found
returns-clause-found t c =
    let ws = c.args.weights.now.items in
    let n : suc (c.args.left - 1) ≡ c.args.left = grind arith in
    (c.loop-weight.invariant.weights, none_weighed c.args.rules.now (length ws + c.args.left) (c.args.left - 1) c.args.left ws c.loop-weight.weight n (omega (arith, c.loop-weight-test.false)) c.loop-weight.invariant.none)
