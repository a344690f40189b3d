use Rattle.std.proofs.Common.{arith, ◌∙◌, ap, sym, refl, subst, ◌≡◌, ◌≤◌, ◌<◌, ◌+◌, ◌*◌, ◌^◌, ℕ, length, get_or, map, drop, [], inl, inr, zero-lt-suc, All, ⊎_elim}
use Rattle.std.proofs.Math.Nat.{mul-le-mul}
use Rattle.std.proofs.lemmas.Bool.{cases_lt}
use Rattle.kb_term.specs.Tree.{tree_size, tree_depth, variables_of, trees_of, apply}
use Rattle.kb_term.specs.View.{tree_of}
use Rattle.kb_linear.specs.LinearOrder.{linear_value, weighted_sum}
use Rattle.kb_linear.specs.Limits.{interpretation_of}
use Rattle.kb_linear.specs.Forms.{form_value}
use Rattle.kb_linear.proofs.Weights.{weighted-set, weighted-part}
use Rattle.kb_linear.proofs.Values.{room_all, application, row_at, no_row, small_at, value_apply, added_first, weighted_sum-end, room_first, room_rest, terms_more, added_more, argument_smaller, scale_alone, FirstHasRoom, HasRoom, scaled_value, numbers_end, terms_end, read_at}
use Rattle.kb_linear.proofs.form.LinearForm.+add.Goals as goal

pub returns-else-f-rows : goal.returns-else-f-rows
returns-else-f-rows t c = λ a.
    let i = interpretation_of c.args.rows.now in
    let us = trees_of c.in-App.arguments in
    let z : linear_value i a (tree_of c.args.t.now) ≡ 0 =
    ap (λ u. linear_value i a (tree_of u)) c.in-App.is ∙ value_apply i a c.in-App.f.0 us (0, []) (no_row c.args.rows.now c.in-App.f.0 c.if-f-rows.false) ∙ ap (λ n. 0 + n) (weighted_sum-end i a us [] (inr refl)) in
    let p : c.args.scale * linear_value i a (tree_of c.args.t.now) ≡ c.args.scale * 0 = ap (λ n. c.args.scale * n) z in
    omega (arith, p)

pub returns-in-Var : goal.returns-in-Var
returns-in-Var t c = λ a.
    let i = interpretation_of c.args.rows.now in
    let small : c.in-Var.n < 64 = subst (λ u. All (λ n. n < 64) (variables_of (tree_of u))) c.in-Var.is c.requires.variables 0 0 (zero-lt-suc _) in
    let w = weighted-set c.args.self.now.coefficients c.in-Var.n c.args.scale a (omega arith) in
    let v : linear_value i a (tree_of c.args.t.now) ≡ a c.in-Var.n = ap (λ u. linear_value i a (tree_of u)) c.in-Var.is in
    let p : c.args.scale * linear_value i a (tree_of c.args.t.now) ≡ c.args.scale * a c.in-Var.n = ap (λ n. c.args.scale * n) v in
    omega (arith, w, p)

pub overflow_add-self : goal.overflow_add-self
overflow_add-self t c =
    let k = weighted-part c.args.self.now.coefficients c.in-Var.n in
    let s = scale_alone c.args.scale (tree_depth (tree_of c.args.t.now)) (3 ^ 64) c.requires.scale_fits in
    let q = c.requires.sum_fits in
    omega arith

pub overflow_mul-self : goal.overflow_mul-self
overflow_mul-self t c =
    let r = small_at c.args.rows.now c.in-App.f.0 c.index-rows-f.result c.requires.small c.if-f-rows.true c.index-rows-f.is in
    let s = scale_alone c.args.scale (tree_depth (tree_of c.args.t.now)) (3 ^ 64) c.requires.scale_fits in
    let e : c.from.result ≤ 15 = let q = r.constant in omega (arith, c.from.ensures) in
    let m = mul-le-mul s e in
    omega arith

pub overflow_add-self-then-f-rows : goal.overflow_add-self-then-f-rows
overflow_add-self-then-f-rows t c =
    let r = small_at c.args.rows.now c.in-App.f.0 c.index-rows-f.result c.requires.small c.if-f-rows.true c.index-rows-f.is in
    let s = scale_alone c.args.scale (tree_depth (tree_of c.args.t.now)) (3 ^ 64) c.requires.scale_fits in
    let e : c.from.result ≤ 15 = let q = r.constant in omega (arith, c.from.ensures) in
    let m = mul-le-mul s e in
    let q = c.requires.sum_fits in
    omega arith

pub loop-j-init : goal.loop-j-init
loop-j-init t c =
    let i = interpretation_of c.args.rows.now in
    let us = trees_of (map tree_of c.items-items.result.now) in
    let whole = application c.args.t.now c.in-App.f c.in-App.arguments c.items-items.result.now c.in-App.is c.items-items.ensures in
    let row = row_at c.args.rows.now c.in-App.f.0 c.index-rows-f.result c.if-f-rows.true c.index-rows-f.is in
    let r = small_at c.args.rows.now c.in-App.f.0 c.index-rows-f.result c.requires.small c.if-f-rows.true c.index-rows-f.is in
    let m : c.args.scale * c.from.result ≡ c.args.scale * c.index-rows-f.result.0 = ap (λ n. c.args.scale * n) c.from.ensures in (
      λ a. added_first i a (form_value c.args.self.now a) _ c.args.scale c.in-App.f.0 (tree_of c.args.t.now) us (c.index-rows-f.result.0, c.index-rows-f.result.1.items) whole row (omega (arith, m)),
      room_all c.args.scale (form_value c.args.self.now (λ _. 1)) _ c.in-App.f.0 c.index-rows-f.result.0 us r.constant (omega (arith, m))
          (subst (λ u. All (λ n. n < 64) (variables_of u)) whole c.requires.variables)
          (subst (λ u. c.args.scale * 3 ^ tree_depth u ≤ 3 ^ 64) whole c.requires.scale_fits)
          (subst (λ u. form_value c.args.self.now (λ _. 1) + 16 * 3 ^ 64 * tree_size u ≤ 16 * 3 ^ 64 * 512) whole c.requires.sum_fits),
    )

first : (t : ℕ) (c : goal.After-from-in-loop-j t) → FirstHasRoom c.args.scale (form_value c.loop-j.self (λ _. 1)) c.from-in-loop-j.result (tree_of c.index-items-j.result)
first t c =
    let items = c.items-items.result.now in
    let r = small_at c.args.rows.now c.in-App.f.0 c.index-rows-f.result c.requires.small c.if-f-rows.true c.index-rows-f.is in
    let more = terms_more items c.loop-j.j c.index-items-j.result (omega arith) c.index-items-j.is in
    let e : c.from-in-loop-j.result ≤ 3 = let q = (r.coefficients c.loop-j.j 0 (omega arith)).1 in omega (arith, c.from-in-loop-j.ensures) in
    room_first c.args.scale (form_value c.loop-j.self (λ _. 1)) c.from-in-loop-j.result (tree_of c.index-items-j.result) (trees_of (map tree_of (drop (c.loop-j.j + 1) items))) e
    (subst (HasRoom c.args.scale (form_value c.loop-j.self (λ _. 1))) more c.loop-j.invariant.1)

pub overflow_mul-scale : goal.overflow_mul-scale
overflow_mul-scale t c =
    let f = first t c in
    let s = scale_alone (c.args.scale * c.from-in-loop-j.result) (tree_depth (tree_of c.index-items-j.result)) (3 ^ 64) f.scale_fits in
    omega arith

pub add-requires : goal.add-requires
add-requires t c =
    let f = first t c in
    let items = c.items-items.result.now in
    let whole = application c.args.t.now c.in-App.f c.in-App.arguments items c.in-App.is c.items-items.ensures in
    let size : tree_size (tree_of c.args.t.now) ≡ tree_size (apply c.in-App.f.0 (trees_of (map tree_of items))) = ap tree_size whole in
    let s = argument_smaller items c.loop-j.j c.index-items-j.result (omega arith) c.index-items-j.is in
    (omega (arith, c.decreases, s, size), (c.requires.small, (f.variables, (f.scale_fits, f.sum_fits))))

-- what the call added is at most what there was room for
pub loop-j-preserved : goal.loop-j-preserved
loop-j-preserved t c =
    let i = interpretation_of c.args.rows.now in
    let items = c.items-items.result.now in
    let cs = c.index-rows-f.result.1.items in
    let u = tree_of c.index-items-j.result in
    let rest = trees_of (map tree_of (drop (c.loop-j.j + 1) items)) in
    let more = terms_more items c.loop-j.j c.index-items-j.result (omega arith) c.index-items-j.is in
    let r = small_at c.args.rows.now c.in-App.f.0 c.index-rows-f.result c.requires.small c.if-f-rows.true c.index-rows-f.is in
    let e : get_or cs c.loop-j.j 0 ≡ c.from-in-loop-j.result = read_at cs c.loop-j.j c.index.result.now (omega arith) c.index.ensures ∙ sym c.from-in-loop-j.ensures in
    let c3 : c.from-in-loop-j.result ≤ 3 = let q = (r.coefficients c.loop-j.j 0 (omega arith)).1 in omega (arith, c.from-in-loop-j.ensures) in
    let room = subst (HasRoom c.args.scale (form_value c.loop-j.self (λ _. 1))) more c.loop-j.invariant.1 in
    let f = room_first c.args.scale (form_value c.loop-j.self (λ _. 1)) c.from-in-loop-j.result u rest c3 room in
    let v = scaled_value i c.requires.small (3 ^ 64) (c.args.scale * c.from-in-loop-j.result) u f.scale_fits in
    let b = c.add.ensures (λ _. 1) in (
      λ a. added_more i a (form_value c.loop-j.self a) (form_value c.add.new.self a) c.args.scale c.from-in-loop-j.result c.loop-j.j _ u rest _ cs (c.add.ensures a) more (omega arith) e (c.loop-j.invariant.0 a),
      room_rest c.args.scale (form_value c.loop-j.self (λ _. 1)) (form_value c.add.new.self (λ _. 1)) u rest (omega (arith, b, v)) room,
    )

pub returns-after-loop-j : goal.returns-after-loop-j
returns-after-loop-j t c = λ a.
    let i = interpretation_of c.args.rows.now in
    let items = c.items-items.result.now in
    let cs = c.index-rows-f.result.1.items in
    let none : weighted_sum i a (trees_of (map tree_of (drop c.loop-j.j items))) (drop c.loop-j.j cs) ≡ 0 =
    weighted_sum-end i a _ _ (⊎_elim (λ h. inl (terms_end items c.loop-j.j (omega arith))) (λ h. inr (numbers_end cs c.loop-j.j h)) (cases_lt c.loop-j.j (length cs))) in
    let p : c.args.scale * weighted_sum i a (trees_of (map tree_of (drop c.loop-j.j items))) (drop c.loop-j.j cs) ≡ c.args.scale * 0 = ap (λ n. c.args.scale * n) none in
    omega (arith, p, c.loop-j.invariant.0 a)
