use Rattle.std.proofs.Common.{ℕ, ◌≡◌, ◌+◌, ◌∙◌, ap, sym, arith, cond}
use Rattle.mkb_model.specs.Plain.{is_rule}
use Rattle.mkb_report.proofs.Counted.{rules_counted, rules_most}
use Rattle.mkb_report.proofs.summary.rules_of_process.Goals as goal
use Rattle.mkb_report.proofs.summary.rules_of_process.Goals.{then-has_label, else-has_label, then-has_label-2, else-has_label-2}

pub overflow_add-count : goal.overflow_add-count
overflow_add-count c = omega (arith, c.loop-i.invariant, rules_most c.args.state.now c.args.p.now c.loop-i.i, c.loop-i-test.true, c.len-i-end.ensures.most)

pub overflow_add-count-then-has_label-2 : goal.overflow_add-count-then-has_label-2
overflow_add-count-then-has_label-2 c =
    let most = rules_most c.args.state.now c.args.p.now c.loop-i.i in
    elim c.if-has_label.branch [
      | then-has_label w ↦ omega (arith, w.count-is, c.loop-i.invariant, most, c.loop-i-test.true, c.len-i-end.ensures.most)
      | else-has_label w ↦ omega (arith, w.count-is, c.loop-i.invariant, most, c.loop-i-test.true, c.len-i-end.ensures.most)
    ]

same : (n : ℕ) → n ≡ n + 0
same n = omega arith

pub loop-i-preserved : goal.loop-i-preserved
loop-i-preserved c =
    let b = c.args.state.now in
    let p = c.args.p.now in
    let i = c.loop-i.i in
    let first : c.if-has_label.count ≡ c.loop-i.count + cond (is_rule b p (record { node = i; dir = 0 })) 1 0 =
    elim c.if-has_label.branch [
      | then-has_label w ↦ w.count-is ∙ ap (λ r. c.loop-i.count + cond r 1 0) (sym w.if-has_label.true ∙ c.has_label.ensures)
      | else-has_label w ↦ w.count-is ∙ same c.loop-i.count ∙ ap (λ r. c.loop-i.count + cond r 1 0) (sym w.if-has_label.false ∙ c.has_label.ensures)
    ] in
    let second : c.if-has_label-2.count ≡ c.if-has_label.count + cond (is_rule b p (record { node = i; dir = 1 })) 1 0 =
    elim c.if-has_label-2.branch [
      | then-has_label-2 w ↦ w.count-is ∙ ap (λ r. c.if-has_label.count + cond r 1 0) (sym w.if-has_label-2.true ∙ c.has_label-in-loop-i.ensures)
      | else-has_label-2 w ↦ w.count-is ∙ same c.if-has_label.count ∙ ap (λ r. c.if-has_label.count + cond r 1 0) (sym w.if-has_label-2.false ∙ c.has_label-in-loop-i.ensures)
    ] in
    second ∙ ap (λ n. n + cond (is_rule b p (record { node = i; dir = 1 })) 1 0) (first ∙ ap (λ n. n + cond (is_rule b p (record { node = i; dir = 0 })) 1 0) c.loop-i.invariant) ∙ sym (rules_counted b p i)
