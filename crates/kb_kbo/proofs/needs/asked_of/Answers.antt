use Rattle.std.proofs.Common.{arith, sym, ◌∙◌, subst}
use Rattle.std.proofs.lemmas.Bool.{false≢true}
use Rattle.kb_kbo.specs.Asking.{Asks, AreAskedAll}
use Rattle.kb_kbo.specs.Search.{Fits}
use Rattle.kb_kbo.proofs.Levels.{rule_asks, table_more}
use Rattle.kb_kbo.proofs.needs.asked_of.Goals as goal
use Rattle.kb_kbo.proofs.needs.asked_of.Goals.{in-Nothing+in_ok-push-in-Nothing, in-Above+else-not-learn}

pub returns-in-Refused : goal.returns-in-Refused
returns-in-Refused c = λ order l o.
    let a = rule_asks c.args.rules.now c.push_levels.new.levels c.new-levels.result.items c.loop-rule.rule-index c.rule-item.result _ _ order (omega arith) c.rule-item.is c.left.ensures c.right.ensures c.new-levels.ensures.items c.in_ok-push_levels.ensures l o in
    c.in-Refused.ensures order (subst (Asks order) (sym c.deref.ensures.value) a)

pub returns-then-not-learn : goal.returns-then-not-learn
returns-then-not-learn c = λ order l o.
    let a = rule_asks c.args.rules.now c.push_levels.new.levels c.new-levels.result.items c.loop-rule.rule-index c.rule-item.result _ _ order (omega arith) c.rule-item.is c.left.ensures c.right.ensures c.new-levels.ensures.items c.in_ok-push_levels.ensures l o in
    false≢true (sym c.if-not-learn.true ∙ (c.learn.ensures order.precedence (c.loop-rule.invariant order l o).1 (c.in-Above.ensures order (subst (Asks order) (sym c.deref.ensures.value) a))).0)

pub loop-rule-preserved : goal.loop-rule-preserved
loop-rule-preserved c = λ order l o.
    let a = rule_asks c.args.rules.now c.push_levels.new.levels c.new-levels.result.items c.loop-rule.rule-index c.rule-item.result _ _ order (omega arith) c.rule-item.is c.left.ensures c.right.ensures c.new-levels.ensures.items c.in_ok-push_levels.ensures l o in
    let i = c.loop-rule.invariant order l o in
    elim c.match-settled.branch [
      | in-Nothing+in_ok-push-in-Nothing w ↦ (
        subst (λ z. AreAskedAll order z.items) (sym w.table-is) (table_more order c.loop-rule.table.items w.push.new.self.items c.push_levels.new.levels w.in_ok-push-in-Nothing.ensures.items i.0 a),
        subst (λ z. Fits z order.precedence) (sym w.known-is) i.1,
      )
      | in-Above+else-not-learn w ↦ (
        subst (λ z. AreAskedAll order z.items) (sym w.table-is) i.0,
        subst (λ z. Fits z order.precedence) (sym w.known-is) (w.learn.ensures order.precedence i.1 (w.in-Above.ensures order (subst (Asks order) (sym c.deref.ensures.value) a))).1,
      )
    ]
