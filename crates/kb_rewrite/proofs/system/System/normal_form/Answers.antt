use Rattle.std.proofs.Common.{◌≡◌, ◌∙◌, sym, subst, arith}
use Rattle.kb_term.specs.View.{tree_of}
use Rattle.kb_rewrite.proofs.Strategy.{tried_step, tried_none, no_redex_same}
use Rattle.kb_rewrite.proofs.Runs.{Run, run_more, run_same, answers_form}
use Rattle.kb_rewrite.proofs.system.System.normal_form.Goals as goal

pub returns-in-Same : goal.returns-in-Same
returns-in-Same c =
    let rules = c.args.self.now in
    let term = tree_of c.loop-count.term in
    let same = tried_none rules term c.in-Same.form c.in-Same.is c.in_ok-form.ensures in
    answers_form rules (tree_of c.args.t.now) (tree_of c.in-Same.form) c.loop-count.count (run_same rules (tree_of c.args.t.now) c.loop-count.count (sym same.1) c.loop-count.invariant) (omega (arith, c.loop-count-test.true)) (no_redex_same rules (sym same.1) same.0)

pub loop-count-preserved : goal.loop-count-preserved
loop-count-preserved c =
    let rules = c.args.self.now in
    let term = tree_of c.loop-count.term in
    let step = tried_step rules term c.in-Rewritten.next c.in-Rewritten.is c.in_ok-form.ensures in
    run_more rules (tree_of c.args.t.now) term (tree_of c.in-Rewritten.next) c.loop-count.count c.loop-count.invariant step (sym c.term_limit.ensures.limit ∙ c.in_default.is)

pub returns-in-Same-2 : goal.returns-in-Same-2
returns-in-Same-2 c =
    let rules = c.args.self.now in
    let term = tree_of c.loop-count.term in
    let same = tried_none rules term c.in-Same-2.form c.in-Same-2.is c.in_ok-form-2.ensures in
    let all : c.loop-count.count ≡ 10000 = omega (arith, c.loop-count-test.false, c.loop-count.auto.count-end) in
    answers_form rules (tree_of c.args.t.now) (tree_of c.in-Same-2.form) 10000 (run_same rules (tree_of c.args.t.now) 10000 (sym same.1) (subst (Run rules (tree_of c.args.t.now) term) all c.loop-count.invariant)) (omega arith) (no_redex_same rules (sym same.1) same.0)
