use Rattle.std.proofs.Common.{arith, sym, ◌∙◌, subst}
use Rattle.std.proofs.lemmas.Bool.{false≢true}
use Rattle.kb_goals.proofs.FrontRead.{AreReadLines, no_lines, another_line, line_end, no_line, all_lines}
use Rattle.kb_goals.proofs.front.up_to_end.Goals as goal

pub loop-count-init : goal.loop-count-init
loop-count-init c = no_lines c.args.text.now

pub split_at-requires : goal.split_at-requires
split_at-requires c = c.loop-count.invariant.within

pub returns-in_default : goal.returns-in_default
returns-in_default c = no_line c.args.text.now c.split_at.result.1.now c.loop-count.count c.loop-count.at c.loop-count.invariant c.split_at.ensures.back c.in_default.ensures.line

pub returns-then-is_end : goal.returns-then-is_end
returns-then-is_end c = line_end c.args.text.now c.split_at.result.1.now c.in-Some.line.now c.loop-count.count c.loop-count.at c.in-Some.size c.loop-count.invariant c.split_at.ensures.back c.in-Some.ensures.line c.in-Some.ensures.size (c.is_end.ensures.0 c.if-is_end.true)

pub loop-count-preserved : goal.loop-count-preserved
loop-count-preserved c = another_line c.args.text.now c.split_at.result.1.now c.in-Some.line.now c.loop-count.count c.loop-count.at c.in-Some.size c.loop-count.invariant c.split_at.ensures.back c.in-Some.ensures.line c.in-Some.ensures.size (λ e. false≢true (sym c.if-is_end.false ∙ c.is_end.ensures.1 e))

pub returns : goal.returns
returns c = all_lines c.args.text.now c.loop-count.at (subst (λ n. AreReadLines c.args.text.now n c.loop-count.at) (omega (arith, c.loop-count-test.false, c.loop-count.auto.count-end)) c.loop-count.invariant)
