use Rattle.std.proofs.Common.{ℕ, suc, ◌≡◌, ◌+◌, ◌<◌, sym, subst, List, length, take, arith}
use Rattle.kb_node.specs.declared.job.Fact.{Fact}
use Rattle.kb_jobs.specs.Reducing.{AreFactsAt}
use Rattle.kb_jobs.proofs.Reduced.{facts_more, read_at}
use Rattle.kb_jobs.proofs.reducing.facts.Goals as goal

pub loop-i-preserved : goal.loop-i-preserved
loop-i-preserved c =
    let s = c.args.s.now in
    let us = s.unknown.items in
    let i = c.loop-i.i in
    let inside : i < length us = omega (arith, c.len-i-end.ensures, c.loop-i-test.true) in
    let next : suc i ≡ i + 1 = omega arith in
    subst {A = ℕ} (λ n. AreFactsAt s (take n us) c.push.new.self.items) next
    (subst {A = List Fact} (AreFactsAt s (take (suc i) us)) (sym c.in_ok-push.ensures.items)
    (facts_more s c.requires.reducible us i c.index.result.now c.loop-i.facts.items c.fact.result (read_at us i c.index.result.now inside c.index.ensures) c.loop-i.invariant c.fact.ensures))
