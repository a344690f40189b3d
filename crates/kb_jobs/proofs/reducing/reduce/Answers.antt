use Rattle.std.proofs.Common.{ap, sym, subst, not, List, ◌∙◌}
use Rattle.kb_term.specs.Pair.{Pair}
use Rattle.kb_term.specs.View.{tree_of}
use Rattle.kb_node.specs.declared.job.Fact.{Fact}
use Rattle.kb_jobs.specs.Reducing.{is_any, AreFactsAt}
use Rattle.kb_jobs.proofs.Reduced.{no_redex, facts_missing}
use Rattle.kb_jobs.proofs.reducing.reduce.Goals as goal

pub rewrite-requires-in-Some-2-clause-before : goal.rewrite-requires-in-Some-2-clause-before
rewrite-requires-in-Some-2-clause-before c _ =
    let s = c.args.s.now in
    no_redex c.system-system.result (not (is_any s 0)) (tree_of c.first.result.now) c.in_ok-redex.field-0 s.rules.rules s.pair.first c.system-system.ensures (c.first.ensures.side ∙ ap (λ (q : Pair). q.first) c.as_pair-pair.ensures) c.in_default.is c.in_ok-redex.ensures

pub facts-requires-clause-first : goal.facts-requires-clause-first
facts-requires-clause-first c =
    let s = c.args.s.now in
    no_redex c.system-system.result (not (is_any s 0)) (tree_of c.first.result.now) c.in_ok-redex.field-0 s.rules.rules s.pair.first c.system-system.ensures (c.first.ensures.side ∙ ap (λ (q : Pair). q.first) c.as_pair-pair.ensures) c.in_default.is c.in_ok-redex.ensures

pub facts-requires-clause-second : goal.facts-requires-clause-second
facts-requires-clause-second c =
    let s = c.args.s.now in
    no_redex c.system-system.result (not (is_any s 1)) (tree_of c.second.result.now) c.in_ok-redex-2.field-0 s.rules.rules s.pair.second c.system-system.ensures (c.second.ensures.side ∙ ap (λ (q : Pair). q.second) c.as_pair-pair.ensures) c.in_default-2.is c.in_ok-redex-2.ensures

pub returns : goal.returns
returns c =
    let s = c.args.s.now in
    let first = no_redex c.system-system.result (not (is_any s 0)) (tree_of c.first.result.now) c.in_ok-redex.field-0 s.rules.rules s.pair.first c.system-system.ensures (c.first.ensures.side ∙ ap (λ (q : Pair). q.first) c.as_pair-pair.ensures) c.in_default.is c.in_ok-redex.ensures in
    let second = no_redex c.system-system.result (not (is_any s 1)) (tree_of c.second.result.now) c.in_ok-redex-2.field-0 s.rules.rules s.pair.second c.system-system.ensures (c.second.ensures.side ∙ ap (λ (q : Pair). q.second) c.as_pair-pair.ensures) c.in_default-2.is c.in_ok-redex-2.ensures in
    facts_missing s c.requires first second c.new.result (subst {A = List Fact} (AreFactsAt s s.unknown.items) (sym c.new.ensures) c.in_ok-facts.ensures)
