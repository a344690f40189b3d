use Rattle.std.proofs.Common.{arith, subst}
use Rattle.std.specs.Prelude.{MatchOption}
use Rattle.std.proofs.lemmas.List.{length-map}
use Rattle.kb_term.specs.Tree.{Tree}
use Rattle.kb_term.specs.View.{tree_of, equations_of_list}
use Rattle.kb_term.specs.declared.term.Term.{Term}
use Rattle.kb_checker.specs.Verdicts.{IsProved, FailsToProve}
use Rattle.kb_checker.proofs.Firsts.{good_more, good_all, fails_first, mapped_member}
use Rattle.kb_checker.proofs.checking.first_unproved.Goals as goal

trees : Term × Term → Tree × Tree
trees e = (tree_of e.0, tree_of e.1)

pub returns-in-Some : goal.returns-in-Some
unfolding trees
returns-in-Some c =
    let rules = c.args.system.now in
    let e = c.index-equations-k.result in
    let m = mapped_member trees c.args.equations.now c.loop-k.k e c.loop-k-test.true c.index-equations-k.is in
    fails_first (IsProved rules) (FailsToProve rules c.in-Some.failure) (equations_of_list c.args.equations.now) c.loop-k.k (trees e) m.0 m.1 c.loop-k.invariant
    (subst (λ o. MatchOption o (IsProved rules (trees e)) (λ f. FailsToProve rules f (trees e))) c.in-Some.is c.in_ok-join_failure.ensures)

pub loop-k-preserved : goal.loop-k-preserved
unfolding trees
loop-k-preserved c =
    let rules = c.args.system.now in
    let e = c.index-equations-k.result in
    let m = mapped_member trees c.args.equations.now c.loop-k.k e c.loop-k-test.true c.index-equations-k.is in
    good_more (IsProved rules) (equations_of_list c.args.equations.now) c.loop-k.k (trees e) m.0 m.1
    (subst (λ o. MatchOption o (IsProved rules (trees e)) (λ f. FailsToProve rules f (trees e))) c.in-None.is c.in_ok-join_failure.ensures)
    c.loop-k.invariant

pub returns : goal.returns
unfolding trees
returns c = good_all (IsProved c.args.system.now) (equations_of_list c.args.equations.now) c.loop-k.k (omega (arith, length-map c.args.equations.now trees, c.loop-k-test.false)) c.loop-k.invariant
