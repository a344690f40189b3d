use Rattle.std.proofs.Common.{arith, subst, map}
use Rattle.std.specs.Prelude.{MatchOption}
use Rattle.std.proofs.lemmas.List.{length-map}
use Rattle.kb_overlap.specs.View.{overlap_of}
use Rattle.kb_checker.specs.Verdicts.{Closes, FailsToClose}
use Rattle.kb_checker.proofs.Firsts.{good_more, good_all, fails_first, mapped_member}
use Rattle.kb_checker.proofs.closing.first_open.Goals as goal

pub returns-in-Some : goal.returns-in-Some
returns-in-Some c =
    let rules = c.args.system.now in
    let o = c.index-found-k.result in
    let m = mapped_member overlap_of c.args.found.now c.loop-k.k o c.loop-k-test.true c.index-found-k.is in
    fails_first (Closes rules) (FailsToClose rules c.in-Some.failure) (map overlap_of c.args.found.now) c.loop-k.k (overlap_of o) m.0 m.1 c.loop-k.invariant
    (subst (λ x. MatchOption x (Closes rules (overlap_of o)) (λ f. FailsToClose rules f (overlap_of o))) c.in-Some.is c.in_ok-close_failure.ensures)

pub loop-k-preserved : goal.loop-k-preserved
loop-k-preserved c =
    let rules = c.args.system.now in
    let o = c.index-found-k.result in
    let m = mapped_member overlap_of c.args.found.now c.loop-k.k o c.loop-k-test.true c.index-found-k.is in
    good_more (Closes rules) (map overlap_of c.args.found.now) c.loop-k.k (overlap_of o) m.0 m.1
    (subst (λ x. MatchOption x (Closes rules (overlap_of o)) (λ f. FailsToClose rules f (overlap_of o))) c.in-None.is c.in_ok-close_failure.ensures)
    c.loop-k.invariant

pub returns : goal.returns
returns c = good_all (Closes c.args.system.now) (map overlap_of c.args.found.now) c.loop-k.k (omega (arith, length-map c.args.found.now overlap_of, c.loop-k-test.false)) c.loop-k.invariant
