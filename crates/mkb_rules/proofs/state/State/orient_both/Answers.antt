use Rattle.std.proofs.Common.{◌≡◌, ◌≤◌, length, sym, subst, arith}
use Rattle.kb_label.specs.declared.verdict.Reason.TheVariants.{Processes}
use Rattle.mkb_model.specs.Plain.{Plain}
use Rattle.mkb_model.specs.Effects.{counted, give_up, most_living}
use Rattle.mkb_model.specs.declared.proposed.Proposed.TheVariants.{Both}
use Rattle.mkb_rules.specs.Applying.{Commits}
use Rattle.mkb_rules.specs.declared.applied.Applied.{Applied}
use Rattle.mkb_rules.specs.declared.applied.Applied.TheVariants.{Over}
use Rattle.mkb_rules.proofs.Answered.{ok_so}
use Rattle.mkb_rules.proofs.Limits.{stopped, fork_crowded}
use Rattle.mkb_rules.proofs.state.State.orient_both.Goals as goal

pub returns-then-living-ge-MAX_LIVING-clause-ok : goal.returns-then-living-ge-MAX_LIVING-clause-ok
returns-then-living-ge-MAX_LIVING-clause-ok c =
    let b = c.args.self.now in
    let p = c.args.p.now in
    let n = c.args.n in
    let first = c.args.cert0.now in
    let second = c.args.cert1.now in
    let x = Both p n first second in
    let new = c.give_up.new.self in
    let names = c.in_ok-names.names in
    let many : most_living ≤ length c.self.inside.log = omega (arith, c.living.ensures.count, c.if-living-ge-MAX_LIVING.true) in
    let crowd : most_living ≤ length b.living = subst {A = Plain} (λ v. most_living ≤ length v.living) c.self.view_is many in
    ok_so c.give_up.result (λ (answer : Applied). (new ≡ counted (give_up Processes names b)) × (answer ≡ Over Processes)) (Commits b x new)
    (λ answer h. subst {A = Applied} (λ a. Commits b x new a) (sym h.1) (stopped b new x Processes names (fork_crowded b p n first second crowd) c.in_ok-names.ensures h.0)) c.give_up.ensures.ok
