use Rattle.std.proofs.Common.{arith, true, false, sym, subst, ◌∙◌}
use mathlib.Core.Bool.{true≢false}
use Rattle.kb_label.specs.Names.{Name}
use Rattle.mkb_pick.specs.Listings.{IsProcess}
use Rattle.mkb_agenda.specs.Following.{BringsChildren}
use Rattle.mkb_agenda.proofs.Splitting.{forks_if_ok, no_forks, none_before}
use Rattle.mkb_agenda.proofs.following.fork.Goals.{then-not-is_listed-via-then-not-is_listed, then-not-is_listed-via-else-not-is_listed+then-len-ge-MAX_BITS, then-is_listed-via-then-is_listed, then-is_listed-via-else-is_listed+then-is_listed-2}
use Rattle.mkb_agenda.proofs.following.fork.Goals as goal

pub returns-then-not-is_listed : goal.returns-then-not-is_listed
returns-then-not-is_listed c b k h = elim c.then-not-is_listed.branch as (λ _. BringsChildren b c.args.state.now c.args.process.now c.args.agenda.now.processes c.args.agenda.now.processes) [
  | then-not-is_listed-via-then-not-is_listed w ↦ no_forks c.args.state.now c.args.process.now c.args.n c.args.agenda.now.processes (λ m. true≢false (sym (c.is_listed.ensures.1 m) ∙ w.if-not-is_listed.true)) b k h
  | then-not-is_listed-via-else-not-is_listed+then-len-ge-MAX_BITS w ↦ absurd (omega (arith, k.short, w.len.ensures.count, w.if-len-ge-MAX_BITS.true))
]

pub returns-then-is_listed : goal.returns-then-is_listed
returns-then-is_listed c b k h = absurd (elim c.then-is_listed.branch as (λ _. ⊥) [
  | then-is_listed-via-then-is_listed w ↦ none_before b c.args.state.now c.args.process.now c.args.n c.args.agenda.now.processes k h false (subst {A = Name} (IsProcess c.args.agenda.now.processes) c.child-left.ensures (c.is_listed-2.ensures.0 w.if-is_listed.true))
  | then-is_listed-via-else-is_listed+then-is_listed-2 w ↦ none_before b c.args.state.now c.args.process.now c.args.n c.args.agenda.now.processes k h true (subst {A = Name} (IsProcess c.args.agenda.now.processes) c.child-right.ensures (w.is_listed-else-is_listed.ensures.0 w.if-is_listed-2.true))
])

pub returns : goal.returns
returns c = forks_if_ok c.args.state.now c.args.process.now c.child-left.result c.child-right.result c.args.n c.args.agenda.now.processes c.split.new.self.processes c.orient.new.agenda.processes c.orient-2.new.agenda.processes
    c.child-left.ensures c.child-right.ensures
    (λ m. true≢false (sym (c.is_listed-2.ensures.1 m) ∙ c.if-is_listed.false))
    (λ m. true≢false (sym (c.is_listed-else-is_listed.ensures.1 m) ∙ c.if-is_listed-2.false))
    c.in_ok-split.ensures.processes c.in_ok-split.ensures.jobs
    (c.in_ok-orient.ensures.exact (omega arith)) c.in_ok-orient.ensures.others
    c.orient-2.result (c.orient-2.ensures.exact (omega arith)) c.orient-2.ensures.others
