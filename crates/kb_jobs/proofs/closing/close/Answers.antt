use Rattle.std.proofs.Common.{ℕ, suc, ◌≡◌, ◌+◌, ◌<◌, inl, refl, ap, sym, subst, List, [], length, map, take, flat_map, Option, arith}
use Rattle.kb_lemmas.proofs.Membership.{none_in}
use Rattle.kb_label.specs.declared.verdict.Reason.{Reason}
use Rattle.mkb_model.specs.declared.proposed.Proposed.{Proposed}
use Rattle.mkb_model.specs.Proposals.{NamedOverlap, IsFormed, IsStopped}
use Rattle.mkb_model.proofs.Lists.{clash}
use Rattle.kb_jobs.specs.declared.groups.Group.{Group}
use Rattle.kb_jobs.specs.Rules.{listed}
use Rattle.kb_jobs.specs.Groups.{overlaps_in, origin_of}
use Rattle.kb_jobs.specs.Closing.{all_pairs, IsSettled, SettlesGroup, ProposesClose}
use Rattle.kb_jobs.proofs.Reduced.{read_at}
use Rattle.kb_jobs.proofs.Adding.{take_length, group_there, groups_all, flat_next, stops_in_group}
use Rattle.kb_jobs.proofs.closing.close.Goals as goal

pub loop-i-init : goal.loop-i-init
loop-i-init c = record {
  formed = λ o i. none_in i;
  apart = [];
  picked = refl;
  proposed = ap (map origin_of) c.new.ensures.items;
  joined = λ e o i. none_in i;
  some = λ e. clash e refl;
}

pub settle_group-requires-clause-group : goal.settle_group-requires-clause-group
settle_group-requires-clause-group c =
    let s = c.args.s.now in
    let gs = c.in_ok-groups.groups.items in
    let i = c.loop-i.i in
    let inside : i < length gs = omega (arith, c.len-i-end.ensures, c.loop-i-test.true) in
    group_there (all_pairs s.rules) gs c.in_ok-groups.ensures i c.index.result.now (read_at gs i c.index.result.now inside c.index.ensures)

pub returns-in-Some : goal.returns-in-Some
returns-in-Some c =
    let s = c.args.s.now in
    let gs = c.in_ok-groups.groups.items in
    let i = c.loop-i.i in
    let g = c.index.result.now in
    let inside : i < length gs = omega (arith, c.len-i-end.ensures, c.loop-i-test.true) in
    let there = read_at gs i g inside c.index.ensures in
    let stop = subst {A = Option Reason} (SettlesGroup s (overlaps_in g) c.loop-i.seen c.settle_group.new.seen) c.in-Some.is c.in_ok-reason.ensures in
    subst {A = Proposed} (ProposesClose s) (sym c.stopped.ensures) (
      refl,
      (
        refl,
        inl (record {
          overlaps = flat_map overlaps_in gs;
          all = groups_all (all_pairs s.rules) gs c.in_ok-groups.ensures;
          first = stops_in_group (IsFormed (listed s.rules)) (IsStopped (listed s.rules) c.in-Some.reason) gs i g there c.loop-i.invariant.formed stop;
        }),
      ),
    )

pub loop-i-preserved : goal.loop-i-preserved
loop-i-preserved c =
    let s = c.args.s.now in
    let gs = c.in_ok-groups.groups.items in
    let i = c.loop-i.i in
    let g = c.index.result.now in
    let inside : i < length gs = omega (arith, c.len-i-end.ensures, c.loop-i-test.true) in
    let there = read_at gs i g inside c.index.ensures in
    let more = subst {A = Option Reason} (SettlesGroup s (overlaps_in g) c.loop-i.seen c.settle_group.new.seen) c.in_default.is c.in_ok-reason.ensures in
    let next : suc i ≡ i + 1 = omega arith in
    subst {A = ℕ} (λ n. IsSettled s (flat_map overlaps_in (take n gs)) c.settle_group.new.seen) next
    (subst {A = List NamedOverlap} (λ z. IsSettled s z c.settle_group.new.seen) (sym (flat_next overlaps_in gs i g there)) (more (flat_map overlaps_in (take i gs)) c.loop-i.invariant))

pub conclude-requires-clause-settled : goal.conclude-requires-clause-settled
conclude-requires-clause-settled c =
    let s = c.args.s.now in
    let gs = c.in_ok-groups.groups.items in
    let i = c.loop-i.i in
    let all : take i gs ≡ gs = take_length gs i (omega (arith, c.len-i-end.ensures, c.loop-i-test.false)) in
    (flat_map overlaps_in gs, groups_all (all_pairs s.rules) gs c.in_ok-groups.ensures, subst {A = List Group} (λ z. IsSettled s (flat_map overlaps_in z) c.loop-i.seen) all c.loop-i.invariant)
