use Rattle.std.proofs.Common.{ℕ, suc, ◌≡◌, ◌+◌, ◌<◌, refl, sym, subst, List, length, take, flat_map, Option, Some, None, arith}
use Rattle.kb_label.specs.declared.verdict.Reason.{Reason}
use Rattle.kb_node.specs.declared.job.Deduced.{Deduced}
use Rattle.mkb_model.specs.Proposals.{NamedOverlap, own_limit, both_ways, AreDeduced}
use Rattle.kb_jobs.specs.declared.groups.Group.{Group}
use Rattle.kb_jobs.specs.Groups.{DeducesGroup, overlaps_in}
use Rattle.kb_jobs.specs.Overlapping.{first_of, second_of}
use Rattle.kb_jobs.proofs.Reduced.{read_at}
use Rattle.kb_jobs.proofs.Adding.{Within, take_length, group_there, groups_all, within_next, deduced_next, stops_in_group}
use Rattle.kb_jobs.proofs.overlapping.overlap.Goals as goal

pub push_pairs-requires : goal.push_pairs-requires
push_pairs-requires c =
    let s = c.args.s.now in
    let gs = c.in_ok-groups.groups.items in
    let i = c.loop-i.i in
    let inside : i < length gs = omega (arith, c.len-i-end.ensures, c.loop-i-test.true) in
    group_there (both_ways (first_of s) (second_of s)) gs c.in_ok-groups.ensures i c.index.result.now (read_at gs i c.index.result.now inside c.index.ensures)

pub returns-in-Some : goal.returns-in-Some
returns-in-Some c =
    let s = c.args.s.now in
    let gs = c.in_ok-groups.groups.items in
    let i = c.loop-i.i in
    let g = c.index.result.now in
    let inside : i < length gs = omega (arith, c.len-i-end.ensures, c.loop-i-test.true) in
    let there = read_at gs i g inside c.index.ensures in
    let stop = subst {A = Option Reason} (DeducesGroup (overlaps_in g) c.loop-i.pairs.items c.push_pairs.new.pairs.items) c.in-Some.is c.in_ok-reason.ensures in (
      refl,
      (
        refl,
        record {
          overlaps = flat_map overlaps_in gs;
          all = groups_all (both_ways (first_of s) (second_of s)) gs c.in_ok-groups.ensures;
          first = stops_in_group (λ (o : NamedOverlap). own_limit o.overlap.sides ≡ None) (λ (o : NamedOverlap). own_limit o.overlap.sides ≡ Some c.in-Some.reason) gs i g there c.loop-i.invariant.0 stop;
        },
      ),
    )

pub loop-i-preserved : goal.loop-i-preserved
loop-i-preserved c =
    let gs = c.in_ok-groups.groups.items in
    let i = c.loop-i.i in
    let g = c.index.result.now in
    let mid = c.loop-i.pairs.items in
    let new = c.push_pairs.new.pairs.items in
    let inside : i < length gs = omega (arith, c.len-i-end.ensures, c.loop-i-test.true) in
    let there = read_at gs i g inside c.index.ensures in
    let more = subst {A = Option Reason} (DeducesGroup (overlaps_in g) mid new) c.in_default.is c.in_ok-reason.ensures in
    let next : suc i ≡ i + 1 = omega arith in
    subst {A = ℕ} (λ n. Within (flat_map overlaps_in (take n gs)) × AreDeduced new (flat_map overlaps_in (take n gs))) next (within_next gs i g there c.loop-i.invariant.0 more.0, deduced_next gs i g mid new there c.loop-i.invariant.1 more.1)

pub returns : goal.returns
returns c =
    let s = c.args.s.now in
    let gs = c.in_ok-groups.groups.items in
    let i = c.loop-i.i in
    let all : take i gs ≡ gs = take_length gs i (omega (arith, c.len-i-end.ensures, c.loop-i-test.false)) in (
      refl,
      refl,
      record {
        overlaps = flat_map overlaps_in gs;
        all = groups_all (both_ways (first_of s) (second_of s)) gs c.in_ok-groups.ensures;
        within = subst {A = List Group} (λ z. Within (flat_map overlaps_in z)) all c.loop-i.invariant.0;
        proposed = subst {A = List Deduced} (λ z. AreDeduced z (flat_map overlaps_in gs)) (sym c.new.ensures) (subst {A = List Group} (λ z. AreDeduced c.loop-i.pairs.items (flat_map overlaps_in z)) all c.loop-i.invariant.1);
      },
    )
