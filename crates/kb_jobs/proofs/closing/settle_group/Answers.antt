use Rattle.std.proofs.Common.{ℕ, suc, ◌≡◌, ◌+◌, ◌<◌, ◌++◌, [], ◌∷◌, ap, sym, ◌∙◌, subst, List, length, take, Contains, Option, arith, append_assoc}
use Rattle.std.proofs.lemmas.List.{append-nil, length-map}
use Rattle.kb_lemmas.proofs.Membership.{none_in, slice_contains}
use Rattle.kb_lemmas.proofs.Lists.{get_map}
use Rattle.kb_label.specs.declared.verdict.Reason.{Reason}
use Rattle.mkb_model.specs.Proposals.{NamedOverlap, IsFormed, IsStopped}
use Rattle.kb_jobs.specs.Rules.{listed}
use Rattle.kb_jobs.specs.Groups.{overlaps_in, named_overlap}
use Rattle.kb_jobs.specs.Closing.{IsSettled, Settles}
use Rattle.kb_jobs.proofs.Reduced.{read_at}
use Rattle.kb_jobs.proofs.Adding.{take_next, take_length, one_more, stops_there, group_few}
use Rattle.kb_jobs.proofs.closing.settle_group.Goals as goal

pub loop-i-init : goal.loop-i-init
loop-i-init c = ((λ o i. none_in i), (λ before h. subst {A = List NamedOverlap} (λ z. IsSettled c.args.s.now z c.args.seen.now) (sym (append-nil before)) h))

pub settle-requires-clause-few : goal.settle-requires-clause-few
settle-requires-clause-few c u v e =
    let g = c.args.g.now in
    let i = c.loop-i.i in
    let o = c.index.result.now in
    let inside : i < length g.overlaps.items = omega (arith, c.len-i-end.ensures, c.loop-i-test.true) in
    let there = get_map (named_overlap g) g.overlaps.items i o (read_at g.overlaps.items i o inside c.index.ensures) in
    group_few g c.requires.group (named_overlap g o) (slice_contains (overlaps_in g) i (named_overlap g o) there) u v e

pub returns-in-Some : goal.returns-in-Some
returns-in-Some c =
    let s = c.args.s.now in
    let g = c.args.g.now in
    let i = c.loop-i.i in
    let o = c.index.result.now in
    let inside : i < length g.overlaps.items = omega (arith, c.len-i-end.ensures, c.loop-i-test.true) in
    let there = get_map (named_overlap g) g.overlaps.items i o (read_at g.overlaps.items i o inside c.index.ensures) in
    stops_there (IsFormed (listed s.rules)) (IsStopped (listed s.rules) c.in-Some.reason) (overlaps_in g) i (named_overlap g o) there c.loop-i.invariant.0
    (subst {A = Option Reason} (Settles s (named_overlap g o) c.loop-i.seen c.settle.new.seen) c.in-Some.is c.in_ok-reason.ensures)

pub loop-i-preserved : goal.loop-i-preserved
loop-i-preserved c =
    let s = c.args.s.now in
    let g = c.args.g.now in
    let i = c.loop-i.i in
    let o = c.index.result.now in
    let os = overlaps_in g in
    let no = named_overlap g o in
    let inside : i < length g.overlaps.items = omega (arith, c.len-i-end.ensures, c.loop-i-test.true) in
    let there = get_map (named_overlap g) g.overlaps.items i o (read_at g.overlaps.items i o inside c.index.ensures) in
    let next : suc i ≡ i + 1 = omega arith in
    let more = subst {A = Option Reason} (Settles s no c.loop-i.seen c.settle.new.seen) c.in_default.is c.in_ok-reason.ensures in
    subst {A = ℕ} (λ n. ((x : NamedOverlap) → Contains (take n os) x → IsFormed (listed s.rules) x) × ((before : List NamedOverlap) → IsSettled s before c.args.seen.now → IsSettled s (before ++ take n os) c.settle.new.seen)) next (
      subst {A = List NamedOverlap} (λ z. (x : NamedOverlap) → Contains z x → IsFormed (listed s.rules) x) (sym (take_next os i no there)) (one_more (IsFormed (listed s.rules)) (take i os) no c.loop-i.invariant.0 more.0),
      (λ before h. subst {A = List NamedOverlap} (λ z. IsSettled s z c.settle.new.seen) (append_assoc before (take i os) (no ∷ []) ∙ ap (λ z. before ++ z) (sym (take_next os i no there))) (more.1 (before ++ take i os) (c.loop-i.invariant.1 before h))),
    )

pub returns : goal.returns
returns c before h =
    let g = c.args.g.now in
    let all : take c.loop-i.i (overlaps_in g) ≡ overlaps_in g = take_length (overlaps_in g) c.loop-i.i (omega (arith, length-map g.overlaps.items (named_overlap g), c.len-i-end.ensures, c.loop-i-test.false)) in
    subst {A = List NamedOverlap} (λ z. IsSettled c.args.s.now (before ++ z) c.loop-i.seen) all (c.loop-i.invariant.1 before h)
