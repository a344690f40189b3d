use Rattle.std.proofs.Common.{ℕ, suc, ◌≡◌, ◌+◌, ◌<◌, ◌++◌, map, ap, sym, ◌∙◌, subst, length, take, Some, None, Ok, arith}
use Rattle.kb_lemmas.proofs.Membership.{slice_contains}
use Rattle.kb_lemmas.proofs.Lists.{get_map}
use Rattle.kb_overlap.specs.View.{sides_of}
use Rattle.kb_term.specs.View.{tree_of}
use Rattle.mkb_model.specs.Proposals.{NamedOverlap, own_limit, deduced_pair}
use Rattle.kb_jobs.specs.Groups.{AddsPairs, overlaps_in, named_overlap, origin_of}
use Rattle.kb_jobs.proofs.Reduced.{read_at}
use Rattle.kb_jobs.proofs.Adding.{Within, stops_there, group_few, within_more, adds_more}
use Rattle.kb_jobs.proofs.overlapping.push_pairs.Goals as goal

pub returns-in-Err : goal.returns-in-Err
returns-in-Err c =
    let g = c.args.g.now in
    let i = c.loop-i.i in
    let o = c.index-overlap.result.now in
    let inside : i < length g.overlaps.items = omega (arith, c.len-i-end.ensures, c.loop-i-test.true) in
    let there = get_map (named_overlap g) g.overlaps.items i o (read_at g.overlaps.items i o inside c.index-overlap.ensures) in
    stops_there (λ (x : NamedOverlap). own_limit x.overlap.sides ≡ None) (λ (x : NamedOverlap). own_limit x.overlap.sides ≡ Some c.reason_of.result) (overlaps_in g) i (named_overlap g o) there c.loop-i.invariant.0
    (ap (λ z. own_limit (sides_of z)) c.in-Err.is ∙ ap Some (sym c.reason_of.ensures))

pub push_pair-requires : goal.push_pair-requires
push_pair-requires c =
    let g = c.args.g.now in
    let i = c.loop-i.i in
    let o = c.index-overlap.result.now in
    let inside : i < length g.overlaps.items = omega (arith, c.len-i-end.ensures, c.loop-i-test.true) in
    let there = get_map (named_overlap g) g.overlaps.items i o (read_at g.overlaps.items i o inside c.index-overlap.ensures) in
    group_few g c.requires (named_overlap g o) (slice_contains (overlaps_in g) i (named_overlap g o) there) (tree_of c.in-Ok.first) (tree_of c.in-Ok.second) (ap sides_of c.in-Ok.is)

pub loop-i-preserved : goal.loop-i-preserved
loop-i-preserved c =
    let g = c.args.g.now in
    let i = c.loop-i.i in
    let o = c.index-overlap.result.now in
    let old = c.args.pairs.now.items in
    let mid = c.loop-i.pairs.items in
    let new = c.push_pair.new.pairs.items in
    let os = overlaps_in g in
    let inside : i < length g.overlaps.items = omega (arith, c.len-i-end.ensures, c.loop-i-test.true) in
    let there = get_map (named_overlap g) g.overlaps.items i o (read_at g.overlaps.items i o inside c.index-overlap.ensures) in
    let next : suc i ≡ i + 1 = omega arith in
    let sided : sides_of o.sides ≡ Ok (tree_of c.in-Ok.first, tree_of c.in-Ok.second) = ap sides_of c.in-Ok.is in
    subst {A = ℕ} (λ n. Within (take n os) × AddsPairs (take n os) old new) next (
      within_more os i (named_overlap g o) there c.loop-i.invariant.0 (ap own_limit sided),
      adds_more os i (named_overlap g o) old mid new there c.loop-i.invariant.1 (c.in_ok-push_pair-in-Ok.ensures ∙ ap (λ z. map origin_of mid ++ deduced_pair (named_overlap g o) z) (sym sided)),
    )
