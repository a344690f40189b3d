use Rattle.std.proofs.Common.{ℕ, ◌≡◌, ◌+◌, ◌-◌, ◌≤◌, ◌<◌, ◌∙◌, sym, ap, subst, arith, refl, length, get_or, Contains, false, true, Some, List, Bool}
use Rattle.std.specs.Prelude.{slice_get}
use Rattle.std.proofs.lemmas.Option.{slice_get-get_or}
use Rattle.std.proofs.lemmas.List.Elements.{Contains-get_or}
use Rattle.std.proofs.lemmas.List.{length-replicate}
use Rattle.kb_term.specs.Pair.{Pair}
use Rattle.kb_term.specs.declared.origin.Origin.{Origin}
use Rattle.kb_trace.specs.Reached.{cites, HasMarked}
use Rattle.kb_trace.proofs.Reaching.{IsSwept, at_default, swept_first, reached_marked, swept_marked, swept_unmarked}
use Rattle.kb_trace.proofs.reached.reached.Goals.{then-index, else-index}
use Rattle.kb_trace.proofs.reached.reached.Goals as goal

pub mark_cited-requires : goal.mark_cited-requires
mark_cited-requires c k d l =
    let nodes = c.args.nodes.now in
    let n = length nodes - 1 - c.loop-i.i in
    let x = get_or nodes n c.index-nodes-n.result in
    let room : n < length nodes = omega (arith, c.loop-i-test.true) in
    let less = c.requires.earlier n (get_or (cites x.1) k d) (x, slice_get-get_or nodes n c.index-nodes-n.result room, Contains-get_or (cites x.1) k d l) in
    omega (arith, less, room, c.loop-i.invariant.count)

pub loop-i-init : goal.loop-i-init
loop-i-init c = swept_first c.args.nodes.now c.args.wanted.now c.mark.new.marks.items (subst (λ (old : List Bool). HasMarked c.args.wanted.now old c.mark.new.marks.items) c.in_ok-marks.ensures c.mark.ensures) (c.mark.ensures.count ∙ ap length c.in_ok-marks.ensures ∙ length-replicate (length c.args.nodes.now) false)

pub loop-i-preserved : goal.loop-i-preserved
loop-i-preserved c =
    let nodes = c.args.nodes.now in
    let n = length nodes - 1 - c.loop-i.i in
    elim c.if-index.branch [
      | then-index w ↦
          let x = get_or nodes n w.index-nodes-n.result in
          let room : n < length nodes = omega (arith, c.loop-i-test.true) in
          subst (λ (xs : List Bool). IsSwept nodes c.args.wanted.now xs (c.loop-i.i + 1)) (sym (ap (λ v. v.items) w.marks-is))
          (swept_marked nodes c.args.wanted.now c.loop-i.marks.items w.mark_cited.new.marks.items c.loop-i.i n x c.requires.earlier c.loop-i.invariant c.loop-i-test.true refl (at_default c.loop-i.marks.items n c.index.result.now true (omega (arith, room, c.loop-i.invariant.count)) c.index.ensures w.if-index.true) (slice_get-get_or nodes n w.index-nodes-n.result room) w.mark_cited.ensures)
      | else-index w ↦
          subst (λ (xs : List Bool). IsSwept nodes c.args.wanted.now xs (c.loop-i.i + 1)) (sym (ap (λ v. v.items) w.marks-is))
          (swept_unmarked nodes c.args.wanted.now c.loop-i.marks.items c.loop-i.i n c.loop-i.invariant c.loop-i-test.true refl (at_default c.loop-i.marks.items n c.index.result.now false (let room : n < length nodes = omega (arith, c.loop-i-test.true) in omega (arith, room, c.loop-i.invariant.count)) c.index.ensures w.if-index.false))
    ]

pub returns : goal.returns
returns c = record {
  count = c.loop-i.invariant.count;
  reached = λ n. (
    c.loop-i.invariant.sound n,
    λ h. reached_marked c.args.nodes.now c.args.wanted.now c.loop-i.marks.items c.loop-i.invariant.first (λ j m k r. c.loop-i.invariant.closed j m (omega (arith, c.loop-i-test.false)) k r) n h,
  );
}
