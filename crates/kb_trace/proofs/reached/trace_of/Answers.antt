use Rattle.std.proofs.Common.{ℕ, ◌≡◌, ◌+◌, ◌<◌, ◌++◌, ◌∷◌, [], ◌∙◌, sym, ap, ap₂, subst, subst₂, arith, refl, length, length-append, get_or, true, false, Some, List, All}
use Rattle.std.specs.Prelude.{slice_get}
use Rattle.std.proofs.lemmas.Option.{slice_get-get_or}
use Rattle.std.proofs.lemmas.List.Elements.{Contains-get_or}
use Rattle.kb_term.specs.Pair.{Pair}
use Rattle.kb_term.specs.declared.origin.Origin.{Origin}
use Rattle.kb_overlap.specs.Trace.{TraceStep}
use Rattle.kb_trace.specs.Reached.{cites, with_numbers, IsTraceOf}
use Rattle.kb_trace.proofs.Reaching.{kept, IsListed, at_default, few_kept, placed, placed_small, listed_unmarked, listed_marked, listed_all, step_of}
use Rattle.kb_trace.proofs.reached.trace_of.Goals.{then-index+in_ok-origin+in_ok-pair+in_ok-push-2, else-index}
use Rattle.kb_trace.proofs.reached.trace_of.Goals as goal

pub overflow_cast-len : goal.overflow_cast-len
overflow_cast-len c = omega (arith, c.len.ensures, c.loop-n.invariant.long, few_kept c.in_ok-marks.marks.items c.loop-n.n, c.loop-n-test.true, c.requires.few)

pub renumbered-requires-clause-there : goal.renumbered-requires-clause-there
renumbered-requires-clause-there c k d l =
    let nodes = c.args.nodes.now in
    let n = c.loop-n.n in
    let x = c.index-nodes-n.result in
    let at : slice_get nodes n ≡ Some x = slice_get-get_or nodes n x c.loop-n-test.true ∙ ap Some (sym c.index-nodes-n.is) in
    let less = c.requires.earlier n (get_or (cites x.1) k d) (x, at, Contains-get_or (cites x.1) k d l) in
    omega (arith, less, ap (length {A = ℕ}) (c.deref.ensures.value ∙ c.in_ok-push.ensures.items), length-append c.loop-n.places.items (c.len.result ∷ []), c.loop-n.invariant.count)

pub renumbered-requires-clause-small : goal.renumbered-requires-clause-small
renumbered-requires-clause-small c =
    let marks = c.in_ok-marks.marks.items in
    let places = c.loop-n.places.items in
    let n = c.loop-n.n in
    let long : length (places ++ c.len.result ∷ []) ≡ n + 1 = omega (arith, length-append places (c.len.result ∷ []), c.loop-n.invariant.count) in
    let pushed : c.len.result ≡ length c.loop-n.steps.items = omega (arith, c.len.ensures, c.loop-n.steps.ok) in
    let room : n < 65535 = omega (arith, c.loop-n-test.true, c.requires.few) in
    subst (All (λ p. p < 65535)) (sym (c.deref.ensures.value ∙ c.in_ok-push.ensures.items))
    (placed_small marks (places ++ c.len.result ∷ []) n 65535 long (placed marks places n c.len.result c.loop-n.invariant.count c.loop-n.invariant.placed_at (pushed ∙ c.loop-n.invariant.long)) room)

pub loop-n-preserved : goal.loop-n-preserved
loop-n-preserved c =
    let nodes = c.args.nodes.now in
    let marks = c.in_ok-marks.marks.items in
    let places = c.loop-n.places.items in
    let n = c.loop-n.n in
    let room : n < length marks = omega (arith, c.loop-n-test.true, c.in_ok-marks.ensures.count) in
    let pushed : c.len.result ≡ length c.loop-n.steps.items = omega (arith, c.len.ensures, c.loop-n.steps.ok) in
    elim c.if-index.branch [
      | then-index+in_ok-origin+in_ok-pair+in_ok-push-2 w ↦
          let x = w.index-nodes-n.result in
          let at : slice_get nodes n ≡ Some x = slice_get-get_or nodes n x c.loop-n-test.true ∙ ap Some (sym w.index-nodes-n.is) in
          let marked : get_or marks n false ≡ true = at_default marks n c.index.result.now true room c.index.ensures w.if-index.true in
          let made = c.in_ok-push.ensures.items in
          let step = w.new.result in
          let origin : step.origin ≡ with_numbers (λ m. get_or (places ++ c.len.result ∷ []) m 0 + 1) x.1 =
          w.new.ensures.origin ∙ subst (λ (ps : List ℕ). w.in_ok-origin.origin ≡ with_numbers (λ m. get_or ps m 0 + 1) x.1) (w.deref.ensures.value ∙ made) w.in_ok-origin.ensures in
          let one = step_of nodes c.args.wanted.now marks (places ++ c.len.result ∷ []) n x step c.requires.earlier c.in_ok-marks.ensures c.loop-n-test.true marked at
          (placed marks places n c.len.result c.loop-n.invariant.count c.loop-n.invariant.placed_at (pushed ∙ c.loop-n.invariant.long)) (w.new.ensures.pair ∙ w.in_ok-pair.ensures.cases) origin in
          subst₂ (λ (ps : List ℕ) (ss : List TraceStep). IsListed nodes marks ps ss (n + 1)) (sym made) (sym (ap (λ v. v.items) w.steps-is ∙ w.in_ok-push-2.ensures.items))
          (listed_marked nodes marks places c.loop-n.steps.items n c.len.result step c.loop-n.invariant pushed marked one)
      | else-index w ↦
          subst₂ (λ (ps : List ℕ) (ss : List TraceStep). IsListed nodes marks ps ss (n + 1)) (sym c.in_ok-push.ensures.items) (sym (ap (λ v. v.items) w.steps-is))
          (listed_unmarked nodes marks places c.loop-n.steps.items n c.len.result c.loop-n.invariant pushed (at_default marks n c.index.result.now false room c.index.ensures w.if-index.false))
    ]

pub returns : goal.returns
returns c =
    let nodes = c.args.nodes.now in
    let marks = c.in_ok-marks.marks.items in
    let all : c.loop-n.n ≡ length nodes = omega (arith, c.loop-n-test.false, c.loop-n.auto.n-end) in
    subst (λ (t : List TraceStep). IsTraceOf nodes c.args.wanted.now t) (sym c.new-2.ensures)
    (listed_all nodes c.args.wanted.now marks c.loop-n.places.items c.loop-n.steps.items c.in_ok-marks.ensures (subst (λ n. IsListed nodes marks c.loop-n.places.items c.loop-n.steps.items n) all c.loop-n.invariant))
