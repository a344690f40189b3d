use Rattle.std.proofs.Common.{ℕ, ◌<◌, ◌++◌, ◌∷◌, [], sym, subst, arith, take, get_or, set, length, true, List}
use Rattle.std.proofs.lemmas.List.{take_more}
use Rattle.kb_trace.specs.Reached.{HasMarked}
use Rattle.kb_trace.proofs.Reaching.{mark_next}
use Rattle.kb_trace.proofs.reached.mark.Goals as goal

pub loop-k-preserved : goal.loop-k-preserved
loop-k-preserved c =
    let ns = c.args.numbers.now in
    let k = c.loop-k.k in
    let j = get_or ns k 0 in
    let mid = c.loop-k.marks.items in
    let room : j < length mid = omega (arith, c.requires k 0 c.loop-k-test.true, c.loop-k.invariant.count) in
    subst (λ (xs : List ℕ). HasMarked xs c.args.marks.now.items (set mid j true)) (sym (take_more ns k 0 c.loop-k-test.true)) (mark_next (take k ns) j c.args.marks.now.items mid room c.loop-k.invariant)
