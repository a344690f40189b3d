use Rattle.std.proofs.Common.{◌<◌, ◌++◌, ◌∷◌, ◌∙◌, [], List, length, ap, sym, arith}
use Rattle.std.proofs.lemmas.List.{map-append}
use Rattle.kb_term.specs.Pair.{Pair}
use Rattle.kb_term.specs.Tree.{Tree}
use Rattle.mkb_model.specs.Plain.{sides}
use Rattle.kb_jobs.specs.Closing.{equations_of}
use Rattle.mkb_board.proofs.Viewed.{equations_next}
use Rattle.mkb_board.proofs.snapshots.closing.equations_at.Goals as goal

pub loop-i-preserved : goal.loop-i-preserved
loop-i-preserved c =
    let inside : c.loop-i.i < length c.args.nodes.now = omega (arith, c.loop-i-test.true, c.loop-i.auto.i-end) in
    let q : Pair = c.in_ok-pair_at.field-0 in
    ap equations_of c.in_ok-push.ensures.items ∙ map-append sides c.loop-i.pairs.items (q ∷ [])
    ∙ ap (λ (es : List (Tree × Tree)). es ++ sides q ∷ []) c.loop-i.invariant
    ∙ sym (equations_next c.args.state.now c.args.nodes.now c.loop-i.i (record { 0 = 0 }) q inside c.in_ok-pair_at.ensures)
