use Rattle.std.proofs.Common.{◌++◌, ◌∷◌, [], ◌+◌, ◌<◌, ℕ, List, false, length, drop, get_or, map, ap, sym, ◌∙◌, arith}
use Rattle.std.proofs.lemmas.List.{get_or_default}
use Rattle.kb_label.specs.Names.{Name, root}
use Rattle.fork_labels.specs.Places.{picked}
use Rattle.fork_labels.proofs.NamesAt.{kept_step, left_step, names_done}
use Rattle.fork_labels.proofs.fork_log.names_among.Goals as goal
use Rattle.fork_labels.proofs.fork_log.names_among.Goals.{then-has+in_ok-push, else-has}

pub loop-i-preserved : goal.loop-i-preserved
loop-i-preserved c =
    let g = λ (s : ℕ). get_or c.args.set.now s false in
    let ps = c.args.places.now in
    let ns = c.args.names.now in
    let i = c.loop-i.i in
    let within : i < length ns = omega (arith, c.loop-i-test.true) in
    elim c.if-has.branch [
      | then-has+in_ok-push w ↦
          ap (λ v. v.items ++ picked (map g (drop (i + 1) ps)) (drop (i + 1) ns)) w.kept-is
          ∙ ap (λ (k : List Name). k ++ picked (map g (drop (i + 1) ps)) (drop (i + 1) ns)) (w.in_ok-push.ensures.items ∙ ap (λ (p : Name). c.loop-i.kept.items ++ p ∷ []) (c.index-names-i.is ∙ get_or_default ns i c.index-names-i.result root within))
          ∙ kept_step g c.loop-i.kept.items ps ns i within c.requires.same (sym c.has.ensures ∙ w.if-has.true)
          ∙ c.loop-i.invariant
      | else-has w ↦
          ap (λ v. v.items ++ picked (map g (drop (i + 1) ps)) (drop (i + 1) ns)) w.kept-is
          ∙ left_step g c.loop-i.kept.items ps ns i within c.requires.same (sym c.has.ensures ∙ w.if-has.false)
          ∙ c.loop-i.invariant
    ]

pub returns : goal.returns
returns c =
    sym (names_done (λ (s : ℕ). get_or c.args.set.now s false) c.loop-i.kept.items c.args.places.now c.args.names.now c.loop-i.i (omega (arith, c.loop-i-test.false)) c.requires.same)
    ∙ c.loop-i.invariant
