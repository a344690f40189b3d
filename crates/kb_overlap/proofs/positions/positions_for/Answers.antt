use Rattle.std.proofs.Common.{◌≡◌, ◌∙◌, ap, sym, ◌++◌, arith, vec_len, eqb-true}
use Rattle.std.specs.Prelude.{map, Bool, cond, drop}
use Rattle.kb_term.specs.Position.{function_positions_of}
use Rattle.kb_overlap.proofs.Preorder.{map_root, drop_first, drop_empty}
use Rattle.kb_overlap.proofs.positions.positions_for.Goals.{then-same+then-not-is_empty, else-same, else-same-via-then-same+else-not-is_empty, else-same-via-else-same}
use Rattle.kb_overlap.proofs.positions.positions_for.Goals as goal

pub returns : goal.returns
returns c =
    let outer = c.args.outer.now in
    let all : c.push_positions-2.new.found.items ≡ function_positions_of outer.left =
    c.in_ok-push_positions.ensures
    ∙ (λ i. c.new-found.ensures.items i ++ map (c.root.ensures i ++◌) (function_positions_of (c.left.ensures i)))
    ∙ map_root (function_positions_of outer.left) in
    let when = λ (b : Bool). cond b (drop 1 (function_positions_of outer.left)) (function_positions_of outer.left) in
    elim c.if-same.branch [
      | then-same+then-not-is_empty w ↦ ap (λ v. v.items) w.found-is ∙ w.remove.ensures.items ∙ drop_first c.push_positions-2.new.found.items ∙ ap (drop 1) all ∙ ap when (sym w.if-same.true)
      | else-same w ↦ elim w.else-same.branch [
        | else-same-via-then-same+else-not-is_empty v ↦ ap (λ v. v.items) w.found-is ∙ drop_empty c.push_positions-2.new.found.items (omega (arith, c.push_positions-2.new.found.ok, eqb-true (vec_len c.push_positions-2.new.found) 0 (sym v.if-not-is_empty.ensures))) ∙ ap (drop 1) all ∙ ap when (sym v.if-same.true)
        | else-same-via-else-same v ↦ ap (λ v. v.items) w.found-is ∙ all ∙ ap when (sym v.if-same.false)
      ]
    ]
