use Rattle.std.proofs.Common.{rules, ◌∙◌, ap, sym, cond, map}
use Rattle.std.specs.Prelude.{insert, is_some}
use Rattle.std.proofs.lemmas.List.Sorted.{answers_always}
use Rattle.kb_node.specs.declared.node.NodeId.{NodeId}
use Rattle.mkb_rules.proofs.RowKept.{held_away, held_put, held_taken, held_there, of_some}
use Rattle.mkb_rules.proofs.role_row.held_with.Goals as goal
use Rattle.mkb_rules.proofs.role_row.held_with.Goals.{in_default-via-in-Ok+else-not-is_held, in_default-via-in-Err+else-is_held}

pub returns-in-Ok : goal.returns-in-Ok
returns-in-Ok c = λ row h e.
    let found = c.in-Ok.ensures.position (λ m. m.0) (answers_always _ _ _ (λ f a r g called. search rules)) in
    ap (map (λ (m : NodeId). m.0)) c.remove.ensures.items
    ∙ held_taken row c.args.n c.args.roles c.in_ok-held.held.items h (of_some _ _ _ c.in_ok-held.was e) c.in-Ok.place (sym c.is_in_use-is_held.ensures ∙ c.if-not-is_held.true) (rw (← c.deref.ensures.value) found)

pub returns-in_ok-ok-in-Err : goal.returns-in_ok-ok-in-Err
returns-in_ok-ok-in-Err c = λ row h e.
    let place = c.in-Err.ensures.position (λ m. m.0) (answers_always _ _ _ (λ f a r g called. search rules)) in
    let done = sym c.ok.ensures.variant ∙ ap is_some c.in_ok-ok-in-Err.was in
    ap (map (λ (m : NodeId). m.0)) (c.insert.ensures.items ∙ ap (λ b. cond b (insert c.in_ok-held.held.items c.in-Err.place c.args.n) c.in_ok-held.held.items) done)
    ∙ held_put row c.args.n c.args.roles c.in_ok-held.held.items h (of_some _ _ _ c.in_ok-held.was e) c.in-Err.place (sym c.is_in_use-is_held.ensures ∙ c.if-is_held.true) (rw (← c.deref.ensures.value) place)

pub returns-in_default : goal.returns-in_default
returns-in_default c = λ row h e. elim c.in_default.branch [
  | in_default-via-in-Ok+else-not-is_held w ↦
      (let found = w.in-Ok.ensures.position (λ m. m.0) (answers_always _ _ _ (λ f a r g called. search rules)) in
      held_there row c.args.n c.args.roles c.in_ok-held.held.items h (of_some _ _ _ c.in_ok-held.was e) w.in-Ok.place (sym c.is_in_use-is_held.ensures ∙ w.if-not-is_held.false) (rw (← c.deref.ensures.value) found))
  | in_default-via-in-Err+else-is_held w ↦
      (let place = w.in-Err.ensures.position (λ m. m.0) (answers_always _ _ _ (λ f a r g called. search rules)) in
      held_away row c.args.n c.args.roles c.in_ok-held.held.items h (of_some _ _ _ c.in_ok-held.was e) w.in-Err.place (sym c.is_in_use-is_held.ensures ∙ w.if-is_held.false) (rw (← c.deref.ensures.value) place))
]
