use Rattle.std.proofs.Common.{◌≡◌, rules, List, Bool, ◌∙◌, ap, sym, subst, cond, set, length}
use Rattle.std.specs.Prelude.{insert, remove, is_some}
use Rattle.std.proofs.lemmas.List.Sorted.{answers_always}
use Rattle.kb_node.specs.declared.node.NodeId.{NodeId}
use Rattle.mkb_rules.specs.Sizes.{AreListed}
use Rattle.mkb_rules.proofs.Listing.{listed_already, listed_at, listed_not, listed_without}
use Rattle.mkb_rules.proofs.marks.updated.Goals as goal
use Rattle.mkb_rules.proofs.marks.updated.Goals.{in_default-via-in-Ok+else-not-is_used, in_default-via-in-Err+else-is_used}

-- a list that is right where the node is used so
abbrev RightAt : (used : List Bool) → NodeId → List NodeId → Bool → Type 0
RightAt used n l t = AreListed (set used n.0 t) (length used) l

pub returns-in-Ok : goal.returns-in-Ok
returns-in-Ok c = λ used h a.
    let found = c.in-Ok.ensures.position (λ m. m.0) (answers_always _ _ _ (λ f a r g called. search rules)) in
    let right = listed_without used c.args.n c.args.list.items h a c.in-Ok.place (rw (← c.deref.ensures.value) found) in
    subst {A = List NodeId} (λ l. RightAt used c.args.n l c.args.is_used) (sym c.remove.ensures.items)
    (subst {A = Bool} (RightAt used c.args.n (remove c.args.list.items c.in-Ok.place)) (sym c.if-not-is_used.true) right)

pub returns-in_ok-ok-in-Err : goal.returns-in_ok-ok-in-Err
returns-in_ok-ok-in-Err c = λ used h a.
    let place = c.in-Err.ensures.position (λ m. m.0) (answers_always _ _ _ (λ f a r g called. search rules)) in
    let done = sym c.ok.ensures.variant ∙ ap is_some c.in_ok-ok-in-Err.was in
    let items : c.insert.new.self.items ≡ insert c.args.list.items c.in-Err.place c.args.n = c.insert.ensures.items ∙ ap (λ b. cond b (insert c.args.list.items c.in-Err.place c.args.n) c.args.list.items) done in
    let right = listed_at used c.args.n c.args.list.items h a c.in-Err.place (rw (← c.deref.ensures.value) place) in
    subst {A = List NodeId} (λ l. RightAt used c.args.n l c.args.is_used) (sym items)
    (subst {A = Bool} (RightAt used c.args.n (insert c.args.list.items c.in-Err.place c.args.n)) (sym c.if-is_used.true) right)

pub returns-in_default : goal.returns-in_default
returns-in_default c = λ used h a. elim c.in_default.branch [
  | in_default-via-in-Ok+else-not-is_used w ↦
      (let found = w.in-Ok.ensures.position (λ m. m.0) (answers_always _ _ _ (λ f a r g called. search rules)) in
      subst {A = Bool} (RightAt used c.args.n c.args.list.items) (sym w.if-not-is_used.false) (listed_already used c.args.n c.args.list.items h a w.in-Ok.place (rw (← c.deref.ensures.value) found)))
  | in_default-via-in-Err+else-is_used w ↦ subst {A = Bool} (RightAt used c.args.n c.args.list.items) (sym w.if-is_used.false) (listed_not used c.args.n c.args.list.items h a)
]
