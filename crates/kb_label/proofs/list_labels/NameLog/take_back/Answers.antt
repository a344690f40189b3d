use Rattle.std.proofs.Common.{◌≡◌, ◌∷◌, [], true, false, List, length, ap, ap₂, ◌∙◌, arith}
use Rattle.kb_label.specs.Names.{Name, add, child, has, minus}
use Rattle.kb_label.specs.Forks.{IsAfterFork}
use Rattle.kb_label.proofs.Ordered.{ordered-without}
use Rattle.kb_label.proofs.Forked.{leaves-forked, length-relabel, new}
use Rattle.kb_label.proofs.Sets.{back-relabel, child-relabel}
use Rattle.kb_label.proofs.list_labels.NameLog.take_back.Goals as goal

-- putting the process in the place of its two children takes its fork back
restored : (p : Name) (before now : List Name) → IsAfterFork before p now → add p (minus (minus now (child p true ∷ [])) (child p false ∷ [])) ≡ before
restored p before now h =
    let leaves = leaves-forked before h.forked in
    ap (λ l. add p (minus (minus l (child p true ∷ [])) (child p false ∷ []))) h.names
    ∙ back-relabel p before leaves.in_order h.lives (new p before h.lives leaves false) (new p before h.lives leaves true)

pub child-requires : goal.child-requires
child-requires c =
    let h = c.requires.1 in
    let leaves = leaves-forked c.requires.0 h.forked in
    omega (arith, leaves.short c.args.process.now h.lives, length-relabel c.args.process.now c.requires.0 h.lives leaves, ap length (c.self.view_is ∙ h.names), c.self.invariant.1)

pub take_out-requires : goal.take_out-requires
take_out-requires c = record { in_order = (leaves-forked c.self.inside.names.items c.self.invariant.0).in_order }

pub take_out-requires-2 : goal.take_out-requires-2
take_out-requires-2 c = record { in_order = rw c.take_out.ensures.items (ordered-without _ c.self.inside.names.items (leaves-forked c.self.inside.names.items c.self.invariant.0).in_order) }

pub put-requires-clause-in_order : goal.put-requires-clause-in_order
put-requires-clause-in_order c = rw (c.take_out-2.ensures.items, c.take_out.ensures.items) (ordered-without _ _ (ordered-without _ c.self.inside.names.items (leaves-forked c.self.inside.names.items c.self.invariant.0).in_order))

pub put-requires-clause-room : goal.put-requires-clause-room
put-requires-clause-room c =
    let p = c.args.process.now in
    let h = c.requires.1 in
    let there : has c.self.inside.names.items c.child.result ≡ true = rw (c.self.view_is, h.names, c.child.ensures) (child-relabel p c.requires.0 (leaves-forked c.requires.0 h.forked).in_order true h.lives) in
    let less = c.take_out.ensures.less there in
    omega (arith, less, c.take_out-2.ensures.len, c.take_out.ensures.capacity, c.take_out-2.ensures.capacity, c.self.inside.names.ok)

pub invariant_of-self : goal.invariant_of-self
invariant_of-self c =
    let p = c.args.process.now in
    let h = c.requires.1 in
    let leaves = leaves-forked c.requires.0 h.forked in
    let same : c.put.new.names.items ≡ c.requires.0 =
    c.put.ensures.items
    ∙ ap (add p) (c.take_out-2.ensures.items ∙ ap₂ (λ l q. minus l (q ∷ [])) (c.take_out.ensures.items ∙ ap₂ (λ l q. minus l (q ∷ [])) c.self.view_is c.child.ensures) c.child-2.ensures)
    ∙ restored p c.requires.0 c.args.self.now h in
    rw same (h.forked, omega (arith, length-relabel p c.requires.0 h.lives leaves, ap length (c.self.view_is ∙ h.names), c.self.invariant.1))

pub returns : goal.returns
returns c = λ before h.
    let p = c.args.process.now in
    c.put.ensures.items
    ∙ ap (add p) (c.take_out-2.ensures.items ∙ ap₂ (λ l q. minus l (q ∷ [])) (c.take_out.ensures.items ∙ ap₂ (λ l q. minus l (q ∷ [])) c.self.view_is c.child.ensures) c.child-2.ensures)
    ∙ restored p before c.args.self.now h
