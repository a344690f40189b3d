use Rattle.std.proofs.Common.{◌≡◌, List, [], ◌∷◌, true, false, refl, ap, sym, ◌∙◌}
use mathlib.Core.Bool.{true≢false}
use Rattle.kb_label.specs.Names.{Name, has, is_empty}
use Rattle.mkb_model.specs.Plain.{label_at}
use Rattle.mkb_rules.proofs.Apart.{inherits_absent, inherits_named}
use Rattle.mkb_rules.proofs.Forks.{relabel_nobody}
use Rattle.mkb_rules.proofs.effects.forking.fork_label.Goals as goal

nobody_in : (l : List Name) (p : Name) → is_empty l ≡ true → has l p ≡ false
nobody_in [] p e = refl
nobody_in (q ∷ l) p e = absurd (true≢false (sym e))

pub returns-then-is_empty-clause-ok : goal.returns-then-is_empty-clause-ok
returns-then-is_empty-clause-ok c =
    let p = c.args.fork.now.process.now in
    let old = c.node_label-old.result.now in
    relabel_nobody p c.args.n.0 c.args.kind c.args.nodes.now.now
    (ap (λ (l : List Name). has l p) (sym c.node_label-old.ensures) ∙ nobody_in old p (sym c.is_empty.ensures ∙ c.if-is_empty.true))

pub returns-then-not-has-clause-ok : goal.returns-then-not-has-clause-ok
returns-then-not-has-clause-ok c =
    relabel_nobody c.args.fork.now.process.now c.args.n.0 c.args.kind c.args.nodes.now.now
    (ap (λ (l : List Name). has l c.args.fork.now.process.now) (sym c.node_label-old.ensures) ∙ sym c.has.ensures ∙ c.if-not-has.true)

pub returns-then-not-has-clause-inherit : goal.returns-then-not-has-clause-inherit
returns-then-not-has-clause-inherit c = λ t.
    let p = c.args.fork.now.process.now in
    let l = label_at c.args.nodes.now.now c.args.n.0 c.args.kind in
    let none = c.is_without_children.ensures t in
    inherits_absent p l
    (ap (λ (m : List Name). has m p) (sym c.node_label-old.ensures) ∙ sym c.has.ensures ∙ c.if-not-has.true)
    (ap (has l) (sym c.requires.children.0) ∙ ap (λ (m : List Name). has m c.args.fork.now.left) (sym c.node_label-old.ensures) ∙ none.0)
    (ap (has l) (sym c.requires.children.1) ∙ ap (λ (m : List Name). has m c.args.fork.now.right) (sym c.node_label-old.ensures) ∙ none.1)

pub returns-then-is_without_children-clause-inherit : goal.returns-then-is_without_children-clause-inherit
returns-then-is_without_children-clause-inherit c = λ t.
    let p = c.args.fork.now.process.now in
    inherits_named p (label_at c.args.nodes.now.now c.args.n.0 c.args.kind)
    (ap (λ (l : List Name). has l p) (sym c.node_label-old.ensures) ∙ sym c.has.ensures ∙ c.if-not-has.false)

pub returns-clause-inherit : goal.returns-clause-inherit
returns-clause-inherit c = λ t.
    let p = c.args.fork.now.process.now in
    inherits_named p (label_at c.args.nodes.now.now c.args.n.0 c.args.kind)
    (ap (λ (l : List Name). has l p) (sym c.node_label-old.ensures) ∙ sym c.has.ensures ∙ c.if-not-has.false)
