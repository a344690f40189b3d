use Rattle.std.proofs.Common.{ℕ, ◌≡◌, ◌∙◌, ◌+◌, ◌<◌, ◌≤◌, Bool, true, false, refl, ap, ap₂, sym, subst, arith, List, length, get_or, set}
use Rattle.std.specs.Prelude.{◌&&◌}
use Rattle.std.proofs.lemmas.List.{get_or_default, get_or-set_same, get_or-set_other, length-set, length-map}
use mathlib.Core.Bool.{beq}
use Rattle.kb_label.specs.Names.{Name, has}
use Rattle.kb_node.specs.declared.node.LabelKind.{LabelKind}
use Rattle.kb_node.specs.declared.node.LabelKind.TheVariants.{X}
use Rattle.kb_node.specs.Labelled.{with_label_at, Node}
use Rattle.mkb_model.specs.Plain.{PlainNode, label_at}
use Rattle.mkb_model.specs.Effects.{with_label}
use Rattle.mkb_rules.specs.Parts.{plain_node, plain_nodes}
use Rattle.mkb_rules.specs.Accounts.{IsAccountOf}
use Rattle.mkb_rules.specs.Roles.{with_role_at, AreRolesOf}
use Rattle.mkb_rules.specs.Sizes.{size_if, size_at, is_open_kind, is_rule_kind}
use Rattle.mkb_rules.specs.declared.account.Account.{Account}
use Rattle.mkb_rules.specs.declared.roles.Roles.{Roles}
use Rattle.mkb_rules.proofs.PutBack.{plain-with_label, plain-label}
use Rattle.mkb_rules.proofs.Paying.{plain-size, sizes_moved, same_or_less}
use Rattle.mkb_rules.proofs.RolesKept.{roles_moved, account_kept, account_uncounted}
use Rattle.mkb_rules.proofs.account.follow.Goals as goal
use Rattle.mkb_rules.proofs.account.follow.Goals.{in-X, in_default}

same_bool : (a b : Bool) → beq a b ≡ true → a ≡ b
same_bool true true e = refl
same_bool true false e = absurd (cc)
same_bool false true e = absurd (cc)
same_bool false false e = refl

pub loop-i-preserved : goal.loop-i-preserved
loop-i-preserved c =
    let xs = plain_nodes c.args.table.now in
    let n = c.args.change.now.node.0 in
    let k = c.args.change.now.kind in
    let l = c.args.label.now in
    let i = c.loop-i.i in
    let now = c.loop-i.accounts.items in
    let s = c.index_mut.result.now in
    let t = c.follow.new.self in
    let there : n < length xs = omega (arith, c.requires.there, length-map c.args.table.now plain_node) in
    let inside : i < length now = omega (arith, c.loop-i.invariant.count, c.loop-i-test.true) in
    let right : IsAccountOf xs s = subst {A = Account} (IsAccountOf xs) (sym c.index_mut.ensures.value) (c.loop-i.invariant.todo i s (omega arith) inside) in
    let size = plain-size c.args.table.now n c.size-size.result c.size-size.ensures.size in
    let same : c.index-in-loop-i.result.now.sizes.process ≡ s.sizes.process = ap (λ (z : Account). z.sizes.process) (c.index-in-loop-i.ensures ∙ get_or_default now i c.index-in-loop-i.result.now s inside ∙ sym c.index_mut.ensures.value) in
    let same-2 : c.index-in-loop-i-2.result.now.sizes.process ≡ s.sizes.process = ap (λ (z : Account). z.sizes.process) (c.index-in-loop-i-2.ensures ∙ get_or_default now i c.index-in-loop-i-2.result.now s inside ∙ sym c.index_mut.ensures.value) in
    let before : c.has_from-had.result ≡ has (label_at xs n k) s.sizes.process = c.has_from-had.ensures ∙ ap₂ has (plain-label c.args.table.now n k c.label-old.result.now c.label-old.ensures) same in
    let after : c.has_from-has.result ≡ has l s.sizes.process = c.has_from-has.ensures ∙ ap (has l) same-2 in
    let done = c.if-not-follow.false in
    let first : t.sizes.open_sizes + size_if (is_open_kind k && has (label_at xs n k) s.sizes.process) (size_at xs n) ≡ s.sizes.open_sizes + size_if (is_open_kind k && has l s.sizes.process) (size_at xs n) =
    ap₂ (λ (b : Bool) z. t.sizes.open_sizes + size_if (is_open_kind k && b) z) (sym before) (sym size) ∙ c.follow.ensures.open done ∙ ap₂ (λ (b : Bool) z. s.sizes.open_sizes + size_if (is_open_kind k && b) z) after size in
    let second : t.sizes.rule_sizes + size_if (is_rule_kind k && has (label_at xs n k) s.sizes.process) (size_at xs n) ≡ s.sizes.rule_sizes + size_if (is_rule_kind k && has l s.sizes.process) (size_at xs n) =
    ap₂ (λ (b : Bool) z. t.sizes.rule_sizes + size_if (is_rule_kind k && b) z) (sym before) (sym size) ∙ c.follow.ensures.rules done ∙ ap₂ (λ (b : Bool) z. s.sizes.rule_sizes + size_if (is_rule_kind k && b) z) after size in
    let roles : AreRolesOf (with_label n k l xs) t.sizes.process t.roles =
    subst {A = Name} (λ p. AreRolesOf (with_label n k l xs) p t.roles) (sym c.follow.ensures.process)
    (subst {A = List Roles} (AreRolesOf (with_label n k l xs) s.sizes.process) (sym (c.follow.ensures.roles done ∙ ap (with_role_at s.roles n k) after)) (roles_moved xs n k l s.sizes.process s.roles there right.roles)) in
    let new : IsAccountOf (plain_nodes (with_label_at c.args.table.now n k l)) t =
    subst {A = List PlainNode} (λ ys. IsAccountOf ys t) (sym (plain-with_label c.args.table.now n k l))
    (record { sizes = sizes_moved xs n k l s.sizes t.sizes there right.sizes c.follow.ensures.process first second; roles = roles }) in
    record {
      count = length-set now i t ∙ c.loop-i.invariant.count;
      done = λ j d u v. same_or_less (λ z. IsAccountOf (plain_nodes (with_label_at c.args.table.now n k l)) (get_or (set now i t) z d)) i j u
          (subst {A = Account} (IsAccountOf (plain_nodes (with_label_at c.args.table.now n k l))) (sym (get_or-set_same now i t d inside)) new)
          (λ w. subst {A = Account} (IsAccountOf (plain_nodes (with_label_at c.args.table.now n k l))) (sym (get_or-set_other now i j t d (λ e. absurd (omega (arith, e, w))))) (c.loop-i.invariant.done j d w (omega (arith, v, length-set now i t))));
      todo = λ j d u v. subst {A = Account} (IsAccountOf xs) (sym (get_or-set_other now i j t d (λ e. absurd (omega (arith, e, u))))) (c.loop-i.invariant.todo j d (omega (arith, u)) (omega (arith, v, length-set now i t)));
    }

kept_after : (table : List (Node (List Name))) (n : ℕ) (k : LabelKind) (l : List Name) (a : Account) → n < length table → has (label_at (plain_nodes table) n k) a.sizes.process ≡ has l a.sizes.process
    → IsAccountOf (plain_nodes table) a → IsAccountOf (plain_nodes (with_label_at table n k l)) a
kept_after table n k l a there same right =
    subst {A = List PlainNode} (λ ys. IsAccountOf ys a) (sym (plain-with_label table n k l)) (account_kept (plain_nodes table) n k l a (omega (arith, there, length-map table plain_node)) same right)

pub loop-i-preserved-then-not-may_be : goal.loop-i-preserved-then-not-may_be
loop-i-preserved-then-not-may_be c =
    let table = c.args.table.now in
    let n = c.args.change.now.node.0 in
    let k = c.args.change.now.kind in
    let l = c.args.label.now in
    let i = c.loop-i.i in
    let now = c.loop-i.accounts.items in
    let inside : i < length now = omega (arith, c.loop-i.invariant.count, c.loop-i-test.true) in
    let here : i ≤ i = omega arith in
    let kept = λ (d : Account).
    let a : Account = get_or now i d in
    let same : c.index.result.now.sizes.process ≡ a.sizes.process = ap (λ (z : Account). z.sizes.process) (c.index.ensures ∙ get_or_default now i c.index.result.now d inside) in
    let apart : has (label_at (plain_nodes table) n k) c.index.result.now.sizes.process ≡ has l c.index.result.now.sizes.process = c.may_be.ensures c.if-not-may_be.true (label_at (plain_nodes table) n k) l c.requires.differs in
    kept_after table n k l a c.requires.there (subst {A = Name} (λ p. has (label_at (plain_nodes table) n k) p ≡ has l p) same apart) (c.loop-i.invariant.todo i d here inside) in
    record {
      count = c.loop-i.invariant.count;
      done = λ j d u v. same_or_less (λ z. IsAccountOf (plain_nodes (with_label_at table n k l)) (get_or now z d)) i j u (kept d) (λ w. c.loop-i.invariant.done j d w v);
      todo = λ j d u v. c.loop-i.invariant.todo j d (omega (arith, u)) v;
    }

pub loop-i-preserved-then-had-has : goal.loop-i-preserved-then-had-has
loop-i-preserved-then-had-has c =
    let table = c.args.table.now in
    let n = c.args.change.now.node.0 in
    let k = c.args.change.now.kind in
    let l = c.args.label.now in
    let i = c.loop-i.i in
    let now = c.loop-i.accounts.items in
    let inside : i < length now = omega (arith, c.loop-i.invariant.count, c.loop-i-test.true) in
    let here : i ≤ i = omega arith in
    let kept = λ (d : Account).
    let a : Account = get_or now i d in
    let same : c.index-in-loop-i.result.now.sizes.process ≡ a.sizes.process = ap (λ (z : Account). z.sizes.process) (c.index-in-loop-i.ensures ∙ get_or_default now i c.index-in-loop-i.result.now d inside) in
    let same-2 : c.index-in-loop-i-2.result.now.sizes.process ≡ a.sizes.process = ap (λ (z : Account). z.sizes.process) (c.index-in-loop-i-2.ensures ∙ get_or_default now i c.index-in-loop-i-2.result.now d inside) in
    let before : c.has_from-had.result ≡ has (label_at (plain_nodes table) n k) a.sizes.process = c.has_from-had.ensures ∙ ap₂ has (plain-label table n k c.label-old.result.now c.label-old.ensures) same in
    let after : c.has_from-has.result ≡ has l a.sizes.process = c.has_from-has.ensures ∙ ap (has l) same-2 in
    kept_after table n k l a c.requires.there (sym before ∙ same_bool c.has_from-had.result c.has_from-has.result c.if-had-has.true ∙ after) (c.loop-i.invariant.todo i d here inside) in
    record {
      count = c.loop-i.invariant.count;
      done = λ j d u v. same_or_less (λ z. IsAccountOf (plain_nodes (with_label_at table n k l)) (get_or now z d)) i j u (kept d) (λ w. c.loop-i.invariant.done j d w v);
      todo = λ j d u v. c.loop-i.invariant.todo j d (omega (arith, u)) v;
    }

pub returns-then-matches : goal.returns-then-matches
returns-then-matches c = elim c.match-matches.branch [
  | in-X w ↦ λ i d h.
      let table = c.args.table.now in
      let n = c.args.change.now.node.0 in
      let l = c.args.label.now in
      let a = get_or c.args.accounts.now.items i d in
      let there : n < length (plain_nodes table) = omega (arith, c.requires.there, length-map table plain_node) in
      subst {A = LabelKind} (λ k. IsAccountOf (plain_nodes (with_label_at table n k l)) a) (sym w.in-X.is)
      (subst {A = List PlainNode} (λ ys. IsAccountOf ys a) (sym (plain-with_label table n X l)) (account_uncounted (plain_nodes table) n l a there (c.requires.right i d h)))
  | in_default w ↦ absurd (cc)
]

pub returns : goal.returns
returns c = λ k d h. c.loop-i.invariant.done k d (omega (arith, h, c.loop-i.invariant.count, c.loop-i-test.false)) h
