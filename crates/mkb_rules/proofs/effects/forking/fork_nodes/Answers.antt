use Rattle.std.proofs.Common.{ℕ, suc, ◌≡◌, ◌+◌, List, length, All, ap, subst, sym, ◌∙◌, arith}
use Rattle.kb_label.specs.Names.{Name}
use Rattle.kb_lemmas.proofs.Booleans.{and_gives_left, and_gives_right}
use Rattle.mkb_model.specs.Plain.{PlainNode, label_at}
use Rattle.mkb_rules.specs.Accounts.{Inherits, IsAccountOf}
use Rattle.mkb_rules.specs.Forking.{fork_at}
use Rattle.mkb_rules.proofs.Forks.{fork_front, front_next, front_whole, label_front, length_front, nodes_inherited}
use Rattle.mkb_rules.proofs.Paying.{same_or_less}
use Rattle.mkb_rules.specs.Nodes.{Changed}
use Rattle.mkb_rules.proofs.effects.forking.fork_nodes.Goals as goal

pub fork_node-requires-clause-there : goal.fork_node-requires-clause-there
fork_node-requires-clause-there c =
    omega (arith, ap length c.loop-i.invariant.now, length_front c.args.p.now c.loop-i.i c.args.nodes.now.now, c.node_count-count.ensures.count, ap (λ (z : Changed). length z.now) c.set_aside-accounts.ensures.same, c.loop-i-test.true)

pub loop-i-preserved : goal.loop-i-preserved
loop-i-preserved c =
    let p = c.args.p.now in
    let i = c.loop-i.i in
    let xs = c.args.nodes.now.now in
    let next : suc i ≡ i + 1 = omega arith in
    record {
      now = c.in_ok-inherit.ensures.ok ∙ ap (fork_at p i) c.loop-i.invariant.now ∙ front_next p i xs ∙ ap (λ (m : ℕ). fork_front p m xs) next;
      before = c.fork_node.ensures.before ∙ c.loop-i.invariant.before;
      inherit = λ all m h k. same_or_less (λ (z : ℕ). Inherits p (label_at xs z k)) i m h
          (subst {A = List Name} (Inherits p) (ap (λ ys. label_at ys i k) c.loop-i.invariant.now ∙ label_front p i xs k) (c.in_ok-inherit.ensures.inherit (and_gives_right c.loop-i.all_inherit c.in_ok-inherit.inherit all) k))
          (λ w. c.loop-i.invariant.inherit (and_gives_left c.loop-i.all_inherit c.in_ok-inherit.inherit all) m w k);
    }

pub take_back-requires : goal.take_back-requires
take_back-requires c =
    let p = c.args.p.now in
    let xs = c.args.nodes.now.now in
    let all : c.loop-i.i ≡ length xs = omega (arith, c.node_count-count.ensures.count, ap (λ (z : Changed). length z.now) c.set_aside-accounts.ensures.same, c.loop-i-test.false, c.loop-i.auto.i-end) in
    let handed = c.after_fork_of-children.ensures xs c.set_aside-accounts.ensures.right (λ inherit. nodes_inherited p c.loop-i.i xs all (c.loop-i.invariant.inherit inherit)) in
    subst {A = List PlainNode} (λ ys. All (IsAccountOf ys) c.after_fork_of-children.result.children.items) (sym (front_whole p c.loop-i.i xs c.loop-i.nodes.now c.loop-i.invariant.now all)) handed.children

pub returns-clause-ok : goal.returns-clause-ok
returns-clause-ok c =
    let xs = c.args.nodes.now.now in
    let all : c.loop-i.i ≡ length xs = omega (arith, c.node_count-count.ensures.count, ap (λ (z : Changed). length z.now) c.set_aside-accounts.ensures.same, c.loop-i-test.false, c.loop-i.auto.i-end) in
    ap (λ (z : Changed). z.now) c.take_back.ensures ∙ front_whole c.args.p.now c.loop-i.i xs c.loop-i.nodes.now c.loop-i.invariant.now all

pub returns-clause-right : goal.returns-clause-right
returns-clause-right c =
    let xs = c.args.nodes.now.now in
    let all : c.loop-i.i ≡ length xs = omega (arith, c.node_count-count.ensures.count, ap (λ (z : Changed). length z.now) c.set_aside-accounts.ensures.same, c.loop-i-test.false, c.loop-i.auto.i-end) in
    (c.after_fork_of-children.ensures xs c.set_aside-accounts.ensures.right (λ inherit. nodes_inherited c.args.p.now c.loop-i.i xs all (c.loop-i.invariant.inherit inherit))).others

pub returns-clause-apart : goal.returns-clause-apart
returns-clause-apart c =
    let xs = c.args.nodes.now.now in
    let all : c.loop-i.i ≡ length xs = omega (arith, c.node_count-count.ensures.count, ap (λ (z : Changed). length z.now) c.set_aside-accounts.ensures.same, c.loop-i-test.false, c.loop-i.auto.i-end) in
    (c.after_fork_of-children.ensures xs c.set_aside-accounts.ensures.right (λ inherit. nodes_inherited c.args.p.now c.loop-i.i xs all (c.loop-i.invariant.inherit inherit))).apart
