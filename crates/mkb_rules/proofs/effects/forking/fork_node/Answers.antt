use Rattle.std.proofs.Common.{ap, ◌∙◌}
use Rattle.std.specs.Prelude.{◌&&◌}
use Rattle.kb_lemmas.proofs.Booleans.{and_gives_left, and_gives_right}
use Rattle.kb_node.specs.declared.node.LabelKind.TheVariants.{R1, E, C0, C1, X}
use Rattle.mkb_rules.proofs.Forks.{relabel_at, six_labels, node_inherited}
use Rattle.mkb_rules.proofs.effects.forking.fork_node.Goals as goal

pub returns-clause-ok : goal.returns-clause-ok
returns-clause-ok c =
    let p = c.args.fork.now.process.now in
    let n = c.args.n.0 in
    let xs = c.args.nodes.now.now in
    let two = c.in_ok-second.ensures.ok ∙ ap (relabel_at p n R1) c.in_ok-first.ensures.ok in
    let three = c.in_ok-third.ensures.ok ∙ ap (relabel_at p n E) two in
    let four = c.in_ok-fourth.ensures.ok ∙ ap (relabel_at p n C0) three in
    let five = c.in_ok-fifth.ensures.ok ∙ ap (relabel_at p n C1) four in
    c.in_ok-sixth.ensures.ok ∙ ap (relabel_at p n X) five ∙ six_labels p n xs

pub returns-clause-inherit : goal.returns-clause-inherit
returns-clause-inherit c = λ all.
    let first = c.in_ok-first.first in
    let second = c.in_ok-second.second in
    let third = c.in_ok-third.third in
    let fourth = c.in_ok-fourth.fourth in
    let fifth = c.in_ok-fifth.fifth in
    let sixth = c.in_ok-sixth.sixth in
    let five = and_gives_left ((((first && second) && third) && fourth) && fifth) sixth all in
    let four = and_gives_left (((first && second) && third) && fourth) fifth five in
    let three = and_gives_left ((first && second) && third) fourth four in
    let two = and_gives_left (first && second) third three in
    node_inherited c.args.fork.now.process.now c.args.n.0 c.args.nodes.now.now
    c.fork_label.new.nodes.now c.fork_label-2.new.nodes.now c.fork_label-3.new.nodes.now c.fork_label-4.new.nodes.now c.fork_label-5.new.nodes.now
    c.in_ok-first.ensures.ok c.in_ok-second.ensures.ok c.in_ok-third.ensures.ok c.in_ok-fourth.ensures.ok c.in_ok-fifth.ensures.ok
    (c.in_ok-first.ensures.inherit (and_gives_left first second two)) (c.in_ok-second.ensures.inherit (and_gives_right first second two))
    (c.in_ok-third.ensures.inherit (and_gives_right (first && second) third three)) (c.in_ok-fourth.ensures.inherit (and_gives_right ((first && second) && third) fourth four))
    (c.in_ok-fifth.ensures.inherit (and_gives_right (((first && second) && third) && fourth) fifth five)) (c.in_ok-sixth.ensures.inherit (and_gives_right ((((first && second) && third) && fourth) && fifth) sixth all))
