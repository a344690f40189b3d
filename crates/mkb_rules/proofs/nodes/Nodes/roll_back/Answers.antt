use Rattle.std.proofs.Common.{◌≤◌, ◌∙◌, length, take, ap, sym, arith}
use Rattle.std.proofs.lemmas.List.{length-map, length-take-le, take_all, take-map}
use Rattle.mkb_rules.specs.Parts.{plain_node, plain_nodes}
use Rattle.mkb_rules.specs.Nodes.{put_back}
use Rattle.mkb_rules.proofs.PutBack.{few-put_back}
use Rattle.mkb_rules.proofs.nodes.Nodes.roll_back.Goals as goal

pub truncate-requires : goal.truncate-requires
truncate-requires c = few-put_back c.self.inside.kept c.self.inside.table c.put_all_back.new.table c.self.inside.replaced.items c.self.invariant.0 c.put_all_back.ensures.nodes

pub invariant_of-self : goal.invariant_of-self
invariant_of-self c = (
  (let few : c.self.inside.kept ≤ length c.put_all_back.new.table = few-put_back c.self.inside.kept c.self.inside.table c.put_all_back.new.table c.self.inside.replaced.items c.self.invariant.0 c.put_all_back.ensures.nodes in
      omega (arith, ap length c.truncate.ensures, length-take-le c.self.inside.kept c.put_all_back.new.table few)),
  λ k d h. absurd (omega (arith, h, ap length c.put_all_back.ensures.none)),
)

pub returns-clause-now : goal.returns-clause-now
returns-clause-now c =
    rw (← c.self.view_is)
    (ap plain_nodes c.truncate.ensures ∙ sym (take-map plain_node c.self.inside.kept c.put_all_back.new.table) ∙ ap (take c.self.inside.kept) c.put_all_back.ensures.nodes)

pub returns-clause-before : goal.returns-clause-before
returns-clause-before c =
    let few : c.self.inside.kept ≤ length c.put_all_back.new.table = few-put_back c.self.inside.kept c.self.inside.table c.put_all_back.new.table c.self.inside.replaced.items c.self.invariant.0 c.put_all_back.ensures.nodes in
    ap (λ rs. take c.self.inside.kept (put_back rs (plain_nodes c.truncate.new.self))) c.put_all_back.ensures.none
    ∙ take_all c.self.inside.kept (plain_nodes c.truncate.new.self) (omega (arith, length-map c.truncate.new.self plain_node, ap length c.truncate.ensures, length-take-le c.self.inside.kept c.put_all_back.new.table few))
    ∙ returns-clause-now c
