use Rattle.std.proofs.Common.{◌∙◌, ap, map}
use Rattle.kb_node.specs.declared.node.NodeId.{NodeId}
use Rattle.mkb_rules.proofs.RowKept.{held_pushed, of_some}
use Rattle.mkb_rules.proofs.role_row.held_more.Goals as goal

pub returns-in-Ok : goal.returns-in-Ok
returns-in-Ok c = λ row e h.
    ap (map (λ (m : NodeId). m.0)) c.in-Ok.ensures
    ∙ held_pushed row c.args.roles c.in_ok-held.held.items c.args.n e (of_some _ _ _ c.in_ok-held.was h)
