use Rattle.std.proofs.Common.{◌≤◌, refl, length, ap, arith}
use Rattle.std.proofs.lemmas.List.{length-map}
use Rattle.mkb_model.specs.Plain.{rules_of}
use Rattle.mkb_rules.specs.Parts.{plain_node}
use Rattle.mkb_rules.specs.Roles.{roles_of}
use Rattle.mkb_agenda.specs.Open.{is_open_to}
use Rattle.mkb_board.proofs.Viewed.{others_few}
use Rattle.mkb_board.proofs.snapshots.reducing.open_rules.Goals as goal

pub returns-clause-few : goal.returns-clause-few
returns-clause-few c =
    let b = c.args.state.now in
    let p = c.args.p.now in
    let few : length b.nodes ≤ 4096 = omega (arith, c.len-count.ensures.count, c.len-count.ensures.most, ap length c.nodes.ensures, length-map c.nodes.result.now plain_node) in
    others_few b p (is_open_to b (roles_of b p c.args.n.0) c.args.n.0) (rules_of b p) _ c.in_ok-names.ensures refl few
