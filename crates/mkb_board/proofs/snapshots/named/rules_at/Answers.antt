use Rattle.std.proofs.Common.{◌++◌, ◌∙◌, List, ap, length, sym}
use Rattle.kb_term.specs.Rule.{Rule}
use Rattle.mkb_model.specs.Plain.{rules_at}
use Rattle.mkb_board.proofs.Kept.{as_many_at, at_there}
use Rattle.mkb_board.proofs.snapshots.named.rules_at.Goals as goal

pub returns-clause-as_many : goal.returns-clause-as_many
returns-clause-as_many c =
    let b = c.args.state.now in
    let names = c.args.names.now in
    let rules = rules_at b names in
    ap length (c.in_ok-push_rules_at.ensures.rules ∙ ap (λ (rs : List Rule). rs ++ rules) c.in_ok-rules.ensures.items) ∙ sym (as_many_at b names rules (at_there b names c.requires.there))
