use Rattle.std.proofs.Common.{subst}
use Rattle.std.specs.Prelude.{OnOk}
use Rattle.mkb_model.specs.Plain.{Plain}
use Rattle.mkb_rules.specs.Known.{NodeOn}
use Rattle.mkb_agenda.specs.Following.{BringsHolders}
use Rattle.mkb_agenda.proofs.Brought.{holders_if_ok}
use Rattle.mkb_agenda.proofs.following.look_for_holders.Goals as goal

pub returns : goal.returns
returns c =
    let known = c.known_on-known.result in
    let ps = c.args.agenda.now.processes in
    let qs = c.look_for_all-3.new.agenda.processes in
    subst {A = NodeOn} (λ k. OnOk c.look_for_all-3.result ((b : Plain) → BringsHolders b k.board k.node ps qs)) c.known_on-known.ensures
    (holders_if_ok known.board known.node ps c.look_for_all.new.agenda.processes c.look_for_all-2.new.agenda.processes qs c.look_for_all-3.result
    c.in_ok-look_for_all.ensures c.in_ok-look_for_all-2.ensures c.look_for_all-3.ensures)
