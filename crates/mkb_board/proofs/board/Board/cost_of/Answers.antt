use Rattle.std.proofs.Common.{ℕ, ◌≡◌, ◌∙◌, ap, sym, subst}
use Rattle.kb_label.specs.Names.{Name}
use Rattle.mkb_model.specs.Plain.{cost}
use Rattle.mkb_model.specs.Jobs.{process_of}
use Rattle.mkb_board.specs.Boards.{Seen}
use Rattle.mkb_agenda.proofs.Sleeping.{cost_alike}
use Rattle.mkb_board.proofs.Readable.{limited_on}
use Rattle.mkb_board.proofs.board.Board.cost_of.Goals as goal

pub cost-requires : goal.cost-requires
cost-requires c = limited_on c.self.inside.state c.self.inside.flight.items c.self.inside.journal.items c.self.invariant.0.legal

pub returns : goal.returns
returns c =
    let b = c.self.inside.state in
    let p = process_of c.args.job.now in
    c.cost.ensures ∙ ap (cost b) c.process_of-process.ensures ∙ subst {A = Seen} (λ z. cost b p ≡ cost z.plain p) c.self.view_is (ap (λ (f : Name → ℕ). f p) (sym (cost_alike b c.self.inside.flight.items b.asleep)))
