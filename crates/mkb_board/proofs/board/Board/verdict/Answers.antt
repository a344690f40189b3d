use Rattle.std.proofs.Common.{◌≡◌, ◌∙◌, refl, subst}
use Rattle.mkb_model.specs.Verdicts.{verdict}
use Rattle.mkb_board.specs.Boards.{Seen}
use Rattle.mkb_board.proofs.board.Board.verdict.Goals as goal

pub returns : goal.returns
returns c = c.self.invariant.2 ∙ subst {A = Seen} (λ z. verdict c.self.inside.state ≡ verdict z.plain) c.self.view_is refl
