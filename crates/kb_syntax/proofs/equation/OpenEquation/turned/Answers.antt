use Rattle.std.proofs.Common.{ap, ◌∙◌, sym}
use Rattle.kb_text.specs.Machine.{next_equation}
use Rattle.kb_syntax.specs.Sides.{equation_front, side_front, token_at}
use Rattle.kb_text.specs.Written.{sign_of}
use Rattle.kb_syntax.proofs.EquationLaws.{sign_none}
use Rattle.kb_syntax.proofs.equation.OpenEquation.turned.Goals as goal

pub returns-in-None : goal.returns-in-None
returns-in-None c =
    sign_none (side_front c.in-Left.side) c.args.form c.args.name.now (sign_of c.in_ok-sign-in-Left.sign) c.in_ok-sign-in-Left.ensures (sym c.in-None.ensures)
    ∙ ap (λ e. next_equation (equation_front e) (token_at c.args.form c.args.name.now)) (sym c.in-Left.is)
