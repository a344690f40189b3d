use Rattle.std.proofs.Common.{ap, ◌∙◌, sym}
use Rattle.kb_text.specs.Tokens.{end_of_input}
use Rattle.kb_text.specs.Machine.{next_term}
use Rattle.kb_syntax.specs.Sides.{side_front, token_at}
use Rattle.kb_syntax.proofs.SideLaws.{no_term_token}
use Rattle.kb_syntax.proofs.side.Side.next.Goals as goal

pub returns-in-End : goal.returns-in-End
returns-in-End c = no_term_token (side_front c.args.self.now) end_of_input tt ∙ ap (λ f. next_term (side_front c.args.self.now) (token_at f c.args.name.now)) (sym c.in-End.is)
