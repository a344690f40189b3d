use Rattle.std.proofs.Common.{◌≡◌, None, refl}
use Rattle.kb_text.specs.Starts.{mark_token}
use Rattle.kb_text.specs.Machine.{next_term}
use Rattle.kb_syntax.specs.Sides.{side_front}
use Rattle.kb_text.specs.declared.lexer.Mark.{Mark}
use Rattle.kb_text.specs.declared.lexer.Mark.TheVariants.{ArrowEquals, Arrow, Equals, Bar, LeftParen, RightParen, Comma, Quotation}
use Rattle.kb_syntax.proofs.SideLaws.{no_term_token}
use Rattle.kb_syntax.proofs.side.Side.with_mark.Goals as goal

pub returns-in_default : goal.returns-in_default
returns-in_default c = go c.args.mark c.in_default.not-LeftParen c.in_default.not-RightParen c.in_default.not-Comma
  where
    go : (m : Mark) → (m ≡ LeftParen → ⊥) → (m ≡ RightParen → ⊥) → (m ≡ Comma → ⊥) → None ≡ next_term (side_front c.args.self.now) (mark_token m)
    go ArrowEquals p q r = no_term_token (side_front c.args.self.now) _ tt
    go Arrow p q r = no_term_token (side_front c.args.self.now) _ tt
    go Equals p q r = no_term_token (side_front c.args.self.now) _ tt
    go Bar p q r = no_term_token (side_front c.args.self.now) _ tt
    go LeftParen p q r = absurd (p refl)
    go RightParen p q r = absurd (q refl)
    go Comma p q r = absurd (r refl)
    go Quotation p q r = no_term_token (side_front c.args.self.now) _ tt
