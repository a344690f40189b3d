-- What a parse that succeeds has found.
use Rattle.std.specs.Prelude.{◌≡◌, Some, pos}
use Rattle.clap.specs.Lexer.{without_minus}
use Rattle.clap.specs.Matches.{one_text}
use Rattle.clap.specs.Values.{IsSignedIn}
use Rattle.clap.specs.Walk.{Text}
use Rattle.clap.specs.declared.parser.matches.Found.{Found}
use Rattle.mkbtt_words.specs.Command.{NumberOption}

-- the option has a text, which writes a number within its bounds
pub record HasNumber (o : NumberOption) (f : Found) : Type 0 where
  pub text : Text
  pub given : one_text f o.name ≡ Some (without_minus text)
  pub within : IsSignedIn (pos o.low) (pos o.high) text
