-- The command as `clap` sees it.
use Rattle.std.specs.Prelude.{ℕ, [], ◌∷◌, Some, codes, pos, true}
use Rattle.clap.specs.Walk.{Rule, Text}
use Rattle.clap.specs.Simple.{App, new_app, new_rule, on_top, with_rule}
use Rattle.clap.specs.declared.builder.action.ArgAction.TheVariants.{Set}
use Rattle.clap.specs.declared.builder.value_parser.ValueParser.TheVariants as vp

-- an option that takes one number, within these bounds
pub record NumberOption : Type 0 where
  pub name : Text
  pub low : ℕ
  pub high : ℕ
  -- the text that stands for it where it isn't given
  pub standard : Text

abbrev pub workers : NumberOption
workers = record { name = codes "workers"; low = 1; high = 16; standard = codes "4" }

abbrev pub budget : NumberOption
budget = record { name = codes "budget"; low = 1; high = 100000; standard = codes "20000" }

abbrev pub number : NumberOption
number = record { name = codes "number"; low = 1; high = 64; standard = codes "8" }

-- the required positional, which is any text
abbrev pub mode_rule : Rule
mode_rule = record (new_rule (codes "mode")) { action = Some Set; required = true }

-- `--name` with a number
abbrev pub option_rule : NumberOption → Rule
option_rule o = record (new_rule o.name) {
  long = Some o.name;
  action = Some Set;
  parser = Some (vp.Signed (pos o.low) (pos o.high));
  defaults = o.standard ∷ [];
}

-- `--name` with any text, for which this one stands where it isn't given
abbrev pub name_rule : Text → Text → Rule
name_rule name standard = record (new_rule name) {
  long = Some name;
  action = Some Set;
  defaults = standard ∷ [];
}

-- the command whose first word is a mode or an option, and no program's name
abbrev pub empty_command : App
empty_command = on_top (λ s. record s { no_binary_name = true }) (new_app (codes "mkbtt"))

-- the command of the program: a required mode, the three options with a number, `--to` with a format, and `--select` with a selection
unfoldable pub command : App
command =
    with_rule (with_rule (with_rule (with_rule (with_rule (with_rule empty_command mode_rule) (option_rule workers)) (option_rule budget)) (option_rule number)) (name_rule (codes "to") (codes "answer"))) (name_rule (codes "select") (codes "stated"))
