use Rattle.std.proofs.Common.{◌∙◌, codes}
use Rattle.clap.specs.Matches.{found_of}
use Rattle.mkbtt_words.specs.Selections.{selection_of}
use Rattle.mkbtt_words.proofs.Read.{nothing_named, value_named}
use Rattle.mkbtt_words.proofs.words.selection_in.Goals as goal

pub returns-in_err-get_str : goal.returns-in_err-get_str
returns-in_err-get_str c = c.from_residual.ensures ∙ nothing_named selection_of (found_of c.args.matches.now) (codes "select") c.in_err-get_str.ensures

pub returns : goal.returns
returns c = c.selection_of.ensures ∙ value_named selection_of (found_of c.args.matches.now) (codes "select") c.in_ok-get_str.field-0.now c.in_ok-get_str.ensures
