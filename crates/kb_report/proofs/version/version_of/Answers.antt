use Rattle.std.proofs.Common.{sym, ◌∙◌}
use Rattle.std.proofs.lemmas.Bool.{false≢true}
use Rattle.kb_report.specs.declared.version.Version.{Version}
use Rattle.kb_report.specs.declared.version.Version.TheVariants.{First, Second}
use Rattle.kb_report.specs.SystemSections.{IsHeadLine}
use Rattle.kb_report.proofs.version.version_of.Goals as goal

pub returns-then-is_word : goal.returns-then-is_word
returns-then-is_word c = record { form = tt; spelling = c.is_word.ensures.0 c.if-is_word.true }

pub returns-then-is_word-2 : goal.returns-then-is_word-2
returns-then-is_word-2 c = record { form = tt; spelling = c.is_word-2.ensures.0 c.if-is_word-2.true }

pub returns : goal.returns
returns c = neither
  where
    neither : (v : Version) → ¬ IsHeadLine c.args.line.now v
    neither First k = false≢true (sym c.if-is_word.false ∙ c.is_word.ensures.1 k.spelling)
    neither Second k = false≢true (sym c.if-is_word-2.false ∙ c.is_word-2.ensures.1 k.spelling)
