use Rattle.std.proofs.Common.{ap, ◌∙◌}
use Rattle.kb_label.specs.Packed.{name_in, word}
use Rattle.kb_label.proofs.Words.{first_word}
use Rattle.kb_label.proofs.process.Process.first_word.Goals as goal

pub returns : goal.returns
returns c = first_word c.self.inside.words (name_in c.self.inside.words c.self.inside.len) c.self.invariant.1 ∙ ap (word 64) c.self.view_is
