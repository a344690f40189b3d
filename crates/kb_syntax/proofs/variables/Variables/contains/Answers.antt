use Rattle.std.proofs.Common.{ap, ◌∙◌}
use Rattle.kb_text.specs.Names.{is_among}
use Rattle.kb_syntax.specs.Variables.{VariableNames}
use Rattle.kb_syntax.proofs.LookLaws.{among-keys}
use Rattle.kb_syntax.proofs.variables.Variables.contains.Goals as goal

pub returns : goal.returns
returns c = c.contains.ensures ∙ among-keys c.self.inside.names.keys c.args.name.now ∙ ap (λ (v : VariableNames). is_among v.declared c.args.name.now) c.self.view_is
