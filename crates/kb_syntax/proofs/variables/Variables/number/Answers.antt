use Rattle.std.proofs.Common.{ap, ◌∙◌}
use Rattle.kb_syntax.specs.Variables.{VariableNames, variable_number}
use Rattle.kb_syntax.proofs.VariableLaws.{number-key}
use Rattle.kb_syntax.proofs.variables.Variables.number.Goals as goal

pub returns : goal.returns
returns c = c.get_index_of.ensures.index ∙ number-key c.self.inside.names.keys c.args.name.now ∙ ap (λ (v : VariableNames). variable_number v.declared c.args.name.now) c.self.view_is
