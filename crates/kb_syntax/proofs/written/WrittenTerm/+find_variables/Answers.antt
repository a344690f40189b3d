use Rattle.std.proofs.Common.{ap, sym, ◌∙◌, ◌++◌}
use Rattle.std.specs.Prelude.{take}
use Rattle.kb_text.specs.Problems.{names_in, names_in_all, variables_among}
use Rattle.kb_syntax.specs.Variables.{VariableNames, with_found}
use Rattle.kb_syntax.specs.Written.{written_of}
use Rattle.kb_syntax.proofs.VariableLaws.{with_found-among}
use Rattle.kb_syntax.proofs.WrittenArguments.{args, names_list_more}
use Rattle.kb_syntax.proofs.written.WrittenTerm.+find_variables.Goals as goal

pub loop-argument-preserved : goal.loop-argument-preserved
loop-argument-preserved t c =
    let items = c.deref-argument-items.result.now in
    let start : VariableNames = c.find_variable-in-Applied.new.variables in
    let more = names_in (written_of c.argument-item.result) in
    let before = names_in_all (args (take c.loop-argument.argument-index items)) in record {
      added = c.in_ok-find_variables-in-Applied.ensures
          ∙ ap (λ (v : VariableNames). with_found v (variables_among v.declared more)) c.loop-argument.invariant.added
          ∙ sym (with_found-among start before more)
          ∙ ap (λ ns. with_found start (variables_among start.declared ns)) (ap (λ u. before ++ names_in (written_of u)) c.argument-item.is ∙ sym (names_list_more items c.loop-argument.argument-index c.argument-item.result c.loop-argument-test.true));
      all = c.loop-argument.invariant.all;
    }
