use Rattle.std.proofs.Common.{◌∙◌, ap, arith, length}
use Rattle.kb_text.specs.Problems.{term_of}
use Rattle.kb_syntax.specs.Variables.{VariableNames}
use Rattle.kb_syntax.specs.Written.{equation_of, written_of}
use Rattle.kb_syntax.proofs.VariableLaws.{equation-found}
use Rattle.kb_syntax.proofs.problem.equation.Goals as goal

pub term-requires-clause-variables : goal.term-requires-clause-variables
term-requires-clause-variables c =
    let is = equation-found c.args.variables.now c.begin.new.self c.find_variables.new.variables c.find_variables-2.new.variables (equation_of c.args.e.now) c.begin.ensures c.in_ok-find_variables.ensures c.in_ok-find_variables-2.ensures in
    omega (arith, ap (λ (v : VariableNames). length v.found) is, c.requires.variables)

pub term-requires-2-clause-variables : goal.term-requires-2-clause-variables
term-requires-2-clause-variables c =
    let is = equation-found c.args.variables.now c.begin.new.self c.find_variables.new.variables c.find_variables-2.new.variables (equation_of c.args.e.now) c.begin.ensures c.in_ok-find_variables.ensures c.in_ok-find_variables-2.ensures in
    omega (arith, ap (λ (v : VariableNames). length v.found) is, c.requires.variables)

pub returns : goal.returns
returns c =
    let e = c.args.e.now in
    let symbols = c.args.symbols.now in
    let is = equation-found c.args.variables.now c.begin.new.self c.find_variables.new.variables c.find_variables-2.new.variables (equation_of e) c.begin.ensures c.in_ok-find_variables.ensures c.in_ok-find_variables-2.ensures in record {
      equation = λ i. (
        (c.in_ok-left.ensures ∙ ap (λ (v : VariableNames). term_of v.found symbols (written_of e.left)) is) i,
        (c.in_ok-right.ensures ∙ ap (λ (v : VariableNames). term_of v.found symbols (written_of e.right)) is) i,
      );
      declared = ap (λ (v : VariableNames). v.declared) is;
    }
