use Rattle.std.proofs.Common.{take}
use Rattle.std.specs.Prelude.{flat_map}
use Rattle.kb_term.specs.View.{equations_of_list}
use Rattle.kb_text.specs.Terms.{problem_line, names_of}
use Rattle.kb_text.proofs.FrontParts.{front_of_front}
use Rattle.kb_text.proofs.printer.push_equations.Goals as goal

pub returns-in_err-push_equation-clause-front : goal.returns-in_err-push_equation-clause-front
returns-in_err-push_equation-clause-front c =
    front_of_front c.args.out.now.items (flat_map (problem_line (names_of c.args.signature.now)) (equations_of_list (take c.loop-equation.equation-index c.args.equations.now)))
    c.loop-equation.out.items c.push_equation.new.out.items c.loop-equation.invariant c.push_equation.ensures.front
