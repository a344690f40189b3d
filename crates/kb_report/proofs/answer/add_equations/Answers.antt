use Rattle.kb_text.proofs.FrontParts.{front_of_front}
use Rattle.kb_report.proofs.answer.add_equations.Goals as goal

pub returns-clause-front : goal.returns-clause-front
returns-clause-front c =
    front_of_front c.args.out.now.items _ c.push_counted.new.out.items c.push_each_equation.new.out.items c.in_ok-push_counted.ensures.ok c.push_each_equation.ensures.front
