use Rattle.std.proofs.Common.{ℕ, List, subst, sym}
use Rattle.kb_report.specs.Answers.{AnswerSpelled}
use Rattle.kb_reduce.specs.Telling.{IsReduction}
use Rattle.kb_reduce.specs.declared.reduction.Reduction.{Reduction as Told}
use Rattle.kb_reduce.specs.declared.reduction.Reduction.TheVariants.{Reduced}
use Rattle.mkbtt_top.proofs.reducing.reduced.Goals as goal

pub returns-in_ok-formatted-in-Reduced-clause-told : goal.returns-in_ok-formatted-in-Reduced-clause-told
returns-in_ok-formatted-in-Reduced-clause-told c = record {
  reduction = Reduced c.in-Reduced.answer;
  is = subst {A = Told} (IsReduction c.args.answer.now) c.in-Reduced.is c.in_ok-answer.ensures.reduction;
  told = (
    c.done.ensures.status,
    subst {A = List ℕ} (λ text. AnswerSpelled text c.in-Reduced.answer) (sym c.done.ensures.text) c.in_ok-formatted-in-Reduced.ensures,
    c.in_ok-answer.ensures.good c.in-Reduced.answer c.in-Reduced.is,
    c.in_ok-answer.ensures.reduced c.in-Reduced.answer c.in-Reduced.is,
  );
}
