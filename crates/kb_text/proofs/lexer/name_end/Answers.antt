use Rattle.std.proofs.Common.{arith, sym}
use Rattle.kb_text.proofs.Runs.{one_more_letter}
use Rattle.kb_text.proofs.lexer.name_end.Goals as goal

pub loop-end-preserved : goal.loop-end-preserved
loop-end-preserved c = record {
  some = omega arith;
  within = omega arith;
  letters = one_more_letter c.args.bytes.now c.args.at c.loop-end.end c.loop-end.invariant.letters (sym c.in-Letter.ensures.start);
}
