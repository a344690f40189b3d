use Rattle.std.proofs.Common.{ap, arith, length}
use Rattle.kb_text.specs.Grammar.{term_tokens}
use Rattle.kb_syntax.specs.Written.{written_of}
use Rattle.kb_syntax.proofs.WrittenArguments.{followed_count}
use Rattle.kb_syntax.proofs.written.followed_tokens.Goals as goal

pub loop-argument-preserved : goal.loop-argument-preserved
loop-argument-preserved c =
    omega (arith, c.tokens.ensures, c.loop-argument.invariant, c.saturating_add.ensures, c.saturating_add-count.ensures, followed_count c.args.arguments.now c.loop-argument.argument-index c.argument-item.result c.loop-argument-test.true, ap (λ u. length (term_tokens (written_of u))) c.argument-item.is)
