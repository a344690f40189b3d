use Rattle.std.proofs.Common.{◌∙◌, sym, ap, length, length-append, ◌∷◌, [], arith}
use Rattle.fork_labels.proofs.Stands.{fork_step, fork_done}
use Rattle.fork_labels.proofs.labels.push_forks.Goals as goal

pub loop-s-preserved : goal.loop-s-preserved
loop-s-preserved c =
    let i = c.loop-s.s-index in (
      fork_step c.loop-s.set c.push.new.self c.args.forks.now i c.has-is_in.result c.loop-s-test.true c.push.ensures c.has-is_in.ensures ∙ c.loop-s.invariant.0,
      omega (arith, ap length c.push.ensures, length-append c.loop-s.set (c.has-is_in.result ∷ []), c.loop-s.invariant.1),
    )

pub returns : goal.returns
returns c = sym (fork_done c.loop-s.set c.args.forks.now c.loop-s.s-index (omega arith)) ∙ c.loop-s.invariant.0
