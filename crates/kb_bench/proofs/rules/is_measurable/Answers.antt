use Rattle.std.proofs.Common.{refl}
use Rattle.kb_term.specs.View.{tree_of}
use Rattle.kb_linear.specs.Limits.{IsMeasurable}
use Rattle.kb_bench.proofs.Measurable.{measurable, on_none}
use Rattle.kb_bench.proofs.rules.is_measurable.Goals as goal

pub returns : goal.returns
returns c =
    let t = tree_of c.args.t.now in
    on_none c.term_limit.result c.is_none.result (IsMeasurable t) c.is_none.ensures (λ n. measurable t (c.if-not-has_variables_below.ensures.0 refl) (c.term_limit.ensures.within.0 n))
