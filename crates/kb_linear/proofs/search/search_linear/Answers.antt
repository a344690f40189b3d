use Rattle.std.proofs.Common.{arith, ap, ◌∙◌, length}
use Rattle.kb_linear.specs.Limits.{interpretation_of}
use Rattle.kb_linear.specs.Numbers.{numbers_of}
use Rattle.kb_linear.proofs.Ready.{numbers_count}
use Rattle.kb_linear.proofs.search.search_linear.Goals as goal

pub top_constant-requires : goal.top_constant-requires
top_constant-requires c =
    let e = ap length c.in_ok-least.ensures ∙ ap (λ z. length (numbers_of (interpretation_of z))) c.deref.ensures.value ∙ ap (λ i. length (numbers_of i)) c.in_ok-low.ensures ∙ numbers_count c.args.sig.now 0 1 in
    omega arith
