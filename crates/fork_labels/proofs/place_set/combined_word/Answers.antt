use Rattle.std.proofs.Common.{◌-◌, min, arith, eqb, sym, ap, ◌∙◌}
use mir.Syntax.{w64}
use Rattle.std.specs.Int.{bit_at}
use Rattle.std.proofs.lemmas.Nat.Bits.{bit_at_or, bit_at_and, bit_at_not}
use Rattle.fork_labels.specs.Sets.{in_result}
use Rattle.fork_labels.proofs.SetIn.{bit_either, bit_both, bit_first}
use Rattle.fork_labels.proofs.place_set.combined_word.Goals as goal

pub returns-in-Join : goal.returns-in-Join
returns-in-Join c = λ j h. bit_either c.args.a c.args.b j _ (bit_at_or c.args.a c.args.b j) ∙ ap (λ op. in_result op (eqb (bit_at c.args.a j) 1) (eqb (bit_at c.args.b j) 1)) (sym c.in-Join.is)

pub returns-in-Meet : goal.returns-in-Meet
returns-in-Meet c = λ j h. bit_both c.args.a c.args.b j _ (bit_at_and c.args.a c.args.b j) ∙ ap (λ op. in_result op (eqb (bit_at c.args.a j) 1) (eqb (bit_at c.args.b j) 1)) (sym c.in-Meet.is)

pub returns-in-Minus : goal.returns-in-Minus
returns-in-Minus c = λ j h.
    bit_first c.args.a c.args.b j _ (bit_at_and c.args.a (18446744073709551615 - c.args.b) j ∙ ap (λ n. min (bit_at c.args.a j) n) (bit_at_not w64 c.args.b j (omega (arith, c.ranges.b)) h))
    ∙ ap (λ op. in_result op (eqb (bit_at c.args.a j) 1) (eqb (bit_at c.args.b j) 1)) (sym c.in-Minus.is)
