use Rattle.std.proofs.Common.{set, get_or, eqb, ap, sym, ◌∙◌, inl, inr, arith, length-set}
use Rattle.std.specs.Int.{bit_at}
use Rattle.std.proofs.lemmas.Bool.{cases_eq}
use Rattle.std.proofs.lemmas.List.{get_or-set_same, get_or-set_other}
use Rattle.fork_labels.specs.Sets.{in_result}
use Rattle.fork_labels.proofs.place_set.combined_words.Goals as goal

pub loop-k-preserved : goal.loop-k-preserved
loop-k-preserved c =
    let words = c.loop-k.words in
    let i = c.loop-k.k in (
      length-set words i c.combined_word.result ∙ c.loop-k.invariant.0,
      λ k j h g. elim (cases_eq k i) [
        | inl e ↦
            ap (λ n. eqb (bit_at (get_or (set words i c.combined_word.result) n 0) j) 1) e
            ∙ ap (λ w. eqb (bit_at w j) 1) (get_or-set_same words i c.combined_word.result 0 (omega arith))
            ∙ c.combined_word.ensures j g
            ∙ ap (λ n. in_result c.args.op (eqb (bit_at (get_or c.args.a.now n 0) j) 1) (eqb (bit_at (get_or c.args.b.now n 0) j) 1)) (sym e)
        | inr ne ↦
            ap (λ w. eqb (bit_at w j) 1) (get_or-set_other words i k c.combined_word.result 0 ne)
            ∙ c.loop-k.invariant.1 k j (omega arith) g
      ],
    )
