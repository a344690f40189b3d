use Rattle.std.proofs.Common.{arith, sym, ◌∙◌, subst, ◌≤◌, slice_index_or}
use Rattle.std.proofs.lemmas.Nat.Bits.{shr_and_one}
use Rattle.kb_term.specs.Pair.{place_in}
use Rattle.kb_lpo.specs.Search.{FitsRows}
use Rattle.kb_lpo.proofs.Rows.{rows_put}
use Rattle.kb_lpo.proofs.known.Known.put.Goals as goal
use Rattle.kb_lpo.proofs.known.Known.put.Goals.{then-self-x-eq1, else-self-x-eq1}

pub loop-x-preserved : goal.loop-x-preserved
loop-x-preserved c = λ prec fit up.
    let f = c.args.f.0 in
    let g = c.args.g.0 in
    let x = c.loop-x.x in
    let rows = c.loop-x.self.rows in
    let now = c.loop-x.invariant prec fit up in
    elim c.if-self-x-eq1.branch [
      | then-self-x-eq1 w ↦
          let first : place_in prec x ≤ place_in prec f = now x f (omega arith) (sym (shr_and_one (slice_index_or rows x 0) f) ∙ w.if-self-x-eq1.true) in
          subst (λ z. FitsRows z.rows prec) (sym w.self-is) (rows_put rows prec x g (slice_index_or c.args.self.now.rows g 0) (grind arith) now (omega (arith, first, up)) (λ y b. fit g y c.if-g-lt24.true b))
      | else-self-x-eq1 w ↦ subst (λ z. FitsRows z.rows prec) (sym w.self-is) now
    ]
