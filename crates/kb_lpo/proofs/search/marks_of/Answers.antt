use Rattle.std.proofs.Common.{ℕ, List, ◌≡◌, ◌<◌, ◌*◌, ◌^◌, ◌%◌, subst, ⊎_elim, length, Contains, slice_index_or}
use Rattle.std.proofs.lemmas.List.{get_or_default}
use Rattle.std.specs.Int.{bit_at}
use Rattle.kb_term.specs.declared.term.Symbol.{Symbol}
use Rattle.kb_lemmas.proofs.Membership.{contains_map}
use Rattle.kb_lpo.specs.Search.{numbers}
use Rattle.kb_lpo.proofs.Rows.{either_bit, one_bit}
use Rattle.kb_lpo.proofs.search.marks_of.Goals as goal
use Rattle.kb_lpo.proofs.search.marks_of.Goals.{then-f, else-f}

listed_at : (xs : List Symbol) (i y : ℕ) (d : Symbol) → i < length xs → (slice_index_or xs i d).0 ≡ y → Contains (numbers xs) y
listed_at xs i y d h e = subst (Contains (numbers xs)) e (contains_map (λ (f : Symbol). f.0) xs (slice_index_or xs i d) (i, h, get_or_default xs i (slice_index_or xs i d) d h))

pub loop-i-preserved : goal.loop-i-preserved
loop-i-preserved c = λ y h. elim c.if-f.branch [
  | then-f w ↦ ⊎_elim (c.loop-i.invariant y) (λ b. listed_at c.args.symbols.now c.loop-i.i y (record { 0 = 0 }) c.loop-i-test.true (one_bit (slice_index_or c.args.symbols.now c.loop-i.i (record { 0 = 0 })).0 y w.if-f.true b)) (either_bit c.loop-i.marks (1 * 2 ^ (slice_index_or c.args.symbols.now c.loop-i.i (record { 0 = 0 })).0 % 2 ^ 32) y (subst (λ m. bit_at m y ≡ 1) w.marks-is h))
  | else-f w ↦ c.loop-i.invariant y (subst (λ m. bit_at m y ≡ 1) w.marks-is h)
]
