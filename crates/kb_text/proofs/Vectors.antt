-- Whether a vector is empty.
use Rattle.std.proofs.Common.{◌≡◌, arith, length, true, false, Vec, Global, vec_len}
use Rattle.std.proofs.lemmas.Bool.{eqb-true, eqb-false}
use Rattle.std.specs.Prelude.{◌==◌}

pub vec_length : {X : Type 0} (v : Vec X Global) → vec_len v ≡ length v.items
vec_length v = omega (arith, v.ok)

pub empty_is : {X : Type 0} (v : Vec X Global) → (vec_len v == 0) ≡ true → length v.items ≡ 0
empty_is v e = omega (arith, vec_length v, eqb-true (vec_len v) 0 e)

pub empty_not : {X : Type 0} (v : Vec X Global) → (vec_len v == 0) ≡ false → length v.items ≡ 0 → ⊥
empty_not v e h = eqb-false (vec_len v) 0 e (omega (arith, vec_length v))
