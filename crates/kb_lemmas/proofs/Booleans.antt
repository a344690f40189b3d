-- Laws of truth values and of orderings.
use Rattle.std.specs.Prelude.{Bool, true, false, ◌&&◌, ◌||◌, ◌≡◌, refl}
use Rattle.std.proofs.Common.{IsTrue}
use mathlib.Core.Bool.{false≢true}
use Rattle.std.specs.declared.cmp.Ordering.{Ordering}
use Rattle.std.specs.declared.cmp.Ordering.TheVariants.{Less, Equal, Greater}
use Rattle.std.specs.Ordering.{is_eq, ordering_then}

pub and_gives_left : (a b : Bool) → (a && b) ≡ true → a ≡ true
and_gives_left true b e = refl
and_gives_left false b e = absurd (false≢true e)

pub and_gives_right : (a b : Bool) → (a && b) ≡ true → b ≡ true
and_gives_right true b e = e
and_gives_right false b e = absurd (false≢true e)

pub or_swap : (a b c : Bool) → (a || (b || c)) ≡ (b || (a || c))
or_swap true true c = refl
or_swap true false c = refl
or_swap false b c = refl

pub or_nothing : (b : Bool) → b ≡ (b || false)
or_nothing true = refl
or_nothing false = refl

pub fails : {P : Type 0} → ¬ P → (IsTrue false → P) × (P → IsTrue false)
fails h = (λ x. absurd (false≢true x), λ x. absurd (h x))

pub is_equal : (o : Ordering) → is_eq o ≡ true → o ≡ Equal
is_equal Less e = absurd (cc)
is_equal Equal e = refl
is_equal Greater e = absurd (cc)

pub then_equal : (a b : Ordering) → ordering_then a b ≡ Equal → (a ≡ Equal) × (b ≡ Equal)
then_equal Less b e = absurd (cc)
then_equal Equal b e = (refl, e)
then_equal Greater b e = absurd (cc)
