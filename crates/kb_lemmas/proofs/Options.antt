-- What an optional value that is known says of where it came from.
use Rattle.std.proofs.Common.{◌≡◌, Option, Some, None, refl}
use Rattle.std.specs.Option.{option_map, option_and_then}

pub none_some : {X : Type 0} {x : X} {P : Type 0} → None ≡ Some x → P
none_some e = absurd (cc)

pub some_is : {X : Type 0} {x y : X} → Some x ≡ Some y → x ≡ y
some_is e = cc

pub some_of_map : {A B : Type 0} (f : A → B) (o : Option A) (b : B) → option_map f o ≡ Some b → (a : A) × o ≡ Some a × f a ≡ b
some_of_map f None b e = absurd (cc)
some_of_map f (Some a) b e = (a, refl, cc)

pub some_of_and_then : {A B : Type 0} (f : A → Option B) (o : Option A) (b : B) → option_and_then f o ≡ Some b → (a : A) × o ≡ Some a × f a ≡ Some b
some_of_and_then f None b e = absurd (cc)
some_of_and_then f (Some a) b e = (a, refl, e)
