-- What an answer tells.
use Rattle.std.proofs.Common.{◌≡◌, false, Result, Ok, Err, OnOk, IfOk}
use Rattle.std.specs.Prelude.{is_err}

-- what follows of an answer that holds more
pub ok_then : {T E : Type 0} → (r : Result T E) (P Q : Type 0) → (P → Q) → OnOk r P → OnOk r Q
ok_then (Ok x) P Q f h = f h
ok_then (Err e) P Q f h = tt

-- what follows of each answer
pub ok_so : {T E : Type 0} → (r : Result T E) (P Q : T → Type 0) → ((x : T) → P x → Q x) → IfOk r P → IfOk r Q
ok_so (Ok x) P Q f h = f x h
ok_so (Err e) P Q f h = tt

-- what an answer that is no error holds
pub at_ok : {T E P : Type 0} → (r : Result T E) → is_err r ≡ false → OnOk r P → P
at_ok (Ok x) e h = h
at_ok (Err y) e h = absurd (cc)
