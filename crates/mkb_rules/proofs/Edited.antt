-- What is so of each element, after one comes or goes.
use Rattle.std.proofs.Common.{ℕ, suc, ◌≡◌, List, ◌∷◌, take, drop, Bool, true, false, cond, sym, subst}
use Rattle.std.specs.Prelude.{All, insert, remove}
use Rattle.std.proofs.lemmas.List.Elements.{All-append, All-cons, All-take, All-drop}

pub all_insert : {X : Type 0} (P : X → Type 0) (xs : List X) (i : ℕ) (x : X) → All P xs → P x → All P (insert xs i x)
all_insert P xs i x h k = All-append P (take i xs) (x ∷ drop i xs) (All-take P i xs h) (All-cons P x (drop i xs) k (All-drop P i xs h))

-- where there was room for it or not
pub all_inserted : {X : Type 0} (P : X → Type 0) (xs ys : List X) (i : ℕ) (x : X) (done : Bool) → ys ≡ cond done (insert xs i x) xs → All P xs → P x → All P ys
all_inserted {X} P xs ys i x true e h k = subst {A = List X} (All P) (sym e) (all_insert P xs i x h k)
all_inserted {X} P xs ys i x false e h k = subst {A = List X} (All P) (sym e) h

pub all_remove : {X : Type 0} (P : X → Type 0) (xs : List X) (i : ℕ) → All P xs → All P (remove xs i)
all_remove P xs i h = All-append P (take i xs) (drop (suc i) xs) (All-take P i xs h) (All-drop P (suc i) xs h)
