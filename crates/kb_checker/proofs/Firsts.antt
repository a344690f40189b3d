-- The first member of a list that fails.
use Rattle.std.proofs.Common.{ℕ, suc, ◌≡◌, ◌+◌, ◌<◌, ◌≤◌, ◌∙◌, sym, ap, subst, arith, List, [], ◌∷◌, ◌++◌, All, length, length-append, append_assoc, get_or, take, drop, map}
use Rattle.std.proofs.lemmas.List.{get_or-map, length-map, take-append-drop, length-take-le, take_more, take_all}
use Rattle.std.proofs.lemmas.List.Elements.{All-push, All-append}
use Rattle.std.proofs.Math.Seq.{drop-cons}
use Rattle.kb_checker.specs.Verdicts.{FailsFirst}

-- one more member is good
pub good_more : {X : Type 0} (G : X → Type 0) (xs : List X) (k : ℕ) (x : X) → k < length xs → x ≡ get_or xs k x → G x → All G (take k xs) → All G (take (k + 1) xs)
good_more G xs k x room is here h = subst (All G) (sym (take_more xs k x room ∙ ap (λ y. take k xs ++ y ∷ []) (sym is))) (All-push G (take k xs) x h here)

-- all members are
pub good_all : {X : Type 0} (G : X → Type 0) (xs : List X) (k : ℕ) → length xs ≤ k → All G (take k xs) → All G xs
good_all G xs k past h = subst (All G) (take_all k xs past) h

-- the next member is the first that fails
pub fails_first : {X : Type 0} (G F : X → Type 0) (xs : List X) (k : ℕ) (x : X) → k < length xs → x ≡ get_or xs k x → All G (take k xs) → F x → FailsFirst G F xs (k + 1)
fails_first G F xs k x room is h f = (
  take k xs,
  x,
  drop (suc k) xs,
  sym (take-append-drop k xs) ∙ ap (take k xs ++◌) (drop-cons xs k x room ∙ ap (λ y. y ∷ drop (suc k) xs) (sym is)),
  omega (arith, length-take-le k xs (omega arith)),
  h,
  f,
)

-- behind good members
pub fails_behind : {X : Type 0} (G F : X → Type 0) (front xs : List X) (n : ℕ) → All G front → FailsFirst G F xs n → FailsFirst G F (front ++ xs) (length front + n)
fails_behind G F front xs n h f = (
  front ++ f.0,
  f.1,
  f.2,
  ap (front ++◌) f.3 ∙ sym (append_assoc front f.0 (f.1 ∷ f.2)),
  omega (arith, f.4, length-append front f.0),
  All-append G front f.0 h f.5,
  f.6,
)

pub fails_within : {X : Type 0} (G F : X → Type 0) (xs : List X) (n : ℕ) → FailsFirst G F xs n → n ≤ length xs
fails_within G F xs n f = omega (arith, f.4, ap length f.3, length-append f.0 (f.1 ∷ f.2))

-- the member of a mapped list
pub mapped_member : {X Y : Type 0} (f : X → Y) (xs : List X) (k : ℕ) (x : X) → k < length xs → x ≡ get_or xs k x → (k < length (map f xs)) × (f x ≡ get_or (map f xs) k (f x))
mapped_member f xs k x room is = (omega (arith, length-map xs f), ap f is ∙ sym (get_or-map f xs k x (f x) room))
