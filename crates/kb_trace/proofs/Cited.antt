-- Members by number.
use Rattle.std.proofs.Common.{ℕ, zero, suc, ◌-◌, ◌≡◌, ◌∙◌, refl, sym, ap, arith, List, Option, Some, None, Bor, length, get_or, ◌<◌, ◌≤◌}
use Rattle.std.specs.Prelude.{slice_get, option_map, is_some, IfSome, nat_lt}
use Rattle.std.proofs.lemmas.Option.{slice_get_past, slice_get-get_or}
use Rattle.kb_overlap.specs.Trace.{item}

-- the member with a number stands one place before
pub item_before : {X : Type 0} (xs : List X) (n : ℕ) → ¬ (n ≡ 0) → item xs n ≡ slice_get xs (n - 1)
item_before xs zero h = absurd (h refl)
item_before xs (suc n) h = ap (slice_get xs) (omega arith)

pub mapped_twice : {X Y Z : Type 0} (f : Y → Z) (g : X → Y) (o : Option X) → option_map (λ x. f (g x)) o ≡ option_map f (option_map g o)
mapped_twice f g None = refl
mapped_twice f g (Some x) = refl

-- what a look-up gives
pub looked_up : {X : Type 0} (xs : List X) (i : ℕ) (o : Option (Bor X)) → is_some o ≡ nat_lt i (length xs) → IfSome o (λ x. x.now ≡ get_or xs i x.now) → option_map (λ (x : Bor X). x.now) o ≡ slice_get xs i
looked_up xs i None a b = let past : length xs ≤ i = grind arith in sym (slice_get_past xs i past)
looked_up xs i (Some x) a b = let room : i < length xs = grind arith in ap Some b ∙ sym (slice_get-get_or xs i x.now room)
