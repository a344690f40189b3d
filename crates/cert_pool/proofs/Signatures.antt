-- Signatures with the same symbols.
use Rattle.std.proofs.Common.{ℕ, suc, ◌<◌, ◌≡◌, ap₂, refl, arith, List, [], ◌∷◌, length, slice_index_or, Vec, zero-lt-suc, suc-le-suc}
use Rattle.std.specs.declared.alloc.Global.{Global}
use Rattle.kb_term.specs.Signature.{symbols_of_list}

-- lists whose symbols have the same names and arities, place by place, are one signature
pub same_symbols : (xs ys : List (Vec ℕ Global × ℕ)) → length xs ≡ length ys → ((k : ℕ) (d : Vec ℕ Global × ℕ) → k < length xs → ((slice_index_or xs k d).0.items ≡ (slice_index_or ys k d).0.items) × ((slice_index_or xs k d).1 ≡ (slice_index_or ys k d).1)) → symbols_of_list xs ≡ symbols_of_list ys
same_symbols [] [] e h = refl
same_symbols [] (y ∷ ys) e h = absurd (omega arith)
same_symbols (x ∷ xs) [] e h = absurd (omega arith)
same_symbols (x ∷ xs) (y ∷ ys) e h =
    let first = h 0 x (zero-lt-suc _) in
    ap₂ (λ f fs. f ∷ fs) (ap₂ (λ n a. record { name = n; arity = a }) first.0 first.1) (same_symbols xs ys (omega arith) (λ k d l. h (suc k) d (suc-le-suc l)))
