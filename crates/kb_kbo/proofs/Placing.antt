-- The first arrangement of which a property holds, symbol by symbol.
use Rattle.std.proofs.Common.{ℕ, zero, suc, ◌≡◌, ◌<◌, ◌+◌, ◌++◌, ◌⊎◌, inl, inr, List, [], ◌∷◌, refl, sym, ap, ◌∙◌, subst, arith, Bool, true, false, Contains, IsTrue}
use Rattle.std.specs.Prelude.{Some, None}
use Rattle.std.specs.List.{range_with_len}
use Rattle.std.proofs.lemmas.Bool.{false≢true}
use Rattle.std.proofs.lemmas.List.{append_assoc, append-nil}
use Rattle.kb_term.specs.First.{IsFirst}
use Rattle.kb_lpo.specs.Precedences.{arrangements, precedences}
use Rattle.kb_lpo.specs.Search.{outside}
use Rattle.kb_lpo.proofs.First.{tried, block, found, none_append, none_block, none_where, tried_listed, tried_unlisted, outside_all}
use Rattle.kb_kbo.specs.Search.{IsPlaced}

none_one : (Q : List ℕ → Type 0) → ¬ Q [] → IsFirst Q ([] ∷ []) None
none_one Q h zero d i q = h q
none_one Q h (suc k) d i q = omega arith

-- with no symbol left, the prefix is the only candidate
pub leaf : (Q : List ℕ → Type 0) (count left : ℕ) (xs : List ℕ) (b : Bool) → left ≡ 0 → (IsTrue b → Q xs) × (Q xs → IsTrue b) → IsPlaced Q count left xs xs b
leaf Q count left xs true e h =
    let o : Q (xs ++ []) = subst Q (sym (append-nil xs)) (h.0 refl) in
    ([], sym (append-nil xs), subst (λ n. IsFirst (λ r. Q (xs ++ r)) (arrangements n (outside count xs)) (Some [])) (sym e) (o, [], [], refl, λ k d i. absurd (omega arith)))
leaf Q count left xs false e h =
    (refl, subst (λ n. IsFirst (λ r. Q (xs ++ r)) (arrangements n (outside count xs)) None) (sym e) (none_one (λ r. Q (xs ++ r)) (λ o. false≢true (h.1 (subst Q (append-nil xs) o)))))

-- what was found behind one more symbol
pub found_next : (Q : List ℕ → Type 0) (count n left y : ℕ) (xs ys now : List ℕ) → suc n ≡ left → ys ≡ xs ++ y ∷ [] → y < count → ¬ Contains xs y
    → IsFirst (λ r. Q (xs ++ r)) (tried n xs count y) None → IsPlaced Q count n ys now true → IsPlaced Q count left xs now true
found_next Q count n left y xs ys now e d h c t s =
    let first = subst (λ zs. IsFirst (λ r. Q (zs ++ r)) (arrangements n (outside count zs)) (Some s.0)) d s.2 in
    (y ∷ s.0, s.1 ∙ ap (λ z. z ++ s.0) d ∙ append_assoc xs (y ∷ []) s.0, subst (λ m. IsFirst (λ r. Q (xs ++ r)) (arrangements m (outside count xs)) (Some (y ∷ s.0))) e (found n xs count y Q s.0 h c t first))

pub none_next : (Q : List ℕ → Type 0) (count n y : ℕ) (xs ys now : List ℕ) → ys ≡ xs ++ y ∷ [] → ¬ Contains xs y
    → IsFirst (λ r. Q (xs ++ r)) (tried n xs count y) None → IsPlaced Q count n ys now false → IsFirst (λ r. Q (xs ++ r)) (tried n xs count (y + 1)) None
none_next Q count n y xs ys now d c t s =
    let first = subst (λ zs. IsFirst (λ r. Q (zs ++ r)) (arrangements n (outside count zs)) None) d s.1 in
    subst (λ z. IsFirst (λ r. Q (xs ++ r)) z None) (sym (tried_unlisted n xs count y c)) (none_append (λ r. Q (xs ++ r)) (tried n xs count y) (block n xs count y) t (none_block n xs count y Q first))

-- a symbol that is listed, or with which Q holds of none
pub none_refused : (Q : List ℕ → Type 0) (count n y : ℕ) (xs : List ℕ) → Contains xs y ⊎ (Contains xs y → ⊥) → ((r : List ℕ) → ¬ Contains xs y → ¬ Q (xs ++ y ∷ r))
    → IsFirst (λ r. Q (xs ++ r)) (tried n xs count y) None → IsFirst (λ r. Q (xs ++ r)) (tried n xs count (y + 1)) None
none_refused Q count n y xs (inl c) h t = subst (λ z. IsFirst (λ r. Q (xs ++ r)) z None) (sym (tried_listed n xs count y c)) t
none_refused Q count n y xs (inr c) h t =
    subst (λ z. IsFirst (λ r. Q (xs ++ r)) z None) (sym (tried_unlisted n xs count y c)) (none_append (λ r. Q (xs ++ r)) (tried n xs count y) (block n xs count y) t (none_where n xs count y Q (λ r. h r c)))

-- the whole search
pub whole_found : (Q : List ℕ → Type 0) (count : ℕ) (start now : List ℕ) → start ≡ [] → IsPlaced Q count count start now true → IsFirst Q (precedences count) (Some now)
whole_found Q count start now e s =
    let r = subst (λ z. IsPlaced Q count count z now true) e s in
    let f = subst (λ xs. IsFirst Q (arrangements count xs) (Some r.0)) (outside_all (range_with_len 0 count)) r.2 in
    subst (λ z. IsFirst Q (precedences count) (Some z)) (sym r.1) f

pub whole_none : (Q : List ℕ → Type 0) (count : ℕ) (start now : List ℕ) → start ≡ [] → IsPlaced Q count count start now false → IsFirst Q (precedences count) None
whole_none Q count start now e s =
    let r = subst (λ z. IsPlaced Q count count z now false) e s in
    subst (λ xs. IsFirst Q (arrangements count xs) None) (outside_all (range_with_len 0 count)) r.1
