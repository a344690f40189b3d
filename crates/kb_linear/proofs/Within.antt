-- Lists of numbers within bounds, and their lexicographic order.
use Rattle.std.proofs.Common.{ℕ, zero, suc, ◌+◌, ◌-◌, ◌≤◌, ◌<◌, ◌≡◌, inl, inr, ⊎_elim, refl, sym, ap, ap₂, ◌∙◌, arith, List, [], ◌∷◌, ◌++◌, length, get_or, set, take, drop}
use Rattle.std.proofs.lemmas.Bool.{cases_lt}
use Rattle.kb_linear.specs.LinearOrder.{Interpretation}
use Rattle.kb_linear.specs.Numbers.{IsWithin, IsLess, numbers_of, shape_of}

abbrev pub tail_of : List ℕ → List ℕ
tail_of [] = []
tail_of (x ∷ xs) = xs

pub within_lengths : (ls ms xs : List ℕ) → IsWithin ls ms xs → (length ls ≡ length xs) × (length ms ≡ length xs)
within_lengths [] [] [] h = (refl, refl)
within_lengths [] [] (x ∷ xs) h = absurd h
within_lengths [] (m ∷ ms) xs h = absurd h
within_lengths (l ∷ ls) [] xs h = absurd h
within_lengths (l ∷ ls) (m ∷ ms) [] h = absurd h
within_lengths (l ∷ ls) (m ∷ ms) (x ∷ xs) h = let r = within_lengths ls ms xs h.2 in (ap suc r.0, ap suc r.1)

pub within_at : (ls ms xs : List ℕ) (k : ℕ) → IsWithin ls ms xs → (get_or ls k 0 ≤ get_or xs k 0) × (get_or xs k 0 ≤ get_or ms k 0)
within_at [] [] [] k h = (omega arith, omega arith)
within_at [] [] (x ∷ xs) k h = absurd h
within_at [] (m ∷ ms) xs k h = absurd h
within_at (l ∷ ls) [] xs k h = absurd h
within_at (l ∷ ls) (m ∷ ms) [] k h = absurd h
within_at (l ∷ ls) (m ∷ ms) (x ∷ xs) zero h = (h.0, h.1)
within_at (l ∷ ls) (m ∷ ms) (x ∷ xs) (suc k) h = within_at ls ms xs k h.2

pub within_set : (ls ms xs : List ℕ) (k v : ℕ) → IsWithin ls ms xs → get_or ls k 0 ≤ v → v ≤ get_or ms k 0 → IsWithin ls ms (set xs k v)
within_set [] [] [] k v h p q = h
within_set [] [] (x ∷ xs) k v h p q = absurd h
within_set [] (m ∷ ms) xs k v h p q = absurd h
within_set (l ∷ ls) [] xs k v h p q = absurd h
within_set (l ∷ ls) (m ∷ ms) [] k v h p q = absurd h
within_set (l ∷ ls) (m ∷ ms) (x ∷ xs) zero v h p q = (p, q, h.2)
within_set (l ∷ ls) (m ∷ ms) (x ∷ xs) (suc k) v h p q = (h.0, h.1, within_set ls ms xs k v h.2 p q)

-- each number is at most that at its place in the other list
abbrev pub AreBelow : List ℕ → List ℕ → Type 0
AreBelow xs ys = (k : ℕ) → get_or xs k 0 ≤ get_or ys k 0

front_at : (k n : ℕ) (xs ys : List ℕ) → take k xs ≡ take k ys → n < k → get_or xs n 0 ≡ get_or ys n 0
front_at zero n xs ys e h = absurd (omega arith)
front_at (suc k) n [] [] e h = refl
front_at (suc k) n [] (y ∷ ys) e h = absurd (cc)
front_at (suc k) n (x ∷ xs) [] e h = absurd (cc)
front_at (suc k) zero (x ∷ xs) (y ∷ ys) e h = cc
front_at (suc k) (suc n) (x ∷ xs) (y ∷ ys) e h = front_at k n xs ys (ap tail_of e) (omega arith)

at_drop : (k n : ℕ) (xs : List ℕ) → get_or (drop k xs) n 0 ≡ get_or xs (k + n) 0
at_drop zero n xs = let e : n ≡ 0 + n = omega arith in ap (λ z. get_or xs z 0) e
at_drop (suc k) n [] = refl
at_drop (suc k) n (x ∷ xs) = let e : suc (k + n) ≡ suc k + n = omega arith in at_drop k n xs ∙ ap (λ z. get_or (x ∷ xs) z 0) e

pub rest_at : (k n : ℕ) (xs ys : List ℕ) → drop k xs ≡ drop k ys → k ≤ n → get_or xs n 0 ≡ get_or ys n 0
rest_at k n xs ys e h = let q : k + (n - k) ≡ n = omega arith in ap (λ z. get_or xs z 0) (sym q) ∙ sym (at_drop k (n - k) xs) ∙ ap (λ z. get_or z (n - k) 0) e ∙ at_drop k (n - k) ys ∙ ap (λ z. get_or ys z 0) q

-- where the first k numbers are the same and the others the least, or the greatest
pub below_from : (k : ℕ) (ls ms xs zs : List ℕ) → IsWithin ls ms xs → take k zs ≡ take k xs → drop k zs ≡ drop k ls → AreBelow zs xs
below_from k ls ms xs zs h t d n = ⊎_elim (λ p. let q = front_at k n zs xs t p in omega arith) (λ p. let q = rest_at k n zs ls d p in let w = within_at ls ms xs n h in omega arith) (cases_lt n k)

pub above_from : (k : ℕ) (ls ms xs zs : List ℕ) → IsWithin ls ms xs → take k zs ≡ take k xs → drop k zs ≡ drop k ms → AreBelow xs zs
above_from k ls ms xs zs h t d n = ⊎_elim (λ p. let q = front_at k n zs xs t p in omega arith) (λ p. let q = rest_at k n zs ms d p in let w = within_at ls ms xs n h in omega arith) (cases_lt n k)

-- lists by their parts
pub take_parts : (k : ℕ) (xs ys : List ℕ) → k < length xs → k < length ys → take (suc k) xs ≡ take (suc k) ys → (take k xs ≡ take k ys) × (get_or xs k 0 ≡ get_or ys k 0)
take_parts k [] ys h l e = absurd (omega arith)
take_parts k (x ∷ xs) [] h l e = absurd (omega arith)
take_parts zero (x ∷ xs) (y ∷ ys) h l e = (refl, cc)
take_parts (suc k) (x ∷ xs) (y ∷ ys) h l e =
    let r = take_parts k xs ys (omega arith) (omega arith) (ap tail_of e) in
    let q : x ≡ y = cc in (ap₂ (λ z zs. z ∷ zs) q r.0, r.1)

pub take_join : (k : ℕ) (xs ys : List ℕ) → k < length xs → k < length ys → take k xs ≡ take k ys → get_or xs k 0 ≡ get_or ys k 0 → take (suc k) xs ≡ take (suc k) ys
take_join k [] ys h l e g = absurd (omega arith)
take_join k (x ∷ xs) [] h l e g = absurd (omega arith)
take_join zero (x ∷ xs) (y ∷ ys) h l e g = ap (λ z. z ∷ []) g
take_join (suc k) (x ∷ xs) (y ∷ ys) h l e g = let q : x ≡ y = cc in ap₂ (λ z zs. z ∷ zs) q (take_join k xs ys (omega arith) (omega arith) (ap tail_of e) g)

pub parts_same : (k : ℕ) (xs ys : List ℕ) → k < length xs → k < length ys → take k xs ≡ take k ys → get_or xs k 0 ≡ get_or ys k 0 → drop (suc k) xs ≡ drop (suc k) ys → xs ≡ ys
parts_same k [] ys h l e g d = absurd (omega arith)
parts_same k (x ∷ xs) [] h l e g d = absurd (omega arith)
parts_same zero (x ∷ xs) (y ∷ ys) h l e g d = ap₂ (λ z zs. z ∷ zs) g d
parts_same (suc k) (x ∷ xs) (y ∷ ys) h l e g d = let q : x ≡ y = cc in ap₂ (λ z zs. z ∷ zs) q (parts_same k xs ys (omega arith) (omega arith) (ap tail_of e) g d)

drop_tail : (k : ℕ) (xs : List ℕ) → drop (suc k) xs ≡ tail_of (drop k xs)
drop_tail zero [] = refl
drop_tail zero (x ∷ xs) = refl
drop_tail (suc k) [] = refl
drop_tail (suc k) (x ∷ xs) = drop_tail k xs

pub drop_more : (k : ℕ) (xs ys : List ℕ) → drop k xs ≡ drop k ys → drop (suc k) xs ≡ drop (suc k) ys
drop_more k xs ys e = drop_tail k xs ∙ ap tail_of e ∙ sym (drop_tail k ys)

pub take_set : (k v : ℕ) (xs : List ℕ) → take k (set xs k v) ≡ take k xs
take_set zero v xs = refl
take_set (suc k) v [] = refl
take_set (suc k) v (x ∷ xs) = ap (x ∷◌) (take_set k v xs)

pub drop_set : (k v : ℕ) (xs : List ℕ) → drop (suc k) (set xs k v) ≡ drop (suc k) xs
drop_set k v [] = refl
drop_set zero v (x ∷ xs) = refl
drop_set (suc k) v (x ∷ xs) = drop_set k v xs

pub get_set : (k v : ℕ) (xs : List ℕ) → k < length xs → get_or (set xs k v) k 0 ≡ v
get_set k v [] h = absurd (omega arith)
get_set zero v (x ∷ xs) h = refl
get_set (suc k) v (x ∷ xs) h = get_set k v xs (omega arith)

pub take_whole : (k : ℕ) (xs : List ℕ) → length xs ≤ k → take k xs ≡ xs
take_whole zero [] h = refl
take_whole zero (x ∷ xs) h = absurd (omega arith)
take_whole (suc k) [] h = refl
take_whole (suc k) (x ∷ xs) h = ap (x ∷◌) (take_whole k xs (omega arith))

-- the lexicographic order
pub less_self : (xs : List ℕ) → ¬ IsLess xs xs
less_self [] h = h
less_self (x ∷ xs) (inl h) = omega arith
less_self (x ∷ xs) (inr h) = less_self xs h.1

pub less_both : (xs ys : List ℕ) → IsLess xs ys → ¬ IsLess ys xs
less_both [] ys h k = h
less_both (x ∷ xs) [] h k = h
less_both (x ∷ xs) (y ∷ ys) (inl h) (inl k) = omega arith
less_both (x ∷ xs) (y ∷ ys) (inl h) (inr k) = let e = k.0 in omega arith
less_both (x ∷ xs) (y ∷ ys) (inr h) (inl k) = let e = h.0 in omega arith
less_both (x ∷ xs) (y ∷ ys) (inr h) (inr k) = less_both xs ys h.1 k.1

-- with the first k numbers the same, the next one is not greater in the lesser list
pub less_at : (k : ℕ) (xs ys : List ℕ) → IsLess xs ys → take k xs ≡ take k ys → get_or xs k 0 ≤ get_or ys k 0
less_at k [] ys h t = absurd h
less_at k (x ∷ xs) [] h t = absurd h
less_at zero (x ∷ xs) (y ∷ ys) (inl h) t = omega arith
less_at zero (x ∷ xs) (y ∷ ys) (inr h) t = let e = h.0 in omega arith
less_at (suc k) (x ∷ xs) (y ∷ ys) (inl h) t = absurd (let e : x ≡ y = cc in omega arith)
less_at (suc k) (x ∷ xs) (y ∷ ys) (inr h) t = less_at k xs ys h.1 (ap tail_of t)

pub less_from : (k : ℕ) (xs ys : List ℕ) → k < length xs → k < length ys → take k xs ≡ take k ys → get_or xs k 0 < get_or ys k 0 → IsLess xs ys
less_from k [] ys h l t g = absurd (omega arith)
less_from k (x ∷ xs) [] h l t g = absurd (omega arith)
less_from zero (x ∷ xs) (y ∷ ys) h l t g = inl g
less_from (suc k) (x ∷ xs) (y ∷ ys) h l t g = let e : x ≡ y = cc in inr (e, less_from k xs ys (omega arith) (omega arith) (ap tail_of t) g)

-- an interpretation by its shape and its numbers
append_same : (xs ys zs bs : List ℕ) → length xs ≡ length zs → xs ++ ys ≡ zs ++ bs → (xs ≡ zs) × (ys ≡ bs)
append_same [] ys [] bs l e = (refl, e)
append_same [] ys (a ∷ zs) bs l e = absurd (omega arith)
append_same (x ∷ xs) ys [] bs l e = absurd (omega arith)
append_same (x ∷ xs) ys (a ∷ zs) bs l e = let r = append_same xs ys zs bs (omega arith) (ap tail_of e) in let q : x ≡ a = cc in (ap₂ (λ z zs. z ∷ zs) q r.0, r.1)

pub same_interpretation : (i j : Interpretation) → shape_of i ≡ shape_of j → numbers_of i ≡ numbers_of j → i ≡ j
same_interpretation [] [] s e = refl
same_interpretation [] (q ∷ j) s e = absurd (cc)
same_interpretation (r ∷ i) [] s e = absurd (cc)
same_interpretation (r ∷ i) (q ∷ j) s e =
    let l : length r.1 ≡ length q.1 = cc in
    let c : r.0 ≡ q.0 = cc in
    let p = append_same r.1 (numbers_of i) q.1 (numbers_of j) l (ap tail_of e) in
    let row : r ≡ q = ap₂ (λ (x : ℕ) ys. (x, ys)) c p.0 in
    ap₂ (λ (x : ℕ × List ℕ) xs. x ∷ xs) row (same_interpretation i j (ap tail_of s) p.1)
