-- The first arrangement, block by block.
use Rattle.std.proofs.Common.{ℕ, zero, suc, ◌≡◌, ◌<◌, ◌+◌, ◌++◌, ◌⊎◌, inl, inr, ⊎_elim, List, [], ◌∷◌, length, take, drop, refl, sym, ap, ◌∙◌, subst, arith, map, filter, Bool, true, false, ◌==◌, Contains, cond, IsTrue, ap₂}
use Rattle.std.specs.Prelude.{not, ◌&&◌, ◌||◌, slice_index_or, Some, None, Option}
use Rattle.std.specs.List.{range_with_len, list_any, flat_map}
use Rattle.std.proofs.lemmas.Bool.{false≢true}
use Rattle.std.proofs.lemmas.List.{append_assoc, length-append, length-map, map-append, append-nil}
use Rattle.std.specs.Option.{option_to_list, IsSome}
use Rattle.std.proofs.lemmas.List.Elements.{filter-append, All-append, All-take, All-drop}
use Rattle.std.proofs.lemmas.Grind.{flat_map-append}
use Rattle.kb_lemmas.proofs.Numbers.{eq_turn}
use Rattle.kb_lemmas.proofs.Membership.{contains_cases, contains_behind, contains_first}
use Rattle.kb_lpo.specs.PathOrder.{IsAbove, LpoGreater}
use Rattle.kb_lpo.specs.Precedences.{arrangements, precedences}
use Rattle.kb_term.specs.First.{IsFirst}
use Rattle.kb_lpo.specs.Search.{outside, numbers, IsSearched}
use Rattle.kb_lpo.specs.Precedences.{LpoOrients}
use Rattle.kb_term.specs.Rule.{Rule}
use Rattle.kb_term.specs.declared.term.Symbol.{Symbol}

-- the arrangements of the n + 1 symbols outside that begin with x
abbrev pub block : ℕ → List ℕ → ℕ → ℕ → List (List ℕ)
block n prefix count x = map (x ∷◌) (arrangements n (filter (λ y. not (y == x)) (outside count prefix)))

-- those that begin with a symbol below y
abbrev pub tried : ℕ → List ℕ → ℕ → ℕ → List (List ℕ)
tried n prefix count y = flat_map (block n prefix count) (outside y prefix)

-- a listed number, and one that isn't
listed : (xs : List ℕ) (y : ℕ) → Contains xs y → list_any (λ z. z == y) xs ≡ true
listed [] y c = absurd (omega arith)
listed (x ∷ xs) y c = ⊎_elim (λ e. grind (arith, e)) (λ d. grind (arith, listed xs y d)) (contains_cases x xs y c)

unlisted : (xs : List ℕ) (y : ℕ) → ¬ Contains xs y → list_any (λ z. z == y) xs ≡ false
unlisted [] y n = refl
unlisted (x ∷ xs) y n =
    let h = unlisted xs y (λ c. n (contains_behind x xs y c)) in
    let d : ¬ (x ≡ y) = λ e. n (subst (Contains (x ∷ xs)) e (contains_first x xs)) in
    grind (arith, h, d)

-- in the precedence that goes on with x, x is above what isn't yet listed
pub above_rest : (xs rest : List ℕ) (x g : ℕ) → ¬ Contains xs x → ¬ Contains xs g → ¬ (x ≡ g) → IsAbove (xs ++ x ∷ rest) x g
above_rest [] rest x g a b d = grind (arith, d)
above_rest (y ∷ xs) rest x g a b d =
    let h = above_rest xs rest x g (λ c. a (contains_behind y xs x c)) (λ c. b (contains_behind y xs g c)) d in
    let e : ¬ (y ≡ x) = λ q. a (subst (Contains (y ∷ xs)) q (contains_first y xs)) in
    let f : ¬ (y ≡ g) = λ q. b (subst (Contains (y ∷ xs)) q (contains_first y xs)) in
    grind (arith, h, e, f)

-- numbers in a row
range_more : (a n : ℕ) → range_with_len a (n + 1) ≡ range_with_len a n ++ (a + n) ∷ []
range_more a zero = let e : a ≡ a + 0 = omega arith in ap (λ z. z ∷ []) e
range_more a (suc n) = let e : a + 1 + n ≡ a + suc n = omega arith in let q : suc n + 1 ≡ suc (n + 1) = omega arith in ap (range_with_len a) q ∙ ap (a ∷◌) (range_more (a + 1) n ∙ ap (λ z. range_with_len (a + 1) n ++ z ∷ []) e)

pub range_split : (a n m : ℕ) → n < m → (rest : List ℕ) × range_with_len a m ≡ range_with_len a n ++ (a + n) ∷ rest
range_split a n zero h = absurd (omega arith)
range_split a zero (suc m) h = (range_with_len (a + 1) m, let e : a ≡ a + 0 = omega arith in ap (λ z. z ∷ range_with_len (a + 1) m) e)
range_split a (suc n) (suc m) h = let r = range_split (a + 1) n m (omega arith) in let e : a + 1 + n ≡ a + suc n = omega arith in (r.0, ap (a ∷◌) (r.1 ∙ ap (λ z. range_with_len (a + 1) n ++ z ∷ r.0) e))

abbrev pub test : List ℕ → ℕ → Bool
test xs = λ y. not (list_any (λ z. z == y) xs)

drop_one : (p : ℕ → Bool) (y : ℕ) (rest : List ℕ) → p y ≡ false → filter p (y ∷ rest) ≡ filter p rest
drop_one p y rest e = ap (λ b. cond b (y ∷ filter p rest) (filter p rest)) e

keep_one : (p : ℕ → Bool) (y : ℕ) (rest : List ℕ) → p y ≡ true → filter p (y ∷ rest) ≡ y ∷ filter p rest
keep_one p y rest e = ap (λ b. cond b (y ∷ filter p rest) (filter p rest)) e

outside_more : (xs : List ℕ) (y : ℕ) → outside (y + 1) xs ≡ outside y xs ++ filter (test xs) (y ∷ [])
outside_more xs y = let e : 0 + y ≡ y = omega arith in ap (filter (test xs)) (range_more 0 y ∙ ap (λ z. range_with_len 0 y ++ z ∷ []) e) ∙ filter-append (test xs) (range_with_len 0 y) (y ∷ [])

tried_more : (n : ℕ) (xs : List ℕ) (count y : ℕ) (zs : List ℕ) → filter (test xs) (y ∷ []) ≡ zs → tried n xs count (y + 1) ≡ tried n xs count y ++ flat_map (block n xs count) zs
tried_more n xs count y zs e = ap (flat_map (block n xs count)) (outside_more xs y ∙ ap (λ z. outside y xs ++ z) e) ∙ flat_map-append (block n xs count) (outside y xs) zs

-- one more number outside, or not
pub tried_listed : (n : ℕ) (xs : List ℕ) (count y : ℕ) → Contains xs y → tried n xs count (y + 1) ≡ tried n xs count y
tried_listed n xs count y c = tried_more n xs count y [] (drop_one (test xs) y [] (ap not (listed xs y c))) ∙ append-nil (tried n xs count y)

pub tried_unlisted : (n : ℕ) (xs : List ℕ) (count y : ℕ) → ¬ Contains xs y → tried n xs count (y + 1) ≡ tried n xs count y ++ block n xs count y
tried_unlisted n xs count y c = tried_more n xs count y (y ∷ []) (keep_one (test xs) y [] (ap not (unlisted xs y c))) ∙ ap (λ z. tried n xs count y ++ z) (append-nil (block n xs count y))

-- all blocks: those before y, that of y, and more
pub all_blocks : (n : ℕ) (xs : List ℕ) (count y : ℕ) → y < count → ¬ Contains xs y → (more : List (List ℕ)) × arrangements (suc n) (outside count xs) ≡ tried n xs count y ++ (block n xs count y ++ more)
all_blocks n xs count y h c =
    let r = range_split 0 y count h in
    let zero_plus : 0 + y ≡ y = omega arith in
    let e : outside count xs ≡ outside y xs ++ y ∷ filter (test xs) r.0 = ap (filter (test xs)) (r.1 ∙ ap (λ z. range_with_len 0 y ++ z ∷ r.0) zero_plus) ∙ filter-append (test xs) (range_with_len 0 y) (y ∷ r.0) ∙ ap (λ z. outside y xs ++ z) (keep_one (test xs) y r.0 (ap not (unlisted xs y c))) in
    (flat_map (block n xs count) (filter (test xs) r.0), ap (flat_map (block n xs count)) e ∙ flat_map-append (block n xs count) (outside y xs) (y ∷ filter (test xs) r.0))

-- dropping x from what is outside
any_append : (xs : List ℕ) (x y : ℕ) → list_any (λ z. z == y) (xs ++ x ∷ []) ≡ (list_any (λ z. z == y) xs || (x == y))
any_append [] x y = grind arith
any_append (z ∷ xs) x y = grind (arith, any_append xs x y)

not_or : (a b c : Bool) → b ≡ c → not (a || b) ≡ (not a && not c)
not_or true b c e = refl
not_or false b c e = ap not e

filter_both : (p q r : ℕ → Bool) → ((y : ℕ) → r y ≡ (p y && q y)) → (ys : List ℕ) → filter q (filter p ys) ≡ filter r ys
filter_both p q r h [] = refl
filter_both p q r h (y ∷ ys) = go (p y) (q y) refl refl (h y) (filter_both p q r h ys)
  where
    go : (a b : Bool) → p y ≡ a → q y ≡ b → r y ≡ (p y && q y) → filter q (filter p ys) ≡ filter r ys → filter q (filter p (y ∷ ys)) ≡ filter r (y ∷ ys)
    go false b e f k m = ap (filter q) (drop_one p y ys e) ∙ m ∙ sym (drop_one r y ys (k ∙ ap (λ z. z && q y) e))
    go true false e f k m = ap (filter q) (keep_one p y ys e) ∙ drop_one q y (filter p ys) f ∙ m ∙ sym (drop_one r y ys (k ∙ ap (λ z. z && q y) e ∙ f))
    go true true e f k m = ap (filter q) (keep_one p y ys e) ∙ keep_one q y (filter p ys) f ∙ ap (y ∷◌) m ∙ sym (keep_one r y ys (k ∙ ap (λ z. z && q y) e ∙ f))

pub outside_next : (xs : List ℕ) (count x : ℕ) → filter (λ y. not (y == x)) (outside count xs) ≡ outside count (xs ++ x ∷ [])
outside_next xs count x = filter_both (test xs) (λ y. not (y == x)) (test (xs ++ x ∷ [])) (λ y. ap not (any_append xs x y) ∙ not_or (list_any (λ z. z == y) xs) (x == y) (y == x) (eq_turn x y)) (range_with_len 0 count)

-- firsts of joined and of mapped lists
none_map : {X Y : Type 0} (Q : Y → Type 0) (f : X → Y) (xs : List X) → IsFirst (λ x. Q (f x)) xs None → IsFirst Q (map f xs) None
none_map Q f [] h k d i = absurd (omega arith)
none_map Q f (x ∷ xs) h zero d i = h 0 x (omega arith)
none_map Q f (x ∷ xs) h (suc k) d i = none_map Q f xs (λ j e q. h (suc j) e (omega arith)) k d (omega arith)

some_map : {X Y : Type 0} (Q : Y → Type 0) (f : X → Y) (xs : List X) (x : X) → IsFirst (λ x. Q (f x)) xs (Some x) → IsFirst Q (map f xs) (Some (f x))
some_map Q f xs x (h, before, after, e, n) = (h, map f before, map f after, ap (map f) e ∙ map-append f before (x ∷ after), none_map Q f before n)

pub none_append : {X : Type 0} (Q : X → Type 0) (xs ys : List X) → IsFirst Q xs None → IsFirst Q ys None → IsFirst Q (xs ++ ys) None
none_append Q xs ys h k = All-append (λ y. ¬ Q y) xs ys h k

some_append : {X : Type 0} (Q : X → Type 0) (xs ys zs : List X) (y : X) → IsFirst Q xs None → IsFirst Q ys (Some y) → IsFirst Q (xs ++ (ys ++ zs)) (Some y)
some_append Q xs ys zs y n (h, before, after, e, m) =
    (h, xs ++ before, after ++ zs, ap (λ z. xs ++ (z ++ zs)) e ∙ ap (λ z. xs ++ z) (append_assoc before (y ∷ after) zs) ∙ sym (append_assoc xs before (y ∷ (after ++ zs))), none_append Q xs before n m)

-- the block of x holds none, or its first, where the arrangements behind the longer prefix do
next_block : (n : ℕ) (xs : List ℕ) (count x : ℕ) (Q : List ℕ → Type 0) (o : Option (List ℕ)) → IsFirst (λ r. Q ((xs ++ x ∷ []) ++ r)) (arrangements n (outside count (xs ++ x ∷ []))) o → IsFirst (λ r. Q (xs ++ x ∷ r)) (arrangements n (filter (λ y. not (y == x)) (outside count xs))) o
next_block n xs count x Q o h =
    let a = subst (λ ys. IsFirst (λ r. Q ((xs ++ x ∷ []) ++ r)) (arrangements n ys) o) (sym (outside_next xs count x)) h in
    moved (arrangements n (filter (λ y. not (y == x)) (outside count xs))) o a
  where
    moved : (ys : List (List ℕ)) (o : Option (List ℕ)) → IsFirst (λ r. Q ((xs ++ x ∷ []) ++ r)) ys o → IsFirst (λ r. Q (xs ++ x ∷ r)) ys o
    moved ys None h = λ k d i q. h k d i (subst Q (sym (append_assoc xs (x ∷ []) (slice_index_or ys k d))) q)
    moved ys (Some r) (h, before, after, e, m) = (subst Q (append_assoc xs (x ∷ []) r) h, before, after, e, λ k d i q. m k d i (subst Q (sym (append_assoc xs (x ∷ []) (slice_index_or before k d))) q))

pub none_block : (n : ℕ) (xs : List ℕ) (count x : ℕ) (Q : List ℕ → Type 0) → IsFirst (λ r. Q ((xs ++ x ∷ []) ++ r)) (arrangements n (outside count (xs ++ x ∷ []))) None → IsFirst (λ r. Q (xs ++ r)) (block n xs count x) None
none_block n xs count x Q h = none_map (λ r. Q (xs ++ r)) (x ∷◌) (arrangements n (filter (λ y. not (y == x)) (outside count xs))) (next_block n xs count x Q None h)

-- the first one is found
pub found : (n : ℕ) (xs : List ℕ) (count x : ℕ) (Q : List ℕ → Type 0) (r : List ℕ) → x < count → ¬ Contains xs x → IsFirst (λ r. Q (xs ++ r)) (tried n xs count x) None
    → IsFirst (λ r. Q ((xs ++ x ∷ []) ++ r)) (arrangements n (outside count (xs ++ x ∷ []))) (Some r) → IsFirst (λ r. Q (xs ++ r)) (arrangements (suc n) (outside count xs)) (Some (x ∷ r))
found n xs count x Q r h c t s =
    let b = some_map (λ r. Q (xs ++ r)) (x ∷◌) (arrangements n (filter (λ y. not (y == x)) (outside count xs))) r (next_block n xs count x Q (Some r) s) in
    let a = all_blocks n xs count x h c in
    subst (λ z. IsFirst (λ r. Q (xs ++ r)) z (Some (x ∷ r))) (sym a.1) (some_append (λ r. Q (xs ++ r)) (tried n xs count x) (block n xs count x) a.0 (x ∷ r) t b)

-- no arrangement of the block, where none fits
pub none_where : (n : ℕ) (xs : List ℕ) (count x : ℕ) (Q : List ℕ → Type 0) → ((r : List ℕ) → ¬ Q (xs ++ x ∷ r)) → IsFirst (λ r. Q (xs ++ r)) (block n xs count x) None
none_where n xs count x Q h = none_map (λ r. Q (xs ++ r)) (x ∷◌) (arrangements n (filter (λ y. not (y == x)) (outside count xs))) (λ k d i q. h _ q)

-- a symbol that stands nowhere isn't listed
pub not_listed : (xs : List Symbol) (x : ℕ) → ((k : ℕ) (d : Symbol) → k < length xs → ¬ ((slice_index_or xs k d).0 ≡ x)) → ¬ Contains (numbers xs) x
not_listed [] x h c = absurd (omega arith)
not_listed (y ∷ ys) x h c = ⊎_elim (λ e. h 0 y (omega arith) e) (λ d. not_listed ys x (λ k e q. h (suc k) e (omega arith)) d) (contains_cases y.0 (numbers ys) x c)

none_one : (Q : List ℕ → Type 0) → ¬ Q [] → IsFirst Q ([] ∷ []) None
none_one Q h zero d i q = h q
none_one Q h (suc k) d i q = omega arith

-- with no symbol left, the prefix is the only candidate
pub leaf : (rules : List Rule) (count left : ℕ) (xs : List ℕ) (b : Bool) → left ≡ 0 → (IsTrue b → LpoOrients xs rules) × (LpoOrients xs rules → IsTrue b) → IsSearched rules count left xs xs b
leaf rules count left xs true e h =
    let o : LpoOrients (xs ++ []) rules = subst (λ z. LpoOrients z rules) (sym (append-nil xs)) (h.0 refl) in
    ([], sym (append-nil xs), subst (λ n. IsFirst (λ r. LpoOrients (xs ++ r) rules) (arrangements n (outside count xs)) (Some [])) (sym e) (o, [], [], refl, λ k d i. absurd (omega arith)))
leaf rules count left xs false e h =
    (refl, subst (λ n. IsFirst (λ r. LpoOrients (xs ++ r) rules) (arrangements n (outside count xs)) None) (sym e) (none_one (λ r. LpoOrients (xs ++ r) rules) (λ o. false≢true (h.1 (subst (λ z. LpoOrients z rules) (append-nil xs) o)))))

pub numbers_push : (xs : List Symbol) (y : Symbol) → numbers (xs ++ y ∷ []) ≡ numbers xs ++ y.0 ∷ []
numbers_push xs y = map-append (λ (f : Symbol). f.0) xs (y ∷ [])

-- what the search behind one more symbol found
pub found_next : (rules : List Rule) (count n left y : ℕ) (xs ys now : List ℕ) → suc n ≡ left → ys ≡ xs ++ y ∷ [] → y < count → ¬ Contains xs y
    → IsFirst (λ r. LpoOrients (xs ++ r) rules) (tried n xs count y) None → IsSearched rules count n ys now true → IsSearched rules count left xs now true
found_next rules count n left y xs ys now e d h c t s =
    let first = subst (λ zs. IsFirst (λ r. LpoOrients (zs ++ r) rules) (arrangements n (outside count zs)) (Some s.0)) d s.2 in
    (y ∷ s.0, s.1 ∙ ap (λ z. z ++ s.0) d ∙ append_assoc xs (y ∷ []) s.0, subst (λ m. IsFirst (λ r. LpoOrients (xs ++ r) rules) (arrangements m (outside count xs)) (Some (y ∷ s.0))) e (found n xs count y (λ z. LpoOrients z rules) s.0 h c t first))

pub none_next : (rules : List Rule) (count n y : ℕ) (xs ys now : List ℕ) → ys ≡ xs ++ y ∷ [] → ¬ Contains xs y
    → IsFirst (λ r. LpoOrients (xs ++ r) rules) (tried n xs count y) None → IsSearched rules count n ys now false → IsFirst (λ r. LpoOrients (xs ++ r) rules) (tried n xs count (y + 1)) None
none_next rules count n y xs ys now d c t s =
    let first = subst (λ zs. IsFirst (λ r. LpoOrients (zs ++ r) rules) (arrangements n (outside count zs)) None) d s.1 in
    subst (λ z. IsFirst (λ r. LpoOrients (xs ++ r) rules) z None) (sym (tried_unlisted n xs count y c)) (none_append (λ r. LpoOrients (xs ++ r) rules) (tried n xs count y) (block n xs count y) t (none_block n xs count y (λ z. LpoOrients z rules) first))

-- a symbol that is listed, or with which none orients the rules
pub none_refused : (rules : List Rule) (count n y : ℕ) (xs : List ℕ) → Contains xs y ⊎ (Contains xs y → ⊥) → ((r : List ℕ) → ¬ Contains xs y → ¬ LpoOrients (xs ++ y ∷ r) rules)
    → IsFirst (λ r. LpoOrients (xs ++ r) rules) (tried n xs count y) None → IsFirst (λ r. LpoOrients (xs ++ r) rules) (tried n xs count (y + 1)) None
none_refused rules count n y xs (inl c) h t = subst (λ z. IsFirst (λ r. LpoOrients (xs ++ r) rules) z None) (sym (tried_listed n xs count y c)) t
none_refused rules count n y xs (inr c) h t =
    subst (λ z. IsFirst (λ r. LpoOrients (xs ++ r) rules) z None) (sym (tried_unlisted n xs count y c)) (none_append (λ r. LpoOrients (xs ++ r) rules) (tried n xs count y) (block n xs count y) t (none_where n xs count y (λ z. LpoOrients z rules) (λ r. h r c)))

pub outside_all : (ys : List ℕ) → filter (test []) ys ≡ ys
outside_all [] = refl
outside_all (y ∷ ys) = ap (y ∷◌) (outside_all ys)

-- the search from the start
pub whole_found : (rules : List Rule) (count : ℕ) (start now : List ℕ) → start ≡ [] → IsSearched rules count count start now true → IsFirst (λ prec. LpoOrients prec rules) (precedences count) (Some now)
whole_found rules count start now e s =
    let r = subst (λ z. IsSearched rules count count z now true) e s in
    let f = subst (λ xs. IsFirst (λ prec. LpoOrients prec rules) (arrangements count xs) (Some r.0)) (outside_all (range_with_len 0 count)) r.2 in
    subst (λ z. IsFirst (λ prec. LpoOrients prec rules) (precedences count) (Some z)) (sym r.1) f

pub whole_none : (rules : List Rule) (count : ℕ) (start now : List ℕ) → start ≡ [] → IsSearched rules count count start now false → IsFirst (λ prec. LpoOrients prec rules) (precedences count) None
whole_none rules count start now e s =
    let r = subst (λ z. IsSearched rules count count z now false) e s in
    subst (λ xs. IsFirst (λ prec. LpoOrients prec rules) (arrangements count xs) None) (outside_all (range_with_len 0 count)) r.1

pub snoc_inj : (xs ys : List ℕ) (x y : ℕ) → xs ++ x ∷ [] ≡ ys ++ y ∷ [] → xs ≡ ys
snoc_inj [] [] x y e = refl
snoc_inj [] (b ∷ ys) x y e = absurd (let l = length-append ys (y ∷ []) in let q : length ([] ++ x ∷ []) ≡ length (b ∷ (ys ++ y ∷ [])) = ap length e in omega (arith, l, q))
snoc_inj (a ∷ xs) [] x y e = absurd (let l = length-append xs (x ∷ []) in let q : length (a ∷ (xs ++ x ∷ [])) ≡ length ([] ++ y ∷ []) = ap length e in omega (arith, l, q))
snoc_inj (a ∷ xs) (b ∷ ys) x y e = let h = snoc_inj xs ys x y (ap tail e) in let k : a ≡ b = cc in ap₂ (λ z zs. z ∷ zs) k h
  where
    tail : List ℕ → List ℕ
    tail [] = []
    tail (z ∷ zs) = zs

-- without its last symbol the list is as before
pub popped : (xs : List ℕ) (y : ℕ) (old new : List Symbol) (o : Option Symbol) → numbers old ≡ xs ++ y ∷ [] → old ≡ new ++ option_to_list o → (0 < length old → IsSome o) → numbers new ≡ xs
popped xs y old new (Some f) e d v = snoc_inj (numbers new) xs f.0 y (sym (numbers_push new f) ∙ ap numbers (sym d) ∙ e)
popped xs y old new None e d v = absurd (false≢true (v (let l = length-append xs (y ∷ []) in let m = length-map old (λ (f : Symbol). f.0) in let q = ap length e in omega (arith, l, m, q))))

-- what orients all rules orients those from a place on
pub orients_rest : (prec : List ℕ) (rules : List Rule) (place n : ℕ) → LpoOrients prec rules → LpoOrients prec (take n (drop place rules))
orients_rest prec rules place n o =
    let P : Rule → Type 0 = λ rule. LpoGreater prec rule.left rule.right in
    All-take P n (drop place rules) (All-drop P place rules o)
