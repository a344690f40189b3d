-- A name packed into words: its bits, the step of one bit more, and the order of names as the order of words.
use Rattle.std.proofs.Common.{Some, ◌≡◌, ℕ, ◌+◌, ◌-◌, ◌*◌, ◌/◌, ◌%◌, ◌^◌, ◌<◌, ◌≤◌, Bool, true, false, List, [], ◌∷◌, ◌++◌, length, drop, set, get_or, zero, suc, refl, sym, ap, ap₂, subst, ◌∙◌, inl, inr, arith, length-append, length-drop, length-set, eqb}
use Rattle.std.proofs.lemmas.Nat.{pow_pos, pow-add, shr_high, shr_le}
use Rattle.std.proofs.Math.Nat.{pow-suc, add-mul-div_right}
use Rattle.std.proofs.lemmas.List.{get_or-drop, drop-drop, drop-append-le, drop_all, ext_get_or, get_or-set_same, get_or-set_other}
use Rattle.std.specs.List.{slice_get}
use Rattle.std.proofs.lemmas.Option.{slice_get-get_or}
use Rattle.std.proofs.lemmas.Bool.{cases_order}
use Rattle.std.proofs.lemmas.List.FromFn.{fill_by_all}
use Rattle.std.specs.declared.cmp.Ordering.{Ordering}
use Rattle.std.specs.declared.cmp.Ordering.TheVariants.{Less, Equal, Greater}
use Rattle.std.specs.Ordering.{MatchOrdering, ordering_then, nat_cmp, bool_cmp}
use Rattle.std.proofs.lemmas.Cmp.{ranked}
use Rattle.std.specs.Cmp.Lexicographic.{slice_cmp}
use Rattle.std.specs.Cmp.{nat_cmp_is}
use Rattle.kb_label.specs.Names.{Name, name_cmp, bits_cmp}
use Rattle.kb_label.specs.Packed.{digit, bit_at, name_in, word, words_of}

-- ---- one word

digit_below : (b : Bool) → digit b ≤ 1
digit_below true = omega arith
digit_below false = omega arith

digit_bit : (b : Bool) → eqb (digit b % 2) 1 ≡ b
digit_bit true = refl
digit_bit false = refl

scaled : (b : Bool) (n : ℕ) → digit b * n ≤ n
scaled true n = omega arith
scaled false n = omega arith

pub word_below : (k : ℕ) (p : Name) → word k p < 2 ^ k
unfolding word
word_below zero p = pow_pos 0
word_below (suc k) [] = pow_pos (suc k)
word_below (suc k) (b ∷ p) = let h = word_below k p in omega (arith, h, scaled b (2 ^ k), pow-suc 2 k)

zero_shifted : (k : ℕ) → (0 / 2 ^ k) % 2 ≡ 0
zero_shifted k = let e : 0 / 2 ^ k ≡ 0 = omega (arith, shr_le 0 k) in rw e refl

-- a bit above the one that is read is not seen
under : (b : Bool) (k e w : ℕ) → e < k → ((digit b * 2 ^ k + w) / 2 ^ e) % 2 ≡ (w / 2 ^ e) % 2
under b k e w h =
    let d = k - (e + 1) in
    let split : k ≡ suc d + e = omega arith in
    let power : 2 ^ k ≡ (2 ^ d * 2) * 2 ^ e = ap (λ n. 2 ^ n) split ∙ pow-add 2 (suc d) e ∙ ap (λ n. n * 2 ^ e) (pow-suc 2 d) in
    let moved : digit b * 2 ^ k + w ≡ w + (digit b * 2 ^ d * 2) * 2 ^ e = omega (arith, ap (λ n. digit b * n) power) in
    let quotient : (digit b * 2 ^ k + w) / 2 ^ e ≡ w / 2 ^ e + digit b * 2 ^ d * 2 = ap (λ n. n / 2 ^ e) moved ∙ add-mul-div_right w (digit b * 2 ^ d * 2) (pow_pos e) in
    let q = w / 2 ^ e in
    let x = digit b * 2 ^ d in
    ap (λ n. n % 2) quotient ∙ omega arith

-- bit r of a word is bit r of the name, 0 after its end
pub bit_of_word : (k r : ℕ) (p : Name) → r < k → (word k p / 2 ^ (k - 1 - r)) % 2 ≡ digit (get_or p r false) % 2
unfolding word
bit_of_word zero r p h = absurd (omega arith)
bit_of_word (suc k) r [] h = zero_shifted (suc k - 1 - r)
bit_of_word (suc k) zero (b ∷ p) h =
    let e : suc k - 1 - 0 ≡ k = omega arith in
    ap (λ n. ((digit b * 2 ^ k + word k p) / 2 ^ n) % 2) e ∙ ap (λ n. n % 2) (shr_high (digit b) k (word k p) (word_below k p))
bit_of_word (suc k) (suc r) (b ∷ p) h =
    let e : suc k - 1 - suc r ≡ k - 1 - r = omega arith in
    let less : k - 1 - r < k = omega arith in
    ap (λ n. ((digit b * 2 ^ k + word k p) / 2 ^ n) % 2) e ∙ under b k (k - 1 - r) (word k p) less ∙ bit_of_word k r p (omega arith)

word_none : (k : ℕ) → word k [] ≡ 0
unfolding word
word_none zero = refl
word_none (suc k) = refl

-- one bit more in a word that has room
pub word_push : (k : ℕ) (p : Name) (b : Bool) → length p < k → word k (p ++ b ∷ []) ≡ word k p + digit b * 2 ^ (k - 1 - length p)
unfolding word
word_push zero p b h = absurd (omega arith)
word_push (suc k) [] b h =
    let e : suc k - 1 - 0 ≡ k = omega arith in
    let none : word k [] ≡ 0 = word_none k in
    rw (e, none) (omega arith)
word_push (suc k) (c ∷ p) b h =
    let e : suc k - 1 - suc (length p) ≡ k - 1 - length p = omega arith in
    let ih = word_push k p b (omega arith) in
    rw (ih, e) (omega arith)

-- a full word stays
pub word_full : (k : ℕ) (p : Name) (b : Bool) → k ≤ length p → word k (p ++ b ∷ []) ≡ word k p
unfolding word
word_full zero p b h = refl
word_full (suc k) [] b h = absurd (omega arith)
word_full (suc k) (c ∷ p) b h = ap (λ n. digit c * 2 ^ k + n) (word_full k p b (omega arith))

-- ---- all words

pub length-words_of : (n : ℕ) (p : Name) → length (words_of n p) ≡ n
unfolding words_of
length-words_of zero p = refl
length-words_of (suc n) p = ap suc (length-words_of n (drop 64 p))

get_or-words_of : (n j : ℕ) (p : Name) → j < n → get_or (words_of n p) j 0 ≡ word 64 (drop (64 * j) p)
unfolding words_of
get_or-words_of zero j p h = absurd (omega arith)
get_or-words_of (suc n) zero p h = refl
get_or-words_of (suc n) (suc j) p h =
    let e : 64 + 64 * j ≡ 64 * suc j = omega arith in
    get_or-words_of n j (drop 64 p) (omega arith) ∙ ap (word 64) (drop-drop (64 * j) 64 p) ∙ ap (λ i. word 64 (drop i p)) e

-- the words hold the bits of the name, and 0 after its end
bit_at-words_of : (n i : ℕ) (p : Name) → i < 64 * n → bit_at (words_of n p) i ≡ get_or p i false
unfolding bit_at
bit_at-words_of n i p h =
    let j = i / 64 in
    let r = i % 64 in
    let below : r < 64 = omega arith in
    let place : 64 * j + r ≡ i = omega arith in
    ap (λ w. eqb ((w / 2 ^ (63 - r)) % 2) 1) (get_or-words_of n j p (omega arith))
    ∙ ap (λ d. eqb d 1) (bit_of_word 64 r (drop (64 * j) p) below)
    ∙ digit_bit (get_or (drop (64 * j) p) r false)
    ∙ get_or-drop (64 * j) p r false
    ∙ ap (λ k. get_or p k false) place

-- a packed name is read back
pub name_in-words_of : (n : ℕ) (p : Name) → length p ≤ 64 * n → name_in (words_of n p) (length p) ≡ p
unfolding name_in
name_in-words_of n p h =
    sym (fill_by_all (bit_at (words_of n p)) p (length p) false refl (λ k l. sym (bit_at-words_of n k p (omega arith))))

drop_push : (j : ℕ) (p : Name) (b : Bool) → length p < j → drop j (p ++ b ∷ []) ≡ drop j p
drop_push j p b h =
    drop_all j (p ++ b ∷ []) (omega (arith, length-append p (b ∷ []))) ∙ sym (drop_all j p (omega arith))

-- one bit more changes the one word where it stands
pub words_of_push : (n : ℕ) (p : Name) (b : Bool) → length p < 64 * n
    → words_of n (p ++ b ∷ []) ≡ set (words_of n p) (length p / 64) (get_or (words_of n p) (length p / 64) 0 + digit b * 2 ^ (63 - length p % 64))
words_of_push n p b h =
    let q = length p / 64 in
    let r = length p % 64 in
    let more = get_or (words_of n p) q 0 + digit b * 2 ^ (63 - r) in
    let inside : q < n = omega arith in
    let there : q < length (words_of n p) = omega (arith, length-words_of n p) in
    ext_get_or 0 (words_of n (p ++ b ∷ [])) (set (words_of n p) q more)
    (length-words_of n (p ++ b ∷ []) ∙ sym (length-words_of n p) ∙ sym (length-set (words_of n p) q more))
    (λ k l.
    let within : k < n = omega (arith, length-words_of n (p ++ b ∷ [])) in
    elim (cases_order k q) [
      | inl same ↦
          let long : length (drop (64 * q) p) ≡ r = length-drop (64 * q) p ∙ omega arith in
          let little : r < 64 = omega arith in
          ap (λ j. get_or (words_of n (p ++ b ∷ [])) j 0) same
          ∙ get_or-words_of n q (p ++ b ∷ []) inside
          ∙ ap (word 64) (drop-append-le (64 * q) p (b ∷ []) (omega arith))
          ∙ word_push 64 (drop (64 * q) p) b (omega (arith, long))
          ∙ ap (λ j. word 64 (drop (64 * q) p) + digit b * 2 ^ (63 - j)) long
          ∙ ap (λ w. w + digit b * 2 ^ (63 - r)) (sym (get_or-words_of n q p inside))
          ∙ sym (get_or-set_same (words_of n p) q more 0 there)
          ∙ ap (λ j. get_or (set (words_of n p) q more) j 0) (sym same)
      | inr (inl less) ↦
          get_or-words_of n k (p ++ b ∷ []) within
          ∙ ap (word 64) (drop-append-le (64 * k) p (b ∷ []) (omega arith))
          ∙ word_full 64 (drop (64 * k) p) b (omega (arith, length-drop (64 * k) p))
          ∙ sym (get_or-words_of n k p within)
          ∙ sym (get_or-set_other (words_of n p) q k more 0 (omega arith))
      | inr (inr greater) ↦
          get_or-words_of n k (p ++ b ∷ []) within
          ∙ ap (word 64) (drop_push (64 * k) p b (omega arith))
          ∙ sym (get_or-words_of n k p within)
          ∙ sym (get_or-set_other (words_of n p) q k more 0 (omega arith))
    ])

-- ---- the order

at_both : (a x y : ℕ) (o : Ordering) → MatchOrdering o (x < y) (x ≡ y) (y < x) → MatchOrdering o (a + x < a + y) (a + x ≡ a + y) (a + y < a + x)
at_both a x y Less h = omega arith
at_both a x y Equal h = ap (λ n. a + n) h
at_both a x y Greater h = omega arith

shifted : (a x y : ℕ) → nat_cmp (a + x) (a + y) ≡ nat_cmp x y
shifted a x y = sym (nat_cmp_is (a + x) (a + y) (nat_cmp x y) (at_both a x y (nat_cmp x y) (ranked x y (nat_cmp x y) refl)))

-- the higher bit decides, else the lower ones
higher : (b c : Bool) (n x y : ℕ) → x < n → y < n → nat_cmp (digit b * n + x) (digit c * n + y) ≡ ordering_then (bool_cmp b c) (nat_cmp x y)
higher true true n x y h g = shifted (1 * n) x y
higher true false n x y h g = let less : 0 * n + y < 1 * n + x = omega arith in sym (nat_cmp_is (1 * n + x) (0 * n + y) Greater less)
higher false true n x y h g = let less : 0 * n + x < 1 * n + y = omega arith in sym (nat_cmp_is (0 * n + x) (1 * n + y) Less less)
higher false false n x y h g = shifted (0 * n) x y

then_assoc : (a b c : Ordering) → ordering_then (ordering_then a b) c ≡ ordering_then a (ordering_then b c)
then_assoc Less b c = refl
then_assoc Equal b c = refl
then_assoc Greater b c = refl

-- the first k bits are compared as their words are
word_cmp : (k : ℕ) (p q : Name) → length p ≡ length q → ordering_then (nat_cmp (word k p) (word k q)) (slice_cmp bool_cmp (drop k p) (drop k q)) ≡ slice_cmp bool_cmp p q
unfolding word
word_cmp zero p q h = refl
word_cmp (suc k) [] [] h = refl
word_cmp (suc k) [] (c ∷ q) h = absurd (omega arith)
word_cmp (suc k) (b ∷ p) [] h = absurd (omega arith)
word_cmp (suc k) (b ∷ p) (c ∷ q) h =
    ap (λ o. ordering_then o (slice_cmp bool_cmp (drop k p) (drop k q))) (higher b c (2 ^ k) (word k p) (word k q) (word_below k p) (word_below k q))
    ∙ then_assoc (bool_cmp b c) (nat_cmp (word k p) (word k q)) (slice_cmp bool_cmp (drop k p) (drop k q))
    ∙ ap (ordering_then (bool_cmp b c)) (word_cmp k p q (omega arith))

-- names of one length are compared as their words are
pub words_of_cmp : (n : ℕ) (p q : Name) → length p ≡ length q → length p ≤ 64 * n → slice_cmp nat_cmp (words_of n p) (words_of n q) ≡ slice_cmp bool_cmp p q
unfolding words_of
words_of_cmp zero [] [] h l = refl
words_of_cmp zero [] (c ∷ q) h l = absurd (omega arith)
words_of_cmp zero (b ∷ p) q h l = absurd (omega arith)
words_of_cmp (suc n) p q h l =
    ap (ordering_then (nat_cmp (word 64 p) (word 64 q))) (words_of_cmp n (drop 64 p) (drop 64 q) (length-drop 64 p ∙ ap (λ j. j - 64) h ∙ sym (length-drop 64 q)) (omega (arith, length-drop 64 p)))
    ∙ word_cmp 64 p q h

-- ---- a name kept in place

module _ (words : List ℕ) (len : ℕ) (e : words ≡ words_of 16 (name_in words len)) (k : length (name_in words len) ≡ len) (room : len < 1023) (b : Bool) where
  longer : length (name_in words len ++ b ∷ []) ≡ len + 1
  longer = length-append (name_in words len) (b ∷ []) ∙ ap (λ j. j + 1) k

  more_words : set words (len / 64) (get_or words (len / 64) 0 + digit b * 2 ^ (63 - len % 64)) ≡ words_of 16 (name_in words len ++ b ∷ [])
  more_words =
      ap (λ ws. set ws (len / 64) (get_or ws (len / 64) 0 + digit b * 2 ^ (63 - len % 64))) e
      ∙ ap (λ n. set (words_of 16 (name_in words len)) (n / 64) (get_or (words_of 16 (name_in words len)) (n / 64) 0 + digit b * 2 ^ (63 - n % 64))) (sym k)
      ∙ sym (words_of_push 16 (name_in words len) b (omega arith))

  -- the name with one bit more
  pub one_more : name_in (set words (len / 64) (get_or words (len / 64) 0 + digit b * 2 ^ (63 - len % 64))) (len + 1) ≡ name_in words len ++ b ∷ []
  one_more =
      ap (λ ws. name_in ws (len + 1)) more_words
      ∙ ap (name_in (words_of 16 (name_in words len ++ b ∷ []))) (sym longer)
      ∙ name_in-words_of 16 (name_in words len ++ b ∷ []) (omega (arith, longer))

  pub one_more_packed : set words (len / 64) (get_or words (len / 64) 0 + digit b * 2 ^ (63 - len % 64)) ≡ words_of 16 (name_in (set words (len / 64) (get_or words (len / 64) 0 + digit b * 2 ^ (63 - len % 64))) (len + 1))
  one_more_packed = more_words ∙ ap (words_of 16) (sym one_more)

  pub one_more_long : length (name_in (set words (len / 64) (get_or words (len / 64) 0 + digit b * 2 ^ (63 - len % 64))) (len + 1)) ≡ len + 1
  one_more_long = ap length one_more ∙ longer

  -- the sum fits a word
  pub one_more_fits : get_or words (len / 64) 0 + digit b * 2 ^ (63 - len % 64) < 2 ^ 64
  one_more_fits =
      let p = name_in words len in
      let q = len / 64 in
      let there : q < length words = omega (arith, ap length e, length-words_of 16 p) in
      let inside : q < 16 = omega arith in
      let same : get_or words q 0 + digit b * 2 ^ (63 - len % 64) ≡ word 64 (drop (64 * q) (p ++ b ∷ [])) =
      sym (get_or-set_same words q (get_or words q 0 + digit b * 2 ^ (63 - len % 64)) 0 there)
      ∙ ap (λ ws. get_or ws q 0) more_words
      ∙ get_or-words_of 16 q (p ++ b ∷ []) inside in
      subst (λ n. n < 2 ^ 64) (sym same) (word_below 64 (drop (64 * q) (p ++ b ∷ [])))

-- a bit is read where it stands
pub bit_there : (words : List ℕ) (p : Name) (i : ℕ) → words ≡ words_of 16 p → length p ≤ 1023 → i < length p
    → slice_get p i ≡ Some (eqb ((get_or words (i / 64) 0 / 2 ^ (63 - i % 64)) % 2) 1)
unfolding bit_at
bit_there words p i e h l =
    slice_get-get_or p i false l
    ∙ ap Some (sym (bit_at-words_of 16 i p (omega arith)) ∙ ap (λ ws. bit_at ws i) (sym e))

pub same_length : (p q : Name) → nat_cmp (length p) (length q) ≡ Equal → length p ≡ length q
same_length p q same = by_ranked (length p < length q) (length p ≡ length q) (length q < length p) (nat_cmp (length p) (length q)) same (ranked (length p) (length q) (nat_cmp (length p) (length q)) refl)
  where
    by_ranked : (A B C : Type 0) (o : Ordering) → o ≡ Equal → MatchOrdering o A B C → B
    by_ranked A B C Less k m = absurd (cc)
    by_ranked A B C Equal k m = m
    by_ranked A B C Greater k m = absurd (cc)

-- names of one length are in the order of their words
pub name_cmp_words : (ws vs : List ℕ) (p q : Name) → ws ≡ words_of 16 p → vs ≡ words_of 16 q → length p ≤ 1023 → nat_cmp (length p) (length q) ≡ Equal → slice_cmp nat_cmp ws vs ≡ name_cmp p q
name_cmp_words ws vs p q e f short same =
    (λ i. slice_cmp nat_cmp (e i) (f i))
    ∙ words_of_cmp 16 p q (same_length p q same) (omega arith)
    ∙ ap (λ o. ordering_then o (bits_cmp p q)) (sym same)

then_none : (o : Ordering) → ordering_then o Equal ≡ o
then_none Less = refl
then_none Equal = refl
then_none Greater = refl

pub first_word : (ws : List ℕ) (p : Name) → ws ≡ words_of 16 p → get_or ws 0 0 ≡ word 64 p
first_word ws p e = ap (λ l. get_or l 0 0) e ∙ get_or-words_of 16 0 p (omega arith)

-- short names of one length are in the order of their first words
pub name_cmp_first : (p q : Name) → length p ≤ 64 → nat_cmp (length p) (length q) ≡ Equal → nat_cmp (word 64 p) (word 64 q) ≡ name_cmp p q
name_cmp_first p q short same =
    let h = same_length p q same in
    sym (then_none (nat_cmp (word 64 p) (word 64 q)))
    ∙ ap (ordering_then (nat_cmp (word 64 p) (word 64 q))) (ap₂ (slice_cmp bool_cmp) (sym (drop_all 64 p short)) (sym (drop_all 64 q (omega arith))))
    ∙ word_cmp 64 p q h
    ∙ ap (λ o. ordering_then o (bits_cmp p q)) (sym same)

-- names of one length of which no bit stands behind the first word are in the order of their first words
pub name_cmp_word : (ws vs : List ℕ) (p q : Name) → ws ≡ words_of 16 p → vs ≡ words_of 16 q → length p ≤ 64 → nat_cmp (length p) (length q) ≡ Equal → nat_cmp (get_or ws 0 0) (get_or vs 0 0) ≡ name_cmp p q
name_cmp_word ws vs p q e f short same = ap₂ nat_cmp (first_word ws p e) (first_word vs q f) ∙ name_cmp_first p q short same
