-- The texts of variables: letters x and a number up to 64.
use Rattle.std.proofs.Common.{◌≡◌, refl, ap, ap₂, sym, ◌∙◌, subst, ⊎_elim, inl, inr, arith, ℕ, zero, suc, ◌+◌, ◌*◌, ◌/◌, ◌%◌, ◌<◌, ◌≤◌, List, [], ◌∷◌, ◌++◌, true, false, length, get_or, take, drop, length-append}
use Rattle.std.specs.Prelude.{◌⊎◌, MatchOption, None, Option, Some, decimal, nat_eq, replicate}
use Rattle.std.specs.List.{list_all}
use Rattle.std.proofs.lemmas.Bool.{cases_lt, eqb-true, and_parts}
use Rattle.std.proofs.lemmas.Bool.Decides.{nat_tests}
use Rattle.std.proofs.lemmas.Fmt.{decimal_digit, decimal_step, decimal_injective}
use Rattle.std.proofs.lemmas.List.{append_cancel_left, take_at, drop_at, take-append-drop, length-replicate}
use Rattle.kb_term.specs.Signature.{Signature, HasName}
use Rattle.kb_text.specs.Terms.{is_digit, is_x_number, names_of, symbol_text}
use Rattle.kb_text.specs.TermReading.{IsInName, ends_name}
use Rattle.kb_text.proofs.TextLaws.{x_number}

pub two_digits : (m : ℕ) → 10 ≤ m → m ≤ 99 → decimal m ≡ (48 + m / 10) ∷ (48 + m % 10) ∷ []
two_digits m l h = decimal_step m l (omega arith) ∙ ap (λ ds. ds ++ (48 + m % 10) ∷ []) (decimal_digit (m / 10) (omega arith))

-- one digit or two, by what is at their places
pub one_digit_is : (ds : List ℕ) (m : ℕ) → length ds ≡ 1 → get_or ds 0 0 ≡ 48 + m → m < 10 → decimal m ≡ ds
one_digit_is [] m l e h = absurd (omega arith)
one_digit_is (d ∷ []) m l e h = decimal_digit m h ∙ ap (λ x. x ∷ []) (sym e)
one_digit_is (d ∷ f ∷ ds) m l e h = absurd (omega arith)

pub two_digits_are : (ds : List ℕ) (a b m : ℕ) → length ds ≡ 2 → get_or ds 0 0 ≡ 48 + a → get_or ds 1 0 ≡ 48 + b → 1 ≤ a → a < 10 → b < 10 → m ≡ a * 10 + b → decimal m ≡ ds
two_digits_are [] a b m l e f p q r s = absurd (omega arith)
two_digits_are (d ∷ []) a b m l e f p q r s = absurd (omega arith)
two_digits_are (d ∷ g ∷ []) a b m l e f p q r s =
    let x : 48 + m / 10 ≡ d = omega arith in
    let y : 48 + m % 10 ≡ g = omega arith in
    two_digits m (omega arith) (omega arith) ∙ ap₂ (λ x y. x ∷ y ∷ []) x y
two_digits_are (d ∷ g ∷ h ∷ ds) a b m l e f p q r s = absurd (omega arith)

pub record IsOneDigit (ds : List ℕ) (m : ℕ) : Type 0 where
  pub count : length ds ≡ 1
  pub first : get_or ds 0 0 ≡ 48 + m
  pub small : m < 10

pub record AreTwoDigits (ds : List ℕ) (m : ℕ) : Type 0 where
  pub count : length ds ≡ 2
  pub first : get_or ds 0 0 ≡ 48 + m / 10
  pub second : get_or ds 1 0 ≡ 48 + m % 10
  pub large : 10 ≤ m

pub digits_cases : (m : ℕ) (ds : List ℕ) → m ≤ 64 → decimal m ≡ ds → IsOneDigit ds m ⊎ AreTwoDigits ds m
digits_cases m ds h e =
    ⊎_elim (λ l. let f = sym e ∙ decimal_digit m l in inl (record { count = ap length f; first = ap (λ xs. get_or xs 0 0) f; small = l }))
    (λ l. let f = sym e ∙ two_digits m l (omega arith) in inr (record { count = ap length f; first = ap (λ xs. get_or xs 0 0) f; second = ap (λ xs. get_or xs 1 0) f; large = l }))
    (cases_lt m 10)

-- ---- they are names

digit_in_name : (b : ℕ) → 48 ≤ b → ends_name b ≡ false
digit_in_name b h = grind (arith, nat_tests)

digit_is : (b : ℕ) → 48 ≤ b → b ≤ 57 → is_digit b ≡ true
digit_is b h l = grind (arith, nat_tests)

pub in_name-append : (xs ys : List ℕ) → IsInName xs → IsInName ys → IsInName (xs ++ ys)
in_name-append [] ys h k = k
in_name-append (x ∷ xs) ys h k = (h.0, in_name-append xs ys h.1 k)

letters_in_name : (n : ℕ) → IsInName (replicate n 120)
letters_in_name zero = tt
letters_in_name (suc n) = (refl, letters_in_name n)

decimal_in_name : (m : ℕ) → m ≤ 64 → IsInName (decimal m)
decimal_in_name m h =
    ⊎_elim (λ l. subst IsInName (sym (decimal_digit m l)) (digit_in_name (48 + m) (omega arith), tt))
    (λ l. subst IsInName (sym (two_digits m l (omega arith))) (digit_in_name (48 + m / 10) (omega arith), (digit_in_name (48 + m % 10) (omega arith), tt)))
    (cases_lt m 10)

pub variable_in_name : (p m : ℕ) → m ≤ 64 → IsInName (replicate p 120 ++ decimal m)
variable_in_name p m h = in_name-append (replicate p 120) (decimal m) (letters_in_name p) (decimal_in_name m h)

all_letters : (n : ℕ) → list_all (λ b. nat_eq 120 b) (replicate n 120) ≡ true
all_letters zero = refl
all_letters (suc n) = all_letters n

all_digits : (m : ℕ) → m ≤ 64 → list_all is_digit (decimal m) ≡ true
all_digits m h =
    ⊎_elim (λ l. ap (list_all is_digit) (decimal_digit m l) ∙ one (48 + m) (digit_is (48 + m) (omega arith) (omega arith)))
    (λ l. ap (list_all is_digit) (two_digits m l (omega arith)) ∙ two (48 + m / 10) (48 + m % 10) (digit_is (48 + m / 10) (omega arith) (omega arith)) (digit_is (48 + m % 10) (omega arith) (omega arith)))
    (cases_lt m 10)
  where
    one : (b : ℕ) → is_digit b ≡ true → list_all is_digit (b ∷ []) ≡ true
    one b e = ap (λ v. list_all (λ w. w) (v ∷ [])) e

    two : (b c : ℕ) → is_digit b ≡ true → is_digit c ≡ true → list_all is_digit (b ∷ c ∷ []) ≡ true
    two b c e f = ap₂ (λ v w. list_all (λ u. u) (v ∷ w ∷ [])) e f

some_digits : (m : ℕ) → m ≤ 64 → 0 < length (decimal m)
some_digits m h = ⊎_elim (λ l. let e = ap length (decimal_digit m l) in omega arith) (λ l. let e = ap length (two_digits m l (omega arith)) in omega arith) (cases_lt m 10)

pub variable_longer : (p m : ℕ) → m ≤ 64 → p < length (replicate p 120 ++ decimal m)
variable_longer p m h = omega (arith, some_digits m h, length-append (replicate p 120) (decimal m), length-replicate {A = ℕ} p 120)

-- its letters are letters x
pub variable_letters : (p m : ℕ) → list_all (λ b. nat_eq 120 b) (take p (replicate p 120 ++ decimal m)) ≡ true
variable_letters p m = ap (list_all (λ b. nat_eq 120 b)) (take_at (replicate p 120) (decimal m) p (length-replicate p 120)) ∙ all_letters p

-- and no name of a symbol is one
pub variable_is_x_number : (p m : ℕ) → m ≤ 64 → is_x_number p (replicate p 120 ++ decimal m) ≡ true
variable_is_x_number p m h =
    x_number p (replicate p 120 ++ decimal m) true true (variable_longer p m h) (variable_letters p m)
    (ap (list_all is_digit) (drop_at (replicate p 120) (decimal m) p (length-replicate p 120)) ∙ all_digits m h)

pub one_variable : (p m n : ℕ) → m < 64 → n < 64 → replicate p 120 ++ decimal (m + 1) ≡ replicate p 120 ++ decimal (n + 1) → m ≡ n
one_variable p m n h k e = let f = decimal_injective (m + 1) (n + 1) (omega arith) (omega arith) (append_cancel_left (replicate p 120) (decimal (m + 1)) (decimal (n + 1)) e) in omega arith

-- the letters are those that were tested
pub letters_are : (n : ℕ) (name : List ℕ) → n ≤ length name → list_all (λ b. nat_eq 120 b) (take n name) ≡ true → take n name ≡ replicate n 120
letters_are zero name h e = refl
letters_are (suc n) [] h e = absurd (omega arith)
letters_are (suc n) (b ∷ name) h e =
    let p = and_parts (nat_eq 120 b) (list_all (λ b. nat_eq 120 b) (take n name)) e in
    ap₂ (λ x xs. x ∷ xs) (sym (eqb-true 120 b p.0)) (letters_are n name (omega arith) p.1)

abbrev WhereVariable : Option ℕ → (ℕ → List ℕ) → List ℕ → Type 0
WhereVariable r written name = MatchOption r ((n : ℕ) → n < 64 → ¬ (written (n + 1) ≡ name)) (λ n. (n < 64) × (written (n + 1) ≡ name))

-- digits behind letters
pub behind_letters : (p : ℕ) (name digits : List ℕ) (r : Option ℕ) → p ≤ length name → list_all (λ b. nat_eq 120 b) (take p name) ≡ true → digits ≡ drop p name → WhereVariable r decimal digits → WhereVariable r (λ m. replicate p 120 ++ decimal m) name
behind_letters p name digits r l t d = go r
  where
    cut : name ≡ replicate p 120 ++ digits
    cut = sym (take-append-drop p name) ∙ ap₂ ◌++◌ (letters_are p name l t) (sym d)

    go : (r : Option ℕ) → WhereVariable r decimal digits → WhereVariable r (λ m. replicate p 120 ++ decimal m) name
    go None h = λ n k e. h n k (append_cancel_left (replicate p 120) (decimal (n + 1)) digits (e ∙ cut))
    go (Some n) h = (h.0, ap (replicate p 120 ++◌) h.1 ∙ sym cut)

-- one byte more
pub in_name_more : (bytes : List ℕ) (i : ℕ) → i < length bytes → ends_name (get_or bytes i 0) ≡ false → IsInName (take i bytes) → IsInName (take (i + 1) bytes)
in_name_more [] i h e k = absurd (omega arith)
in_name_more (b ∷ bytes) zero h e k = (e, tt)
in_name_more (b ∷ bytes) (suc i) h e k = let f : suc i + 1 ≡ suc (i + 1) = omega arith in rw f (k.0, in_name_more bytes i (omega arith) e k.1)
