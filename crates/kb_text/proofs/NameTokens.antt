-- The tokens of a name and of what stands behind it.
use Rattle.std.proofs.Common.{◌≡◌, refl, ap, sym, ◌∙◌, subst, inl, arith, ℕ, ◌+◌, ◌<◌, ◌==◌, List, [], ◌∷◌, ◌++◌, Bool, true, false, not, ◌&&◌, ◌||◌, cond, length, get_or}
use Rattle.std.specs.Prelude.{map, nat_eq, ⊤}
use Rattle.std.proofs.lemmas.Bool.{false≢true, eqb-true, and_parts, not-true}
use Rattle.kb_lemmas.proofs.Numbers.{eq_itself}
use Rattle.kb_term.specs.Identifier.{begins_otherwise, is_unbroken, is_white_space}
use Rattle.kb_text.specs.Tokens.{Token, Placed, Start, white, mark, letter, start_of, tokens_by, tokens_from, letter_before, with_letter, arrow_equals, arrow, equals, bar, left_paren, right_paren, comma, quotation, identifier}
use Rattle.kb_text.specs.Starts.{Stops}
use Rattle.kb_text.proofs.Identifiers.{letter_start}
use Rattle.kb_text.proofs.Runs.{IsApart, alone_letter, at_stop, stands_from, start_is}

-- the bytes that stand behind names in written problems: a space, a line feed, parentheses and the comma
abbrev pub is_stop : ℕ → Bool
is_stop b = b == 32 || b == 10 || b == 40 || b == 41 || b == 44

-- the text is empty, or begins with such a byte
abbrev pub IsStopped : List ℕ → Type 0
IsStopped [] = ⊤
IsStopped (b ∷ rest) = is_stop b ≡ true

-- each such byte
pub at_stops : (P : ℕ → Type 0) → P 32 → P 10 → P 40 → P 41 → P 44 → (b : ℕ) → is_stop b ≡ true → P b
at_stops P s l o c m b h = first (b == 32) refl
  where
    is : (k : ℕ) → (b == k) ≡ true → P k → P b
    is k e p = let f : k ≡ b = sym (eqb-true b k e) in subst P f p

    fifth : (v : Bool) → (b == 44) ≡ v → (b == 32) ≡ false → (b == 10) ≡ false → (b == 40) ≡ false → (b == 41) ≡ false → P b
    fifth true e p q r t = is 44 e m
    fifth false e p q r t = absurd (false≢true (sym (λ i. p i || q i || r i || t i || e i) ∙ h))

    fourth : (v : Bool) → (b == 41) ≡ v → (b == 32) ≡ false → (b == 10) ≡ false → (b == 40) ≡ false → P b
    fourth true e p q r = is 41 e c
    fourth false e p q r = fifth (b == 44) refl p q r e

    third : (v : Bool) → (b == 40) ≡ v → (b == 32) ≡ false → (b == 10) ≡ false → P b
    third true e p q = is 40 e o
    third false e p q = fourth (b == 41) refl p q e

    second : (v : Bool) → (b == 10) ≡ v → (b == 32) ≡ false → P b
    second true e p = is 10 e l
    second false e p = third (b == 40) refl p e

    first : (v : Bool) → (b == 32) ≡ v → P b
    first true e = is 32 e s
    first false e = second (b == 10) refl e

-- ---- what stands behind a letter

abbrev start_form : ℕ → Bool → Bool → Bool → Start
start_form b p q r = cond (is_white_space b) white
    (cond (nat_eq 45 b && (p && (q && true))) (mark arrow_equals 3)
    (cond (nat_eq 45 b && (p && true)) (mark arrow 2)
    (cond (nat_eq 61 b && (r && true)) (mark equals 2)
    (cond (nat_eq 124 b && true) (mark bar 1)
    (cond (nat_eq 40 b && true) (mark left_paren 1)
    (cond (nat_eq 41 b && true) (mark right_paren 1)
    (cond (nat_eq 44 b && true) (mark comma 1)
    (cond (nat_eq 34 b && true) (mark quotation 1) letter))))))))

-- the byte is neither > nor =
record IsPlain (c : ℕ) : Type 0 where
  no_greater : nat_eq 62 c ≡ false
  no_equals : nat_eq 61 c ≡ false

plain_stop : (b : ℕ) → is_stop b ≡ true → IsPlain b
plain_stop = at_stops IsPlain (record { no_greater = refl; no_equals = refl }) (record { no_greater = refl; no_equals = refl }) (record { no_greater = refl; no_equals = refl }) (record { no_greater = refl; no_equals = refl }) (record { no_greater = refl; no_equals = refl })

first_plain : (rest : List ℕ) → IsStopped rest → IsPlain (get_or rest 0 0)
first_plain [] h = record { no_greater = refl; no_equals = refl }
first_plain (b ∷ rest) h = plain_stop b h

-- a byte begins the same with a stop behind
same_start : (b : ℕ) (name rest : List ℕ) → IsStopped rest → start_of b name ≡ letter → start_of b (name ++ rest) ≡ letter
same_start b [] rest s h = go (first_plain rest s)
  where
    one : (v : Bool) → v && (false && (nat_eq 61 (get_or rest 1 0) && true)) ≡ v && (false && (nat_eq 61 0 && true))
    one true = refl
    one false = refl

    go : IsPlain (get_or rest 0 0) → start_of b rest ≡ letter
    go p =
        start_is b rest
        ∙ (λ i. start_form b (p.no_greater i) (nat_eq 61 (get_or rest 1 0)) (p.no_equals i))
        ∙ ap (λ v. cond (is_white_space b) white (cond v (mark arrow_equals 3)
        (cond (nat_eq 45 b && (false && true)) (mark arrow 2)
        (cond (nat_eq 61 b && (false && true)) (mark equals 2)
        (cond (nat_eq 124 b && true) (mark bar 1)
        (cond (nat_eq 40 b && true) (mark left_paren 1)
        (cond (nat_eq 41 b && true) (mark right_paren 1)
        (cond (nat_eq 44 b && true) (mark comma 1)
        (cond (nat_eq 34 b && true) (mark quotation 1) letter))))))))) (one (nat_eq 45 b))
        ∙ h
same_start b (c ∷ []) rest s h =
    start_is b (c ∷ rest) ∙ (λ i. start_form b (nat_eq 62 c) ((first_plain rest s).no_equals i) (nat_eq 61 c)) ∙ h
same_start b (c ∷ d ∷ name) rest s h = start_is b (c ∷ d ∷ (name ++ rest)) ∙ sym (start_is b (c ∷ d ∷ name)) ∙ h

letter_of : (b : ℕ) (name rest : List ℕ) → IsStopped rest → is_unbroken (b ∷ name) ≡ true → start_of b (name ++ rest) ≡ letter
letter_of b name rest s h = same_start b name rest s (letter_start b name (not-true (begins_otherwise (b ∷ name)) (and_parts (not (begins_otherwise (b ∷ name))) (is_unbroken name) h).0))

-- no identifier goes on behind the name
apart : (n : ℕ) (rest : List ℕ) → IsStopped rest → IsApart n (tokens_from 0 n rest)
apart n [] h = inl tt
apart n (b ∷ rest) h =
    at_stop (start_of b rest) n b (λ k. tokens_from k (n + 1) rest) (at_stops (λ b. Stops (start_of b rest)) tt tt tt tt tt b h) (λ k. stands_from rest k (n + 1))

one_name : (name : List ℕ) (b n : ℕ) (rest : List ℕ) → is_unbroken (b ∷ name) ≡ true → IsStopped rest → tokens_from 0 n (b ∷ (name ++ rest)) ≡ record { at = n; token = identifier (b ∷ name) } ∷ tokens_from 0 (n + length (b ∷ name)) rest
one_name [] b n rest h s =
    ap (λ (k : Start). tokens_by k n b (λ k. tokens_from k (n + 1) rest)) (letter_of b [] rest s h) ∙ alone_letter n b (tokens_from 0 (n + 1) rest) (apart (n + 1) rest s)
one_name (c ∷ name) b n rest h s =
    let r = and_parts (not (begins_otherwise (b ∷ c ∷ name))) (is_unbroken (c ∷ name)) h in
    let last : n + 1 + length (c ∷ name) ≡ n + length (b ∷ c ∷ name) = omega arith in
    ap (λ (k : Start). tokens_by k n b (λ k. tokens_from k (n + 1) (c ∷ (name ++ rest)))) (letter_of b (c ∷ name) rest s h)
    ∙ ap (λ (ts : List Placed). letter_before n b ts) (one_name name c (n + 1) rest r.1 s)
    ∙ ap (λ (t : Bool). with_letter n b (record { at = n + 1; token = identifier (c ∷ name) }) (tokens_from 0 (n + 1 + length (c ∷ name)) rest) (identifier (c ∷ name)) t) (eq_itself (n + 1))
    ∙ ap (λ (m : ℕ). record { at = n; token = identifier (b ∷ c ∷ name) } ∷ tokens_from 0 m rest) last

-- the tokens of a text from a place on, without their places
abbrev pub toks : ℕ → List ℕ → List Token
toks n text = map (λ (t : Placed). t.token) (tokens_from 0 n text)

-- a name is one token
pub name_then : (name rest : List ℕ) (n : ℕ) → 0 < length name → is_unbroken name ≡ true → IsStopped rest → toks n (name ++ rest) ≡ identifier name ∷ toks (n + length name) rest
name_then [] rest n l h s = absurd (omega arith)
name_then (b ∷ name) rest n l h s = ap (map (λ (t : Placed). t.token)) (one_name name b n rest h s)
