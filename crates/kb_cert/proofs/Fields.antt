-- Texts field by field.
use Rattle.std.proofs.Common.{ℕ, zero, suc, ◌+◌, ◌-◌, ◌/◌, ◌%◌, ◌≤◌, ◌<◌, ◌≡◌, ⊎_elim, refl, sym, ap, ap₂, ◌∙◌, subst, arith, List, [], ◌∷◌, ◌++◌, length, map, take, drop, take-append-drop, get_or, All, true, zero-lt-suc}
use Rattle.std.specs.Prelude.{decimal, not}
use Rattle.std.proofs.lemmas.Bool.{false≢true, cases_lt, and_parts}
use Rattle.std.proofs.lemmas.Fmt.{decimal_digit, decimal_step}
use Rattle.kb_lemmas.proofs.Membership.{all_rest, all_more}
use Rattle.kb_term.specs.Identifier.{IsIdentifier, is_unbroken, begins_otherwise}
use Rattle.kb_term.specs.Signature.{Signature, SymbolEntry, IsSignature}
use Rattle.kb_cert.specs.CertificateText.{each_behind, names_of, name_at}
use Rattle.kb_cert.specs.Reading.{IsFree, IsAtEnd, IsFieldEnd, ArePieces}

abbrev pub tail_of : List ℕ → List ℕ
tail_of [] = []
tail_of (x ∷ xs) = xs

-- a text is cut at its first such byte in one way
pub one_cut : (b : ℕ) (xs ys zs bs : List ℕ) → IsFree b xs → IsFree b ys → IsAtEnd b zs → IsAtEnd b bs → xs ++ zs ≡ ys ++ bs → (xs ≡ ys) × (zs ≡ bs)
one_cut b [] [] zs bs f g p q e = (refl, e)
one_cut b [] (y ∷ ys) [] bs f g p q e = absurd (cc)
one_cut b [] (y ∷ ys) (a ∷ zs) bs f g p q e = absurd (g 0 y (zero-lt-suc _) (let s : a ≡ y = cc in sym s ∙ p))
one_cut b (x ∷ xs) [] zs [] f g p q e = absurd (cc)
one_cut b (x ∷ xs) [] zs (c ∷ bs) f g p q e = absurd (f 0 x (zero-lt-suc _) (let s : x ≡ c = cc in s ∙ q))
one_cut b (x ∷ xs) (y ∷ ys) zs bs f g p q e =
    let r = one_cut b xs ys zs bs (all_rest (λ z. ¬ (z ≡ b)) x xs f) (all_rest (λ z. ¬ (z ≡ b)) y ys g) p q (ap tail_of e) in
    let s : x ≡ y = cc in (ap₂ (λ z zs. z ∷ zs) s r.0, r.1)

pub behind_at_end : (b : ℕ) (pieces : List (List ℕ)) → IsAtEnd b (each_behind b pieces)
behind_at_end b [] = tt
behind_at_end b (x ∷ pieces) = refl

-- the text behind its first byte, cut at a place
pub cut_text : (text : List ℕ) (b k : ℕ) → 0 < length text → get_or text 0 0 ≡ b → text ≡ b ∷ (take k (drop 1 text) ++ drop k (drop 1 text))
cut_text [] b k h e = absurd (omega arith)
cut_text (x ∷ xs) b k h e = ap₂ (λ z zs. z ∷ zs) e (sym (take-append-drop k xs))

-- the first of the pieces is the field, and the others are the rest
pub first_piece : (b : ℕ) (piece : List ℕ) (pieces : List (List ℕ)) (text field rest : List ℕ) → IsFree b piece → IsFieldEnd b field rest → text ≡ b ∷ (field ++ rest) → each_behind b (piece ∷ pieces) ≡ text → (piece ≡ field) × (each_behind b pieces ≡ rest)
first_piece b piece pieces text field rest f e t s = one_cut b piece field (each_behind b pieces) rest f e.free (behind_at_end b pieces) e.at_end (ap tail_of (s ∙ t))

-- pieces, one more and none
pub pieces_more : (b : ℕ) (written : ℕ → List ℕ) (P : ℕ → Type 0) (count : ℕ) (text field rest : List ℕ) (x : ℕ) (xs : List ℕ) → text ≡ b ∷ (field ++ rest) → written x ≡ field → P x → 0 < count → ArePieces b written P (count - 1) rest xs → ArePieces b written P count text (x ∷ xs)
pieces_more b written P count text field rest x xs t w p c a = record {
  count_is = let l = a.count_is in omega arith;
  each = all_more P x xs p a.each;
  spelling = ap₂ (λ z zs. b ∷ (z ++ zs)) w a.spelling ∙ sym t;
}

pub pieces_less : (b : ℕ) (written : ℕ → List ℕ) (P : ℕ → Type 0) (count : ℕ) (text field rest : List ℕ) (xs : List ℕ) → ((x : ℕ) → P x → IsFree b (written x)) → IsFieldEnd b field rest → text ≡ b ∷ (field ++ rest) → 0 < count → ArePieces b written P count text xs
    → (x : ℕ) × P x × (written x ≡ field) × (more : List ℕ) × ArePieces b written P (count - 1) rest more
pieces_less b written P count text field rest [] free e t c a = absurd (let l = a.count_is in omega arith)
pieces_less b written P count text field rest (x ∷ xs) free e t c a =
    let p = a.each 0 x (zero-lt-suc _) in
    let r = first_piece b (written x) (map written xs) text field rest (free x p) e t a.spelling in
    (x, p, r.0, xs, record { count_is = let l = a.count_is in omega arith; each = all_rest P x xs a.each; spelling = r.1 })

-- there are pieces where there is text, and it begins with the byte
pub no_pieces : (b : ℕ) (written : ℕ → List ℕ) (P : ℕ → Type 0) (count : ℕ) (text xs : List ℕ) → count ≡ 0 → ArePieces b written P count text xs → length text ≡ 0
no_pieces b written P count text [] e a = ap length (sym a.spelling)
no_pieces b written P count text (x ∷ xs) e a = absurd (let l = a.count_is in omega arith)

pub begins_behind : (b : ℕ) (written : ℕ → List ℕ) (P : ℕ → Type 0) (count : ℕ) (text xs : List ℕ) → 0 < count → ArePieces b written P count text xs → (0 < length text) × (get_or text 0 0 ≡ b)
begins_behind b written P count text [] c a = absurd (let l = a.count_is in omega arith)
begins_behind b written P count text (x ∷ xs) c a = (let e = ap length a.spelling in omega arith, sym (ap (λ z. get_or z 0 0) a.spelling))

pub none_left : (b : ℕ) (written : ℕ → List ℕ) (P : ℕ → Type 0) (count : ℕ) (text : List ℕ) → count ≡ 0 → length text ≡ 0 → ArePieces b written P count text []
none_left b written P count [] c e = record { count_is = sym c; each = λ k d p. absurd (omega arith); spelling = refl }
none_left b written P count (x ∷ text) c e = absurd (omega arith)

unbroken_free : (bytes : List ℕ) → is_unbroken bytes ≡ true → IsFree 32 bytes
unbroken_free [] h k d p = absurd (omega arith)
unbroken_free (x ∷ bytes) h zero d p = λ e. false≢true (sym (ap (λ z. not (begins_otherwise (z ∷ bytes))) e) ∙ (and_parts (not (begins_otherwise (x ∷ bytes))) (is_unbroken bytes) h).0)
unbroken_free (x ∷ bytes) h (suc k) d p = unbroken_free bytes (and_parts (not (begins_otherwise (x ∷ bytes))) (is_unbroken bytes) h).1 k d (omega arith)

name_free : (sig : Signature) (f : ℕ) → All (λ (e : SymbolEntry). IsIdentifier e.name × (length e.name ≤ 64)) sig → f < length sig → IsFree 32 (name_at (names_of sig) f)
name_free [] f h p = absurd (omega arith)
name_free (e ∷ sig) zero h p = unbroken_free e.name (h 0 e (zero-lt-suc _)).0.unbroken
name_free (e ∷ sig) (suc f) h p = name_free sig f (all_rest (λ (e : SymbolEntry). IsIdentifier e.name × (length e.name ≤ 64)) e sig h) (omega arith)

pub names_free : (sig : Signature) → IsSignature sig → (f : ℕ) → f < length sig → IsFree 32 (name_at (names_of sig) f)
names_free sig s f p = name_free sig f s.names p

-- small numbers in decimal digits
pub two_digits : (n : ℕ) → 10 ≤ n → n ≤ 15 → decimal n ≡ 49 ∷ (48 + (n - 10)) ∷ []
two_digits n l h =
    let q : n / 10 ≡ 1 = omega arith in
    let r : n % 10 ≡ n - 10 = omega arith in
    decimal_step n l (omega arith) ∙ ap₂ (λ x y. decimal x ++ (48 + y) ∷ []) q r ∙ ap (λ z. z ++ (48 + (n - 10)) ∷ []) (decimal_digit 1 (omega arith))

free_one : (b x : ℕ) → b < x → IsFree b (x ∷ [])
free_one b x h = all_more (λ z. ¬ (z ≡ b)) x [] (λ e. omega arith) (λ k d p. absurd (omega arith))

pub number_free : (b n : ℕ) → b < 48 → n ≤ 15 → IsFree b (decimal n)
number_free b n h l =
    ⊎_elim (λ s. subst (IsFree b) (sym (decimal_digit n s)) (free_one b (48 + n) (omega arith)))
    (λ s. subst (IsFree b) (sym (two_digits n s l)) (all_more (λ z. ¬ (z ≡ b)) 49 ((48 + (n - 10)) ∷ []) (λ e. omega arith) (free_one b (48 + (n - 10)) (omega arith))))
    (cases_lt n 10)

-- texts of one and of two bytes
pub one_byte : (text : List ℕ) (x : ℕ) → length text ≡ 1 → get_or text 0 0 ≡ x → x ∷ [] ≡ text
one_byte [] x l e = absurd (omega arith)
one_byte (y ∷ []) x l e = ap (λ z. z ∷ []) (sym e)
one_byte (y ∷ z ∷ text) x l e = absurd (omega arith)

pub two_bytes : (text : List ℕ) (x y : ℕ) → length text ≡ 2 → get_or text 0 0 ≡ x → get_or text 1 0 ≡ y → x ∷ y ∷ [] ≡ text
two_bytes [] x y l e d = absurd (omega arith)
two_bytes (z ∷ []) x y l e d = absurd (omega arith)
two_bytes (z ∷ w ∷ []) x y l e d = ap₂ (λ a b. a ∷ b ∷ []) (sym e) (sym d)
two_bytes (z ∷ w ∷ v ∷ text) x y l e d = absurd (omega arith)

pub at_end_nothing : (b : ℕ) (text : List ℕ) → IsAtEnd b (drop (length text) text)
at_end_nothing b [] = tt
at_end_nothing b (x ∷ text) = at_end_nothing b text
