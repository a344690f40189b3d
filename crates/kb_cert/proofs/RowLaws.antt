-- Reading rows of numbers.
use Rattle.std.proofs.Common.{ℕ, zero, suc, ◌+◌, ◌≤◌, ◌<◌, ◌≡◌, refl, sym, ap, ap₂, ◌∙◌, subst, arith, List, [], ◌∷◌, ◌++◌, length, map, take, drop, append_assoc, take-append-drop, All, Bool, true, false, zero-lt-suc}
use Rattle.std.specs.Prelude.{decimal, nat_eq, nat_le, ◌&&◌, Vec, Option, Some, None, MatchOption}
use Rattle.std.specs.List.{list_all}
use Rattle.std.specs.declared.alloc.Global.{Global}
use Rattle.std.proofs.lemmas.Bool.{false≢true, leb-true, le-leb, eqb-true, eq-eqb, and_parts}
use Rattle.kb_lemmas.proofs.Membership.{all_more, all_rest}
use Rattle.kb_term.specs.Signature.{Signature, SymbolEntry, HasArity}
use Rattle.kb_linear.specs.Limits.{interpretation_of, IsSmall}
use Rattle.kb_cert.specs.CertificateText.{each_behind, interp_text, is_between, is_row, are_rows}
use Rattle.kb_cert.specs.Reading.{IsFree, IsFieldEnd, AreNumbers, SpellsNumbers, IsRowText, AreRows, SpellsRows}
use Rattle.kb_cert.proofs.Texts.{join_with_byte-behind}
use Rattle.kb_cert.proofs.Fields.{one_cut, behind_at_end, first_piece, number_free}

-- numbers from 1 to the greatest, by the test and one by one
pub between_from : (most : ℕ) (cs : List ℕ) → list_all (is_between 1 most) cs ≡ true → All (λ n. (1 ≤ n) × (n ≤ most)) cs
between_from most [] h k d p = absurd (omega arith)
between_from most (c ∷ cs) h zero d p =
    let r = and_parts (is_between 1 most c) (list_all (is_between 1 most) cs) h in
    let s = and_parts (nat_le 1 c) (nat_le c most) r.0 in
    (leb-true 1 c s.0, leb-true c most s.1)
between_from most (c ∷ cs) h (suc k) d p = between_from most cs (and_parts (is_between 1 most c) (list_all (is_between 1 most) cs) h).1 k d (omega arith)

pub between_to : (most : ℕ) (cs : List ℕ) → All (λ n. (1 ≤ n) × (n ≤ most)) cs → list_all (is_between 1 most) cs ≡ true
between_to most [] h = refl
between_to most (c ∷ cs) h =
    let q = h 0 c (zero-lt-suc _) in
    let l : nat_le 1 c ≡ true = le-leb 1 c q.0 in
    let m : nat_le c most ≡ true = le-leb c most q.1 in
    let r = between_to most cs (all_rest (λ n. (1 ≤ n) × (n ≤ most)) c cs h) in
    λ i. (l i && m i) && r i

-- what the test of a row says
record IsRow (arity : ℕ) (row : ℕ × List ℕ) : Type 0 where
  constant : row.0 ≤ 15
  count : length row.1 ≡ arity
  each : All (λ n. (1 ≤ n) × (n ≤ 3)) row.1

row_from : (arity : ℕ) (row : ℕ × List ℕ) → is_row arity row ≡ true → IsRow arity row
row_from arity row h =
    let r = and_parts (nat_le row.0 15 && nat_eq (length row.1) arity) (list_all (is_between 1 3) row.1) h in
    let s = and_parts (nat_le row.0 15) (nat_eq (length row.1) arity) r.0 in
    record { constant = leb-true row.0 15 s.0; count = eqb-true (length row.1) arity s.1; each = between_from 3 row.1 r.1 }

row_to : (arity : ℕ) (row : ℕ × List ℕ) → IsRow arity row → is_row arity row ≡ true
row_to arity row r =
    let l : nat_le row.0 15 ≡ true = le-leb row.0 15 r.constant in
    let m : nat_eq (length row.1) arity ≡ true = eq-eqb (length row.1) arity r.count in
    let w = between_to 3 row.1 r.each in
    λ i. (l i && m i) && w i

-- the constant is the first field, and the coefficients are the rest
pub row_read : (arity : ℕ) (text field rest : List ℕ) (constant : ℕ) (coefficients : List ℕ) → text ≡ field ++ rest → (constant ≤ 15) × (decimal constant ≡ field) → AreNumbers 3 arity rest coefficients → IsRowText arity text (constant, coefficients)
row_read arity text field rest constant coefficients t c a = record {
  row_is = row_to arity (constant, coefficients) (record { constant = c.0; count = a.count_is; each = a.each });
  spelling = join_with_byte-behind 44 (decimal constant) (map decimal coefficients) ∙ ap₂ (λ x y. x ++ y) c.1 a.spelling ∙ sym t;
}

pub row_parts : (arity : ℕ) (text field rest : List ℕ) (row : ℕ × List ℕ) → text ≡ field ++ rest → IsFieldEnd 44 field rest → IsRowText arity text row → (row.0 ≤ 15) × (decimal row.0 ≡ field) × AreNumbers 3 arity rest row.1
row_parts arity text field rest row t e r =
    let s = row_from arity row r.row_is in
    let p = one_cut 44 (decimal row.0) field (each_behind 44 (map decimal row.1)) rest (number_free 44 row.0 (omega arith) s.constant) e.free (behind_at_end 44 (map decimal row.1)) e.at_end
    (sym (join_with_byte-behind 44 (decimal row.0) (map decimal row.1)) ∙ r.spelling ∙ t) in
    (s.constant, p.0, record { count_is = s.count; each = s.each; spelling = p.1 })

-- what is read of the coefficients says what the text is
pub row_found : (arity : ℕ) (text field rest : List ℕ) (constant : ℕ) (old new : List ℕ) → text ≡ field ++ rest → (constant ≤ 15) × (decimal constant ≡ field) → old ≡ [] → SpellsNumbers 3 arity rest old new true → IsRowText arity text (constant, new)
row_found arity text field rest constant old new t c o (more, d, a) =
    row_read arity text field rest constant new t c (subst (AreNumbers 3 arity rest) (sym (d ∙ ap (λ z. z ++ more) o)) a)

pub row_none : (arity : ℕ) (text field rest : List ℕ) (old new : List ℕ) → text ≡ field ++ rest → IsFieldEnd 44 field rest → SpellsNumbers 3 arity rest old new false → (row : ℕ × List ℕ) → ¬ IsRowText arity text row
row_none arity text field rest old new t e h row r = h row.1 (row_parts arity text field rest row t e r).2

pub row_no_constant : (arity : ℕ) (text field rest : List ℕ) → text ≡ field ++ rest → IsFieldEnd 44 field rest → ((n : ℕ) → n ≤ 15 → ¬ (decimal n ≡ field)) → (row : ℕ × List ℕ) → ¬ IsRowText arity text row
row_no_constant arity text field rest t e h row r = let p = row_parts arity text field rest row t e r in h row.0 p.0 p.1

-- a text cut at a place, from its parts
pub cut_parts : (text front back : List ℕ) (k : ℕ) → front ≡ take k text → back ≡ drop k text → text ≡ front ++ back
cut_parts text front back k f b = sym (take-append-drop k text) ∙ ap₂ (λ x y. x ++ y) (sym f) (sym b)

pub end_parts : (b : ℕ) (text front back : List ℕ) (k : ℕ) → front ≡ take k text → back ≡ drop k text → IsFieldEnd b (take k text) (drop k text) → IsFieldEnd b front back
end_parts b text front back k f d e = subst (λ z. IsFieldEnd b z back) (sym f) (subst (λ z. IsFieldEnd b (take k text) z) (sym d) e)

pub free_append : (b : ℕ) (xs ys : List ℕ) → IsFree b xs → IsFree b ys → IsFree b (xs ++ ys)
free_append b [] ys f g = g
free_append b (x ∷ xs) ys f g = all_more (λ z. ¬ (z ≡ b)) x (xs ++ ys) (f 0 x (zero-lt-suc _)) (free_append b xs ys (all_rest (λ z. ¬ (z ≡ b)) x xs f) g)

pub numbers_free : (most : ℕ) (cs : List ℕ) → most ≤ 15 → All (λ n. (1 ≤ n) × (n ≤ most)) cs → IsFree 32 (each_behind 44 (map decimal cs))
numbers_free most [] m h = λ k d p. absurd (omega arith)
numbers_free most (c ∷ cs) m h =
    let q = h 0 c (zero-lt-suc _) in
    all_more (λ z. ¬ (z ≡ 32)) 44 (decimal c ++ each_behind 44 (map decimal cs)) (λ e. omega arith)
    (free_append 32 (decimal c) (each_behind 44 (map decimal cs)) (number_free 32 c (omega arith) (omega (arith, q.1))) (numbers_free most cs m (all_rest (λ n. (1 ≤ n) × (n ≤ most)) c cs h)))

row_free : (arity : ℕ) (row : ℕ × List ℕ) → is_row arity row ≡ true → IsFree 32 (interp_text row)
row_free arity row h =
    let s = row_from arity row h in
    subst (IsFree 32) (sym (join_with_byte-behind 44 (decimal row.0) (map decimal row.1)))
    (free_append 32 (decimal row.0) (each_behind 44 (map decimal row.1)) (number_free 32 row.0 (omega arith) s.constant) (numbers_free 3 row.1 (omega arith) s.each))

-- the symbols from f on begin with the symbol f
pub from_symbol : (sig : Signature) (f n : ℕ) → HasArity sig f n → (e : SymbolEntry) × (drop f sig ≡ e ∷ drop (f + 1) sig) × (e.arity ≡ n)
from_symbol [] f n h = absurd (cc)
from_symbol (e ∷ sig) zero n h = let q : e.arity ≡ n = cc in (e, refl, q)
from_symbol (e ∷ sig) (suc f) n h =
    let r = from_symbol sig f n h in
    let k : suc f + 1 ≡ suc (f + 1) = omega arith in
    (r.0, r.1 ∙ ap (λ z. r.0 ∷ drop z (e ∷ sig)) (sym k), r.2)

-- the first row is the field, and the others are the rest
rows_less : (e : SymbolEntry) (sig : Signature) (text field rest : List ℕ) (rows : List (ℕ × List ℕ)) → IsFieldEnd 32 field rest → text ≡ 32 ∷ (field ++ rest) → AreRows (e ∷ sig) text rows → (row : ℕ × List ℕ) × IsRowText e.arity field row × (more : List (ℕ × List ℕ)) × AreRows sig rest more
rows_less e sig text field rest [] f t a = absurd (false≢true a.rows_are)
rows_less e sig text field rest (row ∷ rows) f t a =
    let b = and_parts (is_row e.arity row) (are_rows sig rows) a.rows_are in
    let p = first_piece 32 (interp_text row) (map interp_text rows) text field rest (row_free e.arity row b.0) f t a.spelling in
    (row, record { row_is = b.0; spelling = p.0 }, rows, record { rows_are = b.1; spelling = p.1 })

pub rows_step : (whole : Signature) (e : SymbolEntry) (sig : Signature) (arity : ℕ) (text field rest : List ℕ) (old now new : List (ℕ × Vec ℕ Global)) (row : ℕ × Vec ℕ Global) (found : Bool) → whole ≡ e ∷ sig → e.arity ≡ arity → IsFieldEnd 32 field rest → text ≡ 32 ∷ (field ++ rest)
    → IsRowText arity field (row.0, row.1.items) → now ≡ old ++ row ∷ [] → SpellsRows sig rest now new found → SpellsRows whole text old new found
rows_step whole e sig arity text field rest old now new row true w q f t r n (more, d, a) = (
  row ∷ more,
  d ∙ ap (λ z. z ++ more) n ∙ append_assoc old (row ∷ []) more,
  subst (λ z. AreRows z text (interpretation_of (row ∷ more))) (sym w) (record {
    rows_are = both (is_row e.arity (row.0, row.1.items)) (are_rows sig (interpretation_of more)) (subst (λ k. is_row k (row.0, row.1.items) ≡ true) (sym q) r.row_is) a.rows_are;
    spelling = ap₂ (λ x y. 32 ∷ (x ++ y)) r.spelling a.spelling ∙ sym t;
  }),
)
  where
    both : (a b : Bool) → a ≡ true → b ≡ true → (a && b) ≡ true
    both a b e d = λ i. e i && d i
rows_step whole e sig arity text field rest old now new row false w q f t r n h = λ rows a.
    let s = rows_less e sig text field rest rows f t (subst (λ z. AreRows z text rows) w a) in
    h s.2 s.3

pub rows_none : (whole : Signature) (e : SymbolEntry) (sig : Signature) (arity : ℕ) (text field rest : List ℕ) → whole ≡ e ∷ sig → e.arity ≡ arity → IsFieldEnd 32 field rest → text ≡ 32 ∷ (field ++ rest) → ((row : ℕ × List ℕ) → ¬ IsRowText arity field row) → (rows : List (ℕ × List ℕ)) → ¬ AreRows whole text rows
rows_none whole e sig arity text field rest w q f t n rows a =
    let s = rows_less e sig text field rest rows f t (subst (λ z. AreRows z text rows) w a) in
    n s.0 (subst (λ k. IsRowText k field s.0) q s.1)

-- with a symbol left the text begins with a space
pub rows_begin : (sig : Signature) (f : ℕ) (text : List ℕ) (rows : List (ℕ × List ℕ)) → f < length sig → ((tail : List ℕ) → ¬ (text ≡ 32 ∷ tail)) → ¬ AreRows (drop f sig) text rows
rows_begin [] f text rows h n a = omega arith
rows_begin (e ∷ sig) zero text [] h n a = false≢true a.rows_are
rows_begin (e ∷ sig) zero text (row ∷ rows) h n a = n (interp_text row ++ each_behind 32 (map interp_text rows)) (sym a.spelling)
rows_begin (e ∷ sig) (suc f) text rows h n a = rows_begin sig f text rows (omega arith) n a

-- what was read of one row, by its cases
abbrev pub IsRowRead : ℕ → List ℕ → Option (ℕ × Vec ℕ Global) → Type 0
IsRowRead arity text read = MatchOption read ((row : ℕ × List ℕ) → ¬ IsRowText arity text row) (λ (row : ℕ × Vec ℕ Global). IsRowText arity text (row.0, row.1.items))

pub row_some : (arity : ℕ) (text : List ℕ) (read : Option (ℕ × Vec ℕ Global)) (row : ℕ × Vec ℕ Global) → read ≡ Some row → IsRowRead arity text read → IsRowText arity text (row.0, row.1.items)
row_some arity text read row e h = subst (IsRowRead arity text) e h

pub row_not : (arity : ℕ) (text : List ℕ) (read : Option (ℕ × Vec ℕ Global)) → read ≡ None → IsRowRead arity text read → (row : ℕ × List ℕ) → ¬ IsRowText arity text row
row_not arity text read e h = subst (IsRowRead arity text) e h

-- what is read of the rows interprets the signature, with small numbers
pub rows_found : (sig : Signature) (text : List ℕ) (old new : List (ℕ × Vec ℕ Global)) → old ≡ [] → SpellsRows sig text old new true → AreRows sig text (interpretation_of new)
rows_found sig text old new o (more, d, a) = subst (λ z. AreRows sig text (interpretation_of z)) (sym (d ∙ ap (λ z. z ++ more) o)) a

pub rows_small : (sig : Signature) (rows : List (ℕ × List ℕ)) → are_rows sig rows ≡ true → IsSmall rows
rows_small [] [] h k d p = absurd (omega arith)
rows_small [] (row ∷ rows) h k d p = absurd (false≢true h)
rows_small (e ∷ sig) [] h k d p = absurd (false≢true h)
rows_small (e ∷ sig) (row ∷ rows) h zero d p =
    let s = row_from e.arity row (and_parts (is_row e.arity row) (are_rows sig rows) h).0 in
    record { constant = s.constant; coefficients = s.each }
rows_small (e ∷ sig) (row ∷ rows) h (suc k) d p = rows_small sig rows (and_parts (is_row e.arity row) (are_rows sig rows) h).1 k d (omega arith)
