-- The line of a certificate: it holds no line feed, and tells the certificate.
use Rattle.std.proofs.Common.{◌≡◌, refl, ap, ap₂, sym, ◌∙◌, arith, ⊎_elim, ℕ, zero, suc, ◌<◌, ◌≤◌, ◌==◌, List, [], ◌∷◌, ◌++◌, drop, true, ◌&&◌, length, get_or, All}
use Rattle.std.specs.Prelude.{codes, decimal, map, nat_eq, IsTrue, replicate}
use Rattle.std.specs.List.{slice_split, list_all, join_with_byte}
use Rattle.std.proofs.lemmas.Bool.{cases_lt, eq-eqb}
use Rattle.std.proofs.lemmas.Fmt.{decimal_injective}
use Rattle.std.proofs.lemmas.List.{length-replicate}
use Rattle.std.proofs.lemmas.List.Elements.{All-head, All-tail, All-cons, All-weaker}
use Rattle.kb_lemmas.proofs.Numbers.{eq_above}
use Rattle.kb_term.specs.Signature.{Signature, SymbolEntry, IsSignature}
use Rattle.kb_linear.specs.Limits.{IsSmallRow}
use Rattle.kb_text.specs.Fields.{IsWithout}
use Rattle.kb_text.proofs.Cuts.{AreWithout, are_without-append, fields_cut}
use Rattle.kb_text.proofs.PlainTexts.{IsBlank, space_blank, feed_blank, word_without, decimal_without, join_without}
use Rattle.kb_cert.specs.CertificateText.{names_of, name_at, interp_text, weight_fields, cert_fields, is_between, are_rows, is_certificate}
use Rattle.kb_cert.specs.declared.certificate.Certificate.{Certificate}
use Rattle.kb_cert.specs.declared.certificate.Certificate.TheVariants.{Lpo, Linear, Kbo}
use Rattle.kb_kbo.specs.KnuthBendix.{KboOrder}
use Rattle.kb_cert.proofs.OrderTexts.{tested}
use Rattle.kb_cert.proofs.Different.{precedence_from}
use Rattle.kb_cert.proofs.RowLaws.{rows_small}
use Rattle.kb_report.specs.SystemSections.{order_body}
use Rattle.kb_report.proofs.SystemLines.{head_of, tail_of, IsNamed, unbroken_without}

-- ---- names

name_without : (c : ℕ) → IsBlank c → (sig : Signature) (f : ℕ) → All IsNamed sig → f < length sig → IsWithout c (name_at (names_of sig) f)
name_without c k [] f n h = absurd (omega arith)
name_without c k (e ∷ es) zero n h = unbroken_without c k e.name (All-head IsNamed e es n).0.unbroken
name_without c k (e ∷ es) (suc f) n h = name_without c k es f (All-tail IsNamed e es n) (omega arith)

symbols_without : (c : ℕ) → IsBlank c → (sig : Signature) → IsSignature sig → (fs : List ℕ) → All (λ f. f < length sig) fs → AreWithout c (map (name_at (names_of sig)) fs)
symbols_without c k sig i [] h = tt
symbols_without c k sig i (f ∷ fs) h = (name_without c k sig f i.names (All-head (λ f. f < length sig) f fs h), symbols_without c k sig i fs (All-tail (λ f. f < length sig) f fs h))

name_entry : (sig : Signature) (f : ℕ) (d : SymbolEntry) → f < length sig → name_at (names_of sig) f ≡ (get_or sig f d).name
name_entry [] f d p = absurd (omega arith)
name_entry (e ∷ sig) zero d p = refl
name_entry (e ∷ sig) (suc f) d p = name_entry sig f d (omega arith)

one_symbol : (sig : Signature) → IsSignature sig → (f g : ℕ) → f < length sig → g < length sig → name_at (names_of sig) f ≡ name_at (names_of sig) g → f ≡ g
one_symbol sig s f g p q e = ⊎_elim (λ l. absurd (apart f g l q e)) (λ l. ⊎_elim (λ m. absurd (apart g f m p (sym e))) (λ m. omega arith) (cases_lt g f)) (cases_lt f g)
  where
    d : SymbolEntry
    d = record { name = []; arity = 0 }

    apart : (f g : ℕ) → f < g → g < length sig → ¬ (name_at (names_of sig) f ≡ name_at (names_of sig) g)
    apart f g l q e = s.differ f g d l q (sym (name_entry sig f d (omega arith)) ∙ e ∙ name_entry sig g d q)

one_symbols : (sig : Signature) → IsSignature sig → (fs gs : List ℕ) → All (λ f. f < length sig) fs → All (λ f. f < length sig) gs → map (name_at (names_of sig)) fs ≡ map (name_at (names_of sig)) gs → fs ≡ gs
one_symbols sig i [] [] h k e = refl
one_symbols sig i [] (g ∷ gs) h k e = absurd (let n = ap length e in omega arith)
one_symbols sig i (f ∷ fs) [] h k e = absurd (let n = ap length e in omega arith)
one_symbols sig i (f ∷ fs) (g ∷ gs) h k e =
    ap₂ (λ x xs. x ∷ xs) (one_symbol sig i f g (All-head (λ f. f < length sig) f fs h) (All-head (λ f. f < length sig) g gs k) (ap head_of e))
    (one_symbols sig i fs gs (All-tail (λ f. f < length sig) f fs h) (All-tail (λ f. f < length sig) g gs k) (ap tail_of e))

-- ---- rows

abbrev IsNumber : ℕ → Type 0
IsNumber n = n ≤ 15

coefficients_numbers : (ns : List ℕ) → All (λ n. (1 ≤ n) × (n ≤ 3)) ns → All IsNumber ns
coefficients_numbers ns a = All-weaker (λ n. (1 ≤ n) × (n ≤ 3)) IsNumber (λ n h. let k = h.1 in omega arith) ns a

numbers_without : (c : ℕ) → c < 48 → (ns : List ℕ) → All IsNumber ns → AreWithout c (map decimal ns)
numbers_without c h [] a = tt
numbers_without c h (n ∷ ns) a = let k = All-head IsNumber n ns a in (decimal_without c n h (omega arith), numbers_without c h ns (All-tail IsNumber n ns a))

row_numbers : (row : ℕ × List ℕ) → IsSmallRow row → All IsNumber (row.0 ∷ row.1)
row_numbers row s = All-cons IsNumber row.0 row.1 s.constant (coefficients_numbers row.1 s.coefficients)

rows_without : (c : ℕ) → c < 40 → (rows : List (ℕ × List ℕ)) → All IsSmallRow rows → AreWithout c (map interp_text rows)
rows_without c h [] a = tt
rows_without c h (row ∷ rows) a =
    (join_without c 44 (decimal row.0 ∷ map decimal row.1) (eq_above 44 c (omega arith)) (numbers_without c (omega arith) (row.0 ∷ row.1) (row_numbers row (All-head IsSmallRow row rows a))), rows_without c h rows (All-tail IsSmallRow row rows a))

one_numbers : (ns ms : List ℕ) → All IsNumber ns → All IsNumber ms → map decimal ns ≡ map decimal ms → ns ≡ ms
one_numbers [] [] a b e = refl
one_numbers [] (m ∷ ms) a b e = absurd (let n = ap length e in omega arith)
one_numbers (n ∷ ns) [] a b e = absurd (let m = ap length e in omega arith)
one_numbers (n ∷ ns) (m ∷ ms) a b e =
    let h = All-head IsNumber n ns a in
    let k = All-head IsNumber m ms b in
    ap₂ (λ x xs. x ∷ xs) (decimal_injective n m (omega arith) (omega arith) (ap head_of e)) (one_numbers ns ms (All-tail IsNumber n ns a) (All-tail IsNumber m ms b) (ap tail_of e))

-- numbers parted by commas
one_field : (n : ℕ) (ns : List ℕ) (m : ℕ) (ms : List ℕ) → All IsNumber (n ∷ ns) → All IsNumber (m ∷ ms) → join_with_byte 44 (decimal n ∷ map decimal ns) ≡ join_with_byte 44 (decimal m ∷ map decimal ms) → n ∷ ns ≡ m ∷ ms
one_field n ns m ms a b e =
    one_numbers (n ∷ ns) (m ∷ ms) a b
    (sym (fields_cut 44 (decimal n) (map decimal ns) (numbers_without 44 (omega arith) (n ∷ ns) a)) ∙ ap (slice_split (λ b. b == 44)) e ∙ fields_cut 44 (decimal m) (map decimal ms) (numbers_without 44 (omega arith) (m ∷ ms) b))

one_row : (r s : ℕ × List ℕ) → IsSmallRow r → IsSmallRow s → interp_text r ≡ interp_text s → r ≡ s
one_row r s a b e =
    let numbers = one_field r.0 r.1 s.0 s.1 (row_numbers r a) (row_numbers s b) e in
    let constants = ap first_of numbers in
    let coefficients = ap rest_of numbers in
    λ i. (constants i, coefficients i)
  where
    first_of : List ℕ → ℕ
    first_of xs = get_or xs 0 0

    rest_of : List ℕ → List ℕ
    rest_of xs = drop 1 xs

one_rows : (rs ss : List (ℕ × List ℕ)) → All IsSmallRow rs → All IsSmallRow ss → map interp_text rs ≡ map interp_text ss → rs ≡ ss
one_rows [] [] a b e = refl
one_rows [] (s ∷ ss) a b e = absurd (let n = ap length e in omega arith)
one_rows (r ∷ rs) [] a b e = absurd (let n = ap length e in omega arith)
one_rows (r ∷ rs) (s ∷ ss) a b e =
    ap₂ (λ (x : ℕ × List ℕ) (xs : List (ℕ × List ℕ)). x ∷ xs) (one_row r s (All-head IsSmallRow r rs a) (All-head IsSmallRow s ss b) (ap head_of e)) (one_rows rs ss (All-tail IsSmallRow r rs a) (All-tail IsSmallRow s ss b) (ap tail_of e))

-- ---- weights

weights_without : (c : ℕ) → c < 40 → (ws : List ℕ) → All IsNumber ws → AreWithout c (weight_fields ws)
weights_without c h [] a = tt
weights_without c h (w ∷ ws) a = (join_without c 44 (decimal w ∷ map decimal ws) (eq_above 44 c (omega arith)) (numbers_without c (omega arith) (w ∷ ws) a), tt)

order_numbers : (sig : Signature) (o : KboOrder) → IsTrue (is_certificate sig (Kbo o)) → All IsNumber o.weights
order_numbers sig o h = All-weaker (λ n. (1 ≤ n) × (n ≤ 15)) IsNumber (λ n w. w.1) o.weights (tested sig o.weights o.precedence h).1

order_symbols : (sig : Signature) (o : KboOrder) → IsTrue (is_certificate sig (Kbo o)) → All (λ f. f < length sig) o.precedence
order_symbols sig o h = (precedence_from sig o.precedence (tested sig o.weights o.precedence h).2).within

-- as many weights, and the names behind them
one_weights : (sig : Signature) → IsSignature sig → (ws vs fs gs : List ℕ) → length ws ≡ length vs → All IsNumber ws → All IsNumber vs → All (λ f. f < length sig) fs → All (λ f. f < length sig) gs
    → weight_fields ws ++ map (name_at (names_of sig)) fs ≡ weight_fields vs ++ map (name_at (names_of sig)) gs → (ws ≡ vs) × (fs ≡ gs)
one_weights sig i [] [] fs gs l a b h k e = (refl, one_symbols sig i fs gs h k e)
one_weights sig i [] (v ∷ vs) fs gs l a b h k e = absurd (omega arith)
one_weights sig i (w ∷ ws) [] fs gs l a b h k e = absurd (omega arith)
one_weights sig i (w ∷ ws) (v ∷ vs) fs gs l a b h k e = (one_field w ws v vs a b (ap head_of e), one_symbols sig i fs gs h k (ap tail_of e))

one_order_certificate : (sig : Signature) → IsSignature sig → (o q : KboOrder) → IsTrue (is_certificate sig (Kbo o)) → IsTrue (is_certificate sig (Kbo q)) → cert_fields (names_of sig) (Kbo o) ≡ cert_fields (names_of sig) (Kbo q) → Kbo o ≡ Kbo q
one_order_certificate sig i o q h k e =
    let l = (tested sig o.weights o.precedence h).0 ∙ sym (tested sig q.weights q.precedence k).0 in
    let r = one_weights sig i o.weights q.weights o.precedence q.precedence l (order_numbers sig o h) (order_numbers sig q k) (order_symbols sig o h) (order_symbols sig q k) (ap tail_of e) in
    ap₂ (λ (w p : List ℕ). Kbo (record { weights = w; precedence = p })) r.0 r.1

-- ---- certificates

cert_without : (c : ℕ) → IsBlank c → (sig : Signature) → IsSignature sig → (cert : Certificate) → IsTrue (is_certificate sig cert) → AreWithout c (codes "ORDER" ∷ cert_fields (names_of sig) cert)
cert_without c k sig i (Lpo symbols) h = (word_without c k.low (codes "ORDER") refl, (word_without c k.low (codes "LPO") refl, symbols_without c k sig i symbols (precedence_from sig symbols h).within))
cert_without c k sig i (Linear rows) h = (word_without c k.low (codes "ORDER") refl, (word_without c k.low (codes "LINEAR") refl, rows_without c k.low rows (rows_small sig rows h)))
cert_without c k sig i (Kbo order) h = (
  word_without c k.low (codes "ORDER") refl,
  (
    word_without c k.low (codes "KBO") refl,
    are_without-append c (weight_fields order.weights) (map (name_at (names_of sig)) order.precedence) (weights_without c k.low order.weights (order_numbers sig order h)) (symbols_without c k sig i order.precedence (order_symbols sig order h)),
  ),
)

pub order_without : (sig : Signature) → IsSignature sig → (cert : Certificate) → IsTrue (is_certificate sig cert) → IsWithout 10 (order_body (names_of sig) cert)
order_without sig i cert h = join_without 10 32 (codes "ORDER" ∷ cert_fields (names_of sig) cert) (eq_above 32 10 (omega arith)) (cert_without 10 feed_blank sig i cert h)

one_cert : (sig : Signature) → IsSignature sig → (a b : Certificate) → IsTrue (is_certificate sig a) → IsTrue (is_certificate sig b) → cert_fields (names_of sig) a ≡ cert_fields (names_of sig) b → a ≡ b
one_cert sig i (Lpo fs) (Lpo gs) h k e = ap Lpo (one_symbols sig i fs gs (precedence_from sig fs h).within (precedence_from sig gs k).within (ap tail_of e))
one_cert sig i (Lpo fs) (Linear rows) h k e = absurd (let n = ap length (ap head_of e) in omega arith)
one_cert sig i (Linear rows) (Lpo fs) h k e = absurd (let n = ap length (ap head_of e) in omega arith)
one_cert sig i (Linear rs) (Linear ss) h k e = ap Linear (one_rows rs ss (rows_small sig rs h) (rows_small sig ss k) (ap tail_of e))
one_cert sig i (Kbo o) (Kbo q) h k e = one_order_certificate sig i o q h k e
one_cert sig i (Kbo o) (Linear rows) h k e = absurd (let n = ap length (ap head_of e) in omega arith)
one_cert sig i (Linear rows) (Kbo o) h k e = absurd (let n = ap length (ap head_of e) in omega arith)
one_cert sig i (Kbo o) (Lpo fs) h k e = absurd (let n = ap (λ w. get_or w 0 0) (ap head_of e) in omega arith)
one_cert sig i (Lpo fs) (Kbo o) h k e = absurd (let n = ap (λ w. get_or w 0 0) (ap head_of e) in omega arith)

pub one_order : (sig : Signature) → IsSignature sig → (a b : Certificate) → IsTrue (is_certificate sig a) → IsTrue (is_certificate sig b) → order_body (names_of sig) a ≡ order_body (names_of sig) b → a ≡ b
one_order sig i a b h k e =
    let names = names_of sig in
    one_cert sig i a b h k (ap tail_of (sym (fields_cut 32 (codes "ORDER") (cert_fields names a) (cert_without 32 space_blank sig i a h)) ∙ ap (slice_split (λ b. b == 32)) e ∙ fields_cut 32 (codes "ORDER") (cert_fields names b) (cert_without 32 space_blank sig i b k)))

-- each signature has a certificate
abbrev ones : SymbolEntry → ℕ × List ℕ
ones e = (0, replicate e.arity 1)

ones_row : (n : ℕ) → list_all (is_between 1 3) (replicate n 1) ≡ true
ones_row zero = refl
ones_row (suc n) = ones_row n

ones_rows : (sig : Signature) → are_rows sig (map ones sig) ≡ true
ones_rows [] = refl
ones_rows (e ∷ sig) =
    let l : nat_eq (length (replicate e.arity 1)) e.arity ≡ true = eq-eqb (length (replicate e.arity 1)) e.arity (length-replicate e.arity 1) in
    let r = ones_row e.arity in
    let s = ones_rows sig in
    λ i. (l i && r i) && s i

pub some_cert : (sig : Signature) → (c : Certificate) × IsTrue (is_certificate sig c)
some_cert sig = (Linear (map ones sig), ones_rows sig)
