-- Names and symbols, byte by byte.
use Rattle.std.proofs.Common.{◌≡◌, refl, ap, ap₂, sym, ◌∙◌, subst, ⊎_elim, arith, ℕ, zero, suc, ◌+◌, ◌-◌, ◌<◌, ◌≤◌, ◌==◌, List, [], ◌∷◌, ◌++◌, Bool, true, false, not, ◌&&◌, length, length-append, get_or, take, drop, take-append-drop, All}
use Rattle.std.specs.Prelude.{codes, map}
use Rattle.std.specs.List.{slice_split}
use Rattle.std.proofs.lemmas.Bool.{cases_lt}
use Rattle.std.proofs.lemmas.List.{at_drop_more, get_or-map, length-map, length-drop, take_more}
use Rattle.std.proofs.lemmas.List.Elements.{All-head, All-tail}
use Rattle.kb_term.specs.Identifier.{begins_otherwise, is_unbroken, IsIdentifier}
use Rattle.kb_term.specs.Signature.{Signature, SymbolEntry, IsSignature, symbols_of_list}
use Rattle.kb_text.proofs.IdentifierLaws.{Entry}
use Rattle.kb_report.specs.Answers.{entry_text}
use Rattle.kb_report.specs.SystemSections.{AreSymbols, IsSymbolsLine}
use Rattle.kb_report.proofs.SystemLines.{IsNamed, IsSmall, entry_parts, symbols_cut, field}

-- ---- identifiers

pub unbroken_more : (bytes rest : List ℕ) (i : ℕ) → i < length bytes → rest ≡ drop i bytes → begins_otherwise rest ≡ false → is_unbroken (drop i bytes) ≡ is_unbroken (drop (i + 1) bytes)
unbroken_more bytes rest i h e b =
    at_drop_more is_unbroken bytes i 0 h ∙ ap (λ (v : Bool). not v && is_unbroken (drop (i + 1) bytes)) (sym (at_drop_more begins_otherwise bytes i 0 h) ∙ ap begins_otherwise (sym e) ∙ b)

pub broken_here : (bytes rest : List ℕ) (i : ℕ) → i < length bytes → rest ≡ drop i bytes → begins_otherwise rest ≡ true → is_unbroken (drop i bytes) ≡ false
broken_here bytes rest i h e b =
    at_drop_more is_unbroken bytes i 0 h ∙ ap (λ (v : Bool). not v && is_unbroken (drop (i + 1) bytes)) (sym (at_drop_more begins_otherwise bytes i 0 h) ∙ ap begins_otherwise (sym e) ∙ b)

-- ---- names of a signature

abbrev entry_of : Entry → SymbolEntry
entry_of e = record { name = e.0.items; arity = e.1 }

pub named_at : (es : List Entry) → IsSignature (symbols_of_list es) → (k : ℕ) (d : Entry) → k < length es → IsIdentifier (get_or es k d).0.items × (length (get_or es k d).0.items ≤ 64)
named_at es s k d h = subst IsNamed (get_or-map entry_of es k d (entry_of d) h) (s.names k (entry_of d) (omega (arith, length-map es entry_of)))

pub differ_at : (es : List Entry) → IsSignature (symbols_of_list es) → (j k : ℕ) (d : Entry) → j < k → k < length es → ¬ ((get_or es j d).0.items ≡ (get_or es k d).0.items)
differ_at es s j k d l h e =
    s.differ j k (entry_of d) l (omega (arith, length-map es entry_of)) (ap (λ (f : SymbolEntry). f.name) (get_or-map entry_of es j d (entry_of d) (omega arith)) ∙ e ∙ sym (ap (λ (f : SymbolEntry). f.name) (get_or-map entry_of es k d (entry_of d) h)))

get_any : {X : Type 0} (xs : List X) (i : ℕ) (d e : X) → i < length xs → get_or xs i d ≡ get_or xs i e
get_any [] i d e h = absurd (omega arith)
get_any (x ∷ xs) zero d e h = refl
get_any (x ∷ xs) (suc i) d e h = get_any xs i d e (omega arith)

abbrev pub IsName : List ℕ → Type 0
IsName bytes = IsIdentifier bytes × (length bytes ≤ 64)

pub name_at : (es : List Entry) (i : ℕ) (e d : Entry) (bytes : List ℕ) → i < length es → bytes ≡ (get_or es i e).0.items → bytes ≡ (get_or es i d).0.items
name_at es i e d bytes h b = b ∙ ap (λ (x : Entry). x.0.items) (get_any es i e d h)

pub named_more : (es : List Entry) (i : ℕ) → ((k : ℕ) (d : Entry) → k < i → IsName (get_or es k d).0.items) → ((d : Entry) → IsName (get_or es i d).0.items) → (k : ℕ) (d : Entry) → k < i + 1 → IsName (get_or es k d).0.items
named_more es i h here k d l = ⊎_elim (h k d) (λ m. let same : i ≡ k = omega arith in subst {A = ℕ} (λ n. IsName (get_or es n d).0.items) same (here d)) (cases_lt k i)

pub differ_more : (es : List Entry) (i : ℕ) → ((j k : ℕ) (d : Entry) → j < k → k < i → ¬ ((get_or es j d).0.items ≡ (get_or es k d).0.items)) → ((j : ℕ) (d : Entry) → j < i → ¬ ((get_or es j d).0.items ≡ (get_or es i d).0.items)) → (j k : ℕ) (d : Entry) → j < k → k < i + 1 → ¬ ((get_or es j d).0.items ≡ (get_or es k d).0.items)
differ_more es i h here j k d p l = ⊎_elim (h j k d p) (λ m. let same : i ≡ k = omega arith in subst {A = ℕ} (λ n. ¬ ((get_or es j d).0.items ≡ (get_or es n d).0.items)) same (here j d (omega arith))) (cases_lt k i)

-- ---- entries

pub entry_long : (f : SymbolEntry) (field : List ℕ) → f.arity ≤ 8 → entry_text f ≡ field → 2 ≤ length field
entry_long f field s e = let n = ap length (sym (entry_parts f s) ∙ e) in omega (arith, length-append f.name (47 ∷ (48 + f.arity) ∷ []))

behind : (xs ys : List ℕ) → drop (length xs) (xs ++ ys) ≡ ys
behind [] ys = refl
behind (x ∷ xs) ys = behind xs ys

pub entry_tail : (f : SymbolEntry) (field : List ℕ) → f.arity ≤ 8 → entry_text f ≡ field → drop (length field - 2) field ≡ 47 ∷ (48 + f.arity) ∷ []
entry_tail f field s e =
    let whole = sym (entry_parts f s) ∙ e in
    let n = ap length whole in
    let same : length field - 2 ≡ length f.name = omega (arith, length-append f.name (47 ∷ (48 + f.arity) ∷ [])) in
    ap₂ drop same (sym whole) ∙ behind f.name (47 ∷ (48 + f.arity) ∷ [])

two_bytes : (xs : List ℕ) (b c : ℕ) → length xs ≡ 2 → get_or xs 0 0 ≡ b → get_or xs 1 0 ≡ c → xs ≡ b ∷ c ∷ []
two_bytes [] b c h e d = absurd (omega arith)
two_bytes (x ∷ []) b c h e d = absurd (omega arith)
two_bytes (x ∷ y ∷ []) b c h e d = ap₂ (λ p q. p ∷ q ∷ []) e d
two_bytes (x ∷ y ∷ z ∷ xs) b c h e d = absurd (omega arith)

pub entry_made : (field tail : List ℕ) (f : SymbolEntry) → f.name ≡ take (length field - 2) field → tail ≡ drop (length field - 2) field → 2 ≤ length field → get_or tail 0 0 ≡ 47 → get_or tail 1 0 ≡ 48 + f.arity → f.arity ≤ 8 → entry_text f ≡ field
entry_made field tail f n t l s d a =
    let long : length tail ≡ 2 = omega (arith, ap length t, length-drop (length field - 2) field) in
    entry_parts f a ∙ ap₂ (λ (x y : List ℕ). x ++ y) n (sym (two_bytes tail 47 (48 + f.arity) long s d) ∙ t) ∙ take-append-drop (length field - 2) field

-- one entry that the list has not
pub no_entry : (s : Signature) (fields : List (List ℕ)) (k : ℕ) → All IsSmall s → map entry_text s ≡ drop 1 fields → 1 ≤ k → k < length fields → ((f : SymbolEntry) → f.arity ≤ 8 → ¬ (entry_text f ≡ get_or fields k [])) → ⊥
no_entry s [] k a e l h none = omega arith
no_entry s (x ∷ fields) zero a e l h none = omega arith
no_entry s (x ∷ fields) (suc k) a e l h none = go s fields k a e (omega arith) none
  where
    go : (s : Signature) (fields : List (List ℕ)) (k : ℕ) → All IsSmall s → map entry_text s ≡ fields → k < length fields → ((f : SymbolEntry) → f.arity ≤ 8 → ¬ (entry_text f ≡ get_or fields k [])) → ⊥
    go [] [] k a e h none = omega arith
    go [] (y ∷ ys) k a e h none = let n = ap length e in omega arith
    go (f ∷ fs) [] k a e h none = omega arith
    go (f ∷ fs) (y ∷ ys) zero a e h none = none f (All-head IsSmall f fs a) (let t : entry_text f ≡ y = cc in t)
    go (f ∷ fs) (y ∷ ys) (suc k) a e h none = let t : map entry_text fs ≡ ys = cc in go fs ys k (All-tail IsSmall f fs a) t (omega arith) none

-- one field more
pub entries_more : (fields : List (List ℕ)) (k : ℕ) → 1 ≤ k → k < length fields → drop 1 (take k fields) ++ get_or fields k [] ∷ [] ≡ drop 1 (take (k + 1) fields)
entries_more [] k l h = absurd (omega arith)
entries_more (x ∷ xs) zero l h = absurd (omega arith)
entries_more (x ∷ xs) (suc k) l h =
    let more : suc k + 1 ≡ suc (k + 1) = omega arith in
    sym (take_more xs k [] (omega arith)) ∙ ap (λ n. drop 1 (take n (x ∷ xs))) (sym more)

pub first_field : (fields : List (List ℕ)) → 0 < length fields → fields ≡ get_or fields 0 [] ∷ drop 1 fields
first_field [] h = absurd (omega arith)
first_field (x ∷ xs) h = refl

-- ---- the line

pub symbols_fields_are : (line : List ℕ) (fields : List (List ℕ)) (s : Signature) → fields ≡ slice_split (λ b. b == 32) line → IsSymbolsLine line s → fields ≡ codes "SYMBOLS" ∷ map entry_text s
symbols_fields_are line fields s c k = c ∙ ap (slice_split (λ b. b == 32)) k.spelling ∙ symbols_cut s k.form

pub no_symbols : AreSymbols []
no_symbols = record { names = record { names = λ k d h. absurd (omega arith); differ = λ i j d h l. absurd (omega arith) }; few = omega arith; arities = λ k d h. absurd (omega arith) }
