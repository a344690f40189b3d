-- The lines of a system: they hold no line feed, and each tells its value.
use Rattle.std.proofs.Common.{append_assoc, ◌≡◌, refl, ap, ap₂, sym, ◌∙◌, subst, arith, ℕ, ◌+◌, ◌<◌, ◌≤◌, ◌==◌, List, [], ◌∷◌, ◌++◌, Bool, true, false, not, ◌||◌, length, length-append, get_or, All}
use Rattle.std.specs.Prelude.{codes, decimal, map}
use Rattle.std.specs.List.{list_any, starts_with, slice_split}
use Rattle.std.proofs.lemmas.Bool.{false≢true, ne_eqb, and_parts, not-true}
use Rattle.std.proofs.lemmas.Fmt.{decimal_digit}
use Rattle.std.proofs.lemmas.List.Elements.{All-head, All-tail, Contains-get_or}
use Rattle.kb_trace.proofs.OneStep.{again}
use Rattle.kb_lemmas.proofs.Numbers.{eq_above}
use Rattle.kb_term.specs.Identifier.{marks, begins_otherwise, is_unbroken, IsIdentifier}
use Rattle.kb_term.specs.Signature.{Signature, SymbolEntry, IsSignature, IsEquationWithinLimits}
use Rattle.kb_term.specs.Tree.{Tree, variables_of, HasVariablesBelow}
use Rattle.kb_term.proofs.RuleBelow.{numbered-below}
use Rattle.kb_text.specs.Fields.{IsWithout}
use Rattle.kb_text.specs.Terms.{TermSpelled, names_of, term_text, infix_text}
use Rattle.kb_text.proofs.Cuts.{AreWithout, without-append, fields_cut}
use Rattle.kb_text.proofs.PlainTexts.{IsBlank, space_blank, feed_blank, word_without, decimal_without, join_without, text_without}
use Rattle.kb_text.proofs.TermParts.{spelled_bounded, one_spelled}
use Rattle.kb_report.specs.Answers.{entry_text}
use Rattle.kb_report.specs.SystemSections.{symbols_body, equation_body, AreSymbols}

abbrev pub head_of : List (List ℕ) → List ℕ
head_of [] = []
head_of (x ∷ xs) = x

abbrev pub tail_of : List (List ℕ) → List (List ℕ)
tail_of [] = []
tail_of (x ∷ xs) = xs

abbrev pub field : ℕ → List (List ℕ) → List ℕ
field k xs = get_or xs k []

-- ---- symbols

no_white : (c : ℕ) → IsBlank c → (b : ℕ) (bytes : List ℕ) → begins_otherwise (b ∷ bytes) ≡ false → (b == c) ≡ false
no_white c k b bytes h =
    ne_eqb b c (λ e. false≢true (sym h ∙ ap (λ z. begins_otherwise (z ∷ bytes)) e ∙ ap (λ (v : Bool). v || list_any (λ mark. starts_with ◌==◌ (c ∷ bytes) mark) marks) k.white))

pub unbroken_without : (c : ℕ) → IsBlank c → (bytes : List ℕ) → is_unbroken bytes ≡ true → IsWithout c bytes
unbroken_without c k [] h = tt
unbroken_without c k (b ∷ bytes) h =
    let r = and_parts (not (begins_otherwise (b ∷ bytes))) (is_unbroken bytes) h in
    (no_white c k b bytes (not-true (begins_otherwise (b ∷ bytes)) r.0), unbroken_without c k bytes r.1)

abbrev pub IsNamed : SymbolEntry → Type 0
IsNamed e = IsIdentifier e.name × (length e.name ≤ 64)

abbrev pub IsSmall : SymbolEntry → Type 0
IsSmall e = e.arity ≤ 8

entry_without : (c : ℕ) → IsBlank c → (e : SymbolEntry) → IsNamed e → IsSmall e → IsWithout c (entry_text e)
entry_without c k e n s =
    let low = k.low in
    without-append c (e.name ++ codes "/") (decimal e.arity) (without-append c e.name (codes "/") (unbroken_without c k e.name n.0.unbroken) (word_without c low (codes "/") refl)) (decimal_without c e.arity (omega arith) (omega arith))

pub entries_without : (c : ℕ) → IsBlank c → (sig : Signature) → All IsNamed sig → All IsSmall sig → AreWithout c (map entry_text sig)
entries_without c k [] n s = tt
entries_without c k (e ∷ es) n s = (entry_without c k e (All-head IsNamed e es n) (All-head IsSmall e es s), entries_without c k es (All-tail IsNamed e es n) (All-tail IsSmall e es s))

-- a name, a slash and a digit
pub entry_parts : (e : SymbolEntry) → IsSmall e → entry_text e ≡ e.name ++ 47 ∷ (48 + e.arity) ∷ []
entry_parts e s = ap (e.name ++ codes "/" ++◌) (decimal_digit e.arity (omega arith)) ∙ append_assoc e.name (47 ∷ []) ((48 + e.arity) ∷ [])

same_front : (xs ys zs ws : List ℕ) → length zs ≡ length ws → xs ++ zs ≡ ys ++ ws → (xs ≡ ys) × (zs ≡ ws)
same_front [] [] zs ws h e = (refl, e)
same_front [] (y ∷ ys) zs ws h e = absurd (let n = ap length e in omega (arith, length-append ys ws))
same_front (x ∷ xs) [] zs ws h e = absurd (let n = ap length e in omega (arith, length-append xs zs))
same_front (x ∷ xs) (y ∷ ys) zs ws h e =
    let s : x ≡ y = cc in
    let t : xs ++ zs ≡ ys ++ ws = cc in
    let r = same_front xs ys zs ws h t in (ap₂ (λ z zs. z ∷ zs) s r.0, r.1)

pub one_entry : (e f : SymbolEntry) → IsSmall e → IsSmall f → entry_text e ≡ entry_text f → e ≡ f
one_entry e f s t q =
    let r = same_front e.name f.name (47 ∷ (48 + e.arity) ∷ []) (47 ∷ (48 + f.arity) ∷ []) refl (sym (entry_parts e s) ∙ q ∙ entry_parts f t) in
    let d = ap (λ (xs : List ℕ). get_or xs 1 0) r.1 in
    let arities : e.arity ≡ f.arity = omega arith in
    let names = r.0 in
    λ i. record { name = names i; arity = arities i }

pub one_entries : (s t : Signature) → All IsSmall s → All IsSmall t → map entry_text s ≡ map entry_text t → s ≡ t
one_entries [] [] a b e = refl
one_entries [] (f ∷ fs) a b e = absurd (let n = ap length e in omega arith)
one_entries (f ∷ fs) [] a b e = absurd (let n = ap length e in omega arith)
one_entries (f ∷ fs) (g ∷ gs) a b e =
    ap₂ (λ (x : SymbolEntry) (xs : Signature). x ∷ xs) (one_entry f g (All-head IsSmall f fs a) (All-head IsSmall g gs b) (ap head_of e)) (one_entries fs gs (All-tail IsSmall f fs a) (All-tail IsSmall g gs b) (ap tail_of e))

symbols_fields : (c : ℕ) → IsBlank c → (s : Signature) → AreSymbols s → AreWithout c (codes "SYMBOLS" ∷ map entry_text s)
symbols_fields c k s h = (word_without c k.low (codes "SYMBOLS") refl, entries_without c k s h.names.names h.arities)

pub symbols_without : (s : Signature) → AreSymbols s → IsWithout 10 (symbols_body s)
symbols_without s h = join_without 10 32 (codes "SYMBOLS" ∷ map entry_text s) (eq_above 32 10 (omega arith)) (symbols_fields 10 feed_blank s h)

pub symbols_cut : (s : Signature) → AreSymbols s → slice_split (λ b. b == 32) (symbols_body s) ≡ codes "SYMBOLS" ∷ map entry_text s
symbols_cut s h = fields_cut 32 (codes "SYMBOLS") (map entry_text s) (symbols_fields 32 space_blank s h)

pub one_symbols : (s t : Signature) → AreSymbols s → AreSymbols t → symbols_body s ≡ symbols_body t → s ≡ t
one_symbols s t h k e = one_entries s t h.arities k.arities (ap tail_of (sym (symbols_cut s h) ∙ ap (slice_split (λ b. b == 32)) e ∙ symbols_cut t k))

-- ---- two terms that are numbered by first occurrence

all_below : (t : Tree) → HasVariablesBelow 64 t → All (λ n. n < 64) (variables_of t)
all_below t h = λ k d l. h (get_or (variables_of t) k d) (Contains-get_or (variables_of t) k d l)

-- how the two sides are written
pub record AreSpelled (sig : Signature) (s t : Tree) : Type 0 where
  pub left : TermSpelled sig (term_text (names_of sig) s) s
  pub right : TermSpelled sig (term_text (names_of sig) t) t

pub sides_spelled : (sig : Signature) (s t : Tree) → IsEquationWithinLimits sig (s, t) → AreSpelled sig s t
sides_spelled sig s t f =
    let b = numbered-below s t 64 f.variables in
    record {
      left = record { within = f.left; variables = all_below s (subst (HasVariablesBelow 64) (ap (λ p. p.first) f.by_occurrence) b.left); spelling = refl };
      right = record { within = f.right; variables = all_below t (subst (HasVariablesBelow 64) (ap (λ p. p.second) f.by_occurrence) b.right); spelling = refl };
    }

pub sides_without : (c : ℕ) → IsBlank c → (sig : Signature) → IsSignature sig → (sign : List ℕ) → IsWithout c sign → (s t : Tree) → IsEquationWithinLimits sig (s, t) → AreWithout c (infix_text (names_of sig) sign s t)
sides_without c k sig i sign w s t f =
    let names = names_of sig in
    let a = sides_spelled sig s t f in
    (text_without c k sig i 64 s (spelled_bounded sig (term_text names s) s a.left), (w, (text_without c k sig i 64 t (spelled_bounded sig (term_text names t) t a.right), tt)))

pub one_sides : (sig : Signature) → IsSignature sig → (s t u v : Tree) → IsEquationWithinLimits sig (s, t) → IsEquationWithinLimits sig (u, v) → term_text (names_of sig) s ≡ term_text (names_of sig) u → term_text (names_of sig) t ≡ term_text (names_of sig) v → (s ≡ u) × (t ≡ v)
one_sides sig i s t u v f g e d =
    let names = names_of sig in
    let a = sides_spelled sig s t f in
    let b = sides_spelled sig u v g in
    (one_spelled sig (term_text names s) s u i a.left (again sig (term_text names s) u e b.left), one_spelled sig (term_text names t) t v i a.right (again sig (term_text names t) v d b.right))

-- ---- equations

pub equation_fields : (c : ℕ) → IsBlank c → (sig : Signature) → IsSignature sig → (e : Tree × Tree) → IsEquationWithinLimits sig e → AreWithout c (infix_text (names_of sig) (codes "=") e.0 e.1)
equation_fields c k sig i e f = sides_without c k sig i (codes "=") (word_without c k.low (codes "=") refl) e.0 e.1 f

pub equation_without : (sig : Signature) → IsSignature sig → (e : Tree × Tree) → IsEquationWithinLimits sig e → IsWithout 10 (equation_body (names_of sig) e)
equation_without sig i e f = join_without 10 32 (infix_text (names_of sig) (codes "=") e.0 e.1) (eq_above 32 10 (omega arith)) (equation_fields 10 feed_blank sig i e f)

pub equation_cut : (sig : Signature) → IsSignature sig → (e : Tree × Tree) → IsEquationWithinLimits sig e → slice_split (λ b. b == 32) (equation_body (names_of sig) e) ≡ infix_text (names_of sig) (codes "=") e.0 e.1
equation_cut sig i e f = let names = names_of sig in fields_cut 32 (term_text names e.0) (codes "=" ∷ term_text names e.1 ∷ []) (equation_fields 32 space_blank sig i e f)

pub one_equation : (sig : Signature) → IsSignature sig → (e d : Tree × Tree) → IsEquationWithinLimits sig e → IsEquationWithinLimits sig d → equation_body (names_of sig) e ≡ equation_body (names_of sig) d → e ≡ d
one_equation sig i e d f g q =
    let fields = sym (equation_cut sig i e f) ∙ ap (slice_split (λ b. b == 32)) q ∙ equation_cut sig i d g in
    let r = one_sides sig i e.0 e.1 d.0 d.1 f g (ap (field 0) fields) (ap (field 2) fields) in
    let lefts = r.0 in
    let rights = r.1 in
    λ j. (lefts j, rights j)
