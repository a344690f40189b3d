-- Symbols that are all different, and names that tell them apart.
use Rattle.std.proofs.Common.{ℕ, zero, suc, ◌+◌, ◌-◌, ◌≤◌, ◌<◌, ◌≡◌, ⊎_elim, refl, sym, ap, ap₂, ◌∙◌, subst, arith, List, [], ◌∷◌, ◌++◌, length, map, filter, take, drop, get_or, All, Contains, true, ◌==◌, zero-lt-suc, suc-le-suc}
use Rattle.std.specs.Prelude.{not, ◌&&◌, nat_eq, nat_lt}
use Rattle.std.specs.List.{list_all}
use Rattle.std.proofs.lemmas.Bool.{cases_lt, lt-ltb, eq-eqb, eqb-true, ne_eqb, ltb-true, and_parts}
use Rattle.kb_lemmas.proofs.Lists.{filter_less, filter_lost}
use Rattle.kb_lemmas.proofs.Membership.{all_rest}
use Rattle.kb_term.specs.Pair.{distinct}
use Rattle.kb_term.specs.Signature.{Signature, SymbolEntry, IsSignature}
use Rattle.kb_term.specs.declared.term.Symbol.{Symbol}
use Rattle.kb_term.proofs.Variants.{in_distinct}
use Rattle.kb_cert.specs.CertificateText.{each_behind, names_of, name_at, is_precedence}
use Rattle.kb_cert.specs.Reading.{AreDifferent, AreNames, IsPrecedenceText, SpellsNames}
use Rattle.kb_cert.proofs.Fields.{one_cut, behind_at_end, names_free, tail_of}
use Rattle.kb_cert.proofs.Members.{keep_all}

abbrev numbers : List Symbol → List ℕ
numbers symbols = map (λ (f : Symbol). f.0) symbols

-- no symbol stands behind itself
pub different_from : (symbols : List Symbol) → ((k : ℕ) → k < length symbols → ¬ Contains (numbers (drop (k + 1) symbols)) (get_or (numbers symbols) k 0)) → AreDifferent (numbers symbols)
different_from [] h = tt
different_from (f ∷ symbols) h = (h 0 (zero-lt-suc _), different_from symbols (λ k p c. let n : suc k + 1 ≡ suc (k + 1) = omega arith in h (suc k) (suc-le-suc p) (subst (λ z. Contains (numbers (drop z (f ∷ symbols))) (get_or (numbers symbols) k 0)) (sym n) c)))

pub twice_from : (symbols : List Symbol) (k : ℕ) → k < length symbols → Contains (numbers (drop (k + 1) symbols)) (get_or (numbers symbols) k 0) → ¬ AreDifferent (numbers symbols)
twice_from [] k p c d = omega arith
twice_from (f ∷ symbols) zero p c d = d.0 c
twice_from (f ∷ symbols) (suc k) p c d = let n : suc k + 1 ≡ suc (k + 1) = omega arith in twice_from symbols k (omega arith) (subst (λ z. Contains (numbers (drop z (f ∷ symbols))) (get_or (numbers symbols) k 0)) n c) d.1

pub number_at : (symbols : List Symbol) (k : ℕ) (d : Symbol) → k < length symbols → (get_or symbols k d).0 ≡ get_or (numbers symbols) k 0
number_at [] k d p = absurd (omega arith)
number_at (f ∷ symbols) zero d p = refl
number_at (f ∷ symbols) (suc k) d p = number_at symbols k d (omega arith)

pub behind_slice : {X : Type 0} (xs : List X) (n : ℕ) → take (length xs - n) (drop n xs) ≡ drop n xs
behind_slice [] zero = refl
behind_slice [] (suc n) = let e : length {A = ℕ} [] - suc n ≡ 0 = omega arith in rw e refl
behind_slice (x ∷ xs) zero = whole (x ∷ xs) (length (x ∷ xs) - 0) (omega arith)
  where
    whole : {X : Type 0} (xs : List X) (n : ℕ) → n ≡ length xs → take n xs ≡ xs
    whole [] zero e = refl
    whole [] (suc n) e = refl
    whole (x ∷ xs) zero e = absurd (omega arith)
    whole (x ∷ xs) (suc n) e = ap (x ∷◌) (whole xs n (omega arith))
behind_slice (x ∷ xs) (suc n) = let e : suc (length xs) - suc n ≡ length xs - n = omega arith in ap (λ k. take k (drop n xs)) e ∙ behind_slice xs n

-- different members are what is left of repeated ones
pub different_distinct : (xs : List ℕ) → AreDifferent xs → distinct xs ≡ xs
different_distinct [] d = refl
different_distinct (x ∷ xs) d = ap (x ∷◌) (ap (filter (λ y. not (y == x))) (different_distinct xs d.1) ∙ keep_all (λ y. not (y == x)) xs (λ y c. other y c))
  where
    other : (y : ℕ) → Contains xs y → not (y == x) ≡ true
    other y c = ap not (ne_eqb y x (λ e. d.0 (subst (Contains xs) e c)))

distinct_less : (xs : List ℕ) → length (distinct xs) ≤ length xs
distinct_less [] = omega arith
distinct_less (x ∷ xs) = omega (arith, filter_less (λ y. not (y == x)) (distinct xs), distinct_less xs)

pub distinct_different : (xs : List ℕ) → length (distinct xs) ≡ length xs → AreDifferent xs
distinct_different [] h = tt
distinct_different (x ∷ xs) h =
    let l = filter_less (λ y. not (y == x)) (distinct xs) in
    let m = distinct_less xs in
    (λ c. let q = filter_lost (λ y. not (y == x)) (distinct xs) x (in_distinct xs x c) (ap not (eq-eqb x x refl)) in omega arith, distinct_different xs (omega arith))

-- names tell symbols apart
name_entry : (sig : Signature) (f : ℕ) (d : SymbolEntry) → f < length sig → name_at (names_of sig) f ≡ (get_or sig f d).name
name_entry [] f d p = absurd (omega arith)
name_entry (e ∷ sig) zero d p = refl
name_entry (e ∷ sig) (suc f) d p = name_entry sig f d (omega arith)

one_symbol : (sig : Signature) → IsSignature sig → (f g : ℕ) → f < length sig → g < length sig → name_at (names_of sig) f ≡ name_at (names_of sig) g → f ≡ g
one_symbol sig s f g p q e = ⊎_elim (λ l. absurd (apart f g l q e)) (λ l. ⊎_elim (λ m. absurd (apart g f m p (sym e))) (λ m. omega arith) (cases_lt g f)) (cases_lt f g)
  where
    d : SymbolEntry
    d = record { name = []; arity = 0 }

    apart : (f g : ℕ) → f < g → g < length sig → ¬ (name_at (names_of sig) f ≡ name_at (names_of sig) g)
    apart f g l q e = s.differ f g d l q (sym (name_entry sig f d (omega arith)) ∙ e ∙ name_entry sig g d q)

pub same_names : (sig : Signature) → IsSignature sig → (ps qs : List ℕ) → All (λ f. f < length sig) ps → All (λ f. f < length sig) qs → each_behind 32 (map (name_at (names_of sig)) ps) ≡ each_behind 32 (map (name_at (names_of sig)) qs) → ps ≡ qs
same_names sig s [] [] h k e = refl
same_names sig s [] (q ∷ qs) h k e = absurd (cc)
same_names sig s (p ∷ ps) [] h k e = absurd (cc)
same_names sig s (p ∷ ps) (q ∷ qs) h k e =
    let name : ℕ → List ℕ = name_at (names_of sig) in
    let hp = h 0 p (zero-lt-suc _) in
    let hq = k 0 q (zero-lt-suc _) in
    let c = one_cut 32 (name p) (name q) (each_behind 32 (map name ps)) (each_behind 32 (map name qs)) (names_free sig s p hp) (names_free sig s q hq) (behind_at_end 32 (map name ps)) (behind_at_end 32 (map name qs)) (ap tail_of e) in
    ap₂ (λ z zs. z ∷ zs) (one_symbol sig s p q hp hq c.0) (same_names sig s ps qs (all_rest (λ f. f < length sig) p ps h) (all_rest (λ f. f < length sig) q qs k) c.1)

-- what the test of a precedence says
pub record IsPrecedence (sig : Signature) (symbols : List ℕ) : Type 0 where
  pub count : length symbols ≡ length sig
  pub different : AreDifferent symbols
  pub within : All (λ f. f < length sig) symbols

lt_from : (n : ℕ) (xs : List ℕ) → list_all (λ f. nat_lt f n) xs ≡ true → All (λ f. f < n) xs
lt_from n [] h k d p = absurd (omega arith)
lt_from n (x ∷ xs) h zero d p = ltb-true x n (and_parts (nat_lt x n) (list_all (λ f. nat_lt f n) xs) h).0
lt_from n (x ∷ xs) h (suc k) d p = lt_from n xs (and_parts (nat_lt x n) (list_all (λ f. nat_lt f n) xs) h).1 k d (omega arith)

lt_to : (n : ℕ) (xs : List ℕ) → All (λ f. f < n) xs → list_all (λ f. nat_lt f n) xs ≡ true
lt_to n [] h = refl
lt_to n (x ∷ xs) h = let l : nat_lt x n ≡ true = lt-ltb x n (h 0 x (zero-lt-suc _)) in let r = lt_to n xs (all_rest (λ f. f < n) x xs h) in λ i. l i && r i

pub precedence_from : (sig : Signature) (symbols : List ℕ) → is_precedence sig symbols ≡ true → IsPrecedence sig symbols
precedence_from sig symbols h =
    let r = and_parts (nat_eq (length symbols) (length sig) && nat_eq (length (distinct symbols)) (length sig)) (list_all (λ f. nat_lt f (length sig)) symbols) h in
    let s = and_parts (nat_eq (length symbols) (length sig)) (nat_eq (length (distinct symbols)) (length sig)) r.0 in
    let l = eqb-true (length symbols) (length sig) s.0 in
    let m = eqb-true (length (distinct symbols)) (length sig) s.1 in
    record { count = l; different = distinct_different symbols (m ∙ sym l); within = lt_from (length sig) symbols r.1 }

pub precedence_to : (sig : Signature) (symbols : List ℕ) → IsPrecedence sig symbols → is_precedence sig symbols ≡ true
precedence_to sig symbols p =
    let l : nat_eq (length symbols) (length sig) ≡ true = eq-eqb (length symbols) (length sig) p.count in
    let m : nat_eq (length (distinct symbols)) (length sig) ≡ true = eq-eqb (length (distinct symbols)) (length sig) (ap length (different_distinct symbols p.different) ∙ p.count) in
    let w = lt_to (length sig) symbols p.within in
    λ i. (l i && m i) && w i

-- what is read of the names is the text of a precedence where no symbol stands there twice, and else none is
names_read : (sig : Signature) (text : List ℕ) (count : ℕ) (old new : List Symbol) → count ≡ length sig → old ≡ [] → SpellsNames sig count text old new true → AreNames sig (length sig) text (numbers new)
names_read sig text count old new c o (more, d, a) =
    subst (λ z. AreNames sig (length sig) text (numbers z)) (sym (d ∙ ap (λ z. z ++ more) o)) (subst (λ n. AreNames sig n text (numbers more)) c a)

pub precedence_read : (sig : Signature) (text : List ℕ) (count : ℕ) (old new : List Symbol) → count ≡ length sig → old ≡ [] → SpellsNames sig count text old new true → AreDifferent (numbers new) → IsPrecedenceText sig text (numbers new)
precedence_read sig text count old new c o h d =
    let a = names_read sig text count old new c o h in
    record { precedence_is = precedence_to sig (numbers new) (record { count = a.count_is; different = d; within = a.each }); spelling = a.spelling }

pub precedence_twice : (sig : Signature) → IsSignature sig → (text : List ℕ) (count : ℕ) (old new : List Symbol) → count ≡ length sig → old ≡ [] → SpellsNames sig count text old new true → ¬ AreDifferent (numbers new) → (symbols : List ℕ) → ¬ IsPrecedenceText sig text symbols
precedence_twice sig s text count old new c o h n symbols p =
    let a = names_read sig text count old new c o h in
    let r = precedence_from sig symbols p.precedence_is in
    n (subst AreDifferent (same_names sig s symbols (numbers new) r.within a.each (p.spelling ∙ sym a.spelling)) r.different)

-- a symbol among those behind it, as the program reads them
pub among_behind : (symbols : List Symbol) (i : ℕ) (d : Symbol) → i < length symbols → Contains (numbers (take (length symbols - (i + 1)) (drop (i + 1) symbols))) (get_or symbols i d).0 → Contains (numbers (drop (i + 1) symbols)) (get_or (numbers symbols) i 0)
among_behind symbols i d p c = subst (Contains (numbers (drop (i + 1) symbols))) (number_at symbols i d p) (subst (λ z. Contains (numbers z) (get_or symbols i d).0) (behind_slice symbols (i + 1)) c)

pub behind_among : (symbols : List Symbol) (i : ℕ) (d : Symbol) → i < length symbols → Contains (numbers (drop (i + 1) symbols)) (get_or (numbers symbols) i 0) → Contains (numbers (take (length symbols - (i + 1)) (drop (i + 1) symbols))) (get_or symbols i d).0
behind_among symbols i d p c = subst (λ z. Contains (numbers z) (get_or symbols i d).0) (sym (behind_slice symbols (i + 1))) (subst (Contains (numbers (drop (i + 1) symbols))) (sym (number_at symbols i d p)) c)
