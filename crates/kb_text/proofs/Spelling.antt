-- The tokens of a text spell it.
use Rattle.std.proofs.Common.{◌≡◌, refl, ap, sym, ◌∙◌, subst, ⊎_elim, arith, ℕ, zero, suc, ◌+◌, ◌-◌, ◌<◌, ◌≤◌, ◌==◌, List, [], ◌∷◌, ◌++◌, Bool, true, false, not, ◌&&◌, ◌||◌, cond, length, take, drop, length-append, Contains}
use Rattle.std.specs.Prelude.{map, nat_eq, nat_le, nat_lt}
use Rattle.std.specs.List.{list_all, list_any, starts_with}
use Rattle.std.proofs.lemmas.Bool.{false≢true, eqb-true, eqb-false, and_parts}
use Rattle.std.proofs.lemmas.Bool.Decides.{nat_tests}
use Rattle.std.proofs.lemmas.List.{take-append-drop}
use Rattle.std.proofs.lemmas.Slice.Eq.{bytes_eq-Decides}
use Rattle.kb_lemmas.proofs.Membership.{contains_cases, contains_first, contains_behind}
use Rattle.kb_lemmas.proofs.Lists.{take_front}
use Rattle.kb_term.specs.Identifier.{is_white_space, begins_otherwise}
use Rattle.kb_text.specs.Tokens.{Token, Placed, Start, white, mark, letter, marks, mark_of, start_of, tokens_by, tokens_from, letter_before, with_letter, identifier}
use Rattle.kb_text.specs.Spelling.{IsBroken, IsUnbrokenBefore, Stands, a_mark, an_identifier, the_end, AreSpelled}
use Rattle.kb_text.proofs.IdentifierLaws.{letter_begins}
use Rattle.kb_text.proofs.Runs.{StandsFrom, stands_from}

abbrev Row : Type 0
Row = Token × List ℕ

-- ---- the table of marks

-- no text of the table has more than n bytes, or more than one before it
abbrev fall : ℕ → List Row → Bool
fall n [] = true
fall n (m ∷ ms) = nat_le (length m.1) n && fall (length m.1) ms

fall_contains : (ms : List Row) (n : ℕ) (x : Row) → fall n ms ≡ true → Contains ms x → length x.1 ≤ n
fall_contains [] n x f c = absurd (omega (arith, c.1))
fall_contains (m ∷ ms) n x f c =
    let r = and_parts (nat_le (length m.1) n) (fall (length m.1) ms) f in
    let l : length m.1 ≤ n = grind (arith, nat_tests, r.0) in
    ⊎_elim (λ (q : m ≡ x). omega (arith, l, ap (λ (y : Row). length y.1) q)) (λ d. omega (arith, l, fall_contains ms (length m.1) x r.1 d)) (contains_cases m ms x c)

passes : (p : Row → Bool) (ms : List Row) (x : Row) → list_all p ms ≡ true → Contains ms x → p x ≡ true
passes p [] x f c = absurd (omega (arith, c.1))
passes p (m ∷ ms) x f c =
    let r = and_parts (p m) (list_all p ms) f in
    ⊎_elim (λ q. sym (ap p q) ∙ r.0) (λ d. passes p ms x r.1 d) (contains_cases m ms x c)

any_passes : (p : List ℕ → Bool) (ms : List Row) (x : Row) → Contains ms x → p x.1 ≡ true → list_any p (map (λ (m : Row). m.1) ms) ≡ true
any_passes p [] x c h = absurd (omega (arith, c.1))
any_passes p (m ∷ ms) x c h =
    ⊎_elim
    (λ q. ap (λ (v : Bool). v || list_any p (map (λ (m : Row). m.1) ms)) (ap (λ (y : Row). p y.1) q ∙ h))
    (λ d. ap (λ (v : Bool). p m.1 || v) (any_passes p ms x d h) ∙ either (p m.1))
    (contains_cases m ms x c)
  where
    either : (v : Bool) → (v || true) ≡ true
    either true = refl
    either false = refl

abbrev is_name : Token → Bool
is_name (identifier name) = true
is_name t = false

-- the first mark of the table with which the text begins
mark_found : (ms : List Row) (text : List ℕ) (t : Token) (size : ℕ) → mark_of ms text ≡ mark t size → (w : List ℕ) × Contains ms (t, w) × (length w ≡ size) × (starts_with nat_eq text w ≡ true)
mark_found [] text t size e = absurd (cc)
mark_found (m ∷ ms) text t size e = go (mark_found ms text t size) (starts_with nat_eq text m.1) refl
  where
    go : (mark_of ms text ≡ mark t size → (w : List ℕ) × Contains ms (t, w) × (length w ≡ size) × (starts_with nat_eq text w ≡ true)) → (v : Bool) → starts_with nat_eq text m.1 ≡ v
        → (w : List ℕ) × Contains (m ∷ ms) (t, w) × (length w ≡ size) × (starts_with nat_eq text w ≡ true)
    go later true p =
        let f : mark m.0 (length m.1) ≡ mark t size = sym (ap (λ (b : Bool). cond b (mark m.0 (length m.1)) (mark_of ms text)) p) ∙ e in
        let same : m.0 ≡ t = cc in
        let long : length m.1 ≡ size = cc in
        (m.1, subst (λ (u : Token). Contains (m ∷ ms) (u, m.1)) same (contains_first m ms), long, p)
    go later false p =
        let r = later (sym (ap (λ (b : Bool). cond b (mark m.0 (length m.1)) (mark_of ms text)) p) ∙ e) in
        (r.0, contains_behind m ms (t, r.0) r.1, r.2, r.3)

longest : (ms : List Row) (n : ℕ) (text : List ℕ) (t : Token) (size : ℕ) (x : Row) → fall n ms ≡ true → mark_of ms text ≡ mark t size → Contains ms x → starts_with nat_eq text x.1 ≡ true → length x.1 ≤ size
longest [] n text t size x f e c s = absurd (cc)
longest (m ∷ ms) n text t size x f e c s = go (λ g d. longest ms (length m.1) text t size x falls g d s) (starts_with nat_eq text m.1) refl
  where
    falls : fall (length m.1) ms ≡ true
    falls = (and_parts (nat_le (length m.1) n) (fall (length m.1) ms) f).1

    go : (mark_of ms text ≡ mark t size → Contains ms x → length x.1 ≤ size) → (v : Bool) → starts_with nat_eq text m.1 ≡ v → length x.1 ≤ size
    go later true p =
        let g : mark m.0 (length m.1) ≡ mark t size = sym (ap (λ (b : Bool). cond b (mark m.0 (length m.1)) (mark_of ms text)) p) ∙ e in
        let long : length m.1 ≡ size = cc in
        ⊎_elim (λ (q : m ≡ x). omega (arith, long, ap (λ (y : Row). length y.1) q)) (λ d. omega (arith, long, fall_contains ms (length m.1) x falls d)) (contains_cases m ms x c)
    go later false p =
        ⊎_elim
        (λ (q : m ≡ x). absurd (false≢true (sym p ∙ ap (λ (y : Row). starts_with nat_eq text y.1) q ∙ s)))
        (λ d. later (sym (ap (λ (b : Bool). cond b (mark m.0 (length m.1)) (mark_of ms text)) p) ∙ e) d)
        (contains_cases m ms x c)

-- a text that begins with another is that one and what stands behind it
begins_is : (text w : List ℕ) → starts_with nat_eq text w ≡ true → text ≡ w ++ drop (length w) text
begins_is text w s =
    let same : w ≡ take (length w) text = (bytes_eq-Decides w (take (length w) text)).0 s in
    sym (take-append-drop (length w) text) ∙ ap (λ (z : List ℕ). z ++ drop (length w) text) (sym same)

-- ---- what begins where

never_white : (ms : List Row) (text : List ℕ) → mark_of ms text ≡ white → ⊥
never_white [] text e = cc
never_white (m ∷ ms) text e = go (never_white ms text) (starts_with nat_eq text m.1) refl
  where
    go : (mark_of ms text ≡ white → ⊥) → (v : Bool) → starts_with nat_eq text m.1 ≡ v → ⊥
    go later true p = let f : mark m.0 (length m.1) ≡ white = sym (ap (λ (b : Bool). cond b (mark m.0 (length m.1)) (mark_of ms text)) p) ∙ e in cc
    go later false p = later (sym (ap (λ (b : Bool). cond b (mark m.0 (length m.1)) (mark_of ms text)) p) ∙ e)

white_begins : (b : ℕ) (text : List ℕ) → start_of b text ≡ white → is_white_space b ≡ true
white_begins b text e = go (is_white_space b) refl
  where
    go : (v : Bool) → is_white_space b ≡ v → is_white_space b ≡ true
    go true p = p
    go false p = absurd (never_white marks (b ∷ text) (sym (ap (λ (v : Bool). cond v white (mark_of marks (b ∷ text))) p) ∙ e))

mark_begins : (b : ℕ) (text : List ℕ) (t : Token) (size : ℕ) → start_of b text ≡ mark t size → mark_of marks (b ∷ text) ≡ mark t size
mark_begins b text t size e = go (is_white_space b) refl
  where
    go : (v : Bool) → is_white_space b ≡ v → mark_of marks (b ∷ text) ≡ mark t size
    go true p = absurd (let f : white ≡ mark t size = sym (ap (λ (v : Bool). cond v white (mark_of marks (b ∷ text))) p) ∙ e in cc)
    go false p = sym (ap (λ (v : Bool). cond v white (mark_of marks (b ∷ text))) p) ∙ e

-- a text that begins with a mark is broken there
broken_by_mark : (t : Token) (w rest : List ℕ) → Contains marks (t, w) → IsBroken (w ++ rest)
broken_by_mark t [] rest c = absurd (false≢true (passes (λ m. nat_lt 0 (length m.1)) marks (t, []) refl c))
broken_by_mark t (x ∷ w) rest c =
    let here : starts_with nat_eq (x ∷ (w ++ rest)) (x ∷ w) ≡ true = (bytes_eq-Decides (x ∷ w) (take (length (x ∷ w)) (x ∷ (w ++ rest)))).1 (sym (take_front (x ∷ w) rest)) in
    ap (λ (v : Bool). is_white_space x || v) (any_passes (λ m. starts_with ◌==◌ (x ∷ (w ++ rest)) m) marks (t, x ∷ w) c here) ∙ either (is_white_space x)
  where
    either : (v : Bool) → (v || true) ≡ true
    either true = refl
    either false = refl

broken_by_other : (t : Token) (w rest : List ℕ) → is_name t ≡ false → Stands t w rest → IsBroken (w ++ rest)
broken_by_other t w rest n (a_mark c l) = broken_by_mark t w rest c
broken_by_other t w rest n (an_identifier i some u k) = absurd (false≢true (sym n ∙ ap is_name i))
broken_by_other t w rest n (the_end i e f) = subst IsBroken (sym (ap (λ (z : List ℕ). z ++ rest) e ∙ f)) tt

broken_before : (space after text : List ℕ) → list_all is_white_space space ≡ true → text ≡ space ++ after → (space ≡ [] → IsBroken after) → IsBroken text
broken_before [] after text h parts f = subst IsBroken (sym parts) (f refl)
broken_before (c ∷ space) after text h parts f =
    let w = (and_parts (is_white_space c) (list_all is_white_space space) h).0 in
    subst IsBroken (sym parts) (ap (λ (v : Bool). v || list_any (λ (m : List ℕ). starts_with ◌==◌ (c ∷ (space ++ after)) m) (map (λ (m : Row). m.1) marks)) w)

-- ---- one byte more

more_space : (n b : ℕ) (ts : List Placed) (text : List ℕ) → is_white_space b ≡ true → StandsFrom (n + 1) ts → AreSpelled (n + 1) ts text → AreSpelled n ts (b ∷ text)
more_space n b [] text w k h = absurd k
more_space n b (t ∷ ts) text w k (space, word, rest, blank, parts, at, stands, others) =
    (b ∷ space, word, rest, (λ i. w i && blank i), ap (b ∷◌) parts, omega (arith, at), stands, others)

mark_before : (n b : ℕ) (text : List ℕ) (t : Token) (size : ℕ) → mark_of marks (b ∷ text) ≡ mark t size → ((k : ℕ) → k ≤ length text → AreSpelled (n + 1 + k) (tokens_from k (n + 1) text) (drop k text))
    → AreSpelled n (record { at = n; token = t } ∷ tokens_from (size - 1) (n + 1) text) (b ∷ text)
mark_before n b text t size e ih =
    let r = mark_found marks (b ∷ text) t size e in
    let w = r.0 in
    let long = r.2 in
    let some : 0 < length w = grind (arith, nat_tests, passes (λ m. nat_lt 0 (length m.1)) marks (t, w) refl r.1) in
    let count : length w ≡ suc (size - 1) = omega (arith, long, some) in
    let parts : b ∷ text ≡ w ++ drop (size - 1) text = begins_is (b ∷ text) w r.3 ∙ ap (λ (k : ℕ). w ++ drop k (b ∷ text)) count in
    let room : size - 1 ≤ length text = omega (arith, ap length parts, length-append w (drop (size - 1) text), count) in
    let place : n + 1 + (size - 1) ≡ n + length w = omega (arith, count) in (
      [],
      w,
      drop (size - 1) text,
      refl,
      parts,
      omega arith,
      a_mark r.1 (λ m i s. omega (arith, long, longest marks 3 (b ∷ text) t size m refl e i (ap (λ (z : List ℕ). starts_with nat_eq z m.1) parts ∙ s))),
      subst (λ (k : ℕ). AreSpelled k (tokens_from (size - 1) (n + 1) text) (drop (size - 1) text)) place (ih (size - 1) room),
    )

empty : (xs : List ℕ) → length xs ≡ 0 → xs ≡ []
empty [] h = refl
empty (x ∷ xs) h = absurd (omega arith)

named : (name w rest : List ℕ) → Stands (identifier name) w rest → (name ≡ w) × IsUnbrokenBefore rest w × IsBroken rest
named name w rest (a_mark c l) = absurd (false≢true (passes (λ m. not (is_name m.0)) marks (identifier name, w) refl c))
named name w rest (an_identifier i some u k) = (let same : name ≡ w = cc in same, u, k)
named name w rest (the_end i e f) = absurd (cc)

letter_spelled : (n b : ℕ) (text : List ℕ) (l : List Placed) → begins_otherwise (b ∷ text) ≡ false → StandsFrom (n + 1) l → AreSpelled (n + 1) l text → AreSpelled n (letter_before n b l) (b ∷ text)
letter_spelled n b text [] u k s = absurd k
letter_spelled n b text (p ∷ ps) u k s = go p.token (p.at == n + 1) refl s.6
  where
    space : List ℕ
    space = s.0

    w : List ℕ
    w = s.1

    rest : List ℕ
    rest = s.2

    at : p.at ≡ n + 1 + length space
    at = s.5

    alone : (space ≡ [] → IsBroken (w ++ rest)) → AreSpelled n (record { at = n; token = identifier (b ∷ []) } ∷ p ∷ ps) (b ∷ text)
    alone f = ([], b ∷ [], text, refl, refl, omega arith, an_identifier refl (omega arith) (u, tt) (broken_before space (w ++ rest) text s.3 s.4 f), s)

    joined : (name : List ℕ) → length space ≡ 0 → Stands (identifier name) w rest → AreSpelled n (record { at = n; token = identifier (b ∷ name) } ∷ ps) (b ∷ text)
    joined name none stands =
        let h = named name w rest stands in
        let whole : text ≡ w ++ rest = s.4 ∙ ap (λ (z : List ℕ). z ++ (w ++ rest)) (empty space none) in
        let place : p.at + length w ≡ n + length (b ∷ w) = omega (arith, at, none) in (
          [],
          b ∷ w,
          rest,
          refl,
          ap (b ∷◌) whole,
          omega arith,
          an_identifier (ap (λ (z : List ℕ). identifier (b ∷ z)) h.0) (omega arith) (ap (λ (z : List ℕ). begins_otherwise (b ∷ z)) (sym whole) ∙ u, h.1) h.2,
          subst (λ (m : ℕ). AreSpelled m ps rest) place s.7,
        )

    go : (t : Token) (adjacent : Bool) → (p.at == n + 1) ≡ adjacent → Stands t w rest → AreSpelled n (with_letter n b p ps t adjacent) (b ∷ text)
    go (identifier name) true e stands = joined name (omega (arith, at, eqb-true p.at (n + 1) e)) stands
    go (identifier name) false e stands = alone (λ z. absurd (eqb-false p.at (n + 1) e (omega (arith, at, ap length z))))
    go t adjacent e stands = alone (λ z. broken_by_other t w rest refl stands)

-- ---- the whole text

first_spelled : (b : ℕ) (text : List ℕ) (n : ℕ) (s : Start) → start_of b text ≡ s → ((k : ℕ) → k ≤ length text → AreSpelled (n + 1 + k) (tokens_from k (n + 1) text) (drop k text))
    → AreSpelled n (tokens_by s n b (λ k. tokens_from k (n + 1) text)) (b ∷ text)
first_spelled b text n white e ih =
    let same : n + 1 + 0 ≡ n + 1 = omega arith in
    more_space n b (tokens_from 0 (n + 1) text) text (white_begins b text e) (stands_from text 0 (n + 1)) (subst (λ (m : ℕ). AreSpelled m (tokens_from 0 (n + 1) text) text) same (ih 0 (omega arith)))
first_spelled b text n (mark t size) e ih = mark_before n b text t size (mark_begins b text t size e) ih
first_spelled b text n letter e ih =
    let same : n + 1 + 0 ≡ n + 1 = omega arith in
    letter_spelled n b text (tokens_from 0 (n + 1) text) (letter_begins b text e) (stands_from text 0 (n + 1)) (subst (λ (m : ℕ). AreSpelled m (tokens_from 0 (n + 1) text) text) same (ih 0 (omega arith)))

spelled : (text : List ℕ) (k n : ℕ) → k ≤ length text → AreSpelled (n + k) (tokens_from k n text) (drop k text)
spelled [] zero n h = ([], [], [], refl, refl, omega arith, the_end refl refl refl, refl)
spelled [] (suc k) n h = absurd (omega (arith, h))
spelled (b ∷ text) (suc k) n h =
    let e : n + 1 + k ≡ n + suc k = omega arith in
    subst (λ (m : ℕ). AreSpelled m (tokens_from k (n + 1) text) (drop k text)) e (spelled text k (n + 1) (omega (arith, h)))
spelled (b ∷ text) zero n h =
    let e : n ≡ n + 0 = omega arith in
    subst (λ (m : ℕ). AreSpelled m (tokens_from 0 n (b ∷ text)) (b ∷ text)) e (first_spelled b text n (start_of b text) refl (λ k l. spelled text k (n + 1) l))

pub tokens_spelled : (bytes : List ℕ) → AreSpelled 0 (tokens_from 0 0 bytes) bytes
tokens_spelled bytes = spelled bytes 0 0 (omega arith)
