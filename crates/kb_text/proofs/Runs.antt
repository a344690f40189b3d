-- The tokens of a text, by what stands at each place.
use Rattle.std.proofs.Common.{◌≡◌, ◌⊎◌, inl, inr, ⊎_elim, ℕ, zero, suc, ◌+◌, ◌-◌, ◌<◌, ◌≤◌, ◌==◌, List, [], ◌∷◌, Bool, true, false, length, take, drop, get_or, refl, sym, ◌∙◌, ap, subst, arith, length-drop}
use Rattle.std.proofs.Math.Nat.{eq-or-lt_of_le}
use Rattle.std.proofs.lemmas.List.{drop_more, get_or-drop}
use Rattle.kb_lemmas.proofs.Numbers.{eq_itself, eq_above}
use Rattle.kb_text.specs.Tokens.{Token, Placed, Start, white, mark, letter, start_of, tokens_by, tokens_from, letter_before, with_letter, identifier}
use Rattle.kb_text.specs.declared.lexer.Mark.{Mark}
use Rattle.kb_text.specs.declared.lexer.Mark.TheVariants.{ArrowEquals, Arrow, Equals, Bar, LeftParen, RightParen, Comma, Quotation}
use Rattle.kb_text.specs.Starts.{mark_length_of, start_by, start_in, IsNoIdentifier, Stops, IsNameTo}

pub start_is : (b : ℕ) (rest : List ℕ) → start_of b rest ≡ start_by b (get_or rest 0 0) (get_or rest 1 0)
start_is b [] = refl
start_is b (c ∷ []) = refl
start_is b (c ∷ d ∷ rest) = refl

pub start_in_place : (bytes : List ℕ) (at : ℕ) → start_of (get_or bytes at 0) (drop (at + 1) bytes) ≡ start_in bytes at
start_in_place bytes at =
    let one : get_or (drop (at + 1) bytes) 0 0 ≡ get_or bytes (at + 1) 0 = get_or-drop (at + 1) bytes 0 0 ∙ ap (λ (i : ℕ). get_or bytes i 0) (omega arith) in
    let two : get_or (drop (at + 1) bytes) 1 0 ≡ get_or bytes (at + 2) 0 = get_or-drop (at + 1) bytes 1 0 ∙ ap (λ (i : ℕ). get_or bytes i 0) (omega arith) in
    start_is (get_or bytes at 0) (drop (at + 1) bytes)
    ∙ ap (λ (c : ℕ). start_by (get_or bytes at 0) c (get_or (drop (at + 1) bytes) 1 0)) one
    ∙ ap (λ (d : ℕ). start_by (get_or bytes at 0) (get_or bytes (at + 1) 0) d) two

-- what the tokens from a place on are
pub from_place : (bytes : List ℕ) (at n : ℕ) → at < length bytes → tokens_from 0 n (drop at bytes) ≡ tokens_by (start_in bytes at) n (get_or bytes at 0) (λ k. tokens_from k (n + 1) (drop (at + 1) bytes))
from_place bytes at n h = ap (tokens_from 0 n) (drop_more bytes at 0 h) ∙ ap (λ (s : Start). tokens_by s n (get_or bytes at 0) (λ k. tokens_from k (n + 1) (drop (at + 1) bytes))) (start_in_place bytes at)

pub after_white : (bytes : List ℕ) (at : ℕ) → at < length bytes → start_in bytes at ≡ white → tokens_from 0 at (drop at bytes) ≡ tokens_from 0 (at + 1) (drop (at + 1) bytes)
after_white bytes at h w = from_place bytes at at h ∙ ap (λ (s : Start). tokens_by s at (get_or bytes at 0) (λ k. tokens_from k (at + 1) (drop (at + 1) bytes))) w

-- ---- identifiers

-- there is a token, and none stands before n
abbrev pub StandsFrom : ℕ → List Placed → Type 0
StandsFrom n [] = ⊥
StandsFrom n (p ∷ ps) = n ≤ p.at

from_letter : (n b : ℕ) (l : List Placed) → StandsFrom (n + 1) l → StandsFrom n (letter_before n b l)
from_letter n b [] h = h
from_letter n b (p ∷ ps) h = go p.token (p.at == n + 1)
  where
    go : (t : Token) (adjacent : Bool) → StandsFrom n (with_letter n b p ps t adjacent)
    go (identifier name) true = omega arith
    go (identifier name) false = omega arith
    go t adjacent = omega arith

later : (n m : ℕ) (l : List Placed) → n ≤ m → StandsFrom m l → StandsFrom n l
later n m [] h k = k
later n m (p ∷ ps) h k = omega arith

mutual_start : (s : Start) (n b : ℕ) (rest : ℕ → List Placed) → ((k : ℕ) → StandsFrom (n + 1) (rest k)) → StandsFrom n (tokens_by s n b rest)
mutual_start white n b rest h = later n (n + 1) (rest 0) (omega arith) (h 0)
mutual_start (mark t size) n b rest h = omega arith
mutual_start letter n b rest h = from_letter n b (rest 0) (h 0)

pub stands_from : (text : List ℕ) (k n : ℕ) → StandsFrom n (tokens_from k n text)
stands_from [] k n = omega arith
stands_from (b ∷ text) zero n = mutual_start (start_of b text) n b (λ k. tokens_from k (n + 1) text) (λ k. stands_from text k (n + 1))
stands_from (b ∷ text) (suc k) n = later n (n + 1) (tokens_from k (n + 1) text) (omega arith) (stands_from text k (n + 1))

-- the first of the tokens, if it is an identifier, stands behind the place m
abbrev pub IsApart : ℕ → List Placed → Type 0
IsApart m [] = ⊥
IsApart m (p ∷ ps) = IsNoIdentifier p.token ⊎ (m < p.at)

apart_from : (m : ℕ) (l : List Placed) → StandsFrom (m + 1) l → IsApart m l
apart_from m [] h = h
apart_from m (p ∷ ps) h = inr (omega arith)

-- a letter that no identifier follows directly
pub alone_letter : (n b : ℕ) (l : List Placed) → IsApart (n + 1) l → letter_before n b l ≡ record { at = n; token = identifier (b ∷ []) } ∷ l
alone_letter n b [] h = absurd h
alone_letter n b (p ∷ ps) h = go p.token h
  where
    go : (t : Token) → IsNoIdentifier t ⊎ (n + 1 < p.at) → with_letter n b p ps t (p.at == n + 1) ≡ record { at = n; token = identifier (b ∷ []) } ∷ p ∷ ps
    go (identifier name) (inl h) = absurd h
    go (identifier name) (inr h) = ap (λ (e : Bool). with_letter n b p ps (identifier name) e) (eq_above p.at (n + 1) h)
    go t h = refl

pub at_stop : (s : Start) (n b : ℕ) (rest : ℕ → List Placed) → Stops s → ((k : ℕ) → StandsFrom (n + 1) (rest k)) → IsApart n (tokens_by s n b rest)
at_stop white n b rest h k = apart_from n (rest 0) (k 0)
at_stop (mark t size) n b rest h k = inl h
at_stop letter n b rest h k = absurd h

stops_here : (bytes : List ℕ) (end : ℕ) → (end < length bytes → Stops (start_in bytes end)) → IsApart end (tokens_from 0 end (drop end bytes))
stops_here bytes end stops = go (drop end bytes) refl
  where
    go : (l : List ℕ) → drop end bytes ≡ l → IsApart end (tokens_from 0 end (drop end bytes))
    go [] e = subst (λ (l : List ℕ). IsApart end (tokens_from 0 end l)) (sym e) (inl tt)
    go (b ∷ l) e =
        let inside : end < length bytes = omega (arith, length-drop end bytes, ap length e) in
        subst (λ (l : List Placed). IsApart end l) (sym (from_place bytes end end inside))
        (at_stop (start_in bytes end) end (get_or bytes end 0) (λ k. tokens_from k (end + 1) (drop (end + 1) bytes)) (stops inside) (λ k. stands_from (drop (end + 1) bytes) k (end + 1)))

-- letters from the place at to the place end, m + 1 of them, and no more
letters_run : (m : ℕ) (bytes : List ℕ) (at end : ℕ) → end ≡ at + suc m → end ≤ length bytes → ((k : ℕ) → at ≤ k → k < end → start_in bytes k ≡ letter) → IsApart end (tokens_from 0 end (drop end bytes))
    → tokens_from 0 at (drop at bytes) ≡ record { at = at; token = identifier (take (suc m) (drop at bytes)) } ∷ tokens_from 0 end (drop end bytes)
letters_run zero bytes at end e within letters apart =
    let b = get_or bytes at 0 in
    let inside : at < length bytes = omega arith in
    let next : end ≡ at + 1 = omega arith in
    from_place bytes at at inside
    ∙ ap (λ (s : Start). tokens_by s at b (λ k. tokens_from k (at + 1) (drop (at + 1) bytes))) (letters at (omega arith) (omega arith))
    ∙ alone_letter at b (tokens_from 0 (at + 1) (drop (at + 1) bytes)) (subst (λ (x : ℕ). IsApart x (tokens_from 0 x (drop x bytes))) next apart)
    ∙ ap (λ (x : ℕ). record { at = at; token = identifier (b ∷ []) } ∷ tokens_from 0 x (drop x bytes)) (sym next)
    ∙ ap (λ (l : List ℕ). record { at = at; token = identifier (take 1 l) } ∷ tokens_from 0 end (drop end bytes)) (sym (drop_more bytes at 0 inside))
letters_run (suc m) bytes at end e within letters apart =
    let b = get_or bytes at 0 in
    let inside : at < length bytes = omega arith in
    let behind = letters_run m bytes (at + 1) end (omega arith) within (λ k low high. letters k (omega arith) high) apart in
    from_place bytes at at inside
    ∙ ap (λ (s : Start). tokens_by s at b (λ k. tokens_from k (at + 1) (drop (at + 1) bytes))) (letters at (omega arith) (omega arith))
    ∙ ap (λ (ts : List Placed). letter_before at b ts) behind
    ∙ ap (λ (t : Bool). with_letter at b (record { at = at + 1; token = identifier (take (suc m) (drop (at + 1) bytes)) }) (tokens_from 0 end (drop end bytes)) (identifier (take (suc m) (drop (at + 1) bytes))) t) (eq_itself (at + 1))
    ∙ ap (λ (l : List ℕ). record { at = at; token = identifier (take (suc (suc m)) l) } ∷ tokens_from 0 end (drop end bytes)) (sym (drop_more bytes at 0 inside))

pub name_tokens : (bytes : List ℕ) (at end : ℕ) → IsNameTo bytes at end → tokens_from 0 at (drop at bytes) ≡ record { at = at; token = identifier (take (end - at) (drop at bytes)) } ∷ tokens_from 0 end (drop end bytes)
name_tokens bytes at end h =
    let some = h.some in
    let count : suc (end - at - 1) ≡ end - at = omega arith in
    letters_run (end - at - 1) bytes at end (omega arith) h.within h.letters (stops_here bytes end h.stops)
    ∙ ap (λ (m : ℕ). record { at = at; token = identifier (take m (drop at bytes)) } ∷ tokens_from 0 end (drop end bytes)) count

pub one_more_letter : (bytes : List ℕ) (at end : ℕ) → ((k : ℕ) → at ≤ k → k < end → start_in bytes k ≡ letter) → start_in bytes end ≡ letter → (k : ℕ) → at ≤ k → k < end + 1 → start_in bytes k ≡ letter
one_more_letter bytes at end letters here k low high = ⊎_elim (λ same. ap (start_in bytes) same ∙ here) (λ less. letters k low less) (eq-or-lt_of_le (let h : k ≤ end = omega arith in h))

-- a mark has at least one byte
pub mark_length_some : (m : Mark) → 1 ≤ mark_length_of m
mark_length_some ArrowEquals = omega arith
mark_length_some Arrow = omega arith
mark_length_some Equals = omega arith
mark_length_some Bar = omega arith
mark_length_some LeftParen = omega arith
mark_length_some RightParen = omega arith
mark_length_some Comma = omega arith
mark_length_some Quotation = omega arith
