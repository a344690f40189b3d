-- Texts that are cut at one byte, and put together again.
use Rattle.std.proofs.Common.{append-nil, append_assoc, ◌≡◌, refl, ap, ap₂, sym, ◌∙◌, arith, ℕ, zero, suc, ◌+◌, ◌<◌, ◌==◌, List, [], ◌∷◌, ◌++◌, Bool, true, false, cond, length, get_or, take}
use Rattle.std.specs.Prelude.{⊤}
use Rattle.std.specs.List.{join_with_byte, onto_first, slice_split}
use Rattle.std.proofs.lemmas.Bool.{false≢true}
use Rattle.std.proofs.lemmas.List.Splits.{slice_split-cons_no, slice_split-cons_yes}
use Rattle.kb_lemmas.proofs.Numbers.{eq_itself}
use Rattle.kb_text.specs.Fields.{IsWithout, behind}

pub without-append : (c : ℕ) (xs ys : List ℕ) → IsWithout c xs → IsWithout c ys → IsWithout c (xs ++ ys)
without-append c [] ys h k = k
without-append c (x ∷ xs) ys h k = (h.0, without-append c xs ys h.1 k)

abbrev pub AreWithout : ℕ → List (List ℕ) → Type 0
AreWithout c [] = ⊤
AreWithout c (f ∷ fs) = IsWithout c f × AreWithout c fs

pub are_without-append : (c : ℕ) (xs ys : List (List ℕ)) → AreWithout c xs → AreWithout c ys → AreWithout c (xs ++ ys)
are_without-append c [] ys h k = k
are_without-append c (x ∷ xs) ys h k = (h.0, are_without-append c xs ys h.1 k)

-- a text without the byte is one part
split_whole : (c : ℕ) (xs : List ℕ) → IsWithout c xs → slice_split (λ b. b == c) xs ≡ xs ∷ []
split_whole c [] h = refl
split_whole c (x ∷ xs) h = slice_split-cons_no (λ b. b == c) x xs h.0 ∙ ap (onto_first x) (split_whole c xs h.1)

-- a part ends before the byte
split_front : (c : ℕ) (xs ys : List ℕ) → IsWithout c xs → slice_split (λ b. b == c) (xs ++ c ∷ ys) ≡ xs ∷ slice_split (λ b. b == c) ys
split_front c [] ys h = slice_split-cons_yes (λ b. b == c) c ys (eq_itself c)
split_front c (x ∷ xs) ys h = slice_split-cons_no (λ b. b == c) x (xs ++ c ∷ ys) h.0 ∙ ap (onto_first x) (split_front c xs ys h.1)

-- joined fields without the byte are its parts
pub fields_cut : (c : ℕ) (f : List ℕ) (fs : List (List ℕ)) → AreWithout c (f ∷ fs) → slice_split (λ b. b == c) (join_with_byte c (f ∷ fs)) ≡ f ∷ fs
fields_cut c f [] h = split_whole c f h.0
fields_cut c f (g ∷ fs) h = split_front c f (join_with_byte c (g ∷ fs)) h.0 ∙ ap (f ∷◌) (fields_cut c g fs h.1)

-- ---- byte by byte

behind_none : (p : ℕ → Bool) (xs : List ℕ) → behind [] (slice_split p xs) ≡ slice_split p xs
behind_none p [] = refl
behind_none p (x ∷ xs) = go (p x) (slice_split p xs)
  where
    go : (v : Bool) (ps : List (List ℕ)) → behind [] (cond v ([] ∷ ps) (onto_first x ps)) ≡ cond v ([] ∷ ps) (onto_first x ps)
    go true ps = refl
    go false [] = refl
    go false (q ∷ ps) = refl

pub cut_here : (c b : ℕ) (part rest : List ℕ) → (b == c) ≡ true → behind part (slice_split (λ b. b == c) (b ∷ rest)) ≡ part ∷ behind [] (slice_split (λ b. b == c) rest)
cut_here c b part rest h =
    ap (behind part) (slice_split-cons_yes (λ b. b == c) b rest h) ∙ ap₂ (λ x xs. x ∷ xs) (append-nil part) (sym (behind_none (λ b. b == c) rest))

pub cut_later : (c b : ℕ) (part rest : List ℕ) → (b == c) ≡ false → behind part (slice_split (λ b. b == c) (b ∷ rest)) ≡ behind (part ++ b ∷ []) (slice_split (λ b. b == c) rest)
cut_later c b part rest h = ap (behind part) (slice_split-cons_no (λ b. b == c) b rest h) ∙ go (slice_split (λ b. b == c) rest)
  where
    go : (ps : List (List ℕ)) → behind part (onto_first b ps) ≡ behind (part ++ b ∷ []) ps
    go [] = refl
    go (q ∷ ps) = ap (λ x. x ∷ ps) (sym (append_assoc part (b ∷ []) q))

pub cut_start : (c : ℕ) (text : List ℕ) → behind [] (slice_split (λ b. b == c) text) ≡ slice_split (λ b. b == c) text
cut_start c text = behind_none (λ b. b == c) text

-- ---- lines

pub without_more : (c : ℕ) (bytes : List ℕ) (i : ℕ) → i < length bytes → (get_or bytes i 0 == c) ≡ false → IsWithout c (take i bytes) → IsWithout c (take (i + 1) bytes)
without_more c [] i h e k = absurd (omega arith)
without_more c (b ∷ bytes) zero h e k = (e, tt)
without_more c (b ∷ bytes) (suc i) h e k = let f : suc i + 1 ≡ suc (i + 1) = omega arith in rw f (k.0, without_more c bytes i (omega arith) e k.1)

-- a text is cut behind its first line in one way
pub one_line : (c : ℕ) (xs ys zs ws : List ℕ) → IsWithout c xs → IsWithout c ys → xs ++ c ∷ zs ≡ ys ++ c ∷ ws → (xs ≡ ys) × (zs ≡ ws)
one_line c [] [] zs ws f g e = (refl, cc)
one_line c [] (y ∷ ys) zs ws f g e = absurd (let s : c ≡ y = cc in false≢true (sym g.0 ∙ ap (λ z. z == c) (sym s) ∙ eq_itself c))
one_line c (x ∷ xs) [] zs ws f g e = absurd (let s : x ≡ c = cc in false≢true (sym f.0 ∙ ap (λ z. z == c) s ∙ eq_itself c))
one_line c (x ∷ xs) (y ∷ ys) zs ws f g e =
    let t : xs ++ c ∷ zs ≡ ys ++ c ∷ ws = cc in
    let r = one_line c xs ys zs ws f.1 g.1 t in
    let s : x ≡ y = cc in (ap₂ (λ z zs. z ∷ zs) s r.0, r.1)
