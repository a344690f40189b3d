-- Lines, and the text that they make.
use Rattle.std.proofs.Common.{append_assoc, ◌≡◌, refl, ap, ap₂, sym, ◌∙◌, arith, ℕ, suc, ◌<◌, List, [], ◌∷◌, ◌++◌, length, length-append, Option, Some, None}
use Rattle.std.specs.Prelude.{option_map}
use Rattle.kb_text.specs.Fields.{IsWithout}
use Rattle.kb_text.specs.Lines.{first_lines}
use Rattle.kb_text.proofs.Cuts.{AreWithout, one_line}
use Rattle.kb_text.proofs.LineFronts.{first_lines-none, first_lines-line}
use Rattle.kb_report.specs.Sections.{Lines, text_of}

pub text_of-append : (xs ys : Lines) → text_of (xs ++ ys) ≡ text_of xs ++ text_of ys
text_of-append [] ys = refl
text_of-append (x ∷ xs) ys = ap (λ (t : List ℕ). x ++ 10 ∷ t) (text_of-append xs ys) ∙ sym (append_assoc x (10 ∷ text_of xs) (text_of ys))

-- behind its first line
pub behind_first : (x : List ℕ) (xs : Lines) (rest : List ℕ) → text_of (x ∷ xs) ++ rest ≡ x ++ 10 ∷ (text_of xs ++ rest)
behind_first x xs rest = append_assoc x (10 ∷ text_of xs) rest

pub are_without-front : (xs ys : Lines) → AreWithout 10 (xs ++ ys) → AreWithout 10 xs
are_without-front [] ys h = tt
are_without-front (x ∷ xs) ys h = (h.0, are_without-front xs ys h.1)

pub are_without-back : (xs ys : Lines) → AreWithout 10 (xs ++ ys) → AreWithout 10 ys
are_without-back [] ys h = h
are_without-back (x ∷ xs) ys h = are_without-back xs ys h.1

longer : (x : List ℕ) (t : List ℕ) → 0 < length (x ++ 10 ∷ t)
longer x t = omega (arith, length-append x (10 ∷ t))

-- lines whose text goes on with something are the first of the lines of the whole
pub front_of_text : (xs ys : Lines) (rest : List ℕ) → AreWithout 10 xs → AreWithout 10 ys → text_of xs ++ rest ≡ text_of ys → (more : Lines) × (ys ≡ xs ++ more) × (rest ≡ text_of more)
front_of_text [] ys rest f g e = (ys, refl, e)
front_of_text (x ∷ xs) [] rest f g e = absurd (let n = ap length (sym (behind_first x xs rest) ∙ e) in omega (arith, longer x (text_of xs ++ rest)))
front_of_text (x ∷ xs) (y ∷ ys) rest f g e =
    let r = one_line 10 x y (text_of xs ++ rest) (text_of ys) f.0 g.0 (sym (behind_first x xs rest) ∙ e) in
    let q = front_of_text xs ys rest f.1 g.1 r.1 in
    (q.0, ap₂ (λ (z : List ℕ) (zs : Lines). z ∷ zs) (sym r.0) q.1, q.2)

pub same_lines : (xs ys : Lines) → AreWithout 10 xs → AreWithout 10 ys → text_of xs ≡ text_of ys → xs ≡ ys
same_lines [] [] f g e = refl
same_lines [] (y ∷ ys) f g e = absurd (let n = ap length e in omega (arith, longer y (text_of ys)))
same_lines (x ∷ xs) [] f g e = absurd (let n = ap length e in omega (arith, longer x (text_of xs)))
same_lines (x ∷ xs) (y ∷ ys) f g e =
    let r = one_line 10 x y (text_of xs) (text_of ys) f.0 g.0 e in
    ap₂ (λ (z : List ℕ) (zs : Lines). z ∷ zs) r.0 (same_lines xs ys f.1 g.1 r.1)

-- the first lines of a text are those that it is made of
pub first_of_lines : (xs : Lines) (rest : List ℕ) → AreWithout 10 xs → first_lines (text_of xs ++ rest) (length xs) ≡ Some (text_of xs)
first_of_lines [] rest f = first_lines-none rest
first_of_lines (x ∷ xs) rest f =
    ap (λ (t : List ℕ). first_lines t (suc (length xs))) (behind_first x xs rest)
    ∙ first_lines-line x (text_of xs ++ rest) (length xs) f.0
    ∙ ap (option_map (λ (front : List ℕ). x ++ 10 ∷ front)) (first_of_lines xs rest f.1)

-- a text that has a first line
pub record HasLine (text : List ℕ) : Type 0 where
  pub line : List ℕ
  pub back : List ℕ
  pub without : IsWithout 10 line
  pub parts : text ≡ line ++ 10 ∷ back

pub record IsMapped (o : Option (List ℕ)) (xs front : List ℕ) : Type 0 where
  pub inner : List ℕ
  pub some : o ≡ Some inner
  pub same : xs ++ 10 ∷ inner ≡ front

pub mapped : (o : Option (List ℕ)) (xs front : List ℕ) → option_map (λ (f : List ℕ). xs ++ 10 ∷ f) o ≡ Some front → IsMapped o xs front
mapped None xs front e = absurd (cc)
mapped (Some f) xs front e = record { inner = f; some = refl; same = cc }
