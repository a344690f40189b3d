-- The numbers of an interpretation by their places.
use Rattle.std.proofs.Common.{ℕ, zero, suc, ◌+◌, ◌-◌, ◌≤◌, ◌<◌, ◌≡◌, refl, sym, ap, ap₂, ◌∙◌, arith, List, [], ◌∷◌, ◌++◌, length, get_or, set, take, append_assoc}
use Rattle.std.specs.Prelude.{Vec, replicate}
use Rattle.std.specs.declared.alloc.Global.{Global}
use Rattle.std.proofs.lemmas.List.{length-append, map-append, append-nil}
use Rattle.kb_lemmas.proofs.Lists.{take_next}
use Rattle.kb_term.specs.Signature.{Signature, HasArity}
use Rattle.kb_linear.specs.LinearOrder.{Interpretation}
use Rattle.kb_linear.specs.Limits.{interpretation_of}
use Rattle.kb_linear.specs.Numbers.{numbers_of, shape_of, uniform}

pub numbers_of-append : (i j : Interpretation) → numbers_of (i ++ j) ≡ numbers_of i ++ numbers_of j
numbers_of-append [] j = refl
numbers_of-append (row ∷ i) j = ap (λ ns. row.0 ∷ (row.1 ++ ns)) (numbers_of-append i j) ∙ ap (row.0 ∷◌) (sym (append_assoc row.1 (numbers_of i) (numbers_of j)))

pub numbers_more : (rows : List (ℕ × Vec ℕ Global)) (k : ℕ) (row : ℕ × Vec ℕ Global) → k < length rows → row ≡ get_or rows k row → numbers_of (interpretation_of (take (k + 1) rows)) ≡ (numbers_of (interpretation_of (take k rows)) ++ row.0 ∷ []) ++ row.1.items
numbers_more rows k row h e =
    ap (λ z. numbers_of (interpretation_of z)) (take_next rows k row h e)
    ∙ ap numbers_of (map-append (λ (r : ℕ × Vec ℕ Global). (r.0, r.1.items)) (take k rows) (row ∷ []))
    ∙ numbers_of-append (interpretation_of (take k rows)) ((row.0, row.1.items) ∷ [])
    ∙ ap (λ z. numbers_of (interpretation_of (take k rows)) ++ row.0 ∷ z) (append-nil row.1.items)
    ∙ sym (append_assoc (numbers_of (interpretation_of (take k rows))) (row.0 ∷ []) row.1.items)

-- the place at which the numbers of the f-th row begin
abbrev pub offset : Interpretation → ℕ → ℕ
offset i zero = 0
offset [] (suc f) = 0
offset (row ∷ i) (suc f) = length row.1 + 1 + offset i f

pub offset_more : (rows : List (ℕ × Vec ℕ Global)) (f : ℕ) (row : ℕ × Vec ℕ Global) → f < length rows → row ≡ get_or rows f row → offset (interpretation_of rows) (f + 1) ≡ offset (interpretation_of rows) f + length row.1.items + 1
offset_more [] f row h e = absurd (omega arith)
offset_more (r ∷ rows) zero row h e = let q : length row.1.items ≡ length r.1.items = ap (λ (z : ℕ × Vec ℕ Global). length z.1.items) e in omega arith
offset_more (r ∷ rows) (suc f) row h e = let n : suc f + 1 ≡ suc (f + 1) = omega arith in let q = ap (offset (interpretation_of (r ∷ rows))) n in omega (arith, q, offset_more rows f row (omega arith) e)

pub offset_end : (i : Interpretation) (f : ℕ) → length i ≤ f → offset i f ≡ length (numbers_of i)
offset_end [] zero h = refl
offset_end [] (suc f) h = refl
offset_end (row ∷ i) zero h = absurd (omega arith)
offset_end (row ∷ i) (suc f) h = omega (arith, length-append row.1 (numbers_of i), offset_end i f (omega arith))

set_front : (xs ys : List ℕ) (k n : ℕ) → k < length xs → set (xs ++ ys) k n ≡ set xs k n ++ ys
set_front [] ys k n h = absurd (omega arith)
set_front (x ∷ xs) ys zero n h = refl
set_front (x ∷ xs) ys (suc k) n h = ap (x ∷◌) (set_front xs ys k n (omega arith))

set_behind : (xs ys : List ℕ) (k m n : ℕ) → m ≡ length xs + k → set (xs ++ ys) m n ≡ xs ++ set ys k n
set_behind [] ys k m n e = let q : m ≡ k = omega arith in ap (λ z. set ys z n) q
set_behind (x ∷ xs) ys k zero n e = absurd (omega arith)
set_behind (x ∷ xs) ys k (suc m) n e = ap (x ∷◌) (set_behind xs ys k m n (omega arith))

-- a row with another number at a place, its constant first
pub record IsRowSet (row new : ℕ × List ℕ) (j n : ℕ) : Type 0 where
  pub within : j < length row.1 + 1
  pub numbers : new.0 ∷ new.1 ≡ set (row.0 ∷ row.1) j n

pub constant_set : (row : ℕ × List ℕ) (j n : ℕ) → j ≡ 0 → IsRowSet row (n, row.1) j n
constant_set row j n e = record { within = omega arith; numbers = sym (ap (λ z. set (row.0 ∷ row.1) z n) e) }

pub coefficient_set : (row : ℕ × List ℕ) (j n : ℕ) → 0 < j → j ≤ length row.1 → IsRowSet row (row.0, set row.1 (j - 1) n) j n
coefficient_set row j n p h = let e : j ≡ suc (j - 1) = omega arith in record { within = omega arith; numbers = sym (ap (λ z. set (row.0 ∷ row.1) z n) e) }

pub numbers_set : (i : Interpretation) (f j k n : ℕ) (row new : ℕ × List ℕ) → f < length i → get_or i f row ≡ row → IsRowSet row new j n → offset i f + j ≡ k → numbers_of (set i f new) ≡ set (numbers_of i) k n
numbers_set [] f j k n row new h e s o = absurd (omega arith)
numbers_set (r ∷ i) zero j k n row new h e s o =
    let w = s.within in
    let q : numbers_of (new ∷ i) ≡ set (row.0 ∷ row.1) j n ++ numbers_of i = ap (λ z. z ++ numbers_of i) s.numbers in
    let p : numbers_of (r ∷ i) ≡ (row.0 ∷ row.1) ++ numbers_of i = ap (λ (z : ℕ × List ℕ). z.0 ∷ (z.1 ++ numbers_of i)) e in
    let m : j ≡ k = omega arith in
    q ∙ sym (set_front (row.0 ∷ row.1) (numbers_of i) j n (omega arith)) ∙ ap₂ (λ ns z. set ns z n) (sym p) m
numbers_set (r ∷ i) (suc f) j k n row new h e s o =
    ap (λ ns. r.0 ∷ (r.1 ++ ns)) (numbers_set i f j (offset i f + j) n row new (omega arith) e s refl)
    ∙ sym (set_behind (r.0 ∷ r.1) (numbers_of i) (offset i f + j) k n (omega arith))

pub shape_set : (i : Interpretation) (f : ℕ) (row new : ℕ × List ℕ) → get_or i f row ≡ row → length new.1 ≡ length row.1 → shape_of (set i f new) ≡ shape_of i
shape_set [] f row new e l = refl
shape_set (r ∷ i) zero row new e l = let q : length new.1 ≡ length r.1 = l ∙ sym (ap (λ (z : ℕ × List ℕ). length z.1) e) in ap (λ z. z ∷ shape_of i) q
shape_set (r ∷ i) (suc f) row new e l = ap (length r.1 ∷◌) (shape_set i f row new e l)

pub interpretation_set : (rows : List (ℕ × Vec ℕ Global)) (f : ℕ) (new : ℕ × Vec ℕ Global) → interpretation_of (set rows f new) ≡ set (interpretation_of rows) f (new.0, new.1.items)
interpretation_set [] f new = refl
interpretation_set (r ∷ rows) zero new = refl
interpretation_set (r ∷ rows) (suc f) new = ap ((r.0, r.1.items) ∷◌) (interpretation_set rows f new)

pub interpretation_at : (rows : List (ℕ × Vec ℕ Global)) (f : ℕ) (row : ℕ × Vec ℕ Global) → f < length rows → row ≡ get_or rows f row → get_or (interpretation_of rows) f (row.0, row.1.items) ≡ (row.0, row.1.items)
interpretation_at [] f row h e = absurd (omega arith)
interpretation_at (r ∷ rows) zero row h e = ap (λ (z : ℕ × Vec ℕ Global). (z.0, z.1.items)) (sym e)
interpretation_at (r ∷ rows) (suc f) row h e = interpretation_at rows f row (omega arith) e

pub length-interpretation : (rows : List (ℕ × Vec ℕ Global)) → length (interpretation_of rows) ≡ length rows
length-interpretation [] = refl
length-interpretation (r ∷ rows) = omega (arith, length-interpretation rows)

-- one more row of the same numbers
pub uniform_more : (rows : List (ℕ × Vec ℕ Global)) (now : List (ℕ × Vec ℕ Global)) (sig : Signature) (f arity constant coefficient : ℕ) (cs : Vec ℕ Global) → now ≡ rows ++ (constant, cs) ∷ [] → HasArity sig f arity → cs.items ≡ replicate arity coefficient
    → interpretation_of rows ≡ uniform (take f sig) constant coefficient → interpretation_of now ≡ uniform (take (f + 1) sig) constant coefficient
uniform_more rows now sig f arity constant coefficient cs e h c r =
    ap interpretation_of e ∙ map-append (λ (r : ℕ × Vec ℕ Global). (r.0, r.1.items)) rows ((constant, cs) ∷ []) ∙ ap₂ (λ i ns. i ++ (constant, ns) ∷ []) r c ∙ sym (taken sig f h)
  where
    taken : (sig : Signature) (f : ℕ) → HasArity sig f arity → uniform (take (f + 1) sig) constant coefficient ≡ uniform (take f sig) constant coefficient ++ (constant, replicate arity coefficient) ∷ []
    taken [] f h = absurd (cc)
    taken (g ∷ sig) zero h = let q : g.arity ≡ arity = cc in ap (λ n. (constant, replicate n coefficient) ∷ []) q
    taken (g ∷ sig) (suc f) h = let n : suc f + 1 ≡ suc (f + 1) = omega arith in ap (λ z. uniform (take z (g ∷ sig)) constant coefficient) n ∙ ap ((constant, replicate g.arity coefficient) ∷◌) (taken sig f h)

-- two reads at one place
pub same_row : {X : Type 0} (rows : List X) (f : ℕ) (x y : X) → f < length rows → x ≡ get_or rows f x → y ≡ get_or rows f y → x ≡ y
same_row [] f x y h d e = absurd (omega arith)
same_row (r ∷ rows) zero x y h d e = d ∙ sym e
same_row (r ∷ rows) (suc f) x y h d e = same_row rows f x y (omega arith) d e
