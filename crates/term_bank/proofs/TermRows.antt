-- The terms of cells: one cell more, and the first ones.
use Rattle.std.proofs.Common.{ℕ, zero, suc, ◌≡◌, ◌+◌, ◌-◌, ◌<◌, ◌≤◌, List, [], ◌∷◌, ◌++◌, length, take, drop, get_or, Some, refl, sym, ap, ◌∙◌, arith, length-drop}
use Rattle.std.specs.Prelude.{slice_get}
use Rattle.std.proofs.lemmas.List.{length_push, take_all, take_at, take-take, take-append-le, drop-append-le, drop-take, drop_at}
use Rattle.kb_term.specs.Tree.{Tree}
use Rattle.term_bank.specs.Terms.{term_at, terms_at, AreBelow}
use Rattle.term_bank.specs.Cells.{term_with, ids_of, terms_of, terms_in}
use Rattle.term_bank.specs.declared.cell.TermId.{TermId}
use Rattle.term_bank.specs.declared.cell.Entry.{Entry}

-- ---- arguments

pub below_more : (m n : ℕ) (ids : List TermId) → m ≤ n → AreBelow m ids → AreBelow n ids
below_more m n [] h b = b
below_more m n (id ∷ ids) h b = (omega (arith, b.0), below_more m n ids h b.1)

pub below_at : (end : ℕ) (ids : List TermId) (k : ℕ) (id : TermId) → AreBelow end ids → k < length ids → id ≡ get_or ids k id → id.0 < end
below_at end [] k id b h is = absurd (omega (arith, h))
below_at end (x ∷ xs) zero id b h is = omega (arith, ap (λ (y : TermId). y.0) is, b.0)
below_at end (x ∷ xs) (suc k) id b h is = below_at end xs k id b.1 (omega (arith, h)) is

pub below_push : (end : ℕ) (ids : List TermId) (id : TermId) → AreBelow end ids → id.0 < end → AreBelow end (ids ++ id ∷ [])
below_push end [] id b h = (h, tt)
below_push end (x ∷ xs) id b h = (b.0, below_push end xs id b.1 h)

pub terms_at-same : (ts us : List Tree) (end : ℕ) (ids : List TermId) → ((i : ℕ) → i < end → term_at ts i ≡ term_at us i) → AreBelow end ids → terms_at ts ids ≡ terms_at us ids
terms_at-same ts us end [] h b = refl
terms_at-same ts us end (id ∷ ids) h b = λ i. h id.0 b.0 i ∷ terms_at-same ts us end ids h b.1 i

pub ids_of-append : (arguments more : List TermId) (e : Entry) → e.start + e.count ≤ length arguments → ids_of (arguments ++ more) e ≡ ids_of arguments e
ids_of-append arguments more e h =
    ap (take e.count) (drop-append-le e.start arguments more (omega (arith, h)))
    ∙ take-append-le e.count (drop e.start arguments) more (omega (arith, length-drop e.start arguments))

pub ids_of-take : (m : ℕ) (arguments : List TermId) (e : Entry) → e.start + e.count ≤ m → ids_of (take m arguments) e ≡ ids_of arguments e
ids_of-take m arguments e h =
    let split : m ≡ e.start + (m - e.start) = omega arith in
    ap (λ k. take e.count (drop e.start (take k arguments))) split
    ∙ ap (take e.count) (drop-take e.start (m - e.start) arguments)
    ∙ take-take e.count (m - e.start) (drop e.start arguments) (omega arith)

pub ids_of-new : (arguments ids : List TermId) (e : Entry) → e.start ≡ length arguments → e.count ≡ length ids → ids_of (arguments ++ ids) e ≡ ids
ids_of-new arguments ids e s n =
    ap (take e.count) (drop_at arguments ids e.start (sym s)) ∙ take_all e.count ids (omega (arith, n))

-- ---- terms

pub terms_of-length : (es : List Entry) (arguments : List TermId) (before : List Tree) → length (terms_of es arguments before) ≡ length before + length es
terms_of-length [] arguments before = omega arith
terms_of-length (e ∷ es) arguments before =
    omega (arith, terms_of-length es arguments (before ++ term_with e.head (terms_at before (ids_of arguments e)) ∷ []), length_push before (term_with e.head (terms_at before (ids_of arguments e))))

pub terms_of-push : (es : List Entry) (e : Entry) (arguments : List TermId) (before : List Tree)
    → terms_of (es ++ e ∷ []) arguments before ≡ terms_of es arguments before ++ term_with e.head (terms_at (terms_of es arguments before) (ids_of arguments e)) ∷ []
terms_of-push [] e arguments before = refl
terms_of-push (x ∷ es) e arguments before = terms_of-push es e arguments (before ++ term_with x.head (terms_at before (ids_of arguments x)) ∷ [])

pub terms_of-same : (es : List Entry) (old new : List TermId) (before : List Tree) → ((i : ℕ) (e : Entry) → slice_get es i ≡ Some e → ids_of new e ≡ ids_of old e) → terms_of es new before ≡ terms_of es old before
terms_of-same [] old new before h = refl
terms_of-same (e ∷ es) old new before h =
    ap (λ ids. terms_of es new (before ++ term_with e.head (terms_at before ids) ∷ [])) (h 0 e refl)
    ∙ terms_of-same es old new (before ++ term_with e.head (terms_at before (ids_of old e)) ∷ []) (λ i x g. h (suc i) x g)

pub terms_of-front : (es : List Entry) (arguments : List TermId) (before : List Tree) → take (length before) (terms_of es arguments before) ≡ before
terms_of-front [] arguments before = take_all (length before) before (omega arith)
terms_of-front (e ∷ es) arguments before =
    let t = term_with e.head (terms_at before (ids_of arguments e)) in
    let more = before ++ t ∷ [] in
    let long : length more ≡ length before + 1 = length_push before t in
    sym (take-take (length before) (length more) (terms_of es arguments more) (omega arith))
    ∙ ap (take (length before)) (terms_of-front es arguments more)
    ∙ take_at before (t ∷ []) (length before) refl

pub terms_of-take : (n : ℕ) (es : List Entry) (arguments : List TermId) (before : List Tree) → terms_of (take n es) arguments before ≡ take (length before + n) (terms_of es arguments before)
terms_of-take zero es arguments before =
    let none : length before + 0 ≡ length before = omega arith in
    sym (ap (λ k. take k (terms_of es arguments before)) none ∙ terms_of-front es arguments before)
terms_of-take (suc n) [] arguments before = sym (take_all (length before + suc n) before (omega arith))
terms_of-take (suc n) (e ∷ es) arguments before =
    let t = term_with e.head (terms_at before (ids_of arguments e)) in
    let more = before ++ t ∷ [] in
    let long : length more + n ≡ length before + suc n = omega (arith, length_push before t) in
    terms_of-take n es arguments more ∙ ap (λ k. take k (terms_of es arguments more)) long

-- the terms of the first cells
pub terms_in-take : (n : ℕ) (es : List Entry) (arguments : List TermId) → terms_in (take n es) arguments ≡ take n (terms_in es arguments)
terms_in-take n es arguments =
    let plain : 0 + n ≡ n = omega arith in
    terms_of-take n es arguments [] ∙ ap (λ k. take k (terms_of es arguments [])) plain

pub terms_in-length : (es : List Entry) (arguments : List TermId) → length (terms_in es arguments) ≡ length es
terms_in-length es arguments = omega (arith, terms_of-length es arguments [])
