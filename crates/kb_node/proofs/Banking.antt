-- Pairs beside the bank of their terms: what there are of cells, the first pairs, and one pair more.
use Rattle.std.proofs.Common.{◌≡◌, ℕ, suc, ◌+◌, ◌*◌, ◌<◌, ◌≤◌, ◌⊎◌, inl, inr, Bool, true, false, cond, List, [], ◌∷◌, ◌++◌, length, take, drop, Some, refl, sym, ap, ap₂, subst, ◌∙◌, arith, ⊎_elim}
use Rattle.std.specs.Prelude.{slice_get}
use Rattle.std.specs.List.{list_any}
use Rattle.std.proofs.lemmas.List.{length_push, length-take-le, take-take, take-append-le, take-append-drop, take_all}
use Rattle.std.proofs.lemmas.Option.{slice_get_within, same_Some, none-some}
use Rattle.kb_lemmas.proofs.Numbers.{below_or_at}
use Rattle.kb_lemmas.proofs.Lists.{get_take}
use Rattle.kb_term.specs.Tree.{Tree, tree_size, tree_eq}
use Rattle.kb_term.specs.Pair.{Pair}
use Rattle.term_bank.specs.Terms.{HasTerm, AreDistinct, subterms, with_term, with_missing}
use Rattle.term_bank.proofs.Places.{get_left, get_end}
use Rattle.term_bank.proofs.Missing.{IsFront, missing_front, missing_most, front_then, front_has, subterms_length, with_term-has}
use Rattle.kb_node.specs.Banked.{AreSides, IsPairWithin, IsBanked, with_sides, with_pairs, first_cells}
use Rattle.kb_node.specs.declared.sides.Sides.{Sides}

-- a member of a list with one more is an old one, or the one at the end
pub old_or_new : {A : Type 0} (xs : List A) (x y : A) (i : ℕ) → slice_get (xs ++ x ∷ []) i ≡ Some y → ((i < length xs) × (slice_get xs i ≡ Some y)) ⊎ ((i ≡ length xs) × (x ≡ y))
old_or_new xs x y i g =
    ⊎_elim
    (λ l. inl (l, sym (get_left xs (x ∷ []) i l) ∙ g))
    (λ l. inr (l, same_Some x y (sym (get_end xs x []) ∙ ap (slice_get (xs ++ x ∷ [])) (sym l) ∙ g)))
    (below_or_at i (length xs) (omega (arith, slice_get_within (xs ++ x ∷ []) i y g, length_push xs x)))

-- ---- what comes in

with_term-distinct : (terms : List Tree) (t : Tree) → AreDistinct terms → AreDistinct (with_term terms t)
with_term-distinct terms t d = go (list_any (tree_eq t) terms) refl
  where
    -- an old cell has the new term
    twice : (b : Bool) → list_any (tree_eq t) terms ≡ b → b ≡ false → (i : ℕ) → HasTerm terms i t → ⊥
    twice b e n i g =
        omega (arith, length_push terms t, ap length (sym (ap (λ c. cond c terms (terms ++ t ∷ [])) (e ∙ n)) ∙ with_term-has terms i t g))

    go : (b : Bool) → list_any (tree_eq t) terms ≡ b → AreDistinct (cond b terms (terms ++ t ∷ []))
    go true e = d
    go false e = λ i j u g h.
        ⊎_elim
        (λ o. ⊎_elim
        (λ p. d i j u o.1 p.1)
        (λ p. absurd (twice false e refl i (o.1 ∙ ap Some (sym p.1))))
        (old_or_new terms t u j h))
        (λ o. ⊎_elim
        (λ p. absurd (twice false e refl j (p.1 ∙ ap Some (sym o.1))))
        (λ p. o.0 ∙ sym p.0)
        (old_or_new terms t u j h))
        (old_or_new terms t u i g)

with_missing-distinct : (terms us : List Tree) → AreDistinct terms → AreDistinct (with_missing terms us)
with_missing-distinct terms [] d = d
with_missing-distinct terms (u ∷ us) d = with_missing-distinct (with_term terms u) us (with_term-distinct terms u d)

with_pairs-distinct : (terms : List Tree) (es : List Pair) → AreDistinct terms → AreDistinct (with_pairs terms es)
with_pairs-distinct terms [] d = d
with_pairs-distinct terms (e ∷ es) d =
    with_pairs-distinct (with_sides terms e) es (with_missing-distinct (with_missing terms (subterms e.first)) (subterms e.second) (with_missing-distinct terms (subterms e.first) d))

pub with_sides-front : (terms : List Tree) (e : Pair) → IsFront terms (with_sides terms e)
with_sides-front terms e =
    let first = with_missing terms (subterms e.first) in
    front_then terms first (with_missing first (subterms e.second)) (missing_front terms (subterms e.first)) (missing_front first (subterms e.second))

with_sides-most : (terms : List Tree) (e : Pair) → length (with_sides terms e) ≤ length terms + (tree_size e.first + tree_size e.second)
with_sides-most terms e =
    omega (arith, missing_most terms (subterms e.first), missing_most (with_missing terms (subterms e.first)) (subterms e.second), subterms_length e.first, subterms_length e.second)

with_pairs-front : (terms : List Tree) (es : List Pair) → IsFront terms (with_pairs terms es)
with_pairs-front terms [] = missing_front terms []
with_pairs-front terms (e ∷ es) = front_then terms (with_sides terms e) (with_pairs (with_sides terms e) es) (with_sides-front terms e) (with_pairs-front (with_sides terms e) es)

with_pairs-append : (terms : List Tree) (es fs : List Pair) → with_pairs terms (es ++ fs) ≡ with_pairs (with_pairs terms es) fs
with_pairs-append terms [] fs = refl
with_pairs-append terms (e ∷ es) fs = with_pairs-append (with_sides terms e) es fs

with_pairs-most : (terms : List Tree) (es : List Pair) → ((i : ℕ) (e : Pair) → slice_get es i ≡ Some e → IsPairWithin e) → length (with_pairs terms es) ≤ length terms + 1024 * length es
with_pairs-most terms [] h = omega arith
with_pairs-most terms (e ∷ es) h =
    let here = h 0 e refl in
    omega (arith, with_sides-most terms e, with_pairs-most (with_sides terms e) es (λ i x g. h (suc i) x g), here.0.size, here.1.size)

-- the cells of the first pairs are the first cells
first_cells-front : (pairs : List Pair) (n : ℕ) → IsFront (first_cells pairs n) (with_pairs [] pairs)
first_cells-front pairs n =
    subst (IsFront (first_cells pairs n)) (sym (with_pairs-append [] (take n pairs) (drop n pairs)) ∙ ap (with_pairs []) (take-append-drop n pairs))
    (with_pairs-front (first_cells pairs n) (drop n pairs))

pub sides-front : (old new : List Tree) (s : Sides) (e : Pair) → IsFront old new → AreSides old s e → AreSides new s e
sides-front old new s e f h = record { first = front_has old new s.first.0 e.first f h.first; second = front_has old new s.second.0 e.second f h.second }

-- ---- the pairs of a table

module _ (terms : List Tree) (sides : List Sides) (starts : List ℕ) (pairs : List Pair) (f : IsBanked terms sides starts pairs) where
  pub sides_at : (i : ℕ) (s : Sides) (e : Pair) → slice_get sides i ≡ Some s → slice_get pairs i ≡ Some e → AreSides terms s e
  sides_at i s e g h = subst (λ ts. AreSides ts s e) (sym f.cells) (sides-front (first_cells pairs (i + 1)) (with_pairs [] pairs) s e (first_cells-front pairs (i + 1)) (f.side i s e g h))

  pub distinct : AreDistinct terms
  distinct = subst AreDistinct (sym f.cells) (with_pairs-distinct [] pairs (λ i j t g h. absurd (none-some t g)))

  -- there is room for one pair more
  pub room : length pairs < 4096 → (e : Pair) → IsPairWithin e → length terms + (tree_size e.first + tree_size e.second) ≤ 4194304
  room l e w = omega (arith, ap length f.cells, with_pairs-most [] pairs f.within, w.0.size, w.1.size)

  pub start_low : (n start : ℕ) → slice_get starts n ≡ Some start → start ≤ length terms
  start_low n start g = omega (arith, f.start n start g, ap length f.cells, (first_cells-front pairs n).more)

  -- ---- the first pairs alone

  module _ (n start : ℕ) (h : n ≤ length pairs) (is : slice_get starts n ≡ Some start) where
    earlier : (i : ℕ) → i ≤ n → first_cells (take n pairs) i ≡ first_cells pairs i
    earlier i l = ap (with_pairs []) (take-take i n pairs l)

    count : length (take n pairs) ≡ n
    count = length-take-le n pairs h

    pub banked-take : IsBanked (take start terms) (take n sides) (take n starts) (take n pairs)
    banked-take = record {
      few = omega (arith, count, f.few);
      within = λ i e g. f.within i e (get_take n pairs i e g).1;
      cells = ap₂ take (f.start n start is) f.cells ∙ (first_cells-front pairs n).front;
      side_count = length-take-le n sides (omega (arith, f.side_count)) ∙ sym count;
      side = λ i s e g k.
          let old = get_take n sides i s g in
          subst (λ ts. AreSides ts s e) (sym (earlier (i + 1) (omega (arith, old.0)))) (f.side i s e old.1 (get_take n pairs i e k).1);
      start_count = length-take-le n starts (omega (arith, f.start_count)) ∙ sym count;
      start = λ i m g.
          let old = get_take n starts i m g in
          f.start i m old.1 ∙ ap length (sym (earlier i (omega (arith, old.0))));
      one_pair = λ i j e l g k. f.one_pair i j e l (get_take n pairs i e g).1 (get_take n pairs j e k).1;
    }

  -- ---- one pair more

  module _ (e : Pair) (s : Sides) (start : ℕ) (new : List Tree) (few : length pairs < 4096) (within : IsPairWithin e) (made : new ≡ with_sides terms e) (has : AreSides new s e)
      (counted : start ≡ length terms) (lacks : (i : ℕ) → slice_get pairs i ≡ Some e → ⊥) where
    cells_more : new ≡ with_pairs [] (pairs ++ e ∷ [])
    cells_more = made ∙ ap (λ ts. with_sides ts e) f.cells ∙ sym (with_pairs-append [] pairs (e ∷ []))

    before : (i : ℕ) → i ≤ length pairs → first_cells (pairs ++ e ∷ []) i ≡ first_cells pairs i
    before i l = ap (with_pairs []) (take-append-le i pairs (e ∷ []) l)

    whole : (i : ℕ) → i ≡ length pairs → first_cells (pairs ++ e ∷ []) (i + 1) ≡ new
    whole i l = ap (with_pairs []) (take_all (i + 1) (pairs ++ e ∷ []) (omega (arith, length_push pairs e))) ∙ sym cells_more

    pub banked-push : IsBanked new (sides ++ s ∷ []) (starts ++ start ∷ []) (pairs ++ e ∷ [])
    banked-push = record {
      few = omega (arith, length_push pairs e);
      within = λ i x g. ⊎_elim (λ o. f.within i x o.1) (λ o. subst IsPairWithin o.1 within) (old_or_new pairs e x i g);
      cells = cells_more;
      side_count = omega (arith, length_push sides s, length_push pairs e, f.side_count);
      side = λ i t x g k.
          ⊎_elim
          (λ o. ⊎_elim
          (λ p. subst (λ ts. AreSides ts t x) (sym (before (i + 1) (omega (arith, p.0)))) (f.side i t x o.1 p.1))
          (λ p. absurd (omega (arith, o.0, p.0, f.side_count)))
          (old_or_new pairs e x i k))
          (λ o. ⊎_elim
          (λ p. absurd (omega (arith, o.0, p.0, f.side_count)))
          (λ p. subst (λ ts. AreSides ts t x) (sym (whole i p.0)) (subst (λ u. AreSides new u x) o.1 (subst (AreSides new s) p.1 has)))
          (old_or_new pairs e x i k))
          (old_or_new sides s t i g);
      start_count = omega (arith, length_push starts start, length_push pairs e, f.start_count);
      start = λ i m g.
          ⊎_elim
          (λ o. f.start i m o.1 ∙ ap length (sym (before i (omega (arith, o.0, f.start_count)))))
          (λ o.
          let last : i ≡ length pairs = o.0 ∙ f.start_count in
          sym o.1 ∙ counted ∙ ap length (f.cells ∙ ap (with_pairs []) (sym (take_all i pairs (omega (arith, last))))) ∙ ap length (sym (before i (omega (arith, last)))))
          (old_or_new starts start m i g);
      one_pair = λ i j x l g k.
          ⊎_elim
          (λ o. ⊎_elim
          (λ p. f.one_pair i j x l o.1 p.1)
          (λ p. lacks i (o.1 ∙ ap Some (sym p.1)))
          (old_or_new pairs e x j k))
          (λ o. absurd (omega (arith, o.0, slice_get_within (pairs ++ e ∷ []) j x k, length_push pairs e)))
          (old_or_new pairs e x i g);
    }
