-- Cells keep what they keep when one comes and when the last ones go.
use Rattle.std.proofs.Common.{ℕ, ◌≡◌, ◌+◌, ◌<◌, ◌≤◌, ◌⊎◌, inl, inr, List, [], ◌∷◌, ◌++◌, length, take, get_or, Some, refl, sym, ap, subst, ◌∙◌, arith, length-append, ⊎_elim}
use Rattle.std.specs.Prelude.{slice_get}
use Rattle.std.proofs.lemmas.List.{length_push, length-take-le, take-map, map_push, get_or-take, get_or_append_left, get_or_push}
use Rattle.std.proofs.lemmas.Option.{slice_get_within, slice_get-get_or, same_Some}
use Rattle.kb_lemmas.proofs.Numbers.{below_or_at}
use Rattle.kb_lemmas.proofs.Lists.{get_take}
use Rattle.kb_term.specs.Tree.{Tree, variable, tree_size, tree_depth}
use Rattle.term_bank.specs.Hashing.{tree_hash}
use Rattle.term_bank.specs.Terms.{HasTerm, LacksTerm, term_at, terms_at, AreBelow, AreDistinct}
use Rattle.term_bank.specs.Cells.{term_with, ids_of, terms_in, IsCell, AreCells, IsBank}
use Rattle.term_bank.specs.declared.cell.TermId.{TermId}
use Rattle.term_bank.specs.declared.cell.Entry.{Entry}
use Rattle.term_bank.proofs.Places.{get_left, get_end}
use Rattle.term_bank.proofs.TermRows.{terms_at-same, ids_of-append, ids_of-take, ids_of-new, terms_of-push, terms_of-same, terms_in-take, terms_in-length}

-- a cell of the same arguments and the same earlier terms
cell-same : (old new : List TermId) (ts us : List Tree) (i : ℕ) (e : Entry) → IsCell old ts i e → e.start + e.count ≤ length new → ids_of new e ≡ ids_of old e → ((j : ℕ) → j ≤ i → term_at us j ≡ term_at ts j) → IsCell new us i e
cell-same old new ts us i e c within ids same = record {
  within = within;
  below = subst (AreBelow i) (sym ids) c.below;
  term = same i (omega arith) ∙ c.term ∙ ap (term_with e.head) (sym (ap (terms_at us) ids ∙ terms_at-same us ts i (ids_of old e) (λ j h. same j (omega (arith, h))) c.below));
  size = c.size ∙ ap tree_size (sym (same i (omega arith)));
  depth = c.depth ∙ ap tree_depth (sym (same i (omega arith)));
}

-- ---- one cell more

module _ (terms : List Tree) (hashes : List ℕ) (cells : List Entry) (arguments ids : List TermId) (e : Entry) (t : Tree)
    (old : AreCells terms hashes cells arguments) (start : e.start ≡ length arguments) (count : e.count ≡ length ids)
    (is : t ≡ term_with e.head (terms_at terms ids)) (below : AreBelow (length cells) ids) (size : e.size ≡ tree_size t) (depth : e.depth ≡ tree_depth t)
    (lacks : LacksTerm terms t) (room : length cells < 4194304) where
  earlier : (j : ℕ) → j < length cells → term_at (terms ++ t ∷ []) j ≡ term_at terms j
  earlier j h = get_or_append_left terms (t ∷ []) (variable 0) j (omega (arith, old.same))

  last_term : term_at (terms ++ t ∷ []) (length cells) ≡ t
  last_term = get_or_push terms t (variable 0) (length cells) old.same

  wide : length (arguments ++ ids) ≡ length arguments + length ids
  wide = length-append arguments ids

  new_ids : ids_of (arguments ++ ids) e ≡ ids
  new_ids = ids_of-new arguments ids e start count

  old_cell : (i : ℕ) (x : Entry) → i < length cells → slice_get (cells ++ e ∷ []) i ≡ Some x → slice_get cells i ≡ Some x
  old_cell i x h g = sym (get_left cells (e ∷ []) i h) ∙ g

  new_cell : (i : ℕ) (x : Entry) → i ≡ length cells → slice_get (cells ++ e ∷ []) i ≡ Some x → e ≡ x
  new_cell i x h g = same_Some e x (sym (get_end cells e []) ∙ ap (slice_get (cells ++ e ∷ [])) (sym h) ∙ g)

  number : (i : ℕ) (x : Entry) → slice_get (cells ++ e ∷ []) i ≡ Some x → (i < length cells) ⊎ (i ≡ length cells)
  number i x g = below_or_at i (length cells) (omega (arith, slice_get_within (cells ++ e ∷ []) i x g, length_push cells e))

  mine : IsCell (arguments ++ ids) (terms ++ t ∷ []) (length cells) e
  mine = record {
    within = omega (arith, wide, start, count);
    below = subst (AreBelow (length cells)) (sym new_ids) below;
    term = last_term ∙ is ∙ ap (term_with e.head) (sym (ap (terms_at (terms ++ t ∷ [])) new_ids ∙ terms_at-same (terms ++ t ∷ []) terms (length cells) ids earlier below));
    size = size ∙ ap tree_size (sym last_term);
    depth = depth ∙ ap tree_depth (sym last_term);
  }

  each_more : (i : ℕ) (x : Entry) → slice_get (cells ++ e ∷ []) i ≡ Some x → IsCell (arguments ++ ids) (terms ++ t ∷ []) i x
  each_more i x g =
      ⊎_elim
      (λ (h : i < length cells).
      let c = old.each i x (old_cell i x h g) in
      cell-same arguments (arguments ++ ids) terms (terms ++ t ∷ []) i x c (omega (arith, c.within, wide)) (ids_of-append arguments ids x c.within) (λ j k. earlier j (omega arith)))
      (λ (h : i ≡ length cells). subst (λ (y : Entry). IsCell (arguments ++ ids) (terms ++ t ∷ []) i y) (new_cell i x h g) (subst (λ j. IsCell (arguments ++ ids) (terms ++ t ∷ []) j e) (sym h) mine))
      (number i x g)

  rows_more : (i j : ℕ) (d x : Entry) → slice_get (cells ++ e ∷ []) i ≡ Some d → slice_get (cells ++ e ∷ []) j ≡ Some x → i < j → d.start + d.count ≤ x.start
  rows_more i j d x g h l =
      ⊎_elim
      (λ (k : j < length cells). old.rows i j d x (old_cell i d (omega arith) g) (old_cell j x k h) l)
      (λ (k : j ≡ length cells). omega (arith, (old.each i d (old_cell i d (omega arith) g)).within, start, ap (λ (y : Entry). y.start) (new_cell j x k h)))
      (number j x h)

  place_of : (i : ℕ) (u : Tree) → HasTerm (terms ++ t ∷ []) i u → (HasTerm terms i u) ⊎ ((i ≡ length terms) × (t ≡ u))
  place_of i u g =
      ⊎_elim
      (λ (h : i < length terms). inl (sym (get_left terms (t ∷ []) i h) ∙ g))
      (λ (h : i ≡ length terms). inr (h, same_Some t u (sym (get_end terms t []) ∙ ap (slice_get (terms ++ t ∷ [])) (sym h) ∙ g)))
      (below_or_at i (length terms) (omega (arith, slice_get_within (terms ++ t ∷ []) i u g, length_push terms t)))

  distinct_more : AreDistinct (terms ++ t ∷ [])
  distinct_more i j u g h =
      ⊎_elim
      (λ (a : HasTerm terms i u). ⊎_elim
      (λ (b : HasTerm terms j u). old.distinct i j u a b)
      (λ (b : (j ≡ length terms) × (t ≡ u)). absurd (lacks i (a ∙ ap Some (sym b.1))))
      (place_of j u h))
      (λ (a : (i ≡ length terms) × (t ≡ u)). ⊎_elim
      (λ (b : HasTerm terms j u). absurd (lacks j (b ∙ ap Some (sym a.1))))
      (λ (b : (j ≡ length terms) × (t ≡ u)). a.0 ∙ sym b.0)
      (place_of j u h))
      (place_of i u g)

  cells_more : AreCells (terms ++ t ∷ []) (hashes ++ tree_hash t ∷ []) (cells ++ e ∷ []) (arguments ++ ids)
  cells_more = record {
    few = omega (arith, length_push cells e);
    same = omega (arith, length_push cells e, length_push terms t, old.same);
    each = each_more;
    rows = rows_more;
    hashed = ap (λ hs. hs ++ tree_hash t ∷ []) old.hashed ∙ sym (map_push tree_hash terms t);
    distinct = distinct_more;
  }

-- ---- the first cells

module _ (terms : List Tree) (hashes : List ℕ) (cells : List Entry) (arguments : List TermId) (old : AreCells terms hashes cells arguments)
    (n m : ℕ) (fewer : n ≤ length cells) (shorter : m ≤ length arguments) (fits : (i : ℕ) (e : Entry) → i < n → slice_get cells i ≡ Some e → e.start + e.count ≤ m) where
  pub cells_take : AreCells (take n terms) (take n hashes) (take n cells) (take m arguments)
  cells_take =
      let counted : length (take n cells) ≡ n = length-take-le n cells fewer in
      let told : length (take n terms) ≡ n = length-take-le n terms (omega (arith, old.same)) in
      let kept : length (take m arguments) ≡ m = length-take-le m arguments shorter in
      record {
        few = omega (arith, old.few);
        same = told ∙ sym counted;
        each = λ i e g.
            let at = get_take n cells i e g in
            cell-same arguments (take m arguments) terms (take n terms) i e (old.each i e at.1) (omega (arith, fits i e at.0 at.1)) (ids_of-take m arguments e (fits i e at.0 at.1))
            (λ j h. get_or-take n terms j (variable 0) (omega (arith, at.0)));
        rows = λ i j d e g h l. old.rows i j d e (get_take n cells i d g).1 (get_take n cells j e h).1 l;
        hashed = ap (take n) old.hashed ∙ take-map tree_hash n terms;
        distinct = λ i j t g h. old.distinct i j t (get_take n terms i t g).1 (get_take n terms j t h).1;
      }

-- ---- banks

module _ (hashes : List ℕ) (cells : List Entry) (arguments : List TermId) (bank : IsBank hashes cells arguments) where
  pub bank_push : (ids : List TermId) (e : Entry) (t : Tree) → e.start ≡ length arguments → e.count ≡ length ids → t ≡ term_with e.head (terms_at (terms_in cells arguments) ids) → AreBelow (length cells) ids → e.size ≡ tree_size t → e.depth ≡ tree_depth t
      → LacksTerm (terms_in cells arguments) t → length cells < 4194304
      → (terms_in (cells ++ e ∷ []) (arguments ++ ids) ≡ terms_in cells arguments ++ t ∷ []) × IsBank (hashes ++ tree_hash t ∷ []) (cells ++ e ∷ []) (arguments ++ ids)
  bank_push ids e t start count is below size depth lacks room =
      let terms = terms_in cells arguments in
      let stay : terms_in cells (arguments ++ ids) ≡ terms_in cells arguments = terms_of-same cells arguments (arguments ++ ids) [] (λ i x g. ids_of-append arguments ids x (bank.each i x g).within) in
      let made : terms_in (cells ++ e ∷ []) (arguments ++ ids) ≡ terms_in cells arguments ++ t ∷ [] =
      terms_of-push cells e (arguments ++ ids) []
      ∙ ap (λ ts. ts ++ term_with e.head (terms_at ts (ids_of (arguments ++ ids) e)) ∷ []) stay
      ∙ ap (λ xs. terms_in cells arguments ++ term_with e.head (terms_at (terms_in cells arguments) xs) ∷ []) (ids_of-new arguments ids e start count)
      ∙ ap (λ u. terms_in cells arguments ++ u ∷ []) (sym is) in (
        made,
        subst (λ ts. AreCells ts (hashes ++ tree_hash t ∷ []) (cells ++ e ∷ []) (arguments ++ ids)) (sym made)
            (cells_more terms hashes cells arguments ids e t bank start count is below size depth lacks room),
      )

  module _ (n m : ℕ) (fewer : n ≤ length cells) (shorter : m ≤ length arguments) (fits : (i : ℕ) (e : Entry) → i < n → slice_get cells i ≡ Some e → e.start + e.count ≤ m) where
    pub bank_take-terms : terms_in (take n cells) (take m arguments) ≡ take n (terms_in cells arguments)
    bank_take-terms =
        terms_of-same (take n cells) arguments (take m arguments) [] (λ i e g. let at = get_take n cells i e g in ids_of-take m arguments e (fits i e at.0 at.1))
        ∙ terms_in-take n cells arguments

    pub bank_take : IsBank (take n hashes) (take n cells) (take m arguments)
    bank_take = subst (λ ts. AreCells ts (take n hashes) (take n cells) (take m arguments)) (sym bank_take-terms) (cells_take (terms_in cells arguments) hashes cells arguments bank n m fewer shorter fits)

  pub cell_at : (i : ℕ) (e : Entry) → i < length cells → e ≡ get_or cells i e → IsCell arguments (terms_in cells arguments) i e
  cell_at i e h is = bank.each i e (slice_get-get_or cells i e h ∙ ap Some (sym is))

  pub told : length (terms_in cells arguments) ≡ length cells
  told = terms_in-length cells arguments

-- the same in the terms that are seen
pub bank_push-seen : (hashes : List ℕ) (cells : List Entry) (arguments : List TermId) (terms : List Tree) → IsBank hashes cells arguments → terms_in cells arguments ≡ terms
    → (ids : List TermId) (e : Entry) (hash : ℕ) → e.start ≡ length arguments → e.count ≡ length ids → AreBelow (length terms) ids
    → e.size ≡ tree_size (term_with e.head (terms_at terms ids)) → e.depth ≡ tree_depth (term_with e.head (terms_at terms ids)) → hash ≡ tree_hash (term_with e.head (terms_at terms ids))
    → LacksTerm terms (term_with e.head (terms_at terms ids)) → length terms < 4194304
    → (terms_in (cells ++ e ∷ []) (arguments ++ ids) ≡ terms ++ term_with e.head (terms_at terms ids) ∷ []) × IsBank (hashes ++ hash ∷ []) (cells ++ e ∷ []) (arguments ++ ids)
bank_push-seen hashes cells arguments terms bank seen ids e hash start count below size depth is lacks room =
    let back = sym seen in
    let t = term_with e.head (terms_at (terms_in cells arguments) ids) in
    let same : term_with e.head (terms_at terms ids) ≡ term_with e.head (terms_at (terms_in cells arguments) ids) = ap (λ ts. term_with e.head (terms_at ts ids)) (sym seen) in
    let counted : length terms ≡ length cells = ap length (sym seen) ∙ terms_in-length cells arguments in
    let pushed =
    bank_push hashes cells arguments bank ids e t start count refl (subst (λ n. AreBelow n ids) counted below) (size ∙ ap tree_size same) (depth ∙ ap tree_depth same)
    (subst (λ ts. LacksTerm ts (term_with e.head (terms_at ts ids))) (sym seen) lacks) (omega arith) in (
      pushed.0 ∙ ap (λ ts. ts ++ term_with e.head (terms_at ts ids) ∷ []) seen,
      subst (λ h. IsBank (hashes ++ h ∷ []) (cells ++ e ∷ []) (arguments ++ ids)) (sym (is ∙ ap tree_hash same)) pushed.1,
    )

-- what is kept of a cell that is there, in the terms that are seen
pub cell_seen : (hashes : List ℕ) (cells : List Entry) (arguments : List TermId) (terms : List Tree) → IsBank hashes cells arguments → terms_in cells arguments ≡ terms
    → (i : ℕ) (e : Entry) → i < length terms → e ≡ get_or cells i e → IsCell arguments terms i e
cell_seen hashes cells arguments terms bank seen i e h is =
    subst (λ ts. IsCell arguments ts i e) seen (cell_at hashes cells arguments bank i e (omega (arith, terms_in-length cells arguments, ap length seen)) is)
