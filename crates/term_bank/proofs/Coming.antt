-- The arguments of a term come in one after another.
use Rattle.std.proofs.Common.{ℕ, ◌≡◌, ◌+◌, ◌<◌, ◌≤◌, List, [], ◌∷◌, ◌++◌, length, take, get_or, sym, ap, subst, ◌∙◌, arith}
use Rattle.std.specs.Prelude.{map, sum_by}
use Rattle.std.proofs.lemmas.List.{length-map, map_more, map_push, take_all, get_or-take}
use Rattle.std.proofs.lemmas.List.Sums.{sum_by_more_le}
use Rattle.std.proofs.lemmas.Option.{get_or_from_slice_get, slice_get_within}
use Rattle.kb_term.specs.Tree.{Tree, variable, apply, trees_of, tree_size, trees_size}
use Rattle.kb_term.specs.View.{tree_of}
use Rattle.kb_term.specs.declared.term.Term.{Term}
use Rattle.kb_term.specs.declared.term.Symbol.{Symbol}
use Rattle.kb_term.proofs.Sizes.{trees_size-of}
use Rattle.term_bank.specs.Terms.{HasTerm, term_at, terms_at, AreBelow, subterms, subterms_in, with_term, with_missing}
use Rattle.term_bank.specs.Cells.{term_with}
use Rattle.term_bank.specs.declared.cell.TermId.{TermId}
use Rattle.term_bank.specs.declared.cell.Head.TheVariants.{App}
use Rattle.term_bank.proofs.TermRows.{below_more, below_push, terms_at-same}
use Rattle.term_bank.proofs.Missing.{IsFront, missing_front, missing_most, missing_append, subterms_in_length, subterms_in-row, subterms_row, subterms_row-push}

row_length : (ts : List Tree) → length (subterms_row ts) ≡ trees_size (trees_of ts)
row_length ts = ap length (sym (subterms_in-row ts)) ∙ subterms_in_length (trees_of ts)

tree_size-some : (t : Tree) → 1 ≤ tree_size t
tree_size-some (variable n) = omega arith
tree_size-some (apply f ts) = omega arith

pub count_le-size : (ts : List Tree) → length ts ≤ trees_size (trees_of ts)
count_le-size [] = omega arith
count_le-size (t ∷ ts) = omega (arith, tree_size-some t, count_le-size ts)

front_at : (old new : List Tree) (i : ℕ) → IsFront old new → i < length old → term_at new i ≡ term_at old i
front_at old new i f h = sym (get_or-take (length old) new i (variable 0) h) ∙ ap (λ ts. get_or ts i (variable 0)) f.front

-- ids are those of the terms of the first arguments, which came in
pub record HaveCome (old now : List Tree) (items : List Term) (k : ℕ) (ids : List TermId) : Type 0 where
  pub came : now ≡ with_missing old (subterms_row (map tree_of (take k items)))
  pub terms : terms_at now ids ≡ map tree_of (take k items)
  pub below : AreBelow (length now) ids

pub come_front : (old now : List Tree) (items : List Term) (k : ℕ) (ids : List TermId) → HaveCome old now items k ids → IsFront old now
come_front old now items k ids h = subst (IsFront old) (sym h.came) (missing_front old (subterms_row (map tree_of (take k items))))

module _ (old now : List Tree) (items : List Term) (k : ℕ) (ids : List TermId) (h : HaveCome old now items k ids) where
  counted : length now ≤ length old + sum_by (λ (u : Term). tree_size (tree_of u)) (take k items)
  counted = omega (arith, ap length h.came, missing_most old (subterms_row (map tree_of (take k items))), row_length (map tree_of (take k items)), trees_size-of (take k items))

  pub come_room : (x : Term) → k < length items → x ≡ get_or items k x → length now + tree_size (tree_of x) ≤ length old + trees_size (trees_of (map tree_of items))
  come_room x l is = omega (arith, counted, sum_by_more_le (λ (u : Term). tree_size (tree_of u)) items k x l, ap (λ (u : Term). tree_size (tree_of u)) is, trees_size-of items)

  pub come_more : (x : Term) (id : TermId) (new : List Tree) → k < length items → x ≡ get_or items k x → new ≡ with_missing now (subterms (tree_of x)) → HasTerm new id.0 (tree_of x) → HaveCome old new items (k + 1) (ids ++ id ∷ [])
  come_more x id new l is made has =
      let first = map tree_of (take k items) in
      let next : map tree_of (take (k + 1) items) ≡ map tree_of (take k items) ++ tree_of x ∷ [] = map_more tree_of items k x l ∙ ap (λ (u : Term). map tree_of (take k items) ++ tree_of u ∷ []) (sym is) in
      let front : IsFront now new = subst (IsFront now) (sym made) (missing_front now (subterms (tree_of x))) in
      record {
        came = made ∙ ap (λ ts. with_missing ts (subterms (tree_of x))) h.came
            ∙ sym (ap (λ ts. with_missing old (subterms_row ts)) next ∙ ap (with_missing old) (subterms_row-push first (tree_of x)) ∙ missing_append old (subterms_row first) (subterms (tree_of x)));
        terms = map_push (λ (y : TermId). term_at new y.0) ids id
            ∙ ap (λ ts. ts ++ term_at new id.0 ∷ []) (terms_at-same new now (length now) ids (λ i g. front_at now new i front g) h.below ∙ h.terms)
            ∙ ap (λ u. map tree_of (take k items) ++ u ∷ []) (get_or_from_slice_get new id.0 (tree_of x) (variable 0) has)
            ∙ sym next;
        below = below_push (length new) ids id (below_more (length now) (length new) ids front.more h.below) (slice_get_within new id.0 (tree_of x) has);
      }

  module _ (all : length items ≤ k) where
    whole : take k items ≡ items
    whole = take_all k items all

    pub come_most : length now ≤ length old + trees_size (trees_of (map tree_of items))
    come_most = omega (arith, counted, ap (sum_by (λ (u : Term). tree_size (tree_of u))) whole, trees_size-of items)

    pub come_count : length ids ≤ trees_size (trees_of (map tree_of items))
    come_count = omega (arith, length-map ids (λ (y : TermId). term_at now y.0), ap length h.terms, ap (λ xs. length (map tree_of xs)) whole, count_le-size (map tree_of items))

    pub come_term : (f : Symbol) (t : Tree) → t ≡ apply f.0 (trees_of (map tree_of items)) → term_with (App f) (terms_at now ids) ≡ t
    come_term f t is = ap (λ ts. apply f.0 (trees_of ts)) (h.terms ∙ ap (map tree_of) whole) ∙ sym is

    pub come_whole : (f : Symbol) (t : Tree) → t ≡ apply f.0 (trees_of (map tree_of items)) → with_term now (term_with (App f) (terms_at now ids)) ≡ with_missing old (subterms t)
    come_whole f t is =
        let us = map tree_of items in
        ap (with_term now) (come_term f t is ∙ is)
        ∙ ap (λ ts. with_term ts (apply f.0 (trees_of (map tree_of items)))) (h.came ∙ ap (λ xs. with_missing old (subterms_row (map tree_of xs))) whole ∙ ap (with_missing old) (sym (subterms_in-row us)))
        ∙ sym (missing_append old (subterms_in (trees_of us)) (apply f.0 (trees_of us) ∷ []))
        ∙ ap (λ u. with_missing old (subterms u)) (sym is)
