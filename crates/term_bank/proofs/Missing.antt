-- What comes in with a term.
use Rattle.std.proofs.Common.{ℕ, zero, suc, ◌≡◌, ◌+◌, ◌≤◌, Bool, true, false, cond, List, [], ◌∷◌, ◌++◌, length, take, Some, Result, Ok, Err, refl, sym, ap, subst, ◌∙◌, arith, append_assoc, length-append}
use Rattle.std.specs.Prelude.{slice_get, ◌||◌, OnOk, OnErr, IfOk}
use Rattle.std.specs.Result.{is_err}
use Rattle.std.specs.List.{list_any}
use Rattle.std.proofs.lemmas.List.{length_push, take_all, take_at, take-take, append-nil}
use Rattle.std.proofs.lemmas.Option.{none-some, same_Some}
use Rattle.std.proofs.lemmas.Bool.{or_right}
use Rattle.kb_lemmas.proofs.Lists.{get_take}
use Rattle.kb_term.specs.Tree.{Tree, Trees, variable, apply, no_trees, more_trees, trees_of, tree_size, trees_size, tree_eq}
use Rattle.kb_term.specs.declared.memory.Memory.{Memory}
use Rattle.kb_term.proofs.OwnPair.{tree_eq-true, tree_eq-same}
use Rattle.term_bank.specs.Terms.{HasTerm, LacksTerm, subterms, subterms_in, with_term, with_missing}
use Rattle.term_bank.specs.declared.cell.TermId.{TermId}
use Rattle.term_bank.proofs.Places.{get_end}

any_has : (t : Tree) (terms : List Tree) (i : ℕ) → HasTerm terms i t → list_any (tree_eq t) terms ≡ true
any_has t [] i g = absurd (none-some t g)
any_has t (x ∷ xs) zero g = ap (λ b. b || list_any (tree_eq t) xs) (tree_eq-same t x (sym (same_Some x t g)))
any_has t (x ∷ xs) (suc i) g = or_right (tree_eq t x) (list_any (tree_eq t) xs) (any_has t xs i g)

any_lacks : (t : Tree) (terms : List Tree) → LacksTerm terms t → list_any (tree_eq t) terms ≡ false
any_lacks t [] l = refl
any_lacks t (x ∷ xs) l = go (tree_eq t x) refl (any_lacks t xs (λ i g. l (suc i) g))
  where
    go : (b : Bool) → tree_eq t x ≡ b → list_any (tree_eq t) xs ≡ false → (tree_eq t x || list_any (tree_eq t) xs) ≡ false
    go true e h = absurd (l 0 (ap Some (sym (tree_eq-true t x e))))
    go false e h = ap (λ b. b || list_any (tree_eq t) xs) e ∙ h

pub with_term-has : (terms : List Tree) (i : ℕ) (t : Tree) → HasTerm terms i t → with_term terms t ≡ terms
with_term-has terms i t g = ap (λ b. cond b terms (terms ++ t ∷ [])) (any_has t terms i g)

pub with_term-lacks : (terms : List Tree) (t : Tree) → LacksTerm terms t → with_term terms t ≡ terms ++ t ∷ []
with_term-lacks terms t l = ap (λ b. cond b terms (terms ++ t ∷ [])) (any_lacks t terms l)

-- ---- the terms that were there stay

-- the terms of old are the first of new
pub record IsFront (old new : List Tree) : Type 0 where
  pub front : take (length old) new ≡ old
  pub more : length old ≤ length new

front_same : (terms : List Tree) → IsFront terms terms
front_same terms = record { front = take_all (length terms) terms (omega arith); more = omega arith }

front_push : (terms : List Tree) (t : Tree) → IsFront terms (terms ++ t ∷ [])
front_push terms t = record { front = take_at terms (t ∷ []) (length terms) refl; more = omega (arith, length_push terms t) }

pub front_then : (old mid new : List Tree) → IsFront old mid → IsFront mid new → IsFront old new
front_then old mid new a b = record {
  front = sym (take-take (length old) (length mid) new a.more) ∙ ap (take (length old)) b.front ∙ a.front;
  more = omega (arith, a.more, b.more);
}

with_term-front : (terms : List Tree) (t : Tree) → IsFront terms (with_term terms t) × (length (with_term terms t) ≤ length terms + 1)
with_term-front terms t = go (list_any (tree_eq t) terms)
  where
    go : (b : Bool) → IsFront terms (cond b terms (terms ++ t ∷ [])) × (length (cond b terms (terms ++ t ∷ [])) ≤ length terms + 1)
    go true = (front_same terms, omega arith)
    go false = (front_push terms t, omega (arith, length_push terms t))

pub missing_front : (terms us : List Tree) → IsFront terms (with_missing terms us)
missing_front terms [] = front_same terms
missing_front terms (u ∷ us) = front_then terms (with_term terms u) (with_missing (with_term terms u) us) (with_term-front terms u).0 (missing_front (with_term terms u) us)

pub missing_most : (terms us : List Tree) → length (with_missing terms us) ≤ length terms + length us
missing_most terms [] = omega arith
missing_most terms (u ∷ us) = omega (arith, (with_term-front terms u).1, missing_most (with_term terms u) us)

pub missing_append : (terms us vs : List Tree) → with_missing terms (us ++ vs) ≡ with_missing (with_missing terms us) vs
missing_append terms [] vs = refl
missing_append terms (u ∷ us) vs = missing_append (with_term terms u) us vs

pub front_has : (old new : List Tree) (i : ℕ) (u : Tree) → IsFront old new → HasTerm old i u → HasTerm new i u
front_has old new i u f g = (get_take (length old) new i u (ap (λ ts. slice_get ts i) f.front ∙ g)).1

-- ---- subterms

mutual
  pub subterms_length : (t : Tree) → length (subterms t) ≡ tree_size t
  subterms_length (variable n) = refl
  subterms_length (apply f ts) = omega (arith, length_push (subterms_in ts) (apply f ts), subterms_in_length ts)

  pub subterms_in_length : (ts : Trees) → length (subterms_in ts) ≡ trees_size ts
  subterms_in_length no_trees = refl
  subterms_in_length (more_trees t ts) = omega (arith, length-append (subterms t) (subterms_in ts), subterms_length t, subterms_in_length ts)

-- those of the terms of a list
abbrev pub subterms_row : List Tree → List Tree
subterms_row [] = []
subterms_row (t ∷ ts) = subterms t ++ subterms_row ts

pub subterms_in-row : (ts : List Tree) → subterms_in (trees_of ts) ≡ subterms_row ts
subterms_in-row [] = refl
subterms_in-row (t ∷ ts) = ap (λ us. subterms t ++ us) (subterms_in-row ts)

pub subterms_row-push : (ts : List Tree) (t : Tree) → subterms_row (ts ++ t ∷ []) ≡ subterms_row ts ++ subterms t
subterms_row-push [] t = append-nil (subterms t)
subterms_row-push (s ∷ ts) t = ap (λ us. subterms s ++ us) (subterms_row-push ts t) ∙ sym (append_assoc (subterms s) (subterms_row ts) (subterms t))

-- ---- a cell at the end

pub placed : (r : Result TermId Memory) (old new : List Tree) (t : Tree) → OnOk r (new ≡ old ++ t ∷ []) → IfOk r (λ id. id.0 ≡ length old) → IfOk r (λ id. HasTerm new id.0 t)
placed (Ok id) old new t e h = ap (λ ts. slice_get ts id.0) e ∙ ap (slice_get (old ++ t ∷ [])) h ∙ get_end old t []
placed (Err e) old new t a b = tt

pub placed_missing : (r : Result TermId Memory) (old new : List Tree) (t : Tree) → LacksTerm old t → OnOk r (new ≡ old ++ t ∷ []) → OnOk r (new ≡ with_term old t)
placed_missing (Ok id) old new t l e = e ∙ sym (with_term-lacks old t l)
placed_missing (Err e) old new t l a = tt

pub placed_front : (r : Result TermId Memory) (old new : List Tree) (t : Tree) → OnOk r (new ≡ with_term old t) → OnErr r (new ≡ old) → IsFront old new
placed_front (Ok id) old new t e h = subst (IsFront old) (sym e) (with_term-front old t).0
placed_front (Err e) old new t h g = subst (IsFront old) (sym g) (front_same old)

pub ok_part : (r : Result TermId Memory) (P : Type 0) → is_err r ≡ false → OnOk r P → P
ok_part (Ok id) P e h = h
ok_part (Err x) P e h = absurd (cc)
