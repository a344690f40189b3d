-- Terms within the limits, and terms that are read argument by argument.
use Rattle.std.proofs.Common.{◌≡◌, ap, sym, ◌∙◌, subst, append-nil, arith, ℕ, suc, ◌-◌, ◌<◌, ◌≤◌, List, [], ◌∷◌, ◌++◌, All, length, drop, length-drop}
use Rattle.std.proofs.lemmas.List.{drop_all}
use Rattle.std.proofs.lemmas.List.Elements.{All-append, All-cons, All-head, All-nil}
use Rattle.kb_term.specs.Signature.{Signature, IsSignature, IsWellFormed, AreWellFormed}
use Rattle.kb_term.specs.Tree.{Tree, variable, apply, Trees, no_trees, more_trees, tree_depth, trees_depth, variables_of, variables_in}
use Rattle.kb_text.specs.Terms.{TermSpelled, names_of, term_text}
use Rattle.kb_text.specs.TermReading.{IsBounded, AreBounded, BeginsWithNone, BeginsWithTerm}
use Rattle.kb_term.specs.Pair.{IsWithin}
use Rattle.kb_text.proofs.TermTexts.{one_term}

abbrev AreSmall : List ℕ → Type 0
AreSmall ns = All (λ n. n < 64) ns

all_left : (xs ys : List ℕ) → AreSmall (xs ++ ys) → AreSmall xs
all_left [] ys h = All-nil (λ n. n < 64)
all_left (x ∷ xs) ys h = All-cons (λ n. n < 64) x xs (All-head (λ n. n < 64) x (xs ++ ys) h) (all_left xs ys (λ k d l. h (suc k) d (omega arith)))

all_right : (xs ys : List ℕ) → AreSmall (xs ++ ys) → AreSmall ys
all_right [] ys h = h
all_right (x ∷ xs) ys h = all_right xs ys (λ k d l. h (suc k) d (omega arith))

-- the one-piece form of the bounds
mutual
  pub bounded : (signature : Signature) (d : ℕ) (t : Tree) → IsWellFormed signature t → tree_depth t ≤ d → AreSmall (variables_of t) → IsBounded signature d t
  bounded signature d (variable n) w h v = (h, v 0 n (omega arith))
  bounded signature d (apply f ts) w h v = (omega arith, w.0, bounded_all signature (d - 1) ts w.1 (omega arith) v)

  bounded_all : (signature : Signature) (d : ℕ) (ts : Trees) → AreWellFormed signature ts → trees_depth ts ≤ d → AreSmall (variables_in ts) → AreBounded signature d ts
  bounded_all signature d no_trees w h v = tt
  bounded_all signature d (more_trees t ts) w h v =
      (bounded signature d t w.0 (omega arith) (all_left (variables_of t) (variables_in ts) v), bounded_all signature d ts w.1 (omega arith) (all_right (variables_of t) (variables_in ts) v))

mutual
  pub well_formed : (signature : Signature) (d : ℕ) (t : Tree) → IsBounded signature d t → IsWellFormed signature t
  well_formed signature d (variable n) h = tt
  well_formed signature d (apply f ts) h = (h.1, all_well_formed signature (d - 1) ts h.2)

  all_well_formed : (signature : Signature) (d : ℕ) (ts : Trees) → AreBounded signature d ts → AreWellFormed signature ts
  all_well_formed signature d no_trees h = tt
  all_well_formed signature d (more_trees t ts) h = (well_formed signature d t h.0, all_well_formed signature d ts h.1)

mutual
  pub small_variables : (signature : Signature) (d : ℕ) (t : Tree) → IsBounded signature d t → AreSmall (variables_of t)
  small_variables signature d (variable n) h = All-cons (λ n. n < 64) n [] h.1 (All-nil (λ n. n < 64))
  small_variables signature d (apply f ts) h = all_small_variables signature (d - 1) ts h.2

  all_small_variables : (signature : Signature) (d : ℕ) (ts : Trees) → AreBounded signature d ts → AreSmall (variables_in ts)
  all_small_variables signature d no_trees h = All-nil (λ n. n < 64)
  all_small_variables signature d (more_trees t ts) h = All-append (λ n. n < 64) (variables_of t) (variables_in ts) (small_variables signature d t h.0) (all_small_variables signature d ts h.1)

pub spelled_bounded : (signature : Signature) (bytes : List ℕ) (t : Tree) → TermSpelled signature bytes t → IsBounded signature 64 t
spelled_bounded signature bytes t h = bounded signature 64 t h.within.well_formed h.within.depth h.variables

-- bytes spell one term
pub one_spelled : (signature : Signature) (bytes : List ℕ) (t u : Tree) → IsSignature signature → TermSpelled signature bytes t → TermSpelled signature bytes u → t ≡ u
one_spelled signature bytes t u s h k =
    (one_term signature s t u 64 64 [] [] (spelled_bounded signature bytes t h) (spelled_bounded signature bytes u k) tt tt (append-nil (term_text (names_of signature) t) ∙ sym h.spelling ∙ k.spelling ∙ sym (append-nil (term_text (names_of signature) u)))).0

-- a text that begins with a term is spelled by it, or by none
pub whole_spelled : (signature : Signature) (bytes : List ℕ) (t : Tree) (size : ℕ) → BeginsWithTerm signature bytes 64 t size → length bytes ≤ size → IsWithin t → TermSpelled signature bytes t
whole_spelled signature bytes t size b h w = record {
  within = record { well_formed = well_formed signature 64 t b.bounded; size = w.size; depth = w.depth };
  variables = small_variables signature 64 t b.bounded;
  spelling = b.spelling ∙ ap (term_text (names_of signature) t ++◌) (drop_all size bytes h) ∙ append-nil (term_text (names_of signature) t);
}

begun_spelled : (signature : Signature) (bytes : List ℕ) (t u : Tree) (size : ℕ) → IsSignature signature → BeginsWithTerm signature bytes 64 t size → TermSpelled signature bytes u → (t ≡ u) × (drop size bytes ≡ [])
begun_spelled signature bytes t u size s b k =
    one_term signature s t u 64 64 (drop size bytes) [] b.bounded (spelled_bounded signature bytes u k) b.ends tt (sym b.spelling ∙ k.spelling ∙ sym (append-nil (term_text (names_of signature) u)))

pub too_long : (signature : Signature) (bytes : List ℕ) (t u : Tree) (size : ℕ) → IsSignature signature → BeginsWithTerm signature bytes 64 t size → size < length bytes → TermSpelled signature bytes u → ⊥
too_long signature bytes t u size s b l k = let e = ap length (begun_spelled signature bytes t u size s b k).1 in omega (arith, e, length-drop size bytes)

pub too_large : (signature : Signature) (bytes : List ℕ) (t u : Tree) (size : ℕ) → IsSignature signature → BeginsWithTerm signature bytes 64 t size → (IsWithin t → ⊥) → TermSpelled signature bytes u → ⊥
too_large signature bytes t u size s b h k = h (subst IsWithin (sym (begun_spelled signature bytes t u size s b k).0) (record { size = k.within.size; depth = k.within.depth }))

pub none_spelled : (signature : Signature) (bytes : List ℕ) (u : Tree) → BeginsWithNone signature bytes 64 → TermSpelled signature bytes u → ⊥
none_spelled signature bytes u h k = h u [] (spelled_bounded signature bytes u k) tt (k.spelling ∙ sym (append-nil (term_text (names_of signature) u)))
