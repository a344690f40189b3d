-- The hash of the arguments of a term, one after another.
use Rattle.std.proofs.Common.{ℕ, ◌≡◌, List, [], ◌∷◌, ◌++◌, Some, refl, sym, ap, ◌∙◌}
use Rattle.std.specs.Prelude.{map, slice_get}
use Rattle.std.proofs.lemmas.Option.{get_or_from_slice_get}
use Rattle.kb_lemmas.proofs.Lists.{get_map_back}
use Rattle.kb_term.specs.Tree.{Tree, variable, trees_of}
use Rattle.term_bank.specs.Hashing.{mix, tree_hash, trees_hash}
use Rattle.term_bank.specs.Terms.{term_at}

-- the hashes of the terms of a list mixed into a hash
abbrev pub list_hash : List Tree → ℕ → ℕ
list_hash [] hash = hash
list_hash (t ∷ ts) hash = list_hash ts (mix hash (tree_hash t))

pub list_hash-push : (ts : List Tree) (t : Tree) (hash : ℕ) → list_hash (ts ++ t ∷ []) hash ≡ mix (list_hash ts hash) (tree_hash t)
list_hash-push [] t hash = refl
list_hash-push (s ∷ ts) t hash = list_hash-push ts t (mix hash (tree_hash s))

pub trees_hash-of : (ts : List Tree) (hash : ℕ) → trees_hash (trees_of ts) hash ≡ list_hash ts hash
trees_hash-of [] hash = refl
trees_hash-of (t ∷ ts) hash = trees_hash-of ts (mix hash (tree_hash t))

pub hash_at : (hashes : List ℕ) (terms : List Tree) (i h : ℕ) → hashes ≡ map tree_hash terms → slice_get hashes i ≡ Some h → h ≡ tree_hash (term_at terms i)
hash_at hashes terms i h e g =
    let t = get_map_back tree_hash terms i h (sym (ap (λ hs. slice_get hs i) e) ∙ g) in
    sym t.2 ∙ ap tree_hash (sym (get_or_from_slice_get terms i t.0 (variable 0) t.1))
