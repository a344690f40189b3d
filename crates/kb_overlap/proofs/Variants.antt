-- Renamings of two terms that are turned back.
use Rattle.std.proofs.Common.{ℕ, ◌≡◌, ◌∙◌, ap, ap₂, sym, ◌++◌, map, Contains, ⊎_elim}
use Rattle.std.proofs.lemmas.List.Elements.{Contains-append_cases}
use Rattle.kb_term.specs.Tree.{Tree, variables_of}
use Rattle.kb_term.specs.Substitution.{rename, IsRenaming}
use Rattle.kb_term.specs.Pair.{distinct, variables_of_pair}
use Rattle.kb_term.proofs.Variants.{IsApart, turned_back, distinct_renamed, map_append, variables_renamed}

-- the distinct variables of two renamed terms
pub variables_of_pair_renamed : (r : ℕ → ℕ) (s t : Tree) → IsApart r (variables_of s ++ variables_of t) → variables_of_pair (rename r s) (rename r t) ≡ map r (variables_of_pair s t)
variables_of_pair_renamed r s t h = ap distinct (ap₂ (λ xs ys. xs ++ ys) (variables_renamed r s) (variables_renamed r t) ∙ sym (map_append r (variables_of s) (variables_of t))) ∙ distinct_renamed r (variables_of s ++ variables_of t) h (variables_of s ++ variables_of t) (λ y c. c)

-- a renaming of two terms that is turned back tells their variables apart
pub apart_renaming : (s t u v : Tree) (r back : ℕ → ℕ) → IsRenaming r back s u → IsRenaming r back t v → IsApart r (variables_of s ++ variables_of t)
apart_renaming s t u v r back n k x y c d e = sym (given x c) ∙ ap back e ∙ given y d
  where
    given : (x : ℕ) → Contains (variables_of s ++ variables_of t) x → back (r x) ≡ x
    given x c = ⊎_elim (λ d. turned_back r back s (ap (rename back) n.there ∙ n.back_again) x d) (λ d. turned_back r back t (ap (rename back) k.there ∙ k.back_again) x d) (Contains-append_cases (variables_of s) (variables_of t) x c)
