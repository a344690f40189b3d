-- Terms with few arguments, argument by argument.
use Rattle.std.proofs.Common.{ℕ, zero, suc, ◌<◌, ◌≤◌, ◌≡◌, refl, ap, arith, List, [], ◌∷◌, length, get_or}
use Rattle.std.specs.Prelude.{All}
use Rattle.std.proofs.lemmas.Option.{same_Some}
use Rattle.kb_term.specs.Tree.{Tree, Trees, variable, apply, no_trees, more_trees, trees_of, list_of}
use Rattle.kb_term.specs.FewArguments.{HasFewArguments, HaveFewArguments}
use Rattle.kb_term.specs.Signature.{Signature, SymbolEntry, HasArity, IsWellFormed, AreWellFormed}

-- arguments of a term with few arguments
pub few_arguments : (us : List Tree) (k : ℕ) → k < length us → HaveFewArguments (trees_of us) → HasFewArguments (get_or us k (variable 0))
few_arguments [] k h few = absurd (omega (arith, h))
few_arguments (u ∷ us) zero h few = few.0
few_arguments (u ∷ us) (suc k) h few = few_arguments us k (omega (arith, h)) few.1

pub arguments-count : (us : List Tree) → length (list_of (trees_of us)) ≡ length us
arguments-count [] = refl
arguments-count (u ∷ us) = ap suc (arguments-count us)

-- few arguments of each argument
pub all_few_arguments : (us : List Tree) → ((j : ℕ) → j < length us → HasFewArguments (get_or us j (variable 0))) → HaveFewArguments (trees_of us)
all_few_arguments [] h = tt
all_few_arguments (u ∷ us) h = (h 0 (omega arith), all_few_arguments us (λ j p. h (suc j) (omega (arith, p))))

-- an arity of the signature
few_arity : (signature : Signature) → All (λ (f : SymbolEntry). f.arity ≤ 255) signature → (f n : ℕ) → HasArity signature f n → n ≤ 255
few_arity [] small f n h = absurd (cc)
few_arity (g ∷ gs) small zero n h = let e : g.arity ≡ n = same_Some g.arity n h in omega (arith, e, small 0 g (omega arith))
few_arity (g ∷ gs) small (suc f) n h = few_arity gs (λ k d p. small (suc k) d (omega (arith, p))) f n h

-- terms over a signature have few arguments where its arities are small
mutual
  pub few_from_arities : (signature : Signature) → All (λ (f : SymbolEntry). f.arity ≤ 255) signature → (t : Tree) → IsWellFormed signature t → HasFewArguments t
  few_from_arities signature small (variable n) well = tt
  few_from_arities signature small (apply f ts) well = (few_arity signature small f (length (list_of ts)) well.0, few_from_arities_in signature small ts well.1)

  few_from_arities_in : (signature : Signature) → All (λ (f : SymbolEntry). f.arity ≤ 255) signature → (ts : Trees) → AreWellFormed signature ts → HaveFewArguments ts
  few_from_arities_in signature small no_trees well = tt
  few_from_arities_in signature small (more_trees t ts) well = (few_from_arities signature small t well.0, few_from_arities_in signature small ts well.1)
