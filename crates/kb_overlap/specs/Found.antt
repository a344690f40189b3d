-- What is found at one position.
use Rattle.std.specs.Prelude.{ℕ, ◌+◌, ◌≡◌, ◌||◌, false, nat_lt, List, [], ◌∷◌, Option, Some, None, Result, Ok, Err, ⊤}
use Rattle.kb_term.specs.Tree.{Tree, HasVariablesBelow, tree_size}
use Rattle.kb_term.specs.Position.{subtree_at, replace_at}
use Rattle.kb_term.specs.Pair.{first_limit, limit_if, is_too_large, term_limit, pair_limit}
use Rattle.kb_term.specs.Rule.{Rule}
use Rattle.kb_term.specs.declared.limit.Limit.{Limit}
use Rattle.kb_term.specs.declared.limit.Limit.TheVariants.{Size, Depth}
use Rattle.kb_unify.specs.Unifier.{IsUnifiable}
use Rattle.kb_unify.specs.declared.extent.Extent.{Extent}
use Rattle.kb_term.specs.Substitution.{instance}
use Rattle.kb_term.specs.View.{tree_of}
use Rattle.kb_term.specs.declared.term.Term.{Term}
use Rattle.kb_term.specs.declared.fault.TermFault.{TermFault}
use Rattle.kb_term.specs.declared.fault.TermFault.TheVariants.{Large, Memory}
use Rattle.kb_overlap.specs.Overlap.{Overlap, IsRenamedApart, IsOverlapOrLimit}

-- n is the size of the instance of t without that of its subterm at the position
abbrev pub IsSizeWithout : (ℕ → Tree) → Tree → List ℕ → ℕ → Type 0
IsSizeWithout m t p n = (u : Tree) → subtree_at t p ≡ Some u → n + tree_size (instance m u) ≡ tree_size (instance m t)

-- the limit by the extents of the first term and of what is put into the second one, the rest of which has the size
abbrev pub parts_limit : Extent → Extent → ℕ → Option Limit
parts_limit first inserted rest =
    first_limit (limit_if (nat_lt 512 first.size || nat_lt 512 (rest + inserted.size)) Size ∷ limit_if (nat_lt 64 first.depth || nat_lt 64 inserted.depth) Depth ∷ [])

-- the limit that the peak passes, else the pair of the outer right side and t
abbrev pub built_limit : Rule → (ℕ → Tree) → Tree → Option Limit
built_limit outer m t = first_limit (term_limit (instance m outer.left) ∷ pair_limit (instance m outer.right) t ∷ [])

-- the limit that the peak or the pair passes, found before the pair is built: where there is none, the peak passes none and no side is too large
abbrev pub IsPeakLimit : Rule → Rule → List ℕ → (ℕ → Tree) → Option Limit → Type 0
IsPeakLimit outer renamed p m None =
    (term_limit (instance m outer.left) ≡ None) × ((t : Tree) → replace_at (instance m outer.left) p (instance m renamed.right) ≡ Some t → (is_too_large (instance m outer.right) || is_too_large t) ≡ false)
IsPeakLimit outer renamed p m (Some limit) = (t : Tree) → replace_at (instance m outer.left) p (instance m renamed.right) ≡ Some t → built_limit outer m t ≡ Some limit

-- the two terms where no limit is passed, else the limit
abbrev pub IsPairAnswer : Option Limit → Tree → Tree → Result (Term × Term) TermFault → Type 0
IsPairAnswer limit s t (Ok e) = (limit ≡ None) × (tree_of e.0 ≡ s) × (tree_of e.1 ≡ t)
IsPairAnswer limit s t (Err (Large l)) = limit ≡ Some l
IsPairAnswer limit s t (Err Memory) = ⊤

-- the critical pair at the position, the two terms to which the peak rewrites; or the limit that the peak or the pair passes
abbrev pub IsPairMade : Rule → Rule → List ℕ → (ℕ → Tree) → Result (Term × Term) TermFault → Type 0
IsPairMade outer renamed p m answer =
    (t : Tree) → replace_at (instance m outer.left) p (instance m renamed.right) ≡ Some t → IsPairAnswer (built_limit outer m t) (instance m outer.right) t answer

-- each variable of the rule is below the bound
abbrev pub AreVariablesBelow : ℕ → Rule → Type 0
AreVariablesBelow bound rule = HasVariablesBelow bound rule.left × HasVariablesBelow bound rule.right

-- what is found of the outer rule and the renamed inner one at the position: none where nothing unifies, else the overlap
abbrev pub IsFoundAt : Rule → Rule → List ℕ → Option Overlap → Type 0
IsFoundAt outer renamed p None = (u : Tree) → subtree_at outer.left p ≡ Some u → ¬ IsUnifiable u renamed.left
IsFoundAt outer renamed p (Some o) = (o.position ≡ p) × ((inner : Rule) → IsRenamedApart outer inner renamed → IsOverlapOrLimit outer inner o)
