-- Overlaps of two rules.
use Rattle.std.specs.Prelude.{ℕ, ◌≡◌, ◌⊎◌, Bool, List, [], ◌∷◌, ◌++◌, map, drop, Contains, Option, Some, None, Result, Ok, Err, cond}
use Rattle.kb_term.specs.Tree.{Tree, variables_of}
use Rattle.kb_term.specs.Position.{subtree_at, replace_at, function_positions_of}
use Rattle.kb_term.specs.Substitution.{instance}
use Rattle.kb_term.specs.Pair.{Pair, canonical_pair, first_limit, term_limit, pair_limit}
use Rattle.kb_term.specs.Rule.{Rule, IsVariantRule}
use Rattle.kb_unify.specs.Unifier.{IsMostGeneralUnifier, IsUnifiable}
use Rattle.kb_unify.specs.Answer.{terms_limit}
use Rattle.kb_term.specs.declared.limit.Limit.{Limit}

-- a variant of the inner rule that has no variable of the outer rule
pub record IsRenamedApart (outer inner renamed : Rule) : Type 0 where
  pub variant : IsVariantRule inner renamed
  pub apart : (n : ℕ) → Contains (variables_of outer.left ++ variables_of outer.right) n → ¬ Contains (variables_of renamed.left ++ variables_of renamed.right) n

-- the renamed inner rule overlaps the outer rule at p: no variable stands there, and m is a most general unifier of the subterm there and the inner left side
pub record OverlapsAt (outer inner : Rule) (p : List ℕ) (m : ℕ → Tree) : Type 0 where
  pub subterm : Tree
  pub there : subtree_at outer.left p ≡ Some subterm
  pub no_variable : Contains (function_positions_of outer.left) p
  pub unifier : IsMostGeneralUnifier m subterm inner.left

-- the two terms to which the peak rewrites: by the outer rule at the root, and by the renamed inner rule at p
pub record IsCriticalPair (outer inner : Rule) (p : List ℕ) (m : ℕ → Tree) (s t : Tree) : Type 0 where
  pub by_outer : s ≡ instance m outer.right
  pub by_inner : replace_at (instance m outer.left) p (instance m inner.right) ≡ Some t

-- the limit that an overlap passes: by a term that m gives to a variable, else by the peak, else by the pair
abbrev pub overlap_limit : Rule → Rule → (ℕ → Tree) → Tree → Tree → Option Limit
overlap_limit outer inner m s t =
    first_limit (terms_limit (map m (variables_of outer.left ++ variables_of inner.left)) ∷ term_limit (instance m outer.left) ∷ pair_limit s t ∷ [])

-- the pair, or the limit where one is passed
abbrev pub pair_or_limit : Option Limit → Tree → Tree → Result (Tree × Tree) Limit
pair_or_limit None s t = Ok (s, t)
pair_or_limit (Some l) s t = Err l

-- a listed overlap: where the inner rule stands in the outer left side, and the pair or a limit
pub record Overlap : Type 0 where
  pub position : List ℕ
  pub sides : Result (Tree × Tree) Limit

-- the listed overlap is the critical pair at its position, or the limit that this overlap passes
pub record IsOverlapOrLimit (outer inner : Rule) (o : Overlap) : Type 0 where
  pub renamed : Rule
  pub m : ℕ → Tree
  pub s : Tree
  pub t : Tree
  pub renamed_apart : IsRenamedApart outer inner renamed
  pub overlaps : OverlapsAt outer renamed o.position m
  pub pair : IsCriticalPair outer renamed o.position m s t
  pub sides : o.sides ≡ pair_or_limit (overlap_limit outer renamed m s t) s t

-- the inner left side, renamed apart, doesn't unify with the subterm of the outer left side at p
abbrev pub HasNoOverlapAt : Rule → Rule → List ℕ → Type 0
HasNoOverlapAt outer inner p = (renamed : Rule) (u : Tree) → IsRenamedApart outer inner renamed → subtree_at outer.left p ≡ Some u → ¬ IsUnifiable u renamed.left

-- one overlap for each of the positions at which there is one, in their order
abbrev pub ListsOverlaps : Rule → Rule → List (List ℕ) → List Overlap → Type 0
ListsOverlaps outer inner [] os = os ≡ []
ListsOverlaps outer inner (p ∷ ps) os =
    (HasNoOverlapAt outer inner p × ListsOverlaps outer inner ps os)
    ⊎ ((o : Overlap) × (rest : List Overlap) × (os ≡ o ∷ rest) × (o.position ≡ p) × IsOverlapOrLimit outer inner o × ListsOverlaps outer inner ps rest)

-- the positions of the outer left side at which no variable stands, in preorder; for a rule with itself without the root
abbrev pub overlap_positions : Rule → Bool → List (List ℕ)
overlap_positions outer same = cond same (drop 1 (function_positions_of outer.left)) (function_positions_of outer.left)

-- all overlaps of the two rules in order; same says that they are one rule
abbrev pub IsOverlapList : Rule → Rule → Bool → List Overlap → Type 0
IsOverlapList outer inner same os = ListsOverlaps outer inner (overlap_positions outer same) os

-- what of the sides doesn't depend on the choice of variables: their canonical pair, or the limit
abbrev pub canonical_sides : Result (Tree × Tree) Limit → Result (Option Pair) Limit
canonical_sides (Ok e) = Ok (canonical_pair e.0 e.1)
canonical_sides (Err l) = Err l

-- what of an overlap doesn't: its position, and its canonical pair or the limit
abbrev pub canonical_overlap : Overlap → List ℕ × Result (Option Pair) Limit
canonical_overlap o = (o.position, canonical_sides o.sides)

-- the overlaps have the same canonical pair, or pass the same limit
abbrev pub SidesAgree : Overlap → Overlap → Type 0
SidesAgree x y = canonical_sides x.sides ≡ canonical_sides y.sides

-- the lists have the same positions, each with the same canonical pair or limit, in the same order
abbrev pub ListsAgree : List Overlap → List Overlap → Type 0
ListsAgree xs ys = map canonical_overlap xs ≡ map canonical_overlap ys
