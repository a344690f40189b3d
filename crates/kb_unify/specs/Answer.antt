-- What unification answers.
use Rattle.std.specs.Prelude.{ℕ, ◌<◌, ◌≡◌, List, [], ◌∷◌, ◌++◌, map, All, AllPairs, Contains, Option, Some, None, Result, Ok, Err, ⊤}
use Rattle.std.specs.List.{list_any}
use Rattle.kb_term.specs.Tree.{Tree, variables_of}
use Rattle.kb_term.specs.Pair.{first_limit, limit_if, is_too_large, is_too_deep}
use Rattle.kb_term.specs.declared.limit.Limit.{Limit}
use Rattle.kb_term.specs.declared.limit.Limit.TheVariants.{Size, Depth}
use Rattle.kb_unify.specs.Unifier.{IsMostGeneralUnifier, IsUnifiable}
use Rattle.kb_term.specs.Substitution.{substitution_of}
use Rattle.kb_unify.specs.declared.unifier.Unified.{Unified}
use Rattle.kb_unify.specs.declared.unifier.Unified.TheVariants.{Clash, Above, Unifier}
use Rattle.kb_unify.specs.declared.fault.UnifyFault.{UnifyFault}
use Rattle.kb_unify.specs.declared.fault.UnifyFault.TheVariants.{Large, Memory}

-- the variables of both terms
abbrev pub variables_of_both : Tree → Tree → List ℕ
variables_of_both s t = variables_of s ++ variables_of t

-- the limit that one of the terms passes: a size above 512, else a depth above 64
abbrev pub terms_limit : List Tree → Option Limit
terms_limit ts = first_limit (limit_if (list_any is_too_large ts) Size ∷ limit_if (list_any is_too_deep ts) Depth ∷ [])

-- the limit that some term passes that the substitution gives to a variable of the two terms
abbrev pub unifier_limit : (ℕ → Tree) → Tree → Tree → Option Limit
unifier_limit m s t = terms_limit (map m (variables_of_both s t))

-- m is a most general unifier, and passes the limit or none
pub record IsUnifierWith (limit : Option Limit) (m : ℕ → Tree) (s t : Tree) : Type 0 where
  pub most_general : IsMostGeneralUnifier m s t
  pub passes : unifier_limit m s t ≡ limit

-- the list is fully applied, over the variables of two terms: it gives terms to some of these, in their order and each
-- once, and no variable that has a term occurs in one
pub record IsApplied (m : List (ℕ × Tree)) (s t : Tree) : Type 0 where
  pub in_order : AllPairs (λ (d e : ℕ × Tree). d.0 < e.0) m
  pub domain : All (λ (e : ℕ × Tree). Contains (variables_of_both s t) e.0) m
  pub range : All (λ (e : ℕ × Tree). (n : ℕ) → Contains (variables_of e.1) n → Contains (variables_of_both s t) n) m
  pub apart : All (λ (e : ℕ × Tree). (n : ℕ) → Contains (variables_of e.1) n → All (λ (d : ℕ × Tree). ¬ (d.0 ≡ n)) m) m

-- the list is a most general unifier that passes no limit, fully applied
pub record IsUnifierList (m : List (ℕ × Tree)) (s t : Tree) : Type 0 where
  pub unifier : IsUnifierWith None (substitution_of m) s t
  pub applied : IsApplied m s t

-- what is found of two terms
abbrev pub IsUnified : Tree → Tree → Unified → Type 0
IsUnified s t Clash = ¬ IsUnifiable s t
IsUnified s t (Above limit) = (m : ℕ → Tree) × IsUnifierWith (Some limit) m s t
IsUnified s t (Unifier m) = IsUnifierList m s t

-- what the answer says of the two terms
abbrev pub IsUnifyAnswer : Tree → Tree → Result (Option (List (ℕ × Tree))) UnifyFault → Type 0
IsUnifyAnswer s t (Ok (Some m)) = IsUnifierList m s t
IsUnifyAnswer s t (Ok None) = ¬ IsUnifiable s t
IsUnifyAnswer s t (Err (Large limit)) = (m : ℕ → Tree) × IsUnifierWith (Some limit) m s t
IsUnifyAnswer s t (Err Memory) = ⊤
