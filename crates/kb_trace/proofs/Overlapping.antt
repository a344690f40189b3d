-- The overlap of two rules at one position.
use Rattle.std.proofs.Common.{ℕ, zero, suc, ◌+◌, ◌≡◌, ◌∙◌, refl, sym, ap, subst, arith, inl, inr, List, [], ◌∷◌, map, Contains, Option, Some, None, Ok, Err}
use Rattle.std.specs.Prelude.{option_and_then}
use Rattle.std.proofs.lemmas.List.Elements.{Contains-append_left, Contains-append_right, Contains-append_cases}
use Rattle.kb_lemmas.proofs.Membership.{contains_map, contains_cases, contains_first, contains_behind, contains_mapped}
use Rattle.kb_term.specs.Tree.{Tree, Trees, variable, apply, no_trees, more_trees}
use Rattle.kb_term.specs.Position.{argument, subtree_at, function_positions_of, function_positions_in}
use Rattle.kb_term.specs.Pair.{canonical_pair}
use Rattle.kb_term.specs.Rule.{Rule, IsRuleBelow, apart}
use Rattle.kb_term.specs.View.{tree_of}
use Rattle.kb_term.specs.declared.term.Term.{Term}
use Rattle.kb_term.specs.declared.limit.Limit.{Limit}
use Rattle.kb_term.proofs.Arguments.{argument-zero}
use Rattle.kb_overlap.specs.Overlap.{Overlap, IsOverlapOrLimit, canonical_sides}
use Rattle.kb_overlap.specs.Found.{AreVariablesBelow, IsFoundAt}
use Rattle.kb_overlap.proofs.Finding.{apart_is, none_there}
use Rattle.kb_overlap.proofs.Uniqueness.{overlap_alike}
use Rattle.kb_trace.specs.Steps.{IsOverlapped, IsPairWithin}

pub below_from : (bound : ℕ) (rule : Rule) → IsRuleBelow bound rule → AreVariablesBelow bound rule
below_from bound rule h = (h.left, h.right)

-- at a position at which no variable stands there is an application
mutual
  pub function_there : (t : Tree) (p : List ℕ) → Contains (function_positions_of t) p → (g : ℕ) × (us : Trees) × (subtree_at t p ≡ Some (apply g us))
  function_there (variable n) p c = absurd (omega (arith, c.1))
  function_there (apply f ts) p c = elim (contains_cases [] (function_positions_in ts 1) p c) [
    | inl e ↦ (f, ts, ap (subtree_at (apply f ts)) (sym e))
    | inr d ↦
        let h = function_in ts 1 p d in
        let first : 1 + h.0 ≡ suc h.0 = omega arith in
        (h.3.0, h.3.1, ap (subtree_at (apply f ts)) (h.2 ∙ ap (λ i. i ∷ h.1) first) ∙ h.3.2)
  ]

  function_in : (ts : Trees) (i : ℕ) (p : List ℕ) → Contains (function_positions_in ts i) p → (j : ℕ) × (q : List ℕ) × (p ≡ (i + j) ∷ q) × ((g : ℕ) × (us : Trees) × (option_and_then (λ t. subtree_at t q) (argument ts (suc j)) ≡ Some (apply g us)))
  function_in no_trees i p c = absurd (omega (arith, c.1))
  function_in (more_trees t ts) i p c = elim (Contains-append_cases (map (i ∷◌) (function_positions_of t)) (function_positions_in ts (suc i)) p c) [
    | inl d ↦
        let m = contains_mapped (i ∷◌) (function_positions_of t) p d in
        let same : i ≡ i + 0 = omega arith in
        (0, m.0, sym m.2 ∙ ap (λ x. x ∷ m.0) same, function_there t m.0 m.1)
    | inr d ↦
        let h = function_in ts (suc i) p d in
        let next : suc i + h.0 ≡ i + suc h.0 = omega arith in
        (suc h.0, h.1, h.2 ∙ ap (λ x. x ∷ h.1) next, h.3)
  ]

-- a position at which an application stands is listed
mutual
  pub function_listed : (t : Tree) (p : List ℕ) (g : ℕ) (us : Trees) → subtree_at t p ≡ Some (apply g us) → Contains (function_positions_of t) p
  function_listed (variable n) [] g us e = absurd (cc)
  function_listed (variable n) (i ∷ p) g us e = absurd (cc)
  function_listed (apply f ts) [] g us e = contains_first [] (function_positions_in ts 1)
  function_listed (apply f ts) (zero ∷ p) g us e = absurd (let none = ap (option_and_then (λ t. subtree_at t p)) (argument-zero ts) in cc)
  function_listed (apply f ts) (suc k ∷ p) g us e = contains_behind [] (function_positions_in ts 1) (suc k ∷ p) (subst (λ n. Contains (function_positions_in ts 1) (n ∷ p)) (omega arith) (function_listed_in ts 1 k p g us e))

  function_listed_in : (ts : Trees) (n k : ℕ) (p : List ℕ) (g : ℕ) (us : Trees) → option_and_then (λ t. subtree_at t p) (argument ts (suc k)) ≡ Some (apply g us) → Contains (function_positions_in ts n) ((k + n) ∷ p)
  function_listed_in no_trees n k p g us e = absurd (cc)
  function_listed_in (more_trees t ts) n zero p g us e = Contains-append_left (map (n ∷◌) (function_positions_of t)) (function_positions_in ts (suc n)) ((0 + n) ∷ p) (subst (λ x. Contains (map (n ∷◌) (function_positions_of t)) (x ∷ p)) (omega arith) (contains_map (n ∷◌) (function_positions_of t) p (function_listed t p g us e)))
  function_listed_in (more_trees t ts) n (suc k) p g us e = Contains-append_right (map (n ∷◌) (function_positions_of t)) (function_positions_in ts (suc n)) ((suc k + n) ∷ p) (subst (λ x. Contains (function_positions_in ts (suc n)) (x ∷ p)) (omega arith) (function_listed_in ts (suc n) k p g us e))

-- a variable stands there
pub variable_overlaps : (A B : Rule) (p : List ℕ) (n : ℕ) → subtree_at A.left p ≡ Some (variable n) → IsOverlapped A B p None
variable_overlaps A B p n at s t h = let f = function_there A.left p h.overlaps.no_variable in let there = f.2 in absurd (cc)

-- the left sides don't unify there
pub none_overlaps : (A B : Rule) (p : List ℕ) (u : Tree) → AreVariablesBelow 64 A → subtree_at A.left p ≡ Some u → IsFoundAt A (apart B) p None → IsOverlapped A B p None
none_overlaps A B p u below at none s t h =
    none_there A B (apart B) (apart_is A B below) p u at (none u at) h.renamed h.overlaps.subterm h.renamed_apart h.overlaps.there (h.m, h.overlaps.unifier.unifies)

-- they do, and the overlap passes a limit
limit_overlaps : (A B : Rule) (p : List ℕ) (o : Overlap) (limit : Limit) → AreVariablesBelow 64 A → IsFoundAt A (apart B) p (Some o) → o.sides ≡ Err limit → IsOverlapped A B p None
limit_overlaps A B p o limit below found is s t h =
    let k = overlap_alike A B o (record { position = p; sides = Ok (s, t) }) found.0 (found.1 B (apart_is A B below)) h in
    let l = ap canonical_sides (sym is) ∙ k in
    absurd (cc)

-- or it passes none
pair_overlaps : (A B : Rule) (p : List ℕ) (o : Overlap) (e : Term × Term) → AreVariablesBelow 64 A → IsFoundAt A (apart B) p (Some o) → o.sides ≡ Ok (tree_of e.0, tree_of e.1) → IsOverlapped A B p (Some e)
pair_overlaps A B p o e below found is =
    let same : o ≡ record { position = p; sides = Ok (tree_of e.0, tree_of e.1) } = λ i. record { position = found.0 i; sides = is i } in
    subst (IsOverlapOrLimit A B) same (found.1 B (apart_is A B below))

pub found_overlaps : (A B : Rule) (p : List ℕ) (o : Overlap) (answer : Option (Term × Term)) → AreVariablesBelow 64 A → IsFoundAt A (apart B) p (Some o) → IsPairWithin o.sides answer → IsOverlapped A B p answer
found_overlaps A B p o None below found h = limit_overlaps A B p o h.0 below found h.1
found_overlaps A B p o (Some e) below found h = pair_overlaps A B p o e below found h

-- the overlaps at one position have one canonical pair
pub one_pair : (A B : Rule) (p : List ℕ) (s t v w : Tree) → IsOverlapOrLimit A B (record { position = p; sides = Ok (s, t) }) → IsOverlapOrLimit A B (record { position = p; sides = Ok (v, w) }) → canonical_pair s t ≡ canonical_pair v w
one_pair A B p s t v w h k =
    let e = overlap_alike A B (record { position = p; sides = Ok (s, t) }) (record { position = p; sides = Ok (v, w) }) refl h k in
    cc
