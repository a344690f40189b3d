-- Joinable overlaps give joinable peaks: the critical pair lemma.
use Rattle.std.proofs.Common.{ℕ, zero, suc, ◌+◌, ◌-◌, ◌≡◌, ◌≤◌, ◌<◌, ◌⊎◌, inl, inr, refl, sym, ap, ap₂, ◌∙◌, subst, subst₂, arith, List, [], ◌∷◌, ◌++◌, map, drop, Contains, Option, Some, None, option_map, option_and_then, Ok, ◌==◌, Bool, true, false, slice_get, ⊎_elim, eqb-true}
use Rattle.std.proofs.lemmas.List.Elements.{Contains-append_cases, Contains-append_left, Contains-append_right}
use Rattle.std.proofs.lemmas.Option.{same_Some}
use Rattle.kb_lemmas.proofs.Membership.{contains_cases, contains_behind, contains_first, contains_map}
use Rattle.kb_term.specs.Tree.{Tree, variable, apply, Trees, no_trees, more_trees, variables_of}
use Rattle.kb_term.specs.Substitution.{instance, instances, rename, IsRenaming}
use Rattle.kb_term.specs.Rule.{Rule, rename_rule}
use Rattle.kb_term.specs.Position.{argument, with_argument, subtree_at, function_positions_of, function_positions_in}
use Rattle.kb_term.specs.Position as Position
use Rattle.kb_unify.specs.Unifier.{IsUnifier, IsMostGeneralUnifier}
use Rattle.kb_overlap.specs.Overlap.{IsRenamedApart, pair_or_limit, overlap_limit, Overlap, IsOverlapOrLimit, HasNoOverlapAt, ListsOverlaps, overlap_positions}
use Rattle.kb_term.specs.declared.limit.Limit.{Limit}
use Rattle.kb_term.specs.Proving as Proving
use Rattle.kb_term.proofs.Relation.{IsJoinable}
use Rattle.kb_term.proofs.Steps.{Occurs, OccursIn, occurs_from, occurs_to, Step}
use Rattle.kb_term.proofs.Subterms.{subterm_at, argument_at, replace_at, replace_in, IsApplied, occurs_at}
use Rattle.kb_term.proofs.Instances.{instance-agree, instance-instance, instance-variable}
use Rattle.kb_laws.specs.Overlaps.{OverlapsJoin}
use Rattle.kb_laws.proofs.Peaks.{PeaksJoin}
use Rattle.kb_term.proofs.StepsInside.{joinable_instance}
use Rattle.kb_laws.proofs.ReplacedInstances.{replace-instance}
use Rattle.kb_unify.proofs.Instances.{contains_decides}
use Rattle.kb_term.proofs.Bridge.{joinable_from}

-- the two ways to find a subterm, and to replace one, agree
and_then_map : {A B C : Type 0} (f : A → Option B) (g : B → C) (o : Option A) → option_map g (option_and_then f o) ≡ option_and_then (λ a. option_map g (f a)) o
and_then_map f g None = refl
and_then_map f g (Some a) = refl

map_map : {A B C : Type 0} (f : A → B) (g : B → C) (o : Option A) → option_map g (option_map f o) ≡ option_map (λ a. g (f a)) o
map_map f g None = refl
map_map f g (Some a) = refl

and_then_agree : {A B : Type 0} (f g : A → Option B) → ((a : A) → f a ≡ g a) → (o : Option A) → option_and_then f o ≡ option_and_then g o
and_then_agree f g h None = refl
and_then_agree f g h (Some a) = h a

mutual
  subterm_same : (t : Tree) (p : List ℕ) → subterm_at t p ≡ subtree_at t p
  subterm_same (variable n) [] = refl
  subterm_same (variable n) (k ∷ p) = refl
  subterm_same (apply f ts) [] = refl
  subterm_same (apply f ts) (k ∷ p) = argument_same ts k p

  argument_same : (ts : Trees) (k : ℕ) (p : List ℕ) → argument_at ts k p ≡ option_and_then (λ t. subtree_at t p) (argument ts k)
  argument_same no_trees zero p = refl
  argument_same no_trees (suc k) p = refl
  argument_same (more_trees t ts) zero p = refl
  argument_same (more_trees t ts) (suc zero) p = subterm_same t p
  argument_same (more_trees t ts) (suc (suc k)) p = argument_same ts (suc k) p

mutual
  replace_same : (t : Tree) (p : List ℕ) (v : Tree) → replace_at t p v ≡ Position.replace_at t p v
  replace_same (variable n) [] v = refl
  replace_same (variable n) (k ∷ p) v = refl
  replace_same (apply f ts) [] v = refl
  replace_same (apply f ts) (k ∷ p) v =
      ap (option_map (apply f)) (replace_in_same ts k p v)
      ∙ and_then_map (λ t. option_map (λ x. with_argument ts k x) (Position.replace_at t p v)) (apply f) (argument ts k)
      ∙ and_then_agree (λ t. option_map (apply f) (option_map (λ x. with_argument ts k x) (Position.replace_at t p v))) (λ t. option_map (λ x. apply f (with_argument ts k x)) (Position.replace_at t p v)) (λ t. map_map (λ x. with_argument ts k x) (apply f) (Position.replace_at t p v)) (argument ts k)

  replace_in_same : (ts : Trees) (k : ℕ) (p : List ℕ) (v : Tree) → replace_in ts k p v ≡ option_and_then (λ t. option_map (λ x. with_argument ts k x) (Position.replace_at t p v)) (argument ts k)
  replace_in_same no_trees zero p v = refl
  replace_in_same no_trees (suc k) p v = refl
  replace_in_same (more_trees t ts) zero p v = refl
  replace_in_same (more_trees t ts) (suc zero) p v = ap (option_map (λ x. more_trees x ts)) (replace_same t p v)
  replace_in_same (more_trees t ts) (suc (suc k)) p v =
      ap (option_map (more_trees t)) (replace_in_same ts (suc k) p v)
      ∙ and_then_map (λ u. option_map (λ x. with_argument ts (suc k) x) (Position.replace_at u p v)) (more_trees t) (argument ts (suc k))
      ∙ and_then_agree (λ u. option_map (more_trees t) (option_map (λ x. with_argument ts (suc k) x) (Position.replace_at u p v))) (λ u. option_map (λ x. more_trees t (with_argument ts (suc k) x)) (Position.replace_at u p v)) (λ u. map_map (λ x. with_argument ts (suc k) x) (more_trees t) (Position.replace_at u p v)) (argument ts (suc k))

-- a member, by its place
contains_slice : {X : Type 0} (xs : List X) (x : X) (c : Contains xs x) → slice_get xs c.0 ≡ Some x
contains_slice [] x (k, h, e) = absurd (omega arith)
contains_slice (y ∷ ys) x (zero, h, e) = ap Some e
contains_slice (y ∷ ys) x (suc k, h, e) = contains_slice ys x (k, omega arith, e)

no_argument : (ts : Trees) (p : List ℕ) (w : Tree) → argument_at ts zero p ≡ Some w → ⊥
no_argument no_trees p w e = cc
no_argument (more_trees t ts) p w e = cc

-- a position at which no variable stands is a function position
mutual
  function_position : (t : Tree) (p : List ℕ) (w : Tree) → subterm_at t p ≡ Some w → IsApplied w → Contains (function_positions_of t) p
  function_position (variable n) [] w e i = let q : w ≡ variable n = cc in absurd (subst IsApplied q i)
  function_position (variable n) (k ∷ p) w e i = absurd (cc)
  function_position (apply f ts) [] w e i = contains_first [] (function_positions_in ts 1)
  function_position (apply f ts) (zero ∷ p) w e i = absurd (no_argument ts p w e)
  function_position (apply f ts) (suc k ∷ p) w e i = contains_behind [] (function_positions_in ts 1) (suc k ∷ p) (subst (λ n. Contains (function_positions_in ts 1) (n ∷ p)) (omega arith) (function_position_in ts 1 k p w e i))

  function_position_in : (ts : Trees) (n k : ℕ) (p : List ℕ) (w : Tree) → argument_at ts (suc k) p ≡ Some w → IsApplied w → Contains (function_positions_in ts n) ((k + n) ∷ p)
  function_position_in no_trees n k p w e i = absurd (cc)
  function_position_in (more_trees t ts) n zero p w e i = Contains-append_left (map (n ∷◌) (function_positions_of t)) (function_positions_in ts (suc n)) ((0 + n) ∷ p) (subst (λ x. Contains (map (n ∷◌) (function_positions_of t)) (x ∷ p)) (omega arith) (contains_map (n ∷◌) (function_positions_of t) p (function_position t p w e i)))
  function_position_in (more_trees t ts) n (suc k) p w e i = Contains-append_right (map (n ∷◌) (function_positions_of t)) (function_positions_in ts (suc n)) ((suc k + n) ∷ p) (subst (λ x. Contains (function_positions_in ts (suc n)) (x ∷ p)) (omega arith) (function_position_in ts (suc n) k p w e i))

-- what an overlap list has for one of its positions
pub at_listed : (A B : Rule) (ps : List (List ℕ)) (os : List Overlap) → ListsOverlaps A B ps os → (p : List ℕ) → Contains ps p → HasNoOverlapAt A B p ⊎ ((o : Overlap) × Contains os o × (o.position ≡ p) × IsOverlapOrLimit A B o)
at_listed A B [] os l p c = absurd (omega arith)
at_listed A B (q ∷ ps) os (inl (none, l)) p c = ⊎_elim (λ e. inl (subst (HasNoOverlapAt A B) e none)) (λ d. at_listed A B ps os l p d) (contains_cases q ps p c)
at_listed A B (q ∷ ps) os (inr (o, rest, e, f, h, l)) p c = ⊎_elim (λ d. inr (o, subst (λ z. Contains z o) (sym e) (contains_first o rest), f ∙ d, h)) (λ d. go (at_listed A B ps rest l p d)) (contains_cases q ps p c)
  where
    go : HasNoOverlapAt A B p ⊎ ((o : Overlap) × Contains rest o × (o.position ≡ p) × IsOverlapOrLimit A B o) → HasNoOverlapAt A B p ⊎ ((o : Overlap) × Contains os o × (o.position ≡ p) × IsOverlapOrLimit A B o)
    go (inl n) = inl n
    go (inr (x, i, d, k)) = inr (x, subst (λ z. Contains z x) (sym e) (contains_behind o rest x i), d, k)

-- p is a position for overlaps, but for a rule with itself at the root
in_positions : (A : Rule) (same : Bool) (p : List ℕ) (w : Tree) → subterm_at A.left p ≡ Some w → IsApplied w → (p ≡ [] → same ≡ true → ⊥) → Contains (overlap_positions A same) p
in_positions A false p w e i h = function_position A.left p w e i
in_positions A true p w e i h = go A.left p (function_position A.left p w e i) (λ d. h d refl)
  where
    go : (t : Tree) (p : List ℕ) → Contains (function_positions_of t) p → (p ≡ [] → ⊥) → Contains (drop 1 (function_positions_of t)) p
    go (variable n) p c h = absurd (omega arith)
    go (apply f ts) p c h = ⊎_elim (λ d. absurd (h (sym d))) (λ d. d) (contains_cases [] (function_positions_in ts 1) p c)

-- one substitution for two: the first on the variables of a list, the second after a renaming elsewhere
abbrev pick : {P : Type 0} → P ⊎ (P → ⊥) → Tree → Tree → Tree
pick (inl h) s t = s
pick (inr h) s t = t

pick_first : {P : Type 0} (d : P ⊎ (P → ⊥)) (s t : Tree) → P → pick d s t ≡ s
pick_first (inl h) s t p = refl
pick_first (inr h) s t p = absurd (h p)

pick_second : {P : Type 0} (d : P ⊎ (P → ⊥)) (s t : Tree) → (P → ⊥) → pick d s t ≡ t
pick_second (inl h) s t n = absurd (n h)
pick_second (inr h) s t n = refl

abbrev variables_of_rule : Rule → List ℕ
variables_of_rule A = variables_of A.left ++ variables_of A.right

abbrev beside : Rule → (ℕ → Tree) → (ℕ → ℕ) → (ℕ → Tree) → ℕ → Tree
beside A m back k x = pick (contains_decides (variables_of_rule A) x) (m x) (k (back x))

beside_left : (A : Rule) (m : ℕ → Tree) (back : ℕ → ℕ) (k : ℕ → Tree) → instance (beside A m back k) A.left ≡ instance m A.left
beside_left A m back k = instance-agree (beside A m back k) m A.left (λ x o. pick_first (contains_decides (variables_of_rule A) x) (m x) (k (back x)) (Contains-append_left (variables_of A.left) (variables_of A.right) x (occurs_to x A.left o)))

beside_right : (A : Rule) (m : ℕ → Tree) (back : ℕ → ℕ) (k : ℕ → Tree) → instance (beside A m back k) A.right ≡ instance m A.right
beside_right A m back k = instance-agree (beside A m back k) m A.right (λ x o. pick_first (contains_decides (variables_of_rule A) x) (m x) (k (back x)) (Contains-append_right (variables_of A.left) (variables_of A.right) x (occurs_to x A.right o)))

beside_part : (A : Rule) (m : ℕ → Tree) (back : ℕ → ℕ) (k : ℕ → Tree) (p : List ℕ) (w : Tree) → subterm_at A.left p ≡ Some w → instance (beside A m back k) w ≡ instance m w
beside_part A m back k p w e = instance-agree (beside A m back k) m w (λ x o. pick_first (contains_decides (variables_of_rule A) x) (m x) (k (back x)) (Contains-append_left (variables_of A.left) (variables_of A.right) x (occurs_to x A.left (occurs_at x A.left p w e o))))

beside_other : (A : Rule) (m : ℕ → Tree) (r back : ℕ → ℕ) (k : ℕ → Tree) (s t : Tree) → IsRenaming r back s t → ((x : ℕ) → Occurs x t → Contains (variables_of_rule A) x → ⊥) → instance (beside A m back k) t ≡ instance k s
beside_other A m r back k s t n apart =
    instance-agree (beside A m back k) (λ x. k (back x)) t (λ x o. pick_second (contains_decides (variables_of_rule A) x) (m x) (k (back x)) (apart x o))
    ∙ sym (instance-instance k (λ x. variable (back x)) t) ∙ ap (instance k) n.back_again

-- a renaming past the variables of a rule
abbrev past : List ℕ → ℕ
past [] = 0
past (x ∷ xs) = x + past xs + 1

contains_past : (xs : List ℕ) (x : ℕ) → Contains xs x → x < past xs
contains_past [] x c = absurd (omega arith)
contains_past (y ∷ ys) x c = ⊎_elim (λ e. omega arith) (λ d. let h = contains_past ys x d in omega arith) (contains_cases y ys x c)

mutual
  occurs_shifted : (n x : ℕ) (t : Tree) → Occurs x (rename (λ y. y + n) t) → n ≤ x
  occurs_shifted n x (variable y) o = omega arith
  occurs_shifted n x (apply f ts) o = occurs_shifted_in n x ts o

  occurs_shifted_in : (n x : ℕ) (ts : Trees) → OccursIn x (instances (λ y. variable (y + n)) ts) → n ≤ x
  occurs_shifted_in n x no_trees o = absurd o
  occurs_shifted_in n x (more_trees t ts) (inl o) = occurs_shifted n x t o
  occurs_shifted_in n x (more_trees t ts) (inr o) = occurs_shifted_in n x ts o

shift_renames : (n : ℕ) (t : Tree) → IsRenaming (λ y. y + n) (λ y. y - n) t (rename (λ y. y + n) t)
shift_renames n t = record {
  there = refl;
  back_again = instance-instance (λ y. variable (y - n)) (λ y. variable (y + n)) t ∙ instance-agree (λ y. variable (y + n - n)) variable t (λ x o. ap variable (omega arith)) ∙ instance-variable t;
}

pub shifted_apart : (A B : Rule) → IsRenamedApart A B (rename_rule (λ y. y + past (variables_of_rule A)) B)
shifted_apart A B =
    let n : ℕ = past (variables_of_rule A) in
    record {
      variant = ((λ y. y + n), (λ y. y - n), shift_renames n B.left, shift_renames n B.right);
      apart = λ x c d. let h = contains_past (variables_of_rule A) x c in
          ⊎_elim (λ e. let k = occurs_shifted n x B.left (occurs_from x (rename (λ y. y + n) B.left) e) in omega arith) (λ e. let k = occurs_shifted n x B.right (occurs_from x (rename (λ y. y + n) B.right) e) in omega arith)
          (Contains-append_cases (variables_of (rename (λ y. y + n) B.left)) (variables_of (rename (λ y. y + n) B.right)) x d);
    }

-- the variables of a rule renamed apart are not those of the other
apart_left : (A B C : Rule) → IsRenamedApart A B C → (x : ℕ) → Occurs x C.left → Contains (variables_of_rule A) x → ⊥
apart_left A B C h x o c = h.apart x c (Contains-append_left (variables_of C.left) (variables_of C.right) x (occurs_to x C.left o))

apart_right : (A B C : Rule) → IsRenamedApart A B C → (x : ℕ) → Occurs x C.right → Contains (variables_of_rule A) x → ⊥
apart_right A B C h x o c = h.apart x c (Contains-append_right (variables_of C.left) (variables_of C.right) x (occurs_to x C.right o))

-- where the left sides meet, the rule renamed apart unifies
pub unifies_apart : (A B C : Rule) → IsRenamedApart A B C → (p : List ℕ) (w : Tree) (m k : ℕ → Tree) → subterm_at A.left p ≡ Some w → instance m w ≡ instance k B.left → (z : ℕ → Tree) × IsUnifier z w C.left × (instance z A.left ≡ instance m A.left) × (instance z A.right ≡ instance m A.right) × (instance z C.right ≡ instance k B.right)
unifies_apart A B C h p w m k e d =
    let r = h.variant.0 in
    let back = h.variant.1 in
    let z : ℕ → Tree = beside A m back k in (
      z,
      beside_part A m back k p w e ∙ d ∙ sym (beside_other A m r back k B.left C.left h.variant.2 (apart_left A B C h)),
      beside_left A m back k,
      beside_right A m back k,
      beside_other A m r back k B.right C.right h.variant.3 (apart_right A B C h),
    )

ok_sides : (l : Option Limit) (s t : Tree) (u v : Tree) → pair_or_limit l s t ≡ Ok (u, v) → (s ≡ u) × (t ≡ v)
ok_sides None s t u v e = let q : ◌≡◌ {A = Tree × Tree} (s, t) (u, v) = cc in (ap (λ x. x.0) q, ap (λ x. x.1) q)
ok_sides (Some l) s t u v e = absurd (cc)

-- a most general unifier has the peak as an instance
peak_of : (rules : List Rule) (A B C : Rule) → IsRenamedApart A B C → (p : List ℕ) (w : Tree) (m k : ℕ → Tree) (t : Tree) → subterm_at A.left p ≡ Some w → instance m w ≡ instance k B.left
    → replace_at (instance m A.left) p (instance k B.right) ≡ Some t → (un : ℕ → Tree) → IsMostGeneralUnifier un w C.left → (s u : Tree) → s ≡ instance un A.right → replace_at (instance un A.left) p (instance un C.right) ≡ Some u
    → IsJoinable (Step (Contains rules)) s u → IsJoinable (Step (Contains rules)) (instance m A.right) t
peak_of rules A B C h p w m k t e d q un mgu s u first second joins =
    let x = unifies_apart A B C h p w m k e d in
    let z : ℕ → Tree = x.0 in
    let g = mgu.most_general z x.1 in
    let j : ℕ → Tree = g.0 in
    let along : (y : Tree) → instance z y ≡ instance j (instance un y) = λ y. instance-agree z (λ x. instance j (un x)) y (λ n o. g.1 n) ∙ sym (instance-instance j un y) in
    let r = replace-instance j (instance un A.left) p (instance un C.right) u second in
    let l : instance j (instance un A.left) ≡ instance m A.left = sym (along A.left) ∙ x.2 in
    let b : instance j (instance un C.right) ≡ instance k B.right = sym (along C.right) ∙ x.4 in
    let t' : instance j u ≡ t = same_Some (instance j u) t (sym r ∙ ap₂ (λ a c. replace_at a p c) l b ∙ q) in
    let s' : instance j s ≡ instance m A.right = ap (instance j) first ∙ sym (along A.right) ∙ x.3 in
    subst₂ (λ a c. IsJoinable (Step (Contains rules)) a c) s' t' (joinable_instance (Contains rules) j s u joins)

pub peaks_join : (rules : List Rule) → OverlapsJoin rules → PeaksJoin (Contains rules)
peaks_join rules over A B p w m k t a b e i d q other =
    let o = over a.0 b.0 A B (contains_slice rules A a) (contains_slice rules B b) in
    let c : Contains (overlap_positions A (a.0 == b.0)) p = in_positions A (a.0 == b.0) p w e i (λ z f. other z (same_Some A B (sym (contains_slice rules A a) ∙ ap (slice_get rules) (eqb-true a.0 b.0 f) ∙ contains_slice rules B b))) in
    go o.0 o.2 (at_listed A B (overlap_positions A (a.0 == b.0)) o.0 o.1 p c)
  where
    go : (os : List Overlap) → ((o : Overlap) → Contains os o → (s : Tree) × (t : Tree) × (o.sides ≡ Ok (s, t)) × Proving.IsJoinable rules s t)
        → HasNoOverlapAt A B p ⊎ ((o : Overlap) × Contains os o × (o.position ≡ p) × IsOverlapOrLimit A B o) → IsJoinable (Step (Contains rules)) (instance m A.right) t
    go os joins (inl none) =
        let C : Rule = rename_rule (λ y. y + past (variables_of_rule A)) B in
        let x = unifies_apart A B C (shifted_apart A B) p w m k e d in
        absurd (none C w (shifted_apart A B) (sym (subterm_same A.left p) ∙ e) (x.0, x.1))
    go os joins (inr (o, c, f, h)) =
        let j = joins o c in
        let sides = ok_sides (overlap_limit A h.renamed h.m h.s h.t) h.s h.t j.0 j.1 (sym h.sides ∙ j.2) in
        let w' : h.overlaps.subterm ≡ w = same_Some h.overlaps.subterm w (sym h.overlaps.there ∙ ap (subtree_at A.left) f ∙ sym (subterm_same A.left p) ∙ e) in
        peak_of rules A B h.renamed h.renamed_apart p w m k t e d q h.m (subst (λ y. IsMostGeneralUnifier h.m y h.renamed.left) w' h.overlaps.unifier) h.s h.t h.pair.by_outer
        (replace_same (instance h.m A.left) p (instance h.m h.renamed.right) ∙ subst (λ y. Position.replace_at (instance h.m A.left) y (instance h.m h.renamed.right) ≡ Some h.t) f h.pair.by_inner)
        (joinable_from rules h.s h.t (subst₂ (Proving.IsJoinable rules) (sym sides.0) (sym sides.1) j.3))
