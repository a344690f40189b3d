-- The overlaps of two rules are one up to renaming, whichever variant of the inner rule and whichever most general unifier is taken.
use Rattle.std.proofs.Common.{ℕ, ◌≡◌, ◌⊎◌, inl, inr, refl, sym, ap, ap₂, ◌∙◌, subst, List, [], ◌∷◌, ◌++◌, map, Contains, Option, Some, None, Ok, Bool, true, false, cond, ◌==◌, eqb-true}
use Rattle.std.specs.Prelude.{◌&&◌}
use Rattle.std.proofs.lemmas.Bool.{eq-eqb, and_parts}
use Rattle.std.proofs.lemmas.List.Elements.{Contains-append_left, Contains-append_right, Contains-append_cases}
use Rattle.std.proofs.lemmas.Option.{same_Some}
use Rattle.kb_term.specs.Tree.{Tree, Trees, variable, apply, no_trees, more_trees, variables_of, tree_eq, trees_eq}
use Rattle.kb_term.specs.Substitution.{instance, rename}
use Rattle.kb_term.specs.Position.{replace_at}
use Rattle.kb_term.specs.Pair.{canonical_pair, first_limit}
use Rattle.kb_term.specs.Rule.{Rule}
use Rattle.kb_term.specs.declared.limit.Limit.{Limit}
use Rattle.kb_unify.specs.Unifier.{IsUnifier}
use Rattle.kb_unify.specs.Answer.{terms_limit}
use Rattle.kb_term.proofs.Instances.{instance-instance}
use Rattle.kb_unify.proofs.Instances.{contains_decides, instance-agree}
use Rattle.kb_unify.proofs.Similar.{similar_map, similar_limit}
use Rattle.kb_overlap.specs.Overlap.{IsRenamedApart, OverlapsAt, IsCriticalPair, overlap_limit, pair_or_limit, Overlap, IsOverlapOrLimit, HasNoOverlapAt, ListsOverlaps, canonical_sides, canonical_overlap}
use Rattle.kb_term.proofs.Variants.{rename-rename, rename_agree, rename_same, turned_back, map_append, variables_renamed}
use Rattle.kb_overlap.proofs.Extents.{same_canonical, same_pair_limit, same_term_limit}
use Rattle.kb_term.proofs.Subtrees.{replace-instance, subtree_variables}

abbrev pub variables_of_rule : Rule → List ℕ
variables_of_rule A = variables_of A.left ++ variables_of A.right

abbrev pick : {P : Type 0} → P ⊎ (P → ⊥) → ℕ → ℕ → ℕ
pick (inl h) x y = x
pick (inr h) x y = y

pick_first : {P : Type 0} (d : P ⊎ (P → ⊥)) (x y : ℕ) → P → pick d x y ≡ x
pick_first (inl h) x y p = refl
pick_first (inr h) x y p = absurd (h p)

pick_second : {P : Type 0} (d : P ⊎ (P → ⊥)) (x y : ℕ) → (P → ⊥) → pick d x y ≡ y
pick_second (inl h) x y n = absurd (n h)
pick_second (inr h) x y n = refl

-- from one variant of B apart from A to another: the variables of A stay
pub shift : (A B R S : Rule) → IsRenamedApart A B R → IsRenamedApart A B S → ℕ → ℕ
shift A B R S a b x = pick (contains_decides (variables_of_rule A) x) x ((b.variant).0 ((a.variant).1 x))

module _ (A B R S : Rule) (a : IsRenamedApart A B R) (b : IsRenamedApart A B S) where
  shift-outer : (x : ℕ) → Contains (variables_of_rule A) x → shift A B R S a b x ≡ x
  unfolding shift
  shift-outer x c = pick_first (contains_decides (variables_of_rule A) x) x ((b.variant).0 ((a.variant).1 x)) c

  shift-inner : (x : ℕ) → Contains (variables_of_rule R) x → shift A B R S a b x ≡ (b.variant).0 ((a.variant).1 x)
  unfolding shift
  shift-inner x c = pick_second (contains_decides (variables_of_rule A) x) x ((b.variant).0 ((a.variant).1 x)) (λ d. a.apart x d c)

  outer_same : (t : Tree) → ((x : ℕ) → Contains (variables_of t) x → Contains (variables_of_rule A) x) → rename (shift A B R S a b) t ≡ t
  outer_same t h = rename_same (shift A B R S a b) t (λ x c. shift-outer x (h x c))

  inner_shifted : (t u v : Tree) → ((x : ℕ) → Contains (variables_of u) x → Contains (variables_of_rule R) x) → rename ((a.variant).1) u ≡ t → rename ((b.variant).0) t ≡ v → rename (shift A B R S a b) u ≡ v
  inner_shifted t u v h back there =
      rename_agree (shift A B R S a b) (λ x. (b.variant).0 ((a.variant).1 x)) u (λ x c. shift-inner x (h x c))
      ∙ sym (rename-rename (b.variant).0 (a.variant).1 u) ∙ ap (rename (b.variant).0) back ∙ there

  left_shifted : rename (shift A B R S a b) R.left ≡ S.left
  left_shifted = inner_shifted B.left R.left S.left (λ x c. Contains-append_left (variables_of R.left) (variables_of R.right) x c) ((a.variant).2).back_again ((b.variant).2).there

  right_shifted : rename (shift A B R S a b) R.right ≡ S.right
  right_shifted = inner_shifted B.right R.right S.right (λ x c. Contains-append_right (variables_of R.left) (variables_of R.right) x c) ((a.variant).3).back_again ((b.variant).3).there

  -- a unifier for the one variant gives one for the other
  pub shifted_unifies : (u : Tree) → ((x : ℕ) → Contains (variables_of u) x → Contains (variables_of_rule A) x) → (k : ℕ → Tree) → IsUnifier k u S.left → IsUnifier (λ x. k (shift A B R S a b x)) u R.left
  shifted_unifies u h k unifies =
      sym (instance-instance k (λ x. variable (shift A B R S a b x)) u) ∙ ap (instance k) (outer_same u h) ∙ unifies ∙ ap (instance k) (sym left_shifted) ∙ instance-instance k (λ x. variable (shift A B R S a b x)) R.left

  -- what the shifted substitution makes, where it is an instance
  made : (m n d : ℕ → Tree) → ((x : ℕ) → n (shift A B R S a b x) ≡ instance d (m x)) → (t u : Tree) → rename (shift A B R S a b) t ≡ u → instance d (instance m t) ≡ instance n u
  made m n d h t u e =
      instance-instance d m t ∙ instance-agree (λ x. instance d (m x)) (λ x. n (shift A B R S a b x)) t (λ x c. sym (h x))
      ∙ sym (instance-instance n (λ x. variable (shift A B R S a b x)) t) ∙ ap (instance n) e

-- one way: the overlap with the variant S is an instance of that with R
module _ (A B R S : Rule) (a : IsRenamedApart A B R) (b : IsRenamedApart A B S) (p : List ℕ) (m n : ℕ → Tree) (g : OverlapsAt A R p m) (h : OverlapsAt A S p n) where
  in_left : (x : ℕ) → Contains (variables_of A.left) x → Contains (variables_of_rule A) x
  in_left x c = Contains-append_left (variables_of A.left) (variables_of A.right) x c

  in_right : (x : ℕ) → Contains (variables_of A.right) x → Contains (variables_of_rule A) x
  in_right x c = Contains-append_right (variables_of A.left) (variables_of A.right) x c

  pub transfer : (d : ℕ → Tree) × ((x : ℕ) → n (shift A B R S a b x) ≡ instance d (m x))
  transfer =
      let same : g.subterm ≡ h.subterm = same_Some g.subterm h.subterm (sym g.there ∙ h.there) in
      let unifies : IsUnifier n g.subterm S.left = subst (λ u. IsUnifier n u S.left) (sym same) (h.unifier).unifies in
      (g.unifier).most_general (λ x. n (shift A B R S a b x)) (shifted_unifies A B R S a b g.subterm (λ x c. in_left x (subtree_variables p A.left g.subterm g.there x c)) n unifies)

  module _ (d : ℕ → Tree) (takes : (x : ℕ) → n (shift A B R S a b x) ≡ instance d (m x)) where
    pub peak_made : instance d (instance m A.left) ≡ instance n A.left
    peak_made = made A B R S a b m n d takes A.left A.left (outer_same A B R S a b A.left in_left)

    module _ (s t v w : Tree) (one : IsCriticalPair A R p m s t) (two : IsCriticalPair A S p n v w) where
      pub first_made : instance d s ≡ v
      first_made = ap (instance d) one.by_outer ∙ made A B R S a b m n d takes A.right A.right (outer_same A B R S a b A.right in_right) ∙ sym two.by_outer

      pub second_made : instance d t ≡ w
      second_made =
          let right : instance d (instance m R.right) ≡ instance n S.right = made A B R S a b m n d takes R.right S.right (right_shifted A B R S a b) in
          same_Some (instance d t) w (sym (replace-instance d p (instance m A.left) (instance m R.right) t one.by_inner) ∙ ap₂ (λ x y. replace_at x p y) peak_made right ∙ two.by_inner)

-- the variables that count for the limit
left_variables : (A B R S : Rule) (a : IsRenamedApart A B R) (b : IsRenamedApart A B S) → map (shift A B R S a b) (variables_of A.left ++ variables_of R.left) ≡ variables_of A.left ++ variables_of S.left
left_variables A B R S a b =
    let f = shift A B R S a b in
    map_append f (variables_of A.left) (variables_of R.left)
    ∙ ap₂ (λ xs ys. xs ++ ys)
    (sym (variables_renamed f A.left) ∙ ap variables_of (outer_same A B R S a b A.left (λ x c. Contains-append_left (variables_of A.left) (variables_of A.right) x c)))
    (sym (variables_renamed f R.left) ∙ ap variables_of (left_shifted A B R S a b))

-- there and back again
shifted_back : (A B R S : Rule) (a : IsRenamedApart A B R) (b : IsRenamedApart A B S) (x : ℕ) → Contains (variables_of A.left ++ variables_of R.left) x → shift A B S R b a (shift A B R S a b x) ≡ x
shifted_back A B R S a b x c =
    let f = shift A B R S a b in
    let g = shift A B S R b a in
    let in_left = λ (y : ℕ) (d : Contains (variables_of A.left) y). Contains-append_left (variables_of A.left) (variables_of A.right) y d in
    elim (Contains-append_cases (variables_of A.left) (variables_of R.left) x c) [
      | inl d ↦ turned_back f g A.left (ap (rename g) (outer_same A B R S a b A.left in_left) ∙ outer_same A B S R b a A.left in_left) x d
      | inr d ↦ turned_back f g R.left (ap (rename g) (left_shifted A B R S a b) ∙ left_shifted A B S R b a) x d
    ]

same_sides : (s t v w : Tree) (k l : Option Limit) → k ≡ l → canonical_pair s t ≡ canonical_pair v w → canonical_sides (pair_or_limit k s t) ≡ canonical_sides (pair_or_limit l v w)
same_sides s t v w None None e h = ap Ok h
same_sides s t v w None (Some l) e h = absurd (cc)
same_sides s t v w (Some k) None e h = absurd (cc)
same_sides s t v w (Some k) (Some l) e h = cc

mutual
  equal_tree : (s t : Tree) → tree_eq s t ≡ true → s ≡ t
  equal_tree (variable m) (variable n) e = ap variable (eqb-true m n e)
  equal_tree (variable m) (apply g us) e = absurd (cc)
  equal_tree (apply f ts) (variable n) e = absurd (cc)
  equal_tree (apply f ts) (apply g us) e = let h = and_parts (f == g) (trees_eq ts us) e in ap₂ apply (eqb-true f g h.0) (equal_trees ts us h.1)

  equal_trees : (ss ts : Trees) → trees_eq ss ts ≡ true → ss ≡ ts
  equal_trees no_trees no_trees e = refl
  equal_trees no_trees (more_trees t ts) e = absurd (cc)
  equal_trees (more_trees s ss) no_trees e = absurd (cc)
  equal_trees (more_trees s ss) (more_trees t ts) e = let h = and_parts (tree_eq s t) (trees_eq ss ts) e in ap₂ more_trees (equal_tree s t h.0) (equal_trees ss ts h.1)

mutual
  same_tree : (t : Tree) → tree_eq t t ≡ true
  same_tree (variable n) = eq-eqb n n refl
  same_tree (apply f ts) = ap₂ (λ x y. x && y) (eq-eqb f f refl) (same_trees ts)

  same_trees : (ts : Trees) → trees_eq ts ts ≡ true
  same_trees no_trees = refl
  same_trees (more_trees t ts) = ap₂ (λ x y. x && y) (same_tree t) (same_trees ts)

tree_eq-instance : (d e : ℕ → Tree) (s t v w : Tree) → instance d s ≡ v → instance e v ≡ s → instance d t ≡ w → instance e w ≡ t → tree_eq s t ≡ tree_eq v w
tree_eq-instance d e s t v w sv vs tw wt = go (tree_eq s t) (tree_eq v w) refl refl
  where
    go : (x y : Bool) → tree_eq s t ≡ x → tree_eq v w ≡ y → tree_eq s t ≡ tree_eq v w
    go true true p q = p ∙ sym q
    go false false p q = p ∙ sym q
    go true false p q = p ∙ sym (ap (tree_eq v) (sym tw ∙ ap (instance d) (sym (equal_tree s t p)) ∙ sv) ∙ same_tree v)
    go false true p q = ap (tree_eq s) (sym wt ∙ ap (instance e) (sym (equal_tree v w q)) ∙ vs) ∙ same_tree s ∙ sym q

pub same_canonical_pair : (d e : ℕ → Tree) (s t v w : Tree) → instance d s ≡ v → instance e v ≡ s → instance d t ≡ w → instance e w ≡ t → canonical_pair s t ≡ canonical_pair v w
same_canonical_pair d e s t v w sv vs tw wt = ap₂ (λ b c. cond b None (Some c)) (tree_eq-instance d e s t v w sv vs tw wt) (same_canonical d e s t v w sv vs tw wt)

-- the two overlaps at one position are alike
core : (A B R S : Rule) (a : IsRenamedApart A B R) (b : IsRenamedApart A B S) (p : List ℕ) (m n : ℕ → Tree) (g : OverlapsAt A R p m) (h : OverlapsAt A S p n) (s t v w : Tree) → IsCriticalPair A R p m s t → IsCriticalPair A S p n v w
    → canonical_sides (pair_or_limit (overlap_limit A R m s t) s t) ≡ canonical_sides (pair_or_limit (overlap_limit A S n v w) v w)
core A B R S a b p m n g h s t v w one two =
    let forth = transfer A B R S a b p m n g h in
    let back = transfer A B S R b a p n m h g in
    let d = forth.0 in
    let e = back.0 in
    let sv = first_made A B R S a b p m n g h d forth.1 s t v w one two in
    let vs = first_made A B S R b a p n m h g e back.1 v w s t two one in
    let tw = second_made A B R S a b p m n g h d forth.1 s t v w one two in
    let wt = second_made A B S R b a p n m h g e back.1 v w s t two one in
    let f = shift A B R S a b in
    let similar = similar_map d e m n f (variables_of A.left ++ variables_of R.left) (λ x c. (sym (forth.1 x), sym (back.1 (f x)) ∙ ap m (shifted_back A B R S a b x c))) in
    let terms = similar_limit d e (map m (variables_of A.left ++ variables_of R.left)) (map n (map f (variables_of A.left ++ variables_of R.left))) similar ∙ ap (λ xs. terms_limit (map n xs)) (left_variables A B R S a b) in
    let peak = same_term_limit d e (instance m A.left) s (instance n A.left) v (peak_made A B R S a b p m n g h d forth.1) (peak_made A B S R b a p n m h g e back.1) sv vs in
    let pair = same_pair_limit d e s t v w sv vs tw wt in
    same_sides s t v w (overlap_limit A R m s t) (overlap_limit A S n v w) (λ i. first_limit (terms i ∷ peak i ∷ pair i ∷ [])) (same_canonical_pair d e s t v w sv vs tw wt)

-- two overlaps of the rules at one position have one canonical pair, or pass one limit
pub overlap_alike : (A B : Rule) (o q : Overlap) → o.position ≡ q.position → IsOverlapOrLimit A B o → IsOverlapOrLimit A B q → canonical_sides o.sides ≡ canonical_sides q.sides
overlap_alike A B o q e x y =
    let there : OverlapsAt A y.renamed o.position y.m = subst (λ p. OverlapsAt A y.renamed p y.m) (sym e) y.overlaps in
    let pair : IsCriticalPair A y.renamed o.position y.m y.s y.t = subst (λ p. IsCriticalPair A y.renamed p y.m y.s y.t) (sym e) y.pair in
    ap canonical_sides x.sides
    ∙ core A B x.renamed y.renamed x.renamed_apart y.renamed_apart o.position x.m y.m x.overlaps there x.s x.t y.s y.t x.pair pair
    ∙ ap canonical_sides (sym y.sides)

-- where there is an overlap something unifies
overlap_unifies : (A B : Rule) (o : Overlap) → IsOverlapOrLimit A B o → ¬ HasNoOverlapAt A B o.position
overlap_unifies A B o x none = none x.renamed ((x.overlaps).subterm) x.renamed_apart (x.overlaps).there (x.m, ((x.overlaps).unifier).unifies)

pub lists_alike : (A B : Rule) (ps : List (List ℕ)) (xs ys : List Overlap) → ListsOverlaps A B ps xs → ListsOverlaps A B ps ys → map canonical_overlap xs ≡ map canonical_overlap ys
lists_alike A B [] xs ys l k = ap (map canonical_overlap) (l ∙ sym k)
lists_alike A B (p ∷ ps) xs ys (inl l) (inl k) = lists_alike A B ps xs ys l.1 k.1
lists_alike A B (p ∷ ps) xs ys (inl l) (inr (q, rest, is, at, here, k)) = absurd (overlap_unifies A B q here (subst (HasNoOverlapAt A B) (sym at) l.0))
lists_alike A B (p ∷ ps) xs ys (inr (o, rest, is, at, here, l)) (inl k) = absurd (overlap_unifies A B o here (subst (HasNoOverlapAt A B) (sym at) k.0))
lists_alike A B (p ∷ ps) xs ys (inr (o, rest, is, at, here, l)) (inr (q, others, is', at', here', k)) =
    ap (map canonical_overlap) is
    ∙ (λ i. ((at ∙ sym at') i, overlap_alike A B o q (at ∙ sym at') here here' i) ∷ lists_alike A B ps rest others l k i)
    ∙ sym (ap (map canonical_overlap) is')
