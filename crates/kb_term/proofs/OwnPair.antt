-- The canonical pair of a canonical pair is itself.
use Rattle.std.proofs.Common.{◌≡◌, ◌⊎◌, inl, inr, refl, ap, ap₂, sym, ◌∙◌, arith, ℕ, suc, ◌≤◌, List, [], ◌∷◌, ◌++◌, length, get_or, Bool, true, false, Contains, Ordering, Less, Equal, Greater, Some, None, subst, cond, ⊎_elim}
use Rattle.std.specs.Prelude.{map, ◌==◌}
use Rattle.std.specs.Ordering.{ordering_index}
use Rattle.std.proofs.lemmas.Bool.{false≢true}
use Rattle.std.proofs.lemmas.List.Elements.{Contains-append_cases, Contains-append_left, Contains-append_right}
use Rattle.kb_term.specs.Tree.{Tree, variables_of, tree_cmp, tree_eq}
use Rattle.kb_term.specs.Substitution.{rename}
use Rattle.kb_term.specs.Pair.{Pair, distinct, place_in, variables_of_pair, numbered, lesser, canonical, IsCanonicalPair}
use Rattle.kb_term.proofs.Compared.{tree-is_eq}
use Rattle.kb_term.proofs.Variants.{IsApart, at_place, in_distinct, distinct_renamed, variables_renamed, map_append, numbered_renamed, unnumbered}
use Rattle.kb_term.proofs.CanonicalPairs.{flip, tree_flip, tree_equal, lesser_cases, lesser_comm}
use Rattle.kb_term.proofs.NameList.{variables_of_pair-swapped}
use Rattle.kb_term.proofs.RuleBelow.{numbered-below}
use Rattle.kb_term.specs.Rule.{IsRuleBelow, rule_between}

equal_from_index : (o : Ordering) → (ordering_index o == 1) ≡ true → o ≡ Equal
equal_from_index Less e = absurd (false≢true e)
equal_from_index Equal e = refl
equal_from_index Greater e = absurd (false≢true e)

-- the computed equality is equality
pub tree_eq-true : (s t : Tree) → tree_eq s t ≡ true → s ≡ t
tree_eq-true s t e = tree_equal s t (equal_from_index (tree_cmp s t) (sym (tree-is_eq s t) ∙ e))

flip_same : (o : Ordering) → o ≡ flip o → o ≡ Equal
flip_same Less e = absurd (cc)
flip_same Equal e = refl
flip_same Greater e = absurd (cc)

pub tree_cmp-same : (t : Tree) → tree_cmp t t ≡ Equal
tree_cmp-same t = flip_same (tree_cmp t t) (tree_flip t t)

pub tree_eq-same : (s t : Tree) → s ≡ t → tree_eq s t ≡ true
tree_eq-same s t e = ap (tree_eq s) (sym e) ∙ tree-is_eq s s ∙ ap (λ o. ordering_index o == 1) (tree_cmp-same s)

pub tree_eq-false : (s t : Tree) → tree_eq s t ≡ false → ¬ (s ≡ t)
tree_eq-false s t e d = false≢true (sym e ∙ tree_eq-same s t d)

-- numbering tells the variables apart
pub numbered_apart : (s t : Tree) → IsApart (place_in (variables_of_pair s t)) (variables_of s ++ variables_of t)
numbered_apart s t x y c d e = sym (at_place (variables_of_pair s t) x 0 (in_distinct _ x c)) ∙ ap (λ k. get_or (variables_of_pair s t) k 0) e ∙ at_place (variables_of_pair s t) y 0 (in_distinct _ y d)

other_way : (s t : Tree) (x : ℕ) → Contains (variables_of t ++ variables_of s) x → Contains (variables_of s ++ variables_of t) x
other_way s t x c = ⊎_elim (λ d. Contains-append_right (variables_of s) (variables_of t) x d) (λ d. Contains-append_left (variables_of s) (variables_of t) x d) (Contains-append_cases (variables_of t) (variables_of s) x c)

-- the numbered pair in either order is numbered as the terms are
numbered_own : (s t : Tree) → numbered (numbered s t).first (numbered s t).second ≡ numbered s t
numbered_own s t = numbered_renamed (place_in (variables_of_pair s t)) s t (numbered_apart s t)

numbered_back : (s t : Tree) → numbered (numbered s t).second (numbered s t).first ≡ numbered t s
numbered_back s t = numbered_renamed (place_in (variables_of_pair s t)) t s (λ x y c d e. numbered_apart s t x y (other_way s t x c) (other_way s t y d) e)

canonical_numbered : (s t : Tree) → canonical (numbered s t).first (numbered s t).second ≡ canonical s t
canonical_numbered s t = ap₂ lesser (numbered_own s t) (numbered_back s t)

-- the sides of a numbered pair differ where the terms do
numbered_differ : (s t : Tree) → tree_eq s t ≡ false → tree_eq (numbered s t).first (numbered s t).second ≡ false
numbered_differ s t h = go (tree_eq (numbered s t).first (numbered s t).second) refl
  where
    D : List ℕ
    D = variables_of_pair s t

    back : ℕ → ℕ
    back n = get_or D n 0

    go : (b : Bool) → tree_eq (numbered s t).first (numbered s t).second ≡ b → tree_eq (numbered s t).first (numbered s t).second ≡ false
    go true e =
        let same : (numbered s t).first ≡ (numbered s t).second = tree_eq-true (numbered s t).first (numbered s t).second e in
        absurd (tree_eq-false s t h (sym (unnumbered s t s (λ x c. Contains-append_left (variables_of s) (variables_of t) x c)) ∙ ap (rename back) same ∙ unnumbered s t t (λ x c. Contains-append_right (variables_of s) (variables_of t) x c)))
    go false e = e

numbered_variables : (s t : Tree) → variables_of_pair (numbered s t).first (numbered s t).second ≡ map (place_in (variables_of_pair s t)) (variables_of_pair s t)
numbered_variables s t =
    let r = place_in (variables_of_pair s t) in
    let vs = variables_of s ++ variables_of t in
    ap distinct (ap₂ (λ xs ys. xs ++ ys) (variables_renamed r s) (variables_renamed r t) ∙ sym (map_append r (variables_of s) (variables_of t))) ∙ distinct_renamed r vs (numbered_apart s t) vs (λ y c. c)

map-length : (f : ℕ → ℕ) (xs : List ℕ) → length (map f xs) ≡ length xs
map-length f [] = refl
map-length f (x ∷ xs) = ap suc (map-length f xs)

pub numbered_few : (s t : Tree) → length (variables_of_pair (numbered s t).first (numbered s t).second) ≡ length (variables_of_pair s t)
numbered_few s t = ap (length {A = ℕ}) (numbered_variables s t) ∙ map-length (place_in (variables_of_pair s t)) (variables_of_pair s t)

own : (s t : Tree) (e : Pair) → (e ≡ numbered s t) → canonical s t ≡ e → tree_eq s t ≡ false → length (variables_of_pair s t) ≤ 64 → IsCanonicalPair e
own s t e h k d f =
    let few : length (variables_of_pair e.first e.second) ≡ length (variables_of_pair s t) = ap (λ p. length (variables_of_pair p.first p.second)) h ∙ numbered_few s t in
    let differ : tree_eq e.first e.second ≡ false = ap (λ p. tree_eq p.first p.second) h ∙ numbered_differ s t d in
    let same : canonical e.first e.second ≡ e = ap (λ p. canonical p.first p.second) h ∙ canonical_numbered s t ∙ k in
    record { own = rw differ (ap Some same); few = omega (arith, few, f) }

-- the canonical pair of two different terms is its own canonical pair
pub canonical_own : (s t : Tree) → tree_eq s t ≡ false → length (variables_of_pair s t) ≤ 64 → IsCanonicalPair (canonical s t)
canonical_own s t d f = go (lesser_cases (numbered s t) (numbered t s))
  where
    turned : tree_eq t s ≡ false
    turned = go' (tree_eq t s) refl
      where
        go' : (b : Bool) → tree_eq t s ≡ b → tree_eq t s ≡ false
        go' true e = absurd (tree_eq-false s t d (sym (tree_eq-true t s e)))
        go' false e = e

    go : (canonical s t ≡ numbered s t) ⊎ (canonical s t ≡ numbered t s) → IsCanonicalPair (canonical s t)
    go (inl e) = own s t (canonical s t) e refl d f
    go (inr e) = own t s (canonical s t) e (lesser_comm (numbered t s) (numbered s t)) turned (omega (arith, f, variables_of_pair-swapped s t))

-- a canonical pair is numbered by its first side, then its second
pub numbered_same : (e : Pair) → IsCanonicalPair e → numbered e.first e.second ≡ e
numbered_same e c = go (tree_eq e.first e.second) refl
  where
    whole : canonical e.first e.second ≡ e → numbered e.first e.second ≡ e
    whole k = by (lesser_cases (numbered e.first e.second) (numbered e.second e.first))
      where
        by : (canonical e.first e.second ≡ numbered e.first e.second) ⊎ (canonical e.first e.second ≡ numbered e.second e.first) → numbered e.first e.second ≡ e
        by (inl h) = sym h ∙ k
        by (inr h) =
            let own : e ≡ numbered e.second e.first = sym k ∙ h in
            ap (λ (p : Pair). numbered p.first p.second) own ∙ numbered_own e.second e.first ∙ sym own

    go : (b : Bool) → tree_eq e.first e.second ≡ b → numbered e.first e.second ≡ e
    go true d = absurd (let h : None ≡ Some e = subst (λ b. cond b None (Some (canonical e.first e.second)) ≡ Some e) d c.own in cc)
    go false d = whole (let h : Some (canonical e.first e.second) ≡ Some e = subst (λ b. cond b None (Some (canonical e.first e.second)) ≡ Some e) d c.own in cc)

-- so its sides make a rule of variables below 64
pub same_below : (e : Pair) (s t : Tree) → IsCanonicalPair e → s ≡ e.first → t ≡ e.second → IsRuleBelow 64 (rule_between s t)
same_below e s t c h k =
    let below : IsRuleBelow 64 (rule_between e.first e.second) = subst (λ (p : Pair). IsRuleBelow 64 (rule_between p.first p.second)) (numbered_same e c) (numbered-below e.first e.second 64 c.few) in
    subst (IsRuleBelow 64) (ap₂ rule_between (sym h) (sym k)) below
