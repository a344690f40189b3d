-- The first redex, argument by argument.
use Rattle.std.proofs.Common.{ℕ, zero, suc, ◌+◌, ◌<◌, ◌≡◌, ◌⊎◌, inl, inr, ⊎_elim, refl, sym, ap, ◌∙◌, arith, subst, List, [], ◌∷◌, ◌++◌, length, get_or, Some, None, append_assoc, Contains}
use Rattle.std.specs.Prelude.{map, Bool, slice_get, reverse, Option}
use Rattle.std.proofs.lemmas.List.{map-append, reverse-append}
use Rattle.std.proofs.lemmas.List.Elements.{Contains-append_cases}
use Rattle.std.proofs.lemmas.Option.{slice_get-get_or, same_Some}
use Rattle.kb_lemmas.proofs.Membership.{contains_mapped}
use Rattle.kb_term.specs.Tree.{Tree, variable, apply, trees_of}
use Rattle.kb_term.specs.Rule.{Rule}
use Rattle.kb_term.specs.Substitution.{Matches}
use Rattle.kb_term.specs.Position.{subtree_at, positions_of, positions_in}
use Rattle.kb_rewrite.specs.NormalForm.{IsFirstRedex, HasNoRedex}
use Rattle.kb_rewrite.specs.Search.{IsRootRedex, IsFirstRule, HasNone, IsFirstAt}
use Rattle.kb_rewrite.proofs.Positions.{subtree-in, subtree-below}

root-first : (t : Tree) → (after : List (List ℕ)) × (positions_of t ≡ [] ∷ after)
root-first (variable n) = ([], refl)
root-first (apply f ts) = (positions_in ts 1, refl)

-- at the root
pub first_root : (P : Tree → ℕ → Type 0) (t : Tree) (i : ℕ) → IsFirstRule (P t) (Some i) → IsFirstAt P t [] i
first_root P t i h = record {
  here = t;
  there = refl;
  first = h;
  before = [];
  after = (root-first t).0;
  in_preorder = (root-first t).1;
  none_before = λ q c. absurd (omega (arith, c.1));
}

pub none_variable : (P : Tree → ℕ → Type 0) (n : ℕ) → ((j : ℕ) → ¬ P (variable n) j) → HasNone P (variable n)
none_variable P n h [] u e j q = h j (subst (λ v. P v j) (sym (same_Some _ _ e)) q)
none_variable P n h (i ∷ p) u e j q = absurd (cc)

pub none_apply : (P : Tree → ℕ → Type 0) (f : ℕ) (us : List Tree) → ((j : ℕ) → ¬ P (apply f (trees_of us)) j) → ((k : ℕ) → k < length us → HasNone P (get_or us k (variable 0))) → HasNone P (apply f (trees_of us))
none_apply P f us h inside [] u e j q = h j (subst (λ v. P v j) (sym (same_Some _ _ e)) q)
none_apply P f us h inside (i ∷ p) u e j q =
    let r = subtree-below f us i p u e in
    inside r.0 r.1 p u r.3 j q

-- the positions of the arguments before a position in the argument k
abbrev Split : List Tree → ℕ → ℕ → List ℕ → List (List ℕ) → Type 0
Split us s k p inner = (before : List (List ℕ)) × (after : List (List ℕ)) × (positions_in (trees_of us) s ≡ before ++ ((s + k) ∷ p) ∷ after) × ((q : List ℕ) → Contains before q → (j : ℕ) × (r : List ℕ) × (q ≡ (s + j) ∷ r) × ((j < k) ⊎ ((j ≡ k) × Contains inner r)))

split : (us : List Tree) (s k : ℕ) (p : List ℕ) (inner outer : List (List ℕ)) → k < length us → positions_of (get_or us k (variable 0)) ≡ inner ++ p ∷ outer → Split us s k p inner
split [] s k p inner outer h e = absurd (omega (arith, h))
split (u ∷ us) s zero p inner outer h e =
    let same : s ≡ s + 0 = omega arith in (
      map (s ∷◌) inner,
      map (s ∷◌) outer ++ positions_in (trees_of us) (suc s),
      ap (λ ps. map (s ∷◌) ps ++ positions_in (trees_of us) (suc s)) e ∙ ap (λ ps. ps ++ positions_in (trees_of us) (suc s)) (map-append (s ∷◌) inner (p ∷ outer)) ∙ append_assoc (map (s ∷◌) inner) ((s ∷ p) ∷ map (s ∷◌) outer) (positions_in (trees_of us) (suc s)) ∙ ap (λ n. map (s ∷◌) inner ++ (n ∷ p) ∷ (map (s ∷◌) outer ++ positions_in (trees_of us) (suc s))) same,
      λ q c. let m = contains_mapped (s ∷◌) inner q c in (0, m.0, sym m.2 ∙ ap (λ n. n ∷ m.0) same, inr (refl, m.1)),
    )
split (u ∷ us) s (suc k) p inner outer h e =
    let r = split us (suc s) k p inner outer (omega (arith, h)) e in
    let next : suc s + k ≡ s + suc k = omega arith in (
      map (s ∷◌) (positions_of u) ++ r.0,
      r.1,
      ap (λ ps. map (s ∷◌) (positions_of u) ++ ps) (r.2 ∙ ap (λ n. r.0 ++ (n ∷ p) ∷ r.1) next) ∙ sym (append_assoc (map (s ∷◌) (positions_of u)) r.0 (((s + suc k) ∷ p) ∷ r.1)),
      λ q c. ⊎_elim (in-first q) (λ d. in-later q (r.3 q d)) (Contains-append_cases (map (s ∷◌) (positions_of u)) r.0 q c),
    )
  where
    in-first : (q : List ℕ) → Contains (map (s ∷◌) (positions_of u)) q → (j : ℕ) × (r : List ℕ) × (q ≡ (s + j) ∷ r) × ((j < suc k) ⊎ ((j ≡ suc k) × Contains inner r))
    in-first q c =
        let m = contains_mapped (s ∷◌) (positions_of u) q c in
        let same : s ≡ s + 0 = omega arith in
        (0, m.0, sym m.2 ∙ ap (λ n. n ∷ m.0) same, inl (omega arith))

    in-later : (q : List ℕ) → ((j : ℕ) × (r : List ℕ) × (q ≡ (suc s + j) ∷ r) × ((j < k) ⊎ ((j ≡ k) × Contains inner r))) → (j : ℕ) × (r : List ℕ) × (q ≡ (s + j) ∷ r) × ((j < suc k) ⊎ ((j ≡ suc k) × Contains inner r))
    in-later q (j, r, d, w) =
        let next : suc s + j ≡ s + suc j = omega arith in
        (suc j, r, d ∙ ap (λ n. n ∷ r) next, ⊎_elim (λ l. inl (omega (arith, l))) (λ l. inr (ap suc l.0, l.1)) w)

-- in an argument, with nothing at the root and in the arguments before
pub first_in : (P : Tree → ℕ → Type 0) (f : ℕ) (us : List Tree) (k : ℕ) (p : List ℕ) (i : ℕ) → k < length us → ((j : ℕ) → ¬ P (apply f (trees_of us)) j) → ((j : ℕ) → j < k → HasNone P (get_or us j (variable 0)))
    → IsFirstAt P (get_or us k (variable 0)) p i → IsFirstAt P (apply f (trees_of us)) (suc k ∷ p) i
first_in P f us k p i h root earlier at =
    let s = split us 1 k p at.before at.after h at.in_preorder in
    let number : 1 + k ≡ suc k = omega arith in
    record {
      here = at.here;
      there = subtree-in f us k p h ∙ at.there;
      first = at.first;
      before = [] ∷ s.0;
      after = s.1;
      in_preorder = ap ([] ∷◌) (s.2 ∙ ap (λ n. s.0 ++ (n ∷ p) ∷ s.1) number);
      none_before = λ q c u e j. none s.0 q c u e j s.3;
    }
  where
    none : (b : List (List ℕ)) (q : List ℕ) → Contains ([] ∷ b) q → (u : Tree) → subtree_at (apply f (trees_of us)) q ≡ Some u → (j : ℕ) → ((q : List ℕ) → Contains b q → (j : ℕ) × (r : List ℕ) × (q ≡ (1 + j) ∷ r) × ((j < k) ⊎ ((j ≡ k) × Contains at.before r))) → ¬ P u j
    none b q (zero, c, d) u e j s w = root j (subst (λ v. P v j) (sym (same_Some _ _ (ap (subtree_at (apply f (trees_of us))) d ∙ e))) w)
    none b q (suc m, c, d) u e j s w =
        let r = s q (m, omega (arith, c), d) in
        let number : 1 + r.0 ≡ suc r.0 = omega arith in
        let place : q ≡ suc r.0 ∷ r.1 = r.2 ∙ ap (λ n. n ∷ r.1) number in
        let room : r.0 < length us = ⊎_elim (λ l. omega (arith, l, h)) (λ l. omega (arith, l.0, h)) r.3 in
        let there : subtree_at (get_or us r.0 (variable 0)) r.1 ≡ Some u = sym (subtree-in f us r.0 r.1 room) ∙ ap (subtree_at (apply f (trees_of us))) (sym place) ∙ e in
        ⊎_elim (λ l. earlier r.0 l r.1 u there j w) (λ l. at.none_before r.1 l.1 u (subst (λ n. subtree_at (get_or us n (variable 0)) r.1 ≡ Some u) l.0 there) j w) r.3

-- in the words of redexes
pub first_redex_from : (rules : List Rule) (strict_only : Bool) (t : Tree) (p : List ℕ) (i : ℕ) → IsFirstAt (IsRootRedex rules strict_only t) t p i → IsFirstRedex rules strict_only t p i
first_redex_from rules strict_only t p i h =
    let a = h.first.0 in
    record {
      redex = record { rule = a.0; there = a.1; matches = (h.here, h.there, a.2.0); strict = a.2.1 };
      before = h.before;
      after = h.after;
      in_preorder = h.in_preorder;
      none_before = λ q j c r. h.none_before q c r.matches.0 r.matches.1 j (r.rule, r.there, (r.matches.2, r.strict));
      first_rule = λ j d r. h.first.1 j d (r.rule, r.there, (subst (Matches r.rule.left) (same_Some _ _ (sym r.matches.1 ∙ h.there)) r.matches.2, r.strict));
    }

pub no_redex_from : (rules : List Rule) (strict_only : Bool) (t : Tree) → HasNone (IsRootRedex rules strict_only t) t → HasNoRedex rules strict_only t
no_redex_from rules strict_only t h p i r = h p r.matches.0 r.matches.1 i (r.rule, r.there, (r.matches.2, r.strict))

-- the rule with a number
pub rule_at : (rules : List Rule) (i : ℕ) (rule other : Rule) → i < length rules → rule ≡ get_or rules i rule → slice_get rules i ≡ Some other → other ≡ rule
rule_at rules i rule other h is e = same_Some _ _ (sym e ∙ slice_get-get_or rules i rule h) ∙ sym is

pub rule_there : (rules : List Rule) (i : ℕ) (rule : Rule) → i < length rules → rule ≡ get_or rules i rule → slice_get rules i ≡ Some rule
rule_there rules i rule h is = slice_get-get_or rules i rule h ∙ ap Some (sym is)

pub rule_inside : (rules : List Rule) (i : ℕ) (rule : Rule) → slice_get rules i ≡ Some rule → i < length rules
rule_inside [] i rule e = absurd (cc)
rule_inside (r ∷ rules) zero rule e = omega arith
rule_inside (r ∷ rules) (suc i) rule e = omega (arith, rule_inside rules i rule e)

-- a tuple that a search gave
pub reverse_push : (steps new : List ℕ) (k : ℕ) → new ≡ steps ++ (k + 1) ∷ [] → reverse new ≡ suc k ∷ reverse steps
reverse_push steps new k e =
    let next : k + 1 ≡ suc k = omega arith in
    ap reverse e ∙ reverse-append steps ((k + 1) ∷ []) ∙ ap (λ n. n ∷ reverse steps) next

pub first_same : (P : Tree → ℕ → Type 0) {t u : Tree} {p q : List ℕ} (i : ℕ) → t ≡ u → p ≡ q → IsFirstAt P t p i → IsFirstAt P u q i
first_same P {t} {u} {p} {q} i d e h = subst (λ v. IsFirstAt P v q i) d (subst (λ r. IsFirstAt P t r i) e h)

pub none_same : (P : Tree → ℕ → Type 0) {t u : Tree} → t ≡ u → HasNone P t → HasNone P u
none_same P e h = subst (HasNone P) e h

-- no rule applies to the term, nor to an equal one
pub none_applies : (rules : List Rule) (strict_only : Bool) (whole : Tree) {t u : Tree} {o : Option ℕ} → t ≡ u → o ≡ None → IsFirstRule (IsRootRedex rules strict_only whole t) o → (j : ℕ) → ¬ IsRootRedex rules strict_only whole u j
none_applies rules strict_only whole {t} {u} {o} d e h = subst (λ v. (j : ℕ) → ¬ IsRootRedex rules strict_only whole v j) d (subst (IsFirstRule (IsRootRedex rules strict_only whole t)) e h)
