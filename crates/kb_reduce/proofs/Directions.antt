-- The direction in which a rule reads its canonical pair, and how its right side is rewritten there.
use Rattle.std.proofs.Common.{ℕ, zero, suc, ◌-◌, ◌≡◌, ◌≤◌, ◌⊎◌, inl, inr, refl, sym, ap, ◌∙◌, subst, arith, List, ◌++◌, length, get_or, Contains, Bool, true, false, cond, Some, None, ⊎_elim}
use Rattle.std.proofs.lemmas.List.{length-map}
use Rattle.std.proofs.lemmas.Option.{slice_get_within, same_Some}
use Rattle.std.proofs.lemmas.List.Elements.{Contains-append_cases, Contains-append_left, Contains-append_right}
use Rattle.kb_lemmas.proofs.Booleans.{is_equal}
use Rattle.kb_term.specs.Tree.{Tree, variable, variables_of, tree_eq}
use Rattle.kb_term.specs.Substitution.{rename}
use Rattle.kb_term.specs.Pair.{Pair, pair_cmp, place_in, variables_of_pair, numbered, canonical, canonical_pair}
use Rattle.kb_term.specs.Rule.{Rule, IsRule, rule_between, rule_of, pair_of_rule}
use Rattle.kb_term.specs.Proving.{RewritesAt}
use Rattle.kb_term.specs.TermOrder.{pair_eq, tree_cmp-same}
use Rattle.kb_term.proofs.CanonicalPairs.{pair_equal, lesser_cases, lesser_comm, canonical_from_same}
use Rattle.kb_term.proofs.OwnPair.{numbered_apart, tree_eq-true}
use Rattle.kb_term.proofs.Variants.{numbered_renamed, unnumbered}
use Rattle.kb_overlap.specs.Trace.{TraceStep, item, IsRightRewrite}
use Rattle.kb_trace.specs.Steps.{pairs_of}
use Rattle.kb_checker.specs.Answers.{IsTraced}
use Rattle.kb_checker.proofs.Citing.{cited_pair}
use Rattle.kb_laws.proofs.Renamings.{rewrites_instance}
use Rattle.kb_reduce.specs.Reducing.{direction_of}
use Rattle.kb_reduce.proofs.Numbering.{Holds}

pub pair_eq-same : (d e : Pair) → pair_eq d e ≡ true → d ≡ e
pair_eq-same d e h = pair_equal d e (is_equal (pair_cmp d e) h)

pub pair_eq-itself : (d : Pair) → pair_eq d d ≡ true
pair_eq-itself d = rw (tree_cmp-same d.first, tree_cmp-same d.second) refl

pub item_within : {X : Type 0} (xs : List X) (i : ℕ) (x : X) → item xs i ≡ Some x → (1 ≤ i) × (i ≤ length xs)
item_within xs zero x e = absurd (cc)
item_within xs (suc i) x e = (omega arith, omega (arith, slice_get_within xs i x e))

-- the pair of a rule's sides as they stand
abbrev pub pair_with : Rule → Pair
pair_with r = record { first = r.left; second = r.right }

-- the sides of the rule are numbered by first occurrence
abbrev pub IsNumbered : Rule → Type 0
IsNumbered r = numbered r.left r.right ≡ pair_with r

pub direction_forth : (r : Rule) → pair_of_rule r ≡ pair_with r → direction_of r ≡ 0
direction_forth r e = ap (λ b. cond b 0 1) (ap (λ p. pair_eq p (pair_with r)) e ∙ pair_eq-itself (pair_with r))

pub direction_back : (r : Rule) → ¬ (pair_of_rule r ≡ pair_with r) → direction_of r ≡ 1
direction_back r n = go (pair_eq (pair_of_rule r) (pair_with r)) refl
  where
    go : (b : Bool) → pair_eq (pair_of_rule r) (pair_with r) ≡ b → direction_of r ≡ 1
    go true e = absurd (n (pair_eq-same (pair_of_rule r) (pair_with r) e))
    go false e = ap (λ b. cond b 0 1) e

-- the pair has the left side first, or it is numbered from the right side on
pub direction_cases : (r : Rule) → IsNumbered r → ((direction_of r ≡ 0) × (pair_of_rule r ≡ pair_with r)) ⊎ ((direction_of r ≡ 1) × (pair_of_rule r ≡ numbered r.right r.left))
direction_cases r h = go (pair_eq (pair_of_rule r) (pair_with r)) refl
  where
    go : (b : Bool) → pair_eq (pair_of_rule r) (pair_with r) ≡ b → ((direction_of r ≡ 0) × (pair_of_rule r ≡ pair_with r)) ⊎ ((direction_of r ≡ 1) × (pair_of_rule r ≡ numbered r.right r.left))
    go true e = inl (ap (λ b. cond b 0 1) e, pair_eq-same (pair_of_rule r) (pair_with r) e)
    go false e =
        ⊎_elim
        (λ q. let clash : true ≡ false = sym (pair_eq-itself (pair_with r)) ∙ ap (λ p. pair_eq p (pair_with r)) (sym (q ∙ h)) ∙ e in absurd (cc))
        (λ q. inr (ap (λ b. cond b 0 1) e, q))
        (lesser_cases (numbered r.left r.right) (numbered r.right r.left))

abbrev bit : Bool → ℕ
bit b = cond b 0 1

bit_small : (b : Bool) → bit b ≤ 1
bit_small true = omega arith
bit_small false = omega arith

-- the direction is a side's number
pub direction_small : (r : Rule) → direction_of r ≤ 1
direction_small r = bit_small (pair_eq (pair_of_rule r) (pair_with r))

swapped : (xs ys : List ℕ) (x : ℕ) → Contains (xs ++ ys) x → Contains (ys ++ xs) x
swapped xs ys x c = ⊎_elim (λ i. Contains-append_right ys xs x i) (λ i. Contains-append_left ys xs x i) (Contains-append_cases xs ys x c)

-- in its direction the rule is the one of its pair
pub rule_back : (r : Rule) → IsNumbered r → rule_of (pair_of_rule r) (direction_of r) ≡ r
rule_back r h = ⊎_elim
    (λ q. ap (rule_of (pair_of_rule r)) q.0 ∙ ap (λ e. rule_of e 0) q.1 ∙ made)
    (λ q. ap (rule_of (pair_of_rule r)) q.0 ∙ ap (λ e. rule_of e 1) q.1 ∙ ap (λ (e : Pair). rule_between e.first e.second) (numbered_renamed (place_in (variables_of_pair r.right r.left)) r.left r.right (λ x y c d e. numbered_apart r.right r.left x y (swapped (variables_of r.left) (variables_of r.right) x c) (swapped (variables_of r.left) (variables_of r.right) y d) e)) ∙ made)
    (direction_cases r h)
  where
    made : rule_between (numbered r.left r.right).first (numbered r.left r.right).second ≡ r
    made = ap (λ (e : Pair). rule_between e.first e.second) h

canon_some : (s t : Tree) (p : Pair) → ¬ (s ≡ t) → canonical s t ≡ p → canonical_pair s t ≡ Some p
canon_some s t p n e = go (tree_eq s t) refl
  where
    go : (b : Bool) → tree_eq s t ≡ b → canonical_pair s t ≡ Some p
    go true h = absurd (n (tree_eq-true s t h))
    go false h = ap (λ b. cond b None (Some (canonical s t))) h ∙ ap Some e

-- where a rule rewrites the right side, it rewrites that side of the pair, and makes the pair of the new rule
pub right_rewrite : (r by : Rule) (p : List ℕ) (u : Tree) → IsNumbered r → IsRule by → RewritesAt by p r.right u → Holds r.left u → ¬ (r.left ≡ u) → IsRightRewrite (pair_of_rule r) (1 - direction_of r) p by (canonical r.left u)
right_rewrite r by p u h rule w held differ = ⊎_elim forth back (direction_cases r h)
  where
    l : Tree
    l = r.left

    s : Tree
    s = r.right

    Right : Pair → ℕ → Type 0
    Right e d = IsRightRewrite e (1 - d) p by (canonical l u)

    forth : (direction_of r ≡ 0) × (pair_of_rule r ≡ pair_with r) → Right (pair_of_rule r) (direction_of r)
    forth q = subst (Right (pair_of_rule r)) (sym q.0) (subst (λ e. Right e 0) (sym q.1) (record {
      is_rule = rule;
      result = u;
      rewrites = w;
      canonical = canon_some u l (canonical l u) (λ e. differ (sym e)) (lesser_comm (numbered u l) (numbered l u));
    }))

    f : ℕ → ℕ
    f = place_in (variables_of_pair s l)

    f-back : ℕ → ℕ
    f-back n = get_or (variables_of_pair s l) n 0

    back_to : (t : Tree) → Holds l t → rename f-back (rename f t) ≡ t
    back_to t k = unnumbered s l t (λ x c. Contains-append_right (variables_of s) (variables_of l) x (k x c))

    back : (direction_of r ≡ 1) × (pair_of_rule r ≡ numbered s l) → Right (pair_of_rule r) (direction_of r)
    back q = subst (Right (pair_of_rule r)) (sym q.0) (subst (λ e. Right e 1) (sym q.1) (record {
      is_rule = rule;
      result = rename f u;
      rewrites = rewrites_instance (λ n. variable (f n)) by p s u w;
      canonical = canon_some (rename f u) (rename f l) (canonical l u)
          (λ e. differ (sym (back_to l (λ n c. c)) ∙ ap (rename f-back) (sym e) ∙ back_to u held))
          (canonical_from_same (rename f u) (rename f l) l u (inr (f-back, f, record { there = back_to u held; back_again = refl }, record { there = back_to l (λ n c. c); back_again = refl })));
    }))

-- the pair of the step that a rule cites is the rule's
pub cited_is : (steps : List TraceStep) (r : Rule × ℕ) (step : TraceStep) → IsTraced steps r → step ≡ get_or steps (r.1 - 1) step → pair_of_rule r.0 ≡ step.pair
cited_is steps r step h is =
    let k = item_within (pairs_of steps) r.1 (pair_of_rule r.0) h in
    let some : ¬ (r.1 ≡ 0) = λ e. omega (arith, e, k.0) in
    same_Some (pair_of_rule r.0) step.pair (sym h ∙ cited_pair steps r.1 step some (omega (arith, k.1, length-map steps (λ (s : TraceStep). s.pair))) is)

-- what the pair of the step that a rule cites says of its direction
pub cited_forth : (steps : List TraceStep) (r : Rule × ℕ) (step : TraceStep) → IsTraced steps r → step ≡ get_or steps (r.1 - 1) step → step.pair ≡ pair_with r.0 → 0 ≡ direction_of r.0
cited_forth steps r step h is e = sym (direction_forth r.0 (cited_is steps r step h is ∙ e))

pub cited_back : (steps : List TraceStep) (r : Rule × ℕ) (step : TraceStep) → IsTraced steps r → step ≡ get_or steps (r.1 - 1) step → ¬ (step.pair ≡ pair_with r.0) → 1 ≡ direction_of r.0
cited_back steps r step h is n = sym (direction_back r.0 (λ e. n (sym (cited_is steps r step h is) ∙ e)))
