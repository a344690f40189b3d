-- The forms of positions and pairs that a step of a trace has.
use Rattle.std.proofs.Common.{ℕ, zero, suc, ◌+◌, ◌≤◌, ◌≡◌, ◌⊎◌, ◌∙◌, refl, sym, ap, subst, arith, List, [], ◌∷◌, length, get_or, All, Bool, true, false, cond, Option, Some, None, slice_get, ⊎_elim}
use Rattle.std.specs.Prelude.{option_map, option_and_then}
use Rattle.std.specs.List.{list_all}
use Rattle.std.proofs.lemmas.List.Elements.{All-contains, Contains-append_left, Contains-append_right}
use Rattle.std.proofs.lemmas.Bool.{and_from}
use Rattle.kb_lemmas.proofs.Options.{none_some, some_is}
use Rattle.kb_lemmas.proofs.Membership.{contains_cases, contains_first, slice_contains}
use Rattle.kb_term.specs.Tree.{Tree, Trees, variable, apply, no_trees, more_trees, list_of, variables_of, tree_eq, tree_depth, trees_depth}
use Rattle.kb_term.specs.Position.{argument, subtree_at}
use Rattle.kb_term.specs.Substitution.{instance, rename}
use Rattle.kb_term.specs.Pair.{Pair, place_in, variables_of_pair, numbered, canonical, canonical_pair}
use Rattle.kb_term.specs.Rule.{Rule, rule_between, IsVariantRule}
use Rattle.kb_term.specs.Signature.{SymbolEntry, Signature, HasArity, IsWellFormed, AreWellFormed, IsRuleOver, IsTermWithinLimits, IsEquationWithinLimits}
use Rattle.kb_term.proofs.Limited.{limit-none}
use Rattle.kb_term.proofs.CanonicalPairs.{lesser_cases}
use Rattle.kb_term.proofs.OwnPair.{tree_eq-true, canonical_own}
use Rattle.kb_term.proofs.Variants.{unnumbered}
use Rattle.kb_overlap.proofs.Extents.{same_term_limit}
use Rattle.kb_text.specs.Terms.{IsPairForm}
use Rattle.kb_trace.specs.TraceText.{is_up_to, is_position}
use Rattle.kb_trace.proofs.StepForms.{is_up_to-true, is_position-true}
use Rattle.kb_laws.proofs.Complete.{has_over}
use Rattle.kb_reduce.proofs.Numbering.{within_term}

-- ---- positions

arity_is : (o : Option SymbolEntry) (n : ℕ) → option_map (λ (f : SymbolEntry). f.arity) o ≡ Some n → (f : SymbolEntry) × (o ≡ Some f) × (f.arity ≡ n)
arity_is None n e = absurd (cc)
arity_is (Some f) n e = (f, refl, cc)

arity_most : (g : Signature) → All (λ (f : SymbolEntry). f.arity ≤ 8) g → (f n : ℕ) → HasArity g f n → n ≤ 8
arity_most g h f n a =
    let e = arity_is (slice_get g f) n a in
    let most : e.0.arity ≤ 8 = All-contains (λ (s : SymbolEntry). s.arity ≤ 8) g e.0 h (slice_contains g f e.0 e.1) in
    omega (arith, most, e.2)

argument_is : (g : Signature) (ts : Trees) (i : ℕ) (t : Tree) → argument ts i ≡ Some t → (1 ≤ i) × (i ≤ length (list_of ts)) × (tree_depth t ≤ trees_depth ts) × (AreWellFormed g ts → IsWellFormed g t)
argument_is g ts zero t e = none_some e
argument_is g no_trees (suc i) t e = none_some e
argument_is g (more_trees u ts) (suc zero) t e = (omega arith, omega arith, omega (arith, ap tree_depth (some_is e)), λ w. subst (IsWellFormed g) (some_is e) w.0)
argument_is g (more_trees u ts) (suc (suc i)) t e = let r = argument_is g ts (suc i) t e in (omega arith, omega (arith, r.1), omega (arith, r.2), λ w. r.3 w.1)

depth_least : (t : Tree) → 1 ≤ tree_depth t
depth_least (variable n) = omega arith
depth_least (apply f ts) = omega arith

position_is : (g : Signature) → All (λ (f : SymbolEntry). f.arity ≤ 8) g → (p : List ℕ) (t u : Tree) → IsWellFormed g t → subtree_at t p ≡ Some u → (length p + 1 ≤ tree_depth t) × (list_all (is_up_to 8) p ≡ true)
position_is g h [] t u w e = (omega (arith, depth_least t), refl)
position_is g h (i ∷ p) (variable n) u w e = none_some e
position_is g h (i ∷ p) (apply f ts) u w e = go (λ v k. position_is g h p v u k) (argument ts i) refl e
  where
    go : ((v : Tree) → IsWellFormed g v → subtree_at v p ≡ Some u → (length p + 1 ≤ tree_depth v) × (list_all (is_up_to 8) p ≡ true)) → (o : Option Tree) → argument ts i ≡ o → option_and_then (λ v. subtree_at v p) o ≡ Some u
        → (length (i ∷ p) + 1 ≤ tree_depth (apply f ts)) × (list_all (is_up_to 8) (i ∷ p) ≡ true)
    go ih None a k = none_some k
    go ih (Some v) a k =
        let r = argument_is g ts i v a in
        let m = arity_most g h f (length (list_of ts)) w.0 in
        let s = ih v (r.3 w.1) k in
        (omega (arith, s.0, r.2), and_from (is_up_to 8 i) (list_all (is_up_to 8) p) (is_up_to-true 8 i r.0 (omega (arith, r.1, m))) s.1)

-- a position of a term within the limits has at most 63 argument numbers, from 1 to 8
pub position_form : (g : Signature) → All (λ (f : SymbolEntry). f.arity ≤ 8) g → (p : List ℕ) (t u : Tree) → IsTermWithinLimits g t → subtree_at t p ≡ Some u → is_position p ≡ true
position_form g h p t u w e = let r = position_is g h p t u w.well_formed e in is_position-true p (omega (arith, r.0, w.depth)) r.1

-- ---- pairs

pub trees_differ : (s t : Tree) → ¬ (s ≡ t) → tree_eq s t ≡ false
trees_differ s t n = go (tree_eq s t) refl
  where
    go : (b : Bool) → tree_eq s t ≡ b → b ≡ false
    go true e = absurd (n (tree_eq-true s t e))
    go false e = refl

-- a term with other names for its variables is within the limits
renamed_within : (g : Signature) (d e : ℕ → Tree) (t : Tree) → IsTermWithinLimits g t → IsWellFormed g (instance d t) → instance e (instance d t) ≡ t → IsTermWithinLimits g (instance d t)
renamed_within g d e t w well back =
    let k = within_term (instance d t) (sym (same_term_limit d e t t (instance d t) (instance d t) refl back refl back) ∙ limit-none t w.size w.depth) in
    record { well_formed = well; size = k.size; depth = k.depth }

-- the canonical pair of a rule within the limits has the form of a step's pair
pub pair_form : (g : Signature) (l u : Tree) → IsRuleOver g (rule_between l u) → IsEquationWithinLimits g (l, u) → ¬ (l ≡ u) → IsPairForm g (canonical l u)
pair_form g l u over w n = go (lesser_cases (numbered l u) (numbered u l))
  where
    f : ℕ → ℕ
    f = place_in (variables_of_pair u l)

    f-back : ℕ → ℕ
    f-back x = get_or (variables_of_pair u l) x 0

    left : rename f-back (rename f l) ≡ l
    left = unnumbered u l l (λ x c. Contains-append_right (variables_of u) (variables_of l) x c)

    right : rename f-back (rename f u) ≡ u
    right = unnumbered u l u (λ x c. Contains-append_left (variables_of u) (variables_of l) x c)

    renamed : Rule
    renamed = rule_between (rename f l) (rename f u)

    variant : IsVariantRule (rule_between l u) renamed
    variant = (f, f-back, record { there = refl; back_again = left }, record { there = refl; back_again = right })

    renamed_over : IsRuleOver g renamed
    renamed_over = has_over g (rule_between l u ∷ []) (λ q i. ⊎_elim (λ e. subst {A = Rule} (IsRuleOver g) e over) (λ k. absurd (omega (arith, k.1))) (contains_cases (rule_between l u) [] q i)) renamed (rule_between l u, contains_first (rule_between l u) [], variant)

    from : (e : Pair) → canonical l u ≡ e → IsTermWithinLimits g e.first → IsTermWithinLimits g e.second → IsPairForm g (canonical l u)
    from e is a b =
        let own = canonical_own l u (trees_differ l u n) w.variables in
        record {
          first = subst (λ (p : Pair). IsTermWithinLimits g p.first) (sym is) a;
          second = subst (λ (p : Pair). IsTermWithinLimits g p.second) (sym is) b;
          variables = own.few;
          canonical = own.own;
        }

    go : (canonical l u ≡ numbered l u) ⊎ (canonical l u ≡ numbered u l) → IsPairForm g (canonical l u)
    go q = ⊎_elim
        (λ e. from (record { first = l; second = u }) (e ∙ w.by_occurrence) w.left w.right)
        (λ e. from (numbered u l) e (renamed_within g (λ x. variable (f x)) (λ x. variable (f-back x)) u w.right renamed_over.right right) (renamed_within g (λ x. variable (f x)) (λ x. variable (f-back x)) l w.left renamed_over.left left))
        q

-- two different terms have a canonical pair
pub differ_some : (s t : Tree) → ¬ (s ≡ t) → ¬ (canonical_pair s t ≡ None)
differ_some s t n e = let k : Some (canonical s t) ≡ None = sym (ap (λ b. cond b None (Some (canonical s t))) (trees_differ s t n)) ∙ e in absurd (cc)
