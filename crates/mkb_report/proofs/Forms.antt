-- The parts of an answer that is made from nodes within the limits have the forms of an answer's parts.
use Rattle.std.proofs.Common.{ℕ, zero, suc, ◌+◌, ◌≤◌, ◌≡◌, ◌∙◌, refl, sym, ap, subst, arith, ◌&&◌, List, [], ◌∷◌, length, All, Contains, Bool, true, false, cond, Option, Some, None, slice_get}
use Rattle.std.specs.Prelude.{nat_le, option_and_then}
use Rattle.std.specs.List.{list_all}
use Rattle.std.proofs.lemmas.Option.{slice_get_within}
use Rattle.std.proofs.lemmas.List.Elements.{All-contains}
use Rattle.std.proofs.lemmas.Bool.{le-leb, and_from}
use Rattle.kb_lemmas.proofs.Membership.{contains_first, contains_behind, slice_contains}
use Rattle.kb_lemmas.proofs.Options.{none_some, some_is, some_of_map}
use Rattle.kb_term.specs.Tree.{Tree, Trees, variable, apply, no_trees, more_trees, list_of, tree_eq, tree_depth, trees_depth}
use Rattle.kb_term.specs.Position.{argument, subtree_at}
use Rattle.kb_term.specs.Substitution.{instances, rename}
use Rattle.kb_term.specs.Pair.{Pair, IsCanonical, IsTrivial, ArePairWithin, numbered, canonical, place_in, variables_of_pair}
use Rattle.kb_term.specs.Rule.{rule_of, pair_of_rule}
use Rattle.kb_term.specs.Signature.{SymbolEntry, Signature, HasArity, IsWellFormed, AreWellFormed, IsEquationWithinLimits}
use Rattle.kb_term.specs.declared.origin.RuleRef.{RuleRef}
use Rattle.kb_term.specs.declared.origin.Origin.{Origin}
use Rattle.kb_term.specs.declared.origin.Origin.TheVariants.{Input, Rewrite, Overlap}
use Rattle.kb_term.proofs.CanonicalPairs.{canonical_from_same}
use Rattle.kb_term.proofs.OwnPair.{tree_eq-true, numbered_apart}
use Rattle.kb_term.proofs.Variants.{numbered_renamed}
use Rattle.kb_overlap.specs.Trace.{item, side, IsRightOrigin}
use Rattle.kb_text.specs.Terms.{IsPairForm}
use Rattle.kb_trace.specs.Reached.{cites, with_numbers}
use Rattle.kb_trace.specs.TraceText.{is_up_to, is_position, is_cited, is_origin}
use Rattle.kb_trace.proofs.StepForms.{IsUpTo, is_up_to-true}
use Rattle.kb_laws.proofs.Cleaning.{length-instances}
use Rattle.kb_laws.proofs.LoneRule.{rule_same}
use Rattle.kb_checker.specs.Answers.{IsRuleForm}
use Rattle.mkb_model.specs.Limits.{IsLimitedPair}
use Rattle.mkb_model.proofs.nodes.Sizes.{numbered_within, turned}

-- ---- positions

arity_most : (g : Signature) → All (λ (f : SymbolEntry). f.arity ≤ 8) g → (f n : ℕ) → HasArity g f n → n ≤ 8
arity_most g h f n a =
    let e = some_of_map (λ (s : SymbolEntry). s.arity) (slice_get g f) n a in
    let most : e.0.arity ≤ 8 = All-contains (λ (s : SymbolEntry). s.arity ≤ 8) g e.0 h (slice_contains g f e.0 e.1) in
    omega (arith, most, e.2)

argument_is : (g : Signature) (ts : Trees) (i : ℕ) (t : Tree) → argument ts i ≡ Some t → (1 ≤ i) × (i ≤ length (list_of ts)) × (tree_depth t ≤ trees_depth ts) × (AreWellFormed g ts → IsWellFormed g t)
argument_is g ts zero t e = none_some e
argument_is g no_trees (suc i) t e = none_some e
argument_is g (more_trees u ts) (suc zero) t e = (omega arith, omega arith, omega (arith, ap tree_depth (some_is e)), λ w. subst (IsWellFormed g) (some_is e) w.0)
argument_is g (more_trees u ts) (suc (suc i)) t e = let r = argument_is g ts (suc i) t e in (omega arith, omega (arith, r.1), omega (arith, r.2), λ w. r.3 w.1)

depth_least : (t : Tree) → 1 ≤ tree_depth t
depth_least (variable n) = omega arith
depth_least (apply f ts) = omega arith

position_is : (g : Signature) → All (λ (f : SymbolEntry). f.arity ≤ 8) g → (p : List ℕ) (t u : Tree) → IsWellFormed g t → subtree_at t p ≡ Some u → (length p + 1 ≤ tree_depth t) × (list_all (is_up_to 8) p ≡ true)
position_is g h [] t u w e = (omega (arith, depth_least t), refl)
position_is g h (i ∷ p) (variable n) u w e = none_some e
position_is g h (i ∷ p) (apply f ts) u w e = go (λ v k. position_is g h p v u k) (argument ts i) refl e
  where
    go : ((v : Tree) → IsWellFormed g v → subtree_at v p ≡ Some u → (length p + 1 ≤ tree_depth v) × (list_all (is_up_to 8) p ≡ true)) → (o : Option Tree) → argument ts i ≡ o → option_and_then (λ v. subtree_at v p) o ≡ Some u
        → (length (i ∷ p) + 1 ≤ tree_depth (apply f ts)) × (list_all (is_up_to 8) (i ∷ p) ≡ true)
    go ih None a k = none_some k
    go ih (Some v) a k =
        let r = argument_is g ts i v a in
        let m = arity_most g h f (length (list_of ts)) w.0 in
        let s = ih v (r.3 w.1) k in
        (omega (arith, s.0, r.2), and_from (is_up_to 8 i) (list_all (is_up_to 8) p) (is_up_to-true 8 i r.0 (omega (arith, r.1, m))) s.1)

-- a position of a term within the limits has at most 63 argument numbers, from 1 to 8
position_form : (g : Signature) → All (λ (f : SymbolEntry). f.arity ≤ 8) g → (p : List ℕ) (t u : Tree) → IsWellFormed g t → tree_depth t ≤ 64 → subtree_at t p ≡ Some u → is_position p ≡ true
position_form g h p t u w d e = let r = position_is g h p t u w e in and_from (nat_le (length p) 63) (list_all (is_up_to 8) p) (le-leb (length p) 63 (omega (arith, r.0, d))) r.1

-- ---- sides and rules of pairs

mutual
  well_renamed : (g : Signature) (f : ℕ → ℕ) (t : Tree) → IsWellFormed g t → IsWellFormed g (rename f t)
  well_renamed g f (variable n) w = tt
  well_renamed g f (apply h ts) w = (subst (HasArity g h) (sym (length-instances (λ x. variable (f x)) ts)) w.0, wells_renamed g f ts w.1)

  wells_renamed : (g : Signature) (f : ℕ → ℕ) (ts : Trees) → AreWellFormed g ts → AreWellFormed g (instances (λ x. variable (f x)) ts)
  wells_renamed g f no_trees w = tt
  wells_renamed g f (more_trees t ts) w = (well_renamed g f t w.0, wells_renamed g f ts w.1)

module _ (g : Signature) where
  side_limited : (q : Pair) (w : ℕ) → IsLimitedPair g q → IsWellFormed g (side q w) × (tree_depth (side q w) ≤ 64)
  side_limited q zero l = (l.first, l.within.first.depth)
  side_limited q (suc w) l = (l.second, l.within.second.depth)

  numbered_limited : (s t : Tree) → IsWellFormed g s → IsWellFormed g t → ArePairWithin s t → IsEquationWithinLimits g ((numbered s t).first, (numbered s t).second)
  numbered_limited s t ws wt l =
      let f = place_in (variables_of_pair s t) in
      let k = numbered_within s t l in
      record {
        left = record { well_formed = well_renamed g f s ws; size = k.first.size; depth = k.first.depth };
        right = record { well_formed = well_renamed g f t wt; size = k.second.size; depth = k.second.depth };
        variables = k.few;
        by_occurrence = numbered_renamed f s t (numbered_apart s t);
      }

  -- the rule of a pair within the limits is within them, and numbered by first occurrence
  pub rule_limited : (q : Pair) (d : ℕ) → IsLimitedPair g q → IsEquationWithinLimits g ((rule_of q d).left, (rule_of q d).right)
  rule_limited q zero l = numbered_limited q.first q.second l.first l.second l.within
  rule_limited q (suc d) l = numbered_limited q.second q.first l.second l.first (turned q.first q.second l.within)

  pub rule_form : (q : Pair) (d k : ℕ) → IsLimitedPair g q → IsUpTo 4096 k → IsRuleForm g (rule_of q d, k)
  rule_form q d k l n = record { sides = rule_limited q d l; cited = is_up_to-true 4096 k n.low n.high }

  -- a canonical pair within the limits that isn't trivial has the form of a step's pair
  pub pair_form : (q : Pair) → IsLimitedPair g q → IsCanonical q → ¬ IsTrivial q → IsPairForm g q
  pair_form q l c n = record {
    first = record { well_formed = l.first; size = l.within.first.size; depth = l.within.first.depth };
    second = record { well_formed = l.second; size = l.within.second.size; depth = l.within.second.depth };
    variables = l.within.few;
    canonical = go (tree_eq q.first q.second) refl;
  }
    where
      go : (b : Bool) → tree_eq q.first q.second ≡ b → cond b None (Some (canonical q.first q.second)) ≡ Some q
      go true e = absurd (n (tree_eq-true q.first q.second e))
      go false e = ap Some c

-- the canonical pair of a rule of a canonical pair is that pair
pub rule_pair : (q : Pair) (d : ℕ) → IsCanonical q → pair_of_rule (rule_of q d) ≡ q
rule_pair q d c = sym (canonical_from_same q.first q.second (rule_of q d).left (rule_of q d).right (rule_same q d)) ∙ c

-- ---- origins

item_within : {X : Type 0} (xs : List X) (i : ℕ) (x : X) → item xs i ≡ Some x → (1 ≤ i) × (i ≤ length xs)
item_within xs zero x e = none_some e
item_within xs (suc i) x e = (omega arith, omega (arith, slice_get_within xs i x e))

cited_form : (r : RuleRef) → IsUpTo 4096 r.node → r.dir ≤ 1 → is_cited r ≡ true
cited_form r n d = and_from (is_up_to 4096 r.node) (nat_le r.dir 1) (is_up_to-true 4096 r.node n.low n.high) (le-leb r.dir 1 d)

-- a right origin of nodes within the limits has the form of a step's origin, where what it cites has numbers from 1 to 4,096
pub origin_form : (es : List (Tree × Tree)) (g : Signature) → length es ≤ 256 → All (λ (f : SymbolEntry). f.arity ≤ 8) g → (e : ℕ → Option Pair) → ((m : ℕ) (q : Pair) → e m ≡ Some q → IsLimitedPair g q) → (f : ℕ → ℕ)
    → (o : Origin) (q : Pair) → IsRightOrigin es e o q → ((m : ℕ) → Contains (cites o) m → IsUpTo 4096 (f m)) → is_origin (with_numbers f o) ≡ true
origin_form es g few arities e limited f (Input i) q (form, r) cited = let k = item_within es i r.0 r.1 in is_up_to-true 256 i k.0 (omega (arith, k.1, few))
origin_form es g few arities e limited f (Rewrite a w p b) q (form, r) cited =
    let first = cited a (contains_first a (b.node ∷ [])) in
    let second = cited b.node (contains_behind a (b.node ∷ []) b.node (contains_first b.node [])) in
    let s = side_limited g r.0 w (limited a r.0 r.2) in
    let rule : RuleRef = record { node = f b.node; dir = b.dir } in
    and_from (is_up_to 4096 (f a) && nat_le w 1 && is_position p) (is_cited rule)
    (and_from (is_up_to 4096 (f a) && nat_le w 1) (is_position p)
    (and_from (is_up_to 4096 (f a)) (nat_le w 1) (is_up_to-true 4096 (f a) first.low first.high) (le-leb w 1 form.0))
    (position_form g arities p (side r.0 w) _ s.0 s.1 r.4.rewrites.1.redex))
    (cited_form rule second form.1)
origin_form es g few arities e limited f (Overlap a b p) q (form, r) cited =
    let outer : RuleRef = record { node = f a.node; dir = a.dir } in
    let inner : RuleRef = record { node = f b.node; dir = b.dir } in
    let l = (rule_limited g r.0 a.dir (limited a.node r.0 r.2)).left in
    and_from (is_cited outer && is_cited inner) (is_position p)
    (and_from (is_cited outer) (is_cited inner)
    (cited_form outer (cited a.node (contains_first a.node (b.node ∷ []))) form.0)
    (cited_form inner (cited b.node (contains_behind a.node (b.node ∷ []) b.node (contains_first b.node []))) form.1))
    (position_form g arities p (rule_of r.0 a.dir).left r.4.overlap.overlaps.subterm l.well_formed l.depth r.4.overlap.overlaps.there)
