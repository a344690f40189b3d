-- The pairs of a right trace are proved by the equations.
use Rattle.std.proofs.Common.{ℕ, zero, suc, ◌≡◌, ◌∙◌, refl, sym, ap, subst, arith, ⊎_elim, List, [], ◌∷◌, ◌++◌, Contains, Option, Some, None, Ok}
use Rattle.std.proofs.lemmas.List.Elements.{Contains-append_cases}
use Rattle.kb_lemmas.proofs.Membership.{contains_cases, slice_contains}
use Rattle.kb_term.specs.Tree.{Tree, tree_eq}
use Rattle.kb_term.specs.Position.{subtree_at}
use Rattle.kb_term.specs.Substitution.{instance}
use Rattle.kb_term.specs.Pair.{Pair, canonical, canonical_pair}
use Rattle.kb_term.specs.Rule.{Rule, rule_of, pair_of_rule}
use Rattle.kb_term.specs.Proving.{RewritesAt}
use Rattle.kb_term.specs.declared.limit.Limit.{Limit}
use Rattle.kb_term.specs.declared.origin.Origin.{Origin}
use Rattle.kb_term.specs.declared.origin.Origin.TheVariants.{Input, Rewrite, Overlap}
use Rattle.kb_term.proofs.Subtrees.{subtree-instance}
use Rattle.kb_term.proofs.Bridge.{step_from_position}
use Rattle.kb_term.proofs.StepsInside.{reaches_instance}
use Rattle.kb_overlap.specs.Overlap.{overlap_limit, pair_or_limit}
use Rattle.kb_overlap.specs.Trace.{TraceStep, item, side, other_side, IsRightRewrite, IsRightOverlap, FollowsBy, IsRightAfter, IsRightTrace}
use Rattle.kb_trace.specs.Steps.{pairs_of}
use Rattle.kb_laws.proofs.Conversion.{Either, Equal, equal_sym, equal_trans, equal_rule, equal_same, equal_variant, step_made_up}
use Rattle.kb_laws.proofs.CompletionLaws.{Members}
use Rattle.kb_laws.proofs.LoneRule.{canonical_same, rule_same, same_turned, the_pair}

-- the member with a number is in the list
pub item_contains : {X : Type 0} (xs : List X) (n : ℕ) (x : X) → item xs n ≡ Some x → Contains xs x
item_contains xs zero x e = absurd (cc)
item_contains xs (suc n) x e = slice_contains xs n x e

module _ (P : Rule → Type 0) where
  -- the rules prove the pair
  abbrev pub ProvesPair : Pair → Type 0
  ProvesPair e = Equal P e.first e.second

  -- what they prove of two terms they prove of the canonical pair
  pub canonical_proved : (s t : Tree) (e : Pair) → canonical_pair s t ≡ Some e → Equal P s t → ProvesPair e
  canonical_proved s t e h p = subst ProvesPair (the_pair (tree_eq s t) (canonical s t) e h) (equal_same P (s, t) ((canonical s t).first, (canonical s t).second) (canonical_same s t) p)

  rule_proved : (e : Pair) (d : ℕ) → ProvesPair e → Equal P (rule_of e d).left (rule_of e d).right
  rule_proved e d p = equal_same P (e.first, e.second) ((rule_of e d).left, (rule_of e d).right) (rule_same e d) p

  -- one use of a rule that they prove
  step_proved : (rule : Rule) (p : List ℕ) (s t : Tree) → Equal P rule.left rule.right → RewritesAt rule p s t → Equal P s t
  step_proved rule p s t h k =
      step_made_up (λ (r : Rule). rule ≡ r) (Either P) (λ r e. subst (λ (x : Rule). Equal P x.left x.right) e h) (step_from_position (λ (r : Rule). rule ≡ r) s t (rule, refl, p, k))

  side_proved : (e : Pair) (w : ℕ) → ProvesPair e → Equal P (side e w) (other_side e w)
  side_proved e zero h = h
  side_proved e (suc w) h = equal_sym P e.first e.second h

  rewrite_proved : (old : Pair) (w : ℕ) (p : List ℕ) (rule : Rule) (pair : Pair) → ProvesPair old → Equal P rule.left rule.right → IsRightRewrite old w p rule pair → ProvesPair pair
  rewrite_proved old w p rule pair o r h =
      canonical_proved h.result (other_side old w) pair h.canonical
      (equal_trans P h.result (side old w) (other_side old w) (equal_sym P (side old w) h.result (step_proved rule p (side old w) h.result r h.rewrites)) (side_proved old w o))

  sides_are : (limit : Option Limit) (s t v w : Tree) → Ok (s, t) ≡ pair_or_limit limit v w → (v ≡ s) × (w ≡ t)
  sides_are None s t v w e = let q : (s, t) ≡ (v, w) = cc in (sym (ap (λ (x : Tree × Tree). x.0) q), sym (ap (λ (x : Tree × Tree). x.1) q))
  sides_are (Some l) s t v w e = absurd (cc)

  overlap_proved : (outer inner : Rule) (p : List ℕ) (pair : Pair) → Equal P outer.left outer.right → Equal P inner.left inner.right → IsRightOverlap outer inner p pair → ProvesPair pair
  overlap_proved outer inner p pair a b h =
      let o = h.overlap in
      let m = o.m in
      let peak = instance m outer.left in
      let same = sides_are (overlap_limit outer o.renamed m o.s o.t) h.s h.t o.s o.t o.sides in
      let left : Equal P peak o.s = subst (Equal P peak) (sym o.pair.by_outer) (reaches_instance (Either P) m outer.left outer.right a) in
      let renamed : Equal P o.renamed.left o.renamed.right = equal_variant P inner o.renamed b o.renamed_apart.variant in
      let redex : subtree_at peak p ≡ Some (instance m o.renamed.left) = subtree-instance m p outer.left o.overlaps.subterm o.overlaps.there ∙ ap Some o.overlaps.unifier.unifies in
      let right : Equal P peak o.t = step_proved o.renamed p peak o.t renamed (m, record { redex = redex; result = o.pair.by_inner }) in
      let both : Equal P o.s o.t = equal_trans P o.s peak o.t (equal_sym P peak o.s left) right in
      canonical_proved h.s h.t pair h.canonical (subst (λ x. Equal P x h.t) same.0 (subst (Equal P o.s) same.1 both))

-- what follows from equations and proved pairs is proved
origin_proved : (es : List (Tree × Tree)) (before : List Pair) (origin : Origin) (pair : Pair) → ((e : Pair) → Contains before e → ProvesPair (Members es) e) → FollowsBy es (item before) origin pair → ProvesPair (Members es) pair
origin_proved es before (Input i) pair h r =
    canonical_proved (Members es) r.0.0 r.0.1 pair r.2 (equal_rule (Members es) (record { left = r.0.0; right = r.0.1 }) (item_contains es i r.0 r.1))
origin_proved es before (Rewrite a w p b) pair h r =
    rewrite_proved (Members es) r.0 w p (rule_of r.1 b.dir) pair (h r.0 (item_contains before a r.0 r.2)) (rule_proved (Members es) r.1 b.dir (h r.1 (item_contains before b.node r.1 r.3))) r.4
origin_proved es before (Overlap a b p) pair h r =
    overlap_proved (Members es) (rule_of r.0 a.dir) (rule_of r.1 b.dir) p pair (rule_proved (Members es) r.0 a.dir (h r.0 (item_contains before a.node r.0 r.2))) (rule_proved (Members es) r.1 b.dir (h r.1 (item_contains before b.node r.1 r.3))) r.4

after_proved : (es : List (Tree × Tree)) (before : List Pair) (trace : List TraceStep) → ((e : Pair) → Contains before e → ProvesPair (Members es) e) → IsRightAfter es before trace → (e : Pair) → Contains (pairs_of trace) e → ProvesPair (Members es) e
after_proved es before [] h r e c = absurd (omega (arith, c.1))
after_proved es before (step ∷ trace) h r e c =
    let here = origin_proved es before step.origin step.pair h r.0.1 in
    ⊎_elim
    (λ q. subst (ProvesPair (Members es)) q here)
    (λ d. after_proved es (before ++ step.pair ∷ []) trace (λ x k. ⊎_elim (h x) (λ g. ⊎_elim (λ q. subst (ProvesPair (Members es)) q here) (λ z. absurd (omega (arith, z.1))) (contains_cases step.pair [] x g)) (Contains-append_cases before (step.pair ∷ []) x k)) r.1 e d)
    (contains_cases step.pair (pairs_of trace) e c)

-- each pair of a right trace is proved
pub trace_proved : (es : List (Tree × Tree)) (trace : List TraceStep) → IsRightTrace es trace → (e : Pair) → Contains (pairs_of trace) e → ProvesPair (Members es) e
trace_proved es trace r = after_proved es [] trace (λ x c. absurd (omega (arith, c.1))) r

-- so is a rule with such a pair
pub traced_proved : (es : List (Tree × Tree)) (trace : List TraceStep) (k : ℕ) (rule : Rule) → IsRightTrace es trace → item (pairs_of trace) k ≡ Some (pair_of_rule rule) → Equal (Members es) rule.left rule.right
traced_proved es trace k rule r h =
    let e = canonical rule.left rule.right in
    equal_same (Members es) (e.first, e.second) (rule.left, rule.right) (same_turned (rule.left, rule.right) (e.first, e.second) (canonical_same rule.left rule.right)) (trace_proved es trace r e (item_contains (pairs_of trace) k e h))
