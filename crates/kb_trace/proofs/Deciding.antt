-- When a step is right, by what is made of its rules.
use Rattle.std.proofs.Common.{ℕ, ◌≡◌, ◌∙◌, sym, ap, subst, subst₂, List, Option, Some, None}
use Rattle.std.specs.Prelude.{Bool, IsTrue, ◌↔◌}
use Rattle.std.proofs.lemmas.Option.{same_Some}
use Rattle.kb_term.specs.Tree.{Tree}
use Rattle.kb_term.specs.Pair.{Pair, canonical_pair, ArePairWithin}
use Rattle.kb_term.specs.Rule.{Rule, IsRule, IsRuleBelow, rule_of}
use Rattle.kb_term.specs.View.{tree_of}
use Rattle.kb_term.specs.declared.term.Term.{Term}
use Rattle.kb_term.specs.declared.origin.RuleRef.{RuleRef}
use Rattle.kb_term.specs.declared.origin.Origin.TheVariants.{Rewrite, Overlap}
use Rattle.kb_overlap.specs.Trace.{side, other_side, IsRightRewrite, IsRightOverlap, FollowsBy}
use Rattle.kb_trace.specs.Steps.{IsRewritten, IsOverlapped, IsCitedRule}
use Rattle.kb_trace.proofs.Canonical.{within_canonical}
use Rattle.kb_trace.proofs.Overlapping.{one_pair}

pub rewrite_not : (old : Pair) (w : ℕ) (p : List ℕ) (rule : Rule) (pair : Pair) → ArePairWithin pair.first pair.second → IsRewritten rule p (side old w) None → ¬ IsRightRewrite old w p rule pair
rewrite_not old w p rule pair within none h = none h.result h.rewrites (within_canonical h.result (other_side old w) pair h.canonical within).first

pub rewrite_decided : (old : Pair) (w : ℕ) (p : List ℕ) (rule : Rule) (pair : Pair) (u : Term) (b : Bool) → IsRule rule → IsRewritten rule p (side old w) (Some u)
    → IsTrue b ↔ (canonical_pair (tree_of u) (other_side old w) ≡ Some pair) → IsTrue b ↔ IsRightRewrite old w p rule pair
rewrite_decided old w p rule pair u b r made h = (
  λ y. record { is_rule = r; result = tree_of u; rewrites = made.0; canonical = h.0 y },
  λ z. h.1 (subst (λ v. canonical_pair v (other_side old w) ≡ Some pair) (made.1 z.result z.rewrites) z.canonical),
)

pub overlap_not : (outer inner : Rule) (p : List ℕ) (pair : Pair) → IsOverlapped outer inner p None → ¬ IsRightOverlap outer inner p pair
overlap_not outer inner p pair none h = none h.s h.t h.overlap

pub overlap_decided : (outer inner : Rule) (p : List ℕ) (pair : Pair) (s t : Term) (b : Bool) → IsRule outer → IsRule inner → IsOverlapped outer inner p (Some (s, t))
    → IsTrue b ↔ (canonical_pair (tree_of s) (tree_of t) ≡ Some pair) → IsTrue b ↔ IsRightOverlap outer inner p pair
overlap_decided outer inner p pair s t b r q made h = (
  λ y. record { outer_rule = r; inner_rule = q; s = tree_of s; t = tree_of t; overlap = made; canonical = h.0 y },
  λ z. h.1 (one_pair outer inner p (tree_of s) (tree_of t) z.s z.t made z.overlap ∙ z.canonical),
)

-- a cited rule has variables below 64
pub cited_below : (o : Option Pair) (d : ℕ) (rule : Rule) → IsCitedRule o d (Some rule) → IsRuleBelow 64 rule
cited_below None d rule h = absurd h
cited_below (Some e) d rule h = h.1

-- the pair of a cited rule
pub cited_pair : (o : Option Pair) (d : ℕ) (rule : Rule) → IsCitedRule o d (Some rule) → (e : Pair) × (o ≡ Some e) × (rule ≡ rule_of e d)
cited_pair None d rule h = absurd h
cited_pair (Some e) d rule h = (e, (λ i. Some e), h.0)

pub rewrite_origin : (equations : List (Tree × Tree)) (earlier : ℕ → Option Pair) (a w : ℕ) (p : List ℕ) (r : RuleRef) (pair old : Pair) (rule : Rule) (b : Bool)
    → earlier a ≡ Some old → IsCitedRule (earlier r.node) r.dir (Some rule) → IsTrue b ↔ IsRightRewrite old w p rule pair → IsTrue b ↔ FollowsBy equations earlier (Rewrite a w p r) pair
rewrite_origin equations earlier a w p r pair old rule b at cited h =
    let e = cited_pair (earlier r.node) r.dir rule cited in (
      λ y. (old, e.0, at, e.1, subst (λ q. IsRightRewrite old w p q pair) e.2 (h.0 y)),
      λ z. h.1 (subst₂ (λ x q. IsRightRewrite x w p q pair) (same_Some z.0 old (sym z.2 ∙ at)) (ap (λ x. rule_of x r.dir) (same_Some z.1 e.0 (sym z.3 ∙ e.1)) ∙ sym e.2) z.4),
    )

pub overlap_origin : (equations : List (Tree × Tree)) (earlier : ℕ → Option Pair) (x y : RuleRef) (p : List ℕ) (pair : Pair) (outer inner : Rule) (b : Bool)
    → IsCitedRule (earlier x.node) x.dir (Some outer) → IsCitedRule (earlier y.node) y.dir (Some inner) → IsTrue b ↔ IsRightOverlap outer inner p pair → IsTrue b ↔ FollowsBy equations earlier (Overlap x y p) pair
overlap_origin equations earlier x y p pair outer inner b one other h =
    let d = cited_pair (earlier x.node) x.dir outer one in
    let e = cited_pair (earlier y.node) y.dir inner other in (
      λ z. (d.0, e.0, d.1, e.1, subst₂ (λ q r. IsRightOverlap q r p pair) d.2 e.2 (h.0 z)),
      λ z. h.1 (subst₂ (λ q r. IsRightOverlap q r p pair) (ap (λ q. rule_of q x.dir) (same_Some z.0 d.0 (sym z.2 ∙ d.1)) ∙ sym d.2) (ap (λ q. rule_of q y.dir) (same_Some z.1 e.0 (sym z.3 ∙ e.1)) ∙ sym e.2) z.4),
    )
