-- The step that a rule cites.
use Rattle.std.proofs.Common.{ℕ, ◌≡◌, ◌-◌, ◌≤◌, ◌∙◌, refl, sym, ap, arith, List, length, get_or, Option, Some, None, Bool, true, false, cond, ⊎_elim}
use Rattle.std.specs.Prelude.{IsTrue, ◌↔◌, option_map}
use Rattle.std.proofs.lemmas.Option.{slice_get-map, slice_get-get_or, same_Some}
use Rattle.kb_term.specs.Tree.{Tree, tree_eq}
use Rattle.kb_term.specs.Pair.{Pair, numbered, canonical, canonical_pair, IsCanonicalPair}
use Rattle.kb_term.proofs.OwnPair.{tree_eq-true, tree_eq-same}
use Rattle.kb_overlap.specs.Trace.{TraceStep, item}
use Rattle.kb_trace.specs.Steps.{pairs_of}
use Rattle.kb_trace.proofs.Cited.{item_before}
use Rattle.kb_laws.proofs.LoneRule.{the_pair}
use Rattle.kb_term.proofs.CanonicalPairs.{lesser_cases}

-- the pair of the step with a number
pub cited_pair : (trace : List TraceStep) (k : ℕ) (step : TraceStep) → ¬ (k ≡ 0) → k ≤ length trace → step ≡ get_or trace (k - 1) step → item (pairs_of trace) k ≡ Some step.pair
cited_pair trace k step some within is =
    item_before (pairs_of trace) k some ∙ slice_get-map (λ (s : TraceStep). s.pair) trace (k - 1)
    ∙ ap (option_map (λ (s : TraceStep). s.pair)) (slice_get-get_or trace (k - 1) step (omega arith) ∙ ap Some (sym is))

no_canonical : (b : Bool) (p : Pair) → cond b None (Some p) ≡ None → b ≡ true
no_canonical true p e = refl
no_canonical false p e = absurd (cc)

some_canonical : (b : Bool) (p q : Pair) → cond b None (Some p) ≡ Some q → b ≡ false
some_canonical true p q e = absurd (cc)
some_canonical false p q e = refl

trivial_sides : (t : Tree) → (canonical t t).first ≡ (canonical t t).second
trivial_sides t =
    ⊎_elim
    (λ q. ap (λ (p : Pair). p.first) q ∙ sym (ap (λ (p : Pair). p.second) q))
    (λ q. ap (λ (p : Pair). p.first) q ∙ sym (ap (λ (p : Pair). p.second) q))
    (lesser_cases (numbered t t) (numbered t t))

-- the canonical pair of a rule whose sides are equal is no pair of a step
pub traced_not : (l r : Tree) (e : Pair) → IsCanonicalPair e → canonical_pair l r ≡ None → ¬ (e ≡ canonical l r)
traced_not l r e own none is =
    let same : l ≡ r = tree_eq-true l r (no_canonical (tree_eq l r) (canonical l r) none) in
    let sides : e.first ≡ e.second =
    ap (λ (p : Pair). p.first) is ∙ ap (λ x. (canonical l x).first) (sym same) ∙ trivial_sides l ∙ ap (λ x. (canonical l x).second) same ∙ sym (ap (λ (p : Pair). p.second) is) in
    let trivial : tree_eq e.first e.second ≡ true = tree_eq-same e.first e.second sides in
    let apart : tree_eq e.first e.second ≡ false = some_canonical (tree_eq e.first e.second) (canonical e.first e.second) e own.own in
    absurd (cc)

-- whether a rule is traced, by its canonical pair
pub traced_is : (l r : Tree) (e found : Pair) (o : Option Pair) (b : Bool) → o ≡ Some e → Some found ≡ canonical_pair l r → IsTrue b ↔ (found ≡ e) → IsTrue b ↔ (o ≡ Some (canonical l r))
traced_is l r e found o b at is h =
    let made : canonical l r ≡ found = the_pair (tree_eq l r) (canonical l r) found (sym is) in (
      λ y. at ∙ ap Some (sym (h.0 y) ∙ sym made),
      λ z. h.1 (sym made ∙ same_Some (canonical l r) e (sym z ∙ at)),
    )
