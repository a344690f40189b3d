-- Traces, step by step.
use Rattle.std.proofs.Common.{ℕ, suc, ◌≡◌, ◌∙◌, refl, sym, ap, subst, List, [], ◌∷◌, ◌++◌, map, append_assoc, append-nil, ◌+◌, ◌-◌, ◌<◌, length, take, drop, get_or, arith}
use Rattle.std.proofs.lemmas.List.{take-append-drop, length-take-le}
use Rattle.std.proofs.Math.Seq.{drop-cons}
use Rattle.kb_term.specs.Tree.{Tree}
use Rattle.kb_term.specs.Pair.{Pair}
use Rattle.kb_term.specs.declared.origin.Origin.{Origin}
use Rattle.kb_overlap.specs.Trace.{TraceStep, item, IsRightOrigin, IsRightAfter, IsRightTrace}
use Rattle.kb_trace.specs.Steps.{pairs_of, IsFirstBadStep}

-- one more right step
pub right_more : (equations : List (Tree × Tree)) (before : List Pair) (trace : List TraceStep) (step : TraceStep) → IsRightAfter equations before trace → IsRightOrigin equations (item (before ++ pairs_of trace)) step.origin step.pair → IsRightAfter equations before (trace ++ step ∷ [])
right_more equations before [] step h r = (subst (λ (ps : List Pair). IsRightOrigin equations (item ps) step.origin step.pair) (append-nil before) r, tt)
right_more equations before (x ∷ trace) step h r =
    (h.0, right_more equations (before ++ x.pair ∷ []) trace step h.1 (subst (λ (ps : List Pair). IsRightOrigin equations (item ps) step.origin step.pair) (sym (append_assoc before (x.pair ∷ []) (pairs_of trace))) r))

-- the first step that isn't right
pub first_bad : (equations : List (Tree × Tree)) (trace : List TraceStep) (k n : ℕ) (step : TraceStep) → k < length trace → step ≡ get_or trace k step → n ≡ k + 1 → IsRightTrace equations (take k trace) → ¬ IsRightOrigin equations (item (pairs_of (take k trace))) step.origin step.pair → IsFirstBadStep equations trace n
first_bad equations trace k n step room is number right bad = record {
  before = take k trace;
  step = step;
  after = drop (suc k) trace;
  parts = sym (take-append-drop k trace) ∙ ap (take k trace ++◌) (drop-cons trace k step room ∙ ap (λ x. x ∷ drop (suc k) trace) (sym is));
  number = omega (arith, number, length-take-le k trace (omega arith));
  right_before = right;
  not_right = bad;
}

-- the same of equal parts
pub right_same : (es fs : List (Tree × Tree)) (ps qs : List Pair) (o q : Origin) (e f : Pair) → es ≡ fs → ps ≡ qs → o ≡ q → e ≡ f → IsRightOrigin es (item ps) o e → IsRightOrigin fs (item qs) q f
right_same es fs ps qs o q e f a b c d h =
    subst (λ (x : List (Tree × Tree)). IsRightOrigin x (item qs) q f) a (subst (λ (x : List Pair). IsRightOrigin es (item x) q f) b (subst (λ (x : Origin). IsRightOrigin es (item ps) x f) c (subst (λ (x : Pair). IsRightOrigin es (item ps) o x) d h)))
