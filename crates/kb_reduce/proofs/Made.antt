-- Composed rules, and the answer that is made of them.
use Rattle.std.proofs.Common.{ℕ, ◌+◌, ◌≤◌, ◌≡◌, ◌∙◌, sym, ap, subst, arith, List, [], ◌∷◌, ◌++◌, length, length-append, Contains, ⊎_elim}
use Rattle.std.proofs.lemmas.List.{length-map}
use Rattle.std.proofs.lemmas.List.Elements.{All-append, All-weaker}
use Rattle.kb_lemmas.proofs.Membership.{contains_cases, contains_first, contains_behind, contains_mapped, contains_map, slice_contains}
use Rattle.kb_term.specs.Rule.{Rule, pair_of_rule}
use Rattle.kb_term.specs.Proving as Proving
use Rattle.kb_cert.proofs.Ordering.{all_from}
use Rattle.kb_rewrite.specs.NormalForm.{IsNormal}
use Rattle.kb_overlap.specs.Trace.{TraceStep, item}
use Rattle.kb_trace.specs.Steps.{pairs_of}
use Rattle.kb_trace.specs.TraceText.{IsStepForm}
use Rattle.kb_trace.proofs.StepForms.{is_up_to-true}
use Rattle.kb_checker.specs.Answers.{Answer, rules_of, IsAnswer, IsRuleForm, IsTraced, IsGoodAnswer}
use Rattle.kb_reduce.specs.Reducing.{with_right, AreRewritings, AreComposed, IsThinned, IsReducedSystem}
use Rattle.kb_reduce.proofs.System.{IsReducing, reduced_is_complete, normal_stays}
use Rattle.kb_reduce.proofs.Thinned.{HasStep, own_step, thinned_in, thinned_fewer, thinned_has, lefts_normal}
use Rattle.kb_reduce.proofs.Directions.{item_within}
use Rattle.kb_reduce.proofs.Traced.{IsAt, AreRight, item_more, pairs_append, right_append, composed_right}

-- a rule is another one with a normal form of its right side
pub record IsMade (rules : List (Rule × ℕ)) (from to : Rule × ℕ) : Type 0 where
  pub left : to.0.left ≡ from.0.left
  pub reached : Proving.Reaches (rules_of rules) from.0.right to.0.right
  pub normal : IsNormal (rules_of rules) to.0.right

rewritings_reach : (rules : List (Rule × ℕ)) (n : ℕ) (steps : List TraceStep) (from to : Rule × ℕ) → AreRewritings rules n steps from to → (to.0.left ≡ from.0.left) × Proving.Reaches (rules_of rules) from.0.right to.0.right
rewritings_reach rules n [] from to e = (ap (λ (x : Rule × ℕ). x.0.left) (sym e), ([], ap (λ (x : Rule × ℕ). x.0.right) e))
rewritings_reach rules n (step ∷ steps) from to (u, w, more) =
    let r = rewritings_reach rules (n + 1) steps (with_right from u (n + 1)) to more in
    (r.0, (u ∷ r.1.0, ((w.by.0, contains_map (λ (x : Rule × ℕ). x.0) rules w.by (slice_contains rules w.index w.by w.there), w.position, w.rewrites), r.1.1)))

-- each composed rule is made of one
pub composed_each : (rules : List (Rule × ℕ)) (n : ℕ) (froms : List (Rule × ℕ)) (steps : List TraceStep) (tos : List (Rule × ℕ)) → AreComposed rules n froms steps tos → (t : Rule × ℕ) → Contains tos t → (f : Rule × ℕ) × Contains froms f × IsMade rules f t
composed_each rules n [] steps tos (none, empty) t i = absurd (omega (arith, i.1, ap (length {A = Rule × ℕ}) empty))
composed_each rules n (from ∷ froms) steps tos (first, rest, to, others, es, et, one, more) t i =
    let r = rewritings_reach rules n first from to one.rewritings in
    ⊎_elim
    (λ e. subst (λ x. (f : Rule × ℕ) × Contains (from ∷ froms) f × IsMade rules f x) e (from, contains_first from froms, record { left = r.0; reached = r.1; normal = one.normal.4 }))
    (λ j. let k = composed_each rules (n + length first) froms rest others more t j in (k.0, contains_behind from froms k.0 k.1, k.2))
    (contains_cases to others t (subst (λ ts. Contains ts t) et i))

-- and each rule is made one
pub composed_all : (rules : List (Rule × ℕ)) (n : ℕ) (froms : List (Rule × ℕ)) (steps : List TraceStep) (tos : List (Rule × ℕ)) → AreComposed rules n froms steps tos → (f : Rule × ℕ) → Contains froms f → (t : Rule × ℕ) × Contains tos t × IsMade rules f t
composed_all rules n [] steps tos (none, empty) f i = absurd (omega (arith, i.1))
composed_all rules n (from ∷ froms) steps tos (first, rest, to, others, es, et, one, more) f i =
    let r = rewritings_reach rules n first from to one.rewritings in
    let back = λ (t : Rule × ℕ) (c : Contains (to ∷ others) t). subst (λ ts. Contains ts t) (sym et) c in
    ⊎_elim
    (λ e. subst (λ x. (t : Rule × ℕ) × Contains tos t × IsMade rules x t) e (to, back to (contains_first to others), record { left = r.0; reached = r.1; normal = one.normal.4 }))
    (λ j. let k = composed_all rules (n + length first) froms rest others more f j in (k.0, back k.0 (contains_behind to others k.0 k.1), k.2))
    (contains_cases from froms f i)

pub composed_count : (rules : List (Rule × ℕ)) (n : ℕ) (froms : List (Rule × ℕ)) (steps : List TraceStep) (tos : List (Rule × ℕ)) → AreComposed rules n froms steps tos → length tos ≡ length froms
composed_count rules n [] steps tos (none, empty) = ap length empty
composed_count rules n (from ∷ froms) steps tos (first, rest, to, others, es, et, one, more) = omega (arith, ap (length {A = Rule × ℕ}) et, composed_count rules (n + length first) froms rest others more)

-- ---- the answer

-- the answer with other rules and more steps
abbrev pub with_rules : Answer → List (Rule × ℕ) → List TraceStep → Answer
with_rules a rules trace = record { problem = a.problem; rules = rules; constraints = a.constraints; cert = a.cert; trace = trace }

module _ (a : Answer) (form : IsAnswer a) (good : IsGoodAnswer a) (steps : List TraceStep) (composed left : List (Rule × ℕ)) (c : AreComposed a.rules (length a.trace) a.rules steps composed) (thinned : IsThinned [] composed left) where
  reducing : IsReducing (rules_of a.rules) (rules_of left)
  reducing = record {
    reached = λ r i.
        let m = contains_mapped (λ (x : Rule × ℕ). x.0) left r i in
        let k = composed_each a.rules (length a.trace) a.rules steps composed c m.0 (thinned_in [] composed left thinned m.0 m.1) in
        (k.0.0, contains_map (λ (x : Rule × ℕ). x.0) a.rules k.0 k.1, ap (λ (x : Rule). x.left) (sym m.2) ∙ k.2.left, subst (Proving.Reaches (rules_of a.rules) k.0.0.right) (ap (λ (x : Rule). x.right) m.2) k.2.reached);
    normal = λ q i.
        let m = contains_mapped (λ (x : Rule × ℕ). x.0) a.rules q i in
        let k = composed_all a.rules (length a.trace) a.rules steps composed c m.0 m.1 in
        (k.0.0.right, subst (λ (x : Rule). Proving.Reaches (rules_of a.rules) x.right k.0.0.right) m.2 k.2.reached, k.2.normal);
    lefts = λ q i.
        let m = contains_mapped (λ (x : Rule × ℕ). x.0) a.rules q i in
        let k = composed_all a.rules (length a.trace) a.rules steps composed c m.0 m.1 in
        subst (HasStep left) (k.2.left ∙ ap (λ (x : Rule). x.left) m.2) (thinned_has [] composed left thinned k.0.0.left (own_step composed k.0 k.1));
  }

  pub reduced_system : IsReducedSystem left
  reduced_system = record {
    rights = all_from (λ (r : Rule × ℕ). IsNormal (rules_of left) r.0.right) left (λ r i.
        let k = composed_each a.rules (length a.trace) a.rules steps composed c r (thinned_in [] composed left thinned r i) in
        normal_stays a.problem a.cert form.cert (rules_of a.rules) (rules_of left) good.system reducing r.0.right k.2.normal);
    lefts = lefts_normal composed left thinned;
  }

  right : AreRight a form good (pairs_of a.trace) steps composed
  right = composed_right a form good (pairs_of a.trace) (λ k e h. h) a.rules steps composed (λ r i. i) (subst (λ n. AreComposed a.rules n a.rules steps composed) (sym (length-map a.trace (λ (s : TraceStep). s.pair))) c)

  at : (r : Rule × ℕ) → Contains left r → IsAt a (pairs_of (a.trace ++ steps)) r
  at r i = subst (λ ps. IsAt a ps r) (sym (pairs_append a.trace steps)) (right.at r (thinned_in [] composed left thinned r i))

  pub good_made : IsGoodAnswer (with_rules a left (a.trace ++ steps))
  good_made = record {
    system = reduced_is_complete a.problem a.cert form.cert (rules_of a.rules) (rules_of left) good.system reducing;
    ordered = good.ordered;
    right = right_append a.problem.equations [] a.trace steps good.right right.right;
    traced = all_from (IsTraced (a.trace ++ steps)) left (λ r i. (at r i).cited);
    constraints_traced = All-weaker (IsTraced a.trace) (IsTraced (a.trace ++ steps)) (λ r h. ap (λ ps. item ps r.1) (pairs_append a.trace steps) ∙ item_more (pairs_of a.trace) (pairs_of steps) r.1 (pair_of_rule r.0) h) a.constraints good.constraints_traced;
  }

  pub answer_made : length a.trace + length steps ≤ 4096 → IsAnswer (with_rules a left (a.trace ++ steps))
  answer_made room = record {
    problem = form.problem;
    count = omega (arith, form.count, thinned_fewer [] composed left thinned, composed_count a.rules (length a.trace) a.rules steps composed c);
    rules = all_from (IsRuleForm a.problem.signature) left (λ r i.
        let h = at r i in
        let k = item_within (pairs_of (a.trace ++ steps)) r.1 (pair_of_rule r.0) h.cited in
        record { sides = h.sides; cited = is_up_to-true 4096 r.1 k.0 (omega (arith, k.1, room, length-map (a.trace ++ steps) (λ (s : TraceStep). s.pair), length-append a.trace steps)) });
    constraint_count = form.constraint_count;
    constraints = form.constraints;
    cert = form.cert;
    trace = record {
      count = omega (arith, room, length-append a.trace steps);
      steps = All-append (IsStepForm a.problem.signature) a.trace steps form.trace.steps (right.written (omega (arith, room, length-map a.trace (λ (s : TraceStep). s.pair))));
    };
  }
