-- The rules of an answer, composed one by one.
use Rattle.std.proofs.Common.{ℕ, ◌+◌, ◌<◌, ◌≤◌, ◌≡◌, ◌∙◌, refl, sym, ap, subst, arith, List, [], ◌∷◌, ◌++◌, append-nil, append_assoc, length, length-append, get_or, take, drop, Some}
use Rattle.std.specs.Prelude.{slice_get}
use Rattle.std.proofs.lemmas.List.{take_more, take_all, take-append-drop, length-take-le, drop_more}
use Rattle.std.proofs.lemmas.Option.{slice_get-get_or, same_Some}
use Rattle.kb_term.specs.Tree.{variable}
use Rattle.kb_term.specs.Rule.{Rule, rule_between}
use Rattle.kb_rewrite.specs.NormalForm.{Normalised, form, long, large}
use Rattle.kb_overlap.specs.Trace.{TraceStep}
use Rattle.kb_checker.specs.Answers.{Answer, IsAnswer, IsGoodAnswer}
use Rattle.kb_reduce.specs.Reducing.{IsComposed, AreComposed, IsThinned, IsReduced, IsReducedSystem}
use Rattle.kb_reduce.specs.Running.{PassesWhy, IsComposing}
use Rattle.kb_reduce.specs.Telling.{IsWhy, IsUnreduced}
use Rattle.kb_reduce.specs.declared.composing.Composed.{Composed}
use Rattle.kb_reduce.specs.declared.composing.Composed.TheVariants.{Rule as composed, Passed}
use Rattle.kb_reduce.specs.declared.reduction.Why.{Why}
use Rattle.kb_reduce.specs.declared.reduction.Why.TheVariants.{Trace}
use Rattle.kb_reduce.specs.declared.reduction.Reduction.TheVariants.{Reduced}
use Rattle.kb_reduce.proofs.Made.{with_rules, good_made, answer_made, reduced_system}

-- one rule more is composed
composed_more : (rules : List (Rule × ℕ)) (n : ℕ) (froms : List (Rule × ℕ)) (steps : List TraceStep) (tos : List (Rule × ℕ)) (from : Rule × ℕ) (more : List TraceStep) (to : Rule × ℕ) → AreComposed rules n froms steps tos → IsComposed rules (n + length steps) from more to → AreComposed rules n (froms ++ from ∷ []) (steps ++ more) (tos ++ to ∷ [])
composed_more rules n [] steps tos from more to (none, empty) h =
    let count : n + length steps ≡ n = omega (arith, ap (length {A = TraceStep}) none) in
    (more, [], to, [], ap (λ xs. xs ++ more) none ∙ sym (append-nil more), ap (λ xs. xs ++ to ∷ []) empty, subst (λ k. IsComposed rules k from more to) count h, (refl, refl))
composed_more rules n (f ∷ froms) steps tos from more to (first, rest, t, others, es, et, one, later) h =
    let count : n + length steps ≡ n + length first + length rest = omega (arith, ap (length {A = TraceStep}) es, length-append first rest) in
    (first, rest ++ more, t, others ++ to ∷ [], ap (λ xs. xs ++ more) es ∙ append_assoc first rest more, ap (λ xs. xs ++ to ∷ []) et, one, composed_more rules (n + length first) froms rest others from more to later (subst (λ k. IsComposed rules k from more to) count h))

-- the rule at an index
pub rule_at : (rules : List (Rule × ℕ)) (k : ℕ) → k < length rules → (r : Rule × ℕ) × slice_get rules k ≡ Some r
rule_at rules k room = let d : Rule × ℕ = (rule_between (variable 0) (variable 0), 0) in (get_or rules k d, slice_get-get_or rules k d room)

rule_is : (rules : List (Rule × ℕ)) (k : ℕ) (r : Rule × ℕ) → k < length rules → slice_get rules k ≡ Some r → r ≡ get_or rules k r
rule_is rules k r room at = same_Some _ _ (sym at ∙ slice_get-get_or rules k r room)

-- the rules up to it, and behind it
parts_at : (rules : List (Rule × ℕ)) (k : ℕ) (r : Rule × ℕ) → k < length rules → slice_get rules k ≡ Some r → rules ≡ take k rules ++ r ∷ drop (k + 1) rules
parts_at rules k r room at = sym (take-append-drop k rules) ∙ ap (take k rules ++◌) (drop_more rules k r room ∙ ap (λ y. y ∷ drop (k + 1) rules) (sym (rule_is rules k r room at)))

passes_why : (n : ℕ) (x : Normalised) (why : Why) → PassesWhy x why → IsWhy n x why
passes_why n (form t m) why h = absurd h
passes_why n (long m) why h = h
passes_why n (large limit) why h = h

module _ (a : Answer) (k : ℕ) (there : k < length a.rules) (more : List TraceStep) (tos : List (Rule × ℕ)) (c : AreComposed a.rules (length a.trace) (take k a.rules) more tos) (old new : List TraceStep) (begun : old ≡ a.trace ++ more) (room : length old ≤ 4096) where
  count : length old ≡ length a.trace + length more
  count = omega (arith, ap (length {A = TraceStep}) begun, length-append a.trace more)

  -- a right side passes a limit of one term
  pub passed : (o : Composed) (why : Why) → ((r : Rule × ℕ) → slice_get a.rules k ≡ Some r → IsComposing a.rules r old new o) → o ≡ Passed why → IsUnreduced a why (k + 1)
  passed o why h e =
      let r = rule_at a.rules k there in
      let x : IsComposing a.rules r.0 old new (Passed why) = subst (IsComposing a.rules r.0 old new) e (h r.0 r.1) in
      record {
        before = take k a.rules;
        rule = r.0;
        after = drop (k + 1) a.rules;
        parts = parts_at a.rules k r.0 there r.1;
        number = omega (arith, length-take-le k a.rules (omega (arith, there)));
        steps = more;
        composed = tos;
        are_composed = c;
        room = omega (arith, room, count);
        answer = x.0;
        normalises = x.1;
        reason = passes_why (length a.trace + length more) x.0 why x.2;
      }

  -- its steps are too many
  pub too_long : (o : Composed) (rule : Rule) (cited : ℕ) → ((r : Rule × ℕ) → slice_get a.rules k ≡ Some r → IsComposing a.rules r old new o) → o ≡ composed rule cited → 4096 < length new → IsUnreduced a Trace (k + 1)
  too_long o rule cited h e long_ =
      let r = rule_at a.rules k there in
      let x : IsComposing a.rules r.0 old new (composed rule cited) = subst (IsComposing a.rules r.0 old new) e (h r.0 r.1) in
      record {
        before = take k a.rules;
        rule = r.0;
        after = drop (k + 1) a.rules;
        parts = parts_at a.rules k r.0 there r.1;
        number = omega (arith, length-take-le k a.rules (omega (arith, there)));
        steps = more;
        composed = tos;
        are_composed = c;
        room = omega (arith, room, count);
        answer = form rule.right (length x.0);
        normalises = x.2.normal;
        reason = (omega (arith, long_, count, ap (length {A = TraceStep}) x.1, length-append old x.0), refl);
      }

  -- the steps of one rule more
  pub steps_on : (o : Composed) (rule : Rule) (cited : ℕ) → ((r : Rule × ℕ) → slice_get a.rules k ≡ Some r → IsComposing a.rules r old new o) → o ≡ composed rule cited → (on : List TraceStep) × (new ≡ a.trace ++ on) × AreComposed a.rules (length a.trace) (take (k + 1) a.rules) on (tos ++ (rule, cited) ∷ [])
  steps_on o rule cited h e =
      let r = rule_at a.rules k there in
      let x : IsComposing a.rules r.0 old new (composed rule cited) = subst (IsComposing a.rules r.0 old new) e (h r.0 r.1) in
      let next = composed_more a.rules (length a.trace) (take k a.rules) more tos r.0 x.0 (rule, cited) c (subst (λ n. IsComposed a.rules n r.0 x.0 (rule, cited)) count x.2) in
      let all : take k a.rules ++ r.0 ∷ [] ≡ take (k + 1) a.rules = ap (λ y. take k a.rules ++ y ∷ []) (rule_is a.rules k r.0 there r.1) ∙ sym (take_more a.rules k r.0 there) in
      (more ++ x.0, x.1 ∙ ap (λ xs. xs ++ x.0) begun ∙ append_assoc a.trace more x.0, subst (λ xs. AreComposed a.rules (length a.trace) xs (more ++ x.0) (tos ++ (rule, cited) ∷ [])) all next)

-- ---- behind the last rule

module _ (a : Answer) (k : ℕ) (past : length a.rules ≤ k) (more : List TraceStep) (tos : List (Rule × ℕ)) (c : AreComposed a.rules (length a.trace) (take k a.rules) more tos) (steps trace : List TraceStep) (begun : steps ≡ a.trace ++ more) (room : length steps ≤ 4096) (is : trace ≡ steps) (left : List (Rule × ℕ)) (thinned : IsThinned [] tos left) where
  all : AreComposed a.rules (length a.trace) a.rules more tos
  all = subst (λ xs. AreComposed a.rules (length a.trace) xs more tos) (take_all k a.rules past) c

  few : length a.trace + length more ≤ 4096
  few = omega (arith, room, ap (length {A = TraceStep}) begun, length-append a.trace more)

  pub answer_whole : IsAnswer a → IsGoodAnswer a → IsAnswer (with_rules a left trace)
  answer_whole answer good = subst (λ xs. IsAnswer (with_rules a left xs)) (sym (is ∙ begun)) (answer_made a answer good more tos left all thinned few)

  pub good_whole : IsAnswer a → IsGoodAnswer a → IsGoodAnswer (with_rules a left trace)
  good_whole answer good = subst (λ xs. IsGoodAnswer (with_rules a left xs)) (sym (is ∙ begun)) (good_made a answer good more tos left all thinned)

  pub system_whole : IsAnswer a → IsGoodAnswer a → IsReducedSystem left
  system_whole answer good = reduced_system a answer good more tos left all thinned

  pub reduced_whole : IsReduced a (with_rules a left trace)
  reduced_whole = record {
    steps = more;
    composed = tos;
    are_composed = all;
    room = few;
    thinned = thinned;
    trace = is ∙ begun;
    problem = refl;
    constraints = refl;
    cert = refl;
  }

-- one answer is told
pub same_answer : (x b : Answer) → Reduced x ≡ Reduced b → x ≡ b
same_answer x b e = cc
