-- The turns in which a right side is normalised.
use Rattle.std.proofs.Common.{ℕ, ◌+◌, ◌<◌, ◌≤◌, ◌≡◌, ◌∙◌, refl, sym, ap, subst, subst₂, arith, List, [], ◌∷◌, ◌++◌, length, get_or, Contains, Option, Some, None, Ok, Err}
use Rattle.std.specs.Prelude.{false, slice_get, option_map}
use Rattle.std.proofs.lemmas.List.{length-map}
use Rattle.std.proofs.lemmas.Option.{slice_get-map, slice_get-get_or, same_Some}
use Rattle.kb_term.specs.Tree.{Tree}
use Rattle.kb_term.specs.View.{tree_of}
use Rattle.kb_term.specs.FewArguments.{HasFewArguments}
use Rattle.kb_term.specs.Pair.{term_limit, variables_of_pair}
use Rattle.kb_term.specs.Rule.{Rule}
use Rattle.kb_term.specs.declared.term.Term.{Term}
use Rattle.kb_term.specs.declared.limit.Limit.{Limit}
use Rattle.kb_term.specs.declared.fault.TermFault.TheVariants.{Large}
use Rattle.kb_term.specs.Proving.{RewritesAt}
use Rattle.kb_term.proofs.FewArguments.{few_from_arities}
use Rattle.kb_rewrite.specs.NormalForm.{IsFirstRedex, NormalisesTo, long, large}
use Rattle.kb_rewrite.specs.Search.{IsRedexAnswer, IsStepAnswer}
use Rattle.kb_rewrite.specs.declared.redex.Redex.{Redex}
use Rattle.kb_rewrite.proofs.FirstRedexes.{rule_inside}
use Rattle.kb_rewrite.proofs.Runs.{Run, run_none, answers_form, answers_large}
use Rattle.kb_overlap.specs.Trace.{TraceStep, item}
use Rattle.kb_trace.specs.Steps.{pairs_of}
use Rattle.std.proofs.lemmas.List.Elements.{All-cons}
use Rattle.kb_lemmas.proofs.Membership.{contains_first, slice_contains}
use Rattle.kb_checker.specs.Answers.{Answer, rules_of, IsAnswer, IsGoodAnswer, IsTraced}
use Rattle.kb_reduce.specs.Reducing.{rewriting, with_right, IsRewriting, AreRewritings, IsComposed}
use Rattle.kb_reduce.specs.Running.{IsBehind}
use Rattle.kb_reduce.proofs.Traced.{Begins, IsAt, item_more, pairs_append, at_first, rewritings_right, right_side}

-- ---- rewritings and runs

-- rewritings, and one more
pub rewritings_more : (rules : List (Rule × ℕ)) (n : ℕ) (steps : List TraceStep) (step : TraceStep) (from mid : Rule × ℕ) (u : Tree) → AreRewritings rules n steps from mid → IsRewriting rules mid step u → AreRewritings rules n (steps ++ step ∷ []) from (with_right mid u (n + length steps + 1))
rewritings_more rules n [] step from mid u e w = (u, subst (λ x. IsRewriting rules x step u) (sym e) w, λ i. with_right (e i) u (count i))
  where
    count : n + 1 ≡ n + length {A = TraceStep} [] + 1
    count = omega arith
rewritings_more rules n (s ∷ steps) step from mid u (v, h, more) w =
    let count : n + 1 + length steps + 1 ≡ n + length (s ∷ steps) + 1 = omega arith in
    (v, h, subst (λ k. AreRewritings rules (n + 1) (steps ++ step ∷ []) (with_right from v (n + 1)) (with_right mid u k)) count (rewritings_more rules (n + 1) steps step (with_right from v (n + 1)) mid u more w))

-- the run of the strategy that rewritings tell
pub run_of : (rules : List (Rule × ℕ)) (n : ℕ) (steps : List TraceStep) (from to : Rule × ℕ) → AreRewritings rules n steps from to → Run (rules_of rules) from.0.right to.0.right (length steps)
run_of rules n [] from to e = run_none (rules_of rules) from.0.right to.0.right (ap (λ (x : Rule × ℕ). x.0.right) e)
run_of rules n (step ∷ steps) from to (u, w, more) =
    let r = run_of rules (n + 1) steps (with_right from u (n + 1)) to more in
    let same : w.by.0 ≡ w.first.redex.rule = same_Some _ _ (sym (slice_get-map (λ (x : Rule × ℕ). x.0) rules w.index ∙ ap (option_map (λ (x : Rule × ℕ). x.0)) w.there) ∙ w.first.redex.there) in
    (u ∷ r.0, (((w.position, w.index, w.first, subst (λ (x : Rule). RewritesAt x w.position from.0.right u) same w.rewrites), r.1.0), All-cons (λ v. term_limit v ≡ None) u r.0 w.within r.1.1), omega (arith, r.2))

-- ---- a turn

-- the first redex that is found
pub first_of : (rules : List Rule) (s : Tree) (o : Option Redex) (r : Redex) → IsRedexAnswer rules false s o → o ≡ Some r → IsFirstRedex rules false s r.position r.rule
first_of rules s o r h e = let k : IsRedexAnswer rules false s (Some r) = subst (IsRedexAnswer rules false s) e h in k.0

-- the index of its rule is one of the rules'
pub index_within : (rules : List (Rule × ℕ)) (s : Tree) (o : Option Redex) (r : Redex) → IsRedexAnswer (rules_of rules) false s o → o ≡ Some r → r.rule < length rules
index_within rules s o r h e =
    let first = first_of (rules_of rules) s o r h e in
    omega (arith, rule_inside (rules_of rules) r.rule first.redex.rule first.redex.there, length-map rules (λ (x : Rule × ℕ). x.0))

-- the step at it is a rewriting
pub rewriting_made : (rules : List (Rule × ℕ)) (from by : Rule × ℕ) (o : Option Redex) (r : Redex) (next : Term) → IsRedexAnswer (rules_of rules) false from.0.right o → o ≡ Some r → slice_get rules r.rule ≡ Some by → IsStepAnswer (rules_of rules) from.0.right r.position r.rule (Ok next) → IsRewriting rules from (rewriting from r.position by (tree_of next)) (tree_of next)
rewriting_made rules from by o r next h e there answer =
    let first = first_of (rules_of rules) from.0.right o r h e in
    let made = answer by.0 (slice_get-map (λ (x : Rule × ℕ). x.0) rules r.rule ∙ ap (option_map (λ (x : Rule × ℕ). x.0)) there) in
    record {
      position = r.position;
      index = r.rule;
      by = by;
      there = there;
      first = first;
      rewrites = subst (λ v. RewritesAt by.0 r.position from.0.right v) (sym made.2.0) made.1;
      within = ap term_limit made.2.0 ∙ made.2.1;
      told = refl;
    }

-- by what the call was given
pub made_by : (rules list : List (Rule × ℕ)) (alone : List Rule) (rule by : Rule × ℕ) (s t : Tree) (o : Option Redex) (r : Redex) (next : Term) → alone ≡ rules_of rules → s ≡ rule.0.right → t ≡ rule.0.right → IsRedexAnswer alone false s o → o ≡ Some r → IsStepAnswer alone t r.position r.rule (Ok next) → list ≡ rules → r.rule < length list → by ≡ get_or list r.rule by → IsRewriting rules rule (rewriting rule r.position by (tree_of next)) (tree_of next)
made_by rules list alone rule by s t o r next ea es et h e answer el room is =
    let found : IsRedexAnswer (rules_of rules) false rule.0.right o = subst₂ (λ xs x. IsRedexAnswer xs false x o) ea es h in
    let stepped : IsStepAnswer (rules_of rules) rule.0.right r.position r.rule (Ok next) = subst₂ (λ xs x. IsStepAnswer xs x r.position r.rule (Ok next)) ea et answer in
    rewriting_made rules rule by o r next found e (ap (λ xs. slice_get xs r.rule) (sym el) ∙ slice_get-get_or list r.rule by room ∙ ap Some (sym is)) stepped

pub index_by : (rules : List (Rule × ℕ)) (alone : List Rule) (s : Tree) (o : Option Redex) (r : Redex) → alone ≡ rules_of rules → IsRedexAnswer alone false s o → o ≡ Some r → r.rule < length rules
index_by rules alone s o r ea h e = index_within rules s o r (subst (λ xs. IsRedexAnswer xs false s o) ea h) e

-- the rule that has no redex any more is composed
pub composed_by : (rules : List (Rule × ℕ)) (n : ℕ) (more : List TraceStep) (from rule : Rule × ℕ) (alone : List Rule) (s : Tree) (o : Option Redex) → alone ≡ rules_of rules → s ≡ rule.0.right → IsRedexAnswer alone false s o → o ≡ None → length more ≤ 10000 → AreRewritings rules n more from rule → IsComposed rules n from more rule
composed_by rules n more from rule alone s o ea es h e few w =
    let found : IsRedexAnswer (rules_of rules) false rule.0.right o = subst₂ (λ xs x. IsRedexAnswer xs false x o) ea es h in
    record {
      rewritings = w;
      normal = answers_form (rules_of rules) from.0.right rule.0.right (length more) (run_of rules n more from rule w) few (subst (IsRedexAnswer (rules_of rules) false rule.0.right) e found);
    }

-- a redex is left after the last turn
pub long_by : (rules : List (Rule × ℕ)) (n : ℕ) (more : List TraceStep) (from rule : Rule × ℕ) (alone : List Rule) (s : Tree) (o : Option Redex) (r : Redex) → alone ≡ rules_of rules → s ≡ rule.0.right → IsRedexAnswer alone false s o → o ≡ Some r → length more ≡ 10000 → AreRewritings rules n more from rule → NormalisesTo (rules_of rules) from.0.right (long 10000)
long_by rules n more from rule alone s o r ea es h e all w =
    let found : IsRedexAnswer (rules_of rules) false rule.0.right o = subst₂ (λ xs x. IsRedexAnswer xs false x o) ea es h in
    let run = run_of rules n more from rule w in
    (refl, run.0, rule.0.right, run.1, run.2 ∙ all, (r.position, r.rule, (first_of (rules_of rules) rule.0.right o r found e).redex))

-- the result of a step passes a limit
pub large_by : (rules : List (Rule × ℕ)) (n : ℕ) (more : List TraceStep) (from rule : Rule × ℕ) (alone : List Rule) (s t : Tree) (o : Option Redex) (r : Redex) (limit : Limit) → alone ≡ rules_of rules → s ≡ rule.0.right → t ≡ rule.0.right → IsRedexAnswer alone false s o → o ≡ Some r → IsStepAnswer alone t r.position r.rule (Err (Large limit)) → length more < 10000 → AreRewritings rules n more from rule → NormalisesTo (rules_of rules) from.0.right (large limit)
large_by rules n more from rule alone s t o r limit ea es et h e answer few w =
    let found : IsRedexAnswer (rules_of rules) false rule.0.right o = subst₂ (λ xs x. IsRedexAnswer xs false x o) ea es h in
    let stepped : IsStepAnswer (rules_of rules) rule.0.right r.position r.rule (Err (Large limit)) = subst₂ (λ xs x. IsStepAnswer xs x r.position r.rule (Err (Large limit))) ea et answer in
    let first = first_of (rules_of rules) rule.0.right o r found e in
    let made = stepped first.redex.rule first.redex.there in
    answers_large (rules_of rules) from.0.right rule.0.right made.0 (length more) limit (run_of rules n more from rule w) few (r.position, r.rule, first, made.1) made.2

-- ---- the rule at hand

module _ (a : Answer) (form : IsAnswer a) (good : IsGoodAnswer a) (old : List TraceStep) (behind : IsBehind a.trace old) where
  pairs_behind : (more : List TraceStep) → Begins a (pairs_of (old ++ more))
  pairs_behind more k e h =
      ap (λ xs. item (pairs_of (xs ++ more)) k) behind.1
      ∙ ap (λ xs. item xs k) (pairs_append (a.trace ++ behind.0) more ∙ ap (λ xs. xs ++ pairs_of more) (pairs_append a.trace behind.0))
      ∙ item_more (pairs_of a.trace ++ pairs_of behind.0) (pairs_of more) k e (item_more (pairs_of a.trace) (pairs_of behind.0) k e h)

  pairs_old : Begins a (pairs_of old)
  pairs_old k e h = ap (λ xs. item (pairs_of xs) k) behind.1 ∙ ap (λ xs. item xs k) (pairs_append a.trace behind.0) ∙ item_more (pairs_of a.trace) (pairs_of behind.0) k e h

  -- a rule of the answer cites its pair
  pub by_traced : (more steps : List TraceStep) (by : Rule × ℕ) → steps ≡ old ++ more → Contains a.rules by → IsTraced steps by
  by_traced more steps by e i = subst (λ xs. IsTraced xs by) (sym e) (at_first a form good (pairs_of (old ++ more)) (pairs_behind more) by i).cited

  module _ (k : ℕ) (there : k < length a.rules) (more : List TraceStep) (rule : Rule × ℕ) (w : (r : Rule × ℕ) → slice_get a.rules k ≡ Some r → AreRewritings a.rules (length old) more r rule) where
    pub here : IsAt a (pairs_of (old ++ more)) rule
    here =
        let given : Rule × ℕ = get_or a.rules k rule in
        let at : slice_get a.rules k ≡ Some given = slice_get-get_or a.rules k rule there in
        let count : length old ≡ length (pairs_of old) = sym (length-map old (λ (s : TraceStep). s.pair)) in
        subst (λ ps. IsAt a ps rule) (sym (pairs_append old more)) ((rewritings_right a form good (pairs_of old) pairs_old more given rule (at_first a form good (pairs_of old) pairs_old given (slice_contains a.rules k given at)) (subst (λ n. AreRewritings a.rules n more given rule) count (w given at))).at rule (contains_first rule []))

    pub few_here : HasFewArguments rule.0.right
    few_here = few_from_arities a.problem.signature (λ i d l. omega (arith, form.problem.arities i d l)) rule.0.right here.sides.right.well_formed

    pub traced_here : (steps : List TraceStep) → steps ≡ old ++ more → IsTraced steps rule
    traced_here steps e = subst (λ xs. IsTraced xs rule) (sym e) here.cited

    pub pair_few : (step : TraceStep) (l u : Tree) → l ≡ rule.0.left → IsRewriting a.rules rule step u → length (variables_of_pair l u) ≤ 64
    pair_few step l u e h = subst (λ x. length (variables_of_pair x u) ≤ 64) (sym e) (right_side a form good (pairs_of (old ++ more)) rule step u here h).0.variables

    pub pair_differs : (step : TraceStep) (l u : Tree) → l ≡ rule.0.left → IsRewriting a.rules rule step u → ¬ (l ≡ u)
    pair_differs step l u e h q = (right_side a form good (pairs_of (old ++ more)) rule step u here h).1 (sym e ∙ q)
