-- The steps that composing adds to a trace are right, and trace the composed rules.
use Rattle.std.proofs.Common.{ℕ, zero, suc, ◌+◌, ◌-◌, ◌≤◌, ◌≡◌, ◌∙◌, refl, sym, ap, subst, arith, ◌&&◌, List, [], ◌∷◌, ◌++◌, append-nil, append_assoc, length, length-append, All, Contains, Some, true, ⊎_elim}
use Rattle.std.specs.Prelude.{nat_le, slice_get}
use Rattle.std.proofs.lemmas.List.{length-map}
use Rattle.std.proofs.lemmas.List.Elements.{All-contains, All-append, All-cons, All-nil}
use Rattle.std.proofs.lemmas.Bool.{le-leb, and_from}
use Rattle.kb_lemmas.proofs.Membership.{only_member, contains_cases, contains_first, contains_behind, contains_map, slice_contains}
use Rattle.kb_lemmas.proofs.Lists.{last_at}
use Rattle.kb_term.specs.Tree.{Tree, variable}
use Rattle.kb_term.specs.Pair.{Pair, canonical}
use Rattle.kb_term.specs.Rule.{Rule, IsRule, rule_between, pair_of_rule}
use Rattle.kb_term.specs.Signature.{Signature, IsWellFormed, IsRuleOver, IsEquationWithinLimits}
use Rattle.kb_term.proofs.Chains.{Bounded, bounded_from, reaches_refl, reaches_one, reaches_trans, steps_keep}
use Rattle.kb_term.proofs.Relation.{Steps}
use Rattle.kb_term.proofs.Steps.{Step, at_root}
use Rattle.kb_term.proofs.Instances.{instance-variable}
use Rattle.kb_term.proofs.Bridge.{step_from_position, halts_from}
use Rattle.kb_lpo.proofs.Arities.{keeps_well}
use Rattle.kb_overlap.specs.Trace.{TraceStep, item, IsRightRewrite, IsRightOrigin, IsRightAfter}
use Rattle.kb_trace.specs.Steps.{pairs_of}
use Rattle.kb_trace.specs.TraceText.{is_up_to, is_position, is_cited, is_origin, IsStepForm}
use Rattle.kb_trace.proofs.Cited.{item_before}
use Rattle.kb_trace.proofs.StepForms.{is_up_to-true}
use Rattle.kb_laws.proofs.RunLaws.{Chain}
use Rattle.kb_checker.specs.Answers.{Answer, rules_of, IsAnswer, IsRuleForm, IsTraced, IsGoodAnswer}
use Rattle.kb_checker.proofs.Sound.{oriented_rules}
use Rattle.kb_reduce.specs.Reducing.{direction_of, rewriting, with_right, IsRewriting, AreRewritings, AreComposed}
use Rattle.kb_reduce.proofs.Below.{bounded_chain}
use Rattle.kb_reduce.proofs.Certified.{chains_certified}
use Rattle.kb_reduce.proofs.Numbering.{with_right_within}
use Rattle.kb_reduce.proofs.Directions.{item_within, direction_small, rule_back, right_rewrite}
use Rattle.kb_reduce.proofs.Forms.{position_form, pair_form}

-- ---- lists of pairs

item_last : {X : Type 0} (xs : List X) (x : X) → item (xs ++ x ∷ []) (length xs + 1) ≡ Some x
item_last xs x =
    let some : ¬ (length xs + 1 ≡ 0) = λ e. omega (arith, e) in
    let at : length xs + 1 - 1 ≡ length xs = omega arith in
    item_before (xs ++ x ∷ []) (length xs + 1) some ∙ ap (slice_get (xs ++ x ∷ [])) at ∙ last_at xs x

more_get : {X : Type 0} (xs ys : List X) (i : ℕ) (x : X) → slice_get xs i ≡ Some x → slice_get (xs ++ ys) i ≡ Some x
more_get [] ys i x e = absurd (cc)
more_get (y ∷ xs) ys zero x e = e
more_get (y ∷ xs) ys (suc i) x e = more_get xs ys i x e

pub item_more : {X : Type 0} (xs ys : List X) (i : ℕ) (x : X) → item xs i ≡ Some x → item (xs ++ ys) i ≡ Some x
item_more xs ys zero x e = absurd (cc)
item_more xs ys (suc i) x e = more_get xs ys i x e

pub pairs_append : (xs ys : List TraceStep) → pairs_of (xs ++ ys) ≡ pairs_of xs ++ pairs_of ys
pairs_append [] ys = refl
pairs_append (x ∷ xs) ys = ap (x.pair ∷◌) (pairs_append xs ys)

pub right_append : (es : List (Tree × Tree)) (before : List Pair) (xs ys : List TraceStep) → IsRightAfter es before xs → IsRightAfter es (before ++ pairs_of xs) ys → IsRightAfter es before (xs ++ ys)
right_append es before [] ys r h = subst (λ ps. IsRightAfter es ps ys) (append-nil before) h
right_append es before (x ∷ xs) ys r h = (r.0, right_append es (before ++ x.pair ∷ []) xs ys r.1 (subst (λ ps. IsRightAfter es ps ys) (sym (append_assoc before (x.pair ∷ []) (pairs_of xs))) h))

-- ---- loops

no_loop : {A : Type 0} (R : A → A → Type 0) (n : ℕ) (s : A) → Bounded R n s → ¬ Chain R s s
no_loop R zero s b c = b c.0 c.1
no_loop R (suc n) s b c = no_loop R n s (bounded_chain R R n s s b c) c

-- the pairs begin with those of the answer's trace
abbrev pub Begins : Answer → List Pair → Type 0
Begins a pairs = (k : ℕ) (e : Pair) → item (pairs_of a.trace) k ≡ Some e → item pairs k ≡ Some e

-- a rule that is within the limits, is a chain of the answer's rules, and cites its pair
pub record IsAt (a : Answer) (pairs : List Pair) (r : Rule × ℕ) : Type 0 where
  pub sides : IsEquationWithinLimits a.problem.signature (r.0.left, r.0.right)
  pub chain : Chain (Step (Contains (rules_of a.rules))) r.0.left r.0.right
  pub cited : item pairs r.1 ≡ Some (pair_of_rule r.0)

pub at_more : (a : Answer) (pairs more : List Pair) (r : Rule × ℕ) → IsAt a pairs r → IsAt a (pairs ++ more) r
at_more a pairs more r h = record { sides = h.sides; chain = h.chain; cited = item_more pairs more r.1 (pair_of_rule r.0) h.cited }

pub begins_more : (a : Answer) (pairs more : List Pair) → Begins a pairs → Begins a (pairs ++ more)
begins_more a pairs more h k e q = item_more pairs more k e (h k e q)

module _ (a : Answer) (form : IsAnswer a) (good : IsGoodAnswer a) where
  abbrev R : Tree → Tree → Type 0
  R = Step (Contains (rules_of a.rules))

  own_rule : (r : Rule × ℕ) → Contains a.rules r → Contains (rules_of a.rules) r.0
  own_rule r i = contains_map (λ (x : Rule × ℕ). x.0) a.rules r i

  -- each rule of the answer
  pub at_first : (pairs : List Pair) → Begins a pairs → (r : Rule × ℕ) → Contains a.rules r → IsAt a pairs r
  at_first pairs begins r i = record {
    sides = (All-contains (IsRuleForm a.problem.signature) a.rules r form.rules i).sides;
    chain = (r.0.right, at_root (r.0, variable, own_rule r i, sym (instance-variable r.0.left), sym (instance-variable r.0.right)), reaches_refl R r.0.right);
    cited = begins r.1 (pair_of_rule r.0) (All-contains (IsTraced a.trace) a.rules r good.traced i);
  }

  kept : (s t : Tree) → IsWellFormed a.problem.signature s → R s t → IsWellFormed a.problem.signature t
  kept = keeps_well a.problem.signature (rules_of a.rules) good.system.over

  -- a chain of rules is a rule, between different terms
  pub chain_over : (l u : Tree) → IsWellFormed a.problem.signature l → Chain R l u → IsRuleOver a.problem.signature (rule_between l u)
  chain_over l u well c =
      let g = a.problem.signature in
      let one = rule_between l u ∷ [] in
      let right : IsWellFormed g u = steps_keep R (IsWellFormed g) kept c.2.0 c.0 u (kept l c.0 well c.1) c.2.1 in
      let all : (P : Rule → Type 0) → P (rule_between l u) → All P one = λ P h. All-cons P (rule_between l u) [] h (All-nil P) in
      let ordered = chains_certified g a.cert form.cert (rules_of a.rules) one good.system.over (λ r i. subst (λ (x : Rule). IsWellFormed g x.left × ((n : ℕ) × Steps R (suc n) x.left x.right)) (only_member (rule_between l u) r i) (well, (c.2.0, (c.0, c.1, c.2.1)))) good.system.ordered in
      let rules : All IsRule one = oriented_rules g a.cert form.cert one (all (λ (r : Rule). IsWellFormed g r.right) right) ordered in
      record { is_rule = All-contains IsRule one (rule_between l u) rules (contains_first (rule_between l u) []); left = well; right = right }

  pub differ : (l u : Tree) → IsWellFormed a.problem.signature l → Chain R l u → ¬ (l ≡ u)
  differ l u well c e =
      let h = halts_from (rules_of a.rules) l (good.system.terminating l well) in
      no_loop R h.0 l (bounded_from R h.0 l h.1) (subst (Chain R l) (sym e) c)

  -- the rule that a rewriting uses
  by_is : (from : Rule × ℕ) (step : TraceStep) (u : Tree) (w : IsRewriting a.rules from step u) → Contains a.rules w.by
  by_is from step u w = slice_contains a.rules w.index w.by w.there

  rewriting_chain : (pairs : List Pair) (from : Rule × ℕ) (step : TraceStep) (u : Tree) → IsAt a pairs from → IsRewriting a.rules from step u → Chain R from.0.left u
  rewriting_chain pairs from step u h w =
      let one = step_from_position (Contains (rules_of a.rules)) from.0.right u (w.by.0, own_rule w.by (by_is from step u w), w.position, w.rewrites) in
      (h.chain.0, h.chain.1, reaches_trans R h.chain.0 from.0.right u h.chain.2 (reaches_one R from.0.right u one))

  -- what a rewriting of a rule that is there makes of it
  pub record IsRightRewriting (pairs : List Pair) (from : Rule × ℕ) (step : TraceStep) (u : Tree) : Type 0 where
    pub right : IsRightOrigin a.problem.equations (item pairs) step.origin step.pair
    pub next : IsAt a (pairs ++ step.pair ∷ []) (with_right from u (length pairs + 1))
    pub written : length pairs + 1 ≤ 4096 → IsStepForm a.problem.signature step

  -- what its new right side is: over the signature, of no other variables, and not the left side
  pub right_side : (pairs : List Pair) (from : Rule × ℕ) (step : TraceStep) (u : Tree) → IsAt a pairs from → IsRewriting a.rules from step u → IsEquationWithinLimits a.problem.signature (from.0.left, u) × ¬ (from.0.left ≡ u) × IsRuleOver a.problem.signature (rule_between from.0.left u)
  right_side pairs from step u h w =
      let g = a.problem.signature in
      let c = rewriting_chain pairs from step u h w in
      let old = chain_over from.0.left from.0.right h.sides.left.well_formed h.chain in
      let new = chain_over from.0.left u h.sides.left.well_formed c in
      (with_right_within g from.0.left from.0.right u h.sides old.is_rule.holds_variables new.is_rule.holds_variables new.right w.within, differ from.0.left u h.sides.left.well_formed c, new)

  pub rewriting_right : (pairs : List Pair) → Begins a pairs → (from : Rule × ℕ) (step : TraceStep) (u : Tree) → IsAt a pairs from → IsRewriting a.rules from step u → IsRightRewriting pairs from step u
  rewriting_right pairs begins from step u h w = subst (λ (s : TraceStep). IsRightRewriting pairs from s u) (sym w.told) (record {
    right = ((small, direction_small by.0), (pair_of_rule from.0, pair_of_rule by.0, h.cited, by_at.cited, subst (λ (r : Rule). IsRightRewrite (pair_of_rule from.0) (1 - direction_of from.0) w.position r (canonical l u)) (sym (rule_back by.0 by_at.sides.by_occurrence)) (right_rewrite from.0 by.0 w.position u h.sides.by_occurrence by_over.is_rule w.rewrites new.2.is_rule.holds_variables new.1)));
    next = record { sides = new.0; chain = rewriting_chain pairs from step u h w; cited = item_last pairs (canonical l u) };
    written = λ room. record { origin = origin room; pair = pair_form g l u new.2 new.0 new.1 };
  })
    where
      g : Signature
      g = a.problem.signature

      l : Tree
      l = from.0.left

      by : Rule × ℕ
      by = w.by

      by_at : IsAt a pairs by
      by_at = at_first pairs begins by (by_is from step u w)

      by_over : IsRuleOver a.problem.signature by.0
      by_over = All-contains (IsRuleOver a.problem.signature) (rules_of a.rules) by.0 good.system.over (own_rule by (by_is from step u w))

      new : IsEquationWithinLimits a.problem.signature (from.0.left, u) × ¬ (from.0.left ≡ u) × IsRuleOver a.problem.signature (rule_between from.0.left u)
      new = right_side pairs from step u h w

      small : 1 - direction_of from.0 ≤ 1
      small = omega arith

      origin : length pairs + 1 ≤ 4096 → is_origin (rewriting from w.position by u).origin ≡ true
      origin room =
          let k = item_within pairs from.1 (pair_of_rule from.0) h.cited in
          let m = item_within pairs by.1 (pair_of_rule by.0) by_at.cited in
          let place : is_position w.position ≡ true = position_form a.problem.signature form.problem.arities w.position from.0.right w.first.redex.matches.0 h.sides.right w.first.redex.matches.1 in
          and_from (is_up_to 4096 from.1 && nat_le (1 - direction_of from.0) 1 && is_position w.position) (is_cited (record { node = by.1; dir = direction_of by.0 }))
          (and_from (is_up_to 4096 from.1 && nat_le (1 - direction_of from.0) 1) (is_position w.position) (and_from (is_up_to 4096 from.1) (nat_le (1 - direction_of from.0) 1) (is_up_to-true 4096 from.1 k.0 (omega (arith, k.1, room))) (le-leb (1 - direction_of from.0) 1 small)) place)
          (and_from (is_up_to 4096 by.1) (nat_le (direction_of by.0) 1) (is_up_to-true 4096 by.1 m.0 (omega (arith, m.1, room))) (le-leb (direction_of by.0) 1 (direction_small by.0)))

  -- what rewritings of a rule that is there make of it
  pub record AreRight (pairs : List Pair) (steps : List TraceStep) (tos : List (Rule × ℕ)) : Type 0 where
    pub right : IsRightAfter a.problem.equations pairs steps
    pub at : (t : Rule × ℕ) → Contains tos t → IsAt a (pairs ++ pairs_of steps) t
    pub written : length pairs + length steps ≤ 4096 → All (IsStepForm a.problem.signature) steps

  pub rewritings_right : (pairs : List Pair) → Begins a pairs → (steps : List TraceStep) (from to : Rule × ℕ) → IsAt a pairs from → AreRewritings a.rules (length pairs) steps from to → AreRight pairs steps (to ∷ [])
  rewritings_right pairs begins [] from to h e = record {
    right = tt;
    at = λ t i. subst (IsAt a (pairs ++ [])) (e ∙ only_member to t i) (at_more a pairs [] from h);
    written = λ room. All-nil (IsStepForm a.problem.signature);
  }
  rewritings_right pairs begins (step ∷ steps) from to h (u, w, more) =
      let one = rewriting_right pairs begins from step u h w in
      let next = pairs ++ step.pair ∷ [] in
      let count : length pairs + 1 ≡ length next = omega (arith, length-append pairs (step.pair ∷ [])) in
      let rest = rewritings_right next (begins_more a pairs (step.pair ∷ []) begins) steps (with_right from u (length pairs + 1)) to one.next (subst (λ n. AreRewritings a.rules n steps (with_right from u (length pairs + 1)) to) count more) in
      record {
        right = (one.right, rest.right);
        at = λ t i. subst (λ ps. IsAt a ps t) (append_assoc pairs (step.pair ∷ []) (pairs_of steps)) (rest.at t i);
        written = λ room. All-cons (IsStepForm a.problem.signature) step steps (one.written (omega (arith, room))) (rest.written (omega (arith, room, count)));
      }

  pub composed_right : (pairs : List Pair) → Begins a pairs → (froms : List (Rule × ℕ)) (steps : List TraceStep) (tos : List (Rule × ℕ)) → ((r : Rule × ℕ) → Contains froms r → Contains a.rules r) → AreComposed a.rules (length pairs) froms steps tos → AreRight pairs steps tos
  composed_right pairs begins [] steps tos there (none, empty) = record {
    right = subst (IsRightAfter a.problem.equations pairs) (sym none) tt;
    at = λ t i. absurd (omega (arith, i.1, ap (length {A = Rule × ℕ}) empty));
    written = λ room. subst (All (IsStepForm a.problem.signature)) (sym none) (All-nil (IsStepForm a.problem.signature));
  }
  composed_right pairs begins (from ∷ froms) steps tos there (first, rest, to, others, es, et, one, more) =
      let now = rewritings_right pairs begins first from to (at_first pairs begins from (there from (contains_first from froms))) one.rewritings in
      let next = pairs ++ pairs_of first in
      let count : length pairs + length first ≡ length next = omega (arith, length-append pairs (pairs_of first), length-map first (λ (s : TraceStep). s.pair)) in
      let later = composed_right next (begins_more a pairs (pairs_of first) begins) froms rest others (λ r i. there r (contains_behind from froms r i)) (subst (λ n. AreComposed a.rules n froms rest others) count more) in
      let all : pairs ++ pairs_of steps ≡ next ++ pairs_of rest = ap (λ xs. pairs ++ pairs_of xs) es ∙ ap (pairs ++◌) (pairs_append first rest) ∙ sym (append_assoc pairs (pairs_of first) (pairs_of rest)) in
      record {
        right = subst (IsRightAfter a.problem.equations pairs) (sym es) (right_append a.problem.equations pairs first rest now.right later.right);
        at = λ t i. subst (λ ps. IsAt a ps t) (sym all) (⊎_elim (λ e. at_more a next (pairs_of rest) t (now.at t (subst (λ x. Contains (to ∷ []) x) e (contains_first to [])))) (later.at t) (contains_cases to others t (subst (λ ts. Contains ts t) et i)));
        written = λ room. subst (All (IsStepForm a.problem.signature)) (sym es) (All-append (IsStepForm a.problem.signature) first rest (now.written (omega (arith, room, ap (length {A = TraceStep}) es, length-append first rest))) (later.written (omega (arith, room, count, ap (length {A = TraceStep}) es, length-append first rest))));
      }
