-- An answer of a complete process on a reached board is good, is accepted, has the form of an answer, and is one.
use Rattle.std.proofs.Common.{ℕ, suc, eqb→eq, ◌+◌, ◌<◌, ◌≤◌, ◌≡◌, ◌∙◌, refl, sym, ap, ap₂, subst, arith, ⊎_elim, eq-eqb, ◌==◌, ◌⊎◌, inl, inr, List, [], ◌∷◌, ◌++◌, map, take, not, length, Contains, All, Bool, true, false, cond, Option, Some, slice_get}
use Rattle.std.specs.Prelude.{T, option_map}
use Rattle.std.specs.List.{AllZip, cons_option, position_or_len}
use Rattle.std.specs.Option.{option_map_or}
use Rattle.std.proofs.lemmas.List.{length-map}
use Rattle.std.proofs.lemmas.List.Elements.{All-contains, Contains-append_cases, Contains-append_left, Contains-append_right}
use Rattle.std.proofs.lemmas.Option.{slice_get-map, slice_get_within}
use Rattle.std.proofs.lemmas.Slice.Zip.{AllZip-long}
use Rattle.kb_term.specs.Pair.{Pair, place_in}
use Rattle.kb_term.specs.Rule.{Rule, rule_of, pair_of_rule}
use Rattle.kb_term.specs.Signature.{Signature, Problem, IsWithinLimits}
use Rattle.kb_term.specs.declared.origin.RuleRef.{RuleRef}
use Rattle.kb_term.specs.declared.origin.Origin.{Origin}
use Rattle.kb_cert.specs.CertificateText.{is_certificate}
use Rattle.kb_cert.specs.Family.{Orders}
use Rattle.kb_cert.proofs.Members.{member_text}
use Rattle.kb_cert.proofs.Ordering.{orders_among}
use Rattle.kb_cert.specs.declared.certificate.Certificate.{Certificate}
use Rattle.kb_overlap.specs.Trace.{TraceStep, item, IsRightTrace}
use Rattle.kb_laws.specs.Complete.{IsCompleteSystem}
use Rattle.kb_laws.specs.Overlaps.{OverlapsClose, HaveOneNormalForm}
use Rattle.kb_laws.proofs.Complete.{all_from}
use Rattle.kb_text.specs.Terms.{IsPairForm}
use Rattle.kb_trace.specs.Steps.{pairs_of as step_pairs}
use Rattle.kb_trace.specs.Reached.{cites, CitesEarlier, IsStepOf, IsTraceOf, number_in}
use Rattle.kb_trace.specs.TraceText.{is_origin, IsStepForm, IsTraceForm}
use Rattle.kb_trace.proofs.Reaching.{reached_more}
use Rattle.kb_trace.proofs.StepForms.{IsUpTo}
use Rattle.kb_checker.specs.Answers.{Answer, rules_of as answer_rules, IsRuleForm, IsAnswer, IsTraced, IsOriented, IsGoodAnswer}
use Rattle.kb_checker.specs.Verdicts.{IsAccepted, IsProved}
use Rattle.kb_label.specs.Names.{Name}
use Rattle.kb_label.specs.declared.verdict.Verdict.{Verdict}
use Rattle.kb_label.specs.declared.verdict.Verdict.TheVariants.{Complete, AllFailed, Spent}
use Rattle.kb_label.specs.declared.verdict.Spent.TheVariants.{Commits, Over}
use Rattle.kb_report.specs.declared.report.Report.{Report}
use Rattle.kb_report.specs.declared.report.Report.TheVariants.{System}
use Rattle.mkb_model.specs.Plain.{Plain, PlainNode, rules_of, constraints_of, pair_at, rule_at, rules_at, certificate_of}
use Rattle.mkb_model.specs.Effects.{pair_eq}
use Rattle.mkb_model.specs.Limits.{IsLimitedPair}
use Rattle.mkb_model.specs.Verdicts.{verdict}
use Rattle.mkb_model.proofs.Lists.{same_test}
use mathlib.Core.Bool.{true≢false}
use Rattle.mkb_model.proofs.commits.Views.{there_pair}
use Rattle.kb_lemmas.proofs.Membership.{contains_cases, contains_first, contains_behind, contains_map, contains_mapped, none_in}
use Rattle.kb_lemmas.proofs.Options.{some_is, some_of_map}
use Rattle.mkb_model.proofs.nodes.Pairs.{pair_eq-eq, pair_eq-refl}
use Rattle.mkb_rules.specs.Named.{IsRuleThere}
use Rattle.mkb_rules.proofs.Viewed.{rule_there, constraints_there}
use Rattle.mkb_report.specs.Cited.{cited_by, number_with}
use Rattle.mkb_report.specs.Reports.{IsReached, AreCited, IsAnswerOf, IsReportOf, pairs_of, nodes_of, wanted_nodes}
use Rattle.mkb_report.proofs.Rising.{few_rising, rising_from}
use Rattle.mkb_report.proofs.Traces.{node_pair, earlier_is, one_kept, one_trace, right_cites, right_trace, traced}
use Rattle.mkb_report.proofs.Forms.{origin_form, pair_form, rule_form, rule_pair}
use Rattle.mkb_report.proofs.Boards.{IsGoodProcess, few_rules, few_constraints, fits, good, limited, pair_of_node, right}
use Rattle.mkb_report.proofs.Viewed.{parts}

-- ---- rules and the numbers that they cite

place_below : (xs : List ℕ) (m : ℕ) → Contains xs m → place_in xs m < length xs
place_below [] m c = none_in c
place_below (x ∷ xs) m c = go (λ d. place_below xs m d) (x == m) refl (contains_cases x xs m c)
  where
    go : (Contains xs m → place_in xs m < length xs) → (b : Bool) → (x == m) ≡ b → (x ≡ m) ⊎ Contains xs m → cond (not b) (1 + place_in xs m) 0 < suc (length xs)
    go ih true e d = omega arith
    go ih false e (inl q) = absurd (true≢false (sym (eq-eqb x m q) ∙ e))
    go ih false e (inr d) = omega (arith, ih d)

contains_zip : {A B : Type 0} (R : A → B → Type 0) (xs : List A) (ys : List B) (y : B) → AllZip R xs ys → Contains ys y → (x : A) × Contains xs x × R x y
contains_zip R [] [] y z c = none_in c
contains_zip R [] (v ∷ ys) y z c = absurd z
contains_zip R (u ∷ xs) [] y z c = none_in c
contains_zip {A} {B} R (u ∷ xs) (v ∷ ys) y z c = ⊎_elim
    (λ e. (u, contains_first u xs, subst {A = B} (R u) e z.0))
    (λ d. let r = contains_zip R xs ys y z.1 d in (r.0, contains_behind u xs r.0 r.1, r.2))
    (contains_cases v ys y c)

-- the rule of the name, with its number
record IsCitedRule (b : Plain) (f : ℕ → ℕ) (a : RuleRef) (r : Rule × ℕ) : Type 0 where
  pub pair : Pair
  pub there : pair_at b a.node ≡ Some pair
  pub rule : r.0 ≡ rule_of pair a.dir
  pub number : r.1 ≡ f a.node

rules_zip : (b : Plain) (f : ℕ → ℕ) (names : List RuleRef) (rules : List (Rule × ℕ)) → ((a : RuleRef) → Contains names a → IsRuleThere b a)
    → map (λ (r : Rule × ℕ). r.0) rules ≡ rules_at b names → map (λ (r : Rule × ℕ). r.1) rules ≡ map f (map (λ (a : RuleRef). a.node) names) → AllZip (IsCitedRule b f) names rules
rules_zip b f [] [] h e k = tt
rules_zip b f [] (r ∷ rules) h e k = absurd (cc)
rules_zip b f (a ∷ names) [] h e k = absurd (cc)
rules_zip b f (a ∷ names) (r ∷ rules) h e k = go (λ m n. rules_zip b f names rules (λ c i. h c (contains_behind a names c i)) m n) (there_pair b.nodes a.node (h a (contains_first a names)).0)
  where
    go : (map (λ (x : Rule × ℕ). x.0) rules ≡ rules_at b names → map (λ (x : Rule × ℕ). x.1) rules ≡ map f (map (λ (c : RuleRef). c.node) names) → AllZip (IsCitedRule b f) names rules)
        → (q : Pair) × (pair_at b a.node ≡ Some q) → AllZip (IsCitedRule b f) (a ∷ names) (r ∷ rules)
    go ih (q, at) =
        let here : rule_at b a ≡ Some (rule_of q a.dir) = ap (option_map (λ (z : Pair). rule_of z a.dir)) at in
        let both : r.0 ∷ map (λ (x : Rule × ℕ). x.0) rules ≡ rule_of q a.dir ∷ rules_at b names = e ∙ ap (λ (o : Option Rule). cons_option o (rules_at b names)) here in
        let rule : r.0 ≡ rule_of q a.dir = cc in
        let number : r.1 ≡ f a.node = cc in
        let more : map (λ (x : Rule × ℕ). x.0) rules ≡ rules_at b names = cc in
        let numbers : map (λ (x : Rule × ℕ). x.1) rules ≡ map f (map (λ (c : RuleRef). c.node) names) = cc in
        (record { pair = q; there = at; rule = rule; number = number }, ih more numbers)

-- ---- the steps of a trace

node_at : (b : Plain) (n : ℕ) (x : Pair × Origin) → slice_get (pairs_of b) n ≡ Some x → (y : PlainNode) × (slice_get b.nodes n ≡ Some y) × (parts y ≡ x)
node_at b n x e = some_of_map parts (slice_get b.nodes n) x (sym (slice_get-map parts b.nodes n) ∙ e)

zip_there : (nodes : List (Pair × Origin)) (kept ns : List ℕ) (ss : List TraceStep) (n : ℕ) → AllZip (IsStepOf nodes kept) ns ss → Contains ns n → (x : Pair × Origin) × (slice_get nodes n ≡ Some x)
zip_there nodes kept [] ss n z c = none_in c
zip_there nodes kept (m ∷ ns) [] n z c = absurd z
zip_there nodes kept (m ∷ ns) (s ∷ ss) n z c = ⊎_elim
    (λ e. subst {A = ℕ} (λ k. (x : Pair × Origin) × (slice_get nodes k ≡ Some x)) e (z.0.0, z.0.1))
    (λ d. zip_there nodes kept ns ss n z.1 d)
    (contains_cases m ns n c)

-- the kept nodes are there, and so at most as many as there are nodes
few_kept : (b : Plain) (wanted : List ℕ) (trace : List TraceStep) → (t : IsTraceOf (pairs_of b) wanted trace) → length t.kept ≤ length b.nodes
few_kept b wanted trace t = few_rising t.kept (length b.nodes) (rising_from t.kept t.in_order) (λ n c.
    let s = zip_there (pairs_of b) t.kept t.kept trace n t.steps c in
    let y = node_at b n s.0 s.1 in
    slice_get_within b.nodes n y.0 y.1)

-- so are the steps
pub few_steps : (b : Plain) (wanted : List ℕ) (trace : List TraceStep) → IsTraceOf (pairs_of b) wanted trace → length trace ≤ length b.nodes
few_steps b wanted trace t = omega (arith, AllZip-long (IsStepOf (pairs_of b) t.kept) t.kept trace t.steps, few_kept b wanted trace t)

-- ---- what an answer is

module _ (b : Plain) (p : Name) (a : Answer) (r : IsReached b) (stands : verdict b ≡ Some (Complete p)) (h : IsAnswerOf b p a) where
  process : IsGoodProcess b p
  process = good b r p stands

  same_cert : process.certificate ≡ a.cert
  same_cert = some_is (sym process.there ∙ h.cert)

  -- the nodes of these rules are kept
  abbrev AreKept : List RuleRef → Type 0
  AreKept names = (x : RuleRef) → Contains names x → IsRuleThere b x × Contains h.trace.kept x.node

  wanted_kept : (x : RuleRef) → Contains (rules_of b p ++ constraints_of b p) x → Contains h.trace.kept x.node
  wanted_kept x i = (h.trace.reached x.node).1 (x.node, contains_map (λ (c : RuleRef). c.node) (rules_of b p ++ constraints_of b p) x i, [], refl)

  rules_kept : AreKept (rules_of b p)
  rules_kept x i = (rule_there b p x i, wanted_kept x (Contains-append_left (rules_of b p) (constraints_of b p) x i))

  constraints_kept : AreKept (constraints_of b p)
  constraints_kept x i = (All-contains (IsRuleThere b) (constraints_of b p) x (constraints_there b p) i, wanted_kept x (Contains-append_right (rules_of b p) (constraints_of b p) x i))

  zipped : (names : List RuleRef) (rules : List (Rule × ℕ)) → AreKept names → AreCited b h.trace.kept names rules → AllZip (IsCitedRule b (number_in h.trace.kept)) names rules
  zipped names rules k c = rules_zip b (number_in h.trace.kept) names rules (λ x i. (k x i).0) c.sides c.steps

  -- the step of a kept node
  step_pair : (n : ℕ) (q : Pair) → Contains h.trace.kept n → pair_at b n ≡ Some q → item (step_pairs a.trace) (number_in h.trace.kept n) ≡ Some q
  step_pair n q c e = traced (pairs_of b) (wanted_nodes b p) a.trace h.trace n c ∙ pair_of_node b.nodes n ∙ e

  all_traced : (names : List RuleRef) (rules : List (Rule × ℕ)) → AreKept names → AreCited b h.trace.kept names rules → All (IsTraced a.trace) rules
  all_traced names rules k c = all_from (IsTraced a.trace) rules (λ x i.
      let z = contains_zip (IsCitedRule b (number_in h.trace.kept)) names rules x (zipped names rules k c) i in
      let own = (fits b r).canonical z.0.node z.2.pair z.2.there in
      ap (item (step_pairs a.trace)) z.2.number ∙ step_pair z.0.node z.2.pair (k z.0 z.1).1 z.2.there
      ∙ ap Some (sym (ap pair_of_rule z.2.rule ∙ rule_pair z.2.pair z.0.dir own)))

  system : IsCompleteSystem a.problem a.cert (answer_rules a.rules)
  system =
      subst {A = Problem} (λ z. IsCompleteSystem z a.cert (answer_rules a.rules)) (sym h.problem)
      (subst {A = Certificate} (λ z. IsCompleteSystem b.problem z (answer_rules a.rules)) same_cert
      (subst {A = List Rule} (λ z. IsCompleteSystem b.problem process.certificate z) (sym h.rules.sides) process.system))

  right_steps : IsRightTrace a.problem.equations a.trace
  right_steps = subst {A = Problem} (λ z. IsRightTrace z.equations a.trace) (sym h.problem) (right_trace (pairs_of b) (wanted_nodes b p) a.trace h.trace b.problem.equations (right b r))

  citations : All (IsTraced a.trace) a.rules
  citations = all_traced (rules_of b p) a.rules rules_kept h.rules

  constraint_citations : All (IsTraced a.trace) a.constraints
  constraint_citations = all_traced (constraints_of b p) a.constraints constraints_kept h.constraints

  ordered : Orders a.cert (answer_rules a.constraints)
  ordered = subst {A = List Rule} (Orders a.cert) (sym h.constraints.sides) (subst {A = Certificate} (λ z. Orders z (rules_at b (constraints_of b p))) same_cert process.orders)

  -- what a certificate orders it orders one by one
  all_oriented : (rules : List (Rule × ℕ)) → Orders a.cert (answer_rules rules) → All (IsOriented a.cert) rules
  all_oriented rules o = all_from (IsOriented a.cert) rules (λ x i. orders_among a.cert (answer_rules rules) (x.0 ∷ []) (λ y c. ⊎_elim
      (λ e. subst {A = Rule} (Contains (answer_rules rules)) e (contains_map (λ (z : Rule × ℕ). z.0) rules x i))
      (λ d. none_in d) (contains_cases x.0 [] y c)) o)

  pub made_good : IsGoodAnswer a
  made_good = record { system = system; ordered = ordered; right = right_steps; traced = citations; constraints_traced = constraint_citations }

  pub made_accepted : IsAccepted a
  made_accepted = record {
    steps = right_steps;
    citations = citations;
    constraint_citations = constraint_citations;
    constraints = all_oriented a.constraints ordered;
    orders = all_oriented a.rules system.ordered;
    overlaps = subst {A = List Rule} OverlapsClose (sym h.rules.sides) process.overlaps;
    equations = all_from (IsProved (answer_rules a.rules)) a.problem.equations (λ e i.
        subst {A = List Rule} (λ z. HaveOneNormalForm z e.0 e.1) (sym h.rules.sides) (process.inputs e (subst {A = Problem} (λ z. Contains z.equations e) h.problem i)));
  }

  -- ---- its form

  module _ (few : length b.nodes ≤ 4096) where
    numbered : (n : ℕ) → Contains h.trace.kept n → IsUpTo 4096 (number_in h.trace.kept n)
    numbered n c = record { low = omega arith; high = omega (arith, place_below h.trace.kept n c, few_kept b (wanted_nodes b p) a.trace h.trace, few) }

    step_form : (n : ℕ) (s : TraceStep) → Contains h.trace.kept n → IsStepOf (pairs_of b) h.trace.kept n s → IsStepForm b.problem.signature s
    step_form n s c st = record {
      origin =
          subst {A = Origin} (λ o. is_origin o ≡ true) (sym st.3)
          (origin_form b.problem.equations g r.within.count r.within.arities (node_pair (take n nodes)) earlier (number_in h.trace.kept) x.1 x.0 (right b r n x st.1) cited);
      pair =
          subst {A = Pair} (IsPairForm g) (sym st.2)
          (subst {A = Pair × Origin} (λ z. IsPairForm g z.0) y.2 (pair_form g y.0.pair (limited b r n y.0.pair at) ((fits b r).canonical n y.0.pair at) ((fits b r).nontrivial n y.0.pair at)));
    }
      where
        g : Signature
        g = b.problem.signature

        nodes : List (Pair × Origin)
        nodes = pairs_of b

        x : Pair × Origin
        x = st.0

        y : (z : PlainNode) × (slice_get b.nodes n ≡ Some z) × (parts z ≡ st.0)
        y = node_at b n st.0 st.1

        at : pair_at b n ≡ Some y.0.pair
        at = ap (option_map (λ (z : PlainNode). z.pair)) y.1

        earlier : (m : ℕ) (q : Pair) → node_pair (take n (pairs_of b)) m ≡ Some q → IsLimitedPair b.problem.signature q
        earlier m q e = limited b r m q (sym (pair_of_node b.nodes m) ∙ (earlier_is (pairs_of b) n m q e).1)

        cited : (m : ℕ) → Contains (cites x.1) m → IsUpTo 4096 (number_in h.trace.kept m)
        cited m d = numbered m ((h.trace.reached m).1 (reached_more (pairs_of b) (wanted_nodes b p) n m ((h.trace.reached n).0 c) (st.0, st.1, d)))

    trace_form : IsTraceForm b.problem.signature a.trace
    trace_form = record {
      count = omega (arith, few_steps b (wanted_nodes b p) a.trace h.trace, few);
      steps = all_from (IsStepForm b.problem.signature) a.trace (λ s i. let z = contains_zip (IsStepOf (pairs_of b) h.trace.kept) h.trace.kept a.trace s h.trace.steps i in step_form z.0 s z.1 z.2);
    }

    all_formed : (names : List RuleRef) (rules : List (Rule × ℕ)) → AreKept names → AreCited b h.trace.kept names rules → All (IsRuleForm b.problem.signature) rules
    all_formed names rules k c = all_from (IsRuleForm b.problem.signature) rules (λ x i.
        let z = contains_zip (IsCitedRule b (number_in h.trace.kept)) names rules x (zipped names rules k c) i in
        let is : (rule_of z.2.pair z.0.dir, number_in h.trace.kept z.0.node) ≡ x = λ j. (sym z.2.rule j, sym z.2.number j) in
        subst {A = Rule × ℕ} (IsRuleForm b.problem.signature) is
        (rule_form b.problem.signature z.2.pair z.0.dir (number_in h.trace.kept z.0.node) (limited b r z.0.node z.2.pair z.2.there) (numbered z.0.node (k z.0 z.1).1)))

    as_many : (names : List RuleRef) (rules : List (Rule × ℕ)) → AreKept names → AreCited b h.trace.kept names rules → length names ≤ length b.nodes → length rules ≤ 4096
    as_many names rules k c most = omega (arith, AllZip-long (IsCitedRule b (number_in h.trace.kept)) names rules (zipped names rules k c), most, few)

    pub made_form : IsAnswer a
    made_form = record {
      problem = subst {A = Problem} IsWithinLimits (sym h.problem) r.within;
      count = as_many (rules_of b p) a.rules rules_kept h.rules (few_rules b r p);
      rules = subst {A = Problem} (λ z. All (IsRuleForm z.signature) a.rules) (sym h.problem) (all_formed (rules_of b p) a.rules rules_kept h.rules);
      constraint_count = as_many (constraints_of b p) a.constraints constraints_kept h.constraints (few_constraints b p process);
      constraints = subst {A = Problem} (λ z. All (IsRuleForm z.signature) a.constraints) (sym h.problem) (all_formed (constraints_of b p) a.constraints constraints_kept h.constraints);
      cert =
          subst {A = Problem} (λ z. is_certificate z.signature a.cert ≡ true) (sym h.problem)
          (subst {A = Certificate} (λ z. is_certificate b.problem.signature z ≡ true) same_cert (member_text b.problem.signature process.certificate (b.settings.family, process.member)));
      trace = subst {A = Problem} (λ z. IsTraceForm z.signature a.trace) (sym h.problem) trace_form;
    }

-- ---- the numbers that the code finds

module _ (b : Plain) (r : IsReached b) where
  same_tests : (m n : ℕ) (z q : Pair) → pair_at b m ≡ Some z → pair_at b n ≡ Some q → pair_eq z q ≡ (m == n)
  same_tests m n z q e f =
      same_test (pair_eq z q) (m == n)
      (λ t. eq-eqb m n ((fits b r).distinct m n q (e ∙ ap Some (pair_eq-eq z q t)) f))
      (λ t. ap (λ x. pair_eq x q) (some_is (sym e ∙ ap (pair_at b) (eqb→eq m n (subst {A = Bool} T (sym t) tt)) ∙ f)) ∙ pair_eq-refl q)

  module _ (kept : List ℕ) (n : ℕ) (q : Pair) (at : pair_at b n ≡ Some q) where
    first_place : (ns : List ℕ) (ss : List TraceStep) → AllZip (IsStepOf (pairs_of b) kept) ns ss → position_or_len (λ (s : TraceStep). pair_eq s.pair q) ss ≡ place_in ns n
    first_place [] [] h = refl
    first_place [] (s ∷ ss) h = absurd h
    first_place (m ∷ ns) [] h = absurd h
    first_place (m ∷ ns) (s ∷ ss) h =
        let there : pair_at b m ≡ Some s.pair = sym (pair_of_node b.nodes m) ∙ ap (option_map (λ (x : Pair × Origin). x.0)) h.0.1 ∙ ap Some (sym h.0.2) in
        ap₂ (λ (t : Bool) (k : ℕ). cond (not t) (1 + k) 0) (same_tests m n s.pair q there at) (first_place ns ss h.1)

  cited_is : (p : Name) (trace : List TraceStep) (t : IsTraceOf (pairs_of b) (wanted_nodes b p) trace) (a : RuleRef) → IsRuleThere b a → cited_by b trace a ≡ number_in t.kept a.node
  cited_is p trace t a there =
      let q = there_pair b.nodes a.node there.0 in
      ap (λ (o : Option Pair). option_map_or (number_with trace) o 0) q.1 ∙ ap (λ k. k + 1) (first_place t.kept a.node q.0 q.1 t.kept trace t.steps)

  cites_are : (p : Name) (trace : List TraceStep) (t : IsTraceOf (pairs_of b) (wanted_nodes b p) trace) (names : List RuleRef) → ((a : RuleRef) → Contains names a → IsRuleThere b a)
      → map (cited_by b trace) names ≡ map (number_in t.kept) (nodes_of names)
  cites_are p trace t [] h = refl
  cites_are p trace t (a ∷ names) h = ap₂ (λ (n : ℕ) (ns : List ℕ). n ∷ ns) (cited_is p trace t a (h a (contains_first a names))) (cites_are p trace t names (λ c i. h c (contains_behind a names c i)))

  -- what the code makes is the answer of the process
  pub answer_made : (p : Name) (a : Answer) → a.problem ≡ b.problem → certificate_of b p ≡ Some a.cert → IsTraceOf (pairs_of b) (wanted_nodes b p) a.trace
      → map (λ (x : Rule × ℕ). x.0) a.rules ≡ rules_at b (rules_of b p) → map (λ (x : Rule × ℕ). x.1) a.rules ≡ map (cited_by b a.trace) (rules_of b p)
      → map (λ (x : Rule × ℕ). x.0) a.constraints ≡ rules_at b (constraints_of b p) → map (λ (x : Rule × ℕ). x.1) a.constraints ≡ map (cited_by b a.trace) (constraints_of b p) → IsAnswerOf b p a
  answer_made p a problem cert trace rules cites constraints constraint_cites = record {
    problem = problem;
    cert = cert;
    trace = trace;
    rules = record { sides = rules; steps = cites ∙ cites_are p a.trace trace (rules_of b p) (rule_there b p) };
    constraints = record { sides = constraints; steps = constraint_cites ∙ cites_are p a.trace trace (constraints_of b p) (λ x i. All-contains (IsRuleThere b) (constraints_of b p) x (constraints_there b p) i) };
  }

-- ---- one report

one_list : (xs ys : List (Rule × ℕ)) → map (λ (x : Rule × ℕ). x.0) xs ≡ map (λ (x : Rule × ℕ). x.0) ys → map (λ (x : Rule × ℕ). x.1) xs ≡ map (λ (x : Rule × ℕ). x.1) ys → xs ≡ ys
one_list [] [] e f = refl
one_list [] (y ∷ ys) e f = absurd (cc)
one_list (x ∷ xs) [] e f = absurd (cc)
one_list (x ∷ xs) (y ∷ ys) e f =
    let rule : x.0 ≡ y.0 = cc in
    let number : x.1 ≡ y.1 = cc in
    let rules : map (λ (z : Rule × ℕ). z.0) xs ≡ map (λ (z : Rule × ℕ). z.0) ys = cc in
    let numbers : map (λ (z : Rule × ℕ). z.1) xs ≡ map (λ (z : Rule × ℕ). z.1) ys = cc in
    ap₂ (λ (z : Rule × ℕ) (zs : List (Rule × ℕ)). z ∷ zs) (λ i. (rule i, number i)) (one_list xs ys rules numbers)

one_answer : (b : Plain) (p : Name) (a c : Answer) → IsAnswerOf b p a → IsAnswerOf b p c → a ≡ c
one_answer b p a c h k = λ i. record { problem = problem i; rules = rules i; constraints = constraints i; cert = cert i; trace = trace i }
  where
    problem : a.problem ≡ c.problem
    problem = h.problem ∙ sym k.problem

    cert : a.cert ≡ c.cert
    cert = some_is (sym h.cert ∙ k.cert)

    trace : a.trace ≡ c.trace
    trace = one_trace (pairs_of b) (wanted_nodes b p) a.trace c.trace h.trace k.trace

    kept : h.trace.kept ≡ k.trace.kept
    kept = one_kept (pairs_of b) (wanted_nodes b p) a.trace c.trace h.trace k.trace

    same : (names : List RuleRef) (xs ys : List (Rule × ℕ)) → AreCited b h.trace.kept names xs → AreCited b k.trace.kept names ys → xs ≡ ys
    same names xs ys x y = one_list xs ys (x.sides ∙ sym y.sides) (x.steps ∙ ap (λ ns. map (number_in ns) (nodes_of names)) kept ∙ sym y.steps)

    rules : a.rules ≡ c.rules
    rules = same (rules_of b p) a.rules c.rules h.rules k.rules

    constraints : a.constraints ≡ c.constraints
    constraints = same (constraints_of b p) a.constraints c.constraints h.constraints k.constraints

-- a board has at most one report
pub one_report : (b : Plain) (v : Verdict) (one other : Report) → IsReportOf b v one → IsReportOf b v other → one ≡ other
one_report b (Complete p) one other h k = h.1 ∙ ap System (one_answer b p h.0 k.0 h.2 k.2) ∙ sym k.1
one_report b AllFailed one other h k = h ∙ sym k
one_report b (Spent Commits) one other h k = h ∙ sym k
one_report b (Spent (Over reason)) one other h k = h ∙ sym k

-- ---- what the code reads

-- each node cites earlier ones alone
pub nodes_cite_earlier : (b : Plain) → IsReached b → CitesEarlier (pairs_of b)
nodes_cite_earlier b r = right_cites b.problem.equations (pairs_of b) (right b r)

-- the rules and the constraints are there
named_there : (b : Plain) (p : Name) (x : RuleRef) → Contains (rules_of b p ++ constraints_of b p) x → IsRuleThere b x
named_there b p x i = ⊎_elim (λ c. rule_there b p x c) (λ c. All-contains (IsRuleThere b) (constraints_of b p) x (constraints_there b p) c) (Contains-append_cases (rules_of b p) (constraints_of b p) x i)

-- and so are their nodes
pub wanted_there : (b : Plain) (p : Name) → All (λ n. n < length (pairs_of b)) (wanted_nodes b p)
wanted_there b p = all_from (λ n. n < length (pairs_of b)) (wanted_nodes b p) (λ n i.
    let a = contains_mapped (λ (x : RuleRef). x.node) (rules_of b p ++ constraints_of b p) n i in
    let l = (named_there b p a.0 a.1).0 in
    let long : length (pairs_of b) ≡ length b.nodes = length-map b.nodes parts in
    omega (arith, l, a.2, long))

-- what is read of the board
pub record AreRead (b : Plain) (p : Name) (nodes : List (Pair × Origin)) (rules constraints : List RuleRef) (wanted : List ℕ) : Type 0 where
  pub nodes_are : nodes ≡ pairs_of b
  pub rules_are : rules ≡ rules_of b p
  pub constraints_are : constraints ≡ constraints_of b p
  pub wanted_are : wanted ≡ nodes_of (rules ++ constraints)

pub wanted_read : (b : Plain) (p : Name) (nodes : List (Pair × Origin)) (rules constraints : List RuleRef) (wanted : List ℕ) → AreRead b p nodes rules constraints wanted → wanted ≡ wanted_nodes b p
wanted_read b p nodes rules constraints wanted r = r.wanted_are ∙ ap₂ (λ (xs ys : List RuleRef). nodes_of (xs ++ ys)) r.rules_are r.constraints_are

-- the trace of what was read
pub trace_read : (b : Plain) (p : Name) (nodes : List (Pair × Origin)) (rules constraints : List RuleRef) (wanted : List ℕ) (trace : List TraceStep) → AreRead b p nodes rules constraints wanted
    → IsTraceOf nodes wanted trace → IsTraceOf (pairs_of b) (wanted_nodes b p) trace
trace_read b p nodes rules constraints wanted trace r h =
    subst {A = List (Pair × Origin)} (λ ns. IsTraceOf ns (wanted_nodes b p) trace) r.nodes_are
    (subst {A = List ℕ} (λ ws. IsTraceOf nodes ws trace) (wanted_read b p nodes rules constraints wanted r) h)

-- the answer of what was read
pub answer_read : (b : Plain) (p : Name) (a : Answer) (nodes : List (Pair × Origin)) (rules constraints : List RuleRef) (wanted : List ℕ) (steps : List TraceStep) → IsReached b
    → AreRead b p nodes rules constraints wanted → a.problem ≡ b.problem → certificate_of b p ≡ Some a.cert → IsTraceOf nodes wanted a.trace → steps ≡ a.trace
    → map (λ (x : Rule × ℕ). x.0) a.rules ≡ rules_at b rules → map (λ (x : Rule × ℕ). x.1) a.rules ≡ map (cited_by b steps) rules
    → map (λ (x : Rule × ℕ). x.0) a.constraints ≡ rules_at b constraints → map (λ (x : Rule × ℕ). x.1) a.constraints ≡ map (cited_by b steps) constraints → IsAnswerOf b p a
answer_read b p a nodes rules constraints wanted steps reached r problem cert t same sides cites constraint_sides constraint_cites =
    answer_made b reached p a problem cert (trace_read b p nodes rules constraints wanted a.trace r t)
    (sides ∙ ap (rules_at b) r.rules_are) (cites ∙ ap₂ (λ (ss : List TraceStep) (ns : List RuleRef). map (cited_by b ss) ns) same r.rules_are)
    (constraint_sides ∙ ap (rules_at b) r.constraints_are) (constraint_cites ∙ ap₂ (λ (ss : List TraceStep) (ns : List RuleRef). map (cited_by b ss) ns) same r.constraints_are)
