-- Where the verdict is 'complete', the rules of the process are a complete system for the problem.
use Rattle.std.proofs.Common.{ℕ, zero, suc, ◌+◌, ◌≡◌, ◌≢◌, inl, inr, refl, sym, ap, ◌∙◌, subst, arith, eqb→eq, List, [], ◌∷◌, ◌++◌, map, filter, flat_map, length, Contains, Bool, true, false, cond, ◌==◌, Option, Some, None, ⊎_elim}
use Rattle.std.specs.Prelude.{⊤, T, option_map, slice_get}
use Rattle.std.specs.List.{filter_map, cons_option}
use Rattle.std.proofs.lemmas.Bool.{eq-eqb, ne_eqb, and_from, and_left, and_right}
use Rattle.std.proofs.lemmas.List.Elements.{Contains-append_left, Contains-append_right}
use Rattle.kb_term.proofs.Instances.{instance-variable}
use Rattle.kb_term.specs.Tree.{Tree, variable}
use Rattle.kb_term.specs.Rule.{Rule}
use Rattle.kb_term.specs.Signature.{Problem, IsWithinLimits, IsEquationWithinLimits}
use Rattle.kb_term.specs.Proving.{IsPath, IsChain, Reaches, IsJoinable, Proves}
use Rattle.kb_term.specs.declared.origin.RuleRef.{RuleRef}
use Rattle.std.proofs.lemmas.List.Elements.{All-contains}
use Rattle.kb_rewrite.proofs.Irreducible.{step_from}
use Rattle.kb_lemmas.proofs.Membership.{slice_contains, contains_cases, contains_first, none_in, contains_map, contains_flat_map, contains_flat_map_back}
use Rattle.kb_lemmas.proofs.Lists.{get_map_back}
use Rattle.kb_lemmas.proofs.Options.{some_is, none_some}
use Rattle.kb_rewrite.specs.NormalForm.{NormalisesTo, StrategyStep, IsNormal, form}
use Rattle.kb_overlap.specs.Overlap.{IsOverlapList}
use Rattle.kb_cert.specs.Family.{family}
use Rattle.kb_cert.proofs.Members.{first_contained}
use Rattle.kb_laws.specs.Complete.{IsCompleteSystem}
use Rattle.kb_laws.specs.Overlaps.{OverlapsClose, HaveOneNormalForm}
use Rattle.kb_laws.proofs.Closing.{closed_joins}
use Rattle.kb_laws.proofs.Complete.{complete_state}
use Rattle.kb_label.specs.Names.{Name}
use Rattle.kb_label.specs.declared.verdict.Verdict.TheVariants.{Complete}
use Rattle.mkb_model.specs.Jobs.{ref_eq}
use Rattle.mkb_model.specs.Plain.{Plain, constraints_of, rules_at, numbers_from, node_numbers, directions, rules_of, is_rule, equations_at, rule_at, state_of}
use Rattle.mkb_model.specs.Proposals.{NamedRule, NamedOverlap, named_rules, as_rules, OverlapsOf, OverlapsOfAll, all_ways, IsClosed, rules_on, HasForm, IsJoinedBy}
use Rattle.mkb_model.specs.Verdicts.{verdict, HasCompleted}
use Rattle.mkb_model.specs.Headline.{states_before, states_of}
use Rattle.mkb_model.specs.Journals.{Moment, IsPossibleRun, IsFreeJob}
use Rattle.mkb_model.specs.GoodAnswers.{IsGoodAnswer}
use Rattle.mkb_model.proofs.Lists.{same_test, filter_in, numbers_in}
use Rattle.mkb_model.proofs.runs.Meanings.{verdict_means}
use Rattle.mkb_model.proofs.runs.Readiness.{named_rule}
use Rattle.mkb_model.proofs.runs.Ancestors.{ancestor_is, begins-refl}
use Rattle.mkb_model.proofs.labels.LivingNames.{within_budget, living_forked}
use Rattle.mkb_model.proofs.runs.AllFine.{runs_complete, well_inputs}
use Rattle.mkb_model.proofs.closing.StillClosed.{closed_run}
use Rattle.mkb_model.proofs.runs.Certificates.{certified_run}
use Rattle.mkb_model.specs.declared.settings.Settings.{Settings}

-- ---- rules by their numbers

-- the rules of named rules are those of the names
pub named_are : (f : RuleRef → Option Rule) (refs : List RuleRef) → as_rules (filter_map (λ a. option_map {U = NamedRule} (λ r. record { ref = a; rule = r }) (f a)) refs) ≡ filter_map f refs
named_are f [] = refl
named_are f (a ∷ refs) = go (f a) (named_are f refs)
  where
    go : (o : Option Rule) → as_rules (filter_map (λ a. option_map {U = NamedRule} (λ r. record { ref = a; rule = r }) (f a)) refs) ≡ filter_map f refs
        → as_rules (cons_option (option_map {U = NamedRule} (λ r. record { ref = a; rule = r }) o) (filter_map (λ a. option_map {U = NamedRule} (λ r. record { ref = a; rule = r }) (f a)) refs)) ≡ cons_option o (filter_map f refs)
    go None e = e
    go (Some r) e = ap (r ∷◌) e

-- no two are named the same
abbrev Apart : {A : Type 0} → (A → RuleRef) → List A → Type 0
Apart ref [] = ⊤
Apart {A} ref (x ∷ xs) = ((y : A) → Contains xs y → (ref_eq (ref x) (ref y) ≡ false) × (ref_eq (ref y) (ref x) ≡ false)) × Apart ref xs

pub ref_self : (a : RuleRef) → ref_eq a a ≡ true
ref_self a = and_from (a.node == a.node) (a.dir == a.dir) (eq-eqb a.node a.node refl) (eq-eqb a.dir a.dir refl)

apart_filter : {A : Type 0} (ref : A → RuleRef) (f : A → Bool) (xs : List A) → Apart ref xs → Apart ref (filter f xs)
apart_filter ref f [] h = tt
apart_filter {A} ref f (x ∷ xs) h = go (f x) (apart_filter ref f xs h.1)
  where
    go : (b : Bool) → Apart ref (filter f xs) → Apart ref (cond b (x ∷ filter f xs) (filter f xs))
    go true k = ((λ y i. h.0 y (filter_in f xs y i).0), k)
    go false k = k

apart_directions : (n k : ℕ) → Apart (λ (a : RuleRef). a) (flat_map directions (numbers_from n k))
apart_directions n zero = tt
apart_directions n (suc k) = (first, (second, apart_directions (n + 1) k))
  where
    later : (y : RuleRef) → Contains (flat_map directions (numbers_from (n + 1) k)) y → n ≢ y.node
    later y i e =
        let m = contains_flat_map_back directions (numbers_from (n + 1) k) y i in
        let r = (numbers_in (n + 1) k m.0 m.1).0 in
        let d : m.0 ≡ y.node = ⊎_elim (λ q. ap (λ (z : RuleRef). z.node) q) (λ q. ⊎_elim (λ q. ap (λ (z : RuleRef). z.node) q) (λ q. none_in q) (contains_cases (record { node = m.0; dir = 1 }) [] y q)) (contains_cases (record { node = m.0; dir = 0 }) (record { node = m.0; dir = 1 } ∷ []) y m.2) in
        omega (arith, r, d, e)

    away : (d : ℕ) (y : RuleRef) → Contains (flat_map directions (numbers_from (n + 1) k)) y → (ref_eq (record { node = n; dir = d }) y ≡ false) × (ref_eq y (record { node = n; dir = d }) ≡ false)
    away d y i = (and_left (n == y.node) (d == y.dir) (ne_eqb n y.node (later y i)), and_left (y.node == n) (y.dir == d) (ne_eqb y.node n (λ e. later y i (sym e))))

    first : (y : RuleRef) → Contains (record { node = n; dir = 1 } ∷ flat_map directions (numbers_from (n + 1) k)) y → (ref_eq (record { node = n; dir = 0 }) y ≡ false) × (ref_eq y (record { node = n; dir = 0 }) ≡ false)
    first y i = ⊎_elim (λ e. subst {A = RuleRef} (λ z. (ref_eq (record { node = n; dir = 0 }) z ≡ false) × (ref_eq z (record { node = n; dir = 0 }) ≡ false)) e (and_right (n == n) false refl, and_right (n == n) false refl)) (λ k. away 0 y k) (contains_cases (record { node = n; dir = 1 }) (flat_map directions (numbers_from (n + 1) k)) y i)

    second : (y : RuleRef) → Contains (flat_map directions (numbers_from (n + 1) k)) y → (ref_eq (record { node = n; dir = 1 }) y ≡ false) × (ref_eq y (record { node = n; dir = 1 }) ≡ false)
    second y i = away 1 y i

apart_named : (b : Plain) (refs : List RuleRef) → Apart (λ (a : RuleRef). a) refs → Apart (λ (x : NamedRule). x.ref) (named_rules b refs)
apart_named b [] h = tt
apart_named b (a ∷ refs) h = go (rule_at b a) (apart_named b refs h.1)
  where
    go : (o : Option Rule) → Apart (λ (x : NamedRule). x.ref) (named_rules b refs) → Apart (λ (x : NamedRule). x.ref) (cons_option (option_map {U = NamedRule} (λ r. record { ref = a; rule = r }) o) (named_rules b refs))
    go None k = k
    go (Some r) k = ((λ y i. h.0 y.ref (named_rule b refs y.ref y.rule i).0), k)

same_number : (i j : ℕ) → (suc i == suc j) ≡ (i == j)
same_number i j = same_test (suc i == suc j) (i == j) (λ e. let q : suc i ≡ suc j = eqb→eq (suc i) (suc j) (subst {A = Bool} T (sym e) tt) in eq-eqb i j (omega (arith, q))) (λ e. let q : i ≡ j = eqb→eq i j (subst {A = Bool} T (sym e) tt) in eq-eqb (suc i) (suc j) (ap suc q))

-- two are named the same exactly where their numbers are the same
names_numbers : (rs : List NamedRule) → Apart (λ (x : NamedRule). x.ref) rs → (i j : ℕ) (x y : NamedRule) → slice_get rs i ≡ Some x → slice_get rs j ≡ Some y → ref_eq x.ref y.ref ≡ (i == j)
names_numbers [] h i j x y e d = none_some e
names_numbers (z ∷ rs) h zero zero x y e d = ap (λ (w : NamedRule). ref_eq x.ref w.ref) (sym (some_is d) ∙ some_is e) ∙ ref_self x.ref ∙ sym (eq-eqb 0 0 refl)
names_numbers (z ∷ rs) h zero (suc j) x y e d = ap (λ (w : NamedRule). ref_eq w.ref y.ref) (sym (some_is e)) ∙ (h.0 y (slice_contains rs j y d)).0 ∙ sym (ne_eqb 0 (suc j) (λ q. omega (arith, q)))
names_numbers (z ∷ rs) h (suc i) zero x y e d = ap (λ (w : NamedRule). ref_eq x.ref w.ref) (sym (some_is d)) ∙ (h.0 x (slice_contains rs i x e)).1 ∙ sym (ne_eqb (suc i) 0 (λ q. omega (arith, q)))
names_numbers (z ∷ rs) h (suc i) (suc j) x y e d = names_numbers rs h.1 i j x y e d ∙ sym (same_number i j)

-- ---- overlaps

-- the overlaps of two of the rules are among all overlaps
pub overlaps_among : (es : List (NamedRule × NamedRule)) (os : List NamedOverlap) → OverlapsOfAll es os → (e : NamedRule × NamedRule) → Contains es e → (here : List NamedOverlap) × OverlapsOf e.0 e.1 here × ((o : NamedOverlap) → Contains here o → Contains os o)
overlaps_among [] os h e i = none_in i
overlaps_among (x ∷ es) os (here, later, this, rest, is) e i = ⊎_elim
    (λ q. (here, subst {A = NamedRule × NamedRule} (λ z. OverlapsOf z.0 z.1 here) q this, λ o k. subst {A = List NamedOverlap} (λ zs. Contains zs o) (sym is) (Contains-append_left here later o k)))
    (λ k. let r = overlaps_among es later rest e k in (r.0, r.1, λ o l. subst {A = List NamedOverlap} (λ zs. Contains zs o) (sym is) (Contains-append_right here later o (r.2 o l))))
    (contains_cases x es e i)

pub both_in : (rs : List NamedRule) (x y : NamedRule) → Contains rs x → Contains rs y → Contains (all_ways rs) (x, y)
both_in rs x y i k = contains_flat_map (λ x. map (λ y. (x, y)) rs) rs x (x, y) i (contains_map (λ z. (x, z)) rs y k)

-- without equations what is joined is equal
joined_equal : (u v : Tree) → IsJoinedBy [] u v → u ≡ v
joined_equal u v (inl e) = e
joined_equal u v (inr (q, e, i)) = none_in i

-- without equations the two normal forms are one
one_form : (rs : List NamedRule) (rules : List Rule) (s t u v : Tree) → as_rules rs ≡ rules → HasForm rs s u → HasForm rs t v → u ≡ v → HaveOneNormalForm rules s t
one_form rs rules s t u v e h k q = (u, h.0, k.0, subst {A = List Rule} (λ z. NormalisesTo z s (form u h.0)) e h.1, subst {A = List Rule} (λ z. NormalisesTo z t (form u k.0)) e (subst {A = Tree} (λ z. NormalisesTo (as_rules rs) t (form z k.0)) (sym q) k.1))

overlaps_close : (rs : List NamedRule) (rules : List Rule) (inputs : List (Tree × Tree)) → as_rules rs ≡ rules → Apart (λ (x : NamedRule). x.ref) rs → IsClosed rs [] inputs → OverlapsClose rules
overlaps_close rs rules inputs e apart closed i j outer inner hi hj =
    let x = get_map_back (λ (r : NamedRule). r.rule) rs i outer (ap (λ zs. slice_get zs i) e ∙ hi) in
    let y = get_map_back (λ (r : NamedRule). r.rule) rs j inner (ap (λ zs. slice_get zs j) e ∙ hj) in
    let k = overlaps_among (all_ways rs) closed.overlaps closed.all (x.0, y.0) (both_in rs x.0 y.0 (slice_contains rs i x.0 x.1) (slice_contains rs j y.0 y.1)) in
    let lists : IsOverlapList outer inner (i == j) k.1.0 = subst {A = Bool} (λ b. IsOverlapList outer inner b k.1.0) (names_numbers rs apart i j x.0 y.0 x.1 y.1) (subst {A = Rule} (λ r. IsOverlapList outer r (ref_eq x.0.ref y.0.ref) k.1.0) y.2 (subst {A = Rule} (λ r. IsOverlapList r y.0.rule (ref_eq x.0.ref y.0.ref) k.1.0) x.2 k.1.1)) in (
      k.1.0,
      lists,
      λ o c.
          let named : NamedOverlap = record { outer = x.0.ref; inner = y.0.ref; overlap = o } in
          let joins = closed.joined named (k.2 named (subst {A = List NamedOverlap} (λ zs. Contains zs named) (sym k.1.2) (contains_map (λ o. record { outer = x.0.ref; inner = y.0.ref; overlap = o }) k.1.0 o c))) in
          (joins.0.0, joins.0.1, joins.1, one_form rs rules joins.0.0 joins.0.1 joins.2.0 joins.2.1 e joins.2.2 joins.2.3 (joined_equal joins.2.0 joins.2.1 joins.2.4)),
    )

-- ---- normal forms

chain_append : (rules : List Rule) (xs ys : List Tree) (s t u : Tree) → IsChain rules xs s t → IsChain rules ys t u → IsChain rules (xs ++ ys) s u
chain_append rules [] ys s t u e k = subst {A = Tree} (λ z. IsChain rules ys z u) (sym e) k
chain_append rules (x ∷ xs) ys s t u (h, e) k = (h, chain_append rules xs ys x t u e k)

-- from a normal form no other term is reached
normal_stays : (rules : List Rule) (path : List Tree) (u x : Tree) → IsNormal rules u → IsChain rules path u x → u ≡ x
normal_stays rules [] u x h e = e
normal_stays rules (y ∷ path) u x h (step, k) = absurd (h y step)

strategy_chain : (rules : List Rule) (path : List Tree) (s t : Tree) → IsPath (StrategyStep rules) path s t → IsChain rules path s t
strategy_chain rules [] s t e = e
strategy_chain rules (u ∷ path) s t (h, k) = (step_from rules s u h, strategy_chain rules path u t k)

-- an equation proves its own sides
proves_itself : (es : List (Tree × Tree)) (e : Tree × Tree) → Contains es e → Proves es e.0 e.1
proves_itself es e i = (e.1 ∷ [], ((record { left = e.0; right = e.1 }, inl i, [], ((λ n. variable n), record { redex = ap Some (sym (instance-variable e.0)); result = ap Some (instance-variable e.1) })), refl))

-- ---- the answer

pub good_answer : (P : Problem) (n : Settings) (ms : List Moment) (c : Plain) (p : Name) → IsWithinLimits P → IsPossibleRun P n ms c → verdict c ≡ Some (Complete p) → IsGoodAnswer P c p
good_answer P n ms c p within run stands = record { certified = certified_run P n ms c within run p means.lives; system = system; overlaps = close; inputs = λ e i. inputs e i (closed.formed refl e (subst {A = Problem} (λ z. Contains z.equations e) (sym problem) i)) }
  where
    means : HasCompleted c p
    means = verdict_means c (Complete p) stands

    problem : c.problem ≡ P
    problem = (within_budget IsFreeJob P n ms c run).problem

    are : as_rules (rules_on c p) ≡ (state_of c p).rules
    are = named_are (rule_at c) (rules_of c p)

    apart : Apart (λ (x : NamedRule). x.ref) (rules_on c p)
    apart = apart_named c (rules_of c p) (apart_filter (λ (a : RuleRef). a) (is_rule c p) (flat_map directions (node_numbers c)) (apart_directions 0 (length c.nodes)))

    closed : IsClosed (rules_on c p) [] c.problem.equations
    closed = subst {A = List (Tree × Tree)} (λ z. IsClosed (rules_on c p) z c.problem.equations) (ap (equations_at c) means.no_equation) (closed_run P n ms c run p means.closed)

    close : OverlapsClose (state_of c p).rules
    close = overlaps_close (rules_on c p) (state_of c p).rules c.problem.equations are apart closed

    system : IsCompleteSystem P (certified_run P n ms c within run p means.lives).certificate (state_of c p).rules
    system =
        let k = certified_run P n ms c within run p means.lives in
        let a = (living_forked IsFreeJob P n ms c run).apart in
        complete_state P (states_of ms c p) (runs_complete P n ms c within run p means.lives) (well_inputs P within) (state_of c p)
        (subst {A = Name} (λ z. Contains (states_before ms p ++ state_of c z ∷ []) (state_of c p)) (sym (ancestor_is c p p a means.lives (begins-refl p))) (Contains-append_right (states_before ms p) (state_of c p ∷ []) (state_of c p) (contains_first (state_of c p) [])))
        (ap (equations_at c) means.no_equation) k.certificate (c.settings.family, subst {A = Problem} (λ z. Contains (family c.settings.family z.signature) k.certificate) problem (first_contained c.settings.family c.problem.signature (rules_at c (constraints_of c p)) k.certificate k.first)) k.first.0 (closed_joins (state_of c p).rules close)

    inputs : (e : Tree × Tree) → Contains P.equations e → ((u : Tree) × HasForm (rules_on c p) e.0 u) × ((v : Tree) × HasForm (rules_on c p) e.1 v) → HaveOneNormalForm (state_of c p).rules e.0 e.1
    inputs e i ((u, hu), (v, hv)) = one_form (rules_on c p) (state_of c p).rules e.0 e.1 u v are hu hv (normal_stays (state_of c p).rules met.1.0 u met.0 nu met.1.1 ∙ sym (normal_stays (state_of c p).rules met.2.0 v met.0 nv met.2.1))
      where
        fu : NormalisesTo (state_of c p).rules e.0 (form u hu.0)
        fu = subst {A = List Rule} (λ z. NormalisesTo z e.0 (form u hu.0)) are hu.1

        fv : NormalisesTo (state_of c p).rules e.1 (form v hv.0)
        fv = subst {A = List Rule} (λ z. NormalisesTo z e.1 (form v hv.0)) are hv.1

        nu : IsNormal (state_of c p).rules u
        nu = fu.4

        nv : IsNormal (state_of c p).rules v
        nv = fv.4

        to_u : Reaches (state_of c p).rules e.0 u
        to_u = (fu.0, strategy_chain (state_of c p).rules fu.0 e.0 u fu.1.0)

        to_v : Reaches (state_of c p).rules e.1 v
        to_v = (fv.0, strategy_chain (state_of c p).rules fv.0 e.1 v fv.1.0)

        limits : IsEquationWithinLimits P.signature e
        limits = All-contains (IsEquationWithinLimits P.signature) P.equations e within.each i

        meet : IsJoinable (state_of c p).rules e.0 e.1
        meet = (system.decides e.0 e.1 limits.left.well_formed limits.right.well_formed).0 (proves_itself P.equations e i)

        side : IsJoinable (state_of c p).rules u meet.0
        side = system.confluent e.0 u meet.0 limits.left.well_formed to_u meet.1

        back : Reaches (state_of c p).rules e.1 u
        back = (meet.2.0 ++ side.2.0, chain_append (state_of c p).rules meet.2.0 side.2.0 e.1 meet.0 u meet.2.1 (subst {A = Tree} (IsChain (state_of c p).rules side.2.0 meet.0) (sym (normal_stays (state_of c p).rules side.1.0 u side.0 nu side.1.1)) side.2.1))

        met : IsJoinable (state_of c p).rules u v
        met = system.confluent e.1 u v limits.right.well_formed back to_v
