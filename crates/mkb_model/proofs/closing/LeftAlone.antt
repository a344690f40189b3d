-- A process that is closed or being closed is at rest: what another ticket proposes does not act on it.
use Rattle.std.proofs.Common.{ℕ, zero, suc, ◌<◌, ◌≡◌, ◌≢◌, ◌⊎◌, inl, inr, refl, sym, ap, ◌∙◌, subst, arith, eqb→eq, List, [], ◌∷◌, ◌++◌, map, flat_map, length, Contains, Bool, true, false, cond, not, ◌&&◌, ◌||◌, ◌==◌, Option, Some, None, ⊎_elim}
use Rattle.std.specs.Prelude.{⊤, T, option_map}
use Rattle.std.specs.List.{find, list_any}
use Rattle.std.proofs.lemmas.Bool.{eq-eqb, and_from, and_cases, and_right, or_cases, or_left, or_right, or_from}
use Rattle.std.proofs.lemmas.List.Elements.{Contains-append_cases, Contains-append_left, Contains-append_right}
use Rattle.kb_lemmas.proofs.Membership.{contains_cases, contains_behind, contains_first, none_in, contains_mapped, contains_map, contains_flat_map_back, contains_flat_map}
use Rattle.kb_lemmas.proofs.Booleans.{and_gives_left, and_gives_right}
use Rattle.kb_lemmas.proofs.Options.{some_is, none_some}
use Rattle.kb_term.specs.Tree.{Tree}
use Rattle.kb_term.specs.View.{tree_of}
use Rattle.kb_term.specs.Substitution.{instance}
use Rattle.kb_term.specs.Pair.{Pair}
use Rattle.kb_term.specs.Rule.{Rule, rule_of}
use Rattle.kb_overlap.specs.Trace.{side}
use Rattle.kb_rewrite.specs.NormalForm.{IsFound, Encompasses}
use Rattle.kb_term.specs.declared.origin.RuleRef.{RuleRef}
use Rattle.kb_term.specs.declared.origin.Found.{Found}
use Rattle.kb_term.specs.declared.origin.Found.TheVariants.{No, Variant, Strict}
use Rattle.kb_label.specs.Names.{Name, has, name_eq, meet}
use Rattle.kb_label.proofs.Members.{has-filter, has-minus, has-meet, name_eq-eq}
use Rattle.kb_node.specs.declared.job.Fact.{Fact}
use Rattle.kb_node.specs.declared.job.Job.{Job}
use Rattle.kb_node.specs.declared.job.Job.TheVariants.{Reduce, Orient, Overlap, Close}
use Rattle.kb_node.specs.declared.node.NodeId.{NodeId}
use Rattle.kb_node.specs.declared.node.LabelKind.{LabelKind}
use Rattle.kb_node.specs.declared.node.LabelKind.TheVariants.{R0, R1, E, X}
use Rattle.mkb_model.specs.Jobs.{process_of, kind_number, ref_eq, ref_le}
use Rattle.mkb_model.specs.Plain.{Plain, label, label_at, rule_kind, other, directions, node_numbers, is_equation, is_rule, rules_of, done_of, is_over, known, pair_at, rule_at}
use Rattle.mkb_model.specs.DueJobs.{is_usable, is_open, reducers, is_node_of, is_reducible, is_working, is_work_due, is_due, work_of}
use Rattle.mkb_model.specs.Effects.{rewrite_label, overlap_label, orient_label, effect_label, limit_label, redex_label, not_over, is_strict}
use Rattle.mkb_model.specs.Invariants.{FactsHold, IsAtRest}
use Rattle.mkb_model.specs.Proposals.{named_rules, IsUsableRedex, Proposes}
use Rattle.mkb_model.specs.Ready.{IsOn, KeepsPairs}
use Rattle.mkb_model.specs.declared.proposed.Proposed.{Proposed}
use Rattle.mkb_model.specs.declared.proposed.Proposed.TheVariants.{Facts, Rewrite, One, Both, Refuse, Deduce, Unjoined, Closed, Limit}
use Rattle.mkb_model.proofs.Lists.{clash, false_unless, not_true, not_false, not_of_false, in_filter, filter_in, find_in, any_none, none_any, in_numbers}
use Rattle.mkb_model.proofs.commits.Roles.{on_there, has-one}
use Rattle.mkb_model.proofs.commits.RewritingRuns.{source_of}
use Rattle.mkb_model.proofs.runs.Readiness.{named_rule}
use Rattle.mkb_model.proofs.tickets.InFlight.{is_own, own_of}
use Rattle.mkb_model.proofs.commits.Bystanders.{IsUnmoved, role_tests}

-- ---- rest, told by roles

-- a direction or a side
abbrev pub IsBit : ℕ → Type 0
IsBit d = (d ≡ 0) ⊎ (d ≡ 1)

-- no job but a closing is due for the process, and it has not given up
pub record Rests (b : Plain) (p : Name) : Type 0 where
  pub not_over : is_over b p ≡ false
  pub reduced : (n w : ℕ) (a : RuleRef) → is_node_of b p n ≡ true → IsBit w → IsBit a.dir → is_rule b p a ≡ true → a.node ≢ n → (v : Found) × (known b n w a ≡ Some v) × (is_usable b p n w v ≡ false)
  pub refused : (n : ℕ) → is_equation b p n ≡ true → has (label b n X) p ≡ true
  pub overlapped : (a c : RuleRef) → IsBit a.dir → IsBit c.dir → is_rule b p a ≡ true → is_rule b p c ≡ true → ref_le a c ≡ true → has (done_of b a c) p ≡ true

node_there : (b : Plain) (p : Name) (n : ℕ) → is_node_of b p n ≡ true → n < length b.nodes
node_there b p n h = ⊎_elim (λ o. on_there b.nodes p n E o)
    (λ o. ⊎_elim (λ u. on_there b.nodes p n R0 u) (λ u. on_there b.nodes p n R1 u) (or_cases (is_rule b p (record { node = n; dir = 0 })) (is_rule b p (record { node = n; dir = 1 })) o))
    (or_cases (is_equation b p n) (is_rule b p (record { node = n; dir = 0 }) || is_rule b p (record { node = n; dir = 1 })) h)

-- the rules of a process are those that it has, in the two directions
pub in_rules : (b : Plain) (p : Name) (a : RuleRef) → IsBit a.dir → is_rule b p a ≡ true → Contains (rules_of b p) a
in_rules b p a d h = in_filter (is_rule b p) (flat_map directions (node_numbers b)) a (contains_flat_map directions (node_numbers b) a.node a (in_numbers 0 (length b.nodes) a.node (omega arith) (let l = on_there b.nodes p a.node (rule_kind a.dir) h in omega (arith, l))) (go a.dir d refl)) h
  where
    go : (e : ℕ) → IsBit e → a.dir ≡ e → Contains (directions a.node) a
    go e (inl q) k = subst {A = ℕ} (λ z. Contains (directions a.node) (record { node = a.node; dir = z })) (sym (k ∙ q)) (contains_first (record { node = a.node; dir = 0 }) (record { node = a.node; dir = 1 } ∷ []))
    go e (inr q) k = subst {A = ℕ} (λ z. Contains (directions a.node) (record { node = a.node; dir = z })) (sym (k ∙ q)) (contains_behind (record { node = a.node; dir = 0 }) (record { node = a.node; dir = 1 } ∷ []) (record { node = a.node; dir = 1 }) (contains_first (record { node = a.node; dir = 1 }) []))

pub rules_in : (b : Plain) (p : Name) (a : RuleRef) → Contains (rules_of b p) a → IsBit a.dir × (is_rule b p a ≡ true)
rules_in b p a i =
    let f = filter_in (is_rule b p) (flat_map directions (node_numbers b)) a i in
    let m = contains_flat_map_back directions (node_numbers b) a f.0 in (
      ⊎_elim (λ e. inl (sym (ap (λ (z : RuleRef). z.dir) e))) (λ k. ⊎_elim (λ e. inr (sym (ap (λ (z : RuleRef). z.dir) e))) (λ q. none_in q) (contains_cases (record { node = m.0; dir = 1 }) [] a k)) (contains_cases (record { node = m.0; dir = 0 }) (record { node = m.0; dir = 1 } ∷ []) a m.2),
      f.1,
    )

abbrev reduces : Plain → Name → List Job
reduces b p = map (λ n. Reduce p (record { 0 = n })) (node_numbers b)

abbrev orients : Plain → Name → List Job
orients b p = map (λ n. Orient p (record { 0 = n })) (node_numbers b)

abbrev overlaps : Plain → Name → List Job
overlaps b p = flat_map (λ (a : RuleRef). map (Overlap p a) (rules_of b p)) (rules_of b p)

pub rests_from : (b : Plain) (p : Name) → IsAtRest b p → Rests b p
rests_from b p h = record {
  not_over = h.not_over;
  reduced = λ n w a node side d rule away.
      let closed = ⊎_elim (λ k. clash node k) (λ k. k) (and_cases (is_node_of b p n) (is_reducible b p n) (h.no_work (Reduce p (record { 0 = n })) (Contains-append_left (reduces b p) (orients b p ++ overlaps b p) (Reduce p (record { 0 = n })) (contains_map (λ n. Reduce p (record { 0 = n })) (node_numbers b) n (there n (node_there b p n node)))))) in
      let here = any_none (λ (a : RuleRef). list_any (λ w. is_open b p n w (known b n w a)) (0 ∷ 1 ∷ [])) (reducers b p n) closed a (in_filter (λ (a : RuleRef). not (a.node == n)) (rules_of b p) a (in_rules b p a d rule) (not_of_false (false_unless (a.node == n) (λ e. away (eqb→eq a.node n (subst {A = Bool} T (sym e) tt)))))) in
      settled n w a (known b n w a) refl (any_none (λ w. is_open b p n w (known b n w a)) (0 ∷ 1 ∷ []) here w (bit w side));
  refused = λ n e. ⊎_elim (λ k. clash e k) (λ k. not_false k) (and_cases (is_equation b p n) (not (has (label b n X) p)) (h.no_work (Orient p (record { 0 = n })) (Contains-append_right (reduces b p) (orients b p ++ overlaps b p) (Orient p (record { 0 = n })) (Contains-append_left (orients b p) (overlaps b p) (Orient p (record { 0 = n })) (contains_map (λ n. Orient p (record { 0 = n })) (node_numbers b) n (there n (on_there b.nodes p n E e)))))));
  overlapped = λ a c d e ha hc le. ⊎_elim (λ k. clash (and_from (is_rule b p a) (is_rule b p c) ha hc) k) (λ k. ⊎_elim (λ l. clash le l) (λ l. not_false l) (and_cases (ref_le a c) (not (has (done_of b a c) p)) k))
      (and_cases (is_rule b p a && is_rule b p c) (ref_le a c && not (has (done_of b a c) p)) (h.no_work (Overlap p a c) (Contains-append_right (reduces b p) (orients b p ++ overlaps b p) (Overlap p a c) (Contains-append_right (orients b p) (overlaps b p) (Overlap p a c) (contains_flat_map (λ (a : RuleRef). map (Overlap p a) (rules_of b p)) (rules_of b p) a (Overlap p a c) (in_rules b p a d ha) (contains_map (Overlap p a) (rules_of b p) c (in_rules b p c e hc)))))));
}
  where
    there : (n : ℕ) → n < length b.nodes → Contains (node_numbers b) n
    there n l = in_numbers 0 (length b.nodes) n (omega arith) (omega (arith, l))

    bit : (w : ℕ) → IsBit w → Contains (0 ∷ 1 ∷ []) w
    bit w (inl e) = subst {A = ℕ} (Contains (0 ∷ 1 ∷ [])) (sym e) (contains_first 0 (1 ∷ []))
    bit w (inr e) = subst {A = ℕ} (Contains (0 ∷ 1 ∷ [])) (sym e) (contains_behind 0 (1 ∷ []) 1 (contains_first 1 []))

    settled : (n w : ℕ) (a : RuleRef) (o : Option Found) → known b n w a ≡ o → is_open b p n w o ≡ false → (v : Found) × (known b n w a ≡ Some v) × (is_usable b p n w v ≡ false)
    settled n w a None e k = clash refl k
    settled n w a (Some v) e k = (v, e, k)

pub rests_to : (b : Plain) (p : Name) → Rests b p → IsAtRest b p
rests_to b p h = record { not_over = h.not_over; no_work = λ j i. ⊎_elim (at_reduce j) (λ k. ⊎_elim (at_orient j) (at_overlap j) (Contains-append_cases (orients b p) (overlaps b p) j k)) (Contains-append_cases (reduces b p) (orients b p ++ overlaps b p) j i) }
  where
    shut : (n w : ℕ) (a : RuleRef) → (v : Found) × (known b n w a ≡ Some v) × (is_usable b p n w v ≡ false) → is_open b p n w (known b n w a) ≡ false
    shut n w a (v, e, u) = ap (is_open b p n w) e ∙ u

    irreducible : (n : ℕ) → is_node_of b p n ≡ true → is_reducible b p n ≡ false
    irreducible n node = none_any (λ (a : RuleRef). list_any (λ w. is_open b p n w (known b n w a)) (0 ∷ 1 ∷ [])) (reducers b p n) (λ a i.
        let f = filter_in (λ (a : RuleRef). not (a.node == n)) (rules_of b p) a i in
        let r = rules_in b p a f.0 in
        let away : a.node ≢ n = λ e. clash (eq-eqb a.node n e) (not_true f.1) in
        or_from (is_open b p n 0 (known b n 0 a)) (is_open b p n 1 (known b n 1 a) || false) (shut n 0 a (h.reduced n 0 a node (inl refl) r.0 r.1 away))
        (or_from (is_open b p n 1 (known b n 1 a)) false (shut n 1 a (h.reduced n 1 a node (inr refl) r.0 r.1 away)) refl))

    at_reduce : (j : Job) → Contains (reduces b p) j → is_work_due b j ≡ false
    at_reduce j i =
        let m = contains_mapped (λ n. Reduce p (record { 0 = n })) (node_numbers b) j i in
        subst {A = Job} (λ z. is_work_due b z ≡ false) m.2 (false_unless (is_node_of b p m.0 && is_reducible b p m.0) (λ e. clash (and_gives_right (is_node_of b p m.0) (is_reducible b p m.0) e) (irreducible m.0 (and_gives_left (is_node_of b p m.0) (is_reducible b p m.0) e))))

    at_orient : (j : Job) → Contains (orients b p) j → is_work_due b j ≡ false
    at_orient j i =
        let m = contains_mapped (λ n. Orient p (record { 0 = n })) (node_numbers b) j i in
        subst {A = Job} (λ z. is_work_due b z ≡ false) m.2 (false_unless (is_equation b p m.0 && not (has (label b m.0 X) p)) (λ e. clash (h.refused m.0 (and_gives_left (is_equation b p m.0) (not (has (label b m.0 X) p)) e)) (not_true (and_gives_right (is_equation b p m.0) (not (has (label b m.0 X) p)) e))))

    at_overlap : (j : Job) → Contains (overlaps b p) j → is_work_due b j ≡ false
    at_overlap j i =
        let q = contains_flat_map_back (λ (a : RuleRef). map (Overlap p a) (rules_of b p)) (rules_of b p) j i in
        let m = contains_mapped (Overlap p q.0) (rules_of b p) j q.2 in
        let ra = rules_in b p q.0 q.1 in
        let rc = rules_in b p m.0 m.1 in
        subst {A = Job} (λ z. is_work_due b z ≡ false) m.2 (false_unless ((is_rule b p q.0 && is_rule b p m.0) && (ref_le q.0 m.0 && not (has (done_of b q.0 m.0) p)))
        (λ e. let k = and_gives_right (is_rule b p q.0 && is_rule b p m.0) (ref_le q.0 m.0 && not (has (done_of b q.0 m.0) p)) e in
        clash (h.overlapped q.0 m.0 ra.0 rc.0 ra.1 rc.1 (and_gives_left (ref_le q.0 m.0) (not (has (done_of b q.0 m.0) p)) k)) (not_true (and_gives_right (ref_le q.0 m.0) (not (has (done_of b q.0 m.0) p)) k))))

-- a process of which nothing changes stays at rest
pub rests_unmoved : (b c : Plain) (p : Name) → IsUnmoved b c p → Rests b p → Rests c p
rests_unmoved b c p u h = record {
  not_over = u.over ∙ h.not_over;
  reduced = λ n w a node side d rule away. let r = h.reduced n w a (sym (nodes n) ∙ node) side d (sym (same a.node (rule_kind a.dir)) ∙ rule) away in (r.0, u.known n w a r.0 r.1, usable n w r.0 ∙ r.2);
  refused = λ n e. same n X ∙ h.refused n (sym (same n E) ∙ e);
  overlapped = λ a e da de ha he le. u.done a e ∙ h.overlapped a e da de (sym (same a.node (rule_kind a.dir)) ∙ ha) (sym (same e.node (rule_kind e.dir)) ∙ he) le;
}
  where
    same : (m : ℕ) (j : LabelKind) → has (label_at c.nodes m j) p ≡ has (label_at b.nodes m j) p
    same = role_tests b c p u.roles

    nodes : (n : ℕ) → is_node_of c p n ≡ is_node_of b p n
    nodes n = ap (λ z. z || (is_rule c p (record { node = n; dir = 0 }) || is_rule c p (record { node = n; dir = 1 }))) (same n E)
        ∙ ap (λ z. is_equation b p n || (z || is_rule c p (record { node = n; dir = 1 }))) (same n R0)
        ∙ ap (λ z. is_equation b p n || (is_rule b p (record { node = n; dir = 0 }) || z)) (same n R1)

    usable : (n w : ℕ) (v : Found) → is_usable c p n w v ≡ is_usable b p n w v
    usable n w No = refl
    usable n w Variant = ap (λ z. z || is_rule c p (record { node = n; dir = other w })) (same n E) ∙ ap (λ z. is_equation b p n || z) (same n (rule_kind (other w)))
    usable n w Strict = refl

-- ---- what others propose

-- a redex of the node that the rule of another node has, on the board
pub record IsRedexOn (b : Plain) (n w : ℕ) (a : RuleRef) (kind : Found) : Type 0 where
  pub is_side : IsBit w
  pub is_dir : IsBit a.dir
  pub away : a.node ≢ n
  pub pair : Pair
  pub there : pair_at b n ≡ Some pair
  pub rule : Rule
  pub rule_there : rule_at b a ≡ Some rule
  pub encompassed : Encompasses (side pair w) rule.left
  pub found : IsFound (side pair w) rule kind

pub redex_on : (before b : Plain) (p : Name) (n : ℕ) (pair : Pair) (usable : ℕ → Found → Bool) (w : ℕ) (at : List ℕ) (a : RuleRef) (kind : Found) (t : Tree) → pair_at before n ≡ Some pair → KeepsPairs before.nodes b.nodes → IsUsableRedex (named_rules before (reducers before p n)) pair usable w at a kind t → IsRedexOn b n w a kind
redex_on before b p n pair usable w at a kind t there keeps r =
    let k = named_rule before (reducers before p n) a r.rule r.listed in
    let f = filter_in (λ (c : RuleRef). not (c.node == n)) (rules_of before p) a k.0 in
    record {
      is_side = r.is_side;
      is_dir = (rules_in before p a f.0).0;
      away = λ e. clash (eq-eqb a.node n e) (not_true f.1);
      pair = pair;
      there = keeps n pair there;
      rule = r.rule;
      rule_there = ap (option_map (λ q. rule_of q a.dir)) (keeps a.node k.1.0 k.1.1) ∙ ap Some k.1.2;
      encompassed = (at, (instance r.rewrites.0 r.rule.left, r.rewrites.1.redex, (r.rewrites.0, refl)));
      found = r.found;
    }

known_fact : (b : Plain) (n w : ℕ) (a : RuleRef) (v : Found) → known b n w a ≡ Some v → (f : Fact) × Contains b.facts f × (f.node.0 ≡ n) × (f.side ≡ w) × (f.rule.node ≡ a.node) × (f.rule.dir ≡ a.dir) × (f.found ≡ v)
known_fact b n w a v h = go (find (λ (f : Fact). (f.node.0 == n) && ((f.side == w) && ref_eq f.rule a)) b.facts) refl h
  where
    equal : (x y : ℕ) → (x == y) ≡ true → x ≡ y
    equal x y e = eqb→eq x y (subst {A = Bool} T (sym e) tt)

    go : (o : Option Fact) → find (λ (f : Fact). (f.node.0 == n) && ((f.side == w) && ref_eq f.rule a)) b.facts ≡ o → option_map (λ (f : Fact). f.found) o ≡ Some v → (f : Fact) × Contains b.facts f × (f.node.0 ≡ n) × (f.side ≡ w) × (f.rule.node ≡ a.node) × (f.rule.dir ≡ a.dir) × (f.found ≡ v)
    go None e k = none_some k
    go (Some f) e k =
        let i = find_in (λ (f : Fact). (f.node.0 == n) && ((f.side == w) && ref_eq f.rule a)) b.facts f e in
        let r = and_gives_right (f.node.0 == n) ((f.side == w) && ref_eq f.rule a) i.1 in
        let q = and_gives_right (f.side == w) (ref_eq f.rule a) r in
        (f, i.0, equal f.node.0 n (and_gives_left (f.node.0 == n) ((f.side == w) && ref_eq f.rule a) i.1), equal f.side w (and_gives_left (f.side == w) (ref_eq f.rule a) r), equal f.rule.node a.node (and_gives_left (f.rule.node == a.node) (f.rule.dir == a.dir) q), equal f.rule.dir a.dir (and_gives_right (f.rule.node == a.node) (f.rule.dir == a.dir) q), some_is k)

same_ref : (x a : RuleRef) → x.node ≡ a.node → x.dir ≡ a.dir → x ≡ a
same_ref x a e d = subst {A = ℕ} (λ z. record { node = z; dir = x.dir } ≡ a) (sym e) (subst {A = ℕ} (λ z. record { node = a.node; dir = z } ≡ a) (sym d) refl)

-- a rule of which something is known is there
pub known_rule : (b : Plain) (n w : ℕ) (a : RuleRef) (v : Found) → FactsHold b → known b n w a ≡ Some v → (rule : Rule) × (rule_at b a ≡ Some rule)
known_rule b n w a v facts h =
    let f = known_fact b n w a v h in
    let t = facts f.0 f.1 in
    (t.0.rule, subst {A = RuleRef} (λ z. rule_at b z ≡ Some t.0.rule) (same_ref f.0.rule a f.4 f.5) t.0.rule_there)

-- what is known holds of the pair and the rule
pub known_holds : (b : Plain) (n w : ℕ) (a : RuleRef) (v : Found) → FactsHold b → known b n w a ≡ Some v → (q : Pair) → pair_at b n ≡ Some q → (rule : Rule) → rule_at b a ≡ Some rule → IsFound (side q w) rule v × (v ≢ Strict)
known_holds b n w a v facts h q q_there rule rule_there =
    let f = known_fact b n w a v h in
    let t = facts f.0 f.1 in
    let e : f.0.rule ≡ a = same_ref f.0.rule a f.4 f.5 in
    let i : t.0.pair ≡ q = some_is (sym t.0.pair_there ∙ ap (pair_at b) f.2 ∙ q_there) in
    let k : t.0.rule ≡ rule = some_is (sym t.0.rule_there ∙ ap (rule_at b) e ∙ rule_there) in (
      subst {A = Found} (IsFound (side q w) rule) f.6 (subst {A = Rule} (λ z. IsFound (side q w) z f.0.found) k (subst {A = Pair} (λ z. IsFound (side z w) t.0.rule f.0.found) i (subst {A = ℕ} (λ z. IsFound (side t.0.pair z) t.0.rule f.0.found) f.3 t.0.found))),
      λ s. t.1 (f.6 ∙ s),
    )

known_true : (b : Plain) (n w : ℕ) (a : RuleRef) (kind : Found) (v : Found) → FactsHold b → (r : IsRedexOn b n w a kind) → known b n w a ≡ Some v → IsFound (side r.pair w) r.rule v × (v ≢ Strict)
known_true b n w a kind v facts r h = known_holds b n w a v facts h r.pair r.there r.rule r.rule_there

-- a process that has the node as a rule has it
pub node_one : (b : Plain) (p : Name) (n d : ℕ) → IsOn b.nodes p n (rule_kind d) → is_node_of b p n ≡ true
node_one b p n zero o = or_right (is_equation b p n) (is_rule b p (record { node = n; dir = 0 }) || is_rule b p (record { node = n; dir = 1 })) (or_left (is_rule b p (record { node = n; dir = 0 })) (is_rule b p (record { node = n; dir = 1 })) o)
node_one b p n (suc d) o = or_right (is_equation b p n) (is_rule b p (record { node = n; dir = 0 }) || is_rule b p (record { node = n; dir = 1 })) (or_right (is_rule b p (record { node = n; dir = 0 })) (is_rule b p (record { node = n; dir = 1 })) o)

-- no rewriting acts on a process at rest
rewrite_unnamed : (b : Plain) (p : Name) (n w : ℕ) (a : RuleRef) (kind : Found) → FactsHold b → Rests b p → IsRedexOn b n w a kind → has (rewrite_label b n w a kind) p ≡ false
rewrite_unnamed b p n w a kind facts rest r = false_unless (has (rewrite_label b n w a kind) p) (λ h. let s = source_of b n w a kind p h in go s.0 s.1.0 s.1.1 s.1.2)
  where
    strict : (k : Found) → is_strict k ≡ true → k ≡ Strict
    strict No e = clash e refl
    strict Variant e = clash e refl
    strict Strict e = refl

    by : (v : Found) → IsFound (side r.pair w) r.rule v → v ≢ Strict → is_usable b p n w v ≡ false → (k : Found) → IsFound (side r.pair w) r.rule k → ((is_equation b p n || is_rule b p (record { node = n; dir = other w })) ≡ true) ⊎ (k ≡ Strict) → ⊥
    by No t d u k f s = t r.encompassed
    by Strict t d u k f s = d refl
    by Variant t d u k f (inl s) = clash s u
    by Variant t d u k f (inr s) = (subst {A = Found} (IsFound (side r.pair w) r.rule) s f).1 t

    at : is_rule b p a ≡ true → is_node_of b p n ≡ true → ((is_equation b p n || is_rule b p (record { node = n; dir = other w })) ≡ true) ⊎ (kind ≡ Strict) → ⊥
    at has_rule node s =
        let k = rest.reduced n w a node r.is_side r.is_dir has_rule r.away in
        let t = known_true b n w a kind k.0 facts r k.1 in
        by k.0 t.0 t.1 k.2 kind r.found s

    go : is_rule b p a ≡ true → (s : LabelKind) → (s ≡ E) ⊎ ((s ≡ rule_kind (other w)) ⊎ ((s ≡ rule_kind w) × (is_strict kind ≡ true))) → IsOn b.nodes p n s → ⊥
    go has_rule s (inl e) o = let i = subst {A = LabelKind} (IsOn b.nodes p n) e o in at has_rule (or_left (is_equation b p n) (is_rule b p (record { node = n; dir = 0 }) || is_rule b p (record { node = n; dir = 1 })) i) (inl (or_left (is_equation b p n) (is_rule b p (record { node = n; dir = other w })) i))
    go has_rule s (inr (inl e)) o = let i = subst {A = LabelKind} (IsOn b.nodes p n) e o in at has_rule (node_one b p n (other w) i) (inl (or_right (is_equation b p n) (is_rule b p (record { node = n; dir = other w })) i))
    go has_rule s (inr (inr e)) o = at has_rule (node_one b p n w (subst {A = LabelKind} (IsOn b.nodes p n) e.0 o)) (inr (strict kind e.1))

-- no overlapping acts on a process at rest
overlap_unnamed : (b : Plain) (p : Name) (a c : RuleRef) → Rests b p → IsBit a.dir → IsBit c.dir → ref_le a c ≡ true → has (overlap_label b a c) p ≡ false
overlap_unnamed b p a c rest da dc le = false_unless (has (overlap_label b a c) p) (λ h.
    let k = sym (has-minus (meet (label b a.node (rule_kind a.dir)) (label b c.node (rule_kind c.dir))) (done_of b a c) p) ∙ h in
    let m = sym (has-meet (label b a.node (rule_kind a.dir)) (label b c.node (rule_kind c.dir)) p) ∙ and_gives_right (not (has (done_of b a c) p)) (has (meet (label b a.node (rule_kind a.dir)) (label b c.node (rule_kind c.dir))) p) k in
    clash (rest.overlapped a c da dc (and_gives_right (is_rule b p c) (is_rule b p a) m) (and_gives_left (is_rule b p c) (is_rule b p a) m) le) (not_true (and_gives_left (not (has (done_of b a c) p)) (has (meet (label b a.node (rule_kind a.dir)) (label b c.node (rule_kind c.dir))) p) k)))

-- the rules of an overlap that is taken have directions, and the first is not after the second
abbrev overlapped_of : Job → Option (RuleRef × RuleRef)
overlapped_of (Overlap p a c) = Some (a, c)
overlapped_of j = None

abbrev pub AreOrdered : RuleRef → RuleRef → Type 0
AreOrdered a c = IsBit a.dir × IsBit c.dir × (ref_le a c ≡ true)

pub overlap_ordered : (b : Plain) (q p : Name) (a c : RuleRef) → Contains (work_of b p ++ Close p ∷ []) (Overlap q a c) → is_due b (Overlap q a c) ≡ true → AreOrdered a c
overlap_ordered b q p a c i due =
    let k = and_gives_right (is_working b q) (is_work_due b (Overlap q a c)) due in
    let o = bits (Contains-append_cases (work_of b p) (Close p ∷ []) (Overlap q a c) i) in
    (o.0, o.1, and_gives_left (ref_le a c) (not (has (done_of b a c) q)) (and_gives_right (is_rule b q a && is_rule b q c) (ref_le a c && not (has (done_of b a c) q)) k))
  where
    no_kind : {A : Type 0} (j : Job) → j ≡ Overlap q a c → kind_number j ≢ 2 → A
    no_kind j e d = absurd (d (ap kind_number e))

    at : Contains (overlaps b p) (Overlap q a c) → IsBit a.dir × IsBit c.dir
    at k =
        let f = contains_flat_map_back (λ (a : RuleRef). map (Overlap p a) (rules_of b p)) (rules_of b p) (Overlap q a c) k in
        let m = contains_mapped (Overlap p f.0) (rules_of b p) (Overlap q a c) f.2 in
        let e : (f.0, m.0) ≡ (a, c) = some_is (ap overlapped_of m.2) in
        (subst {A = RuleRef} (λ z. IsBit z.dir) (ap (λ (z : RuleRef × RuleRef). z.0) e) (rules_in b p f.0 f.1).0, subst {A = RuleRef} (λ z. IsBit z.dir) (ap (λ (z : RuleRef × RuleRef). z.1) e) (rules_in b p m.0 m.1).0)

    bits : Contains (work_of b p) (Overlap q a c) ⊎ Contains (Close p ∷ []) (Overlap q a c) → IsBit a.dir × IsBit c.dir
    bits (inr k) = ⊎_elim (λ e. no_kind (Close p) e (λ z. omega (arith, z))) (λ z. none_in z) (contains_cases (Close p) [] (Overlap q a c) k)
    bits (inl k) = ⊎_elim
        (λ l. let m = contains_mapped (λ n. Reduce p (record { 0 = n })) (node_numbers b) (Overlap q a c) l in no_kind (Reduce p (record { 0 = m.0 })) m.2 (λ z. omega (arith, z)))
        (λ l. ⊎_elim (λ o. let m = contains_mapped (λ n. Orient p (record { 0 = n })) (node_numbers b) (Overlap q a c) o in no_kind (Orient p (record { 0 = m.0 })) m.2 (λ z. omega (arith, z))) at (Contains-append_cases (orients b p) (overlaps b p) (Overlap q a c) l))
        (Contains-append_cases (reduces b p) (orients b p ++ overlaps b p) (Overlap q a c) k)

-- what was known of the job when it was taken
abbrev pub IsKnownJob : Job → Type 0
IsKnownJob (Overlap p a c) = AreOrdered a c
IsKnownJob j = ⊤

pub known_job : (b : Plain) (q p : Name) (j : Job) → Contains (work_of b p ++ Close p ∷ []) j → is_due b j ≡ true → IsKnownJob j
known_job b q p (Overlap r a c) i due = overlap_ordered b r p a c i due
known_job b q p (Reduce r n) i due = tt
known_job b q p (Orient r n) i due = tt
known_job b q p (Close r) i due = tt

one_unnamed : (p q : Name) → q ≢ p → has (q ∷ []) p ≡ false
one_unnamed p q d = has-one q p ∙ false_unless (name_eq p q) (λ e. d (sym (name_eq-eq p q e)))

orient_unnamed : (b : Plain) (q p : Name) (n : ℕ) → q ≢ p → has (orient_label b q n) p ≡ false
orient_unnamed b q p n d = go (is_equation b q n)
  where
    go : (x : Bool) → has (cond x (q ∷ []) []) p ≡ false
    go true = one_unnamed p q d
    go false = refl

not_over_unnamed : (b : Plain) (l : List Name) (p : Name) → has l p ≡ false → has (not_over b l) p ≡ false
not_over_unnamed b l p h = has-filter (λ q. not (is_over b q)) l p ∙ and_right (not (is_over b p)) (has l p) h

-- what the job of another process proposes does not act on a process at rest
pub rest_unnamed : (before b : Plain) (j : Job) (x : Proposed) (p : Name) → Proposes before j x → IsKnownJob j → KeepsPairs before.nodes b.nodes → FactsHold b → Rests b p → (is_own j ≡ true → process_of j ≢ p) → has (effect_label b x) p ≡ false
rest_unnamed before b j (Facts fs) p h k keeps facts rest away = refl
rest_unnamed before b (Reduce r m) (Rewrite n w at a kind t) p h k keeps facts rest away =
    rewrite_unnamed b p n.0 w a kind facts rest (subst {A = NodeId} (λ z. IsRedexOn b z.0 w a kind) (sym h.0) (redex_on before b r m.0 h.1.0 (is_usable before r m.0) w at a kind (tree_of t) h.1.1 keeps h.1.2.first.is_redex))
rest_unnamed before b j (One q n d c) p h k keeps facts rest away = let o = own_of before j (One q n d c) h in orient_unnamed b q p n.0 (λ e. away o.0 (o.1 ∙ e))
rest_unnamed before b j (Both q n c0 c1) p h k keeps facts rest away = let o = own_of before j (Both q n c0 c1) h in orient_unnamed b q p n.0 (λ e. away o.0 (o.1 ∙ e))
rest_unnamed before b j (Refuse q n) p h k keeps facts rest away = let o = own_of before j (Refuse q n) h in orient_unnamed b q p n.0 (λ e. away o.0 (o.1 ∙ e))
rest_unnamed before b (Overlap r d e) (Deduce a c ds) p h k keeps facts rest away = overlap_unnamed b p a c rest (subst {A = RuleRef} (λ z. IsBit z.dir) (sym h.0) k.0) (subst {A = RuleRef} (λ z. IsBit z.dir) (sym h.1) k.1) (ap (λ z. ref_le z c) h.0 ∙ ap (ref_le d) h.1 ∙ k.2)
rest_unnamed before b j (Unjoined q ds) p h k keeps facts rest away = let o = own_of before j (Unjoined q ds) h in one_unnamed p q (λ e. away o.0 (o.1 ∙ e))
rest_unnamed before b j (Closed q) p h k keeps facts rest away = let o = own_of before j (Closed q) h in one_unnamed p q (λ e. away o.0 (o.1 ∙ e))
rest_unnamed before b (Reduce r m) (Limit i cause) p h k keeps facts rest away = subst {A = Job} (λ z. has (not_over b (limit_label b z cause)) p ≡ false) (sym h.0)
    (not_over_unnamed b (redex_label b m.0 cause.redex) p (subst {A = Option (ℕ × RuleRef × Found)} (λ z. has (redex_label b m.0 z) p ≡ false) (sym h.1.2.redex_is)
    (rewrite_unnamed b p m.0 h.1.2.side h.1.2.rule h.1.2.kind facts rest (redex_on before b r m.0 h.1.0 (is_usable before r m.0) h.1.2.side h.1.2.at h.1.2.rule h.1.2.kind h.1.2.result h.1.1 keeps h.1.2.first.is_redex))))
rest_unnamed before b (Overlap r a c) (Limit i cause) p h k keeps facts rest away = subst {A = Job} (λ z. has (not_over b (limit_label b z cause)) p ≡ false) (sym h.0) (not_over_unnamed b (overlap_label b a c) p (overlap_unnamed b p a c rest k.0 k.1 k.2))
rest_unnamed before b (Close r) (Limit i cause) p h k keeps facts rest away = subst {A = Job} (λ z. has (not_over b (limit_label b z cause)) p ≡ false) (sym h.0) (not_over_unnamed b (r ∷ []) p (one_unnamed p r (away refl)))
rest_unnamed before b (Orient r m) (Limit i cause) p h k keeps facts rest away = absurd h
rest_unnamed before b (Orient r m) (Rewrite n w at a kind t) p h k keeps facts rest away = absurd h
rest_unnamed before b (Overlap r d e) (Rewrite n w at a kind t) p h k keeps facts rest away = absurd h
rest_unnamed before b (Close r) (Rewrite n w at a kind t) p h k keeps facts rest away = absurd h
rest_unnamed before b (Reduce r m) (Deduce a c ds) p h k keeps facts rest away = absurd h
rest_unnamed before b (Orient r m) (Deduce a c ds) p h k keeps facts rest away = absurd h
rest_unnamed before b (Close r) (Deduce a c ds) p h k keeps facts rest away = absurd h
