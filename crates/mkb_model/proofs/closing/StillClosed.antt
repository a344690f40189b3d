-- What is closed stays closed: who keeps its roles keeps its rules and equations, name by name.
use Rattle.std.proofs.Common.{ℕ, zero, suc, ◌+◌, ◌-◌, ◌≤◌, ◌<◌, ◌≡◌, refl, sym, ap, ap₂, ◌∙◌, subst, arith, List, [], ◌∷◌, ◌++◌, map, filter, flat_map, length, Contains, Bool, true, false, cond, Option, None, ⊎_elim}
use Rattle.std.specs.Prelude.{option_map}
use Rattle.std.specs.List.{filter_map, cons_option}
use Rattle.std.proofs.lemmas.List.{append-nil}
use Rattle.std.proofs.lemmas.Grind.{flat_map-append}
use Rattle.mkb_model.proofs.commits.Views.{there_pair}
use Rattle.kb_lemmas.proofs.Lists.{filter_none_of}
use Rattle.kb_lemmas.proofs.Membership.{contains_cases, contains_behind, contains_first, none_in, contains_flat_map_back}
use Rattle.kb_lemmas.proofs.Options.{none_some}
use Rattle.kb_term.specs.Tree.{Tree}
use Rattle.kb_term.specs.Rule.{rule_of}
use Rattle.kb_term.specs.Signature.{Problem}
use Rattle.kb_term.specs.declared.origin.RuleRef.{RuleRef}
use Rattle.kb_label.specs.Names.{Name, has}
use Rattle.kb_node.specs.declared.node.LabelKind.TheVariants.{E}
use Rattle.kb_node.specs.declared.job.Job.{Job}
use Rattle.kb_node.specs.declared.job.Job.TheVariants.{Reduce, Orient, Overlap, Close}
use Rattle.mkb_model.specs.Plain.{Plain, PlainNode, numbers_from, node_numbers, directions, is_equation, is_rule, rules_of, equations_of, pair_in, pair_at, rule_at, rule_kind, sides, equations_at}
use Rattle.mkb_model.specs.Effects.{applied, effect}
use Rattle.mkb_model.specs.Proposals.{NamedRule, named_rules, Proposes, IsClosed, IsClosedOn, rules_on, equations_on}
use Rattle.mkb_model.specs.Journals.{Moment, Follows, IsPossibleRun, IsFreeJob}
use Rattle.mkb_model.specs.Ready.{KeepsPairs}
use Rattle.mkb_model.specs.declared.proposed.Proposed.{Proposed}
use Rattle.mkb_model.specs.declared.proposed.Proposed.TheVariants.{Closed}
use Rattle.mkb_model.specs.declared.entry.Entry.{Entry}
use Rattle.mkb_model.specs.declared.entry.Entry.TheVariants.{Take, Commit, Drop, Abandon, Halt}
use Rattle.mkb_model.proofs.Lists.{clash, false_unless, filter_in, numbers_in}
use Rattle.mkb_model.proofs.commits.Roles.{KeepsRoles, below, on_there}
use Rattle.mkb_model.proofs.nodes.Pairs.{pairs_trans}
use Rattle.mkb_model.proofs.nodes.DistinctPairs.{pairs_stay, effect_cases}
use Rattle.mkb_model.proofs.commits.Commits.{pairs-applied}
use Rattle.mkb_model.proofs.labels.LivingNames.{within_budget, effect_setting}
use Rattle.mkb_model.proofs.tickets.InFlight.{taken_free}
use Rattle.mkb_model.proofs.commits.Bystanders.{role_tests}
use Rattle.mkb_model.proofs.closing.LeftAlone.{rules_in}
use Rattle.mkb_model.proofs.closing.RestInRuns.{stands_run, resting_run, stays, effect_closed, closing_job, not_forked, IsForkOfClosed}
use Rattle.mkb_model.proofs.closing.Staying.{closers_stay}
use Rattle.mkb_model.proofs.runs.AllFine.{earlier_run}
use Rattle.mkb_model.specs.declared.settings.Settings.{Settings}

-- ---- lists

numbers_split : (m n k t : ℕ) → t ≡ m + k → numbers_from n t ≡ numbers_from n m ++ numbers_from (n + m) k
numbers_split zero n k t e = let d : t ≡ k = omega (arith, e) in let f : n ≡ n + 0 = omega arith in ap (numbers_from n) d ∙ ap (λ z. numbers_from z k) f
numbers_split (suc m) n k zero e = absurd (omega (arith, e))
numbers_split (suc m) n k (suc t) e = let d : t ≡ m + k = omega (arith, e) in let f : (n + 1) + m ≡ n + suc m = omega arith in ap (n ∷◌) (numbers_split m (n + 1) k t d ∙ ap (λ z. numbers_from (n + 1) m ++ numbers_from z k) f)

filter_append : {A : Type 0} (f : A → Bool) (xs ys : List A) → filter f (xs ++ ys) ≡ filter f xs ++ filter f ys
filter_append f [] ys = refl
filter_append {A} f (x ∷ xs) ys = go (f x) (filter_append f xs ys)
  where
    go : (b : Bool) → filter f (xs ++ ys) ≡ filter f xs ++ filter f ys → cond b (x ∷ filter f (xs ++ ys)) (filter f (xs ++ ys)) ≡ cond b (x ∷ filter f xs) (filter f xs) ++ filter f ys
    go true e = ap (x ∷◌) e
    go false e = e

filter_same : {A : Type 0} (f k : A → Bool) → ((x : A) → f x ≡ k x) → (xs : List A) → filter f xs ≡ filter k xs
filter_same f k h [] = refl
filter_same {A} f k h (x ∷ xs) = ap₂ (λ (b : Bool) (ys : List A). cond b (x ∷ ys) ys) (h x) (filter_same f k h xs)

filter_map_same : {A B : Type 0} (f k : A → Option B) (xs : List A) → ((x : A) → Contains xs x → f x ≡ k x) → filter_map f xs ≡ filter_map k xs
filter_map_same f k [] h = refl
filter_map_same {A} {B} f k (x ∷ xs) h = ap₂ (λ (o : Option B) (ys : List B). cons_option o ys) (h x (contains_first x xs)) (filter_map_same f k xs (λ y i. h y (contains_behind x xs y i)))

no_pair : (xs : List PlainNode) (n : ℕ) → length xs ≤ n → pair_in xs n ≡ None
no_pair [] n l = refl
no_pair (x ∷ xs) zero l = absurd (omega (arith, l))
no_pair (x ∷ xs) (suc n) l = no_pair xs n (omega (arith, l))

-- a board that keeps the pairs has as many nodes
longer : (xs ys : List PlainNode) → KeepsPairs xs ys → length xs ≤ length ys
longer xs ys h = ⊎_elim (λ l. let q = there_pair xs (length ys) l in none_some (sym (no_pair ys (length ys) (omega arith)) ∙ h (length ys) q.0 q.1)) (λ l. l) (below (length ys) (length xs))

-- ---- who keeps its roles

module _ (b c : Plain) (p : Name) (roles : KeepsRoles b.nodes c.nodes p) (keeps : KeepsPairs b.nodes c.nodes) where
  abbrev more : ℕ
  more = length c.nodes - length b.nodes

  counted_more : length c.nodes ≡ length b.nodes + more
  counted_more = let l = longer b.nodes c.nodes keeps in omega (arith, l)

  numbers_more : node_numbers c ≡ node_numbers b ++ numbers_from (0 + length b.nodes) more
  numbers_more = numbers_split (length b.nodes) 0 more (length c.nodes) counted_more

  pub same_equations : equations_of c p ≡ equations_of b p
  same_equations = ap (filter (is_equation c p)) numbers_more ∙ filter_append (is_equation c p) (node_numbers b) (numbers_from (0 + length b.nodes) more)
      ∙ ap₂ (λ (x y : List ℕ). x ++ y) (filter_same (is_equation c p) (is_equation b p) (λ n. role_tests b c p roles n E) (node_numbers b))
      (filter_none_of (is_equation c p) (numbers_from (0 + length b.nodes) more) (λ n i. false_unless (is_equation c p n) (λ o. let l = on_there b.nodes p n E ((roles n E).0 o) in let r = (numbers_in (0 + length b.nodes) more n i).0 in absurd (omega (arith, l, r)))))
      ∙ append-nil (equations_of b p)

  pub same_rules : rules_of c p ≡ rules_of b p
  same_rules = ap (λ ns. filter (is_rule c p) (flat_map directions ns)) numbers_more ∙ ap (filter (is_rule c p)) (flat_map-append directions (node_numbers b) (numbers_from (0 + length b.nodes) more))
      ∙ filter_append (is_rule c p) (flat_map directions (node_numbers b)) (flat_map directions (numbers_from (0 + length b.nodes) more))
      ∙ ap₂ (λ (x y : List RuleRef). x ++ y) (filter_same (is_rule c p) (is_rule b p) (λ a. role_tests b c p roles a.node (rule_kind a.dir)) (flat_map directions (node_numbers b)))
      (filter_none_of (is_rule c p) (flat_map directions (numbers_from (0 + length b.nodes) more)) (λ a i. false_unless (is_rule c p a) (λ o.
      let m = contains_flat_map_back directions (numbers_from (0 + length b.nodes) more) a i in
      let l = on_there b.nodes p a.node (rule_kind a.dir) ((roles a.node (rule_kind a.dir)).0 o) in
      let r = (numbers_in (0 + length b.nodes) more m.0 m.1).0 in
      let e = node m.0 a m.2 in
      absurd (omega (arith, l, r, e)))))
      ∙ append-nil (rules_of b p)
    where
      node : (k : ℕ) (a : RuleRef) → Contains (directions k) a → k ≡ a.node
      node k a i = ⊎_elim (λ e. ap (λ (z : RuleRef). z.node) e) (λ j. ⊎_elim (λ e. ap (λ (z : RuleRef). z.node) e) (λ q. none_in q) (contains_cases (record { node = k; dir = 1 }) [] a j)) (contains_cases (record { node = k; dir = 0 }) (record { node = k; dir = 1 } ∷ []) a i)

  same_pair : (n : ℕ) → n < length b.nodes → pair_in c.nodes n ≡ pair_in b.nodes n
  same_pair n l = let q = there_pair b.nodes n l in keeps n q.0 q.1 ∙ sym q.1

  pub same_rules_on : rules_on c p ≡ rules_on b p
  same_rules_on = ap (named_rules c) same_rules ∙ filter_map_same (λ a. option_map {U = NamedRule} (λ r. record { ref = a; rule = r }) (rule_at c a)) (λ a. option_map {U = NamedRule} (λ r. record { ref = a; rule = r }) (rule_at b a)) (rules_of b p)
      (λ a i. ap (λ o. option_map {U = NamedRule} (λ r. record { ref = a; rule = r }) (option_map (λ q. rule_of q a.dir) o)) (same_pair a.node (on_there b.nodes p a.node (rule_kind a.dir) (rules_in b p a i).1)))

  pub same_equations_on : equations_on c p ≡ equations_on b p
  same_equations_on = ap (equations_at c) same_equations ∙ ap (map sides) (filter_map_same (pair_at c) (pair_at b) (equations_of b p) (λ n i. same_pair n (on_there b.nodes p n E (filter_in (is_equation b p) (node_numbers b) n i).1)))

  -- what is closed is closed on the other board
  pub still_closed : c.problem ≡ b.problem → IsClosedOn b p → IsClosedOn c p
  still_closed e h = subst {A = Problem} (λ z. IsClosed (rules_on c p) (equations_on c p) z.equations) (sym e)
      (subst {A = List NamedRule} (λ z. IsClosed z (equations_on c p) b.problem.equations) (sym same_rules_on) (subst {A = List (Tree × Tree)} (λ z. IsClosed (rules_on b p) z b.problem.equations) (sym same_equations_on) h))

-- ---- runs

closed_nodes : (b : Plain) (x : Proposed) (p : Name) → x ≡ Closed p → (effect b x).nodes ≡ b.nodes
closed_nodes b x p e = ⊎_elim (λ h. h) (λ h. h ∙ subst {A = Proposed} (λ z. (applied b z).nodes ≡ b.nodes) (sym e) refl) (effect_cases b x)

closed_follow : (P : Problem) (n : Settings) (past : List Moment) (b : Plain) (e : Entry) (c : Plain) → IsPossibleRun P n past b → Follows IsFreeJob past b e c → ((p : Name) → has b.closed p ≡ true → IsClosedOn b p) → (p : Name) → has c.closed p ≡ true → IsClosedOn c p
closed_follow P n past b (Take w t j) c run f h = subst {A = Plain} (λ z. (p : Name) → has z.closed p ≡ true → IsClosedOn z p) (sym f.leads_to) h
closed_follow P n past b (Commit w t e) c run f h = subst {A = Plain} (λ z. (p : Name) → has z.closed p ≡ true → IsClosedOn z p) (sym f.leads_to) (λ p k. ⊎_elim (old p) (λ r. ⊎_elim (λ i. new p i.0) (λ i. absurd (fork i)) r) (effect_closed b f.proposal p k))
  where
    before : Plain
    before = f.finishing.before

    moment : Moment
    moment = record { board = f.finishing.before; entry = Take w t f.job }

    pairs : KeepsPairs b.nodes (effect b f.proposal).nodes
    pairs = ⊎_elim (λ i. subst {A = List PlainNode} (KeepsPairs b.nodes) (sym i) (λ n q h. h)) (λ i. subst {A = List PlainNode} (KeepsPairs b.nodes) (sym i) (pairs-applied b f.proposal)) (effect_cases b f.proposal)

    old : (p : Name) → has b.closed p ≡ true → IsClosedOn (effect b f.proposal) p
    old p k =
        let g = stands_run P n past b run in
        let r = resting_run P n past b run in
        let u = stays f.finishing.before b w t f.job f.proposal f.finishing.proposed (taken_free P n past b run f.finishing.before w t f.job f.finishing.taken).0 (pairs_stay IsFreeJob P n past b run moment f.finishing.taken) f.finishing.flying f.acts g r p (r.closed p k) (g.labelled.closed.lives p k) (λ own. r.no_own p k (record { number = t; worker = w; job = f.job }) f.finishing.flying own) in
        still_closed b (effect b f.proposal) p u.roles pairs (effect_setting b f.proposal).0 (h p k)

    fork : ¬ IsForkOfClosed b f.proposal
    fork i = not_forked f.finishing.before b w t f.job f.proposal f.finishing.proposed (taken_free P n past b run f.finishing.before w t f.job f.finishing.taken).0 (pairs_stay IsFreeJob P n past b run moment f.finishing.taken) f.finishing.flying f.acts (stands_run P n past b run) (resting_run P n past b run) f.proposal f.finishing.proposed i

    new : (p : Name) → f.proposal ≡ Closed p → IsClosedOn (effect b f.proposal) p
    new p q =
        let j : f.job ≡ Close p = closing_job f.finishing.before f.job p (subst {A = Proposed} (Proposes f.finishing.before f.job) q f.finishing.proposed) in
        let k = closers_stay P n past b run f.finishing.before w t p (subst {A = Job} (λ z. Contains past (record { board = f.finishing.before; entry = Take w t z })) j f.finishing.taken) (subst {A = Job} (λ z. Contains b.flight (record { number = t; worker = w; job = z })) j f.finishing.flying) in
        let roles : KeepsRoles f.finishing.before.nodes (effect b f.proposal).nodes p = subst {A = List PlainNode} (λ ys. KeepsRoles f.finishing.before.nodes ys p) (sym (closed_nodes b f.proposal p q)) k.1 in
        let kept = pairs_trans f.finishing.before.nodes b.nodes (effect b f.proposal).nodes (pairs_stay IsFreeJob P n past b run moment f.finishing.taken) pairs in
        let r = earlier_run IsFreeJob P n past b run moment f.finishing.taken in
        let problem = (effect_setting b f.proposal).0 ∙ (within_budget IsFreeJob P n past b run).problem ∙ sym (within_budget IsFreeJob P n r.0 f.finishing.before r.1).problem in
        still_closed f.finishing.before (effect b f.proposal) p roles kept problem (is_closed f.finishing.before f.job p (subst {A = Proposed} (Proposes f.finishing.before f.job) q f.finishing.proposed))
      where
        is_closed : (b : Plain) (j : Job) (p : Name) → Proposes b j (Closed p) → IsClosedOn b p
        is_closed b (Close q) p k = subst {A = Name} (IsClosedOn b) (sym k.0) k.1
        is_closed b (Reduce q m) p k = absurd k
        is_closed b (Orient q m) p k = absurd k
        is_closed b (Overlap q a e) p k = absurd k
closed_follow P n past b (Drop w t p) c run f h = subst {A = Plain} (λ z. (p : Name) → has z.closed p ≡ true → IsClosedOn z p) (sym f.leads_to) h
closed_follow P n past b (Abandon w t) c run f h = subst {A = Plain} (λ z. (p : Name) → has z.closed p ≡ true → IsClosedOn z p) (sym f.leads_to) h
closed_follow P n past b Halt c run f h = subst {A = Plain} (λ z. (p : Name) → has z.closed p ≡ true → IsClosedOn z p) (sym f.1) h

-- what is closed is closed: all overlaps of its rules join or are equations that it has
pub closed_run : (P : Problem) (n : Settings) (ms : List Moment) (c : Plain) → IsPossibleRun P n ms c → (p : Name) → has c.closed p ≡ true → IsClosedOn c p
closed_run P n [] c run = subst {A = Plain} (λ z. (p : Name) → has z.closed p ≡ true → IsClosedOn z p) (sym run) (λ p k. clash k refl)
closed_run P n (m ∷ ms) c (run, f) = closed_follow P n ms m.board m.entry c run f (closed_run P n ms m.board run)
