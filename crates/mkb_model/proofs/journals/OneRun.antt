-- At most one possible run has a given journal.
use Rattle.mkb_model.specs.Sleeping.{settle}
use Rattle.std.proofs.Common.{ℕ, ◌+◌, ◌<◌, ◌≡◌, ◌≢◌, ◌⊎◌, inl, inr, refl, sym, ap, ap₂, ◌∙◌, subst, arith, List, [], ◌∷◌, map, filter, Contains, Bool, true, false, cond, not, get_or, Option, Some, None, Ordering, Less, Equal, Greater, ⊎_elim}
use Rattle.std.specs.Prelude.{AllPairs}
use Rattle.std.specs.Option.{option_map_or}
use Rattle.std.specs.Ordering.{ordering_then, nat_cmp}
use Rattle.std.proofs.lemmas.List.{get_or_default}
use Rattle.kb_lemmas.proofs.Lists.{same_end, no_end}
use Rattle.kb_lemmas.proofs.Booleans.{then_equal}
use Rattle.kb_lemmas.proofs.Membership.{contains_cases, none_in}
use Rattle.kb_lemmas.proofs.Options.{some_is}
use Rattle.kb_term.proofs.CanonicalPairs.{flip, nat_flip, nat_equal, then_flip}
use Rattle.kb_term.specs.Tree.{Tree}
use Rattle.kb_term.specs.View.{tree_of}
use Rattle.kb_term.specs.Substitution.{instance}
use Rattle.kb_term.specs.Pair.{Pair}
use Rattle.kb_term.specs.Rule.{Rule, rule_of}
use Rattle.kb_term.specs.Signature.{Problem}
use Rattle.kb_overlap.specs.Trace.{side}
use Rattle.kb_rewrite.specs.NormalForm.{IsFound, Encompasses}
use Rattle.kb_term.specs.declared.origin.RuleRef.{RuleRef}
use Rattle.kb_term.specs.declared.origin.Found.{Found}
use Rattle.kb_term.specs.declared.origin.Found.TheVariants.{No, Variant, Strict}
use Rattle.kb_label.specs.Names.{Name, join}
use Rattle.kb_label.specs.declared.verdict.Reason.{Reason}
use Rattle.kb_node.specs.declared.node.NodeId.{NodeId}
use Rattle.kb_node.specs.declared.job.Job.{Job}
use Rattle.kb_node.specs.declared.job.Job.TheVariants.{Reduce, Orient, Overlap, Close}
use Rattle.mkb_model.specs.Jobs.{numbers_cmp}
use Rattle.mkb_model.specs.Plain.{Plain, GivenUp, is_over, pair_at}
use Rattle.mkb_model.specs.DueJobs.{reducers, is_usable}
use Rattle.mkb_model.specs.Effects.{applied, effect, effect_entry, limit_of, give_up, counted, effect_label, rewrite_label, overlap_label, orient_label, redex_label, limit_label, not_over, reason_eq}
use Rattle.mkb_model.specs.Proposals.{named_rules, redex_cmp, IsUsableRedex, IsFirstRedex, IsIrreducible, Proposes}
use Rattle.mkb_model.specs.Journals.{Moment, Follows, IsPossibleRun, IsFreeJob, After, landed, journal_of, tickets}
use Rattle.mkb_model.specs.declared.proposed.Proposed.{Proposed}
use Rattle.mkb_model.specs.declared.proposed.Proposed.TheVariants.{Facts, Rewrite, One, Both, Refuse, Deduce, Unjoined, Closed, Limit}
use Rattle.mkb_model.specs.declared.entry.Ticket.{Ticket}
use Rattle.mkb_model.specs.declared.entry.Effect.TheVariants.{Over, Made}
use Rattle.mkb_model.specs.declared.entry.Entry.{Entry}
use Rattle.mkb_model.specs.declared.entry.Entry.TheVariants.{Take, Commit, Drop, Abandon, Halt}
use Rattle.mkb_model.proofs.commits.Roles.{below}
use Rattle.mkb_model.proofs.Lists.{equal_or_more}
use Rattle.mkb_model.proofs.runs.Readiness.{named_rule}
use Rattle.mkb_model.proofs.runs.Selections.{legal-possible}
use Rattle.mkb_model.proofs.labels.LivingNames.{flight_numbered}
use Rattle.mkb_model.proofs.tickets.InFlight.{taken_free}
use Rattle.mkb_model.specs.declared.settings.Settings.{Settings}

-- ---- the first redex is one

numbers_flip : (xs ys : List ℕ) → numbers_cmp ys xs ≡ flip (numbers_cmp xs ys)
numbers_flip [] [] = refl
numbers_flip [] (y ∷ ys) = refl
numbers_flip (x ∷ xs) [] = refl
numbers_flip (x ∷ xs) (y ∷ ys) = ap₂ ordering_then (nat_flip x y) (numbers_flip xs ys) ∙ then_flip (nat_cmp x y) (numbers_cmp xs ys)

pub redex_flip : (v : ℕ) (at : List ℕ) (a : RuleRef) (w : ℕ) (pos : List ℕ) (c : RuleRef) → redex_cmp w pos c v at a ≡ flip (redex_cmp v at a w pos c)
redex_flip v at a w pos c =
    let refs = ap₂ ordering_then (nat_flip a.node c.node) (nat_flip a.dir c.dir) ∙ then_flip (nat_cmp a.node c.node) (nat_cmp a.dir c.dir) in
    let rest = ap₂ ordering_then (numbers_flip at pos) refs ∙ then_flip (numbers_cmp at pos) (ordering_then (nat_cmp a.node c.node) (nat_cmp a.dir c.dir)) in
    ap₂ ordering_then (nat_flip v w) rest ∙ then_flip (nat_cmp v w) (ordering_then (numbers_cmp at pos) (ordering_then (nat_cmp a.node c.node) (nat_cmp a.dir c.dir)))

pub neither : (o : Ordering) → o ≢ Greater → flip o ≢ Greater → o ≡ Equal
neither Less h k = absurd (k refl)
neither Equal h k = refl
neither Greater h k = absurd (h refl)

same_ref : (a c : RuleRef) → a.node ≡ c.node → a.dir ≡ c.dir → a ≡ c
same_ref a c e d = subst {A = ℕ} (λ z. record { node = z; dir = a.dir } ≡ c) (sym e) (subst {A = ℕ} (λ z. record { node = c.node; dir = z } ≡ c) (sym d) refl)

-- what a rule can do to a term is one, where the term encompasses its left side
found_once : (t : Tree) (rule : Rule) (k l : Found) → Encompasses t rule.left → IsFound t rule k → IsFound t rule l → k ≡ l
found_once t rule No l e h i = absurd (h e)
found_once t rule k No e h i = absurd (i e)
found_once t rule Variant Variant e h i = refl
found_once t rule Strict Strict e h i = refl
found_once t rule Variant Strict e h i = absurd (i.1 h)
found_once t rule Strict Variant e h i = absurd (h.1 i)

module _ (b : Plain) (p : Name) (n : ℕ) (pair : Pair) where
  -- the first redex that the process may use at the node
  abbrev pub IsFirstOf : ℕ → List ℕ → RuleRef → Found → Tree → Type 0
  IsFirstOf = IsFirstRedex (named_rules b (reducers b p n)) pair (is_usable b p n)

  first_once : (v : ℕ) (at : List ℕ) (a : RuleRef) (k : Found) (t : Tree) (w : ℕ) (pos : List ℕ) (c : RuleRef) (l : Found) (u : Tree) → IsFirstRedex (named_rules b (reducers b p n)) pair (is_usable b p n) v at a k t → IsFirstRedex (named_rules b (reducers b p n)) pair (is_usable b p n) w pos c l u → (v ≡ w) × (a ≡ c) × (k ≡ l)
  first_once v at a k t w pos c l u x y = (nat_equal v w e.0, same, found_once (side pair v) x.is_redex.rule k l (at, (instance x.is_redex.rewrites.0 x.is_redex.rule.left, x.is_redex.rewrites.1.redex, (x.is_redex.rewrites.0, refl))) x.is_redex.found there)
    where
      equal : redex_cmp v at a w pos c ≡ Equal
      equal = neither (redex_cmp v at a w pos c) (x.is_first w pos c l u y.is_redex) (λ g. y.is_first v at a k t x.is_redex (redex_flip v at a w pos c ∙ g))

      e : (nat_cmp v w ≡ Equal) × (ordering_then (numbers_cmp at pos) (ordering_then (nat_cmp a.node c.node) (nat_cmp a.dir c.dir)) ≡ Equal)
      e = then_equal (nat_cmp v w) (ordering_then (numbers_cmp at pos) (ordering_then (nat_cmp a.node c.node) (nat_cmp a.dir c.dir))) equal

      refs : (nat_cmp a.node c.node ≡ Equal) × (nat_cmp a.dir c.dir ≡ Equal)
      refs = then_equal (nat_cmp a.node c.node) (nat_cmp a.dir c.dir) (then_equal (numbers_cmp at pos) (ordering_then (nat_cmp a.node c.node) (nat_cmp a.dir c.dir)) e.1).1

      same : a ≡ c
      same = same_ref a c (nat_equal a.node c.node refs.0) (nat_equal a.dir c.dir refs.1)

      rules : x.is_redex.rule ≡ y.is_redex.rule
      rules =
          let f = named_rule b (reducers b p n) a x.is_redex.rule x.is_redex.listed in
          let g = named_rule b (reducers b p n) a y.is_redex.rule (subst {A = RuleRef} (λ z. Contains (named_rules b (reducers b p n)) (record { ref = z; rule = y.is_redex.rule })) (sym same) y.is_redex.listed) in
          sym f.1.2 ∙ ap (λ q. rule_of q a.dir) (some_is (sym f.1.1 ∙ g.1.1)) ∙ g.1.2

      there : IsFound (side pair v) x.is_redex.rule l
      there = subst {A = Rule} (λ r. IsFound (side pair v) r l) (sym rules) (subst {A = ℕ} (λ z. IsFound (side pair z) y.is_redex.rule l) (sym (nat_equal v w e.0)) y.is_redex.found)

-- ---- who gives up at a limit

filter_twice : {A : Type 0} (f : A → Bool) (xs : List A) → filter f (filter f xs) ≡ filter f xs
filter_twice f [] = refl
filter_twice {A} f (x ∷ xs) = go (f x) refl (filter_twice f xs)
  where
    go : (b : Bool) → f x ≡ b → filter f (filter f xs) ≡ filter f xs → filter f (cond b (x ∷ filter f xs) (filter f xs)) ≡ cond b (x ∷ filter f xs) (filter f xs)
    go true e ih = ap (λ b. cond b (x ∷ filter f (filter f xs)) (filter f (filter f xs))) e ∙ ap (x ∷◌) ih
    go false e ih = ih

over_twice : (b : Plain) (l : List Name) → not_over b (not_over b l) ≡ not_over b l
over_twice b l = filter_twice (λ p. not (is_over b p)) l

-- what a Reduce proposes is of no redex, or of the first
abbrev OfNone : Plain → Plain → Name → ℕ → Proposed → Type 0
OfNone before b p n x = (pair : Pair) × (pair_at before n ≡ Some pair) × IsIrreducible (named_rules before (reducers before p n)) pair (is_usable before p n) × (effect_label b x ≡ [])

abbrev OfFirst : Plain → Plain → Name → ℕ → Proposed → Type 0
OfFirst before b p n x = (pair : Pair) × (pair_at before n ≡ Some pair) × (w : ℕ) × (at : List ℕ) × (a : RuleRef) × (kind : Found) × (t : Tree)
    × IsFirstRedex (named_rules before (reducers before p n)) pair (is_usable before p n) w at a kind t × (not_over b (effect_label b x) ≡ not_over b (rewrite_label b n w a kind))

reduce_of : (before b : Plain) (p : Name) (n : NodeId) (x : Proposed) → Proposes before (Reduce p n) x → OfNone before b p n.0 x ⊎ OfFirst before b p n.0 x
reduce_of before b p n (Facts fs) h = inl (h.0, h.1, h.2.none_usable, refl)
reduce_of before b p n (Rewrite m w at a kind t) h = inr (h.1.0, h.1.1, w, at, a, kind, tree_of t, h.1.2.first, ap (λ (z : NodeId). not_over b (rewrite_label b z.0 w a kind)) h.0)
reduce_of before b p n (Limit i cause) h = inr (h.1.0, h.1.1, h.1.2.side, h.1.2.at, h.1.2.rule, h.1.2.kind, h.1.2.result, h.1.2.first, over_twice b (limit_label b i cause) ∙ ap (λ z. not_over b (limit_label b z cause)) h.0 ∙ ap (λ z. not_over b (redex_label b n.0 z)) h.1.2.redex_is)
reduce_of before b p n (One q m d c) h = absurd h
reduce_of before b p n (Both q m c0 c1) h = absurd h
reduce_of before b p n (Refuse q m) h = absurd h
reduce_of before b p n (Deduce a c ds) h = absurd h
reduce_of before b p n (Unjoined q ds) h = absurd h
reduce_of before b p n (Closed q) h = absurd h

reduce_same : (before b : Plain) (p : Name) (n : ℕ) (x y : Proposed) → OfNone before b p n x ⊎ OfFirst before b p n x → OfNone before b p n y ⊎ OfFirst before b p n y → not_over b (effect_label b x) ≡ not_over b (effect_label b y)
reduce_same before b p n x y (inl (q, i, none, e)) (inl (r, j, none', d)) = ap (not_over b) (e ∙ sym d)
reduce_same before b p n x y (inl (q, i, none, e)) (inr (r, j, w, at, a, k, t, first, d)) = absurd (none w at a k t (subst {A = Pair} (λ z. IsUsableRedex (named_rules before (reducers before p n)) z (is_usable before p n) w at a k t) (some_is (sym j ∙ i)) first.is_redex))
reduce_same before b p n x y (inr (r, j, w, at, a, k, t, first, d)) (inl (q, i, none, e)) = absurd (none w at a k t (subst {A = Pair} (λ z. IsUsableRedex (named_rules before (reducers before p n)) z (is_usable before p n) w at a k t) (some_is (sym j ∙ i)) first.is_redex))
reduce_same before b p n x y (inr (q, i, v, pos, c, l, u, other, e)) (inr (r, j, w, at, a, k, t, first, d)) =
    let s = first_once before p n q v pos c l u w at a k t other (subst {A = Pair} (λ z. IsFirstRedex (named_rules before (reducers before p n)) z (is_usable before p n) w at a k t) (some_is (sym j ∙ i)) first) in
    e ∙ ap (λ z. not_over b (rewrite_label b n z c l)) s.0 ∙ ap (λ z. not_over b (rewrite_label b n w z l)) s.1 ∙ ap (λ z. not_over b (rewrite_label b n w a z)) s.2 ∙ sym d

-- whom the other jobs act on
abbrev job_label : Plain → Job → List Name
job_label b (Reduce p n) = []
job_label b (Orient p n) = orient_label b p n.0
job_label b (Overlap p a c) = overlap_label b a c
job_label b (Close p) = p ∷ []

orient_same : (before b : Plain) (p : Name) (n : NodeId) (x : Proposed) → Proposes before (Orient p n) x → not_over b (effect_label b x) ≡ not_over b (orient_label b p n.0)
orient_same before b p n (One q m d c) h = ap (λ z. not_over b (orient_label b z m.0)) h.0 ∙ ap (λ (z : NodeId). not_over b (orient_label b p z.0)) h.1
orient_same before b p n (Both q m c0 c1) h = ap (λ z. not_over b (orient_label b z m.0)) h.0 ∙ ap (λ (z : NodeId). not_over b (orient_label b p z.0)) h.1
orient_same before b p n (Refuse q m) h = ap (λ z. not_over b (orient_label b z m.0)) h.0 ∙ ap (λ (z : NodeId). not_over b (orient_label b p z.0)) h.1
orient_same before b p n (Facts fs) h = absurd h
orient_same before b p n (Rewrite m w at a kind t) h = absurd h
orient_same before b p n (Deduce a c ds) h = absurd h
orient_same before b p n (Unjoined q ds) h = absurd h
orient_same before b p n (Closed q) h = absurd h
orient_same before b p n (Limit i cause) h = absurd h

overlap_same : (before b : Plain) (p : Name) (d e : RuleRef) (x : Proposed) → Proposes before (Overlap p d e) x → not_over b (effect_label b x) ≡ not_over b (overlap_label b d e)
overlap_same before b p d e (Deduce a c ds) h = ap (λ z. not_over b (overlap_label b z c)) h.0 ∙ ap (λ z. not_over b (overlap_label b d z)) h.1
overlap_same before b p d e (Limit i cause) h = over_twice b (limit_label b i cause) ∙ ap (λ z. not_over b (limit_label b z cause)) h.0
overlap_same before b p d e (Facts fs) h = absurd h
overlap_same before b p d e (Rewrite m w at a kind t) h = absurd h
overlap_same before b p d e (One q m k c) h = absurd h
overlap_same before b p d e (Both q m c0 c1) h = absurd h
overlap_same before b p d e (Refuse q m) h = absurd h
overlap_same before b p d e (Unjoined q ds) h = absurd h
overlap_same before b p d e (Closed q) h = absurd h

close_same : (before b : Plain) (p : Name) (x : Proposed) → Proposes before (Close p) x → not_over b (effect_label b x) ≡ not_over b (p ∷ [])
close_same before b p (Unjoined q ds) h = ap (λ z. not_over b (z ∷ [])) h.0
close_same before b p (Closed q) h = ap (λ z. not_over b (z ∷ [])) h.0
close_same before b p (Limit i cause) h = over_twice b (limit_label b i cause) ∙ ap (λ z. not_over b (limit_label b z cause)) h.0
close_same before b p (Facts fs) h = absurd h
close_same before b p (Rewrite m w at a kind t) h = absurd h
close_same before b p (One q m d c) h = absurd h
close_same before b p (Both q m c0 c1) h = absurd h
close_same before b p (Refuse q m) h = absurd h
close_same before b p (Deduce a c ds) h = absurd h

-- two right proposals of one take act on the same processes that have not given up
same_label : (before b : Plain) (j : Job) (x y : Proposed) → Proposes before j x → Proposes before j y → not_over b (effect_label b x) ≡ not_over b (effect_label b y)
same_label before b (Reduce p n) x y h k = reduce_same before b p n.0 x y (reduce_of before b p n x h) (reduce_of before b p n y k)
same_label before b (Orient p n) x y h k = orient_same before b p n x h ∙ sym (orient_same before b p n y k)
same_label before b (Overlap p a c) x y h k = overlap_same before b p a c x h ∙ sym (overlap_same before b p a c y k)
same_label before b (Close p) x y h k = close_same before b p x h ∙ sym (close_same before b p y k)

-- what the journal writes of the effect decides it
same_effect : (b : Plain) (x y : Proposed) → effect_entry b x ≡ effect_entry b y → not_over b (effect_label b x) ≡ not_over b (effect_label b y) → effect b x ≡ effect b y
same_effect b x y e d = ap settle (go (limit_of b x) (limit_of b y) e)
  where
    go : (o q : Option Reason) → option_map_or Over o (Made x) ≡ option_map_or Over q (Made y) → counted (option_map_or (λ r. give_up r (effect_label b x) b) o (applied b x)) ≡ counted (option_map_or (λ r. give_up r (effect_label b y) b) q (applied b y))
    go None None h = let i : x ≡ y = cc in ap (λ z. counted (applied b z)) i
    go (Some r) (Some s) h =
        let i : r ≡ s = cc in
        ap (λ l. counted (record b { over = map (λ (g : GivenUp). cond (reason_eq g.reason r) (record g { names = join g.names l }) g) b.over })) d ∙ ap (λ z. counted (give_up z (effect_label b y) b)) i
    go None (Some s) h = absurd (cc)
    go (Some r) None h = absurd (cc)

-- ---- tickets are taken once

take_number : (ms : List Moment) (m : Moment) (c before : Plain) (w t : ℕ) (j : Job) → Follows IsFreeJob ms m.board m.entry c → m ≡ record { board = before; entry = Take w t j } → t ≡ tickets ms + 1
take_number ms m c before w t j f e = at (subst {A = Moment} (λ z. Follows IsFreeJob ms z.board z.entry c) e f)
  where
    at : Follows IsFreeJob ms before (Take w t j) c → t ≡ tickets ms + 1
    at f = f.next_number

pub taken_once : (P : Problem) (n : Settings) (ms : List Moment) (c : Plain) → IsPossibleRun P n ms c → (b d : Plain) (v w t : ℕ) (i j : Job) → Contains ms (record { board = b; entry = Take v t i }) → Contains ms (record { board = d; entry = Take w t j }) → b ≡ d
taken_once P n [] c run b d v w t i j x y = none_in x
taken_once P n (m ∷ ms) c (run, f) b d v w t i j x y = go (contains_cases m ms (record { board = b; entry = Take v t i }) x) (contains_cases m ms (record { board = d; entry = Take w t j }) y) (λ k l. taken_once P n ms m.board run b d v w t i j k l)
  where
    go : (m ≡ record { board = b; entry = Take v t i }) ⊎ Contains ms (record { board = b; entry = Take v t i }) → (m ≡ record { board = d; entry = Take w t j }) ⊎ Contains ms (record { board = d; entry = Take w t j })
        → (Contains ms (record { board = b; entry = Take v t i }) → Contains ms (record { board = d; entry = Take w t j }) → b ≡ d) → b ≡ d
    go (inl e) (inl q) ih = sym (ap (λ (z : Moment). z.board) e) ∙ ap (λ (z : Moment). z.board) q
    go (inl e) (inr k) ih = absurd (let r = take_number ms m c b v t i f e in let s = (taken_free P n ms m.board run d w t j k).1 in omega (arith, r, s))
    go (inr k) (inl e) ih = absurd (let r = take_number ms m c d w t j f e in let s = (taken_free P n ms m.board run b v t i k).1 in omega (arith, r, s))
    go (inr k) (inr l) ih = ih k l

pub ticket_once : (ts : List Ticket) → AllPairs (λ (t u : Ticket). t.number ≢ u.number) ts → (t u : Ticket) → Contains ts t → Contains ts u → t.number ≡ u.number → t ≡ u
ticket_once ts differ t u i k e = ⊎_elim (λ l. absurd (apart t u i k l e)) (λ l. ⊎_elim (λ q. same q) (λ q. absurd (apart u t k i (omega (arith, q)) (sym e))) (equal_or_more k.0 i.0 l)) (below i.0 k.0)
  where
    apart : (t u : Ticket) (i : Contains ts t) (k : Contains ts u) → i.0 < k.0 → t.number ≢ u.number
    apart t u i k l = subst {A = Ticket} (λ z. t.number ≢ z.number) (get_or_default ts k.0 t u k.1 ∙ k.2) (subst {A = Ticket} (λ z. z.number ≢ (get_or ts k.0 t).number) i.2 (differ i.0 k.0 t l k.1))

    same : k.0 ≡ i.0 → t ≡ u
    same q = sym i.2 ∙ ap (λ n. get_or ts n t) (sym q) ∙ get_or_default ts k.0 t u k.1 ∙ k.2

-- ---- runs

follow_once : (P : Problem) (n : Settings) (past : List Moment) (b : Plain) → IsPossibleRun P n past b → (e : Entry) (c d : Plain) → Follows IsFreeJob past b e c → Follows IsFreeJob past b e d → c ≡ d
follow_once P n past b run (Take w t j) c d f g = f.leads_to ∙ sym g.leads_to
follow_once P n past b run (Commit w t e) c d f g = f.leads_to ∙ ap (landed t) (same_effect b f.proposal g.proposal (sym f.names_effect ∙ g.names_effect) (same_label f.finishing.before b f.job f.proposal g.proposal f.finishing.proposed other)) ∙ sym g.leads_to
  where
    jobs : f.job ≡ g.job
    jobs = ap (λ (z : Ticket). z.job) (ticket_once b.flight (flight_numbered IsFreeJob P n past b run).distinct (record { number = t; worker = w; job = f.job }) (record { number = t; worker = w; job = g.job }) f.finishing.flying g.finishing.flying refl)

    boards : f.finishing.before ≡ g.finishing.before
    boards = taken_once P n past b run f.finishing.before g.finishing.before w w t f.job g.job f.finishing.taken g.finishing.taken

    other : Proposes f.finishing.before f.job g.proposal
    other = subst {A = Plain} (λ z. Proposes z f.job g.proposal) (sym boards) (subst {A = Job} (λ z. Proposes g.finishing.before z g.proposal) (sym jobs) g.finishing.proposed)
follow_once P n past b run (Drop w t p) c d f g = f.leads_to ∙ sym g.leads_to
follow_once P n past b run (Abandon w t) c d f g = f.leads_to ∙ sym g.leads_to
follow_once P n past b run Halt c d f g = f.1 ∙ sym g.1

-- a journal decides the run and its board
pub runs_once : (P : Problem) (n : Settings) (ms ns : List Moment) (c d : Plain) → IsPossibleRun P n ms c → IsPossibleRun P n ns d → journal_of ms ≡ journal_of ns → (ms ≡ ns) × (c ≡ d)
runs_once P n [] [] c d r s e = (refl, r ∙ sym s)
runs_once P n [] (k ∷ ns) c d r s e = no_end (journal_of ns) k.entry (sym e)
runs_once P n (m ∷ ms) [] c d r s e = no_end (journal_of ms) m.entry e
runs_once P n (m ∷ ms) (k ∷ ns) c d r s e =
    let j = same_end (journal_of ms) (journal_of ns) m.entry k.entry e in
    let h = runs_once P n ms ns m.board k.board r.0 s.0 j.0 in
    let f = subst {A = List Moment} (λ zs. Follows IsFreeJob zs m.board m.entry d) (sym h.0) (subst {A = Plain} (λ z. Follows IsFreeJob ns z m.entry d) (sym h.1) (subst {A = Entry} (λ z. Follows IsFreeJob ns k.board z d) (sym j.1) s.1)) in
    (ap₂ (λ (z : Moment) (zs : List Moment). z ∷ zs) (same m k h.1 j.1) h.0, follow_once P n ms m.board r.0 m.entry c d r.1 f)
  where
    same : (m k : Moment) → m.board ≡ k.board → m.entry ≡ k.entry → m ≡ k
    same m k b i = ap₂ (λ (x : Plain) (y : Entry). record { board = x; entry = y }) b i

-- so a legal journal leads to one board
pub after_once : (P : Problem) (n : Settings) (J : List Entry) (c d : Plain) → After P n J c → After P n J d → c ≡ d
after_once P n J c d a b = (runs_once P n a.0 b.0 c d (legal-possible P n a.0 c a.2) (legal-possible P n b.0 d b.2) (a.1 ∙ sym b.1)).1
