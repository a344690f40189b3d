-- What is committed in a possible run of a problem within the limits is fine, and each process has each node in one role.
use Rattle.std.proofs.Common.{ℕ, ◌+◌, ◌<◌, ◌≡◌, ◌≢◌, ◌⊎◌, inl, inr, refl, sym, ap, ◌∙◌, subst, arith, List, [], ◌∷◌, ◌++◌, filter, flat_map, length, slice_index_or, Contains, All, Bool, true, false, not, Option, Some, None, ⊎_elim}
use Rattle.std.specs.Prelude.{IsFalse, option_map}
use Rattle.std.specs.List.{filter_map}
use Rattle.std.specs.Option.{option_map_or}
use Rattle.std.proofs.lemmas.List.Elements.{Contains-append_cases, Contains-append_left, Contains-append_right, All-contains}
use Rattle.kb_lemmas.proofs.Membership.{contains_cases, contains_first, none_in, contains_flat_map_back, contains_flat_map, contains_mapped}
use Rattle.kb_lemmas.proofs.Booleans.{and_gives_left, and_gives_right}
use Rattle.kb_lemmas.proofs.Options.{some_is, none_some}
use Rattle.kb_term.specs.Tree.{Tree}
use Rattle.kb_term.specs.Pair.{Pair, canonical_pair}
use Rattle.kb_term.specs.Rule.{Rule, rule_of}
use Rattle.kb_term.specs.Signature.{Signature, Problem, IsWellFormed, IsWithinLimits, IsEquationWithinLimits, IsRuleOver}
use Rattle.kb_term.specs.declared.origin.RuleRef.{RuleRef}
use Rattle.kb_term.specs.declared.origin.Origin.TheVariants.{Input}
use Rattle.kb_cert.specs.Family.{Orders, family}
use Rattle.kb_cert.specs.declared.certificate.Certificate.{Certificate}
use Rattle.kb_cert.proofs.FamilyLaws.{nothing_orderable}
use Rattle.kb_cert.proofs.Members.{first_contained}
use Rattle.kb_term.specs.First.{IsFirst}
use Rattle.kb_cert.proofs.Ordering.{orders_among}
use Rattle.kb_laws.proofs.Complete.{all_from, run_sound}
use Rattle.kb_laws.proofs.RunLaws.{run_chained}
use Rattle.kb_laws.proofs.Orderable.{run_orderable}
use Rattle.kb_label.specs.Names.{Name, root, has, child, join, meet, minus}
use Rattle.kb_label.specs.declared.verdict.Reason.{Reason}
use Rattle.kb_label.proofs.Members.{has-minus, has-meet}
use Rattle.kb_node.specs.declared.node.NodeId.{NodeId}
use Rattle.kb_node.specs.declared.node.LabelKind.{LabelKind}
use Rattle.kb_node.specs.declared.node.LabelKind.TheVariants.{R0, R1, E, C0, C1, X}
use Rattle.kb_node.specs.declared.job.Deduced.{Deduced}
use Rattle.kb_node.specs.declared.job.Job.{Job}
use Rattle.kb_node.specs.declared.job.Job.TheVariants.{Reduce, Orient, Overlap, Close}
use Rattle.mkb_model.specs.Plain.{Plain, orders_of, PlainNode, label, label_at, rule_kind, constraint_kind, directions, node_numbers, is_equation, is_constraint, rules_of, constraints_of, pair_in, pair_at, rule_at, rules_at, state_of, done_of}
use Rattle.mkb_model.specs.DueJobs.{is_work_due, is_working}
use Rattle.mkb_model.specs.Effects.{applied, effect, limit_of, give_up, effect_label, is_dropped, overlap_label, with_node, node_of}
use Rattle.mkb_model.specs.Proposals.{NamedRule, Proposes, OrientsBy, both_ways, all_ways, rules_on}
use Rattle.mkb_model.specs.Invariants.{HasOneRole}
use Rattle.mkb_model.specs.Headline.{EachCompletes, states_before, states_of}
use Rattle.mkb_model.specs.Journals.{Moment, Follows, IsPossibleRun, IsFreeJob, IsRunBy, IsFinishing, opening, with_input, with_inputs}
use Rattle.mkb_model.specs.Ready.{IsOn, IsRole, KeepsPairs, OneRole, IsNew, IsReady, IsForkable, IsFine, CommitsFine, AllFine, CanOrient, IsDeducedFrom}
use Rattle.mkb_model.specs.declared.proposed.Proposed.{Proposed}
use Rattle.mkb_model.specs.declared.proposed.Proposed.TheVariants.{Facts, Rewrite, One, Both, Refuse, Deduce, Unjoined, Closed, Limit}
use Rattle.mkb_model.specs.declared.entry.Entry.{Entry}
use Rattle.mkb_model.specs.declared.entry.Entry.TheVariants.{Take, Commit, Drop, Abandon, Halt}
use Rattle.mkb_model.proofs.Lists.{clash, decide, false_unless, filter_in, in_filter, filter_map_in, in_filter_map, in_numbers}
use Rattle.mkb_model.proofs.commits.Roles.{kind_number, KeepsRoles, on_there, put_other, label-with_node, equation-no_rule}
use Rattle.mkb_model.proofs.commits.Views.{rule_listed, there_pair}
use Rattle.mkb_model.proofs.commits.RoleChanges.{Fits}
use Rattle.mkb_model.proofs.commits.Proper.{IsOrdered}
use Rattle.mkb_model.proofs.commits.Commits.{orients}
use Rattle.mkb_model.proofs.commits.OneRole.{one_role_applied, one_role_forked, one_role_fork_other}
use Rattle.mkb_model.proofs.nodes.DistinctPairs.{fits_run, fits-applied, proposed_pairs, pairs_stay}
use Rattle.mkb_model.proofs.runs.Ancestors.{ancestor_is, begins-refl}
use Rattle.mkb_model.proofs.runs.Simulation.{begins-child, forked_names, apart_from}
use Rattle.mkb_model.proofs.runs.Readiness.{named_rule, rewrite_ready, rewriting_ready}
use Rattle.mkb_model.proofs.runs.Openings.{run_completes}
use Rattle.mkb_model.proofs.labels.LivingNames.{run_orders}
use Rattle.mkb_model.proofs.tickets.InFlight.{taken_free, free_due}
use Rattle.mkb_model.proofs.labels.LivingLabels.{IsLabelled, labelled_run}
use Rattle.mkb_model.proofs.closing.LeftAlone.{rules_in}
use Rattle.mkb_model.proofs.runs.KnownFacts.{rule_stays}
use Rattle.mkb_model.proofs.closing.RestInRuns.{Stands, stands_run}
use Rattle.mkb_model.proofs.closing.Staying.{closers_stay, orienters_stay, KeepsConstraints}
use Rattle.mkb_model.proofs.commits.Deductions.{HasNamed, overlaps_deduced, both_ways_in, all_ways_in, picks_in}
use Rattle.mkb_model.specs.declared.settings.Settings.{Settings}

-- ---- earlier boards

-- an earlier board of a run is the board of a run
pub earlier_run : (May : Plain → Job → Type 0) (P : Problem) (n : Settings) (ms : List Moment) (c : Plain) → IsRunBy May P n ms c → (m : Moment) → Contains ms m → (past : List Moment) × IsRunBy May P n past m.board
earlier_run May P n [] c run m i = none_in i
earlier_run May P n (x ∷ ms) c run m i = ⊎_elim (λ e. (ms, subst {A = Moment} (λ z. IsRunBy May P n ms z.board) e run.0)) (λ k. earlier_run May P n ms x.board run.0 m k) (contains_cases x ms m i)

-- a rule whose node was there is the same on a later board
pub rule_back : (b c : Plain) (a : RuleRef) (r : Rule) → KeepsPairs b.nodes c.nodes → a.node < length b.nodes → rule_at c a ≡ Some r → rule_at b a ≡ Some r
rule_back b c a r keeps l h =
    let q = there_pair b.nodes a.node l in
    ap (option_map (λ q. rule_of q a.dir)) q.1 ∙ sym (ap (option_map (λ q. rule_of q a.dir)) (keeps a.node q.0 q.1)) ∙ h

-- ---- ordered states

-- the state of a process that nobody's label names is ordered
module _ (g : Signature) (b : Plain) (p : Name) (nowhere : (m : ℕ) (j : LabelKind) → ¬ IsOn b.nodes p m j) where
  no_rule_of : (kind : ℕ → LabelKind) (r : Rule) → ¬ Contains (rules_at b (filter (λ (a : RuleRef). has (label_at b.nodes a.node (kind a.dir)) p) (flat_map directions (node_numbers b)))) r
  no_rule_of kind r i =
      let f = filter_map_in (rule_at b) (filter (λ (a : RuleRef). has (label_at b.nodes a.node (kind a.dir)) p) (flat_map directions (node_numbers b))) r i in
      nowhere f.0.node (kind f.0.dir) (filter_in (λ (a : RuleRef). has (label_at b.nodes a.node (kind a.dir)) p) (flat_map directions (node_numbers b)) f.0 f.1).1

  no_equation_of : (e : Tree × Tree) → ¬ Contains (state_of b p).equations e
  no_equation_of e i =
      let m = contains_mapped (λ (q : Pair). (q.first, q.second)) (filter_map (pair_at b) (filter (is_equation b p) (node_numbers b))) e i in
      let f = filter_map_in (pair_at b) (filter (is_equation b p) (node_numbers b)) m.0 m.1 in
      nowhere f.0 E (filter_in (is_equation b p) (node_numbers b) f.0 f.1).1

  empty_ordered : IsOrdered g (state_of b p)
  empty_ordered = record {
    sound = record { equations = λ d i. absurd (no_equation_of d i); rules = λ r i. absurd (no_rule_of rule_kind r i); constraints = λ r i. absurd (no_rule_of constraint_kind r i) };
    chained = λ r i. absurd (no_rule_of rule_kind r i);
    orderable = ((nothing_orderable g).0, (nothing_orderable g).1, orders_among (nothing_orderable g).0 [] (state_of b p).constraints (λ r i. absurd (no_rule_of constraint_kind r i)) (nothing_orderable g).2);
  }

pub well_inputs : (P : Problem) → IsWithinLimits P → All (λ (d : Tree × Tree). IsWellFormed P.signature d.0 × IsWellFormed P.signature d.1) P.equations
well_inputs P within = all_from (λ (d : Tree × Tree). IsWellFormed P.signature d.0 × IsWellFormed P.signature d.1) P.equations (λ d i. let e = All-contains (IsEquationWithinLimits P.signature) P.equations d within.each i in (e.left.well_formed, e.right.well_formed))

-- the state of each process is ordered
pub states_ordered : (P : Problem) (n : Settings) (ms : List Moment) (c : Plain) → IsWithinLimits P → (run : IsPossibleRun P n ms c) → AllFine IsFreeJob P n ms c run → (p : Name) → IsOrdered P.signature (state_of c p)
states_ordered P n ms c within run fine p = go (has c.living p) refl
  where
    s : Stands c
    s = stands_run P n ms c run

    go : (x : Bool) → has c.living p ≡ x → IsOrdered P.signature (state_of c p)
    go false e = empty_ordered P.signature c p (λ m j o. clash ((s.labelled.nodes m j).lives p o) e)
    go true e =
        let completes = run_completes IsFreeJob P n ms c run fine p e in
        let i = subst {A = Name} (λ z. Contains (states_before ms p ++ state_of c z ∷ []) (state_of c p)) (sym (ancestor_is c p p s.apart e (begins-refl p))) (Contains-append_right (states_before ms p) (state_of c p ∷ []) (state_of c p) (contains_first (state_of c p) [])) in
        record { sound = run_sound P (states_of ms c p) completes (well_inputs P within) (state_of c p) i; chained = run_chained P (states_of ms c p) completes (state_of c p) i; orderable = run_orderable P (states_of ms c p) completes (state_of c p) i }

-- ---- orienting

pub constraints_in : (b : Plain) (p : Name) (a : RuleRef) → Contains (constraints_of b p) a → IsOn b.nodes p a.node (constraint_kind a.dir) × Contains (directions a.node) a
constraints_in b p a i =
    let f = filter_in (is_constraint b p) (flat_map directions (node_numbers b)) a i in
    let m = contains_flat_map_back directions (node_numbers b) a f.0 in
    let e : m.0 ≡ a.node = node m.0 m.2 in
    (f.1, subst {A = ℕ} (λ z. Contains (directions z) a) e m.2)
  where
    node : (k : ℕ) → Contains (directions k) a → k ≡ a.node
    node k i = ⊎_elim (λ e. ap (λ (z : RuleRef). z.node) e) (λ j. ⊎_elim (λ e. ap (λ (z : RuleRef). z.node) e) (λ q. none_in q) (contains_cases (record { node = k; dir = 1 }) [] a j)) (contains_cases (record { node = k; dir = 0 }) (record { node = k; dir = 1 } ∷ []) a i)

pub in_constraints : (b : Plain) (p : Name) (a : RuleRef) → IsOn b.nodes p a.node (constraint_kind a.dir) → Contains (directions a.node) a → Contains (constraints_of b p) a
in_constraints b p a o i = in_filter (is_constraint b p) (flat_map directions (node_numbers b)) a (contains_flat_map directions (node_numbers b) a.node a (in_numbers 0 (length b.nodes) a.node (omega arith) (let l = on_there b.nodes p a.node (constraint_kind a.dir) o in omega (arith, l))) i) o

-- the first of the orders that orders the constraints of the process with the new rule
abbrev pub FirstWith : List Certificate → Plain → Name → ℕ → ℕ → Certificate → Type 0
FirstWith cs b p n d c = IsFirst (λ e. Orders e (rules_at b (constraints_of b p ++ record { node = n; dir = d } ∷ []))) cs (Some c)

-- what is the first for some rules is the first for the same rules in any order
pub first_same : (cs : List Certificate) (xs ys : List Rule) (c : Certificate) → ((r : Rule) → Contains xs r → Contains ys r) → ((r : Rule) → Contains ys r → Contains xs r) → IsFirst (λ e. Orders e xs) cs (Some c) → IsFirst (λ e. Orders e ys) cs (Some c)
first_same cs xs ys c forth back (h, before, after, e, n) = (orders_among c xs ys back h, before, after, e, λ k d i q. n k d i (orders_among (slice_index_or before k d) ys xs forth q))

-- what is the first for them at the take is the first at the commit
first_with : (cs : List Certificate) (before b : Plain) (p : Name) (n d : ℕ) (c : Certificate) → orders_of before ≡ cs → OrientsBy before p n d (Some c) → KeepsPairs before.nodes b.nodes → KeepsConstraints before.nodes b.nodes p → n < length before.nodes → FirstWith cs b p n d c
first_with cs before b p n d c e first keeps same l =
    first_same cs (rules_at before (constraints_of before p ++ new ∷ [])) (rules_at b (constraints_of b p ++ new ∷ [])) c forth back
    (subst {A = List Certificate} (λ z. IsFirst (λ e. Orders e (rules_at before (constraints_of before p ++ new ∷ []))) z (Some c)) e first)
  where
    new : RuleRef
    new = record { node = n; dir = d }

    back : (r : Rule) → Contains (rules_at b (constraints_of b p ++ new ∷ [])) r → Contains (rules_at before (constraints_of before p ++ new ∷ [])) r
    back r i =
        let f = filter_map_in (rule_at b) (constraints_of b p ++ new ∷ []) r i in
        ⊎_elim
        (λ k. let o = constraints_in b p f.0 k in
        let u = (same f.0.node f.0.dir).0 o.0 in
        in_filter_map (rule_at before) (constraints_of before p ++ new ∷ []) f.0 r (Contains-append_left (constraints_of before p) (new ∷ []) f.0 (in_constraints before p f.0 u o.1)) (rule_back before b f.0 r keeps (on_there before.nodes p f.0.node (constraint_kind f.0.dir) u) f.2))
        (λ k. ⊎_elim (λ q. in_filter_map (rule_at before) (constraints_of before p ++ new ∷ []) new r (Contains-append_right (constraints_of before p) (new ∷ []) new (contains_first new [])) (rule_back before b new r keeps l (subst {A = RuleRef} (λ z. rule_at b z ≡ Some r) (sym q) f.2))) (λ q. none_in q) (contains_cases new [] f.0 k))
        (Contains-append_cases (constraints_of b p) (new ∷ []) f.0 f.1)

    forth : (r : Rule) → Contains (rules_at before (constraints_of before p ++ new ∷ [])) r → Contains (rules_at b (constraints_of b p ++ new ∷ [])) r
    forth r i =
        let f = filter_map_in (rule_at before) (constraints_of before p ++ new ∷ []) r i in
        ⊎_elim
        (λ k. let o = constraints_in before p f.0 k in
        in_filter_map (rule_at b) (constraints_of b p ++ new ∷ []) f.0 r (Contains-append_left (constraints_of b p) (new ∷ []) f.0 (in_constraints b p f.0 ((same f.0.node f.0.dir).1 o.0) o.1)) (rule_stays before b f.0 r keeps f.2))
        (λ k. ⊎_elim (λ q. in_filter_map (rule_at b) (constraints_of b p ++ new ∷ []) new r (Contains-append_right (constraints_of b p) (new ∷ []) new (contains_first new [])) (rule_stays before b new r keeps (subst {A = RuleRef} (λ z. rule_at before z ≡ Some r) (sym q) f.2))) (λ q. none_in q) (contains_cases new [] f.0 k))
        (Contains-append_cases (constraints_of before p) (new ∷ []) f.0 f.1)

-- ---- forks

abbrev rest_of : Name → Name
rest_of [] = []
rest_of (x ∷ p) = p

child_other : (p : Name) (bit : Bool) → p ≢ child p bit
child_other [] bit e = absurd (cc)
child_other (x ∷ p) bit e = child_other p bit (ap rest_of e)

-- no label names a child of a living process
pub children_new : (b : Plain) (p : Name) → Stands b → has b.living p ≡ true → IsNew b.nodes p
children_new b p s lives bit m j = false_unless (has (label_at b.nodes m j) (child p bit)) (λ o. child_other p bit (s.apart p (child p bit) lives ((s.labelled.nodes m j).lives (child p bit) o) (begins-child p bit)))

-- ---- what is committed is ready

module _ (g : Signature) (before b : Plain) (keeps : KeepsPairs before.nodes b.nodes) (s : Stands b) (ordered : (p : Name) → IsOrdered g (state_of b p)) where
  has_named : (p : Name) (a : RuleRef) (q : Pair) (r : Rule) → pair_in before.nodes a.node ≡ Some q → rule_of q a.dir ≡ r → IsOn b.nodes p a.node (rule_kind a.dir) → HasNamed g b.nodes p (record { ref = a; rule = r })
  has_named p a q r there is on = record { pair = q; there = keeps a.node q there; on = on; is = is; over = subst {A = Rule} (IsRuleOver g) is ((ordered p).sound.rules (rule_of q a.dir) (rule_listed b p a q on (keeps a.node q there))) }

  at_rule : (p : Name) (a : RuleRef) (r : Rule) → rule_at before a ≡ Some r → IsOn b.nodes p a.node (rule_kind a.dir) → HasNamed g b.nodes p (record { ref = a; rule = r })
  at_rule p a r e on = go (pair_in before.nodes a.node) refl e
    where
      go : (o : Option Pair) → pair_in before.nodes a.node ≡ o → option_map (λ q. rule_of q a.dir) o ≡ Some r → HasNamed g b.nodes p (record { ref = a; rule = r })
      go None k h = none_some h
      go (Some q) k h = has_named p a q r k (some_is h) on

  -- each process of the effect label has the two rules that were overlapped
  pub deduce_named : (q : Name) (d e a c : RuleRef) (ds : List Deduced) (h : Proposes before (Overlap q d e) (Deduce a c ds)) (p : Name) → has (overlap_label b a c) p ≡ true
      → (u : NamedRule × NamedRule) → Contains (both_ways (record { ref = d; rule = h.2.0 }) (record { ref = e; rule = h.2.1 })) u → HasNamed g b.nodes p u.0 × HasNamed g b.nodes p u.1
  deduce_named q d e a c ds h p named u i =
      let k = sym (has-minus (meet (label b a.node (rule_kind a.dir)) (label b c.node (rule_kind c.dir))) (done_of b a c) p) ∙ named in
      let m = sym (has-meet (label b a.node (rule_kind a.dir)) (label b c.node (rule_kind c.dir)) p) ∙ and_gives_right (not (has (done_of b a c) p)) (has (meet (label b a.node (rule_kind a.dir)) (label b c.node (rule_kind c.dir))) p) k in
      let on_a : IsOn b.nodes p a.node (rule_kind a.dir) = and_gives_right (has (label b c.node (rule_kind c.dir)) p) (has (label b a.node (rule_kind a.dir)) p) m in
      let on_c : IsOn b.nodes p c.node (rule_kind c.dir) = and_gives_left (has (label b c.node (rule_kind c.dir)) p) (has (label b a.node (rule_kind a.dir)) p) m in
      let x : NamedRule = record { ref = d; rule = h.2.0 } in
      let y : NamedRule = record { ref = e; rule = h.2.1 } in
      let hx : HasNamed g b.nodes p x = at_rule p d h.2.0 h.2.2 (subst {A = RuleRef} (λ z. IsOn b.nodes p z.node (rule_kind z.dir)) h.0 on_a) in
      let hy : HasNamed g b.nodes p y = at_rule p e h.2.1 h.2.3 (subst {A = RuleRef} (λ z. IsOn b.nodes p z.node (rule_kind z.dir)) h.1 on_c) in
      ⊎_elim (λ v. (subst {A = NamedRule} (HasNamed g b.nodes p) (sym v.0) hx, subst {A = NamedRule} (HasNamed g b.nodes p) (sym v.1) hy)) (λ v. (subst {A = NamedRule} (HasNamed g b.nodes p) (sym v.0) hy, subst {A = NamedRule} (HasNamed g b.nodes p) (sym v.1) hx)) (both_ways_in x y u i)

  -- overlapping
  deduce_ready : (q : Name) (d e a c : RuleRef) (ds : List Deduced) → Proposes before (Overlap q d e) (Deduce a c ds) → IsReady g b (Deduce a c ds)
  deduce_ready q d e a c ds h p named z i =
      overlaps_deduced g b.nodes p (both_ways (record { ref = d; rule = h.2.0 }) (record { ref = e; rule = h.2.1 })) h.2.4.overlaps h.2.4.overlaps ds h.2.4.all (λ o k. k) (deduce_named q d e a c ds h p named) h.2.4.proposed z i

  -- a closing process has the rules that were overlapped
  pub unjoined_named : (p : Name) → KeepsRoles before.nodes b.nodes p → (u : NamedRule × NamedRule) → Contains (all_ways (rules_on before p)) u → HasNamed g b.nodes p u.0 × HasNamed g b.nodes p u.1
  unjoined_named p roles u k = let w = all_ways_in (rules_on before p) u k in (mine u.0 w.0, mine u.1 w.1)
    where
      mine : (x : NamedRule) → Contains (rules_on before p) x → HasNamed g b.nodes p x
      mine x k =
          let r = named_rule before (rules_of before p) x.ref x.rule k in
          has_named p x.ref r.1.0 x.rule r.1.1 r.1.2 ((roles x.ref.node (rule_kind x.ref.dir)).1 (rules_in before p x.ref r.0).1)

  -- closing
  unjoined_ready : (p q : Name) (ds : List Deduced) → Proposes before (Close p) (Unjoined q ds) → KeepsRoles before.nodes b.nodes p → IsReady g b (Unjoined q ds)
  unjoined_ready p q ds h roles z i = subst {A = Name} (λ v. IsDeducedFrom g b.nodes v z.pair) (sym h.0)
      (overlaps_deduced g b.nodes p (all_ways (rules_on before p)) h.1.overlaps h.1.listed ds h.1.all (λ o k. picks_in _ h.1.overlaps h.1.listed h.1.picked o k) (unjoined_named p roles) h.1.proposed z i)

-- an orienting that is taken names an equation of the process
pub due_equation : (b : Plain) (p : Name) (n : NodeId) → IsFreeJob b (Orient p n) → is_equation b p n.0 ≡ true
due_equation b p n free = and_gives_left (is_equation b p n.0) (not (has (label b n.0 X) p)) (and_gives_right (is_working b p) (is_work_due b (Orient p n)) (free_due b (Orient p n) free).3)

module _ (P : Problem) (n : Settings) (past : List Moment) (b : Plain) (run : IsPossibleRun P n past b) (s : Stands b) (ordered : (p : Name) → IsOrdered P.signature (state_of b p)) (w t : ℕ) (j : Job) (x : Proposed) (f : IsFinishing past b w t j x) (acts : IsFalse (is_dropped b x)) where
  keeps : KeepsPairs f.before.nodes b.nodes
  keeps = pairs_stay IsFreeJob P n past b run (record { board = f.before; entry = Take w t j }) f.taken

  same_orders : orders_of f.before ≡ family n.family P.signature
  same_orders = let r = earlier_run IsFreeJob P n past b run (record { board = f.before; entry = Take w t j }) f.taken in run_orders IsFreeJob P n r.0 f.before r.1

  pub orient_first : (p : Name) (m : NodeId) (d : ℕ) (c : Certificate) → j ≡ Orient p m → OrientsBy f.before p m.0 d (Some c) → FirstWith (family n.family P.signature) b p m.0 d c
  orient_first p m d c e o = first_with (family n.family P.signature) f.before b p m.0 d c same_orders o keeps
      (orienters_stay P n past b run f.before w t p m (subst {A = Job} (λ z. Contains past (record { board = f.before; entry = Take w t z })) e f.taken) (subst {A = Job} (λ z. Contains b.flight (record { number = t; worker = w; job = z })) e f.flying)).1
      (on_there f.before.nodes p m.0 E (due_equation f.before p m (subst {A = Job} (IsFreeJob f.before) e (taken_free P n past b run f.before w t j f.taken).0)))

  orient_ready : (p : Name) (m : NodeId) (d : ℕ) (c : Certificate) → j ≡ Orient p m → OrientsBy f.before p m.0 d (Some c) → CanOrient P.signature b p m.0 d
  orient_ready p m d c e o = let r = orient_first p m d c e o in (c, (n.family, first_contained n.family P.signature (rules_at b (constraints_of b p ++ record { node = m.0; dir = d } ∷ [])) c r), r.0)

  -- the node of an equation of the process has a pair
  equation_pair : (p : Name) (m : ℕ) → is_equation b p m ≡ true → (q : Pair) × (pair_in b.nodes m ≡ Some q)
  equation_pair p m o = there_pair b.nodes m (on_there b.nodes p m E o)

  pub ready : IsReady P.signature b x
  ready = go j x refl refl f.proposed
    where
      go : (i : Job) (y : Proposed) → i ≡ j → y ≡ x → Proposes f.before i y → IsReady P.signature b y
      go i (Facts fs) ei ey h = tt
      go i (Refuse p m) ei ey h = tt
      go i (Closed p) ei ey h = tt
      go i (Limit k cause) ei ey h = tt
      go (Reduce p m) (Rewrite k v at a kind u) ei ey h = rewriting_ready P.signature b k v at a kind u (rewrite_ready f.before b p m k v at a kind u h keeps) (λ q on. ordered q)
      go (Orient p m) (One q k d c) ei ey h =
          let e : is_equation b q k.0 ≡ true = orients b q k.0 (subst {A = Proposed} (λ z. is_dropped b z ≡ false) (sym ey) acts) in
          let r = equation_pair q k.0 e in
          (r.0, r.1, subst {A = Name} (λ z. CanOrient P.signature b z k.0 d) (sym h.0) (subst {A = NodeId} (λ z. CanOrient P.signature b p z.0 d) (sym h.1) (orient_ready p m d c (sym ei) h.3)))
      go (Orient p m) (Both q k c0 c1) ei ey h =
          let e : is_equation b q k.0 ≡ true = orients b q k.0 (subst {A = Proposed} (λ z. is_dropped b z ≡ false) (sym ey) acts) in
          let r = equation_pair q k.0 e in (
            r.0,
            r.1,
            subst {A = Name} (λ z. CanOrient P.signature b z k.0 0) (sym h.0) (subst {A = NodeId} (λ z. CanOrient P.signature b p z.0 0) (sym h.1) (orient_ready p m 0 c0 (sym ei) h.2)),
            subst {A = Name} (λ z. CanOrient P.signature b z k.0 1) (sym h.0) (subst {A = NodeId} (λ z. CanOrient P.signature b p z.0 1) (sym h.1) (orient_ready p m 1 c1 (sym ei) h.3)),
          )
      go (Overlap q d e) (Deduce a c ds) ei ey h = deduce_ready P.signature f.before b keeps s ordered q d e a c ds h
      go (Close p) (Unjoined q ds) ei ey h = unjoined_ready P.signature f.before b keeps s ordered p q ds h
          (closers_stay P n past b run f.before w t p (subst {A = Job} (λ z. Contains past (record { board = f.before; entry = Take w t z })) (sym ei) f.taken) (subst {A = Job} (λ z. Contains b.flight (record { number = t; worker = w; job = z })) (sym ei) f.flying)).1
      go (Orient p m) (Rewrite k v at a kind u) ei ey h = absurd h
      go (Overlap p d e) (Rewrite k v at a kind u) ei ey h = absurd h
      go (Close p) (Rewrite k v at a kind u) ei ey h = absurd h
      go (Reduce p m) (One q k d c) ei ey h = absurd h
      go (Overlap p i e) (One q k d c) ei ey h = absurd h
      go (Close p) (One q k d c) ei ey h = absurd h
      go (Reduce p m) (Both q k c0 c1) ei ey h = absurd h
      go (Overlap p i e) (Both q k c0 c1) ei ey h = absurd h
      go (Close p) (Both q k c0 c1) ei ey h = absurd h
      go (Reduce p m) (Deduce a c ds) ei ey h = absurd h
      go (Orient p m) (Deduce a c ds) ei ey h = absurd h
      go (Close p) (Deduce a c ds) ei ey h = absurd h
      go (Reduce p m) (Unjoined q ds) ei ey h = absurd h
      go (Orient p m) (Unjoined q ds) ei ey h = absurd h
      go (Overlap p i e) (Unjoined q ds) ei ey h = absurd h

-- a forked process lives, and its children are new
forkable : (b : Plain) (x : Proposed) → Stands b → IsFalse (is_dropped b x) → IsForkable b x
forkable b (Both p n c0 c1) s acts = let l = (s.labelled.nodes n.0 E).lives p (orients b p n.0 acts) in (l, children_new b p s l)
forkable b (Facts fs) s acts = tt
forkable b (Rewrite n w at a kind t) s acts = tt
forkable b (One p n d c) s acts = tt
forkable b (Refuse p n) s acts = tt
forkable b (Deduce a c ds) s acts = tt
forkable b (Unjoined p ds) s acts = tt
forkable b (Closed p) s acts = tt
forkable b (Limit j cause) s acts = tt

-- ---- one role

-- who is nowhere has each node in one role
vacuous : (b : Plain) (q : Name) → IsLabelled b → has b.living q ≡ false → OneRole b.nodes q
vacuous b q h e n i j ri rj oi oj = clash ((h.nodes n i).lives q oi) e

role_applied : (g : Signature) (b : Plain) (x : Proposed) → IsFine g b x → IsFalse (is_dropped b x) → ((q : Name) → IsOrdered g (state_of b q)) → Stands b → Fits (applied b x).nodes → (q : Name) → has (applied b x).living q ≡ true → OneRole (applied b x).nodes q
role_applied g b (Both p n c0 c1) fine acts ordered s fits q lives = go (forked_names p b.living q fine.forkable.0 lives)
  where
    go : ((bit : Bool) × (q ≡ child p bit)) ⊎ ((has b.living q ≡ true) × (q ≢ p)) → OneRole (applied b (Both p n c0 c1)).nodes q
    go (inl (bit, e)) = subst {A = Name} (OneRole (applied b (Both p n c0 c1)).nodes) (sym e) (one_role_forked b p n.0 fine.forkable.1 (orients b p n.0 acts) (fine.one_role p) bit)
    go (inr (l, d)) = one_role_fork_other b p n.0 q (apart_from p b.living fine.forkable.0 s.apart q l d) (fine.one_role q)
role_applied g b (Facts fs) fine acts ordered s fits q lives = one_role_applied g b (Facts fs) fine.ready acts ordered fits tt q (fine.one_role q)
role_applied g b (Rewrite n w at a kind t) fine acts ordered s fits q lives = one_role_applied g b (Rewrite n w at a kind t) fine.ready acts ordered fits tt q (fine.one_role q)
role_applied g b (One p n d c) fine acts ordered s fits q lives = one_role_applied g b (One p n d c) fine.ready acts ordered fits tt q (fine.one_role q)
role_applied g b (Refuse p n) fine acts ordered s fits q lives = one_role_applied g b (Refuse p n) fine.ready acts ordered fits tt q (fine.one_role q)
role_applied g b (Deduce a c ds) fine acts ordered s fits q lives = one_role_applied g b (Deduce a c ds) fine.ready acts ordered fits tt q (fine.one_role q)
role_applied g b (Unjoined p ds) fine acts ordered s fits q lives = one_role_applied g b (Unjoined p ds) fine.ready acts ordered fits tt q (fine.one_role q)
role_applied g b (Closed p) fine acts ordered s fits q lives = one_role_applied g b (Closed p) fine.ready acts ordered fits tt q (fine.one_role q)
role_applied g b (Limit j cause) fine acts ordered s fits q lives = one_role_applied g b (Limit j cause) fine.ready acts ordered fits tt q (fine.one_role q)

role_effect : (g : Signature) (b : Plain) (x : Proposed) → IsFine g b x → IsFalse (is_dropped b x) → ((q : Name) → IsOrdered g (state_of b q)) → Stands b → Fits (applied b x).nodes → (q : Name) → has (effect b x).living q ≡ true → OneRole (effect b x).nodes q
role_effect g b x fine acts ordered s fits q = go (limit_of b x)
  where
    go : (o : Option Reason) → has (option_map_or (λ r. give_up r (effect_label b x) b) o (applied b x)).living q ≡ true → OneRole (option_map_or (λ r. give_up r (effect_label b x) b) o (applied b x)).nodes q
    go None l = role_applied g b x fine acts ordered s fits q l
    go (Some r) l = fine.one_role q

-- the opening board has equations alone
pub inputs_only : (i : ℕ) (es : List (Tree × Tree)) (xs : List PlainNode) (m : ℕ) (j : LabelKind) → j ≢ E → label_at (with_inputs i es xs) m j ≡ label_at xs m j
inputs_only i [] xs m j d = refl
inputs_only i (e ∷ es) xs m j d = inputs_only (i + 1) es (with_input (canonical_pair e.0 e.1) i xs) m j d ∙ go (canonical_pair e.0 e.1)
  where
    go : (o : Option Pair) → label_at (with_input o i xs) m j ≡ label_at xs m j
    go None = refl
    go (Some q) =
        let ws : List PlainNode = with_node q (Input i) xs in
        let k : ℕ = node_of ws q in
        put_other ws k m E j (join (label_at ws k E) (minus (minus (root ∷ []) (label_at ws k R0)) (label_at ws k R1))) (inr d) ∙ label-with_node q (Input i) xs m j

one_role_opening : (P : Problem) (n : Settings) (q : Name) → OneRole (opening P n).nodes q
one_role_opening P n q m i j ri rj oi oj = go i j ri rj oi oj
  where
    none : (k : LabelKind) → k ≢ E → ¬ IsOn (opening P n).nodes q m k
    none k d o = clash (sym (ap (λ l. has l q) (inputs_only 1 P.equations [] m k d)) ∙ o) refl

    only : (k : LabelKind) → IsRole k → IsOn (opening P n).nodes q m k → k ≡ E
    only E r o = refl
    only R0 r o = absurd (none R0 (λ e. equation-no_rule 0 (sym e)) o)
    only R1 r o = absurd (none R1 (λ e. equation-no_rule 1 (sym e)) o)
    only C0 r o = absurd r
    only C1 r o = absurd r
    only X r o = absurd r

    go : (i j : LabelKind) → IsRole i → IsRole j → IsOn (opening P n).nodes q m i → IsOn (opening P n).nodes q m j → i ≡ j
    go i j ri rj oi oj = only i ri oi ∙ sym (only j rj oj)

-- ---- runs

-- what is committed is fine, and each process has each node in one role
abbrev Goes : (P : Problem) (n : Settings) (ms : List Moment) (c : Plain) → IsPossibleRun P n ms c → Type 0
Goes P n ms c run = AllFine IsFreeJob P n ms c run × ((q : Name) → OneRole c.nodes q)

fine_follow : (P : Problem) (n : Settings) (past : List Moment) (b : Plain) (e : Entry) (c : Plain) → IsWithinLimits P → (run : IsPossibleRun P n past b) → (f : Follows IsFreeJob past b e c) → IsLabelled c → Goes P n past b run → CommitsFine IsFreeJob P.signature past b e c f × ((q : Name) → OneRole c.nodes q)
fine_follow P n past b (Take w t j) c within run f labelled h = (tt, λ q. subst {A = Plain} (λ z. OneRole z.nodes q) (sym f.leads_to) (h.1 q))
fine_follow P n past b (Commit w t e) c within run f labelled h = (fine, role)
  where
    s : Stands b
    s = stands_run P n past b run

    ordered : (p : Name) → IsOrdered P.signature (state_of b p)
    ordered = states_ordered P n past b within run h.0

    fine : IsFine P.signature b f.proposal
    fine = record { ready = ready P n past b run s ordered w t f.job f.proposal f.finishing f.acts; one_role = h.1; forkable = forkable b f.proposal s f.acts }

    fits : Fits (applied b f.proposal).nodes
    fits = fits-applied b f.proposal (proposed_pairs f.finishing.before f.job f.proposal f.finishing.proposed) (fits_run IsFreeJob P n past b run)

    role : (q : Name) → OneRole c.nodes q
    role q = ⊎_elim
        (λ l. subst {A = Plain} (λ z. OneRole z.nodes q) (sym f.leads_to) (role_effect P.signature b f.proposal fine f.acts ordered s fits q (subst {A = Plain} (λ z. has z.living q ≡ true) f.leads_to l)))
        (λ l. vacuous c q labelled l) (decide (has c.living q))
fine_follow P n past b (Drop w t p) c within run f labelled h = (tt, λ q. subst {A = Plain} (λ z. OneRole z.nodes q) (sym f.leads_to) (h.1 q))
fine_follow P n past b (Abandon w t) c within run f labelled h = (tt, λ q. subst {A = Plain} (λ z. OneRole z.nodes q) (sym f.leads_to) (h.1 q))
fine_follow P n past b Halt c within run f labelled h = (tt, λ q. subst {A = Plain} (λ z. OneRole z.nodes q) (sym f.1) (h.1 q))

pub goes : (P : Problem) (n : Settings) (ms : List Moment) (c : Plain) → IsWithinLimits P → (run : IsPossibleRun P n ms c) → Goes P n ms c run
goes P n [] c within run = (tt, λ q. subst {A = Plain} (λ z. OneRole z.nodes q) (sym run) (one_role_opening P n q))
goes P n (m ∷ ms) c within run =
    let h = goes P n ms m.board within run.0 in
    let k = fine_follow P n ms m.board m.entry c within run.0 run.1 (labelled_run P n (m ∷ ms) c run) h in
    ((k.0, h.0), k.1)

-- what is committed in a possible run is fine
pub commits_fine : (P : Problem) (n : Settings) (ms : List Moment) (c : Plain) → IsWithinLimits P → (run : IsPossibleRun P n ms c) → AllFine IsFreeJob P n ms c run
commits_fine P n ms c within run = (goes P n ms c within run).0

-- so the states of each living process and its ancestors are a run of completion
pub runs_complete : (P : Problem) (n : Settings) (ms : List Moment) (c : Plain) → IsWithinLimits P → IsPossibleRun P n ms c → EachCompletes P ms c
runs_complete P n ms c within run = run_completes IsFreeJob P n ms c run (commits_fine P n ms c within run)

-- each process has each node as an equation, as one of the two rules, or not at all
pub runs_one_role : (P : Problem) (n : Settings) (ms : List Moment) (c : Plain) → IsWithinLimits P → IsPossibleRun P n ms c → (p : Name) (m : ℕ) → HasOneRole c p m
runs_one_role P n ms c within run p m = record {
  not_both_rules = λ h. false_unless (has (label_at c.nodes m R1) p) (λ k. rules_differ (one m R0 R1 tt tt h k));
  no_rule = λ h. (false_unless (has (label_at c.nodes m R0) p) (λ k. equation-no_rule 0 (one m E R0 tt tt h k)), false_unless (has (label_at c.nodes m R1) p) (λ k. equation-no_rule 1 (one m E R1 tt tt h k)));
}
  where
    one : OneRole c.nodes p
    one = (goes P n ms c within run).1 p

    rules_differ : R0 ≢ R1
    rules_differ e = omega (arith, ap kind_number e)
