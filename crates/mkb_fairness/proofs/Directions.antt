-- While a process lives it has a pair as a rule in one direction alone, since its constraints stay and some order orders them.
use Rattle.std.proofs.Common.{ℕ, ◌≡◌, ◌≢◌, ◌⊎◌, inl, inr, refl, sym, ap, ap₂, ◌∙◌, subst, arith, List, [], ◌∷◌, ◌++◌, Contains, true, false, Option, Some, None, ⊎_elim}
use Rattle.std.specs.Option.{option_map_or}
use Rattle.std.proofs.lemmas.List.Elements.{Contains-append_left}
use Rattle.kb_laws.proofs.CompletionLaws.{variant_itself}
use Rattle.kb_lemmas.proofs.Membership.{contains_behind, contains_cases, contains_first, none_in}
use Rattle.kb_term.specs.Pair.{Pair}
use Rattle.kb_term.specs.Rule.{Rule, rule_of}
use Rattle.kb_term.specs.Signature.{Signature, Problem, IsWithinLimits, IsRuleOver}
use Rattle.kb_term.specs.Tree.{variable}
use Rattle.kb_term.specs.declared.origin.RuleRef.{RuleRef}
use Rattle.kb_term.proofs.Bridge.{step_to_position}
use Rattle.kb_term.proofs.Chains.{reaches_map, reaches_one}
use Rattle.kb_term.proofs.Instances.{instance-variable}
use Rattle.kb_term.proofs.Steps.{Step, at_root}
use Rattle.kb_label.specs.Names.{Name, has, name_eq, relabel}
use Rattle.kb_label.specs.declared.verdict.Reason.{Reason}
use Rattle.kb_label.proofs.Members.{name_eq-eq, name_eq-refl}
use Rattle.kb_laws.specs.Completion.{KbState}
use Rattle.kb_laws.proofs.Conversion.{step_more}
use Rattle.kb_laws.proofs.RunLaws.{Chain}
use Rattle.kb_node.specs.declared.job.Job.TheVariants.{Overlap}
use Rattle.kb_node.specs.declared.node.LabelKind.TheVariants.{E}
use Rattle.mkb_model.specs.Plain.{Plain, pair_in, rule_kind, constraint_kind, rule_at, rules_of, constraints_of, state_of}
use Rattle.mkb_model.specs.Effects.{applied, effect, limit_of, give_up, effect_label, is_dropped, oriented}
use Rattle.mkb_model.specs.Journals.{Moment, Follows, IsRun, IsFirstJob}
use Rattle.mkb_model.specs.Ready.{IsOn, KeepsPairs}
use Rattle.mkb_model.specs.declared.proposed.Proposed.{Proposed}
use Rattle.mkb_model.specs.declared.proposed.Proposed.TheVariants.{Facts, Rewrite, One, Both, Refuse, Deduce, Unjoined, Closed, Limit}
use Rattle.mkb_model.specs.declared.settings.Settings.{Settings}
use Rattle.mkb_model.specs.declared.entry.Entry.{Entry}
use Rattle.mkb_model.specs.declared.entry.Entry.TheVariants.{Take, Commit, Drop, Abandon, Halt}
use Rattle.mkb_model.proofs.runs.AllFine.{commits_fine, constraints_in, in_constraints, states_ordered}
use Rattle.mkb_model.proofs.commits.Commits.{orients}
use Rattle.mkb_model.proofs.nodes.DistinctPairs.{pairs_stay}
use Rattle.mkb_model.proofs.runs.KnownFacts.{rule_stays}
use Rattle.mkb_model.proofs.Lists.{clash, decide, filter_map_in, in_filter_map}
use Rattle.mkb_model.proofs.commits.OneRole.{reversed_rule}
use Rattle.mkb_model.proofs.commits.Orienting.{orient-roles}
use Rattle.mkb_model.proofs.commits.Proper.{IsOrdered, composed_differs}
use Rattle.mkb_model.proofs.closing.RestInRuns.{Stands, stands_run}
use Rattle.mkb_model.proofs.closing.LeftAlone.{IsBit, rules_in}
use Rattle.mkb_model.proofs.commits.Roles.{kind_number, kinds_decide, on_there}
use Rattle.mkb_model.proofs.runs.Selections.{legal-possible}
use Rattle.mkb_model.proofs.closing.Staying.{constraints_applied}
use Rattle.mkb_model.proofs.commits.Bystanders.{apart_forked}
use Rattle.mkb_model.proofs.commits.Views.{rule_listed}
use Rattle.mkb_fairness.specs.Fairness.{StaysDue}
use Rattle.mkb_fairness.proofs.Noted.{forked_leaves}
use Rattle.mkb_fairness.proofs.Overlaps.{due_overlap, due_lives}

-- ---- constraints stay

-- the process keeps its constraints
abbrev pub Keeps : Name → Plain → Plain → Type 0
Keeps p b c = (k d : ℕ) → IsOn b.nodes p k (constraint_kind d) → IsOn c.nodes p k (constraint_kind d)

-- a commit leaves a process that lives on its constraints
module _ (b : Plain) (p : Name) (s : Stands b) (lives : has b.living p ≡ true) where
  applied_keeps : (x : Proposed) → is_dropped b x ≡ false → has (applied b x).living p ≡ true → Keeps p b (applied b x)
  applied_keeps (One q n d c) acts later k e o = go (decide (name_eq p q))
    where
      go : (name_eq p q ≡ true) ⊎ (name_eq p q ≡ false) → IsOn (applied b (One q n d c)).nodes p k (constraint_kind e)
      go (inl i) = subst {A = Name} (λ z. IsOn (oriented z (record { node = n.0; dir = d }) b.nodes) p k (constraint_kind e)) (name_eq-eq p q i)
          (((orient-roles p (record { node = n.0; dir = d }) b.nodes (on_there b.nodes q n.0 E (orients b q n.0 acts))).constraints k e).1 (inl (o, λ z. z.2)))
      go (inr i) = (constraints_applied b (One q n d c) p (λ f. clash (subst {A = Name} (λ z. name_eq p z ≡ true) f (name_eq-refl p)) i) k e).1 o
  applied_keeps (Both q n c0 c1) acts later k e o = go (decide (name_eq p q))
    where
      go : (name_eq p q ≡ true) ⊎ (name_eq p q ≡ false) → IsOn (applied b (Both q n c0 c1)).nodes p k (constraint_kind e)
      go (inl i) = forked_leaves p b.living lives (subst {A = Name} (λ z. has (relabel z b.living) p ≡ true) (sym (name_eq-eq p q i)) later)
      go (inr i) = (constraints_applied b (Both q n c0 c1) p (apart_forked b q p s.apart ((s.labelled.nodes n.0 E).lives q (orients b q n.0 acts)) lives (λ f. clash (subst {A = Name} (λ z. name_eq p z ≡ true) f (name_eq-refl p)) i)) k e).1 o
  applied_keeps (Facts fs) acts later k e o = o
  applied_keeps (Rewrite n w at a kind t) acts later k e o = (constraints_applied b (Rewrite n w at a kind t) p tt k e).1 o
  applied_keeps (Refuse q n) acts later k e o = (constraints_applied b (Refuse q n) p tt k e).1 o
  applied_keeps (Deduce a c ds) acts later k e o = (constraints_applied b (Deduce a c ds) p tt k e).1 o
  applied_keeps (Unjoined q ds) acts later k e o = (constraints_applied b (Unjoined q ds) p tt k e).1 o
  applied_keeps (Closed q) acts later k e o = o
  applied_keeps (Limit j cause) acts later k e o = o

  effect_keeps : (x : Proposed) → is_dropped b x ≡ false → has (effect b x).living p ≡ true → Keeps p b (effect b x)
  effect_keeps x acts later k e o = go (limit_of b x) later
    where
      go : (r : Option Reason) → has (option_map_or (λ r. give_up r (effect_label b x) b) r (applied b x)).living p ≡ true → IsOn (option_map_or (λ r. give_up r (effect_label b x) b) r (applied b x)).nodes p k (constraint_kind e)
      go None l = applied_keeps x acts l k e o
      go (Some r) l = o

follow_keeps : (p : Name) (past : List Moment) (b : Plain) (x : Entry) (c : Plain) → Stands b → Follows IsFirstJob past b x c → has b.living p ≡ true → has c.living p ≡ true → Keeps p b c
follow_keeps p past b (Take w t j) c s f lives later = subst {A = Plain} (Keeps p b) (sym f.leads_to) (λ k d o. o)
follow_keeps p past b (Commit w t e) c s f lives later = subst {A = Plain} (Keeps p b) (sym f.leads_to) (effect_keeps b p s lives f.proposal f.acts (subst {A = Plain} (λ z. has z.living p ≡ true) f.leads_to later))
follow_keeps p past b (Drop w t q) c s f lives later = subst {A = Plain} (Keeps p b) (sym f.leads_to) (λ k d o. o)
follow_keeps p past b (Abandon w t) c s f lives later = subst {A = Plain} (Keeps p b) (sym f.leads_to) (λ k d o. o)
follow_keeps p past b Halt c s f lives later = subst {A = Plain} (Keeps p b) (sym f.1) (λ k d o. o)

-- ---- one direction

-- where rules lead from the left to the right side of a rule, more rules do so too
chain_more : (xs ys : List Rule) → ((r : Rule) → Contains xs r → Contains ys r) → (rule : Rule) → Chain (Step (Contains xs)) rule.left rule.right → Chain (Step (Contains ys)) rule.left rule.right
chain_more xs ys h rule (u, r, c) = (
  u,
  step_more (Contains xs) (Contains ys) h r,
  reaches_map (Step (Contains xs)) (Step (Contains ys)) (λ z. z) (λ s t k. reaches_one (Step (Contains ys)) s t (step_more (Contains xs) (Contains ys) h k)) u rule.right c,
)

-- the constraints of a process are among its later ones
constraints_more : (p : Name) (b c : Plain) → KeepsPairs b.nodes c.nodes → Keeps p b c → (r : Rule) → Contains (state_of b p).constraints r → Contains (state_of c p).constraints r
constraints_more p b c pairs keeps r i =
    let f = filter_map_in (rule_at b) (constraints_of b p) r i in
    let o = constraints_in b p f.0 f.1 in
    in_filter_map (rule_at c) (constraints_of c p) f.0 r (in_constraints c p f.0 (keeps f.0.node f.0.dir o.0) o.1) (rule_stays b c f.0 r pairs f.2)

-- the rule is over the signature, and these rules lead from its left to its right side
abbrev IsLed : Signature → List Rule → Rule → Type 0
IsLed g rules r = IsRuleOver g r × Chain (Step (Contains rules)) r.left r.right

-- the constraints of an ordered state don't lead along a pair in both directions
not_both : (g : Signature) (a : KbState) → IsOrdered g a → (z : Pair) (d e : ℕ) → rule_kind d ≢ rule_kind e → IsLed g a.constraints (rule_of z d) → IsLed g a.constraints (rule_of z e) → ⊥
not_both g a h z d e apart one other = composed_differs g two ordered second.right second.left second.right
    (first, contains_first first (second ∷ []), reversed_rule z d e second.left second.right apart (variant_itself second))
    (step_to_position (Contains (first ∷ second ∷ [])) (at_root (second, variable, contains_behind first (second ∷ []) second (contains_first second []), sym (instance-variable second.left), sym (instance-variable second.right))))
    refl
  where
    first : Rule
    first = rule_of z d

    second : Rule
    second = rule_of z e

    two : KbState
    two = record { equations = []; rules = rule_of z d ∷ rule_of z e ∷ []; constraints = a.constraints }

    each : (Q : Rule → Type 0) → Q (rule_of z d) → Q (rule_of z e) → (r : Rule) → Contains (rule_of z d ∷ rule_of z e ∷ []) r → Q r
    each Q x y r i = ⊎_elim (λ q. subst {A = Rule} Q q x) (λ k. ⊎_elim (λ q. subst {A = Rule} Q q y) (λ l. none_in l) (contains_cases (rule_of z e) [] r k)) (contains_cases (rule_of z d) (rule_of z e ∷ []) r i)

    ordered : IsOrdered g two
    ordered = record {
      sound = record { equations = λ x i. none_in i; rules = λ r i. each (IsRuleOver g) one.0 other.0 r i; constraints = h.sound.constraints };
      chained = λ r i. each (λ r. Chain (Step (Contains a.constraints)) r.left r.right) one.1 other.1 r i;
      orderable = h.orderable;
    }

by_kind : (d e : ℕ) → IsBit d → IsBit e → rule_kind d ≡ rule_kind e → d ≡ e
by_kind d e (inl x) (inl y) k = x ∙ sym y
by_kind d e (inr x) (inr y) k = x ∙ sym y
by_kind d e (inl x) (inr y) k = absurd (let i = ap kind_number (sym (ap rule_kind x) ∙ k ∙ ap rule_kind y) in omega (arith, i))
by_kind d e (inr x) (inl y) k = absurd (let i = ap kind_number (sym (ap rule_kind x) ∙ k ∙ ap rule_kind y) in omega (arith, i))

-- ---- along a stretch

module _ (P : Problem) (n : Settings) (within : IsWithinLimits P) (earlier : List Moment) (p : Name) (a c : RuleRef) where
  lives_at : (stretch : List Moment) → StaysDue (Overlap p a c) stretch → (m : Moment) → Contains stretch m → has m.board.living p ≡ true
  lives_at stretch stays m i = due_lives m.board p a c (due_overlap m.board p a c (stays m i)).due

  -- from a moment of the stretch to a board on which the process lives it keeps its constraints
  stretch_keeps : (stretch : List Moment) (b : Plain) → IsRun P n (stretch ++ earlier) b → StaysDue (Overlap p a c) stretch → has b.living p ≡ true → (m : Moment) → Contains stretch m → Keeps p m.board b
  stretch_keeps [] b run stays lives m i = none_in i
  stretch_keeps (l ∷ rest) b (run, f) stays lives m i = ⊎_elim
      (λ q. subst {A = Moment} (λ z. Keeps p z.board b) q last)
      (λ k. then_last (stretch_keeps rest l.board run (λ z u. stays z (contains_behind l rest z u)) here m k))
      (contains_cases l rest m i)
    where
      here : has l.board.living p ≡ true
      here = lives_at (l ∷ rest) stays l (contains_first l rest)

      last : Keeps p l.board b
      last = follow_keeps p (rest ++ earlier) l.board l.entry b (stands_run P n (rest ++ earlier) l.board (legal-possible P n (rest ++ earlier) l.board run)) f here lives

      then_last : Keeps p m.board l.board → Keeps p m.board b
      then_last h k d o = last k d (h k d o)

  ordered : (past : List Moment) (b : Plain) → IsRun P n past b → IsOrdered P.signature (state_of b p)
  ordered past b run = let r = legal-possible P n past b run in states_ordered P n past b within r (commits_fine P n past b within r) p

  module _ (l : Moment) (rest : List Moment) (b : Plain) (run : IsRun P n (l ∷ rest ++ earlier) b) (stays : StaysDue (Overlap p a c) (l ∷ rest)) where
    -- each rule of the process follows from the constraints that it has in the newest moment
    led : (m : Moment) → Contains (l ∷ rest) m → (past : List Moment) → IsRun P n past m.board → (d : RuleRef) (q : Pair) → Contains (rules_of m.board p) d → pair_in m.board.nodes d.node ≡ Some q → IsLed P.signature (state_of l.board p).constraints (rule_of q d.dir)
    led m i past before d q k there =
        let o = ordered past m.board before in
        let r = rule_listed m.board p d q (rules_in m.board p d k).1 there in
        (o.sound.rules (rule_of q d.dir) r, chain_more (state_of m.board p).constraints (state_of l.board p).constraints more (rule_of q d.dir) (o.chained (rule_of q d.dir) r))
      where
        more : (r : Rule) → Contains (state_of m.board p).constraints r → Contains (state_of l.board p).constraints r
        more r j = ⊎_elim
            (λ q. subst {A = Moment} (λ z. Contains (state_of z.board p).constraints r) (sym q) j)
            (λ k. constraints_more p m.board l.board (pairs_stay IsFirstJob P n (rest ++ earlier) l.board run.0 m (Contains-append_left rest earlier m k))
            (stretch_keeps rest l.board run.0 (λ z u. stays z (contains_behind l rest z u)) (lives_at (l ∷ rest) stays l (contains_first l rest)) m k) r j)
            (contains_cases l rest m i)

    -- so two rules of one node are one
    pub one_direction : (m k : Moment) → Contains (l ∷ rest) m → Contains (l ∷ rest) k → (past before : List Moment) → IsRun P n past m.board → IsRun P n before k.board → (d e : RuleRef) (q : Pair) → Contains (rules_of m.board p) d → Contains (rules_of k.board p) e
        → pair_in m.board.nodes d.node ≡ Some q → pair_in k.board.nodes e.node ≡ Some q → d.node ≡ e.node → d ≡ e
    one_direction m k i j past before f g d e q x y there also same = ⊎_elim
        (λ h. ap₂ (λ (v w : ℕ). record { node = v; dir = w }) same (by_kind d.dir e.dir (rules_in m.board p d x).0 (rules_in k.board p e y).0 h))
        (λ h. absurd (not_both P.signature (state_of l.board p) (ordered (rest ++ earlier) l.board run.0) q d.dir e.dir h (led m i past f d q x there) (led k j before g e q y also)))
        (kinds_decide (rule_kind d.dir) (rule_kind e.dir))
