-- An overlap that was taken is noted at the end of its turn, and stays noted while its process lives.
use Rattle.std.proofs.Common.{ℕ, ◌+◌, ◌≡◌, refl, sym, ap, ◌∙◌, subst, arith, List, [], ◌∷◌, map, length, length-append, Contains, Bool, true, false, cond, not, ◌&&◌, ◌==◌, Option, Some, None, eqb-true, ⊎_elim}
use Rattle.std.specs.Option.{option_map_or}
use Rattle.std.proofs.lemmas.Bool.{and_from, or_right, or_left}
use Rattle.kb_lemmas.proofs.Membership.{contains_cases}
use Rattle.kb_lemmas.proofs.Options.{some_is, none_some}
use Rattle.kb_term.specs.Signature.{Problem}
use Rattle.kb_term.specs.declared.origin.RuleRef.{RuleRef}
use Rattle.kb_label.specs.Names.{Name, has, name_eq, child, relabel, join, meet, is_empty}
use Rattle.kb_label.specs.declared.verdict.Reason.{Reason}
use Rattle.kb_label.proofs.Forked.{after_fork}
use Rattle.kb_label.proofs.Members.{has-filter, has-join, has-meet, has-minus, name_eq-eq, name_eq-refl}
use Rattle.kb_node.specs.declared.job.Job.{Job}
use Rattle.kb_node.specs.declared.job.Job.TheVariants.{Overlap}
use Rattle.mkb_model.specs.Jobs.{ref_eq}
use Rattle.mkb_model.specs.Plain.{Plain, Done, label, rule_kind, done_in, done_of, is_over, is_rule}
use Rattle.mkb_model.specs.DueJobs.{is_due}
use Rattle.mkb_model.specs.Effects.{applied, effect, limit_of, give_up, effect_label, overlap_label, limit_label, not_over, gains_done_in, is_dropped}
use Rattle.mkb_model.specs.Proposals.{Proposes}
use Rattle.mkb_model.specs.Journals.{Moment, Follows, IsRun, IsFirstJob, landed, tickets}
use Rattle.mkb_model.specs.declared.proposed.Proposed.{Proposed}
use Rattle.mkb_model.specs.declared.proposed.Proposed.TheVariants.{Facts, Rewrite, One, Both, Refuse, Deduce, Unjoined, Closed, Limit}
use Rattle.mkb_model.specs.declared.settings.Settings.{Settings}
use Rattle.mkb_model.specs.declared.entry.Entry.{Entry}
use Rattle.mkb_model.specs.declared.entry.Entry.TheVariants.{Take, Commit, Drop, Abandon, Halt}
use Rattle.mkb_model.proofs.Lists.{clash, not_of_false}
use Rattle.mkb_model.proofs.closing.Completed.{ref_self}
use Rattle.mkb_model.proofs.tickets.InFlight.{taken_free}
use Rattle.mkb_model.proofs.labels.NameLists.{other_lives}
use Rattle.mkb_model.proofs.runs.OverReasons.{given_over}
use Rattle.mkb_model.proofs.runs.Selections.{legal-possible}
use Rattle.mkb_fairness.specs.Fairness.{taken_by}
use Rattle.mkb_fairness.proofs.Turns.{IsTurn}
use Rattle.mkb_fairness.proofs.Overlaps.{due_rules, due_not_over, due_not_done}

-- ---- the list of overlapped rules

module _ (p : Name) (a c : RuleRef) (l : List Name) where
  gains_more : (x y : RuleRef) (ds : List Done) → has (done_in ds x y) p ≡ true → has (done_in (gains_done_in a c l ds) x y) p ≡ true
  gains_more x y [] h = clash h refl
  gains_more x y (d ∷ ds) h = go (ref_eq d.first a && ref_eq d.second c) (gains_more x y ds)
    where
      inner : (z : Bool) (m n : List Name) → (has d.names p ≡ true → has m p ≡ true) → (has (done_in ds x y) p ≡ true → has n p ≡ true) → has (cond z d.names (done_in ds x y)) p ≡ true → has (cond z m n) p ≡ true
      inner true m n f g k = f k
      inner false m n f g k = g k

      go : (z : Bool) → (has (done_in ds x y) p ≡ true → has (done_in (gains_done_in a c l ds) x y) p ≡ true) → has (done_in (cond z (record d { names = join d.names l } ∷ ds) (d ∷ gains_done_in a c l ds)) x y) p ≡ true
      go true ih = inner (ref_eq d.first x && ref_eq d.second y) (join d.names l) (done_in ds x y) (λ k. has-join d.names l p ∙ or_left (has d.names p) (has l p) k) (λ k. k) h
      go false ih = inner (ref_eq d.first x && ref_eq d.second y) d.names (done_in (gains_done_in a c l ds) x y) (λ k. k) ih h

  gains_these : has l p ≡ true → (ds : List Done) → has (done_in (gains_done_in a c l ds) a c) p ≡ true
  gains_these h [] = go (ref_eq a a && ref_eq c c) (and_from (ref_eq a a) (ref_eq c c) (ref_self a) (ref_self c))
    where
      go : (z : Bool) → z ≡ true → has (cond z l []) p ≡ true
      go true e = h
      go false e = clash e refl
  gains_these h (d ∷ ds) = go (ref_eq d.first a && ref_eq d.second c) refl (gains_these h ds)
    where
      inner : (z x : Bool) (m n : List Name) → z ≡ x → has (cond x m n) p ≡ true → has (cond z m n) p ≡ true
      inner z x m n e k = subst {A = Bool} (λ w. has (cond w m n) p ≡ true) (sym e) k

      go : (z : Bool) → (ref_eq d.first a && ref_eq d.second c) ≡ z → has (done_in (gains_done_in a c l ds) a c) p ≡ true → has (done_in (cond z (record d { names = join d.names l } ∷ ds) (d ∷ gains_done_in a c l ds)) a c) p ≡ true
      go true e ih = inner (ref_eq d.first a && ref_eq d.second c) true (join d.names l) (done_in ds a c) e (has-join d.names l p ∙ or_right (has d.names p) (has l p) h)
      go false e ih = inner (ref_eq d.first a && ref_eq d.second c) false d.names (done_in (gains_done_in a c l ds) a c) e ih

fork_keeps : (q p : Name) → name_eq p q ≡ false → (x y : RuleRef) (ds : List Done) → has (done_in ds x y) p ≡ true → has (done_in (map (λ (d : Done). record d { names = relabel q d.names }) ds) x y) p ≡ true
fork_keeps q p apart x y [] h = clash h refl
fork_keeps q p apart x y (d ∷ ds) h = go (ref_eq d.first x && ref_eq d.second y) (fork_keeps q p apart x y ds) h
  where
    go : (z : Bool) → (has (done_in ds x y) p ≡ true → has (done_in (map (λ (d : Done). record d { names = relabel q d.names }) ds) x y) p ≡ true) → has (cond z d.names (done_in ds x y)) p ≡ true
        → has (cond z (relabel q d.names) (done_in (map (λ (d : Done). record d { names = relabel q d.names }) ds) x y)) p ≡ true
    go true ih k = other_lives q p d.names apart k
    go false ih k = ih k

-- a process that is forked lives no more
pub forked_leaves : {A : Type 0} (p : Name) (l : List Name) → has l p ≡ true → has (relabel p l) p ≡ true → A
forked_leaves p l h k = ⊎_elim (λ r. absurd (let e : length p ≡ length (child p r.0) = ap length r.1 in let q = length-append p (r.0 ∷ []) in omega (arith, e, q))) (λ r. clash (name_eq-refl p) r.0) (after_fork p l h p k)

-- ---- what a commit leaves noted

module _ (b : Plain) (p : Name) (d e : RuleRef) (lives : has b.living p ≡ true) (noted : has (done_of b d e) p ≡ true) where
  applied_keeps : (x : Proposed) → has (applied b x).living p ≡ true → has (done_of (applied b x) d e) p ≡ true
  applied_keeps (Deduce a c ds) later = gains_more p a c (overlap_label b a c) d e b.done noted
  applied_keeps (Both q n c0 c1) later = go (name_eq p q) refl
    where
      go : (z : Bool) → name_eq p q ≡ z → has (done_of (applied b (Both q n c0 c1)) d e) p ≡ true
      go true i = forked_leaves p b.living lives (subst {A = Name} (λ z. has (relabel z b.living) p ≡ true) (sym (name_eq-eq p q i)) later)
      go false i = fork_keeps q p i d e b.done noted
  applied_keeps (Facts fs) later = noted
  applied_keeps (Rewrite n w at a kind t) later = noted
  applied_keeps (One q n i c) later = noted
  applied_keeps (Refuse q n) later = noted
  applied_keeps (Unjoined q ds) later = noted
  applied_keeps (Closed q) later = noted
  applied_keeps (Limit j cause) later = noted

  effect_keeps : (x : Proposed) → has (effect b x).living p ≡ true → has (done_of (effect b x) d e) p ≡ true
  effect_keeps x later = go (limit_of b x) later
    where
      go : (o : Option Reason) → has (option_map_or (λ r. give_up r (effect_label b x) b) o (applied b x)).living p ≡ true → has (done_of (option_map_or (λ r. give_up r (effect_label b x) b) o (applied b x)) d e) p ≡ true
      go None k = applied_keeps x k
      go (Some r) k = noted

-- after a turn what was noted is noted, where the process lives
pub turn_keeps : (past : List Moment) (b : Plain) (x : Entry) (c : Plain) (y : Entry) (z : Plain) → IsTurn x y → Follows IsFirstJob past b x c → Follows IsFirstJob (record { board = b; entry = x } ∷ past) c y z
    → (p : Name) (d e : RuleRef) → has b.living p ≡ true → has z.living p ≡ true → has (done_of b d e) p ≡ true → has (done_of z d e) p ≡ true
turn_keeps past b (Take w t j) c (Commit v s i) z turn f g p d e lives later noted = subst {A = Plain} (λ k. has (done_of k d e) p ≡ true) (sym g.leads_to)
    (effect_keeps c p d e (subst {A = Plain} (λ k. has k.living p ≡ true) (sym f.leads_to) lives) (subst {A = Plain} (λ k. has (done_of k d e) p ≡ true) (sym f.leads_to) noted) g.proposal
    (subst {A = Plain} (λ k. has k.living p ≡ true) g.leads_to later))
turn_keeps past b (Take w t j) c (Drop v s q) z turn f g p d e lives later noted = subst {A = Plain} (λ k. has (done_of k d e) p ≡ true) (sym (g.leads_to ∙ ap (landed s) f.leads_to)) noted
turn_keeps past b (Take w t j) c (Take v s i) z turn f g p d e lives later noted = clash turn refl
turn_keeps past b (Take w t j) c (Abandon v s) z turn f g p d e lives later noted = clash turn refl
turn_keeps past b (Take w t j) c Halt z turn f g p d e lives later noted = clash turn refl
turn_keeps past b (Commit w t i) c y z turn f g p d e lives later noted = absurd turn
turn_keeps past b (Drop w t q) c y z turn f g p d e lives later noted = absurd turn
turn_keeps past b (Abandon w t) c y z turn f g p d e lives later noted = absurd turn
turn_keeps past b Halt c y z turn f g p d e lives later noted = absurd turn

-- ---- what an overlap proposes

module _ (before b : Plain) (p : Name) (d e : RuleRef) (due : is_due b (Overlap p d e) ≡ true) where
  overlap_named : has (overlap_label b d e) p ≡ true
  overlap_named =
      let r = due_rules b p d e due in
      has-minus (meet (label b d.node (rule_kind d.dir)) (label b e.node (rule_kind e.dir))) (done_of b d e) p
      ∙ and_from (not (has (done_of b d e) p)) (has (meet (label b d.node (rule_kind d.dir)) (label b e.node (rule_kind e.dir))) p) (not_of_false (due_not_done b p d e due))
      (has-meet (label b d.node (rule_kind d.dir)) (label b e.node (rule_kind e.dir)) p ∙ and_from (is_rule b p e) (is_rule b p d) r.1 r.0)

  still_named : (l : List Name) → has l p ≡ true → has (not_over b l) p ≡ true
  still_named l h = has-filter (λ q. not (is_over b q)) l p ∙ and_from (not (is_over b p)) (has l p) (not_of_false (due_not_over b p d e due)) h

  -- what is proposed acts on its process
  acts_on : (x : Proposed) → Proposes before (Overlap p d e) x → has (effect_label b x) p ≡ true
  acts_on (Deduce a c ds) h = subst {A = RuleRef} (λ z. has (overlap_label b z c) p ≡ true) (sym h.0) (subst {A = RuleRef} (λ z. has (overlap_label b d z) p ≡ true) (sym h.1) overlap_named)
  acts_on (Limit i cause) h = subst {A = Job} (λ z. has (not_over b (limit_label b z cause)) p ≡ true) (sym h.0) (still_named (overlap_label b d e) overlap_named)
  acts_on (Facts fs) h = absurd h
  acts_on (Rewrite m w at a kind t) h = absurd h
  acts_on (One q m k c) h = absurd h
  acts_on (Both q m c0 c1) h = absurd h
  acts_on (Refuse q m) h = absurd h
  acts_on (Unjoined q ds) h = absurd h
  acts_on (Closed q) h = absurd h

  not_empty : (l : List Name) → has l p ≡ true → is_empty l ≡ false
  not_empty [] h = clash h refl
  not_empty (q ∷ l) h = refl

  -- and is not dropped
  acts : (x : Proposed) → Proposes before (Overlap p d e) x → is_dropped b x ≡ false
  acts (Deduce a c ds) h = not_empty (overlap_label b a c) (acts_on (Deduce a c ds) h)
  acts (Limit i cause) h = not_empty (not_over b (limit_label b i cause)) (acts_on (Limit i cause) h)
  acts (Facts fs) h = absurd h
  acts (Rewrite m w at a kind t) h = absurd h
  acts (One q m k c) h = absurd h
  acts (Both q m c0 c1) h = absurd h
  acts (Refuse q m) h = absurd h
  acts (Unjoined q ds) h = absurd h
  acts (Closed q) h = absurd h

  made_noted : (x : Proposed) → Proposes before (Overlap p d e) x → limit_of b x ≡ None → has (done_of (applied b x) d e) p ≡ true
  made_noted (Deduce a c ds) h none = subst {A = RuleRef} (λ z. has (done_in (gains_done_in z c (overlap_label b z c) b.done) d e) p ≡ true) (sym h.0) (subst {A = RuleRef} (λ z. has (done_in (gains_done_in d z (overlap_label b d z) b.done) d e) p ≡ true) (sym h.1) (gains_these p d e (overlap_label b d e) overlap_named b.done))
  made_noted (Limit i cause) h none = none_some (sym none)
  made_noted (Facts fs) h none = absurd h
  made_noted (Rewrite m w at a kind t) h none = absurd h
  made_noted (One q m k c) h none = absurd h
  made_noted (Both q m c0 c1) h none = absurd h
  made_noted (Refuse q m) h none = absurd h
  made_noted (Unjoined q ds) h none = absurd h
  made_noted (Closed q) h none = absurd h

  -- after its commit the overlap is noted, or its process has given up
  commit_notes : (P : Problem) (n : Settings) (past : List Moment) → IsRun P n past b → (x : Proposed) → Proposes before (Overlap p d e) x → is_over (effect b x) p ≡ false → has (done_of (effect b x) d e) p ≡ true
  commit_notes P n past run x h works = go (limit_of b x) refl works
    where
      go : (o : Option Reason) → limit_of b x ≡ o → is_over (option_map_or (λ r. give_up r (effect_label b x) b) o (applied b x)) p ≡ false → has (done_of (option_map_or (λ r. give_up r (effect_label b x) b) o (applied b x)) d e) p ≡ true
      go None i k = made_noted x h i
      go (Some r) i k = clash (given_over IsFirstJob P n past b run r (effect_label b x) p (still_named (effect_label b x) (acts_on x h))) k

-- ---- the turn of an overlap

-- the newest take is the one of its ticket, so the job of the ticket is its job
own_job : (P : Problem) (n : Settings) (past : List Moment) (b : Plain) → IsRun P n past b → (w t v s : ℕ) (j i : Job) (before : Plain) → t ≡ tickets past + 1 → (s == t) ≡ true → Contains (record { board = b; entry = Take w t j } ∷ past) (record { board = before; entry = Take v s i }) → j ≡ i
own_job P n past b run w t v s j i before next turn c = ⊎_elim
    (λ q. some_is (ap (λ (m : Moment). taken_by m.entry) q))
    (λ k. absurd (let l = (taken_free P n past b (legal-possible P n past b run) before v s i k).1 in let e = eqb-true s t turn in omega (arith, l, e, next)))
    (contains_cases (record { board = b; entry = Take w t j }) past (record { board = before; entry = Take v s i }) c)

-- at the end of the turn that takes a due overlap it is noted, where its process has not given up
pub turn_notes : (P : Problem) (n : Settings) (past : List Moment) (b : Plain) (x : Entry) (c : Plain) (y : Entry) (z : Plain) → IsTurn x y → IsRun P n past b → Follows IsFirstJob past b x c → Follows IsFirstJob (record { board = b; entry = x } ∷ past) c y z
    → (p : Name) (d e : RuleRef) → taken_by x ≡ Some (Overlap p d e) → is_due b (Overlap p d e) ≡ true → is_over z p ≡ false → has (done_of z d e) p ≡ true
turn_notes P n past b (Take w t j) c (Commit v s i) z turn run f g p d e takes due works = subst {A = Plain} (λ k. has (done_of k d e) p ≡ true) (sym g.leads_to)
    (commit_notes g.finishing.before c p d e (subst {A = Plain} (λ k. is_due k (Overlap p d e) ≡ true) (sym f.leads_to) due) P n (record { board = b; entry = Take w t j } ∷ past) (run, f) g.proposal
    (subst {A = Job} (λ k. Proposes g.finishing.before k g.proposal) (sym (own_job P n past b run w t v s j g.job g.finishing.before f.next_number turn g.finishing.taken) ∙ some_is takes) g.finishing.proposed)
    (subst {A = Plain} (λ k. is_over k p ≡ false) g.leads_to works))
turn_notes P n past b (Take w t j) c (Drop v s q) z turn run f g p d e takes due works = clash g.idle
    (acts g.finishing.before c p d e (subst {A = Plain} (λ k. is_due k (Overlap p d e) ≡ true) (sym f.leads_to) due) g.proposal
    (subst {A = Job} (λ k. Proposes g.finishing.before k g.proposal) (sym (own_job P n past b run w t v s j g.job g.finishing.before f.next_number turn g.finishing.taken) ∙ some_is takes) g.finishing.proposed))
turn_notes P n past b (Take w t j) c (Take v s i) z turn run f g p d e takes due works = clash turn refl
turn_notes P n past b (Take w t j) c (Abandon v s) z turn run f g p d e takes due works = clash turn refl
turn_notes P n past b (Take w t j) c Halt z turn run f g p d e takes due works = clash turn refl
turn_notes P n past b (Commit w t i) c y z turn run f g p d e takes due works = absurd turn
turn_notes P n past b (Drop w t q) c y z turn run f g p d e takes due works = absurd turn
turn_notes P n past b (Abandon w t) c y z turn run f g p d e takes due works = absurd turn
turn_notes P n past b Halt c y z turn run f g p d e takes due works = absurd turn
