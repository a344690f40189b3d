-- Each commit of a possible run of a problem within the limits changes a label, something known or the living names, but for want of room
-- where all on which it acts have given up.
use Rattle.std.proofs.Common.{ℕ, ◌≤◌, ◌≡◌, ◌⊎◌, inl, inr, refl, sym, ap, ap₂, ◌∙◌, subst, arith, List, [], ◌∷◌, map, length, length-append, Contains, Bool, true, false, cond, not, ◌&&◌, Option, Some, None, ⊎_elim}
use Rattle.std.specs.Prelude.{IsFalse, nat_lt, option_map}
use Rattle.std.proofs.lemmas.Bool.Decides.{nat_tests}
use Rattle.std.specs.List.{find}
use Rattle.std.specs.Option.{option_map_or}
use Rattle.std.proofs.lemmas.Bool.{and_from, or_left, or_right}
use Rattle.kb_lemmas.proofs.Membership.{contains_behind, contains_first}
use Rattle.kb_lemmas.proofs.Lists.{filter_none_of}
use Rattle.kb_lemmas.proofs.Booleans.{and_gives_left, and_gives_right}
use Rattle.kb_lemmas.proofs.Options.{some_is, none_some}
use Rattle.kb_term.specs.View.{tree_of}
use Rattle.kb_term.specs.Pair.{Pair}
use Rattle.kb_term.specs.Signature.{Problem, IsWithinLimits}
use Rattle.kb_term.specs.declared.origin.RuleRef.{RuleRef}
use Rattle.kb_label.specs.Names.{Name, has, child, name_eq, relabel, is_empty, join, meet, IsInNameOrder}
use Rattle.kb_label.specs.declared.verdict.Reason.{Reason}
use Rattle.kb_label.specs.declared.verdict.Reason.TheVariants.{Nodes, Processes}
use Rattle.kb_label.proofs.Members.{has-filter, has-join, has-minus, has-add, name_eq-refl}
use Rattle.kb_label.proofs.Forked.{after_fork}
use Rattle.kb_label.proofs.Merged.{join-none}
use Rattle.kb_node.specs.declared.node.NodeId.{NodeId}
use Rattle.kb_node.specs.declared.node.LabelKind.TheVariants.{E, X}
use Rattle.kb_node.specs.declared.node.LabelKind.{LabelKind}
use Rattle.kb_node.specs.declared.job.Fact.{Fact}
use Rattle.kb_node.specs.declared.job.Job.{Job}
use Rattle.kb_node.specs.declared.job.Job.TheVariants.{Reduce, Orient, Overlap, Close}
use Rattle.mkb_model.specs.Jobs.{ref_eq}
use Rattle.mkb_model.specs.Plain.{Plain, Done, GivenUp, label, label_at, done_in, done_of, is_equation, is_over, pair_at, rule_kind}
use Rattle.mkb_model.specs.DueJobs.{is_due, is_working, is_work_due}
use Rattle.mkb_model.specs.Sleeping.{settle}
use Rattle.mkb_model.specs.Invariants.{SleepersWait}
use Rattle.mkb_model.specs.Effects.{applied, counted, limit_of, give_up, effect_label, not_over, own_reason, is_crowded, is_full, first_some, some_if, is_dropped, rewritten, rewrite_label, overlap_label, gains_done_in, limit_label, added, reason_eq, most_nodes}
use Rattle.mkb_model.specs.Proposals.{Proposes}
use Rattle.mkb_model.specs.Journals.{Moment, IsPossibleRun, IsFreeJob, IsFinishing, IsCommitting, landed}
use Rattle.mkb_model.specs.Ready.{IsOn, KeepsPairs, IsRewriteOn}
use Rattle.mkb_model.specs.Changing.{SaysTheSame, IsChanged, IsIdleLimit}
use Rattle.mkb_model.specs.declared.proposed.Proposed.{Proposed}
use Rattle.mkb_model.specs.declared.proposed.Proposed.TheVariants.{Facts, Rewrite, One, Both, Refuse, Deduce, Unjoined, Closed, Limit}
use Rattle.mkb_model.specs.declared.entry.Effect.{Effect}
use Rattle.mkb_model.specs.declared.entry.Entry.TheVariants.{Take}
use Rattle.mkb_model.proofs.labels.AtMostSixtyFour.{sleepers_run}
use Rattle.mkb_model.proofs.labels.Sleepers.{settled_same}
use Rattle.mkb_model.proofs.Lists.{clash, decide, not_true, not_of_false, not_of_true}
use Rattle.mkb_model.proofs.commits.Roles.{on-gains, on_there}
use Rattle.mkb_model.proofs.nodes.Pairs.{pairs-added}
use Rattle.mkb_model.proofs.commits.Views.{pair_back}
use Rattle.mkb_model.proofs.commits.Orienting.{orient-roles, self}
use Rattle.mkb_model.proofs.commits.Commits.{orients}
use Rattle.mkb_model.proofs.runs.Endings.{has_in}
use Rattle.mkb_model.proofs.commits.RewritingRuns.{IsSource, source_of}
use Rattle.mkb_model.proofs.runs.Readiness.{rewrite_ready}
use Rattle.mkb_model.proofs.nodes.DistinctPairs.{pairs_stay}
use Rattle.mkb_model.proofs.runs.KnownFacts.{facts_hold}
use Rattle.mkb_model.proofs.tickets.InFlight.{free_due, taken_free, own_of}
use Rattle.mkb_model.proofs.labels.LivingLabels.{labelled_run}
use Rattle.mkb_model.proofs.closing.RestInRuns.{due_rests, resting_run}
use Rattle.mkb_model.proofs.closing.Staying.{closers_stay, refused_stay}
use Rattle.mkb_model.proofs.runs.AllFine.{earlier_run, goes, states_ordered, commits_fine}
use Rattle.mkb_model.proofs.closing.Completed.{ref_self}
use Rattle.mkb_model.proofs.nodes.Origins.{some_named}
use Rattle.mkb_model.proofs.nodes.Sizes.{limited_run}
use Rattle.mkb_model.proofs.runs.OverReasons.{given_over}
use Rattle.mkb_model.proofs.nodes.NewPairs.{few_run}
use Rattle.mkb_model.proofs.runs.Findings.{is_about, missing_some, missing_stays, added_known}
use Rattle.mkb_model.proofs.commits.RewritingActs.{role_lost}
use Rattle.mkb_model.proofs.closing.Unjoining.{never_all, added_had}
use Rattle.mkb_model.specs.declared.settings.Settings.{Settings}

-- ---- limits

none_named : (l : List Name) (p : Name) → is_empty l ≡ true → has l p ≡ false
none_named [] p h = refl
none_named (q ∷ l) p h = clash h refl

module _ (P : Problem) (n : Settings) (within : IsWithinLimits P) (past : List Moment) (b : Plain) (run : IsPossibleRun P n past b) where
  -- who gives up is seen to
  limit_seen : (r : Reason) (l : List Name) (p : Name) → has (not_over b l) p ≡ true → SaysTheSame b (give_up r l b) → ⊥
  limit_seen r l p h same = clash (given_over IsFreeJob P n past b run r l p h) (same.over p ∙ not_true (and_gives_left (not (is_over b p)) (has l p) (sym (has-filter (λ q. not (is_over b q)) l p) ∙ h)))

  -- a proposal that comes to a limit acts on some process, since facts alone always find room
  acted : (x : Proposed) (r : Reason) → IsFalse (is_dropped b x) → limit_of b x ≡ Some r → (p : Name) × (has (effect_label b x) p ≡ true)
  acted (Facts fs) r acts e = none_some (sym (roomy (length b.nodes) (few_run IsFreeJob P n past b within run)) ∙ e)
    where
      roomy : (n : ℕ) → n ≤ most_nodes → first_some (None ∷ None ∷ some_if (nat_lt most_nodes n) Nodes ∷ []) ≡ None
      roomy n h = let e : nat_lt 4096 n ≡ false = grind (arith, nat_tests) in ap (λ b. first_some (None ∷ None ∷ some_if b Nodes ∷ [])) e
  acted x r acts e = some_named (effect_label b x) acts

  at_limit : (x : Proposed) (r : Reason) → IsFalse (is_dropped b x) → limit_of b x ≡ Some r → (SaysTheSame b (give_up r (effect_label b x) b) → ⊥) ⊎ IsIdleLimit b x
  at_limit x r acts e = go (is_empty (not_over b (effect_label b x))) refl
    where
      go : (y : Bool) → is_empty (not_over b (effect_label b x)) ≡ y → (SaysTheSame b (give_up r (effect_label b x) b) → ⊥) ⊎ IsIdleLimit b x
      go false i = let k = some_named (not_over b (effect_label b x)) i in inl (limit_seen r (effect_label b x) k.0 k.1)
      go true i = let k = acted x r acts e in inr (record { not_own = foreign x acts all; limit = room x r (foreign x acts all) e; some = k.0; acts = k.1; all_over = all })
        where
          all : (p : Name) → has (effect_label b x) p ≡ true → is_over b p ≡ true
          all p h = ⊎_elim (λ k. k) (λ k. clash (has-filter (λ q. not (is_over b q)) (effect_label b x) p ∙ and_from (not (is_over b p)) (has (effect_label b x) p) (not_of_false k) h) (none_named (not_over b (effect_label b x)) p i)) (decide (is_over b p))

          -- a limit that the proposal brings acts on some that have not given up
          foreign : (y : Proposed) → IsFalse (is_dropped b y) → ((p : Name) → has (effect_label b y) p ≡ true → is_over b p ≡ true) → own_reason y ≡ None
          foreign (Limit j cause) acts all =
              let k = some_named (not_over b (limit_label b j cause)) acts in
              clash (all k.0 k.1) (not_true (and_gives_left (not (is_over b k.0)) (has (limit_label b j cause) k.0) (sym (has-filter (λ q. not (is_over b q)) (limit_label b j cause) k.0) ∙ k.1)))
          foreign (Facts fs) acts all = refl
          foreign (Rewrite m v at a kind t) acts all = refl
          foreign (One p m d c) acts all = refl
          foreign (Both p m c0 c1) acts all = refl
          foreign (Refuse p m) acts all = refl
          foreign (Deduce a c ds) acts all = refl
          foreign (Unjoined p ds) acts all = refl
          foreign (Closed p) acts all = refl

          room : (y : Proposed) (r : Reason) → own_reason y ≡ None → limit_of b y ≡ Some r → (limit_of b y ≡ Some Nodes) ⊎ (limit_of b y ≡ Some Processes)
          room y r own e = two (own_reason y) (is_crowded b y) (is_full b y) own e
            where
              two : (o : Option Reason) (c f : Bool) → o ≡ None → first_some (o ∷ some_if c Processes ∷ some_if f Nodes ∷ []) ≡ Some r
                  → (first_some (o ∷ some_if c Processes ∷ some_if f Nodes ∷ []) ≡ Some Nodes) ⊎ (first_some (o ∷ some_if c Processes ∷ some_if f Nodes ∷ []) ≡ Some Processes)
              two (Some q) c f o e = none_some (sym o)
              two None true f o e = inr refl
              two None false true o e = inl refl
              two None false false o e = none_some e

-- ---- effects

-- the names that are added for two rules are found
added_done : (a c : RuleRef) (l : List Name) (p : Name) → has l p ≡ true → (ds : List Done) → has (done_in (gains_done_in a c l ds) a c) p ≡ true
added_done a c l p h [] = go (ref_eq a a && ref_eq c c) (and_from (ref_eq a a) (ref_eq c c) (ref_self a) (ref_self c))
  where
    go : (z : Bool) → z ≡ true → has (cond z l []) p ≡ true
    go true e = h
    go false e = clash e refl
added_done a c l p h (d ∷ ds) = go (ref_eq d.first a && ref_eq d.second c) refl (added_done a c l p h ds)
  where
    go : (z : Bool) → (ref_eq d.first a && ref_eq d.second c) ≡ z → has (done_in (gains_done_in a c l ds) a c) p ≡ true → has (done_in (cond z (record d { names = join d.names l } ∷ ds) (d ∷ gains_done_in a c l ds)) a c) p ≡ true
    go true e ih = inner (ref_eq d.first a && ref_eq d.second c) e
      where
        inner : (y : Bool) → y ≡ true → has (cond y (join d.names l) (done_in ds a c)) p ≡ true
        inner true k = has-join d.names l p ∙ or_right (has d.names p) (has l p) h
        inner false k = clash k refl
    go false e ih = inner (ref_eq d.first a && ref_eq d.second c) e
      where
        inner : (y : Bool) → y ≡ false → has (cond y d.names (done_in (gains_done_in a c l ds) a c)) p ≡ true
        inner false k = ih
        inner true k = clash refl k

-- a forked process lives no more
fork_leaves : (p : Name) (l : List Name) → has l p ≡ true → has (relabel p l) p ≡ true → ⊥
fork_leaves p l h k = ⊎_elim (λ c. let e : length p ≡ length (child p c.0) = ap length c.1 in let q = length-append p (c.0 ∷ []) in omega (arith, e, q)) (λ c. clash (name_eq-refl p) c.0) (after_fork p l h p k)

module _ (P : Problem) (n : Settings) (within : IsWithinLimits P) (past : List Moment) (b : Plain) (run : IsPossibleRun P n past b) (w t : ℕ) (j : Job) (x : Proposed) (f : IsFinishing past b w t j x) (acts : IsFalse (is_dropped b x)) (free : limit_of b x ≡ None) where
  keeps : KeepsPairs f.before.nodes b.nodes
  keeps = pairs_stay IsFreeJob P n past b run (record { board = f.before; entry = Take w t j }) f.taken

  due : is_due f.before j ≡ true
  due = (free_due f.before j (taken_free P n past b run f.before w t j f.taken).0).3

  applied_seen : SaysTheSame b (applied b x) → ⊥
  applied_seen = go j x refl refl f.proposed
    where
      taken_as : (i : Job) → i ≡ j → Contains past (record { board = f.before; entry = Take w t i })
      taken_as i e = subst {A = Job} (λ z. Contains past (record { board = f.before; entry = Take w t z })) (sym e) f.taken

      flying_as : (i : Job) → i ≡ j → Contains b.flight (record { number = t; worker = w; job = i })
      flying_as i e = subst {A = Job} (λ z. Contains b.flight (record { number = t; worker = w; job = z })) (sym e) f.flying

      due_as : (i : Job) → i ≡ j → is_due f.before i ≡ true
      due_as i e = subst {A = Job} (λ z. is_due f.before z ≡ true) (sym e) due

      acts_as : (y : Proposed) → y ≡ x → is_dropped b y ≡ false
      acts_as y e = subst {A = Proposed} (λ z. is_dropped b z ≡ false) (sym e) acts

      go : (i : Job) (y : Proposed) → i ≡ j → y ≡ x → Proposes f.before i y → SaysTheSame b (applied b y) → ⊥
      go (Reduce p m) (Facts fs) ei ey h same =
          let past_run = earlier_run IsFreeJob P n past b run (record { board = f.before; entry = Take w t j }) f.taken in
          let k = missing_some f.before p m fs (due_as (Reduce p m) ei) (facts_hold IsFreeJob P n past_run.0 f.before past_run.1) h in
          let still = subst {A = ℕ} (λ z. find (is_about z k.0.side k.0.rule) b.facts ≡ None) (sym k.2) (missing_stays P n past b run f.before w t p m (taken_as (Reduce p m) ei) (flying_as (Reduce p m) ei) k.0.side k.0.rule k.3) in
          added_known b (applied b (Facts fs)) fs k.0 refl k.1 still (same.facts k.0.node.0 k.0.side k.0.rule ∙ ap (option_map (λ (f : Fact). f.found)) still)
      go (Reduce p m) (Rewrite k v pos a kind u) ei ey h same = at_pair (pair_at b k.0) r.there (same.nodes k.0 s.1.0 q ∙ s.1.2)
        where
          r : IsRewriteOn b.nodes k.0 v pos a kind (tree_of u)
          r = rewrite_ready f.before b p m k v pos a kind u h keeps

          l : List Name
          l = rewrite_label b k.0 v a kind

          named : (q : Name) × (has (rewrite_label b k.0 v a kind) q ≡ true)
          named = some_named (rewrite_label b k.0 v a kind) (acts_as (Rewrite k v pos a kind u) ey)

          q : Name
          q = named.0

          s : IsOn b.nodes q a.node (rule_kind a.dir) × ((s : LabelKind) × IsSource v kind s × IsOn b.nodes q k.0 s)
          s = source_of b k.0 v a kind q named.1

          lost : ¬ IsOn (rewritten l k.0 v pos a kind (tree_of u) r.pair b.nodes) q k.0 s.1.0
          lost = role_lost P.signature b q l named.1 k.0 v pos a kind (tree_of u) r s.0 ((goes P n past b within run).1 q) (states_ordered P n past b within run (commits_fine P n past b within run) q) (limited_run P n past b within run) s.1.0 s.1.1 s.1.2

          at_pair : (o : Option Pair) → o ≡ Some r.pair → has (label_at (option_map_or (λ z. rewritten (rewrite_label b k.0 v a kind) k.0 v pos a kind (tree_of u) z) o (λ xs. xs) b.nodes) k.0 s.1.0) q ≡ true → ⊥
          at_pair None e = none_some e
          at_pair (Some z) e = λ o. lost (subst {A = Pair} (λ y. has (label_at (rewritten (rewrite_label b k.0 v a kind) k.0 v pos a kind (tree_of u) y b.nodes) k.0 s.1.0) q ≡ true) (some_is e) o)
      go i (One q k d c) ei ey h same =
          let on = orients b q k.0 (acts_as (One q k d c) ey) in
          ⊎_elim (λ o. o.1 (refl, tt)) (λ o. o.1) (((orient-roles q (record { node = k.0; dir = d }) b.nodes (on_there b.nodes q k.0 E on)).equations k.0).0 (same.nodes k.0 E q ∙ on))
      go i (Both q k c0 c1) ei ey h same =
          let lives = ((labelled_run P n past b run).nodes k.0 E).lives q (orients b q k.0 (acts_as (Both q k c0 c1) ey)) in
          fork_leaves q b.living lives (same.living q ∙ lives)
      go (Orient p m) (Refuse q k) ei ey h same =
          let on = orients b q k.0 (acts_as (Refuse q k) ey) in
          let gained = (on-gains k.0 X (q ∷ []) b.nodes q k.0 X).1 (inr ((refl, refl), on_there b.nodes q k.0 E on, self q)) in
          let before_off = not_true (and_gives_right (is_equation f.before p m.0) (not (has (label f.before m.0 X) p)) (and_gives_right (is_working f.before p) (is_work_due f.before (Orient p m)) (due_as (Orient p m) ei))) in
          let off = refused_stay P n past b run f.before w t p m (taken_as (Orient p m) ei) (flying_as (Orient p m) ei) m.0 ∙ before_off in
          clash (subst {A = Name} (λ z. has (label b m.0 X) z ≡ true) h.0 (subst {A = NodeId} (λ z. has (label b z.0 X) q ≡ true) h.1 (sym (same.nodes k.0 X q) ∙ gained))) off
      go i (Deduce a c ds) ei ey h same =
          let named = some_named (overlap_label b a c) (acts_as (Deduce a c ds) ey) in
          let both = sym (has-minus (meet (label b a.node (rule_kind a.dir)) (label b c.node (rule_kind c.dir))) (done_of b a c) named.0) ∙ named.1 in
          clash (sym (same.overlapped a c named.0) ∙ added_done a c (overlap_label b a c) named.0 named.1 b.done) (not_true (and_gives_left (not (has (done_of b a c) named.0)) (has (meet (label b a.node (rule_kind a.dir)) (label b c.node (rule_kind c.dir))) named.0) both))
      go (Close p) (Unjoined q ds) ei ey h same =
          let past_run = earlier_run IsFreeJob P n past b run (record { board = f.before; entry = Take w t j }) f.taken in
          let stays = (closers_stay P n past b run f.before w t p (taken_as (Close p) ei) (flying_as (Close p) ei)).1 in
          never_all P.signature f.before p (due_rests f.before p (due_as (Close p) ei)).0 (facts_hold IsFreeJob P n past_run.0 f.before past_run.1) ((goes P n past_run.0 f.before within past_run.1).1 p) (states_ordered P n past_run.0 f.before within past_run.1 (commits_fine P n past_run.0 f.before within past_run.1) p) ds h.1
          (λ d i.
          let k = added_had (q ∷ []) ds b.nodes p (subst {A = Name} (λ z. has (z ∷ []) p ≡ true) (sym h.0) (self p)) d i in
          let on_b = sym (same.nodes k.0 k.1 p) ∙ k.3 in
          let on_before = (stays k.0 k.1).0 on_b in
          (k.0, k.1, k.2, on_before, pair_back f.before.nodes b.nodes p k.0 k.1 d.pair keeps on_before (pair_back b.nodes (added (q ∷ []) ds b.nodes) p k.0 k.1 d.pair (pairs-added (q ∷ []) ds b.nodes) on_b k.4)))
      go i (Closed q) ei ey h same =
          let own = own_of f.before i (Closed q) h in
          (resting_run P n past b run).no_own q (sym (same.closed q) ∙ has-add q b.closed q ∙ or_left (name_eq q q) (has b.closed q) (name_eq-refl q)) (record { number = t; worker = w; job = i }) (flying_as i ei) own.0 own.1
      go i (Limit k cause) ei ey h same = none_some (sym (subst {A = Proposed} (λ z. limit_of b z ≡ None) (sym ey) free))
      go (Orient p m) (Facts fs) ei ey h same = absurd h
      go (Overlap p d e) (Facts fs) ei ey h same = absurd h
      go (Close p) (Facts fs) ei ey h same = absurd h
      go (Orient p m) (Rewrite k v pos a kind u) ei ey h same = absurd h
      go (Overlap p d e) (Rewrite k v pos a kind u) ei ey h same = absurd h
      go (Close p) (Rewrite k v pos a kind u) ei ey h same = absurd h
      go (Reduce p m) (Refuse q k) ei ey h same = absurd h
      go (Overlap p d e) (Refuse q k) ei ey h same = absurd h
      go (Close p) (Refuse q k) ei ey h same = absurd h
      go (Reduce p m) (Unjoined q ds) ei ey h same = absurd h
      go (Orient p m) (Unjoined q ds) ei ey h same = absurd h
      go (Overlap p d e) (Unjoined q ds) ei ey h same = absurd h

-- each commit changes what the board says, or meets an idle limit
pub commits_change : (P : Problem) (n : Settings) (past : List Moment) (b : Plain) (w t : ℕ) (e : Effect) (d : Plain) → IsWithinLimits P → IsPossibleRun P n past b → (c : IsCommitting past b w t e d) → IsChanged b d ⊎ IsIdleLimit b c.proposal
commits_change P n past b w t e d within run c = go (limit_of b c.proposal) refl
  where
    landed_same : (a : Plain) → d ≡ landed t (settle (counted a)) → SaysTheSame b d → SaysTheSame b a
    landed_same a q s = let k = subst {A = Plain} (SaysTheSame b) q s in record { nodes = k.nodes; overlapped = k.overlapped; facts = k.facts; closed = k.closed; over = k.over; living = k.living }

    leads : (o : Option Reason) → limit_of b c.proposal ≡ o → d ≡ landed t (settle (counted (option_map_or (λ r. give_up r (effect_label b c.proposal) b) o (applied b c.proposal))))
    leads o q = c.leads_to ∙ ap (λ o. landed t (settle (counted (option_map_or (λ r. give_up r (effect_label b c.proposal) b) o (applied b c.proposal))))) q

    go : (o : Option Reason) → limit_of b c.proposal ≡ o → IsChanged b d ⊎ IsIdleLimit b c.proposal
    go (Some r) q = ⊎_elim (λ h. inl (λ s. h (landed_same (give_up r (effect_label b c.proposal) b) (leads (Some r) q) s))) (λ h. inr h) (at_limit P n within past b run c.proposal r c.acts q)
    go None q = inl (λ s. applied_seen P n within past b run w t c.job c.proposal c.finishing c.acts q (landed_same (applied b c.proposal) (leads None q) s))

-- ---- idle limits

nobody_more : (r : Reason) (l : List Name) → l ≡ [] → (gs : List GivenUp) → ((g : GivenUp) → Contains gs g → IsInNameOrder g.names) → map (λ (g : GivenUp). cond (reason_eq g.reason r) (record g { names = join g.names l }) g) gs ≡ gs
nobody_more r l e [] h = refl
nobody_more r l e (g ∷ gs) h = ap₂ (λ (x : GivenUp) (xs : List GivenUp). x ∷ xs) (go (reason_eq g.reason r)) (nobody_more r l e gs (λ x i. h x (contains_behind g gs x i)))
  where
    go : (x : Bool) → cond x (record g { names = join g.names l }) g ≡ g
    go true = ap (λ ns. record g { names = ns }) (ap (join g.names) e ∙ join-none g.names (h g (contains_first g gs)))
    go false = refl

-- an idle limit changes the number of commits and the flight alone
pub idle_commits : (P : Problem) (n : Settings) (past : List Moment) (b : Plain) (w t : ℕ) (e : Effect) (d : Plain) → IsPossibleRun P n past b → (c : IsCommitting past b w t e d) → IsIdleLimit b c.proposal → d ≡ landed t (counted b)
idle_commits P n past b w t e d run c i = ⊎_elim (at Nodes) (at Processes) i.limit
  where
    all : not_over b (effect_label b c.proposal) ≡ []
    all = filter_none_of (λ p. not (is_over b p)) (effect_label b c.proposal) (λ p k. not_of_true (i.all_over p (has_in (effect_label b c.proposal) p k)))

    same : (r : Reason) → give_up r (effect_label b c.proposal) b ≡ b
    same r = ap (λ gs. record b { over = gs }) (nobody_more r (not_over b (effect_label b c.proposal)) all b.over (λ g k. ((labelled_run P n past b run).over g k).ordered))

    waits : SleepersWait b
    waits = sleepers_run P n past b run

    at : (r : Reason) → limit_of b c.proposal ≡ Some r → d ≡ landed t (counted b)
    at r q = c.leads_to ∙ ap (λ o. landed t (settle (counted (option_map_or (λ r. give_up r (effect_label b c.proposal) b) o (applied b c.proposal))))) q ∙ ap (λ z. landed t (settle (counted z))) (same r)
        ∙ ap (λ l. landed t (record (counted b) { asleep = l })) (settled_same (counted b) (record { few = waits.few; none_waits = waits.none_waits }))
