-- A ticket is dropped only where a commit came since its take, and a closing never.
use Rattle.std.proofs.Common.{ℕ, zero, suc, ◌≡◌, ◌≢◌, ◌⊎◌, inl, inr, refl, sym, ap, ◌∙◌, subst, List, [], ◌∷◌, ◌++◌, Bool, true, false, cond, not, ◌&&◌, ◌||◌, ◌==◌, Option, Some, None, ⊎_elim}
use Rattle.std.specs.List.{list_any}
use Rattle.std.proofs.lemmas.Bool.{and_from, or_cases, or_left, or_right}
use Rattle.mkb_model.proofs.commits.Orienting.{self}
use Rattle.kb_lemmas.proofs.Membership.{split_at}
use Rattle.kb_lemmas.proofs.Booleans.{and_gives_left, and_gives_right}
use Rattle.kb_term.specs.Tree.{Tree}
use Rattle.kb_term.specs.Pair.{Pair}
use Rattle.kb_term.specs.Signature.{Problem}
use Rattle.kb_term.specs.declared.origin.RuleRef.{RuleRef}
use Rattle.kb_term.specs.declared.origin.Found.{Found}
use Rattle.kb_term.specs.declared.origin.Found.TheVariants.{No, Variant, Strict}
use Rattle.kb_label.specs.Names.{Name, has, is_empty, join, meet}
use Rattle.kb_label.proofs.Members.{has-filter, has-join, has-meet, has-minus}
use Rattle.kb_node.specs.declared.job.Job.{Job}
use Rattle.kb_node.specs.declared.job.Job.TheVariants.{Reduce, Orient, Overlap, Close}
use Rattle.kb_node.specs.declared.node.NodeId.{NodeId}
use Rattle.kb_node.specs.declared.node.LabelKind.TheVariants.{R0, R1, E, X}
use Rattle.mkb_model.specs.Jobs.{ref_le, process_of}
use Rattle.mkb_model.specs.Plain.{Plain, label, rule_kind, other, rules_of, is_equation, is_rule, is_over, done_of}
use Rattle.mkb_model.specs.DueJobs.{is_due, is_work_due, is_working, is_node_of, is_reducible, is_usable, reducers}
use Rattle.mkb_model.specs.Effects.{rewrite_label, overlap_label, orient_label, redex_label, limit_label, not_over, if_strict, is_dropped}
use Rattle.mkb_model.specs.Proposals.{Proposes, IsUsableRedex, named_rules}
use Rattle.mkb_model.specs.Journals.{Moment, Follows, IsRunBy, IsPossibleRun, IsFreeJob, IsDropping}
use Rattle.mkb_model.specs.Tickets.{is_commit, CommitCameSince}
use Rattle.mkb_model.specs.declared.proposed.Proposed.{Proposed}
use Rattle.mkb_model.specs.declared.proposed.Proposed.TheVariants.{Facts, Rewrite, One, Both, Refuse, Deduce, Unjoined, Closed, Limit}
use Rattle.mkb_model.specs.declared.entry.Entry.{Entry}
use Rattle.mkb_model.specs.declared.entry.Entry.TheVariants.{Take, Commit, Drop, Abandon, Halt}
use Rattle.mkb_model.proofs.Lists.{clash, not_true, not_of_false, any_in, filter_in}
use Rattle.mkb_model.proofs.runs.Readiness.{named_rule}
use Rattle.mkb_model.proofs.tickets.InFlight.{taken_free, free_due, due_working}
use Rattle.mkb_model.proofs.closing.LeftAlone.{IsBit, rules_in}
use Rattle.mkb_model.proofs.closing.RestInRuns.{resting_run}
use Rattle.mkb_model.specs.declared.settings.Settings.{Settings}

-- ---- labels that name somebody

not_empty : (l : List Name) (p : Name) → has l p ≡ true → is_empty l ≡ false
not_empty [] p h = clash h refl
not_empty (q ∷ l) p h = refl

in_not_over : (b : Plain) (l : List Name) (p : Name) → has l p ≡ true → is_over b p ≡ false → has (not_over b l) p ≡ true
in_not_over b l p h o = has-filter (λ q. not (is_over b q)) l p ∙ and_from (not (is_over b p)) (has l p) (not_of_false o) h

-- a redex that the process may use acts on it
rewrite_named : (b : Plain) (p : Name) (n w : ℕ) (a : RuleRef) (kind : Found) → is_rule b p a ≡ true → is_node_of b p n ≡ true → IsBit w → is_usable b p n w kind ≡ true → has (rewrite_label b n w a kind) p ≡ true
rewrite_named b p n w a kind rule node side usable = has-meet (label b a.node (rule_kind a.dir)) (join (label b n E) (join (label b n (rule_kind (other w))) (if_strict kind (label b n (rule_kind w))))) p
    ∙ and_from (has (join (label b n E) (join (label b n (rule_kind (other w))) (if_strict kind (label b n (rule_kind w))))) p) (is_rule b p a) (go kind usable) rule
  where
    by_equation : (l : List Name) → is_equation b p n ≡ true → has (join (label b n E) l) p ≡ true
    by_equation l e = has-join (label b n E) l p ∙ or_left (is_equation b p n) (has l p) e

    by_right : (l : List Name) → has (label b n (rule_kind (other w))) p ≡ true → has (join (label b n E) (join (label b n (rule_kind (other w))) l)) p ≡ true
    by_right l e = has-join (label b n E) (join (label b n (rule_kind (other w))) l) p ∙ or_right (is_equation b p n) (has (join (label b n (rule_kind (other w))) l) p) (has-join (label b n (rule_kind (other w))) l p ∙ or_left (has (label b n (rule_kind (other w))) p) (has l p) e)

    by_left : has (label b n (rule_kind w)) p ≡ true → has (join (label b n E) (join (label b n (rule_kind (other w))) (label b n (rule_kind w)))) p ≡ true
    by_left e = has-join (label b n E) (join (label b n (rule_kind (other w))) (label b n (rule_kind w))) p ∙ or_right (is_equation b p n) (has (join (label b n (rule_kind (other w))) (label b n (rule_kind w))) p)
        (has-join (label b n (rule_kind (other w))) (label b n (rule_kind w)) p ∙ or_right (has (label b n (rule_kind (other w))) p) (has (label b n (rule_kind w)) p) e)

    of_rule : (has (label b n R0) p ≡ true) ⊎ (has (label b n R1) p ≡ true) → has (join (label b n E) (join (label b n (rule_kind (other w))) (label b n (rule_kind w)))) p ≡ true
    of_rule r = at w side r by_right by_left
      where
        at : (v : ℕ) → IsBit v → (has (label b n R0) p ≡ true) ⊎ (has (label b n R1) p ≡ true) → ((l : List Name) → has (label b n (rule_kind (other v))) p ≡ true → has (join (label b n E) (join (label b n (rule_kind (other v))) l)) p ≡ true)
            → (has (label b n (rule_kind v)) p ≡ true → has (join (label b n E) (join (label b n (rule_kind (other v))) (label b n (rule_kind v)))) p ≡ true) → has (join (label b n E) (join (label b n (rule_kind (other v))) (label b n (rule_kind v)))) p ≡ true
        at zero s (inl e) right left = left e
        at zero s (inr e) right left = right (label b n (rule_kind 0)) e
        at (suc v) s (inl e) right left = right (label b n (rule_kind (suc v))) e
        at (suc v) s (inr e) right left = left e

    go : (k : Found) → is_usable b p n w k ≡ true → has (join (label b n E) (join (label b n (rule_kind (other w))) (if_strict k (label b n (rule_kind w))))) p ≡ true
    go No u = clash u refl
    go Variant u = ⊎_elim (λ e. by_equation (join (label b n (rule_kind (other w))) []) e) (λ e. by_right [] e) (or_cases (is_equation b p n) (is_rule b p (record { node = n; dir = other w })) u)
    go Strict u = ⊎_elim (λ e. by_equation (join (label b n (rule_kind (other w))) (label b n (rule_kind w))) e) (λ e. of_rule (or_cases (is_rule b p (record { node = n; dir = 0 })) (is_rule b p (record { node = n; dir = 1 })) e))
        (or_cases (is_equation b p n) (is_rule b p (record { node = n; dir = 0 }) || is_rule b p (record { node = n; dir = 1 })) node)

redex_named : (b : Plain) (p : Name) (n w : ℕ) (a : RuleRef) (kind : Found) (pair : Pair) (at : List ℕ) (t : Tree) → is_node_of b p n ≡ true → IsUsableRedex (named_rules b (reducers b p n)) pair (is_usable b p n) w at a kind t → has (rewrite_label b n w a kind) p ≡ true
redex_named b p n w a kind pair at t node r =
    let k = named_rule b (reducers b p n) a r.rule r.listed in
    let f = filter_in (λ (c : RuleRef). not (c.node == n)) (rules_of b p) a k.0 in
    rewrite_named b p n w a kind (rules_in b p a f.0).1 node r.is_side r.may_be

overlap_named : (b : Plain) (p : Name) (a c : RuleRef) → is_work_due b (Overlap p a c) ≡ true → has (overlap_label b a c) p ≡ true
overlap_named b p a c due =
    let both = and_gives_left (is_rule b p a && is_rule b p c) (ref_le a c && not (has (done_of b a c) p)) due in
    let rest = and_gives_right (is_rule b p a && is_rule b p c) (ref_le a c && not (has (done_of b a c) p)) due in
    has-minus (meet (label b a.node (rule_kind a.dir)) (label b c.node (rule_kind c.dir))) (done_of b a c) p
    ∙ and_from (not (has (done_of b a c) p)) (has (meet (label b a.node (rule_kind a.dir)) (label b c.node (rule_kind c.dir))) p) (and_gives_right (ref_le a c) (not (has (done_of b a c) p)) rest)
    (has-meet (label b a.node (rule_kind a.dir)) (label b c.node (rule_kind c.dir)) p ∙ and_from (is_rule b p c) (is_rule b p a) (and_gives_right (is_rule b p a) (is_rule b p c) both) (and_gives_left (is_rule b p a) (is_rule b p c) both))

orient_named : (b : Plain) (p : Name) (n : ℕ) → is_equation b p n ≡ true → is_empty (orient_label b p n) ≡ false
orient_named b p n e = go (is_equation b p n) e
  where
    go : (x : Bool) → x ≡ true → is_empty (cond x (p ∷ []) []) ≡ false
    go true h = refl
    go false h = clash h refl

-- ---- what is proposed of a due job acts on the board of its take

module _ (b : Plain) (j : Job) (due : is_due b j ≡ true) where
  working : is_over b (process_of j) ≡ false
  working = not_true (and_gives_right (has b.living (process_of j)) (not (is_over b (process_of j))) (due_working b j due))

acts_at_take : (b : Plain) (j : Job) (x : Proposed) → is_due b j ≡ true → Proposes b j x → is_dropped b x ≡ false
acts_at_take b j (Facts fs) due h = refl
acts_at_take b (Reduce p n) (Rewrite m w at a kind t) due h =
    let node = and_gives_left (is_node_of b p n.0) (is_reducible b p n.0) (and_gives_right (is_working b p) (is_work_due b (Reduce p n)) due) in
    not_empty (rewrite_label b m.0 w a kind) p (subst {A = NodeId} (λ z. has (rewrite_label b z.0 w a kind) p ≡ true) (sym h.0) (redex_named b p n.0 w a kind h.1.0 at _ node h.1.2.first.is_redex))
acts_at_take b (Reduce p n) (Limit i cause) due h =
    let node = and_gives_left (is_node_of b p n.0) (is_reducible b p n.0) (and_gives_right (is_working b p) (is_work_due b (Reduce p n)) due) in
    let named = redex_named b p n.0 h.1.2.side h.1.2.rule h.1.2.kind h.1.0 h.1.2.at h.1.2.result node h.1.2.first.is_redex in
    subst {A = Job} (λ z. is_empty (not_over b (limit_label b z cause)) ≡ false) (sym h.0)
    (not_empty (not_over b (redex_label b n.0 cause.redex)) p (in_not_over b (redex_label b n.0 cause.redex) p (subst {A = Option (ℕ × RuleRef × Found)} (λ z. has (redex_label b n.0 z) p ≡ true) (sym h.1.2.redex_is) named) (working b (Reduce p n) due)))
acts_at_take b (Orient p n) (One q m d c) due h = subst {A = Name} (λ z. is_empty (orient_label b z m.0) ≡ false) (sym h.0) (subst {A = NodeId} (λ z. is_empty (orient_label b p z.0) ≡ false) (sym h.1) (orient_named b p n.0 (and_gives_left (is_equation b p n.0) (not (has (label b n.0 X) p)) (and_gives_right (is_working b p) (is_work_due b (Orient p n)) due))))
acts_at_take b (Orient p n) (Both q m c0 c1) due h = subst {A = Name} (λ z. is_empty (orient_label b z m.0) ≡ false) (sym h.0) (subst {A = NodeId} (λ z. is_empty (orient_label b p z.0) ≡ false) (sym h.1) (orient_named b p n.0 (and_gives_left (is_equation b p n.0) (not (has (label b n.0 X) p)) (and_gives_right (is_working b p) (is_work_due b (Orient p n)) due))))
acts_at_take b (Orient p n) (Refuse q m) due h = subst {A = Name} (λ z. is_empty (orient_label b z m.0) ≡ false) (sym h.0) (subst {A = NodeId} (λ z. is_empty (orient_label b p z.0) ≡ false) (sym h.1) (orient_named b p n.0 (and_gives_left (is_equation b p n.0) (not (has (label b n.0 X) p)) (and_gives_right (is_working b p) (is_work_due b (Orient p n)) due))))
acts_at_take b (Overlap p d e) (Deduce a c ds) due h = subst {A = RuleRef} (λ z. is_empty (overlap_label b z c) ≡ false) (sym h.0) (subst {A = RuleRef} (λ z. is_empty (overlap_label b d z) ≡ false) (sym h.1)
    (not_empty (overlap_label b d e) p (overlap_named b p d e (and_gives_right (is_working b p) (is_work_due b (Overlap p d e)) due))))
acts_at_take b (Overlap p a c) (Limit i cause) due h = subst {A = Job} (λ z. is_empty (not_over b (limit_label b z cause)) ≡ false) (sym h.0)
    (not_empty (not_over b (overlap_label b a c)) p (in_not_over b (overlap_label b a c) p (overlap_named b p a c (and_gives_right (is_working b p) (is_work_due b (Overlap p a c)) due)) (working b (Overlap p a c) due)))
acts_at_take b (Close p) (Unjoined q ds) due h = refl
acts_at_take b (Close p) (Closed q) due h = refl
acts_at_take b (Close p) (Limit i cause) due h = subst {A = Job} (λ z. is_empty (not_over b (limit_label b z cause)) ≡ false) (sym h.0) (not_empty (not_over b (p ∷ [])) p (in_not_over b (p ∷ []) p (self p) (working b (Close p) due)))
acts_at_take b (Orient p n) (Limit i cause) due h = absurd h
acts_at_take b (Orient p n) (Rewrite m w at a kind t) due h = absurd h
acts_at_take b (Overlap p d e) (Rewrite m w at a kind t) due h = absurd h
acts_at_take b (Close p) (Rewrite m w at a kind t) due h = absurd h
acts_at_take b (Reduce p n) (One q m d c) due h = absurd h
acts_at_take b (Overlap p a e) (One q m d c) due h = absurd h
acts_at_take b (Close p) (One q m d c) due h = absurd h
acts_at_take b (Reduce p n) (Both q m c0 c1) due h = absurd h
acts_at_take b (Overlap p a e) (Both q m c0 c1) due h = absurd h
acts_at_take b (Close p) (Both q m c0 c1) due h = absurd h
acts_at_take b (Reduce p n) (Refuse q m) due h = absurd h
acts_at_take b (Overlap p a e) (Refuse q m) due h = absurd h
acts_at_take b (Close p) (Refuse q m) due h = absurd h
acts_at_take b (Reduce p n) (Deduce a c ds) due h = absurd h
acts_at_take b (Orient p n) (Deduce a c ds) due h = absurd h
acts_at_take b (Close p) (Deduce a c ds) due h = absurd h
acts_at_take b (Reduce p n) (Unjoined q ds) due h = absurd h
acts_at_take b (Orient p n) (Unjoined q ds) due h = absurd h
acts_at_take b (Overlap p a e) (Unjoined q ds) due h = absurd h
acts_at_take b (Reduce p n) (Closed q) due h = absurd h
acts_at_take b (Orient p n) (Closed q) due h = absurd h
acts_at_take b (Overlap p a e) (Closed q) due h = absurd h

-- ---- where no commit comes, the labels stay

-- the boards have the same labels
record IsQuiet (b c : Plain) : Type 0 where
  nodes : c.nodes ≡ b.nodes
  done : c.done ≡ b.done
  over : c.over ≡ b.over

quiet_from : (b c d : Plain) → c ≡ d → IsQuiet b d → IsQuiet b c
quiet_from b c d e q = record { nodes = ap (λ (z : Plain). z.nodes) e ∙ q.nodes; done = ap (λ (z : Plain). z.done) e ∙ q.done; over = ap (λ (z : Plain). z.over) e ∙ q.over }

quiet_trans : (b c d : Plain) → IsQuiet b c → IsQuiet c d → IsQuiet b d
quiet_trans b c d q r = record { nodes = r.nodes ∙ q.nodes; done = r.done ∙ q.done; over = r.over ∙ q.over }

quiet_follow : (May : Plain → Job → Type 0) (past : List Moment) (b : Plain) (e : Entry) (c : Plain) → is_commit e ≡ false → Follows May past b e c → IsQuiet b c
quiet_follow May past b (Take w t j) c h f = quiet_from b c _ f.leads_to (record { nodes = refl; done = refl; over = refl })
quiet_follow May past b (Commit w t e) c h f = clash refl h
quiet_follow May past b (Drop w t p) c h f = quiet_from b c _ f.leads_to (record { nodes = refl; done = refl; over = refl })
quiet_follow May past b (Abandon w t) c h f = quiet_from b c _ f.leads_to (record { nodes = refl; done = refl; over = refl })
quiet_follow May past b Halt c h f = quiet_from b c b f.1 (record { nodes = refl; done = refl; over = refl })

quiet_since : (May : Plain → Job → Type 0) (P : Problem) (n : Settings) (later : List Moment) (before : Plain) (w t : ℕ) (j : Job) (earlier : List Moment) (c : Plain) → IsRunBy May P n (later ++ record { board = before; entry = Take w t j } ∷ earlier) c → list_any (λ (m : Moment). is_commit m.entry) later ≡ false → IsQuiet before c
quiet_since May P n [] before w t j earlier c run h = quiet_follow May earlier before (Take w t j) c refl run.1
quiet_since May P n (m ∷ later) before w t j earlier c run h =
    quiet_trans before m.board c (quiet_since May P n later before w t j earlier m.board run.0 (any_off (is_commit m.entry) (list_any (λ (m : Moment). is_commit m.entry) later) h).1)
    (quiet_follow May (later ++ record { board = before; entry = Take w t j } ∷ earlier) m.board m.entry c (any_off (is_commit m.entry) (list_any (λ (m : Moment). is_commit m.entry) later) h).0 run.1)
  where
    any_off : (x y : Bool) → (x || y) ≡ false → (x ≡ false) × (y ≡ false)
    any_off true y e = clash refl e
    any_off false y e = (refl, e)

-- what is dropped depends on the labels alone
dropped_by : (b c : Plain) (x : Proposed) → is_dropped c x ≡ is_dropped (record b { nodes = c.nodes; done = c.done; over = c.over }) x
dropped_by b c (Facts fs) = refl
dropped_by b c (Rewrite n w at a kind t) = refl
dropped_by b c (One p n d e) = refl
dropped_by b c (Both p n c0 c1) = refl
dropped_by b c (Refuse p n) = refl
dropped_by b c (Deduce a e ds) = refl
dropped_by b c (Unjoined p ds) = refl
dropped_by b c (Closed p) = refl
dropped_by b c (Limit (Reduce p n) cause) = go cause.redex
  where
    go : (r : Option (ℕ × RuleRef × Found)) → is_empty (not_over c (redex_label c n.0 r)) ≡ is_empty (not_over (record b { nodes = c.nodes; done = c.done; over = c.over }) (redex_label (record b { nodes = c.nodes; done = c.done; over = c.over }) n.0 r))
    go None = refl
    go (Some r) = refl
dropped_by b c (Limit (Orient p n) cause) = refl
dropped_by b c (Limit (Overlap p a e) cause) = refl
dropped_by b c (Limit (Close p) cause) = refl

dropped_quiet : (b c : Plain) (x : Proposed) → IsQuiet b c → is_dropped c x ≡ is_dropped b x
dropped_quiet b c x q = dropped_by b c x ∙ ap (λ ns. is_dropped (record b { nodes = ns; done = c.done; over = c.over }) x) q.nodes
    ∙ ap (λ ds. is_dropped (record b { nodes = b.nodes; done = ds; over = c.over }) x) q.done ∙ ap (λ gs. is_dropped (record b { nodes = b.nodes; done = b.done; over = gs }) x) q.over

-- between a ticket's take and its drop a commit came
pub drops_follow_commits : (P : Problem) (n : Settings) (past : List Moment) (b : Plain) (w t : ℕ) (p : Name) (c : Plain) → IsPossibleRun P n past b → (d : IsDropping past b w t p c) → CommitCameSince past d.finishing.before w t d.job
drops_follow_commits P n past b w t p c run d = go (list_any (λ (m : Moment). is_commit m.entry) s.0) refl
  where
    s : (later : List Moment) × (earlier : List Moment) × (past ≡ later ++ record { board = d.finishing.before; entry = Take w t d.job } ∷ earlier)
    s = split_at past (record { board = d.finishing.before; entry = Take w t d.job }) d.finishing.taken

    go : (x : Bool) → list_any (λ (m : Moment). is_commit m.entry) s.0 ≡ x → CommitCameSince past d.finishing.before w t d.job
    go true e = let r = any_in (λ (m : Moment). is_commit m.entry) s.0 e in record { later = s.0; earlier = s.1; parts = s.2; commit = r.0; after = r.1; is_one = r.2 }
    go false e =
        let q = quiet_since IsFreeJob P n s.0 d.finishing.before w t d.job s.1 b (subst {A = List Moment} (λ ms. IsPossibleRun P n ms b) s.2 run) e in
        let free = (taken_free P n past b run d.finishing.before w t d.job d.finishing.taken).0 in
        clash d.idle (dropped_quiet d.finishing.before b d.proposal q ∙ acts_at_take d.finishing.before d.job d.proposal (free_due d.finishing.before d.job free).3 d.finishing.proposed)

-- a closing is never dropped
pub closings_commit : (P : Problem) (n : Settings) (past : List Moment) (b : Plain) (w t : ℕ) (p : Name) (c : Plain) → IsPossibleRun P n past b → (d : IsDropping past b w t p c) → (q : Name) → d.job ≢ Close q
closings_commit P n past b w t p c run d q e = go d.proposal (subst {A = Job} (λ z. Proposes d.finishing.before z d.proposal) e d.finishing.proposed) d.idle
  where
    rest : is_over b q ≡ false
    rest = ((resting_run P n past b run).closing (record { number = t; worker = w; job = d.job }) q d.finishing.flying e).not_over

    go : (x : Proposed) → Proposes d.finishing.before (Close q) x → is_dropped b x ≡ true → ⊥
    go (Unjoined r ds) h idle = clash idle refl
    go (Closed r) h idle = clash idle refl
    go (Limit i cause) h idle = clash idle (subst {A = Job} (λ z. is_empty (not_over b (limit_label b z cause)) ≡ false) (sym h.0) (not_empty (not_over b (q ∷ [])) q (in_not_over b (q ∷ []) q (self q) rest)))
    go (Facts fs) h idle = absurd h
    go (Rewrite m v at a kind u) h idle = absurd h
    go (One r m k s) h idle = absurd h
    go (Both r m c0 c1) h idle = absurd h
    go (Refuse r m) h idle = absurd h
    go (Deduce a s ds) h idle = absurd h
