-- What facts, refusals, closings and limits make due no more.
use Rattle.std.proofs.Common.{ℕ, ◌≡◌, ◌≢◌, ◌⊎◌, inl, inr, refl, sym, ap, ap₂, ◌∙◌, subst, eqb→eq, List, [], ◌∷◌, ◌++◌, Contains, Bool, true, false, not, ◌&&◌, ◌==◌, Option, Some, None, arith}
use Rattle.std.specs.Prelude.{T, option_map}
use Rattle.std.specs.Option.{option_or}
use Rattle.std.specs.List.{find, list_any}
use Rattle.kb_lemmas.proofs.Booleans.{and_gives_left}
use Rattle.std.proofs.lemmas.Bool.{and_right}
use Rattle.std.proofs.lemmas.List.Folds.{find-append}
use Rattle.kb_term.specs.Signature.{Problem}
use Rattle.kb_term.specs.declared.origin.RuleRef.{RuleRef}
use Rattle.kb_label.specs.Names.{Name, has, name_eq, join}
use Rattle.kb_label.specs.declared.verdict.Reason.{Reason}
use Rattle.kb_label.proofs.Members.{name_eq-eq}
use Rattle.kb_node.specs.declared.node.NodeId.{NodeId}
use Rattle.kb_node.specs.declared.node.LabelKind.{LabelKind}
use Rattle.kb_node.specs.declared.node.LabelKind.TheVariants.{E, X}
use Rattle.kb_node.specs.declared.job.Fact.{Fact}
use Rattle.kb_node.specs.declared.job.Job.{Job}
use Rattle.kb_node.specs.declared.job.Job.TheVariants.{Reduce, Orient, Overlap, Close}
use Rattle.mkb_model.specs.Jobs.{process_of, ref_eq}
use Rattle.mkb_model.specs.Plain.{Plain, label, label_at, rule_kind, is_equation, rules_of, done_in, known, is_over}
use Rattle.mkb_model.specs.DueJobs.{is_open, is_working, is_work_due, is_close_due, is_due, work_of}
use Rattle.mkb_model.specs.Effects.{gains, effect_label}
use Rattle.mkb_model.specs.Journals.{Moment, IsPossibleRun, IsCommitting}
use Rattle.mkb_model.specs.declared.entry.Effect.TheVariants.{Over, Made}
use Rattle.mkb_model.specs.declared.proposed.Proposed.TheVariants.{Facts, Refuse, Closed}
use Rattle.mkb_model.specs.declared.settings.Settings.{Settings}
use Rattle.mkb_model.proofs.Lists.{clash, decide, false_unless, not_of_true, find_in}
use Rattle.mkb_model.proofs.commits.Bystanders.{role_tests}
use Rattle.mkb_model.proofs.commits.Roles.{numbers_decide, put_other, keeps-gains, has-one, refused-no_rule, kind_number}
use Rattle.mkb_model.proofs.runs.Findings.{is_about}
use Rattle.mkb_model.proofs.tickets.InFlight.{due_working}
use Rattle.mkb_moves.specs.Changes.{ReducesNodeOf, EndsOneJob, HasNoJob, IsDueAsBefore, KeepsWork, OpensNoWork}
use Rattle.mkb_moves.proofs.Sight.{same_rules}
use Rattle.mkb_moves.proofs.Makes.{making, stopping}
use Rattle.mkb_moves.proofs.Stopped.{closing_noted, limit_stops}
use Rattle.mkb_moves.proofs.Turning.{refusal_noted}
use Rattle.mkb_moves.proofs.DueWork.{IsSameAt, node_same, open_same, reduce_same, orient_same, overlap_same, reduce_carried}

-- ---- boards of which the labels and the overlaps are the same

module _ (b c : Plain) (nodes : c.nodes ≡ b.nodes) (done : c.done ≡ b.done) where
  labels_same : (p : Name) (m : ℕ) (j : LabelKind) → IsSameAt b c p p m j
  labels_same p m j = ap (λ xs. has (label_at xs m j) p) nodes

  rules_same : (p : Name) → rules_of c p ≡ rules_of b p
  rules_same p = same_rules b c p p (λ d m. labels_same p m (rule_kind d))

  -- work is due just where it was, if of the node that is to be reduced the same is known
  work_by : (j : Job) → ((p : Name) (n : NodeId) → j ≡ Reduce p n → (w : ℕ) (a : RuleRef) → known c n.0 w a ≡ known b n.0 w a) → IsDueAsBefore b c j
  work_by (Reduce p n) k = reduce_same b c p p n (labels_same p n.0 E) (λ d. labels_same p n.0 (rule_kind d)) (rules_same p) (k p n refl)
  work_by (Orient p n) k = orient_same b c p p n (labels_same p n.0 E) (labels_same p n.0 X)
  work_by (Overlap p a e) k = overlap_same b c p p a e (labels_same p a.node (rule_kind a.dir)) (labels_same p e.node (rule_kind e.dir)) (ap (λ ds. has (done_in ds a e) p) done)
  work_by (Close p) k = refl

  pub work_stays : c.facts ≡ b.facts → KeepsWork b c
  work_stays h j = work_by j (λ p n e w a. ap (λ fs. known (record b { facts = fs }) n.0 w a) h)

  module _ (fs : List Fact) (facts : c.facts ≡ b.facts ++ fs) where
    known_now : (n w : ℕ) (a : RuleRef) → known c n w a ≡ option_map (λ (f : Fact). f.found) (option_or (find (is_about n w a) b.facts) (find (is_about n w a) fs))
    known_now n w a = ap (λ gs. known (record b { facts = gs }) n w a) facts ∙ ap (option_map (λ (f : Fact). f.found)) (find-append (is_about n w a) b.facts fs)

    -- what was known still is, and of what was not any side is open
    opened_before : (p : Name) (n w : ℕ) (a : RuleRef) → is_open c p n w (known c n w a) ≡ true → is_open b p n w (known b n w a) ≡ true
    opened_before p n w a = go (find (is_about n w a) b.facts) refl
      where
        go : (o : Option Fact) → find (is_about n w a) b.facts ≡ o → is_open c p n w (known c n w a) ≡ true → is_open b p n w (option_map (λ (f : Fact). f.found) o) ≡ true
        go None e h = refl
        go (Some f) e h = sym (open_same b c p p n w (labels_same p n E) (λ d. labels_same p n (rule_kind d)) (Some f.found))
            ∙ ap (is_open c p n w) (sym (known_now n w a ∙ ap (λ o. option_map (λ (f : Fact). f.found) (option_or o (find (is_about n w a) fs))) e)) ∙ h

    pub opens_none : OpensNoWork b c
    opens_none (Reduce p n) h = reduce_carried c b p p n (λ o. sym (node_same b c p p n.0 (labels_same p n.0 E) (λ d. labels_same p n.0 (rule_kind d))) ∙ o) (λ a _ i. subst {A = List RuleRef} (λ rs. Contains rs a) (rules_same p) i) (opened_before p n.0) h
    opens_none (Orient p n) h = sym (orient_same b c p p n (labels_same p n.0 E) (labels_same p n.0 X)) ∙ h
    opens_none (Overlap p a e) h = sym (overlap_same b c p p a e (labels_same p a.node (rule_kind a.dir)) (labels_same p e.node (rule_kind e.dir)) (ap (λ ds. has (done_in ds a e) p) done)) ∙ h
    opens_none (Close p) h = h

    -- of a node that no fact names nothing more is known
    known_apart : (n : NodeId) → ¬ ((f : Fact) × Contains fs f × (f.node ≡ n)) → (w : ℕ) (a : RuleRef) → known c n.0 w a ≡ known b n.0 w a
    known_apart n h w a = known_now n.0 w a ∙ ap (option_map (λ (f : Fact). f.found)) (ap (option_or (find (is_about n.0 w a) b.facts)) (none (find (is_about n.0 w a) fs) refl) ∙ alone (find (is_about n.0 w a) b.facts))
      where
        none : (o : Option Fact) → find (is_about n.0 w a) fs ≡ o → o ≡ None
        none None e = refl
        none (Some f) e =
            let r = find_in (is_about n.0 w a) fs f e in
            absurd (h (f, r.0, ap (λ z. record { 0 = z }) (eqb→eq f.node.0 n.0 (subst {A = Bool} T (sym (and_gives_left (f.node.0 == n.0) ((f.side == w) && ref_eq f.rule a) r.1)) tt))))

        alone : (o : Option Fact) → option_or o None ≡ o
        alone None = refl
        alone (Some f) = refl

    pub apart_stays : (j : Job) → ¬ ReducesNodeOf fs j → IsDueAsBefore b c j
    apart_stays j h = work_by j (λ p n e w a. known_apart n (λ k. h (subst {A = Job} (ReducesNodeOf fs) (sym e) k)) w a)

-- ---- commits

pub facts_open_none : (past : List Moment) (b : Plain) (w t : ℕ) (fs : List Fact) (next : Plain) → IsCommitting past b w t (Made (Facts fs)) next → OpensNoWork b next
facts_open_none past b w t fs next f = let e = (making past b w t (Facts fs) next f).leads_to in opens_none b next (ap (λ (z : Plain). z.nodes) e) (ap (λ (z : Plain). z.done) e) fs (ap (λ (z : Plain). z.facts) e)

pub facts_leave_others : (past : List Moment) (b : Plain) (w t : ℕ) (fs : List Fact) (next : Plain) → IsCommitting past b w t (Made (Facts fs)) next → (j : Job) → ¬ ReducesNodeOf fs j → IsDueAsBefore b next j
facts_leave_others past b w t fs next f = let e = (making past b w t (Facts fs) next f).leads_to in apart_stays b next (ap (λ (z : Plain). z.nodes) e) (ap (λ (z : Plain). z.done) e) fs (ap (λ (z : Plain). z.facts) e)

-- a closing
pub closing_ends : (past : List Moment) (b : Plain) (w t : ℕ) (p : Name) (next : Plain) → IsCommitting past b w t (Made (Closed p)) next → (is_due next (Close p) ≡ false) × KeepsWork b next
closing_ends past b w t p next f =
    let e = (making past b w t (Closed p) next f).leads_to in (
      and_right (is_working next p) (is_close_due next p) (and_right (not (list_any (is_work_due next) (work_of next p))) (not (has next.closed p)) (not_of_true (closing_noted past b w t p next f).0)),
      work_stays b next (ap (λ (z : Plain). z.nodes) e) (ap (λ (z : Plain). z.done) e) (ap (λ (z : Plain). z.facts) e),
    )

-- a limit
pub limit_keeps : (past : List Moment) (b : Plain) (w t : ℕ) (r : Reason) (next : Plain) → IsCommitting past b w t (Over r) next → KeepsWork b next
limit_keeps past b w t r next f = let e = stopping past b w t r next f in work_stays b next (ap (λ (z : Plain). z.nodes) e) (ap (λ (z : Plain). z.done) e) (ap (λ (z : Plain). z.facts) e)

pub limit_ends : (P : Problem) (n : Settings) (past : List Moment) (b : Plain) → IsPossibleRun P n past b → (w t : ℕ) (r : Reason) (next : Plain) → (f : IsCommitting past b w t (Over r) next)
    → (p : Name) → has (effect_label b f.proposal) p ≡ true → HasNoJob next p
limit_ends P n past b run w t r next f p named j e = false_unless (is_due next j) (λ h. clash (due_working next j h) idle)
  where
    idle : is_working next (process_of j) ≡ false
    idle = subst {A = Name} (λ q. is_working next q ≡ false) (sym e) (and_right (has next.living p) (not (is_over next p)) (not_of_true (limit_stops P n past b run w t r next f p named).over))

-- a refusal
module _ (b c : Plain) (p : Name) (n : NodeId) (nodes : c.nodes ≡ gains n.0 X (p ∷ []) b.nodes) (done : c.done ≡ b.done) (facts : c.facts ≡ b.facts) where
  roles_same : (q : Name) (m : ℕ) (j : LabelKind) → (m ≢ n.0) ⊎ (j ≢ X) → IsSameAt b c q q m j
  roles_same q m j h = ap (λ xs. has (label_at xs m j) q) nodes ∙ ap (λ l. has l q) (put_other b.nodes n.0 m X j (join (label_at b.nodes n.0 X) (p ∷ [])) h)

  equation_same : (q : Name) (m : ℕ) → IsSameAt b c q q m E
  equation_same q m = roles_same q m E (inr (λ e. omega (arith, ap kind_number e)))

  rule_same : (q : Name) (m d : ℕ) → IsSameAt b c q q m (rule_kind d)
  rule_same q m d = roles_same q m (rule_kind d) (inr (refused-no_rule d))

  refused_same : (q : Name) (m : NodeId) → Orient q m ≢ Orient p n → (name_eq q p ≡ true) ⊎ (name_eq q p ≡ false) → (m.0 ≡ n.0) ⊎ (m.0 ≢ n.0) → IsSameAt b c q q m.0 X
  refused_same q m h k (inr d) = roles_same q m.0 X (inl d)
  refused_same q m h (inr k) (inl e) = ap (λ xs. has (label_at xs m.0 X) q) nodes ∙ role_tests b (record b { nodes = gains n.0 X (p ∷ []) b.nodes }) q (keeps-gains n.0 X (p ∷ []) b.nodes q (has-one p q ∙ k)) m.0 X
  refused_same q m h (inl k) (inl e) = absurd (h (ap₂ (λ (r : Name) (i : ℕ). Orient r (record { 0 = i })) (name_eq-eq q p k) e))

  others_stay : (j : Job) → j ≢ Orient p n → IsDueAsBefore b c j
  others_stay (Reduce q m) h = reduce_same b c q q m (equation_same q m.0) (rule_same q m.0) (same_rules b c q q (λ d i. rule_same q i d)) (λ w a. ap (λ fs. known (record b { facts = fs }) m.0 w a) facts)
  others_stay (Orient q m) h = orient_same b c q q m (equation_same q m.0) (refused_same q m h (decide (name_eq q p)) (numbers_decide m.0 n.0))
  others_stay (Overlap q a e) h = overlap_same b c q q a e (rule_same q a.node a.dir) (rule_same q e.node e.dir) (ap (λ ds. has (done_in ds a e) q) done)
  others_stay (Close q) h = refl

pub refusal_ends : (past : List Moment) (b : Plain) (w t : ℕ) (p : Name) (n : NodeId) (next : Plain) → IsCommitting past b w t (Made (Refuse p n)) next → EndsOneJob b next (Orient p n)
refusal_ends past b w t p n next f =
    let e = (making past b w t (Refuse p n) next f).leads_to in (
      and_right (is_equation next p n.0) (not (has (label next n.0 X) p)) (not_of_true (refusal_noted past b w t p n next f).0),
      others_stay b next p n (ap (λ (z : Plain). z.nodes) e) (ap (λ (z : Plain). z.done) e) (ap (λ (z : Plain). z.facts) e),
    )
