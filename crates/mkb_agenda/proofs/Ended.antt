-- A reducing that facts may end.
use Rattle.std.proofs.Common.{ℕ, ◌≡◌, ◌≢◌, ◌↔◌, inl, inr, ⊎_elim, refl, sym, ap, ◌∙◌, subst, List, [], ◌∷◌, Bool, true, false, Contains}
use Rattle.std.specs.Prelude.{not}
use Rattle.std.specs.List.{list_any}
use Rattle.std.proofs.lemmas.Bool.{and_from}
use Rattle.kb_lemmas.proofs.Booleans.{and_gives_left, and_gives_right}
use Rattle.kb_lemmas.proofs.Membership.{contains_first, only_member}
use Rattle.kb_label.specs.Names.{Name, has}
use Rattle.kb_node.specs.declared.node.NodeId.{NodeId}
use Rattle.kb_node.specs.declared.job.Job.{Job}
use Rattle.kb_node.specs.declared.job.Job.TheVariants.{Reduce, Close}
use Rattle.mkb_model.specs.Jobs.{process_of}
use Rattle.mkb_model.specs.Plain.{Plain, cost, weight}
use Rattle.mkb_model.specs.DueJobs.{is_close_due, is_working, is_work_due, work_of}
use Rattle.mkb_model.proofs.Lists.{clash, false_unless, in_any}
use Rattle.mkb_pick.specs.Listings.{Listed, IsListed, IsProcess, HasJob, SetsCost}
use Rattle.mkb_pick.proofs.Replaced.{names_decide}
use Rattle.mkb_agenda.specs.Agendas.{IsListedAs, LeavesOthers}
use Rattle.mkb_agenda.specs.Looking.{ComesFrom, ListsClosing, MayEnd}
use Rattle.mkb_agenda.specs.Following.{Brings, IsBetween}
use Rattle.mkb_agenda.proofs.DueJobs.{due_is, in_work, is_listed_due}
use Rattle.mkb_agenda.proofs.Alike.{own_work, work_listed, due_alike, listed_same}
use Rattle.mkb_agenda.proofs.Anew.{SameProcesses, anew_removed, jobs_decide, same_both}
use Rattle.mkb_agenda.proofs.Again.{IsOwn, looked_again}
use Rattle.mkb_agenda.proofs.Brought.{known_or_not, no_name, only_name, stays_listed}
use Rattle.mkb_agenda.proofs.Opened.{idle_same}

-- a board may end nothing of itself
pub ends_itself : (c : Plain) (p : Name) (n : NodeId) → MayEnd c c p n
ends_itself c p n = record { working = refl; asleep = refl; closed = refl; cost = λ h. refl; work = λ j e a. refl; ended = λ h. h; weights = λ j h. refl }

-- beside a reducing no closing is listed
pub closing_unlisted : (b : Plain) (p : Name) (n : NodeId) (v : ℕ) (ps : List Listed) → IsListedAs b p p ps → HasJob ps (Reduce p n) v → ¬ HasJob ps (Close p) 0
closing_unlisted b p n v ps l had h =
    let due = and_gives_right (is_working b p) (is_work_due b (Reduce p n)) (due_is b (Reduce p n) ((l.jobs (Reduce p n) v refl).0 had).0).0 in
    let busy = in_any (is_work_due b) (work_of b p) (Reduce p n) (in_work b (Reduce p n) due tt) due in
    let closes = and_gives_right (is_working b p) (is_close_due b p) (due_is b (Close p) ((l.jobs (Close p) 0 refl).0 h).0).0 in
    clash (and_gives_left (not (list_any (is_work_due b) (work_of b p))) (not (has b.closed p)) closes) (ap not busy)

module _ (b c : Plain) (p : Name) (n : NodeId) (k : MayEnd b c p n) where
  may_come : ComesFrom b p c p (Reduce p n ∷ [])
  may_come = record {
    working = k.working;
    asleep = k.asleep;
    differs = record {
      jobs = λ j e l o. work_listed b c p p k.working j e l (λ d. k.work j e (λ i. o (subst {A = Job} (Contains (Reduce p n ∷ [])) (sym i) (contains_first (Reduce p n) []))) ∙ ap (is_work_due b) (sym (own_work p j e)));
      weights = k.weights;
    };
  }

  -- the reducing is due as before
  still_listed : is_work_due c (Reduce p n) ≡ is_work_due b (Reduce p n) → (ps : List Listed) → IsListedAs b p p ps → IsListedAs c p p ps
  still_listed h = listed_same b c p k.working k.cost k.asleep (due_alike b c p k.working (λ j e d. ⊎_elim (λ i. ap (is_work_due c) i ∙ h ∙ ap (is_work_due b) (sym i)) (k.work j e) (jobs_decide j (Reduce p n))) k.closed) k.weights

  -- the reducing is still due
  pub due_stays : is_work_due c (Reduce p n) ≡ true → (ps : List Listed) → IsListedAs b p p ps → IsListedAs c p p ps
  due_stays h = still_listed (h ∙ sym (k.ended h))

  module _ (v : ℕ) (weighs : v ≡ weight c (Reduce p n)) (ps : List Listed) (l : IsListedAs b p p ps) where
    -- the reducing was not listed
    pub unlisted_stays : ¬ HasJob ps (Reduce p n) v → IsListedAs c p p ps
    unlisted_stays absent = ⊎_elim (λ w. still_listed (none w) ps l) (λ e. idle_same b c p ps e (k.working ∙ e) l) (known_or_not (is_working b p))
      where
        before : is_working b p ≡ true → is_work_due b (Reduce p n) ≡ false
        before w = false_unless (is_work_due b (Reduce p n)) (λ d.
            let due = is_listed_due b (Reduce p n) (and_from (is_working b p) (is_work_due b (Reduce p n)) w d) tt in
            absent ((l.jobs (Reduce p n) v refl).1 (due, weighs ∙ k.weights (Reduce p n) due)))

        none : is_working b p ≡ true → is_work_due c (Reduce p n) ≡ is_work_due b (Reduce p n)
        none w = false_unless (is_work_due c (Reduce p n)) (λ d. clash (k.ended d) (before w)) ∙ sym (before w)

    -- the reducing was listed, and is taken off the list
    module _ (ms : List Listed) (same : SameProcesses ps ms) (there : IsProcess ps p) where
      costs_alike : (d : ℕ) (r : Bool) → IsListed ms p d r → d ≡ cost c p
      costs_alike d r h = let u = (l.listed d r).0 ((same p d r).0 h) in u.1 ∙ sym (k.cost u.0)

      stands : SetsCost ms p (cost c p) ms
      stands m d r = (
        (λ h. ⊎_elim (λ e. inl (e, costs_alike d r (subst {A = Name} (λ z. IsListed ms z d r) e h), (d, h))) (λ a. inr (a, h)) (names_decide m p)),
        (λ s. elim s [
          | inl x ↦ subst {A = ℕ} (λ z. IsListed ms m z r) (costs_alike x.2.0 r (subst {A = Name} (λ z. IsListed ms z x.2.0 r) x.0 x.2.1) ∙ sym x.1) x.2.1
          | inr x ↦ x.1
        ]),
      )

      pub ended_listed : (qs : List Listed) → is_work_due c (Reduce p n) ≡ false → ((j : Job) (w : ℕ) → HasJob ms j w ↔ (HasJob ps j w × ¬ ((j ≡ Reduce p n) × (w ≡ v)))) → SameProcesses ms qs
          → ((j : Job) (w : ℕ) → j ≢ Close p → HasJob qs j w ↔ HasJob ms j w) → ListsClosing c p ms qs → IsListedAs c p p qs
      ended_listed qs idle removed last others closing = looked_again c p (Reduce p n ∷ []) (λ j i. subst {A = Job} (IsOwn p) (only_member (Reduce p n) j i) (refl, tt)) ps ms ms qs
          same stands (λ j w. ((λ h. h), (λ h. h))) last others closing (anew_removed c (Reduce p n) v ps ms weighs idle removed) b p there l may_come

-- each other process is left as it was
pub ended_leaves : (p : Name) (n : NodeId) (v : ℕ) (ps ms qs : List Listed) → SameProcesses ps ms → ((j : Job) (w : ℕ) → HasJob ms j w ↔ (HasJob ps j w × ¬ ((j ≡ Reduce p n) × (w ≡ v))))
    → SameProcesses ms qs → ((j : Job) (w : ℕ) → j ≢ Close p → HasJob qs j w ↔ HasJob ms j w) → LeavesOthers p ps qs
ended_leaves p n v ps ms qs same removed last others x q r apart l = stays_listed x q r ps qs (same_both ps ms qs same last r) (λ j w e.
    let other : process_of j ≢ p = λ i. apart (sym e ∙ i) in
    let u = others j w (λ i. other (ap process_of i)) in
    ((λ h. ((removed j w).0 (u.0 h)).0), (λ h. u.1 ((removed j w).1 (h, λ i. other (ap process_of i.0)))))) l

-- a process of which a reducing may have ended is brought to the later board
pub ended_brings : (b c : Plain) (p : Name) (n : NodeId) → MayEnd b c p n → (ps qs : List Listed) → ((x : Plain) → MayEnd x c p n → IsListedAs x p p ps → IsListedAs c p p qs) → LeavesOthers p ps qs → IsBetween b c ps → Brings b c (p ∷ []) ps qs
ended_brings b c p n k ps qs exact apart h = record {
  named = λ q e. subst {A = Name} (λ r. IsListedAs c r r qs) (sym (only_name p q e)) (⊎_elim (exact b k) (exact c (ends_itself c p n)) (h p));
  others = λ x r q e. apart x r q (no_name p q e);
}
