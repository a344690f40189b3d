-- Who sleeps and what flies change the agenda of a board by who rests alone.
use Rattle.std.proofs.Common.{ℕ, ◌+◌, ◌≡◌, ◌≢◌, ◌↔◌, inl, inr, ⊎_elim, refl, sym, ap, ◌∙◌, List, [], ◌∷◌, Bool, true, false, not, ◌&&◌, ◌||◌, sum_by}
use Rattle.std.specs.Prelude.{IsTrue}
use Rattle.kb_label.specs.Names.{Name, has, add, minus}
use Rattle.kb_label.proofs.Members.{name_eq-refl, has-add, has-minus}
use Rattle.kb_node.specs.declared.job.Job.{Job}
use Rattle.kb_node.specs.declared.job.Job.TheVariants.{Reduce, Orient, Overlap, Close}
use Rattle.mkb_model.specs.Jobs.{process_of}
use Rattle.mkb_model.specs.Plain.{Plain, cost, weight, weight_by, node_size, equations_of, constraints_of, rule_sizes, counted_rules}
use Rattle.mkb_model.specs.DueJobs.{is_working, is_work_due}
use Rattle.mkb_model.specs.declared.entry.Ticket.{Ticket}
use Rattle.mkb_model.specs.declared.settings.Selection.{Selection}
use Rattle.mkb_model.specs.declared.settings.Selection.TheVariants.{Stated, Size as BySize}
use Rattle.mkb_model.proofs.tickets.InFlight.{unlike}
use Rattle.mkb_pick.specs.Listings.{Listed, IsListed, HasJob, SetsRest}
use Rattle.mkb_pick.proofs.Replaced.{names_decide}
use Rattle.mkb_agenda.specs.Agendas.{IsDueJob, IsAgendaOf, ListsProcesses, ListsJobs}
use Rattle.mkb_agenda.proofs.Alike.{due_alike}

-- ---- what reads neither who sleeps nor what flies

module _ (b : Plain) (flight : List Ticket) (asleep : List Name) where
  abbrev other : Plain
  other = record b { flight = flight; asleep = asleep }

  -- what is due by what a process sees
  pub work_same : (j : Job) → is_work_due other j ≡ is_work_due b j
  work_same (Reduce p n) = refl
  work_same (Orient p n) = refl
  work_same (Overlap p a c) = refl
  work_same (Close p) = refl

  due_same : (j : Job) → IsDueJob other j ↔ IsDueJob b j
  due_same j = due_alike b other (process_of j) refl (λ i e k. work_same i) refl j refl

  -- what a process costs
  pub cost_alike : cost other ≡ cost b
  cost_alike = (λ i p. (sum_by (node_size b) (equations_of b p) + rule_sizes b (constraints_of b p)) + rule_sizes b (counted_same b.settings.selection p i))
    where
      counted_same : (by : Selection) (p : Name) → counted_rules by other p ≡ counted_rules by b p
      counted_same Stated p = refl
      counted_same BySize p = refl

  cost_same : (p : Name) → cost other p ≡ cost b p
  cost_same p = ap (λ (costs : Name → ℕ). costs p) cost_alike

  weight_same : (j : Job) → weight other j ≡ weight b j
  weight_same j = go b.settings.selection
    where
      go : (by : Selection) → weight_by by other j ≡ weight_by by b j
      go Stated = refl
      go BySize = refl

  jobs_stay : (ps qs : List Listed) → ListsJobs b ps → ((j : Job) (w : ℕ) → HasJob qs j w ↔ HasJob ps j w) → ListsJobs other qs
  jobs_stay ps qs lists same j w = (
    (λ h. let r = (lists j w).0 ((same j w).0 h) in ((due_same j).1 r.0, r.1 ∙ sym (weight_same j))),
    λ h. (same j w).1 ((lists j w).1 ((due_same j).0 h.0, h.1 ∙ weight_same j)),
  )

-- the agenda lists nothing of what flies
pub flight_unlisted : (b : Plain) (flight : List Ticket) (ps : List Listed) → IsAgendaOf b ps → IsAgendaOf (record b { flight = flight }) ps
flight_unlisted b flight ps agenda = record {
  processes = λ n c r. (
    (λ h. let k = (agenda.processes n c r).0 h in (k.0, k.1 ∙ sym (cost_same b flight b.asleep n), k.2)),
    λ k. (agenda.processes n c r).1 (k.0, k.1 ∙ cost_same b flight b.asleep n, k.2),
  );
  jobs = jobs_stay b flight b.asleep ps ps agenda.jobs (λ j w. ((λ h. h), λ h. h));
}

-- ---- one process rests, or does not any more

module _ (b : Plain) (p : Name) (rests : Bool) (l : List Name) (named : has l p ≡ rests) (others : (n : Name) → n ≢ p → has l n ≡ has b.asleep n) (ps qs : List Listed) (agenda : IsAgendaOf b ps) (sets : SetsRest ps p rests qs) where
  abbrev later : Plain
  later = record b { asleep = l }

  processes_rest : ListsProcesses later qs
  processes_rest n c r = ((λ h. ⊎_elim set left ((sets n c r).0 h)), λ k. (sets n c r).1 (⊎_elim (λ e. inl (back k e)) (λ h. inr (h, stays k h)) (names_decide n p)))
    where
      IsOn : Type 0
      IsOn = IsTrue (is_working b n) × (c ≡ cost later n) × (r ≡ has l n)

      set : (n ≡ p) × (r ≡ rests) × ((s : Bool) × IsListed ps n c s) → IsOn
      set (e, is, s) = let k = (agenda.processes n c s.0).0 s.1 in (k.0, k.1 ∙ sym (cost_same b b.flight l n), is ∙ sym (ap (has l) e ∙ named))

      left : (n ≢ p) × IsListed ps n c r → IsOn
      left (d, h) = let k = (agenda.processes n c r).0 h in (k.0, k.1 ∙ sym (cost_same b b.flight l n), k.2 ∙ sym (others n d))

      back : IsOn → n ≡ p → (n ≡ p) × (r ≡ rests) × ((s : Bool) × IsListed ps n c s)
      back k e = (e, k.2 ∙ ap (has l) e ∙ named, (has b.asleep n, (agenda.processes n c (has b.asleep n)).1 (k.0, k.1 ∙ cost_same b b.flight l n, refl)))

      stays : IsOn → n ≢ p → IsListed ps n c r
      stays k d = (agenda.processes n c r).1 (k.0, k.1 ∙ cost_same b b.flight l n, k.2 ∙ others n d)

  rests_so : ((j : Job) (w : ℕ) → HasJob qs j w ↔ HasJob ps j w) → IsAgendaOf later qs
  rests_so same = record { processes = processes_rest; jobs = jobs_stay b b.flight l ps qs agenda.jobs same }

-- a process falls asleep
pub sleeper_rests : (b : Plain) (p : Name) (ps qs : List Listed) → IsAgendaOf b ps → SetsRest ps p true qs → ((j : Job) (w : ℕ) → HasJob qs j w ↔ HasJob ps j w) → IsAgendaOf (record b { asleep = add p b.asleep }) qs
sleeper_rests b p ps qs agenda sets = rests_so b p true (add p b.asleep)
    (has-add p b.asleep p ∙ ap (λ z. z || has b.asleep p) (name_eq-refl p))
    (λ n d. has-add p b.asleep n ∙ ap (λ z. z || has b.asleep n) (unlike n p d))
    ps qs agenda sets

-- a process wakes
pub waker_works : (b : Plain) (p : Name) (ps qs : List Listed) → IsAgendaOf b ps → SetsRest ps p false qs → ((j : Job) (w : ℕ) → HasJob qs j w ↔ HasJob ps j w) → IsAgendaOf (record b { asleep = minus b.asleep (p ∷ []) }) qs
waker_works b p ps qs agenda sets = rests_so b p false (minus b.asleep (p ∷ []))
    (has-minus b.asleep (p ∷ []) p ∙ ap (λ z. not (z || false) && has b.asleep p) (name_eq-refl p))
    (λ n d. has-minus b.asleep (p ∷ []) n ∙ ap (λ z. not (z || false) && has b.asleep n) (unlike n p d))
    ps qs agenda sets
