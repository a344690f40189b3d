-- Processes that are not listed, and children that take the place of a process.
use Rattle.std.proofs.Common.{ℕ, ◌≡◌, ◌≢◌, ◌⊎◌, ⊎_elim, inl, inr, refl, sym, ap, subst, ◌∙◌, List, [], ◌∷◌, Bool, true, false, Result, Ok, Err, OnOk}
use Rattle.std.specs.Prelude.{◌||◌}
use mathlib.Core.Bool.{true≢false}
use Rattle.kb_lemmas.proofs.Booleans.{and_gives_left}
use Rattle.kb_label.specs.Names.{Name, has, name_eq, child}
use Rattle.kb_label.proofs.Members.{name_eq-refl}
use Rattle.kb_term.specs.declared.memory.Memory.{Memory}
use Rattle.kb_node.specs.declared.node.NodeId.{NodeId}
use Rattle.kb_node.specs.declared.job.Job.{Job}
use Rattle.kb_node.specs.declared.job.Job.TheVariants.{Reduce, Orient, Overlap, Close}
use Rattle.mkb_model.specs.Jobs.{process_of}
use Rattle.mkb_model.specs.Plain.{Plain, cost, weight, weight_by}
use Rattle.mkb_model.specs.declared.settings.Selection.{Selection}
use Rattle.mkb_model.specs.declared.settings.Selection.TheVariants.{Stated, Size as BySize}
use Rattle.mkb_model.specs.DueJobs.{is_working, is_work_due, is_close_due}
use Rattle.mkb_pick.specs.Listings.{Listed, IsListed, IsProcess, HasJob, SplitsProcess, SplitsJobs}
use Rattle.mkb_pick.specs.Tasks.{job_of, work_of}
use Rattle.mkb_pick.proofs.Viewed.{work_again, process_again}
use Rattle.mkb_agenda.specs.Agendas.{IsDueJob, IsListedAs, LeavesOthers}
use Rattle.mkb_agenda.specs.Looking.{BringsOne}
use Rattle.mkb_agenda.specs.Following.{IsBetween, BringsChildren, ComesByRule, ForksFrom}
use Rattle.mkb_agenda.proofs.DueJobs.{due_is}
use Rattle.mkb_agenda.proofs.Brought.{known_or_not, stays_listed, is_process, is_owner}

-- ---- processes that are not listed

-- a job is due for none but a process that lives and has not given up
pub due_works : (b : Plain) (j : Job) → IsDueJob b j → is_working b (process_of j) ≡ true
due_works b (Reduce p n) h = and_gives_left (is_working b p) (is_work_due b (Reduce p n)) (due_is b (Reduce p n) h).0
due_works b (Orient p n) h = and_gives_left (is_working b p) (is_work_due b (Orient p n)) (due_is b (Orient p n) h).0
due_works b (Overlap p a e) h = and_gives_left (is_working b p) (is_work_due b (Overlap p a e)) (due_is b (Overlap p a e) h).0
due_works b (Close p) h = and_gives_left (is_working b p) (is_close_due b p) (due_is b (Close p) h).0

pub off_where_idle : (b : Plain) (p q : Name) (ps : List Listed) → IsListedAs b p q ps → is_working b p ≡ false → ¬ IsProcess ps q
off_where_idle b p q ps l e (m, inside, is) = true≢false (sym ((l.listed m.cost m.resting).0 (m, inside, is, refl, refl)).0 ∙ e)

pub idle_where_off : (b : Plain) (p q : Name) (ps : List Listed) → IsListedAs b p q ps → ¬ IsProcess ps q → is_working b p ≡ false
idle_where_off b p q ps l off = ⊎_elim (λ e. absurd (off (is_process ps q (cost b p) (has b.asleep p) ((l.listed (cost b p) (has b.asleep p)).1 (e, refl, refl))))) (λ e. e) (known_or_not (is_working b p))

pub off_is_listed : (b : Plain) (p q : Name) (ps : List Listed) → is_working b p ≡ false → ¬ IsProcess ps q → IsListedAs b p q ps
off_is_listed b p q ps e off = record {
  listed = λ c r. (λ h. absurd (off (is_process ps q c r h)), λ h. absurd (true≢false (sym h.0 ∙ e)));
  jobs = λ j w is. (
    λ h. absurd (off (subst {A = Name} (IsProcess ps) is (is_owner ps j w h))),
    λ h. absurd (true≢false (sym (subst {A = Name} (λ r. is_working b r ≡ true) (process_again p (work_of j)) (due_works b (job_of p (work_of j)) h.0)) ∙ e)),
  );
}

-- ---- the children of a process

pub children_apart : (p : Name) → child p false ≢ child p true
children_apart [] e = cc
children_apart (x ∷ p) e = children_apart p (cc)

pub child_apart : (p : Name) (x : Bool) → child p x ≢ p
child_apart [] x e = cc
child_apart (y ∷ p) x e = child_apart p x (cc)

pub named_first : (p : Name) (l : List Name) (q : Name) → has (p ∷ l) q ≡ false → (q ≢ p) × (has l q ≡ false)
named_first p l q h = go (name_eq q p) refl h
  where
    go : (b : Bool) → name_eq q p ≡ b → (b || has l q) ≡ false → (q ≢ p) × (has l q ≡ false)
    go true e k = absurd (true≢false k)
    go false e k = (λ f. true≢false (sym (subst {A = Name} (λ r. name_eq q r ≡ true) f (name_eq-refl q)) ∙ e), k)

-- a job weighs the same for each process
pub weighs_same : (b : Plain) (p : Name) (j : Job) → weight b (job_of p (work_of j)) ≡ weight b j
weighs_same b p (Reduce q n) = go b.settings.selection
  where
    go : (s : Selection) → weight_by s b (Reduce p n) ≡ weight_by s b (Reduce q n)
    go Stated = refl
    go BySize = refl
weighs_same b p (Orient q n) = go b.settings.selection
  where
    go : (s : Selection) → weight_by s b (Orient p n) ≡ weight_by s b (Orient q n)
    go Stated = refl
    go BySize = refl
weighs_same b p (Overlap q a e) = go b.settings.selection
  where
    go : (s : Selection) → weight_by s b (Overlap p a e) ≡ weight_by s b (Overlap q a e)
    go Stated = refl
    go BySize = refl
weighs_same b p (Close q) = go b.settings.selection
  where
    go : (s : Selection) → weight_by s b (Close p) ≡ weight_by s b (Close q)
    go Stated = refl
    go BySize = refl

module _ (p : Name) (ps qs : List Listed) (processes : SplitsProcess ps p qs) (jobs : SplitsJobs ps p qs) where
  -- each child is listed as the process was
  pub child_listed : (b : Plain) (q : Name) → (q ≡ child p false) ⊎ (q ≡ child p true) → ¬ IsProcess ps q → IsListedAs b p p ps → IsListedAs b p q qs
  child_listed b q is off l = record {
    listed = λ c r. (λ h. (l.listed c r).0 (had c r ((processes q c r).0 h)), λ h. (processes q c r).1 (inl (is, (l.listed c r).1 h)));
    jobs = λ j w e. (
      λ h. there j w ((l.jobs (job_of p (work_of j)) w (process_again p (work_of j))).0 (had_job j w e ((jobs j w).0 h))),
      λ h. (jobs j w).1 (inl (subst {A = Name} (λ r. (r ≡ child p false) ⊎ (r ≡ child p true)) (sym e) is, (l.jobs (job_of p (work_of j)) w (process_again p (work_of j))).1 (back j w h))),
    );
  }
    where
      had : (c : ℕ) (r : Bool) → (((q ≡ child p false) ⊎ (q ≡ child p true)) × IsListed ps p c r) ⊎ ((¬ (q ≡ p)) × IsListed ps q c r) → IsListed ps p c r
      had c r h = ⊎_elim (λ k. k.1) (λ k. absurd (off (is_process ps q c r k.1))) h

      had_job : (j : Job) (w : ℕ) → process_of j ≡ q → (((process_of j ≡ child p false) ⊎ (process_of j ≡ child p true)) × HasJob ps (job_of p (work_of j)) w) ⊎ ((¬ (process_of j ≡ p)) × HasJob ps j w) → HasJob ps (job_of p (work_of j)) w
      had_job j w e h = ⊎_elim (λ k. k.1) (λ k. absurd (off (subst {A = Name} (IsProcess ps) e (is_owner ps j w k.1)))) h

      again : (j : Job) → job_of p (work_of (job_of p (work_of j))) ≡ job_of p (work_of j)
      again j = ap (job_of p) (work_again p (work_of j))

      there : (j : Job) (w : ℕ) → IsDueJob b (job_of p (work_of (job_of p (work_of j)))) × (w ≡ weight b (job_of p (work_of j))) → IsDueJob b (job_of p (work_of j)) × (w ≡ weight b j)
      there j w h = (subst {A = Job} (IsDueJob b) (again j) h.0, h.1 ∙ weighs_same b p j)

      back : (j : Job) (w : ℕ) → IsDueJob b (job_of p (work_of j)) × (w ≡ weight b j) → IsDueJob b (job_of p (work_of (job_of p (work_of j)))) × (w ≡ weight b (job_of p (work_of j)))
      back j w h = (subst {A = Job} (IsDueJob b) (sym (again j)) h.0, h.1 ∙ sym (weighs_same b p j))

  pub parent_off : ¬ IsProcess qs p
  parent_off (m, inside, is) = ⊎_elim (λ k. ⊎_elim (λ e. child_apart p false (sym e)) (λ e. child_apart p true (sym e)) k.0) (λ k. k.0 refl) ((processes p m.cost m.resting).0 (m, inside, is, refl, refl))

  pub others_listed : (x : Plain) (r q : Name) → q ≢ p → q ≢ child p false → q ≢ child p true → IsListedAs x r q ps → IsListedAs x r q qs
  others_listed x r q apart first second l = stays_listed x r q ps qs
      (λ c s. (λ h. ⊎_elim (λ k. absurd (⊎_elim first second k.0)) (λ k. k.1) ((processes q c s).0 h), λ h. (processes q c s).1 (inr (apart, h))))
      (λ j w e. (
        λ h. ⊎_elim (λ k. absurd (⊎_elim (λ f. first (sym e ∙ f)) (λ f. second (sym e ∙ f)) k.0)) (λ k. k.1) ((jobs j w).0 h),
        λ h. (jobs j w).1 (inr (λ f. apart (sym e ∙ f), h)),
      ))
      l

-- what is listed where no process takes the place of p
pub no_fork : (b c : Plain) (p : Name) (ps : List Listed) → is_working b p ≡ false → ¬ IsProcess ps p
    → is_working c p ≡ false → ((x : Bool) → is_working b (child p x) ≡ false) → ((x : Bool) → is_working c (child p x) ≡ is_working b p) → ((q : Name) → IsListedAs b q q ps) → BringsChildren b c p ps ps
no_fork b c p ps idle off gone new same h = record {
  parent = off_is_listed c p p ps gone off;
  first = off_is_listed c (child p false) (child p false) ps (same false ∙ idle) (off_where_idle b (child p false) (child p false) ps (h (child p false)) (new false));
  second = off_is_listed c (child p true) (child p true) ps (same true ∙ idle) (off_where_idle b (child p true) (child p true) ps (h (child p true)) (new true));
  others = λ x r q e l. l;
}

-- the process is split, and each child is looked at again
pub forks : (b c : Plain) (p : Name) (C D : Plain → Name → Type 0) (ps qs rs ss : List Listed) → SplitsProcess ps p qs → SplitsJobs ps p qs
    → is_working c p ≡ false → ((x : Bool) → ¬ IsProcess ps (child p x)) → IsListedAs b p p ps
    → C b p → D b p
    → BringsOne c (child p false) C qs rs → LeavesOthers (child p false) qs rs → BringsOne c (child p true) D rs ss → LeavesOthers (child p true) rs ss → BringsChildren b c p ps ss
forks b c p C D ps qs rs ss processes jobs gone free l first second exact apart exact_too apart_too = record {
  parent = apart_too c p p (λ e. child_apart p true (sym e)) (apart c p p (λ e. child_apart p false (sym e)) (off_is_listed c p p qs gone (parent_off p ps qs processes jobs)));
  first = apart_too c (child p false) (child p false) (children_apart p) (exact b p (child_listed p ps qs processes jobs b (child p false) (inl refl) (free false) l) first);
  second = exact_too b p (apart b p (child p true) (λ e. children_apart p (sym e)) (child_listed p ps qs processes jobs b (child p true) (inr refl) (free true) l)) second;
  others = λ x r q e m.
      let one = named_first p (child p false ∷ child p true ∷ []) q e in
      let two = named_first (child p false) (child p true ∷ []) q one.1 in
      let three = named_first (child p true) [] q two.1 in
      apart_too x r q three.0 (apart x r q two.0 (others_listed p ps qs processes jobs x r q one.0 two.0 three.0 m));
}

either : {A : Type 0} → A ⊎ A → A
either h = ⊎_elim (λ a. a) (λ a. a) h

module _ (c : Plain) (p l r : Name) (n : NodeId) (ps qs rs ss : List Listed) (left : l ≡ child p false) (right : r ≡ child p true)
    (free_left : ¬ IsProcess ps l) (free_right : ¬ IsProcess ps r) (processes : SplitsProcess ps p qs) (jobs : SplitsJobs ps p qs)
    (exact : BringsOne c l (λ b z. ComesByRule b z c l (record { node = n.0; dir = 0 })) qs rs) (apart : LeavesOthers l qs rs) where
  free : (x : Bool) → ¬ IsProcess ps (child p x)
  free false h = free_left (subst {A = Name} (IsProcess ps) (sym left) h)
  free true h = free_right (subst {A = Name} (IsProcess ps) (sym right) h)

  all_forked : BringsOne c r (λ b z. ComesByRule b z c r (record { node = n.0; dir = 1 })) rs ss → LeavesOthers r rs ss → (b : Plain) → ForksFrom b c p n → IsBetween b b ps → BringsChildren b c p ps ss
  all_forked exact_too apart_too b k h = forks b c p (λ x z. ComesByRule x z c (child p false) (record { node = n.0; dir = 0 })) (λ x z. ComesByRule x z c (child p true) (record { node = n.0; dir = 1 })) ps qs rs ss processes jobs
      k.gone free (either (h p)) k.first k.second
      (subst {A = Name} (λ q. BringsOne c q (λ x z. ComesByRule x z c q (record { node = n.0; dir = 0 })) qs rs) left exact)
      (subst {A = Name} (λ q. LeavesOthers q qs rs) left apart)
      (subst {A = Name} (λ q. BringsOne c q (λ x z. ComesByRule x z c q (record { node = n.0; dir = 1 })) rs ss) right exact_too)
      (subst {A = Name} (λ q. LeavesOthers q rs ss) right apart_too)

  pub forks_if_ok : (t : Result (Unit {0}) Memory) → OnOk t (BringsOne c r (λ b z. ComesByRule b z c r (record { node = n.0; dir = 1 })) rs ss) → OnOk t (LeavesOthers r rs ss) → OnOk t ((b : Plain) → ForksFrom b c p n → IsBetween b b ps → BringsChildren b c p ps ss)
  forks_if_ok (Ok t) exact_too apart_too = all_forked exact_too apart_too
  forks_if_ok (Err e) exact_too apart_too = tt

-- where p was not listed, no process takes its place
pub no_forks : (c : Plain) (p : Name) (n : NodeId) (ps : List Listed) → ¬ IsProcess ps p → (b : Plain) → ForksFrom b c p n → IsBetween b b ps → BringsChildren b c p ps ps
no_forks c p n ps off b k h = no_fork b c p ps (idle_where_off b p p ps (either (h p)) off) off k.gone new same (λ q. either (h q))
  where
    new : (x : Bool) → is_working b (child p x) ≡ false
    new false = k.new
    new true = k.also_new

    same : (x : Bool) → is_working c (child p x) ≡ is_working b p
    same false = k.first.comes.working
    same true = k.second.comes.working

-- before a fork neither child is listed
pub none_before : (b c : Plain) (p : Name) (n : NodeId) (ps : List Listed) → ForksFrom b c p n → IsBetween b b ps → (x : Bool) → ¬ IsProcess ps (child p x)
none_before b c p n ps k h false = off_where_idle b (child p false) (child p false) ps (either (h (child p false))) k.new
none_before b c p n ps k h true = off_where_idle b (child p true) (child p true) ps (either (h (child p true))) k.also_new
