-- Processes that are listed as on one of two boards, and are brought to the second one after another.
use Rattle.std.proofs.Common.{arith, ℕ, zero, suc, ◌≡◌, ◌≢◌, ◌<◌, ◌+◌, ◌⊎◌, ◌↔◌, ⊎_elim, inl, inr, refl, sym, ap, subst, ◌∙◌, List, [], ◌∷◌, ◌++◌, length, take, get_or, Bool, true, false, Contains, Some, Result, Ok, Err, OnOk, slice_get}
use Rattle.std.specs.Prelude.{◌||◌, not}
use mathlib.Core.Bool.{true≢false}
use Rattle.std.proofs.lemmas.List.Elements.{Contains-append_cases}
use Rattle.kb_lemmas.proofs.Lists.{take_next}
use Rattle.kb_lemmas.proofs.Booleans.{and_gives_left, and_gives_right}
use Rattle.kb_lemmas.proofs.Membership.{only_member}
use Rattle.kb_lemmas.proofs.Options.{some_is}
use Rattle.kb_term.specs.declared.memory.Memory.{Memory}
use Rattle.kb_label.specs.Names.{Name, has, name_eq}
use Rattle.kb_label.proofs.Members.{name_eq-refl, name_eq-eq}
use Rattle.kb_term.specs.declared.origin.RuleRef.{RuleRef}
use Rattle.kb_node.specs.declared.node.NodeId.{NodeId}
use Rattle.kb_node.specs.declared.node.LabelKind.{LabelKind}
use Rattle.kb_node.specs.declared.node.LabelKind.TheVariants.{E, R0, R1, X}
use Rattle.kb_node.specs.declared.job.Fact.{Fact}
use Rattle.kb_node.specs.declared.job.Job.{Job}
use Rattle.kb_node.specs.declared.job.Job.TheVariants.{Orient, Overlap}
use Rattle.mkb_model.specs.Jobs.{process_of}
use Rattle.mkb_model.specs.Plain.{Plain, label, is_equation}
use Rattle.mkb_model.specs.DueJobs.{is_working, is_due, is_work_due}
use Rattle.mkb_pick.specs.Listings.{Listed, IsListed, IsProcess, HasJob}
use Rattle.mkb_pick.specs.Tasks.{job_of, work_of}
use Rattle.mkb_pick.proofs.Viewed.{job_again}
use Rattle.mkb_agenda.specs.Agendas.{IsDueJob, IsListedAs, LeavesOthers}
use Rattle.mkb_agenda.specs.Looking.{BringsOne, ComesFrom, ComesTouched, Reach, ReducesBy, jobs_on}
use Rattle.mkb_agenda.specs.declared.looking.Touched.{Touched}
use Rattle.mkb_agenda.specs.Following.{AllMayEnd, Brings, BringsHolders, IsBetween, jobs_by_overlap}
use Rattle.mkb_agenda.proofs.DueJobs.{IsProper, due_is}

-- ---- names

pub known_or_not : (b : Bool) → (b ≡ true) ⊎ (b ≡ false)
known_or_not true = inl refl
known_or_not false = inr refl

pub has_behind : (l : List Name) (p q : Name) → has (l ++ p ∷ []) q ≡ true → (has l q ≡ true) ⊎ (q ≡ p)
has_behind [] p q h = inr (name_eq-eq q p (or_none (name_eq q p) h))
  where
    or_none : (b : Bool) → (b || false) ≡ true → b ≡ true
    or_none true e = refl
    or_none false e = e
has_behind (r ∷ l) p q h = go (has_behind l p q) (name_eq q r) refl h
  where
    go : (has (l ++ p ∷ []) q ≡ true → (has l q ≡ true) ⊎ (q ≡ p)) → (b : Bool) → name_eq q r ≡ b → (b || has (l ++ p ∷ []) q) ≡ true → ((name_eq q r || has l q) ≡ true) ⊎ (q ≡ p)
    go ih true e k = inl (ap (λ d. d || has l q) e)
    go ih false e k = ⊎_elim (λ m. inl (ap (λ d. d || has l q) e ∙ m)) inr (ih k)

pub not_behind : (l : List Name) (p q : Name) → has (l ++ p ∷ []) q ≡ false → (has l q ≡ false) × (has (p ∷ []) q ≡ false)
not_behind [] p q h = (refl, h)
not_behind (r ∷ l) p q h = go (not_behind l p q) (name_eq q r) refl h
  where
    go : (has (l ++ p ∷ []) q ≡ false → (has l q ≡ false) × (has (p ∷ []) q ≡ false)) → (b : Bool) → name_eq q r ≡ b → (b || has (l ++ p ∷ []) q) ≡ false → ((name_eq q r || has l q) ≡ false) × (has (p ∷ []) q ≡ false)
    go ih true e k = absurd (true≢false k)
    go ih false e k = (ap (λ d. d || has l q) e ∙ (ih k).0, (ih k).1)

pub only_name : (p q : Name) → has (p ∷ []) q ≡ true → q ≡ p
only_name p q h = ⊎_elim (λ e. absurd (true≢false (sym e))) (λ e. e) (has_behind [] p q h)

pub has_itself : (p : Name) → has (p ∷ []) p ≡ true
has_itself p = ap (λ d. d || false) (name_eq-refl p)

pub no_name : (p q : Name) → has (p ∷ []) q ≡ false → q ≢ p
no_name p q h e = true≢false (sym (subst {A = Name} (λ r. has (r ∷ []) q ≡ true) e (has_itself q)) ∙ h)

pub has_at : (l : List Name) (i : ℕ) (p : Name) → i < length l → p ≡ get_or l i p → has l p ≡ true
has_at [] i p h e = absurd (omega (arith, h))
has_at (q ∷ l) zero p h e = subst {A = Name} (λ r. (name_eq p r || has l p) ≡ true) e (ap (λ d. d || has l p) (name_eq-refl p))
has_at (q ∷ l) (suc i) p h e = or_second (name_eq p q) (has l p) (has_at l i p (omega (arith, h)) e)
  where
    or_second : (a d : Bool) → d ≡ true → (a || d) ≡ true
    or_second true d f = refl
    or_second false d f = f

-- what stands at a place is one
pub same_at : (l : List Name) (i : ℕ) (p q : Name) → i < length l → p ≡ get_or l i p → q ≡ get_or l i q → p ≡ q
same_at [] i p q h e f = absurd (omega (arith, h))
same_at (r ∷ l) zero p q h e f = e ∙ sym f
same_at (r ∷ l) (suc i) p q h e f = same_at l i p q (omega (arith, h)) e f

-- ---- processes that are listed as before

pub stays_listed : (x : Plain) (p q : Name) (ps qs : List Listed) → ((c : ℕ) (r : Bool) → IsListed qs q c r ↔ IsListed ps q c r) → ((j : Job) (w : ℕ) → process_of j ≡ q → HasJob qs j w ↔ HasJob ps j w) → IsListedAs x p q ps → IsListedAs x p q qs
stays_listed x p q ps qs same jobs l = record {
  listed = λ c r. (λ h. (l.listed c r).0 ((same c r).0 h), λ h. (same c r).1 ((l.listed c r).1 h));
  jobs = λ j w e. (λ h. (l.jobs j w e).0 ((jobs j w e).0 h), λ h. (jobs j w e).1 ((l.jobs j w e).1 h));
}

pub is_process : (ps : List Listed) (p : Name) (c : ℕ) (r : Bool) → IsListed ps p c r → IsProcess ps p
is_process ps p c r (l, m, e, costs, rests) = (l, m, e)

pub is_owner : (ps : List Listed) (j : Job) (w : ℕ) → HasJob ps j w → IsProcess ps (process_of j)
is_owner ps j w (l, m, e, rest) = (l, m, e)

-- ---- from one board to the next

-- on one and the same board a process has the jobs that it has
pub comes_from_itself : (c : Plain) (p : Name) (js : List Job) → ComesFrom c p c p js
comes_from_itself c p js = record {
  working = refl;
  asleep = refl;
  differs = record { jobs = λ j e f g. same j e; weights = λ j h. refl };
}
  where
    again : (j : Job) → process_of j ≡ p → job_of p (work_of j) ≡ j
    again j e = subst {A = Name} (λ q. job_of q (work_of j) ≡ j) e (job_again j)

    same : (j : Job) → process_of j ≡ p → IsDueJob c j ↔ IsDueJob c (job_of p (work_of j))
    same j e = (subst {A = Job} (IsDueJob c) (sym (again j e)), subst {A = Job} (IsDueJob c) (again j e))

pub reduces_by_itself : (c : Plain) (p : Name) (r : Reach) → ReducesBy c p c p r
reduces_by_itself c p r = record { gained = λ n out d. inl d; kept = λ e n out d. d }

module _ (b c : Plain) where
  pub brings_none : (ps : List Listed) → Brings b c [] ps ps
  brings_none ps = record { named = λ p h. absurd (true≢false (sym h)); others = λ x p q h l. l }

  pub still_between : (l : List Name) (ps qs : List Listed) → Brings b c l ps qs → IsBetween b c ps → IsBetween b c qs
  still_between l ps qs k h p = ⊎_elim (λ e. inr (k.named p e)) (λ e. ⊎_elim (λ m. inl (k.others b p p e m)) (λ m. inr (k.others c p p e m)) (h p)) (known_or_not (has l p))

  pub brings_more : (l : List Name) (p : Name) (ps qs rs : List Listed) → Brings b c l ps qs → Brings b c (p ∷ []) qs rs → Brings b c (l ++ p ∷ []) ps rs
  brings_more l p ps qs rs k m = record {
    named = λ q e. ⊎_elim (m.named q) (λ f. ⊎_elim (λ g. m.others c q q f (k.named q g)) (λ g. absurd (true≢false (sym (still q e g) ∙ f))) (known_or_not (has l q))) (known_or_not (has (p ∷ []) q));
    others = λ x r q e h. m.others x r q (not_behind l p q e).1 (k.others x r q (not_behind l p q e).0 h);
  }
    where
      still : (q : Name) → has (l ++ p ∷ []) q ≡ true → has l q ≡ false → has (p ∷ []) q ≡ true
      still q e g = ⊎_elim (λ f. absurd (true≢false (sym f ∙ g))) (λ f. subst {A = Name} (λ r. has (r ∷ []) q ≡ true) f (has_itself q)) (has_behind l p q e)

  -- one step of a loop over the names
  pub brings_next : (l : List Name) (i : ℕ) (p : Name) (ps qs rs : List Listed) → i < length l → p ≡ get_or l i p → Brings b c (take i l) ps qs → Brings b c (p ∷ []) qs rs → Brings b c (take (i + 1) l) ps rs
  brings_next l i p ps qs rs h e k m = subst {A = List Name} (λ z. Brings b c z ps rs) (sym (take_next l i p h e)) (brings_more (take i l) p ps qs rs k m)

  -- what was brought stays so
  pub still_brought : (l : List Name) (ps qs : List Listed) → Brings b c l ps qs → (p : Name) → IsListedAs c p p ps → IsListedAs c p p qs
  still_brought l ps qs k p h = ⊎_elim (k.named p) (λ e. k.others c p p e h) (known_or_not (has l p))

-- ---- a call that looks again

module _ (K : Plain → Type 0) (c : Plain) (p : Name) (C : Plain → Name → Type 0) (ps qs : List Listed) (itself : C c p) (comes : (b : Plain) → K b → IsListedAs b p p ps → C b p) where
  pub brings_one : BringsOne c p C ps qs → LeavesOthers p ps qs → (b : Plain) → K b → IsBetween b c ps → Brings b c (p ∷ []) ps qs
  brings_one exact apart b k h = record {
    named = λ q e. subst {A = Name} (λ r. IsListedAs c r r qs) (sym (only_name p q e)) brought;
    others = λ x r q e. apart x r q (no_name p q e);
  }
    where
      brought : IsListedAs c p p qs
      brought = ⊎_elim (λ m. exact b p m (comes b k m)) (λ m. exact c p m itself) (h p)

  pub brings_if_ok : (r : Result (Unit {0}) Memory) → OnOk r (BringsOne c p C ps qs) → OnOk r (LeavesOthers p ps qs) → OnOk r ((b : Plain) → K b → IsBetween b c ps → Brings b c (p ∷ []) ps qs)
  brings_if_ok (Ok t) exact apart = brings_one exact apart
  brings_if_ok (Err e) exact apart = tt

-- a process that comes from there so comes with what is touched
pub touched_brings : (c : Plain) (t : Touched) (q : Name) (C : Plain → Name → Type 0) (ps qs : List Listed) → t.process.now ≡ q → ((b : Plain) (p : Name) → C b p → ComesTouched b p c t) → BringsOne c t.process.now (λ b p. ComesTouched b p c t) ps qs → BringsOne c q C ps qs
touched_brings c t q C ps qs e comes exact b p l k = subst {A = Name} (λ z. IsListedAs c z z qs) e (exact b p (subst {A = Name} (λ z. IsListedAs b p z ps) (sym e) l) (comes b p k))

-- ---- processes that are taken off the list

-- these are off the list, with their jobs, and all else is listed as before
pub record TakesOff (l : List Name) (ps qs : List Listed) : Type 0 where
  pub processes : (n : Name) (c : ℕ) (r : Bool) → IsListed qs n c r ↔ (IsListed ps n c r × (has l n ≡ false))
  pub jobs : (j : Job) (w : ℕ) → HasJob qs j w ↔ (HasJob ps j w × (has l (process_of j) ≡ false))

pub takes_none : (ps : List Listed) → TakesOff [] ps ps
takes_none ps = record { processes = λ n c r. (λ h. (h, refl), λ h. h.0); jobs = λ j w. (λ h. (h, refl), λ h. h.0) }

other_name : (p q : Name) → ¬ (q ≡ p) → has (p ∷ []) q ≡ false
other_name p q apart = ⊎_elim (λ h. absurd (apart (only_name p q h))) (λ h. h) (known_or_not (has (p ∷ []) q))

-- a process that was not listed
pub takes_absent : (p : Name) (ps : List Listed) → ¬ IsProcess ps p → TakesOff (p ∷ []) ps ps
takes_absent p ps off = record {
  processes = λ n c r. (λ h. (h, other_name p n (λ e. off (subst {A = Name} (IsProcess ps) e (is_process ps n c r h)))), λ h. h.0);
  jobs = λ j w. (λ h. (h, other_name p (process_of j) (λ e. off (subst {A = Name} (IsProcess ps) e (is_owner ps j w h)))), λ h. h.0);
}

-- a process that is taken off
pub takes_one : (p : Name) (ps qs : List Listed) → ((n : Name) (c : ℕ) (r : Bool) → IsListed qs n c r ↔ (IsListed ps n c r × ¬ (n ≡ p))) → ((j : Job) (w : ℕ) → HasJob qs j w ↔ (HasJob ps j w × ¬ (process_of j ≡ p))) → TakesOff (p ∷ []) ps qs
takes_one p ps qs processes jobs = record {
  processes = λ n c r. (λ h. (((processes n c r).0 h).0, other_name p n ((processes n c r).0 h).1), λ h. (processes n c r).1 (h.0, no_name p n h.1));
  jobs = λ j w. (λ h. (((jobs j w).0 h).0, other_name p (process_of j) ((jobs j w).0 h).1), λ h. (jobs j w).1 (h.0, no_name p (process_of j) h.1));
}

pub not_in_both : (l : List Name) (p q : Name) → has l q ≡ false → has (p ∷ []) q ≡ false → has (l ++ p ∷ []) q ≡ false
not_in_both l p q h k = ⊎_elim (λ e. absurd (⊎_elim (λ f. true≢false (sym f ∙ h)) (λ f. no_name p q k f) (has_behind l p q e))) (λ e. e) (known_or_not (has (l ++ p ∷ []) q))

pub takes_more : (l : List Name) (p : Name) (ps qs rs : List Listed) → TakesOff l ps qs → TakesOff (p ∷ []) qs rs → TakesOff (l ++ p ∷ []) ps rs
takes_more l p ps qs rs k m = record {
  processes = λ n c r. (
    λ h. (((k.processes n c r).0 ((m.processes n c r).0 h).0).0, not_in_both l p n ((k.processes n c r).0 ((m.processes n c r).0 h).0).1 ((m.processes n c r).0 h).1),
    λ h. (m.processes n c r).1 ((k.processes n c r).1 (h.0, (not_behind l p n h.1).0), (not_behind l p n h.1).1),
  );
  jobs = λ j w. (
    λ h. (((k.jobs j w).0 ((m.jobs j w).0 h).0).0, not_in_both l p (process_of j) ((k.jobs j w).0 ((m.jobs j w).0 h).0).1 ((m.jobs j w).0 h).1),
    λ h. (m.jobs j w).1 ((k.jobs j w).1 (h.0, (not_behind l p (process_of j) h.1).0), (not_behind l p (process_of j) h.1).1),
  );
}

-- one step of a loop over the names
pub takes_next : (l : List Name) (i : ℕ) (p : Name) (ps qs rs : List Listed) → i < length l → p ≡ get_or l i p → TakesOff (take i l) ps qs → TakesOff (p ∷ []) qs rs → TakesOff (take (i + 1) l) ps rs
takes_next l i p ps qs rs h e k m = subst {A = List Name} (λ z. TakesOff z ps rs) (sym (take_next l i p h e)) (takes_more (take i l) p ps qs rs k m)

pub others_stay : (l : List Name) (ps qs : List Listed) → TakesOff l ps qs → (x : Plain) (p q : Name) → has l q ≡ false → IsListedAs x p q ps → IsListedAs x p q qs
others_stay l ps qs k x p q h m = stays_listed x p q ps qs
    (λ c r. (λ n. ((k.processes q c r).0 n).0, λ n. (k.processes q c r).1 (n, h)))
    (λ j w e. (λ n. ((k.jobs j w).0 n).0, λ n. (k.jobs j w).1 (n, subst {A = Name} (λ r. has l r ≡ false) (sym e) h)))
    m

-- ---- the holders of a node

module _ (c : Plain) (n : NodeId) (ps one two three : List Listed) where
  -- the processes of a label of the node are brought
  abbrev pub BringsLabel : LabelKind → List Listed → List Listed → Type 0
  BringsLabel kind xs ys = (b : Plain) → AllMayEnd b c n → IsBetween b c xs → Brings b c (label c n.0 kind) xs ys

  holders_brought : BringsLabel E ps one → BringsLabel R0 one two → BringsLabel R1 two three → (b : Plain) → BringsHolders b c n ps three
  holders_brought f g h b k m = (
    still_between b c (label c n.0 R1) two three third at_two,
    λ p e. by_label p (has (label c n.0 E) p) (has (label c n.0 R0) p) refl refl e,
  )
    where
      first : Brings b c (label c n.0 E) ps one
      first = f b k m

      at_one : IsBetween b c one
      at_one = still_between b c (label c n.0 E) ps one first m

      second : Brings b c (label c n.0 R0) one two
      second = g b k at_one

      at_two : IsBetween b c two
      at_two = still_between b c (label c n.0 R0) one two second at_one

      third : Brings b c (label c n.0 R1) two three
      third = h b k at_two

      by_label : (p : Name) (x y : Bool) → has (label c n.0 E) p ≡ x → has (label c n.0 R0) p ≡ y → (x || (y || has (label c n.0 R1) p)) ≡ true → IsListedAs c p p three
      by_label p true y e r d = still_brought b c (label c n.0 R1) two three third p (still_brought b c (label c n.0 R0) one two second p (first.named p e))
      by_label p false true e r d = still_brought b c (label c n.0 R1) two three third p (second.named p r)
      by_label p false false e r d = third.named p d

  pub holders_if_ok : (t : Result (Unit {0}) Memory) → BringsLabel E ps one → BringsLabel R0 one two → OnOk t (BringsLabel R1 two three) → OnOk t ((b : Plain) → BringsHolders b c n ps three)
  holders_if_ok (Ok t) f g h = holders_brought f g h
  holders_if_ok (Err e) f g h = tt

-- ---- which jobs may differ

-- a process that was to orient a node had it as an equation
pub had_equation : (b : Plain) (p : Name) (n : NodeId) (w : ℕ) (ps : List Listed) → IsListedAs b p p ps → HasJob ps (Orient p n) w → is_equation b p n.0 ≡ true
had_equation b p n w ps l h =
    let due : is_due b (Orient p n) ≡ true = (due_is b (Orient p n) ((l.jobs (Orient p n) w refl).0 h).0).0 in
    and_gives_left (is_equation b p n.0) (not (has (label b n.0 X) p)) (and_gives_right (is_working b p) (is_work_due b (Orient p n)) due)

-- no overlap of rules of a direction above 1 is due
pub improper_overlap : (b c : Plain) (p : Name) (a e : RuleRef) (ns : List NodeId) → ¬ ((a.dir < 2) × (e.dir < 2)) → ComesFrom b p c p (jobs_by_overlap p a e ns) → ComesFrom b p c p (jobs_on p ns)
improper_overlap b c p a e ns improper k = record {
  working = k.working;
  asleep = k.asleep;
  differs = record {
    jobs = λ j is open_job apart. (
      λ h. (k.differs.jobs j is open_job (unlike j (due_is c j h).1 apart)).0 h,
      λ h. (k.differs.jobs j is open_job (unlike j (subst {A = Job} IsProper (again j is) (due_is b (job_of p (work_of j)) h).1) apart)).1 h,
    );
    weights = k.differs.weights;
  };
}
  where
    again : (j : Job) → process_of j ≡ p → job_of p (work_of j) ≡ j
    again j is = subst {A = Name} (λ q. job_of q (work_of j) ≡ j) is (job_again j)

    unlike : (j : Job) → IsProper j → ¬ Contains (jobs_on p ns) j → ¬ Contains (jobs_by_overlap p a e ns) j
    unlike j proper apart h = ⊎_elim apart (λ m. improper (subst {A = Job} IsProper (sym (only_member (Overlap p a e) j m)) proper)) (Contains-append_cases (jobs_on p ns) (Overlap p a e ∷ []) j h)

-- what holds of the first holds of it under each name
pub on_first : (Q : Fact → Plain → Type 0) (r : Result (Unit {0}) Memory) (facts : List Fact) (g : Fact) → slice_get facts 0 ≡ Some g → OnOk r ((b : Plain) → Q g b) → OnOk r ((b : Plain) (f : Fact) (fs : List Fact) → facts ≡ f ∷ fs → Q f b)
on_first Q (Ok t) facts g e h = λ b f fs is. subst {A = Fact} (λ (z : Fact). Q z b) (some_is (sym e ∙ ap (λ (z : List Fact). slice_get z 0) is)) (h b)
on_first Q (Err x) facts g e h = tt
