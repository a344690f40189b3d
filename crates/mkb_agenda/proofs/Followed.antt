-- The agenda of the board after a commit, from that before it.
use Rattle.std.proofs.Common.{arith, ℕ, ◌≡◌, ◌≢◌, ◌≤◌, ◌⊎◌, ⊎_elim, inl, inr, refl, sym, ap, subst, ◌∙◌, List, [], ◌∷◌, Bool, true, false, Contains, IsTrue, Result, Ok, Err, OnOk}
use Rattle.std.specs.Prelude.{◌||◌, if◌then◌else◌}
use mathlib.Core.Bool.{true≢false}
use Rattle.kb_lemmas.proofs.Membership.{none_in, contains_first}
use Rattle.kb_cert.specs.declared.certificate.Certificate.{Certificate}
use Rattle.kb_term.specs.declared.memory.Memory.{Memory}
use Rattle.kb_label.specs.Names.{Name, has, name_eq, child}
use Rattle.kb_label.proofs.Members.{name_eq-eq}
use Rattle.kb_label.specs.declared.verdict.Reason.{Reason}
use Rattle.kb_node.specs.declared.node.NodeId.{NodeId}
use Rattle.kb_node.specs.declared.job.Fact.{Fact}
use Rattle.kb_node.specs.declared.job.Job.{Job}
use Rattle.kb_node.specs.declared.job.Job.TheVariants.{Reduce, Orient, Overlap, Close}
use Rattle.mkb_model.specs.Jobs.{process_of}
use Rattle.mkb_model.specs.Plain.{Plain, is_equation}
use Rattle.mkb_model.specs.DueJobs.{is_node_of}
use Rattle.mkb_model.specs.Effects.{effect_label, orient_label}
use Rattle.mkb_model.specs.Proposals.{Proposes}
use Rattle.mkb_model.specs.declared.proposed.Proposed.{Proposed}
use Rattle.mkb_model.specs.declared.proposed.Proposed.TheVariants.{Facts, One, Both}
use Rattle.mkb_rules.specs.declared.applied.Applied.TheVariants.{Done, Over}
use Rattle.mkb_pick.specs.Listings.{Listed, IsListed}
use Rattle.mkb_pick.specs.Tasks.{job_of, work_of}
use Rattle.mkb_pick.proofs.Viewed.{job_again}
use Rattle.mkb_agenda.specs.Agendas.{IsDueJob, IsAgendaOf, IsListedAs, LeavesOthers}
use Rattle.mkb_agenda.specs.Looking.{BringsOne}
use Rattle.mkb_agenda.specs.Following.{Brings, BringsChildren, BringsHolders, ForksFrom, IsBetween, IsCommitOn}
use Rattle.mkb_agenda.specs.declared.following.Commit.{Commit}
use Rattle.mkb_agenda.proofs.Brought.{known_or_not, only_name, no_name}
use Rattle.mkb_agenda.proofs.Splitting.{named_first, off_is_listed}
use Rattle.mkb_agenda.proofs.Frames.{over_stops, both_comes, facts_come, others_come, facts_leave}
use Rattle.mkb_agenda.proofs.LimitFrames.{over_leaves, facts_of_one_node}

-- ---- the processes of an agenda

pub listed_each : (b : Plain) (ps : List Listed) → IsAgendaOf b ps → (p : Name) → IsListedAs b p p ps
listed_each b ps a p = record {
  listed = a.processes p;
  jobs = λ j w e.
      let again : job_of p (work_of j) ≡ j = subst {A = Name} (λ q. job_of q (work_of j) ≡ j) e (job_again j) in (
        λ h. (subst {A = Job} (IsDueJob b) (sym again) ((a.jobs j w).0 h).0, ((a.jobs j w).0 h).1),
        λ h. (a.jobs j w).1 (subst {A = Job} (IsDueJob b) again h.0, h.1),
      );
}

pub agenda_of_each : (c : Plain) (qs : List Listed) → ((p : Name) → IsListedAs c p p qs) → IsAgendaOf c qs
agenda_of_each c qs l = record {
  processes = λ p. (l p).listed;
  jobs = λ j w. (
    λ h. (subst {A = Job} (IsDueJob c) (job_again j) (((l (process_of j)).jobs j w refl).0 h).0, (((l (process_of j)).jobs j w refl).0 h).1),
    λ h. ((l (process_of j)).jobs j w refl).1 (subst {A = Job} (IsDueJob c) (sym (job_again j)) h.0, h.1),
  );
}

-- ---- proposals

-- an orientation goes in one of the two directions
direction_bit : (before : Plain) (j : Job) (p : Name) (n : NodeId) (d : ℕ) (order : Certificate) → Proposes before j (One p n d order) → (d ≡ 0) ⊎ (d ≡ 1)
direction_bit before (Orient q m) p n d order h = h.2
direction_bit before (Reduce q m) p n d order h = absurd h
direction_bit before (Overlap q a e) p n d order h = absurd h
direction_bit before (Close q) p n d order h = absurd h

-- the proposal acts on those alone that its effect label names
abbrev pub acts_by_name : Proposed → Bool
acts_by_name (Facts fs) = false
acts_by_name (Both p n c0 c1) = false
acts_by_name y = true

first_or_rest : (p : Name) (l : List Name) (q : Name) → has (p ∷ l) q ≡ true → (q ≡ p) ⊎ (has l q ≡ true)
first_or_rest p l q h = go (name_eq q p) refl h
  where
    go : (t : Bool) → name_eq q p ≡ t → (t || has l q) ≡ true → (q ≡ p) ⊎ (has l q ≡ true)
    go true e k = inl (name_eq-eq q p e)
    go false e k = inr k

module _ (c : Plain) (x : Commit) (ps qs : List Listed) where
  -- what a call has to give
  abbrev pub Follows : Type 0
  Follows = (b : Plain) → IsCommitOn b x c → IsAgendaOf b ps → IsAgendaOf c qs

  -- who is not named is listed as on the later board
  unnamed : (b : Plain) (k : IsCommitOn b x c) → acts_by_name x.proposal.now ≡ true → (p : Name) → has x.names.now p ≡ false → IsListedAs b p p qs → IsListedAs c p p qs
  unnamed b k h p e = others_come b c x k (λ fs f. true≢false (sym h ∙ ap acts_by_name f)) p e (λ q n c0 c1 bit f. absurd (true≢false (sym h ∙ ap acts_by_name f))) qs

  -- ---- proposals that name processes

  named_followed : (H : Plain → Name → Type 0) → acts_by_name x.proposal.now ≡ true → ((b : Plain) → IsCommitOn b x c → (p : Name) → has x.names.now p ≡ true → H b p)
      → ((b : Plain) → ((p : Name) → has x.names.now p ≡ true → H b p) → IsBetween b c ps → Brings b c x.names.now ps qs) → Follows
  named_followed H acts comes brings b k a = agenda_of_each c qs (λ p. ⊎_elim (brought.named p) (λ e. unnamed b k acts p e (brought.others b p p e (listed_each b ps a p))) (known_or_not (has x.names.now p)))
    where
      brought : Brings b c x.names.now ps qs
      brought = brings b (comes b k) (λ p. inl (listed_each b ps a p))

  pub named_if_ok : (H : Plain → Name → Type 0) → acts_by_name x.proposal.now ≡ true → ((b : Plain) → IsCommitOn b x c → (p : Name) → has x.names.now p ≡ true → H b p) → (r : Result (Unit {0}) Memory)
      → OnOk r ((b : Plain) → ((p : Name) → has x.names.now p ≡ true → H b p) → IsBetween b c ps → Brings b c x.names.now ps qs) → OnOk r Follows
  named_if_ok H acts comes (Ok t) brings = named_followed H acts comes brings
  named_if_ok H acts comes (Err e) brings = tt

  -- ---- proposals that name one process

  -- the effect label names no other process
  abbrev pub NamesOnly : Plain → Name → Type 0
  NamesOnly b p = (q : Name) → has (effect_label b x.proposal.now) q ≡ true → q ≡ p

  single_followed : (p : Name) (C : Plain → Name → Type 0) → acts_by_name x.proposal.now ≡ true → ((b : Plain) → NamesOnly b p) → ((b : Plain) → IsCommitOn b x c → C b p) → BringsOne c p C ps qs → LeavesOthers p ps qs → Follows
  single_followed p C acts only comes exact apart b k a = agenda_of_each c qs (λ q. ⊎_elim (λ e. subst {A = Name} (λ r. IsListedAs c r r qs) (sym (only_name p q e)) (exact b p (listed_each b ps a p) (comes b k)))
      (λ e. unnamed b k acts q (off q (no_name p q e)) (apart b q q (no_name p q e) (listed_each b ps a q))) (known_or_not (has (p ∷ []) q)))
    where
      off : (q : Name) → q ≢ p → has x.names.now q ≡ false
      off q ne = ⊎_elim (λ e. absurd (ne (only b q (sym (ap (λ (l : List Name). has l q) (k.names ∙ ap (effect_label b) (sym k.proposal))) ∙ e)))) (λ e. e) (known_or_not (has x.names.now q))

  pub single_if_ok : (p : Name) (C : Plain → Name → Type 0) → acts_by_name x.proposal.now ≡ true → ((b : Plain) → NamesOnly b p) → ((b : Plain) → IsCommitOn b x c → C b p) → (r : Result (Unit {0}) Memory) → OnOk r (BringsOne c p C ps qs) → OnOk r (LeavesOthers p ps qs) → OnOk r Follows
  single_if_ok p C acts only comes (Ok t) exact apart = single_followed p C acts only comes exact apart
  single_if_ok p C acts only comes (Err e) exact apart = tt

  -- ---- an orientation

  -- an orientation goes in one of the two directions
  one_way : (b : Plain) → IsCommitOn b x c → (p : Name) (n : NodeId) (d : ℕ) (order : Certificate) → x.proposal.now ≡ One p n d order → d ≤ 1
  one_way b k p n d order f = ⊎_elim (λ e. omega (arith, e)) (λ e. omega (arith, e))
      (direction_bit k.commit.finishing.before k.commit.job p n d order (subst {A = Proposed} (Proposes k.commit.finishing.before k.commit.job) (sym k.proposal ∙ f) k.commit.finishing.proposed))

  pub one_if_ok : (p : Name) (n : NodeId) (d : ℕ) (order : Certificate) (C : Plain → Name → Type 0) → x.proposal.now ≡ One p n d order → ((b : Plain) → NamesOnly b p) → ((b : Plain) → IsCommitOn b x c → C b p) → (r : Result (Unit {0}) Memory) → (d ≤ 1 → OnOk r (BringsOne c p C ps qs)) → OnOk r (LeavesOthers p ps qs) → OnOk r Follows
  one_if_ok p n d order C f only comes (Ok t) exact apart = λ b k a. single_followed p C (ap acts_by_name f) only comes (exact (one_way b k p n d order f)) apart b k a
  one_if_ok p n d order C f only comes (Err e) exact apart = tt

  -- ---- a fork

  forked_followed : (p : Name) (n : NodeId) (c0 c1 : Certificate) → x.applied ≡ Done → x.proposal.now ≡ Both p n c0 c1 → ((b : Plain) → NamesOnly b p) → ((b : Plain) → ForksFrom b c p n → IsBetween b b ps → BringsChildren b c p ps qs) → Follows
  forked_followed p n c0 c1 done f only brings b k a = agenda_of_each c qs (λ q. ⊎_elim (named q) (other q) (known_or_not (has (p ∷ child p false ∷ child p true ∷ []) q)))
    where
      brought : BringsChildren b c p ps qs
      brought = brings b (both_comes b c x k done p n c0 c1 f) (λ q. inl (listed_each b ps a q))

      named : (q : Name) → has (p ∷ child p false ∷ child p true ∷ []) q ≡ true → IsListedAs c q q qs
      named q e = ⊎_elim (λ i. subst {A = Name} (λ r. IsListedAs c r r qs) (sym i) brought.parent)
          (λ h. ⊎_elim (λ i. subst {A = Name} (λ r. IsListedAs c r r qs) (sym i) brought.first)
          (λ k. subst {A = Name} (λ r. IsListedAs c r r qs) (sym (only_name (child p true) q k)) brought.second) (first_or_rest (child p false) (child p true ∷ []) q h))
          (first_or_rest p (child p false ∷ child p true ∷ []) q e)

      other : (q : Name) → has (p ∷ child p false ∷ child p true ∷ []) q ≡ false → IsListedAs c q q qs
      other q e =
          let one = named_first p (child p false ∷ child p true ∷ []) q e in
          let two = named_first (child p false) (child p true ∷ []) q one.1 in
          let three = named_first (child p true) [] q two.1 in
          others_come b c x k (λ fs g. absurd (let h : Both p n c0 c1 ≡ Facts fs = sym f ∙ g in cc)) q (off q one.0) (λ r m d0 d1 bit g. apart r bit q (let h : Both r m d0 d1 ≡ Both p n c0 c1 = sym g ∙ f in cc) two.0 three.0) qs (brought.others b q q e (listed_each b ps a q))
        where
          off : (q : Name) → q ≢ p → has x.names.now q ≡ false
          off q ne = ⊎_elim (λ h. absurd (ne (only b q (sym (ap (λ (l : List Name). has l q) (k.names ∙ ap (effect_label b) (sym k.proposal))) ∙ h)))) (λ h. h) (known_or_not (has x.names.now q))

          apart : (r : Name) (bit : Bool) (q : Name) → r ≡ p → q ≢ child p false → q ≢ child p true → q ≢ child r bit
          apart r false q is first second = subst {A = Name} (λ z. q ≢ child z false) (sym is) first
          apart r true q is first second = subst {A = Name} (λ z. q ≢ child z true) (sym is) second

  pub forked_if_ok : (p : Name) (n : NodeId) (c0 c1 : Certificate) → x.applied ≡ Done → x.proposal.now ≡ Both p n c0 c1 → ((b : Plain) → NamesOnly b p) → (r : Result (Unit {0}) Memory) → OnOk r ((b : Plain) → ForksFrom b c p n → IsBetween b b ps → BringsChildren b c p ps qs) → OnOk r Follows
  forked_if_ok p n c0 c1 done f only (Ok t) brings = forked_followed p n c0 c1 done f only brings
  forked_if_ok p n c0 c1 done f only (Err e) brings = tt

  -- ---- facts

  facts_followed : (fs : List Fact) → x.applied ≡ Done → x.proposal.now ≡ Facts fs → (fs ≡ [] → qs ≡ ps)
      → ((b : Plain) (f : Fact) (gs : List Fact) → fs ≡ f ∷ gs → BringsHolders b c f.node ps qs) → Follows
  facts_followed [] done f none some b k a = subst {A = List Listed} (IsAgendaOf c) (sym (none refl)) (agenda_of_each c ps (λ p. facts_leave b c x k [] f p (λ g m. none_in m) ps (listed_each b ps a p)))
  facts_followed (f ∷ gs) done is none some b k a = agenda_of_each c qs (λ p. ⊎_elim (known.1 p) (λ e. ⊎_elim (facts_leave b c x k (f ∷ gs) is p (apart p e) qs) (λ l. l) (known.0 p)) (known_or_not (is_node_of c p f.node.0)))
    where
      known : IsBetween b c qs × ((p : Name) → IsTrue (is_node_of c p f.node.0) → IsListedAs c p p qs)
      known = some b f gs refl (facts_come b c x k done f gs is) (λ p. inl (listed_each b ps a p))

      apart : (p : Name) → is_node_of c p f.node.0 ≡ false → (g : Fact) → Contains (f ∷ gs) g → is_node_of c p g.node.0 ≡ false
      apart p e g m = ap (λ (n : NodeId). is_node_of c p n.0) (facts_of_one_node b c x k (f ∷ gs) is g f m (contains_first f gs)) ∙ e

  pub facts_if_ok : (fs : List Fact) → x.applied ≡ Done → x.proposal.now ≡ Facts fs → (fs ≡ [] → qs ≡ ps) → (r : Result (Unit {0}) Memory)
      → OnOk r ((b : Plain) (f : Fact) (gs : List Fact) → fs ≡ f ∷ gs → BringsHolders b c f.node ps qs) → OnOk r Follows
  facts_if_ok fs done f none (Ok t) some = facts_followed fs done f none some
  facts_if_ok fs done f none (Err e) some = tt

  -- ---- a limit

  pub stopped_followed : (r : Reason) → x.applied ≡ Over r → ((p : Name) (d : ℕ) (s : Bool) → has x.names.now p ≡ true → ¬ IsListed qs p d s) → ((y : Plain) (p q : Name) → has x.names.now q ≡ false → IsListedAs y p q ps → IsListedAs y p q qs) → Follows
  stopped_followed r e gone others b k a = agenda_of_each c qs (λ p. ⊎_elim (λ h. off_is_listed c p p qs (over_stops b c x k r e p h) (λ m. gone p m.0.cost m.0.resting h (m.0, m.1, m.2, refl, refl)))
      (λ h. over_leaves b c x k r e p h qs (others b p p h (listed_each b ps a p))) (known_or_not (has x.names.now p)))

-- ---- who is named

pub oriented_only : (b : Plain) (p : Name) (n : ℕ) (q : Name) → has (orient_label b p n) q ≡ true → q ≡ p
oriented_only b p n q = go (is_equation b p n)
  where
    go : (t : Bool) → has (if t then p ∷ [] else []) q ≡ true → q ≡ p
    go true h = only_name p q h
    go false h = absurd (true≢false (sym h))
