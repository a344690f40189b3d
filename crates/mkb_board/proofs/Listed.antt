-- The agenda that a board keeps: who falls asleep or wakes is listed, and a commit can be followed.
use Rattle.std.proofs.Common.{ℕ, ◌≡◌, ◌↔◌, true, false, refl, sym, ap, ◌∙◌, subst, List, [], ◌∷◌, ◌++◌, Contains, not, ◌&&◌, Option, Some, None}
use Rattle.std.specs.Prelude.{IfOk, IfSome, IsFalse, Result, Ok, Err}
use Rattle.std.specs.Result.{result_ok}
use Rattle.std.proofs.lemmas.Bool.{and_from}
use Rattle.kb_lemmas.proofs.Booleans.{and_gives_left, and_gives_right}
use Rattle.kb_label.specs.Names.{Name, add, has, minus}
use Rattle.kb_node.specs.declared.job.Job.{Job}
use Rattle.kb_node.specs.declared.node.NodeId.{NodeId}
use Rattle.mkb_model.specs.Jobs.{greatest, least}
use Rattle.mkb_model.specs.Plain.{Plain, cost, is_over}
use Rattle.mkb_model.specs.DueJobs.{is_working}
use Rattle.mkb_model.specs.Effects.{acted, effect, effect_entry, effect_label, is_dropped, limit_of}
use Rattle.mkb_model.specs.Invariants.{IsLabel}
use Rattle.mkb_model.specs.Journals.{landed}
use Rattle.mkb_model.specs.Sleeping.{is_active, is_failed, process_cmp, waiting, working}
use Rattle.mkb_model.specs.Verdicts.{verdict}
use Rattle.mkb_model.specs.declared.entry.Entry.{Entry}
use Rattle.mkb_model.specs.declared.entry.Entry.TheVariants.{Commit as CommitEntry}
use Rattle.mkb_model.specs.declared.entry.Ticket.{Ticket}
use Rattle.mkb_model.specs.declared.proposed.Proposed.{Proposed}
use Rattle.mkb_model.specs.declared.proposed.Proposed.TheVariants.{Facts, Rewrite, One, Both, Refuse, Deduce, Unjoined, Closed, Limit}
use Rattle.mkb_model.proofs.labels.Sleepers.{in_waiting, in_working}
use Rattle.mkb_model.proofs.runs.Endings.{has_in}
use Rattle.mkb_model.proofs.runs.Selections.{least-in}
use Rattle.mkb_rules.specs.Applying.{applied_as}
use Rattle.mkb_rules.specs.Named.{IsThere}
use Rattle.mkb_rules.specs.Rewriting.{LeadsTo}
use Rattle.mkb_rules.specs.declared.applied.Applied.{Applied}
use Rattle.mkb_rules.specs.declared.applied.Applied.TheVariants.{Done}
use Rattle.mkb_pick.specs.Listings.{Listed, HasJob, IsProcess, SetsRest}
use Rattle.mkb_pick.specs.declared.agenda.Agenda.{Agenda}
use Rattle.mkb_agenda.specs.Agendas.{IsAgendaOf}
use Rattle.mkb_agenda.specs.Following.{HasNodesOf, IsCommitOn}
use Rattle.mkb_agenda.specs.declared.following.Commit.{Commit}
use Rattle.mkb_agenda.proofs.Sleeping.{flight_unlisted, sleeper_rests, waker_works}
use Rattle.mkb_board.specs.Boards.{Seen, seen, IsLegalBoard}
use Rattle.mkb_board.specs.Listed.{IsAgenda}
use Rattle.mkb_board.specs.Takes.{IsProposalOf, IsCommittedBy, unsettled}
use Rattle.mkb_board.proofs.Ends.{acted_flying, label_flying, limit_flying}
use Rattle.mkb_board.proofs.Followable.{commits_on, nodes_after}
use Rattle.mkb_board.proofs.Sleepers.{turned_cmp}

-- ---- who is listed

module _ (b : Plain) (p : Name) (ps : List Listed) (agenda : IsAgendaOf b ps) where
  active_listed : is_active b p ≡ true → has b.living p ≡ true → IsProcess ps p
  active_listed active lives =
      let works : is_working b p ≡ true = and_from (has b.living p) (not (is_over b p)) lives (and_gives_right (not (is_failed b p)) (not (is_over b p)) active) in
      let h = (agenda.processes p (cost b p) (has b.asleep p)).1 (works, refl, refl) in
      (h.0, h.1, h.2)

  -- the working process that costs most
  pub worker_listed : greatest (process_cmp b) (working b b.asleep) ≡ Some p → IsProcess ps p
  worker_listed first =
      let w = sym (in_working b b.asleep p) ∙ has_in (working b b.asleep) p (least-in (turned_cmp b) (working b b.asleep) p first) in
      active_listed (and_gives_left (is_active b p) (not (has b.asleep p) && has b.living p) w)
      (and_gives_right (not (has b.asleep p)) (has b.living p) (and_gives_right (is_active b p) (not (has b.asleep p) && has b.living p) w))

  -- the waiting one that costs least
  pub waiter_listed : IsLabel b b.asleep → least (process_cmp b) (waiting b b.asleep) ≡ Some p → IsProcess ps p
  waiter_listed label first =
      let w = sym (in_waiting b b.asleep p) ∙ has_in (waiting b b.asleep) p (least-in (process_cmp b) (waiting b b.asleep) p first) in
      active_listed (and_gives_left (is_active b p) (has b.asleep p) w) (label.living p (and_gives_right (is_active b p) (has b.asleep p) w))

-- ---- the agenda that is kept, if one is

pub none_kept : (b : Plain) (o : Option Agenda) → o ≡ None → IsAgenda b o
none_kept b o e = subst {A = Option Agenda} (IsAgenda b) (sym e) tt

-- that of the board, of which one is kept
pub one_kept : (b : Plain) (o : Option Agenda) (a : Agenda) → o ≡ Some a → IsAgenda b o → IsAgendaOf b a.processes
one_kept b o a e h = subst {A = Option Agenda} (IsAgenda b) e h

-- that which was made, if it was
pub made_kept : {E : Type 0} (b : Plain) (r : Result Agenda E) (o : Option Agenda) → o ≡ result_ok r → IfOk r (λ (a : Agenda). IsAgendaOf b a.processes) → IsAgenda b o
made_kept b (Ok a) o e h = subst {A = Option Agenda} (IsAgenda b) (sym e) h
made_kept b (Err f) o e h = none_kept b o e

-- a process falls asleep
pub rests_on : (b s : Plain) (p : Name) → s ≡ record b { asleep = add p b.asleep } → (a r : Agenda) (o : Option Agenda) → o ≡ Some r → IsAgendaOf b a.processes → SetsRest a.processes p true r.processes
    → ((j : Job) (w : ℕ) → HasJob r.processes j w ↔ HasJob a.processes j w) → IsAgenda s o
rests_on b s p e a r o is agenda sets jobs = subst {A = Option Agenda} (IsAgenda s) (sym is) (subst {A = Plain} (λ z. IsAgendaOf z r.processes) (sym e) (sleeper_rests b p a.processes r.processes agenda sets jobs))

-- a process wakes
pub works_again : (b s : Plain) (p : Name) → s ≡ record b { asleep = minus b.asleep (p ∷ []) } → (a r : Agenda) (o : Option Agenda) → o ≡ Some r → IsAgendaOf b a.processes → SetsRest a.processes p false r.processes
    → ((j : Job) (w : ℕ) → HasJob r.processes j w ↔ HasJob a.processes j w) → IsAgenda s o
works_again b s p e a r o is agenda sets jobs = subst {A = Option Agenda} (IsAgenda s) (sym is) (subst {A = Plain} (λ z. IsAgendaOf z r.processes) (sym e) (waker_works b p a.processes r.processes agenda sets jobs))

-- what flies is not listed
pub kept_flying : (b : Plain) (flight : List Ticket) (o : Option Agenda) → IsAgenda b o → IsAgenda (record b { flight = flight }) o
kept_flying b flight None h = tt
kept_flying b flight (Some a) h = flight_unlisted b flight a.processes h

-- ---- a commit

-- nothing flies after a commit on a state where nothing does
pub nothing_flies : (b : Plain) (x : Proposed) → b.flight ≡ [] → (acted b x).flight ≡ []
nothing_flies b x e = ap (λ (z : Plain). z.flight) (acted_flying b b.flight x) ∙ e

-- the node to which a commit led is there
pub target_there : (c : Plain) (x : Proposed) (o : Option NodeId) → LeadsTo c x o → IfSome o (λ m. IsThere c m.0)
target_there c (Facts fs) o e = subst {A = Option NodeId} (λ z. IfSome z (λ m. IsThere c m.0)) (sym e) tt
target_there c (Rewrite n w at a found u) o e = e.there
target_there c (One p n d order) o e = subst {A = Option NodeId} (λ z. IfSome z (λ m. IsThere c m.0)) (sym e) tt
target_there c (Both p n c0 c1) o e = subst {A = Option NodeId} (λ z. IfSome z (λ m. IsThere c m.0)) (sym e) tt
target_there c (Refuse p n) o e = subst {A = Option NodeId} (λ z. IfSome z (λ m. IsThere c m.0)) (sym e) tt
target_there c (Deduce a d pairs) o e = subst {A = Option NodeId} (λ z. IfSome z (λ m. IsThere c m.0)) (sym e) tt
target_there c (Unjoined p pairs) o e = subst {A = Option NodeId} (λ z. IfSome z (λ m. IsThere c m.0)) (sym e) tt
target_there c (Closed p) o e = subst {A = Option NodeId} (λ z. IfSome z (λ m. IsThere c m.0)) (sym e) tt
target_there c (Limit j cause) o e = subst {A = Option NodeId} (λ z. IfSome z (λ m. IsThere c m.0)) (sym e) tt

module _ (state : Plain) (flight : List Ticket) (J : List Entry) (t : Ticket) (x : Proposed) (legal : IsLegalBoard (seen state flight J)) (none : verdict (record state { flight = flight }) ≡ None) (flying : Contains flight t) (proposal : IsProposalOf (seen state flight J) t x)
    (acts : IsFalse (is_dropped (record state { flight = flight }) x)) (a : Applied) (is_applied : a ≡ applied_as (limit_of state x)) (c : Plain) (makes : c ≡ acted state x) (grounded : state.flight ≡ []) where
  abbrev board : Plain
  board = record state { flight = flight }

  -- the board that the commit leaves
  abbrev next : Seen
  next = record { plain = landed t.number (effect board x); journal = J ++ CommitEntry t.worker t.number (effect_entry board x) ∷ [] }

  committed : IsCommittedBy (seen state flight J) next t x a
  committed = record { legal = legal; flying = flying; proposed = proposal; finished = (none, acts, is_applied ∙ ap applied_as (sym (limit_flying state flight x)), refl, refl) }

  made : unsettled board x ≡ c
  made = ap (λ (z : Plain). record z { flight = [] }) (acted_flying state flight x) ∙ ap (λ (ts : List Ticket). record (acted state x) { flight = ts }) (sym (nothing_flies state x grounded)) ∙ sym makes

  -- the nodes that the proposal names are there
  pub nodes_left : HasNodesOf c x
  nodes_left = subst {A = Plain} (λ z. HasNodesOf z x) made (nodes_after (seen state flight J) next t x a committed)

  -- it is a commit on the board
  commit_made : (commit : Commit) → commit.proposal.now ≡ x → commit.applied ≡ a → commit.names.now ≡ effect_label state x → (commit.applied ≡ Done → LeadsTo c x commit.target) → IsCommitOn board commit c
  commit_made commit of_it applied names target =
      subst {A = Plain} (IsCommitOn board commit) made
      (commits_on (seen state flight J) next t x commit (subst {A = Applied} (IsCommittedBy (seen state flight J) next t x) (sym applied) committed) of_it (names ∙ sym (label_flying state flight x)) (λ e. subst {A = Plain} (λ z. LeadsTo z x commit.target) (sym made) (target e)))

  -- the agenda that followed it is that of the state
  pub followed : (commit : Commit) → commit.proposal.now ≡ x → commit.applied ≡ a → commit.names.now ≡ effect_label state x → (commit.applied ≡ Done → LeadsTo c x commit.target) → (old new : Option Agenda) → IsAgenda state old → ((b : Plain) → IsCommitOn b commit c → IsAgenda b old → IsAgenda c new) → IsAgenda c new
  followed commit of_it applied names target old new kept follows = follows board (commit_made commit of_it applied names target) (kept_flying state flight old kept)
