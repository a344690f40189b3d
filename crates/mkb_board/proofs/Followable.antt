-- What a board commits can be followed.
use Rattle.std.proofs.Common.{ℕ, ◌≡◌, refl, sym, ap, ◌∙◌, List, []}
use Rattle.kb_label.specs.Names.{Name}
use Rattle.mkb_model.specs.Plain.{Plain}
use Rattle.mkb_model.specs.Effects.{acted, effect, effect_entry, effect_label}
use Rattle.mkb_model.specs.Journals.{Moment, IsPossibleRun, IsCommitting, IsFreeJob, landed}
use Rattle.mkb_model.specs.Ready.{KeepsPairs}
use Rattle.mkb_model.specs.Sleeping.{settle}
use Rattle.mkb_model.specs.declared.entry.Entry.TheVariants.{Commit as CommitEntry}
use Rattle.mkb_model.specs.declared.proposed.Proposed.{Proposed}
use Rattle.mkb_model.specs.declared.proposed.Proposed.TheVariants.{Facts, Rewrite, One, Both, Refuse, Deduce, Unjoined, Closed, Limit}
use Rattle.mkb_model.specs.declared.entry.Ticket.{Ticket}
use Rattle.mkb_model.proofs.commits.Views.{there_pair}
use Rattle.mkb_model.proofs.nodes.DistinctPairs.{pairs_follow}
use Rattle.mkb_model.proofs.runs.Selections.{legal-possible}
use Rattle.mkb_rules.specs.Applicable.{IsApplicable}
use Rattle.mkb_rules.specs.Named.{IsThere}
use Rattle.mkb_rules.specs.Rewriting.{LeadsTo}
use Rattle.mkb_rules.specs.declared.applied.Applied.{Applied}
use Rattle.mkb_rules.specs.declared.applied.Applied.TheVariants.{Done}
use Rattle.mkb_agenda.specs.Following.{HasNodesOf, IsCommitOn}
use Rattle.mkb_agenda.specs.declared.following.Commit.{Commit}
use Rattle.mkb_board.specs.Boards.{Seen}
use Rattle.mkb_board.specs.Takes.{IsCommittedBy, unsettled}
use Rattle.mkb_board.proofs.Asleep.{settled_flying}
use Rattle.mkb_board.proofs.Ends.{finishing}
use Rattle.mkb_board.proofs.There.{at_within, applicable}

-- ---- the run goes on

module _ (old new : Seen) (t : Ticket) (x : Proposed) (a : Applied) (committed : IsCommittedBy old new t x a) where
  abbrev past : List Moment
  past = committed.legal.after.0

  possible : IsPossibleRun old.plain.problem old.plain.settings past old.plain
  possible = legal-possible old.plain.problem old.plain.settings past old.plain committed.legal.after.2

  abbrev committing : IsCommitting past old.plain t.worker t.number (effect_entry old.plain x) (landed t.number (effect old.plain x))
  committing = record {
    job = t.job;
    proposal = x;
    finishing = finishing old t x committed.finished.0 committed.flying committed.proposed past committed.legal.after.1 committed.legal.after.2;
    acts = committed.finished.1;
    names_effect = refl;
    leads_to = refl;
  }

  keeps : KeepsPairs old.plain.nodes (unsettled old.plain x).nodes
  keeps = pairs_follow IsFreeJob past old.plain (CommitEntry t.worker t.number (effect_entry old.plain x)) (landed t.number (effect old.plain x)) committing

  named : IsApplicable old.plain x
  named = applicable old.plain.problem old.plain.settings past old.plain possible t.worker t.number t.job x committing.finishing committed.legal.within committed.finished.1

-- what is committed is a commit on the board
pub commits_on : (old new : Seen) (t : Ticket) (x : Proposed) (commit : Commit) → IsCommittedBy old new t x commit.applied → commit.proposal.now ≡ x → commit.names.now ≡ effect_label old.plain x → (commit.applied ≡ Done → LeadsTo (unsettled old.plain x) x commit.target) → IsCommitOn old.plain commit (unsettled old.plain x)
commits_on old new t x commit committed proposal names target = record {
  problem = old.plain.problem;
  settings = old.plain.settings;
  past = past old new t x commit.applied committed;
  worker = t.worker;
  ticket = t.number;
  effect = effect_entry old.plain x;
  next = landed t.number (effect old.plain x);
  within = committed.legal.within;
  run = possible old new t x commit.applied committed;
  commit = committing old new t x commit.applied committed;
  proposal = proposal;
  names = names;
  applied = committed.finished.2;
  target = target;
  makes = refl;
}

-- ---- the nodes stay

module _ (b c : Plain) (keeps : KeepsPairs b.nodes c.nodes) where
  there_stays : (n : ℕ) → IsThere b n → IsThere c n
  there_stays n h = let q = there_pair b.nodes n h in at_within c.nodes n q.0 (keeps n q.0 q.1)

  -- the nodes of what may be applied stay there
  nodes_stay : (x : Proposed) → IsApplicable b x → HasNodesOf c x
  nodes_stay (Facts fs) h = tt
  nodes_stay (Rewrite n w at a found u) h = there_stays n.0 h.0.0
  nodes_stay (One p n d o) h = there_stays n.0 h.0.0
  nodes_stay (Both p n c0 c1) h = there_stays n.0 h.0.0
  nodes_stay (Refuse p n) h = there_stays n.0 h.0.0
  nodes_stay (Deduce a d pairs) h = (there_stays a.node h.0.0, there_stays d.node h.0.1)
  nodes_stay (Unjoined p pairs) h = tt
  nodes_stay (Closed p) h = tt
  nodes_stay (Limit j cause) h = tt

-- the nodes that the proposal names are there after the commit
pub nodes_after : (old new : Seen) (t : Ticket) (x : Proposed) (a : Applied) → IsCommittedBy old new t x a → HasNodesOf (unsettled old.plain x) x
nodes_after old new t x a committed = nodes_stay old.plain (unsettled old.plain x) (keeps old new t x a committed) x (named old new t x a committed)

-- then processes fall asleep or wake
pub settles_then : (old new : Seen) (t : Ticket) (x : Proposed) (a : Applied) → IsCommittedBy old new t x a → record new.plain { flight = [] } ≡ settle (unsettled old.plain x)
settles_then old new t x a committed =
    ap (λ (b : Plain). record b { flight = [] }) committed.finished.3
    ∙ ap (λ (l : List Name). record (unsettled old.plain x) { asleep = l }) (sym (settled_flying (acted old.plain x) []))
