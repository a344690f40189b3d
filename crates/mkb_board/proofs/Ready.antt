-- Where a ticket may be finished, its proposal may be applied to the state.
use Rattle.mkb_board.proofs.AtRest.{legal_rest, rest_from}
use Rattle.mkb_board.specs.Choosing.{ClosedRest}
use Rattle.mkb_board.proofs.Readable.{limited_on}
use Rattle.mkb_model.specs.Sleeping.{settled}
use Rattle.mkb_model.specs.declared.entry.Entry.TheVariants.{Commit}
use Rattle.mkb_model.proofs.labels.AtMostSixtyFour.{acted_labelled}
use Rattle.mkb_model.proofs.labels.LivingLabels.{IsLabelled}
use Rattle.mkb_model.specs.Limits.{AreLimited}
use Rattle.std.proofs.Common.{◌≡◌, List, Contains, None, subst, refl, filter, not, ◌==◌, ◌++◌, ◌∷◌, []}
use Rattle.std.specs.Prelude.{IsFalse}
use Rattle.kb_node.specs.declared.job.Job.TheVariants.{Reduce, Orient, Overlap, Close}
use Rattle.mkb_model.specs.Plain.{Plain}
use Rattle.mkb_model.specs.Effects.{is_dropped, acted, effect, effect_entry}
use Rattle.mkb_model.specs.Verdicts.{verdict}
use Rattle.mkb_model.specs.declared.proposed.Proposed.{Proposed}
use Rattle.mkb_model.specs.declared.proposed.Proposed.TheVariants.{Facts, Rewrite, One, Both, Refuse, Deduce, Unjoined, Closed, Limit}
use Rattle.mkb_model.specs.declared.entry.Ticket.{Ticket}
use Rattle.mkb_model.specs.declared.entry.Entry.{Entry}
use Rattle.mkb_model.proofs.runs.Selections.{legal-possible}
use Rattle.mkb_rules.specs.Named.{HasNamed}
use Rattle.mkb_rules.specs.Applying.{HasBudget}
use Rattle.mkb_rules.specs.Applicable.{HasFewVariablesAfter, IsApplicable}
use Rattle.mkb_board.specs.Boards.{seen, IsLegalBoard, IsBoard, takes_in, drops_in, has_halt}
use Rattle.mkb_board.specs.Takes.{IsProposalOf}
use Rattle.mkb_board.proofs.Ends.{finishing, acted_flying, commit_board, lands}
use Rattle.mkb_board.proofs.There.{has_named, has_budget, applicable}

named_grounded : (b : Plain) (f : List Ticket) (x : Proposed) → HasNamed (record b { flight = f }) x → HasNamed b x
named_grounded b f (Facts fs) h = h
named_grounded b f (Rewrite n w at a found t) h = h
named_grounded b f (One p n d c) h = h
named_grounded b f (Both p n c0 c1) h = h
named_grounded b f (Refuse p n) h = h
named_grounded b f (Deduce a c pairs) h = h
named_grounded b f (Unjoined p pairs) h = h
named_grounded b f (Closed p) h = h
named_grounded b f (Limit (Reduce p n) cause) h = h
named_grounded b f (Limit (Orient p n) cause) h = h
named_grounded b f (Limit (Overlap p a c) cause) h = h
named_grounded b f (Limit (Close p) cause) h = h

fitting_grounded : (b : Plain) (f : List Ticket) (x : Proposed) → HasFewVariablesAfter (record b { flight = f }) x → HasFewVariablesAfter b x
fitting_grounded b f (Facts fs) h = h
fitting_grounded b f (Rewrite n w at a found t) h = h
fitting_grounded b f (One p n d c) h = h
fitting_grounded b f (Both p n c0 c1) h = h
fitting_grounded b f (Refuse p n) h = h
fitting_grounded b f (Deduce a c pairs) h = h
fitting_grounded b f (Unjoined p pairs) h = h
fitting_grounded b f (Closed p) h = h
fitting_grounded b f (Limit j cause) h = h

module _ (state : Plain) (flight : List Ticket) (J : List Entry) (t : Ticket) (x : Proposed) (legal : IsLegalBoard (seen state flight J)) (none : verdict (record state { flight = flight }) ≡ None) (flying : Contains flight t) (proposal : IsProposalOf (seen state flight J) t x) where
  pub state_named : HasNamed state x
  state_named =
      let s = seen state flight J in
      let r = legal.after in
      named_grounded state flight x (has_named s.plain.problem s.plain.settings r.0 s.plain (legal-possible s.plain.problem s.plain.settings r.0 s.plain r.2) t.worker t.number t.job x (finishing s t x none flying proposal r.0 r.1 r.2))

  pub state_applicable : IsFalse (is_dropped (record state { flight = flight }) x) → IsApplicable state x
  state_applicable acts =
      let s = seen state flight J in
      let r = legal.after in
      let a = applicable s.plain.problem s.plain.settings r.0 s.plain (legal-possible s.plain.problem s.plain.settings r.0 s.plain r.2) t.worker t.number t.job x (finishing s t x none flying proposal r.0 r.1 r.2) legal.within acts in
      (named_grounded state flight x a.0, fitting_grounded state flight x a.1)

  pub state_budget : HasBudget state
  state_budget =
      let s = seen state flight J in
      let r = legal.after in
      has_budget s.plain.problem s.plain.settings r.0 s.plain (legal-possible s.plain.problem s.plain.settings r.0 s.plain r.2) t.worker t.number t.job x (finishing s t x none flying proposal r.0 r.1 r.2)

  -- what the commit itself does leaves labels
  pub acted_labels : IsFalse (is_dropped (record state { flight = flight }) x) → IsLabelled (acted state x)
  acted_labels acts =
      let s = seen state flight J in
      let r = legal.after in
      let k = subst {A = Plain} IsLabelled (acted_flying state flight x) (acted_labelled s.plain.problem s.plain.settings r.0 s.plain (legal-possible s.plain.problem s.plain.settings r.0 s.plain r.2) t.worker t.number t.job x (finishing s t x none flying proposal r.0 r.1 r.2) acts) in
      record { alive = k.alive; nodes = k.nodes; done = k.done; closed = k.closed; over = k.over; asleep = k.asleep }

  -- the board after the commit is legal
  legal_after : IsFalse (is_dropped (record state { flight = flight }) x)
      → IsLegalBoard (seen (effect state x) (filter (λ (u : Ticket). not (u.number == t.number)) flight) (J ++ Commit t.worker t.number (effect_entry (record state { flight = flight }) x) ∷ []))
  legal_after acts =
      let fewer = filter (λ (u : Ticket). not (u.number == t.number)) flight in
      let K = J ++ Commit t.worker t.number (effect_entry (record state { flight = flight }) x) ∷ [] in
      let now : IsBoard (seen state flight J) (takes_in J) (drops_in J) (has_halt J) = record { legal = legal; taken_is = refl; dropped_is = refl; halted_is = refl } in
      (commit_board state (effect state x) flight fewer J K (takes_in J) (drops_in J) (has_halt J) t x now none flying proposal acts (lands state (effect state x) flight fewer x t.number refl refl) refl).legal

  -- what the commit itself does leaves pairs within the limits
  pub acted_limited : IsFalse (is_dropped (record state { flight = flight }) x) → AreLimited (acted state x).problem.signature (acted state x).nodes
  acted_limited acts =
      limited_on (effect state x) (filter (λ (u : Ticket). not (u.number == t.number)) flight) (J ++ Commit t.worker t.number (effect_entry (record state { flight = flight }) x) ∷ []) (legal_after acts)

  -- and after it nothing is to be done for who is closed
  pub effect_rest : IsFalse (is_dropped (record state { flight = flight }) x) → ClosedRest (effect state x)
  effect_rest acts =
      legal_rest (effect state x) (filter (λ (u : Ticket). not (u.number == t.number)) flight) (J ++ Commit t.worker t.number (effect_entry (record state { flight = flight }) x) ∷ []) (legal_after acts)

  pub acted_rest : IsFalse (is_dropped (record state { flight = flight }) x) → ClosedRest (acted state x)
  acted_rest acts = rest_from (acted state x) (acted state x).flight (settled (acted state x)) (effect_rest acts)
