-- Who works on a board that starts or that a commit leaves.
use Rattle.std.proofs.Common.{◌<◌, ◌≤◌, ◌≡◌, refl, sym, ap, ◌∙◌, arith, List, [], ◌∷◌, length, Contains, Bool, true, false, not, Option, Some, None}
use Rattle.std.specs.Prelude.{nat_le, IsFalse, Vec, vec_capacity}
use Rattle.std.specs.List.{find}
use Rattle.std.specs.declared.alloc.Global.{Global}
use Rattle.std.proofs.lemmas.Bool.{leb-false}
use Rattle.kb_lemmas.proofs.Options.{none_some}
use Rattle.kb_term.specs.Signature.{Problem}
use Rattle.kb_label.specs.Names.{Name, has, is_empty, root}
use Rattle.kb_label.specs.declared.verdict.Reason.{Reason}
use Rattle.kb_label.specs.declared.verdict.Reason.TheVariants.{Processes, Nodes}
use Rattle.kb_label.proofs.Forked.{leaves-forked}
use Rattle.mkb_model.specs.Plain.{Plain}
use Rattle.mkb_model.specs.Effects.{first_some, is_dropped, is_full, limit_of, most_living, some_if, acted}
use Rattle.mkb_model.specs.Journals.{opening, IsFreeJob}
use Rattle.mkb_model.specs.Sleeping.{settle, working}
use Rattle.mkb_model.specs.Verdicts.{is_complete, verdict}
use Rattle.mkb_model.specs.declared.entry.Entry.{Entry}
use Rattle.mkb_model.specs.declared.entry.Ticket.{Ticket}
use Rattle.mkb_model.specs.declared.proposed.Proposed.{Proposed}
use Rattle.mkb_model.specs.declared.proposed.Proposed.TheVariants.{Facts, Rewrite, One, Both, Refuse, Deduce, Unjoined, Closed, Limit}
use Rattle.mkb_model.specs.declared.settings.Settings.{Settings}
use Rattle.mkb_model.proofs.labels.LivingNames.{living_forked}
use Rattle.mkb_model.proofs.runs.Selections.{legal-possible}
use Rattle.mkb_rules.specs.Named.{HasNamed}
use Rattle.mkb_rules.specs.Applying.{applied_as}
use Rattle.mkb_rules.specs.declared.applied.Applied.{Applied}
use Rattle.mkb_board.specs.Boards.{seen, IsLegalBoard}
use Rattle.mkb_board.specs.Takes.{IsProposalOf}
use Rattle.mkb_board.specs.Working.{completed_by, processes_in, still_working, IsShort, IsWorking}
use Rattle.mkb_board.specs.declared.working.Placed.{Placed}
use Rattle.mkb_board.proofs.Going.{none_complete}
use Rattle.mkb_board.proofs.Ready.{state_named}
use Rattle.mkb_board.proofs.StillWorking.{completes_after, opening_works, works_after}

-- ---- at the start

module _ (P : Problem) (n : Settings) (b : Plain) (e : b ≡ opening P n) where
  pub first_works : (l : List Placed) → processes_in l ≡ root ∷ [] → processes_in l ≡ working b b.asleep
  first_works l h = h ∙ sym (ap (λ (z : Plain). working z z.asleep) e ∙ opening_works P n)

  pub nobody_complete : None ≡ find (is_complete b) b.living
  nobody_complete = sym (none_complete b (ap (λ (z : Plain). not (is_empty z.closed)) e))

-- ---- a commit

-- the answer tells of a limit where there is one
done_limit : (o : Option Reason) → applied_as o ≡ applied_as None → o ≡ None
done_limit None e = refl
done_limit (Some r) e = absurd (cc)

-- a fork that comes to no limit finds room
room_to_fork : (b : Plain) (p : Name) (crowded full : Bool) → nat_le most_living (length b.living) ≡ crowded → first_some (some_if crowded Processes ∷ some_if full Nodes ∷ []) ≡ None → length b.living < most_living
room_to_fork b p true full e h = none_some (sym h)
room_to_fork b p false full e h = leb-false most_living (length b.living) e

module _ (state : Plain) (flight : List Ticket) (J : List Entry) (t : Ticket) (x : Proposed) (legal : IsLegalBoard (seen state flight J)) (none : verdict (record state { flight = flight }) ≡ None) (flying : Contains flight t) (proposal : IsProposalOf (seen state flight J) t x) where
  living_short : (p : Name) → has state.living p ≡ true → length p < length state.living
  living_short p lives =
      let s = seen state flight J in
      let r = legal.after in
      (leaves-forked state.living (living_forked IsFreeJob s.plain.problem s.plain.settings r.0 s.plain (legal-possible s.plain.problem s.plain.settings r.0 s.plain r.2)).forked).short p lives

  fork_short : (y : Proposed) → HasNamed state y → limit_of state y ≡ None → IsShort y
  fork_short (Both p n c0 c1) named e =
      let room = room_to_fork state p (nat_le most_living (length state.living)) (is_full state (Both p n c0 c1)) refl e in
      omega (arith, room, living_short p named.1)
  fork_short (Facts fs) named e = tt
  fork_short (Rewrite m w at found k u) named e = tt
  fork_short (One p n d c) named e = tt
  fork_short (Refuse p n) named e = tt
  fork_short (Deduce a c pairs) named e = tt
  fork_short (Unjoined p pairs) named e = tt
  fork_short (Closed p) named e = tt
  fork_short (Limit j cause) named e = tt

  -- the list that follows the commit is of those who work after it
  pub works_on : IsFalse (is_dropped (record state { flight = flight }) x) → (s : Plain) (l m : Vec Placed Global) → s ≡ acted state x → IsWorking state l → processes_in m.items ≡ still_working s (limit_of state x) x (processes_in l.items)
      → vec_capacity l ≤ vec_capacity m → IsWorking s m
  works_on acts s l m e h names room = record {
    all =
        names ∙ ap (still_working s (limit_of state x) x) h.all
        ∙ ap (λ (z : Plain). still_working z (limit_of state x) x (working state state.asleep)) e
        ∙ sym (works_after state flight J t x legal none flying proposal acts)
        ∙ sym (ap (λ (z : Plain). working z z.asleep) e);
    room = let k = h.room in omega (arith, k, room);
  }

  -- and the process that it completes is the first that is complete, whoever then sleeps
  pub completes_on : IsFalse (is_dropped (record state { flight = flight }) x) → (s u : Plain) (o : Option Name) → s ≡ acted state x → u ≡ settle s → o ≡ completed_by s (limit_of state x) x → o ≡ find (is_complete u) u.living
  completes_on acts s u o e f h =
      h ∙ ap (λ (z : Plain). completed_by z (limit_of state x) x) e
      ∙ sym (completes_after state flight J t x legal none flying proposal acts)
      ∙ sym (ap (λ (z : Plain). find (is_complete z) z.living) (f ∙ ap settle e))

  pub short_fork : (a : Applied) → a ≡ applied_as (limit_of state x) → a ≡ applied_as None → IsShort x
  short_fork a e f = fork_short x (state_named state flight J t x legal none flying proposal) (done_limit (limit_of state x) (sym e ∙ f))
