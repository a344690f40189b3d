-- Who works after a commit, and which process it completes.
use Rattle.std.proofs.Common.{ℕ, ◌≤◌, ◌≡◌, ◌≢◌, refl, sym, ap, ap₂, ◌∙◌, subst, List, [], ◌∷◌, map, length, filter, Contains, Bool, true, false, cond, not, ◌&&◌, ◌||◌, ◌==◌, Option, Some, None, ⊎_elim}
use Rattle.std.specs.Prelude.{IsFalse, option_map, option_and_then}
use Rattle.std.specs.List.{find, list_all, list_any}
use Rattle.std.specs.Option.{option_map_or}
use Rattle.std.proofs.Math.Bool.{and-false, and-true, or-false}
use Rattle.std.proofs.lemmas.Bool.{or_cases, or_left, or_right}
use Rattle.kb_lemmas.proofs.Booleans.{and_gives_left, and_gives_right}
use Rattle.kb_lemmas.proofs.Membership.{contains_behind, contains_first}
use Rattle.kb_lemmas.proofs.Options.{none_some}
use Rattle.kb_term.specs.Signature.{Problem}
use Rattle.kb_label.specs.Names.{Name, root, add, child, has, join, minus, name_eq, relabel, IsInNameOrder}
use Rattle.kb_label.specs.declared.verdict.Reason.{Reason}
use Rattle.kb_label.specs.declared.verdict.Spent.TheVariants.{Commits, Over}
use Rattle.kb_label.specs.declared.verdict.Verdict.TheVariants.{Complete, AllFailed, Spent as IsSpent}
use Rattle.kb_label.proofs.Members.{has-add, has-filter, has-join, has-minus, name_eq-eq, name_eq-refl}
use Rattle.kb_label.proofs.Ordered.{ordered-add, ordered-filter}
use Rattle.kb_label.proofs.Sets.{has-relabel, relabel-absent, same_names}
use Rattle.kb_node.specs.declared.node.NodeId.{NodeId}
use Rattle.kb_cert.specs.declared.certificate.Certificate.{Certificate}
use Rattle.kb_node.specs.declared.node.LabelKind.TheVariants.{E}
use Rattle.mkb_model.specs.Plain.{Plain, PlainNode, GivenUp, equations_of, is_over, over_reason}
use Rattle.mkb_model.specs.Effects.{acted, applied, counted, effect, effect_label, give_up, is_dropped, limit_of, not_over, reason_eq, some_if}
use Rattle.mkb_model.specs.Invariants.{AreApart}
use Rattle.mkb_model.specs.Sleeping.{is_active, is_failed, most_awake, no_members, working}
use Rattle.mkb_model.specs.Verdicts.{first_over, is_complete, verdict}
use Rattle.mkb_model.specs.Journals.{Moment, IsFinishing, IsFreeJob, IsPossibleRun, opening}
use Rattle.mkb_model.specs.Ready.{KeepsPairs}
use Rattle.mkb_model.specs.declared.entry.Entry.{Entry}
use Rattle.mkb_model.specs.declared.entry.Entry.TheVariants.{Take}
use Rattle.mkb_model.specs.declared.entry.Ticket.{Ticket}
use Rattle.mkb_model.specs.declared.proposed.Proposed.{Proposed}
use Rattle.mkb_model.specs.declared.proposed.Proposed.TheVariants.{Facts, Rewrite, One, Both, Refuse, Deduce, Unjoined, Closed, Limit}
use Rattle.mkb_model.specs.declared.settings.Settings.{Settings}
use Rattle.mkb_model.proofs.Lists.{clash, decide, false_unless, filter_in, find_none, not_true, of_all}
use Rattle.mkb_model.proofs.closing.RestInRuns.{IsForkOfClosed, IsResting, Stands, not_forked, resting_run, stands_run, stays}
use Rattle.mkb_model.proofs.closing.StillClosed.{same_equations}
use Rattle.mkb_model.proofs.commits.Bystanders.{IsUnmoved}
use Rattle.mkb_model.proofs.commits.Commits.{orients, pairs-applied}
use Rattle.mkb_model.proofs.commits.Roles.{KeepsRoles, relabel-child, relabel-other}
use Rattle.mkb_model.proofs.labels.AtMostSixtyFour.{sleepers_run}
use Rattle.mkb_model.proofs.labels.LivingLabels.{ActorLives, IsLabelled, actor_lives}
use Rattle.mkb_model.proofs.labels.NameLists.{IsLabelOf}
use Rattle.mkb_model.proofs.labels.Sleepers.{in_working, working_ordered}
use Rattle.mkb_model.proofs.nodes.DistinctPairs.{pairs_stay}
use Rattle.mkb_model.proofs.runs.Endings.{in_has, nones}
use Rattle.mkb_model.proofs.runs.Selections.{legal-possible}
use Rattle.mkb_model.proofs.runs.Simulation.{begins-child}
use Rattle.mkb_model.proofs.tickets.InFlight.{taken_free}
use Rattle.mkb_board.specs.Boards.{seen, IsLegalBoard}
use Rattle.mkb_board.specs.Choosing.{ClosedRest}
use Rattle.mkb_board.specs.Takes.{IsProposalOf}
use Rattle.mkb_board.specs.Working.{completed_by, still_working}
use Rattle.mkb_board.proofs.AtRest.{legal_rest, opening_rest}
use Rattle.mkb_board.proofs.Ends.{dropped_flying, effect_flying, finishing}
use Rattle.mkb_board.proofs.Idle.{failed_closed}
use Rattle.mkb_board.proofs.Ready.{acted_labels, acted_rest}

-- ---- while a run goes on

-- at most 64 work
pub few_work : (state : Plain) (flight : List Ticket) (J : List Entry) → IsLegalBoard (seen state flight J) → length (working state state.asleep) ≤ most_awake
few_work state flight J legal =
    let s = seen state flight J in
    let r = legal.after in
    (sleepers_run s.plain.problem s.plain.settings r.0 s.plain (legal-possible s.plain.problem s.plain.settings r.0 s.plain r.2)).few

-- who works lives and is active
works_so : (b : Plain) (p : Name) → Contains (working b b.asleep) p → Contains b.living p × (is_active b p ≡ true)
works_so b p i = let k = filter_in (is_active b) (minus b.living b.asleep) p i in ((filter_in (λ q. not (has b.asleep q)) b.living p k.0).0, k.1)

-- while somebody works not all have failed, nor failed or given up
pub some_work : (b : Plain) → working b b.asleep ≢ [] → (list_all (is_failed b) b.living ≡ false) × (list_all (λ p. is_failed b p || is_over b p) b.living ≡ false)
some_work b h = go (working b b.asleep) (λ p i. i) h
  where
    on : (p : Name) → is_active b p ≡ true → is_failed b p ≡ false
    on p a = not_true (and_gives_left (not (is_failed b p)) (not (is_over b p)) a)

    going : (p : Name) → is_active b p ≡ true → is_over b p ≡ false
    going p a = not_true (and_gives_right (not (is_failed b p)) (not (is_over b p)) a)

    go : (l : List Name) → ((p : Name) → Contains l p → Contains (working b b.asleep) p) → l ≢ [] → (list_all (is_failed b) b.living ≡ false) × (list_all (λ p. is_failed b p || is_over b p) b.living ≡ false)
    go [] within h = absurd (h refl)
    go (p ∷ l) within h =
        let k = works_so b p (within p (contains_first p l)) in (
          false_unless (list_all (is_failed b) b.living) (λ all. clash (of_all (is_failed b) b.living all p k.0) (on p k.1)),
          false_unless (list_all (λ p. is_failed b p || is_over b p) b.living) (λ all. ⊎_elim (λ f. clash f (on p k.1)) (λ o. clash o (going p k.1)) (or_cases (is_failed b p) (is_over b p) (of_all (λ p. is_failed b p || is_over b p) b.living all p k.0))),
        )

-- the first process alone works at the opening
pub opening_works : (P : Problem) (n : Settings) → working (opening P n) (opening P n).asleep ≡ root ∷ []
opening_works P n = ap (λ x. cond (not x && true) (root ∷ []) []) (failed_closed (opening P n) root (opening_rest P n (opening P n) refl) refl)

-- ---- who is active

-- whether a process is active, by whether it is closed, has no equation and gave up
abbrev goes_on : Bool → Bool → Bool → Bool
goes_on closed none over = not (closed && not none) && not over

active_as : (b : Plain) (p : Name) → ClosedRest b → has b.living p ≡ true → is_active b p ≡ goes_on (has b.closed p) (no_members (equations_of b p)) (is_over b p)
active_as b p rest lives = ap (λ x. not x && not (is_over b p)) (failed_closed b p rest lives)

-- the equations of who is not closed don't matter
open_alike : (closed n m over : Bool) → (closed ≡ true → n ≡ m) → goes_on closed n over ≡ goes_on closed m over
open_alike true n m over h = ap (λ z. goes_on true z over) (h refl)
open_alike false n m over h = refl

-- who gave up before has given up after
given_up : (f before after : Bool) → (before ≡ true → after ≡ true) → (f && not after) ≡ (not after && (f && not before))
given_up f before true h = and-false f
given_up f false false h = refl
given_up f true false h = clash (h refl) refl

-- who is closed goes on where it has no equation, and else has failed
closing : (it closed none over done : Bool) → (it ≡ true → none ≡ done) → goes_on (it || closed) none over ≡ (cond done true (not it) && goes_on closed none over)
closing false closed none over true h = refl
closing false closed none over false h = refl
closing true true none over true h = refl
closing true false none over true h = ap (λ z. goes_on true z over) (h refl) ∙ sym (ap (λ z. goes_on false z over) (h refl))
closing true closed none over false h = ap (λ z. goes_on true z over) (h refl)

and_assoc : (x y z : Bool) → (x && (y && z)) ≡ ((x && y) && z)
and_assoc true y z = refl
and_assoc false y z = refl

-- two tests that agree for the living
for_living : (x y a : Bool) (lives : Bool) → (lives ≡ true → x ≡ y) → (x && (a && lives)) ≡ (y && (a && lives))
for_living x y a true h = ap (λ z. z && (a && true)) (h refl)
for_living x y a false h = ap (λ z. x && z) (and-false a) ∙ and-false x ∙ sym (ap (λ z. y && z) (and-false a) ∙ and-false y)

-- ---- lists

none_of : {A : Type 0} (f : A → Bool) (xs : List A) → ((x : A) → Contains xs x → f x ≡ false) → find f xs ≡ None
none_of f [] h = refl
none_of f (x ∷ xs) h = ap (λ z. cond z (Some x) (find f xs)) (h x (contains_first x xs)) ∙ none_of f xs (λ y i. h y (contains_behind x xs y i))

-- what is found where at most one name passes
found_one : (f : Name → Bool) (p : Name) (k : Bool) (l : List Name) → ((q : Name) → Contains l q → f q ≡ (name_eq q p && k)) → has l p ≡ true → find f l ≡ cond k (Some p) None
found_one f p false l h lives = none_of f l (λ q i. h q i ∙ and-false (name_eq q p))
found_one f p true [] h lives = clash lives refl
found_one f p true (q ∷ l) h lives = go (found_one f p true l (λ r i. h r (contains_behind q l r i))) (name_eq q p) refl
  where
    later : name_eq q p ≡ false → has l p ≡ true
    later e = ⊎_elim (λ k. clash (subst {A = Name} (λ z. name_eq z p ≡ true) (name_eq-eq p q k) (name_eq-refl p)) e) (λ k. k) (or_cases (name_eq p q) (has l p) lives)

    go : (has l p ≡ true → find f l ≡ Some p) → (x : Bool) → name_eq q p ≡ x → find f (q ∷ l) ≡ Some p
    go ih true e = ap (λ z. cond z (Some q) (find f l)) (h q (contains_first q l) ∙ ap (λ z. z && true) e) ∙ ap Some (name_eq-eq q p e)
    go ih false e = ap (λ z. cond z (Some q) (find f l)) (h q (contains_first q l) ∙ ap (λ z. z && true) e) ∙ ih (later e)

-- who gave up, where each list names q as it named p
over_as : (f : GivenUp → GivenUp) (p q : Name) (gs : List GivenUp) → ((g : GivenUp) → Contains gs g → has (f g).names q ≡ has g.names p) → list_any (λ (g : GivenUp). has g.names q) (map f gs) ≡ list_any (λ (g : GivenUp). has g.names p) gs
over_as f p q [] h = refl
over_as f p q (g ∷ gs) h = ap₂ (λ (x y : Bool). x || y) (h g (contains_first g gs)) (over_as f p q gs (λ k i. h k (contains_behind g gs k i)))

-- who gave up has given up after more did
over_more : (f : GivenUp → GivenUp) (p : Name) → ((g : GivenUp) → has g.names p ≡ true → has (f g).names p ≡ true) → (gs : List GivenUp) → list_any (λ (g : GivenUp). has g.names p) gs ≡ true → list_any (λ (g : GivenUp). has g.names p) (map f gs) ≡ true
over_more f p more [] h = h
over_more f p more (g ∷ gs) h = ⊎_elim (λ k. or_left (has (f g).names p) (list_any (λ (g : GivenUp). has g.names p) (map f gs)) (more g k)) (λ k. or_right (has (f g).names p) (list_any (λ (g : GivenUp). has g.names p) (map f gs)) (over_more f p more gs k)) (or_cases (has g.names p) (list_any (λ (g : GivenUp). has g.names p) gs) h)

-- ---- a commit that comes to this limit, or to none

-- what the commit does
abbrev acted_at : Plain → Proposed → Option Reason → Plain
acted_at b x o = counted (option_map_or (λ r. give_up r (effect_label b x) b) o (applied b x))

-- what is known of the board and the proposal
record IsActing (b : Plain) (x : Proposed) (o : Option Reason) : Type 0 where
  rest : ClosedRest b
  rests : ClosedRest (acted_at b x o)
  labelled : IsLabelled b
  in_order : IsInNameOrder (acted_at b x o).living
  apart : AreApart b.living
  lives : ActorLives b x
  acts : IsFalse (is_dropped b x)
  unforked : ¬ IsForkOfClosed b x
  stays : (q : Name) → has b.closed q ≡ true → equations_of (acted_at b x o) q ≡ equations_of b q
  incomplete : find (is_complete b) b.living ≡ None

-- ---- at a limit

module _ (b : Plain) (x : Proposed) (r : Reason) (h : IsActing b x (Some r)) where
  abbrev limited : Plain
  limited = acted_at b x (Some r)

  more_over : (q : Name) → is_over b q ≡ true → is_over limited q ≡ true
  more_over q = over_more (λ (g : GivenUp). cond (reason_eq g.reason r) (record g { names = join g.names (not_over b (effect_label b x)) }) g) q (λ g k. named g k (reason_eq g.reason r)) b.over
    where
      named : (g : GivenUp) → has g.names q ≡ true → (y : Bool) → has (cond y (record g { names = join g.names (not_over b (effect_label b x)) }) g).names q ≡ true
      named g k true = has-join g.names (not_over b (effect_label b x)) q ∙ or_left (has g.names q) (has (not_over b (effect_label b x)) q) k
      named g k false = k

  works_limited : working limited limited.asleep ≡ filter (λ p. not (is_over limited p)) (working b b.asleep)
  works_limited = same_names (working limited limited.asleep) (filter (λ p. not (is_over limited p)) (working b b.asleep)) (working_ordered limited h.in_order b.asleep) (ordered-filter (λ p. not (is_over limited p)) (working b b.asleep) (working_ordered b h.labelled.alive b.asleep)) (λ q.
      in_working limited b.asleep q
      ∙ for_living (is_active limited q) (not (is_over limited q) && is_active b q) (not (has b.asleep q)) (has b.living q) (λ lives. active_as limited q h.rests lives ∙ given_up (not (has b.closed q && not (no_members (equations_of b q)))) (is_over b q) (is_over limited q) (more_over q) ∙ sym (ap (λ z. not (is_over limited q) && z) (active_as b q h.rest lives)))
      ∙ sym (and_assoc (not (is_over limited q)) (is_active b q) (not (has b.asleep q) && has b.living q))
      ∙ sym (has-filter (λ p. not (is_over limited p)) (working b b.asleep) q ∙ ap (λ z. not (is_over limited q) && z) (in_working b b.asleep q)))

-- ---- without a limit

module _ (b : Plain) (x : Proposed) (h : IsActing b x None) where
  abbrev made : Plain
  made = acted_at b x None

  -- who is closed or not as before, and gave up or not as before, is active or not as before
  active_so : (q : Name) → has made.living q ≡ true → has b.living q ≡ true → has made.closed q ≡ has b.closed q → is_over made q ≡ is_over b q → is_active made q ≡ is_active b q
  active_so q lives before closed over =
      active_as made q h.rests lives
      ∙ ap₂ (λ (y z : Bool). goes_on y (no_members (equations_of made q)) z) closed over
      ∙ open_alike (has b.closed q) (no_members (equations_of made q)) (no_members (equations_of b q)) (is_over b q) (λ k. ap (λ (l : List ℕ). no_members l) (h.stays q k))
      ∙ sym (active_as b q h.rest before)

  -- where these lists are as before the same work
  works_alike : made.living ≡ b.living → made.asleep ≡ b.asleep → made.closed ≡ b.closed → made.over ≡ b.over → working made made.asleep ≡ working b b.asleep
  works_alike living asleep closed over = same_names (working made made.asleep) (working b b.asleep) (working_ordered made h.in_order made.asleep) (working_ordered b h.labelled.alive b.asleep) (λ q.
      in_working made made.asleep q
      ∙ ap₂ (λ (a l : List Name). is_active made q && (not (has a q) && has l q)) asleep living
      ∙ for_living (is_active made q) (is_active b q) (not (has b.asleep q)) (has b.living q) (λ lives. active_so q (ap (λ (l : List Name). has l q) living ∙ lives) lives (ap (λ (l : List Name). has l q) closed) (ap (λ (gs : List GivenUp). list_any (λ (g : GivenUp). has g.names q) gs) over))
      ∙ sym (in_working b b.asleep q))

  -- none is complete of those that were closed before
  closed_incomplete : (q : Name) → has b.closed q ≡ true → no_members (equations_of b q) ≡ false
  closed_incomplete q k = go (no_members (equations_of b q)) (find_none (is_complete b) b.living h.incomplete q (in_has b.living q (h.labelled.closed.lives q k)))
    where
      go : (y : Bool) → (y && has b.closed q) ≡ false → y ≡ false
      go true e = clash k e
      go false e = refl

  -- so where none was closed none is complete
  none_completes : ((q : Name) → has made.closed q ≡ true → has b.closed q ≡ true) → find (is_complete made) made.living ≡ None
  none_completes closed = none_of (is_complete made) made.living (λ q i. go q (has made.closed q) refl)
    where
      go : (q : Name) (y : Bool) → has made.closed q ≡ y → (no_members (equations_of made q) && y) ≡ false
      go q true e = let k = closed q e in ap (λ (l : List ℕ). no_members l && true) (h.stays q k) ∙ ap (λ z. z && true) (closed_incomplete q k)
      go q false e = and-false (no_members (equations_of made q))

-- ---- a closing

module _ (b : Plain) (p : Name) (h : IsActing b (Closed p) None) where
  abbrev shut : Plain
  shut = acted_at b (Closed p) None

  abbrev done : Bool
  done = no_members (equations_of shut p)

  done_as : (q : Name) → name_eq q p ≡ true → no_members (equations_of b q) ≡ done
  done_as q e = ap (λ z. no_members (equations_of b z)) (name_eq-eq q p e)

  left : (l : List Name) (q : Name) (y : Bool) → has (cond y l (minus l (p ∷ []))) q ≡ (cond y true (not (name_eq q p)) && has l q)
  left l q true = refl
  left l q false = has-minus l (p ∷ []) q ∙ ap (λ z. not z && has l q) (or-false (name_eq q p))

  left_ordered : (l : List Name) (y : Bool) → IsInNameOrder l → IsInNameOrder (cond y l (minus l (p ∷ [])))
  left_ordered l true k = k
  left_ordered l false k = ordered-filter (λ q. not (has (p ∷ []) q)) l k

  active_shut : (q : Name) → has b.living q ≡ true → is_active shut q ≡ (cond done true (not (name_eq q p)) && is_active b q)
  active_shut q lives =
      active_as shut q h.rests lives
      ∙ ap (λ z. goes_on z (no_members (equations_of b q)) (is_over b q)) (has-add p b.closed q)
      ∙ closing (name_eq q p) (has b.closed q) (no_members (equations_of b q)) (is_over b q) done (done_as q)
      ∙ sym (ap (λ z. cond done true (not (name_eq q p)) && z) (active_as b q h.rest lives))

  works_shut : working shut shut.asleep ≡ cond done (working b b.asleep) (minus (working b b.asleep) (p ∷ []))
  works_shut = same_names (working shut shut.asleep) (cond done (working b b.asleep) (minus (working b b.asleep) (p ∷ []))) (working_ordered shut h.in_order b.asleep) (left_ordered (working b b.asleep) done (working_ordered b h.labelled.alive b.asleep)) (λ q.
      in_working shut b.asleep q
      ∙ for_living (is_active shut q) (cond done true (not (name_eq q p)) && is_active b q) (not (has b.asleep q)) (has b.living q) (active_shut q)
      ∙ sym (and_assoc (cond done true (not (name_eq q p))) (is_active b q) (not (has b.asleep q) && has b.living q))
      ∙ sym (left (working b b.asleep) q done ∙ ap (λ z. cond done true (not (name_eq q p)) && z) (in_working b b.asleep q)))

  completes_shut : find (is_complete shut) shut.living ≡ cond done (Some p) None
  completes_shut = found_one (is_complete shut) p done b.living (λ q i. ap (λ z. no_members (equations_of b q) && z) (has-add p b.closed q) ∙ go q (name_eq q p) refl (find_none (is_complete b) b.living h.incomplete q i)) h.lives
    where
      go : (q : Name) (y : Bool) → name_eq q p ≡ y → (no_members (equations_of b q) && has b.closed q) ≡ false → (no_members (equations_of b q) && (y || has b.closed q)) ≡ (y && done)
      go q true e k = and-true (no_members (equations_of b q)) ∙ done_as q e
      go q false e k = k

-- ---- a fork

-- a name is none of its children's
unlike : (p : Name) (bit : Bool) → name_eq p (child p bit) ≡ false
unlike [] bit = refl
unlike (true ∷ p) bit = unlike p bit
unlike (false ∷ p) bit = unlike p bit

-- after its fork a process is named no more
relabel-itself : (p : Name) (l : List Name) → has (relabel p l) p ≡ false
relabel-itself p l = ⊎_elim named (λ e. ap (λ (m : List Name). has m p) (relabel-absent p l e) ∙ e) (decide (has l p))
  where
    gone : (x y z : Bool) → x ≡ false → y ≡ false → z ≡ true → (x || (y || (not z && has l p))) ≡ false
    gone x y z e f g = ap (λ w. w || (y || (not z && has l p))) e ∙ ap (λ w. w || (not z && has l p)) f ∙ ap (λ w. not w && has l p) g

    named : has l p ≡ true → has (relabel p l) p ≡ false
    named k = has-relabel p p l k ∙ gone (name_eq p (child p false)) (name_eq p (child p true)) (name_eq p p) (unlike p false) (unlike p true) (name_eq-refl p)

relabel-ordered : (p : Name) (l : List Name) → IsInNameOrder l → IsInNameOrder (relabel p l)
relabel-ordered p l k = go (has l p)
  where
    go : (y : Bool) → IsInNameOrder (cond y (add (child p false) (add (child p true) (minus l (p ∷ [])))) l)
    go true = ordered-add (child p false) (add (child p true) (minus l (p ∷ []))) (ordered-add (child p true) (minus l (p ∷ [])) (ordered-filter (λ q. not (has (p ∷ []) q)) l k))
    go false = k

module _ (b : Plain) (p : Name) (n : NodeId) (c0 c1 : Certificate) (h : IsActing b (Both p n c0 c1) None) where
  abbrev forked : Plain
  forked = acted_at b (Both p n c0 c1) None

  parent_lives : has b.living p ≡ true
  parent_lives = (h.labelled.nodes n.0 E).lives p (orients b p n.0 h.acts)

  parent_open : has b.closed p ≡ false
  parent_open = false_unless (has b.closed p) h.unforked

  -- a label names no child
  fresh : (bit : Bool) (l : List Name) → IsLabelOf b.living l → has l (child p bit) ≡ false
  fresh bit l k = false_unless (has l (child p bit)) (λ named. clash (subst {A = Name} (λ z. name_eq p z ≡ true) (h.apart p (child p bit) parent_lives (k.lives (child p bit) named) (begins-child p bit)) (name_eq-refl p)) (unlike p bit))

  alive : IsLabelOf b.living b.living
  alive = record { ordered = h.labelled.alive; lives = λ q k. k }

  working_label : IsLabelOf b.living (working b b.asleep)
  working_label = record {
    ordered = working_ordered b h.labelled.alive b.asleep;
    lives = λ q k. and_gives_right (not (has b.asleep q)) (has b.living q) (and_gives_right (is_active b q) (not (has b.asleep q) && has b.living q) (sym (in_working b b.asleep q) ∙ k));
  }

  child_named : (bit : Bool) (l : List Name) → IsLabelOf b.living l → has (relabel p l) (child p bit) ≡ has l p
  child_named bit l k = relabel-child p bit l (fresh bit l k)

  -- a child is active where its parent was
  child_active : (bit : Bool) → is_active forked (child p bit) ≡ is_active b p
  child_active bit =
      let q = child p bit in
      active_as forked q h.rests (child_named bit b.living alive ∙ parent_lives)
      ∙ ap₂ (λ (y z : Bool). goes_on y (no_members (equations_of forked q)) z) (child_named bit b.closed h.labelled.closed ∙ parent_open) (over_as (λ (g : GivenUp). record g { names = relabel p g.names }) p q b.over (λ g i. child_named bit g.names (h.labelled.over g i)))
      ∙ sym (ap (λ z. goes_on z (no_members (equations_of b p)) (is_over b p)) parent_open)
      ∙ sym (active_as b p h.rest parent_lives)

  works_child : (bit : Bool) → has (working forked forked.asleep) (child p bit) ≡ has (relabel p (working b b.asleep)) (child p bit)
  works_child bit =
      in_working forked forked.asleep (child p bit)
      ∙ ap₂ (λ (y z : Bool). y && (not z && has forked.living (child p bit))) (child_active bit) (child_named bit b.asleep h.labelled.asleep)
      ∙ ap (λ z. is_active b p && (not (has b.asleep p) && z)) (child_named bit b.living alive)
      ∙ sym (child_named bit (working b b.asleep) working_label ∙ in_working b b.asleep p)

  works_parent : has (working forked forked.asleep) p ≡ has (relabel p (working b b.asleep)) p
  works_parent =
      in_working forked forked.asleep p
      ∙ ap (λ z. is_active forked p && (not (has forked.asleep p) && z)) (relabel-itself p b.living)
      ∙ ap (λ z. is_active forked p && z) (and-false (not (has forked.asleep p)))
      ∙ and-false (is_active forked p)
      ∙ sym (relabel-itself p (working b b.asleep))

  module _ (q : Name) (itself : name_eq q p ≡ false) (first : name_eq q (child p false) ≡ false) (second : name_eq q (child p true) ≡ false) where
    other : (l : List Name) → has (relabel p l) q ≡ has l q
    other l = relabel-other p q l itself first second

    works_other : has (working forked forked.asleep) q ≡ has (relabel p (working b b.asleep)) q
    works_other =
        in_working forked forked.asleep q
        ∙ ap₂ (λ (a l : Bool). is_active forked q && (not a && l)) (other b.asleep) (other b.living)
        ∙ for_living (is_active forked q) (is_active b q) (not (has b.asleep q)) (has b.living q) (λ lives. active_so b (Both p n c0 c1) h q (other b.living ∙ lives) lives (other b.closed) (over_as (λ (g : GivenUp). record g { names = relabel p g.names }) q q b.over (λ g i. other g.names)))
        ∙ sym (other (working b b.asleep) ∙ in_working b b.asleep q)

  works_each : (q : Name) → has (working forked forked.asleep) q ≡ has (relabel p (working b b.asleep)) q
  works_each q = ⊎_elim (at p works_parent) (λ e. ⊎_elim (at (child p false) (works_child false)) (λ f. ⊎_elim (at (child p true) (works_child true)) (works_other q e f) (decide (name_eq q (child p true)))) (decide (name_eq q (child p false)))) (decide (name_eq q p))
    where
      at : (r : Name) → has (working forked forked.asleep) r ≡ has (relabel p (working b b.asleep)) r → name_eq q r ≡ true → has (working forked forked.asleep) q ≡ has (relabel p (working b b.asleep)) q
      at r k e = subst {A = Name} (λ z. has (working forked forked.asleep) z ≡ has (relabel p (working b b.asleep)) z) (sym (name_eq-eq q r e)) k

  works_forked : working forked forked.asleep ≡ relabel p (working b b.asleep)
  works_forked = same_names (working forked forked.asleep) (relabel p (working b b.asleep)) (working_ordered forked h.in_order forked.asleep) (relabel-ordered p (working b b.asleep) (working_ordered b h.labelled.alive b.asleep)) works_each

  completes_forked : find (is_complete forked) forked.living ≡ None
  completes_forked = none_completes b (Both p n c0 c1) h (λ q k. subst {A = List Name} (λ l. has l q ≡ true) (relabel-absent p b.closed parent_open) k)

-- ---- any commit

works_at : (b : Plain) (x : Proposed) (o : Option Reason) → IsActing b x o → working (acted_at b x o) (acted_at b x o).asleep ≡ still_working (acted_at b x o) o x (working b b.asleep)
works_at b x (Some r) h = works_limited b x r h
works_at b (Both p n c0 c1) None h = works_forked b p n c0 c1 h
works_at b (Closed p) None h = works_shut b p h
works_at b (Facts fs) None h = works_alike b (Facts fs) h refl refl refl refl
works_at b (Rewrite n w at a found t) None h = works_alike b (Rewrite n w at a found t) h refl refl refl refl
works_at b (One p n d c) None h = works_alike b (One p n d c) h refl refl refl refl
works_at b (Refuse p n) None h = works_alike b (Refuse p n) h refl refl refl refl
works_at b (Deduce a c pairs) None h = works_alike b (Deduce a c pairs) h refl refl refl refl
works_at b (Unjoined p pairs) None h = works_alike b (Unjoined p pairs) h refl refl refl refl
works_at b (Limit j cause) None h = works_alike b (Limit j cause) h refl refl refl refl

completes_at : (b : Plain) (x : Proposed) (o : Option Reason) → IsActing b x o → find (is_complete (acted_at b x o)) (acted_at b x o).living ≡ completed_by (acted_at b x o) o x
completes_at b x (Some r) h = h.incomplete
completes_at b (Both p n c0 c1) None h = completes_forked b p n c0 c1 h
completes_at b (Closed p) None h = completes_shut b p h
completes_at b (Facts fs) None h = none_completes b (Facts fs) h (λ q k. k)
completes_at b (Rewrite n w at a found t) None h = none_completes b (Rewrite n w at a found t) h (λ q k. k)
completes_at b (One p n d c) None h = none_completes b (One p n d c) h (λ q k. k)
completes_at b (Refuse p n) None h = none_completes b (Refuse p n) h (λ q k. k)
completes_at b (Deduce a c pairs) None h = none_completes b (Deduce a c pairs) h (λ q k. k)
completes_at b (Unjoined p pairs) None h = none_completes b (Unjoined p pairs) h (λ q k. k)
completes_at b (Limit j cause) None h = none_completes b (Limit j cause) h (λ q k. k)

-- ---- on a legal board

unmapped : {A B : Type 0} (f : A → B) (o : Option A) → option_map f o ≡ None → o ≡ None
unmapped f None e = refl
unmapped f (Some x) e = none_some (sym e)

pairs_at : (b : Plain) (x : Proposed) (o : Option Reason) → KeepsPairs b.nodes (acted_at b x o).nodes
pairs_at b x None = pairs-applied b x
pairs_at b x (Some r) = λ m q e. e

module _ (state : Plain) (flight : List Ticket) (J : List Entry) (t : Ticket) (x : Proposed) (legal : IsLegalBoard (seen state flight J)) (none : verdict (record state { flight = flight }) ≡ None) (flying : Contains flight t) (proposal : IsProposalOf (seen state flight J) t x) (acts : IsFalse (is_dropped (record state { flight = flight }) x)) where
  -- the board with what flies
  abbrev board : Plain
  board = record state { flight = flight }

  abbrev moments : List Moment
  moments = legal.after.0

  run : IsPossibleRun board.problem board.settings moments board
  run = legal-possible board.problem board.settings moments board legal.after.2

  finished : IsFinishing moments board t.worker t.number t.job x
  finished = finishing (seen state flight J) t x none flying proposal moments legal.after.1 legal.after.2

  stands : Stands board
  stands = stands_run board.problem board.settings moments board run

  resting : IsResting board
  resting = resting_run board.problem board.settings moments board run

  free : IsFreeJob finished.before t.job
  free = (taken_free board.problem board.settings moments board run finished.before t.worker t.number t.job finished.taken).0

  keeps : KeepsPairs finished.before.nodes board.nodes
  keeps = pairs_stay IsFreeJob board.problem board.settings moments board run (record { board = finished.before; entry = Take t.worker t.number t.job }) finished.taken

  unmoved : (q : Name) → has state.closed q ≡ true → IsUnmoved board (effect board x) q
  unmoved q k = stays finished.before board t.worker t.number t.job x finished.proposed free keeps flying acts stands resting q (resting.closed q k) (stands.labelled.closed.lives q k) (λ own. resting.no_own q k t flying own)

  roles_stay : (q : Name) → has state.closed q ≡ true → KeepsRoles state.nodes (acted state x).nodes q
  roles_stay q k = subst {A = List PlainNode} (λ ns. KeepsRoles state.nodes ns q) (ap (λ (z : Plain). z.nodes) (effect_flying state flight x)) (unmoved q k).roles

  labels : IsLabelled state
  labels = let k = stands.labelled in record { alive = k.alive; nodes = k.nodes; done = k.done; closed = k.closed; over = k.over; asleep = k.asleep }

  acting : IsActing state x (limit_of state x)
  acting = record {
    rest = legal_rest state flight J legal;
    rests = acted_rest state flight J t x legal none flying proposal acts;
    labelled = labels;
    in_order = (acted_labels state flight J t x legal none flying proposal acts).alive;
    apart = stands.apart;
    lives = actor_lives finished.before board t x finished.proposed stands.owners flying;
    acts = sym (dropped_flying state flight x) ∙ acts;
    unforked = not_forked finished.before board t.worker t.number t.job x finished.proposed free keeps flying acts stands resting x finished.proposed;
    stays = λ q k. same_equations state (acted state x) q (roles_stay q k) (pairs_at state x (limit_of state x));
    incomplete = unmapped Complete (find (is_complete board) board.living)
        (nones (option_map Complete (find (is_complete board) board.living)) (some_if (list_all (is_failed board) board.living) AllFailed) (some_if (board.commits == board.settings.budget) (IsSpent Commits)) (cond (list_all (λ p. is_failed board p || is_over board p) board.living) (option_map (λ r. IsSpent (Over r)) (option_and_then (over_reason board) (first_over board))) None) none).0;
  }

  -- who works after the commit
  pub works_after : working (acted state x) (acted state x).asleep ≡ still_working (acted state x) (limit_of state x) x (working state state.asleep)
  works_after = works_at state x (limit_of state x) acting

  -- which process is complete after the commit: none was before
  pub completes_after : find (is_complete (acted state x)) (acted state x).living ≡ completed_by (acted state x) (limit_of state x) x
  completes_after = completes_at state x (limit_of state x) acting
