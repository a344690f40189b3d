-- What each commit leaves of the jobs of each process.
use Rattle.std.proofs.Common.{ℕ, ◌<◌, ◌≡◌, ◌≢◌, ◌↔◌, inl, inr, refl, sym, ap, ap₂, ◌∙◌, subst, arith, List, [], ◌∷◌, map, length, length-append, Bool, true, false, cond, not, ◌&&◌, ◌||◌, Option, Some, None, Contains, ⊎_elim}
use Rattle.std.specs.Prelude.{nat_le}
use Rattle.std.specs.List.{list_any}
use Rattle.std.specs.Option.{option_map_or}
use Rattle.std.proofs.lemmas.Bool.{and_right, leb-false}
use Rattle.kb_lemmas.proofs.Booleans.{and_gives_left}
use Rattle.kb_lemmas.proofs.Membership.{contains_first, contains_behind}
use Rattle.kb_lemmas.proofs.Options.{none_some}
use Rattle.kb_cert.specs.declared.certificate.Certificate.{Certificate}
use Rattle.kb_term.specs.declared.origin.RuleRef.{RuleRef}
use Rattle.kb_label.specs.Names.{Name, has, child, relabel}
use Rattle.kb_label.specs.declared.verdict.Reason.{Reason}
use Rattle.kb_label.specs.declared.verdict.Reason.TheVariants.{Processes, Nodes}
use Rattle.kb_label.proofs.Forked.{leaves-forked}
use Rattle.kb_label.proofs.Members.{name_eq-refl}
use Rattle.kb_node.specs.declared.node.LabelKind.TheVariants.{E}
use Rattle.kb_node.specs.declared.node.NodeId.{NodeId}
use Rattle.kb_node.specs.declared.job.Fact.{Fact}
use Rattle.kb_node.specs.declared.job.Job.{Job}
use Rattle.kb_node.specs.declared.job.Job.TheVariants.{Reduce, Orient, Overlap, Close}
use Rattle.mkb_model.specs.Jobs.{process_of}
use Rattle.mkb_model.specs.Plain.{Plain, PlainNode, GivenUp, is_equation, is_rule, is_over, cost, known}
use Rattle.mkb_model.specs.DueJobs.{is_node_of, is_reducible, is_working, is_work_due, due_jobs_of}
use Rattle.mkb_model.specs.Effects.{applied, counted, effect, effect_label, first_some, give_up, is_dropped, is_full, limit_of, most_living, orient_label, some_if}
use Rattle.mkb_model.specs.Journals.{IsCommitting, IsFreeJob}
use Rattle.mkb_model.specs.Proposals.{Proposes}
use Rattle.mkb_model.specs.declared.entry.Effect.TheVariants.{Over as OverFor, Made}
use Rattle.mkb_model.specs.declared.proposed.Proposed.{Proposed}
use Rattle.mkb_model.specs.declared.proposed.Proposed.TheVariants.{Facts, Rewrite, One, Both, Refuse, Deduce, Unjoined, Closed, Limit}
use Rattle.mkb_model.proofs.Lists.{clash, decide, false_unless, not_of_true, same_test}
use Rattle.mkb_model.proofs.commits.Roles.{has-one, on_there, relabel-child, relabel-other}
use Rattle.mkb_model.proofs.commits.Bystanders.{IsUnmoved}
use Rattle.mkb_model.proofs.commits.Commits.{bit_number, orients}
use Rattle.mkb_model.proofs.commits.Orienting.{OrientRoles, orient-roles}
use Rattle.mkb_model.proofs.closing.LeftAlone.{IsBit}
use Rattle.mkb_model.proofs.closing.RestInRuns.{Stands, stands_run}
use Rattle.mkb_model.proofs.labels.LivingNames.{living_forked}
use Rattle.mkb_model.proofs.labels.NameLists.{IsLabelOf, child_lives}
use Rattle.mkb_model.proofs.runs.AllFine.{runs_one_role}
use Rattle.mkb_model.proofs.runs.Simulation.{begins-child}
use Rattle.mkb_model.proofs.tickets.InFlight.{due_working, unlike}
use Rattle.mkb_moves.specs.Changes.{IsNotOfFacts, LeavesOtherWork, ReducesNodeOf, SharesWork}
use Rattle.mkb_rules.specs.Applying.{applied_as}
use Rattle.mkb_rules.specs.declared.applied.Applied.TheVariants.{Done, Over}
use Rattle.mkb_pick.specs.Listings.{Listed}
use Rattle.mkb_pick.specs.Tasks.{job_of, work_of}
use Rattle.mkb_agenda.specs.Agendas.{IsDueJob, IsListedAs}
use Rattle.mkb_agenda.specs.Looking.{ComesFrom, MayEnd, ReducesBy, jobs_on}
use Rattle.mkb_agenda.specs.Following.{ComesByRule, ForksFrom, IsCommitOn, jobs_by_rule}
use Rattle.mkb_agenda.specs.declared.following.Commit.{Commit}
use Rattle.mkb_agenda.proofs.DueJobs.{IsProper, due_is}
use Rattle.mkb_agenda.proofs.Alike.{due_alike, listed_same}
use Rattle.mkb_agenda.proofs.Committed.{as_effect, none_limits, stops, made, board_is, on_board, work_next, cost_next, weights, comes, comes_on}
use Rattle.mkb_agenda.proofs.ByRule.{work_by_rule}
use Rattle.mkb_agenda.proofs.NodeWork.{node_ref, orient_on}
use Rattle.mkb_agenda.proofs.Gained.{gained_by_rule}
use Rattle.mkb_moves.proofs.DueJobsKept.{others_jobs}
use Rattle.mkb_moves.proofs.EndedWork.{facts_open_none, facts_leave_others, closing_ends, limit_keeps, refusal_ends}
use Rattle.mkb_moves.proofs.Makes.{IsMaking, making}
use Rattle.mkb_moves.proofs.OpenedWork.{one_leaves, fork_shares}
use Rattle.mkb_moves.proofs.Others.{others_unmoved}
use Rattle.mkb_moves.proofs.SameCosts.{others_costs}
use Rattle.mkb_moves.proofs.Stopped.{limit_stops}
use Rattle.mkb_moves.proofs.Turning.{child_roles, direction_bit, forks}

bits_alike : (d : ℕ) → IsBit d → (Q : ℕ → Type 0) → Q 0 → Q 1 → Q d
bits_alike d (inl e) Q h k = subst {A = ℕ} Q (sym e) h
bits_alike d (inr e) Q h k = subst {A = ℕ} Q (sym e) k

-- facts are proposed of one node
facts_of_one : (before : Plain) (j : Job) (fs : List Fact) → Proposes before j (Facts fs) → (n : ℕ) × ((f : Fact) → Contains fs f → f.node.0 ≡ n)
facts_of_one before (Reduce p n) fs h = (n.0, h.2.at_node)
facts_of_one before (Orient p n) fs h = absurd h
facts_of_one before (Overlap p a e) fs h = absurd h
facts_of_one before (Close p) fs h = absurd h

-- the children of a process have given up where it has
over_child : (p : Name) (bit : Bool) (gs : List GivenUp) → ((g : GivenUp) → Contains gs g → has g.names (child p bit) ≡ false)
    → list_any (λ (g : GivenUp). has g.names (child p bit)) (map (λ (g : GivenUp). record g { names = relabel p g.names }) gs) ≡ list_any (λ (g : GivenUp). has g.names p) gs
over_child p bit [] new = refl
over_child p bit (g ∷ gs) new = ap₂ (λ (x y : Bool). x || y) (relabel-child p bit g.names (new g (contains_first g gs))) (over_child p bit gs (λ h i. new h (contains_behind g gs h i)))

-- a fork that comes to no limit finds room
room_to_fork : (b : Plain) (crowded full : Bool) → nat_le most_living (length b.living) ≡ crowded → first_some (some_if crowded Processes ∷ some_if full Nodes ∷ []) ≡ None → length b.living < most_living
room_to_fork b true full e h = none_some (sym h)
room_to_fork b false full e h = leb-false most_living (length b.living) e

-- the process is neither the one that is forked nor a child of it
abbrev IsApart : Name → Proposed → Type 0
IsApart p z = (q : Name) (n : NodeId) (c0 c1 : Certificate) → z ≡ Both q n c0 c1 → (p ≢ q) × ((bit : Bool) → p ≢ child q bit)

apart_kept : (b : Plain) (z : Proposed) (p : Name) → IsApart p z → (has (applied b z).asleep p ≡ has b.asleep p) × (has (applied b z).living p ≡ has b.living p)
apart_kept b (Both q n c0 c1) p h =
    let r = h q n c0 c1 refl in (
      relabel-other q p b.asleep (unlike p q r.0) (unlike p (child q false) (r.1 false)) (unlike p (child q true) (r.1 true)),
      relabel-other q p b.living (unlike p q r.0) (unlike p (child q false) (r.1 false)) (unlike p (child q true) (r.1 true)),
    )
apart_kept b (Facts fs) p h = (refl, refl)
apart_kept b (Rewrite n w at a kind t) p h = (refl, refl)
apart_kept b (One q n d c) p h = (refl, refl)
apart_kept b (Refuse q n) p h = (refl, refl)
apart_kept b (Deduce a c ds) p h = (refl, refl)
apart_kept b (Unjoined q ds) p h = (refl, refl)
apart_kept b (Closed q) p h = (refl, refl)
apart_kept b (Limit j cause) p h = (refl, refl)

not_of_facts : (z : Proposed) → ((fs : List Fact) → z ≡ Facts fs → ⊥) → IsNotOfFacts z
not_of_facts (Facts fs) h = h fs refl
not_of_facts (Both q n c0 c1) h = tt
not_of_facts (Rewrite n w at a kind t) h = tt
not_of_facts (One q n d c) h = tt
not_of_facts (Refuse q n) h = tt
not_of_facts (Deduce a c ds) h = tt
not_of_facts (Unjoined q ds) h = tt
not_of_facts (Closed q) h = tt
not_of_facts (Limit j cause) h = tt

listed_by : (b c : Plain) (p : Name) → due_jobs_of c p ≡ due_jobs_of b p → (j : Job) → process_of j ≡ p → IsDueJob c j ↔ IsDueJob b j
listed_by b c p h j e = (to b c h, to c b (sym h))
  where
    to : (d f : Plain) → due_jobs_of f p ≡ due_jobs_of d p → IsDueJob f j → IsDueJob d j
    to d f i o = subst {A = Name} (λ z. Contains (due_jobs_of d z) j) (sym e) (subst {A = List Job} (λ js. Contains js j) i (subst {A = Name} (λ z. Contains (due_jobs_of f z) j) e o))

module _ (b c : Plain) (x : Commit) (k : IsCommitOn b x c) where
  abbrev y : Proposed
  y = k.commit.proposal

  stands : Stands b
  stands = stands_run k.problem k.settings k.past b k.run

  -- ---- who stops

  pub over_stops : (r : Reason) → x.applied ≡ Over r → (p : Name) → has x.names.now p ≡ true → is_working c p ≡ false
  over_stops r e p h = and_right (has c.living p) (not (is_over c p)) (not_of_true (on_board b c x k (λ z. is_over z p) refl
      ∙ (limit_stops k.problem k.settings k.past b k.run k.worker k.ticket r k.next (as_effect b c x k (OverFor r) (stops b c x k r e)) p (sym (ap (λ l. has l p) k.names) ∙ h)).over))

  -- ---- a commit that has its effect

  -- an orientation is of an equation, so that its process has no rule of the node
  no_rule : (p : Name) (n : NodeId) (d : ℕ) → IsBit d → is_equation b p n.0 ≡ true → is_rule b p (record { node = n.0; dir = d }) ≡ false
  no_rule p n d bit on = let r = (runs_one_role k.problem k.settings k.past b k.within k.run p n.0).no_rule on in bits_alike d bit (λ z. is_rule b p (record { node = n.0; dir = z }) ≡ false) r.0 r.1

  -- what a new rule leaves on the next board it leaves on this one
  leaves_come : (p q : Name) (a : RuleRef) → is_rule b p a ≡ false → LeavesOtherWork b p k.next q a → (j : Job) → process_of j ≡ q → ¬ Contains (jobs_by_rule c q a) j → IsProper j → is_work_due c j ≡ is_work_due b (job_of p (work_of j))
  leaves_come p q a new h j e o d = work_next b c x k j ∙ work_by_rule b k.next p q a h new j e (λ i. o (subst {A = List Job} (λ l. Contains l j) (sym (on_board b c x k (λ z. jobs_by_rule z q a) refl)) i)) d

  -- a new rule alone makes reducings due beyond its node, and ends none
  rule_reduces : (p q : Name) (a : RuleRef) → IsBit a.dir → OrientRoles b.nodes p c.nodes q a → ((n w : ℕ) (e : RuleRef) → known c n w e ≡ known b n w e) → LeavesOtherWork b p k.next q a → ReducesBy b p c q (record { nodes = record { 0 = a.node } ∷ []; rules = a ∷ []; loses = false })
  rule_reduces p q a bit roles facts leaves = record {
    gained = λ n out d. gained_by_rule b c p q a bit roles facts n (apart n out) d;
    kept = λ e n out d. work_next b c x k (Reduce q n) ∙ leaves.reduces n (apart n out) d;
  }
    where
      apart : (n : NodeId) → ¬ Contains (record { 0 = a.node } ∷ []) n → n.0 ≢ a.node
      apart n out e = out (subst {A = NodeId} (Contains (record { 0 = a.node } ∷ [])) (node_ref n (record { 0 = a.node }) e) (contains_first (record { 0 = a.node }) []))

  pub one_comes : x.applied ≡ Done → (p : Name) (n : NodeId) (d : ℕ) (order : Certificate) → x.proposal.now ≡ One p n d order → ComesByRule b p c p (record { node = n.0; dir = d })
  one_comes e p n d order f = record {
    comes = comes b c x k p p (jobs_by_rule c p a) (ap (λ z. is_working z p) board) (ap (λ (z : Plain). has z.asleep p) board) (λ j own _ o proper. leaves_come p p a (no_rule p n d bit (orients b p n.0 m.acts)) left j own o proper);
    reduces = rule_reduces p p a bit (subst {A = List PlainNode} (λ zs. OrientRoles b.nodes p zs p a) (sym (ap (λ (z : Plain). z.nodes) board)) (orient-roles p a b.nodes (on_there b.nodes p n.0 E (orients b p n.0 m.acts)))) (λ i w r. ap (λ z. known z i w r) board) left;
  }
    where
      a : RuleRef
      a = record { node = n.0; dir = d }

      commit : IsCommitting k.past b k.worker k.ticket (Made (One p n d order)) k.next
      commit = made b c x k e (One p n d order) f

      m : IsMaking k.past b k.worker k.ticket (One p n d order) k.next
      m = making k.past b k.worker k.ticket (One p n d order) k.next commit

      bit : IsBit d
      bit = direction_bit m.finishing.before m.job p n d order m.finishing.proposed

      left : LeavesOtherWork b p k.next p a
      left = one_leaves k.past b k.worker k.ticket p n d order k.next commit

      board : c ≡ record (counted (applied b (One p n d order))) { flight = [] }
      board = board_is b c x k e (One p n d order) f

  pub both_comes : x.applied ≡ Done → (p : Name) (n : NodeId) (c0 c1 : Certificate) → x.proposal.now ≡ Both p n c0 c1 → ForksFrom b c p n
  both_comes e p n c0 c1 f = record {
    short = omega (arith, room_to_fork b (nat_le most_living (length b.living)) (is_full b (Both p n c0 c1)) refl (ap (limit_of b) (sym f ∙ k.proposal) ∙ none_limits b c x k e), (leaves-forked b.living (living_forked IsFreeJob k.problem k.settings k.past b k.run).forked).short p lives);
    first = child_comes false (inl refl) shared.first;
    second = child_comes true (inr refl) shared.second;
    gone = ap (λ z. z && not (is_over c p)) (on_board b c x k (λ (z : Plain). has z.living p) refl ∙ (forks k.problem k.settings k.past b k.run k.worker k.ticket p n c0 c1 k.next commit).gone);
    new = ap (λ z. z && not (is_over b (child p false))) (unborn false);
    also_new = ap (λ z. z && not (is_over b (child p true))) (unborn true);
  }
    where
      commit : IsCommitting k.past b k.worker k.ticket (Made (Both p n c0 c1)) k.next
      commit = made b c x k e (Both p n c0 c1) f

      board : c ≡ record (counted (applied b (Both p n c0 c1))) { flight = [] }
      board = board_is b c x k e (Both p n c0 c1) f

      shared : SharesWork b p k.next n.0
      shared = fork_shares k.problem k.settings k.past b k.run k.worker k.ticket p n c0 c1 k.next commit

      on : is_equation b p n.0 ≡ true
      on = orients b p n.0 (making k.past b k.worker k.ticket (Both p n c0 c1) k.next commit).acts

      lives : has b.living p ≡ true
      lives = (stands.labelled.nodes n.0 E).lives p on

      unborn : (bit : Bool) → has b.living (child p bit) ≡ false
      unborn bit = false_unless (has b.living (child p bit)) (λ o.
          let i : length p ≡ length (child p bit) = ap length (stands.apart p (child p bit) lives o (begins-child p bit)) in
          let l = length-append p (bit ∷ []) in
          omega (arith, i, l))

      fresh : (bit : Bool) (l : List Name) → IsLabelOf b.living l → has l (child p bit) ≡ false
      fresh bit l h = false_unless (has l (child p bit)) (λ o. clash (h.lives (child p bit) o) (unborn bit))

      works : (bit : Bool) → is_working c (child p bit) ≡ is_working b p
      works bit = ap (λ z. is_working z (child p bit)) board ∙ ap₂ (λ (u v : Bool). u && not v) (child_lives p bit b.living lives ∙ sym lives) (over_child p bit b.over (λ g i. fresh bit g.names (stands.labelled.over g i)))

      sleeps : (bit : Bool) → has c.asleep (child p bit) ≡ has b.asleep p
      sleeps bit = ap (λ (z : Plain). has z.asleep (child p bit)) board ∙ relabel-child p bit b.asleep (fresh bit b.asleep stands.labelled.asleep)

      child_comes : (bit : Bool) → IsBit (bit_number bit) → LeavesOtherWork b p k.next (child p bit) (record { node = n.0; dir = bit_number bit }) → ComesByRule b p c (child p bit) (record { node = n.0; dir = bit_number bit })
      child_comes bit h left = record {
        comes = comes b c x k p (child p bit) (jobs_by_rule c (child p bit) (record { node = n.0; dir = bit_number bit })) (works bit) (sleeps bit) (λ j own _ o d. leaves_come p (child p bit) (record { node = n.0; dir = bit_number bit }) (no_rule p n (bit_number bit) h on) left j own o d);
        reduces = rule_reduces p (child p bit) (record { node = n.0; dir = bit_number bit }) h
            (subst {A = List PlainNode} (λ zs. OrientRoles b.nodes p zs (child p bit) (record { node = n.0; dir = bit_number bit })) (sym (on_board b c x k (λ (z : Plain). z.nodes) refl)) (child_roles k.problem k.settings k.past b k.run k.worker k.ticket p n c0 c1 k.next commit bit))
            (λ i w r. ap (λ z. known z i w r) board) left;
      }

  pub refuse_comes : x.applied ≡ Done → (p : Name) (n : NodeId) → x.proposal.now ≡ Refuse p n → ComesFrom b p c p (jobs_on p (n ∷ []))
  refuse_comes e p n f = comes_on b c x k p (jobs_on p (n ∷ [])) (ap (λ z. is_working z p) board) (ap (λ (z : Plain). has z.asleep p) board)
      (λ j own o. (refusal_ends k.past b k.worker k.ticket p n k.next (made b c x k e (Refuse p n) f)).1 j (λ i. o (subst {A = Job} (Contains (jobs_on p (n ∷ []))) (sym i) (orient_on p (n ∷ []) n (contains_first n [])))))
    where
      board : c ≡ record (counted (applied b (Refuse p n))) { flight = [] }
      board = board_is b c x k e (Refuse p n) f

  pub closed_comes : x.applied ≡ Done → (p : Name) → x.proposal.now ≡ Closed p → ComesFrom b p c p (jobs_on p [])
  closed_comes e p f = comes_on b c x k p (jobs_on p []) (ap (λ z. is_working z p) board) (ap (λ (z : Plain). has z.asleep p) board)
      (λ j own o. (closing_ends k.past b k.worker k.ticket p k.next (made b c x k e (Closed p) f)).1 j)
    where
      board : c ≡ record (counted (applied b (Closed p))) { flight = [] }
      board = board_is b c x k e (Closed p) f

  -- ---- who is not named

  -- a fork names the process that it forks
  not_forked : (p : Name) → has (effect_label b y) p ≡ false → (q : Name) (n : NodeId) (c0 c1 : Certificate) → y ≡ Both q n c0 c1 → p ≢ q
  not_forked p h q n c0 c1 e i = clash (ap (λ (z : Bool). has (cond z (q ∷ []) []) q) (orients b q n.0 (subst {A = Proposed} (λ z. is_dropped b z ≡ false) e k.commit.acts)) ∙ has-one q q ∙ name_eq-refl q)
      (ap (has (orient_label b q n.0)) (sym i) ∙ ap (λ z. has (effect_label b z) p) (sym e) ∙ h)

  module _ (p : Name) (unnamed : has (effect_label b y) p ≡ false) (apart : IsApart p y) where
    places : (has c.asleep p ≡ has b.asleep p) × (has c.living p ≡ has b.living p)
    places = subst {A = Plain} (λ z. (has z.asleep p ≡ has b.asleep p) × (has z.living p ≡ has b.living p)) (sym k.makes) (go (limit_of b y))
      where
        go : (o : Option Reason) → (has (option_map_or (λ r. give_up r (effect_label b y) b) o (applied b y)).asleep p ≡ has b.asleep p) × (has (option_map_or (λ r. give_up r (effect_label b y) b) o (applied b y)).living p ≡ has b.living p)
        go None = apart_kept b y p apart
        go (Some r) = (refl, refl)

    unmoved : has b.living p ≡ true → IsUnmoved b (effect b y) p
    unmoved lives = (others_unmoved k.problem k.settings k.past b k.worker k.ticket k.effect k.next k.run k.commit p lives unnamed).0

    idle : (d : Plain) → has d.living p ≡ false → is_working d p ≡ false
    idle d dead = ap (λ z. z && not (is_over d p)) dead

    works_same : is_working c p ≡ is_working b p
    works_same = ⊎_elim (λ lives. ap₂ (λ (u v : Bool). u && not v) places.1 (ap (λ z. is_over z p) k.makes ∙ (unmoved lives).over)) (λ dead. idle c (places.1 ∙ dead) ∙ sym (idle b dead)) (decide (has b.living p))

    costs_same : is_working b p ≡ true → cost c p ≡ cost b p
    costs_same w = cost_next b c x k p ∙ others_costs k.problem k.settings k.past b k.worker k.ticket k.effect k.next k.run k.commit p (and_gives_left (has b.living p) (not (is_over b p)) w) unnamed

    closed_same : has b.living p ≡ true → has c.closed p ≡ has b.closed p
    closed_same lives = ap (λ (z : Plain). has z.closed p) k.makes ∙ (unmoved lives).closed

    none_due : (d : Plain) → has d.living p ≡ false → (j : Job) → process_of j ≡ p → ¬ IsDueJob d j
    none_due d dead j own h = clash (due_working d j (due_is d j h).0) (ap (is_working d) own ∙ idle d dead)

    -- it is listed as before where its jobs are due as before if it lives
    left_alone : (has b.living p ≡ true → (j : Job) → process_of j ≡ p → IsDueJob c j ↔ IsDueJob b j) → (ps : List Listed) → IsListedAs b p p ps → IsListedAs c p p ps
    left_alone due ps = listed_same b c p works_same costs_same places.0
        (λ j own. ⊎_elim {C = IsDueJob c j ↔ IsDueJob b j} (λ lives. due lives j own) (λ dead. ((λ h. absurd (none_due c (places.1 ∙ dead) j own h)), λ h. absurd (none_due b dead j own h))) (decide (has b.living p))) (weights b c x k) ps

    same_jobs : IsNotOfFacts y → has b.living p ≡ true → (j : Job) → process_of j ≡ p → IsDueJob c j ↔ IsDueJob b j
    same_jobs none lives j own =
        let f = due_alike k.next c p (on_board b c x k (λ z. is_working z p) refl) (λ i _ _. work_next b c x k i) (on_board b c x k (λ (z : Plain). has z.closed p) refl) j own in
        let g = listed_by b k.next p (others_jobs k.problem k.settings k.past b k.worker k.ticket k.effect k.next k.run k.commit none p lives unnamed) j own in
        ((λ h. g.0 (f.0 h)), λ h. f.1 (g.1 h))

  -- a process that the effect label does not name is listed on the later board as on the earlier one, where no facts are noted and it is no child of a fork
  pub others_come : ((fs : List Fact) → x.proposal.now ≡ Facts fs → ⊥) → (p : Name) → has x.names.now p ≡ false → ((q : Name) (n : NodeId) (c0 c1 : Certificate) (bit : Bool) → x.proposal.now ≡ Both q n c0 c1 → p ≢ child q bit) → (ps : List Listed) → IsListedAs b p p ps → IsListedAs c p p ps
  others_come none p h apart ps l = left_alone p unnamed (λ q n c0 c1 e. (not_forked p unnamed q n c0 c1 e, λ bit. apart q n c0 c1 bit (k.proposal ∙ e)))
      (same_jobs p unnamed (λ q n c0 c1 e. (not_forked p unnamed q n c0 c1 e, λ bit. apart q n c0 c1 bit (k.proposal ∙ e))) (not_of_facts y (λ fs e. none fs (k.proposal ∙ e)))) ps l
    where
      unnamed : has (effect_label b y) p ≡ false
      unnamed = sym (ap (λ l. has l p) k.names) ∙ h

  -- ---- facts

  -- facts are of no process
  module _ (fs : List Fact) (f : x.proposal.now ≡ Facts fs) (p : Name) where
    is_facts : y ≡ Facts fs
    is_facts = sym k.proposal ∙ f

    none_named : has (effect_label b y) p ≡ false
    none_named = ap (λ z. has (effect_label b z) p) is_facts

    unforked : IsApart p y
    unforked q n c0 c1 e = let r : Facts fs ≡ Both q n c0 c1 = sym is_facts ∙ e in absurd (cc)

  -- reducing the node of the facts may end
  pub facts_come : x.applied ≡ Done → (f : Fact) (fs : List Fact) → x.proposal.now ≡ Facts (f ∷ fs) → (p : Name) → MayEnd b c p f.node
  facts_come e f fs g p = record {
    working = ap (λ z. is_working z p) board;
    asleep = ap (λ (z : Plain). has z.asleep p) board;
    closed = ap (λ (z : Plain). has z.closed p) board;
    cost = costs_same p (none_named (f ∷ fs) g p) (unforked (f ∷ fs) g p);
    work = λ j own apart. work_next b c x k j ∙ facts_leave_others k.past b k.worker k.ticket (f ∷ fs) k.next commit j (λ h. apart (reduced j own h));
    ended = λ d. facts_open_none k.past b k.worker k.ticket (f ∷ fs) k.next commit (Reduce p f.node) (sym (work_next b c x k (Reduce p f.node)) ∙ d);
    weights = weights b c x k;
  }
    where
      commit : IsCommitting k.past b k.worker k.ticket (Made (Facts (f ∷ fs))) k.next
      commit = made b c x k e (Facts (f ∷ fs)) g

      m : IsMaking k.past b k.worker k.ticket (Facts (f ∷ fs)) k.next
      m = making k.past b k.worker k.ticket (Facts (f ∷ fs)) k.next commit

      board : c ≡ record (counted (applied b (Facts (f ∷ fs)))) { flight = [] }
      board = board_is b c x k e (Facts (f ∷ fs)) g

      reduced : (j : Job) → process_of j ≡ p → ReducesNodeOf (f ∷ fs) j → j ≡ Reduce p f.node
      reduced (Reduce q n) own h =
          let r = facts_of_one m.finishing.before m.job (f ∷ fs) m.finishing.proposed in
          let i : f.node.0 ≡ n.0 = r.1 f (contains_first f fs) ∙ sym (r.1 h.0 h.1) ∙ ap (λ (z : NodeId). z.0) h.2 in
          ap₂ (λ (z : Name) (m : ℕ). Reduce z (record { 0 = m })) own (sym i)
      reduced (Orient q n) own h = absurd h
      reduced (Overlap q a d) own h = absurd h
      reduced (Close q) own h = absurd h

  -- where facts are noted, so is a process that doesn't have the node of any of them
  pub facts_leave : (fs : List Fact) → x.proposal.now ≡ Facts fs → (p : Name) → ((f : Fact) → Contains fs f → is_node_of c p f.node.0 ≡ false) → (ps : List Listed) → IsListedAs b p p ps → IsListedAs c p p ps
  facts_leave fs f p apart ps l = left_alone p (none_named fs f p) (unforked fs f p) (λ lives. due_alike b c p (works_same p (none_named fs f p) (unforked fs f p)) (λ j own _. work (limit_of b y) refl j own) (closed_same p (none_named fs f p) (unforked fs f p) lives)) ps l
    where
      not_reduced : x.applied ≡ Done → (j : Job) → process_of j ≡ p → is_work_due b j ≡ true → ¬ ReducesNodeOf fs j
      not_reduced e (Reduce q n) own d h = clash (and_gives_left (is_node_of b q n.0) (is_reducible b q n.0) d)
          (ap₂ (λ (z : Name) (m : NodeId). is_node_of b z m.0) own (sym h.2) ∙ sym (ap (λ z. is_node_of z p h.0.node.0) (board_is b c x k e (Facts fs) f)) ∙ apart h.0 h.1)
      not_reduced e (Orient q n) own d h = absurd h
      not_reduced e (Overlap q a g) own d h = absurd h
      not_reduced e (Close q) own d h = absurd h

      work : (o : Option Reason) → limit_of b y ≡ o → (j : Job) → process_of j ≡ p → is_work_due c j ≡ is_work_due b j
      work (Some r) e j own = work_next b c x k j ∙ limit_keeps k.past b k.worker k.ticket r k.next (as_effect b c x k (OverFor r) (stops b c x k r (k.applied ∙ ap applied_as e))) j
      work None e j own =
          let done : x.applied ≡ Done = k.applied ∙ ap applied_as e in
          let commit = made b c x k done (Facts fs) f in
          same_test (is_work_due c j) (is_work_due b j)
          (λ d. facts_open_none k.past b k.worker k.ticket fs k.next commit j (sym (work_next b c x k j) ∙ d))
          (λ d. work_next b c x k j ∙ facts_leave_others k.past b k.worker k.ticket fs k.next commit j (not_reduced done j own d) ∙ d)
