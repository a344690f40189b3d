-- In a possible run every label names living processes, in their order.
use Rattle.std.proofs.Common.{ℕ, ◌+◌, ◌≡◌, refl, sym, ap, ◌∙◌, subst, List, [], ◌∷◌, map, Contains, Bool, true, false, cond, not, ◌&&◌, Option, Some, None, ⊎_elim}
use Rattle.std.specs.Prelude.{⊤, IsFalse}
use Rattle.std.specs.Option.{option_map_or}
use Rattle.std.proofs.lemmas.Option.{slice_get-get_or}
use Rattle.kb_lemmas.proofs.Membership.{contains_cases, contains_behind, contains_first, none_in, contains_mapped}
use Rattle.kb_term.specs.Tree.{Tree}
use Rattle.kb_term.specs.View.{tree_of}
use Rattle.kb_term.specs.Pair.{Pair, canonical_pair}
use Rattle.kb_term.specs.Signature.{Problem}
use Rattle.kb_term.specs.declared.origin.RuleRef.{RuleRef}
use Rattle.kb_term.specs.declared.origin.Found.{Found}
use Rattle.kb_term.specs.declared.origin.Origin.TheVariants.{Input}
use Rattle.kb_label.specs.Names.{Name, root, has, child, relabel, join, meet, IsInNameOrder}
use Rattle.kb_label.specs.declared.verdict.Reason.{Reason}
use Rattle.kb_label.specs.declared.verdict.Reason.TheVariants.{Nodes, Processes, Size, Depth, Variables, Steps}
use Rattle.kb_node.specs.declared.job.Job.{Job}
use Rattle.kb_node.specs.declared.job.Job.TheVariants.{Reduce, Orient, Overlap, Close}
use Rattle.kb_node.specs.declared.job.LimitCause.{LimitCause}
use Rattle.kb_node.specs.declared.node.LabelKind.TheVariants.{E, X}
use Rattle.mkb_model.specs.Jobs.{process_of, ref_eq}
use Rattle.mkb_model.specs.Plain.{Plain, PlainNode, Done, GivenUp, label_in, label_at, label_or_none, rule_kind, other, pair_at, is_equation, is_over, done_of}
use Rattle.mkb_model.specs.Effects.{applied, acted, effect, limit_of, give_up, effect_label, rewrite_label, overlap_label, orient_label, redex_label, limit_label, not_over, if_strict, rewritten, oriented, with_node, node_of, gains_done_in, reason_eq, is_dropped, forked_node}
use Rattle.mkb_model.specs.Proposals.{Proposes}
use Rattle.mkb_model.specs.Invariants.{IsLabel, LabelsAreLabels}
use Rattle.mkb_model.specs.Journals.{Moment, Follows, IsPossibleRun, IsFreeJob, opening, with_input, with_inputs}
use Rattle.mkb_model.specs.declared.proposed.Proposed.{Proposed}
use Rattle.mkb_model.specs.declared.proposed.Proposed.TheVariants.{Facts, Rewrite, One, Both, Refuse, Deduce, Unjoined, Closed, Limit}
use Rattle.mkb_model.specs.declared.entry.Ticket.{Ticket}
use Rattle.mkb_model.specs.declared.entry.Entry.{Entry}
use Rattle.mkb_model.specs.declared.entry.Entry.TheVariants.{Take, Commit, Drop, Abandon, Halt}
use Rattle.mkb_model.proofs.labels.NameLists.{IsLabelOf, AreLabels, label-none, label-one, label-filter, label-join, label-add, label-relabel, child_lives, labels-gains, labels-gains_equation, labels-with_node, labels-oriented, labels-added, labels-rewritten, labels-fork}
use Rattle.mkb_model.proofs.commits.Commits.{orients}
use Rattle.mkb_model.proofs.labels.Sleepers.{label_settled}
use Rattle.mkb_model.proofs.tickets.InFlight.{is_own, own_of, OwnersLive, owners_live}
use Rattle.mkb_model.specs.declared.settings.Settings.{Settings}

-- each label of the board names living processes, in their order
pub record IsLabelled (b : Plain) : Type 0 where
  pub alive : IsInNameOrder b.living
  pub nodes : AreLabels b.living b.nodes
  pub done : (d : Done) → Contains b.done d → IsLabelOf b.living d.names
  pub closed : IsLabelOf b.living b.closed
  pub over : (g : GivenUp) → Contains b.over g → IsLabelOf b.living g.names
  pub asleep : IsLabelOf b.living b.asleep

-- the process that closes lives
abbrev pub ActorLives : Plain → Proposed → Type 0
ActorLives b (Unjoined p ds) = has b.living p ≡ true
ActorLives b (Closed p) = has b.living p ≡ true
ActorLives b (Limit j cause) = is_own j ≡ true → has b.living (process_of j) ≡ true
ActorLives b x = ⊤

pub actor_lives : (before b : Plain) (t : Ticket) (x : Proposed) → Proposes before t.job x → OwnersLive b → Contains b.flight t → ActorLives b x
actor_lives before b t (Unjoined p ds) h owners i = let o = own_of before t.job (Unjoined p ds) h in subst {A = Name} (λ z. has b.living z ≡ true) o.1 (owners t i o.0)
actor_lives before b t (Closed p) h owners i = let o = own_of before t.job (Closed p) h in subst {A = Name} (λ z. has b.living z ≡ true) o.1 (owners t i o.0)
actor_lives before b t (Limit j cause) h owners i = subst {A = Job} (λ z. is_own z ≡ true → has b.living (process_of z) ≡ true) (sym (own_of before t.job (Limit j cause) h)) (owners t i)
actor_lives before b t (Facts fs) h owners i = tt
actor_lives before b t (Rewrite n w at a kind u) h owners i = tt
actor_lives before b t (One p n d c) h owners i = tt
actor_lives before b t (Both p n c0 c1) h owners i = tt
actor_lives before b t (Refuse p n) h owners i = tt
actor_lives before b t (Deduce a c ds) h owners i = tt

-- ---- effect labels

module _ (b : Plain) (h : IsLabelled b) where
  rewrite_labelled : (n w : ℕ) (a : RuleRef) (kind : Found) → IsLabelOf b.living (rewrite_label b n w a kind)
  rewrite_labelled n w a kind = label-filter b.living (has (join (label_at b.nodes n E) (join (label_at b.nodes n (rule_kind (other w))) (if_strict kind (label_at b.nodes n (rule_kind w)))))) (label_at b.nodes a.node (rule_kind a.dir)) (h.nodes a.node (rule_kind a.dir))

  overlap_labelled : (a c : RuleRef) → IsLabelOf b.living (overlap_label b a c)
  overlap_labelled a c = label-filter b.living (λ p. not (has (done_of b a c) p)) (meet (label_at b.nodes a.node (rule_kind a.dir)) (label_at b.nodes c.node (rule_kind c.dir)))
      (label-filter b.living (has (label_at b.nodes c.node (rule_kind c.dir))) (label_at b.nodes a.node (rule_kind a.dir)) (h.nodes a.node (rule_kind a.dir)))

  orient_labelled : (p : Name) (n : ℕ) → IsLabelOf b.living (orient_label b p n)
  orient_labelled p n = go (is_equation b p n) refl
    where
      go : (x : Bool) → is_equation b p n ≡ x → IsLabelOf b.living (cond x (p ∷ []) [])
      go true e = label-one b.living p ((h.nodes n E).lives p e)
      go false e = label-none b.living

  redex_labelled : (n : ℕ) (r : Option (ℕ × RuleRef × Found)) → IsLabelOf b.living (redex_label b n r)
  redex_labelled n None = label-none b.living
  redex_labelled n (Some r) = rewrite_labelled n r.0 r.1 r.2

  limit_labelled : (j : Job) (cause : LimitCause) → ActorLives b (Limit j cause) → IsLabelOf b.living (limit_label b j cause)
  limit_labelled (Reduce p n) cause l = redex_labelled n.0 cause.redex
  limit_labelled (Orient p n) cause l = label-none b.living
  limit_labelled (Overlap p a c) cause l = overlap_labelled a c
  limit_labelled (Close p) cause l = label-one b.living p (l refl)

  not_over_labelled : (l : List Name) → IsLabelOf b.living l → IsLabelOf b.living (not_over b l)
  not_over_labelled l k = label-filter b.living (λ p. not (is_over b p)) l k

  effect_labelled : (x : Proposed) → ActorLives b x → IsLabelOf b.living (effect_label b x)
  effect_labelled (Facts fs) l = label-none b.living
  effect_labelled (Rewrite n w at a kind t) l = rewrite_labelled n.0 w a kind
  effect_labelled (One p n d c) l = orient_labelled p n.0
  effect_labelled (Both p n c0 c1) l = orient_labelled p n.0
  effect_labelled (Refuse p n) l = orient_labelled p n.0
  effect_labelled (Deduce a c ds) l = overlap_labelled a c
  effect_labelled (Unjoined p ds) l = label-one b.living p l
  effect_labelled (Closed p) l = label-one b.living p l
  effect_labelled (Limit j cause) l = not_over_labelled (limit_label b j cause) (limit_labelled j cause l)

  orienter_lives : (p : Name) (n : ℕ) → is_equation b p n ≡ true → has b.living p ≡ true
  orienter_lives p n e = (h.nodes n E).lives p e

-- ---- effects

labelled_done : (living : List Name) (a c : RuleRef) (l : List Name) (ds : List Done) → IsLabelOf living l → ((d : Done) → Contains ds d → IsLabelOf living d.names) → (d : Done) → Contains (gains_done_in a c l ds) d → IsLabelOf living d.names
labelled_done living a c l [] k h d i = ⊎_elim (λ e. subst {A = Done} (λ z. IsLabelOf living z.names) e k) (λ q. none_in q) (contains_cases (record { first = a; second = c; names = l }) [] d i)
labelled_done living a c l (x ∷ ds) k h d i = go (ref_eq x.first a && ref_eq x.second c) (λ j. labelled_done living a c l ds k (λ z q. h z (contains_behind x ds z q)) d j) i
  where
    go : (y : Bool) → (Contains (gains_done_in a c l ds) d → IsLabelOf living d.names) → Contains (cond y (record x { names = join x.names l } ∷ ds) (x ∷ gains_done_in a c l ds)) d → IsLabelOf living d.names
    go true ih j = ⊎_elim (λ e. subst {A = Done} (λ z. IsLabelOf living z.names) e (label-join living x.names l (h x (contains_first x ds)) k)) (λ q. h d (contains_behind x ds d q)) (contains_cases (record x { names = join x.names l }) ds d j)
    go false ih j = ⊎_elim (λ e. h d (subst {A = Done} (Contains (x ∷ ds)) e (contains_first x ds))) ih (contains_cases x (gains_done_in a c l ds) d j)

labelled_over : (b : Plain) (r : Reason) (l : List Name) → IsLabelled b → IsLabelOf b.living l → IsLabelled (give_up r l b)
labelled_over b r l h k = record {
  alive = h.alive;
  nodes = h.nodes;
  done = h.done;
  closed = h.closed;
  over = λ g i. let m = contains_mapped (λ (g : GivenUp). cond (reason_eq g.reason r) (record g { names = join g.names (not_over b l) }) g) b.over g i in
      subst {A = GivenUp} (λ z. IsLabelOf b.living z.names) m.2 (go m.0 (reason_eq m.0.reason r) (h.over m.0 m.1));
  asleep = h.asleep;
}
  where
    go : (g : GivenUp) (x : Bool) → IsLabelOf b.living g.names → IsLabelOf b.living (cond x (record g { names = join g.names (not_over b l) }) g).names
    go g true q = label-join b.living g.names (not_over b l) q (not_over_labelled b h l k)
    go g false q = q

labelled_applied : (b : Plain) (x : Proposed) → IsFalse (is_dropped b x) → ActorLives b x → IsLabelled b → IsLabelled (applied b x)
labelled_applied b (Facts fs) acts l h = record { alive = h.alive; nodes = h.nodes; done = h.done; closed = h.closed; over = h.over; asleep = h.asleep }
labelled_applied b (Rewrite n w at a kind t) acts l h = record { alive = h.alive; nodes = go (pair_at b n.0); done = h.done; closed = h.closed; over = h.over; asleep = h.asleep }
  where
    go : (o : Option Pair) → AreLabels b.living (option_map_or (λ q. rewritten (rewrite_label b n.0 w a kind) n.0 w at a kind (tree_of t) q) o (λ xs. xs) b.nodes)
    go None = h.nodes
    go (Some z) = labels-rewritten b.living (rewrite_label b n.0 w a kind) n.0 w at a kind (tree_of t) z b.nodes (rewrite_labelled b h n.0 w a kind) h.nodes
labelled_applied b (One p n d c) acts l h = record { alive = h.alive; nodes = labels-oriented b.living p (record { node = n.0; dir = d }) b.nodes (orienter_lives b h p n.0 (orients b p n.0 acts)) h.nodes; done = h.done; closed = h.closed; over = h.over; asleep = h.asleep }
labelled_applied b (Both p n c0 c1) acts l h = record {
  alive = (label-relabel p b.living b.living (record { ordered = h.alive; lives = λ q k. k })).ordered;
  nodes = labels-oriented (relabel p b.living) (child p true) (record { node = n.0; dir = 1 }) (oriented (child p false) (record { node = n.0; dir = 0 }) (map (forked_node p) b.nodes)) (child_lives p true b.living lives)
      (labels-oriented (relabel p b.living) (child p false) (record { node = n.0; dir = 0 }) (map (forked_node p) b.nodes) (child_lives p false b.living lives) (labels-fork p b.living b.nodes h.nodes));
  done = λ d i. let m = contains_mapped (λ (d : Done). record d { names = relabel p d.names }) b.done d i in subst {A = Done} (λ z. IsLabelOf (relabel p b.living) z.names) m.2 (label-relabel p b.living m.0.names (h.done m.0 m.1));
  closed = label-relabel p b.living b.closed h.closed;
  over = λ g i. let m = contains_mapped (λ (g : GivenUp). record g { names = relabel p g.names }) b.over g i in subst {A = GivenUp} (λ z. IsLabelOf (relabel p b.living) z.names) m.2 (label-relabel p b.living m.0.names (h.over m.0 m.1));
  asleep = label-relabel p b.living b.asleep h.asleep;
}
  where
    lives : has b.living p ≡ true
    lives = orienter_lives b h p n.0 (orients b p n.0 acts)
labelled_applied b (Refuse p n) acts l h = record { alive = h.alive; nodes = labels-gains b.living n.0 X (p ∷ []) b.nodes h.nodes (label-one b.living p (orienter_lives b h p n.0 (orients b p n.0 acts))); done = h.done; closed = h.closed; over = h.over; asleep = h.asleep }
labelled_applied b (Deduce a c ds) acts l h = record { alive = h.alive; nodes = labels-added b.living (overlap_label b a c) ds b.nodes (overlap_labelled b h a c) h.nodes; done = labelled_done b.living a c (overlap_label b a c) b.done (overlap_labelled b h a c) h.done; closed = h.closed; over = h.over; asleep = h.asleep }
labelled_applied b (Unjoined p ds) acts l h = record { alive = h.alive; nodes = labels-added b.living (p ∷ []) ds b.nodes (label-one b.living p l) h.nodes; done = h.done; closed = h.closed; over = h.over; asleep = h.asleep }
labelled_applied b (Closed p) acts l h = record { alive = h.alive; nodes = h.nodes; done = h.done; closed = label-add b.living p b.closed l h.closed; over = h.over; asleep = h.asleep }
labelled_applied b (Limit j cause) acts l h = h

pub labelled_acted : (b : Plain) (x : Proposed) → IsFalse (is_dropped b x) → ActorLives b x → IsLabelled b → IsLabelled (acted b x)
labelled_acted b x acts l h = let k = go (limit_of b x) in record { alive = k.alive; nodes = k.nodes; done = k.done; closed = k.closed; over = k.over; asleep = k.asleep }
  where
    go : (o : Option Reason) → IsLabelled (option_map_or (λ r. give_up r (effect_label b x) b) o (applied b x))
    go None = labelled_applied b x acts l h
    go (Some r) = labelled_over b r (effect_label b x) h (effect_labelled b h x l)

labelled_effect : (b : Plain) (x : Proposed) → IsFalse (is_dropped b x) → ActorLives b x → IsLabelled b → IsLabelled (effect b x)
labelled_effect b x acts l h =
    let k = labelled_acted b x acts l h in
    record { alive = k.alive; nodes = k.nodes; done = k.done; closed = k.closed; over = k.over; asleep = label_settled (acted b x) k.alive k.asleep }

-- ---- runs

labelled_input : (o : Option Pair) (i : ℕ) (xs : List PlainNode) → AreLabels (root ∷ []) xs → AreLabels (root ∷ []) (with_input o i xs)
labelled_input None i xs h = h
labelled_input (Some q) i xs h = labels-gains_equation (root ∷ []) (node_of (with_node q (Input i) xs) q) (root ∷ []) (with_node q (Input i) xs) (labels-with_node (root ∷ []) q (Input i) xs h) (label-one (root ∷ []) root refl)

labelled_inputs : (i : ℕ) (es : List (Tree × Tree)) (xs : List PlainNode) → AreLabels (root ∷ []) xs → AreLabels (root ∷ []) (with_inputs i es xs)
labelled_inputs i [] xs h = h
labelled_inputs i (e ∷ es) xs h = labelled_inputs (i + 1) es (with_input (canonical_pair e.0 e.1) i xs) (labelled_input (canonical_pair e.0 e.1) i xs h)

labelled_opening : (P : Problem) (n : Settings) → IsLabelled (opening P n)
labelled_opening P n = record {
  alive = tt;
  nodes = labelled_inputs 1 P.equations [] (λ m j. label-none (root ∷ []));
  done = λ d i. none_in i;
  closed = label-none (root ∷ []);
  over = λ g i. let m = contains_mapped {Y = GivenUp} (λ r. record { reason = r; names = [] }) (Nodes ∷ Processes ∷ Size ∷ Depth ∷ Variables ∷ Steps ∷ []) g i in subst {A = GivenUp} (λ z. IsLabelOf (root ∷ []) z.names) m.2 (label-none (root ∷ []));
  asleep = label-none (root ∷ []);
}

labelled_follow : (past : List Moment) (b : Plain) (e : Entry) (c : Plain) → Follows IsFreeJob past b e c → OwnersLive b → IsLabelled b → IsLabelled c
labelled_follow past b (Take w t j) c f owners h = subst {A = Plain} IsLabelled (sym f.leads_to) (record { alive = h.alive; nodes = h.nodes; done = h.done; closed = h.closed; over = h.over; asleep = h.asleep })
labelled_follow past b (Commit w t e) c f owners h =
    let k = labelled_effect b f.proposal f.acts (actor_lives f.finishing.before b (record { number = t; worker = w; job = f.job }) f.proposal f.finishing.proposed owners f.finishing.flying) h in
    subst {A = Plain} IsLabelled (sym f.leads_to) (record { alive = k.alive; nodes = k.nodes; done = k.done; closed = k.closed; over = k.over; asleep = k.asleep })
labelled_follow past b (Drop w t p) c f owners h = subst {A = Plain} IsLabelled (sym f.leads_to) (record { alive = h.alive; nodes = h.nodes; done = h.done; closed = h.closed; over = h.over; asleep = h.asleep })
labelled_follow past b (Abandon w t) c f owners h = subst {A = Plain} IsLabelled (sym f.leads_to) (record { alive = h.alive; nodes = h.nodes; done = h.done; closed = h.closed; over = h.over; asleep = h.asleep })
labelled_follow past b Halt c f owners h = subst {A = Plain} IsLabelled (sym f.1) h

pub labelled_run : (P : Problem) (n : Settings) (ms : List Moment) (c : Plain) → IsPossibleRun P n ms c → IsLabelled c
labelled_run P n [] c run = subst {A = Plain} IsLabelled (sym run) (labelled_opening P n)
labelled_run P n (m ∷ ms) c (run, f) = labelled_follow ms m.board m.entry c f (owners_live P n ms m.board run) (labelled_run P n ms m.board run)

-- the labels as they are stated
as_label : (b : Plain) (l : List Name) → IsLabelOf b.living l → IsLabel b l
as_label b l h = record { ordered = h.ordered; living = h.lives }

pub labels_live : (P : Problem) (n : Settings) (ms : List Moment) (c : Plain) → IsPossibleRun P n ms c → LabelsAreLabels c
labels_live P n ms c run = record {
  alive = h.alive;
  of_nodes = λ x kind i. as_label c (label_in x kind) (subst {A = List Name} (IsLabelOf c.living) (ap (λ o. label_or_none o kind) (slice_get-get_or c.nodes i.0 x i.1) ∙ ap (λ (y : PlainNode). label_in y kind) i.2) (h.nodes i.0 kind));
  of_done = λ d i. as_label c d.names (h.done d i);
  of_closed = as_label c c.closed h.closed;
  of_over = λ g i. as_label c g.names (h.over g i);
  of_asleep = as_label c c.asleep h.asleep;
}
  where
    h : IsLabelled c
    h = labelled_run P n ms c run
