-- In a possible run no order of the family orders the constraints of a process and a node that it is refused, in either direction.
use Rattle.std.proofs.Common.{ℕ, ◌≡◌, ◌≢◌, ◌⊎◌, inl, inr, refl, sym, ap, ◌∙◌, subst, arith, List, [], ◌∷◌, ◌++◌, map, Contains, Bool, true, false, Option, Some, None, ⊎_elim}
use Rattle.std.specs.Prelude.{IsFalse}
use Rattle.std.specs.Option.{option_map_or}
use Rattle.std.proofs.lemmas.List.Elements.{Contains-append_left, Contains-append_right, Contains-append_cases}
use Rattle.kb_term.specs.Pair.{Pair, canonical_pair}
use Rattle.kb_term.specs.Rule.{Rule}
use Rattle.kb_term.specs.Tree.{Tree}
use Rattle.kb_term.specs.View.{tree_of}
use Rattle.kb_term.specs.Signature.{Signature, Problem}
use Rattle.kb_term.specs.declared.origin.RuleRef.{RuleRef}
use Rattle.kb_term.specs.declared.origin.Found.{Found}
use Rattle.kb_term.specs.declared.origin.Origin.{Origin}
use Rattle.kb_term.specs.declared.origin.Origin.TheVariants.{Rewrite as ByRewrite, Overlap as ByOverlap}
use Rattle.kb_overlap.specs.Trace.{other_side}
use Rattle.kb_cert.specs.Family.{IsFirstOrder}
use Rattle.kb_cert.specs.declared.family.Family.{Family}
use Rattle.kb_cert.proofs.Ordering.{all_from}
use Rattle.kb_cert.proofs.Parts.{none_more}
use Rattle.kb_label.specs.Names.{Name, has, child, relabel, join, meet, minus}
use Rattle.kb_label.specs.declared.verdict.Reason.{Reason}
use Rattle.kb_label.proofs.Sets.{relabel-absent}
use Rattle.kb_node.specs.declared.node.NodeId.{NodeId}
use Rattle.kb_node.specs.declared.node.LabelKind.{LabelKind}
use Rattle.kb_node.specs.declared.node.LabelKind.TheVariants.{R0, R1, E, X}
use Rattle.kb_node.specs.declared.job.Deduced.{Deduced}
use Rattle.kb_node.specs.declared.job.Job.{Job}
use Rattle.kb_node.specs.declared.job.Job.TheVariants.{Reduce, Orient, Overlap, Close}
use Rattle.mkb_model.specs.Plain.{Plain, PlainNode, label_at, rule_kind, constraint_kind, other, constraints_of, rules_at, rule_at, pair_at}
use Rattle.mkb_model.specs.Effects.{with_label, with_node, node_of, loses, gains, gains_equation, gains_rule, moved_to, rewritten, rewrite_label, overlap_label, oriented, added, direction, if_strict, forked_node, applied, effect, effect_label, give_up, limit_of, is_dropped}
use Rattle.mkb_model.specs.Proposals.{Proposes, OrientsBy}
use Rattle.mkb_model.specs.Journals.{Moment, Follows, IsPossibleRun, IsFinishing, IsFreeJob}
use Rattle.mkb_model.specs.Ready.{IsOn, KeepsPairs}
use Rattle.mkb_model.specs.declared.entry.Entry.{Entry}
use Rattle.mkb_model.specs.declared.entry.Entry.TheVariants.{Take, Commit, Drop, Abandon, Halt}
use Rattle.mkb_model.specs.declared.proposed.Proposed.{Proposed}
use Rattle.mkb_model.specs.declared.proposed.Proposed.TheVariants.{Facts, Rewrite, One, Both, Refuse, Deduce, Unjoined, Closed, Limit}
use Rattle.mkb_model.specs.declared.settings.Settings.{Settings}
use Rattle.mkb_model.proofs.Lists.{clash, filter_map_in, in_filter_map}
use Rattle.mkb_model.proofs.commits.Roles.{put_other, label-with_node, label-fork, keeps-fork, on-fork, on-gains, on-loses, equation-no_constraint, refused-no_rule, refused-no_constraint, kind_number}
use Rattle.mkb_model.proofs.commits.Commits.{orients, is_p, pairs-applied}
use Rattle.mkb_model.proofs.runs.Simulation.{forked_names, apart_from}
use Rattle.mkb_model.proofs.labels.LivingNames.{within_budget}
use Rattle.mkb_model.proofs.runs.KnownFacts.{rule_stays}
use Rattle.mkb_model.proofs.closing.RestInRuns.{Stands, stands_run}
use Rattle.mkb_model.proofs.closing.Staying.{constraints_applied, orienters_stay}
use Rattle.mkb_model.proofs.runs.AllFine.{earlier_run, constraints_in, in_constraints, children_new, inputs_only}
use Rattle.mkb_moves.specs.Stuck.{IsUnorientable}
use Rattle.mkb_moves.proofs.Makes.{taken_keeps}

-- ---- constraints that only grow

-- no member of the family orders the constraints with the node in the direction
abbrev Refuses : Family → Signature → Plain → Name → ℕ → ℕ → Type 0
Refuses f g b p m d = IsFirstOrder f g (rules_at b (constraints_of b p ++ record { node = m; dir = d } ∷ [])) None

-- q has the constraints that p had, and perhaps more
abbrev Grows : List PlainNode → Name → List PlainNode → Name → Type 0
Grows xs p ys q = (k e : ℕ) → IsOn xs p k (constraint_kind e) → IsOn ys q k (constraint_kind e)

-- who can't orient can't with more constraints
still_refuses : (f : Family) (g : Signature) (b c : Plain) (p q : Name) (m d : ℕ) → KeepsPairs b.nodes c.nodes → Grows b.nodes p c.nodes q → Refuses f g b p m d → Refuses f g c q m d
still_refuses f g b c p q m d keeps grows h = none_more f g (rules_at b (constraints_of b p ++ new ∷ [])) (rules_at c (constraints_of c q ++ new ∷ [])) (all_from (Contains (rules_at c (constraints_of c q ++ new ∷ []))) (rules_at b (constraints_of b p ++ new ∷ [])) each) h
  where
    new : RuleRef
    new = record { node = m; dir = d }

    each : (r : Rule) → Contains (rules_at b (constraints_of b p ++ new ∷ [])) r → Contains (rules_at c (constraints_of c q ++ new ∷ [])) r
    each r i =
        let k = filter_map_in (rule_at b) (constraints_of b p ++ new ∷ []) r i in
        in_filter_map (rule_at c) (constraints_of c q ++ new ∷ []) k.0 r
        (⊎_elim (λ o. let s = constraints_in b p k.0 o in Contains-append_left (constraints_of c q) (new ∷ []) k.0 (in_constraints c q k.0 (grows k.0.node k.0.dir s.0) s.1))
        (λ o. Contains-append_right (constraints_of c q) (new ∷ []) k.0 o) (Contains-append_cases (constraints_of b p) (new ∷ []) k.0 k.1))
        (rule_stays b c k.0 r keeps k.2)

-- ---- who is refused after a change

-- the refusals of each node stay
abbrev pub SameRefusals : List PlainNode → List PlainNode → Type 0
SameRefusals xs ys = (m : ℕ) → label_at ys m X ≡ label_at xs m X

refusals_trans : (xs ys zs : List PlainNode) → SameRefusals xs ys → SameRefusals ys zs → SameRefusals xs zs
refusals_trans xs ys zs h k m = k m ∙ h m

refusals_put : (n : ℕ) (j : LabelKind) (l : List Name) (xs : List PlainNode) → j ≢ X → SameRefusals xs (with_label n j l xs)
refusals_put n j l xs h m = put_other xs n m j X l (inr (λ e. h (sym e)))

equation_kept : E ≢ X
equation_kept e = omega (arith, ap kind_number e)

refusals_gains_equation : (n : ℕ) (l : List Name) (xs : List PlainNode) → SameRefusals xs (gains_equation n l xs)
refusals_gains_equation n l xs = refusals_put n E (join (label_at xs n E) (minus (minus l (label_at xs n R0)) (label_at xs n R1))) xs equation_kept

refusals_gains_rule : (a : RuleRef) (l : List Name) (xs : List PlainNode) → SameRefusals xs (gains_rule a l xs)
refusals_gains_rule a l xs = refusals_trans xs (loses a.node E l xs) (gains_rule a l xs) (refusals_put a.node E (minus (label_at xs a.node E) l) xs equation_kept) (refusals_put a.node (rule_kind a.dir) (join (label_at (loses a.node E l xs) a.node (rule_kind a.dir)) l) (loses a.node E l xs) (refused-no_rule a.dir))

refusals_with_node : (q : Pair) (o : Origin) (xs : List PlainNode) → SameRefusals xs (with_node q o xs)
refusals_with_node q o xs m = label-with_node q o xs m X

-- pairs that are gained change the equations alone
pub labels_added : (l : List Name) (ds : List Deduced) (xs : List PlainNode) (m : ℕ) (j : LabelKind) → j ≢ E → label_at (added l ds xs) m j ≡ label_at xs m j
labels_added l [] xs m j h = refl
labels_added l (x ∷ ds) xs m j h =
    let ys : List PlainNode = with_node x.pair (ByOverlap x.outer x.inner x.position) xs in
    let k : ℕ = node_of ys x.pair in
    labels_added l ds (gains_equation k l ys) m j h ∙ put_other ys k m E j (join (label_at ys k E) (minus (minus l (label_at ys k R0)) (label_at ys k R1))) (inr h) ∙ label-with_node x.pair (ByOverlap x.outer x.inner x.position) xs m j

pub refusals_added : (l : List Name) (ds : List Deduced) (xs : List PlainNode) → SameRefusals xs (added l ds xs)
refusals_added l ds xs m = labels_added l ds xs m X (λ e. equation_kept (sym e))

refusals_moved : (q : Option Pair) (o : Origin) (rest result : Tree) (le lr ll : List Name) (xs : List PlainNode) → SameRefusals xs (moved_to q o rest result le lr ll xs)
refusals_moved None o rest result le lr ll xs = λ m. refl
refusals_moved (Some q) o rest result le lr ll xs =
    let ws : List PlainNode = with_node q o xs in
    let n : ℕ = node_of ws q in
    let a : RuleRef = record { node = n; dir = direction rest result q } in
    let y1 : List PlainNode = gains_rule a lr ws in
    let y2 : List PlainNode = gains_equation n le y1 in
    refusals_trans xs ws (gains_equation n ll y2) (refusals_with_node q o xs) (refusals_trans ws y1 (gains_equation n ll y2) (refusals_gains_rule a lr ws) (refusals_trans y1 y2 (gains_equation n ll y2) (refusals_gains_equation n le y1) (refusals_gains_equation n ll y2)))

pub refusals_rewritten : (l : List Name) (n w : ℕ) (at : List ℕ) (a : RuleRef) (kind : Found) (u : Tree) (q : Pair) (xs : List PlainNode) → SameRefusals xs (rewritten l n w at a kind u q xs)
refusals_rewritten l n w at a kind u q xs =
    let x1 : List PlainNode = loses n (rule_kind w) (if_strict kind l) xs in
    let x2 : List PlainNode = loses n (rule_kind (other w)) l x1 in
    let x3 : List PlainNode = loses n E l x2 in
    refusals_trans xs x3 (rewritten l n w at a kind u q xs) (refusals_trans xs x1 x3 (refusals_put n (rule_kind w) (minus (label_at xs n (rule_kind w)) (if_strict kind l)) xs (refused-no_rule w)) (refusals_trans x1 x2 x3 (refusals_put n (rule_kind (other w)) (minus (label_at x1 n (rule_kind (other w))) l) x1 (refused-no_rule (other w))) (refusals_put n E (minus (label_at x2 n E) l) x2 equation_kept)))
    (refusals_moved (canonical_pair u (other_side q w)) (ByRewrite n w at a) (other_side q w) u (meet l (label_at xs n E)) (meet l (label_at xs n (rule_kind (other w)))) (if_strict kind (meet l (label_at xs n (rule_kind w)))) x3)

pub refusals_oriented : (p : Name) (a : RuleRef) (xs : List PlainNode) → SameRefusals xs (oriented p a xs)
refusals_oriented p a xs =
    let x1 : List PlainNode = loses a.node E (p ∷ []) xs in
    let x2 : List PlainNode = gains a.node (rule_kind a.dir) (p ∷ []) x1 in
    refusals_trans xs x1 (oriented p a xs) (refusals_put a.node E (minus (label_at xs a.node E) (p ∷ [])) xs equation_kept)
    (refusals_trans x1 x2 (oriented p a xs) (refusals_put a.node (rule_kind a.dir) (join (label_at x1 a.node (rule_kind a.dir)) (p ∷ [])) x1 (refused-no_rule a.dir))
    (refusals_put a.node (constraint_kind a.dir) (join (label_at x2 a.node (constraint_kind a.dir)) (p ∷ [])) x2 (refused-no_constraint a.dir)))

grows_oriented : (p : Name) (a : RuleRef) (xs : List PlainNode) (q : Name) → Grows xs q (oriented p a xs) q
grows_oriented p a xs q k e o =
    let x1 : List PlainNode = loses a.node E (p ∷ []) xs in
    let x2 : List PlainNode = gains a.node (rule_kind a.dir) (p ∷ []) x1 in
    (on-gains a.node (constraint_kind a.dir) (p ∷ []) x2 q k (constraint_kind e)).1 (inl ((on-gains a.node (rule_kind a.dir) (p ∷ []) x1 q k (constraint_kind e)).1 (inl ((on-loses a.node E (p ∷ []) xs q k (constraint_kind e)).1 (o, λ i. equation-no_constraint e (sym i.0.1))))))

-- who is refused a node after a change was refused it before under a name whose constraints it has, or is refused it now
abbrev WasRefused : Plain → Proposed → List PlainNode → Name → ℕ → Type 0
WasRefused b x ys q m = ((p : Name) × IsOn b.nodes p m X × Grows b.nodes p ys q) ⊎ ((n : NodeId) × (x ≡ Refuse q n) × (n.0 ≡ m) × Grows b.nodes q ys q)

-- of another change the same process
kept_refusal : (b : Plain) (x : Proposed) (ys : List PlainNode) (q : Name) (m : ℕ) → SameRefusals b.nodes ys → Grows b.nodes q ys q → IsOn ys q m X → WasRefused b x ys q m
kept_refusal b x ys q m same grows o = inl (q, sym (ap (λ l. has l q) (same m)) ∙ o, grows)

was_refused : (b : Plain) (x : Proposed) → Stands b → IsFalse (is_dropped b x) → (q : Name) (m : ℕ) → IsOn (applied b x).nodes q m X → WasRefused b x (applied b x).nodes q m
was_refused b (Facts fs) s acts q m o = kept_refusal b (Facts fs) b.nodes q m (λ m. refl) (λ k e i. i) o
was_refused b (Rewrite n w at a kind t) s acts q m o = kept_refusal b (Rewrite n w at a kind t) (applied b (Rewrite n w at a kind t)).nodes q m (go (pair_at b n.0)) (λ k e i. (constraints_applied b (Rewrite n w at a kind t) q tt k e).1 i) o
  where
    go : (o : Option Pair) → SameRefusals b.nodes (option_map_or (λ q. rewritten (rewrite_label b n.0 w a kind) n.0 w at a kind (tree_of t) q) o (λ xs. xs) b.nodes)
    go None = λ m. refl
    go (Some z) = refusals_rewritten (rewrite_label b n.0 w a kind) n.0 w at a kind (tree_of t) z b.nodes
was_refused b (One p n d c) s acts q m o = kept_refusal b (One p n d c) (applied b (One p n d c)).nodes q m (refusals_oriented p (record { node = n.0; dir = d }) b.nodes) (grows_oriented p (record { node = n.0; dir = d }) b.nodes q) o
was_refused b (Both p n c0 c1) s acts q m o = go (has (label_at b.nodes m X) p) refl
  where
    x0 : List PlainNode
    x0 = map (forked_node p) b.nodes

    x1 : List PlainNode
    x1 = oriented (child p false) (record { node = n.0; dir = 0 }) x0

    named : has (relabel p (label_at b.nodes m X)) q ≡ true
    named = sym (ap (λ l. has l q) (refusals_oriented (child p true) (record { node = n.0; dir = 1 }) x1 m ∙ refusals_oriented (child p false) (record { node = n.0; dir = 0 }) x0 m ∙ label-fork p b.nodes m X)) ∙ o

    lives : has b.living p ≡ true
    lives = (s.labelled.nodes n.0 E).lives p (orients b p n.0 acts)

    later : (r : Name) → Grows x0 r (applied b (Both p n c0 c1)).nodes r
    later r k e i = grows_oriented (child p true) (record { node = n.0; dir = 1 }) x1 r k e (grows_oriented (child p false) (record { node = n.0; dir = 0 }) x0 r k e i)

    unforked : has (label_at b.nodes m X) q ≡ true → q ≢ p → WasRefused b (Both p n c0 c1) (applied b (Both p n c0 c1)).nodes q m
    unforked i d =
        let away = apart_from p b.living lives s.apart q ((s.labelled.nodes m X).lives q i) d in
        inl (q, i, λ k e v. later q k e ((keeps-fork p b.nodes q away.not_itself away.not_first away.not_second k (constraint_kind e)).1 v))

    go : (y : Bool) → has (label_at b.nodes m X) p ≡ y → WasRefused b (Both p n c0 c1) (applied b (Both p n c0 c1)).nodes q m
    go true i = ⊎_elim
        (λ r. inl (p, i, λ k e v. subst {A = Name} (λ z. IsOn (applied b (Both p n c0 c1)).nodes z k (constraint_kind e)) (sym r.1) (later (child p r.0) k e ((on-fork p r.0 b.nodes (children_new b p s lives r.0) k (constraint_kind e)).1 v))))
        (λ r. unforked r.0 r.1) (forked_names p (label_at b.nodes m X) q i named)
    go false i = let l : has (label_at b.nodes m X) q ≡ true = subst {A = List Name} (λ l. has l q ≡ true) (relabel-absent p (label_at b.nodes m X) i) named in unforked l (λ e. clash (subst {A = Name} (λ z. has (label_at b.nodes m X) z ≡ true) e l) i)
was_refused b (Refuse p n) s acts q m o = ⊎_elim
    (λ i. inl (q, i, grows))
    (λ i. let e : q ≡ p = is_p p q i.2 in inr (n, ap (λ z. Refuse z n) (sym e), sym i.0.0, grows)) ((on-gains n.0 X (p ∷ []) b.nodes q m X).0 o)
  where
    grows : Grows b.nodes q (gains n.0 X (p ∷ []) b.nodes) q
    grows k e v = (on-gains n.0 X (p ∷ []) b.nodes q k (constraint_kind e)).1 (inl v)
was_refused b (Deduce a c ds) s acts q m o = kept_refusal b (Deduce a c ds) (applied b (Deduce a c ds)).nodes q m (refusals_added (overlap_label b a c) ds b.nodes) (λ k e i. (constraints_applied b (Deduce a c ds) q tt k e).1 i) o
was_refused b (Unjoined p ds) s acts q m o = kept_refusal b (Unjoined p ds) (applied b (Unjoined p ds)).nodes q m (refusals_added (p ∷ []) ds b.nodes) (λ k e i. (constraints_applied b (Unjoined p ds) q tt k e).1 i) o
was_refused b (Closed p) s acts q m o = kept_refusal b (Closed p) b.nodes q m (λ m. refl) (λ k e i. i) o
was_refused b (Limit j cause) s acts q m o = kept_refusal b (Limit j cause) b.nodes q m (λ m. refl) (λ k e i. i) o

-- ---- runs

-- who is refused a node can't orient it
abbrev AreRefused : Family → Signature → Plain → Type 0
AreRefused f g b = (p : Name) (m : ℕ) → IsOn b.nodes p m X → Refuses f g b p m 0 × Refuses f g b p m 1

-- a refusal that is committed holds on the board of the commit
new_refusal : (P : Problem) (n : Settings) (past : List Moment) (b : Plain) → IsPossibleRun P n past b → (w t : ℕ) (j : Job) (p : Name) (m : NodeId) → IsFinishing past b w t j (Refuse p m) → Refuses n.family P.signature b p m.0 0 × Refuses n.family P.signature b p m.0 1
new_refusal P n past b run w t j p m f = go j refl f.proposed
  where
    earlier : (q : Name) (d : ℕ) → OrientsBy f.before q m.0 d None → Refuses n.family P.signature f.before q m.0 d
    earlier q d h =
        let r = earlier_run IsFreeJob P n past b run (record { board = f.before; entry = Take w t j }) f.taken in
        let k = within_budget IsFreeJob P n r.0 f.before r.1 in
        subst {A = Settings} (λ z. Refuses z.family P.signature f.before q m.0 d) k.settings (subst {A = Problem} (λ z. Refuses f.before.settings.family z.signature f.before q m.0 d) k.problem h)

    now : (d : ℕ) → j ≡ Orient p m → OrientsBy f.before p m.0 d None → Refuses n.family P.signature b p m.0 d
    now d e h =
        let stays = orienters_stay P n past b run f.before w t p m (subst {A = Job} (λ z. Contains past (record { board = f.before; entry = Take w t z })) e f.taken) (subst {A = Job} (λ z. Contains b.flight (record { number = t; worker = w; job = z })) e f.flying) in
        still_refuses n.family P.signature f.before b p p m.0 d (taken_keeps P n past b w t j (Refuse p m) run f) (λ k e v. (stays.1 k e).1 v) (earlier p d h)

    go : (i : Job) → i ≡ j → Proposes f.before i (Refuse p m) → Refuses n.family P.signature b p m.0 0 × Refuses n.family P.signature b p m.0 1
    go (Orient q k) e h =
        let same : j ≡ Orient p m = sym e ∙ ap (λ z. Orient z k) (sym h.0) ∙ ap (Orient p) (sym h.1) in
        let at = λ (d : ℕ) (o : OrientsBy f.before q k.0 d None). subst {A = Name} (λ z. OrientsBy f.before z m.0 d None) (sym h.0) (subst {A = NodeId} (λ z. OrientsBy f.before q z.0 d None) (sym h.1) o) in
        (now 0 same (at 0 h.2), now 1 same (at 1 h.3))
    go (Reduce q k) e h = absurd h
    go (Overlap q a c) e h = absurd h
    go (Close q) e h = absurd h

refused_commit : (P : Problem) (n : Settings) (past : List Moment) (b : Plain) → IsPossibleRun P n past b → (w t : ℕ) (j : Job) (x : Proposed) → IsFinishing past b w t j x → IsFalse (is_dropped b x) → AreRefused n.family P.signature b → AreRefused n.family P.signature (effect b x)
refused_commit P n past b run w t j x f acts h = go (limit_of b x)
  where
    keeps : KeepsPairs b.nodes (applied b x).nodes
    keeps = pairs-applied b x

    moved : (q : Name) (m : ℕ) → WasRefused b x (applied b x).nodes q m → Refuses n.family P.signature (applied b x) q m 0 × Refuses n.family P.signature (applied b x) q m 1
    moved q m (inl (p, o, grows)) = let r = h p m o in (still_refuses n.family P.signature b (applied b x) p q m 0 keeps grows r.0, still_refuses n.family P.signature b (applied b x) p q m 1 keeps grows r.1)
    moved q m (inr (k, is, e, grows)) =
        let r = new_refusal P n past b run w t j q k (subst {A = Proposed} (IsFinishing past b w t j) is f) in
        subst {A = ℕ} (λ z. Refuses n.family P.signature (applied b x) q z 0 × Refuses n.family P.signature (applied b x) q z 1) e
        (still_refuses n.family P.signature b (applied b x) q q k.0 0 keeps grows r.0, still_refuses n.family P.signature b (applied b x) q q k.0 1 keeps grows r.1)

    go : (o : Option Reason) → AreRefused n.family P.signature (option_map_or (λ r. give_up r (effect_label b x) b) o (applied b x))
    go None = λ q m o. moved q m (was_refused b x (stands_run P n past b run) acts q m o)
    go (Some r) = h

refused_follow : (P : Problem) (n : Settings) (past : List Moment) (b : Plain) (e : Entry) (c : Plain) → IsPossibleRun P n past b → Follows IsFreeJob past b e c → AreRefused n.family P.signature b → AreRefused n.family P.signature c
refused_follow P n past b (Take w t j) c run f h = subst {A = Plain} (AreRefused n.family P.signature) (sym f.leads_to) h
refused_follow P n past b (Commit w t e) c run f h = subst {A = Plain} (AreRefused n.family P.signature) (sym f.leads_to) (refused_commit P n past b run w t f.job f.proposal f.finishing f.acts h)
refused_follow P n past b (Drop w t p) c run f h = subst {A = Plain} (AreRefused n.family P.signature) (sym f.leads_to) h
refused_follow P n past b (Abandon w t) c run f h = subst {A = Plain} (AreRefused n.family P.signature) (sym f.leads_to) h
refused_follow P n past b Halt c run f h = subst {A = Plain} (AreRefused n.family P.signature) (sym f.1) h

refused_run : (P : Problem) (n : Settings) (ms : List Moment) (c : Plain) → IsPossibleRun P n ms c → AreRefused n.family P.signature c
refused_run P n [] c run = subst {A = Plain} (AreRefused n.family P.signature) (sym run) (λ p m o. clash (sym (ap (λ l. has l p) (inputs_only 1 P.equations [] m X (λ e. equation_kept (sym e)))) ∙ o) refl)
refused_run P n (m ∷ ms) c (run, f) = refused_follow P n ms m.board m.entry c run f (refused_run P n ms m.board run)

-- as it is stated
pub refused_unorientable : (P : Problem) (n : Settings) (ms : List Moment) (c : Plain) → IsPossibleRun P n ms c → (p : Name) (m : ℕ) → has (label_at c.nodes m X) p ≡ true → IsUnorientable c p m
refused_unorientable P n ms c run p m o = (as_stated 0 r.0, as_stated 1 r.1)
  where
    r : Refuses n.family P.signature c p m 0 × Refuses n.family P.signature c p m 1
    r = refused_run P n ms c run p m o

    as_stated : (d : ℕ) → Refuses n.family P.signature c p m d → OrientsBy c p m d None
    as_stated d h =
        let k = within_budget IsFreeJob P n ms c run in
        subst {A = Problem} (λ z. Refuses c.settings.family z.signature c p m d) (sym k.problem) (subst {A = Settings} (λ z. Refuses z.family P.signature c p m d) (sym k.settings) h)
