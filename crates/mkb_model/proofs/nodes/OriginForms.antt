-- In a possible run the sides and directions that origins name are 0 or 1.
use Rattle.std.proofs.Common.{ℕ, ◌+◌, ◌≤◌, ◌≡◌, ◌⊎◌, inl, inr, sym, ◌∙◌, subst, arith, List, [], ◌∷◌, ◌++◌, map, Contains, Bool, true, false, cond, not, ◌==◌, Option, Some, None, ⊎_elim}
use Rattle.std.specs.Option.{option_map_or}
use Rattle.std.proofs.lemmas.List.Elements.{Contains-append_cases}
use Rattle.kb_lemmas.proofs.Membership.{contains_cases, contains_behind, contains_first, none_in, contains_map}
use Rattle.kb_term.specs.Tree.{Tree}
use Rattle.kb_term.specs.View.{tree_of}
use Rattle.kb_term.specs.Pair.{Pair, canonical_pair}
use Rattle.kb_term.specs.Signature.{Problem}
use Rattle.kb_term.specs.declared.origin.RuleRef.{RuleRef}
use Rattle.kb_term.specs.declared.origin.Found.{Found}
use Rattle.kb_term.specs.declared.origin.Origin.{Origin}
use Rattle.kb_term.specs.declared.origin.Origin.TheVariants.{Input, Rewrite as ByRewrite, Overlap as ByOverlap}
use Rattle.kb_overlap.specs.Trace.{other_side}
use Rattle.kb_label.specs.Names.{Name, root, child, join}
use Rattle.kb_node.specs.declared.node.LabelKind.TheVariants.{E, X}
use Rattle.kb_node.specs.declared.job.Deduced.{Deduced}
use Rattle.kb_node.specs.declared.job.Job.{Job}
use Rattle.kb_node.specs.declared.job.Job.TheVariants.{Reduce, Orient, Overlap, Close}
use Rattle.mkb_model.specs.Plain.{Plain, PlainNode, label_at, pair_at, rules_of}
use Rattle.mkb_model.specs.DueJobs.{reducers}
use Rattle.mkb_model.specs.Effects.{with_node, new_node, node_of, is_present, gains_equation, oriented, added, rewritten, rewrite_label, overlap_label, applied, forked_node}
use Rattle.mkb_model.specs.Proposals.{Proposes, NamedRule, NamedOverlap, OverlapsOfAll, AreDeduced, both_ways, all_ways, rules_on}
use Rattle.mkb_model.specs.Journals.{Moment, Follows, IsPossibleRun, IsFreeJob, with_input, with_inputs}
use Rattle.kb_overlap.specs.Trace.{IsOriginOfForm}
use Rattle.mkb_model.specs.declared.proposed.Proposed.{Proposed}
use Rattle.mkb_model.specs.declared.proposed.Proposed.TheVariants.{Facts, Rewrite, One, Both, Refuse, Deduce, Unjoined, Closed, Limit}
use Rattle.mkb_model.specs.declared.entry.Entry.{Entry}
use Rattle.mkb_model.specs.declared.entry.Entry.TheVariants.{Take, Commit, Drop, Abandon, Halt}
use Rattle.mkb_model.proofs.Lists.{filter_in}
use Rattle.mkb_model.proofs.nodes.DistinctPairs.{deduced_from, effect_cases}
use Rattle.mkb_model.proofs.commits.RewritingSteps.{lost_nodes, moved_nodes}
use Rattle.mkb_model.proofs.runs.Readiness.{named_rule}
use Rattle.mkb_model.proofs.commits.Deductions.{named_overlap, both_ways_in, all_ways_in, picks_in}
use Rattle.mkb_model.proofs.tickets.InFlight.{free_due, taken_free}
use Rattle.mkb_model.proofs.closing.LeftAlone.{IsBit, IsKnownJob, known_job, rules_in}
use Rattle.mkb_model.proofs.nodes.Origins.{Bone, bones, bones_label, bones_fork, bones_append, bones_gains_equation, bones_gains_rule, bones_oriented}
use Rattle.mkb_model.specs.declared.settings.Settings.{Settings}

-- each node's origin is of the form
abbrev Formed : List PlainNode → Type 0
Formed xs = (b : Bone) → Contains (bones xs) b → IsOriginOfForm b.1

at_most_one : (d : ℕ) → IsBit d → d ≤ 1
at_most_one d (inl e) = omega (arith, e)
at_most_one d (inr e) = omega (arith, e)

-- ---- changes of the nodes

formed_same : (xs ys : List PlainNode) → bones ys ≡ bones xs → Formed xs → Formed ys
formed_same xs ys e h b i = h b (subst {A = List Bone} (λ bs. Contains bs b) e i)

formed_with_node : (z : Pair) (o : Origin) (xs : List PlainNode) → IsOriginOfForm o → Formed xs → Formed (with_node z o xs)
formed_with_node z o xs form h = go (is_present xs z)
  where
    go : (b : Bool) → Formed (cond b xs (xs ++ new_node z o ∷ []))
    go true b i = h b i
    go false b i = ⊎_elim (λ k. h b k) (λ k. ⊎_elim (λ e. subst {A = Bone} (λ c. IsOriginOfForm c.1) e form) (λ q. none_in q) (contains_cases (z, o) [] b k))
        (Contains-append_cases (bones xs) ((z, o) ∷ []) b (subst {A = List Bone} (λ bs. Contains bs b) (bones_append xs (new_node z o)) i))

-- the directions of the rules that the overlap is of are 0 or 1
abbrev HasDirections : Deduced → Type 0
HasDirections d = (d.outer.dir ≤ 1) × (d.inner.dir ≤ 1)

formed_added : (l : List Name) (ds : List Deduced) (xs : List PlainNode) → ((d : Deduced) → Contains ds d → HasDirections d) → Formed xs → Formed (added l ds xs)
formed_added l [] xs form h = h
formed_added l (d ∷ ds) xs form h =
    let o : Origin = ByOverlap d.outer d.inner d.position in
    let ys : List PlainNode = with_node d.pair o xs in
    let zs : List PlainNode = gains_equation (node_of ys d.pair) l ys in
    formed_added l ds zs (λ x i. form x (contains_behind d ds x i)) (formed_same ys zs (bones_gains_equation (node_of ys d.pair) l ys) (formed_with_node d.pair o xs (form d (contains_first d ds)) h))

formed_rewritten : (xs : List PlainNode) (l : List Name) (n w : ℕ) (p : List ℕ) (a : RuleRef) (kind : Found) (u : Tree) (q : Pair) → w ≤ 1 → a.dir ≤ 1 → Formed xs → Formed (rewritten l n w p a kind u q xs)
formed_rewritten xs l n w p a kind u q is_side is_direction h = go (canonical_pair u (other_side q w))
  where
    lost : Formed (lost_nodes l n w kind xs)
    lost = formed_same xs (lost_nodes l n w kind xs) (bones_label n E _ _ ∙ bones_label n _ _ _ ∙ bones_label n _ _ xs) h

    go : (o : Option Pair) → Formed (moved_nodes l n w p a kind u q o xs)
    go None = lost
    go (Some z) =
        let x3 : List PlainNode = lost_nodes l n w kind xs in
        let ws : List PlainNode = with_node z (ByRewrite n w p a) x3 in
        formed_same ws (moved_nodes l n w p a kind u q (Some z) xs) (bones_gains_equation _ _ _ ∙ bones_gains_equation _ _ _ ∙ bones_gains_rule _ _ ws) (formed_with_node z (ByRewrite n w p a) x3 (is_side, is_direction) lost)

-- ---- proposals

-- the overlaps that are proposed are of rules with directions
deduced_directions : (es : List (NamedRule × NamedRule)) (all some : List NamedOverlap) (ds : List Deduced) → OverlapsOfAll es all → ((o : NamedOverlap) → Contains some o → Contains all o)
    → ((e : NamedRule × NamedRule) → Contains es e → IsBit e.0.ref.dir × IsBit e.1.ref.dir) → AreDeduced ds some → (d : Deduced) → Contains ds d → HasDirections d
deduced_directions es all some ds lists sub bits proposed d i =
    let r = deduced_from ds some proposed d i in
    let k = named_overlap es all lists r.0 (sub r.0 r.1) in
    let b = bits k.0 k.1 in (
      at_most_one d.outer.dir (subst {A = RuleRef} (λ (a : RuleRef). IsBit a.dir) (sym k.2 ∙ r.6) b.0),
      at_most_one d.inner.dir (subst {A = RuleRef} (λ (a : RuleRef). IsBit a.dir) (sym k.3 ∙ r.7) b.1),
    )

-- a rule of a process has a direction
named_direction : (b : Plain) (p : Name) (x : NamedRule) → Contains (rules_on b p) x → IsBit x.ref.dir
named_direction b p x i = (rules_in b p x.ref (named_rule b (rules_of b p) x.ref x.rule i).0).0

formed_applied : (before b : Plain) (j : Job) (x : Proposed) → Proposes before j x → IsKnownJob j → Formed b.nodes → Formed (applied b x).nodes
formed_applied before b j (Facts fs) h known f = f
formed_applied before b j (One p m d c) h known f = formed_same b.nodes (applied b (One p m d c)).nodes (bones_oriented p (record { node = m.0; dir = d }) b.nodes) f
formed_applied before b j (Both p m c0 c1) h known f = formed_same b.nodes (applied b (Both p m c0 c1)).nodes
    (bones_oriented (child p true) (record { node = m.0; dir = 1 }) (oriented (child p false) (record { node = m.0; dir = 0 }) (map (forked_node p) b.nodes)) ∙ bones_oriented (child p false) (record { node = m.0; dir = 0 }) (map (forked_node p) b.nodes) ∙ bones_fork p b.nodes) f
formed_applied before b j (Refuse p m) h known f = formed_same b.nodes (applied b (Refuse p m)).nodes (bones_label m.0 X (join (label_at b.nodes m.0 X) (p ∷ [])) b.nodes) f
formed_applied before b j (Closed p) h known f = f
formed_applied before b j (Limit k cause) h known f = f
formed_applied before b (Reduce p m) (Rewrite k v pos a kind u) h known f = at_pair (pair_at b k.0)
  where
    is_side : IsBit v
    is_side = h.1.2.first.is_redex.is_side

    is_direction : IsBit a.dir
    is_direction = (rules_in before p a (filter_in (λ (c : RuleRef). not (c.node == m.0)) (rules_of before p) a (named_rule before (reducers before p m.0) a h.1.2.first.is_redex.rule h.1.2.first.is_redex.listed).0).0).0

    at_pair : (o : Option Pair) → Formed (option_map_or (λ q. rewritten (rewrite_label b k.0 v a kind) k.0 v pos a kind (tree_of u) q) o (λ xs. xs) b.nodes)
    at_pair None = f
    at_pair (Some z) = formed_rewritten b.nodes (rewrite_label b k.0 v a kind) k.0 v pos a kind (tree_of u) z (at_most_one v is_side) (at_most_one a.dir is_direction) f
formed_applied before b (Overlap q d e) (Deduce a c ds) h known f =
    let x : NamedRule = record { ref = d; rule = h.2.0 } in
    let y : NamedRule = record { ref = e; rule = h.2.1 } in
    formed_added (overlap_label b a c) ds b.nodes (deduced_directions (both_ways x y) h.2.4.overlaps h.2.4.overlaps ds h.2.4.all (λ o k. k) (λ z i. bits x y known.0 known.1 z (both_ways_in x y z i)) h.2.4.proposed) f
  where
    bits : (x y : NamedRule) → IsBit x.ref.dir → IsBit y.ref.dir → (z : NamedRule × NamedRule) → ((z.0 ≡ x) × (z.1 ≡ y)) ⊎ ((z.0 ≡ y) × (z.1 ≡ x)) → IsBit z.0.ref.dir × IsBit z.1.ref.dir
    bits x y dx dy z (inl k) = (subst {A = NamedRule} (λ (r : NamedRule). IsBit r.ref.dir) (sym k.0) dx, subst {A = NamedRule} (λ (r : NamedRule). IsBit r.ref.dir) (sym k.1) dy)
    bits x y dx dy z (inr k) = (subst {A = NamedRule} (λ (r : NamedRule). IsBit r.ref.dir) (sym k.0) dy, subst {A = NamedRule} (λ (r : NamedRule). IsBit r.ref.dir) (sym k.1) dx)
formed_applied before b (Close p) (Unjoined q ds) h known f =
    formed_added (q ∷ []) ds b.nodes (deduced_directions (all_ways (rules_on before p)) h.1.overlaps h.1.listed ds h.1.all (λ o k. picks_in _ h.1.overlaps h.1.listed h.1.picked o k) (λ z i. let k = all_ways_in (rules_on before p) z i in (named_direction before p z.0 k.0, named_direction before p z.1 k.1)) h.1.proposed) f
formed_applied before b (Orient p m) (Rewrite k v pos a kind u) h known f = absurd h
formed_applied before b (Overlap p d e) (Rewrite k v pos a kind u) h known f = absurd h
formed_applied before b (Close p) (Rewrite k v pos a kind u) h known f = absurd h
formed_applied before b (Reduce p m) (Deduce a c ds) h known f = absurd h
formed_applied before b (Orient p m) (Deduce a c ds) h known f = absurd h
formed_applied before b (Close p) (Deduce a c ds) h known f = absurd h
formed_applied before b (Reduce p m) (Unjoined q ds) h known f = absurd h
formed_applied before b (Orient p m) (Unjoined q ds) h known f = absurd h
formed_applied before b (Overlap p d e) (Unjoined q ds) h known f = absurd h

-- ---- runs

formed_inputs : (es : List (Tree × Tree)) (i : ℕ) (xs : List PlainNode) → Formed xs → Formed (with_inputs i es xs)
formed_inputs [] i xs h = h
formed_inputs (e ∷ es) i xs h = formed_inputs es (i + 1) (with_input (canonical_pair e.0 e.1) i xs) (go (canonical_pair e.0 e.1))
  where
    go : (o : Option Pair) → Formed (with_input o i xs)
    go None = h
    go (Some z) =
        let ws : List PlainNode = with_node z (Input i) xs in
        formed_same ws (with_input (Some z) i xs) (bones_gains_equation (node_of ws z) (root ∷ []) ws) (formed_with_node z (Input i) xs tt h)

formed_run : (P : Problem) (n : Settings) (ms : List Moment) (c : Plain) → IsPossibleRun P n ms c → Formed c.nodes
formed_run P n [] c run = subst {A = Plain} (λ z. Formed z.nodes) (sym run) (formed_inputs P.equations 1 [] (λ b i. none_in i))
formed_run P n (m ∷ ms) c (run, f) = go m.entry f (formed_run P n ms m.board run)
  where
    go : (e : Entry) → Follows IsFreeJob ms m.board e c → Formed m.board.nodes → Formed c.nodes
    go (Take w t j) f h = subst {A = Plain} (λ z. Formed z.nodes) (sym f.leads_to) h
    go (Commit w t e) f h =
        let d = free_due f.finishing.before f.job (taken_free P n ms m.board run f.finishing.before w t f.job f.finishing.taken).0 in
        subst {A = Plain} (λ z. Formed z.nodes) (sym f.leads_to) (⊎_elim
        (λ q. subst {A = List PlainNode} Formed (sym q) h)
        (λ q. subst {A = List PlainNode} Formed (sym q) (formed_applied f.finishing.before m.board f.job f.proposal f.finishing.proposed (known_job f.finishing.before d.0 d.0 f.job d.2 d.3) h))
        (effect_cases m.board f.proposal))
    go (Drop w t p) f h = subst {A = Plain} (λ z. Formed z.nodes) (sym f.leads_to) h
    go (Abandon w t) f h = subst {A = Plain} (λ z. Formed z.nodes) (sym f.leads_to) h
    go Halt f h = subst {A = Plain} (λ z. Formed z.nodes) (sym f.1) h

-- the origin of each node of a board of a possible run names sides and directions that are 0 or 1
pub origins_of_form : (P : Problem) (n : Settings) (ms : List Moment) (c : Plain) → IsPossibleRun P n ms c → (x : PlainNode) → Contains c.nodes x → IsOriginOfForm x.origin
origins_of_form P n ms c run x i = formed_run P n ms c run (x.pair, x.origin) (contains_map (λ (y : PlainNode). (y.pair, y.origin)) c.nodes x i)
