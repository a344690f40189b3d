-- In a possible run each pair follows from the input equations and earlier pairs, as its origin says.
use Rattle.std.proofs.Common.{ℕ, zero, suc, ◌+◌, ◌≡◌, ◌⊎◌, inl, inr, refl, sym, ap, ◌∙◌, subst, arith, List, [], ◌∷◌, ◌++◌, map, length, Contains, Bool, true, false, cond, Option, Some, None, ⊎_elim}
use Rattle.std.specs.Prelude.{IsFalse, Result, Ok, option_map, slice_get, take}
use Rattle.std.specs.Option.{option_map_or}
use Rattle.std.proofs.lemmas.Bool.{or_left}
use Rattle.kb_lemmas.proofs.Membership.{contains_behind, contains_first}
use Rattle.kb_lemmas.proofs.Options.{some_is, none_some}
use Rattle.kb_term.specs.Tree.{Tree}
use Rattle.kb_term.specs.View.{tree_of}
use Rattle.kb_term.specs.Pair.{Pair, canonical_pair}
use Rattle.kb_term.specs.Rule.{Rule, IsRule, rule_of}
use Rattle.kb_term.specs.Signature.{Signature, Problem, IsWithinLimits}
use Rattle.kb_term.specs.declared.limit.Limit.{Limit as TermLimit}
use Rattle.kb_term.specs.declared.origin.RuleRef.{RuleRef}
use Rattle.kb_term.specs.declared.origin.Found.{Found}
use Rattle.kb_term.specs.declared.origin.Origin.{Origin}
use Rattle.kb_term.specs.declared.origin.Origin.TheVariants.{Input, Rewrite as ByRewrite, Overlap as ByOverlap}
use Rattle.kb_overlap.specs.Trace.{item, other_side, FollowsBy, IsRightOverlap}
use Rattle.kb_overlap.specs.Overlap.{Overlap as Listed, IsOverlapOrLimit}
use Rattle.kb_label.specs.Names.{Name, root, has, child, is_empty, join}
use Rattle.kb_label.proofs.Members.{name_eq-refl}
use Rattle.kb_node.specs.declared.node.LabelKind.{LabelKind}
use Rattle.kb_node.specs.declared.node.LabelKind.TheVariants.{R0, R1, E, C0, C1, X}
use Rattle.kb_node.specs.declared.job.Deduced.{Deduced}
use Rattle.kb_node.specs.declared.job.Job.{Job}
use Rattle.kb_node.specs.declared.job.Job.TheVariants.{Reduce, Orient, Overlap, Close}
use Rattle.mkb_model.specs.Plain.{Plain, PlainNode, rule_kind, label_at, pair_in, pair_at, state_of}
use Rattle.mkb_model.specs.Effects.{with_label_in, with_label, gains, loses, gains_equation, gains_rule, with_node, new_node, node_of, is_present, oriented, added, rewritten, rewrite_label, overlap_label, applied, effect, is_dropped, forked_node}
use Rattle.mkb_model.specs.Proposals.{Proposes, NamedRule, NamedOverlap, OverlapsOfAll, AreDeduced, both_ways, all_ways, rules_on}
use Rattle.mkb_model.specs.Invariants.{PairsFollow}
use Rattle.mkb_model.specs.Journals.{Moment, Follows, IsPossibleRun, IsFreeJob, IsFinishing, opening, with_input, with_inputs}
use Rattle.mkb_model.specs.Ready.{KeepsPairs, IsRewriteOn}
use Rattle.mkb_model.specs.declared.proposed.Proposed.{Proposed}
use Rattle.mkb_model.specs.declared.proposed.Proposed.TheVariants.{Facts, Rewrite, One, Both, Refuse, Deduce, Unjoined, Closed, Limit}
use Rattle.mkb_model.specs.declared.entry.Entry.{Entry}
use Rattle.mkb_model.specs.declared.entry.Entry.TheVariants.{Take, Commit, Drop, Abandon, Halt}
use Rattle.mkb_model.proofs.Lists.{clash}
use Rattle.mkb_model.proofs.nodes.Pairs.{pairs-with_node}
use Rattle.mkb_model.proofs.commits.Views.{rule_listed}
use Rattle.mkb_model.proofs.commits.Proper.{IsOrdered}
use Rattle.mkb_model.proofs.commits.RewritingRuns.{source_of}
use Rattle.mkb_model.proofs.commits.RewritingSteps.{lost_nodes, moved_nodes}
use Rattle.mkb_model.proofs.nodes.DistinctPairs.{deduced_from, effect_cases, pairs_stay}
use Rattle.mkb_model.proofs.runs.Readiness.{rewrite_ready}
use Rattle.mkb_model.proofs.labels.LivingNames.{within_budget}
use Rattle.mkb_model.proofs.commits.Deductions.{HasNamed, named_overlap, picks_in}
use Rattle.mkb_model.proofs.closing.RestInRuns.{Stands, stands_run}
use Rattle.mkb_model.proofs.closing.Staying.{closers_stay}
use Rattle.mkb_model.proofs.runs.AllFine.{states_ordered, commits_fine, deduce_named, unjoined_named}
use Rattle.mkb_model.specs.declared.settings.Settings.{Settings}

-- ---- pairs with their origins

abbrev pub Bone : Type 0
Bone = Pair × Origin

abbrev pub bones : List PlainNode → List Bone
bones xs = map (λ (x : PlainNode). (x.pair, x.origin)) xs

-- the pair with a number
abbrev at : List Bone → ℕ → Option Pair
at bs k = option_map (λ (b : Bone). b.0) (slice_get bs k)

at_is : (xs : List PlainNode) (k : ℕ) → at (bones xs) k ≡ pair_in xs k
at_is [] k = refl
at_is (x ∷ xs) zero = refl
at_is (x ∷ xs) (suc k) = at_is xs k

-- each follows from those before it
abbrev AreRight : List (Tree × Tree) → List Bone → Type 0
AreRight es bs = (n : ℕ) (b : Bone) → slice_get bs n ≡ Some b → FollowsBy es (at (take n bs)) b.1 b.0

-- what follows from some pairs follows from more
origin_more : (es : List (Tree × Tree)) (e f : ℕ → Option Pair) → ((k : ℕ) (q : Pair) → e k ≡ Some q → f k ≡ Some q) → (o : Origin) (z : Pair) → FollowsBy es e o z → FollowsBy es f o z
origin_more es e f h (Input i) z r = r
origin_more es e f h (ByRewrite a w p b) z (old, by, i, j, r) = (old, by, h a old i, h b.node by j, r)
origin_more es e f h (ByOverlap a b p) z (outer, inner, i, j, r) = (outer, inner, h a.node outer i, h b.node inner j, r)

take_more : (bs cs : List Bone) (n k : ℕ) (q : Pair) → at (take n bs) k ≡ Some q → at (take n (bs ++ cs)) k ≡ Some q
take_more bs cs zero k q h = none_some h
take_more [] cs (suc n) k q h = none_some h
take_more (b ∷ bs) cs (suc n) zero q h = h
take_more (b ∷ bs) cs (suc n) (suc k) q h = take_more bs cs n k q h

take_whole : (bs cs : List Bone) (k : ℕ) (q : Pair) → at bs k ≡ Some q → at (take (length bs) (bs ++ cs)) k ≡ Some q
take_whole [] cs k q h = none_some h
take_whole (b ∷ bs) cs zero q h = h
take_whole (b ∷ bs) cs (suc k) q h = take_whole bs cs k q h

last_or_old : (bs : List Bone) (y : Bone) (n : ℕ) (b : Bone) → slice_get (bs ++ y ∷ []) n ≡ Some b → (slice_get bs n ≡ Some b) ⊎ ((n ≡ length bs) × (y ≡ b))
last_or_old [] y zero b h = inr (refl, some_is h)
last_or_old [] y (suc n) b h = none_some h
last_or_old (x ∷ bs) y zero b h = inl h
last_or_old (x ∷ bs) y (suc n) b h = ⊎_elim (λ k. inl k) (λ k. inr (ap suc k.0, k.1)) (last_or_old bs y n b h)

right_push : (es : List (Tree × Tree)) (bs : List Bone) (z : Pair) (o : Origin) → AreRight es bs → FollowsBy es (at bs) o z → AreRight es (bs ++ (z, o) ∷ [])
right_push es bs z o h r n b e = ⊎_elim
    (λ k. origin_more es (at (take n bs)) (at (take n (bs ++ (z, o) ∷ []))) (take_more bs ((z, o) ∷ []) n) b.1 b.0 (h n b k))
    (λ k. subst {A = Bone} (λ y. FollowsBy es (at (take n (bs ++ (z, o) ∷ []))) y.1 y.0) k.1 (subst {A = ℕ} (λ m. FollowsBy es (at (take m (bs ++ (z, o) ∷ []))) o z) (sym k.0) (origin_more es (at bs) (at (take (length bs) (bs ++ (z, o) ∷ []))) (take_whole bs ((z, o) ∷ [])) o z r)))
    (last_or_old bs (z, o) n b e)

-- ---- nodes

abbrev bone : PlainNode → Bone
bone x = (x.pair, x.origin)

bone_label : (x : PlainNode) (k : LabelKind) (l : List Name) → bone (with_label_in x k l) ≡ bone x
bone_label x R0 l = refl
bone_label x R1 l = refl
bone_label x E l = refl
bone_label x C0 l = refl
bone_label x C1 l = refl
bone_label x X l = refl

pub bones_label : (n : ℕ) (k : LabelKind) (l : List Name) (xs : List PlainNode) → bones (with_label n k l xs) ≡ bones xs
bones_label n k l [] = refl
bones_label zero k l (x ∷ xs) = ap (λ (b : Bone). b ∷ bones xs) (bone_label x k l)
bones_label (suc n) k l (x ∷ xs) = ap ((x.pair, x.origin) ∷◌) (bones_label n k l xs)

pub bones_fork : (p : Name) (xs : List PlainNode) → bones (map (forked_node p) xs) ≡ bones xs
bones_fork p [] = refl
bones_fork p (x ∷ xs) = ap ((x.pair, x.origin) ∷◌) (bones_fork p xs)

-- all pairs of the nodes are right
abbrev Right : List (Tree × Tree) → List PlainNode → Type 0
Right es xs = AreRight es (bones xs)

right_same : (es : List (Tree × Tree)) (xs ys : List PlainNode) → bones ys ≡ bones xs → Right es xs → Right es ys
right_same es xs ys e h = subst {A = List Bone} (AreRight es) (sym e) h

pub bones_append : (xs : List PlainNode) (y : PlainNode) → bones (xs ++ y ∷ []) ≡ bones xs ++ (y.pair, y.origin) ∷ []
bones_append [] y = refl
bones_append (x ∷ xs) y = ap ((x.pair, x.origin) ∷◌) (bones_append xs y)

right_with_node : (es : List (Tree × Tree)) (z : Pair) (o : Origin) (xs : List PlainNode) → Right es xs → FollowsBy es (pair_in xs) o z → Right es (with_node z o xs)
right_with_node es z o xs h r = go (is_present xs z)
  where
    go : (b : Bool) → Right es (cond b xs (xs ++ new_node z o ∷ []))
    go true = h
    go false = subst {A = List Bone} (AreRight es) (sym (bones_append xs (new_node z o))) (right_push es (bones xs) z o h (origin_more es (pair_in xs) (at (bones xs)) (λ k q e. at_is xs k ∙ e) o z r))

keeps_with_node : (z : Pair) (o : Origin) (xs : List PlainNode) (k : ℕ) (q : Pair) → pair_in xs k ≡ Some q → pair_in (with_node z o xs) k ≡ Some q
keeps_with_node z o xs k q e = pairs-with_node z o xs k q e

pub bones_gains_equation : (n : ℕ) (l : List Name) (xs : List PlainNode) → bones (gains_equation n l xs) ≡ bones xs
bones_gains_equation n l xs = bones_label n E _ xs

pub bones_gains_rule : (a : RuleRef) (l : List Name) (xs : List PlainNode) → bones (gains_rule a l xs) ≡ bones xs
bones_gains_rule a l xs = bones_label a.node (rule_kind a.dir) _ (loses a.node E l xs) ∙ bones_label a.node E _ xs

pub bones_oriented : (p : Name) (a : RuleRef) (xs : List PlainNode) → bones (oriented p a xs) ≡ bones xs
bones_oriented p a xs = bones_label a.node _ _ (gains a.node (rule_kind a.dir) (p ∷ []) (loses a.node E (p ∷ []) xs)) ∙ bones_label a.node _ _ (loses a.node E (p ∷ []) xs) ∙ bones_label a.node E _ xs

same_pairs : (xs ys : List PlainNode) → bones ys ≡ bones xs → (k : ℕ) (q : Pair) → pair_in xs k ≡ Some q → pair_in ys k ≡ Some q
same_pairs xs ys e k q h = sym (at_is ys k) ∙ ap (λ bs. at bs k) e ∙ at_is xs k ∙ h

-- what each deduced pair comes of
abbrev ComesFrom : List PlainNode → Deduced → Type 0
ComesFrom xs d = (outer : Pair) × (inner : Pair) × (pair_in xs d.outer.node ≡ Some outer) × (pair_in xs d.inner.node ≡ Some inner) × IsRightOverlap (rule_of outer d.outer.dir) (rule_of inner d.inner.dir) d.position d.pair

right_added : (es : List (Tree × Tree)) (l : List Name) (ds : List Deduced) (xs : List PlainNode) → ((d : Deduced) → Contains ds d → ComesFrom xs d) → Right es xs → Right es (added l ds xs)
right_added es l [] xs h r = r
right_added es l (d ∷ ds) xs h r =
    let ys : List PlainNode = with_node d.pair (ByOverlap d.outer d.inner d.position) xs in
    let zs : List PlainNode = gains_equation (node_of ys d.pair) l ys in
    let e : bones zs ≡ bones ys = bones_gains_equation (node_of ys d.pair) l ys in
    right_added es l ds zs
    (λ x i. let c = h x (contains_behind d ds x i) in (c.0, c.1, same_pairs ys zs e x.outer.node c.0 (keeps_with_node d.pair (ByOverlap d.outer d.inner d.position) xs x.outer.node c.0 c.2), same_pairs ys zs e x.inner.node c.1 (keeps_with_node d.pair (ByOverlap d.outer d.inner d.position) xs x.inner.node c.1 c.3), c.4))
    (right_same es ys zs e (right_with_node es d.pair (ByOverlap d.outer d.inner d.position) xs r (h d (contains_first d ds))))

right_rewritten : (es : List (Tree × Tree)) (xs : List PlainNode) (l : List Name) (n w : ℕ) (p : List ℕ) (a : RuleRef) (kind : Found) (u : Tree) (f : IsRewriteOn xs n w p a kind u) → IsRule (rule_of f.by a.dir) → Right es xs → Right es (rewritten l n w p a kind u f.pair xs)
right_rewritten es xs l n w p a kind u f rule r = go (canonical_pair u (other_side f.pair w)) refl
  where
    lost : bones (lost_nodes l n w kind xs) ≡ bones xs
    lost = bones_label n E _ _ ∙ bones_label n _ _ _ ∙ bones_label n _ _ xs

    go : (o : Option Pair) → canonical_pair u (other_side f.pair w) ≡ o → Right es (moved_nodes l n w p a kind u f.pair o xs)
    go None e = right_same es xs (lost_nodes l n w kind xs) lost r
    go (Some z) e =
        let x3 : List PlainNode = lost_nodes l n w kind xs in
        let ws : List PlainNode = with_node z (ByRewrite n w p a) x3 in
        right_same es ws (moved_nodes l n w p a kind u f.pair (Some z) xs) (bones_gains_equation _ _ _ ∙ bones_gains_equation _ _ _ ∙ bones_gains_rule _ _ ws)
        (right_with_node es z (ByRewrite n w p a) x3 (right_same es xs x3 lost r) (f.pair, f.by, same_pairs xs x3 lost n f.pair f.there, same_pairs xs x3 lost a.node f.by f.by_there, record { is_rule = rule; result = u; rewrites = f.step; canonical = e }))

-- ---- deduced pairs

comes_from : (g : Signature) (xs : List PlainNode) (p : Name) (es : List (NamedRule × NamedRule)) (all some : List NamedOverlap) (ds : List Deduced) → OverlapsOfAll es all → ((o : NamedOverlap) → Contains some o → Contains all o)
    → ((e : NamedRule × NamedRule) → Contains es e → HasNamed g xs p e.0 × HasNamed g xs p e.1) → AreDeduced ds some → (d : Deduced) → Contains ds d → ComesFrom xs d
comes_from g xs p es all some ds lists sub named proposed d i = (
  hx.pair,
  hy.pair,
  ap (λ (a : RuleRef). pair_in xs a.node) outer ∙ hx.there,
  ap (λ (a : RuleRef). pair_in xs a.node) inner ∙ hy.there,
  record {
    outer_rule = subst {A = Rule} IsRule (sym is_outer) hx.over.is_rule;
    inner_rule = subst {A = Rule} IsRule (sym is_inner) hy.over.is_rule;
    s = r.2;
    t = r.3;
    overlap = subst {A = Rule} (λ z. IsOverlapOrLimit z (rule_of hy.pair d.inner.dir) this) (sym is_outer) (subst {A = Rule} (λ z. IsOverlapOrLimit k.0.0.rule z this) (sym is_inner) (subst {A = Listed} (IsOverlapOrLimit k.0.0.rule k.0.1.rule) same k.4));
    canonical = r.5;
  },
)
  where
    r : (o : NamedOverlap) × Contains some o × (s : Tree) × (t : Tree) × (o.overlap.sides ≡ Ok (s, t)) × (canonical_pair s t ≡ Some d.pair) × (o.outer ≡ d.outer) × (o.inner ≡ d.inner) × (o.overlap.position ≡ d.position)
    r = deduced_from ds some proposed d i

    k : (e : NamedRule × NamedRule) × Contains es e × (r.0.outer ≡ e.0.ref) × (r.0.inner ≡ e.1.ref) × IsOverlapOrLimit e.0.rule e.1.rule r.0.overlap
    k = named_overlap es all lists r.0 (sub r.0 r.1)

    hx : HasNamed g xs p k.0.0
    hx = (named k.0 k.1).0

    hy : HasNamed g xs p k.0.1
    hy = (named k.0 k.1).1

    outer : d.outer ≡ k.0.0.ref
    outer = sym r.6 ∙ k.2

    inner : d.inner ≡ k.0.1.ref
    inner = sym r.7 ∙ k.3

    is_outer : rule_of hx.pair d.outer.dir ≡ k.0.0.rule
    is_outer = ap (λ (a : RuleRef). rule_of hx.pair a.dir) outer ∙ hx.is

    is_inner : rule_of hy.pair d.inner.dir ≡ k.0.1.rule
    is_inner = ap (λ (a : RuleRef). rule_of hy.pair a.dir) inner ∙ hy.is

    this : Listed
    this = record { position = d.position; sides = Ok (r.2, r.3) }

    same : r.0.overlap ≡ this
    same = subst {A = List ℕ} (λ p. r.0.overlap ≡ record { position = p; sides = Ok (r.2, r.3) }) r.8 (subst {A = Result (Tree × Tree) TermLimit} (λ z. r.0.overlap ≡ record { position = r.0.overlap.position; sides = z }) r.4 refl)

-- ---- commits

pub some_named : (l : List Name) → is_empty l ≡ false → (p : Name) × (has l p ≡ true)
some_named [] h = clash refl h
some_named (p ∷ l) h = (p, or_left _ (has l p) (name_eq-refl p))

module _ (P : Problem) (n : Settings) (past : List Moment) (b : Plain) (run : IsPossibleRun P n past b) (s : Stands b) (ordered : (p : Name) → IsOrdered P.signature (state_of b p)) (es : List (Tree × Tree)) (w t : ℕ) (j : Job) (x : Proposed) (f : IsFinishing past b w t j x) (acts : IsFalse (is_dropped b x)) (right : Right es b.nodes) where
  keeps : KeepsPairs f.before.nodes b.nodes
  keeps = pairs_stay IsFreeJob P n past b run (record { board = f.before; entry = Take w t j }) f.taken

  right_applied : Right es (applied b x).nodes
  right_applied = go j x refl refl f.proposed
    where
      go : (i : Job) (y : Proposed) → i ≡ j → y ≡ x → Proposes f.before i y → Right es (applied b y).nodes
      go i (Facts fs) ei ey h = right
      go i (One p m d c) ei ey h = right_same es b.nodes (applied b (One p m d c)).nodes (bones_oriented p (record { node = m.0; dir = d }) b.nodes) right
      go i (Both p m c0 c1) ei ey h = right_same es b.nodes (applied b (Both p m c0 c1)).nodes
          (bones_oriented (child p true) (record { node = m.0; dir = 1 }) (oriented (child p false) (record { node = m.0; dir = 0 }) (map (forked_node p) b.nodes)) ∙ bones_oriented (child p false) (record { node = m.0; dir = 0 }) (map (forked_node p) b.nodes) ∙ bones_fork p b.nodes) right
      go i (Refuse p m) ei ey h = right_same es b.nodes (applied b (Refuse p m)).nodes (bones_label m.0 X (join (label_at b.nodes m.0 X) (p ∷ [])) b.nodes) right
      go i (Closed p) ei ey h = right
      go i (Limit k cause) ei ey h = right
      go (Reduce p m) (Rewrite k v pos a kind u) ei ey h = at_pair (pair_at b k.0) r.there
        where
          r : IsRewriteOn b.nodes k.0 v pos a kind (tree_of u)
          r = rewrite_ready f.before b p m k v pos a kind u h keeps

          l : List Name
          l = rewrite_label b k.0 v a kind

          named : (q : Name) × (has (rewrite_label b k.0 v a kind) q ≡ true)
          named = some_named (rewrite_label b k.0 v a kind) (subst {A = Proposed} (λ z. is_dropped b z ≡ false) (sym ey) acts)

          rule : IsRule (rule_of r.by a.dir)
          rule = ((ordered named.0).sound.rules (rule_of r.by a.dir) (rule_listed b named.0 a r.by (source_of b k.0 v a kind named.0 named.1).0 r.by_there)).is_rule

          at_pair : (o : Option Pair) → o ≡ Some r.pair → Right es (option_map_or (λ q. rewritten (rewrite_label b k.0 v a kind) k.0 v pos a kind (tree_of u) q) o (λ xs. xs) b.nodes)
          at_pair None e = none_some e
          at_pair (Some z) e = subst {A = Pair} (λ q. Right es (rewritten (rewrite_label b k.0 v a kind) k.0 v pos a kind (tree_of u) q b.nodes)) (sym (some_is e)) (right_rewritten es b.nodes (rewrite_label b k.0 v a kind) k.0 v pos a kind (tree_of u) r rule right)
      go (Overlap q d e) (Deduce a c ds) ei ey h =
          let named = some_named (overlap_label b a c) (subst {A = Proposed} (λ z. is_dropped b z ≡ false) (sym ey) acts) in
          right_added es (overlap_label b a c) ds b.nodes (comes_from P.signature b.nodes named.0 (both_ways (record { ref = d; rule = h.2.0 }) (record { ref = e; rule = h.2.1 })) h.2.4.overlaps h.2.4.overlaps ds h.2.4.all (λ o k. k) (deduce_named P.signature f.before b keeps s ordered q d e a c ds h named.0 named.1) h.2.4.proposed) right
      go (Close p) (Unjoined q ds) ei ey h =
          let roles = (closers_stay P n past b run f.before w t p (subst {A = Job} (λ z. Contains past (record { board = f.before; entry = Take w t z })) (sym ei) f.taken) (subst {A = Job} (λ z. Contains b.flight (record { number = t; worker = w; job = z })) (sym ei) f.flying)).1 in
          right_added es (q ∷ []) ds b.nodes (comes_from P.signature b.nodes p (all_ways (rules_on f.before p)) h.1.overlaps h.1.listed ds h.1.all (λ o k. picks_in _ h.1.overlaps h.1.listed h.1.picked o k) (unjoined_named P.signature f.before b keeps s ordered p roles) h.1.proposed) right
      go (Orient p m) (Rewrite k v pos a kind u) ei ey h = absurd h
      go (Overlap p d e) (Rewrite k v pos a kind u) ei ey h = absurd h
      go (Close p) (Rewrite k v pos a kind u) ei ey h = absurd h
      go (Reduce p m) (Deduce a c ds) ei ey h = absurd h
      go (Orient p m) (Deduce a c ds) ei ey h = absurd h
      go (Close p) (Deduce a c ds) ei ey h = absurd h
      go (Reduce p m) (Unjoined q ds) ei ey h = absurd h
      go (Orient p m) (Unjoined q ds) ei ey h = absurd h
      go (Overlap p i e) (Unjoined q ds) ei ey h = absurd h

  pub right_effect : Right es (effect b x).nodes
  right_effect = ⊎_elim (λ h. subst {A = List PlainNode} (Right es) (sym h) right) (λ h. subst {A = List PlainNode} (Right es) (sym h) right_applied) (effect_cases b x)

-- ---- runs

right_input : (es : List (Tree × Tree)) (o : Option Pair) (i : ℕ) (e : Tree × Tree) (xs : List PlainNode) → canonical_pair e.0 e.1 ≡ o → item es i ≡ Some e → Right es xs → Right es (with_input o i xs)
right_input es None i e xs c there r = r
right_input es (Some z) i e xs c there r =
    let ws : List PlainNode = with_node z (Input i) xs in
    right_same es ws (with_input (Some z) i xs) (bones_gains_equation (node_of ws z) (root ∷ []) ws) (right_with_node es z (Input i) xs r (e, there, c))

right_inputs : (es fs : List (Tree × Tree)) (i : ℕ) (xs : List PlainNode) → ((k : ℕ) (e : Tree × Tree) → slice_get fs k ≡ Some e → item es (i + k) ≡ Some e) → Right es xs → Right es (with_inputs i fs xs)
right_inputs es [] i xs h r = r
right_inputs es (e ∷ fs) i xs h r = right_inputs es fs (i + 1) (with_input (canonical_pair e.0 e.1) i xs)
    (λ k d q. let m : i + suc k ≡ (i + 1) + k = omega arith in subst {A = ℕ} (λ z. item es z ≡ Some d) m (h (suc k) d q))
    (right_input es (canonical_pair e.0 e.1) i e xs refl (let m : i + 0 ≡ i = omega arith in subst {A = ℕ} (λ z. item es z ≡ Some e) m (h 0 e refl)) r)

right_opening : (P : Problem) (n : Settings) → Right P.equations (opening P n).nodes
right_opening P n = right_inputs P.equations P.equations 1 [] (λ k e h. let m : suc k ≡ 1 + k = omega arith in subst {A = ℕ} (λ z. item P.equations z ≡ Some e) m h) (λ m b h. none_some h)

right_run : (P : Problem) (n : Settings) (ms : List Moment) (c : Plain) → IsWithinLimits P → IsPossibleRun P n ms c → Right P.equations c.nodes
right_run P n [] c within run = subst {A = Plain} (λ z. Right P.equations z.nodes) (sym run) (right_opening P n)
right_run P n (m ∷ ms) c within (run, f) = go m.entry f (right_run P n ms m.board within run)
  where
    go : (e : Entry) → Follows IsFreeJob ms m.board e c → Right P.equations m.board.nodes → Right P.equations c.nodes
    go (Take w t j) f h = subst {A = Plain} (λ z. Right P.equations z.nodes) (sym f.leads_to) h
    go (Commit w t e) f h = subst {A = Plain} (λ z. Right P.equations z.nodes) (sym f.leads_to) (right_effect P n ms m.board run (stands_run P n ms m.board run) (states_ordered P n ms m.board within run (commits_fine P n ms m.board within run)) P.equations w t f.job f.proposal f.finishing f.acts h)
    go (Drop w t p) f h = subst {A = Plain} (λ z. Right P.equations z.nodes) (sym f.leads_to) h
    go (Abandon w t) f h = subst {A = Plain} (λ z. Right P.equations z.nodes) (sym f.leads_to) h
    go Halt f h = subst {A = Plain} (λ z. Right P.equations z.nodes) (sym f.1) h

bones_take : (n : ℕ) (xs : List PlainNode) → take n (bones xs) ≡ bones (take n xs)
bones_take zero xs = refl
bones_take (suc n) [] = refl
bones_take (suc n) (x ∷ xs) = ap ((x.pair, x.origin) ∷◌) (bones_take n xs)

bone_at : (xs : List PlainNode) (n : ℕ) (x : PlainNode) → slice_get xs n ≡ Some x → slice_get (bones xs) n ≡ Some (bone x)
bone_at [] n x h = none_some h
bone_at (y ∷ xs) zero x h = ap (λ z. Some (bone z)) (some_is h)
bone_at (y ∷ xs) (suc n) x h = bone_at xs n x h

-- each pair of a board of a run follows from the input and earlier pairs
pub pairs_follow_run : (P : Problem) (n : Settings) (ms : List Moment) (c : Plain) → IsWithinLimits P → IsPossibleRun P n ms c → PairsFollow c
pairs_follow_run P n ms c within run k x h = subst {A = Problem} (λ z. FollowsBy z.equations (pair_in (take k c.nodes)) x.origin x.pair) (sym (within_budget IsFreeJob P n ms c run).problem)
    (origin_more P.equations (at (take k (bones c.nodes))) (pair_in (take k c.nodes)) (λ m q e. sym (at_is (take k c.nodes) m) ∙ sym (ap (λ bs. at bs m) (bones_take k c.nodes)) ∙ e) x.origin x.pair (right_run P n ms c within run k (bone x) (bone_at c.nodes k x h)))
