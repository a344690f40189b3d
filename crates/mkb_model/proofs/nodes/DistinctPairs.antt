-- On every board of a run the pairs are canonical, not trivial and distinct, and each pair stays where it is.
use Rattle.std.proofs.Common.{ℕ, zero, suc, ◌+◌, ◌≡◌, ◌⊎◌, inl, inr, refl, sym, ap, ◌∙◌, subst, List, [], ◌∷◌, ◌++◌, map, length, Option, Some, None, ⊎_elim, Bool, true, false, cond, Contains, ◌==◌, Ordering, Less, Equal, Greater}
use Rattle.std.specs.Prelude.{⊤, Result, Ok, Err, option_to_list}
use Rattle.std.specs.Option.{option_map_or}
use Rattle.std.specs.Ordering.{ordering_index}
use Rattle.std.proofs.lemmas.Bool.{or_left, or_right}
use Rattle.kb_lemmas.proofs.Membership.{contains_cases, contains_behind, contains_first, none_in, contains_mapped, contains_map, contains_flat_map_back}
use Rattle.kb_lemmas.proofs.Options.{some_is, none_some}
use Rattle.kb_term.specs.Tree.{Tree, tree_eq, tree_cmp}
use Rattle.kb_term.specs.View.{tree_of}
use Rattle.kb_term.specs.Pair.{Pair, canonical, numbered, canonical_pair, IsCanonical, IsTrivial, IsSameEquation}
use Rattle.kb_term.specs.Substitution.{rename}
use Rattle.kb_term.specs.Signature.{Problem}
use Rattle.kb_overlap.specs.Trace.{other_side}
use Rattle.kb_term.specs.declared.limit.Limit.{Limit as TermLimit}
use Rattle.kb_term.specs.declared.origin.RuleRef.{RuleRef}
use Rattle.kb_term.specs.declared.origin.Found.{Found}
use Rattle.kb_term.specs.declared.origin.Origin.{Origin}
use Rattle.kb_term.specs.declared.origin.Origin.TheVariants.{Input, Rewrite as ByRewrite, Overlap as ByOverlap}
use Rattle.kb_term.proofs.Compared.{tree-is_eq}
use Rattle.kb_term.proofs.CanonicalPairs.{canonical_from_same, lesser_cases, flip, tree_flip}
use Rattle.kb_label.specs.Names.{Name, root, child}
use Rattle.mkb_model.specs.Plain.{Plain, PlainNode, pair_at, pair_in, sides}
use Rattle.mkb_model.specs.Effects.{with_node, new_node, node_of, is_present, pair_eq, gains, oriented, added, rewritten, rewrite_label, overlap_label, applied, effect, limit_of, give_up, effect_label, forked_node}
use Rattle.mkb_model.specs.Proposals.{Proposes, AreDeduced, NamedOverlap, deduced_pair}
use Rattle.mkb_model.specs.Journals.{Moment, Follows, IsRunBy, with_input, with_inputs}
use Rattle.kb_node.specs.declared.node.LabelKind.TheVariants.{X}
use Rattle.kb_node.specs.declared.job.Deduced.{Deduced}
use Rattle.kb_node.specs.declared.job.Job.{Job}
use Rattle.kb_node.specs.declared.job.Job.TheVariants.{Reduce, Orient, Overlap, Close}
use Rattle.kb_label.specs.declared.verdict.Reason.{Reason}
use Rattle.mkb_model.specs.declared.proposed.Proposed.{Proposed}
use Rattle.mkb_model.specs.declared.proposed.Proposed.TheVariants.{Facts, Rewrite, One, Both, Refuse, Deduce, Unjoined, Closed, Limit}
use Rattle.mkb_model.specs.declared.entry.Entry.{Entry}
use Rattle.mkb_model.specs.declared.entry.Entry.TheVariants.{Take, Commit, Drop, Abandon, Halt}
use Rattle.mkb_model.specs.Ready.{KeepsPairs}
use Rattle.mkb_model.proofs.Lists.{clash}
use Rattle.mkb_model.proofs.nodes.Pairs.{SamePairs, pairs_trans, pairs-loses, pairs-oriented, pairs-gains, pairs-gains_equation, pairs-gains_rule, pairs-fork, pair_eq-refl}
use Rattle.mkb_model.proofs.commits.Views.{numbered_variant}
use Rattle.mkb_model.proofs.commits.RoleChanges.{Fits}
use Rattle.mkb_model.proofs.commits.Adding.{add_one, with_pair}
use Rattle.mkb_model.proofs.commits.RewritingRuns.{some_canonical}
use Rattle.mkb_model.proofs.commits.RewritingSteps.{lost_nodes, moved_nodes}
use Rattle.mkb_model.proofs.commits.Commits.{pairs-applied}
use Rattle.mkb_model.specs.declared.settings.Settings.{Settings}

-- ---- canonical pairs

pub canonical_same : (s t : Tree) → IsSameEquation (s, t) (sides (canonical s t))
canonical_same s t = ⊎_elim (λ e. subst {A = Pair} (λ z. IsSameEquation (s, t) (sides z)) (sym e) (inl (numbered_variant s t)))
    (λ e. let v = numbered_variant t s in subst {A = Pair} (λ z. IsSameEquation (s, t) (sides z)) (sym e) (inr (v.0, v.1, v.3, v.2))) (lesser_cases (numbered s t) (numbered t s))

tree_eq-refl : (t : Tree) → tree_eq t t ≡ true
tree_eq-refl t = tree-is_eq t t ∙ go (tree_cmp t t) (tree_flip t t)
  where
    go : (o : Ordering) → o ≡ flip o → (ordering_index o == 1) ≡ true
    go Less e = absurd (cc)
    go Equal e = refl
    go Greater e = absurd (cc)

-- the two terms of a canonical pair differ, and it is its own canonical pair
pub canonical_fits : (s t : Tree) (z : Pair) → canonical_pair s t ≡ Some z → IsCanonical z × ¬ IsTrivial z
canonical_fits s t z h = (own, λ e. differ (trivial e))
  where
    is : canonical s t ≡ z
    is = some_canonical s t z h

    same : IsSameEquation (s, t) (sides z)
    same = subst {A = Pair} (λ w. IsSameEquation (s, t) (sides w)) is (canonical_same s t)

    own : IsCanonical z
    own = sym (canonical_from_same s t z.first z.second same) ∙ is

    trivial : z.first ≡ z.second → s ≡ t
    trivial e = ⊎_elim (λ v. sym v.2.back_again ∙ ap (rename v.1) e ∙ v.3.back_again) (λ v. sym v.2.back_again ∙ ap (rename v.1) (sym e) ∙ v.3.back_again) same

    differ : s ≡ t → ⊥
    differ e = none_some (subst {A = Bool} (λ b. cond b None (Some (canonical s t)) ≡ Some z) (subst {A = Tree} (λ w. tree_eq s w ≡ true) e (tree_eq-refl s)) h)

-- ---- lists of nodes

pub fits_same : (xs ys : List PlainNode) → SamePairs xs ys → Fits xs → Fits ys
fits_same xs ys h f = record { canonical = λ n q e. f.canonical n q (sym (h n) ∙ e); nontrivial = λ n q e. f.nontrivial n q (sym (h n) ∙ e); distinct = λ n m q e i. f.distinct n m q (sym (h n) ∙ e) (sym (h m) ∙ i) }

appended : (xs : List PlainNode) (y : PlainNode) (n : ℕ) (q : Pair) → pair_in (xs ++ y ∷ []) n ≡ Some q → (pair_in xs n ≡ Some q) ⊎ ((n ≡ length xs) × (q ≡ y.pair))
appended [] y zero q e = inr (refl, sym (some_is e))
appended [] y (suc n) q e = none_some e
appended (x ∷ xs) y zero q e = inl e
appended (x ∷ xs) y (suc n) q e = ⊎_elim (λ h. inl h) (λ h. inr (ap suc h.0, h.1)) (appended xs y n q e)

present_at : (xs : List PlainNode) (n : ℕ) (q : Pair) → pair_in xs n ≡ Some q → is_present xs q ≡ true
present_at [] n q e = none_some e
present_at (x ∷ xs) zero q e = or_left (pair_eq x.pair q) (is_present xs q) (subst {A = Pair} (λ z. pair_eq z q ≡ true) (sym (some_is e)) (pair_eq-refl q))
present_at (x ∷ xs) (suc n) q e = or_right (pair_eq x.pair q) (is_present xs q) (present_at xs n q e)

pub fits-with_node : (z : Pair) (o : Origin) (xs : List PlainNode) → IsCanonical z → ¬ IsTrivial z → Fits xs → Fits (with_node z o xs)
fits-with_node z o xs c t f = go (is_present xs z) refl
  where
    go : (b : Bool) → is_present xs z ≡ b → Fits (cond b xs (xs ++ new_node z o ∷ []))
    go true e = f
    go false e = record {
      canonical = λ n q h. ⊎_elim (λ i. f.canonical n q i) (λ i. subst {A = Pair} IsCanonical (sym i.1) c) (appended xs (new_node z o) n q h);
      nontrivial = λ n q h. ⊎_elim (λ i. f.nontrivial n q i) (λ i. subst {A = Pair} (λ w. ¬ IsTrivial w) (sym i.1) t) (appended xs (new_node z o) n q h);
      distinct = λ n m q h k. two n m q (appended xs (new_node z o) n q h) (appended xs (new_node z o) m q k);
    }
      where
        old : (n : ℕ) (q : Pair) → pair_in xs n ≡ Some q → q ≡ z → ⊥
        old n q h i = clash (subst {A = Pair} (λ w. is_present xs w ≡ true) i (present_at xs n q h)) e

        two : (n m : ℕ) (q : Pair) → (pair_in xs n ≡ Some q) ⊎ ((n ≡ length xs) × (q ≡ z)) → (pair_in xs m ≡ Some q) ⊎ ((m ≡ length xs) × (q ≡ z)) → n ≡ m
        two n m q (inl h) (inl k) = f.distinct n m q h k
        two n m q (inl h) (inr k) = absurd (old n q h k.1)
        two n m q (inr h) (inl k) = absurd (old m q k h.1)
        two n m q (inr h) (inr k) = h.0 ∙ sym k.0

-- the pair is the canonical pair of two terms
abbrev pub IsSomeCanonical : Pair → Type 0
IsSomeCanonical z = (s : Tree) × (t : Tree) × (canonical_pair s t ≡ Some z)

pub fits-added : (l : List Name) (ds : List Deduced) (xs : List PlainNode) → ((d : Deduced) → Contains ds d → IsSomeCanonical d.pair) → Fits xs → Fits (added l ds xs)
fits-added l [] xs h f = f
fits-added l (d ∷ ds) xs h f =
    let c = h d (contains_first d ds) in
    let k = canonical_fits c.0 c.1 d.pair c.2 in
    fits-added l ds (add_one l d xs) (λ e i. h e (contains_behind d ds e i)) (fits_same (with_pair d xs) (add_one l d xs) (pairs-gains_equation (node_of (with_pair d xs) d.pair) l (with_pair d xs)) (fits-with_node d.pair (ByOverlap d.outer d.inner d.position) xs k.0 k.1 f))

fits-moved : (l : List Name) (n w : ℕ) (at : List ℕ) (a : RuleRef) (kind : Found) (u : Tree) (q : Pair) (xs : List PlainNode) → Fits xs → Fits (rewritten l n w at a kind u q xs)
fits-moved l n w at a kind u q xs f = go (canonical_pair u (other_side q w)) refl
  where
    lost : Fits (lost_nodes l n w kind xs)
    lost = fits_same xs (lost_nodes l n w kind xs) (λ m. pairs-loses n _ l _ m ∙ pairs-loses n _ l _ m ∙ pairs-loses n _ _ xs m) f

    go : (o : Option Pair) → canonical_pair u (other_side q w) ≡ o → Fits (moved_nodes l n w at a kind u q o xs)
    go None e = lost
    go (Some z) e =
        let k = canonical_fits u (other_side q w) z e in
        let x3 : List PlainNode = lost_nodes l n w kind xs in
        let ws : List PlainNode = with_node z (ByRewrite n w at a) x3 in
        fits_same ws (moved_nodes l n w at a kind u q (Some z) xs) (λ m. pairs-gains_equation _ _ _ m ∙ pairs-gains_equation _ _ _ m ∙ pairs-gains_rule _ _ ws m) (fits-with_node z (ByRewrite n w at a) x3 k.0 k.1 lost)

-- the pairs for which the proposal wants nodes are canonical pairs
abbrev pub HasPairs : Proposed → Type 0
HasPairs (Deduce a c ds) = (d : Deduced) → Contains ds d → IsSomeCanonical d.pair
HasPairs (Unjoined p ds) = (d : Deduced) → Contains ds d → IsSomeCanonical d.pair
HasPairs x = ⊤

pub fits-applied : (b : Plain) (x : Proposed) → HasPairs x → Fits b.nodes → Fits (applied b x).nodes
fits-applied b (Facts fs) h f = f
fits-applied b (Rewrite n w at a kind t) h f = go (pair_at b n.0)
  where
    go : (o : Option Pair) → Fits (option_map_or (λ q. rewritten (rewrite_label b n.0 w a kind) n.0 w at a kind (tree_of t) q) o (λ xs. xs) b.nodes)
    go None = f
    go (Some z) = fits-moved (rewrite_label b n.0 w a kind) n.0 w at a kind (tree_of t) z b.nodes f
fits-applied b (One p n d c) h f = fits_same b.nodes (applied b (One p n d c)).nodes (pairs-oriented p (record { node = n.0; dir = d }) b.nodes) f
fits-applied b (Both p n c0 c1) h f = fits_same b.nodes (applied b (Both p n c0 c1)).nodes (λ m. pairs-oriented (child p true) (record { node = n.0; dir = 1 }) (oriented (child p false) (record { node = n.0; dir = 0 }) (map (forked_node p) b.nodes)) m ∙ pairs-oriented (child p false) (record { node = n.0; dir = 0 }) (map (forked_node p) b.nodes) m ∙ pairs-fork p b.nodes m) f
fits-applied b (Refuse p n) h f = fits_same b.nodes (gains n.0 X (p ∷ []) b.nodes) (pairs-gains n.0 X (p ∷ []) b.nodes) f
fits-applied b (Deduce a c ds) h f = fits-added (overlap_label b a c) ds b.nodes h f
fits-applied b (Unjoined p ds) h f = fits-added (p ∷ []) ds b.nodes h f
fits-applied b (Closed p) h f = f
fits-applied b (Limit j cause) h f = f

-- ---- what is proposed

-- a deduced pair is the canonical pair of the sides of an overlap, and names its rules and its position
pub deduced_from : (ds : List Deduced) (os : List NamedOverlap) → AreDeduced ds os → (d : Deduced) → Contains ds d
    → (o : NamedOverlap) × Contains os o × (s : Tree) × (t : Tree) × (o.overlap.sides ≡ Ok (s, t)) × (canonical_pair s t ≡ Some d.pair) × (o.outer ≡ d.outer) × (o.inner ≡ d.inner) × (o.overlap.position ≡ d.position)
deduced_from ds os h d i =
    let f : Deduced → RuleRef × RuleRef × List ℕ × Pair = λ d. (d.outer, d.inner, d.position, d.pair) in
    let j = subst {A = List (RuleRef × RuleRef × List ℕ × Pair)} (λ ts. Contains ts (f d)) h (contains_map f ds d i) in
    let k = contains_flat_map_back (λ (o : NamedOverlap). deduced_pair o o.overlap.sides) os (f d) j in
    let r = go k.0 k.0.overlap.sides refl k.2 in
    (k.0, k.1, r.0, r.1, r.2, r.3, r.4, r.5, r.6)
  where
    in_list : (o : Option Pair) (q : Pair) → Contains (option_to_list o) q → o ≡ Some q
    in_list None q c = none_in c
    in_list (Some z) q c = ⊎_elim (λ e. ap Some e) (λ k. none_in k) (contains_cases z [] q c)

    go : (o : NamedOverlap) (r : Result (Tree × Tree) TermLimit) → o.overlap.sides ≡ r → Contains (deduced_pair o r) (d.outer, d.inner, d.position, d.pair) → (s : Tree) × (t : Tree) × (o.overlap.sides ≡ Ok (s, t)) × (canonical_pair s t ≡ Some d.pair) × (o.outer ≡ d.outer) × (o.inner ≡ d.inner) × (o.overlap.position ≡ d.position)
    go o (Err l) e c = none_in c
    go o (Ok (s, t)) e c =
        let m = contains_mapped (λ q. (o.outer, o.inner, o.overlap.position, q)) (option_to_list (canonical_pair s t)) (d.outer, d.inner, d.position, d.pair) c in
        (s, t, e, in_list (canonical_pair s t) d.pair (subst {A = Pair} (Contains (option_to_list (canonical_pair s t))) (ap (λ (z : RuleRef × RuleRef × List ℕ × Pair). z.3) m.2) m.1), ap (λ (z : RuleRef × RuleRef × List ℕ × Pair). z.0) m.2, ap (λ (z : RuleRef × RuleRef × List ℕ × Pair). z.1) m.2, ap (λ (z : RuleRef × RuleRef × List ℕ × Pair). z.2) m.2)

pub proposed_pairs : (b : Plain) (j : Job) (x : Proposed) → Proposes b j x → HasPairs x
proposed_pairs b (Overlap p a c) (Deduce d e ds) h = λ z i. let r = deduced_from ds h.2.4.overlaps h.2.4.proposed z i in (r.2, r.3, r.5)
proposed_pairs b (Close p) (Unjoined q ds) h = λ z i. let r = deduced_from ds h.1.listed h.1.proposed z i in (r.2, r.3, r.5)
proposed_pairs b j (Facts fs) h = tt
proposed_pairs b j (Rewrite n w at a kind t) h = tt
proposed_pairs b j (One p n d c) h = tt
proposed_pairs b j (Both p n c0 c1) h = tt
proposed_pairs b j (Refuse p n) h = tt
proposed_pairs b j (Closed p) h = tt
proposed_pairs b j (Limit i cause) h = tt
proposed_pairs b (Reduce p n) (Deduce d e ds) h = absurd h
proposed_pairs b (Orient p n) (Deduce d e ds) h = absurd h
proposed_pairs b (Close p) (Deduce d e ds) h = absurd h
proposed_pairs b (Reduce p n) (Unjoined q ds) h = absurd h
proposed_pairs b (Orient p n) (Unjoined q ds) h = absurd h
proposed_pairs b (Overlap p a c) (Unjoined q ds) h = absurd h

-- ---- runs

-- a commit comes to a limit, and leaves the nodes, or is applied
pub effect_cases : (b : Plain) (x : Proposed) → ((effect b x).nodes ≡ b.nodes) ⊎ ((effect b x).nodes ≡ (applied b x).nodes)
effect_cases b x = go (limit_of b x)
  where
    go : (o : Option Reason) → ((option_map_or (λ r. give_up r (effect_label b x) b) o (applied b x)).nodes ≡ b.nodes) ⊎ ((option_map_or (λ r. give_up r (effect_label b x) b) o (applied b x)).nodes ≡ (applied b x).nodes)
    go None = inr refl
    go (Some r) = inl refl

-- at each entry pairs stay where they are
pub pairs_follow : (May : Plain → Job → Type 0) (past : List Moment) (b : Plain) (e : Entry) (c : Plain) → Follows May past b e c → KeepsPairs b.nodes c.nodes
pairs_follow May past b (Take w t j) c f = subst {A = Plain} (λ z. KeepsPairs b.nodes z.nodes) (sym f.leads_to) (λ n q h. h)
pairs_follow May past b (Commit w t e) c f = subst {A = Plain} (λ z. KeepsPairs b.nodes z.nodes) (sym f.leads_to)
    (⊎_elim (λ h. subst {A = List PlainNode} (KeepsPairs b.nodes) (sym h) (λ n q i. i)) (λ h. subst {A = List PlainNode} (KeepsPairs b.nodes) (sym h) (pairs-applied b f.proposal)) (effect_cases b f.proposal))
pairs_follow May past b (Drop w t p) c f = subst {A = Plain} (λ z. KeepsPairs b.nodes z.nodes) (sym f.leads_to) (λ n q h. h)
pairs_follow May past b (Abandon w t) c f = subst {A = Plain} (λ z. KeepsPairs b.nodes z.nodes) (sym f.leads_to) (λ n q h. h)
pairs_follow May past b Halt c f = subst {A = Plain} (λ z. KeepsPairs b.nodes z.nodes) (sym f.1) (λ n q h. h)

-- in a run each pair of an earlier board stands where it stood
pub pairs_stay : (May : Plain → Job → Type 0) (P : Problem) (n : Settings) (ms : List Moment) (c : Plain) → IsRunBy May P n ms c → (m : Moment) → Contains ms m → KeepsPairs m.board.nodes c.nodes
pairs_stay May P n [] c run m i = none_in i
pairs_stay May P n (x ∷ ms) c (run, f) m i = ⊎_elim
    (λ e. subst {A = Moment} (λ z. KeepsPairs z.board.nodes c.nodes) e (pairs_follow May ms x.board x.entry c f))
    (λ d. pairs_trans m.board.nodes x.board.nodes c.nodes (pairs_stay May P n ms x.board run m d) (pairs_follow May ms x.board x.entry c f))
    (contains_cases x ms m i)

fits_none : Fits []
fits_none = record { canonical = λ n q e. none_some e; nontrivial = λ n q e. none_some e; distinct = λ n m q e i. none_some e }

fits_input : (o : Option Pair) (i : ℕ) (xs : List PlainNode) → ((z : Pair) → o ≡ Some z → IsCanonical z × ¬ IsTrivial z) → Fits xs → Fits (with_input o i xs)
fits_input None i xs h f = f
fits_input (Some z) i xs h f = let k = h z refl in fits_same (with_node z (Input i) xs) (with_input (Some z) i xs) (pairs-gains_equation (node_of (with_node z (Input i) xs) z) (root ∷ []) (with_node z (Input i) xs)) (fits-with_node z (Input i) xs k.0 k.1 f)

fits_inputs : (i : ℕ) (es : List (Tree × Tree)) (xs : List PlainNode) → Fits xs → Fits (with_inputs i es xs)
fits_inputs i [] xs f = f
fits_inputs i (e ∷ es) xs f = fits_inputs (i + 1) es (with_input (canonical_pair e.0 e.1) i xs) (fits_input (canonical_pair e.0 e.1) i xs (λ z h. canonical_fits e.0 e.1 z h) f)

fits_follow : (May : Plain → Job → Type 0) (past : List Moment) (b : Plain) (e : Entry) (c : Plain) → Follows May past b e c → Fits b.nodes → Fits c.nodes
fits_follow May past b (Take w t j) c f h = subst {A = Plain} (λ z. Fits z.nodes) (sym f.leads_to) h
fits_follow May past b (Commit w t e) c f h = subst {A = Plain} (λ z. Fits z.nodes) (sym f.leads_to)
    (⊎_elim (λ i. subst {A = List PlainNode} Fits (sym i) h) (λ i. subst {A = List PlainNode} Fits (sym i) (fits-applied b f.proposal (proposed_pairs f.finishing.before f.job f.proposal f.finishing.proposed) h)) (effect_cases b f.proposal))
fits_follow May past b (Drop w t p) c f h = subst {A = Plain} (λ z. Fits z.nodes) (sym f.leads_to) h
fits_follow May past b (Abandon w t) c f h = subst {A = Plain} (λ z. Fits z.nodes) (sym f.leads_to) h
fits_follow May past b Halt c f h = subst {A = Plain} (λ z. Fits z.nodes) (sym f.1) h

-- the pairs of a board of a run are canonical, not trivial and distinct
pub fits_run : (May : Plain → Job → Type 0) (P : Problem) (n : Settings) (ms : List Moment) (c : Plain) → IsRunBy May P n ms c → Fits c.nodes
fits_run May P n [] c run = subst {A = Plain} (λ z. Fits z.nodes) (sym run) (fits_inputs 1 P.equations [] fits_none)
fits_run May P n (m ∷ ms) c (run, f) = fits_follow May ms m.board m.entry c f (fits_run May P n ms m.board run)
