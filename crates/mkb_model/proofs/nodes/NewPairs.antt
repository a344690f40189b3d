-- Nodes of the same pairs get nodes for the same new pairs, so a board of a run has no more nodes than there may be.
use Rattle.std.proofs.Common.{ℕ, zero, suc, ◌+◌, ◌≤◌, ◌≡◌, refl, sym, ap, ◌∙◌, subst, arith, List, [], ◌∷◌, ◌++◌, map, length, Option, Some, None, Bool, true, false, cond}
use Rattle.std.specs.Prelude.{◌||◌, option_to_list, option_and_then}
use Rattle.std.specs.List.{list_any}
use Rattle.std.specs.Option.{option_map_or}
use Rattle.std.proofs.lemmas.List.{map-append, length-map, length-append}
use Rattle.std.proofs.lemmas.Bool.{ltb-false}
use Rattle.kb_lemmas.proofs.Options.{none_some}
use Rattle.kb_label.specs.Names.{Name, root, child, join, minus}
use Rattle.kb_label.specs.declared.verdict.Reason.{Reason}
use Rattle.kb_label.specs.declared.verdict.Reason.TheVariants.{Nodes, Processes}
use Rattle.kb_term.specs.Tree.{Tree}
use Rattle.kb_term.specs.View.{tree_of}
use Rattle.kb_term.specs.Pair.{Pair, canonical_pair}
use Rattle.kb_term.specs.Signature.{Problem, IsWithinLimits}
use Rattle.kb_term.specs.declared.origin.RuleRef.{RuleRef}
use Rattle.kb_term.specs.declared.origin.Found.{Found}
use Rattle.kb_term.specs.declared.origin.Origin.{Origin}
use Rattle.kb_term.specs.declared.origin.Origin.TheVariants.{Input, Rewrite as ByRewrite, Overlap as ByOverlap}
use Rattle.kb_overlap.specs.Trace.{other_side}
use Rattle.kb_node.specs.declared.node.LabelKind.{LabelKind}
use Rattle.kb_node.specs.declared.node.LabelKind.TheVariants.{R0, R1, E, X}
use Rattle.kb_node.specs.declared.job.Deduced.{Deduced}
use Rattle.kb_node.specs.declared.job.Job.{Job}
use Rattle.mkb_model.specs.Plain.{Plain, PlainNode, label_at, rule_kind, pair_at}
use Rattle.mkb_model.specs.Effects.{with_label, pair_eq, node_of, is_present, new_node, with_node, with_nodes, gains, loses, gains_rule, oriented, added, rewritten, rewrite_label, overlap_label, forked_node, applied, effect, limit_of, give_up, effect_label, wanted, own_reason, is_crowded, is_full, first_some, some_if, most_nodes}
use Rattle.mkb_model.specs.Journals.{Moment, Follows, IsRunBy, with_input, with_inputs}
use Rattle.mkb_model.specs.declared.proposed.Proposed.{Proposed}
use Rattle.mkb_model.specs.declared.proposed.Proposed.TheVariants.{Facts, Rewrite, One, Both, Refuse, Deduce, Unjoined, Closed, Limit}
use Rattle.mkb_model.specs.declared.entry.Entry.{Entry}
use Rattle.mkb_model.specs.declared.entry.Entry.TheVariants.{Take, Commit, Drop, Abandon, Halt}
use Rattle.mkb_model.proofs.nodes.Pairs.{pair-put_in}
use Rattle.mkb_model.proofs.commits.Roles.{length-put}
use Rattle.mkb_model.proofs.commits.Adding.{add_one}
use Rattle.mkb_model.proofs.commits.RewritingSteps.{lost_nodes, moved_nodes}
use Rattle.mkb_model.specs.declared.settings.Settings.{Settings}

-- the pairs of the nodes
abbrev pub plain_pairs : List PlainNode → List Pair
plain_pairs xs = map (λ (x : PlainNode). x.pair) xs

present-pairs : (xs : List PlainNode) (q : Pair) → is_present xs q ≡ list_any (λ (p : Pair). pair_eq p q) (plain_pairs xs)
present-pairs [] q = refl
present-pairs (x ∷ xs) q = ap (λ b. pair_eq x.pair q || b) (present-pairs xs q)

-- whether a pair has a node is told by the pairs
pub present-same : (xs ys : List PlainNode) (q : Pair) → plain_pairs xs ≡ plain_pairs ys → is_present xs q ≡ is_present ys q
present-same xs ys q e = present-pairs xs q ∙ ap (list_any (λ (p : Pair). pair_eq p q)) e ∙ sym (present-pairs ys q)

-- a label that is put anew changes no pair
pub pairs-put : (xs : List PlainNode) (n : ℕ) (k : LabelKind) (l : List Name) → plain_pairs (with_label n k l xs) ≡ plain_pairs xs
pairs-put [] n k l = refl
pairs-put (x ∷ xs) zero k l = ap (λ p. p ∷ plain_pairs xs) (pair-put_in x k l)
pairs-put (x ∷ xs) (suc n) k l = ap (λ ps. x.pair ∷ ps) (pairs-put xs n k l)

listed-with_node : (q : Pair) (o : Origin) (xs : List PlainNode) → plain_pairs (with_node q o xs) ≡ cond (is_present xs q) (plain_pairs xs) (plain_pairs xs ++ q ∷ [])
listed-with_node q o xs = go (is_present xs q)
  where
    go : (b : Bool) → plain_pairs (cond b xs (xs ++ new_node q o ∷ [])) ≡ cond b (plain_pairs xs) (plain_pairs xs ++ q ∷ [])
    go true = refl
    go false = map-append (λ (x : PlainNode). x.pair) xs (new_node q o ∷ [])

pub with_node-same : (q : Pair) (o r : Origin) (xs ys : List PlainNode) → plain_pairs xs ≡ plain_pairs ys → plain_pairs (with_node q o xs) ≡ plain_pairs (with_node q r ys)
with_node-same q o r xs ys e =
    listed-with_node q o xs
    ∙ ap (λ b. cond b (plain_pairs xs) (plain_pairs xs ++ q ∷ [])) (present-same xs ys q e)
    ∙ ap (λ ps. cond (is_present ys q) ps (ps ++ q ∷ [])) e
    ∙ sym (listed-with_node q r ys)

pub with_nodes-same : (qs : List Pair) (xs ys : List PlainNode) → plain_pairs xs ≡ plain_pairs ys → plain_pairs (with_nodes qs xs) ≡ plain_pairs (with_nodes qs ys)
with_nodes-same [] xs ys e = e
with_nodes-same (q ∷ qs) xs ys e = with_nodes-same qs (with_node q (Input 0) xs) (with_node q (Input 0) ys) (with_node-same q (Input 0) (Input 0) xs ys e)

pub length-same : (xs ys : List PlainNode) → plain_pairs xs ≡ plain_pairs ys → length xs ≡ length ys
length-same xs ys e = sym (length-map xs (λ (x : PlainNode). x.pair)) ∙ ap length e ∙ length-map ys (λ (x : PlainNode). x.pair)

pub length-with_node : (q : Pair) (o : Origin) (xs : List PlainNode) → length xs ≤ length (with_node q o xs)
length-with_node q o xs = go (is_present xs q)
  where
    go : (b : Bool) → length xs ≤ length (cond b xs (xs ++ new_node q o ∷ []))
    go true = omega arith
    go false = omega (arith, length-append xs (new_node q o ∷ []))

pub length-with_nodes : (qs : List Pair) (xs : List PlainNode) → length xs ≤ length (with_nodes qs xs)
length-with_nodes [] xs = omega arith
length-with_nodes (q ∷ qs) xs = omega (arith, length-with_node q (Input 0) xs, length-with_nodes qs (with_node q (Input 0) xs))

pairs-add_one : (l : List Name) (d : Deduced) (xs : List PlainNode) → plain_pairs (add_one l d xs) ≡ plain_pairs (with_node d.pair (Input 0) xs)
pairs-add_one l d xs =
    let ys : List PlainNode = with_node d.pair (ByOverlap d.outer d.inner d.position) xs in
    let n : ℕ = node_of ys d.pair in
    pairs-put ys n E (join (label_at ys n E) (minus (minus l (label_at ys n R0)) (label_at ys n R1)))
    ∙ with_node-same d.pair (ByOverlap d.outer d.inner d.position) (Input 0) xs xs refl

-- where one pair is added, as many nodes are wanted as before
pub wanted-add_one : (l : List Name) (d : Deduced) (qs : List Pair) (xs : List PlainNode) → length (with_nodes (d.pair ∷ qs) xs) ≡ length (with_nodes qs (add_one l d xs))
wanted-add_one l d qs xs =
    length-same (with_nodes qs (with_node d.pair (Input 0) xs)) (with_nodes qs (add_one l d xs))
    (with_nodes-same qs (with_node d.pair (Input 0) xs) (add_one l d xs) (sym (pairs-add_one l d xs)))

-- ---- how many nodes there are

listed-gains_rule : (a : RuleRef) (l : List Name) (xs : List PlainNode) → plain_pairs (gains_rule a l xs) ≡ plain_pairs xs
listed-gains_rule a l xs = pairs-put (loses a.node E l xs) a.node (rule_kind a.dir) _ ∙ pairs-put xs a.node E _

listed-oriented : (p : Name) (a : RuleRef) (xs : List PlainNode) → plain_pairs (oriented p a xs) ≡ plain_pairs xs
listed-oriented p a xs = pairs-put (gains a.node (rule_kind a.dir) (p ∷ []) (loses a.node E (p ∷ []) xs)) a.node _ _ ∙ pairs-put (loses a.node E (p ∷ []) xs) a.node _ _ ∙ pairs-put xs a.node E _

listed-fork : (p : Name) (xs : List PlainNode) → plain_pairs (map (forked_node p) xs) ≡ plain_pairs xs
listed-fork p [] = refl
listed-fork p (x ∷ xs) = ap (λ ps. x.pair ∷ ps) (listed-fork p xs)

length-added : (l : List Name) (ds : List Deduced) (xs : List PlainNode) → length (added l ds xs) ≡ length (with_nodes (map (λ (d : Deduced). d.pair) ds) xs)
length-added l [] xs = refl
length-added l (d ∷ ds) xs = length-added l ds (add_one l d xs) ∙ sym (wanted-add_one l d (map (λ (d : Deduced). d.pair) ds) xs)

length-moved : (l : List Name) (n w : ℕ) (at : List ℕ) (a : RuleRef) (kind : Found) (u : Tree) (q : Pair) (o : Option Pair) (xs : List PlainNode) → length (moved_nodes l n w at a kind u q o xs) ≡ length (with_nodes (option_to_list o) xs)
length-moved l n w at a kind u q None xs = length-same (lost_nodes l n w kind xs) xs (pairs-put _ n E _ ∙ pairs-put _ n _ _ ∙ pairs-put xs n _ _)
length-moved l n w at a kind u q (Some z) xs =
    let x3 : List PlainNode = lost_nodes l n w kind xs in
    let ws : List PlainNode = with_node z (ByRewrite n w at a) x3 in
    length-same (moved_nodes l n w at a kind u q (Some z) xs) (with_node z (Input 0) xs)
    (pairs-put _ _ E _ ∙ pairs-put _ _ E _ ∙ listed-gains_rule _ _ ws ∙ with_node-same z (ByRewrite n w at a) (Input 0) x3 xs (pairs-put _ n E _ ∙ pairs-put _ n _ _ ∙ pairs-put xs n _ _))

-- a commit makes as many nodes as were wanted
length-applied : (b : Plain) (x : Proposed) → length (applied b x).nodes ≡ length (with_nodes (wanted b x) b.nodes)
length-applied b (Facts fs) = refl
length-applied b (Rewrite n w at a kind t) = go (pair_at b n.0)
  where
    go : (o : Option Pair) → length (option_map_or (λ q. rewritten (rewrite_label b n.0 w a kind) n.0 w at a kind (tree_of t) q) o (λ xs. xs) b.nodes) ≡ length (with_nodes (option_to_list (option_and_then (λ q. canonical_pair (tree_of t) (other_side q w)) o)) b.nodes)
    go None = refl
    go (Some q) = length-moved (rewrite_label b n.0 w a kind) n.0 w at a kind (tree_of t) q (canonical_pair (tree_of t) (other_side q w)) b.nodes
length-applied b (One p n d c) = length-same (applied b (One p n d c)).nodes b.nodes (listed-oriented p (record { node = n.0; dir = d }) b.nodes)
length-applied b (Both p n c0 c1) = length-same (applied b (Both p n c0 c1)).nodes b.nodes
    (listed-oriented (child p true) (record { node = n.0; dir = 1 }) (oriented (child p false) (record { node = n.0; dir = 0 }) (map (forked_node p) b.nodes)) ∙ listed-oriented (child p false) (record { node = n.0; dir = 0 }) (map (forked_node p) b.nodes) ∙ listed-fork p b.nodes)
length-applied b (Refuse p n) = length-put b.nodes n.0 X _
length-applied b (Deduce a c ds) = length-added (overlap_label b a c) ds b.nodes
length-applied b (Unjoined p ds) = length-added (p ∷ []) ds b.nodes
length-applied b (Closed p) = refl
length-applied b (Limit j cause) = refl

-- a commit that meets no limit finds room
room_found : (b : Plain) (x : Proposed) → limit_of b x ≡ None → length (with_nodes (wanted b x) b.nodes) ≤ most_nodes
room_found b x e = ltb-false most_nodes (length (with_nodes (wanted b x) b.nodes)) (go (own_reason x) (is_crowded b x) (is_full b x) e)
  where
    go : (o : Option Reason) (c f : Bool) → first_some (o ∷ some_if c Processes ∷ some_if f Nodes ∷ []) ≡ None → f ≡ false
    go (Some r) c f h = none_some (sym h)
    go None true f h = none_some (sym h)
    go None false true h = none_some (sym h)
    go None false false h = refl

few_effect : (b : Plain) (x : Proposed) → length b.nodes ≤ most_nodes → length (effect b x).nodes ≤ most_nodes
few_effect b x few = go (limit_of b x) refl
  where
    go : (o : Option Reason) → limit_of b x ≡ o → length (option_map_or (λ r. give_up r (effect_label b x) b) o (applied b x)).nodes ≤ most_nodes
    go None e = let k = room_found b x e in let l = length-applied b x in omega (arith, k, l)
    go (Some r) e = few

length-with_input : (o : Option Pair) (i : ℕ) (xs : List PlainNode) → length (with_input o i xs) ≤ length xs + 1
length-with_input None i xs = omega arith
length-with_input (Some q) i xs =
    let ys : List PlainNode = with_node q (Input i) xs in
    let n : ℕ = node_of ys q in
    let k = length-put ys n E (join (label_at ys n E) (minus (minus (root ∷ []) (label_at ys n R0)) (label_at ys n R1))) in
    omega (arith, k, go (is_present xs q))
  where
    go : (b : Bool) → length (cond b xs (xs ++ new_node q (Input i) ∷ [])) ≤ length xs + 1
    go true = omega arith
    go false = omega (arith, length-append xs (new_node q (Input i) ∷ []))

length-with_inputs : (i : ℕ) (es : List (Tree × Tree)) (xs : List PlainNode) → length (with_inputs i es xs) ≤ length xs + length es
length-with_inputs i [] xs = omega arith
length-with_inputs i (e ∷ es) xs = let k = length-with_input (canonical_pair e.0 e.1) i xs in let l = length-with_inputs (i + 1) es (with_input (canonical_pair e.0 e.1) i xs) in omega (arith, k, l)

-- a board of a run of a problem within the limits has no more nodes than there may be
pub few_run : (May : Plain → Job → Type 0) (P : Problem) (n : Settings) (ms : List Moment) (c : Plain) → IsWithinLimits P → IsRunBy May P n ms c → length c.nodes ≤ most_nodes
few_run May P n [] c within run = subst {A = Plain} (λ z. length z.nodes ≤ most_nodes) (sym run) (let k = length-with_inputs 1 P.equations [] in let l = within.count in omega (arith, k, l))
few_run May P n (m ∷ ms) c within (run, f) = go m.entry f (few_run May P n ms m.board within run)
  where
    go : (e : Entry) → Follows May ms m.board e c → length m.board.nodes ≤ most_nodes → length c.nodes ≤ most_nodes
    go (Take w t j) f h = subst {A = Plain} (λ z. length z.nodes ≤ most_nodes) (sym f.leads_to) h
    go (Commit w t e) f h = subst {A = Plain} (λ z. length z.nodes ≤ most_nodes) (sym f.leads_to) (few_effect m.board f.proposal h)
    go (Drop w t p) f h = subst {A = Plain} (λ z. length z.nodes ≤ most_nodes) (sym f.leads_to) h
    go (Abandon w t) f h = subst {A = Plain} (λ z. length z.nodes ≤ most_nodes) (sym f.leads_to) h
    go Halt f h = subst {A = Plain} (λ z. length z.nodes ≤ most_nodes) (sym f.1) h
