-- In a possible run of a problem within the limits the pair of each node is within the limits.
use Rattle.std.proofs.Common.{ℕ, zero, suc, ◌+◌, ◌≡◌, refl, sym, ap, ap₂, ◌∙◌, subst, arith, ◌||◌, List, [], ◌∷◌, ◌++◌, map, length, Contains, Bool, true, false, cond, Option, Some, None, ⊎_elim}
use Rattle.std.specs.Prelude.{max, nat_lt, Ok, IsFalse, option_and_then, option_to_list}
use Rattle.std.specs.Option.{option_map_or}
use Rattle.std.proofs.lemmas.List.Elements.{All-contains}
use Rattle.std.proofs.lemmas.Bool.{or_parts, ltb-false}
use Rattle.kb_lemmas.proofs.Membership.{contains_cases, contains_behind, contains_first, none_in, contains_mapped}
use Rattle.kb_lemmas.proofs.Options.{some_is, none_some}
use Rattle.kb_laws.proofs.Cleaning.{length-instances}
use Rattle.mkb_model.proofs.nodes.Variables.{step_few}
use Rattle.kb_term.specs.declared.limit.Limit.TheVariants.{Size, Depth, Variables}
use Rattle.kb_term.specs.Tree.{Tree, Trees, variable, apply, no_trees, more_trees, tree_size, trees_size, tree_depth, trees_depth}
use Rattle.kb_term.specs.View.{tree_of}
use Rattle.kb_term.specs.Substitution.{instance, instances, rename}
use Rattle.kb_term.specs.Pair.{Pair, place_in, variables_of_pair, numbered, canonical_pair, canonical, IsWithin, ArePairWithin, term_limit, pair_limit, first_limit, limit_if}
use Rattle.kb_term.specs.Rule.{Rule, rule_of}
use Rattle.kb_term.specs.Signature.{Signature, Problem, HasArity, IsWellFormed, AreWellFormed, IsRuleOver, IsWithinLimits, IsEquationWithinLimits}
use Rattle.kb_term.specs.Proving.{RewritesAt}
use Rattle.kb_term.specs.declared.limit.Limit.{Limit as TermLimit}
use Rattle.kb_term.specs.declared.origin.Found.{Found}
use Rattle.kb_term.specs.declared.origin.RuleRef.{RuleRef}
use Rattle.kb_term.specs.declared.origin.Origin.{Origin}
use Rattle.kb_term.specs.declared.origin.Origin.TheVariants.{Input, Rewrite as ByRewrite, Overlap as ByOverlap}
use Rattle.kb_term.proofs.NameList.{variables_of_pair-swapped}
use Rattle.kb_term.proofs.OwnPair.{numbered_few}
use Rattle.kb_term.proofs.CanonicalPairs.{lesser_cases}
use Rattle.kb_overlap.specs.Trace.{side, other_side}
use Rattle.kb_overlap.specs.Overlap.{IsOverlapOrLimit, overlap_limit, pair_or_limit}
use Rattle.kb_lpo.proofs.Arities.{keeps_well}
use Rattle.kb_laws.proofs.Complete.{all_from, has_over}
use Rattle.kb_term.proofs.Bridge.{step_from_position}
use Rattle.kb_label.specs.Names.{Name, root, child, has}
use Rattle.kb_node.specs.declared.node.LabelKind.TheVariants.{X}
use Rattle.kb_node.specs.declared.job.Deduced.{Deduced}
use Rattle.mkb_model.specs.Plain.{Plain, PlainNode, pair_in, pair_at}
use Rattle.mkb_model.specs.Effects.{added, applied, wanted, with_node, new_node, node_of, is_present, oriented, forked_node, rewritten, rewrite_label, overlap_label, gains}
use Rattle.mkb_model.specs.declared.proposed.Proposed.{Proposed}
use Rattle.mkb_model.specs.declared.proposed.Proposed.TheVariants.{Facts, Rewrite, One, Both, Refuse, Deduce, Unjoined, Closed, Limit}
use Rattle.kb_term.proofs.Subtrees.{subtree-instance}
use Rattle.kb_overlap.specs.Overlap.{Overlap as Listed}
use Rattle.mkb_model.specs.Ready.{IsRewriteOn, KeepsPairs}
use Rattle.mkb_model.specs.Proposals.{NamedRule, NamedOverlap, OverlapsOfAll, AreDeduced}
use Rattle.mkb_model.proofs.nodes.DistinctPairs.{deduced_from, effect_cases, pairs_stay}
use Rattle.mkb_model.proofs.commits.Deductions.{HasNamed, named_overlap, picks_in, well_unifier, well_subtree, well_instance}
use Rattle.mkb_model.proofs.nodes.Pairs.{SamePairs, pairs-gains, pairs-loses, pairs-gains_equation, pairs-gains_rule, pairs-fork, pairs-oriented}
use Rattle.mkb_model.proofs.commits.Adding.{add_one, with_pair}
use Rattle.mkb_model.proofs.commits.RewritingRuns.{some_canonical}
use Rattle.mkb_model.proofs.commits.RewritingSteps.{lost_nodes, moved_nodes}
use Rattle.kb_node.specs.declared.job.Job.{Job}
use Rattle.kb_node.specs.declared.job.Job.TheVariants.{Reduce, Orient, Overlap, Close}
use Rattle.mkb_model.specs.Plain.{state_of}
use Rattle.mkb_model.specs.Effects.{effect, is_dropped}
use Rattle.mkb_model.specs.Proposals.{Proposes, both_ways, all_ways, rules_on}
use Rattle.mkb_model.specs.Journals.{Moment, Follows, IsPossibleRun, IsFreeJob, IsFinishing, with_input, with_inputs}
use Rattle.mkb_model.specs.declared.entry.Entry.{Entry}
use Rattle.mkb_model.specs.declared.entry.Entry.TheVariants.{Take, Commit, Drop, Abandon, Halt}
use Rattle.mkb_model.proofs.commits.Views.{rule_listed}
use Rattle.mkb_model.proofs.commits.Proper.{IsOrdered}
use Rattle.mkb_model.proofs.commits.RewritingRuns.{source_of}
use Rattle.mkb_model.proofs.runs.Readiness.{rewrite_ready}
use Rattle.mkb_model.proofs.closing.RestInRuns.{Stands, stands_run}
use Rattle.mkb_model.proofs.closing.Staying.{closers_stay}
use Rattle.mkb_model.proofs.runs.AllFine.{states_ordered, commits_fine, deduce_named, unjoined_named}
use Rattle.mkb_model.proofs.nodes.Origins.{some_named}
use Rattle.mkb_model.specs.Limits.{IsLimitedPair, AreLimited}
use Rattle.mkb_model.specs.declared.settings.Settings.{Settings}

-- ---- what holds of the pair of each node

-- this holds of the pair of each node
abbrev pub OfPairs : (Pair → Type 0) → List PlainNode → Type 0
OfPairs Q xs = (n : ℕ) (q : Pair) → pair_in xs n ≡ Some q → Q q

module _ (Q : Pair → Type 0) where
  of_same : (xs ys : List PlainNode) → SamePairs xs ys → OfPairs Q xs → OfPairs Q ys
  of_same xs ys h f n q e = f n q (sym (h n) ∙ e)

  of_appended : (xs : List PlainNode) (y : PlainNode) → Q y.pair → OfPairs Q xs → OfPairs Q (xs ++ y ∷ [])
  of_appended [] y h f zero q e = subst {A = Pair} Q (some_is e) h
  of_appended [] y h f (suc n) q e = none_some e
  of_appended (x ∷ xs) y h f zero q e = f zero q e
  of_appended (x ∷ xs) y h f (suc n) q e = of_appended xs y h (λ m. f (suc m)) n q e

  pub of_with_node : (z : Pair) (o : Origin) (xs : List PlainNode) → Q z → OfPairs Q xs → OfPairs Q (with_node z o xs)
  of_with_node z o xs h f = go (is_present xs z)
    where
      go : (b : Bool) → OfPairs Q (cond b xs (xs ++ new_node z o ∷ []))
      go true = f
      go false = of_appended xs (new_node z o) h f

  of_added : (l : List Name) (ds : List Deduced) (xs : List PlainNode) → ((q : Pair) → Contains (map (λ (d : Deduced). d.pair) ds) q → Q q) → OfPairs Q xs → OfPairs Q (added l ds xs)
  of_added l [] xs h f = f
  of_added l (d ∷ ds) xs h f =
      of_added l ds (add_one l d xs) (λ q i. h q (contains_behind d.pair (map (λ (e : Deduced). e.pair) ds) q i))
      (of_same (with_pair d xs) (add_one l d xs) (pairs-gains_equation (node_of (with_pair d xs) d.pair) l (with_pair d xs)) (of_with_node d.pair (ByOverlap d.outer d.inner d.position) xs (h d.pair (contains_first d.pair (map (λ (e : Deduced). e.pair) ds))) f))

  of_moved : (l : List Name) (n w : ℕ) (at : List ℕ) (a : RuleRef) (kind : Found) (u : Tree) (q : Pair) (xs : List PlainNode) → ((z : Pair) → canonical_pair u (other_side q w) ≡ Some z → Q z) → OfPairs Q xs → OfPairs Q (rewritten l n w at a kind u q xs)
  of_moved l n w at a kind u q xs h f = go (canonical_pair u (other_side q w)) refl
    where
      lost : OfPairs Q (lost_nodes l n w kind xs)
      lost = of_same xs (lost_nodes l n w kind xs) (λ m. pairs-loses n _ l _ m ∙ pairs-loses n _ l _ m ∙ pairs-loses n _ _ xs m) f

      go : (o : Option Pair) → canonical_pair u (other_side q w) ≡ o → OfPairs Q (moved_nodes l n w at a kind u q o xs)
      go None e = lost
      go (Some z) e =
          let x3 : List PlainNode = lost_nodes l n w kind xs in
          let ws : List PlainNode = with_node z (ByRewrite n w at a) x3 in
          of_same ws (moved_nodes l n w at a kind u q (Some z) xs) (λ m. pairs-gains_equation _ _ _ m ∙ pairs-gains_equation _ _ _ m ∙ pairs-gains_rule _ _ ws m) (of_with_node z (ByRewrite n w at a) x3 (h z e) lost)

  -- where it holds of the pairs for which the proposal wants nodes, it holds after its effect
  pub of_applied : (b : Plain) (x : Proposed) → ((q : Pair) → Contains (wanted b x) q → Q q) → OfPairs Q b.nodes → OfPairs Q (applied b x).nodes
  of_applied b (Facts fs) h f = f
  of_applied b (Rewrite n w at a kind t) h f = go (pair_at b n.0) refl
    where
      one : (o : Option Pair) (z : Pair) → o ≡ Some z → Contains (option_to_list o) z
      one None z e = none_some e
      one (Some y) z e = subst {A = Pair} (Contains (y ∷ [])) (some_is e) (contains_first y [])

      go : (o : Option Pair) → pair_at b n.0 ≡ o → OfPairs Q (option_map_or (λ q. rewritten (rewrite_label b n.0 w a kind) n.0 w at a kind (tree_of t) q) o (λ xs. xs) b.nodes)
      go None e = f
      go (Some z) e = of_moved (rewrite_label b n.0 w a kind) n.0 w at a kind (tree_of t) z b.nodes (λ y k. h y (one (option_and_then (λ q. canonical_pair (tree_of t) (other_side q w)) (pair_at b n.0)) y (ap (option_and_then (λ q. canonical_pair (tree_of t) (other_side q w))) e ∙ k))) f
  of_applied b (One p n d c) h f = of_same b.nodes (applied b (One p n d c)).nodes (pairs-oriented p (record { node = n.0; dir = d }) b.nodes) f
  of_applied b (Both p n c0 c1) h f = of_same b.nodes (applied b (Both p n c0 c1)).nodes (λ m. pairs-oriented (child p true) (record { node = n.0; dir = 1 }) (oriented (child p false) (record { node = n.0; dir = 0 }) (map (forked_node p) b.nodes)) m ∙ pairs-oriented (child p false) (record { node = n.0; dir = 0 }) (map (forked_node p) b.nodes) m ∙ pairs-fork p b.nodes m) f
  of_applied b (Refuse p n) h f = of_same b.nodes (gains n.0 X (p ∷ []) b.nodes) (pairs-gains n.0 X (p ∷ []) b.nodes) f
  of_applied b (Deduce a c ds) h f = of_added (overlap_label b a c) ds b.nodes h f
  of_applied b (Unjoined p ds) h f = of_added (p ∷ []) ds b.nodes h f
  of_applied b (Closed p) h f = f
  of_applied b (Limit j cause) h f = f

-- ---- canonical pairs

-- renaming keeps size and depth
mutual
  size-renamed : (r : ℕ → ℕ) (t : Tree) → tree_size (instance (λ n. variable (r n)) t) ≡ tree_size t
  size-renamed r (variable n) = refl
  size-renamed r (apply f ts) = ap (λ n. n + 1) (sizes-renamed r ts)

  sizes-renamed : (r : ℕ → ℕ) (ts : Trees) → trees_size (instances (λ n. variable (r n)) ts) ≡ trees_size ts
  sizes-renamed r no_trees = refl
  sizes-renamed r (more_trees t ts) = ap₂ (λ m n. m + n) (size-renamed r t) (sizes-renamed r ts)

mutual
  depth-renamed : (r : ℕ → ℕ) (t : Tree) → tree_depth (instance (λ n. variable (r n)) t) ≡ tree_depth t
  depth-renamed r (variable n) = refl
  depth-renamed r (apply f ts) = ap (λ n. n + 1) (depths-renamed r ts)

  depths-renamed : (r : ℕ → ℕ) (ts : Trees) → trees_depth (instances (λ n. variable (r n)) ts) ≡ trees_depth ts
  depths-renamed r no_trees = refl
  depths-renamed r (more_trees t ts) = ap₂ max (depth-renamed r t) (depths-renamed r ts)

renamed_within : (r : ℕ → ℕ) (t : Tree) → IsWithin t → IsWithin (instance (λ n. variable (r n)) t)
renamed_within r t w = record { size = omega (arith, w.size, size-renamed r t); depth = omega (arith, w.depth, depth-renamed r t) }

-- numbering keeps the limits
pub numbered_within : (s t : Tree) → ArePairWithin s t → ArePairWithin (numbered s t).first (numbered s t).second
numbered_within s t w = record {
  first = renamed_within (place_in (variables_of_pair s t)) s w.first;
  second = renamed_within (place_in (variables_of_pair s t)) t w.second;
  few = omega (arith, w.few, numbered_few s t);
}

pub turned : (s t : Tree) → ArePairWithin s t → ArePairWithin t s
turned s t w = record { first = w.second; second = w.first; few = omega (arith, w.few, variables_of_pair-swapped s t) }

-- the canonical pair of two terms within the limits is within them
canonical_within : (s t : Tree) (z : Pair) → canonical_pair s t ≡ Some z → ArePairWithin s t → ArePairWithin z.first z.second
canonical_within s t z h w =
    let is : canonical s t ≡ z = some_canonical s t z h in
    subst {A = Pair} (λ (p : Pair). ArePairWithin p.first p.second) is
    (⊎_elim
    (λ q. subst {A = Pair} (λ (p : Pair). ArePairWithin p.first p.second) (sym q) (numbered_within s t w))
    (λ q. subst {A = Pair} (λ (p : Pair). ArePairWithin p.first p.second) (sym q) (numbered_within t s (turned s t w)))
    (lesser_cases (numbered s t) (numbered t s)))

mutual
  well_renamed : (g : Signature) (f : ℕ → ℕ) (t : Tree) → IsWellFormed g t → IsWellFormed g (rename f t)
  well_renamed g f (variable n) w = tt
  well_renamed g f (apply h ts) w = (subst {A = ℕ} (HasArity g h) (sym (length-instances (λ x. variable (f x)) ts)) w.0, wells_renamed g f ts w.1)

  wells_renamed : (g : Signature) (f : ℕ → ℕ) (ts : Trees) → AreWellFormed g ts → AreWellFormed g (instances (λ x. variable (f x)) ts)
  wells_renamed g f no_trees w = tt
  wells_renamed g f (more_trees t ts) w = (well_renamed g f t w.0, wells_renamed g f ts w.1)

-- so is the canonical pair of two well-formed ones
pub canonical_limited : (g : Signature) (s t : Tree) (z : Pair) → canonical_pair s t ≡ Some z → IsWellFormed g s → IsWellFormed g t → ArePairWithin s t → IsLimitedPair g z
canonical_limited g s t z h ws wt w =
    let is : canonical s t ≡ z = some_canonical s t z h in
    let both = subst {A = Pair} (λ (p : Pair). IsWellFormed g p.first × IsWellFormed g p.second) is
    (⊎_elim
    (λ q. subst {A = Pair} (λ (p : Pair). IsWellFormed g p.first × IsWellFormed g p.second) (sym q) (well_renamed g (place_in (variables_of_pair s t)) s ws, well_renamed g (place_in (variables_of_pair s t)) t wt))
    (λ q. subst {A = Pair} (λ (p : Pair). IsWellFormed g p.first × IsWellFormed g p.second) (sym q) (well_renamed g (place_in (variables_of_pair t s)) t wt, well_renamed g (place_in (variables_of_pair t s)) s ws))
    (lesser_cases (numbered s t) (numbered t s))) in
    record { first = both.0; second = both.1; within = canonical_within s t z h w }

-- ---- rewriting

pub step_well : (g : Signature) (r : Rule) (p : List ℕ) (s t : Tree) → IsRuleOver g r → IsWellFormed g s → RewritesAt r p s t → IsWellFormed g t
step_well g r p s t over w h = keeps_well g (r ∷ []) (all_from (IsRuleOver g) (r ∷ []) (λ x i. ⊎_elim (λ e. subst {A = Rule} (IsRuleOver g) e over) (λ k. none_in k) (contains_cases r [] x i))) s t w (step_from_position (Contains (r ∷ [])) s t (r, contains_first r [], p, h))

-- ---- limits that aren't passed

two_none : (a b : Bool) → first_limit (limit_if a Size ∷ limit_if b Depth ∷ []) ≡ None → (a ≡ false) × (b ≡ false)
two_none true b e = none_some (sym e)
two_none false true e = none_some (sym e)
two_none false false e = (refl, refl)

pub within_term : (t : Tree) → term_limit t ≡ None → IsWithin t
within_term t e = let k = two_none (nat_lt 512 (tree_size t)) (nat_lt 64 (tree_depth t)) e in record { size = ltb-false 512 (tree_size t) k.0; depth = ltb-false 64 (tree_depth t) k.1 }

last_none : (a b c : Bool) → first_limit (limit_if a Size ∷ limit_if b Depth ∷ limit_if c Variables ∷ []) ≡ None → c ≡ false
last_none true b c e = none_some (sym e)
last_none false true c e = none_some (sym e)
last_none false false true e = none_some (sym e)
last_none false false false e = refl

first_two : (a b c : Bool) → first_limit (limit_if a Size ∷ limit_if b Depth ∷ limit_if c Variables ∷ []) ≡ None → (a ≡ false) × (b ≡ false)
first_two true b c e = none_some (sym e)
first_two false true c e = none_some (sym e)
first_two false false c e = (refl, refl)

within_pair : (s t : Tree) → pair_limit s t ≡ None → ArePairWithin s t
within_pair s t e =
    let k = first_two (nat_lt 512 (tree_size s) || nat_lt 512 (tree_size t)) (nat_lt 64 (tree_depth s) || nat_lt 64 (tree_depth t)) _ e in
    let a = or_parts (nat_lt 512 (tree_size s)) (nat_lt 512 (tree_size t)) k.0 in
    let b = or_parts (nat_lt 64 (tree_depth s)) (nat_lt 64 (tree_depth t)) k.1 in
    record {
      first = record { size = ltb-false 512 (tree_size s) a.0; depth = ltb-false 64 (tree_depth s) b.0 };
      second = record { size = ltb-false 512 (tree_size t) a.1; depth = ltb-false 64 (tree_depth t) b.1 };
      few = ltb-false 64 (length (variables_of_pair s t)) (last_none _ _ _ e);
    }

third_none : (a b c : Option TermLimit) → first_limit (a ∷ b ∷ c ∷ []) ≡ None → c ≡ None
third_none None None None e = refl
third_none (Some l) b c e = none_some (sym e)
third_none None (Some l) c e = none_some (sym e)
third_none None None (Some l) e = none_some (sym e)

-- ---- the pairs for which a proposal wants nodes

pub sides_limited : (g : Signature) (q : Pair) (w : ℕ) → IsLimitedPair g q → IsWellFormed g (side q w) × IsWellFormed g (other_side q w) × ArePairWithin (side q w) (other_side q w)
sides_limited g q zero l = (l.first, l.second, l.within)
sides_limited g q (suc w) l = (l.second, l.first, turned q.first q.second l.within)

rewriting_limited : (g : Signature) (xs : List PlainNode) (n w : ℕ) (at : List ℕ) (a : RuleRef) (kind : Found) (u : Tree) (f : IsRewriteOn xs n w at a kind u) → IsRuleOver g (rule_of f.by a.dir) → AreLimited g xs → term_limit u ≡ None → (z : Pair) → canonical_pair u (other_side f.pair w) ≡ Some z → IsLimitedPair g z
rewriting_limited g xs n w at a kind u f over limited fits z h =
    let l = sides_limited g f.pair w (limited n f.pair f.there) in
    canonical_limited g u (other_side f.pair w) z h (step_well g (rule_of f.by a.dir) at (side f.pair w) u over l.0 f.step) l.1
    (record { first = within_term u fits; second = l.2.second; few = step_few (rule_of f.by a.dir) at (side f.pair w) u (other_side f.pair w) over.is_rule f.step l.2.few })

same_sides : (o : Option TermLimit) (s t u v : Tree) → pair_or_limit o s t ≡ Ok (u, v) → (o ≡ None) × (s ≡ u) × (t ≡ v)
same_sides None s t u v e = let k : (s, t) ≡ (u, v) = cc in (refl, ap (λ (z : Tree × Tree). z.0) k, ap (λ (z : Tree × Tree). z.1) k)
same_sides (Some l) s t u v e = absurd (cc)

-- the pair of an overlap of two rules of a process
overlap_limited : (g : Signature) (xs : List PlainNode) (p : Name) (x y : NamedRule) (o : Listed) → HasNamed g xs p x → HasNamed g xs p y → IsOverlapOrLimit x.rule y.rule o → (u v : Tree) → o.sides ≡ Ok (u, v) → (z : Pair) → canonical_pair u v ≡ Some z → IsLimitedPair g z
overlap_limited g xs p x y o hx hy l u v sided z h =
    canonical_limited g u v z h
    (subst {A = Tree} (IsWellFormed g) (sym l.pair.by_outer ∙ equal.1) (well_instance g l.m x.rule.right wm hx.over.right))
    (subst {A = Tree} (IsWellFormed g) equal.2 (step_well g l.renamed o.position (instance l.m x.rule.left) l.t renamed_over (well_instance g l.m x.rule.left wm hx.over.left) (l.m, record { redex = subtree-instance l.m o.position x.rule.left l.overlaps.subterm l.overlaps.there ∙ ap Some l.overlaps.unifier.unifies; result = l.pair.by_inner })))
    (subst {A = Tree} (λ s. ArePairWithin s v) equal.1 (subst {A = Tree} (λ t. ArePairWithin l.s t) equal.2 (within_pair l.s l.t (third_none _ _ _ equal.0))))
  where
    equal : (overlap_limit x.rule l.renamed l.m l.s l.t ≡ None) × (l.s ≡ u) × (l.t ≡ v)
    equal = same_sides (overlap_limit x.rule l.renamed l.m l.s l.t) l.s l.t u v (sym l.sides ∙ sided)

    renamed_over : IsRuleOver g l.renamed
    renamed_over = has_over g (y.rule ∷ []) (λ r i. ⊎_elim (λ e. subst {A = Rule} (IsRuleOver g) e hy.over) (λ k. none_in k) (contains_cases y.rule [] r i)) l.renamed (y.rule, contains_first y.rule [], l.renamed_apart.variant)

    wm : (n : ℕ) → IsWellFormed g (l.m n)
    wm = well_unifier g l.m l.overlaps.subterm l.renamed.left l.overlaps.unifier (well_subtree g o.position x.rule.left l.overlaps.subterm hx.over.left l.overlaps.there) renamed_over.left

-- the pairs of overlaps of a process's rules
overlaps_limited : (g : Signature) (xs : List PlainNode) (p : Name) (es : List (NamedRule × NamedRule)) (all some : List NamedOverlap) (ds : List Deduced) → OverlapsOfAll es all → ((o : NamedOverlap) → Contains some o → Contains all o)
    → ((e : NamedRule × NamedRule) → Contains es e → HasNamed g xs p e.0 × HasNamed g xs p e.1) → AreDeduced ds some → (q : Pair) → Contains (map (λ (d : Deduced). d.pair) ds) q → IsLimitedPair g q
overlaps_limited g xs p es all some ds lists sub named proposed q i =
    let m = contains_mapped (λ (d : Deduced). d.pair) ds q i in
    let r = deduced_from ds some proposed m.0 m.1 in
    let k = named_overlap es all lists r.0 (sub r.0 r.1) in
    let h = named k.0 k.1 in
    subst {A = Pair} (IsLimitedPair g) m.2 (overlap_limited g xs p k.0.0 k.0.1 r.0.overlap h.0 h.1 k.4 r.2 r.3 r.4 m.0.pair r.5)

-- ---- commits

list_of_some : (o : Option Pair) (q : Pair) → Contains (option_to_list o) q → o ≡ Some q
list_of_some None q c = none_in c
list_of_some (Some z) q c = ⊎_elim (λ e. ap Some e) (λ k. none_in k) (contains_cases z [] q c)

module _ (P : Problem) (n : Settings) (past : List Moment) (b : Plain) (run : IsPossibleRun P n past b) (s : Stands b) (ordered : (p : Name) → IsOrdered P.signature (state_of b p)) (w t : ℕ) (j : Job) (x : Proposed) (f : IsFinishing past b w t j x) (acts : IsFalse (is_dropped b x)) (limited : AreLimited P.signature b.nodes) where
  keeps : KeepsPairs f.before.nodes b.nodes
  keeps = pairs_stay IsFreeJob P n past b run (record { board = f.before; entry = Take w t j }) f.taken

  wanted_limited : (q : Pair) → Contains (wanted b x) q → IsLimitedPair P.signature q
  wanted_limited = go j x refl refl f.proposed
    where
      go : (i : Job) (y : Proposed) → i ≡ j → y ≡ x → Proposes f.before i y → (q : Pair) → Contains (wanted b y) q → IsLimitedPair P.signature q
      go i (Facts fs) ei ey h q c = none_in c
      go i (One p m d e) ei ey h q c = none_in c
      go i (Both p m c0 c1) ei ey h q c = none_in c
      go i (Refuse p m) ei ey h q c = none_in c
      go i (Closed p) ei ey h q c = none_in c
      go i (Limit k cause) ei ey h q c = none_in c
      go (Reduce p m) (Rewrite k v pos a kind u) ei ey h q c =
          rewriting_limited P.signature b.nodes k.0 v pos a kind (tree_of u) r rule limited h.1.2.fits q
          (ap (option_and_then (λ z. canonical_pair (tree_of u) (other_side z v))) (sym r.there) ∙ list_of_some (option_and_then (λ z. canonical_pair (tree_of u) (other_side z v)) (pair_at b k.0)) q c)
        where
          r : IsRewriteOn b.nodes k.0 v pos a kind (tree_of u)
          r = rewrite_ready f.before b p m k v pos a kind u h keeps

          named : (z : Name) × (has (rewrite_label b k.0 v a kind) z ≡ true)
          named = some_named (rewrite_label b k.0 v a kind) (subst {A = Proposed} (λ z. is_dropped b z ≡ false) (sym ey) acts)

          rule : IsRuleOver P.signature (rule_of r.by a.dir)
          rule = (ordered named.0).sound.rules (rule_of r.by a.dir) (rule_listed b named.0 a r.by (source_of b k.0 v a kind named.0 named.1).0 r.by_there)
      go (Overlap z d e) (Deduce a c ds) ei ey h q i =
          let named = some_named (overlap_label b a c) (subst {A = Proposed} (λ z. is_dropped b z ≡ false) (sym ey) acts) in
          overlaps_limited P.signature b.nodes named.0 (both_ways (record { ref = d; rule = h.2.0 }) (record { ref = e; rule = h.2.1 })) h.2.4.overlaps h.2.4.overlaps ds h.2.4.all (λ o k. k) (deduce_named P.signature f.before b keeps s ordered z d e a c ds h named.0 named.1) h.2.4.proposed q i
      go (Close p) (Unjoined z ds) ei ey h q i =
          let roles = (closers_stay P n past b run f.before w t p (subst {A = Job} (λ z. Contains past (record { board = f.before; entry = Take w t z })) (sym ei) f.taken) (subst {A = Job} (λ z. Contains b.flight (record { number = t; worker = w; job = z })) (sym ei) f.flying)).1 in
          overlaps_limited P.signature b.nodes p (all_ways (rules_on f.before p)) h.1.overlaps h.1.listed ds h.1.all (λ o k. picks_in _ h.1.overlaps h.1.listed h.1.picked o k) (unjoined_named P.signature f.before b keeps s ordered p roles) h.1.proposed q i
      go (Orient p m) (Rewrite k v pos a kind u) ei ey h q c = absurd h
      go (Overlap p d e) (Rewrite k v pos a kind u) ei ey h q c = absurd h
      go (Close p) (Rewrite k v pos a kind u) ei ey h q c = absurd h
      go (Reduce p m) (Deduce a c ds) ei ey h q i = absurd h
      go (Orient p m) (Deduce a c ds) ei ey h q i = absurd h
      go (Close p) (Deduce a c ds) ei ey h q i = absurd h
      go (Reduce p m) (Unjoined z ds) ei ey h q i = absurd h
      go (Orient p m) (Unjoined z ds) ei ey h q i = absurd h
      go (Overlap p d e) (Unjoined z ds) ei ey h q i = absurd h

  pub limited_effect : AreLimited P.signature (effect b x).nodes
  limited_effect = ⊎_elim (λ h. subst {A = List PlainNode} (AreLimited P.signature) (sym h) limited) (λ h. subst {A = List PlainNode} (AreLimited P.signature) (sym h) (of_applied (IsLimitedPair P.signature) b x wanted_limited limited)) (effect_cases b x)

-- ---- runs

limited_inputs : (g : Signature) (i : ℕ) (es : List (Tree × Tree)) (xs : List PlainNode) → ((e : Tree × Tree) → Contains es e → IsEquationWithinLimits g e) → AreLimited g xs → AreLimited g (with_inputs i es xs)
limited_inputs g i [] xs h f = f
limited_inputs g i (e ∷ es) xs h f = limited_inputs g (i + 1) es (with_input (canonical_pair e.0 e.1) i xs) (λ d k. h d (contains_behind e es d k)) (go (canonical_pair e.0 e.1) refl)
  where
    one : IsEquationWithinLimits g e
    one = h e (contains_first e es)

    within : ArePairWithin e.0 e.1
    within = record { first = record { size = one.left.size; depth = one.left.depth }; second = record { size = one.right.size; depth = one.right.depth }; few = one.variables }

    go : (o : Option Pair) → canonical_pair e.0 e.1 ≡ o → AreLimited g (with_input o i xs)
    go None c = f
    go (Some z) c = of_same (IsLimitedPair g) (with_node z (Input i) xs) (with_input (Some z) i xs) (pairs-gains_equation (node_of (with_node z (Input i) xs) z) (root ∷ []) (with_node z (Input i) xs)) (of_with_node (IsLimitedPair g) z (Input i) xs (canonical_limited g e.0 e.1 z c one.left.well_formed one.right.well_formed within) f)

-- the pairs of each board of a possible run of a problem within the limits are within the limits
pub limited_run : (P : Problem) (n : Settings) (ms : List Moment) (c : Plain) → IsWithinLimits P → IsPossibleRun P n ms c → AreLimited P.signature c.nodes
limited_run P n [] c within run = subst {A = Plain} (λ z. AreLimited P.signature z.nodes) (sym run) (limited_inputs P.signature 1 P.equations [] (λ e i. All-contains (IsEquationWithinLimits P.signature) P.equations e within.each i) (λ m q e. none_some e))
limited_run P n (m ∷ ms) c within (run, f) = go m.entry f (limited_run P n ms m.board within run)
  where
    go : (e : Entry) → Follows IsFreeJob ms m.board e c → AreLimited P.signature m.board.nodes → AreLimited P.signature c.nodes
    go (Take w t j) f h = subst {A = Plain} (λ z. AreLimited P.signature z.nodes) (sym f.leads_to) h
    go (Commit w t e) f h = subst {A = Plain} (λ z. AreLimited P.signature z.nodes) (sym f.leads_to) (limited_effect P n ms m.board run (stands_run P n ms m.board run) (states_ordered P n ms m.board within run (commits_fine P n ms m.board within run)) w t f.job f.proposal f.finishing f.acts h)
    go (Drop w t p) f h = subst {A = Plain} (λ z. AreLimited P.signature z.nodes) (sym f.leads_to) h
    go (Abandon w t) f h = subst {A = Plain} (λ z. AreLimited P.signature z.nodes) (sym f.leads_to) h
    go Halt f h = subst {A = Plain} (λ z. AreLimited P.signature z.nodes) (sym f.1) h
