-- Names that a rewriting moves from its sources to its target.
use Rattle.std.proofs.Common.{ℕ, ◌<◌, ◌≤◌, ◌≡◌, refl, sym, ap, ◌∙◌, subst, arith, List, [], ◌∷◌, length, Option, Some, None}
use Rattle.std.specs.Prelude.{nat_lt, option_and_then, option_to_list}
use Rattle.std.specs.Option.{option_map_or}
use Rattle.kb_label.specs.Names.{Name, meet, minus, join}
use Rattle.kb_label.specs.declared.verdict.Reason.TheVariants.{Nodes}
use Rattle.kb_term.specs.Tree.{Tree}
use Rattle.kb_term.specs.Pair.{Pair, canonical_pair}
use Rattle.kb_term.specs.View.{tree_of}
use Rattle.kb_term.specs.declared.term.Term.{Term}
use Rattle.kb_term.specs.declared.origin.RuleRef.{RuleRef}
use Rattle.kb_term.specs.declared.origin.Found.{Found}
use Rattle.kb_term.specs.declared.origin.Origin.{Origin}
use Rattle.kb_term.specs.declared.origin.Origin.TheVariants.{Rewrite as ByRewrite}
use Rattle.kb_overlap.specs.Trace.{other_side}
use Rattle.kb_node.specs.declared.node.NodeId.{NodeId}
use Rattle.kb_node.specs.declared.node.LabelKind.{LabelKind}
use Rattle.kb_node.specs.declared.node.LabelKind.TheVariants.{E}
use Rattle.mkb_model.specs.Plain.{Plain, PlainNode, label, label_at, pair_at, rule_kind, other}
use Rattle.mkb_model.specs.Effects.{acted, applied, counted, effect_label, first_some, some_if, gains_rule, give_up, if_strict, limit_of, loses, most_nodes, moved_to, on_nodes, rewrite_label, rewritten, wanted, with_label, with_nodes}
use Rattle.mkb_model.specs.declared.proposed.Proposed.TheVariants.{Rewrite}
use Rattle.mkb_model.proofs.commits.Roles.{length-put}
use Rattle.mkb_rules.specs.Rewriting.{target_of, wanted_by, lost, gained}
use Rattle.mkb_rules.specs.declared.effects.rewriting.Sources.{Sources}
use Rattle.mkb_rules.specs.declared.effects.rewriting.Target.{Target}
use Rattle.mkb_model.proofs.nodes.NewPairs.{plain_pairs, pairs-put, with_nodes-same, length-same}
use Rattle.mkb_rules.proofs.SamePairs.{limit-room, limit-full}

-- a node is still there when labels were put anew
pub there-put : (n m : ℕ) (k : LabelKind) (l : List Name) (xs ys : List PlainNode) → ys ≡ with_label m k l xs → n < length xs → n < length ys
there-put n m k l xs ys is h = omega (arith, h, ap length is, length-put xs m k l)

pub there-rule : (n : ℕ) (a : RuleRef) (l : List Name) (xs ys : List PlainNode) → ys ≡ gains_rule a l xs → n < length xs → n < length ys
there-rule n a l xs ys is h =
    let zs : List PlainNode = loses a.node E l xs in
    there-put n a.node (rule_kind a.dir) (join (label_at zs a.node (rule_kind a.dir)) l) zs ys is
    (there-put n a.node E (minus (label_at xs a.node E) l) xs zs refl h)

module _ (n w : ℕ) (s : Sources) (xs : List PlainNode) where
  -- losses change no pair
  pub pairs-lost : plain_pairs (lost n w s xs) ≡ plain_pairs xs
  pairs-lost =
      let ys : List PlainNode = loses n (rule_kind w) s.strict xs in
      let zs : List PlainNode = loses n (rule_kind (other w)) s.names ys in
      pairs-put zs n E (minus (label_at zs n E) s.names)
      ∙ pairs-put ys n (rule_kind (other w)) (minus (label_at ys n (rule_kind (other w))) s.names)
      ∙ pairs-put xs n (rule_kind w) (minus (label_at xs n (rule_kind w)) s.strict)

  pub length-lost : length (lost n w s xs) ≡ length xs
  length-lost = length-same (lost n w s xs) xs pairs-lost

  pub wanted-lost : (o : Option Target) → length (with_nodes (wanted_by o) (lost n w s xs)) ≡ length (with_nodes (wanted_by o) xs)
  wanted-lost o = length-same (with_nodes (wanted_by o) (lost n w s xs)) (with_nodes (wanted_by o) xs) (with_nodes-same (wanted_by o) (lost n w s xs) xs pairs-lost)

gained-target : (c : Option Pair) (o : Origin) (rest outcome : Tree) (s : Sources) (xs : List PlainNode) → gained (target_of c o rest outcome) s xs ≡ moved_to c o rest outcome s.equation s.right s.left xs
gained-target None o rest outcome s xs = refl
gained-target (Some q) o rest outcome s xs = refl

wanted-target : (c : Option Pair) (o : Origin) (rest outcome : Tree) → option_to_list c ≡ wanted_by (target_of c o rest outcome)
wanted-target None o rest outcome = refl
wanted-target (Some q) o rest outcome = refl

-- the effect of a rewriting of a node that has the pair
module _ (b : Plain) (n : NodeId) (w : ℕ) (at : List ℕ) (a : RuleRef) (found : Found) (t : Term) (q : Pair) (here : pair_at b n.0 ≡ Some q) where
  abbrev acting : List Name
  acting = rewrite_label b n.0 w a found

  abbrev pub all_sources : Sources
  all_sources = record {
    names = acting;
    strict = if_strict found acting;
    equation = meet acting (label b n.0 E);
    right = meet acting (label b n.0 (rule_kind (other w)));
    left = if_strict found (meet acting (label b n.0 (rule_kind w)));
  }

  abbrev pub its_target : Option Target
  its_target = target_of (canonical_pair (tree_of t) (other_side q w)) (ByRewrite n.0 w at a) (other_side q w) (tree_of t)

  wanted-is : wanted b (Rewrite n w at a found t) ≡ wanted_by its_target
  wanted-is =
      ap (λ (o : Option Pair). option_to_list (option_and_then (λ (p : Pair). canonical_pair (tree_of t) (other_side p w)) o)) here
      ∙ wanted-target (canonical_pair (tree_of t) (other_side q w)) (ByRewrite n.0 w at a) (other_side q w) (tree_of t)

  limit-is : limit_of b (Rewrite n w at a found t) ≡ first_some (some_if (nat_lt most_nodes (length (with_nodes (wanted_by its_target) b.nodes))) Nodes ∷ [])
  limit-is = ap (λ (qs : List Pair). first_some (some_if (nat_lt most_nodes (length (with_nodes qs b.nodes))) Nodes ∷ [])) wanted-is

  pub rewrite-fits : length (with_nodes (wanted_by its_target) b.nodes) ≤ most_nodes → limit_of b (Rewrite n w at a found t) ≡ None
  rewrite-fits h = limit-is ∙ limit-room (length (with_nodes (wanted_by its_target) b.nodes)) h

  pub rewrite-overfull : most_nodes < length (with_nodes (wanted_by its_target) b.nodes) → limit_of b (Rewrite n w at a found t) ≡ Some Nodes
  rewrite-overfull h = limit-is ∙ limit-full (length (with_nodes (wanted_by its_target) b.nodes)) h

  -- where there is room, the names are moved
  pub rewrite-made : length (with_nodes (wanted_by its_target) b.nodes) ≤ most_nodes → counted (on_nodes (λ xs. gained its_target all_sources (lost n.0 w all_sources xs)) b) ≡ acted b (Rewrite n w at a found t)
  rewrite-made h =
      ap (λ xs. counted (record b { nodes = xs })) (gained-target (canonical_pair (tree_of t) (other_side q w)) (ByRewrite n.0 w at a) (other_side q w) (tree_of t) all_sources (lost n.0 w all_sources b.nodes))
      ∙ ap (λ (o : Option Pair). counted (on_nodes (option_map_or (λ (p : Pair). rewritten acting n.0 w at a found (tree_of t) p) o (λ xs. xs)) b)) (sym here)
      ∙ ap (λ o. counted (option_map_or (λ r. give_up r (effect_label b (Rewrite n w at a found t)) b) o (applied b (Rewrite n w at a found t)))) (sym (rewrite-fits h))

  -- where there is none, the processes give up
  pub rewrite-over : most_nodes < length (with_nodes (wanted_by its_target) b.nodes) → counted (give_up Nodes acting b) ≡ acted b (Rewrite n w at a found t)
  rewrite-over h = ap (λ o. counted (option_map_or (λ r. give_up r (effect_label b (Rewrite n w at a found t)) b) o (applied b (Rewrite n w at a found t)))) (sym (rewrite-overfull h))

  -- the sources as they are found one after the other
  pub sources-all : (names : List Name) (s : Sources) → names ≡ acting → s.names ≡ names → s.strict ≡ if_strict found names → s.equation ≡ meet names (label b n.0 E)
      → s.right ≡ meet names (label b n.0 (rule_kind (other w))) → s.left ≡ if_strict found (meet names (label b n.0 (rule_kind w))) → s ≡ all_sources
  sources-all names s e names_is strict_is equation_is right_is left_is = λ i. record {
    names = (names_is ∙ e) i;
    strict = (strict_is ∙ ap (if_strict found) e) i;
    equation = (equation_is ∙ ap (λ l. meet l (label b n.0 E)) e) i;
    right = (right_is ∙ ap (λ l. meet l (label b n.0 (rule_kind (other w)))) e) i;
    left = (left_is ∙ ap (λ l. if_strict found (meet l (label b n.0 (rule_kind w)))) e) i;
  }

  pub rewrite-done : (o : Option Target) (s : Sources) → o ≡ its_target → s ≡ all_sources → length (with_nodes (wanted_by o) b.nodes) ≤ most_nodes
      → (counted (on_nodes (λ xs. gained o s (lost n.0 w s xs)) b) ≡ acted b (Rewrite n w at a found t)) × (limit_of b (Rewrite n w at a found t) ≡ None)
  rewrite-done o s e d h =
      let f : Option Target → Sources → Plain = λ v u. counted (on_nodes (λ xs. gained v u (lost n.0 w u xs)) b) in
      let room : length (with_nodes (wanted_by its_target) b.nodes) ≤ most_nodes = subst {A = Option Target} (λ v. length (with_nodes (wanted_by v) b.nodes) ≤ most_nodes) e h in
      (ap (λ v. f v s) e ∙ ap (f its_target) d ∙ rewrite-made room, rewrite-fits room)

  pub rewrite-given_up : (o : Option Target) (s : Sources) → o ≡ its_target → s ≡ all_sources → most_nodes < length (with_nodes (wanted_by o) b.nodes)
      → (counted (give_up Nodes s.names b) ≡ acted b (Rewrite n w at a found t)) × (limit_of b (Rewrite n w at a found t) ≡ Some Nodes)
  rewrite-given_up o s e d h =
      let over : most_nodes < length (with_nodes (wanted_by its_target) b.nodes) = subst {A = Option Target} (λ v. most_nodes < length (with_nodes (wanted_by v) b.nodes)) e h in
      (ap (λ (u : Sources). counted (give_up Nodes u.names b)) d ∙ rewrite-over over, rewrite-overfull over)
