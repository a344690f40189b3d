-- Where a rewriting leads.
use Rattle.std.proofs.Common.{ℕ, zero, suc, ◌<◌, ◌≡◌, refl, sym, ap, ◌∙◌, subst, List, [], ◌∷◌, length, Option, Some, None, Result, Ok, Err, IfOk, OnErr, arith}
use Rattle.std.specs.Prelude.{IfSome}
use Rattle.std.specs.Option.{option_map_or}
use Rattle.kb_lemmas.proofs.Options.{some_is, none_some}
use Rattle.kb_label.specs.Names.{Name}
use Rattle.kb_label.specs.declared.verdict.Reason.{Reason}
use Rattle.kb_term.specs.Tree.{Tree}
use Rattle.kb_term.specs.Pair.{Pair, canonical_pair}
use Rattle.kb_term.specs.declared.memory.Memory.{Memory}
use Rattle.kb_term.specs.declared.origin.Origin.{Origin}
use Rattle.kb_overlap.specs.Trace.{other_side}
use Rattle.kb_node.specs.Labelled.{Node, HasPair, AreDistinct}
use Rattle.kb_node.specs.declared.node.NodeId.{NodeId}
use Rattle.kb_node.proofs.Adding.{same_number}
use Rattle.mkb_model.specs.Plain.{Plain, PlainNode, pair_at, pair_in}
use Rattle.mkb_model.specs.Effects.{acted, applied, counted, effect_label, gains_equation, gains_rule, give_up, limit_of, node_of, with_node}
use Rattle.mkb_model.specs.Ready.{KeepsPairs}
use Rattle.mkb_model.specs.declared.proposed.Proposed.{Proposed}
use Rattle.mkb_model.proofs.commits.Commits.{pairs-applied}
use Rattle.mkb_model.proofs.nodes.Pairs.{node-with_node, pairs-gains_equation, pairs-gains_rule}
use Rattle.mkb_rules.specs.Applying.{applied_as, untargeted}
use Rattle.mkb_rules.specs.Parts.{plain_nodes}
use Rattle.mkb_rules.specs.Rewriting.{IsNodeOfTarget, LeadsFrom, target_of}
use Rattle.mkb_rules.specs.declared.applied.Applied.{Applied}
use Rattle.mkb_rules.specs.declared.applied.Applied.TheVariants.{Done}
use Rattle.mkb_rules.specs.declared.applied.Committed.{Committed}
use Rattle.mkb_rules.specs.declared.effects.rewriting.Target.{Target}
use Rattle.mkb_rules.proofs.Finding.{pair-plain}

-- no two nodes of a list have one pair
abbrev pub HasDistinct : List PlainNode → Type 0
HasDistinct xs = (n m : ℕ) (q : Pair) → pair_in xs n ≡ Some q → pair_in xs m ≡ Some q → n ≡ m

-- the pairs of a table are distinct
pub distinct_there : (nodes : List (Node (List Name))) (xs : List PlainNode) → plain_nodes nodes ≡ xs → AreDistinct {L = List Name} nodes → HasDistinct xs
distinct_there nodes xs is distinct n m q h k = same_number nodes q n m distinct (read n h) (read m k)
  where
    read : (i : ℕ) → pair_in xs i ≡ Some q → HasPair {L = List Name} nodes i q
    read i e = pair-plain nodes i ∙ ap (λ (ys : List PlainNode). pair_in ys i) is ∙ e

-- a node keeps its pair where labels of it changed
pub pair_gained : (q : Pair) (o : Origin) (d : ℕ) (lr le ll : List Name) (n : ℕ) (xs v w x y : List PlainNode)
    → v ≡ with_node q o xs → n ≡ node_of v q → w ≡ gains_rule (record { node = n; dir = d }) lr v → x ≡ gains_equation n le w → y ≡ gains_equation n ll x → pair_in y n ≡ Some q
pair_gained q o d lr le ll n xs v w x y v_is found w_is x_is y_is =
    ap (λ zs. pair_in zs n) y_is ∙ pairs-gains_equation n ll x n
    ∙ ap (λ zs. pair_in zs n) x_is ∙ pairs-gains_equation n le w n
    ∙ ap (λ zs. pair_in zs n) w_is ∙ pairs-gains_rule (record { node = n; dir = d }) lr v n
    ∙ ap (pair_in v) found ∙ ap (λ zs. pair_in zs (node_of zs q)) v_is
    ∙ (node-with_node q o xs).0

-- a commit that meets no limit keeps the pairs of the nodes
pub pairs_after : (b c : Plain) (x : Proposed) → c ≡ acted b x → limit_of b x ≡ None → KeepsPairs b.nodes c.nodes
pairs_after b c x is free =
    let same : c.nodes ≡ (applied b x).nodes = ap (λ (z : Plain). z.nodes) is ∙ ap (λ (o : Option Reason). (counted (option_map_or (λ r. give_up r (effect_label b x) b) o (applied b x))).nodes) free in
    λ n q e. ap (λ (xs : List PlainNode). pair_in xs n) same ∙ pairs-applied b x n q e

-- a commit that had its effect met no limit
pub no_limit : (o : Option Reason) → Done ≡ applied_as o → o ≡ None
no_limit None e = refl
no_limit (Some r) e = absurd (cc)

within : (xs : List PlainNode) (n : ℕ) (q : Pair) → pair_in xs n ≡ Some q → n < length xs
within [] n q h = none_some h
within (x ∷ xs) zero q h = omega arith
within (x ∷ xs) (suc n) q h = omega (arith, within xs n q h)

module _ (b c : Plain) (n w : ℕ) (t : Tree) (g : Origin) (q : Pair) (here : pair_at b n ≡ Some q) (keeps : KeepsPairs b.nodes c.nodes) (distinct : HasDistinct c.nodes) (o : Option NodeId) where
  leads : (z : Option Pair) → canonical_pair t (other_side q w) ≡ z → IsNodeOfTarget c.nodes (target_of z g (other_side q w) t) o → LeadsFrom c n w t o
  leads None e none = record {
    there = subst {A = Option NodeId} (λ v. IfSome v (λ m. m.0 < length c.nodes)) (sym none) tt;
    trivial = λ r h f. none;
    target = λ r z m h f i. absurd (none_some (sym e ∙ ap (λ v. canonical_pair t (other_side v w)) (the_pair r h) ∙ f));
  }
    where
      the_pair : (r : Pair) → pair_at c n ≡ Some r → q ≡ r
      the_pair r h = some_is (sym (keeps n q here) ∙ h)
  leads (Some z) e (m, is, found) = record {
    there = subst {A = Option NodeId} (λ v. IfSome v (λ m. m.0 < length c.nodes)) (sym is) (within c.nodes m.0 z found);
    trivial = λ r h f. absurd (none_some (sym f ∙ ap (λ v. canonical_pair t (other_side v w)) (sym (the_pair r h)) ∙ e));
    target = λ r y k h f i.
        let same : z ≡ y = some_is (sym e ∙ ap (λ v. canonical_pair t (other_side v w)) (the_pair r h) ∙ f) in
        is ∙ ap (λ (j : ℕ). Some (record { 0 = j })) (distinct m.0 k z found (i ∙ ap Some (sym same)));
  }
    where
      the_pair : (r : Pair) → pair_at c n ≡ Some r → q ≡ r
      the_pair r h = some_is (sym (keeps n q here) ∙ h)

  -- the node of the target of a rewriting is that to which it leads
  pub leads_from : (v : Option Target) → v ≡ target_of (canonical_pair t (other_side q w)) g (other_side q w) t → IsNodeOfTarget c.nodes v o → LeadsFrom c n w t o
  leads_from v is h = leads (canonical_pair t (other_side q w)) refl (subst {A = Option Target} (λ u. IsNodeOfTarget c.nodes u o) is h)

-- ---- answers of commits that lead to no node

pub untargeted_ok : (r : Result Applied Memory) (s : Result Committed Memory) (P : Applied → Type 0) → s ≡ untargeted r → IfOk r P → IfOk s (λ made. P made.applied)
untargeted_ok (Ok a) s P e h = subst {A = Result Committed Memory} (λ u. IfOk u (λ made. P made.applied)) (sym e) h
untargeted_ok (Err f) s P e h = subst {A = Result Committed Memory} (λ u. IfOk u (λ made. P made.applied)) (sym e) tt

pub untargeted_err : (r : Result Applied Memory) (s : Result Committed Memory) (Q : Type 0) → s ≡ untargeted r → OnErr r Q → OnErr s Q
untargeted_err (Ok a) s Q e h = subst {A = Result Committed Memory} (λ u. OnErr u Q) (sym e) tt
untargeted_err (Err f) s Q e h = subst {A = Result Committed Memory} (λ u. OnErr u Q) (sym e) h

pub untargeted_none : (r : Result Applied Memory) (s : Result Committed Memory) (P : Applied → Type 0) (Q : Applied → Option NodeId → Type 0) → s ≡ untargeted r → IfOk r P → ((a : Applied) → P a → Q a None) → IfOk s (λ made. Q made.applied made.target)
untargeted_none (Ok a) s P Q e h f = subst {A = Result Committed Memory} (λ u. IfOk u (λ made. Q made.applied made.target)) (sym e) (f a h)
untargeted_none (Err g) s P Q e h f = subst {A = Result Committed Memory} (λ u. IfOk u (λ made. Q made.applied made.target)) (sym e) tt
