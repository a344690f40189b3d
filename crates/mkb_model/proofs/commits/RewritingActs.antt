-- A rewriting changes a label: its pair goes to another node, since rules that halt rewrite no side to a variant of itself.
use Rattle.std.proofs.Common.{ℕ, ◌≡◌, ◌≢◌, inl, inr, refl, sym, ap, ◌∙◌, subst, List, true, Option, Some, None, ⊎_elim}
use Rattle.kb_lemmas.proofs.Options.{some_is}
use Rattle.kb_term.specs.Tree.{Tree, variable}
use Rattle.kb_term.specs.Substitution.{instance, rename}
use Rattle.kb_term.specs.Pair.{Pair, canonical_pair, IsSameEquation}
use Rattle.kb_term.specs.Rule.{rule_of}
use Rattle.kb_term.specs.Signature.{Signature}
use Rattle.kb_term.specs.Proving.{IsTerminating}
use Rattle.kb_term.specs.declared.origin.RuleRef.{RuleRef}
use Rattle.kb_term.specs.declared.origin.Found.{Found}
use Rattle.kb_term.specs.declared.origin.Origin.TheVariants.{Rewrite as ByRewrite}
use Rattle.kb_term.proofs.Instances.{instance-instance}
use Rattle.kb_overlap.specs.Trace.{side, other_side}
use Rattle.kb_cert.proofs.FamilyLaws.{terminating_by_member}
use Rattle.kb_laws.specs.Completion.{KbState}
use Rattle.kb_laws.proofs.Complete.{all_from, orders_chained}
use Rattle.kb_term.specs.Signature.{IsRuleOver}
use Rattle.kb_label.specs.Names.{Name, has, meet}
use Rattle.kb_node.specs.declared.node.LabelKind.{LabelKind}
use Rattle.kb_node.specs.declared.node.LabelKind.TheVariants.{E}
use Rattle.mkb_model.specs.Plain.{Plain, PlainNode, label_at, rule_kind, other, pair_in, state_of, sides}
use Rattle.mkb_model.specs.Effects.{with_node, node_of, gains_equation, gains_rule, direction, if_strict, rewritten}
use Rattle.mkb_model.specs.Limits.{AreLimited}
use Rattle.mkb_model.specs.Ready.{IsOn, OneRole, IsRewriteOn}
use Rattle.mkb_model.proofs.commits.Roles.{on-gains_equation, on-gains_rule, keeps-with_node}
use Rattle.mkb_model.proofs.nodes.Pairs.{pairs-with_node, node-with_node}
use Rattle.mkb_model.proofs.commits.Views.{same_trans, rule_listed}
use Rattle.mkb_model.proofs.commits.RewritingRuns.{IsSource, on-lost, some_canonical, side_pair}
use Rattle.mkb_model.proofs.commits.RewritingSteps.{lost_nodes, moved_nodes, pairs-lost}
use Rattle.mkb_model.proofs.nodes.DistinctPairs.{canonical_same}
use Rattle.mkb_model.proofs.commits.Proper.{IsOrdered}
use Rattle.mkb_model.proofs.nodes.Sizes.{sides_limited}
use Rattle.mkb_model.proofs.commits.Endless.{never_instance}

-- the rules of an ordered state halt
pub ordered_halts : (g : Signature) (a : KbState) → IsOrdered g a → IsTerminating g a.rules
ordered_halts g a h = terminating_by_member g h.orderable.0 h.orderable.1 a.rules (all_from (IsRuleOver g) a.rules h.sound.rules) (orders_chained g h.orderable.0 h.orderable.1 a h.sound h.chained h.orderable.2)

-- where a side and the result are the same equation with the other side, the result is an instance of the side
same_instance : (u s o : Tree) → IsSameEquation (u, o) (s, o) → (m : ℕ → Tree) × (u ≡ instance m s)
same_instance u s o (inl (r, back, v, v')) = ((λ n. variable (back n)), sym v.back_again)
same_instance u s o (inr (r, back, v, v')) = ((λ n. variable (back (back n))), sym v.back_again ∙ ap (rename back) (sym v'.back_again) ∙ instance-instance (λ n. variable (back n)) (λ n. variable (back n)) s)

module _ (g : Signature) (b : Plain) (p : Name) (l : List Name) (named : has l p ≡ true) (n w : ℕ) (at : List ℕ) (a : RuleRef) (kind : Found) (u : Tree)
    (f : IsRewriteOn b.nodes n w at a kind u) (has_rule : IsOn b.nodes p a.node (rule_kind a.dir)) (one : OneRole b.nodes p) (ordered : IsOrdered g (state_of b p)) (limited : AreLimited g b.nodes)
    (s : LabelKind) (source : IsSource w kind s) (on : IsOn b.nodes p n s) where
  -- the new pair is another one
  other_pair : canonical_pair u (other_side f.pair w) ≢ Some f.pair
  other_pair e =
      let k = sides_limited g f.pair w (limited n f.pair f.there) in
      let same : IsSameEquation (u, other_side f.pair w) (sides f.pair) = subst {A = Pair} (λ z. IsSameEquation (u, other_side f.pair w) (sides z)) (some_canonical u (other_side f.pair w) f.pair e) (canonical_same u (other_side f.pair w)) in
      let m = same_instance u (side f.pair w) (other_side f.pair w) (same_trans (u, other_side f.pair w) (sides f.pair) (side f.pair w, other_side f.pair w) same (side_pair f.pair w)) in
      never_instance (state_of b p).rules (side f.pair w) u m.0 (ordered_halts g (state_of b p) ordered (side f.pair w) k.0) (rule_of f.by a.dir, rule_listed b p a f.by has_rule f.by_there, at, f.step) m.1

  gone : ¬ IsOn (lost_nodes l n w kind b.nodes) p n s
  gone o = ((on-lost l n w kind b.nodes p named one s source on n s).0 o).1 (refl, refl)

  -- the pair is not trivial, and goes to another node
  module _ (z : Pair) (e : canonical_pair u (other_side f.pair w) ≡ Some z) where
    abbrev ws : List PlainNode
    ws = with_node z (ByRewrite n w at a) (lost_nodes l n w kind b.nodes)

    abbrev k : ℕ
    k = node_of (with_node z (ByRewrite n w at a) (lost_nodes l n w kind b.nodes)) z

    abbrev y1 : List PlainNode
    y1 = gains_rule (record { node = k; dir = direction (other_side f.pair w) u z }) (meet l (label_at b.nodes n (rule_kind (other w)))) ws

    abbrev y2 : List PlainNode
    y2 = gains_equation k (meet l (label_at b.nodes n E)) y1

    abbrev y3 : List PlainNode
    y3 = gains_equation k (if_strict kind (meet l (label_at b.nodes n (rule_kind w)))) y2

    away : k ≢ n
    away q = other_pair (e ∙ ap Some (some_is (sym (node-with_node z (ByRewrite n w at a) (lost_nodes l n w kind b.nodes)).0 ∙ ap (pair_in ws) q ∙ pairs-with_node z (ByRewrite n w at a) (lost_nodes l n w kind b.nodes) n f.pair (pairs-lost l n w kind b.nodes n f.pair f.there))))

    third : IsOn y3 p n s → IsOn y2 p n s
    third o = ⊎_elim (λ h. h) (λ h. absurd (away (sym h.0.0))) ((on-gains_equation k (if_strict kind (meet l (label_at b.nodes n (rule_kind w)))) y2 p n s).0 o)

    second : IsOn y2 p n s → IsOn y1 p n s
    second o = ⊎_elim (λ h. h) (λ h. absurd (away (sym h.0.0))) ((on-gains_equation k (meet l (label_at b.nodes n E)) y1 p n s).0 o)

    moved_away : ¬ IsOn (moved_nodes l n w at a kind u f.pair (Some z) b.nodes) p n s
    moved_away o = ⊎_elim (λ h. gone ((keeps-with_node z (ByRewrite n w at a) (lost_nodes l n w kind b.nodes) p n s).0 h.0)) (λ h. away (sym h.0.0))
        ((on-gains_rule (record { node = k; dir = direction (other_side f.pair w) u z }) (meet l (label_at b.nodes n (rule_kind (other w)))) ws p n s).0 (second (third o)))

  -- the process has lost the node in its role
  pub role_lost : ¬ IsOn (rewritten l n w at a kind u f.pair b.nodes) p n s
  role_lost = go (canonical_pair u (other_side f.pair w)) refl
    where
      go : (o : Option Pair) → canonical_pair u (other_side f.pair w) ≡ o → ¬ IsOn (moved_nodes l n w at a kind u f.pair o b.nodes) p n s
      go None e = gone
      go (Some z) e = moved_away z e
