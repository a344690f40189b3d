-- What a ticket's job proposed on the board from which it was taken holds on the board on which it is committed.
use Rattle.std.proofs.Common.{ℕ, ◌≡◌, refl, sym, ap, ◌∙◌, subst, List, not, ◌==◌, Option, Some, None, Contains}
use Rattle.std.specs.Prelude.{option_map}
use Rattle.std.proofs.lemmas.Bool.{eq-eqb}
use Rattle.kb_lemmas.proofs.Options.{some_is, none_some}
use Rattle.kb_term.specs.View.{tree_of}
use Rattle.kb_term.specs.Pair.{Pair}
use Rattle.kb_term.specs.Signature.{Signature}
use Rattle.kb_term.specs.Rule.{Rule, rule_of, rule_between}
use Rattle.kb_overlap.specs.Trace.{side, other_side}
use Rattle.kb_term.specs.Proving.{RewritesAt}
use Rattle.kb_rewrite.specs.NormalForm.{IsFound}
use Rattle.kb_term.specs.declared.origin.RuleRef.{RuleRef}
use Rattle.kb_term.specs.declared.origin.Found.{Found}
use Rattle.kb_label.specs.Names.{Name}
use Rattle.mkb_model.specs.Plain.{Plain, rule_at, rule_kind, other, state_of, rules_of, pair_in}
use Rattle.mkb_model.specs.DueJobs.{reducers}
use Rattle.mkb_model.specs.Proposals.{NamedRule, named_rules, Proposes}
use Rattle.kb_node.specs.declared.node.NodeId.{NodeId}
use Rattle.kb_node.specs.declared.job.Job.TheVariants.{Reduce}
use Rattle.mkb_model.specs.declared.proposed.Proposed.TheVariants.{Rewrite}
use Rattle.kb_term.specs.declared.term.Term.{Term}
use Rattle.mkb_model.specs.Ready.{IsOn, KeepsPairs, IsRewriteOn, IsReady}
use Rattle.mkb_model.proofs.Lists.{clash, filter_in, filter_map_in, not_true}
use Rattle.mkb_model.proofs.commits.Views.{rules-view, rule_listed}
use Rattle.mkb_model.proofs.commits.RewritingRuns.{rule_of-other}
use Rattle.mkb_model.proofs.commits.Proper.{IsOrdered, composed_differs}

-- the rule of a name is the rule of a pair
pub named_rule : (b : Plain) (refs : List RuleRef) (a : RuleRef) (r : Rule) → Contains (named_rules b refs) (record { ref = a; rule = r }) → Contains refs a × ((q : Pair) × (pair_in b.nodes a.node ≡ Some q) × (rule_of q a.dir ≡ r))
named_rule b refs a r i =
    let f = filter_map_in (λ a. option_map {U = NamedRule} (λ r. record { ref = a; rule = r }) (rule_at b a)) refs (record { ref = a; rule = r }) i in
    let e = at_rule f.0 (rule_at b f.0) refl f.2 in
    (subst {A = RuleRef} (Contains refs) e.0 f.1, at_pair (pair_in b.nodes a.node) refl (subst {A = RuleRef} (λ z. rule_at b z ≡ Some r) e.0 e.1))
  where
    at_rule : (c : RuleRef) (o : Option Rule) → rule_at b c ≡ o → option_map {U = NamedRule} (λ s. record { ref = c; rule = s }) o ≡ Some (record { ref = a; rule = r }) → (c ≡ a) × (rule_at b c ≡ Some r)
    at_rule c None e k = none_some k
    at_rule c (Some s) e k = let x : NamedRule = record { ref = c; rule = s } in let y : NamedRule = record { ref = a; rule = r } in let h : x ≡ y = some_is k in (ap (λ (z : NamedRule). z.ref) h, e ∙ ap Some (ap (λ (z : NamedRule). z.rule) h))

    at_pair : (o : Option Pair) → pair_in b.nodes a.node ≡ o → option_map (λ q. rule_of q a.dir) o ≡ Some r → (q : Pair) × (pair_in b.nodes a.node ≡ Some q) × (rule_of q a.dir ≡ r)
    at_pair None e k = none_some k
    at_pair (Some q) e k = (q, e, some_is k)

-- a proposed rewriting is one on each later board
pub rewrite_ready : (before b : Plain) (p : Name) (n : NodeId) (m : NodeId) (w : ℕ) (at : List ℕ) (a : RuleRef) (kind : Found) (t : Term) → Proposes before (Reduce p n) (Rewrite m w at a kind t) → KeepsPairs before.nodes b.nodes → IsRewriteOn b.nodes m.0 w at a kind (tree_of t)
rewrite_ready before b p n m w at a kind t (e, (pair, there, rw')) keeps =
    let redex = rw'.first.is_redex in
    let k = named_rule before (reducers before p n.0) a redex.rule redex.listed in
    let f = filter_in (λ (c : RuleRef). not (c.node == n.0)) (rules_of before p) a k.0 in
    record {
      pair = pair;
      there = keeps m.0 pair (ap (λ (z : NodeId). pair_in before.nodes z.0) e ∙ there);
      by = k.1.0;
      by_there = keeps a.node k.1.0 k.1.1;
      step = subst {A = Rule} (λ r. RewritesAt r at (side pair w) (tree_of t)) (sym k.1.2) redex.rewrites;
      found = subst {A = Rule} (λ r. IsFound (side pair w) r kind) (sym k.1.2) redex.found;
      other_node = λ h. clash (eq-eqb a.node n.0 (h ∙ ap (λ (z : NodeId). z.0) e)) (not_true f.1);
    }

-- where the states of the processes are ordered, no composed rule is trivial, so the rewriting is ready
pub rewriting_ready : (g : Signature) (b : Plain) (m : NodeId) (w : ℕ) (at : List ℕ) (a : RuleRef) (kind : Found) (t : Term) (f : IsRewriteOn b.nodes m.0 w at a kind (tree_of t))
    → ((p : Name) → IsOn b.nodes p a.node (rule_kind a.dir) → IsOrdered g (state_of b p)) → IsReady g b (Rewrite m w at a kind t)
rewriting_ready g b m w at a kind t f ordered = (
  f,
  λ p has_rule on. composed_differs g (state_of b p) (ordered p has_rule) (other_side f.pair w) (side f.pair w) (tree_of t)
      ((rules-view b p (rule_between (other_side f.pair w) (side f.pair w))).1 (m.0, other w, f.pair, on, f.there, rule_of-other f.pair w))
      (rule_of f.by a.dir, rule_listed b p a f.by has_rule f.by_there, at, f.step),
)
