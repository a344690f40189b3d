-- A rewriting simplifies an equation of each process of its label, or composes or collapses a rule.
use Rattle.std.proofs.Common.{ℕ, ◌≡◌, ◌≢◌, ◌⊎◌, inl, inr, refl, sym, ap, ◌∙◌, subst, List, Bool, true, false, cond, not, ◌==◌, Option, Some, ⊎_elim}
use Rattle.std.specs.Option.{option_map_or}
use Rattle.kb_term.specs.Tree.{Tree}
use Rattle.kb_term.specs.View.{tree_of}
use Rattle.kb_term.specs.Pair.{Pair, canonical_pair, numbered}
use Rattle.kb_term.specs.Signature.{Problem, IsWithinLimits}
use Rattle.kb_overlap.specs.Trace.{other_side}
use Rattle.kb_term.specs.declared.term.Term.{Term}
use Rattle.kb_term.specs.declared.origin.RuleRef.{RuleRef}
use Rattle.kb_term.specs.declared.origin.Found.{Found}
use Rattle.kb_term.specs.declared.origin.Found.TheVariants.{Strict}
use Rattle.kb_label.specs.Names.{Name, has}
use Rattle.kb_node.specs.declared.node.NodeId.{NodeId}
use Rattle.kb_node.specs.declared.node.LabelKind.{LabelKind}
use Rattle.kb_node.specs.declared.node.LabelKind.TheVariants.{E}
use Rattle.kb_node.specs.declared.job.Job.{Job}
use Rattle.kb_node.specs.declared.job.Job.TheVariants.{Reduce, Orient, Overlap, Close}
use Rattle.mkb_model.specs.Plain.{Plain, PlainNode, other, rule_kind, pair_at, pair_in, rules_of, constraints_of}
use Rattle.mkb_model.specs.DueJobs.{reducers}
use Rattle.mkb_model.specs.Effects.{rewrite_label, rewritten, direction, pair_eq}
use Rattle.mkb_model.specs.Proposals.{Proposes}
use Rattle.mkb_model.specs.Journals.{Moment, IsPossibleRun, IsCommitting}
use Rattle.mkb_model.specs.Ready.{IsOn, KeepsPairs, IsRewriteOn}
use Rattle.mkb_model.specs.declared.entry.Effect.TheVariants.{Made}
use Rattle.mkb_model.specs.declared.proposed.Proposed.TheVariants.{Rewrite}
use Rattle.mkb_model.specs.declared.settings.Settings.{Settings}
use Rattle.mkb_model.proofs.Lists.{filter_in}
use Rattle.mkb_model.proofs.commits.RoleChanges.{Fits}
use Rattle.mkb_model.proofs.commits.RewritingRuns.{IsSource, source_of}
use Rattle.mkb_model.proofs.runs.Readiness.{named_rule, rewrite_ready}
use Rattle.mkb_model.proofs.closing.LeftAlone.{IsBit, rules_in}
use Rattle.mkb_model.proofs.closing.Staying.{KeepsConstraints, constraints_applied}
use Rattle.mkb_model.proofs.runs.AllFine.{goes}
use Rattle.mkb_moves.specs.Moves.{Simplifies, Composes, Collapses, Rewrites}
use Rattle.mkb_moves.proofs.Sight.{equations_are, rules_are, rule_ref, same_direction, no_rule_are, same_rules, kept_test, kept_constraints}
use Rattle.mkb_moves.proofs.Makes.{IsMaking, making, taken_keeps, commit_fits}
use Rattle.mkb_moves.proofs.Sources.{IsSimplified, IsComposed, IsCollapsed, IsMoved, moved_by, result_there}

bit_other : (w : ℕ) → IsBit w → IsBit (other w)
bit_other w (inl e) = inr (ap other e)
bit_other w (inr e) = inl (ap other e)

module _ (b c : Plain) (p : Name) (n : ℕ) (rest u : Tree) where
  simplifies : IsOn b.nodes p n E → IsSimplified b.nodes c.nodes p n (canonical_pair u rest) → Simplifies b c p n rest u
  simplifies on s = record {
    had = (equations_are b p n).1 on;
    equations = λ m. (
      (λ i. ⊎_elim (λ o. inl ((equations_are b p m).1 o.0, o.1)) (λ o. inr (o.0, (no_rule_are c p m).1 o.1)) ((s.0 m).0 ((equations_are c p m).0 i))),
      λ i. (equations_are c p m).1 ((s.0 m).1 (⊎_elim (λ o. inl ((equations_are b p m).0 o.0, o.1)) (λ o. inr (o.0, (no_rule_are c p m).0 o.1)) i)),
    );
    rules = same_rules b c p p (λ d m. kept_test b.nodes c.nodes p p m (rule_kind d) (s.1 m d));
  }

  -- the rule that is lost is told by its direction
  lost_ref : (s : ℕ) (e : RuleRef) → ¬ ((e.node ≡ n) × (rule_kind e.dir ≡ rule_kind s)) → e ≢ record { node = n; dir = s }
  lost_ref s e h i = h (ap (λ (z : RuleRef). z.node) i, ap (λ (z : RuleRef). rule_kind z.dir) i)

  ref_lost : (s : ℕ) → IsBit s → (e : RuleRef) → IsBit e.dir → e ≢ record { node = n; dir = s } → ¬ ((e.node ≡ n) × (rule_kind e.dir ≡ rule_kind s))
  ref_lost s bit e side h i = h (rule_ref (record { node = n; dir = s }) e i.0 (same_direction e.dir s side bit i.1))

  direction_bit : (z : Pair) → IsBit (direction rest u z)
  direction_bit z = go (pair_eq (numbered rest u) z)
    where
      go : (x : Bool) → IsBit (cond x 0 1)
      go true = inl refl
      go false = inr refl

  composes : (s : ℕ) → IsBit s → IsOn b.nodes p n (rule_kind s) → IsComposed b.nodes c.nodes p n s (canonical_pair u rest) rest u → Composes b c p (record { node = n; dir = s }) rest u
  composes s bit on h = record {
    had = (rules_are b p (record { node = n; dir = s })).1 (bit, on);
    equations = λ m. (
      (λ i. let o = (h.0 m).0 ((equations_are c p m).0 i) in ((equations_are b p m).1 o.0, o.1)),
      λ i. (equations_are c p m).1 ((h.0 m).1 ((equations_are b p m).0 i.0, i.1)),
    );
    rules = λ e. (
      (λ i. let k = (rules_are c p e).0 i in ⊎_elim (λ o. inl ((rules_are b p e).1 (k.0, o.0), lost_ref s e o.1)) (λ o. inr (o.0, o.1, o.2, same_direction e.dir (direction rest u o.0) k.0 (direction_bit o.0) o.3)) ((h.1 e.node e.dir).0 k.1)),
      λ i. ⊎_elim (λ o. let k = (rules_are b p e).0 o.0 in (rules_are c p e).1 (k.0, (h.1 e.node e.dir).1 (inl (k.1, ref_lost s bit e k.0 o.1))))
          (λ o. (rules_are c p e).1 (subst {A = ℕ} IsBit (sym o.3) (direction_bit o.0), (h.1 e.node e.dir).1 (inr (o.0, o.1, o.2, ap rule_kind o.3)))) i,
    );
  }

  collapses : (s : ℕ) → IsBit s → IsOn b.nodes p n (rule_kind s) → IsCollapsed b.nodes c.nodes p n s (canonical_pair u rest) → Collapses b c p (record { node = n; dir = s }) rest u
  collapses s bit on h = record {
    had = (rules_are b p (record { node = n; dir = s })).1 (bit, on);
    equations = λ m. (
      (λ i. ⊎_elim (λ o. inl ((equations_are b p m).1 o)) (λ o. inr (o.0, (no_rule_are c p m).1 o.1)) ((h.0 m).0 ((equations_are c p m).0 i))),
      λ i. (equations_are c p m).1 ((h.0 m).1 (⊎_elim (λ o. inl ((equations_are b p m).0 o)) (λ o. inr (o.0, (no_rule_are c p m).0 o.1)) i)),
    );
    rules = λ e. (
      (λ i. let k = (rules_are c p e).0 i in let o = (h.1 e.node e.dir).0 k.1 in ((rules_are b p e).1 (k.0, o.0), lost_ref s e o.1)),
      λ i. let k = (rules_are b p e).0 i.0 in (rules_are c p e).1 (k.0, (h.1 e.node e.dir).1 (k.1, ref_lost s bit e k.0 i.1)),
    );
  }

-- what the proposal read
module _ (before b : Plain) (keeps : KeepsPairs before.nodes b.nodes) (m : NodeId) (w : ℕ) (at : List ℕ) (a : RuleRef) (kind : Found) (t : Term) where
  pub read : (j : Job) → Proposes before j (Rewrite m w at a kind t) → IsRewriteOn b.nodes m.0 w at a kind (tree_of t) × IsBit w × IsBit a.dir
  read (Reduce p n) h =
      let r = h.1.2.first.is_redex in (
        rewrite_ready before b p n m w at a kind t h keeps,
        r.is_side,
        (rules_in before p a (filter_in (λ (c : RuleRef). not (c.node == n.0)) (rules_of before p) a (named_rule before (reducers before p n.0) a r.rule r.listed).0).0).0,
      )
  read (Orient p n) h = absurd h
  read (Overlap p d e) h = absurd h
  read (Close p) h = absurd h

pub rewriting_moves : (P : Problem) (n : Settings) (past : List Moment) (b : Plain) → IsWithinLimits P → IsPossibleRun P n past b → (v s : ℕ) (m : NodeId) (w : ℕ) (at : List ℕ) (a : RuleRef) (kind : Found) (t : Term) (next : Plain) → IsCommitting past b v s (Made (Rewrite m w at a kind t)) next
    → (pair : Pair) × (pair_at b m.0 ≡ Some pair) × ((p : Name) → has (rewrite_label b m.0 w a kind) p ≡ true → Rewrites b next p m.0 w a kind pair (tree_of t))
rewriting_moves P n past b within run v s m w at a kind t next f = (q, r.0.there, moves)
  where
    k : IsMaking past b v s (Rewrite m w at a kind t) next
    k = making past b v s (Rewrite m w at a kind t) next f

    r : IsRewriteOn b.nodes m.0 w at a kind (tree_of t) × IsBit w × IsBit a.dir
    r = read k.finishing.before b (taken_keeps P n past b v s k.job (Rewrite m w at a kind t) run k.finishing) m w at a kind t k.job k.finishing.proposed

    q : Pair
    q = r.0.pair

    nodes_are : next.nodes ≡ rewritten (rewrite_label b m.0 w a kind) m.0 w at a kind (tree_of t) r.0.pair b.nodes
    nodes_are = ap (λ (z : Plain). z.nodes) k.leads_to ∙ ap (λ (o : Option Pair). option_map_or (λ q. rewritten (rewrite_label b m.0 w a kind) m.0 w at a kind (tree_of t) q) o (λ xs. xs) b.nodes) r.0.there

    fits : Fits (rewritten (rewrite_label b m.0 w a kind) m.0 w at a kind (tree_of t) r.0.pair b.nodes)
    fits = subst {A = List PlainNode} Fits nodes_are (commit_fits P n past b v s (Made (Rewrite m w at a kind t)) next run f)

    constraints : (p : Name) → constraints_of next p ≡ constraints_of b p
    constraints p = kept_constraints b next p (subst {A = Plain} (λ z. KeepsConstraints b.nodes z.nodes p) (sym k.leads_to) (constraints_applied b (Rewrite m w at a kind t) p tt))

    moves : (p : Name) → has (rewrite_label b m.0 w a kind) p ≡ true → Rewrites b next p m.0 w a kind r.0.pair (tree_of t)
    moves p named = record {
      by = (rules_are b p a).1 (r.2, o.0);
      there = λ z e. subst {A = List PlainNode} (λ ys. (k : ℕ) × (pair_in ys k ≡ Some z)) (sym nodes_are) (result_there (rewrite_label b m.0 w a kind) m.0 w at a kind (tree_of t) r.0.pair b.nodes (canonical_pair (tree_of t) (other_side r.0.pair w)) z e);
      moves = go moved;
      constraints = constraints p;
    }
      where
        o : IsOn b.nodes p a.node (rule_kind a.dir) × ((j : LabelKind) × IsSource w kind j × IsOn b.nodes p m.0 j)
        o = source_of b m.0 w a kind p named

        moved : IsMoved b.nodes next.nodes p m.0 w kind (canonical_pair (tree_of t) (other_side r.0.pair w)) (other_side r.0.pair w) (tree_of t)
        moved = subst {A = List PlainNode} (λ ys. IsMoved b.nodes ys p m.0 w kind (canonical_pair (tree_of t) (other_side r.0.pair w)) (other_side r.0.pair w) (tree_of t)) (sym nodes_are)
            (moved_by b.nodes p (rewrite_label b m.0 w a kind) named m.0 w at a kind (tree_of t) r.0.pair ((goes P n past b within run).1 p) (canonical_pair (tree_of t) (other_side r.0.pair w)) fits o.1.0 o.1.1 o.1.2)

        go : IsMoved b.nodes next.nodes p m.0 w kind (canonical_pair (tree_of t) (other_side r.0.pair w)) (other_side r.0.pair w) (tree_of t)
            → Simplifies b next p m.0 (other_side r.0.pair w) (tree_of t) ⊎ (Composes b next p (record { node = m.0; dir = other w }) (other_side r.0.pair w) (tree_of t) ⊎ ((kind ≡ Strict) × Collapses b next p (record { node = m.0; dir = w }) (other_side r.0.pair w) (tree_of t)))
        go (inl (on, h)) = inl (simplifies b next p m.0 (other_side r.0.pair w) (tree_of t) on h)
        go (inr (inl (on, h))) = inr (inl (composes b next p m.0 (other_side r.0.pair w) (tree_of t) (other w) (bit_other w r.1) on h))
        go (inr (inr (strict, on, h))) = inr (inr (strict, collapses b next p m.0 (other_side r.0.pair w) (tree_of t) w r.1 on h))
