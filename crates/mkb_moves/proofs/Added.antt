-- The pairs of overlaps become equations of the processes of the label, but for those that are rules of theirs.
use Rattle.std.proofs.Common.{ℕ, ◌≡◌, ◌≢◌, ◌⊎◌, ◌↔◌, inl, inr, refl, sym, ap, ◌∙◌, subst, List, [], ◌∷◌, Bool, true, false, cond, ◌&&◌, ⊎_elim, Contains, Some}
use Rattle.std.proofs.lemmas.Bool.{and_from, or_right}
use Rattle.kb_lemmas.proofs.Membership.{contains_cases, contains_first, contains_behind, none_in}
use Rattle.kb_term.specs.Signature.{Problem}
use Rattle.kb_term.specs.declared.origin.RuleRef.{RuleRef}
use Rattle.kb_term.specs.declared.origin.Origin.TheVariants.{Overlap as ByOverlap}
use Rattle.kb_label.specs.Names.{Name, has, join}
use Rattle.kb_label.proofs.Members.{has-join}
use Rattle.kb_node.specs.declared.node.LabelKind.{LabelKind}
use Rattle.kb_node.specs.declared.node.LabelKind.TheVariants.{R0, R1, E}
use Rattle.kb_node.specs.declared.job.Deduced.{Deduced}
use Rattle.mkb_model.specs.Jobs.{ref_eq}
use Rattle.mkb_model.specs.Plain.{Plain, PlainNode, Done, rule_kind, constraint_kind, pair_in, done_in, done_of}
use Rattle.mkb_model.specs.Effects.{node_of, added, overlap_label, gains_done_in}
use Rattle.mkb_model.specs.Journals.{Moment, IsPossibleRun, IsCommitting}
use Rattle.mkb_model.specs.Ready.{IsOn}
use Rattle.mkb_model.specs.declared.entry.Effect.TheVariants.{Made}
use Rattle.mkb_model.specs.declared.proposed.Proposed.TheVariants.{Deduce, Unjoined}
use Rattle.mkb_model.specs.declared.settings.Settings.{Settings}
use Rattle.mkb_model.proofs.commits.Roles.{keeps-with_node, equation-no_rule, equation-no_constraint}
use Rattle.mkb_model.proofs.nodes.Pairs.{pairs-added, pairs-gains_equation, node-with_node}
use Rattle.mkb_model.proofs.commits.RoleChanges.{Fits}
use Rattle.mkb_model.proofs.closing.Completed.{ref_self}
use Rattle.mkb_model.proofs.commits.Orienting.{self}
use Rattle.mkb_model.proofs.commits.Adding.{add_one, with_pair, place, add-place, add-equations, add-others}
use Rattle.mkb_moves.specs.Moves.{Deduces}
use Rattle.mkb_moves.proofs.Sight.{equations_are, no_rule_are, same_rules, same_constraints, kept_test}
use Rattle.mkb_moves.proofs.Makes.{IsMaking, making, commit_fits}

-- other roles than that of an equation stay
pub added-others : (l : List Name) (ds : List Deduced) (xs : List PlainNode) (p : Name) → has l p ≡ true → (m : ℕ) (j : LabelKind) → j ≢ E → IsOn (added l ds xs) p m j ↔ IsOn xs p m j
added-others l [] xs p named m j h = ((λ o. o), λ o. o)
added-others l (d ∷ ds) xs p named m j h =
    let ih = added-others l ds (add_one l d xs) p named m j h in
    let k = add-others l d xs p named m j h in
    ((λ o. k.0 (ih.0 o)), λ o. ih.1 (k.1 o))

pub rule_other : (d : ℕ) → rule_kind d ≢ E
rule_other d e = equation-no_rule d (sym e)

-- one of the pairs is that of the node, which the process has as no rule
abbrev pub IsNewPair : List Deduced → List PlainNode → List PlainNode → Name → ℕ → Type 0
IsNewPair ds zs xs p m = (d : Deduced) × Contains ds d × (pair_in zs m ≡ Some d.pair) × (¬ IsOn xs p m R0) × (¬ IsOn xs p m R1)

-- one pair more
module _ (l : List Name) (d : Deduced) (ds : List Deduced) (xs : List PlainNode) (p : Name) (named : has l p ≡ true) (fits : Fits (added l ds (add_one l d xs))) (m : ℕ)
    (ih : IsOn (added l ds (add_one l d xs)) p m E ↔ (IsOn (add_one l d xs) p m E ⊎ IsNewPair ds (added l ds (add_one l d xs)) (add_one l d xs) p m)) where
  at_place : pair_in (added l ds (add_one l d xs)) (place l d xs p named) ≡ Some d.pair
  at_place = pairs-added l ds (add_one l d xs) (place l d xs p named) d.pair (add-place l d xs p named)

  -- the node of the pair is found without a change of roles
  before : (j : LabelKind) → IsOn (with_pair d xs) p m j ↔ IsOn xs p m j
  before j = keeps-with_node d.pair (ByOverlap d.outer d.inner d.position) xs p m j

  one_more : IsOn (added l ds (add_one l d xs)) p m E → IsOn xs p m E ⊎ IsNewPair (d ∷ ds) (added l ds (add_one l d xs)) xs p m
  one_more o = ⊎_elim
      (λ i. ⊎_elim (λ u. inl u)
      (λ u. inr (d, contains_first d ds, ap (pair_in (added l ds (add_one l d xs))) u.0 ∙ at_place, (λ v. u.1.0 (subst {A = ℕ} (λ z. IsOn (with_pair d xs) p z R0) u.0 ((before R0).1 v))), λ v. u.1.1 (subst {A = ℕ} (λ z. IsOn (with_pair d xs) p z R1) u.0 ((before R1).1 v))))
      ((add-equations l d xs p named m).0 i))
      (λ i. inr (i.0, contains_behind d ds i.0 i.1, i.2, (λ v. i.3 ((add-others l d xs p named m R0 (rule_other 0)).1 v)), λ v. i.4 ((add-others l d xs p named m R1 (rule_other 1)).1 v)))
      (ih.0 o)

  one_there : IsOn xs p m E ⊎ IsNewPair (d ∷ ds) (added l ds (add_one l d xs)) xs p m → IsOn (added l ds (add_one l d xs)) p m E
  one_there (inl o) = ih.1 (inl ((add-equations l d xs p named m).1 (inl o)))
  one_there (inr (e, i, there, n0, n1)) = ⊎_elim
      (λ q. let s : m ≡ place l d xs p named = fits.distinct m (place l d xs p named) d.pair (there ∙ ap (λ (z : Deduced). Some z.pair) (sym q)) at_place in
      ih.1 (inl ((add-equations l d xs p named m).1 (inr (s, ((λ v. n0 ((before R0).0 (subst {A = ℕ} (λ z. IsOn (with_pair d xs) p z R0) (sym s) v))), λ v. n1 ((before R1).0 (subst {A = ℕ} (λ z. IsOn (with_pair d xs) p z R1) (sym s) v))))))))
      (λ c. ih.1 (inr (e, c, there, (λ v. n0 ((add-others l d xs p named m R0 (rule_other 0)).0 v)), λ v. n1 ((add-others l d xs p named m R1 (rule_other 1)).0 v))))
      (contains_cases d ds e i)

pub added-equations : (l : List Name) (ds : List Deduced) (xs : List PlainNode) (p : Name) → has l p ≡ true → Fits (added l ds xs) → (m : ℕ) → IsOn (added l ds xs) p m E ↔ (IsOn xs p m E ⊎ IsNewPair ds (added l ds xs) xs p m)
added-equations l [] xs p named fits m = ((λ o. inl o), λ h. ⊎_elim (λ o. o) (λ i. none_in i.1) h)
added-equations l (d ∷ ds) xs p named fits m =
    let ih = added-equations l ds (add_one l d xs) p named fits m in
    (one_more l d ds xs p named fits m ih, one_there l d ds xs p named fits m ih)

-- each pair has a node
added-there : (l : List Name) (ds : List Deduced) (xs : List PlainNode) (d : Deduced) → Contains ds d → (m : ℕ) × (pair_in (added l ds xs) m ≡ Some d.pair)
added-there l [] xs d i = none_in i
added-there l (e ∷ ds) xs d i = ⊎_elim
    (λ q. (k, subst {A = Deduced} (λ z. pair_in (added l ds (add_one l e xs)) k ≡ Some z.pair) q (pairs-added l ds (add_one l e xs) k e.pair (pairs-gains_equation k l (with_pair e xs) k ∙ (node-with_node e.pair (ByOverlap e.outer e.inner e.position) xs).0))))
    (λ c. added-there l ds (add_one l e xs) d c) (contains_cases e ds d i)
  where
    k : ℕ
    k = node_of (with_pair e xs) e.pair

-- what the roles say of the lists
deduced : (b c : Plain) (p : Name) (l : List Name) (ds : List Deduced) → has l p ≡ true → c.nodes ≡ added l ds b.nodes → Fits c.nodes → Deduces b c p ds
deduced b c p l ds named e fits = record {
  there = λ d i. subst {A = List PlainNode} (λ zs. (m : ℕ) × (pair_in zs m ≡ Some d.pair)) (sym e) (added-there l ds b.nodes d i);
  equations = λ m. (
    (λ i. ⊎_elim (λ o. inl ((equations_are b p m).1 o)) (λ o. inr (o.0, o.1, o.2, (no_rule_are c p m).1 ((λ v. o.3 ((others m R0 (rule_other 0)).0 v)), λ v. o.4 ((others m R1 (rule_other 1)).0 v)))) ((eqs m).0 ((equations_are c p m).0 i))),
    λ i. (equations_are c p m).1 ((eqs m).1 (⊎_elim (λ o. inl ((equations_are b p m).0 o)) (λ o. let n = (no_rule_are c p m).0 o.3 in inr (o.0, o.1, o.2, (λ v. n.0 ((others m R0 (rule_other 0)).1 v)), λ v. n.1 ((others m R1 (rule_other 1)).1 v))) i)),
  );
  rules = same_rules b c p p (λ d m. kept_test b.nodes c.nodes p p m (rule_kind d) (others m (rule_kind d) (rule_other d)));
  constraints = same_constraints b c p p (λ d m. kept_test b.nodes c.nodes p p m (constraint_kind d) (others m (constraint_kind d) (λ h. equation-no_constraint d (sym h))));
}
  where
    others : (m : ℕ) (j : LabelKind) → j ≢ E → IsOn c.nodes p m j ↔ IsOn b.nodes p m j
    others = subst {A = List PlainNode} (λ zs. (m : ℕ) (j : LabelKind) → j ≢ E → IsOn zs p m j ↔ IsOn b.nodes p m j) (sym e) (added-others l ds b.nodes p named)

    eqs : (m : ℕ) → IsOn c.nodes p m E ↔ (IsOn b.nodes p m E ⊎ IsNewPair ds c.nodes b.nodes p m)
    eqs = subst {A = List PlainNode} (λ zs. (m : ℕ) → IsOn zs p m E ↔ (IsOn b.nodes p m E ⊎ IsNewPair ds zs b.nodes p m)) (sym e) (added-equations l ds b.nodes p named (subst {A = List PlainNode} Fits e fits))

-- the rules are noted as overlapped
gains_these : (p : Name) (a c : RuleRef) (l : List Name) → has l p ≡ true → (ds : List Done) → has (done_in (gains_done_in a c l ds) a c) p ≡ true
gains_these p a c l h [] = ap (λ (z : Bool). has (cond z l []) p) (and_from (ref_eq a a) (ref_eq c c) (ref_self a) (ref_self c)) ∙ h
gains_these p a c l h (d ∷ ds) = go (ref_eq d.first a && ref_eq d.second c) refl (gains_these p a c l h ds)
  where
    go : (z : Bool) → (ref_eq d.first a && ref_eq d.second c) ≡ z → has (done_in (gains_done_in a c l ds) a c) p ≡ true → has (done_in (cond z (record d { names = join d.names l } ∷ ds) (d ∷ gains_done_in a c l ds)) a c) p ≡ true
    go true e ih = ap (λ (z : Bool). has (cond z (join d.names l) (done_in ds a c)) p) e ∙ has-join d.names l p ∙ or_right (has d.names p) (has l p) h
    go false e ih = ap (λ (z : Bool). has (cond z d.names (done_in (gains_done_in a c l ds) a c)) p) e ∙ ih

pub deduce_adds : (P : Problem) (n : Settings) (past : List Moment) (b : Plain) → IsPossibleRun P n past b → (w t : ℕ) (a c : RuleRef) (ds : List Deduced) (next : Plain) → IsCommitting past b w t (Made (Deduce a c ds)) next
    → (p : Name) → has (overlap_label b a c) p ≡ true → Deduces b next p ds × (has (done_of next a c) p ≡ true)
deduce_adds P n past b run w t a c ds next f p named = (
  deduced b next p (overlap_label b a c) ds named (ap (λ (z : Plain). z.nodes) k.leads_to) (commit_fits P n past b w t (Made (Deduce a c ds)) next run f),
  ap (λ (z : Plain). has (done_of z a c) p) k.leads_to ∙ gains_these p a c (overlap_label b a c) named b.done,
)
  where
    k : IsMaking past b w t (Deduce a c ds) next
    k = making past b w t (Deduce a c ds) next f

pub unjoined_adds : (P : Problem) (n : Settings) (past : List Moment) (b : Plain) → IsPossibleRun P n past b → (w t : ℕ) (p : Name) (ds : List Deduced) (next : Plain) → IsCommitting past b w t (Made (Unjoined p ds)) next → Deduces b next p ds
unjoined_adds P n past b run w t p ds next f = deduced b next p (p ∷ []) ds (self p) (ap (λ (z : Plain). z.nodes) (making past b w t (Unjoined p ds) next f).leads_to) (commit_fits P n past b w t (Made (Unjoined p ds)) next run f)
