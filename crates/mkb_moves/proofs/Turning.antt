-- An orientation turns an equation of its process into a rule; of a fork, each child gets its own.
use Rattle.std.proofs.Common.{ℕ, ◌≡◌, ◌⊎◌, ◌≢◌, inl, inr, refl, sym, ap, ◌∙◌, subst, arith, List, [], ◌∷◌, length, length-append, Bool, true, false, ⊎_elim, Contains}
use Rattle.kb_term.specs.Signature.{Problem}
use Rattle.kb_term.specs.declared.origin.RuleRef.{RuleRef}
use Rattle.kb_cert.specs.declared.certificate.Certificate.{Certificate}
use Rattle.kb_label.specs.Names.{Name, has, child, relabel, join}
use Rattle.kb_label.proofs.Members.{name_eq-refl}
use Rattle.kb_label.proofs.Forked.{after_fork}
use Rattle.kb_node.specs.declared.node.NodeId.{NodeId}
use Rattle.kb_node.specs.declared.node.LabelKind.{LabelKind}
use Rattle.kb_node.specs.declared.node.LabelKind.TheVariants.{E, X}
use Rattle.kb_node.specs.declared.job.Job.{Job}
use Rattle.kb_node.specs.declared.job.Job.TheVariants.{Reduce, Orient, Overlap, Close}
use Rattle.mkb_model.specs.Plain.{Plain, label, label_at, rule_kind, constraint_kind, rules_of, constraints_of, view}
use Rattle.mkb_model.specs.Proposals.{Proposes}
use Rattle.mkb_model.specs.Journals.{Moment, IsPossibleRun, IsCommitting}
use Rattle.mkb_model.specs.Ready.{IsOn}
use Rattle.mkb_model.specs.declared.entry.Effect.TheVariants.{Made}
use Rattle.mkb_model.specs.declared.proposed.Proposed.TheVariants.{One, Both, Refuse}
use Rattle.mkb_model.specs.declared.settings.Settings.{Settings}
use Rattle.mkb_model.proofs.Lists.{clash, false_unless}
use Rattle.mkb_model.proofs.commits.Roles.{on_there, on-gains, put_other, kind_number, refused-no_rule, refused-no_constraint}
use Rattle.mkb_model.proofs.commits.Orienting.{OrientRoles, orient-roles, self}
use Rattle.mkb_model.proofs.commits.Commits.{orients, bit_number, fork_roles}
use Rattle.mkb_model.proofs.labels.NameLists.{child_lives}
use Rattle.mkb_model.proofs.closing.LeftAlone.{IsBit}
use Rattle.mkb_model.proofs.closing.RestInRuns.{stands_run}
use Rattle.mkb_model.proofs.runs.AllFine.{children_new}
use Rattle.mkb_moves.specs.Moves.{Orients, Forks}
use Rattle.mkb_moves.proofs.Sight.{equations_are, rules_are, constraints_are, rule_ref, same_direction, same_constraint_direction, same_view as same_seen}
use Rattle.mkb_moves.proofs.Makes.{IsMaking, making}

-- what the roles say of the lists
pub turned : (b c : Plain) (p q : Name) (a : RuleRef) → IsBit a.dir → IsOn b.nodes p a.node E → OrientRoles b.nodes p c.nodes q a → Orients b p c q a
turned b c p q a bit on r = record {
  had = (equations_are b p a.node).1 on;
  equations = λ m. (
    (λ i. ⊎_elim (λ k. ((equations_are b p m).1 k.0, λ e. k.1 (e, tt))) (λ k. absurd k.1) ((r.equations m).0 ((equations_are c q m).0 i))),
    λ k. (equations_are c q m).1 ((r.equations m).1 (inl ((equations_are b p m).0 k.0, λ e. k.1 e.0))),
  );
  rules = λ e. (
    (λ i. let k = (rules_are c q e).0 i in ⊎_elim (λ o. inl ((rules_are b p e).1 (k.0, o.0))) (λ o. inr (rule_ref a e o.0 (same_direction e.dir a.dir k.0 bit o.1))) ((r.rules e.node e.dir).0 k.1)),
    λ i. ⊎_elim (λ o. let k = (rules_are b p e).0 o in (rules_are c q e).1 (k.0, (r.rules e.node e.dir).1 (inl (k.1, λ z. z.2)))) (λ o. subst {A = RuleRef} (Contains (rules_of c q)) (sym o) ((rules_are c q a).1 (bit, (r.rules a.node a.dir).1 (inr (refl, refl, tt))))) i,
  );
  constraints = λ e. (
    (λ i. let k = (constraints_are c q e).0 i in ⊎_elim (λ o. inl ((constraints_are b p e).1 (k.0, o.0))) (λ o. inr (rule_ref a e o.0 (same_constraint_direction e.dir a.dir k.0 bit o.1))) ((r.constraints e.node e.dir).0 k.1)),
    λ i. ⊎_elim (λ o. let k = (constraints_are b p e).0 o in (constraints_are c q e).1 (k.0, (r.constraints e.node e.dir).1 (inl (k.1, λ z. z.2)))) (λ o. subst {A = RuleRef} (Contains (constraints_of c q)) (sym o) ((constraints_are c q a).1 (bit, (r.constraints a.node a.dir).1 (inr (refl, refl, tt))))) i,
  );
}

-- an orientation goes in one of the two directions
pub direction_bit : (before : Plain) (j : Job) (p : Name) (n : NodeId) (d : ℕ) (c : Certificate) → Proposes before j (One p n d c) → IsBit d
direction_bit before (Orient q m) p n d c h = h.2
direction_bit before (Reduce q m) p n d c h = absurd h
direction_bit before (Overlap q a e) p n d c h = absurd h
direction_bit before (Close q) p n d c h = absurd h

pub one_turns : (past : List Moment) (b : Plain) (w t : ℕ) (p : Name) (n : NodeId) (d : ℕ) (c : Certificate) (next : Plain) → IsCommitting past b w t (Made (One p n d c)) next → Orients b p next p (record { node = n.0; dir = d })
one_turns past b w t p n d c next f =
    turned b next p p a (direction_bit k.finishing.before k.job p n d c k.finishing.proposed) on
    (subst {A = Plain} (λ z. OrientRoles b.nodes p z.nodes p a) (sym k.leads_to) (orient-roles p a b.nodes (on_there b.nodes p n.0 E on)))
  where
    k : IsMaking past b w t (One p n d c) next
    k = making past b w t (One p n d c) next f

    a : RuleRef
    a = record { node = n.0; dir = d }

    on : IsOn b.nodes p n.0 E
    on = orients b p n.0 k.acts

-- of a fork
module _ (P : Problem) (n : Settings) (past : List Moment) (b : Plain) (run : IsPossibleRun P n past b) (w t : ℕ) (p : Name) (m : NodeId) (c0 c1 : Certificate) (next : Plain) (f : IsCommitting past b w t (Made (Both p m c0 c1)) next) where
  made : IsMaking past b w t (Both p m c0 c1) next
  made = making past b w t (Both p m c0 c1) next f

  on : IsOn b.nodes p m.0 E
  on = orients b p m.0 (making past b w t (Both p m c0 c1) next f).acts

  lives : has b.living p ≡ true
  lives = ((stands_run P n past b run).labelled.nodes m.0 E).lives p (orients b p m.0 (making past b w t (Both p m c0 c1) next f).acts)

  living_is : next.living ≡ relabel p b.living
  living_is = ap (λ (z : Plain). z.living) (making past b w t (Both p m c0 c1) next f).leads_to

  -- the forked process lives no more
  parent_gone : has next.living p ≡ false
  parent_gone = false_unless (has next.living p) (λ e. ⊎_elim
      (λ r. let i : length p ≡ length (child p r.0) = ap length r.1 in let k = length-append p (r.0 ∷ []) in omega (arith, i, k))
      (λ r. clash (name_eq-refl p) r.0) (after_fork p b.living lives p (sym (ap (λ l. has l p) living_is) ∙ e)))

  -- its children live
  child_there : (bit : Bool) → has next.living (child p bit) ≡ true
  child_there bit = ap (λ l. has l (child p bit)) living_is ∙ child_lives p bit b.living lives

  pub child_roles : (bit : Bool) → OrientRoles b.nodes p next.nodes (child p bit) (record { node = m.0; dir = bit_number bit })
  child_roles bit = subst {A = Plain} (λ z. OrientRoles b.nodes p z.nodes (child p bit) (record { node = m.0; dir = bit_number bit })) (sym (making past b w t (Both p m c0 c1) next f).leads_to)
      (fork_roles b.nodes p m.0 (children_new b p (stands_run P n past b run) lives) on bit)

  pub forks : Forks b p next m.0
  forks = record {
    gone = parent_gone;
    first_lives = child_there false;
    second_lives = child_there true;
    first = turned b next p (child p false) (record { node = m.0; dir = 0 }) (inl refl) on (child_roles false);
    second = turned b next p (child p true) (record { node = m.0; dir = 1 }) (inr refl) on (child_roles true);
  }

-- a refusal changes no other label
pub refusal_labels : (past : List Moment) (b : Plain) (w t : ℕ) (p : Name) (n : NodeId) (next : Plain) → IsCommitting past b w t (Made (Refuse p n)) next → (m : ℕ) (j : LabelKind) → (m ≢ n.0) ⊎ (j ≢ X) → label next m j ≡ label b m j
refusal_labels past b w t p n next f m j h = ap (λ (z : Plain). label z m j) (making past b w t (Refuse p n) next f).leads_to ∙ put_other b.nodes n.0 m X j (join (label_at b.nodes n.0 X) (p ∷ [])) h

-- and each process sees what it saw
pub refusal_seen : (past : List Moment) (b : Plain) (w t : ℕ) (p : Name) (n : NodeId) (next : Plain) → IsCommitting past b w t (Made (Refuse p n)) next → (q : Name) → view next q ≡ view b q
refusal_seen past b w t p n next f q = same_seen b next q q (λ m. other m E (λ e. omega (arith, ap kind_number e))) (λ d m. other m (rule_kind d) (refused-no_rule d)) (λ d m. other m (constraint_kind d) (refused-no_constraint d))
  where
    other : (m : ℕ) (j : LabelKind) → j ≢ X → has (label next m j) q ≡ has (label b m j) q
    other m j h = ap (λ l. has l q) (refusal_labels past b w t p n next f m j (inr h))

-- it is noted, and its process sees what it saw
pub refusal_noted : (past : List Moment) (b : Plain) (w t : ℕ) (p : Name) (n : NodeId) (next : Plain) → IsCommitting past b w t (Made (Refuse p n)) next → (has (label next n.0 X) p ≡ true) × (view next p ≡ view b p)
refusal_noted past b w t p n next f = (
  subst {A = Plain} (λ z. has (label z n.0 X) p ≡ true) (sym k.leads_to) ((on-gains n.0 X (p ∷ []) b.nodes p n.0 X).1 (inr ((refl, refl), on_there b.nodes p n.0 E (orients b p n.0 k.acts), self p))),
  refusal_seen past b w t p n next f p,
)
  where
    k : IsMaking past b w t (Refuse p n) next
    k = making past b w t (Refuse p n) next f
