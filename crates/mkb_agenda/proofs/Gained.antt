-- Reducings that a rule of a process makes due: of a node that has its labels as before all others are due as before.
use Rattle.std.proofs.Common.{ℕ, ◌≡◌, ◌≢◌, ◌⊎◌, inl, inr, ⊎_elim, sym, ap, ap₂, ◌∙◌, subst, List, [], ◌∷◌, Contains, Bool, true, false, not, ◌&&◌, ◌||◌, ◌==◌, Option}
use Rattle.std.proofs.lemmas.Bool.{and_from}
use Rattle.kb_lemmas.proofs.Booleans.{and_gives_left, and_gives_right}
use Rattle.kb_lemmas.proofs.Membership.{contains_first}
use Rattle.kb_term.specs.declared.origin.RuleRef.{RuleRef}
use Rattle.kb_term.specs.declared.origin.Found.{Found}
use Rattle.kb_label.specs.Names.{Name}
use Rattle.kb_node.specs.declared.node.NodeId.{NodeId}
use Rattle.kb_node.specs.declared.node.LabelKind.TheVariants.{E}
use Rattle.kb_node.specs.declared.job.Job.TheVariants.{Reduce}
use Rattle.mkb_model.specs.Plain.{Plain, rule_kind, is_rule, rules_of, known}
use Rattle.mkb_model.specs.DueJobs.{is_node_of, is_reducible, is_work_due}
use Rattle.mkb_model.proofs.Lists.{any_in, in_any}
use Rattle.mkb_model.proofs.commits.Orienting.{OrientRoles}
use Rattle.mkb_model.proofs.closing.LeftAlone.{IsBit}
use Rattle.mkb_rules.specs.Roles.{roles_of}
use Rattle.mkb_rules.specs.declared.roles.Roles.{Roles}
use Rattle.mkb_moves.proofs.DueWork.{IsSameAt, node_same}
use Rattle.mkb_moves.proofs.Sight.{kept_test, rules_are, rule_ref, same_direction}
use Rattle.mkb_agenda.specs.Open.{is_open_in, is_open_to}
use Rattle.mkb_agenda.specs.Looking.{is_gained}
use Rattle.mkb_agenda.proofs.OpenRules.{reducible_by}

module _ (b c : Plain) (p q : Name) (rules : List RuleRef) (facts : (n w : ℕ) (a : RuleRef) → known c n w a ≡ known b n w a) (k : NodeId) (equation : IsSameAt b c p q k.0 E) (rule : (d : ℕ) → IsSameAt b c p q k.0 (rule_kind d)) where
  roles_same : roles_of c q k.0 ≡ roles_of b p k.0
  roles_same = ap (λ (x : Bool). record (roles_of c q k.0) { equation = x }) equation ∙ ap₂ (λ (x y : Bool). record (roles_of b p k.0) { first = x; second = y }) (rule 0) (rule 1)

  open_same : (a : RuleRef) → is_open_to c (roles_of c q k.0) k.0 a ≡ is_open_to b (roles_of b p k.0) k.0 a
  open_same a = ap (λ (r : Roles). is_open_to c r k.0 a) roles_same
      ∙ ap₂ (λ (x y : Option Found). not (a.node == k.0) && (is_open_in (roles_of b p k.0) 0 x || (is_open_in (roles_of b p k.0) 1 y || false))) (facts k.0 0 a) (facts k.0 1 a)

  -- a reducing is due only where it was, or by one of the rules, where the process has no other rule that it had not
  pub gained_by : ((a : RuleRef) → Contains (rules_of c q) a → Contains rules a ⊎ Contains (rules_of b p) a) → is_work_due c (Reduce q k) ≡ true → (is_work_due b (Reduce p k) ≡ true) ⊎ (is_gained c q rules k.0 ≡ true)
  gained_by split d =
      let r = any_in (is_open_to c (roles_of c q k.0) k.0) (rules_of c q) (sym (reducible_by c q k.0) ∙ and_gives_right (is_node_of c q k.0) (is_reducible c q k.0) d) in
      ⊎_elim (λ i. inr (in_any (λ a. is_rule c q a && is_open_to c (roles_of c q k.0) k.0 a) rules r.0 i (and_from (is_rule c q r.0) (is_open_to c (roles_of c q k.0) k.0 r.0) ((rules_are c q r.0).0 r.1).1 r.2)))
      (λ i. inl (and_from (is_node_of b p k.0) (is_reducible b p k.0) (sym (node_same b c p q k.0 equation rule) ∙ and_gives_left (is_node_of c q k.0) (is_reducible c q k.0) d)
      (reducible_by b p k.0 ∙ in_any (is_open_to b (roles_of b p k.0) k.0) (rules_of b p) r.0 i (sym (open_same r.0) ∙ r.2)))) (split r.0 r.1)

-- a rule that is open to a node of the process makes the reducing due
pub gained_due : (c : Plain) (q : Name) (rules : List RuleRef) (n : NodeId) → ((a : RuleRef) → Contains rules a → IsBit a.dir) → is_node_of c q n.0 ≡ true → is_gained c q rules n.0 ≡ true → is_work_due c (Reduce q n) ≡ true
gained_due c q rules n bits held h =
    let r = any_in (λ a. is_rule c q a && is_open_to c (roles_of c q n.0) n.0 a) rules h in
    and_from (is_node_of c q n.0) (is_reducible c q n.0) held (reducible_by c q n.0 ∙ in_any (is_open_to c (roles_of c q n.0) n.0) (rules_of c q) r.0
    ((rules_are c q r.0).1 (bits r.0 r.1, and_gives_left (is_rule c q r.0) (is_open_to c (roles_of c q n.0) n.0 r.0) r.2)) (and_gives_right (is_rule c q r.0) (is_open_to c (roles_of c q n.0) n.0 r.0) r.2))

-- a process that orients a node has its labels of each other node as before, and one rule more
module _ (b c : Plain) (p q : Name) (a : RuleRef) (bit : IsBit a.dir) (roles : OrientRoles b.nodes p c.nodes q a) (facts : (n w : ℕ) (e : RuleRef) → known c n w e ≡ known b n w e) where
  equation_apart : (m : ℕ) → m ≢ a.node → IsSameAt b c p q m E
  equation_apart m h = kept_test b.nodes c.nodes p q m E ((λ o. ⊎_elim (λ k. k.0) (λ k. absurd k.1) ((roles.equations m).0 o)), λ o. (roles.equations m).1 (inl (o, λ k. h k.0)))

  rule_apart : (m : ℕ) → m ≢ a.node → (d : ℕ) → IsSameAt b c p q m (rule_kind d)
  rule_apart m h d = kept_test b.nodes c.nodes p q m (rule_kind d) ((λ o. ⊎_elim (λ k. k.0) (λ k. absurd (h k.0)) ((roles.rules m d).0 o)), λ o. (roles.rules m d).1 (inl (o, λ k. h k.0)))

  one_more : (e : RuleRef) → Contains (rules_of c q) e → Contains (a ∷ []) e ⊎ Contains (rules_of b p) e
  one_more e i =
      let r = (rules_are c q e).0 i in
      ⊎_elim (λ o. inr ((rules_are b p e).1 (r.0, o.0))) (λ o. inl (subst {A = RuleRef} (Contains (a ∷ [])) (sym (rule_ref a e o.0 (same_direction e.dir a.dir r.0 bit o.1))) (contains_first a []))) ((roles.rules e.node e.dir).0 r.1)

  pub gained_by_rule : (k : NodeId) → k.0 ≢ a.node → is_work_due c (Reduce q k) ≡ true → (is_work_due b (Reduce p k) ≡ true) ⊎ (is_gained c q (a ∷ []) k.0 ≡ true)
  gained_by_rule k h = gained_by b c p q (a ∷ []) facts k (equation_apart k.0 h) (rule_apart k.0 h) one_more
