-- Turning an equation into a rule is one step of completion of the process that has it.
use Rattle.std.proofs.Common.{ℕ, ◌<◌, ◌≡◌, ◌⊎◌, ◌↔◌, inl, inr, refl, sym, ap, ◌∙◌, subst, List, [], ◌∷◌, ◌++◌, length, Option, Some, ⊎_elim, Contains, true, false}
use Rattle.std.specs.Prelude.{⊤, option_map}
use Rattle.std.proofs.lemmas.List.Elements.{Contains-append_left, Contains-append_right, filter_map-append}
use Rattle.std.specs.List.{filter_map, cons_option}
use Rattle.kb_laws.proofs.CompletionLaws.{variant_itself}
use Rattle.kb_lemmas.proofs.Membership.{contains_cases, contains_first}
use Rattle.kb_laws.proofs.Orderable.{orderable_variants}
use Rattle.kb_term.specs.Tree.{Tree}
use Rattle.kb_term.specs.Pair.{Pair, IsSameEquation}
use Rattle.kb_term.specs.Signature.{Signature}
use Rattle.kb_term.specs.Rule.{Rule, rule_of, IsVariantRule, rule_between}
use Rattle.kb_cert.specs.Family.{IsOrderable}
use Rattle.kb_laws.specs.Completion.{KbStep, Has, Gains}
use Rattle.mkb_model.specs.Ready.{IsOn, KeepsPairs}
use Rattle.mkb_model.proofs.commits.MemberSteps.{orient}
use Rattle.kb_term.specs.declared.origin.RuleRef.{RuleRef}
use Rattle.kb_label.specs.Names.{Name, has, name_eq}
use Rattle.mkb_model.specs.Plain.{Plain, PlainNode, rule_kind, constraint_kind, state_of, rules_at, rule_at, constraints_of, pair_in, sides}
use Rattle.mkb_model.specs.Effects.{loses, gains, oriented}
use Rattle.kb_node.specs.declared.node.LabelKind.{LabelKind}
use Rattle.kb_node.specs.declared.node.LabelKind.TheVariants.{E}
use Rattle.kb_label.proofs.Members.{name_eq-refl}
use Rattle.mkb_model.proofs.commits.Roles.{on-gains, on-loses, length-put, has-one, equation-no_rule, equation-no_constraint, rule-no_constraint, KeepsRoles, keeps_trans, keeps-gains, keeps-loses}
use Rattle.mkb_model.proofs.commits.Views.{same_sym, same_trans, rule_sym, rule_trans, rule_of-between, from_side, to_side, EqView, RuleView, SameRoles, equations-view, rules-view, constraints-view}
use Rattle.mkb_model.proofs.commits.RoleChanges.{Fits, between_sides, rule_by_kind, constraint_by_kind, eq_change, rule_change}

-- the equation of the node is lost, its rule in a direction is gained, and the rule is a constraint too
pub record OrientRoles (xs : List PlainNode) (p : Name) (ys : List PlainNode) (q : Name) (a : RuleRef) : Type 0 where
  pub equations : (m : ℕ) → IsOn ys q m E ↔ ((IsOn xs p m E × ¬ ((m ≡ a.node) × ⊤)) ⊎ ((m ≡ a.node) × ⊥))
  pub rules : (m d : ℕ) → IsOn ys q m (rule_kind d) ↔ ((IsOn xs p m (rule_kind d) × ¬ ((m ≡ a.node) × (rule_kind d ≡ rule_kind a.dir) × ⊥)) ⊎ ((m ≡ a.node) × (rule_kind d ≡ rule_kind a.dir) × ⊤))
  pub constraints : (m d : ℕ) → IsOn ys q m (constraint_kind d) ↔ ((IsOn xs p m (constraint_kind d) × ¬ ((m ≡ a.node) × (constraint_kind d ≡ constraint_kind a.dir) × ⊥)) ⊎ ((m ≡ a.node) × (constraint_kind d ≡ constraint_kind a.dir) × ⊤))

pub self : (p : Name) → has (p ∷ []) p ≡ true
self p = has-one p p ∙ name_eq-refl p

module _ (p : Name) (a : RuleRef) (xs : List PlainNode) (there : a.node < length xs) where
  x1 : List PlainNode
  x1 = loses a.node E (p ∷ []) xs

  x2 : List PlainNode
  x2 = gains a.node (rule_kind a.dir) (p ∷ []) (loses a.node E (p ∷ []) xs)

  there1 : a.node < length (loses a.node E (p ∷ []) xs)
  there1 = subst {A = ℕ} (λ n. a.node < n) (sym (length-put xs a.node E _)) there

  there2 : a.node < length (gains a.node (rule_kind a.dir) (p ∷ []) (loses a.node E (p ∷ []) xs))
  there2 = subst {A = ℕ} (λ n. a.node < n) (sym (length-put (loses a.node E (p ∷ []) xs) a.node (rule_kind a.dir) _)) there1

  abbrev one : (m : ℕ) (j : LabelKind) → IsOn (loses a.node E (p ∷ []) xs) p m j ↔ (IsOn xs p m j × ¬ (((m ≡ a.node) × (j ≡ E)) × (has (p ∷ []) p ≡ true)))
  one m j = on-loses a.node E (p ∷ []) xs p m j

  abbrev two : (m : ℕ) (j : LabelKind) → IsOn (gains a.node (rule_kind a.dir) (p ∷ []) (loses a.node E (p ∷ []) xs)) p m j ↔ (IsOn (loses a.node E (p ∷ []) xs) p m j ⊎ (((m ≡ a.node) × (j ≡ rule_kind a.dir)) × (a.node < length (loses a.node E (p ∷ []) xs)) × (has (p ∷ []) p ≡ true)))
  two m j = on-gains a.node (rule_kind a.dir) (p ∷ []) (loses a.node E (p ∷ []) xs) p m j

  abbrev three : (m : ℕ) (j : LabelKind) → IsOn (oriented p a xs) p m j ↔ (IsOn (gains a.node (rule_kind a.dir) (p ∷ []) (loses a.node E (p ∷ []) xs)) p m j ⊎ (((m ≡ a.node) × (j ≡ constraint_kind a.dir)) × (a.node < length (gains a.node (rule_kind a.dir) (p ∷ []) (loses a.node E (p ∷ []) xs))) × (has (p ∷ []) p ≡ true)))
  three m j = on-gains a.node (constraint_kind a.dir) (p ∷ []) (gains a.node (rule_kind a.dir) (p ∷ []) (loses a.node E (p ∷ []) xs)) p m j

  pub orient-roles : OrientRoles xs p (oriented p a xs) p a
  orient-roles = record {
    equations = λ m. (
      (λ o. ⊎_elim (λ u. ⊎_elim (λ v. let w = (one m E).0 v in inl (w.0, λ l. w.1 ((l.0, refl), self p))) (λ v. absurd (equation-no_rule a.dir v.0.1)) ((two m E).0 u)) (λ u. absurd (equation-no_constraint a.dir u.0.1)) ((three m E).0 o)),
      λ h. ⊎_elim (λ u. (three m E).1 (inl ((two m E).1 (inl ((one m E).1 (u.0, λ i. u.1 (i.0.0, tt))))))) (λ u. absurd u.1) h,
    );
    rules = λ m d. (
      (λ o. ⊎_elim (λ u. ⊎_elim (λ v. inl (((one m (rule_kind d)).0 v).0, λ l. l.2)) (λ v. inr (v.0.0, v.0.1, tt)) ((two m (rule_kind d)).0 u)) (λ u. absurd (rule-no_constraint d a.dir u.0.1)) ((three m (rule_kind d)).0 o)),
      λ h. ⊎_elim (λ u. (three m (rule_kind d)).1 (inl ((two m (rule_kind d)).1 (inl ((one m (rule_kind d)).1 (u.0, λ i. equation-no_rule d (sym i.0.1))))))) (λ u. (three m (rule_kind d)).1 (inl ((two m (rule_kind d)).1 (inr ((u.0, u.1), there1, self p))))) h,
    );
    constraints = λ m d. (
      (λ o. ⊎_elim (λ u. ⊎_elim (λ v. inl (((one m (constraint_kind d)).0 v).0, λ l. l.2)) (λ v. absurd (rule-no_constraint a.dir d (sym v.0.1))) ((two m (constraint_kind d)).0 u)) (λ u. inr (u.0.0, u.0.1, tt)) ((three m (constraint_kind d)).0 o)),
      λ h. ⊎_elim (λ u. (three m (constraint_kind d)).1 (inl ((two m (constraint_kind d)).1 (inl ((one m (constraint_kind d)).1 (u.0, λ i. equation-no_constraint d (sym i.0.1))))))) (λ u. (three m (constraint_kind d)).1 (inr ((u.0, u.1), there2, self p))) h,
    );
  }

-- who has the roles of p before, and who has those of q after
pub orient_before : (ws : List PlainNode) (o : Name) (xs : List PlainNode) (p : Name) (ys : List PlainNode) (q : Name) (a : RuleRef) → SameRoles ws o xs p → OrientRoles xs p ys q a → OrientRoles ws o ys q a
orient_before ws o xs p ys q a s r = record {
  equations = λ m. ((λ h. ⊎_elim (λ u. inl ((s m E).0 u.0, u.1)) (λ u. inr u) ((r.equations m).0 h)), λ h. (r.equations m).1 (⊎_elim (λ u. inl ((s m E).1 u.0, u.1)) (λ u. inr u) h));
  rules = λ m d. ((λ h. ⊎_elim (λ u. inl ((s m (rule_kind d)).0 u.0, u.1)) (λ u. inr u) ((r.rules m d).0 h)), λ h. (r.rules m d).1 (⊎_elim (λ u. inl ((s m (rule_kind d)).1 u.0, u.1)) (λ u. inr u) h));
  constraints = λ m d. ((λ h. ⊎_elim (λ u. inl ((s m (constraint_kind d)).0 u.0, u.1)) (λ u. inr u) ((r.constraints m d).0 h)), λ h. (r.constraints m d).1 (⊎_elim (λ u. inl ((s m (constraint_kind d)).1 u.0, u.1)) (λ u. inr u) h));
}

pub orient_after : (xs : List PlainNode) (p : Name) (ys : List PlainNode) (q : Name) (zs : List PlainNode) (a : RuleRef) → OrientRoles xs p ys q a → KeepsRoles ys zs q → OrientRoles xs p zs q a
orient_after xs p ys q zs a r s = record {
  equations = λ m. ((λ h. (r.equations m).0 ((s m E).0 h)), λ h. (s m E).1 ((r.equations m).1 h));
  rules = λ m d. ((λ h. (r.rules m d).0 ((s m (rule_kind d)).0 h)), λ h. (s m (rule_kind d)).1 ((r.rules m d).1 h));
  constraints = λ m d. ((λ h. (r.constraints m d).0 ((s m (constraint_kind d)).0 h)), λ h. (s m (constraint_kind d)).1 ((r.constraints m d).1 h));
}

-- others keep their roles
pub keeps-oriented : (p : Name) (a : RuleRef) (xs : List PlainNode) (q : Name) → name_eq q p ≡ false → KeepsRoles xs (oriented p a xs) q
keeps-oriented p a xs q h =
    keeps_trans xs (loses a.node E (p ∷ []) xs) (oriented p a xs) q (keeps-loses a.node E (p ∷ []) xs q (has-one p q ∙ h))
    (keeps_trans (loses a.node E (p ∷ []) xs) (gains a.node (rule_kind a.dir) (p ∷ []) (loses a.node E (p ∷ []) xs)) (oriented p a xs) q
    (keeps-gains a.node (rule_kind a.dir) (p ∷ []) (loses a.node E (p ∷ []) xs) q (has-one p q ∙ h))
    (keeps-gains a.node (constraint_kind a.dir) (p ∷ []) (gains a.node (rule_kind a.dir) (p ∷ []) (loses a.node E (p ∷ []) xs)) q (has-one p q ∙ h)))

-- ---- gains told by views

pub rules_gained : (old new : List Rule) (before after lost : Rule → Type 0) → ((r : Rule) → Has IsVariantRule old r ↔ before r) → ((r : Rule) → Has IsVariantRule new r ↔ after r) → ((r : Rule) → ¬ lost r) → (v x : Rule) → IsVariantRule v x
    → ((r : Rule) → after r ↔ ((before r × ¬ lost r) ⊎ (IsVariantRule v r × ⊤))) → Gains IsVariantRule old new x
rules_gained old new before after lost o n never v x s h r = (
  (λ u. (n r).1 ((h r).1 (⊎_elim (λ k. inl ((o r).0 k, never r)) (λ k. inr (rule_trans v x r s k, tt)) u))),
  λ u. ⊎_elim (λ k. inl ((o r).1 k.0)) (λ k. inr (rule_trans x v r (rule_sym v x s) k.0)) ((h r).0 ((n r).0 u)),
)

-- the process that turns its equation into a rule makes one step
pub orient_step : (g : Signature) (b c : Plain) (p q : Name) (a : RuleRef) (r : Pair) → OrientRoles b.nodes p c.nodes q a → KeepsPairs b.nodes c.nodes → Fits c.nodes → pair_in b.nodes a.node ≡ Some r → IsOn b.nodes p a.node E
    → IsOrderable g (rules_at b (constraints_of b p ++ a ∷ [])) → KbStep g (state_of b p) (state_of c q)
orient_step g b c p q a r roles keeps fits there on orders = orient s t orderable (
  (equations-view b p (s, t)).1 (a.node, r, on, there, between_sides r a.dir),
  λ y. (
    (λ h. (equations-view c q y).1 ((eqs y).1 (inl ((equations-view b p y).0 h.0, λ l. h.1 (same_trans (s, t) (sides r) y (same_sym (sides r) (s, t) (between_sides r a.dir)) l.0))))),
    λ h. ⊎_elim (λ k. ((equations-view b p y).1 k.0, λ l. k.1 (same_trans (sides r) (s, t) y (between_sides r a.dir) l, tt))) (λ k. absurd k.1) ((eqs y).0 ((equations-view c q y).0 h)),
  ),
)
    (rules_gained (state_of b p).rules (state_of c q).rules (RuleView rule_kind b.nodes p) (RuleView rule_kind c.nodes q) (λ y. IsVariantRule (rule_of r a.dir) y × ⊥) (rules-view b p) (rules-view c q) (λ y l. l.1) (rule_of r a.dir) (rule_between s t) (rule_of-between r a.dir)
    (rule_change b.nodes c.nodes p q fits keeps rule_kind rule_by_kind a.node a.dir r ⊥ there (λ d l. absurd l) a.node a.dir r ⊤ (keeps a.node r there) roles.rules))
    (rules_gained (state_of b p).constraints (state_of c q).constraints (RuleView constraint_kind b.nodes p) (RuleView constraint_kind c.nodes q) (λ y. IsVariantRule (rule_of r a.dir) y × ⊥) (constraints-view b p) (constraints-view c q) (λ y l. l.1) (rule_of r a.dir) (rule_between s t) (rule_of-between r a.dir)
    (rule_change b.nodes c.nodes p q fits keeps constraint_kind constraint_by_kind a.node a.dir r ⊥ there (λ d l. absurd l) a.node a.dir r ⊤ (keeps a.node r there) roles.constraints))
  where
    s : Tree
    s = from_side r a.dir

    t : Tree
    t = to_side r a.dir

    eqs : (y : Tree × Tree) → EqView c.nodes q y ↔ ((EqView b.nodes p y × ¬ (IsSameEquation (sides r) y × ⊤)) ⊎ (IsSameEquation (sides r) y × ⊥))
    eqs = eq_change b.nodes c.nodes p q fits keeps a.node r ⊤ there a.node r ⊥ (keeps a.node r there) roles.equations

    orderable : IsOrderable g (rule_between (from_side r a.dir) (to_side r a.dir) ∷ (state_of b p).constraints)
    orderable = orderable_variants g (rules_at b (constraints_of b p ++ a ∷ [])) (rule_between (from_side r a.dir) (to_side r a.dir) ∷ (state_of b p).constraints) each orders
      where
        each : (x : Rule) → Contains (rule_between (from_side r a.dir) (to_side r a.dir) ∷ (state_of b p).constraints) x → Has IsVariantRule (rules_at b (constraints_of b p ++ a ∷ [])) x
        each x i = ⊎_elim
            (λ e. (rule_of r a.dir, subst {A = List Rule} (λ zs. Contains zs (rule_of r a.dir)) (sym (filter_map-append (rule_at b) (constraints_of b p) (a ∷ []))) (Contains-append_right (filter_map (rule_at b) (constraints_of b p)) (filter_map (rule_at b) (a ∷ [])) (rule_of r a.dir) last), subst {A = Rule} (IsVariantRule (rule_of r a.dir)) e (rule_of-between r a.dir)))
            (λ k. (x, subst {A = List Rule} (λ zs. Contains zs x) (sym (filter_map-append (rule_at b) (constraints_of b p) (a ∷ []))) (Contains-append_left (filter_map (rule_at b) (constraints_of b p)) (filter_map (rule_at b) (a ∷ [])) x k), variant_itself x))
            (contains_cases (rule_between (from_side r a.dir) (to_side r a.dir)) (state_of b p).constraints x i)
          where
            last : Contains (filter_map (rule_at b) (a ∷ [])) (rule_of r a.dir)
            last = subst {A = Option Rule} (λ o. Contains (cons_option o []) (rule_of r a.dir)) (sym (ap (option_map (λ w. rule_of w a.dir)) there)) (contains_first (rule_of r a.dir) [])
