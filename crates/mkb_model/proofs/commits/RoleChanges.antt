-- What a change of roles does to the equations and rules that a process has.
use Rattle.std.proofs.Common.{ℕ, zero, suc, ◌≡◌, ◌⊎◌, ◌↔◌, inl, inr, refl, sym, ap, ◌∙◌, subst, arith, List, Some, ⊎_elim}
use Rattle.kb_laws.proofs.CompletionLaws.{same_equation_itself}
use Rattle.kb_lemmas.proofs.Options.{some_is}
use Rattle.kb_term.proofs.CanonicalPairs.{canonical_from_same, lesser_cases}
use Rattle.kb_term.specs.Tree.{Tree}
use Rattle.kb_term.specs.Pair.{Pair, numbered, IsCanonical, IsTrivial, IsSameEquation}
use Rattle.kb_term.specs.Rule.{Rule, rule_of, IsVariantRule, rule_between}
use Rattle.kb_label.specs.Names.{Name}
use Rattle.mkb_model.specs.Plain.{Plain, PlainNode, rule_kind, constraint_kind, state_of, pair_in, sides}
use Rattle.kb_node.specs.declared.node.LabelKind.{LabelKind}
use Rattle.kb_node.specs.declared.node.LabelKind.TheVariants.{E}
use Rattle.mkb_model.specs.Ready.{IsOn, KeepsPairs}
use Rattle.mkb_model.proofs.commits.Roles.{kind_number}
use Rattle.mkb_model.proofs.commits.Views.{same_sym, same_trans, same_turned, rule_sym, rule_trans, rule_of-between, from_side, to_side, EqView, RuleView, equations-view, pair_back}
use Rattle.mkb_model.proofs.commits.Steps.{IsLean}

-- the pairs of the nodes are canonical, not trivial, and no two are the same
pub record Fits (xs : List PlainNode) : Type 0 where
  pub canonical : (n : ℕ) (q : Pair) → pair_in xs n ≡ Some q → IsCanonical q
  pub nontrivial : (n : ℕ) (q : Pair) → pair_in xs n ≡ Some q → ¬ IsTrivial q
  pub distinct : (n m : ℕ) (q : Pair) → pair_in xs n ≡ Some q → pair_in xs m ≡ Some q → n ≡ m

pub fits_before : (xs ys : List PlainNode) → KeepsPairs xs ys → Fits ys → Fits xs
fits_before xs ys k f = record { canonical = λ n q h. f.canonical n q (k n q h); nontrivial = λ n q h. f.nontrivial n q (k n q h); distinct = λ n m q h i. f.distinct n m q (k n q h) (k m q i) }

-- canonical pairs that are the same equation are the same pair
pub same_pair : (q r : Pair) → IsCanonical q → IsCanonical r → IsSameEquation (sides q) (sides r) → q ≡ r
same_pair q r c d h = sym c ∙ canonical_from_same q.first q.second r.first r.second h ∙ d

pub same_node : (xs : List PlainNode) → Fits xs → (n m : ℕ) (q r : Pair) → pair_in xs n ≡ Some q → pair_in xs m ≡ Some r → IsSameEquation (sides q) (sides r) → (q ≡ r) × (n ≡ m)
same_node xs f n m q r h k s =
    let e = same_pair q r (f.canonical n q h) (f.canonical m r k) s in
    (e, f.distinct n m q h (k ∙ ap Some (sym e)))

-- no equation of a process is trivial
pub lean_state : (b : Plain) (p : Name) → Fits b.nodes → IsLean (state_of b p)
lean_state b p f u h =
    let v = (equations-view b p (u, u)).0 h in
    let e = sym (f.canonical v.0 v.1 v.3) ∙ canonical_from_same v.1.first v.1.second u u v.4 ∙ ⊎_elim (λ e. e) (λ e. e) (lesser_cases (numbered u u) (numbered u u)) in
    f.nontrivial v.0 v.1 v.3 (ap (λ (q : Pair). q.first) e ∙ sym (ap (λ (q : Pair). q.second) e))

-- ---- rules of one pair

pub between_sides : (q : Pair) (d : ℕ) → IsSameEquation (sides q) (from_side q d, to_side q d)
between_sides q zero = same_equation_itself (sides q)
between_sides q (suc d) = same_turned q.first q.second

-- rules that are variants come from the same equation
pub same_from_rules : (q r : Pair) (c d : ℕ) → IsVariantRule (rule_of q c) (rule_of r d) → IsSameEquation (sides q) (sides r)
same_from_rules q r c d h =
    let k : IsVariantRule (rule_between (from_side q c) (to_side q c)) (rule_between (from_side r d) (to_side r d)) =
    rule_trans (rule_between (from_side q c) (to_side q c)) (rule_of q c) (rule_between (from_side r d) (to_side r d)) (rule_sym (rule_of q c) (rule_between (from_side q c) (to_side q c)) (rule_of-between q c)) (rule_trans (rule_of q c) (rule_of r d) (rule_between (from_side r d) (to_side r d)) h (rule_of-between r d)) in
    same_trans (sides q) (from_side q c, to_side q c) (sides r) (between_sides q c) (same_trans (from_side q c, to_side q c) (from_side r d, to_side r d) (sides r) (inl k) (same_sym (sides r) (from_side r d, to_side r d) (between_sides r d)))

-- labels of the same kind have the same rules
abbrev pub RuleByKind : (ℕ → LabelKind) → Type 0
RuleByKind kind = (c d : ℕ) (q : Pair) → kind c ≡ kind d → rule_of q c ≡ rule_of q d

pub rule_by_kind : RuleByKind rule_kind
rule_by_kind zero zero q e = refl
rule_by_kind zero (suc d) q e = absurd (omega (arith, ap kind_number e))
rule_by_kind (suc c) zero q e = absurd (omega (arith, ap kind_number e))
rule_by_kind (suc c) (suc d) q e = refl

pub constraint_by_kind : RuleByKind constraint_kind
constraint_by_kind zero zero q e = refl
constraint_by_kind zero (suc d) q e = absurd (omega (arith, ap kind_number e))
constraint_by_kind (suc c) zero q e = absurd (omega (arith, ap kind_number e))
constraint_by_kind (suc c) (suc d) q e = refl

-- ---- changes

module _ (xs ys : List PlainNode) (p p' : Name) (fits : Fits ys) (keeps : KeepsPairs xs ys) where
  -- one equation is lost, and one is gained, or neither
  pub eq_change : (n : ℕ) (q : Pair) (Lost : Type 0) → pair_in xs n ≡ Some q → (k : ℕ) (z : Pair) (Gained : Type 0) → pair_in ys k ≡ Some z
      → ((m : ℕ) → IsOn ys p' m E ↔ ((IsOn xs p m E × ¬ ((m ≡ n) × Lost)) ⊎ ((m ≡ k) × Gained)))
      → (e : Tree × Tree) → EqView ys p' e ↔ ((EqView xs p e × ¬ (IsSameEquation (sides q) e × Lost)) ⊎ (IsSameEquation (sides z) e × Gained))
  eq_change n q Lost hq k z Gained hz roles e = (to, from)
    where
      to : EqView ys p' e → (EqView xs p e × ¬ (IsSameEquation (sides q) e × Lost)) ⊎ (IsSameEquation (sides z) e × Gained)
      to (m, r, o, h, s) = go ((roles m).0 o)
        where
          go : (IsOn xs p m E × ¬ ((m ≡ n) × Lost)) ⊎ ((m ≡ k) × Gained) → (EqView xs p e × ¬ (IsSameEquation (sides q) e × Lost)) ⊎ (IsSameEquation (sides z) e × Gained)
          go (inl (o', away)) = inl ((m, r, o', pair_back xs ys p m E r keeps o' h, s), λ l. away ((same_node ys fits m n r q h (keeps n q hq) (same_trans (sides r) e (sides q) s (same_sym (sides q) e l.0))).1, l.1))
          go (inr (i, g)) = inr (subst {A = Pair} (λ w. IsSameEquation (sides w) e) (some_is (sym h ∙ ap (pair_in ys) i ∙ hz)) s, g)

      from : (EqView xs p e × ¬ (IsSameEquation (sides q) e × Lost)) ⊎ (IsSameEquation (sides z) e × Gained) → EqView ys p' e
      from (inl ((m, r, o, h, s), stays)) = (m, r, (roles m).1 (inl (o, λ l. stays (subst {A = Pair} (λ w. IsSameEquation (sides w) e) (some_is (sym h ∙ ap (pair_in xs) l.0 ∙ hq)) s, l.1))), keeps m r h, s)
      from (inr (s, g)) = (k, z, (roles k).1 (inr (refl, g)), hz, s)

  -- one rule is lost, and one is gained, or neither
  pub rule_change : (kind : ℕ → LabelKind) → RuleByKind kind → (n dl : ℕ) (q : Pair) (Lost : Type 0) → pair_in xs n ≡ Some q → ((d : ℕ) → Lost → IsOn xs p n (kind d) → kind d ≡ kind dl)
      → (k dg : ℕ) (z : Pair) (Gained : Type 0) → pair_in ys k ≡ Some z
      → ((m d : ℕ) → IsOn ys p' m (kind d) ↔ ((IsOn xs p m (kind d) × ¬ ((m ≡ n) × (kind d ≡ kind dl) × Lost)) ⊎ ((m ≡ k) × (kind d ≡ kind dg) × Gained)))
      → (r : Rule) → RuleView kind ys p' r ↔ ((RuleView kind xs p r × ¬ (IsVariantRule (rule_of q dl) r × Lost)) ⊎ (IsVariantRule (rule_of z dg) r × Gained))
  rule_change kind by_kind n dl q Lost hq alone k dg z Gained hz roles r = (to, from)
    where
      to : RuleView kind ys p' r → (RuleView kind xs p r × ¬ (IsVariantRule (rule_of q dl) r × Lost)) ⊎ (IsVariantRule (rule_of z dg) r × Gained)
      to (m, d, w, o, h, s) = go ((roles m d).0 o)
        where
          go : (IsOn xs p m (kind d) × ¬ ((m ≡ n) × (kind d ≡ kind dl) × Lost)) ⊎ ((m ≡ k) × (kind d ≡ kind dg) × Gained) → (RuleView kind xs p r × ¬ (IsVariantRule (rule_of q dl) r × Lost)) ⊎ (IsVariantRule (rule_of z dg) r × Gained)
          go (inl (o', away)) = inl (
            (m, d, w, o', pair_back xs ys p m (kind d) w keeps o' h, s),
            λ l.
                let e : m ≡ n = (same_node ys fits m n w q h (keeps n q hq) (same_from_rules w q d dl (rule_trans (rule_of w d) r (rule_of q dl) s (rule_sym (rule_of q dl) r l.0)))).1 in
                away (e, alone d l.1 (subst {A = ℕ} (λ i. IsOn xs p i (kind d)) e o'), l.1),
          )
          go (inr (i, f, g)) = inr (subst {A = Rule} (λ v. IsVariantRule v r) (by_kind d dg w f ∙ ap (λ v. rule_of v dg) (some_is (sym h ∙ ap (pair_in ys) i ∙ hz))) s, g)

      from : (RuleView kind xs p r × ¬ (IsVariantRule (rule_of q dl) r × Lost)) ⊎ (IsVariantRule (rule_of z dg) r × Gained) → RuleView kind ys p' r
      from (inl ((m, d, w, o, h, s), stays)) = (m, d, w, (roles m d).1 (inl (o, λ l. stays (subst {A = Rule} (λ v. IsVariantRule v r) (by_kind d dl w l.1 ∙ ap (λ v. rule_of v dl) (some_is (sym h ∙ ap (pair_in xs) l.0 ∙ hq))) s, l.2))), keeps m w h, s)
      from (inr (s, g)) = (k, dg, z, (roles k dg).1 (inr (refl, refl, g)), hz, s)
