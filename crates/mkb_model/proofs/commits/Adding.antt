-- Adding the pairs of overlaps is a run of deductions of each process that gains them.
use Rattle.std.proofs.Common.{ℕ, zero, suc, ◌≡◌, ◌≢◌, ◌⊎◌, ◌↔◌, inl, inr, refl, sym, ap, ◌∙◌, subst, arith, List, [], ◌∷◌, Some, ⊎_elim, Contains, true, false}
use Rattle.kb_lemmas.proofs.Membership.{contains_behind, contains_first}
use Rattle.kb_term.specs.Tree.{Tree}
use Rattle.kb_term.specs.Pair.{Pair, IsSameEquation}
use Rattle.kb_term.specs.Signature.{Signature}
use Rattle.kb_term.specs.Rule.{Rule, rule_of, rule_between}
use Rattle.kb_term.specs.declared.origin.Origin.TheVariants.{Overlap as ByOverlap}
use Rattle.kb_label.specs.Names.{Name, has}
use Rattle.mkb_model.specs.Plain.{Plain, PlainNode, label_at, rule_kind, constraint_kind, state_of, pair_in, sides}
use Rattle.mkb_model.specs.Effects.{with_node, node_of, gains_equation, added, on_nodes}
use Rattle.kb_node.specs.declared.node.LabelKind.{LabelKind}
use Rattle.kb_node.specs.declared.node.LabelKind.TheVariants.{R0, R1, E, C0, C1, X}
use Rattle.kb_node.specs.declared.job.Deduced.{Deduced}
use Rattle.mkb_model.specs.Ready.{IsOn, KeepsPairs, IsRole, OneRole, IsDeducedFrom}
use Rattle.mkb_model.proofs.Lists.{clash, decide}
use Rattle.mkb_model.proofs.commits.Roles.{on-gains_equation, keeps-with_node, equation-no_rule, equation-no_constraint, kind_number, KeepsRoles, keeps_trans, keeps-gains_equation}
use Rattle.mkb_model.proofs.nodes.Pairs.{pairs_trans, same_kept, pairs-with_node, pairs-gains_equation, pairs-added, node-with_node}
use Rattle.mkb_model.proofs.commits.Views.{same_sym, same_trans, rule_sym, rule_trans, rule_of-between, EqView, RuleView, iff_over, pair_back, equations-view, rules-view, constraints-view, rule_listed}
use Rattle.mkb_model.proofs.commits.Steps.{Steps, no_steps, steps_more, HasEq, HasRule, IsSettled, deduced}
use Rattle.mkb_model.proofs.commits.RoleChanges.{Fits, fits_before, same_node, lean_state, eq_change}

-- ---- roles of equations and rules

pub rule_role : (d : ℕ) → IsRole (rule_kind d)
rule_role zero = tt
rule_role (suc d) = tt

-- ---- views of rules alone

pub view-rules_only : (kind : ℕ → LabelKind) (xs ys : List PlainNode) (p q : Name) → ((m d : ℕ) → IsOn ys q m (kind d) ↔ IsOn xs p m (kind d)) → KeepsPairs xs ys → (r : Rule) → RuleView kind xs p r ↔ RuleView kind ys q r
view-rules_only kind xs ys p q h k r = ((λ v. (v.0, v.1, v.2, (h v.0 v.1).1 v.3, k v.0 v.2 v.4, v.5)), λ v. let o = (h v.0 v.1).0 v.3 in (v.0, v.1, v.2, o, pair_back xs ys p v.0 (kind v.1) v.2 k o v.4, v.5))

-- the rule of a pair is one of an equation that is the same as the pair's, in one direction or the other
pub rule_either : (rs : List Rule) (z : Pair) (d : ℕ) → Contains rs (rule_of z d) → (e : Tree × Tree) → IsSameEquation e (sides z) → HasRule rs e.0 e.1 ⊎ HasRule rs e.1 e.0
rule_either rs z zero i e (inl v) = inl (rule_of z 0, i, rule_trans (rule_of z 0) (rule_between z.first z.second) (rule_between e.0 e.1) (rule_of-between z 0) (rule_sym (rule_between e.0 e.1) (rule_between z.first z.second) v))
rule_either rs z zero i e (inr v) = inr (rule_of z 0, i, rule_trans (rule_of z 0) (rule_between z.first z.second) (rule_between e.1 e.0) (rule_of-between z 0) (rule_sym (rule_between e.1 e.0) (rule_between z.first z.second) (v.0, v.1, v.3, v.2)))
rule_either rs z (suc d) i e (inl v) = inr (rule_of z (suc d), i, rule_trans (rule_of z (suc d)) (rule_between z.second z.first) (rule_between e.1 e.0) (rule_of-between z (suc d)) (rule_sym (rule_between e.1 e.0) (rule_between z.second z.first) (v.0, v.1, v.3, v.2)))
rule_either rs z (suc d) i e (inr v) = inl (rule_of z (suc d), i, rule_trans (rule_of z (suc d)) (rule_between z.second z.first) (rule_between e.0 e.1) (rule_of-between z (suc d)) (rule_sym (rule_between e.0 e.1) (rule_between z.second z.first) v))

-- an equation that a process gained at a node, or could not gain since the node is its rule, is settled
pub settled_at : (b : Plain) (p : Name) → Fits b.nodes → OneRole b.nodes p → (n : ℕ) (z : Pair) → pair_in b.nodes n ≡ Some z → (e : Tree × Tree) → IsSameEquation e (sides z)
    → (IsOn b.nodes p n E ⊎ (IsOn b.nodes p n R0 ⊎ IsOn b.nodes p n R1)) → IsSettled (state_of b p) e
settled_at b p fits one n z hz e s (inl o) = inl ((equations-view b p e).1 (n, z, o, hz, same_sym e (sides z) s))
settled_at b p fits one n z hz e s (inr o) = inr (inr ((λ h. no_equation o ((equations-view b p e).0 h)), either o))
  where
    no_equation : IsOn b.nodes p n R0 ⊎ IsOn b.nodes p n R1 → EqView b.nodes p e → ⊥
    no_equation o v =
        let i : v.0 ≡ n = (same_node b.nodes fits v.0 n v.1 z v.3 hz (same_trans (sides v.1) e (sides z) v.4 s)).1 in
        let u : IsOn b.nodes p n E = subst {A = ℕ} (λ m. IsOn b.nodes p m E) i v.2 in
        ⊎_elim (λ k. let w = one n E R0 tt tt u k in omega (arith, ap kind_number w)) (λ k. let w = one n E R1 tt tt u k in omega (arith, ap kind_number w)) o

    either : IsOn b.nodes p n R0 ⊎ IsOn b.nodes p n R1 → HasRule (state_of b p).rules e.0 e.1 ⊎ HasRule (state_of b p).rules e.1 e.0
    either (inl k) = rule_either (state_of b p).rules z 0 (rule_listed b p (record { node = n; dir = 0 }) z k hz) e s
    either (inr k) = rule_either (state_of b p).rules z 1 (rule_listed b p (record { node = n; dir = 1 }) z k hz) e s

-- ---- one pair more

abbrev pub with_pair : Deduced → List PlainNode → List PlainNode
with_pair d xs = with_node d.pair (ByOverlap d.outer d.inner d.position) xs

abbrev pub add_one : List Name → Deduced → List PlainNode → List PlainNode
add_one l d xs = gains_equation (node_of (with_pair d xs) d.pair) l (with_pair d xs)

module _ (l : List Name) (d : Deduced) (xs : List PlainNode) (p : Name) (named : has l p ≡ true) where
  -- the node of the pair
  abbrev pub place : ℕ
  place = node_of (with_pair d xs) d.pair

  -- the process has the node as no rule
  abbrev pub IsNoRule : Type 0
  IsNoRule = (¬ IsOn (with_pair d xs) p place R0) × (¬ IsOn (with_pair d xs) p place R1)

  pub add-pairs : KeepsPairs xs (add_one l d xs)
  add-pairs = pairs_trans xs (with_pair d xs) (add_one l d xs) (pairs-with_node d.pair (ByOverlap d.outer d.inner d.position) xs) (same_kept (with_pair d xs) (add_one l d xs) (pairs-gains_equation place l (with_pair d xs)))

  pub add-place : pair_in (add_one l d xs) place ≡ Some d.pair
  add-place = pairs-gains_equation place l (with_pair d xs) place ∙ (node-with_node d.pair (ByOverlap d.outer d.inner d.position) xs).0

  pub add-equations : (m : ℕ) → IsOn (add_one l d xs) p m E ↔ (IsOn xs p m E ⊎ ((m ≡ place) × IsNoRule))
  add-equations m = (
    (λ o. ⊎_elim (λ h. inl ((keeps-with_node d.pair (ByOverlap d.outer d.inner d.position) xs p m E).0 h)) (λ h. inr (h.0.0, (h.3, h.4))) ((on-gains_equation place l (with_pair d xs) p m E).0 o)),
    λ h. (on-gains_equation place l (with_pair d xs) p m E).1 (⊎_elim (λ k. inl ((keeps-with_node d.pair (ByOverlap d.outer d.inner d.position) xs p m E).1 k)) (λ k. inr ((k.0, refl), (node-with_node d.pair (ByOverlap d.outer d.inner d.position) xs).1, named, k.1.0, k.1.1)) h),
  )

  pub add-others : (m : ℕ) (j : LabelKind) → j ≢ E → IsOn (add_one l d xs) p m j ↔ IsOn xs p m j
  add-others m j n = (
    (λ o. ⊎_elim (λ h. (keeps-with_node d.pair (ByOverlap d.outer d.inner d.position) xs p m j).0 h) (λ h. absurd (n h.0.1)) ((on-gains_equation place l (with_pair d xs) p m j).0 o)),
    λ h. (on-gains_equation place l (with_pair d xs) p m j).1 (inl ((keeps-with_node d.pair (ByOverlap d.outer d.inner d.position) xs p m j).1 h)),
  )

  rule_is_other : (d : ℕ) → rule_kind d ≢ E
  rule_is_other d e = equation-no_rule d (sym e)

  pub add-one_role : OneRole xs p → OneRole (add_one l d xs) p
  add-one_role one n j k rj rk oj ok = go j k rj rk oj ok
    where
      before0 : IsOn (add_one l d xs) p n E → IsOn xs p n R0 → IsOn xs p n E
      before0 o r = ⊎_elim (λ h. h) (λ h. absurd (h.1.0 (subst {A = ℕ} (λ m. IsOn (with_pair d xs) p m R0) h.0 ((keeps-with_node d.pair (ByOverlap d.outer d.inner d.position) xs p n R0).1 r)))) ((add-equations n).0 o)

      before1 : IsOn (add_one l d xs) p n E → IsOn xs p n R1 → IsOn xs p n E
      before1 o r = ⊎_elim (λ h. h) (λ h. absurd (h.1.1 (subst {A = ℕ} (λ m. IsOn (with_pair d xs) p m R1) h.0 ((keeps-with_node d.pair (ByOverlap d.outer d.inner d.position) xs p n R1).1 r)))) ((add-equations n).0 o)

      old0 : IsOn (add_one l d xs) p n R0 → IsOn xs p n R0
      old0 o = (add-others n R0 (rule_is_other 0)).0 o

      old1 : IsOn (add_one l d xs) p n R1 → IsOn xs p n R1
      old1 o = (add-others n R1 (rule_is_other 1)).0 o

      go : (j k : LabelKind) → IsRole j → IsRole k → IsOn (add_one l d xs) p n j → IsOn (add_one l d xs) p n k → j ≡ k
      go E E rj rk oj ok = refl
      go R0 R0 rj rk oj ok = refl
      go R1 R1 rj rk oj ok = refl
      go E R0 rj rk oj ok = one n E R0 tt tt (before0 oj (old0 ok)) (old0 ok)
      go E R1 rj rk oj ok = one n E R1 tt tt (before1 oj (old1 ok)) (old1 ok)
      go R0 E rj rk oj ok = one n R0 E tt tt (old0 oj) (before0 ok (old0 oj))
      go R1 E rj rk oj ok = one n R1 E tt tt (old1 oj) (before1 ok (old1 oj))
      go R0 R1 rj rk oj ok = one n R0 R1 tt tt (old0 oj) (old1 ok)
      go R1 R0 rj rk oj ok = one n R1 R0 tt tt (old1 oj) (old0 ok)
      go C0 k rj rk oj ok = absurd rj
      go C1 k rj rk oj ok = absurd rj
      go X k rj rk oj ok = absurd rj
      go j C0 rj rk oj ok = absurd rk
      go j C1 rj rk oj ok = absurd rk
      go j X rj rk oj ok = absurd rk

  -- what follows from rules of the process still follows from them
  pub add-deduced : (g : Signature) (pair : Pair) → IsDeducedFrom g xs p pair → IsDeducedFrom g (add_one l d xs) p pair
  add-deduced g pair f = record {
    peak = f.peak;
    s = f.s;
    t = f.t;
    well = f.well;
    a = f.a;
    a_pair = f.a_pair;
    a_on = (add-others f.a.node (rule_kind f.a.dir) (rule_is_other f.a.dir)).1 f.a_on;
    a_there = add-pairs f.a.node f.a_pair f.a_there;
    a_at = f.a_at;
    a_step = f.a_step;
    c = f.c;
    c_pair = f.c_pair;
    c_on = (add-others f.c.node (rule_kind f.c.dir) (rule_is_other f.c.dir)).1 f.c_on;
    c_there = add-pairs f.c.node f.c_pair f.c_there;
    c_at = f.c_at;
    c_step = f.c_step;
    same = f.same;
  }

-- a process that gains one pair makes one deduction, and drops its equation where it is a rule already
pub adding_step : (g : Signature) (b : Plain) (p : Name) (l : List Name) (d : Deduced) → has l p ≡ true → OneRole b.nodes p → Fits (add_one l d b.nodes) → IsDeducedFrom g b.nodes p d.pair
    → Steps g (state_of b p) (state_of (on_nodes (add_one l d) b) p)
adding_step g b p l d named one fits f =
    deduced g (state_of b p) (state_of c p) (lean_state c p fits) f.peak f.s f.t f.well
    (rule_of f.a_pair f.a.dir, rule_listed b p f.a f.a_pair f.a_on f.a_there, f.a_at, f.a_step)
    (rule_of f.c_pair f.c.dir, rule_listed b p f.c f.c_pair f.c_on f.c_there, f.c_at, f.c_step)
    eqs
    (λ r. iff_over (rules-view b p r) (rules-view c p r) (view-rules_only rule_kind b.nodes c.nodes p p (λ m e. add-others l d b.nodes p named m (rule_kind e) (λ h. equation-no_rule e (sym h))) keeps r))
    (λ r. iff_over (constraints-view b p r) (constraints-view c p r) (view-rules_only constraint_kind b.nodes c.nodes p p (λ m e. add-others l d b.nodes p named m (constraint_kind e) (λ h. equation-no_constraint e (sym h))) keeps r))
    (settled_at c p fits (add-one_role l d b.nodes p named one) n d.pair (add-place l d b.nodes p named) (f.s, f.t) f.same (outcome (decide (has (label_at (with_pair d b.nodes) n R0) p)) (decide (has (label_at (with_pair d b.nodes) n R1) p))))
  where
    c : Plain
    c = on_nodes (add_one l d) b

    n : ℕ
    n = node_of (with_pair d b.nodes) d.pair

    keeps : KeepsPairs b.nodes (add_one l d b.nodes)
    keeps = add-pairs l d b.nodes p named

    gained : Type 0
    gained = (¬ IsOn (with_pair d b.nodes) p n R0) × (¬ IsOn (with_pair d b.nodes) p n R1)

    view : (y : Tree × Tree) → EqView (add_one l d b.nodes) p y ↔ ((EqView b.nodes p y × ¬ (IsSameEquation (sides f.a_pair) y × ⊥)) ⊎ (IsSameEquation (sides d.pair) y × gained))
    view = eq_change b.nodes (add_one l d b.nodes) p p fits keeps f.a.node f.a_pair ⊥ f.a_there n d.pair gained (add-place l d b.nodes p named)
        (λ m. ((λ o. ⊎_elim (λ h. inl (h, λ i. i.1)) (λ h. inr h) ((add-equations l d b.nodes p named m).0 o)), λ h. (add-equations l d b.nodes p named m).1 (⊎_elim (λ k. inl k.0) (λ k. inr k) h)))

    eqs : (y : Tree × Tree) → (HasEq (state_of b p).equations y ⊎ IsSameEquation (f.s, f.t) y) ↔ (HasEq (state_of c p).equations y ⊎ IsSameEquation (f.s, f.t) y)
    eqs y = (
      (λ h. ⊎_elim (λ k. inl ((equations-view c p y).1 ((view y).1 (inl ((equations-view b p y).0 k, λ i. i.1))))) (λ k. inr k) h),
      λ h. ⊎_elim (λ k. ⊎_elim (λ v. inl ((equations-view b p y).1 v.0)) (λ v. inr (same_trans (f.s, f.t) (sides d.pair) y f.same v.0)) ((view y).0 ((equations-view c p y).0 k))) (λ k. inr k) h,
    )

    to_new : (j : LabelKind) → j ≢ E → has (label_at (with_pair d b.nodes) n j) p ≡ true → IsOn (add_one l d b.nodes) p n j
    to_new j h o = (on-gains_equation n l (with_pair d b.nodes) p n j).1 (inl o)

    outcome : (has (label_at (with_pair d b.nodes) n R0) p ≡ true) ⊎ (has (label_at (with_pair d b.nodes) n R0) p ≡ false) → (has (label_at (with_pair d b.nodes) n R1) p ≡ true) ⊎ (has (label_at (with_pair d b.nodes) n R1) p ≡ false)
        → IsOn (add_one l d b.nodes) p n E ⊎ (IsOn (add_one l d b.nodes) p n R0 ⊎ IsOn (add_one l d b.nodes) p n R1)
    outcome (inl h) k = inr (inl (to_new R0 (λ e. equation-no_rule 0 (sym e)) h))
    outcome (inr h) (inl k) = inr (inr (to_new R1 (λ e. equation-no_rule 1 (sym e)) k))
    outcome (inr h) (inr k) = inl ((add-equations l d b.nodes p named n).1 (inr (refl, ((λ o. clash o h), λ o. clash o k))))

-- a process that gains pairs makes deductions
pub adding_steps : (g : Signature) (ds : List Deduced) (b : Plain) (p : Name) (l : List Name) → has l p ≡ true → OneRole b.nodes p → Fits (added l ds b.nodes) → ((d : Deduced) → Contains ds d → IsDeducedFrom g b.nodes p d.pair)
    → Steps g (state_of b p) (state_of (on_nodes (added l ds) b) p)
adding_steps g [] b p l named one fits f = no_steps g (state_of b p)
adding_steps g (d ∷ ds) b p l named one fits f =
    let c : Plain = on_nodes (add_one l d) b in
    steps_more g (state_of b p) (state_of c p) (state_of (on_nodes (added l ds) c) p)
    (adding_step g b p l d named one (fits_before (add_one l d b.nodes) (added l ds (add_one l d b.nodes)) (pairs-added l ds (add_one l d b.nodes)) fits) (f d (contains_first d ds)))
    (adding_steps g ds c p l named (add-one_role l d b.nodes p named one) fits (λ e i. add-deduced l d b.nodes p named g e.pair (f e (contains_behind d ds e i))))

-- who is not named keeps all its roles
pub keeps-added : (l : List Name) (ds : List Deduced) (xs : List PlainNode) (q : Name) → has l q ≡ false → KeepsRoles xs (added l ds xs) q
keeps-added l [] xs q h = λ m j. ((λ o. o), λ o. o)
keeps-added l (d ∷ ds) xs q h =
    keeps_trans xs (add_one l d xs) (added l ds (add_one l d xs)) q
    (keeps_trans xs (with_pair d xs) (add_one l d xs) q (keeps-with_node d.pair (ByOverlap d.outer d.inner d.position) xs q) (keeps-gains_equation (node_of (with_pair d xs) d.pair) l (with_pair d xs) q h))
    (keeps-added l ds (add_one l d xs) q h)
