-- The state of the first process on the opening board is reached from the problem: the trivial equations are deleted.
use Rattle.std.proofs.Common.{ℕ, ◌+◌, ◌≡◌, ◌≢◌, ◌⊎◌, ◌↔◌, inl, inr, refl, sym, ap, ap₂, ◌∙◌, subst, true, List, [], ◌∷◌, ◌++◌, Option, Some, None, ⊎_elim, Contains}
use Rattle.std.proofs.lemmas.List.Elements.{Contains-append_cases, Contains-append_left, Contains-append_right}
use Rattle.kb_laws.proofs.CompletionLaws.{same_equation_itself}
use Rattle.kb_lemmas.proofs.Membership.{contains_cases, contains_behind, contains_first, none_in}
use Rattle.kb_lemmas.proofs.Options.{some_is, none_some}
use Rattle.kb_term.specs.Tree.{Tree}
use Rattle.kb_term.specs.Pair.{Pair, canonical, canonical_pair, IsSameEquation}
use Rattle.kb_term.specs.Signature.{Signature, Problem}
use Rattle.kb_term.specs.Rule.{IsVariantRule}
use Rattle.kb_laws.specs.Completion.{KbState, KbReaches, Keeps, kb_start}
use Rattle.mkb_model.specs.Ready.{IsOn, KeepsPairs, AllFine}
use Rattle.mkb_model.proofs.commits.MemberSteps.{delete}
use Rattle.kb_term.specs.declared.origin.Origin.TheVariants.{Input}
use Rattle.kb_term.proofs.Instances.{trees_decide}
use Rattle.kb_term.proofs.CanonicalPairs.{canonical_from_same, same_from_canonical}
use Rattle.kb_label.specs.Names.{Name, root, has}
use Rattle.mkb_model.specs.Plain.{Plain, PlainNode, rule_kind, constraint_kind, state_of, pair_in, sides}
use Rattle.mkb_model.specs.Effects.{with_node, node_of}
use Rattle.mkb_model.specs.Journals.{Moment, IsRunBy, opening, with_input, with_inputs}
use Rattle.mkb_model.specs.Headline.{EachCompletes}
use Rattle.kb_node.specs.declared.node.LabelKind.{LabelKind}
use Rattle.kb_node.specs.declared.node.LabelKind.TheVariants.{R0, R1, E}
use Rattle.kb_node.specs.declared.job.Job.{Job}
use Rattle.mkb_model.proofs.Lists.{clash}
use Rattle.mkb_model.proofs.commits.Roles.{keeps-with_node, equation-no_rule, equation-no_constraint}
use Rattle.mkb_model.proofs.nodes.Pairs.{pairs_trans, same_kept, pairs-with_node, pairs-gains_equation, node-with_node}
use Rattle.mkb_model.proofs.commits.Views.{same_sym, same_trans, EqView, equations-view, rules-view, constraints-view, pair_back}
use Rattle.mkb_model.proofs.commits.Steps.{HasEq, IsLean, has_same}
use Rattle.mkb_model.proofs.commits.RoleChanges.{lean_state}
use Rattle.mkb_model.proofs.commits.RewritingRuns.{trivial_none, some_canonical}
use Rattle.mkb_model.proofs.commits.RewritingCases.{eq_gain, others_gain}
use Rattle.mkb_model.proofs.nodes.DistinctPairs.{fits_run, canonical_same}
use Rattle.mkb_model.proofs.runs.Ancestors.{first_board, simulating_completes}
use Rattle.mkb_model.proofs.runs.Simulation.{run_simulates}
use Rattle.mkb_model.specs.declared.settings.Settings.{Settings}

-- ---- the equations of the opening board

-- the first process has nodes as equations alone
abbrev IsEquational : List PlainNode → Type 0
IsEquational xs = (m : ℕ) (j : LabelKind) → j ≢ E → ¬ IsOn xs root m j

-- the equation comes from one of the list that is not trivial
abbrev FromInputs : List (Tree × Tree) → Tree × Tree → Type 0
FromInputs es y = (e : Tree × Tree) × Contains es e × ((z : Pair) × (canonical_pair e.0 e.1 ≡ Some z) × IsSameEquation (sides z) y)

module _ (z : Pair) (i : ℕ) (xs : List PlainNode) (only : IsEquational xs) where
  abbrev ws : List PlainNode
  ws = with_node z (Input i) xs

  abbrev k : ℕ
  k = node_of (with_node z (Input i) xs) z

  input_keeps : KeepsPairs xs (with_input (Some z) i xs)
  input_keeps = pairs_trans xs ws (with_input (Some z) i xs) (pairs-with_node z (Input i) xs) (same_kept ws (with_input (Some z) i xs) (pairs-gains_equation k (root ∷ []) ws))

  input_there : pair_in (with_input (Some z) i xs) k ≡ Some z
  input_there = pairs-gains_equation k (root ∷ []) ws k ∙ (node-with_node z (Input i) xs).0

  input_roles : (m : ℕ) → IsOn (with_input (Some z) i xs) root m E ↔ (IsOn xs root m E ⊎ ((m ≡ k) × ((¬ IsOn xs root k R0) × (¬ IsOn xs root k R1))))
  input_roles m = eq_gain xs ws (with_input (Some z) i xs) root k (root ∷ []) (keeps-with_node z (Input i) xs root) (node-with_node z (Input i) xs).1 refl (λ m j. ((λ o. o), λ o. o)) m

  input_only : IsEquational (with_input (Some z) i xs)
  input_only m j h o = only m j h ((others_gain xs ws (with_input (Some z) i xs) root k (root ∷ []) (keeps-with_node z (Input i) xs root) (λ m j. ((λ o. o), λ o. o)) m j h).0 o)

  input_view : (y : Tree × Tree) → EqView (with_input (Some z) i xs) root y ↔ (EqView xs root y ⊎ IsSameEquation (sides z) y)
  input_view y = (
    (λ v. ⊎_elim (λ o. inl (v.0, v.1, o, pair_back xs (with_input (Some z) i xs) root v.0 E v.1 input_keeps o v.3, v.4)) (λ o. inr (subst {A = Pair} (λ w. IsSameEquation (sides w) y) (some_is (sym v.3 ∙ ap (pair_in (with_input (Some z) i xs)) o.0 ∙ input_there)) v.4)) ((input_roles v.0).0 v.2)),
    λ h. ⊎_elim (λ v. (v.0, v.1, (input_roles v.0).1 (inl v.2), input_keeps v.0 v.1 v.3, v.4)) (λ s. (k, z, (input_roles k).1 (inr (refl, (only k R0 (λ e. equation-no_rule 0 (sym e)), only k R1 (λ e. equation-no_rule 1 (sym e))))), input_there, s)) h,
  )

inputs_view : (i : ℕ) (es : List (Tree × Tree)) (xs : List PlainNode) → IsEquational xs → IsEquational (with_inputs i es xs) × ((y : Tree × Tree) → EqView (with_inputs i es xs) root y ↔ (EqView xs root y ⊎ FromInputs es y))
inputs_view i [] xs only = (only, λ y. ((λ v. inl v), λ h. ⊎_elim (λ v. v) (λ f. none_in f.1) h))
inputs_view i (e ∷ es) xs only = go (canonical_pair e.0 e.1) refl (λ ys o. inputs_view (i + 1) es ys o)
  where
    go : (o : Option Pair) → canonical_pair e.0 e.1 ≡ o → ((ys : List PlainNode) → IsEquational ys → IsEquational (with_inputs (i + 1) es ys) × ((y : Tree × Tree) → EqView (with_inputs (i + 1) es ys) root y ↔ (EqView ys root y ⊎ FromInputs es y)))
        → IsEquational (with_inputs (i + 1) es (with_input o i xs)) × ((y : Tree × Tree) → EqView (with_inputs (i + 1) es (with_input o i xs)) root y ↔ (EqView xs root y ⊎ FromInputs (e ∷ es) y))
    go None h ih = let r = ih xs only in (
      r.0,
      λ y. (
        (λ v. ⊎_elim (λ a. inl a) (λ f. inr (f.0, contains_behind e es f.0 f.1, f.2)) ((r.1 y).0 v)),
        λ u. (r.1 y).1 (⊎_elim (λ a. inl a) (λ f. ⊎_elim (λ q. none_some (sym h ∙ ap (λ (d : Tree × Tree). canonical_pair d.0 d.1) q ∙ f.2.1)) (λ j. inr (f.0, j, f.2)) (contains_cases e es f.0 f.1)) u),
      ),
    )
    go (Some z) h ih = let r = ih (with_input (Some z) i xs) (input_only z i xs only) in (
      r.0,
      λ y. (
        (λ v. ⊎_elim (λ a. ⊎_elim (λ b. inl b) (λ s. inr (e, contains_first e es, (z, h, s))) ((input_view z i xs only y).0 a)) (λ f. inr (f.0, contains_behind e es f.0 f.1, f.2)) ((r.1 y).0 v)),
        λ u. (r.1 y).1 (⊎_elim (λ a. inl ((input_view z i xs only y).1 (inl a)))
            (λ f. ⊎_elim (λ q. inl ((input_view z i xs only y).1 (inr (subst {A = Pair} (λ w. IsSameEquation (sides w) y) (some_is (sym f.2.1 ∙ ap (λ (d : Tree × Tree). canonical_pair d.0 d.1) (sym q) ∙ h)) f.2.2)))) (λ j. inr (f.0, j, f.2)) (contains_cases e es f.0 f.1)) u),
      ),
    )

-- ---- trivial equations are deleted

same_decides : (d e : Tree × Tree) → IsSameEquation d e ⊎ (IsSameEquation d e → ⊥)
same_decides d e = both (trees_decide (canonical d.0 d.1).first (canonical e.0 e.1).first) (trees_decide (canonical d.0 d.1).second (canonical e.0 e.1).second)
  where
    both : ((canonical d.0 d.1).first ≡ (canonical e.0 e.1).first) ⊎ ((canonical d.0 d.1).first ≡ (canonical e.0 e.1).first → ⊥) → ((canonical d.0 d.1).second ≡ (canonical e.0 e.1).second) ⊎ ((canonical d.0 d.1).second ≡ (canonical e.0 e.1).second → ⊥) → IsSameEquation d e ⊎ (IsSameEquation d e → ⊥)
    both (inl p) (inl q) = inl (same_from_canonical d.0 d.1 e.0 e.1 (ap₂ (λ (a b : Tree). record { first = a; second = b }) p q))
    both (inl p) (inr n) = inr (λ h. n (ap (λ (x : Pair). x.second) (canonical_from_same d.0 d.1 e.0 e.1 h)))
    both (inr n) q = inr (λ h. n (ap (λ (x : Pair). x.first) (canonical_from_same d.0 d.1 e.0 e.1 h)))

has_cases : (d : Tree × Tree) (ds : List (Tree × Tree)) (y : Tree × Tree) → HasEq (d ∷ ds) y → IsSameEquation d y ⊎ HasEq ds y
has_cases d ds y (x, c, s) = ⊎_elim (λ e. inl (subst {A = Tree × Tree} (λ z. IsSameEquation z y) (sym e) s)) (λ k. inr (x, k, s)) (contains_cases d ds x c)

has_decides : (ds : List (Tree × Tree)) (y : Tree × Tree) → HasEq ds y ⊎ (HasEq ds y → ⊥)
has_decides [] y = inr (λ h. none_in h.1)
has_decides (d ∷ ds) y = ⊎_elim (λ s. inl (d, contains_first d ds, s)) (λ n. ⊎_elim (λ h. inl (h.0, contains_behind d ds h.0 h.1, h.2)) (λ m. inr (λ h. ⊎_elim n m (has_cases d ds y h))) (has_decides ds y)) (same_decides d y)

has_append : (ds es : List (Tree × Tree)) (y : Tree × Tree) → HasEq (ds ++ es) y ↔ (HasEq ds y ⊎ HasEq es y)
has_append ds es y = ((λ h. ⊎_elim (λ c. inl (h.0, c, h.2)) (λ c. inr (h.0, c, h.2)) (Contains-append_cases ds es h.0 h.1)), λ h. ⊎_elim (λ k. (k.0, Contains-append_left ds es k.0 k.1, k.2)) (λ k. (k.0, Contains-append_right ds es k.0 k.1, k.2)) h)

-- a state with trivial equations beside those of the other reaches the other
deleting : (g : Signature) (b : KbState) → IsLean b → (ts : List (Tree × Tree)) → ((t : Tree × Tree) → Contains ts t → t.0 ≡ t.1) → (a : KbState)
    → ((y : Tree × Tree) → HasEq a.equations y ↔ (HasEq b.equations y ⊎ HasEq ts y)) → Keeps IsVariantRule a.rules b.rules → Keeps IsVariantRule a.constraints b.constraints → KbReaches g a b
deleting g b lean [] trivial a eqs rules constraints = ([], a, refl, record { equations = λ y. ((λ h. ⊎_elim (λ k. k) (λ k. none_in k.1) ((eqs y).0 h)), λ h. (eqs y).1 (inl h)); rules = rules; constraints = constraints })
deleting g b lean (t ∷ ts) trivial a eqs rules constraints = go (has_decides ts t) (λ c h. deleting g b lean ts (λ x i. trivial x (contains_behind t ts x i)) c h)
  where
    c : KbState
    c = record a { equations = b.equations ++ ts }

    more : HasEq a.equations t
    more = (eqs t).1 (inr (t, contains_first t ts, same_equation_itself t))

    equal : t.0 ≡ t.1
    equal = trivial t (contains_first t ts)

    not_lean : (y : Tree × Tree) → HasEq b.equations y → IsSameEquation t y → ⊥
    not_lean y h s = lean t.0 (subst {A = Tree} (λ u. HasEq b.equations (t.0, u)) (sym equal) (has_same b.equations y t h (same_sym t y s)))

    go : HasEq ts t ⊎ (HasEq ts t → ⊥) → ((c : KbState) → ((y : Tree × Tree) → HasEq c.equations y ↔ (HasEq b.equations y ⊎ HasEq ts y)) → Keeps IsVariantRule c.rules b.rules → Keeps IsVariantRule c.constraints b.constraints → KbReaches g c b) → KbReaches g a b
    go (inl h) ih = ih a (λ y. (
      (λ k. ⊎_elim (λ q. inl q) (λ q. inr (⊎_elim (λ s. has_same ts t y h s) (λ r. r) (has_cases t ts y q))) ((eqs y).0 k)),
      λ k. (eqs y).1 (⊎_elim (λ q. inl q) (λ q. inr (q.0, contains_behind t ts q.0 q.1, q.2)) k),
    )) rules constraints
    go (inr n) ih =
        let r = ih (record a { equations = b.equations ++ ts }) (λ y. has_append b.equations ts y) rules constraints in (
          record a { equations = b.equations ++ ts } ∷ r.0,
          r.1,
          (
            delete t.0 (
              subst {A = Tree} (λ u. HasEq a.equations (t.0, u)) (sym equal) more,
              λ y. (
                (λ k. (has_append b.equations ts y).1 (⊎_elim (λ q. inl q) (λ q. ⊎_elim (λ s. absurd (k.1 (subst {A = Tree} (λ u. IsSameEquation (t.0, u) y) (sym equal) s))) (λ q. inr q) (has_cases t ts y q)) ((eqs y).0 k.0))),
                λ k. ⊎_elim (λ q. ((eqs y).1 (inl q), λ s. not_lean y q (subst {A = Tree} (λ u. IsSameEquation (t.0, u) y) equal s)))
                    (λ q. ((eqs y).1 (inr (q.0, contains_behind t ts q.0 q.1, q.2)), λ s. n (has_same ts y t q (same_sym t y (subst {A = Tree} (λ u. IsSameEquation (t.0, u) y) equal s)))))
                    ((has_append b.equations ts y).0 k),
              ),
            )
                (λ y. ((λ h. h), λ h. h)) (λ y. ((λ h. h), λ h. h)),
            r.2,
          ),
          r.3,
        )

-- the trivial equations of a list
trivial_of : (es : List (Tree × Tree)) → (ts : List (Tree × Tree)) × ((t : Tree × Tree) → Contains ts t → t.0 ≡ t.1) × ((t : Tree × Tree) → Contains ts t → Contains es t) × ((e : Tree × Tree) → Contains es e → e.0 ≡ e.1 → Contains ts e)
trivial_of [] = ([], (λ t c. none_in c), (λ t c. c), λ e c h. c)
trivial_of (e ∷ es) = go (trees_decide e.0 e.1) (trivial_of es)
  where
    go : (e.0 ≡ e.1) ⊎ (e.0 ≡ e.1 → ⊥) → ((ts : List (Tree × Tree)) × ((t : Tree × Tree) → Contains ts t → t.0 ≡ t.1) × ((t : Tree × Tree) → Contains ts t → Contains es t) × ((e : Tree × Tree) → Contains es e → e.0 ≡ e.1 → Contains ts e))
        → (ts : List (Tree × Tree)) × ((t : Tree × Tree) → Contains ts t → t.0 ≡ t.1) × ((t : Tree × Tree) → Contains ts t → Contains (e ∷ es) t) × ((d : Tree × Tree) → Contains (e ∷ es) d → d.0 ≡ d.1 → Contains ts d)
    go (inl q) (ts, trivial, old, all) = (
      e ∷ ts,
      (λ t c. ⊎_elim (λ i. subst {A = Tree × Tree} (λ d. d.0 ≡ d.1) i q) (λ i. trivial t i) (contains_cases e ts t c)),
      (λ t c. ⊎_elim (λ i. subst {A = Tree × Tree} (Contains (e ∷ es)) i (contains_first e es)) (λ i. contains_behind e es t (old t i)) (contains_cases e ts t c)),
      λ d c h. ⊎_elim (λ i. subst {A = Tree × Tree} (Contains (e ∷ ts)) i (contains_first e ts)) (λ i. contains_behind e ts d (all d i h)) (contains_cases e es d c),
    )
    go (inr n) (ts, trivial, old, all) = (ts, trivial, (λ t c. contains_behind e es t (old t c)), λ d c h. ⊎_elim (λ i. absurd (n (subst {A = Tree × Tree} (λ x. x.0 ≡ x.1) (sym i) h))) (λ i. all d i h) (contains_cases e es d c))

-- the first process begins with the equations of the problem, the trivial ones deleted
pub opening_reached : (P : Problem) (n : Settings) → KbReaches P.signature (kb_start P) (state_of (opening P n) root)
opening_reached P n = deleting P.signature (state_of (opening P n) root) (lean_state (opening P n) root (fits_run (λ b j. ⊥) P n [] (opening P n) refl)) ts.0 ts.1 (kb_start P) eqs
    (λ r. ((λ h. none_in h.1), λ h. let v = (rules-view (opening P n) root r).0 h in absurd (view.0 v.0 (rule_kind v.1) (λ e. equation-no_rule v.1 (sym e)) v.3)))
    (λ r. ((λ h. none_in h.1), λ h. let v = (constraints-view (opening P n) root r).0 h in absurd (view.0 v.0 (constraint_kind v.1) (λ e. equation-no_constraint v.1 (sym e)) v.3)))
  where
    ts : (ts : List (Tree × Tree)) × ((t : Tree × Tree) → Contains ts t → t.0 ≡ t.1) × ((t : Tree × Tree) → Contains ts t → Contains P.equations t) × ((e : Tree × Tree) → Contains P.equations e → e.0 ≡ e.1 → Contains ts e)
    ts = trivial_of P.equations

    view : IsEquational (with_inputs 1 P.equations []) × ((y : Tree × Tree) → EqView (with_inputs 1 P.equations []) root y ↔ (EqView [] root y ⊎ FromInputs P.equations y))
    view = inputs_view 1 P.equations [] (λ m j h o. clash o refl)

    same_as : (e : Tree × Tree) (z : Pair) → canonical_pair e.0 e.1 ≡ Some z → IsSameEquation e (sides z)
    same_as e z h = subst {A = Pair} (λ w. IsSameEquation e (sides w)) (some_canonical e.0 e.1 z h) (canonical_same e.0 e.1)

    eqs : (y : Tree × Tree) → HasEq P.equations y ↔ (HasEq (state_of (opening P n) root).equations y ⊎ HasEq ts.0 y)
    eqs y = (
      (λ h. go h (canonical_pair h.0.0 h.0.1) refl),
      λ h. ⊎_elim (λ k. ⊎_elim (λ v. clash v.2 refl) (λ f. (f.0, f.1, same_trans f.0 (sides f.2.0) y (same_as f.0 f.2.0 f.2.1) f.2.2)) ((view.1 y).0 ((equations-view (opening P n) root y).0 k))) (λ k. (k.0, ts.2 k.0 k.1, k.2)) h,
    )
      where
        go : (h : HasEq P.equations y) (o : Option Pair) → canonical_pair h.0.0 h.0.1 ≡ o → HasEq (state_of (opening P n) root).equations y ⊎ HasEq ts.0 y
        go h None e = inr (h.0, ts.3 h.0 h.1 (trivial_none h.0.0 h.0.1 e), h.2)
        go h (Some z) e = inl ((equations-view (opening P n) root y).1 ((view.1 y).1 (inr (h.0, h.1, (z, e, same_trans (sides z) h.0 y (same_sym h.0 (sides z) (same_as h.0 z e)) h.2)))))

-- the run begins with the opening board
pub first_opening : (May : Plain → Job → Type 0) (P : Problem) (n : Settings) (ms : List Moment) (c : Plain) → IsRunBy May P n ms c → first_board ms c ≡ opening P n
first_opening May P n [] c run = run
first_opening May P n (m ∷ ms) c run = first_opening May P n ms m.board run.0

-- in a run in which what is committed is ready, the views of each living process are a completion run of that process alone
pub run_completes : (May : Plain → Job → Type 0) (P : Problem) (n : Settings) (ms : List Moment) (c : Plain) (run : IsRunBy May P n ms c) → AllFine May P n ms c run → EachCompletes P ms c
run_completes May P n ms c run fine =
    let s = run_simulates May P n ms c run fine in
    simulating_completes P ms c s.0 s.1 (λ q lives. subst {A = Plain} (λ b. has b.living q ≡ true → KbReaches P.signature (kb_start P) (state_of b q)) (sym (first_opening May P n ms c run)) (at_root q) lives)
  where
    at_root : (q : Name) → has (root ∷ []) q ≡ true → KbReaches P.signature (kb_start P) (state_of (opening P n) q)
    at_root [] h = opening_reached P n
    at_root (x ∷ q) h = clash h refl
