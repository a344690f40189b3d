-- What a linear interpretation orders halts, with the value as the bound.
use Rattle.std.proofs.Common.{ℕ, zero, suc, ◌+◌, ◌*◌, ◌≡◌, ◌≤◌, ◌<◌, refl, ap, ap₂, ◌∙◌, zero-lt-suc, arith, List, [], ◌∷◌, All, length, slice_index_or}
use Rattle.kb_lemmas.proofs.Membership.{all_rest}
use Rattle.kb_term.specs.Tree.{Tree, variable, apply, Trees, no_trees, more_trees, list_of}
use Rattle.kb_term.proofs.Relation.{Steps, Halts}
use Rattle.kb_term.specs.Substitution.{instance, instances}
use Rattle.kb_term.specs.Rule.{Rule}
use Rattle.kb_term.proofs.Steps.{RootStep, Step, StepIn, at_root, inside, here, there}
use Rattle.kb_term.specs.Signature.{Signature, HasArity, IsWellFormed, AreWellFormed}
use Rattle.kb_linear.specs.LinearOrder.{Interpretation, linear_value, weighted_sum, LinearGreater, IsInterpretationOf}

scaled : (c x y z : ℕ) → 1 ≤ c → x < y → c * x + z < c * y + z
scaled c x y z p h = grind arith

abbrev pub row_of : Interpretation → ℕ → ℕ × List ℕ
row_of i f = slice_index_or i f (0, [])

mutual
  pub value-instance : (i : Interpretation) (a : ℕ → ℕ) (m : ℕ → Tree) (t : Tree) → linear_value i a (instance m t) ≡ linear_value i (λ x. linear_value i a (m x)) t
  value-instance i a m (variable n) = refl
  value-instance i a m (apply f ts) = ap (λ x. (row_of i f).0 + x) (sum-instances i a m ts (row_of i f).1)

  sum-instances : (i : Interpretation) (a : ℕ → ℕ) (m : ℕ → Tree) (ts : Trees) (cs : List ℕ) → weighted_sum i a (instances m ts) cs ≡ weighted_sum i (λ x. linear_value i a (m x)) ts cs
  sum-instances i a m no_trees cs = refl
  sum-instances i a m (more_trees t ts) [] = refl
  sum-instances i a m (more_trees t ts) (c ∷ cs) = ap₂ (λ x y. c * x + y) (value-instance i a m t) (sum-instances i a m ts cs)

-- the row of a symbol of the signature has one positive coefficient for each argument
abbrev pub Fits : ℕ → ℕ × List ℕ → Type 0
Fits n row = (length row.1 ≡ n) × All (λ c. 1 ≤ c) row.1

pub row_fits : (g : Signature) (i : Interpretation) → IsInterpretationOf g i → (f n : ℕ) → HasArity g f n → Fits n (row_of i f)
row_fits [] i h f n e = absurd (cc)
row_fits (s ∷ ss) [] h f n e = absurd h
row_fits (s ∷ ss) (row ∷ rows) h zero n e = let q : s.arity ≡ n = cc in (h.0.0 ∙ q, h.0.1)
row_fits (s ∷ ss) (row ∷ rows) h (suc f) n e = row_fits ss rows h.1 f n e

root_falls : (i : Interpretation) (rules : Rule → Type 0) → ((r : Rule) → rules r → LinearGreater i r.left r.right) → (a : ℕ → ℕ) (s t : Tree) → RootStep rules s t → linear_value i a t < linear_value i a s
root_falls i rules all a s t (r, m, in_rules, e, d) =
    let h : LinearGreater i r.left r.right = all r in_rules in
    let l : linear_value i a s ≡ linear_value i (λ x. linear_value i a (m x)) r.left = ap (linear_value i a) e ∙ value-instance i a m r.left in
    let w : linear_value i a t ≡ linear_value i (λ x. linear_value i a (m x)) r.right = ap (linear_value i a) d ∙ value-instance i a m r.right in
    omega (arith, h (λ x. linear_value i a (m x)))

mutual
  step_falls : (g : Signature) (i : Interpretation) (rules : Rule → Type 0) (a : ℕ → ℕ) → IsInterpretationOf g i → ((r : Rule) → rules r → LinearGreater i r.left r.right) → {s t : Tree} → Step rules s t → IsWellFormed g s → linear_value i a t < linear_value i a s
  step_falls g i rules a fit all (at_root {s = s} {t = t} r) w = root_falls i rules all a s t r
  step_falls g i rules a fit all (inside {f = f} {ts = ts} h) w =
      let r = row_fits g i fit f (length (list_of ts)) w.0 in
      let q = step_in_falls g i rules a fit all (row_of i f).1 r.1 h w.1 r.0 in omega arith

  step_in_falls : (g : Signature) (i : Interpretation) (rules : Rule → Type 0) (a : ℕ → ℕ) → IsInterpretationOf g i → ((r : Rule) → rules r → LinearGreater i r.left r.right) → (cs : List ℕ) → All (λ c. 1 ≤ c) cs → {ts us : Trees} → StepIn rules ts us → AreWellFormed g ts → length cs ≡ length (list_of ts) → weighted_sum i a us cs < weighted_sum i a ts cs
  step_in_falls g i rules a fit all [] p (here h) w e = absurd (omega arith)
  step_in_falls g i rules a fit all (c ∷ cs) p (here {t = t} {u = u} {ts = ts} h) w e = scaled c (linear_value i a u) (linear_value i a t) (weighted_sum i a ts cs) (p 0 0 (zero-lt-suc _)) (step_falls g i rules a fit all h w.0)
  step_in_falls g i rules a fit all [] p (there h) w e = absurd (omega arith)
  step_in_falls g i rules a fit all (c ∷ cs) p (there h) w e = let q = step_in_falls g i rules a fit all cs (all_rest (λ x. 1 ≤ x) c cs p) h w.1 (omega arith) in omega arith

steps_bounded : (g : Signature) (i : Interpretation) (rules : Rule → Type 0) (a : ℕ → ℕ) → IsInterpretationOf g i → ((r : Rule) → rules r → LinearGreater i r.left r.right)
    → ((s t : Tree) → IsWellFormed g s → Step rules s t → IsWellFormed g t) → (k : ℕ) (s t : Tree) → IsWellFormed g s → Steps (Step rules) k s t → linear_value i a t + k ≤ linear_value i a s
steps_bounded g i rules a fit all kept zero s t w e = let q : linear_value i a s ≡ linear_value i a t = ap (linear_value i a) e in omega arith
steps_bounded g i rules a fit all kept (suc k) s t w (u, h, c) =
    let q = steps_bounded g i rules a fit all kept k u t (kept s u w h) c in
    let v = step_falls g i rules a fit all h w in omega arith

-- rules that an interpretation orders halt on every well-formed term, within its value under all variables 0
pub linear_halts : (g : Signature) (i : Interpretation) (rules : Rule → Type 0) → IsInterpretationOf g i → ((r : Rule) → rules r → LinearGreater i r.left r.right)
    → ((s t : Tree) → IsWellFormed g s → Step rules s t → IsWellFormed g t) → (t : Tree) → IsWellFormed g t → Halts (Step rules) t
linear_halts g i rules fit all kept t w = (linear_value i (λ x. 0) t, λ k u c. let q = steps_bounded g i rules (λ x. 0) fit all kept k t u w c in omega arith)

-- each chain with at least one step is ordered
pub chain_linear : (g : Signature) (i : Interpretation) (rules : Rule → Type 0) → IsInterpretationOf g i → ((r : Rule) → rules r → LinearGreater i r.left r.right)
    → ((s t : Tree) → IsWellFormed g s → Step rules s t → IsWellFormed g t) → (n : ℕ) (s t : Tree) → IsWellFormed g s → Steps (Step rules) (suc n) s t → LinearGreater i s t
chain_linear g i rules fit all kept n s t w c = λ a. let q = steps_bounded g i rules a fit all kept (suc n) s t w c in omega arith
