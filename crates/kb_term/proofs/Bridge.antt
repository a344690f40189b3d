-- Steps by positions are steps by recursion on terms, and paths are chains.
use Rattle.std.proofs.Common.{ℕ, zero, suc, ◌≡◌, ◌≤◌, refl, sym, ap, ◌∙◌, subst, arith, List, [], ◌∷◌, Contains, Some, option_map, option_and_then, length}
use Rattle.std.proofs.lemmas.Option.{same_Some}
use Rattle.kb_lemmas.proofs.Options.{some_of_map, some_of_and_then}
use Rattle.kb_term.specs.Tree.{Tree, variable, apply, Trees, no_trees, more_trees}
use Rattle.kb_term.specs.Position.{argument, with_argument, subtree_at, replace_at}
use Rattle.kb_term.specs.Substitution.{instance}
use Rattle.kb_term.specs.Rule.{Rule}
use Rattle.kb_term.specs.Proving.{RewritesWith, RewritesAt, IsPath}
use Rattle.kb_term.specs.Proving as Proving
use Rattle.kb_term.proofs.Relation.{Steps, Reaches, IsJoinable, Halts}
use Rattle.kb_term.proofs.Steps.{Step, StepIn, at_root, inside, here, there}

-- some rule with the property rewrites s to t at some position
abbrev pub PositionStep : (Rule → Type 0) → Tree → Tree → Type 0
PositionStep rules s t = (r : Rule) × rules r × (p : List ℕ) × RewritesAt r p s t

step_in_from : (rules : Rule → Type 0) (ts : Trees) (i : ℕ) (x v : Tree) → argument ts i ≡ Some x → Step rules x v → StepIn rules ts (with_argument ts i v)
step_in_from rules no_trees zero x v e h = absurd (cc)
step_in_from rules (more_trees t ts) zero x v e h = absurd (cc)
step_in_from rules no_trees (suc i) x v e h = absurd (cc)
step_in_from rules (more_trees t ts) (suc zero) x v e h = let q : x ≡ t = cc in here (subst (λ y. Step rules y v) q h)
step_in_from rules (more_trees t ts) (suc (suc i)) x v e h = there (step_in_from rules ts (suc i) x v e h)

step_from : (rules : Rule → Type 0) (r : Rule) → rules r → (m : ℕ → Tree) (p : List ℕ) (s t : Tree) → subtree_at s p ≡ Some (instance m r.left) → replace_at s p (instance m r.right) ≡ Some t → Step rules s t
step_from rules r i m [] s t e d = at_root (r, m, i, cc, cc)
step_from rules r i m (k ∷ p) (variable n) t e d = absurd (cc)
step_from rules r i m (k ∷ p) (apply f ts) t e d =
    let a = some_of_and_then (λ y. subtree_at y p) (argument ts k) (instance m r.left) e in
    let b = some_of_and_then (λ y. option_map (λ v. apply f (with_argument ts k v)) (replace_at y p (instance m r.right))) (argument ts k) t d in
    let same : a.0 ≡ b.0 = same_Some a.0 b.0 (sym a.1 ∙ b.1) in
    let c = some_of_map (λ v. apply f (with_argument ts k v)) (replace_at b.0 p (instance m r.right)) t b.2 in
    let h = step_from rules r i m p b.0 c.0 (subst (λ y. subtree_at y p ≡ Some (instance m r.left)) same a.2) c.1 in
    subst (Step rules (apply f ts)) c.2 (inside (step_in_from rules ts k b.0 c.0 b.1 h))

pub step_from_position : (rules : Rule → Type 0) (s t : Tree) → PositionStep rules s t → Step rules s t
step_from_position rules s t (r, i, p, (m, h)) = step_from rules r i m p s t h.redex h.result

-- a step in an argument, by its number
abbrev ArgumentStep : (Rule → Type 0) → Trees → Trees → Type 0
ArgumentStep rules ts us = (i : ℕ) × (x : Tree) × (v : Tree) × argument ts (suc i) ≡ Some x × with_argument ts (suc i) v ≡ us × PositionStep rules x v

from_argument : (rules : Rule → Type 0) (f : ℕ) (ts us : Trees) → ArgumentStep rules ts us → PositionStep rules (apply f ts) (apply f us)
from_argument rules f ts us (i, x, v, e, d, (r, j, p, (m, h))) = (
  r,
  j,
  suc i ∷ p,
  (
    m,
    record {
      redex = ap (option_and_then (λ y. subtree_at y p)) e ∙ h.redex;
      result = ap (option_and_then (λ y. option_map (λ z. apply f (with_argument ts (suc i) z)) (replace_at y p (instance m r.right)))) e
          ∙ ap (option_map (λ z. apply f (with_argument ts (suc i) z))) h.result ∙ ap (λ z. Some (apply f z)) d;
    },
  ),
)

behind_argument : (rules : Rule → Type 0) (t : Tree) (ts us : Trees) → ArgumentStep rules ts us → ArgumentStep rules (more_trees t ts) (more_trees t us)
behind_argument rules t ts us (i, x, v, e, d, h) = (suc i, x, v, e, ap (more_trees t) d, h)

mutual
  pub step_to_position : (rules : Rule → Type 0) {s t : Tree} → Step rules s t → PositionStep rules s t
  step_to_position rules (at_root (r, m, i, e, d)) = (r, i, [], (m, record { redex = ap Some e; result = ap Some (sym d) }))
  step_to_position rules (inside {f = f} {ts = ts} {us = us} h) = from_argument rules f ts us (step_to_argument rules h)

  step_to_argument : (rules : Rule → Type 0) {ts us : Trees} → StepIn rules ts us → ArgumentStep rules ts us
  step_to_argument rules (here {t = t} {u = u} h) = (0, t, u, refl, refl, step_to_position rules h)
  step_to_argument rules (there {t = t} {ts = ts} {us = us} h) = behind_argument rules t ts us (step_to_argument rules h)

-- paths are chains
pub steps_from_path : (R S : Tree → Tree → Type 0) → ((s t : Tree) → R s t → S s t) → (path : List Tree) (s t : Tree) → IsPath R path s t → Steps S (length path) s t
steps_from_path R S h [] s t e = e
steps_from_path R S h (u ∷ path) s t (r, c) = (u, h s u r, steps_from_path R S h path u t c)

pub path_from_steps : (R S : Tree → Tree → Type 0) → ((s t : Tree) → S s t → R s t) → (n : ℕ) (s t : Tree) → Steps S n s t → (path : List Tree) × IsPath R path s t
path_from_steps R S h zero s t e = ([], e)
path_from_steps R S h (suc n) s t (u, r, c) = let q = path_from_steps R S h n u t c in (u ∷ q.0, (h s u r, q.1))

pub reaches_from : (rules : List Rule) (s t : Tree) → Proving.Reaches rules s t → Reaches (Step (Contains rules)) s t
reaches_from rules s t (path, c) = (length path, steps_from_path (Proving.Step rules) (Step (Contains rules)) (λ x y h. step_from_position (Contains rules) x y h) path s t c)

pub reaches_to : (rules : List Rule) (s t : Tree) → Reaches (Step (Contains rules)) s t → Proving.Reaches rules s t
reaches_to rules s t (n, c) = path_from_steps (Proving.Step rules) (Step (Contains rules)) (λ x y h. step_to_position (Contains rules) h) n s t c

pub halts_to : (rules : List Rule) (t : Tree) → Halts (Step (Contains rules)) t → Proving.Halts rules t
halts_to rules t (n, h) = (n, λ path u c. h (length path) u (steps_from_path (Proving.Step rules) (Step (Contains rules)) (λ x y q. step_from_position (Contains rules) x y q) path t u c))

pub halts_from : (rules : List Rule) (t : Tree) → Proving.Halts rules t → Halts (Step (Contains rules)) t
halts_from rules t (n, h) = (n, λ k u c. go k u c)
  where
    long : (k : ℕ) (s u : Tree) → Steps (Step (Contains rules)) k s u → (path : List Tree) × length path ≡ k × Proving.IsChain rules path s u
    long zero s u e = ([], refl, e)
    long (suc k) s u (v, r, c) = let q = long k v u c in (v ∷ q.0, ap suc q.1, (step_to_position (Contains rules) r, q.2))

    go : (k : ℕ) (u : Tree) → Steps (Step (Contains rules)) k t u → k ≤ n
    go k u c = let q = long k t u c in let b = h q.0 u q.2 in omega (arith, q.1)

pub joinable_to : (rules : List Rule) (s t : Tree) → IsJoinable (Step (Contains rules)) s t → Proving.IsJoinable rules s t
joinable_to rules s t (u, c, d) = (u, reaches_to rules s u c, reaches_to rules t u d)

pub joinable_from : (rules : List Rule) (s t : Tree) → Proving.IsJoinable rules s t → IsJoinable (Step (Contains rules)) s t
joinable_from rules s t (u, c, d) = (u, reaches_from rules s u c, reaches_from rules t u d)
