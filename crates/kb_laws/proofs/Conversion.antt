-- What equations prove, and lists of equations that prove the same.
use Rattle.std.proofs.Common.{ℕ, zero, suc, ◌⊎◌, inl, inr, sym, subst₂}
use Rattle.kb_term.specs.Tree.{Tree, variable, Trees}
use Rattle.kb_term.specs.Pair.{IsSameEquation}
use Rattle.kb_term.specs.Rule.{Rule, reversed, IsVariantRule}
use Rattle.kb_term.proofs.Relation.{Steps, Reaches}
use Rattle.kb_term.proofs.Steps.{Step, StepIn, at_root, inside, here, there}
use Rattle.kb_term.proofs.Instances.{instance-variable}
use Rattle.kb_term.proofs.Chains.{reaches_eq, reaches_one, reaches_trans, reaches_map}
use Rattle.kb_term.proofs.StepsInside.{reaches_inside, reaches_here, reaches_there, reaches_instance}

-- rules in either direction
abbrev pub Either : (Rule → Type 0) → Rule → Type 0
Either P r = P r ⊎ P (reversed r)

-- steps by more rules
mutual
  pub step_more : (P Q : Rule → Type 0) → ((r : Rule) → P r → Q r) → {s t : Tree} → Step P s t → Step Q s t
  step_more P Q h (at_root (r, m, i, e, d)) = at_root (r, m, h r i, e, d)
  step_more P Q h (inside k) = inside (step_in_more P Q h k)

  step_in_more : (P Q : Rule → Type 0) → ((r : Rule) → P r → Q r) → {ss ts : Trees} → StepIn P ss ts → StepIn Q ss ts
  step_in_more P Q h (here k) = here (step_more P Q h k)
  step_in_more P Q h (there k) = there (step_in_more P Q h k)

-- steps by rules each of which other rules make up
mutual
  pub step_made_up : (P Q : Rule → Type 0) → ((r : Rule) → P r → Reaches (Step Q) r.left r.right) → {s t : Tree} → Step P s t → Reaches (Step Q) s t
  step_made_up P Q h (at_root (r, m, i, e, d)) = subst₂ (Reaches (Step Q)) (sym e) (sym d) (reaches_instance Q m r.left r.right (h r i))
  step_made_up P Q h (inside {f = f} {ts = ts} {us = us} k) = reaches_inside Q f ts us (step_in_made_up P Q h k)

  step_in_made_up : (P Q : Rule → Type 0) → ((r : Rule) → P r → Reaches (Step Q) r.left r.right) → {ss ts : Trees} → StepIn P ss ts → Reaches (StepIn Q) ss ts
  step_in_made_up P Q h (here {t = t} {u = u} {ts = ts} k) = reaches_here Q t u ts (step_made_up P Q h k)
  step_in_made_up P Q h (there {t = t} {ts = ts} {us = us} k) = reaches_there Q t ts us (step_in_made_up P Q h k)

pub reaches_made_up : (P Q : Rule → Type 0) → ((r : Rule) → P r → Reaches (Step Q) r.left r.right) → (s t : Tree) → Reaches (Step P) s t → Reaches (Step Q) s t
reaches_made_up P Q h s t c = reaches_map (Step P) (Step Q) (λ x. x) (λ x y k. step_made_up P Q h k) s t c

-- a symmetric relation's chains turn around
pub reaches_sym : {A : Type 0} (R : A → A → Type 0) → ((s t : A) → R s t → R t s) → (n : ℕ) (s t : A) → Steps R n s t → Reaches R t s
reaches_sym R h zero s t e = reaches_eq R t s (sym e)
reaches_sym R h (suc n) s t (u, r, c) = reaches_trans R t u s (reaches_sym R h n u t c) (reaches_one R u s (h s u r))

mutual
  pub step_turned : (Q : Rule → Type 0) → ((r : Rule) → Q r → Q (reversed r)) → {s t : Tree} → Step Q s t → Step Q t s
  step_turned Q turn (at_root (r, m, i, e, d)) = at_root (reversed r, m, turn r i, d, e)
  step_turned Q turn (inside h) = inside (step_in_turned Q turn h)

  step_in_turned : (Q : Rule → Type 0) → ((r : Rule) → Q r → Q (reversed r)) → {ss ts : Trees} → StepIn Q ss ts → StepIn Q ts ss
  step_in_turned Q turn (here h) = here (step_turned Q turn h)
  step_in_turned Q turn (there h) = there (step_in_turned Q turn h)

either_turned : (P : Rule → Type 0) (r : Rule) → Either P r → Either P (reversed r)
either_turned P r (inl i) = inr i
either_turned P r (inr i) = inl i

-- what the rules prove as equations
abbrev pub Equal : (Rule → Type 0) → Tree → Tree → Type 0
Equal P s t = Reaches (Step (Either P)) s t

pub equal_sym : (P : Rule → Type 0) (s t : Tree) → Equal P s t → Equal P t s
equal_sym P s t c = reaches_sym (Step (Either P)) (λ x y h. step_turned (Either P) (either_turned P) h) c.0 s t c.1

pub equal_trans : (P : Rule → Type 0) (s t u : Tree) → Equal P s t → Equal P t u → Equal P s u
equal_trans P s t u c d = reaches_trans (Step (Either P)) s t u c d

pub equal_step : (P : Rule → Type 0) (s t : Tree) → Step P s t → Equal P s t
equal_step P s t h = reaches_one (Step (Either P)) s t (step_more P (Either P) (λ r i. inl i) h)

pub equal_rule : (P : Rule → Type 0) (r : Rule) → P r → Equal P r.left r.right
equal_rule P r i = equal_step P r.left r.right (at_root (r, variable, i, sym (instance-variable r.left), sym (instance-variable r.right)))

-- rules each of which other rules prove prove no more
pub equal_made_up : (P Q : Rule → Type 0) → ((r : Rule) → P r → Equal Q r.left r.right) → (s t : Tree) → Equal P s t → Equal Q s t
equal_made_up P Q h s t c = reaches_made_up (Either P) (Either Q) (λ r i. go r i) s t c
  where
    go : (r : Rule) → Either P r → Equal Q r.left r.right
    go r (inl i) = h r i
    go r (inr i) = equal_sym Q r.right r.left (h (reversed r) i)

-- a variant of a rule proves the rule
pub equal_variant : (P : Rule → Type 0) (a b : Rule) → Equal P a.left a.right → IsVariantRule a b → Equal P b.left b.right
equal_variant P a b c (r, back, n, e) = subst₂ (Equal P) n.there e.there (reaches_instance (Either P) (λ x. variable (r x)) a.left a.right c)

-- what proves one side of an equation equal to the other does so for the same equation
pub equal_same : (P : Rule → Type 0) (d e : Tree × Tree) → IsSameEquation d e → Equal P d.0 d.1 → Equal P e.0 e.1
equal_same P d e (inl v) c = equal_variant P (record { left = d.0; right = d.1 }) (record { left = e.0; right = e.1 }) c v
equal_same P d e (inr v) c = equal_sym P e.1 e.0 (equal_variant P (record { left = d.0; right = d.1 }) (record { left = e.1; right = e.0 }) c v)
