-- Well-formedness over a signature, by arities; rules over the signature keep it.
use Rattle.std.proofs.Common.{ℕ, zero, suc, ◌≡◌, ◌<◌, refl, sym, ap, ◌∙◌, subst, arith, List, [], ◌∷◌, All, Contains, length, ⊎_elim}
use Rattle.std.proofs.lemmas.List.Elements.{All-contains}
use Rattle.std.proofs.lemmas.Bool.{cases_lt}
use Rattle.kb_lemmas.proofs.Membership.{contains_cases, contains_behind}
use Rattle.kb_term.specs.Tree.{Tree, variable, apply, Trees, no_trees, more_trees, list_of}
use Rattle.kb_term.specs.Rule.{Rule}
use Rattle.kb_term.specs.Signature.{Signature, HasArity, IsWellFormed, AreWellFormed, IsRuleOver}
use Rattle.kb_term.proofs.Steps as Steps
use Rattle.kb_term.proofs.Steps.{Step, occurs_from, occurs_to}
use Rattle.kb_lpo.proofs.WellFormed.{IsSound, step_well}

-- the arity of a symbol of the signature
abbrev pub arity_at : Signature → ℕ → ℕ
arity_at [] f = 0
arity_at (h ∷ hs) zero = h.arity
arity_at (h ∷ hs) (suc f) = arity_at hs f

abbrev pub below : ℕ → List ℕ
below zero = []
below (suc n) = n ∷ below n

in_below : (n f : ℕ) → f < n → Contains (below n) f
in_below zero f h = absurd (omega arith)
in_below (suc n) f h = ⊎_elim (λ l. contains_behind n (below n) f (in_below n f l)) (λ l. (0, omega arith, omega arith)) (cases_lt f n)

below_in : (n f : ℕ) → Contains (below n) f → f < n
below_in zero f h = absurd (omega arith)
below_in (suc n) f h = ⊎_elim (λ e. omega arith) (λ c. let l = below_in n f c in omega arith) (contains_cases n (below n) f h)

arity_from : (g : Signature) (f n : ℕ) → HasArity g f n → (f < length g) × n ≡ arity_at g f
arity_from [] f n e = absurd (cc)
arity_from (h ∷ hs) zero n e = (omega arith, cc)
arity_from (h ∷ hs) (suc f) n e = let r = arity_from hs f n e in (omega arith, r.1)

arity_to : (g : Signature) (f : ℕ) → f < length g → HasArity g f (arity_at g f)
arity_to [] f l = absurd (omega arith)
arity_to (h ∷ hs) zero l = refl
arity_to (h ∷ hs) (suc f) l = arity_to hs f (omega arith)

length-list_of : (ts : Trees) → length (list_of ts) ≡ Steps.trees_length ts
length-list_of no_trees = refl
length-list_of (more_trees t ts) = ap suc (length-list_of ts)

mutual
  pub well_from : (g : Signature) (t : Tree) → IsWellFormed g t → Steps.IsWellFormed (arity_at g) (below (length g)) t
  well_from g (variable n) w = tt
  well_from g (apply f ts) w = let h = arity_from g f (length (list_of ts)) w.0 in (in_below (length g) f h.0, sym (length-list_of ts) ∙ h.1, wells_from g ts w.1)

  wells_from : (g : Signature) (ts : Trees) → AreWellFormed g ts → Steps.AreWellFormed (arity_at g) (below (length g)) ts
  wells_from g no_trees w = tt
  wells_from g (more_trees t ts) w = (well_from g t w.0, wells_from g ts w.1)

mutual
  well_to : (g : Signature) (t : Tree) → Steps.IsWellFormed (arity_at g) (below (length g)) t → IsWellFormed g t
  well_to g (variable n) w = tt
  well_to g (apply f ts) w = (subst (HasArity g f) (sym w.1 ∙ sym (length-list_of ts)) (arity_to g f (below_in (length g) f w.0)), wells_to g ts w.2)

  wells_to : (g : Signature) (ts : Trees) → Steps.AreWellFormed (arity_at g) (below (length g)) ts → AreWellFormed g ts
  wells_to g no_trees w = tt
  wells_to g (more_trees t ts) w = (well_to g t w.0, wells_to g ts w.1)

pub sound_from : (g : Signature) (r : Rule) → IsRuleOver g r → IsSound (arity_at g) (below (length g)) r
sound_from g r h = record { well = well_from g r.right h.right; holds = λ x o. occurs_from x r.left (h.is_rule.holds_variables x (occurs_to x r.right o)) }

pub keeps_well : (g : Signature) (rules : List Rule) → All (IsRuleOver g) rules → (s t : Tree) → IsWellFormed g s → Step (Contains rules) s t → IsWellFormed g t
keeps_well g rules over s t w h = well_to g t (step_well (arity_at g) (below (length g)) (Contains rules) (λ r i. sound_from g r (All-contains (IsRuleOver g) rules r over i)) h (well_from g s w))
