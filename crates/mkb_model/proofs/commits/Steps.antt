-- Steps of completion between states that differ in few equations and rules.
use Rattle.std.proofs.Common.{ℕ, ◌≡◌, ◌⊎◌, ◌↔◌, inl, inr, refl, sym, ap, subst, arith, List, [], ◌∷◌, ◌++◌, Some, ⊎_elim, Contains}
use Rattle.std.proofs.lemmas.List.Elements.{Contains-append_cases, Contains-append_left, Contains-append_right}
use Rattle.kb_laws.proofs.CompletionLaws.{same_equation_itself}
use Rattle.kb_lemmas.proofs.Membership.{contains_cases, contains_first}
use Rattle.kb_term.specs.Tree.{Tree, variable}
use Rattle.kb_term.specs.Signature.{Signature, IsWellFormed}
use Rattle.kb_term.specs.Substitution.{IsVariant}
use Rattle.kb_term.specs.Rule.{Rule, IsVariantRule, rule_between}
use Rattle.kb_term.specs.Proving.{Step, IsPath, RewritesAt}
use Rattle.kb_laws.specs.Completion.{KbState, KbStep, deduce, IsSameState, Has, Keeps, KbReaches}
use Rattle.mkb_model.proofs.commits.MemberSteps.{delete, simplify, compose, collapse, Loses, Replaces}
use Rattle.kb_term.specs.Pair.{IsSameEquation}
use Rattle.mkb_model.proofs.commits.Views.{same_sym, same_trans, same_turned}

-- steps from one state to another
abbrev pub Steps : Signature → KbState → KbState → Type 0
Steps g a b = (path : List KbState) × IsPath (KbStep g) path a b

pub no_steps : (g : Signature) (a : KbState) → Steps g a a
no_steps g a = ([], refl)

pub one_step : (g : Signature) (a b : KbState) → KbStep g a b → Steps g a b
one_step g a b h = (b ∷ [], (h, refl))

pub step_more : (g : Signature) (a b c : KbState) → KbStep g a b → Steps g b c → Steps g a c
step_more g a b c h (path, k) = (b ∷ path, (h, k))

pub steps_more : (g : Signature) (a b c : KbState) → Steps g a b → Steps g b c → Steps g a c
steps_more g a b c ([], e) k = subst {A = KbState} (λ z. Steps g z c) (sym e) k
steps_more g a b c (x ∷ path, (h, r)) k = step_more g a x c h (steps_more g x b c (path, r) k)

pub same_state : (a : KbState) → IsSameState a a
same_state a = record { equations = λ y. ((λ h. h), λ h. h); rules = λ y. ((λ h. h), λ h. h); constraints = λ y. ((λ h. h), λ h. h) }

pub reaches_by_steps : (g : Signature) (a b : KbState) → Steps g a b → KbReaches g a b
reaches_by_steps g a b (path, h) = (path, b, h, same_state b)

pub reaches_same : (g : Signature) (a b : KbState) → IsSameState a b → KbReaches g a b
reaches_same g a b h = ([], a, refl, h)

-- ---- members up to variants

abbrev pub HasEq : List (Tree × Tree) → Tree × Tree → Type 0
HasEq = Has IsSameEquation

pub has_same : (ds : List (Tree × Tree)) (d e : Tree × Tree) → HasEq ds d → IsSameEquation d e → HasEq ds e
has_same ds d e (y, c, s) h = (y, c, same_trans y d e s h)

-- the list with one equation more
pub has_more : (ds : List (Tree × Tree)) (x y : Tree × Tree) → HasEq (ds ++ x ∷ []) y ↔ (HasEq ds y ⊎ IsSameEquation x y)
has_more ds x y = (to, from)
  where
    to : HasEq (ds ++ x ∷ []) y → HasEq ds y ⊎ IsSameEquation x y
    to (z, c, s) = ⊎_elim (λ d. inl (z, d, s)) (λ d. ⊎_elim (λ e. inr (subst {A = Tree × Tree} (λ w. IsSameEquation w y) (sym e) s)) (λ k. absurd (omega (arith, k.1))) (contains_cases x [] z d)) (Contains-append_cases ds (x ∷ []) z c)

    from : HasEq ds y ⊎ IsSameEquation x y → HasEq (ds ++ x ∷ []) y
    from (inl (z, c, s)) = (z, Contains-append_left ds (x ∷ []) z c, s)
    from (inr s) = (x, Contains-append_right ds (x ∷ []) x (contains_first x []), s)

-- ---- an equation that may go again

-- some rule of the list is a variant of the rule from s to t
abbrev pub HasRule : List Rule → Tree → Tree → Type 0
HasRule rs s t = (r : Rule) × Contains rs r × IsVariantRule r (rule_between s t)

-- a rule rewrites its left side to its right side
pub step_by_rule : (rs : List Rule) (s t : Tree) → HasRule rs s t → Step rs s t
step_by_rule rs s t (r, c, (f, back, n, k)) = (r, c, [], ((λ x. variable (f x)), record { redex = ap Some (sym n.there); result = ap Some k.there }))

-- the equation is one of the state, or of a term with itself, or that of a rule of the state
abbrev pub IsSettled : KbState → Tree × Tree → Type 0
IsSettled b e = HasEq b.equations e ⊎ ((e.0 ≡ e.1) ⊎ ((¬ HasEq b.equations e) × (HasRule b.rules e.0 e.1 ⊎ HasRule b.rules e.1 e.0)))

-- the state with one equation more
abbrev pub with_equation : KbState → Tree × Tree → KbState
with_equation b e = record b { equations = b.equations ++ e ∷ [] }

-- no equation of the state is trivial
abbrev pub IsLean : KbState → Type 0
IsLean b = (u : Tree) → ¬ HasEq b.equations (u, u)

-- a step to the state and one equation more, which is settled, and perhaps more steps lead to the state
module _ (g : Signature) (b : KbState) (lean : IsLean b) where
  -- the trivial equation of u is deleted
  deleted : (u : Tree) → KbStep g (with_equation b (u, u)) b
  deleted u = delete u (
    ((has_more b.equations (u, u) (u, u)).1 (inr (same_equation_itself (u, u)))),
    λ y. ((λ h. ⊎_elim (λ k. k) (λ k. absurd (h.1 k)) ((has_more b.equations (u, u) y).0 h.0)), λ h. ((has_more b.equations (u, u) y).1 (inl h), λ s. lean u (has_same b.equations y (u, u) h (same_sym (u, u) y s)))),
  )
      (λ y. ((λ h. h), λ h. h)) (λ y. ((λ h. h), λ h. h))

  -- the equation of a rule is simplified by it, and deleted
  absorbed : (s t : Tree) (e : Tree × Tree) → IsSameEquation e (s, t) → ¬ HasEq b.equations e → HasRule b.rules s t → Steps g (with_equation b e) b
  absorbed s t e same new r = step_more g (with_equation b e) (with_equation b (t, t)) b
      (simplify s t t (step_by_rule b.rules s t r) (
        (has_more b.equations e (s, t)).1 (inr same),
        λ y. (
          (λ h. ⊎_elim (λ k. (has_more b.equations (t, t) y).1 (inl (⊎_elim (λ o. o) (λ o. absurd (k.1 (same_trans (s, t) e y (same_sym e (s, t) same) o))) ((has_more b.equations e y).0 k.0)))) (λ k. (has_more b.equations (t, t) y).1 (inr k)) h),
          λ h. ⊎_elim (λ k. inl ((has_more b.equations e y).1 (inl k), λ o. new (has_same b.equations y e k (same_sym e y (same_trans e (s, t) y same o))))) (λ k. inr k) ((has_more b.equations (t, t) y).0 h),
        ),
      )
      (λ y. ((λ h. h), λ h. h)) (λ y. ((λ h. h), λ h. h)))
      (one_step g (with_equation b (t, t)) b (deleted t))

  pub settled : (a : KbState) (e : Tree × Tree) → IsSettled b e
      → ((m : KbState) → ((y : Tree × Tree) → HasEq m.equations y ↔ (HasEq b.equations y ⊎ IsSameEquation e y)) → m.rules ≡ b.rules → m.constraints ≡ b.constraints → KbStep g a m)
      → Steps g a b
  settled a e (inl h) first = one_step g a b (first b (λ y. ((λ k. inl k), λ k. ⊎_elim (λ o. o) (λ o. has_same b.equations e y h o) k)) refl refl)
  settled a (s, t) (inr (inl h)) first =
      let k : KbStep g a (with_equation b (s, t)) = first (with_equation b (s, t)) (λ y. has_more b.equations (s, t) y) refl refl in
      step_more g a (with_equation b (s, t)) b k (one_step g (with_equation b (s, t)) b (subst {A = Tree} (λ z. KbStep g (with_equation b (s, z)) b) h (deleted s)))
  settled a (s, t) (inr (inr (new, inl r))) first =
      step_more g a (with_equation b (s, t)) b (first (with_equation b (s, t)) (λ y. has_more b.equations (s, t) y) refl refl) (absorbed s t (s, t) (same_equation_itself (s, t)) new r)
  settled a (s, t) (inr (inr (new, inr r))) first =
      step_more g a (with_equation b (s, t)) b (first (with_equation b (s, t)) (λ y. has_more b.equations (s, t) y) refl refl) (absorbed t s (s, t) (same_turned s t) new r)

-- ---- the moves of completion, up to what is settled

-- two lists with the same members
pub keeps_equal : (rs : List Rule) (qs : List Rule) → rs ≡ qs → (ps : List Rule) → Keeps IsVariantRule ps qs → Keeps IsVariantRule ps rs
keeps_equal rs qs e ps k = subst {A = List Rule} (Keeps IsVariantRule ps) (sym e) k

-- deducing an equation that is settled afterwards
pub deduced : (g : Signature) (a b : KbState) → IsLean b → (u s t : Tree) → IsWellFormed g u → Step a.rules u s → Step a.rules u t
    → ((y : Tree × Tree) → (HasEq a.equations y ⊎ IsSameEquation (s, t) y) ↔ (HasEq b.equations y ⊎ IsSameEquation (s, t) y)) → Keeps IsVariantRule a.rules b.rules → Keeps IsVariantRule a.constraints b.constraints
    → IsSettled b (s, t) → Steps g a b
deduced g a b lean u s t w h k eqs rules constraints settles = settled g b lean a (s, t) settles (λ m e r c.
    deduce u s t w h k (λ y. ((λ o. (e y).1 ((eqs y).0 o)), λ o. (eqs y).1 ((e y).0 o))) (keeps_equal m.rules b.rules r a.rules rules) (keeps_equal m.constraints b.constraints c a.constraints constraints))

-- simplifying an equation to one that is settled afterwards
pub simplified : (g : Signature) (a b : KbState) → IsLean b → (s t u : Tree) → Step a.rules s u → HasEq a.equations (s, t)
    → ((y : Tree × Tree) → ((HasEq a.equations y × ¬ IsSameEquation (s, t) y) ⊎ IsSameEquation (u, t) y) ↔ (HasEq b.equations y ⊎ IsSameEquation (u, t) y)) → Keeps IsVariantRule a.rules b.rules → Keeps IsVariantRule a.constraints b.constraints
    → IsSettled b (u, t) → Steps g a b
simplified g a b lean s t u h has eqs rules constraints settles = settled g b lean a (u, t) settles (λ m e r c.
    simplify s t u h (has, λ y. ((λ o. (e y).1 ((eqs y).0 o)), λ o. (eqs y).1 ((e y).0 o))) (keeps_equal m.rules b.rules r a.rules rules) (keeps_equal m.constraints b.constraints c a.constraints constraints))

-- collapsing a rule to an equation that is settled afterwards
pub collapsed : (g : Signature) (a b : KbState) → IsLean b → (s t u : Tree) (rule : Rule) (p : List ℕ) → Contains a.rules rule → ¬ IsVariant s rule.left → RewritesAt rule p s u
    → ((y : Tree × Tree) → (HasEq a.equations y ⊎ IsSameEquation (u, t) y) ↔ (HasEq b.equations y ⊎ IsSameEquation (u, t) y)) → Loses IsVariantRule a.rules b.rules (rule_between s t) → Keeps IsVariantRule a.constraints b.constraints
    → IsSettled b (u, t) → Steps g a b
collapsed g a b lean s t u rule p i n h eqs rules constraints settles = settled g b lean a (u, t) settles (λ m e r c.
    collapse s t u rule p i n h (λ y. ((λ o. (e y).1 ((eqs y).0 o)), λ o. (eqs y).1 ((e y).0 o))) (subst {A = List Rule} (λ z. Loses IsVariantRule a.rules z (rule_between s t)) (sym r) rules) (keeps_equal m.constraints b.constraints c a.constraints constraints))

-- composing a rule; an equation of the new rule goes, if there was one
pub composed : (g : Signature) (a b : KbState) → IsLean b → (s t u : Tree) (rule : Rule) (p : List ℕ) → Contains a.rules rule → ¬ IsVariantRule rule (rule_between s t) → RewritesAt rule p t u
    → (Keeps IsSameEquation a.equations b.equations ⊎ (HasEq a.equations (s, u) × (¬ HasEq b.equations (s, u)) × HasRule b.rules s u × ((y : Tree × Tree) → HasEq a.equations y ↔ (HasEq b.equations y ⊎ IsSameEquation (s, u) y))))
    → Replaces IsVariantRule a.rules b.rules (rule_between s t) (rule_between s u) → Keeps IsVariantRule a.constraints b.constraints → Steps g a b
composed g a b lean s t u rule p i n h (inl eqs) rules constraints = one_step g a b (compose s t u rule p i n h eqs rules constraints)
composed g a b lean s t u rule p i n h (inr (has, new, made, eqs)) rules constraints = settled g b lean a (s, u) (inr (inr (new, inl made))) (λ m e r c.
    compose s t u rule p i n h (λ y. ((λ o. (e y).1 ((eqs y).0 o)), λ o. (eqs y).1 ((e y).0 o))) (subst {A = List Rule} (λ z. Replaces IsVariantRule a.rules z (rule_between s t) (rule_between s u)) (sym r) rules) (keeps_equal m.constraints b.constraints c a.constraints constraints))
