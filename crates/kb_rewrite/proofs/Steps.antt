-- What a step makes.
use Rattle.std.proofs.Common.{ℕ, zero, suc, ◌<◌, ◌≡◌, refl, sym, ap, ◌∙◌, arith, subst, List, [], ◌∷◌, length, get_or, set, take, Some}
use Rattle.std.specs.Prelude.{map, Result, IsSomeAnd, false}
use Rattle.std.proofs.lemmas.Option.{same_Some}
use Rattle.kb_term.specs.Tree.{Tree, variable, more_trees, trees_of}
use Rattle.kb_term.specs.Position.{subtree_at, replace_at, with_argument}
use Rattle.kb_term.specs.View.{tree_of}
use Rattle.kb_term.specs.Rule.{Rule}
use Rattle.kb_term.specs.Substitution.{instance, instances}
use Rattle.kb_term.specs.Proving.{RewritesAt}
use Rattle.kb_term.specs.Made.{IsLimitedAnswer}
use Rattle.kb_term.specs.declared.term.Term.{Term}
use Rattle.kb_term.specs.declared.fault.TermFault.{TermFault}
use Rattle.kb_term.proofs.Subtrees.{replace-there}
use Rattle.kb_rewrite.specs.NormalForm.{IsRedex}
use Rattle.kb_rewrite.specs.Search.{IsStepAnswer}
use Rattle.kb_rewrite.proofs.FirstRedexes.{rule_at}

pub instances-list : (m : ℕ → Tree) (us : List Tree) → instances m (trees_of us) ≡ trees_of (map (instance m) us)
instances-list m [] = refl
instances-list m (u ∷ us) = ap (more_trees (instance m u)) (instances-list m us)

pub mapped-get : (f : Tree → Tree) (us : List Tree) (k : ℕ) → k < length us → get_or (map f us) k (variable 0) ≡ f (get_or us k (variable 0))
mapped-get f [] k h = absurd (omega (arith, h))
mapped-get f (u ∷ us) zero h = refl
mapped-get f (u ∷ us) (suc k) h = mapped-get f us k (omega (arith, h))

pub mapped-length : (f : Tree → Tree) (us : List Tree) → length (map f us) ≡ length us
mapped-length f [] = refl
mapped-length f (u ∷ us) = ap suc (mapped-length f us)

take-whole : (us : List Tree) → take (length us) us ≡ us
take-whole [] = refl
take-whole (u ∷ us) = ap (u ∷◌) (take-whole us)

-- a rule that is used at a position where its left side matches
pub rewrites_at : (rule : Rule) (p : List ℕ) (m : ℕ → Tree) (t made : Tree) (answer : Result Term TermFault) → subtree_at t p ≡ Some (instance m rule.left) → made ≡ instance m rule.right → IsSomeAnd (replace_at t p made) (λ v. IsLimitedAnswer v answer) → (v : Tree) × RewritesAt rule p t v × IsLimitedAnswer v answer
rewrites_at rule p m t made answer at is h =
    let r = replace-there p t (instance m rule.left) (instance m rule.right) at in
    (r.0, (m, record { redex = at; result = r.1 }), subst (λ o. IsSomeAnd o (λ v. IsLimitedAnswer v answer)) (ap (replace_at t p) is ∙ r.1) h)

-- the same by the redex that it is used at
pub step_made : (rules : List Rule) (t made : Tree) (p : List ℕ) (i : ℕ) (rule : Rule) (m : ℕ → Tree) (answer : Result Term TermFault) → i < length rules → rule ≡ get_or rules i rule → subtree_at t p ≡ Some (instance m rule.left) → made ≡ instance m rule.right → IsSomeAnd (replace_at t p made) (λ v. IsLimitedAnswer v answer) → IsStepAnswer rules t p i answer
step_made rules t made p i rule m answer h is at made_is limited other e = subst (λ (r : Rule). (v : Tree) × RewritesAt r p t v × IsLimitedAnswer v answer) (sym (rule_at rules i rule other h is e)) (rewrites_at rule p m t made answer at made_is limited)

-- with want of memory
pub step_memory : (rules : List Rule) (t : Tree) (p : List ℕ) (i : ℕ) → IsRedex rules false t p i → (answer : Result Term TermFault) → ((v : Tree) → IsLimitedAnswer v answer) → IsStepAnswer rules t p i answer
step_memory rules t p i redex answer limited other e =
    let same = same_Some _ _ (sym redex.there ∙ e) in
    let m = redex.matches.2.0 in
    let at : subtree_at t p ≡ Some (instance m redex.rule.left) = redex.matches.1 ∙ ap Some (sym redex.matches.2.1) in
    let r = replace-there p t (instance m redex.rule.left) (instance m redex.rule.right) at in
    subst (λ (r : Rule). (v : Tree) × RewritesAt r p t v × IsLimitedAnswer v answer) same (r.0, (m, record { redex = at; result = r.1 }), limited r.0)

-- a list with another member at the index k, written there twice
pub put : (ts : List Term) (k : ℕ) (y x : Term) → k < length ts → trees_of (map tree_of (set (set ts k y) k x)) ≡ with_argument (trees_of (map tree_of ts)) (suc k) (tree_of x)
put [] k y x h = absurd (omega (arith, h))
put (t ∷ ts) zero y x h = refl
put (t ∷ ts) (suc k) y x h = ap (more_trees (tree_of t)) (put ts k y x (omega (arith, h)))

-- where it is the term that was there
pub put_back : (ts : List Term) (k : ℕ) (y x : Term) → k < length ts → tree_of x ≡ get_or (map tree_of ts) k (variable 0) → map tree_of (set (set ts k y) k x) ≡ map tree_of ts
put_back [] k y x h e = absurd (omega (arith, h))
put_back (t ∷ ts) zero y x h e = ap (λ u. u ∷ map tree_of ts) e
put_back (t ∷ ts) (suc k) y x h e = ap (tree_of t ∷◌) (put_back ts k y x (omega (arith, h)) e)
