-- Instances of one term under two substitutions, by the occurrences of its variables.
use Rattle.std.proofs.Common.{ℕ, ◌≡◌, ◌⊎◌, inl, inr, List, [], ◌∷◌, arith, Contains}
use Rattle.std.proofs.lemmas.Bool.{cases_eq}
use Rattle.kb_lemmas.proofs.Membership.{contains_cases, contains_behind}
use Rattle.kb_term.specs.Tree.{Tree, variables_of}
use Rattle.kb_term.specs.Substitution.{instance}
use Rattle.kb_term.proofs.Steps.{occurs_from, occurs_to}
use Rattle.kb_term.proofs.Instances as Instances

pub contains_decides : (xs : List ℕ) (n : ℕ) → Contains xs n ⊎ (¬ Contains xs n)
contains_decides [] n = inr (λ c. omega (arith, c.1))
contains_decides (x ∷ xs) n = go (cases_eq x n) (contains_decides xs n)
  where
    go : (x ≡ n) ⊎ (¬ (x ≡ n)) → Contains xs n ⊎ (¬ Contains xs n) → Contains (x ∷ xs) n ⊎ (¬ Contains (x ∷ xs) n)
    go (inl e) d = inl (0, omega arith, e)
    go (inr ne) (inl c) = inl (contains_behind x xs n c)
    go (inr ne) (inr none) = inr (λ c. elim (contains_cases x xs n c) [ inl e ↦ ne e | inr d ↦ none d ])

-- substitutions that agree on the variables of a term make one instance of it
pub instance-agree : (k m : ℕ → Tree) (t : Tree) → ((n : ℕ) → Contains (variables_of t) n → k n ≡ m n) → instance k t ≡ instance m t
instance-agree k m t h = Instances.instance-agree k m t (λ n o. h n (occurs_to n t o))

-- substitutions that make one instance of a term agree on its variables
pub agree-instance : (k m : ℕ → Tree) (t : Tree) → instance k t ≡ instance m t → (n : ℕ) → Contains (variables_of t) n → k n ≡ m n
agree-instance k m t e n c = Instances.agree_at k m t e n (occurs_from n t c)
