-- Terms that are instances of each other are equally large and deep, have as many variables, and one numbered pair.
use Rattle.std.proofs.Common.{ℕ, ◌≡◌, refl, sym, ap, ap₂, ◌∙◌, length}
use Rattle.std.proofs.lemmas.List.{length-map}
use Rattle.kb_term.specs.Tree.{Tree, variable, apply}
use Rattle.kb_term.specs.Substitution.{instance, rename, IsRenaming}
use Rattle.kb_term.specs.Pair.{numbered, canonical, lesser, variables_of_pair, term_limit, pair_limit}
use Rattle.kb_term.proofs.Trees.{apply≢variable}
use Rattle.kb_unify.proofs.Similar.{same_size, same_depth}
use Rattle.kb_term.proofs.Instances.{instance-instance, instance-variable}
use Rattle.kb_unify.proofs.Instances.{instance-agree, agree-instance}
use Rattle.kb_term.proofs.Variants.{numbered_from_variants}
use Rattle.kb_overlap.proofs.Variants.{apart_renaming, variables_of_pair_renamed}

-- the number of a variable
abbrev number_in : Tree → ℕ
number_in (variable n) = n
number_in (apply f ts) = 0

was_variable : (t : Tree) (e : ℕ → Tree) (x : ℕ) → instance e t ≡ variable x → variable (number_in t) ≡ t
was_variable (variable n) e x h = refl
was_variable (apply f ts) e x h = absurd (apply≢variable h)

-- two pairs of terms, each an instance of the other
module _ (d e : ℕ → Tree) (s t u v : Tree) (su : instance d s ≡ u) (us : instance e u ≡ s) (tv : instance d t ≡ v) (vt : instance e v ≡ t) where
  abbrev there : (ℕ → Tree) → ℕ → ℕ
  there d x = number_in (d x)

  -- on the variables of a term that e takes back, d is a renaming
  renames : (d e : ℕ → Tree) (a b : Tree) → instance d a ≡ b → instance e b ≡ a → rename (there d) a ≡ b
  renames d e a b ab ba = instance-agree (λ x. variable (number_in (d x))) d a (λ x c. was_variable (d x) e x (agree-instance (λ y. instance e (d y)) variable a (sym (instance-instance e d a) ∙ ap (instance e) ab ∙ ba ∙ sym (instance-variable a)) x c)) ∙ ab

  left : IsRenaming (there d) (there e) s u
  left = record { there = renames d e s u su us; back_again = renames e d u s us su }

  right : IsRenaming (there d) (there e) t v
  right = record { there = renames d e t v tv vt; back_again = renames e d v t vt tv }

  pub same_numbered : numbered s t ≡ numbered u v
  same_numbered = numbered_from_variants s t u v ((there d), (there e), left, right)

  pub same_canonical : canonical s t ≡ canonical u v
  same_canonical = ap₂ lesser same_numbered (numbered_from_variants t s v u ((there d), (there e), right, left))

  same_count : length (variables_of_pair s t) ≡ length (variables_of_pair u v)
  same_count = sym (length-map (variables_of_pair s t) (there d)) ∙ ap length (sym (variables_of_pair_renamed (there d) s t (apart_renaming s t u v (there d) (there e) left right)) ∙ ap₂ variables_of_pair left.there right.there)

  pub same_term_limit : term_limit s ≡ term_limit u
  same_term_limit = rw (same_size d e s u su us, same_depth d e s u su us) refl

  pub same_pair_limit : pair_limit s t ≡ pair_limit u v
  same_pair_limit = rw (same_size d e s u su us, same_depth d e s u su us, same_size d e t v tv vt, same_depth d e t v tv vt, same_count) refl
