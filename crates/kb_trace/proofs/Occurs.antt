-- Variables of arguments.
use Rattle.std.proofs.Common.{ℕ, suc, ◌+◌, ◌<◌, ◌≡◌, arith, inl, inr, ⊎_elim, List, [], ◌∷◌, length, get_or, Contains}
use Rattle.std.proofs.lemmas.List.Elements.{Contains-append_cases}
use Rattle.kb_term.specs.Tree.{Tree, variable, trees_of, variables_of, variables_in}

-- a variable of the arguments is one of some argument
pub in_some_argument : (us : List Tree) (n : ℕ) → Contains (variables_in (trees_of us)) n → (k : ℕ) × (k < length us) × Contains (variables_of (get_or us k (variable 0))) n
in_some_argument [] n c = absurd (omega (arith, c.1))
in_some_argument (u ∷ us) n c = ⊎_elim
    (λ d. (0, omega arith, d))
    (λ d. let h = in_some_argument us n d in (suc h.0, omega (arith, h.1), h.2))
    (Contains-append_cases (variables_of u) (variables_in (trees_of us)) n c)
