-- Linear forms in the variables: a constant and a coefficient for each variable by number.
use Rattle.std.specs.Prelude.{ℕ, suc, ◌+◌, ◌*◌, List, [], ◌∷◌}
use Rattle.kb_linear.specs.declared.form.LinearForm.{LinearForm}

-- the sum of the coefficients times the variables' values
abbrev pub weighted : List ℕ → (ℕ → ℕ) → ℕ
weighted [] a = 0
weighted (c ∷ cs) a = c * a 0 + weighted cs (λ n. a (suc n))

-- the value of the form where a gives the variables theirs
abbrev pub form_value : LinearForm → (ℕ → ℕ) → ℕ
form_value form a = form.constant + weighted form.coefficients a
