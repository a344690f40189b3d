-- Rules that are numbered by first occurrence, and other right sides for them.
use Rattle.std.proofs.Common.{ℕ, ◌≡◌, refl, sym, ap, ◌∙◌, arith, List, [], ◌∷◌, ◌++◌, append-nil, append_assoc, length, Contains, Bool, true, false, None, ⊎_elim}
use Rattle.std.specs.Prelude.{◌==◌, ◌||◌}
use Rattle.std.proofs.lemmas.Bool.{eq-eqb}
use Rattle.std.proofs.lemmas.Bool.Decides.{nat_tests}
use Rattle.std.proofs.lemmas.List.Elements.{Contains-append_left}
use Rattle.kb_lemmas.proofs.Membership.{contains_cases, contains_behind, contains_first}
use Rattle.kb_term.specs.Tree.{Tree, variable, variables_of}
use Rattle.kb_term.specs.Substitution.{rename}
use Rattle.kb_term.specs.Pair.{Pair, distinct, place_in, variables_of_pair, numbered, term_limit, IsWithin}
use Rattle.kb_term.specs.Signature.{Signature, IsWellFormed, IsEquationWithinLimits}
use Rattle.kb_term.proofs.Steps.{occurs_from}
use Rattle.kb_term.proofs.Distinct.{has, distinct-old}
use Rattle.kb_term.proofs.Instances.{agree_at, instance-variable}
use Rattle.kb_term.proofs.Variants.{in_distinct, rename_same, same_variable}

-- each variable of the second term stands in the first
abbrev pub Holds : Tree → Tree → Type 0
Holds l t = (n : ℕ) → Contains (variables_of t) n → Contains (variables_of l) n

has_member : (x : ℕ) (xs : List ℕ) → Contains xs x → has x xs ≡ true
has_member x [] c = absurd (omega (arith, c.1))
has_member x (y ∷ ys) c = ⊎_elim (λ e. ap (λ b. b || has x ys) (eq-eqb y x e)) (λ i. go (y == x) (has_member x ys i)) (contains_cases y ys x c)
  where
    go : (b : Bool) → has x ys ≡ true → (b || has x ys) ≡ true
    go true h = refl
    go false h = h

-- members that are there already change nothing
distinct_front : (xs ys : List ℕ) → ((y : ℕ) → Contains ys y → Contains xs y) → distinct (xs ++ ys) ≡ distinct xs
distinct_front xs [] h = ap distinct (append-nil xs)
distinct_front xs (y ∷ ys) h =
    ap distinct (sym (append_assoc xs (y ∷ []) ys))
    ∙ distinct_front (xs ++ y ∷ []) ys (λ z c. Contains-append_left xs (y ∷ []) z (h z (contains_behind y ys z c)))
    ∙ sym (distinct-old (distinct xs) xs y refl (has_member y (distinct xs) (in_distinct xs y (h y (contains_first y ys)))))

-- so a rule has the variables of its left side
pub same_variables : (l s u : Tree) → Holds l s → Holds l u → variables_of_pair l u ≡ variables_of_pair l s
same_variables l s u h k = distinct_front (variables_of l) (variables_of u) k ∙ sym (distinct_front (variables_of l) (variables_of s) h)

-- a rule that is numbered stays so with another right side
numbered_with : (l s u : Tree) → Holds l s → Holds l u → numbered l s ≡ record { first = l; second = s } → numbered l u ≡ record { first = l; second = u }
numbered_with l s u h k e =
    let V : List ℕ = variables_of_pair l s in
    let same : variables_of_pair l u ≡ V = same_variables l s u h k in
    let left : rename (place_in V) l ≡ l = ap (λ (p : Pair). p.first) e in
    let fixed : (x : ℕ) → Contains (variables_of l) x → place_in V x ≡ x = λ x c. same_variable (place_in V x) x (agree_at (λ n. variable (place_in V n)) variable l (left ∙ sym (instance-variable l)) x (occurs_from x l c)) in
    let right : rename (place_in V) u ≡ u = rename_same (place_in V) u (λ x c. fixed x (k x c)) in
    (λ i. record { first = rename (place_in (same i)) l; second = rename (place_in (same i)) u }) ∙ (λ i. record { first = left i; second = right i })

-- a term that passes no limit is within the limits
pub within_term : (t : Tree) → term_limit t ≡ None → IsWithin t
within_term t h = record { size = grind (arith, nat_tests, h); depth = grind (arith, nat_tests, h) }

-- and within the limits, where the right side is
pub with_right_within : (g : Signature) (l s u : Tree) → IsEquationWithinLimits g (l, s) → Holds l s → Holds l u → IsWellFormed g u → term_limit u ≡ None → IsEquationWithinLimits g (l, u)
with_right_within g l s u w h k well small =
    let n = within_term u small in
    record {
      left = w.left;
      right = record { well_formed = well; size = n.size; depth = n.depth };
      variables = omega (arith, w.variables, ap (length {A = ℕ}) (same_variables l s u h k));
      by_occurrence = numbered_with l s u h k w.by_occurrence;
    }
