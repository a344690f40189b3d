-- Most general unifiers that don't change what they make.
use Rattle.std.proofs.Common.{zero, suc, ◌<◌, subst₂, List, [], ◌∷◌, get_or, length, ℕ, ◌≡◌, inl, inr, refl, sym, ap, ◌∙◌, subst, arith, Contains}
use Rattle.std.specs.Prelude.{All, AllPairs, true, false, cond, ◌==◌}
use Rattle.std.proofs.lemmas.Bool.{cases_eq}
use Rattle.kb_term.specs.Substitution.{substitution_of}
use Rattle.std.proofs.lemmas.List.Elements.{Contains-append_left, Contains-append_right}
use Rattle.kb_term.specs.Tree.{Tree, variable, apply, no_trees, variables_of}
use Rattle.kb_term.specs.Substitution.{instance}
use Rattle.kb_term.proofs.Trees.{apply≢variable}
use Rattle.kb_unify.specs.Unifier.{IsUnifier, IsMostGeneralUnifier}
use Rattle.kb_unify.specs.Answer.{variables_of_both, IsApplied}
use Rattle.kb_term.proofs.Instances.{instance-variable, instance-instance}
use Rattle.kb_unify.proofs.Instances.{contains_decides, instance-agree, agree-instance}

-- m with another term at n
pub changed : (ℕ → Tree) → ℕ → Tree → ℕ → Tree
changed m n u i = cond (i == n) u (m i)

pub changed-at : (m : ℕ → Tree) (n : ℕ) (u : Tree) → changed m n u n ≡ u
unfolding changed
changed-at m n u = let e : (n == n) ≡ true = grind arith in rw e refl

pub changed-other : (m : ℕ → Tree) (n : ℕ) (u : Tree) (i : ℕ) → ¬ (i ≡ n) → changed m n u i ≡ m i
unfolding changed
changed-other m n u i ne = let e : (i == n) ≡ false = grind arith in rw e refl

-- a unifier may be changed at a variable of neither term
pub changed_unifies : (k : ℕ → Tree) (s t : Tree) → IsUnifier k s t → (n : ℕ) (u : Tree) → ¬ Contains (variables_of_both s t) n → IsUnifier (changed k n u) s t
changed_unifies k s t unifies n u outside =
    let other : (i : ℕ) → Contains (variables_of_both s t) i → changed k n u i ≡ k i = λ i c. changed-other k n u i (λ e. outside (subst (Contains (variables_of_both s t)) e c)) in
    instance-agree (changed k n u) k s (λ i c. other i (Contains-append_left (variables_of s) (variables_of t) i c))
    ∙ unifies
    ∙ sym (instance-agree (changed k n u) k t (λ i c. other i (Contains-append_right (variables_of s) (variables_of t) i c)))

small : (t : Tree) (d : ℕ → Tree) (n : ℕ) → variable n ≡ instance d t → (x : ℕ) × (t ≡ variable x)
small (variable i) d n e = (i, refl)
small (apply f ts) d n e = absurd (apply≢variable (sym e))

-- a most general unifier sends a variable of neither term to a variable
pub outside_variable : (m : ℕ → Tree) (s t : Tree) → IsMostGeneralUnifier m s t → (n : ℕ) → ¬ Contains (variables_of_both s t) n → (x : ℕ) × (m n ≡ variable x)
outside_variable m s t g n outside =
    let k = g.most_general (changed m n (variable n)) (changed_unifies m s t g.unifies n (variable n) outside) in
    small (m n) k.0 n (sym (changed-at m n (variable n)) ∙ k.1 n)

-- a substitution that doesn't change what it makes leaves each variable that occurs there
pub fixed_variable : (m : ℕ → Tree) (t : Tree) → instance m t ≡ t → (n : ℕ) → Contains (variables_of t) n → m n ≡ variable n
fixed_variable m t e n c = agree-instance m variable t (e ∙ sym (instance-variable t)) n c

module _ (m : ℕ → Tree) (s t : Tree) (general : IsMostGeneralUnifier m s t) (fixed : (n : ℕ) → instance m (m n) ≡ m n) where
  -- it leaves the variables of neither term
  pub outside_same : (n : ℕ) → ¬ Contains (variables_of_both s t) n → m n ≡ variable n
  outside_same n outside =
      let x = outside_variable m s t general n outside in
      let k = general.most_general (changed m n (variable n)) (changed_unifies m s t general.unifies n (variable n) outside) in
      let left : m x.0 ≡ variable x.0 = fixed_variable m (m n) (fixed n) x.0 (subst (λ u. Contains (variables_of u) x.0) (sym x.1) (0, omega arith, refl)) in
      let at : k.0 x.0 ≡ variable n = sym (sym (changed-at m n (variable n)) ∙ k.1 n ∙ ap (instance k.0) x.1) in
      x.1 ∙ go x.0 left k.0 at (k.1 x.0)
    where
      go : (x : ℕ) → m x ≡ variable x → (d : ℕ → Tree) → d x ≡ variable n → changed m n (variable n) x ≡ instance d (m x) → variable x ≡ variable n
      go x left d at is = elim (cases_eq x n) [
        | inl e ↦ ap variable e
        | inr ne ↦ sym left ∙ sym (changed-other m n (variable n) x ne) ∙ is ∙ ap (instance d) left ∙ at
      ]

  -- a variable of neither term occurs in no other variable's term
  pub range_inside : (n x : ℕ) → Contains (variables_of (m n)) x → ¬ (n ≡ x) → Contains (variables_of_both s t) x
  range_inside n x c ne = elim (contains_decides (variables_of_both s t) x) [ inl d ↦ d | inr outside ↦ absurd (never outside) ]
    where
      constant : Tree
      constant = apply 0 no_trees

      never : ¬ Contains (variables_of_both s t) x → ⊥
      never outside =
          let other : ℕ → Tree = changed variable x constant in
          let after : ℕ → Tree = λ i. instance other (m i) in
          let unifies : IsUnifier after s t = sym (instance-instance other m s) ∙ ap (instance other) general.unifies ∙ instance-instance other m t in
          let d = general.most_general (changed after x (variable x)) (changed_unifies after s t unifies x (variable x) outside) in
          let here : variable x ≡ d.0 x = sym (changed-at after x (variable x)) ∙ d.1 x ∙ ap (instance d.0) (fixed_variable m (m n) (fixed n) x c) in
          let there : instance other (m n) ≡ instance d.0 (m n) = sym (changed-other after x (variable x) n ne) ∙ d.1 n in
          apply≢variable (sym (changed-at variable x constant) ∙ agree-instance other d.0 (m n) there x c ∙ sym here)

-- each term that is listed is the one that its variable gets
listed-terms : (es : List (ℕ × Tree)) → AllPairs (λ (d e : ℕ × Tree). d.0 < e.0) es → All (λ (e : ℕ × Tree). substitution_of es e.0 ≡ e.1) es
listed-terms [] order k d h = absurd (omega (arith, h))
listed-terms (e ∷ es) order zero d h = let q : (e.0 == e.0) ≡ true = grind arith in rw q refl
listed-terms (e ∷ es) order (suc k) d h =
    let later : k < length es = omega (arith, h) in
    let p : e.0 < (get_or es k d).0 = order 0 (suc k) d (omega arith) h in
    let q : (e.0 == (get_or es k d).0) ≡ false = grind arith in
    rw q (listed-terms es (λ i j x a b. order (suc i) (suc j) x (omega (arith, a)) (omega (arith, b))) k d later)

-- a list that gives no variable itself, and is fixed and most general
module _ (es : List (ℕ × Tree)) (s t : Tree) (order : AllPairs (λ (d e : ℕ × Tree). d.0 < e.0) es) (general : IsMostGeneralUnifier (substitution_of es) s t) (fixed : (n : ℕ) → instance (substitution_of es) (substitution_of es n) ≡ substitution_of es n) (bound : All (λ (e : ℕ × Tree). ¬ (substitution_of es e.0 ≡ variable e.0)) es) where
  listed : All (λ (e : ℕ × Tree). substitution_of es e.0 ≡ e.1) es
  listed = listed-terms es order

  pub list_applied : IsApplied es s t
  list_applied = record {
    in_order = order;
    domain = λ k d h. inside_of (get_or es k d) (bound k d h);
    range = λ k d h n c. range_of (get_or es k d) (bound k d h) (listed k d h) n c;
    apart = λ k d h n c j e i q. bound j e i (fixed_variable (substitution_of es) (substitution_of es (get_or es k d).0) (fixed (get_or es k d).0) (get_or es j e).0 (subst₂ (λ u x. Contains (variables_of u) x) (sym (listed k d h)) (sym q) c));
  }
    where
      inside_of : (e : ℕ × Tree) → ¬ (substitution_of es e.0 ≡ variable e.0) → Contains (variables_of_both s t) e.0
      inside_of e ne = elim (contains_decides (variables_of_both s t) e.0) [ inl c ↦ c | inr outside ↦ absurd (ne (outside_same (substitution_of es) s t general fixed e.0 outside)) ]

      range_of : (e : ℕ × Tree) → ¬ (substitution_of es e.0 ≡ variable e.0) → substitution_of es e.0 ≡ e.1 → (n : ℕ) → Contains (variables_of e.1) n → Contains (variables_of_both s t) n
      range_of e ne is n c =
          let here : Contains (variables_of (substitution_of es e.0)) n = subst (λ u. Contains (variables_of u) n) (sym is) c in
          range_inside (substitution_of es) s t general fixed e.0 n here (λ q. ne (subst (λ x. substitution_of es x ≡ variable x) (sym q) (fixed_variable (substitution_of es) (substitution_of es e.0) (fixed e.0) n here)))
