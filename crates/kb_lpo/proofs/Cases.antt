-- Which case decides between two applications.
use Rattle.std.proofs.Common.{ℕ, ◌≡◌, ◌<◌, ◌≤◌, ◌+◌, ◌⊎◌, inl, inr, sym, ap, ◌∙◌, subst, subst₂, arith, List, length, map, ⊎_elim}
use Rattle.std.proofs.lemmas.Bool.{cases_lt, cases_eq}
use Rattle.std.proofs.lemmas.List.{length-map}
use Rattle.kb_term.specs.Tree.{Tree, apply, trees_of}
use Rattle.kb_term.specs.View.{tree_of}
use Rattle.kb_term.specs.declared.term.Term.{Term}
use Rattle.kb_lpo.specs.PathOrder.{IsAbove, LpoGreater}
use Rattle.kb_lpo.specs.Agreeing.{At, Between, HasWitness, IsAgreement, IsNoWitness}
use Rattle.kb_lpo.proofs.Exact.{by_symbol, by_arguments, by_witness, each_below, witness_by_symbol, witness_behind, witness_at_end, not_both_ways}
use Rattle.kb_lpo.proofs.Exact as Exact
use Rattle.kb_lpo.proofs.Places.{at_same, at_within}

-- s and t are applications of f and g to the terms ss and ts
module _ (p : List ℕ) (s t : Tree) (f g : ℕ) (ss ts : List Tree) (es : s ≡ apply f (trees_of ss)) (et : t ≡ apply g (trees_of ts)) where
  pub each_above : (n i : ℕ) → LpoGreater p s t → Between (λ u. LpoGreater p s u) ts n i
  each_above n i l = each_below p g n i s ts (subst (LpoGreater p s) et l)

  pub above_by_symbol : (i : ℕ) → IsAbove p f g → length ts ≤ i → Between (λ u. LpoGreater p s u) ts 0 i → LpoGreater p s t
  above_by_symbol i up h b = subst₂ (LpoGreater p) (sym es) (sym et) (by_symbol p f g i ss ts up h (subst (λ z. Between (λ u. LpoGreater p z u) ts 0 i) es b))

  pub above_by_witness : (n : ℕ) → HasWitness p t ss n → LpoGreater p s t
  above_by_witness n w = subst (λ z. LpoGreater p z t) (sym es) (by_witness p f n ss t w)

  pub witness_needed : ¬ (f ≡ g) → ¬ IsAbove p f g → LpoGreater p s t → HasWitness p t ss 0
  witness_needed d n l = subst (λ z. HasWitness p z ss 0) (sym et) (witness_by_symbol p f g ss ts d n (subst₂ (LpoGreater p) es et l))

  pub symbol_needed : ¬ (f ≡ g) → LpoGreater p s t → Between (IsNoWitness p t) ss 0 (length ss) → IsAbove p f g
  symbol_needed d l b = Exact.symbol_needed p f g (length ss) ss ts d (omega arith) (subst (λ z. Between (IsNoWitness p z) ss 0 (length ss)) et b) (subst₂ (LpoGreater p) es et l)

  same_symbol : f ≡ g → t ≡ apply f (trees_of ts)
  same_symbol e = et ∙ ap (λ z. apply z (trees_of ts)) (sym e)

  pub above_by_difference : (n i : ℕ) (u v : Tree) → f ≡ g → IsAgreement ss ts n → At ss n u → At ts n v → LpoGreater p u v → length ts ≤ i → Between (λ u. LpoGreater p s u) ts (n + 1) i → LpoGreater p s t
  above_by_difference n i u v e a b c l h w = subst₂ (LpoGreater p) (sym es) (sym (same_symbol e)) (by_arguments p f n i ss ts u v a b c l h (subst (λ z. Between (λ u. LpoGreater p z u) ts (n + 1) i) es w))

  pub witness_after_difference : (n : ℕ) (u v : Tree) → f ≡ g → IsAgreement ss ts n → At ss n u → At ts n v → ¬ LpoGreater p u v → LpoGreater p s t → HasWitness p t ss (n + 1)
  witness_after_difference n u v e a b c m l = subst (λ z. HasWitness p z ss (n + 1)) (sym (same_symbol e)) (witness_behind p f n ss ts u v a b c m (subst₂ (LpoGreater p) es (same_symbol e) l))

  pub witness_after_end : (n : ℕ) → f ≡ g → IsAgreement ss ts n → (length ss ≤ n) ⊎ (length ts ≤ n) → LpoGreater p s t → HasWitness p t ss n
  witness_after_end n e a h l = subst (λ z. HasWitness p z ss n) (sym (same_symbol e)) (witness_at_end p f n ss ts a h (subst₂ (LpoGreater p) es (same_symbol e) l))

-- where there is a witness, one is found before the end
pub witness_before : (p : List ℕ) (t : Tree) (items : List Term) (n i : ℕ) → HasWitness p t (map tree_of items) n → Between (IsNoWitness p t) (map tree_of items) n i → i < length items
witness_before p t items n i w b = ⊎_elim (λ h. h) (λ h. absurd (let l = length-map items tree_of in not_both_ways p t (map tree_of items) n i (omega arith) w b)) (cases_lt i (length items))

-- a witness from the place on is the member there, or stands behind it
pub witness_here_or_behind : (p : List ℕ) (t : Tree) (xs : List Tree) (k : ℕ) (u : Tree) → At xs k u → HasWitness p t xs k → HasWitness p t xs (k + 1) ⊎ ((u ≡ t) ⊎ LpoGreater p u t)
witness_here_or_behind p t xs k u a (j, v, h, b, w) =
    ⊎_elim (λ e. inr (subst (λ z. (z ≡ t) ⊎ LpoGreater p z t) (at_same xs k v u (subst (λ z. At xs z v) e b) a) w)) (λ d. inl (j, v, omega (arith, d), b, w)) (cases_eq j k)

-- no witness stands behind the end
pub no_witness_at_end : (p : List ℕ) (t : Tree) (items : List Term) (k : ℕ) → length items ≤ k → HasWitness p t (map tree_of items) k → ⊥
no_witness_at_end p t items k h (j, v, i, b, w) = let l = at_within (map tree_of items) j v b in let m = length-map items tree_of in omega arith
