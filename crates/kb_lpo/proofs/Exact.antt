-- When an application is greater, by the places of the arguments.
use Rattle.std.proofs.Common.{ℕ, zero, suc, ◌≡◌, ◌<◌, ◌≤◌, ◌+◌, ◌⊎◌, inl, inr, refl, sym, ap, ◌∙◌, subst, subst₂, arith, List, [], ◌∷◌, length, ⊎_elim, Contains}
use Rattle.std.proofs.lemmas.Bool.{cases_eq, cases_lt}
use Rattle.kb_term.specs.Tree.{Tree, Trees, variable, apply, trees_of, tree_size, variables_of}
use Rattle.kb_lpo.specs.PathOrder.{IsAbove, LpoGreater, variable_within}
use Rattle.kb_lpo.specs.Agreeing.{At, Between, HasWitness, IsAgreement, IsNoWitness}
use Rattle.kb_term.proofs.Steps.{occurs_to}
use Rattle.kb_term.proofs.Instances.{trees_decide}
use Rattle.kb_term.specs.Pair.{place_in}
use Rattle.kb_lpo.proofs.Lpo.{IsArgument, DifferFirst, PathGreater, has_argument, through_argument, symbol_above, first_greater, path_from_lpo, lpo_from_path}
use Rattle.kb_lpo.proofs.LpoLaws.{path_trans, lesser_variables}
use Rattle.kb_lpo.proofs.LpoDecides.{lpo_decides, Cases, path_cases, path_irreflexive}
use Rattle.kb_lpo.proofs.Places.{at_same, at_within, at_argument, argument_at, between_all, differ_at, differ_place, at_smaller}

pub by_argument : (p : List ℕ) (f k : ℕ) (ss : List Tree) (u t : Tree) → At ss k u → (u ≡ t) ⊎ LpoGreater p u t → LpoGreater p (apply f (trees_of ss)) t
by_argument p f k ss u t a (inl e) = lpo_from_path p (has_argument (subst (λ z. IsArgument z (trees_of ss)) e (at_argument ss k u a)))
by_argument p f k ss u t a (inr l) = lpo_from_path p (through_argument u (at_argument ss k u a) (path_from_lpo p l))

pub by_symbol : (p : List ℕ) (f g i : ℕ) (ss ts : List Tree) → IsAbove p f g → length ts ≤ i → Between (λ u. LpoGreater p (apply f (trees_of ss)) u) ts 0 i → LpoGreater p (apply f (trees_of ss)) (apply g (trees_of ts))
by_symbol p f g i ss ts up h b = lpo_from_path p (symbol_above up (λ u a. path_from_lpo p (between_all (λ u. LpoGreater p (apply f (trees_of ss)) u) ts i h b u a)))

pub not_by_symbol : (p : List ℕ) (f g i : ℕ) (ss ts : List Tree) → ¬ (f ≡ g) → ¬ IsAbove p f g → length ss ≤ i → Between (IsNoWitness p (apply g (trees_of ts))) ss 0 i → ¬ LpoGreater p (apply f (trees_of ss)) (apply g (trees_of ts))
not_by_symbol p f g i ss ts d n h b l = go (path_cases f (trees_of ss) (path_from_lpo p l) refl)
  where
    none : (u : Tree) → IsArgument u (trees_of ss) → IsNoWitness p (apply g (trees_of ts)) u
    none u a = between_all (IsNoWitness p (apply g (trees_of ts))) ss i h b u a

    go : Cases p f (trees_of ss) (apply g (trees_of ts)) → ⊥
    go (inl a) = (none (apply g (trees_of ts)) a).0 refl
    go (inr (inl (u, a, k))) = (none u a).1 (lpo_from_path p k)
    go (inr (inr (h, us, e, each, inl up))) = let q : h ≡ g = cc in n (subst (IsAbove p f) q up)
    go (inr (inr (h, us, e, each, inr (q, r)))) = d (cc)

-- the arguments are greater at the first difference, and the term is greater than those behind
pub by_arguments : (p : List ℕ) (f n i : ℕ) (ss ts : List Tree) (u v : Tree) → IsAgreement ss ts n → At ss n u → At ts n v → LpoGreater p u v → length ts ≤ i → Between (λ w. LpoGreater p (apply f (trees_of ss)) w) ts (n + 1) i → LpoGreater p (apply f (trees_of ss)) (apply f (trees_of ts))
by_arguments p f n i ss ts u v g a b l h between = lpo_from_path p (first_greater u v (differ_at ss ts n u v g.same a b) (path_from_lpo p l) each)
  where
    at_place : (w : Tree) (k : ℕ) → At ts k w → (k < n) ⊎ (n ≤ k) → PathGreater p (apply f (trees_of ss)) w
    at_place w k c (inl j) = has_argument (before k c j)
      where
        before : (k : ℕ) → At ts k w → k < n → IsArgument w (trees_of ss)
        before k c j = let r = there ss k (let q = g.within_first in omega arith) in subst (λ z. IsArgument z (trees_of ss)) (g.same k r.0 w j r.1 c) (at_argument ss k r.0 r.1)
          where
            there : (xs : List Tree) (k : ℕ) → k < length xs → (x : Tree) × At xs k x
            there [] k q = absurd (omega arith)
            there (x ∷ xs) zero q = (x, refl)
            there (x ∷ xs) (suc k) q = there xs k (omega arith)
    at_place w k c (inr j) = ⊎_elim (λ e. through_argument u (at_argument ss n u a) (subst (PathGreater p u) (at_same ts n v w b (subst (λ z. At ts z w) e c)) (path_from_lpo p l))) (λ d. path_from_lpo p (between k w (omega (arith, d)) (let q = at_within ts k w c in omega arith) c)) (cases_eq k n)

    each : (w : Tree) → IsArgument w (trees_of ts) → PathGreater p (apply f (trees_of ss)) w
    each w c = let r = argument_at ts w c in at_place w r.0 r.1 (cases_lt r.0 n)

-- no argument from the first difference on is a witness, and the arguments aren't greater there
pub not_by_arguments : (p : List ℕ) (f n : ℕ) (ss ts : List Tree) → IsAgreement ss ts n → ((u v : Tree) → At ss n u → At ts n v → ¬ LpoGreater p u v)
    → ((k : ℕ) (u : Tree) → n ≤ k → At ss k u → (k ≡ n × ((v : Tree) × At ts n v)) ⊎ IsNoWitness p (apply f (trees_of ts)) u) → ¬ LpoGreater p (apply f (trees_of ss)) (apply f (trees_of ts))
not_by_arguments p f n ss ts g stop behind l = go (path_cases f (trees_of ss) (path_from_lpo p l) refl)
  where
    there : (xs : List Tree) (k : ℕ) → k < length xs → (x : Tree) × At xs k x
    there [] k q = absurd (omega arith)
    there (x ∷ xs) zero q = (x, refl)
    there (x ∷ xs) (suc k) q = there xs k (omega arith)

    -- no argument is a witness
    not_before : (k : ℕ) (u : Tree) → k < n → At ss k u → (u ≡ apply f (trees_of ts)) ⊎ PathGreater p u (apply f (trees_of ts)) → ⊥
    not_before k u j a w = let r = there ts k (let q = g.within_second in omega arith) in
        let e = g.same k u r.0 j a r.1 in
        ⊎_elim (λ d. let q = at_smaller ts k f r.0 r.1 in let z : tree_size r.0 ≡ tree_size (apply f (trees_of ts)) = ap tree_size (sym e ∙ d) in omega arith)
        (λ m. path_irreflexive p u (path_trans p m u (has_argument (subst (λ z. IsArgument z (trees_of ts)) (sym e) (at_argument ts k r.0 r.1))))) w

    not_at : (u v : Tree) → At ss n u → At ts n v → (u ≡ apply f (trees_of ts)) ⊎ PathGreater p u (apply f (trees_of ts)) → ⊥
    not_at u v a b (inl e) = stop u v a b (lpo_from_path p (subst (λ z. PathGreater p z v) (sym e) (has_argument (at_argument ts n v b))))
    not_at u v a b (inr m) = stop u v a b (lpo_from_path p (path_trans p m v (has_argument (at_argument ts n v b))))

    not_behind : (k : ℕ) (u : Tree) → At ss k u → (k ≡ n × ((v : Tree) × At ts n v)) ⊎ IsNoWitness p (apply f (trees_of ts)) u → (u ≡ apply f (trees_of ts)) ⊎ PathGreater p u (apply f (trees_of ts)) → ⊥
    not_behind k u a (inl (e, (v, b))) w = not_at u v (subst (λ z. At ss z u) e a) b w
    not_behind k u a (inr (c, d)) (inl e) = c e
    not_behind k u a (inr (c, d)) (inr m) = d (lpo_from_path p m)

    none : (u : Tree) → IsArgument u (trees_of ss) → (u ≡ apply f (trees_of ts)) ⊎ PathGreater p u (apply f (trees_of ts)) → ⊥
    none u i w = let r = argument_at ss u i in ⊎_elim (λ j. not_before r.0 u j r.1 w) (λ j. not_behind r.0 u r.1 (behind r.0 u j r.1) w) (cases_lt r.0 n)

    no_difference : (x y : Tree) → DifferFirst x y (trees_of ss) (trees_of ts) → PathGreater p x y → ⊥
    no_difference x y d m = let r = differ_place ss ts x y d in ⊎_elim (λ j. path_irreflexive p x (subst (PathGreater p x) (sym (g.same r.0 x y j r.1 r.2)) m)) (λ j. later r.0 r.1 r.2 r.3 (cases_eq r.0 n) j) (cases_lt r.0 n)
      where
        later : (k : ℕ) → At ss k x → At ts k y → ((j : ℕ) (u v : Tree) → j < k → At ss j u → At ts j v → u ≡ v) → (k ≡ n) ⊎ (k ≡ n → ⊥) → n ≤ k → ⊥
        later k a b q (inl e) j = stop x y (subst (λ z. At ss z x) e a) (subst (λ z. At ts z y) e b) (lpo_from_path p m)
        later k a b q (inr e) j =
            let h = at_within ss k x a in let i = at_within ts k y b in
            let u = there ss n (omega arith) in let v = there ts n (omega arith) in
            g.differ u.0 v.0 u.1 v.1 (q n u.0 v.0 (omega (arith, e)) u.1 v.1)

    go : Cases p f (trees_of ss) (apply f (trees_of ts)) → ⊥
    go (inl i) = none (apply f (trees_of ts)) i (inl refl)
    go (inr (inl (u, i, m))) = none u i (inr m)
    go (inr (inr (h, us, e, each, inl up))) = let q : h ≡ f = cc in let r : IsAbove p f f = subst (IsAbove p f) q up in omega arith
    go (inr (inr (h, us, e, each, inr (q, (x, y, d, m))))) = let r : us ≡ trees_of ts = cc in no_difference x y (subst (DifferFirst x y (trees_of ss)) r d) m

-- the arguments aren't greater at the first difference, and none behind it is a witness
pub not_behind_difference : (p : List ℕ) (f n i : ℕ) (ss ts : List Tree) (u v : Tree) → IsAgreement ss ts n → At ss n u → At ts n v → ¬ LpoGreater p u v → length ss ≤ i → Between (IsNoWitness p (apply f (trees_of ts))) ss (n + 1) i → ¬ LpoGreater p (apply f (trees_of ss)) (apply f (trees_of ts))
not_behind_difference p f n i ss ts u v g a b m h w = not_by_arguments p f n ss ts g stop behind
  where
    stop : (x y : Tree) → At ss n x → At ts n y → ¬ LpoGreater p x y
    stop x y c d l = m (subst₂ (LpoGreater p) (at_same ss n x u c a) (at_same ts n y v d b) l)

    behind : (k : ℕ) (x : Tree) → n ≤ k → At ss k x → (k ≡ n × ((y : Tree) × At ts n y)) ⊎ IsNoWitness p (apply f (trees_of ts)) x
    behind k x j c = ⊎_elim (λ e. inl (e, (v, b))) (λ d. let q = at_within ss k x c in inr (w k x (omega (arith, d)) (omega arith) c)) (cases_eq k n)

-- one list ends where they agree, and no argument from there on is a witness
pub not_behind_end : (p : List ℕ) (f n i : ℕ) (ss ts : List Tree) → IsAgreement ss ts n → (length ss ≤ n) ⊎ (length ts ≤ n) → length ss ≤ i → Between (IsNoWitness p (apply f (trees_of ts))) ss n i → ¬ LpoGreater p (apply f (trees_of ss)) (apply f (trees_of ts))
not_behind_end p f n i ss ts g e h w = not_by_arguments p f n ss ts g stop behind
  where
    stop : (x y : Tree) → At ss n x → At ts n y → ¬ LpoGreater p x y
    stop x y c d l = let a = at_within ss n x c in let b = at_within ts n y d in ⊎_elim (λ j. omega arith) (λ j. omega arith) e

    behind : (k : ℕ) (x : Tree) → n ≤ k → At ss k x → (k ≡ n × ((y : Tree) × At ts n y)) ⊎ IsNoWitness p (apply f (trees_of ts)) x
    behind k x j c = let q = at_within ss k x c in inr (w k x j (omega arith) c)

-- a variable is below an application in which it occurs
pub above_variable : (p : List ℕ) (s : Tree) (f x : ℕ) (ss : Trees) → s ≡ apply f ss → Contains (variables_of s) x → LpoGreater p s (variable x)
above_variable p s f x ss e c = variable_within c (λ d. cc)

pub variable_above : (p : List ℕ) (s : Tree) (x : ℕ) → LpoGreater p s (variable x) → Contains (variables_of s) x
variable_above p s x l = occurs_to x s (lesser_variables x (path_from_lpo p l) refl)

-- what is below has its parts below
pub part_below : (p : List ℕ) (g k : ℕ) (s : Tree) (ts : List Tree) (v : Tree) → At ts k v → LpoGreater p s (apply g (trees_of ts)) → LpoGreater p s v
part_below p g k s ts v a l = lpo_from_path p (path_trans p (path_from_lpo p l) v (has_argument (at_argument ts k v a)))

-- with no witness, the symbol is above
pub symbol_needed : (p : List ℕ) (f g i : ℕ) (ss ts : List Tree) → ¬ (f ≡ g) → length ss ≤ i → Between (IsNoWitness p (apply g (trees_of ts))) ss 0 i → LpoGreater p (apply f (trees_of ss)) (apply g (trees_of ts)) → IsAbove p f g
symbol_needed p f g i ss ts d h w l = ⊎_elim (λ a. a) (λ n. absurd (not_by_symbol p f g i ss ts d (λ a. omega arith) h w l)) (cases_lt (place_in p f) (place_in p g))

-- some member from a place on is t or greater, or none is
pub witness_or_none : (p : List ℕ) (t : Tree) (xs : List Tree) (n : ℕ) → HasWitness p t xs n ⊎ Between (IsNoWitness p t) xs n (length xs)
witness_or_none p t [] n = inr (λ k u a b c. absurd c)
witness_or_none p t (x ∷ xs) (suc n) = ⊎_elim (λ w. inl (suc w.0, w.1, (omega arith), w.3, w.4)) (λ b. inr (later b)) (witness_or_none p t xs n)
  where
    later : Between (IsNoWitness p t) xs n (length xs) → Between (IsNoWitness p t) (x ∷ xs) (suc n) (length (x ∷ xs))
    later b zero u h i a = absurd (omega arith)
    later b (suc k) u h i a = b k u (omega arith) (omega arith) a
witness_or_none p t (x ∷ xs) zero = ⊎_elim (λ e. inl (0, x, omega arith, refl, inl e)) (λ d. ⊎_elim (λ l. inl (0, x, omega arith, refl, inr l)) (λ m. ⊎_elim (λ w. inl (suc w.0, w.1, omega arith, w.3, w.4)) (λ b. inr (all d m b)) (witness_or_none p t xs zero)) (lpo_decides p x t)) (trees_decide x t)
  where
    all : ¬ (x ≡ t) → ¬ LpoGreater p x t → Between (IsNoWitness p t) xs zero (length xs) → Between (IsNoWitness p t) (x ∷ xs) zero (length (x ∷ xs))
    all d m b zero u h i a = subst (IsNoWitness p t) a (d, m)
    all d m b (suc k) u h i a = b k u (omega arith) (omega arith) a

pub not_both_ways : (p : List ℕ) (t : Tree) (xs : List Tree) (n i : ℕ) → length xs ≤ i → HasWitness p t xs n → Between (IsNoWitness p t) xs n i → ⊥
not_both_ways p t xs n i h (k, u, q, a, w) b = let l = at_within xs k u a in let m = b k u q (omega arith) a in ⊎_elim m.0 m.1 w

pub by_witness : (p : List ℕ) (f n : ℕ) (ss : List Tree) (t : Tree) → HasWitness p t ss n → LpoGreater p (apply f (trees_of ss)) t
by_witness p f n ss t (k, u, h, a, w) = by_argument p f k ss u t a w

-- which case decides
pub witness_by_symbol : (p : List ℕ) (f g : ℕ) (ss ts : List Tree) → ¬ (f ≡ g) → ¬ IsAbove p f g → LpoGreater p (apply f (trees_of ss)) (apply g (trees_of ts)) → HasWitness p (apply g (trees_of ts)) ss 0
witness_by_symbol p f g ss ts d n l = ⊎_elim (λ w. w) (λ b. absurd (not_by_symbol p f g (length ss) ss ts d n (omega arith) b l)) (witness_or_none p (apply g (trees_of ts)) ss 0)

pub witness_behind : (p : List ℕ) (f n : ℕ) (ss ts : List Tree) (u v : Tree) → IsAgreement ss ts n → At ss n u → At ts n v → ¬ LpoGreater p u v → LpoGreater p (apply f (trees_of ss)) (apply f (trees_of ts)) → HasWitness p (apply f (trees_of ts)) ss (n + 1)
witness_behind p f n ss ts u v g a b m l = ⊎_elim (λ w. w) (λ h. absurd (not_behind_difference p f n (length ss) ss ts u v g a b m (omega arith) h l)) (witness_or_none p (apply f (trees_of ts)) ss (n + 1))

pub witness_at_end : (p : List ℕ) (f n : ℕ) (ss ts : List Tree) → IsAgreement ss ts n → (length ss ≤ n) ⊎ (length ts ≤ n) → LpoGreater p (apply f (trees_of ss)) (apply f (trees_of ts)) → HasWitness p (apply f (trees_of ts)) ss n
witness_at_end p f n ss ts g e l = ⊎_elim (λ w. w) (λ h. absurd (not_behind_end p f n (length ss) ss ts g e (omega arith) h l)) (witness_or_none p (apply f (trees_of ts)) ss n)

pub each_below : (p : List ℕ) (g n i : ℕ) (s : Tree) (ts : List Tree) → LpoGreater p s (apply g (trees_of ts)) → Between (λ u. LpoGreater p s u) ts n i
each_below p g n i s ts l k u h j a = part_below p g k s ts u a l
