-- Members of lists of terms by their places.
use Rattle.std.proofs.Common.{ℕ, zero, suc, ◌≡◌, ◌<◌, ◌≤◌, ◌+◌, inl, inr, refl, sym, ap, ◌∙◌, subst, arith, List, [], ◌∷◌, length, get_or, map, ⊎_elim}
use Rattle.std.proofs.lemmas.Bool.{cases_eq}
use Rattle.kb_term.specs.Tree.{Tree, apply, trees_of, tree_size}
use Rattle.kb_term.specs.View.{tree_of}
use Rattle.kb_term.specs.declared.term.Term.{Term}
use Rattle.kb_lpo.specs.Agreeing.{At, Between}
use Rattle.kb_lpo.proofs.Lpo.{IsArgument, DifferFirst}

-- the member that an index reads
pub at_from : (items : List Term) (k : ℕ) (d : Term) → k < length items → d ≡ get_or items k d → At (map tree_of items) k (tree_of d)
at_from [] k d h e = absurd (omega arith)
at_from (x ∷ xs) zero d h e = ap tree_of (sym e)
at_from (x ∷ xs) (suc k) d h e = at_from xs k d (omega arith) e

pub at_same : (xs : List Tree) (k : ℕ) (u v : Tree) → At xs k u → At xs k v → u ≡ v
at_same [] k u v a b = absurd a
at_same (x ∷ xs) zero u v a b = sym a ∙ b
at_same (x ∷ xs) (suc k) u v a b = at_same xs k u v a b

pub at_within : (xs : List Tree) (k : ℕ) (u : Tree) → At xs k u → k < length xs
at_within [] k u a = absurd a
at_within (x ∷ xs) zero u a = omega arith
at_within (x ∷ xs) (suc k) u a = let h = at_within xs k u a in omega arith

pub at_argument : (xs : List Tree) (k : ℕ) (u : Tree) → At xs k u → IsArgument u (trees_of xs)
at_argument [] k u a = absurd a
at_argument (x ∷ xs) zero u a = inl a
at_argument (x ∷ xs) (suc k) u a = inr (at_argument xs k u a)

pub argument_at : (xs : List Tree) (u : Tree) → IsArgument u (trees_of xs) → (k : ℕ) × At xs k u
argument_at [] u i = absurd i
argument_at (x ∷ xs) u (inl e) = (0, e)
argument_at (x ∷ xs) u (inr i) = let r = argument_at xs u i in (suc r.0, r.1)

pub between_more : (P : Tree → Type 0) (xs : List Tree) (n i : ℕ) (v : Tree) → At xs i v → P v → Between P xs n i → Between P xs n (i + 1)
between_more P xs n i v a p b k u h j at = ⊎_elim (λ e. subst P (at_same xs i v u a (subst (λ z. At xs z u) e at)) p) (λ d. b k u h (omega (arith, d)) at) (cases_eq k i)

pub between_all : (P : Tree → Type 0) (xs : List Tree) (i : ℕ) → length xs ≤ i → Between P xs 0 i → (u : Tree) → IsArgument u (trees_of xs) → P u
between_all P xs i h b u a = let r = argument_at xs u a in let w = at_within xs r.0 u r.1 in b r.0 u (omega arith) (omega arith) r.1

-- a member is smaller than the application
pub at_smaller : (xs : List Tree) (k f : ℕ) (u : Tree) → At xs k u → tree_size u < tree_size (apply f (trees_of xs))
at_smaller [] k f u a = absurd a
at_smaller (x ∷ xs) zero f u a = let e : tree_size x ≡ tree_size u = ap tree_size a in omega arith
at_smaller (x ∷ xs) (suc k) f u a = let h = at_smaller xs k f u a in omega arith

-- lists that agree before the place, and differ there
pub differ_at : (ss ts : List Tree) (n : ℕ) (u v : Tree) → ((k : ℕ) (x y : Tree) → k < n → At ss k x → At ts k y → x ≡ y) → At ss n u → At ts n v → DifferFirst u v (trees_of ss) (trees_of ts)
differ_at [] ts n u v h a b = absurd a
differ_at (s ∷ ss) [] n u v h a b = absurd b
differ_at (s ∷ ss) (t ∷ ts) zero u v h a b = inl (a, b)
differ_at (s ∷ ss) (t ∷ ts) (suc n) u v h a b = inr (h 0 s t (omega arith) refl refl, differ_at ss ts n u v (λ k x y l c d. h (suc k) x y (omega arith) c d) a b)

-- the place of a first difference
pub differ_place : (ss ts : List Tree) (x y : Tree) → DifferFirst x y (trees_of ss) (trees_of ts) → (k : ℕ) × At ss k x × At ts k y × ((j : ℕ) (u v : Tree) → j < k → At ss j u → At ts j v → u ≡ v)
differ_place [] ts x y d = absurd d
differ_place (s ∷ ss) [] x y d = absurd d
differ_place (s ∷ ss) (t ∷ ts) x y (inl d) = (0, d.0, d.1, λ j u v h a b. absurd (omega arith))
differ_place (s ∷ ss) (t ∷ ts) x y (inr d) =
    let r = differ_place ss ts x y d.1 in
    (suc r.0, r.1, r.2, before d.0 r.0 r.3)
  where
    before : s ≡ t → (k : ℕ) → ((j : ℕ) (u v : Tree) → j < k → At ss j u → At ts j v → u ≡ v) → (j : ℕ) (u v : Tree) → j < suc k → At (s ∷ ss) j u → At (t ∷ ts) j v → u ≡ v
    before e k q zero u v h a b = sym a ∙ e ∙ b
    before e k q (suc j) u v h a b = q j u v (omega arith) a b
