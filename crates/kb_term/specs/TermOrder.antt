-- The order of terms is a total order, and its equality is equality.
use Rattle.std.specs.Prelude.{ℕ, ◌≡◌, ◌⊎◌, Bool}
use Rattle.std.proofs.Common.{refl, sym, ap, ap₂, ◌∙◌, arith, inl, inr, ⊎_elim}
use Rattle.std.proofs.lemmas.Bool.Decides.{nat_tests}
use Rattle.std.specs.declared.cmp.Ordering.{Ordering}
use Rattle.std.specs.declared.cmp.Ordering.TheVariants.{Less, Equal, Greater}
use Rattle.std.specs.Ordering.{nat_cmp, ordering_then, ordering_reverse, is_eq}
use Rattle.std.specs.Cmp.{IsTotalOrder}
use Rattle.kb_lemmas.proofs.Booleans.{then_equal}
use Rattle.kb_term.specs.Tree.{Tree, Trees, variable, apply, no_trees, more_trees, tree_cmp, trees_cmp}
use Rattle.kb_term.specs.Pair.{Pair, pair_cmp}
use Rattle.kb_term.specs.View.{tree_of}
use Rattle.kb_term.specs.declared.term.Term.{Term}

nat_flip : (x y : ℕ) → nat_cmp x y ≡ ordering_reverse (nat_cmp y x)
nat_flip x y = grind (arith, nat_tests)

nat_equal : (x y : ℕ) → nat_cmp x y ≡ Equal → x ≡ y
nat_equal x y e = grind (arith, nat_tests)

nat_less : (x y z : ℕ) → nat_cmp x y ≡ Less → nat_cmp y z ≡ Less → nat_cmp x z ≡ Less
nat_less x y z e d = grind (arith, nat_tests)

nat_same : (x : ℕ) → nat_cmp x x ≡ Equal
nat_same x = grind (arith, nat_tests)

then_flip : (a b : Ordering) → ordering_then (ordering_reverse a) (ordering_reverse b) ≡ ordering_reverse (ordering_then a b)
then_flip Less b = refl
then_flip Equal b = refl
then_flip Greater b = refl

-- the first decides, or it is equal and the second does
then_less : (a b : Ordering) → ordering_then a b ≡ Less → (a ≡ Less) ⊎ ((a ≡ Equal) × (b ≡ Less))
then_less Less b e = inl refl
then_less Equal b e = inr (refl, e)
then_less Greater b e = absurd (cc)

mutual
  tree_flip : (s t : Tree) → tree_cmp s t ≡ ordering_reverse (tree_cmp t s)
  tree_flip (variable m) (variable n) = nat_flip m n
  tree_flip (variable m) (apply g us) = refl
  tree_flip (apply f ts) (variable n) = refl
  tree_flip (apply f ts) (apply g us) = ap₂ ordering_then (nat_flip f g) (trees_flip ts us) ∙ then_flip (nat_cmp g f) (trees_cmp us ts)

  trees_flip : (ss ts : Trees) → trees_cmp ss ts ≡ ordering_reverse (trees_cmp ts ss)
  trees_flip no_trees no_trees = refl
  trees_flip no_trees (more_trees t ts) = refl
  trees_flip (more_trees s ss) no_trees = refl
  trees_flip (more_trees s ss) (more_trees t ts) = ap₂ ordering_then (tree_flip s t) (trees_flip ss ts) ∙ then_flip (tree_cmp t s) (trees_cmp ts ss)

mutual
  pub tree_cmp-equal : (s t : Tree) → tree_cmp s t ≡ Equal → s ≡ t
  tree_cmp-equal (variable m) (variable n) e = ap variable (nat_equal m n e)
  tree_cmp-equal (variable m) (apply g us) e = absurd (cc)
  tree_cmp-equal (apply f ts) (variable n) e = absurd (cc)
  tree_cmp-equal (apply f ts) (apply g us) e = let h = then_equal (nat_cmp f g) (trees_cmp ts us) e in ap₂ apply (nat_equal f g h.0) (trees_cmp-equal ts us h.1)

  trees_cmp-equal : (ss ts : Trees) → trees_cmp ss ts ≡ Equal → ss ≡ ts
  trees_cmp-equal no_trees no_trees e = refl
  trees_cmp-equal no_trees (more_trees t ts) e = absurd (cc)
  trees_cmp-equal (more_trees s ss) no_trees e = absurd (cc)
  trees_cmp-equal (more_trees s ss) (more_trees t ts) e = let h = then_equal (tree_cmp s t) (trees_cmp ss ts) e in ap₂ more_trees (tree_cmp-equal s t h.0) (trees_cmp-equal ss ts h.1)

-- less and then less, in a lexicographic pair of orders
then_trans : (a b c d e f : Ordering) → (a ≡ Less → c ≡ Less → e ≡ Less) → (a ≡ Equal → e ≡ c) → (c ≡ Equal → e ≡ a) → (b ≡ Less → d ≡ Less → f ≡ Less) → ordering_then a b ≡ Less → ordering_then c d ≡ Less → ordering_then e f ≡ Less
then_trans a b c d e f h k l r p q = ⊎_elim (λ x. ⊎_elim (λ y. first (h x y)) (λ y. first (l y.0 ∙ x)) (then_less c d q)) (λ x. ⊎_elim (λ y. first (k x.0 ∙ y)) (λ y. ap₂ ordering_then (k x.0 ∙ y.0) (r x.1 y.1)) (then_less c d q)) (then_less a b p)
  where
    first : e ≡ Less → ordering_then e f ≡ Less
    first i = ap (λ o. ordering_then o f) i

mutual
  tree_less : (s t u : Tree) → tree_cmp s t ≡ Less → tree_cmp t u ≡ Less → tree_cmp s u ≡ Less
  tree_less (variable m) (variable n) (variable k) e d = nat_less m n k e d
  tree_less (variable m) (variable n) (apply g us) e d = refl
  tree_less (variable m) (apply g us) (variable k) e d = absurd (cc)
  tree_less (variable m) (apply g us) (apply h vs) e d = refl
  tree_less (apply f ts) (variable n) u e d = absurd (cc)
  tree_less (apply f ts) (apply g us) (variable k) e d = absurd (cc)
  tree_less (apply f ts) (apply g us) (apply h vs) e d =
      then_trans (nat_cmp f g) (trees_cmp ts us) (nat_cmp g h) (trees_cmp us vs) (nat_cmp f h) (trees_cmp ts vs) (nat_less f g h) (λ x. ap (λ k. nat_cmp k h) (nat_equal f g x)) (λ x. ap (nat_cmp f) (sym (nat_equal g h x))) (trees_less ts us vs) e d

  trees_less : (ss ts us : Trees) → trees_cmp ss ts ≡ Less → trees_cmp ts us ≡ Less → trees_cmp ss us ≡ Less
  trees_less no_trees no_trees us e d = absurd (cc)
  trees_less no_trees (more_trees t ts) no_trees e d = absurd (cc)
  trees_less no_trees (more_trees t ts) (more_trees u us) e d = refl
  trees_less (more_trees s ss) no_trees us e d = absurd (cc)
  trees_less (more_trees s ss) (more_trees t ts) no_trees e d = absurd (cc)
  trees_less (more_trees s ss) (more_trees t ts) (more_trees u us) e d =
      then_trans (tree_cmp s t) (trees_cmp ss ts) (tree_cmp t u) (trees_cmp ts us) (tree_cmp s u) (trees_cmp ss us) (tree_less s t u) (λ x. ap (λ k. tree_cmp k u) (tree_cmp-equal s t x)) (λ x. ap (tree_cmp s) (sym (tree_cmp-equal t u x))) (trees_less ss ts us) e d

flip_same : (o : Ordering) → o ≡ ordering_reverse o → o ≡ Equal
flip_same Less e = absurd (cc)
flip_same Equal e = refl
flip_same Greater e = absurd (cc)

pub tree_cmp-same : (t : Tree) → tree_cmp t t ≡ Equal
tree_cmp-same t = flip_same (tree_cmp t t) (tree_flip t t)

-- the order of terms of the program
abbrev pub term_cmp : Term → Term → Ordering
term_cmp s t = tree_cmp (tree_of s) (tree_of t)

-- whether two terms of the program stand for one term
abbrev pub term_eq : Term → Term → Bool
term_eq s t = is_eq (term_cmp s t)

pub term_cmp-total : IsTotalOrder term_cmp
term_cmp-total = record {
  antisymm = λ s t. tree_flip (tree_of s) (tree_of t);
  trans = λ s t u. tree_less (tree_of s) (tree_of t) (tree_of u);
  congr = λ s t u e. ap (λ k. tree_cmp k (tree_of u)) (tree_cmp-equal (tree_of s) (tree_of t) e);
}

-- whether two pairs are one
abbrev pub pair_eq : Pair → Pair → Bool
pair_eq d e = is_eq (pair_cmp d e)

pub pair_cmp-total : IsTotalOrder pair_cmp
pair_cmp-total = record {
  antisymm = λ d e. ap₂ ordering_then (tree_flip d.first e.first) (tree_flip d.second e.second) ∙ then_flip (tree_cmp e.first d.first) (tree_cmp e.second d.second);
  trans = λ d e f.
      then_trans (tree_cmp d.first e.first) (tree_cmp d.second e.second) (tree_cmp e.first f.first) (tree_cmp e.second f.second) (tree_cmp d.first f.first) (tree_cmp d.second f.second) (tree_less d.first e.first f.first) (λ x. ap (λ k. tree_cmp k f.first) (tree_cmp-equal d.first e.first x)) (λ x. ap (tree_cmp d.first) (sym (tree_cmp-equal e.first f.first x))) (tree_less d.second e.second f.second);
  congr = λ d e f x.
      let h = then_equal (tree_cmp d.first e.first) (tree_cmp d.second e.second) x in
      ap₂ ordering_then (ap (λ k. tree_cmp k f.first) (tree_cmp-equal d.first e.first h.0)) (ap (λ k. tree_cmp k f.second) (tree_cmp-equal d.second e.second h.1));
}
