-- Canonical pairs are equal exactly where the equations are the same up to variants and the sides' order.
use Rattle.std.proofs.Common.{ℕ, ◌≡◌, ◌⊎◌, inl, inr, refl, sym, ap, ap₂, ◌∙◌, arith, Bool, true, false, cond, nat_cmp, is_gt, Ordering, Less, Equal, Greater}
use Rattle.std.specs.Ordering.{ordering_then}
use Rattle.std.proofs.lemmas.Bool.Decides.{nat_tests}
use Rattle.kb_lemmas.proofs.Booleans.{then_equal}
use Rattle.kb_term.specs.Tree.{Tree, variable, apply, Trees, no_trees, more_trees, tree_cmp, trees_cmp}
use Rattle.kb_term.specs.Pair.{Pair, numbered, pair_cmp, lesser, canonical, IsVariantEquation, IsSameEquation}
use Rattle.kb_term.proofs.Variants.{variants_from_numbered, numbered_from_variants}

abbrev pub flip : Ordering → Ordering
flip Less = Greater
flip Equal = Equal
flip Greater = Less

pub nat_flip : (x y : ℕ) → nat_cmp y x ≡ flip (nat_cmp x y)
nat_flip x y = grind (arith, nat_tests)

pub nat_equal : (x y : ℕ) → nat_cmp x y ≡ Equal → x ≡ y
nat_equal x y e = grind (arith, nat_tests)

pub then_flip : (a b : Ordering) → ordering_then (flip a) (flip b) ≡ flip (ordering_then a b)
then_flip Less b = refl
then_flip Equal b = refl
then_flip Greater b = refl

mutual
  pub tree_flip : (s t : Tree) → tree_cmp t s ≡ flip (tree_cmp s t)
  tree_flip (variable m) (variable n) = nat_flip m n
  tree_flip (variable m) (apply g us) = refl
  tree_flip (apply f ts) (variable n) = refl
  tree_flip (apply f ts) (apply g us) = ap₂ ordering_then (nat_flip f g) (trees_flip ts us) ∙ then_flip (nat_cmp f g) (trees_cmp ts us)

  pub trees_flip : (ss ts : Trees) → trees_cmp ts ss ≡ flip (trees_cmp ss ts)
  trees_flip no_trees no_trees = refl
  trees_flip no_trees (more_trees t ts) = refl
  trees_flip (more_trees s ss) no_trees = refl
  trees_flip (more_trees s ss) (more_trees t ts) = ap₂ ordering_then (tree_flip s t) (trees_flip ss ts) ∙ then_flip (tree_cmp s t) (trees_cmp ss ts)

mutual
  pub tree_equal : (s t : Tree) → tree_cmp s t ≡ Equal → s ≡ t
  tree_equal (variable m) (variable n) e = ap variable (nat_equal m n e)
  tree_equal (variable m) (apply g us) e = absurd (cc)
  tree_equal (apply f ts) (variable n) e = absurd (cc)
  tree_equal (apply f ts) (apply g us) e = let h = then_equal (nat_cmp f g) (trees_cmp ts us) e in ap₂ apply (nat_equal f g h.0) (trees_equal ts us h.1)

  pub trees_equal : (ss ts : Trees) → trees_cmp ss ts ≡ Equal → ss ≡ ts
  trees_equal no_trees no_trees e = refl
  trees_equal no_trees (more_trees t ts) e = absurd (cc)
  trees_equal (more_trees s ss) no_trees e = absurd (cc)
  trees_equal (more_trees s ss) (more_trees t ts) e = let h = then_equal (tree_cmp s t) (trees_cmp ss ts) e in ap₂ more_trees (tree_equal s t h.0) (trees_equal ss ts h.1)

pub pair_flip : (d e : Pair) → pair_cmp e d ≡ flip (pair_cmp d e)
pair_flip d e = ap₂ ordering_then (tree_flip d.first e.first) (tree_flip d.second e.second) ∙ then_flip (tree_cmp d.first e.first) (tree_cmp d.second e.second)

pub pair_equal : (d e : Pair) → pair_cmp d e ≡ Equal → d ≡ e
pair_equal d e h = let k = then_equal (tree_cmp d.first e.first) (tree_cmp d.second e.second) h in ap₂ (λ (a b : Tree). record { first = a; second = b }) (tree_equal d.first e.first k.0) (tree_equal d.second e.second k.1)

-- which of two pairs is the lesser does not hang on their order
pub lesser_comm : (d e : Pair) → lesser d e ≡ lesser e d
lesser_comm d e = go (pair_cmp d e) refl
  where
    go : (c : Ordering) → pair_cmp d e ≡ c → lesser d e ≡ lesser e d
    go Less h = ap (λ c. cond (is_gt c) e d) h ∙ sym (ap (λ c. cond (is_gt c) d e) (pair_flip d e ∙ ap flip h))
    go Equal h = ap (λ c. cond (is_gt c) e d) h ∙ pair_equal d e h ∙ sym (ap (λ c. cond (is_gt c) d e) (pair_flip d e ∙ ap flip h))
    go Greater h = ap (λ c. cond (is_gt c) e d) h ∙ sym (ap (λ c. cond (is_gt c) d e) (pair_flip d e ∙ ap flip h))

pub lesser_cases : (d e : Pair) → (lesser d e ≡ d) ⊎ (lesser d e ≡ e)
lesser_cases d e = go (is_gt (pair_cmp d e))
  where
    go : (b : Bool) → (cond b e d ≡ d) ⊎ (cond b e d ≡ e)
    go true = inr refl
    go false = inl refl

pub canonical_from_same : (s t u v : Tree) → IsSameEquation (s, t) (u, v) → canonical s t ≡ canonical u v
canonical_from_same s t u v (inl h) = ap₂ lesser (numbered_from_variants s t u v h) (numbered_from_variants t s v u (h.0, h.1, h.3, h.2))
canonical_from_same s t u v (inr h) = ap₂ lesser (numbered_from_variants s t v u h) (numbered_from_variants t s u v (h.0, h.1, h.3, h.2)) ∙ lesser_comm (numbered v u) (numbered u v)

pub same_from_canonical : (s t u v : Tree) → canonical s t ≡ canonical u v → IsSameEquation (s, t) (u, v)
same_from_canonical s t u v e = go (lesser_cases (numbered s t) (numbered t s)) (lesser_cases (numbered u v) (numbered v u))
  where
    turn : IsVariantEquation (t, s) (u, v) → IsVariantEquation (s, t) (v, u)
    turn h = (h.0, h.1, h.3, h.2)

    turn' : IsVariantEquation (t, s) (v, u) → IsVariantEquation (s, t) (u, v)
    turn' h = (h.0, h.1, h.3, h.2)

    go : (canonical s t ≡ numbered s t) ⊎ (canonical s t ≡ numbered t s) → (canonical u v ≡ numbered u v) ⊎ (canonical u v ≡ numbered v u) → IsSameEquation (s, t) (u, v)
    go (inl a) (inl b) = inl (variants_from_numbered s t u v (sym a ∙ e ∙ b))
    go (inl a) (inr b) = inr (variants_from_numbered s t v u (sym a ∙ e ∙ b))
    go (inr a) (inl b) = inr (turn (variants_from_numbered t s u v (sym a ∙ e ∙ b)))
    go (inr a) (inr b) = inl (turn' (variants_from_numbered t s v u (sym a ∙ e ∙ b)))
