-- A test of two lists of terms, member by member.
use Rattle.std.proofs.Common.{◌≡◌, refl, sym, ap, ap₂, ◌∙◌, ℕ, suc, List, [], ◌∷◌, length, Bool, true, false}
use Rattle.std.specs.Prelude.{map, ◌&&◌, ◌==◌}
use Rattle.std.proofs.lemmas.Bool.{eq-eqb, ne_eqb}
use Rattle.kb_term.specs.declared.term.Symbol.{Symbol}
use Rattle.kb_term.specs.declared.term.Term.TheVariants.{App}
use Rattle.kb_term.specs.Tree.{Tree, variable, apply, trees_of, trees_eq, tree_eq}
use Rattle.kb_term.specs.Substitution.{rename, instances}
use Rattle.kb_term.specs.Paired.{stands_alike, stand_alike, is_paired, are_paired}
use Rattle.kb_term.specs.View.{tree_of}
use Rattle.kb_term.specs.declared.term.Term.{Term}

-- as many members, and the test holds at each place
abbrev pub both : (Tree → Tree → Bool) → List Term → List Term → Bool
both P [] [] = true
both P [] (u ∷ us) = false
both P (t ∷ ts) [] = false
both P (t ∷ ts) (u ∷ us) = P (tree_of t) (tree_of u) && both P ts us

pub both-long : (P : Tree → Tree → Bool) (ts us : List Term) → ¬ (length ts ≡ length us) → both P ts us ≡ false
both-long P [] [] n = absurd (n refl)
both-long P [] (u ∷ us) n = refl
both-long P (t ∷ ts) [] n = refl
both-long P (t ∷ ts) (u ∷ us) n = ap (P (tree_of t) (tree_of u) &&◌) (both-long P ts us (λ e. n (ap suc e))) ∙ none (P (tree_of t) (tree_of u))
  where
    none : (b : Bool) → (b && false) ≡ false
    none true = refl
    none false = refl

-- the tests of arguments
pub both-alike : (x y : ℕ) (ts us : List Term) → stand_alike x y (trees_of (map tree_of ts)) (trees_of (map tree_of us)) ≡ both (stands_alike x y) ts us
both-alike x y [] [] = refl
both-alike x y [] (u ∷ us) = refl
both-alike x y (t ∷ ts) [] = refl
both-alike x y (t ∷ ts) (u ∷ us) = ap (stands_alike x y (tree_of t) (tree_of u) &&◌) (both-alike x y ts us)

pub both-paired : (a b : Tree) (ts us : List Term) → are_paired a b (trees_of (map tree_of ts)) (trees_of (map tree_of us)) ≡ both (is_paired a b) ts us
both-paired a b [] [] = refl
both-paired a b [] (u ∷ us) = refl
both-paired a b (t ∷ ts) [] = refl
both-paired a b (t ∷ ts) (u ∷ us) = ap (is_paired a b (tree_of t) (tree_of u) &&◌) (both-paired a b ts us)

-- the same under two renamings
abbrev pub same_under : (ℕ → ℕ) → (ℕ → ℕ) → Tree → Tree → Bool
same_under r q s t = tree_eq (rename r s) (rename q t)

pub both-same : (r q : ℕ → ℕ) (ts us : List Term) → trees_eq (instances (λ n. variable (r n)) (trees_of (map tree_of ts))) (instances (λ n. variable (q n)) (trees_of (map tree_of us))) ≡ both (same_under r q) ts us
both-same r q [] [] = refl
both-same r q [] (u ∷ us) = refl
both-same r q (t ∷ ts) [] = refl
both-same r q (t ∷ ts) (u ∷ us) = ap (same_under r q (tree_of t) (tree_of u) &&◌) (both-same r q ts us)

-- a test that compares symbols and then the arguments
abbrev pub IsByArguments : (Tree → Tree → Bool) → Type 0
IsByArguments P = (f g : ℕ) (ts us : List Term) → P (apply f (trees_of (map tree_of ts))) (apply g (trees_of (map tree_of us))) ≡ ((f == g) && both P ts us)

pub alike_by_arguments : (x y : ℕ) → IsByArguments (stands_alike x y)
alike_by_arguments x y f g ts us = ap ((f == g) &&◌) (both-alike x y ts us)

pub paired_by_arguments : (a b : Tree) → IsByArguments (is_paired a b)
paired_by_arguments a b f g ts us = ap ((f == g) &&◌) (both-paired a b ts us)

pub same_by_arguments : (r q : ℕ → ℕ) → IsByArguments (same_under r q)
same_by_arguments r q f g ts us = ap ((f == g) &&◌) (both-same r q ts us)

opened : (P : Tree → Tree → Bool) → IsByArguments P → (s t : Term) (f g : Symbol) (ts us : List Tree) (xs ys : List Term) → s ≡ App f ts → t ≡ App g us → map tree_of xs ≡ ts → map tree_of ys ≡ us → P (tree_of s) (tree_of t) ≡ ((f.0 == g.0) && both P xs ys)
opened P q s t f g ts us xs ys i j d e =
    ap₂ (λ (a b : Term). P (tree_of a) (tree_of b)) i j
    ∙ ap₂ (λ (as' bs : List Tree). P (apply f.0 (trees_of as')) (apply g.0 (trees_of bs))) (sym d) (sym e)
    ∙ q f.0 g.0 xs ys

-- at equal symbols the arguments decide; other symbols, or another number of arguments, say no
pub opened-same : (P : Tree → Tree → Bool) → IsByArguments P → (s t : Term) (f g : Symbol) (ts us : List Tree) (xs ys : List Term) → s ≡ App f ts → t ≡ App g us → map tree_of xs ≡ ts → map tree_of ys ≡ us → f.0 ≡ g.0 → P (tree_of s) (tree_of t) ≡ both P xs ys
opened-same P q s t f g ts us xs ys i j d e h = opened P q s t f g ts us xs ys i j d e ∙ ap (◌&& both P xs ys) (eq-eqb f.0 g.0 h)

pub opened-other : (P : Tree → Tree → Bool) → IsByArguments P → (s t : Term) (f g : Symbol) (ts us : List Tree) (xs ys : List Term) → s ≡ App f ts → t ≡ App g us → map tree_of xs ≡ ts → map tree_of ys ≡ us → ¬ (f.0 ≡ g.0) → false ≡ P (tree_of s) (tree_of t)
opened-other P q s t f g ts us xs ys i j d e h = sym (opened P q s t f g ts us xs ys i j d e ∙ ap (◌&& both P xs ys) (ne_eqb f.0 g.0 h))

pub opened-long : (P : Tree → Tree → Bool) → IsByArguments P → (s t : Term) (f g : Symbol) (ts us : List Tree) (xs ys : List Term) → s ≡ App f ts → t ≡ App g us → map tree_of xs ≡ ts → map tree_of ys ≡ us → ¬ (length xs ≡ length ys) → false ≡ P (tree_of s) (tree_of t)
opened-long P q s t f g ts us xs ys i j d e h = sym (opened P q s t f g ts us xs ys i j d e ∙ ap ((f.0 == g.0) &&◌) (both-long P xs ys h) ∙ none (f.0 == g.0))
  where
    none : (b : Bool) → (b && false) ≡ false
    none true = refl
    none false = refl
