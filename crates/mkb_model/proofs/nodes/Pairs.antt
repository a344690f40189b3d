-- The pairs of the nodes: they stay where they are, and new ones come at the end.
use Rattle.std.proofs.Common.{ℕ, zero, suc, ◌+◌, ◌<◌, ◌≡◌, ◌⊎◌, inl, inr, refl, ap, ◌∙◌, arith, List, [], ◌∷◌, ◌++◌, map, Bool, true, false, cond, length, Option, Some, None, Ordering, Less, Equal, Greater, is_eq}
use Rattle.std.specs.List.{list_any}
use Rattle.std.proofs.lemmas.Bool.{or_cases, or_right, or_left}
use Rattle.kb_lemmas.proofs.Options.{none_some}
use Rattle.kb_term.specs.Tree.{Tree}
use Rattle.kb_term.specs.Pair.{Pair, pair_cmp}
use Rattle.kb_term.specs.declared.origin.RuleRef.{RuleRef}
use Rattle.kb_term.specs.declared.origin.Origin.{Origin}
use Rattle.kb_term.specs.declared.origin.Origin.TheVariants.{Overlap as ByOverlap}
use Rattle.kb_term.specs.declared.origin.Found.{Found}
use Rattle.kb_label.specs.Names.{Name}
use Rattle.mkb_model.specs.Plain.{PlainNode, pair_in}
use Rattle.mkb_model.specs.Effects.{with_label_in, with_label, loses, gains, gains_equation, gains_rule, oriented, with_node, new_node, is_present, node_of, pair_eq, forked_node, moved_to, rewritten, added, direction, if_strict}
use Rattle.kb_node.specs.declared.node.LabelKind.{LabelKind}
use Rattle.kb_node.specs.declared.node.LabelKind.TheVariants.{R0, R1, E, C0, C1, X}
use Rattle.kb_node.specs.declared.job.Deduced.{Deduced}
use Rattle.kb_term.proofs.CanonicalPairs.{pair_equal, pair_flip, flip}
use Rattle.mkb_model.specs.Ready.{KeepsPairs}
use Rattle.mkb_model.proofs.Lists.{clash}

pub pairs_trans : (xs ys zs : List PlainNode) → KeepsPairs xs ys → KeepsPairs ys zs → KeepsPairs xs zs
pairs_trans xs ys zs h k n q e = k n q (h n q e)

pub pair-put_in : (x : PlainNode) (k : LabelKind) (l : List Name) → (with_label_in x k l).pair ≡ x.pair
pair-put_in x R0 l = refl
pair-put_in x R1 l = refl
pair-put_in x E l = refl
pair-put_in x C0 l = refl
pair-put_in x C1 l = refl
pair-put_in x X l = refl

pub pair-put : (xs : List PlainNode) (n : ℕ) (k : LabelKind) (l : List Name) (m : ℕ) → pair_in (with_label n k l xs) m ≡ pair_in xs m
pair-put [] n k l m = refl
pair-put (x ∷ xs) zero k l zero = ap Some (pair-put_in x k l)
pair-put (x ∷ xs) zero k l (suc m) = refl
pair-put (x ∷ xs) (suc n) k l zero = refl
pair-put (x ∷ xs) (suc n) k l (suc m) = pair-put xs n k l m

-- both lists have the same pairs
abbrev pub SamePairs : List PlainNode → List PlainNode → Type 0
SamePairs xs ys = (n : ℕ) → pair_in ys n ≡ pair_in xs n

pub same_kept : (xs ys : List PlainNode) → SamePairs xs ys → KeepsPairs xs ys
same_kept xs ys h n q e = h n ∙ e

pub pairs-gains : (n : ℕ) (k : LabelKind) (l : List Name) (xs : List PlainNode) → SamePairs xs (gains n k l xs)
pairs-gains n k l xs m = pair-put xs n k _ m

pub pairs-loses : (n : ℕ) (k : LabelKind) (l : List Name) (xs : List PlainNode) → SamePairs xs (loses n k l xs)
pairs-loses n k l xs m = pair-put xs n k _ m

pub pairs-gains_equation : (n : ℕ) (l : List Name) (xs : List PlainNode) → SamePairs xs (gains_equation n l xs)
pairs-gains_equation n l xs m = pair-put xs n E _ m

pub pairs-gains_rule : (a : RuleRef) (l : List Name) (xs : List PlainNode) → SamePairs xs (gains_rule a l xs)
pairs-gains_rule a l xs m = pair-put (loses a.node E l xs) a.node _ _ m ∙ pair-put xs a.node E _ m

pub pairs-fork : (p : Name) (xs : List PlainNode) → SamePairs xs (map (forked_node p) xs)
pairs-fork p [] m = refl
pairs-fork p (x ∷ xs) zero = refl
pairs-fork p (x ∷ xs) (suc m) = pairs-fork p xs m

pub pairs-oriented : (p : Name) (a : RuleRef) (xs : List PlainNode) → SamePairs xs (oriented p a xs)
pairs-oriented p a xs m = pair-put (gains a.node _ (p ∷ []) (loses a.node E (p ∷ []) xs)) a.node _ _ m ∙ pair-put (loses a.node E (p ∷ []) xs) a.node _ _ m ∙ pair-put xs a.node E _ m

pairs-append : (xs : List PlainNode) (y : PlainNode) → KeepsPairs xs (xs ++ y ∷ [])
pairs-append [] y n q e = none_some e
pairs-append (x ∷ xs) y zero q e = e
pairs-append (x ∷ xs) y (suc n) q e = pairs-append xs y n q e

pub pairs-with_node : (p : Pair) (o : Origin) (xs : List PlainNode) → KeepsPairs xs (with_node p o xs)
pairs-with_node p o xs = go (is_present xs p)
  where
    go : (b : Bool) → KeepsPairs xs (cond b xs (xs ++ new_node p o ∷ []))
    go true = λ n q e. e
    go false = pairs-append xs (new_node p o)

-- ---- the number of a pair

pub pair_eq-eq : (p q : Pair) → pair_eq p q ≡ true → p ≡ q
pair_eq-eq p q h = pair_equal p q (is_equal (pair_cmp p q) h)
  where
    is_equal : (o : Ordering) → is_eq o ≡ true → o ≡ Equal
    is_equal Less e = clash e refl
    is_equal Equal e = refl
    is_equal Greater e = clash e refl

pub pair_eq-refl : (p : Pair) → pair_eq p p ≡ true
pair_eq-refl p = go (pair_cmp p p) (pair_flip p p)
  where
    go : (o : Ordering) → o ≡ flip o → is_eq o ≡ true
    go Less e = absurd (cc)
    go Equal e = refl
    go Greater e = absurd (cc)

-- the node that is found has the pair, and is below the length
pub found_node : (xs : List PlainNode) (p : Pair) → is_present xs p ≡ true → (pair_in xs (node_of xs p) ≡ Some p) × (node_of xs p < length xs)
found_node [] p h = clash h refl
found_node (x ∷ xs) p h = go (pair_eq x.pair p) refl (λ k. found_node xs p k) (or_cases (pair_eq x.pair p) (list_any (λ (y : PlainNode). pair_eq y.pair p) xs) h)
  where
    go : (b : Bool) → pair_eq x.pair p ≡ b → (is_present xs p ≡ true → (pair_in xs (node_of xs p) ≡ Some p) × (node_of xs p < length xs)) → (pair_eq x.pair p ≡ true) ⊎ (is_present xs p ≡ true)
        → (pair_in (x ∷ xs) (cond b 0 (node_of xs p + 1)) ≡ Some p) × (cond b 0 (node_of xs p + 1) < length (x ∷ xs))
    go true e ih d = (ap Some (pair_eq-eq x.pair p e), omega arith)
    go false e ih (inl d) = clash d e
    go false e ih (inr d) =
        let r = ih d in
        let s : node_of xs p + 1 ≡ suc (node_of xs p) = omega arith in
        (ap (pair_in (x ∷ xs)) s ∙ r.0, omega (arith, r.1))

present_at_end : (xs : List PlainNode) (p : Pair) (o : Origin) → is_present (xs ++ new_node p o ∷ []) p ≡ true
present_at_end [] p o = or_left (pair_eq p p) false (pair_eq-refl p)
present_at_end (x ∷ xs) p o = or_right (pair_eq x.pair p) (is_present (xs ++ new_node p o ∷ []) p) (present_at_end xs p o)

pub present-with_node : (p : Pair) (o : Origin) (xs : List PlainNode) → is_present (with_node p o xs) p ≡ true
present-with_node p o xs = go (is_present xs p) refl
  where
    go : (b : Bool) → is_present xs p ≡ b → is_present (cond b xs (xs ++ new_node p o ∷ [])) p ≡ true
    go true e = e
    go false e = present_at_end xs p o

-- after with_node the pair has a node
pub node-with_node : (p : Pair) (o : Origin) (xs : List PlainNode) → (pair_in (with_node p o xs) (node_of (with_node p o xs) p) ≡ Some p) × (node_of (with_node p o xs) p < length (with_node p o xs))
node-with_node p o xs = found_node (with_node p o xs) p (present-with_node p o xs)

-- ---- composite changes keep pairs

pub pairs-added : (l : List Name) (ds : List Deduced) (xs : List PlainNode) → KeepsPairs xs (added l ds xs)
pairs-added l [] xs = λ n q e. e
pairs-added l (d ∷ ds) xs =
    let ys : List PlainNode = with_node d.pair (ByOverlap d.outer d.inner d.position) xs in
    let zs : List PlainNode = gains_equation (node_of ys d.pair) l ys in
    pairs_trans xs zs (added l ds zs) (pairs_trans xs ys zs (pairs-with_node d.pair (ByOverlap d.outer d.inner d.position) xs) (same_kept ys zs (pairs-gains_equation (node_of ys d.pair) l ys))) (pairs-added l ds zs)

pub pairs-moved_to : (o : Option Pair) (g : Origin) (rest result : Tree) (le lr ll : List Name) (xs : List PlainNode) → KeepsPairs xs (moved_to o g rest result le lr ll xs)
pairs-moved_to None g rest result le lr ll xs = λ n q e. e
pairs-moved_to (Some p) g rest result le lr ll xs =
    let ys : List PlainNode = with_node p g xs in
    let n : ℕ = node_of ys p in
    let a : RuleRef = record { node = n; dir = direction rest result p } in
    λ m q e. pairs-gains_equation n ll (gains_equation n le (gains_rule a lr ys)) m ∙ pairs-gains_equation n le (gains_rule a lr ys) m ∙ pairs-gains_rule a lr ys m ∙ pairs-with_node p g xs m q e

pub pairs-rewritten : (l : List Name) (n w : ℕ) (at : List ℕ) (a : RuleRef) (found : Found) (result : Tree) (p : Pair) (xs : List PlainNode) → KeepsPairs xs (rewritten l n w at a found result p xs)
pairs-rewritten l n w at a found result p xs m q e =
    pairs-moved_to _ _ _ _ _ _ _ (loses n E l (loses n _ l (loses n _ (if_strict found l) xs))) m q (pairs-loses n E l (loses n _ l (loses n _ (if_strict found l) xs)) m ∙ pairs-loses n _ l (loses n _ (if_strict found l) xs) m ∙ pairs-loses n _ (if_strict found l) xs m ∙ e)
