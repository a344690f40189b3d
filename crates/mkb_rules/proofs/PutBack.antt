-- Labels that are put anew and put back.
use Rattle.std.proofs.Common.{ℕ, zero, suc, ◌<◌, ◌≤◌, ◌≡◌, refl, sym, ap, ◌∙◌, arith, List, [], ◌∷◌, ◌++◌, length, take, Option, Some, None}
use Rattle.std.specs.Prelude.{All, slice_get, slice_set, option_map}
use Rattle.std.specs.Option.{option_map_or}
use Rattle.std.proofs.lemmas.List.{take-append-le, length-map}
use Rattle.kb_label.specs.Names.{Name}
use Rattle.kb_node.specs.declared.node.LabelKind.{LabelKind}
use Rattle.kb_node.specs.declared.node.LabelKind.TheVariants.{R0, R1, E, C0, C1, X}
use Rattle.kb_node.specs.Labelled.{Node, with_label_at, label_in as node_label, with_label as node_with_label}
use Rattle.mkb_model.specs.Plain.{PlainNode, label_in, label_at}
use Rattle.mkb_model.specs.Effects.{with_label_in, with_label}
use Rattle.mkb_model.proofs.commits.Roles.{length-put, put_same}
use Rattle.mkb_rules.specs.Parts.{plain_node, plain_nodes}
use Rattle.mkb_rules.specs.Nodes.{former_label, put_back, put_one_back}
use Rattle.mkb_rules.specs.declared.nodes.Replaced.{Replaced}

plain-with_label_in : (x : Node (List Name)) (k : LabelKind) (l : List Name) → plain_node (node_with_label x k l) ≡ with_label_in (plain_node x) k l
plain-with_label_in x R0 l = refl
plain-with_label_in x R1 l = refl
plain-with_label_in x E l = refl
plain-with_label_in x C0 l = refl
plain-with_label_in x C1 l = refl
plain-with_label_in x X l = refl

-- a label put into the table is put into the plain nodes
pub plain-with_label : (xs : List (Node (List Name))) (n : ℕ) (k : LabelKind) (l : List Name) → plain_nodes (with_label_at xs n k l) ≡ with_label n k l (plain_nodes xs)
plain-with_label [] n k l = refl
plain-with_label (x ∷ xs) zero k l = ap (λ y. y ∷ plain_nodes xs) (plain-with_label_in x k l)
plain-with_label (x ∷ xs) (suc n) k l = ap plain_nodes (behind (slice_get xs n)) ∙ ap (λ ys. plain_node x ∷ ys) (plain-with_label xs n k l)
  where
    behind : (o : Option (Node (List Name))) → option_map_or (λ (y : Node (List Name)). slice_set (x ∷ xs) (suc n) (node_with_label y k l)) o (x ∷ xs) ≡ (x ∷ option_map_or (λ (y : Node (List Name)). slice_set xs n (node_with_label y k l)) o xs)
    behind None = refl
    behind (Some y) = refl

plain-label_in : (x : Node (List Name)) (k : LabelKind) → label_in (plain_node x) k ≡ node_label x k
plain-label_in x R0 = refl
plain-label_in x R1 = refl
plain-label_in x E = refl
plain-label_in x C0 = refl
plain-label_in x C1 = refl
plain-label_in x X = refl

-- a label that the table gives is that of the plain node
pub plain-label : (xs : List (Node (List Name))) (n : ℕ) (k : LabelKind) (l : List Name) → option_map (λ (x : Node (List Name)). node_label x k) (slice_get xs n) ≡ Some l → l ≡ label_at (plain_nodes xs) n k
plain-label [] n k l h = absurd (cc)
plain-label (x ∷ xs) zero k l h = let e : node_label x k ≡ l = cc in sym (plain-label_in x k ∙ e)
plain-label (x ∷ xs) (suc n) k l h = plain-label xs n k l h

pub length-with_label : (xs : List (Node (List Name))) (n : ℕ) (k : LabelKind) (l : List Name) → length (with_label_at xs n k l) ≡ length xs
length-with_label xs n k l =
    sym (length-map (with_label_at xs n k l) plain_node) ∙ ap length (plain-with_label xs n k l) ∙ length-put (plain_nodes xs) n k l ∙ length-map xs plain_node

put_in-put_in : (x : PlainNode) (k : LabelKind) (l m : List Name) → with_label_in (with_label_in x k m) k l ≡ with_label_in x k l
put_in-put_in x R0 l m = refl
put_in-put_in x R1 l m = refl
put_in-put_in x E l m = refl
put_in-put_in x C0 l m = refl
put_in-put_in x C1 l m = refl
put_in-put_in x X l m = refl

put_in-own : (x : PlainNode) (k : LabelKind) → with_label_in x k (label_in x k) ≡ x
put_in-own x R0 = refl
put_in-own x R1 = refl
put_in-own x E = refl
put_in-own x C0 = refl
put_in-own x C1 = refl
put_in-own x X = refl

-- the own label put back undoes a change of it
put-undone : (xs : List PlainNode) (n : ℕ) (k : LabelKind) (l : List Name) → with_label n k (label_at xs n k) (with_label n k l xs) ≡ xs
put-undone [] n k l = refl
put-undone (x ∷ xs) zero k l = ap (λ y. y ∷ xs) (put_in-put_in x k (label_in x k) l ∙ put_in-own x k)
put-undone (x ∷ xs) (suc n) k l = ap (λ ys. x ∷ ys) (put-undone xs n k l)

-- of two labels that are put at one place the last one stays
pub put-twice : (xs : List PlainNode) (n : ℕ) (k : LabelKind) (l m : List Name) → with_label n k l (with_label n k m xs) ≡ with_label n k l xs
put-twice [] n k l m = refl
put-twice (x ∷ xs) zero k l m = ap (λ y. y ∷ xs) (put_in-put_in x k l m)
put-twice (x ∷ xs) (suc n) k l m = ap (λ ys. x ∷ ys) (put-twice xs n k l m)

length-put_one : (r : Replaced) (xs : List PlainNode) → length (put_one_back r xs) ≡ length xs
length-put_one r xs = length-put xs r.node.0 r.kind (former_label r.former (label_at xs r.node.0 r.kind))

pub length-put_back : (rs : List Replaced) (xs : List PlainNode) → length (put_back rs xs) ≡ length xs
length-put_back [] xs = refl
length-put_back (r ∷ rs) xs = length-put_one r (put_back rs xs) ∙ length-put_back rs xs

-- one label more that was replaced
pub put_back-more : (rs : List Replaced) (r : Replaced) (xs : List PlainNode) → put_back (rs ++ r ∷ []) xs ≡ put_back rs (put_one_back r xs)
put_back-more [] r xs = refl
put_back-more (q ∷ rs) r xs = ap (put_one_back q) (put_back-more rs r xs)

-- the last label that was replaced is put back into the table
pub put_back-last : (old new : List (Node (List Name))) (before rs : List Replaced) (r : Replaced) → before ≡ rs ++ r ∷ [] → plain_nodes new ≡ put_one_back r (plain_nodes old) → put_back rs (plain_nodes new) ≡ put_back before (plain_nodes old)
put_back-last old new before rs r split is =
    ap (put_back rs) is
    ∙ sym (put_back-more rs r (plain_nodes old))
    ∙ ap (λ qs. put_back qs (plain_nodes old)) (sym split)

-- a label is put anew, and how the one before is had back is kept
pub put_back-put : (rs : List Replaced) (r : Replaced) (xs : List PlainNode) (l : List Name) → r.node.0 < length xs → former_label r.former l ≡ label_at xs r.node.0 r.kind → put_back (rs ++ r ∷ []) (with_label r.node.0 r.kind l xs) ≡ put_back rs xs
put_back-put rs r xs l there own =
    let n = r.node.0 in
    let k = r.kind in
    put_back-more rs r (with_label n k l xs)
    ∙ ap (λ m. put_back rs (with_label n k (former_label r.former m) (with_label n k l xs))) (put_same xs n k l there)
    ∙ ap (λ m. put_back rs (with_label n k m (with_label n k l xs))) own
    ∙ ap (put_back rs) (put-undone xs n k l)

put-longer : (xs ys : List PlainNode) (n : ℕ) (k : LabelKind) (l : List Name) → n < length xs → with_label n k l (xs ++ ys) ≡ with_label n k l xs ++ ys
put-longer [] ys n k l h = absurd (omega (arith, h))
put-longer (x ∷ xs) ys zero k l h = refl
put-longer (x ∷ xs) ys (suc n) k l h = ap (λ zs. x ∷ zs) (put-longer xs ys n k l (omega (arith, h)))

label-longer : (xs ys : List PlainNode) (n : ℕ) (k : LabelKind) → n < length xs → label_at (xs ++ ys) n k ≡ label_at xs n k
label-longer [] ys n k h = absurd (omega (arith, h))
label-longer (x ∷ xs) ys zero k h = refl
label-longer (x ∷ xs) ys (suc n) k h = label-longer xs ys n k (omega (arith, h))

-- labels are put back in the nodes that were there
pub put_back-longer : (rs : List Replaced) (xs ys : List PlainNode) → All (λ (r : Replaced). r.node.0 < length xs) rs → put_back rs (xs ++ ys) ≡ put_back rs xs ++ ys
put_back-longer [] xs ys h = refl
put_back-longer (r ∷ rs) xs ys h =
    let zs = put_back rs xs in
    let there : r.node.0 < length zs = omega (arith, h 0 r (omega arith), length-put_back rs xs) in
    ap (put_one_back r) (put_back-longer rs xs ys (λ k d u. h (suc k) d (omega arith)))
    ∙ ap (λ l. with_label r.node.0 r.kind (former_label r.former l) (zs ++ ys)) (label-longer zs ys r.node.0 r.kind there)
    ∙ put-longer zs ys r.node.0 r.kind (former_label r.former (label_at zs r.node.0 r.kind)) there

-- nodes that come at the end change nothing of what is taken back
pub before-longer : (kept : ℕ) (rs : List Replaced) (xs ys : List PlainNode) → kept ≤ length xs → All (λ (r : Replaced). r.node.0 < length xs) rs → take kept (put_back rs (xs ++ ys)) ≡ take kept (put_back rs xs)
before-longer kept rs xs ys few h = ap (take kept) (put_back-longer rs xs ys h) ∙ take-append-le kept (put_back rs xs) ys (omega (arith, length-put_back rs xs))

-- as many nodes are there when labels have been put back
pub few-put_back : (kept : ℕ) (old new : List (Node (List Name))) (rs : List Replaced) → kept ≤ length old → plain_nodes new ≡ put_back rs (plain_nodes old) → kept ≤ length new
few-put_back kept old new rs few is = omega (arith, few, ap length is, length-map new plain_node, length-put_back rs (plain_nodes old), length-map old plain_node)
