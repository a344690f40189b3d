-- Nodes after a fork, one label and one node after another.
use Rattle.std.proofs.Common.{ℕ, zero, suc, ◌≡◌, ◌<◌, false, List, [], ◌∷◌, length, map, refl, ap, sym, ◌∙◌, subst, arith, ⊎_elim}
use Rattle.kb_label.specs.Names.{Name, has, relabel}
use Rattle.kb_label.proofs.Sets.{relabel-absent}
use Rattle.kb_node.specs.declared.node.LabelKind.{LabelKind}
use Rattle.kb_node.specs.declared.node.LabelKind.TheVariants.{R0, R1, E, C0, C1, X}
use Rattle.mkb_model.specs.Plain.{PlainNode, label_in, label_at}
use Rattle.mkb_model.specs.Effects.{forked_node, with_label, with_label_in}
use Rattle.mkb_model.proofs.commits.Roles.{below, label_beyond}
use Rattle.mkb_rules.specs.Accounts.{Inherits, InheritNodes}
use Rattle.mkb_rules.specs.Forking.{fork_at}

-- the children of p stand in its place in one label
abbrev pub relabel_at : Name → ℕ → LabelKind → List PlainNode → List PlainNode
relabel_at p n k xs = with_label n k (relabel p (label_at xs n k)) xs

same_in : (x : PlainNode) (k : LabelKind) → with_label_in x k (label_in x k) ≡ x
same_in x R0 = refl
same_in x R1 = refl
same_in x E = refl
same_in x C0 = refl
same_in x C1 = refl
same_in x X = refl

-- a label put in its own place changes nothing
pub put_itself : (xs : List PlainNode) (n : ℕ) (k : LabelKind) → with_label n k (label_at xs n k) xs ≡ xs
put_itself [] n k = refl
put_itself (x ∷ xs) zero k = ap (λ y. y ∷ xs) (same_in x k)
put_itself (x ∷ xs) (suc n) k = ap (λ ys. x ∷ ys) (put_itself xs n k)

-- where p is not named nothing changes
pub relabel_nobody : (p : Name) (n : ℕ) (k : LabelKind) (xs : List PlainNode) → has (label_at xs n k) p ≡ false → xs ≡ relabel_at p n k xs
relabel_nobody p n k xs h = sym (ap (λ l. with_label n k l xs) (relabel-absent p (label_at xs n k) h) ∙ put_itself xs n k)

-- all six labels of a node
pub six_labels : (p : Name) (n : ℕ) (xs : List PlainNode) → relabel_at p n X (relabel_at p n C1 (relabel_at p n C0 (relabel_at p n E (relabel_at p n R1 (relabel_at p n R0 xs))))) ≡ fork_at p n xs
six_labels p n [] = refl
six_labels p zero (x ∷ xs) = refl
six_labels p (suc n) (x ∷ xs) = ap (λ ys. x ∷ ys) (six_labels p n xs)

-- each of them is as it was when its turn comes
labels_before : (p : Name) (n : ℕ) (xs : List PlainNode)
    → (label_at (relabel_at p n R0 xs) n R1 ≡ label_at xs n R1) × (label_at (relabel_at p n R1 (relabel_at p n R0 xs)) n E ≡ label_at xs n E)
    × (label_at (relabel_at p n E (relabel_at p n R1 (relabel_at p n R0 xs))) n C0 ≡ label_at xs n C0)
    × (label_at (relabel_at p n C0 (relabel_at p n E (relabel_at p n R1 (relabel_at p n R0 xs)))) n C1 ≡ label_at xs n C1)
    × (label_at (relabel_at p n C1 (relabel_at p n C0 (relabel_at p n E (relabel_at p n R1 (relabel_at p n R0 xs))))) n X ≡ label_at xs n X)
labels_before p n [] = (refl, refl, refl, refl, refl)
labels_before p zero (x ∷ xs) = (refl, refl, refl, refl, refl)
labels_before p (suc n) (x ∷ xs) = labels_before p n xs

-- the children inherit a node if they inherit each of its labels when its turn comes
pub node_inherited : (p : Name) (n : ℕ) (xs one two three four five : List PlainNode)
    → one ≡ relabel_at p n R0 xs → two ≡ relabel_at p n R1 one → three ≡ relabel_at p n E two → four ≡ relabel_at p n C0 three → five ≡ relabel_at p n C1 four
    → Inherits p (label_at xs n R0) → Inherits p (label_at one n R1) → Inherits p (label_at two n E) → Inherits p (label_at three n C0) → Inherits p (label_at four n C1) → Inherits p (label_at five n X)
    → (k : LabelKind) → Inherits p (label_at xs n k)
node_inherited p n xs one two three four five is_1 is_2 is_3 is_4 is_5 h_1 h_2 h_3 h_4 h_5 h_6 = go
  where
    two_is : two ≡ relabel_at p n R1 (relabel_at p n R0 xs)
    two_is = is_2 ∙ ap (relabel_at p n R1) is_1

    three_is : three ≡ relabel_at p n E (relabel_at p n R1 (relabel_at p n R0 xs))
    three_is = is_3 ∙ ap (relabel_at p n E) two_is

    four_is : four ≡ relabel_at p n C0 (relabel_at p n E (relabel_at p n R1 (relabel_at p n R0 xs)))
    four_is = is_4 ∙ ap (relabel_at p n C0) three_is

    five_is : five ≡ relabel_at p n C1 (relabel_at p n C0 (relabel_at p n E (relabel_at p n R1 (relabel_at p n R0 xs))))
    five_is = is_5 ∙ ap (relabel_at p n C1) four_is

    go : (k : LabelKind) → Inherits p (label_at xs n k)
    go R0 = h_1
    go R1 = subst {A = List Name} (Inherits p) (ap (λ ys. label_at ys n R1) is_1 ∙ (labels_before p n xs).0) h_2
    go E = subst {A = List Name} (Inherits p) (ap (λ ys. label_at ys n E) two_is ∙ (labels_before p n xs).1) h_3
    go C0 = subst {A = List Name} (Inherits p) (ap (λ ys. label_at ys n C0) three_is ∙ (labels_before p n xs).2) h_4
    go C1 = subst {A = List Name} (Inherits p) (ap (λ ys. label_at ys n C1) four_is ∙ (labels_before p n xs).3) h_5
    go X = subst {A = List Name} (Inherits p) (ap (λ ys. label_at ys n X) five_is ∙ (labels_before p n xs).4) h_6

-- the first nodes are those after a fork of p
abbrev pub fork_front : Name → ℕ → List PlainNode → List PlainNode
fork_front p zero xs = xs
fork_front p (suc i) [] = []
fork_front p (suc i) (x ∷ xs) = forked_node p x ∷ fork_front p i xs

pub front_next : (p : Name) (i : ℕ) (xs : List PlainNode) → fork_at p i (fork_front p i xs) ≡ fork_front p (suc i) xs
front_next p zero [] = refl
front_next p zero (x ∷ xs) = refl
front_next p (suc i) [] = refl
front_next p (suc i) (x ∷ xs) = ap (λ ys. forked_node p x ∷ ys) (front_next p i xs)

pub front_all : (p : Name) (xs : List PlainNode) → fork_front p (length xs) xs ≡ map (forked_node p) xs
front_all p [] = refl
front_all p (x ∷ xs) = ap (λ ys. forked_node p x ∷ ys) (front_all p xs)

pub length_front : (p : Name) (i : ℕ) (xs : List PlainNode) → length (fork_front p i xs) ≡ length xs
length_front p zero xs = refl
length_front p (suc i) [] = refl
length_front p (suc i) (x ∷ xs) = ap suc (length_front p i xs)

-- the next node is as it was
pub label_front : (p : Name) (i : ℕ) (xs : List PlainNode) (k : LabelKind) → label_at (fork_front p i xs) i k ≡ label_at xs i k
label_front p zero xs k = refl
label_front p (suc i) [] k = refl
label_front p (suc i) (x ∷ xs) k = label_front p i xs k

-- the children inherit all nodes if they inherit those that are there
pub nodes_inherited : (p : Name) (i : ℕ) (xs : List PlainNode) → i ≡ length xs → ((m : ℕ) → m < i → (k : LabelKind) → Inherits p (label_at xs m k)) → InheritNodes p xs
nodes_inherited p i xs all first n k =
    ⊎_elim (λ h. first n (omega (arith, h, all)) k) (λ h. subst {A = List Name} (Inherits p) (sym (label_beyond xs n k h)) (λ bit. refl)) (below n (length xs))

-- the front of all of them is the list of the forked nodes
pub front_whole : (p : Name) (i : ℕ) (xs ys : List PlainNode) → ys ≡ fork_front p i xs → i ≡ length xs → ys ≡ map (forked_node p) xs
front_whole p i xs ys is all = is ∙ ap (λ (m : ℕ). fork_front p m xs) all ∙ front_all p xs
