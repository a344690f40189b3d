-- Where new pairs find room.
use Rattle.std.proofs.Common.{ℕ, ◌<◌, ◌≤◌, ◌≡◌, refl, sym, ap, ◌∙◌, subst, arith, List, [], ◌∷◌, ◌++◌, length, Some, None, Bool, true, false, cond, ⊎_elim}
use Rattle.std.specs.Prelude.{nat_lt}
use Rattle.std.proofs.lemmas.List.{length-append}
use Rattle.std.proofs.lemmas.Bool.Decides.{nat_tests}
use Rattle.kb_label.specs.Names.{Name, join, minus}
use Rattle.kb_label.specs.declared.verdict.Reason.TheVariants.{Nodes}
use Rattle.kb_term.specs.Pair.{Pair}
use Rattle.kb_term.specs.declared.origin.Origin.{Origin}
use Rattle.kb_term.specs.declared.origin.Origin.TheVariants.{Input}
use Rattle.kb_node.specs.declared.node.LabelKind.TheVariants.{R0, R1, E}
use Rattle.mkb_model.specs.Plain.{PlainNode, label_at}
use Rattle.mkb_model.proofs.Lists.{equal_or_more}
use Rattle.mkb_model.proofs.nodes.NewPairs.{length-with_nodes}
use Rattle.mkb_model.proofs.nodes.Pairs.{node-with_node}
use Rattle.mkb_model.proofs.commits.Roles.{length-put}
use Rattle.mkb_model.specs.Effects.{node_of, is_present, new_node, with_node, with_nodes, gains_equation, most_nodes, first_some, some_if}

-- a new pair of a full table finds no room
pub overfull : (q : Pair) (qs : List Pair) (xs : List PlainNode) → is_present xs q ≡ false → length xs ≡ most_nodes → most_nodes < length (with_nodes (q ∷ qs) xs)
overfull q qs xs e full = go (is_present xs q) e (length-with_nodes qs (with_node q (Input 0) xs))
  where
    go : (b : Bool) → b ≡ false → length (cond b xs (xs ++ new_node q (Input 0) ∷ [])) ≤ length (with_nodes qs (with_node q (Input 0) xs)) → most_nodes < length (with_nodes qs (with_node q (Input 0) xs))
    go true d more = absurd (cc)
    go false d more = omega (arith, more, full, length-append xs (new_node q (Input 0) ∷ []))

-- ---- the limit

pub limit-room : (n : ℕ) → n ≤ most_nodes → first_some (some_if (nat_lt most_nodes n) Nodes ∷ []) ≡ None
limit-room n h = let e : nat_lt 4096 n ≡ false = grind (arith, nat_tests) in ap (λ b. first_some (some_if b Nodes ∷ [])) e

pub limit-full : (n : ℕ) → most_nodes < n → first_some (some_if (nat_lt most_nodes n) Nodes ∷ []) ≡ Some Nodes
limit-full n h = let e : nat_lt 4096 n ≡ true = grind (arith, nat_tests) in ap (λ b. first_some (some_if b Nodes ∷ [])) e

-- ---- one pair after the other

-- the node that a pair has is there
pub node-there : (q : Pair) (o : Origin) (xs ys : List PlainNode) (n : ℕ) → ys ≡ with_node q o xs → n ≡ node_of ys q → n < length ys
node-there q o xs ys n is found =
    subst {A = List PlainNode} (λ zs. n < length zs) (sym is)
    (subst {A = ℕ} (λ m. m < length (with_node q o xs)) (sym (found ∙ ap (λ zs. node_of zs q) is)) (node-with_node q o xs).1)

-- where a pair has a node or there is room for one, there are no more nodes than there may be
pub room-add_one : (q : Pair) (o : Origin) (xs ys zs : List PlainNode) (n : ℕ) (l : List Name) → ys ≡ with_node q o xs → zs ≡ gains_equation n l ys → length xs ≤ most_nodes → ((is_present xs q ≡ false) × (length xs ≡ most_nodes) → ⊥) → length zs ≤ most_nodes
room-add_one q o xs ys zs n l is gained few room =
    omega (arith, ap length is, ap length gained, length-put ys n E (join (label_at ys n E) (minus (minus l (label_at ys n R0)) (label_at ys n R1))), go (is_present xs q) refl)
  where
    go : (b : Bool) → is_present xs q ≡ b → length (cond b xs (xs ++ new_node q o ∷ [])) ≤ most_nodes
    go true e = few
    go false e = ⊎_elim (λ h. absurd (room (e, h))) (λ h. omega (arith, length-append xs (new_node q o ∷ []), h)) (equal_or_more (length xs) most_nodes few)
