-- Nodes as a table keeps them: one node, another label, the first nodes, one node more.
use Rattle.std.proofs.Common.{◌≡◌, ℕ, zero, suc, ◌<◌, ◌≤◌, List, [], ◌∷◌, ◌++◌, length, take, set, Some, refl, sym, ap, ap₂, ◌∙◌, arith}
use Rattle.std.specs.Prelude.{slice_get}
use Rattle.std.proofs.lemmas.Option.{get_or_from_slice_get, same_Some, none-some}
use Rattle.kb_term.specs.Tree.{Tree, variable}
use Rattle.kb_term.specs.Pair.{Pair}
use Rattle.kb_node.specs.Banked.{AreSides}
use Rattle.kb_node.specs.Labelled.{Node}
use Rattle.kb_node.specs.Stored.{node_of, pair_in, nodes_in}
use Rattle.kb_node.specs.declared.sides.Sides.{Sides}
use Rattle.kb_node.specs.declared.node.Entry.{Entry}

-- the cells of a pair's sides have that pair
pub pair_is : (terms : List Tree) (s : Sides) (e : Pair) → AreSides terms s e → pair_in terms s ≡ e
pair_is terms s e h =
    λ i. record { first = get_or_from_slice_get terms s.first.0 e.first (variable 0) h.first i; second = get_or_from_slice_get terms s.second.0 e.second (variable 0) h.second i }

module _ {L : Type 0} where
  pub nodes-length : (terms : List Tree) (sides : List Sides) (entries : List (Entry L)) → length sides ≡ length entries → length (nodes_in terms sides entries) ≡ length entries
  nodes-length terms [] [] h = refl
  nodes-length terms [] (k ∷ entries) h = absurd (omega (arith, h))
  nodes-length terms (s ∷ sides) [] h = absurd (omega (arith, h))
  nodes-length terms (s ∷ sides) (k ∷ entries) h = ap suc (nodes-length terms sides entries (omega (arith, h)))

  pub node_get : (terms : List Tree) (sides : List Sides) (entries : List (Entry L)) (i : ℕ) (s : Sides) (k : Entry L) → slice_get sides i ≡ Some s → slice_get entries i ≡ Some k
      → slice_get (nodes_in terms sides entries) i ≡ Some (node_of (pair_in terms s) k)
  node_get terms [] entries i s k g h = absurd (none-some s g)
  node_get terms (t ∷ sides) [] i s k g h = absurd (none-some k h)
  node_get terms (t ∷ sides) (l ∷ entries) zero s k g h = ap₂ (λ (u : Sides) (m : Entry L). Some (node_of (pair_in terms u) m)) (same_Some t s g) (same_Some l k h)
  node_get terms (t ∷ sides) (l ∷ entries) (suc i) s k g h = node_get terms sides entries i s k g h

  -- the node with this number has another rest
  pub node_set : (terms : List Tree) (sides : List Sides) (entries : List (Entry L)) (i : ℕ) (s : Sides) (k : Entry L) → slice_get sides i ≡ Some s
      → nodes_in terms sides (set entries i k) ≡ set (nodes_in terms sides entries) i (node_of (pair_in terms s) k)
  node_set terms [] entries i s k g = absurd (none-some s g)
  node_set terms (t ∷ sides) [] i s k g = refl
  node_set terms (t ∷ sides) (l ∷ entries) zero s k g = ap (λ (u : Sides). node_of (pair_in terms u) k ∷ nodes_in terms sides entries) (same_Some t s g)
  node_set terms (t ∷ sides) (l ∷ entries) (suc i) s k g = ap (λ ns. node_of (pair_in terms t) l ∷ ns) (node_set terms sides entries i s k g)

  -- other terms in which the cells have the same pairs
  pub nodes-same : (old new : List Tree) (sides : List Sides) (entries : List (Entry L)) → ((i : ℕ) (s : Sides) → slice_get sides i ≡ Some s → pair_in new s ≡ pair_in old s)
      → nodes_in new sides entries ≡ nodes_in old sides entries
  nodes-same old new [] entries h = refl
  nodes-same old new (s ∷ sides) [] h = refl
  nodes-same old new (s ∷ sides) (k ∷ entries) h = ap₂ (λ (e : Pair) ns. node_of e k ∷ ns) (h 0 s refl) (nodes-same old new sides entries (λ i t g. h (suc i) t g))

  pub nodes-take : (terms : List Tree) (n : ℕ) (sides : List Sides) (entries : List (Entry L)) → nodes_in terms (take n sides) (take n entries) ≡ take n (nodes_in terms sides entries)
  nodes-take terms zero sides entries = refl
  nodes-take terms (suc n) [] entries = refl
  nodes-take terms (suc n) (s ∷ sides) [] = refl
  nodes-take terms (suc n) (s ∷ sides) (k ∷ entries) = ap (λ ns. node_of (pair_in terms s) k ∷ ns) (nodes-take terms n sides entries)

  pub nodes-push : (terms : List Tree) (sides : List Sides) (entries : List (Entry L)) (s : Sides) (k : Entry L) → length sides ≡ length entries
      → nodes_in terms (sides ++ s ∷ []) (entries ++ k ∷ []) ≡ nodes_in terms sides entries ++ node_of (pair_in terms s) k ∷ []
  nodes-push terms [] [] s k h = refl
  nodes-push terms [] (l ∷ entries) s k h = absurd (omega (arith, h))
  nodes-push terms (t ∷ sides) [] s k h = absurd (omega (arith, h))
  nodes-push terms (t ∷ sides) (l ∷ entries) s k h = ap (λ ns. node_of (pair_in terms t) l ∷ ns) (nodes-push terms sides entries s k (omega (arith, h)))
