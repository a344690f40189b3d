-- The node of a pair.
use Rattle.std.proofs.Common.{ℕ, ◌≡◌, ◌<◌, sym, ap, subst, ◌∙◌, List, length, Option, Some, None, MatchOption, Contains, ⊎_elim, take, get_or, ◌+◌, ◌∷◌, []}
use Rattle.std.proofs.lemmas.List.Elements.{Contains-append_cases}
use Rattle.kb_lemmas.proofs.Lists.{take_next}
use Rattle.kb_lemmas.proofs.Membership.{only_member}
use Rattle.kb_label.specs.Names.{Name}
use Rattle.kb_term.specs.Pair.{Pair}
use Rattle.kb_node.specs.declared.node.NodeId.{NodeId}
use Rattle.kb_node.specs.declared.job.Deduced.{Deduced}
use Rattle.kb_node.specs.Labelled.{Node, HasPair, LacksPair, AreDistinct}
use Rattle.kb_node.proofs.Adding.{has-lacks, same_number}
use Rattle.mkb_model.specs.Plain.{Plain, PlainNode, pair_in, pair_at}
use Rattle.mkb_rules.specs.Parts.{plain_nodes}
use Rattle.mkb_rules.proofs.Finding.{pair-plain}
use Rattle.mkb_agenda.specs.Following.{AreNodesOf}

module _ (c : Plain) (xs : List (Node (List Name))) (q : Pair) (is : plain_nodes xs ≡ c.nodes) where
  pub the_node_found : AreDistinct {L = List Name} xs → (o : Option NodeId) → MatchOption o (LacksPair {L = List Name} xs q) (λ (n : NodeId). HasPair {L = List Name} xs n.0 q) → (m : ℕ) → pair_at c m ≡ Some q → o ≡ Some (record { 0 = m })
  the_node_found distinct o found m e = go o found
    where
      here : HasPair {L = List Name} xs m q
      here = pair-plain xs m ∙ ap (λ (ys : List PlainNode). pair_in ys m) is ∙ e

      go : (o : Option NodeId) → MatchOption o (LacksPair {L = List Name} xs q) (λ (n : NodeId). HasPair {L = List Name} xs n.0 q) → o ≡ Some (record { 0 = m })
      go None lacks = absurd (has-lacks xs q m here lacks)
      go (Some n) h = ap (λ (k : ℕ). Some (record { 0 = k })) (same_number xs q n.0 m distinct h here)

  pub pair_read : (n : ℕ) → HasPair {L = List Name} xs n q → pair_at c n ≡ Some q
  pair_read n h = sym (ap (λ (ys : List PlainNode). pair_in ys n) is) ∙ sym (pair-plain xs n) ∙ h

-- the nodes of one pair more
pub more_nodes : (c : Plain) (pairs : List Deduced) (i : ℕ) (d : Deduced) (ns ms : List NodeId) → i < length pairs → d ≡ get_or pairs i d
    → ((n : NodeId) → Contains ns n → Contains ms n) → ((m : ℕ) → pair_at c m ≡ Some d.pair → Contains ms (record { 0 = m })) → AreNodesOf c (take i pairs) ns → AreNodesOf c (take (i + 1) pairs) ms
more_nodes c pairs i d ns ms inside is keeps new old m (f, here, e) = ⊎_elim (λ h. keeps (record { 0 = m }) (old m (f, h, e))) (λ h. new m (e ∙ ap (λ (z : Deduced). Some z.pair) (sym (only_member d f h))))
    (Contains-append_cases (take i pairs) (d ∷ []) f (subst {A = List Deduced} (λ l. Contains l f) (take_next pairs i d inside is) here))
