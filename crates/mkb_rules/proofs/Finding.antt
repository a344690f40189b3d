-- A pair that is found, or that gets a node.
use Rattle.std.proofs.Common.{ℕ, zero, suc, ◌+◌, ◌≡◌, ◌⊎◌, inl, inr, refl, sym, ap, ◌∙◌, subst, arith, List, [], ◌∷◌, ◌++◌, length, Result, Ok, Err, Some, Bool, true, false, cond, ◌==◌, if◌then◌else◌}
use Rattle.std.specs.Prelude.{slice_get, option_map, OnOk, OnErr, IfOk, IsFalse, ◌↔◌}
use Rattle.std.proofs.lemmas.List.{map-append, length-map, append-nil}
use Rattle.std.proofs.lemmas.Bool.{ne_eqb, or_parts}
use Rattle.kb_label.specs.Names.{Name}
use Rattle.kb_term.specs.Tree.{Tree}
use Rattle.kb_term.specs.Pair.{Pair}
use Rattle.kb_term.specs.declared.origin.Origin.{Origin}
use Rattle.kb_overlap.specs.Trace.{other_side}
use Rattle.kb_node.specs.declared.node.NodeId.{NodeId}
use Rattle.kb_node.specs.declared.fault.NodeFault.{NodeFault}
use Rattle.kb_node.specs.declared.fault.NodeFault.TheVariants.{Full}
use Rattle.kb_node.specs.declared.node.LabelKind.TheVariants.{R0, R1, E, C0, C1, X}
use Rattle.kb_node.specs.Labelled.{Node, HasPair, LacksPair, AddsNode}
use Rattle.kb_node.proofs.Adding.{has-lacks}
use Rattle.mkb_model.specs.Plain.{Plain, PlainNode, pair_at, pair_in}
use Rattle.mkb_model.specs.Effects.{pair_eq, node_of, is_present, new_node, with_node, most_nodes}
use Rattle.mkb_model.proofs.Lists.{clash, decide, false_unless}
use Rattle.mkb_model.proofs.nodes.Pairs.{pair_eq-refl, found_node}
use Rattle.mkb_rules.specs.Parts.{plain_node, plain_nodes}

pub pair-plain : (xs : List (Node (List Name))) (n : ℕ) → option_map (λ (x : Node (List Name)). x.pair) (slice_get xs n) ≡ pair_in (plain_nodes xs) n
pair-plain [] n = refl
pair-plain (x ∷ xs) zero = refl
pair-plain (x ∷ xs) (suc n) = pair-plain xs n

has_pair : (xs : List (Node (List Name))) (q : Pair) → is_present (plain_nodes xs) q ≡ true → HasPair xs (node_of (plain_nodes xs) q) q
has_pair xs q h = pair-plain xs (node_of (plain_nodes xs) q) ∙ (found_node (plain_nodes xs) q h).0

lacks_pair : (xs : List (Node (List Name))) (q : Pair) → is_present (plain_nodes xs) q ≡ false → LacksPair xs q
lacks_pair [] q h k d u e = absurd (omega (arith, u))
lacks_pair (x ∷ xs) q h zero d u e =
    clash (subst {A = Pair} (λ p. pair_eq p q ≡ true) (sym e) (pair_eq-refl q)) (or_parts (pair_eq x.pair q) (is_present (plain_nodes xs) q) h).0
lacks_pair (x ∷ xs) q h (suc k) d u e = lacks_pair xs q (or_parts (pair_eq x.pair q) (is_present (plain_nodes xs) q) h).1 k d (omega (arith, u)) e

-- the number of a pair that no node has is that of the node added for it
node_of-new : (xs : List PlainNode) (q : Pair) (o : Origin) → is_present xs q ≡ false → node_of (xs ++ new_node q o ∷ []) q ≡ length xs
node_of-new [] q o h = ap (λ b. cond b 0 1) (pair_eq-refl q)
node_of-new (x ∷ xs) q o h =
    let none = or_parts (pair_eq x.pair q) (is_present xs q) h in
    let one : length xs + 1 ≡ suc (length xs) = omega arith in
    ap (λ b. cond b 0 (node_of (xs ++ new_node q o ∷ []) q + 1)) none.0 ∙ ap (λ n. n + 1) (node_of-new xs q o none.1) ∙ one

plain-new : (x : Node (List Name)) (q : Pair) (o : Origin) → x.pair ≡ q → x.origin ≡ o → x.rule0 ≡ [] → x.rule1 ≡ [] → x.equation ≡ [] → x.constraint0 ≡ [] → x.constraint1 ≡ [] → x.refused ≡ [] → plain_node x ≡ new_node q o
plain-new x q o p r a b c d e f = λ i. record { pair = p i; origin = r i; rule0 = a i; rule1 = b i; equation = c i; constraint0 = d i; constraint1 = e i; refused = f i }

-- what the table tells of a pair that it is asked for, in terms of the plain nodes
module _ (old new : List (Node (List Name))) (q : Pair) (o : Origin) (r : Result NodeId NodeFault)
    (present : (n : ℕ) → HasPair old n q → (r ≡ Ok (record { 0 = n })) × (new ≡ old))
    (added : LacksPair old q → IfOk r (λ (n : NodeId). (n.0 ≡ length old) × AddsNode {L = List Name} {K = List Name} (λ log l. l) old new q o))
    (full : (r ≡ Err Full) ↔ (LacksPair old q × (length old ≡ 4096)))
    (err : OnErr r (new ≡ old)) where
  appended : AddsNode {L = List Name} {K = List Name} (λ log l. l) old new q o → plain_nodes new ≡ plain_nodes old ++ new_node q o ∷ []
  appended a =
      ap plain_nodes a.appended ∙ map-append plain_node old (a.node ∷ [])
      ∙ ap (λ y. plain_nodes old ++ y ∷ []) (plain-new a.node q o a.pair_is a.origin_is (a.unlabelled R0 []) (a.unlabelled R1 []) (a.unlabelled E []) (a.unlabelled C0 []) (a.unlabelled C1 []) (a.unlabelled X []))

  pub found-ok : OnOk r (plain_nodes new ≡ with_node q o (plain_nodes old))
  found-ok = go (is_present (plain_nodes old) q) refl r refl
    where
      go : (b : Bool) → is_present (plain_nodes old) q ≡ b → (s : Result NodeId NodeFault) → r ≡ s → OnOk s (plain_nodes new ≡ cond b (plain_nodes old) (plain_nodes old ++ new_node q o ∷ []))
      go b e (Err f) g = tt
      go true e (Ok n) g = ap plain_nodes (present (node_of (plain_nodes old) q) (has_pair old q e)).1
      go false e (Ok n) g = appended (subst {A = Result NodeId NodeFault} (λ s. IfOk s (λ (m : NodeId). (m.0 ≡ length old) × AddsNode {L = List Name} {K = List Name} (λ log l. l) old new q o)) g (added (lacks_pair old q e))).1

  pub found-node : IfOk r (λ (n : NodeId). n.0 ≡ node_of (plain_nodes new) q)
  found-node = go (decide (is_present (plain_nodes old) q)) r refl
    where
      go : (is_present (plain_nodes old) q ≡ true) ⊎ (is_present (plain_nodes old) q ≡ false) → (s : Result NodeId NodeFault) → r ≡ s → IfOk s (λ (n : NodeId). n.0 ≡ node_of (plain_nodes new) q)
      go b (Err f) g = tt
      go (inl e) (Ok n) g =
          let h = present (node_of (plain_nodes old) q) (has_pair old q e) in
          let same : n ≡ record { 0 = node_of (plain_nodes old) q } = cc in
          ap (λ (m : NodeId). m.0) same ∙ ap (λ xs. node_of (plain_nodes xs) q) (sym h.1)
      go (inr e) (Ok n) g =
          let h = subst {A = Result NodeId NodeFault} (λ s. IfOk s (λ (m : NodeId). (m.0 ≡ length old) × AddsNode {L = List Name} {K = List Name} (λ log l. l) old new q o)) g (added (lacks_pair old q e)) in
          h.0 ∙ sym (length-map old plain_node) ∙ sym (node_of-new (plain_nodes old) q o e) ∙ ap (λ xs. node_of xs q) (sym (appended h.1))

  lacks-false : LacksPair old q → is_present (plain_nodes old) q ≡ false
  lacks-false h = false_unless (is_present (plain_nodes old) q) (λ e. has-lacks old q (node_of (plain_nodes old) q) (has_pair old q e) h)

  pub found-full : (r ≡ Err Full) ↔ (IsFalse (is_present (plain_nodes old) q) × (length (plain_nodes old) ≡ most_nodes))
  found-full = (
    (λ e. let h = full.0 e in (lacks-false h.0, length-map old plain_node ∙ h.1)),
    λ h. full.1 (lacks_pair old q h.0, sym (length-map old plain_node) ∙ h.1),
  )

  -- nodes stay, and at most one comes at the end
  pub found-longer : (ys : List (Node (List Name))) × (new ≡ old ++ ys)
  found-longer = go (decide (is_present (plain_nodes old) q)) r refl
    where
      same : new ≡ old → (ys : List (Node (List Name))) × (new ≡ old ++ ys)
      same h = ([], h ∙ simp append-nil)

      go : (is_present (plain_nodes old) q ≡ true) ⊎ (is_present (plain_nodes old) q ≡ false) → (s : Result NodeId NodeFault) → r ≡ s → (ys : List (Node (List Name))) × (new ≡ old ++ ys)
      go b (Err f) g = same (subst {A = Result NodeId NodeFault} (λ s. OnErr s (new ≡ old)) g err)
      go (inl e) (Ok n) g = same (present (node_of (plain_nodes old) q) (has_pair old q e)).1
      go (inr e) (Ok n) g = let h = subst {A = Result NodeId NodeFault} (λ s. IfOk s (λ (m : NodeId). (m.0 ≡ length old) × AddsNode {L = List Name} {K = List Name} (λ log l. l) old new q o)) g (added (lacks_pair old q e)) in (h.1.node ∷ [], h.1.appended)

  -- nothing changes, or a node without labels comes at the end
  pub found-added : (new ≡ old) ⊎ AddsNode {L = List Name} {K = List Name} (λ log l. l) old new q o
  found-added = go (decide (is_present (plain_nodes old) q)) r refl
    where
      go : (is_present (plain_nodes old) q ≡ true) ⊎ (is_present (plain_nodes old) q ≡ false) → (s : Result NodeId NodeFault) → r ≡ s → (new ≡ old) ⊎ AddsNode {L = List Name} {K = List Name} (λ log l. l) old new q o
      go b (Err f) g = inl (subst {A = Result NodeId NodeFault} (λ s. OnErr s (new ≡ old)) g err)
      go (inl e) (Ok n) g = inl (present (node_of (plain_nodes old) q) (has_pair old q e)).1
      go (inr e) (Ok n) g = inr (subst {A = Result NodeId NodeFault} (λ s. IfOk s (λ (m : NodeId). (m.0 ≡ length old) × AddsNode {L = List Name} {K = List Name} (λ log l. l) old new q o)) g (added (lacks_pair old q e))).1

-- ---- one side of a node

chosen : (q : Pair) (w : ℕ) → (if w == 0 then q.second else q.first) ≡ other_side q w
chosen q zero = refl
chosen q (suc w) = rw (ne_eqb (suc w) 0 (λ e. absurd (omega (arith, e)))) refl

-- what is read as the other side of a node in the table is that of its pair on the board
pub side_read : (c : Plain) (xs : List (Node (List Name))) (n w : ℕ) (t : Tree) → plain_nodes xs ≡ c.nodes → ((q : Pair) → HasPair xs n q → t ≡ (if w == 0 then q.second else q.first)) → (q : Pair) → pair_at c n ≡ Some q → t ≡ other_side q w
side_read c xs n w t is read q here = read q (pair-plain xs n ∙ ap (λ (ys : List PlainNode). pair_in ys n) is ∙ here) ∙ chosen q w
