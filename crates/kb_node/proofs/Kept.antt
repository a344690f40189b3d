-- A table's nodes and the parts in which it keeps them.
use Rattle.std.proofs.Common.{◌≡◌, ℕ, ◌+◌, ◌<◌, ◌≤◌, List, [], ◌∷◌, ◌++◌, length, take, set, get_or, Some, refl, sym, ap, subst, ◌∙◌, arith, ⊎_elim}
use Rattle.std.specs.Prelude.{slice_get}
use Rattle.std.proofs.lemmas.Option.{slice_get-get_or, slice_get_read, slice_get_within, get_or_from_slice_get}
use Rattle.std.proofs.lemmas.List.{take-map, length-take-le, length_push, length-set, map_push}
use Rattle.kb_lemmas.proofs.Lists.{get_take}
use Rattle.kb_lemmas.proofs.Options.{some_is}
use Rattle.indexmap.specs.IndexSet.{insert_key}
use Rattle.kb_term.specs.Tree.{Tree}
use Rattle.kb_term.specs.Pair.{Pair, IsCanonicalPair}
use Rattle.term_bank.specs.Terms.{term_at}
use Rattle.term_bank.proofs.Missing.{IsFront}
use Rattle.kb_node.specs.Banked.{AreSides, IsBanked, IsPairWithin, with_sides, sides_eq}
use Rattle.kb_node.specs.Labelled.{Node, pairs_of, HasPair, LacksPair, with_label}
use Rattle.kb_node.specs.Stored.{node_of, pair_in, nodes_in, IsStored}
use Rattle.kb_node.specs.declared.sides.Sides.{Sides}
use Rattle.kb_node.specs.declared.node.Entry.{Entry}
use Rattle.kb_node.specs.declared.node.LabelKind.{LabelKind}
use Rattle.kb_node.proofs.Pairs.{pair_get, pairs-with_label}
use Rattle.kb_node.proofs.Banking.{sides_at, sides-front, with_sides-front, old_or_new}
use Rattle.kb_node.proofs.Finding.{no_sides, pair_of_node, key_sides, new_key, first_nodes}
use Rattle.kb_node.proofs.Adding.{more_nodes, absent}
use Rattle.kb_node.proofs.Storing.{pair_is, nodes-length, node_get, node_set, nodes-same, nodes-take, nodes-push}

module _ {L : Type 0} (terms : List Tree) (sides : List Sides) (starts : List ℕ) (entries : List (Entry L)) (f : IsStored terms sides starts entries) where
  abbrev nodes : List (Node L)
  nodes = nodes_in terms sides entries

  pub count : length (nodes_in terms sides entries) ≡ length entries
  count = nodes-length terms sides entries f.as_many

  -- the node of a number, by what is kept of it
  pub node_read : (n : ℕ) (k : Entry L) → n < length entries → k ≡ get_or entries n k → slice_get (nodes_in terms sides entries) n ≡ Some (node_of (pair_in terms (get_or sides n no_sides)) k)
  node_read n k l is =
      node_get terms sides entries n (get_or sides n no_sides) k (slice_get-get_or sides n no_sides (omega (arith, f.as_many))) (slice_get_read entries (length entries) n k refl l is)

  module _ (n : ℕ) (l : n < length (nodes_in terms sides entries)) where
    -- the sides of a node have its pair
    sides_pair : pair_in terms (get_or sides n no_sides) ≡ (pair_of_node terms sides starts (nodes_in terms sides entries) f.banked n l).0
    sides_pair =
        let e = pair_of_node terms sides starts (nodes_in terms sides entries) f.banked n l in
        pair_is terms (get_or sides n no_sides) e.0 (key_sides terms sides starts (nodes_in terms sides entries) f.banked n e.0 e.1)

    module _ (t u : Tree) (g : t ≡ term_at terms (get_or sides n no_sides).first.0) (h : u ≡ term_at terms (get_or sides n no_sides).second.0) where
      made : (pair_of_node terms sides starts (nodes_in terms sides entries) f.banked n l).0 ≡ record { first = t; second = u }
      made = sym sides_pair ∙ (λ i. record { first = sym g i; second = sym h i })

      pub made-canonical : IsCanonicalPair (record { first = t; second = u })
      made-canonical =
          let e = pair_of_node terms sides starts (nodes_in terms sides entries) f.banked n l in
          subst IsCanonicalPair made (f.canonical n e.0 e.1)

      pub made-has : HasPair (nodes_in terms sides entries) n (record { first = t; second = u })
      made-has =
          let e = pair_of_node terms sides starts (nodes_in terms sides entries) f.banked n l in
          pair_get (nodes_in terms sides entries) n e.0 e.1 ∙ ap Some made

    -- the pair of a node is what its cells have
    pub node_pair : (q : Pair) → HasPair (nodes_in terms sides entries) n q → q ≡ pair_in terms (get_or sides n no_sides)
    node_pair q has = some_is (sym has ∙ made-has (term_at terms (get_or sides n no_sides).first.0) (term_at terms (get_or sides n no_sides).second.0) refl refl)

  -- ---- another label

  module _ (n : ℕ) (k l : Entry L) (there : n < length entries) (is : k ≡ get_or entries n k) (kind : LabelKind) (label : L) (put : (e : Pair) → node_of e l ≡ with_label (node_of e k) kind label) where
    abbrev pair : Pair
    pair = pair_in terms (get_or sides n no_sides)

    put_in : nodes_in terms sides (set entries n l) ≡ set (nodes_in terms sides entries) n (node_of pair l)
    put_in = node_set terms sides entries n (get_or sides n no_sides) l (slice_get-get_or sides n no_sides (omega (arith, f.as_many)))

    pub relabelled : nodes_in terms sides (set entries n l) ≡ set (nodes_in terms sides entries) n (with_label (node_of pair k) kind label)
    relabelled = put_in ∙ ap (set (nodes_in terms sides entries) n) (put pair)

    same_pairs : pairs_of (nodes_in terms sides (set entries n l)) ≡ pairs_of (nodes_in terms sides entries)
    same_pairs =
        ap pairs_of put_in
        ∙ pairs-with_label (nodes_in terms sides entries) n (node_of pair k) (node_of pair l) (omega (arith, count)) (sym (get_or_from_slice_get (nodes_in terms sides entries) n (node_of pair k) (node_of pair k) (node_read n k there is))) kind label (put pair)

    pub relabelled-stored : IsStored terms sides starts (set entries n l)
    relabelled-stored = record {
      as_many = f.as_many ∙ sym (length-set entries n l);
      canonical = λ i e g. f.canonical i e (ap (λ es. slice_get es i) (sym same_pairs) ∙ g);
      banked = subst (IsBanked terms sides starts) (sym same_pairs) f.banked;
    }

  -- ---- the first nodes alone

  module _ (n start : ℕ) (there : n < length entries) (is : start ≡ get_or starts n start) where
    first-banked : IsBanked (take start terms) (take n sides) (take n starts) (pairs_of (take n (nodes_in terms sides entries)))
    first-banked = first_nodes terms sides starts (nodes_in terms sides entries) f.banked n start (omega (arith, count)) is

    first-length : length (take n (nodes_in terms sides entries)) ≡ n
    first-length = length-take-le n (nodes_in terms sides entries) (omega (arith, count))

    -- a pair of the first nodes is one of all
    first_pair : (i : ℕ) (e : Pair) → slice_get (pairs_of (take n (nodes_in terms sides entries))) i ≡ Some e → slice_get (pairs_of (nodes_in terms sides entries)) i ≡ Some e
    first_pair i e g = (get_take n (pairs_of (nodes_in terms sides entries)) i e (ap (λ es. slice_get es i) (take-map (λ (node : Node L). node.pair) n (nodes_in terms sides entries)) ∙ g)).1

    cut-same : (i : ℕ) (s : Sides) → slice_get (take n sides) i ≡ Some s → pair_in (take start terms) s ≡ pair_in terms s
    cut-same i s g =
        let old = get_take n sides i s g in
        let e = pair_of_node (take start terms) (take n sides) (take n starts) (take n (nodes_in terms sides entries)) first-banked i (omega (arith, old.0, first-length)) in
        pair_is (take start terms) s e.0 (sides_at (take start terms) (take n sides) (take n starts) (pairs_of (take n (nodes_in terms sides entries))) first-banked i s e.0 g e.1)
        ∙ sym (pair_is terms s e.0 (sides_at terms sides starts (pairs_of (nodes_in terms sides entries)) f.banked i s e.0 old.1 (first_pair i e.0 e.1)))

    pub first-nodes : nodes_in (take start terms) (take n sides) (take n entries) ≡ take n (nodes_in terms sides entries)
    first-nodes = nodes-same terms (take start terms) (take n sides) (take n entries) cut-same ∙ nodes-take terms n sides entries

    pub first-stored : IsStored (take start terms) (take n sides) (take n starts) (take n entries)
    first-stored = record {
      as_many = length-take-le n sides (omega (arith, f.as_many)) ∙ sym (length-take-le n entries (omega arith));
      canonical = λ i e g. f.canonical i e (first_pair i e (ap (λ (ns : List (Node L)). slice_get (pairs_of ns) i) (sym first-nodes) ∙ g));
      banked = subst (λ (ns : List (Node L)). IsBanked (take start terms) (take n sides) (take n starts) (pairs_of ns)) (sym first-nodes) first-banked;
    }

  -- ---- one node more

  module _ (e : Pair) (lacks : LacksPair (nodes_in terms sides entries) e) (s : Sides) (new : List Tree) (made : new ≡ with_sides terms e) (has : AreSides new s e) (k : Entry L) where
    front : IsFront terms new
    front = subst (IsFront terms) (sym made) (with_sides-front terms e)

    grown-same : (i : ℕ) (t : Sides) → slice_get sides i ≡ Some t → pair_in new t ≡ pair_in terms t
    grown-same i t g =
        let d = pair_of_node terms sides starts (nodes_in terms sides entries) f.banked i (omega (arith, slice_get_within sides i t g, f.as_many, count)) in
        let old = sides_at terms sides starts (pairs_of (nodes_in terms sides entries)) f.banked i t d.0 g d.1 in
        pair_is new t d.0 (sides-front terms new t d.0 front old) ∙ sym (pair_is terms t d.0 old)

    keys : insert_key sides_eq sides s ≡ sides ++ s ∷ []
    keys = new_key terms sides starts (nodes_in terms sides entries) f.banked e s new front has (absent terms sides starts (nodes_in terms sides entries) e f.banked lacks)

    pub more-nodes : nodes_in new (insert_key sides_eq sides s) (entries ++ k ∷ []) ≡ nodes_in terms sides entries ++ node_of (pair_in new s) k ∷ []
    more-nodes =
        ap (λ ks. nodes_in new ks (entries ++ k ∷ [])) keys ∙ nodes-push new sides entries s k f.as_many
        ∙ ap (λ ns. ns ++ node_of (pair_in new s) k ∷ []) (nodes-same terms new sides entries grown-same)

    pub more-pair : (node_of (pair_in new s) k).pair ≡ e
    more-pair = pair_is new s e has

    pub more-stored : (start : ℕ) → length entries < 4096 → IsPairWithin e → start ≡ length terms → IsCanonicalPair e → IsStored new (insert_key sides_eq sides s) (starts ++ start ∷ []) (entries ++ k ∷ [])
    more-stored start few within counted canonical = record {
      as_many = ap length keys ∙ length_push sides s ∙ ap (λ m. m + 1) f.as_many ∙ sym (length_push entries k);
      canonical = λ i d g.
          ⊎_elim (λ o. f.canonical i d o.1) (λ o. subst IsCanonicalPair (sym more-pair ∙ o.1) canonical)
          (old_or_new (pairs_of (nodes_in terms sides entries)) (pair_in new s) d i (ap (λ es. slice_get es i) (sym (map_push (λ (node : Node L). node.pair) (nodes_in terms sides entries) (node_of (pair_in new s) k)) ∙ ap pairs_of (sym more-nodes)) ∙ g));
      banked =
          subst (λ (ns : List (Node L)). IsBanked new (insert_key sides_eq sides s) (starts ++ start ∷ []) (pairs_of ns)) (sym more-nodes)
          (more_nodes terms sides starts (nodes_in terms sides entries) e f.banked lacks s start new (node_of (pair_in new s) k) (omega (arith, count)) within made has counted more-pair);
    }
