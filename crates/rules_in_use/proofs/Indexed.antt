-- Indexes of the rules in use: what a look at a rule makes of one, and how one is carried from board to board.
use Rattle.std.proofs.Common.{ℕ, zero, suc, ◌+◌, ◌*◌, ◌/◌, ◌%◌, ◌<◌, ◌≡◌, ◌≢◌, ◌⊎◌, ◌↔◌, inl, inr, refl, sym, ap, ◌∙◌, subst, List, [], ◌∷◌, true, not, Option, Some, None, option_map, length, ⊎_elim, arith}
use Rattle.std.specs.Prelude.{Result, Ok, Err, OnOk}
use Rattle.kb_label.specs.Names.{Name, is_empty}
use Rattle.kb_node.specs.Labelled.{Node, HasPair}
use Rattle.mkb_rules.specs.Parts.{plain_nodes}
use Rattle.kb_term.specs.Pair.{Pair}
use Rattle.kb_term.specs.Rule.{Rule, rule_of}
use Rattle.kb_term.specs.declared.origin.RuleRef.{RuleRef}
use Rattle.kb_lemmas.proofs.Options.{some_is, none_some}
use Rattle.kb_node.specs.declared.node.LabelKind.{LabelKind}
use Rattle.mkb_model.specs.Plain.{Plain, PlainNode, label_or_none, rule_kind, rule_at, pair_at, pair_in}
use Rattle.mkb_model.specs.Ready.{KeepsPairs}
use Rattle.mkb_rules.proofs.Finding.{pair-plain}
use Rattle.mkb_model.proofs.commits.Roles.{numbers_decide}
use Rattle.mkb_moves.specs.Changes.{is_in_use, IsUsedAsBefore}
use Rattle.mkb_moves.proofs.Sight.{rule_ref}
use Rattle.rule_index.specs.declared.index.RuleIndex.{RuleIndex}
use Rattle.rule_index.specs.declared.mark.Mark.{Mark}
use Rattle.rule_index.specs.Index.{Holds, IsThere, IsWith}
use Rattle.rule_index.specs.Marks.{marks_of}
use Rattle.rules_in_use.specs.InUse.{key_of, IsUsedUnder, IsIndexOf, IsPutRight, IsPutRightAt, HoldsLeftSides}

through : {A B C : Type 0} → A ↔ B → B ↔ C → A ↔ C
through h k = (λ a. k.0 (h.0 a), λ c. h.1 (k.1 c))

-- what an answer promises may be replaced by what follows from it
pub on_ok : {A E P Q : Type 0} (r : Result A E) → (P → Q) → OnOk r P → OnOk r Q
on_ok (Ok x) f h = f h
on_ok (Err e) f h = h

-- ---- keys

same_node : (n d m e : ℕ) → d < 2 → e < 2 → 2 * n + d ≡ 2 * m + e → n ≡ m
same_node n d m e h k i = omega (arith, h, k, i)

same_dir : (n d m e : ℕ) → d < 2 → e < 2 → 2 * n + d ≡ 2 * m + e → d ≡ e
same_dir n d m e h k i = omega (arith, h, k, i)

-- a key names one rule
same_ref : (a e : RuleRef) → a.dir < 2 → e.dir < 2 → key_of a ≡ key_of e → a ≡ e
same_ref a e h k i = rule_ref e a (same_node a.node a.dir e.node e.dir h k i) (same_dir a.node a.dir e.node e.dir h k i)

-- each key is that of a rule
parts : (key : ℕ) → (n : ℕ) × (d : ℕ) × (d < 2) × (key ≡ 2 * n + d)
parts key = (key / 2, key % 2, omega arith, omega arith)

-- ---- rules in use

-- the rule that is in use under its key is the one that it names
used_ref : (b : Plain) (a : RuleRef) (marks : List Mark) → a.dir < 2 → (u : IsUsedUnder b (key_of a) marks) → u.name ≡ a
used_ref b a marks h u = same_ref u.name a u.bit h (sym u.is_key)

used_marks : (b : Plain) (a : RuleRef) (rule : Rule) (marks : List Mark) → a.dir < 2 → rule_at b a ≡ Some rule → IsUsedUnder b (key_of a) marks → marks ≡ marks_of rule.left
used_marks b a rule marks h named u = u.left ∙ ap (λ (r : Rule). marks_of r.left) (some_is (sym u.named ∙ ap (rule_at b) (used_ref b a marks h u) ∙ named))

used_under : (b : Plain) (a : RuleRef) (rule : Rule) (marks : List Mark) → a.dir < 2 → is_in_use b a ≡ true → rule_at b a ≡ Some rule → marks ≡ marks_of rule.left → IsUsedUnder b (key_of a) marks
used_under b a rule marks h used named left = record { name = a; bit = h; is_key = refl; used = used; rule = rule; named = named; left = left }

-- a rule that is in use has its node there
used_there : (b : Plain) (a : RuleRef) → is_in_use b a ≡ true → (q : Pair) × (pair_at b a.node ≡ Some q)
used_there b a h = go _ (rule_kind a.dir) h
  where
    go : (o : Option PlainNode) (kind : LabelKind) → not (is_empty (label_or_none o kind)) ≡ true → (q : Pair) × (option_map (λ (x : PlainNode). x.pair) o ≡ Some q)
    go None kind e = absurd (cc)
    go (Some x) kind e = (x.pair, refl)

-- the rule from a node's pair as the state gives it
pub rule_named : (nodes : List (Node (List Name))) (b : Plain) (a : RuleRef) (pair : Pair) → plain_nodes nodes ≡ b.nodes → HasPair nodes a.node pair → rule_at b a ≡ Some (rule_of pair a.dir)
rule_named nodes b a pair same there = ap (option_map (λ (q : Pair). rule_of q a.dir)) (ap (λ xs. pair_in xs a.node) (sym same) ∙ sym (pair-plain nodes a.node) ∙ there)

-- ---- a look at a rule

pub put_new : (b : Plain) (a : RuleRef) (rule : Rule) (key : ℕ) (old new : RuleIndex) → a.dir < 2 → key ≡ key_of a → is_in_use b a ≡ true → ¬ IsThere old key → rule_at b a ≡ Some rule → IsWith key rule.left old new → IsPutRight b a old new
put_new b a rule key old new h is used fresh named w = record {
  own = λ marks. (
    λ i. ⊎_elim (λ e. used_under b a rule marks h used named e.1) (λ j. absurd (fresh (marks, subst (λ k. Holds old k marks) (sym is) j))) ((w (key_of a) marks).0 i),
    λ u. (w (key_of a) marks).1 (inl (sym is, used_marks b a rule marks h named u)),
  );
  others = λ k marks differs. (λ i. ⊎_elim (λ e. absurd (differs (e.0 ∙ is))) (λ j. j) ((w k marks).0 i), λ j. (w k marks).1 (inr j));
}

-- ---- a look at both rules of a node

pub put_both : (b : Plain) (n : ℕ) (old mid new : RuleIndex) → IsPutRight b (record { node = n; dir = 0 }) old mid → IsPutRight b (record { node = n; dir = 1 }) mid new → IsPutRightAt b n old new
put_both b n old mid new f g = record {
  own = own;
  others = λ key marks h. through (g.others key marks (h 1 (omega arith))) (f.others key marks (h 0 (omega arith)));
}
  where
    own : (d : ℕ) (marks : List Mark) → d < 2 → Holds new (2 * n + d) marks ↔ IsUsedUnder b (2 * n + d) marks
    own zero marks h = through (g.others (2 * n + 0) marks (λ e. absurd (omega (arith, e)))) (f.own marks)
    own (suc zero) marks h = g.own marks
    own (suc (suc d)) marks h = absurd (omega (arith, h))

used_side : (b : Plain) (a : RuleRef) (marks : List Mark) → a.dir < 2 → IsUsedUnder b (key_of a) marks → (rule : Rule) × (rule_at b a ≡ Some rule) × (marks ≡ marks_of rule.left)
used_side b a marks h u = (u.rule, sym (ap (rule_at b) (used_ref b a marks h u)) ∙ u.named, u.left)

pub sides_kept : (b : Plain) (a : RuleRef) (old new : RuleIndex) → HoldsLeftSides b old → IsPutRight b a old new → HoldsLeftSides b new
sides_kept b a old new sides put e marks h i = ⊎_elim
    (λ same. used_side b e marks h (subst (λ k. IsUsedUnder b k marks) (sym same) ((put.own marks).0 (subst (λ k. Holds new k marks) same i))))
    (λ differs. sides e marks h ((put.others (key_of e) marks differs).0 i))
    (numbers_decide (key_of e) (key_of a))

pub sides_kept_at : (b : Plain) (n : ℕ) (old new : RuleIndex) → HoldsLeftSides b old → IsPutRightAt b n old new → HoldsLeftSides b new
sides_kept_at b n old new sides put e marks h i = ⊎_elim
    (λ same. used_side b e marks h (subst (λ m. IsUsedUnder b (2 * m + e.dir) marks) (sym same) ((put.own e.dir marks h).0 (subst (λ m. Holds new (2 * m + e.dir) marks) same i))))
    (λ differs. sides e marks h ((put.others (key_of e) marks (λ d k same. differs (same_node e.node e.dir n d h k same))).0 i))
    (numbers_decide e.node n)

-- ---- indexes that are right at some nodes

-- the index is right under the keys of these nodes
abbrev pub IsIndexAt : (ℕ → Type 0) → Plain → RuleIndex → Type 0
IsIndexAt P b index = (n d : ℕ) (marks : List Mark) → d < 2 → P n → Holds index (2 * n + d) marks ↔ IsUsedUnder b (2 * n + d) marks

pub right_at_all : (P : ℕ → Type 0) (b : Plain) (index : RuleIndex) → ((n : ℕ) → P n) → IsIndexAt P b index → IsIndexOf b index
right_at_all P b index all h key marks =
    let k = parts key in subst {A = ℕ} (λ k. Holds index k marks ↔ IsUsedUnder b k marks) (sym k.3) (h k.0 k.1 marks k.2 (all k.0))

-- a look at a node puts it right, and leaves the other nodes
pub right_after : (P Q : ℕ → Type 0) (b : Plain) (n : ℕ) (old new : RuleIndex) → ((m : ℕ) → Q m → m ≢ n → P m) → IsIndexAt P b old → IsPutRightAt b n old new → IsIndexAt Q b new
right_after P Q b n old new others h put m d marks bit q = ⊎_elim
    (λ same. subst {A = ℕ} (λ m. Holds new (2 * m + d) marks ↔ IsUsedUnder b (2 * m + d) marks) (sym same) (put.own d marks bit))
    (λ differs. through (put.others (2 * m + d) marks (λ e k same. differs (same_node m d n e bit k same))) (h m d marks bit (others m q differs)))
    (numbers_decide m n)

-- ---- from board to board

rule_stays : (b c : Plain) (a : RuleRef) (rule : Rule) → KeepsPairs b.nodes c.nodes → (q : Pair) → pair_at b a.node ≡ Some q → rule_at b a ≡ Some rule → rule_at c a ≡ Some rule
rule_stays b c a rule keeps q there named = ap (option_map (λ (z : Pair). rule_of z a.dir)) (keeps a.node q there ∙ sym there) ∙ named

-- an index of the rules in use is right on the next board where these are the same
pub carried : (P : ℕ → Type 0) (b c : Plain) (index : RuleIndex) → KeepsPairs b.nodes c.nodes → ((a : RuleRef) → a.dir < 2 → P a.node → IsUsedAsBefore b c a) → IsIndexOf b index → IsIndexAt P c index
carried P b c index keeps same is n d marks h p = through (is (2 * n + d) marks) (forth, back)
  where
    a : RuleRef
    a = record { node = n; dir = d }

    forth : IsUsedUnder b (2 * n + d) marks → IsUsedUnder c (2 * n + d) marks
    forth u =
        let r = used_side b a marks h u in
        let used = sym (ap (is_in_use b) (used_ref b a marks h u)) ∙ u.used in
        let there = used_there b a used in
        used_under c a r.0 marks h (same a h p ∙ used) (rule_stays b c a r.0 keeps there.0 there.1 r.1) r.2

    back : IsUsedUnder c (2 * n + d) marks → IsUsedUnder b (2 * n + d) marks
    back u =
        let used = sym (same a h p) ∙ sym (ap (is_in_use c) (used_ref c a marks h u)) ∙ u.used in
        let there = used_there b a used in
        let named = ap (option_map (λ (z : Pair). rule_of z d)) there.1 in
        used_under b a (rule_of there.0 d) marks h used named (used_marks c a (rule_of there.0 d) marks h (rule_stays b c a (rule_of there.0 d) keeps there.0 there.1 named) u)

pub sides_carried : (b c : Plain) (index : RuleIndex) → KeepsPairs b.nodes c.nodes → IsIndexOf b index → HoldsLeftSides c index
sides_carried b c index keeps is a marks h i =
    let u = (is (key_of a) marks).0 i in
    let r = used_side b a marks h u in
    let there = used_there b a (sym (ap (is_in_use b) (used_ref b a marks h u)) ∙ u.used) in
    (r.0, rule_stays b c a r.0 keeps there.0 there.1 r.1, r.2)

-- ---- an index that is made node by node

-- the index holds the rules in use of the first nodes, and no other
abbrev pub IsIndexUpTo : Plain → ℕ → RuleIndex → Type 0
IsIndexUpTo b n index = (key : ℕ) (marks : List Mark) → Holds index key marks ↔ (IsUsedUnder b key marks × (key < 2 * n))

pub up_to_none : (b : Plain) (index : RuleIndex) → ((key : ℕ) → ¬ IsThere index key) → IsIndexUpTo b 0 index
up_to_none b index h key marks = (λ i. absurd (h key (marks, i)), λ u. absurd (omega (arith, u.1)))

pub up_to_sides : (b : Plain) (n : ℕ) (index : RuleIndex) → IsIndexUpTo b n index → HoldsLeftSides b index
up_to_sides b n index h a marks k i = used_side b a marks k ((h (key_of a) marks).0 i).0

pub up_to_next : (b : Plain) (n : ℕ) (old new : RuleIndex) → IsIndexUpTo b n old → IsPutRightAt b n old new → IsIndexUpTo b (n + 1) new
up_to_next b n old new h put key marks =
    let k = parts key in subst {A = ℕ} (λ k. Holds new k marks ↔ (IsUsedUnder b k marks × (k < 2 * (n + 1)))) (sym k.3) (go k.0 k.1 k.2 (numbers_decide k.0 n))
  where
    below : (m d : ℕ) → d < 2 → m ≢ n → 2 * m + d < 2 * (n + 1) → 2 * m + d < 2 * n
    below m d bit differs less = omega (arith, bit, differs, less)

    go : (m d : ℕ) → d < 2 → (m ≡ n) ⊎ (m ≢ n) → Holds new (2 * m + d) marks ↔ (IsUsedUnder b (2 * m + d) marks × (2 * m + d < 2 * (n + 1)))
    go m d bit (inl same) =
        let own = subst {A = ℕ} (λ m. Holds new (2 * m + d) marks ↔ IsUsedUnder b (2 * m + d) marks) (sym same) (put.own d marks bit) in
        (λ i. (own.0 i, omega (arith, bit, same)), λ u. own.1 u.0)
    go m d bit (inr differs) =
        let other = through (put.others (2 * m + d) marks (λ e k same. differs (same_node m d n e bit k same))) (h (2 * m + d) marks) in
        (λ i. let u = other.0 i in (u.0, omega (arith, u.1)), λ u. other.1 (u.0, below m d bit differs u.1))

node_inside : (xs : List PlainNode) (n : ℕ) (q : Pair) → pair_in xs n ≡ Some q → n < length xs
node_inside [] n q e = none_some e
node_inside (x ∷ xs) zero q e = omega arith
node_inside (x ∷ xs) (suc n) q e = let k = node_inside xs n q e in omega (arith, k)

pub up_to_all : (b : Plain) (index : RuleIndex) → IsIndexUpTo b (length b.nodes) index → IsIndexOf b index
up_to_all b index h key marks = (λ i. ((h key marks).0 i).0, λ u. (h key marks).1 (u, inside u))
  where
    inside : IsUsedUnder b key marks → key < 2 * length b.nodes
    inside u =
        let there = used_there b u.name u.used in
        let less = node_inside b.nodes u.name.node there.0 there.1 in omega (arith, less, u.bit, u.is_key)
