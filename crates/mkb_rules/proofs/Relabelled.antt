-- Nodes with another label.
use Rattle.std.proofs.Common.{ℕ, ◌≡◌, ◌≤◌, ◌+◌, Bool, true, false, if◌then◌else◌, List, [], ◌∷◌, ◌++◌, length, length-append, map, ◌∙◌, arith}
use Rattle.std.proofs.lemmas.List.{length-map}
use Rattle.kb_term.specs.declared.origin.RuleRef.{RuleRef}
use Rattle.kb_term.specs.Pair.{Pair}
use Rattle.kb_term.specs.declared.origin.Origin.{Origin}
use Rattle.kb_label.specs.Names.{Name, join, minus}
use Rattle.kb_node.specs.declared.node.LabelKind.{LabelKind}
use Rattle.mkb_model.specs.Plain.{PlainNode, label_at, rule_kind, constraint_kind}
use Rattle.mkb_model.specs.Effects.{forked_node, gains, gains_equation, is_present, loses, new_node, with_label, with_node}
use Rattle.kb_node.specs.declared.node.LabelKind.TheVariants.{R0, R1, E}
use Rattle.mkb_rules.specs.Parts.{oriented_by}
use Rattle.mkb_model.proofs.commits.Roles.{length-put}

-- there are as many nodes
pub length_with : (n : ℕ) (kind : LabelKind) (l : List Name) (xs : List PlainNode) → length (with_label n kind l xs) ≡ length xs
length_with n kind l xs = length-put xs n kind l

pub length_loses : (n : ℕ) (kind : LabelKind) (l : List Name) (xs : List PlainNode) → length (loses n kind l xs) ≡ length xs
length_loses n kind l xs = length-put xs n kind (minus (label_at xs n kind) l)

pub length_gains : (n : ℕ) (kind : LabelKind) (l : List Name) (xs : List PlainNode) → length (gains n kind l xs) ≡ length xs
length_gains n kind l xs = length-put xs n kind (join (label_at xs n kind) l)

pub length_oriented : (l : List Name) (a : RuleRef) (xs : List PlainNode) → length (oriented_by l a xs) ≡ length xs
length_oriented l a xs =
    let n = a.node in
    let once = loses n E l xs in
    let twice = gains n (rule_kind a.dir) l once in
    length_gains n (constraint_kind a.dir) l twice ∙ length_gains n (rule_kind a.dir) l once ∙ length_loses n E l xs

pub length_forked : (p : Name) (xs : List PlainNode) → length (map (forked_node p) xs) ≡ length xs
length_forked p xs = length-map xs (forked_node p)

pub length_equation : (n : ℕ) (l : List Name) (xs : List PlainNode) → length (gains_equation n l xs) ≡ length xs
length_equation n l xs = length_gains n E (minus (minus l (label_at xs n R0)) (label_at xs n R1)) xs

-- there is at most one node more
pub one_more : (q : Pair) (o : Origin) (xs : List PlainNode) → length (with_node q o xs) ≤ length xs + 1
one_more q o xs = at_test (is_present xs q)
  where
    at_test : (t : Bool) → length (if t then xs else (xs ++ new_node q o ∷ [])) ≤ length xs + 1
    at_test true = omega arith
    at_test false = omega (arith, length-append xs (new_node q o ∷ []))
