-- What is read from the table of nodes is what stands on the plain board.
use Rattle.std.proofs.Common.{ℕ, ◌+◌, ◌<◌, ◌≡◌, sym, ap, ap₂, ◌∙◌, List, [], ◌∷◌, ◌++◌, map, length, take, get_or, Some, Option}
use Rattle.std.specs.Prelude.{slice_get, option_map}
use Rattle.std.specs.Option.{option_map_or}
use Rattle.std.proofs.lemmas.List.{map-append, take_more}
use Rattle.std.proofs.lemmas.Option.{slice_get-map, slice_get_within, get_or_from_slice_get}
use Rattle.kb_lemmas.proofs.Options.{some_is, some_of_map}
use Rattle.kb_label.specs.Names.{Name}
use Rattle.kb_term.specs.Pair.{Pair}
use Rattle.kb_term.specs.Rule.{Rule, rule_of}
use Rattle.kb_term.specs.declared.origin.RuleRef.{RuleRef}
use Rattle.kb_term.specs.declared.origin.Origin.{Origin}
use Rattle.kb_overlap.specs.Trace.{TraceStep}
use Rattle.kb_node.specs.Labelled.{Node, HasPair}
use Rattle.mkb_model.specs.Plain.{Plain, PlainNode, pair_at, rule_at}
use Rattle.mkb_rules.specs.Parts.{plain_node, plain_nodes}
use Rattle.mkb_report.specs.Cited.{cited_by, number_with}

-- the pair of a node of the table is that of the board's node
pub pair_read : (b : Plain) (xs : List (Node (List Name))) → plain_nodes xs ≡ b.nodes → (n : ℕ) (q : Pair) → HasPair {L = List Name} xs n q → pair_at b n ≡ Some q
pair_read b xs is n q e =
    let x = some_of_map (λ (x : Node (List Name)). x.pair) (slice_get xs n) q e in
    ap (λ (ys : List PlainNode). option_map (λ (y : PlainNode). y.pair) (slice_get ys n)) (sym is)
    ∙ ap (option_map (λ (y : PlainNode). y.pair)) (slice_get-map plain_node xs n ∙ ap (option_map plain_node) x.1) ∙ ap Some x.2

-- the rule of a pair
pub rule_read : (b : Plain) (a : RuleRef) (q : Pair) (r : Rule) → pair_at b a.node ≡ Some q → r ≡ rule_of q a.dir → rule_at b a ≡ Some r
rule_read b a q r e is = ap (option_map (λ (z : Pair). rule_of z a.dir)) e ∙ ap Some (sym is)

-- the number that one name more cites
pub cites_next : (b : Plain) (steps : List TraceStep) (names : List RuleRef) (i : ℕ) (d : RuleRef) (q : Pair) → i < length names → pair_at b (get_or names i d).node ≡ Some q
    → map (cited_by b steps) (take (i + 1) names) ≡ map (cited_by b steps) (take i names) ++ number_with steps q ∷ []
cites_next b steps names i d q l e =
    ap (map (cited_by b steps)) (take_more names i d l) ∙ map-append (cited_by b steps) (take i names) (get_or names i d ∷ [])
    ∙ ap (λ (o : Option Pair). map (cited_by b steps) (take i names) ++ option_map_or (number_with steps) o 0 ∷ []) e

-- the pair and the origin of a node
abbrev pub parts : PlainNode → Pair × Origin
parts x = (x.pair, x.origin)

abbrev parts_of : Pair → Origin → Pair × Origin
parts_of q o = (q, o)

-- one node more
pub nodes_next : (xs : List (Node (List Name))) (i : ℕ) (q : Pair) (o : Origin) → HasPair {L = List Name} xs i q → option_map (λ (x : Node (List Name)). x.origin) (slice_get xs i) ≡ Some o
    → map parts (plain_nodes (take (i + 1) xs)) ≡ map parts (plain_nodes (take i xs)) ++ (q, o) ∷ []
nodes_next xs i q o e f =
    let x = some_of_map (λ (x : Node (List Name)). x.pair) (slice_get xs i) q e in
    let origin : x.0.origin ≡ o = some_is (sym (ap (option_map (λ (y : Node (List Name)). y.origin)) x.1) ∙ f) in
    let at : get_or xs i x.0 ≡ x.0 = get_or_from_slice_get xs i x.0 x.0 x.1 in
    ap (λ ys. map parts (plain_nodes ys)) (take_more xs i x.0 (slice_get_within xs i x.0 x.1))
    ∙ ap (map parts) (map-append plain_node (take i xs) (get_or xs i x.0 ∷ []))
    ∙ map-append parts (plain_nodes (take i xs)) (plain_node (get_or xs i x.0) ∷ [])
    ∙ ap (λ (y : Node (List Name)). map parts (plain_nodes (take i xs)) ++ parts (plain_node y) ∷ []) at
    ∙ ap₂ (λ (p : Pair) (r : Origin). map parts (plain_nodes (take i xs)) ++ parts_of p r ∷ []) x.2 origin
