-- What jobs read of the board, name by name.
use Rattle.std.proofs.Common.{ℕ, zero, suc, ◌+◌, ◌<◌, ◌≤◌, ◌≡◌, refl, sym, ap, ◌∙◌, subst, arith, List, [], ◌∷◌, ◌++◌, map, filter, flat_map, length, nat_cmp, take, get_or, Contains, All, Bool, true, false, cond, Some, None, Option, append_assoc, ⊎_elim}
use Rattle.std.specs.Prelude.{slice_get, option_map, is_none}
use Rattle.std.specs.List.{cons_option, filter_map}
use Rattle.std.specs.Option.{option_map_or}
use Rattle.std.specs.Ordering.{ordering_then}
use Rattle.std.specs.declared.cmp.Ordering.{Ordering}
use Rattle.std.proofs.lemmas.List.{map-append, take_more, append-nil}
use Rattle.std.proofs.lemmas.Grind.{flat_map-append}
use Rattle.std.proofs.lemmas.List.Elements.{filter-append, filter_map-append, All-contains, Contains-append_cases}
use Rattle.mkb_model.proofs.commits.Views.{there_pair}
use Rattle.kb_lemmas.proofs.Membership.{all_rest, contains_first, contains_cases, contains_flat_map_back, none_in}
use Rattle.kb_lemmas.proofs.Lists.{filter_less}
use Rattle.kb_lemmas.proofs.Options.{none_some}
use Rattle.kb_label.specs.Names.{Name}
use Rattle.kb_term.specs.Pair.{Pair}
use Rattle.kb_term.specs.Rule.{Rule, rule_of}
use Rattle.kb_term.specs.declared.origin.RuleRef.{RuleRef}
use Rattle.kb_node.specs.declared.node.NodeId.{NodeId}
use Rattle.kb_laws.proofs.Complete.{all_from}
use Rattle.mkb_model.specs.Plain.{Plain, numbers_from, node_numbers, directions, is_rule, rules_of, pair_at, rule_at, rules_at, equations_at, sides, known}
use Rattle.mkb_model.specs.Proposals.{NamedRule, named_rules}
use Rattle.mkb_model.proofs.Lists.{filter_in, numbers_in}
use Rattle.kb_jobs.specs.Rules.{named, ComesBefore, AreInOrder}
use Rattle.kb_jobs.proofs.Preorder.{nat_less, nat_same}
use Rattle.kb_jobs.specs.Reducing.{no_name}
use Rattle.mkb_rules.specs.Named.{IsRuleThere}
use Rattle.mkb_board.specs.Snapshots.{AreWithin, with_names, unknown_on}
pub use Rattle.mkb_rules.proofs.Viewed.{in_directions, passing_there, rules_there, constraints_there, others_there, equations_there, rules_next}

-- ---- how many

doubled : (n k : ℕ) → length (flat_map directions (numbers_from n k)) ≡ k + k
doubled n zero = refl
doubled n (suc k) = omega (arith, doubled (n + 1) k)

-- a process has at most two rules for each node
pub rules_few : (b : Plain) (p : Name) → length (rules_of b p) ≤ length b.nodes + length b.nodes
rules_few b p = omega (arith, filter_less (is_rule b p) (flat_map directions (node_numbers b)), doubled 0 (length b.nodes))

-- ---- in order

kept_order : (F : RuleRef → Bool) (names : List RuleRef) → AreInOrder names → AreInOrder (filter F names)
kept_order F [] h = tt
kept_order F (a ∷ names) h = go (F a) (kept_order F names h.1)
  where
    go : (t : Bool) → AreInOrder (filter F names) → AreInOrder (cond t (a ∷ filter F names) (filter F names))
    go true ih = (λ c i. h.0 c (filter_in F names c i).0, ih)
    go false ih = ih

by_node : (a c : RuleRef) → a.node < c.node → ComesBefore a c
by_node a c l = ap (λ (o : Ordering). ordering_then o (nat_cmp a.dir c.dir)) (nat_less a.node c.node (omega (arith, l)))

by_dir : (n : ℕ) (c : RuleRef) → Contains (record { node = n; dir = 1 } ∷ []) c → ComesBefore (record { node = n; dir = 0 }) c
by_dir n c i =
    subst {A = RuleRef} (λ z. ComesBefore (record { node = n; dir = 0 }) z) (⊎_elim (λ e. e) (λ k. none_in k) (contains_cases (record { node = n; dir = 1 }) [] c i))
    (ap (λ (o : Ordering). ordering_then o (nat_cmp 0 1)) (nat_same n))

directions_order : (n k : ℕ) → AreInOrder (flat_map directions (numbers_from n k))
directions_order n zero = tt
directions_order n (suc k) = (
  λ c i. ⊎_elim (λ e. by_dir n c (subst {A = RuleRef} (Contains (record { node = n; dir = 1 } ∷ [])) e (contains_first (record { node = n; dir = 1 }) []))) (later (record { node = n; dir = 0 }) c refl) (contains_cases (record { node = n; dir = 1 }) rest c i),
  (λ c i. later (record { node = n; dir = 1 }) c refl i, directions_order (n + 1) k),
)
  where
    rest : List RuleRef
    rest = flat_map directions (numbers_from (n + 1) k)

    later : (a c : RuleRef) → a.node ≡ n → Contains rest c → ComesBefore a c
    later a c e i =
        let m = contains_flat_map_back directions (numbers_from (n + 1) k) c i in
        let l = numbers_in (n + 1) k m.0 m.1 in
        let d = in_directions m.0 c m.2 in
        by_node a c (omega (arith, l.0, d.0, e))

-- the rules of a process elsewhere are in order
pub others_order : (b : Plain) (p : Name) (F : RuleRef → Bool) → AreInOrder (filter F (rules_of b p))
others_order b p F = kept_order F (rules_of b p) (kept_order (is_rule b p) (flat_map directions (node_numbers b)) (directions_order 0 (length b.nodes)))

-- ---- names with rules

pub rule_there : (b : Plain) (a : RuleRef) → IsRuleThere b a → (r : Rule) × (rule_at b a ≡ Some r)
rule_there b a h = let q = there_pair b.nodes a.node h.0 in (rule_of q.0 a.dir, ap (option_map (λ (z : Pair). rule_of z a.dir)) q.1)

-- names that are there, with their rules
pub named_there : (b : Plain) (names : List RuleRef) → All (IsRuleThere b) names → named names (rules_at b names) ≡ named_rules b names
named_there b [] h = refl
named_there b (a ∷ names) h =
    let r = rule_there b a (All-contains (IsRuleThere b) (a ∷ names) a h (contains_first a names)) in
    go (rule_at b a) r.0 r.1 (named_there b names (all_rest (IsRuleThere b) a names h))
  where
    go : (o : Option Rule) (r : Rule) → o ≡ Some r → named names (rules_at b names) ≡ named_rules b names → named (a ∷ names) (cons_option o (rules_at b names)) ≡ cons_option (option_map (λ (r : Rule). record { ref = a; rule = r }) o) (named_rules b names)
    go None r e ih = none_some e
    go (Some q) r e ih = ap (λ (l : List NamedRule). record { ref = a; rule = q } ∷ l) ih

-- ---- one more

-- the rule of one name more, behind some that were there before
pub rules_more : (b : Plain) (names : List RuleRef) (i : ℕ) (d : RuleRef) (r : Rule) (old mid new : List Rule) → i < length names → rule_at b (get_or names i d) ≡ Some r → mid ≡ old ++ rules_at b (take i names) → new ≡ mid ++ r ∷ [] → new ≡ old ++ rules_at b (take (i + 1) names)
rules_more b names i d r old mid new l there h e =
    e ∙ ap (λ (rs : List Rule). rs ++ r ∷ []) h ∙ append_assoc old (rules_at b (take i names)) (r ∷ []) ∙ ap (λ (rs : List Rule). old ++ rs) (sym (rules_next b names i d r l there))

-- a rule in front of those with the names
pub rules_before : (b : Plain) (names : List RuleRef) (a : RuleRef) (r : Rule) → rule_at b a ≡ Some r → rules_at b (a ∷ names) ≡ r ∷ rules_at b names
rules_before b names a r e = ap (λ (o : Option Rule). cons_option o (rules_at b names)) e

-- the equation of one node more
pub equations_next : (b : Plain) (ns : List NodeId) (i : ℕ) (d : NodeId) (q : Pair) → i < length ns → pair_at b (get_or ns i d).0 ≡ Some q
    → equations_at b (map (λ (k : NodeId). k.0) (take (i + 1) ns)) ≡ equations_at b (map (λ (k : NodeId). k.0) (take i ns)) ++ sides q ∷ []
equations_next b ns i d q l there =
    let front : List ℕ = map (λ (k : NodeId). k.0) (take i ns) in
    ap (λ (ks : List NodeId). equations_at b (map (λ (k : NodeId). k.0) ks)) (take_more ns i d l)
    ∙ ap (equations_at b) (map-append (λ (k : NodeId). k.0) (take i ns) (get_or ns i d ∷ []))
    ∙ ap (map sides) (filter_map-append (pair_at b) front ((get_or ns i d).0 ∷ []) ∙ ap (λ (o : Option Pair). filter_map (pair_at b) front ++ cons_option o []) there)
    ∙ map-append sides (filter_map (pair_at b) front) (q ∷ [])

-- the test of one name more
pub passing_next : (F : RuleRef → Bool) (names : List RuleRef) (i : ℕ) (d : RuleRef) → i < length names → filter F (take (i + 1) names) ≡ filter F (take i names) ++ cond (F (get_or names i d)) (get_or names i d ∷ []) []
passing_next F names i d l = ap (filter F) (take_more names i d l) ∙ filter-append F (take i names) (get_or names i d ∷ [])

-- the side with a name
abbrev beside : ℕ → RuleRef → ℕ × RuleRef
beside w a = (w, a)

beside_one : (w : ℕ) (a : RuleRef) (t : Bool) → map (beside w) (cond t (a ∷ []) []) ≡ cond t (beside w a ∷ []) []
beside_one w a true = refl
beside_one w a false = refl

unknown_next : (b : Plain) (n w : ℕ) (names : List RuleRef) (i : ℕ) (d : RuleRef) → i < length names
    → unknown_on b n (take (i + 1) names) w ≡ unknown_on b n (take i names) w ++ cond (is_none (known b n w (get_or names i d))) (beside w (get_or names i d) ∷ []) []
unknown_next b n w names i d l =
    let F = λ (c : RuleRef). is_none (known b n w c) in
    ap (map (beside w)) (passing_next F names i d l) ∙ map-append (beside w) (filter F (take i names)) (cond (F (get_or names i d)) (get_or names i d ∷ []) [])
    ∙ ap (λ (z : List (ℕ × RuleRef)). map (beside w) (filter F (take i names)) ++ z) (beside_one w (get_or names i d) (F (get_or names i d)))

abbrev with_name : List RuleRef → ℕ × ℕ → ℕ × RuleRef
with_name names u = (u.0, option_map_or (λ (c : RuleRef). c) (slice_get names u.1) no_name)

names_next : (names : List RuleRef) (us : List (ℕ × ℕ)) (w i : ℕ) (a : RuleRef) → slice_get names i ≡ Some a → with_names names (us ++ (w, i) ∷ []) ≡ with_names names us ++ beside w a ∷ []
names_next names us w i a e =
    map-append (with_name names) us ((w, i) ∷ [])
    ∙ ap (λ (o : Option RuleRef). map (with_name names) us ++ beside w (option_map_or (λ (c : RuleRef). c) o no_name) ∷ []) e

slice_at : (names : List RuleRef) (i : ℕ) (d : RuleRef) → i < length names → slice_get names i ≡ Some (get_or names i d)
slice_at [] i d l = absurd (omega (arith, l))
slice_at (a ∷ names) zero d l = refl
slice_at (a ∷ names) (suc i) d l = slice_at names i d (omega (arith, l))

-- a rule of which nothing is known is added
pub unknown_more : (b : Plain) (n w : ℕ) (names : List RuleRef) (i : ℕ) (d : RuleRef) (old mid new : List (ℕ × ℕ)) → i < length names
    → with_names names mid ≡ with_names names old ++ unknown_on b n (take i names) w → is_none (known b n w (get_or names i d)) ≡ true → new ≡ mid ++ (w, i) ∷ []
    → with_names names new ≡ with_names names old ++ unknown_on b n (take (i + 1) names) w
unknown_more b n w names i d old mid new l h t e =
    let x : ℕ × RuleRef = beside w (get_or names i d) in
    let front : List (ℕ × RuleRef) = unknown_on b n (take i names) w in
    ap (with_names names) e ∙ names_next names mid w i (get_or names i d) (slice_at names i d l)
    ∙ ap (λ (z : List (ℕ × RuleRef)). z ++ x ∷ []) h
    ∙ append_assoc (with_names names old) front (x ∷ [])
    ∙ ap (λ (z : List (ℕ × RuleRef)). with_names names old ++ z) (sym (unknown_next b n w names i d l ∙ ap (λ (u : Bool). front ++ cond u (x ∷ []) []) t))

-- one of which something is known is not
pub unknown_same : (b : Plain) (n w : ℕ) (names : List RuleRef) (i : ℕ) (d : RuleRef) (old mid new : List (ℕ × ℕ)) → i < length names
    → with_names names mid ≡ with_names names old ++ unknown_on b n (take i names) w → is_none (known b n w (get_or names i d)) ≡ false → new ≡ mid
    → with_names names new ≡ with_names names old ++ unknown_on b n (take (i + 1) names) w
unknown_same b n w names i d old mid new l h t e =
    let x : ℕ × RuleRef = beside w (get_or names i d) in
    let front : List (ℕ × RuleRef) = unknown_on b n (take i names) w in
    ap (with_names names) e ∙ h
    ∙ ap (λ (z : List (ℕ × RuleRef)). with_names names old ++ z) (sym (unknown_next b n w names i d l ∙ ap (λ (u : Bool). front ++ cond u (x ∷ []) []) t ∙ append-nil front))

pub within_next : (k : ℕ) (us : List (ℕ × ℕ)) (w i : ℕ) → AreWithin k us → w ≤ 1 → i < k → AreWithin k (us ++ (w, i) ∷ [])
within_next k us w i h l m =
    let P = λ (u : ℕ × ℕ). (u.0 ≤ 1) × (u.1 < k) in
    all_from P (us ++ (w, i) ∷ []) (λ u c. ⊎_elim (λ e. All-contains P us u h e) (λ e. ⊎_elim (λ z. subst {A = ℕ × ℕ} P z (l, m)) (λ j. none_in j) (contains_cases (w, i) [] u e)) (Contains-append_cases us ((w, i) ∷ []) u c))

-- the rules of a process elsewhere are few where the nodes are
pub others_few : (b : Plain) (p : Name) (F : RuleRef → Bool) (rules names : List RuleRef) → names ≡ filter F rules → rules ≡ rules_of b p → length b.nodes ≤ 4096 → length names < 4294967296
others_few b p F rules names e f l = omega (arith, ap length e, ap length f, filter_less F rules, rules_few b p, l)

-- ---- rules, node by node

-- those of one node, in both directions
pub directions_pushed : (F : RuleRef → Bool) (n : ℕ) (cs : List RuleRef) → (cs ++ filter F (record { node = n; dir = 0 } ∷ [])) ++ filter F (record { node = n; dir = 1 } ∷ []) ≡ cs ++ filter F (directions n)
directions_pushed F n cs =
    let first : List RuleRef = record { node = n; dir = 0 } ∷ [] in
    let second : List RuleRef = record { node = n; dir = 1 } ∷ [] in
    append_assoc cs (filter F first) (filter F second) ∙ ap (λ (z : List RuleRef). cs ++ z) (sym (filter-append F first second))

-- those of one node more
pub directions_next : (F : RuleRef → Bool) (xs : List ℕ) (n : ℕ) (cs : List RuleRef) → cs ≡ filter F (flat_map directions xs) → cs ++ filter F (directions n) ≡ filter F (flat_map directions (xs ++ n ∷ []))
directions_next F xs n cs e =
    ap (λ (z : List RuleRef). z ++ filter F (directions n)) e
    ∙ sym (filter-append F (flat_map directions xs) (directions n))
    ∙ ap (filter F) (sym (flat_map-append directions xs (n ∷ [])))
