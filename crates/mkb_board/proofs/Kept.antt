-- What is kept of what jobs read: rules under their names, pairs under the numbers of their nodes.
use Rattle.std.proofs.Common.{ℕ, zero, suc, ⊎_elim, ◌⊎◌, inl, inr, ◌≤◌, ◌≡◌, ◌∙◌, refl, sym, ap, ap₂, subst, arith, length, set, All, List, [], ◌∷◌, ◌++◌, Option, Some, None}
use Rattle.std.specs.Prelude.{option_map, slice_get, IfSome}
use Rattle.std.specs.List.{cons_option}
use Rattle.std.specs.Option.{option_map_or}
use Rattle.std.proofs.lemmas.List.Elements.{All-contains}
use Rattle.kb_lemmas.proofs.Membership.{all_rest, contains_first}
use Rattle.kb_lemmas.proofs.Options.{none_some, some_is}
use Rattle.kb_term.specs.Pair.{Pair}
use Rattle.kb_term.specs.Rule.{Rule, rule_of}
use Rattle.kb_term.specs.declared.origin.RuleRef.{RuleRef}
use Rattle.kb_label.specs.declared.verdict.Reason.{Reason}
use Rattle.kb_jobs.specs.Rules.{named}
use Rattle.kb_jobs.specs.declared.rules.NamedRules.{NamedRules}
use Rattle.mkb_model.specs.Plain.{Plain, pair_at, pair_in, rule_at, rules_at}
use Rattle.mkb_model.specs.Proposals.{NamedRule, named_rules}
use Rattle.mkb_model.specs.Ready.{KeepsPairs}
use Rattle.mkb_model.specs.Effects.{applied, effect, effect_label, give_up, limit_of}
use Rattle.mkb_model.specs.declared.proposed.Proposed.{Proposed}
use Rattle.mkb_model.proofs.commits.Commits.{pairs-applied}
use Rattle.mkb_rules.specs.Named.{IsRuleThere}
use Rattle.mkb_board.specs.Shelf.{AreRulesAt, HoldsRead, IsPutAt, place_of}
use Rattle.mkb_board.specs.declared.shelf.Shelf.{Shelf}
use Rattle.mkb_board.proofs.Viewed.{rule_there}

-- two names of one place are one
one_name : (a c : RuleRef) → a.dir ≤ 1 → c.dir ≤ 1 → place_of c ≡ place_of a → c ≡ a
one_name a c h k e =
    let n : c.node ≡ a.node = omega (arith, h, k, e) in
    let d : c.dir ≡ a.dir = omega (arith, h, k, e) in
    ap₂ (λ x y. record { node = x; dir = y }) n d

-- ---- putting values

before : {X : Type 0} (xs : List (Option X)) (i : ℕ) (x : X) → slice_get (xs ++ None ∷ []) i ≡ Some (Some x) → slice_get xs i ≡ Some (Some x)
before [] zero x e = none_some (some_is e)
before [] (suc i) x e = none_some e
before (y ∷ xs) zero x e = e
before (y ∷ xs) (suc i) x e = before xs i x e

-- one place more, with nothing there
pub put_none : {X : Type 0} (place : ℕ) (value : X) (xs ys zs : List (Option X)) → zs ≡ ys ++ None ∷ [] → IsPutAt place value xs ys → IsPutAt place value xs zs
put_none {X} place value xs ys zs e h = λ i x k. h i x (before ys i x (subst {A = List (Option X)} (λ l. slice_get l i ≡ Some (Some x)) e k))

set_cases : {X : Type 0} (xs : List (Option X)) (i j : ℕ) (q r : X) → slice_get (set xs i (Some q)) j ≡ Some (Some r) → (slice_get xs j ≡ Some (Some r)) ⊎ ((j ≡ i) × (q ≡ r))
set_cases [] i j q r e = inl e
set_cases (x ∷ xs) zero zero q r e = inr (refl, some_is (some_is e))
set_cases (x ∷ xs) zero (suc j) q r e = inl e
set_cases (x ∷ xs) (suc i) zero q r e = inl e
set_cases (x ∷ xs) (suc i) (suc j) q r e = ⊎_elim (λ h. inl h) (λ h. inr (ap suc h.0, h.1)) (set_cases xs i j q r e)

-- the value at its place
pub put_there : {X : Type 0} (place : ℕ) (value : X) (xs ys zs : List (Option X)) → zs ≡ set ys place (Some value) → IsPutAt place value xs ys → IsPutAt place value xs zs
put_there {X} place value xs ys zs e h = λ i x k. ⊎_elim (h i x) (λ j. inr j) (set_cases ys place i value x (subst {A = List (Option X)} (λ l. slice_get l i ≡ Some (Some x)) e k))

-- ---- what is kept

-- the last list is that of its names
abbrev HasLast : Plain → Option NamedRules → Type 0
HasLast b o = IfSome o (λ l. AreRulesAt b l.names.items l.rules)

-- nothing is kept
pub holds_none : (b : Plain) (k : Shelf) → k.rules.items ≡ [] → k.last ≡ None → k.pairs.items ≡ [] → HoldsRead b k
holds_none b k e l p = record {
  each = λ a r d i. none_some (subst {A = List (Option Rule)} (λ z. slice_get z (place_of a) ≡ Some (Some r)) e i);
  last = subst {A = Option NamedRules} (HasLast b) (sym l) tt;
  pairs = λ n q i. none_some (subst {A = List (Option Pair)} (λ z. slice_get z n ≡ Some (Some q)) p i);
}

-- one rule more, at its place
pub holds_with : (b : Plain) (k : Shelf) (a : RuleRef) (q : Rule) (rules : List (Option Rule)) → a.dir ≤ 1 → IsPutAt (place_of a) q k.rules.items rules → rule_at b a ≡ Some q → HoldsRead b k
    → (c : RuleRef) (r : Rule) → c.dir ≤ 1 → slice_get rules (place_of c) ≡ Some (Some r) → rule_at b c ≡ Some r
holds_with b k a q rules l put f h c r d i = ⊎_elim (h.each c r d) (λ g. ap (rule_at b) (one_name a c l d g.0) ∙ f ∙ ap Some g.1) (put (place_of c) r i)

-- one pair more, at its place
pub holds_pair : (b : Plain) (k : Shelf) (n : ℕ) (p : Pair) (pairs : List (Option Pair)) → IsPutAt n p k.pairs.items pairs → pair_at b n ≡ Some p → HoldsRead b k
    → (m : ℕ) (q : Pair) → slice_get pairs m ≡ Some (Some q) → pair_at b m ≡ Some q
holds_pair b k n p pairs put f h m q i = ⊎_elim (h.pairs m q) (λ g. ap (pair_at b) g.0 ∙ f ∙ ap Some g.1) (put m q i)

-- ---- the last list

-- names that are there name their rules
pub at_there : (b : Plain) (names : List RuleRef) → All (IsRuleThere b) names → AreRulesAt b names (rules_at b names)
at_there b [] h = tt
at_there b (a ∷ names) h =
    let r = rule_there b a (All-contains (IsRuleThere b) (a ∷ names) a h (contains_first a names)) in
    subst {A = Option Rule} (λ o. AreRulesAt b (a ∷ names) (cons_option o (rules_at b names))) (sym r.1) (r.1, at_there b names (all_rest (IsRuleThere b) a names h))

-- the rules with their names
pub listed_at : (b : Plain) (names : List RuleRef) (rules : List Rule) → AreRulesAt b names rules → named names rules ≡ named_rules b names
listed_at b [] [] h = refl
listed_at b [] (r ∷ rules) h = absurd h
listed_at b (a ∷ names) [] h = absurd h
listed_at b (a ∷ names) (r ∷ rules) h =
    ap (λ (l : List NamedRule). record { ref = a; rule = r } ∷ l) (listed_at b names rules h.1)
    ∙ sym (ap (λ (o : Option Rule). cons_option (option_map (λ (z : Rule). record { ref = a; rule = z }) o) (named_rules b names)) h.0)

-- as many names as rules
pub as_many_at : (b : Plain) (names : List RuleRef) (rules : List Rule) → AreRulesAt b names rules → length names ≡ length rules
as_many_at b [] [] h = refl
as_many_at b [] (r ∷ rules) h = absurd h
as_many_at b (a ∷ names) [] h = absurd h
as_many_at b (a ∷ names) (r ∷ rules) h = ap suc (as_many_at b names rules h.1)

-- ---- later boards

-- a rule stays that of its name where the nodes keep their pairs
rule_stays : (b c : Plain) → KeepsPairs b.nodes c.nodes → (a : RuleRef) (r : Rule) → rule_at b a ≡ Some r → rule_at c a ≡ Some r
rule_stays b c keeps a r h = go (pair_in b.nodes a.node) refl h
  where
    go : (o : Option Pair) → pair_in b.nodes a.node ≡ o → option_map (λ (z : Pair). rule_of z a.dir) o ≡ Some r → rule_at c a ≡ Some r
    go None e k = none_some k
    go (Some q) e k = ap (option_map (λ (z : Pair). rule_of z a.dir)) (keeps a.node q e) ∙ k

-- so do all of a list
rules_stay : (b c : Plain) → KeepsPairs b.nodes c.nodes → (names : List RuleRef) (rules : List Rule) → AreRulesAt b names rules → AreRulesAt c names rules
rules_stay b c keeps [] [] h = tt
rules_stay b c keeps [] (r ∷ rules) h = absurd h
rules_stay b c keeps (a ∷ names) [] h = absurd h
rules_stay b c keeps (a ∷ names) (r ∷ rules) h = (rule_stays b c keeps a r h.0, rules_stay b c keeps names rules h.1)

last_stays : (b c : Plain) → KeepsPairs b.nodes c.nodes → (o : Option NamedRules) → HasLast b o → HasLast c o
last_stays b c keeps None h = tt
last_stays b c keeps (Some l) h = rules_stay b c keeps l.names.items l.rules h

-- a commit keeps the pairs of the nodes
effect_pairs : (b : Plain) (x : Proposed) → KeepsPairs b.nodes (effect b x).nodes
effect_pairs b x = go (limit_of b x)
  where
    go : (o : Option Reason) → KeepsPairs b.nodes (option_map_or (λ r. give_up r (effect_label b x) b) o (applied b x)).nodes
    go (Some r) = λ n q e. e
    go None = pairs-applied b x

-- what is kept is kept on each later board
pub holds_after : (b : Plain) (x : Proposed) (k : Shelf) → HoldsRead b k → HoldsRead (effect b x) k
holds_after b x k h = record {
  each = λ a r d e. rule_stays b (effect b x) (effect_pairs b x) a r (h.each a r d e);
  last = last_stays b (effect b x) (effect_pairs b x) k.last h.last;
  pairs = λ n q e. effect_pairs b x n q (h.pairs n q e);
}
