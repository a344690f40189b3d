-- The first rule that applies is among those that an index finds.
use Rattle.std.proofs.Common.{ℕ, zero, suc, ◌+◌, ◌-◌, ◌<◌, ◌≤◌, ◌≡◌, inl, inr, ⊎_elim, refl, sym, ap, ◌∙◌, arith, subst, List, length, get_or, Some, Contains}
use Rattle.std.specs.Prelude.{Bool, slice_get}
use Rattle.std.specs.List.Sorted.{IsStrictlyIncreasing}
use Rattle.std.proofs.lemmas.Bool.{cases_lt}
use Rattle.std.proofs.lemmas.Option.{slice_get-get_or, same_Some}
use Rattle.std.proofs.lemmas.Grind.{get_or_default_zero}
use Rattle.kb_lemmas.proofs.Numbers.{below_or_at}
use Rattle.kb_term.specs.Tree.{Tree, variable}
use Rattle.kb_term.specs.Rule.{Rule}
use Rattle.kb_term.specs.Substitution.{Matches, IsVariant}
use Rattle.kb_term.proofs.Instances.{instance-variable}
use Rattle.rule_index.specs.declared.mark.Mark.{Mark}
use Rattle.rule_index.specs.declared.index.RuleIndex.{RuleIndex}
use Rattle.rule_index.specs.Marks.{marks_of}
use Rattle.rule_index.specs.Index.{Holds, IsThere, IsWith, IsCandidate}
use Rattle.kb_rewrite.specs.Search.{Applies, IsFirstRule, IsRootRedex}
use Rattle.kb_rewrite.specs.Indexed.{IsNumbered, IsHeld, IsRepeated, IsIndexOf}
use Rattle.kb_rewrite.proofs.FirstRedexes.{rule_inside}

-- the candidates are among the rules
pub candidate_inside : (rules : List Rule) (index : RuleIndex) (t : Tree) (key : ℕ) → IsNumbered rules index → IsCandidate index t key → key < length rules
candidate_inside rules index t key numbered (left, held, fit) =
    let r = numbered key (marks_of left) held in
    rule_inside rules key r.0 r.1

pub number_at : (xs : List ℕ) (k x : ℕ) → k < length xs → x ≡ get_or xs k x → x ≡ get_or xs k 0
number_at xs k x h is = is ∙ get_or_default_zero xs k x h

pub key_at : (xs : List ℕ) (k x : ℕ) → k < length xs → x ≡ get_or xs k x → Contains xs x
key_at xs k x h is = (k, h, sym is)

-- a candidate with the left side is in the index with it
pub held_candidate : (rules : List Rule) (index : RuleIndex) (t left : Tree) (key : ℕ) (rule : Rule) → IsNumbered rules index → IsCandidate index t key → slice_get rules key ≡ Some rule → rule.left ≡ left → IsHeld rules index left key
held_candidate rules index t left key rule numbered (l, held, fit) there same =
    let r = numbered key (marks_of l) held in
    let marks : marks_of l ≡ marks_of left = r.2 ∙ ap (λ (q : Rule). marks_of q.left) (same_Some _ _ (sym r.1 ∙ there)) ∙ ap marks_of same in
    record { rule = rule; there = there; same = same; held = subst (λ (ms : List Mark). Holds index key ms) marks held }

-- what is held is a candidate
pub candidate_of_held : (rules : List Rule) (index : RuleIndex) (left : Tree) (keys : List ℕ) → ((key : ℕ) (l : Tree) → Holds index key (marks_of l) → Matches l left → Contains keys key) → (j : ℕ) → IsHeld rules index left j → Contains keys j
candidate_of_held rules index left keys matches j h = matches j left h.held (variable, instance-variable left)

-- numbers that rise
rising : (xs : List ℕ) → IsStrictlyIncreasing xs → (k d : ℕ) → k + d < length xs → get_or xs k 0 ≤ get_or xs (k + d) 0
rising xs up k zero h = omega (arith, ap (λ n. get_or xs n 0) (plus_zero k))
  where
    plus_zero : (n : ℕ) → n + 0 ≡ n
    plus_zero n = omega arith
rising xs up k (suc d) h =
    let next : (k + d) + 1 ≡ k + suc d = omega arith in
    let step = up (k + d) (omega (arith, h)) in
    omega (arith, rising xs up k d (omega (arith, h)), step, ap (λ n. get_or xs n 0) next)

pub smaller_before : (xs : List ℕ) → IsStrictlyIncreasing xs → (m k : ℕ) → m < length xs → get_or xs m 0 < get_or xs k 0 → m < k
smaller_before xs up m k h less = ⊎_elim (λ l. l) (λ l. absurd (go l)) (cases_lt m k)
  where
    go : k ≤ m → ⊥
    go l =
        let same : k + (m - k) ≡ m = omega (arith, l) in
        omega (arith, less, rising xs up k (m - k) (omega (arith, same, h)), ap (λ n. get_or xs n 0) same)

-- where a rule applies, the first rule with its left side is a candidate, and applies
pub found_before : (rules : List Rule) (strict_only : Bool) (whole u : Tree) (index : RuleIndex) (keys : List ℕ) (j : ℕ) → IsIndexOf (length rules) rules index
    → ((key : ℕ) (l : Tree) → Holds index key (marks_of l) → Matches l u → Contains keys key) → IsRootRedex rules strict_only whole u j
    → (m : ℕ) × (m < length keys) × (get_or keys m 0 ≤ j) × IsRootRedex rules strict_only whole u (get_or keys m 0)
found_before rules strict_only whole u index keys j indexed matches (rule, there, (match, strict)) =
    let f = indexed.firsts j rule (rule_inside rules j rule there) there in
    let h : IsHeld rules index rule.left f.0 = f.2 in
    let c : Contains keys f.0 = matches f.0 rule.left h.held match in
    let redex : IsRootRedex rules strict_only whole u f.0 = (h.rule, h.there, (subst (λ (l : Tree). Matches l u) (sym h.same) match, λ e v. strict e (subst (λ (l : Tree). IsVariant whole l) h.same v))) in
    let number : get_or keys c.0 0 ≡ f.0 = sym (get_or_default_zero keys c.0 f.0 c.1) ∙ c.2 in
    (c.0, c.1, omega (arith, number, f.1), subst (λ (n : ℕ). IsRootRedex rules strict_only whole u n) (sym number) redex)

-- the index without a rule
pub index_none : (rules : List Rule) (index : RuleIndex) → ((key : ℕ) → ¬ IsThere index key) → IsIndexOf 0 rules index
index_none rules index none = record {
  numbered = λ key marks h. absurd (none key (marks, h));
  below = λ key marks h. absurd (none key (marks, h));
  firsts = λ i rule h e. absurd (omega (arith, h));
}

-- the index with one rule more
pub index_more : (rules : List Rule) (old new : RuleIndex) (n : ℕ) (rule : Rule) → slice_get rules n ≡ Some rule → IsIndexOf n rules old → IsWith n rule.left old new → IsIndexOf (n + 1) rules new
index_more rules old new n rule there indexed more = record {
  numbered = λ key marks h. ⊎_elim (λ e. (rule, subst (λ k. slice_get rules k ≡ Some rule) (sym e.0) there, e.1)) (λ o. indexed.numbered key marks o) ((more key marks).0 h);
  below = λ key marks h. ⊎_elim (λ e. omega (arith, e.0)) (λ o. omega (arith, indexed.below key marks o)) ((more key marks).0 h);
  firsts = λ i r h e. ⊎_elim (λ l. kept r (indexed.firsts i r l e)) (λ d. here i r d e) (below_or_at i n h);
}
  where
    still : (left : Tree) (j : ℕ) → IsHeld rules old left j → IsHeld rules new left j
    still left j h = record { rule = h.rule; there = h.there; same = h.same; held = (more j (marks_of left)).1 (inr h.held) }

    kept : {i : ℕ} (r : Rule) → ((j : ℕ) × (j ≤ i) × IsHeld rules old r.left j) → (j : ℕ) × (j ≤ i) × IsHeld rules new r.left j
    kept r (j, l, h) = (j, l, still r.left j h)

    here : (i : ℕ) (r : Rule) → i ≡ n → slice_get rules i ≡ Some r → (j : ℕ) × (j ≤ i) × IsHeld rules new r.left j
    here i r d e =
        let one : rule ≡ r = same_Some _ _ (sym there ∙ subst (λ k. slice_get rules k ≡ Some r) d e) in
        let new_here : Holds new n (marks_of r.left) = (more n (marks_of r.left)).1 (inl (refl, ap (λ (q : Rule). marks_of q.left) (sym one))) in
        (n, omega (arith, d), record { rule = rule; there = there; same = ap (λ (q : Rule). q.left) one; held = new_here })

-- the index as it was, where an earlier rule has the left side
pub index_same : (rules : List Rule) (index : RuleIndex) (n : ℕ) (rule : Rule) → slice_get rules n ≡ Some rule → IsIndexOf n rules index → IsRepeated rules index rule.left → IsIndexOf (n + 1) rules index
index_same rules index n rule there indexed (j, held) = record {
  numbered = indexed.numbered;
  below = λ key marks h. omega (arith, indexed.below key marks h);
  firsts = λ i r h e. ⊎_elim (λ l. indexed.firsts i r l e) (λ d. here i r d e) (below_or_at i n h);
}
  where
    here : (i : ℕ) (r : Rule) → i ≡ n → slice_get rules i ≡ Some r → (j : ℕ) × (j ≤ i) × IsHeld rules index r.left j
    here i r d e =
        let one : rule ≡ r = same_Some _ _ (sym there ∙ subst (λ k. slice_get rules k ≡ Some r) d e) in
        (j, omega (arith, d, indexed.below j (marks_of rule.left) held.held), subst (λ (q : Rule). IsHeld rules index q.left j) one held)

-- the first rule that applies
pub first_rule_some : (rules inside : List Rule) (strict_only : Bool) (whole u : Tree) (i : ℕ) (d : Rule) → inside ≡ rules → i < length inside → Applies (get_or inside i d) strict_only whole u
    → ((j : ℕ) → j < i → ¬ IsRootRedex rules strict_only whole u j) → IsFirstRule (IsRootRedex rules strict_only whole u) (Some i)
first_rule_some rules inside strict_only whole u i d same room applies none =
    ((get_or inside i d, subst (λ (rs : List Rule). slice_get rs i ≡ Some (get_or inside i d)) same (slice_get-get_or inside i d room), applies), none)

pub first_rule_none : (rules inside : List Rule) (strict_only : Bool) (whole u : Tree) (i : ℕ) (d : Rule) → inside ≡ rules → i < length inside → ¬ Applies (get_or inside i d) strict_only whole u → ¬ IsRootRedex rules strict_only whole u i
first_rule_none rules inside strict_only whole u i d same room none (r, e, applies) =
    let there : slice_get rules i ≡ Some (get_or inside i d) = subst (λ (rs : List Rule). slice_get rs i ≡ Some (get_or inside i d)) same (slice_get-get_or inside i d room) in
    none (subst (λ (q : Rule). Applies q strict_only whole u) (same_Some _ _ (sym e ∙ there)) applies)

-- before the k-th candidate no rule applies, where none of the earlier candidates does
pub none_before_candidate : (rules : List Rule) (strict_only : Bool) (whole u : Tree) (index : RuleIndex) (keys : List ℕ) (k i : ℕ) → IsIndexOf (length rules) rules index
    → ((key : ℕ) (l : Tree) → Holds index key (marks_of l) → Matches l u → Contains keys key) → IsStrictlyIncreasing keys → i ≡ get_or keys k 0
    → ((m : ℕ) → m < k → ¬ IsRootRedex rules strict_only whole u (get_or keys m 0)) → (j : ℕ) → j < i → ¬ IsRootRedex rules strict_only whole u j
none_before_candidate rules strict_only whole u index keys k i indexed matches up is none j less redex =
    let f = found_before rules strict_only whole u index keys j indexed matches redex in
    none f.0 (smaller_before keys up f.0 k f.1 (omega (arith, f.2, less, is))) f.3
