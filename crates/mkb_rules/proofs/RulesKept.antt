-- A list of rules by node, then direction, when a rule comes or goes.
use Rattle.std.proofs.lemmas.Bool.{eqb-true}
use Rattle.std.proofs.Common.{ℕ, zero, suc, ◌+◌, ◌*◌, ◌<◌, ◌≤◌, ◌≡◌, refl, sym, ap, ap₂, ◌∙◌, arith, List, [], ◌∷◌, map, filter, flat_map, cond, Bool, true, false}
use Rattle.std.specs.Prelude.{◌&&◌, ◌==◌, insert, remove, Ok, Err}
use Rattle.std.specs.Ordering.{nat_cmp}
use Rattle.std.specs.List.Sorted.{IsBinarySearchResult}
use Rattle.std.proofs.lemmas.Bool.Decides.{nat_tests}
use Rattle.std.proofs.lemmas.List.Elements.{filter_agree}
use Rattle.kb_term.specs.declared.origin.RuleRef.{RuleRef}
use Rattle.mkb_model.specs.Jobs.{ref_eq}
use Rattle.mkb_model.specs.Plain.{numbers_from, directions}
use Rattle.kb_lemmas.proofs.Booleans.{and_gives_left, and_gives_right}
use Rattle.mkb_model.proofs.Lists.{same_test}
use Rattle.mkb_rules.specs.Roles.{but_for}
use Rattle.mkb_rules.proofs.Placing.{answering, put, taken, there, away}

-- ---- rules by number, two to a node

abbrev rule_number : RuleRef → ℕ
rule_number a = 2 * a.node + a.dir

abbrev after : RuleRef → RuleRef
after a = record { node = suc a.node; dir = a.dir }

abbrev rule_at : ℕ → RuleRef
rule_at zero = record { node = 0; dir = 0 }
rule_at (suc zero) = record { node = 0; dir = 1 }
rule_at (suc (suc k)) = after (rule_at k)

number_back : (k : ℕ) → rule_number (rule_at k) ≡ k
number_back zero = refl
number_back (suc zero) = refl
number_back (suc (suc k)) = omega (arith, number_back k)

forth : (n : ℕ) → rule_at (2 * n) ≡ record { node = n; dir = 0 }
forth zero = refl
forth (suc n) = let e : 2 * suc n ≡ suc (suc (2 * n)) = omega arith in ap rule_at e ∙ ap after (forth n)

reverse : (n : ℕ) → rule_at (suc (2 * n)) ≡ record { node = n; dir = 1 }
reverse zero = refl
reverse (suc n) = let e : suc (2 * suc n) ≡ suc (suc (suc (2 * n))) = omega arith in ap rule_at e ∙ ap after (reverse n)

rule_back : (n d : ℕ) → d ≤ 1 → rule_at (rule_number (record { node = n; dir = d })) ≡ record { node = n; dir = d }
rule_back n zero h = let e : 2 * n + 0 ≡ 2 * n = omega arith in ap rule_at e ∙ forth n
rule_back n (suc zero) h = let e : 2 * n + 1 ≡ suc (2 * n) = omega arith in ap rule_at e ∙ reverse n
rule_back n (suc (suc d)) h = absurd (omega (arith, h))

-- all of them
all_rules : (a c : ℕ) → map rule_at (numbers_from (2 * a) (2 * c)) ≡ flat_map directions (numbers_from a c)
all_rules a zero = refl
all_rules a (suc c) =
    let e : 2 * suc c ≡ suc (suc (2 * c)) = omega arith in
    let f : 2 * a + 1 ≡ suc (2 * a) = omega arith in
    let g : (2 * a + 1) + 1 ≡ 2 * (a + 1) = omega arith in
    ap (λ (k : ℕ). map rule_at (numbers_from (2 * a) k)) e
    ∙ ap (λ (k : ℕ). rule_at (2 * a) ∷ rule_at (2 * a + 1) ∷ map rule_at (numbers_from k (2 * c))) g
    ∙ ap (λ (r : RuleRef). r ∷ rule_at (2 * a + 1) ∷ map rule_at (numbers_from (2 * (a + 1)) (2 * c))) (forth a)
    ∙ ap (λ (r : RuleRef). record { node = a; dir = 0 } ∷ r ∷ map rule_at (numbers_from (2 * (a + 1)) (2 * c))) (ap rule_at f ∙ reverse a)
    ∙ ap (λ (l : List RuleRef). record { node = a; dir = 0 } ∷ record { node = a; dir = 1 } ∷ l) (all_rules (a + 1) c)

passing : (has : RuleRef → Bool) (ks : List ℕ) → map rule_at (filter (λ k. has (rule_at k)) ks) ≡ filter has (map rule_at ks)
passing has [] = refl
passing has (k ∷ ks) = go (has (rule_at k)) (passing has ks)
  where
    go : (b : Bool) → map rule_at (filter (λ k. has (rule_at k)) ks) ≡ filter has (map rule_at ks) → map rule_at (cond b (k ∷ filter (λ k. has (rule_at k)) ks) (filter (λ k. has (rule_at k)) ks)) ≡ cond b (rule_at k ∷ filter has (map rule_at ks)) (filter has (map rule_at ks))
    go true ih = ap (λ (l : List RuleRef). rule_at k ∷ l) ih
    go false ih = ih

by_number : (has : RuleRef → Bool) (c : ℕ) → map rule_at (filter (λ k. has (rule_at k)) (numbers_from 0 (2 * c))) ≡ filter has (flat_map directions (numbers_from 0 c))
by_number has c = passing has (numbers_from 0 (2 * c)) ∙ ap (filter has) (all_rules 0 c)

numbers_back : (ks : List ℕ) → map rule_number (map rule_at ks) ≡ ks
numbers_back [] = refl
numbers_back (k ∷ ks) = ap₂ (λ (m : ℕ) (l : List ℕ). m ∷ l) (number_back k) (numbers_back ks)

-- rules of two directions alone
abbrev AreTwo : List RuleRef → Type 0
AreTwo l = map rule_at (map rule_number l) ≡ l

two_insert : (l : List RuleRef) (i : ℕ) (a : RuleRef) → a.dir ≤ 1 → AreTwo l → AreTwo (insert l i a)
two_insert l i a h two = pushed l i ∙ ap₂ (λ (k : List RuleRef) (r : RuleRef). insert k i r) two (rule_back a.node a.dir h)
  where
    pushed : (l : List RuleRef) (i : ℕ) → map rule_at (map rule_number (insert l i a)) ≡ insert (map rule_at (map rule_number l)) i (rule_at (rule_number a))
    pushed [] zero = refl
    pushed [] (suc i) = refl
    pushed (x ∷ l) zero = refl
    pushed (x ∷ l) (suc i) = ap (λ (k : List RuleRef). rule_at (rule_number x) ∷ k) (pushed l i)

two_remove : (l : List RuleRef) (i : ℕ) → AreTwo l → AreTwo (remove l i)
two_remove l i two = pulled l i ∙ ap (λ (k : List RuleRef). remove k i) two
  where
    pulled : (l : List RuleRef) (i : ℕ) → map rule_at (map rule_number (remove l i)) ≡ remove (map rule_at (map rule_number l)) i
    pulled [] zero = refl
    pulled [] (suc i) = refl
    pulled (x ∷ l) zero = refl
    pulled (x ∷ l) (suc i) = ap (λ (k : List RuleRef). rule_at (rule_number x) ∷ k) (pulled l i)

-- ---- a rule comes or goes

itself : (m : ℕ) → (m == m) ≡ true
itself m = grind (arith, nat_tests)

module _ (rule : RuleRef) (plain : rule.dir ≤ 1) where
  itself_named : ref_eq rule rule ≡ true
  itself_named = ap₂ (λ (x y : Bool). x && y) (itself rule.node) (itself rule.dir)

  is_rule_at : (m : ℕ) → (m == rule_number rule) ≡ ref_eq (rule_at m) rule
  is_rule_at m = same_test (m == rule_number rule) (ref_eq (rule_at m) rule)
      (λ e. ap (λ (a : RuleRef). ref_eq a rule) (ap rule_at (eqb-true m (rule_number rule) e) ∙ rule_back rule.node rule.dir plain) ∙ itself_named)
      (λ e.
      let node = eqb-true (rule_at m).node rule.node (and_gives_left ((rule_at m).node == rule.node) ((rule_at m).dir == rule.dir) e) in
      let dir = eqb-true (rule_at m).dir rule.dir (and_gives_right ((rule_at m).node == rule.node) ((rule_at m).dir == rule.dir) e) in
      let same : m ≡ rule_number rule = omega (arith, number_back m, node, dir) in
      ap (λ k. m == k) (sym same) ∙ itself m)

  module _ (has : RuleRef → Bool) (count : ℕ) where
    abbrev numbered : ℕ → Bool
    numbered k = has (rule_at k)

    -- a list with these numbers is that of these rules
    listed : (l : List RuleRef) (t : Bool) → AreTwo l → map rule_number l ≡ filter (answering numbered (rule_number rule) t) (numbers_from 0 (2 * count)) → l ≡ filter (but_for has rule t) (flat_map directions (numbers_from 0 count))
    listed l t two e =
        sym two ∙ ap (map rule_at) e
        ∙ ap (map rule_at) (filter_agree (answering numbered (rule_number rule) t) (λ k. but_for has rule t (rule_at k)) (λ k. ap (λ b. cond b t (has (rule_at k))) (is_rule_at k)) (numbers_from 0 (2 * count)))
        ∙ by_number (but_for has rule t) count

    module _ (l : List RuleRef) (is : l ≡ filter has (flat_map directions (numbers_from 0 count))) (within : rule.node < count) where
      was : l ≡ map rule_at (filter numbered (numbers_from 0 (2 * count)))
      was = is ∙ sym (by_number has count)

      numbers : map rule_number l ≡ filter numbered (numbers_from 0 (2 * count))
      numbers = ap (map rule_number) was ∙ numbers_back (filter numbered (numbers_from 0 (2 * count)))

      two : AreTwo l
      two = ap (map rule_at) numbers ∙ sym was

      below : rule_number rule < 2 * count
      below = omega (arith, within, plain)

      pub rule_put : (i : ℕ) → IsBinarySearchResult (λ (a : RuleRef). nat_cmp (rule_number a) (rule_number rule)) l (Err i) → insert l i rule ≡ filter (but_for has rule true) (flat_map directions (numbers_from 0 count))
      rule_put i search = listed (insert l i rule) true (two_insert l i rule plain two) (put rule_number rule_at number_back numbered l (rule_number rule) (2 * count) numbers below rule i refl search)

      pub rule_taken : (i : ℕ) → IsBinarySearchResult (λ (a : RuleRef). nat_cmp (rule_number a) (rule_number rule)) l (Ok i) → remove l i ≡ filter (but_for has rule false) (flat_map directions (numbers_from 0 count))
      rule_taken i search = listed (remove l i) false (two_remove l i two) (taken rule_number rule_at number_back numbered l (rule_number rule) (2 * count) numbers below i search)

      pub rule_there : (i : ℕ) → IsBinarySearchResult (λ (a : RuleRef). nat_cmp (rule_number a) (rule_number rule)) l (Ok i) → l ≡ filter (but_for has rule true) (flat_map directions (numbers_from 0 count))
      rule_there i search = listed l true two (there rule_number rule_at number_back numbered l (rule_number rule) (2 * count) numbers below i search)

      pub rule_away : (i : ℕ) → IsBinarySearchResult (λ (a : RuleRef). nat_cmp (rule_number a) (rule_number rule)) l (Err i) → l ≡ filter (but_for has rule false) (flat_map directions (numbers_from 0 count))
      rule_away i search = listed l false two (away rule_number rule_at number_back numbered l (rule_number rule) (2 * count) numbers below i search)
