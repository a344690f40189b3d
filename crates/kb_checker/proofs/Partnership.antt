-- Rules that the index doesn't find have no overlap.
use Rattle.std.proofs.Common.{ℕ, zero, suc, ◌+◌, ◌-◌, ◌<◌, ◌≤◌, ◌≡◌, inl, inr, ⊎_elim, refl, sym, ap, ◌∙◌, arith, subst, List, [], ◌∷◌, ◌++◌, length, take, drop, Bool, true, false, ◌==◌, Some, None, get_or, Contains, All}
use Rattle.std.specs.Prelude.{slice_get, ◌↔◌}
use Rattle.std.specs.List.Sorted.{IsStrictlyIncreasing}
use Rattle.std.proofs.Math.Seq.{take-suc}
use Rattle.std.proofs.lemmas.List.Elements.{Contains-append_left, Contains-append_right, Contains-append_cases}
use Rattle.std.proofs.lemmas.Grind.{get_or_default_zero}
use Rattle.std.proofs.lemmas.Option.{slice_get-get_or, same_Some}
use Rattle.kb_term.specs.Tree.{Tree, variable}
use Rattle.kb_term.specs.Position.{subtree_at, function_positions_of}
use Rattle.kb_term.specs.Substitution.{instance}
use Rattle.kb_term.specs.Rule.{Rule}
use Rattle.kb_term.proofs.Instances.{instance-instance}
use Rattle.kb_overlap.specs.Overlap.{Overlap, IsRenamedApart, HasNoOverlapAt, ListsOverlaps, overlap_positions}
use Rattle.rule_index.specs.declared.index.RuleIndex.{RuleIndex}
use Rattle.rule_index.specs.Marks.{marks_of}
use Rattle.rule_index.specs.Agreeing.{HaveCommonInstance}
use Rattle.rule_index.specs.Index.{IsThere, IsWith, MayOverlap}
use Rattle.rule_index.proofs.Meeting.{agree_from_instance}
use Rattle.kb_rewrite.proofs.Indexing.{smaller_before}
use Rattle.std.proofs.lemmas.Bool.{cases_lt}
use Rattle.kb_lemmas.proofs.Membership.{only_member}
use Rattle.kb_checker.specs.Answers.{IsReady}
use Rattle.kb_checker.specs.Verdicts.{AreOverlapsOf, AreInnerOverlaps}
use Rattle.kb_checker.specs.Partners.{HoldsLeftSides, IsPartnerAt, IsPartner}
use Rattle.kb_checker.proofs.RowsOfOverlaps.{inner_more}

-- ---- the index of left sides

pub sides_none : (rules : List Rule) (index : RuleIndex) → ((key : ℕ) → ¬ IsThere index key) → HoldsLeftSides 0 rules index
sides_none rules index none = record {
  below = λ key marks h. absurd (none key (marks, h));
  held = λ i rule h e. absurd (omega (arith, h));
}

pub sides_more : (rules : List Rule) (old new : RuleIndex) (n : ℕ) (rule : Rule) → slice_get rules n ≡ Some rule → HoldsLeftSides n rules old → IsWith n rule.left old new → HoldsLeftSides (n + 1) rules new
sides_more rules old new n rule there sides more = record {
  below = λ key marks h. ⊎_elim (λ e. omega (arith, e.0)) (λ o. omega (arith, sides.below key marks o)) ((more key marks).0 h);
  held = λ i r h e. (more i (marks_of r.left)).1 (⊎_elim (λ less. inr (sides.held i r less e)) (λ most. inl (here i r h most e)) (cases_lt i n));
}
  where
    here : (i : ℕ) (r : Rule) → i < n + 1 → n ≤ i → slice_get rules i ≡ Some r → (i ≡ n) × (marks_of r.left ≡ marks_of rule.left)
    here i r h most e =
        let d : i ≡ n = omega (arith, h, most) in
        (d, ap (λ (q : Rule). marks_of q.left) (same_Some _ _ (sym (subst (λ k. slice_get rules k ≡ Some r) d e) ∙ there)))

-- ---- partners at one position more

at_front : (index : RuleIndex) (left : Tree) (ps : List (List ℕ)) (p : List ℕ) (key : ℕ) → IsPartnerAt index left ps key → IsPartnerAt index left (ps ++ p ∷ []) key
at_front index left ps p key (q, u, c, e, m) = (q, u, Contains-append_left ps (p ∷ []) q c, e, m)

pub partners_more : (index : RuleIndex) (left : Tree) (ps : List (List ℕ)) (p : List ℕ) (u : Tree) (keys found new : List ℕ) → ((key : ℕ) → Contains keys key ↔ IsPartnerAt index left ps key) → subtree_at left p ≡ Some u
    → ((key : ℕ) → Contains found key ↔ MayOverlap index u key) → new ≡ keys ++ found → (key : ℕ) → Contains new key ↔ IsPartnerAt index left (ps ++ p ∷ []) key
partners_more index left ps p u keys found new old at here is key = (
  λ c. ⊎_elim
      (λ k. at_front index left ps p key ((old key).0 k))
      (λ k. (p, u, Contains-append_right ps (p ∷ []) p (0, omega arith, refl), at, (here key).0 k))
      (Contains-append_cases keys found key (subst (λ (xs : List ℕ). Contains xs key) is c)),
  λ (q, v, c, e, m). subst (λ (xs : List ℕ). Contains xs key) (sym is) (⊎_elim
      (λ k. Contains-append_left keys found key ((old key).1 (q, v, k, e, m)))
      (λ k. Contains-append_right keys found key ((here key).1 (subst (λ (w : Tree). MayOverlap index w key) (same_Some _ _ (sym (subst (λ (r : List ℕ). subtree_at left r ≡ Some v) (sym (only_member p q k)) e) ∙ at)) m)))
      (Contains-append_cases ps (p ∷ []) q c)),
)

pub partners_same : (index : RuleIndex) (left : Tree) (ps : List (List ℕ)) (p : List ℕ) (keys : List ℕ) → ((key : ℕ) → Contains keys key ↔ IsPartnerAt index left ps key) → subtree_at left p ≡ None
    → (key : ℕ) → Contains keys key ↔ IsPartnerAt index left (ps ++ p ∷ []) key
partners_same index left ps p keys old at key = (
  λ c. at_front index left ps p key ((old key).0 c),
  λ (q, v, c, e, m). ⊎_elim
      (λ k. (old key).1 (q, v, k, e, m))
      (λ k. absurd (none v (sym (subst (λ (r : List ℕ). subtree_at left r ≡ Some v) (sym (only_member p q k)) e) ∙ at)))
      (Contains-append_cases ps (p ∷ []) q c),
)
  where
    none : (v : Tree) → ¬ (Some v ≡ None)
    none v e = cc

-- the positions so far, and one more
pub taken_more : (ps : List (List ℕ)) (k : ℕ) (p : List ℕ) → k < length ps → p ≡ get_or ps k p → take k ps ++ p ∷ [] ≡ take (k + 1) ps
taken_more ps k p room is =
    let next : k + 1 ≡ suc k = omega arith in
    ap (λ (q : List ℕ). take k ps ++ q ∷ []) is ∙ sym (take-suc ps k p room) ∙ ap (λ n. take n ps) (sym next)

-- ---- rules that are no partners

none_listed : (A B : Rule) (ps : List (List ℕ)) → ((p : List ℕ) → Contains ps p → HasNoOverlapAt A B p) → ListsOverlaps A B ps []
none_listed A B [] h = refl
none_listed A B (p ∷ ps) h = inl (h p (0, omega arith, refl), none_listed A B ps (λ q c. h q (suc c.0, omega (arith, c.1), c.2)))

chosen_within : (A : Rule) (same : Bool) (p : List ℕ) → Contains (overlap_positions A same) p → Contains (function_positions_of A.left) p
chosen_within A true p c = go (function_positions_of A.left) c
  where
    go : (ps : List (List ℕ)) → Contains (drop 1 ps) p → Contains ps p
    go [] c = c
    go (q ∷ ps) c = (suc c.0, omega (arith, c.1), c.2)
chosen_within A false p c = c

common_instance : (outer inner renamed : Rule) (u : Tree) → IsRenamedApart outer inner renamed → ((m : ℕ → Tree) × (instance m u ≡ instance m renamed.left)) → HaveCommonInstance inner.left u
common_instance outer inner renamed u apart (m, e) =
    let r = apart.variant.0 in
    (λ x. m (r x), m, sym (instance-instance m (λ n. variable (r n)) inner.left) ∙ ap (instance m) apart.variant.2.there ∙ sym e)

pub no_overlaps : (rules : List Rule) (index : RuleIndex) (i j : ℕ) (outer inner : Rule) → HoldsLeftSides (length rules) rules index → slice_get rules i ≡ Some outer → slice_get rules j ≡ Some inner → j < length rules
    → ¬ IsPartner index outer.left j → AreOverlapsOf rules i j []
no_overlaps rules index i j outer inner sides at there room none =
    (outer, inner, at, there, none_listed outer inner (overlap_positions outer (i == j)) (λ p c renamed u apart e unifiable. none (p, u, chosen_within outer (i == j) p c, e, (inner.left, sides.held j inner room there, agree_from_instance inner.left u (common_instance outer inner renamed u apart unifiable)))))

append-none : (os : List Overlap) → os ++ [] ≡ os
append-none [] = refl
append-none (o ∷ os) = ap (λ (xs : List Overlap). o ∷ xs) (append-none os)

-- the overlaps with the inner rules below b are those with the rules below b + d, where these are no partners
skip : (rules : List Rule) (i b d : ℕ) (os : List Overlap) → ((j : ℕ) → b ≤ j → j < b + d → AreOverlapsOf rules i j []) → AreInnerOverlaps rules i b os → AreInnerOverlaps rules i (b + d) os
skip rules i b zero os none h = let same : b ≡ b + 0 = omega arith in subst (λ n. AreInnerOverlaps rules i n os) same h
skip rules i b (suc d) os none h =
    let next : (b + d) + 1 ≡ b + suc d = omega arith in
    let before = skip rules i b d os (λ j l m. none j l (omega (arith, m))) h in
    subst (λ n. AreInnerOverlaps rules i n os) next (subst (AreInnerOverlaps rules i ((b + d) + 1)) (append-none os) (inner_more rules i (b + d) os [] before (none (b + d) (omega arith) (omega arith))))

-- so they are those with the rules below c
pub reach : (rules : List Rule) (index : RuleIndex) (i b c : ℕ) (outer : Rule) (os : List Overlap) → HoldsLeftSides (length rules) rules index → slice_get rules i ≡ Some outer → b ≤ c → c ≤ length rules
    → ((j : ℕ) → b ≤ j → j < c → ¬ IsPartner index outer.left j) → AreInnerOverlaps rules i b os → AreInnerOverlaps rules i c os
reach rules index i b c outer os sides at up room none h =
    let whole : b + (c - b) ≡ c = omega (arith, up) in
    subst (λ n. AreInnerOverlaps rules i n os) whole (skip rules i b (c - b) os (λ j l m.
    let below : j < c = omega (arith, m, whole) in
    let inside : j < length rules = omega (arith, below, room) in
    no_overlaps rules index i j outer (get_or rules j outer) sides at (slice_get-get_or rules j outer inside) inside (none j l below)) h)

-- between the partners so far and the next one there is no partner
pub none_between : (index : RuleIndex) (left : Tree) (keys : List ℕ) (k b c : ℕ) → ((key : ℕ) → Contains keys key ↔ IsPartner index left key) → IsStrictlyIncreasing keys → ((m : ℕ) → m < k → get_or keys m 0 < b) → c ≡ get_or keys k 0
    → (j : ℕ) → b ≤ j → j < c → ¬ IsPartner index left j
none_between index left keys k b c all up passed is j l m partner =
    let at : Contains keys j = (all j).1 partner in
    let number : get_or keys at.0 0 ≡ j = sym (get_or_default_zero keys at.0 j at.1) ∙ at.2 in
    let before = smaller_before keys up at.0 k at.1 (omega (arith, number, m, is)) in
    absurd (omega (arith, passed at.0 before, number, l))

-- behind all partners there is none
pub none_behind : (index : RuleIndex) (left : Tree) (keys : List ℕ) (b : ℕ) → ((key : ℕ) → Contains keys key ↔ IsPartner index left key) → ((m : ℕ) → m < length keys → get_or keys m 0 < b) → (j : ℕ) → b ≤ j → ¬ IsPartner index left j
none_behind index left keys b all passed j l partner =
    let at : Contains keys j = (all j).1 partner in
    let number : get_or keys at.0 0 ≡ j = sym (get_or_default_zero keys at.0 j at.1) ∙ at.2 in
    absurd (omega (arith, passed at.0 at.1, number, l))

-- a partner is the number of a rule
pub partner_inside : (n : ℕ) (rules : List Rule) (index : RuleIndex) (left : Tree) (key : ℕ) → HoldsLeftSides n rules index → IsPartner index left key → key < n
partner_inside n rules index left key sides (p, u, c, e, (l, held, agree)) = sides.below key (marks_of l) held

-- numbers that rise: a later one is greater
climbs_by : (xs : List ℕ) → IsStrictlyIncreasing xs → (k d : ℕ) → (k + d) + 1 < length xs → get_or xs k 0 < get_or xs ((k + d) + 1) 0
climbs_by xs up k zero h =
    let none : k + 0 ≡ k = omega arith in
    omega (arith, up k (omega (arith, h)), ap (λ n. get_or xs (n + 1) 0) none)
climbs_by xs up k (suc d) h =
    let next : (k + d) + 1 ≡ k + suc d = omega arith in
    omega (arith, climbs_by xs up k d (omega (arith, h)), up (k + suc d) (omega (arith, h)), ap (λ n. get_or xs n 0) next)

pub climbs : (xs : List ℕ) → IsStrictlyIncreasing xs → (k m : ℕ) → k < m → m < length xs → get_or xs k 0 < get_or xs m 0
climbs xs up k m l h =
    let whole : (k + (m - suc k)) + 1 ≡ m = omega (arith, l) in
    omega (arith, climbs_by xs up k (m - suc k) (omega (arith, whole, h)), ap (λ n. get_or xs n 0) whole)

-- ---- a rule of the system

pub rule_in : (rules inside : List Rule) (i : ℕ) (x : Rule) → inside ≡ rules → i < length inside → x ≡ get_or inside i x → slice_get rules i ≡ Some x
rule_in rules inside i x same room is = subst (λ (rs : List Rule). slice_get rs i ≡ Some x) same (slice_get-get_or inside i x room ∙ ap Some (sym is))

pub ready_at : (rules inside : List Rule) (i : ℕ) (x : Rule) → All IsReady rules → inside ≡ rules → i < length inside → x ≡ get_or inside i x → IsReady x
ready_at rules inside i x ready same room is =
    let all : All IsReady inside = subst (λ (rs : List Rule). All IsReady rs) (sym same) ready in
    subst IsReady (sym is) (all i x room)

pub taken_all : (ps : List (List ℕ)) (k : ℕ) → length ps ≤ k → take k ps ≡ ps
taken_all [] zero h = refl
taken_all [] (suc k) h = refl
taken_all (p ∷ ps) zero h = absurd (omega (arith, h))
taken_all (p ∷ ps) (suc k) h = ap (λ (qs : List (List ℕ)). p ∷ qs) (taken_all ps k (omega (arith, h)))
