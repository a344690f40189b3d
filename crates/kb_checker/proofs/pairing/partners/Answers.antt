use Rattle.std.proofs.Common.{ℕ, ◌+◌, ◌≡◌, ◌∷◌, [], ◌++◌, sym, ap, ◌∙◌, subst, arith, List, eqb, take}
use Rattle.std.specs.Prelude.{Contains, ◌↔◌, option_map}
use Rattle.std.specs.List.{dedup}
use Rattle.std.specs.List.Sorted.{IsStrictlyIncreasing, IsPermutation}
use Rattle.std.proofs.lemmas.List.Filters.{dedup_is}
use Rattle.std.proofs.lemmas.List.Kept.{Contains-dedup_nat, Contains-from_dedup}
use Rattle.std.proofs.lemmas.List.Sorted.{Contains-permutation, IsPermutation-sym}
use Rattle.std.proofs.lemmas.Map.Keys.{IsStrictlyIncreasing-dedup}
use Rattle.kb_term.specs.Tree.{Tree}
use Rattle.kb_term.specs.Position.{subtree_at, function_positions_of}
use Rattle.kb_term.specs.View.{tree_of}
use Rattle.kb_checker.specs.Partners.{IsPartnerAt}
use Rattle.kb_checker.proofs.Partnership.{partners_more, partners_same, taken_more, taken_all}
use Rattle.kb_checker.proofs.pairing.partners.Goals as goal
use Rattle.kb_checker.proofs.pairing.partners.Goals.{in-Some+in_ok-found+in_ok-append, in_default}

pub loop-k-preserved : goal.loop-k-preserved
loop-k-preserved c =
    let index = c.args.index.now in
    let left = c.args.outer.now.left in
    let ps = c.in_ok-positions.positions.items in
    let k = c.loop-k.k in
    let p = c.index.result.now in
    let left_is : tree_of c.left.result.now ≡ left = c.left.ensures in
    let at : option_map (λ u. tree_of u.now) c.subterm.result ≡ subtree_at left p = c.subterm.ensures ∙ ap (λ (t : Tree). subtree_at t p) left_is in
    let more : take k ps ++ p ∷ [] ≡ take (k + 1) ps = taken_more ps k p (omega (arith, c.loop-k-test.true, c.len-k-end.ensures)) c.index.ensures in
    subst (λ (qs : List (List ℕ)). (key : ℕ) → Contains c.match-subterm.keys.items key ↔ IsPartnerAt index left qs key) more (elim c.match-subterm.branch [
      | in-Some+in_ok-found+in_ok-append w ↦
          partners_more index left (take k ps) p (tree_of w.in-Some.u.now) c.loop-k.keys.items w.in_ok-found.found.items c.match-subterm.keys.items c.loop-k.invariant
          (sym at ∙ ap (option_map (λ u. tree_of u.now)) w.in-Some.is)
          w.in_ok-found.ensures.keys
          (ap (λ v. v.items) w.keys-is ∙ w.in_ok-append.ensures.items)
      | in_default w ↦
          subst (λ (xs : List ℕ). (key : ℕ) → Contains xs key ↔ IsPartnerAt index left (take k ps ++ p ∷ []) key) (sym (ap (λ v. v.items) w.keys-is))
          (partners_same index left (take k ps) p c.loop-k.keys.items c.loop-k.invariant (sym at ∙ ap (option_map (λ u. tree_of u.now)) w.in_default.is))
    ])

pub returns-clause-keys : goal.returns-clause-keys
returns-clause-keys c key =
    let index = c.args.index.now in
    let left = c.args.outer.now.left in
    let ps = c.in_ok-positions.positions.items in
    let all : take c.loop-k.k ps ≡ function_positions_of left = taken_all ps c.loop-k.k (omega (arith, c.loop-k-test.false, c.len-k-end.ensures)) ∙ c.in_ok-positions.ensures in
    let found : Contains c.loop-k.keys.items key ↔ IsPartnerAt index left (function_positions_of left) key = subst (λ (qs : List (List ℕ)). Contains c.loop-k.keys.items key ↔ IsPartnerAt index left qs key) all (c.loop-k.invariant key) in
    let last : c.dedup.new.self.items ≡ dedup eqb c.sort_unstable.new.self.items = dedup_is eqb _ _ c.dedup.ensures.filtered in
    let perm : IsPermutation c.loop-k.keys.items c.sort_unstable.new.self.items = c.sort_unstable.ensures.permutation in (
      λ h. found.0 (Contains-permutation _ _ _ (IsPermutation-sym _ _ perm) (Contains-from_dedup eqb _ _ (subst (λ (xs : List ℕ). Contains xs key) last h))),
      λ h. subst (λ (xs : List ℕ). Contains xs key) (sym last) (Contains-dedup_nat _ _ (Contains-permutation _ _ _ perm (found.1 h))),
    )

pub returns-clause-rising : goal.returns-clause-rising
returns-clause-rising c =
    let last : c.dedup.new.self.items ≡ dedup eqb c.sort_unstable.new.self.items = dedup_is eqb _ _ c.dedup.ensures.filtered in
    subst IsStrictlyIncreasing (sym last) (IsStrictlyIncreasing-dedup _ c.sort_unstable.ensures.sorted)
