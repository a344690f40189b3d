use Rattle.std.proofs.Common.{ℕ, ◌≡◌, ◌∷◌, [], ◌++◌, sym, ap, ◌∙◌, subst, List, eqb}
use Rattle.std.specs.Prelude.{map, Contains}
use Rattle.std.specs.List.{dedup}
use Rattle.std.specs.List.Sorted.{IsStrictlyIncreasing, IsPermutation}
use Rattle.std.proofs.lemmas.List.Filters.{dedup_is}
use Rattle.std.proofs.lemmas.List.Kept.{Contains-dedup_nat, Contains-from_dedup}
use Rattle.std.proofs.lemmas.List.Sorted.{Contains-permutation, IsPermutation-sym}
use Rattle.std.proofs.lemmas.Map.Keys.{IsStrictlyIncreasing-dedup}
use Rattle.kb_term.specs.View.{tree_of}
use Rattle.rule_index.specs.Walk.{hits}
use Rattle.rule_index.proofs.index.RuleIndex.found.Goals as goal

pub returns-clause-keys : goal.returns-clause-keys
returns-clause-keys c key =
    let found = hits c.args.loose c.args.self.now.root (tree_of c.args.t.now ∷ []) in
    let all : c.gather.new.keys.items ≡ found = c.in_ok-gather.ensures ∙ ap (λ (xs : List ℕ). xs ++ hits c.args.loose c.args.self.now.root (map tree_of c.from_ref.result.now ++ [])) c.new-keys.ensures.items ∙ ap (λ ts. hits c.args.loose c.args.self.now.root (map tree_of ts ++ [])) c.from_ref.ensures.value in
    let last : c.dedup.new.self.items ≡ dedup eqb c.sort_unstable.new.self.items = dedup_is eqb _ _ c.dedup.ensures.filtered in
    let perm : IsPermutation c.gather.new.keys.items c.sort_unstable.new.self.items = c.sort_unstable.ensures.permutation in (
      λ h. subst (λ (xs : List ℕ). Contains xs key) all (Contains-permutation _ _ _ (IsPermutation-sym _ _ perm) (Contains-from_dedup eqb _ _ (subst (λ (xs : List ℕ). Contains xs key) last h))),
      λ h. subst (λ (xs : List ℕ). Contains xs key) (sym last) (Contains-dedup_nat _ _ (Contains-permutation _ _ _ perm (subst (λ (xs : List ℕ). Contains xs key) (sym all) h))),
    )

pub returns-clause-rising : goal.returns-clause-rising
returns-clause-rising c =
    let last : c.dedup.new.self.items ≡ dedup eqb c.sort_unstable.new.self.items = dedup_is eqb _ _ c.dedup.ensures.filtered in
    subst IsStrictlyIncreasing (sym last) (IsStrictlyIncreasing-dedup _ c.sort_unstable.ensures.sorted)
