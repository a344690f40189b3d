-- Whether rules have a redex in a term, rule by rule.
use Rattle.std.proofs.Common.{ℕ, ◌+◌, ◌<◌, ◌≡◌, ◌⊎◌, inl, inr, refl, sym, ap, ◌∙◌, subst, arith, List, [], ◌∷◌, ◌++◌, length, get_or, take, Contains, Some, ⊎_elim}
use Rattle.std.specs.Prelude.{option_map}
use Rattle.std.proofs.lemmas.Bool.{false≢true}
use Rattle.std.proofs.lemmas.List.{take_more}
use Rattle.std.proofs.lemmas.List.Elements.{Contains-append_cases, Contains-append_left, Contains-append_right}
use Rattle.std.proofs.lemmas.Option.{slice_get-map, slice_get-get_or}
use Rattle.kb_lemmas.proofs.Membership.{contains_cases, contains_mapped, contains_map, slice_contains}
use Rattle.kb_term.specs.Tree.{Tree, variable}
use Rattle.kb_term.specs.Rule.{Rule}
use Rattle.kb_term.specs.Substitution.{IsVariant}
use Rattle.kb_term.specs.declared.origin.Found.{Found}
use Rattle.kb_term.specs.declared.origin.Found.TheVariants.{Variant, Strict}
use Rattle.kb_rewrite.specs.NormalForm.{MatchesAt, Encompasses, IsFound, HasRedex}
use Rattle.kb_checker.specs.Answers.{rules_of}
use Rattle.kb_reduce.specs.Reducing.{IsCovered}
use Rattle.kb_reduce.proofs.Thinned.{redex_of, covered_more}

-- a variant of a left side encompasses it
pub variant_encompasses : (t s : Tree) → IsVariant t s → Encompasses t s
variant_encompasses t s (r, back, n) = ([], (t, refl, ((λ x. variable (back x)), n.back_again)))

-- the rule at a place that the term encompasses has a redex in it
pub redex_at : (rules : List (Rule × ℕ)) (k : ℕ) (r : Rule × ℕ) (t : Tree) → k < length rules → r ≡ get_or rules k r → Encompasses t r.0.left → HasRedex (rules_of rules) t
redex_at rules k r t room is (p, m) = (
  p,
  k,
  record {
    rule = r.0;
    there = slice_get-map (λ (x : Rule × ℕ). x.0) rules k ∙ ap (option_map (λ (x : Rule × ℕ). x.0)) (slice_get-get_or rules k r room ∙ ap Some (sym is));
    matches = m;
    strict = λ d. absurd (false≢true d);
  },
)

-- the rules as far as one that the term doesn't encompass have none, where those before it have none
pub no_redex_more : (rules : List (Rule × ℕ)) (k : ℕ) (r : Rule × ℕ) (t : Tree) → k < length rules → r ≡ get_or rules k r → ¬ HasRedex (rules_of (take k rules)) t → ¬ Encompasses t r.0.left → ¬ HasRedex (rules_of (take (k + 1) rules)) t
no_redex_more rules k r t room is none not (p, i, h) =
    let longer : take (k + 1) rules ≡ take k rules ++ r ∷ [] = take_more rules k r room ∙ ap (λ y. take k rules ++ y ∷ []) (sym is) in
    let m = contains_mapped (λ (x : Rule × ℕ). x.0) (take (k + 1) rules) h.rule (slice_contains (rules_of (take (k + 1) rules)) i h.rule h.there) in
    ⊎_elim
    (λ j. none (redex_of (rules_of (take k rules)) h.rule (subst (Contains (rules_of (take k rules))) m.2 (contains_map (λ (x : Rule × ℕ). x.0) (take k rules) m.0 j)) t p i (rules_of (take (k + 1) rules)) h refl))
    (λ j. ⊎_elim (λ e. not (p, subst (λ (x : Rule). MatchesAt x.left t p) (sym (ap (λ (x : Rule × ℕ). x.0) e ∙ m.2)) h.matches)) (λ l. absurd (omega (arith, l.1))) (contains_cases r [] m.0 j))
    (Contains-append_cases (take k rules) (r ∷ []) m.0 (subst (λ xs. Contains xs m.0) longer m.1))

-- rules before and behind one cover it as the two lists together do
pub covered_before : (rules more : List (Rule × ℕ)) (r : Rule × ℕ) → IsCovered rules r → IsCovered (rules ++ more) r
covered_before rules more r h = covered_more rules (rules ++ more) (λ x i. Contains-append_left rules more x i) r h

pub covered_behind : (rules more : List (Rule × ℕ)) (r : Rule × ℕ) → IsCovered more r → IsCovered (rules ++ more) r
covered_behind rules more r h = covered_more more (rules ++ more) (λ x i. Contains-append_right rules more x i) r h

pub covered_either : (rules more : List (Rule × ℕ)) (r : Rule × ℕ) → IsCovered (rules ++ more) r → IsCovered rules r ⊎ IsCovered more r
covered_either rules more r (p, i, h) =
    let m = contains_mapped (λ (x : Rule × ℕ). x.0) (rules ++ more) h.rule (slice_contains (rules_of (rules ++ more)) i h.rule h.there) in
    let back = λ (xs : List (Rule × ℕ)) (j : Contains xs m.0). redex_of (rules_of xs) h.rule (subst (Contains (rules_of xs)) m.2 (contains_map (λ (x : Rule × ℕ). x.0) xs m.0 j)) r.0.left p i (rules_of (rules ++ more)) h refl in
    ⊎_elim (λ j. inl (back rules j)) (λ j. inr (back more j)) (Contains-append_cases rules more m.0 m.1)

-- the kind that is found of a rule that the term encompasses
pub found_encompasses : (t : Tree) (rule : Rule) (kind : Found) → IsFound t rule kind → (kind ≡ Variant) ⊎ (kind ≡ Strict) → Encompasses t rule.left
found_encompasses t rule kind h (inl e) = variant_encompasses t rule.left (subst (IsFound t rule) e h)
found_encompasses t rule kind h (inr e) = let k = subst (IsFound t rule) e h in k.0
