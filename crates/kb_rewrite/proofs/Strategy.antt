-- Steps of the strategy, argument by argument.
use Rattle.std.proofs.Common.{ℕ, suc, ◌<◌, ◌≡◌, refl, sym, ap, ◌∙◌, subst, List, [], ◌∷◌, length, get_or, Some}
use Rattle.std.specs.Prelude.{slice_get, false, option_map, option_and_then}
use Rattle.std.proofs.lemmas.Bool.{false≢true}
use Rattle.std.proofs.lemmas.Option.{same_Some}
use Rattle.kb_term.specs.Tree.{Tree, variable, apply, trees_of}
use Rattle.kb_term.specs.View.{tree_of}
use Rattle.kb_term.specs.declared.term.Term.{Term}
use Rattle.kb_term.specs.Position.{with_argument, replace_at}
use Rattle.kb_term.specs.Rule.{Rule}
use Rattle.kb_term.specs.Substitution.{instance, Matches}
use Rattle.kb_term.specs.Proving.{RewritesAt}
use Rattle.kb_rewrite.specs.NormalForm.{MatchesAt, IsRedex, IsFirstRedex, HasNoRedex, StrategyStep}
use Rattle.kb_rewrite.specs.Answers.{IsTried}
use Rattle.kb_rewrite.specs.declared.normalising.Tried.{Tried}
use Rattle.kb_rewrite.specs.declared.normalising.Tried.TheVariants.{Rewritten, Same}
use Rattle.kb_rewrite.specs.Search.{IsRootRedex, IsFirstAt, HasNone}
use Rattle.kb_rewrite.proofs.Positions.{argument-get, subtree-in}
use Rattle.kb_rewrite.proofs.FirstRedexes.{first_root, first_in, none_variable, none_apply}

-- the rule with the number i matches the term u itself
abbrev MatchesRoot : List Rule → Tree → ℕ → Type 0
MatchesRoot rules u i = (rule : Rule) × (slice_get rules i ≡ Some rule) × Matches rule.left u

-- a redex, where any rule may be used
pub redex_of : (rules : List Rule) (t : Tree) (p : List ℕ) (i : ℕ) (rule : Rule) → slice_get rules i ≡ Some rule → MatchesAt rule.left t p → IsRedex rules false t p i
redex_of rules t p i rule e m = record { rule = rule; there = e; matches = m; strict = λ d. absurd (false≢true d) }

root_of : (rules : List Rule) (t : Tree) (i : ℕ) → MatchesRoot rules t i → IsRedex rules false t [] i
root_of rules t i (rule, e, m) = redex_of rules t [] i rule e (t, refl, m)

first_to : (rules : List Rule) (t : Tree) (p : List ℕ) (i : ℕ) → IsFirstRedex rules false t p i → IsFirstAt (MatchesRoot rules) t p i
first_to rules t p i f =
    let r = f.redex in
    record {
      here = r.matches.0;
      there = r.matches.1;
      first = ((r.rule, r.there, r.matches.2), λ j d q. f.first_rule j d (redex_of rules t p j q.0 q.1 (r.matches.0, r.matches.1, q.2)));
      before = f.before;
      after = f.after;
      in_preorder = f.in_preorder;
      none_before = λ q c u e j m. f.none_before q j c (redex_of rules t q j m.0 m.1 (u, e, m.2));
    }

first_from : (rules : List Rule) (t : Tree) (p : List ℕ) (i : ℕ) → IsFirstAt (MatchesRoot rules) t p i → IsFirstRedex rules false t p i
first_from rules t p i h =
    let a = h.first.0 in
    record {
      redex = redex_of rules t p i a.0 a.1 (h.here, h.there, a.2);
      before = h.before;
      after = h.after;
      in_preorder = h.in_preorder;
      none_before = λ q j c r. h.none_before q c r.matches.0 r.matches.1 j (r.rule, r.there, r.matches.2);
      first_rule = λ j d r. h.first.1 j d (r.rule, r.there, subst (Matches r.rule.left) (same_Some _ _ (sym r.matches.1 ∙ h.there)) r.matches.2);
    }

none_to : (rules : List Rule) (t : Tree) → HasNoRedex rules false t → HasNone (MatchesRoot rules) t
none_to rules t h p u e j m = h p j (redex_of rules t p j m.0 m.1 (u, e, m.2))

none_from : (rules : List Rule) (t : Tree) → HasNone (MatchesRoot rules) t → HasNoRedex rules false t
none_from rules t h p i r = h p r.matches.0 r.matches.1 i (r.rule, r.there, r.matches.2)

-- a step at the first redex, by its rule
step_by : (rules : List Rule) (t u : Tree) (p : List ℕ) (i : ℕ) (rule : Rule) → IsFirstRedex rules false t p i → slice_get rules i ≡ Some rule → RewritesAt rule p t u → StrategyStep rules t u
step_by rules t u p i rule first e w = (p, i, first, subst (λ (r : Rule). RewritesAt r p t u) (same_Some _ _ (sym e ∙ first.redex.there)) w)

-- at the root, by the first rule that matches there
pub strategy_root : (rules : List Rule) (t u : Tree) (i : ℕ) (rule : Rule) (m : ℕ → Tree) → slice_get rules i ≡ Some rule → instance m rule.left ≡ t → u ≡ instance m rule.right → ((j : ℕ) → j < i → ¬ IsRedex rules false t [] j) → StrategyStep rules t u
strategy_root rules t u i rule m e here is none =
    let first = first_root (MatchesRoot rules) t i ((rule, e, (m, here)), λ j d q. none j d (root_of rules t j q)) in
    step_by rules t u [] i rule (first_from rules t [] i first) e (m, record { redex = ap Some (sym here); result = ap Some (sym is) })

replaced_in : (f : ℕ) (us : List Tree) (k : ℕ) (p : List ℕ) (u v : Tree) → k < length us → replace_at (get_or us k (variable 0)) p u ≡ Some v → replace_at (apply f (trees_of us)) (suc k ∷ p) u ≡ Some (apply f (with_argument (trees_of us) (suc k) v))
replaced_in f us k p u v h e =
    ap (option_and_then (λ t. option_map (λ w. apply f (with_argument (trees_of us) (suc k) w)) (replace_at t p u))) (argument-get us k h) ∙ ap (option_map (λ w. apply f (with_argument (trees_of us) (suc k) w))) e

-- in an argument, with no redex at the root and in the arguments before
pub strategy_in : (rules : List Rule) (f : ℕ) (us : List Tree) (k : ℕ) (v : Tree) → k < length us → ((j : ℕ) → ¬ IsRedex rules false (apply f (trees_of us)) [] j) → ((j : ℕ) → j < k → HasNoRedex rules false (get_or us j (variable 0)))
    → StrategyStep rules (get_or us k (variable 0)) v → StrategyStep rules (apply f (trees_of us)) (apply f (with_argument (trees_of us) (suc k) v))
strategy_in rules f us k v h root earlier (p, i, first, (m, w)) =
    let t = get_or us k (variable 0) in
    let whole = apply f (trees_of us) in
    let at = first_in (MatchesRoot rules) f us k p i h (λ j q. root j (root_of rules whole j q)) (λ j d. none_to rules (get_or us j (variable 0)) (earlier j d)) (first_to rules t p i first) in
    step_by rules whole _ (suc k ∷ p) i first.redex.rule (first_from rules whole (suc k ∷ p) i at) first.redex.there (m, record { redex = subtree-in f us k p h ∙ w.redex; result = replaced_in f us k p (instance m first.redex.rule.right) v h w.result })

-- there is no redex
pub no_redex_variable : (rules : List Rule) (n : ℕ) → ((j : ℕ) → ¬ IsRedex rules false (variable n) [] j) → HasNoRedex rules false (variable n)
no_redex_variable rules n root = none_from rules (variable n) (none_variable (MatchesRoot rules) n (λ j q. root j (root_of rules (variable n) j q)))

pub no_redex_apply : (rules : List Rule) (f : ℕ) (us : List Tree) → ((j : ℕ) → ¬ IsRedex rules false (apply f (trees_of us)) [] j) → ((k : ℕ) → k < length us → HasNoRedex rules false (get_or us k (variable 0))) → HasNoRedex rules false (apply f (trees_of us))
no_redex_apply rules f us root inside =
    let whole = apply f (trees_of us) in
    none_from rules whole (none_apply (MatchesRoot rules) f us (λ j q. root j (root_of rules whole j q)) (λ k h. none_to rules (get_or us k (variable 0)) (inside k h)))

-- a redex at the root is by a rule that applies to the term itself
pub root_redex : (rules : List Rule) (t : Tree) (i : ℕ) → IsRedex rules false t [] i → IsRootRedex rules false t t i
root_redex rules t i r = (r.rule, r.there, (subst (Matches r.rule.left) (sym (same_Some _ _ r.matches.1)) r.matches.2, r.strict))

-- the same for equal terms
pub root_same : (rules : List Rule) {t u : Tree} → t ≡ u → ((j : ℕ) → ¬ IsRedex rules false t [] j) → (j : ℕ) → ¬ IsRedex rules false u [] j
root_same rules e h = subst (λ v. (j : ℕ) → ¬ IsRedex rules false v [] j) e h

pub strategy_same : (rules : List Rule) {t s u v : Tree} → t ≡ s → u ≡ v → StrategyStep rules t u → StrategyStep rules s v
strategy_same rules {t} {s} {u} {v} d e h = subst (λ x. StrategyStep rules x v) d (subst (StrategyStep rules t) e h)

pub no_redex_same : (rules : List Rule) {t u : Tree} → t ≡ u → HasNoRedex rules false t → HasNoRedex rules false u
no_redex_same rules e h = subst (HasNoRedex rules false) e h

-- what is tried of a term
pub tried_step : (rules : List Rule) (t : Tree) (u : Term) {r : Tried} → r ≡ Rewritten u → IsTried rules t r → StrategyStep rules t (tree_of u)
tried_step rules t u e h = subst (IsTried rules t) e h

pub tried_none : (rules : List Rule) (t : Tree) (u : Term) {r : Tried} → r ≡ Same u → IsTried rules t r → HasNoRedex rules false t × (tree_of u ≡ t)
tried_none rules t u e h = subst (IsTried rules t) e h
