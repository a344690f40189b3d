-- A term that a substitution takes to another, from which one takes it back, normalises as that one does.
use Rattle.std.proofs.Common.{ℕ, zero, suc, ◌<◌, ◌≡◌, arith, refl, sym, ap, ap₂, ◌∙◌, subst, List, [], ◌∷◌, ◌++◌, map, Contains, All, false, Some, None}
use Rattle.std.specs.Prelude.{slice_get}
use Rattle.std.proofs.lemmas.List.{length-map}
use Rattle.std.proofs.lemmas.List.Elements.{All-nil, All-cons, All-head, All-tail}
use Rattle.std.proofs.lemmas.Option.{same_Some}
use Rattle.kb_lemmas.proofs.Membership.{contains_behind}
use Rattle.kb_term.specs.Tree.{Tree, variable, apply, Trees, no_trees, more_trees, variables_of}
use Rattle.kb_term.specs.Position.{subtree_at, replace_at, positions_of, positions_in}
use Rattle.kb_term.specs.Substitution.{instance, instances}
use Rattle.kb_term.specs.Pair.{canonical_pair, term_limit}
use Rattle.kb_term.specs.Rule.{Rule}
use Rattle.kb_term.specs.Proving.{IsPath, RewritesAt}
use Rattle.kb_term.proofs.Instances.{instance-instance, instance-agree, agree_at}
use Rattle.kb_term.proofs.Steps.{occurs_from, occurs_to}
use Rattle.kb_term.proofs.Subtrees.{subtree-instance, replace-instance}
use Rattle.kb_overlap.proofs.Extents.{same_term_limit}
use Rattle.kb_overlap.proofs.Uniqueness.{same_canonical_pair}
use Rattle.kb_rewrite.specs.NormalForm.{IsRedex, IsFirstRedex, HasRedex, IsNormal, StrategyStep, HoldVariables, Normalised, form, long, large, NormalisesTo}

-- e takes the instance of the term by d back to the term
abbrev pub Back : (d e : ℕ → Tree) → Tree → Type 0
Back d e s = instance e (instance d s) ≡ s

-- and so back again
pub back_again : (d e : ℕ → Tree) (s : Tree) → Back d e s → Back e d (instance d s)
back_again d e s h = ap (instance d) h

-- ---- positions and redexes

same_apply : (f g : ℕ) (ts us : Trees) → apply f ts ≡ apply g us → ts ≡ us
same_apply f g ts us h = cc

same_head : (t u : Tree) (ts us : Trees) → more_trees t ts ≡ more_trees u us → t ≡ u
same_head t u ts us h = cc

same_rest : (t u : Tree) (ts us : Trees) → more_trees t ts ≡ more_trees u us → ts ≡ us
same_rest t u ts us h = cc

variable_positions : (e : ℕ → Tree) (t : Tree) (n : ℕ) → instance e t ≡ variable n → positions_of t ≡ [] ∷ []
variable_positions e (variable m) n h = refl
variable_positions e (apply f ts) n h = absurd (cc)

mutual
  back_positions : (d e : ℕ → Tree) (s : Tree) → Back d e s → positions_of (instance d s) ≡ positions_of s
  back_positions d e (variable n) h = variable_positions e (d n) n h
  back_positions d e (apply f ts) h = ap (λ ps. [] ∷ ps) (back_positions_in d e ts 1 (same_apply f f (instances e (instances d ts)) ts h))

  back_positions_in : (d e : ℕ → Tree) (ts : Trees) (i : ℕ) → instances e (instances d ts) ≡ ts → positions_in (instances d ts) i ≡ positions_in ts i
  back_positions_in d e no_trees i h = refl
  back_positions_in d e (more_trees t ts) i h =
      ap₂ {C = List (List ℕ)} (λ ps qs. map (λ p. i ∷ p) ps ++ qs)
      (back_positions d e t (same_head (instance e (instance d t)) t (instances e (instances d ts)) ts h))
      (back_positions_in d e ts (suc i) (same_rest (instance e (instance d t)) t (instances e (instances d ts)) ts h))

redex_instance : (d : ℕ → Tree) (rules : List Rule) (s : Tree) (p : List ℕ) (i : ℕ) → IsRedex rules false s p i → IsRedex rules false (instance d s) p i
redex_instance d rules s p i r = record {
  rule = r.rule;
  there = r.there;
  matches = (instance d r.matches.0, subtree-instance d p s r.matches.0 r.matches.1, ((λ x. instance d (r.matches.2.0 x)), sym (instance-instance d r.matches.2.0 r.rule.left) ∙ ap (instance d) r.matches.2.1));
  strict = λ e. absurd (cc);
}

redex_back : (d e : ℕ → Tree) (rules : List Rule) (s : Tree) → Back d e s → (p : List ℕ) (i : ℕ) → IsRedex rules false (instance d s) p i → IsRedex rules false s p i
redex_back d e rules s h p i r = subst {A = Tree} (λ z. IsRedex rules false z p i) h (redex_instance e rules (instance d s) p i r)

first_instance : (d e : ℕ → Tree) (rules : List Rule) (s : Tree) (p : List ℕ) (i : ℕ) → Back d e s → IsFirstRedex rules false s p i → IsFirstRedex rules false (instance d s) p i
first_instance d e rules s p i h f = record {
  redex = redex_instance d rules s p i f.redex;
  before = f.before;
  after = f.after;
  in_preorder = back_positions d e s h ∙ f.in_preorder;
  none_before = λ q j c r. f.none_before q j c (redex_back d e rules s h q j r);
  first_rule = λ j l r. f.first_rule j l (redex_back d e rules s h p j r);
}

-- what a rule rewrites it rewrites in each instance
pub rewrites_instance : (d : ℕ → Tree) (rule : Rule) (p : List ℕ) (s u : Tree) → RewritesAt rule p s u → RewritesAt rule p (instance d s) (instance d u)
rewrites_instance d rule p s u (m, r) = (
  (λ x. instance d (m x)),
  record {
    redex = subtree-instance d p s (instance m rule.left) r.redex ∙ ap Some (instance-instance d m rule.left);
    result = ap (replace_at (instance d s) p) (sym (instance-instance d m rule.right)) ∙ replace-instance d p s (instance m rule.right) u r.result;
  },
)

-- ---- steps

strategy_instance : (d e : ℕ → Tree) (rules : List Rule) (s u : Tree) → Back d e s → StrategyStep rules s u → StrategyStep rules (instance d s) (instance d u)
unfolding first_instance redex_instance
strategy_instance d e rules s u h (p, i, f, r) = (p, i, first_instance d e rules s p i h f, rewrites_instance d f.redex.rule p s u r)

rule_among : (rules : List Rule) (i : ℕ) (rule : Rule) → slice_get rules i ≡ Some rule → Contains rules rule
rule_among [] i rule h = absurd (cc)
rule_among (r ∷ rules) zero rule h = (0, omega arith, cc)
rule_among (r ∷ rules) (suc i) rule h = contains_behind r rules rule (rule_among rules i rule h)

-- what is rewritten is taken back too
pub rewrites_back : (d e : ℕ → Tree) (rule : Rule) (p : List ℕ) (s u : Tree) → ((n : ℕ) → Contains (variables_of rule.right) n → Contains (variables_of rule.left) n)
    → Back d e s → RewritesAt rule p s u → Back d e u
rewrites_back d e rule p s u held h (m, r) =
    let k : ℕ → Tree = λ x. instance e (d x) in
    let fixed : instance k s ≡ s = sym (instance-instance e d s) ∙ h in
    let left : instance k (instance m rule.left) ≡ instance m rule.left = same_Some _ _ (sym (subtree-instance k p s (instance m rule.left) r.redex) ∙ ap (λ z. subtree_at z p) fixed ∙ r.redex) in
    let right : instance k (instance m rule.right) ≡ instance m rule.right = instance-instance k m rule.right
    ∙ instance-agree (λ x. instance k (m x)) m rule.right (λ n o. agree_at (λ x. instance k (m x)) m rule.left (sym (instance-instance k m rule.left) ∙ left) n (occurs_from n rule.left (held n (occurs_to n rule.right o)))) in
    instance-instance e d u ∙ same_Some _ _ (sym (replace-instance k p s (instance m rule.right) u r.result) ∙ ap₂ (λ y z. replace_at y p z) fixed right ∙ r.result)

step_back : (d e : ℕ → Tree) (rules : List Rule) (s u : Tree) → HoldVariables rules → Back d e s → StrategyStep rules s u → Back d e u
step_back d e rules s u held h (p, i, f, r) = rewrites_back d e f.redex.rule p s u (held f.redex.rule (rule_among rules i f.redex.rule f.redex.there)) h r

limit_back : (d e : ℕ → Tree) (u : Tree) → Back d e u → term_limit (instance d u) ≡ term_limit u
limit_back d e u h = sym (same_term_limit d e u u (instance d u) (instance d u) refl h refl h)

normal_back : (d e : ℕ → Tree) (rules : List Rule) (u : Tree) → Back d e u → IsNormal rules u → IsNormal rules (instance d u)
normal_back d e rules u h normal w (rule, i, p, r) = normal (instance e w) (rule, i, p, subst {A = Tree} (λ z. RewritesAt rule p z (instance e w)) h (rewrites_instance e rule p (instance d u) w r))

has_redex : (d : ℕ → Tree) (rules : List Rule) (u : Tree) → HasRedex rules u → HasRedex rules (instance d u)
has_redex d rules u (p, i, r) = (p, i, redex_instance d rules u p i r)

-- ---- runs

-- a run from the one is a run from the other
record Taken (d e : ℕ → Tree) (rules : List Rule) (path : List Tree) (s u : Tree) : Type 0 where
  path_is : IsPath (StrategyStep rules) (map (instance d) path) (instance d s) (instance d u)
  within : All (λ v. term_limit v ≡ None) (map (instance d) path)
  back : Back d e u

taken : (d e : ℕ → Tree) (rules : List Rule) (path : List Tree) (s u : Tree) → HoldVariables rules → Back d e s → IsPath (StrategyStep rules) path s u → All (λ v. term_limit v ≡ None) path → Taken d e rules path s u
taken d e rules [] s u held h p l = record { path_is = ap (instance d) p; within = All-nil (λ v. term_limit v ≡ None); back = subst {A = Tree} (Back d e) p h }
taken d e rules (x ∷ path) s u held h (step, p) l =
    let b = step_back d e rules s x held h step in
    let t = taken d e rules path x u held b p (All-tail (λ v. term_limit v ≡ None) x path l) in
    record {
      path_is = (strategy_instance d e rules s x h step, t.path_is);
      within = All-cons (λ v. term_limit v ≡ None) (instance d x) (map (instance d) path) (limit_back d e x b ∙ All-head (λ v. term_limit v ≡ None) x path l) t.within;
      back = t.back;
    }

-- the answer for the instance
abbrev pub answer_instance : (ℕ → Tree) → Normalised → Normalised
answer_instance d (form u n) = form (instance d u) n
answer_instance d (long n) = long n
answer_instance d (large l) = large l

-- the normal form, if there is one, is taken back
abbrev pub FormBack : (d e : ℕ → Tree) → Normalised → Type 0
FormBack d e (form u n) = Back d e u
FormBack d e (long n) = Unit {0}
FormBack d e (large l) = Unit {0}

pub normalises_instance : (d e : ℕ → Tree) (rules : List Rule) (s : Tree) (a : Normalised) → HoldVariables rules → Back d e s → NormalisesTo rules s a → NormalisesTo rules (instance d s) (answer_instance d a) × FormBack d e a
normalises_instance d e rules s (form u n) held h (path, r, k, few, normal) =
    let t = taken d e rules path s u held h r.0 r.1 in
    ((map (instance d) path, (t.path_is, t.within), length-map path (instance d) ∙ k, few, normal_back d e rules u t.back normal), t.back)
normalises_instance d e rules s (long n) held h (k, path, u, r, l, redex) =
    let t = taken d e rules path s u held h r.0 r.1 in
    ((k, map (instance d) path, instance d u, (t.path_is, t.within), length-map path (instance d) ∙ l, has_redex d rules u redex), tt)
normalises_instance d e rules s (large l) held h (path, u, v, r, few, step, passes) =
    let t = taken d e rules path s u held h r.0 r.1 in
    let b = step_back d e rules u v held t.back step in
    ((map (instance d) path, instance d u, instance d v, (t.path_is, t.within), subst {A = ℕ} (λ n. n < 10000) (sym (length-map path (instance d))) few, strategy_instance d e rules u v t.back step, limit_back d e v b ∙ passes), tt)

-- canonical pairs of terms that are taken back
pub canonical_back : (d e : ℕ → Tree) (u v : Tree) → Back d e u → Back d e v → canonical_pair (instance d u) (instance d v) ≡ canonical_pair u v
canonical_back d e u v h k = sym (same_canonical_pair d e u v (instance d u) (instance d v) refl h refl k)
