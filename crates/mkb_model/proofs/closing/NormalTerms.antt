-- Normal terms and their normal forms.
use Rattle.std.proofs.Common.{ℕ, ◌≡◌, refl, sym, ap, ◌∙◌, subst, List, [], ◌∷◌, ◌++◌, Contains, false, Some}
use Rattle.std.specs.Prelude.{slice_get}
use Rattle.std.proofs.lemmas.Option.{slice_get-get_or}
use Rattle.kb_lemmas.proofs.Membership.{contains_first, contains_map, slice_contains}
use Rattle.kb_lemmas.proofs.Options.{some_is}
use Rattle.kb_lemmas.proofs.Lists.{get_map_back}
use Rattle.kb_term.proofs.Steps.{occurs_from, occurs_to}
use Rattle.kb_term.specs.Tree.{Tree, variable, apply}
use Rattle.kb_term.specs.Position.{positions_of}
use Rattle.kb_term.specs.Substitution.{instance}
use Rattle.kb_term.specs.Rule.{Rule, IsRule, IsVariantRule, rule_between}
use Rattle.kb_term.specs.Proving.{Step, RewritesAt, IsPath}
use Rattle.kb_term.proofs.Instances.{agree_at, instance-agree}
use Rattle.kb_rewrite.specs.NormalForm.{IsNormal, IsRedex, Encompasses, StrategyStep, form, HoldVariables}
use Rattle.kb_rewrite.proofs.Irreducible.{step_from}
use Rattle.kb_rewrite.proofs.Determined.{answers_once}
use Rattle.mkb_model.specs.Proposals.{NamedRule, as_rules, HasForm}
use Rattle.mkb_model.proofs.Lists.{clash}
use Rattle.mkb_model.proofs.commits.Endless.{step_instance}

-- two substitutions that agree on a term agree on each term with no other variables
pub carried : (rule : Rule) → IsRule rule → (m k : ℕ → Tree) → instance m rule.left ≡ instance k rule.left → instance m rule.right ≡ instance k rule.right
carried rule is m k e = instance-agree m k rule.right (λ x o. agree_at m k rule.left e x (occurs_from x rule.left (is.holds_variables x (occurs_to x rule.right o))))

-- a term with a normal instance is normal
pub normal_back : (rules : List Rule) (m : ℕ → Tree) (s t : Tree) → IsNormal rules t → t ≡ instance m s → IsNormal rules s
normal_back rules m s t normal e u h = normal (instance m u) (subst {A = Tree} (λ z. Step rules z (instance m u)) (sym e) (step_instance rules m s u h))

-- a variant of a rule steps at the root
pub variant_steps : (rules : List Rule) (rule : Rule) → Contains rules rule → (s t : Tree) → IsVariantRule rule (rule_between s t) → Step rules s t
variant_steps rules rule i s t (r, back, left, right) = (rule, i, [], ((λ n. variable (r n)), record { redex = ap Some (sym left.there); result = ap Some right.there }))

pub rewrites_encompassed : (rule : Rule) (p : List ℕ) (t u : Tree) → RewritesAt rule p t u → Encompasses t rule.left
rewrites_encompassed rule p t u (m, h) = (p, (instance m rule.left, h.redex, (m, refl)))

-- ---- runs of the strategy

pub run_stays : (rules : List Rule) (path : List Tree) (s u : Tree) → IsPath (StrategyStep rules) path s u → IsNormal rules s → s ≡ u
run_stays rules [] s u e normal = e
run_stays rules (x ∷ path) s u (h, k) normal = absurd (normal x (step_from rules s x h))

-- a normal term is its own normal form
pub own_form : (rs : List NamedRule) (s u : Tree) → IsNormal (as_rules rs) s → HasForm rs s u → u ≡ s
own_form rs s u normal h = sym (run_stays (as_rules rs) h.1.0 s u h.1.1.0 normal)

pub one_form : (rs : List NamedRule) → HoldVariables (as_rules rs) → (s u v : Tree) → HasForm rs s u → HasForm rs s v → u ≡ v
one_form rs hold s u v h k = let e : form u h.0 ≡ form v k.0 = answers_once (as_rules rs) hold s (form u h.0) (form v k.0) h.1 k.1 in cc

begins_root : (t : Tree) (q : List ℕ) (qs : List (List ℕ)) → positions_of t ≡ q ∷ qs → q ≡ []
begins_root (variable n) q qs e = cc
begins_root (apply f ts) q qs e = cc

-- where a rule matches the whole term the strategy steps at the root
root_step : (rules : List Rule) (s t : Tree) (j : ℕ) → IsRedex rules false s [] j → (h : StrategyStep rules s t) → h.0 ≡ []
root_step rules s t j redex (p, i, first, rewrites) = go first.before first.in_preorder first.none_before
  where
    go : (before : List (List ℕ)) → positions_of s ≡ before ++ p ∷ first.after → ((q : List ℕ) (j : ℕ) → Contains before q → ¬ IsRedex rules false s q j) → p ≡ []
    go [] e none = begins_root s p first.after e
    go (q ∷ qs) e none = absurd (none q j (contains_first q qs) (subst {A = List ℕ} (λ z. IsRedex rules false s z j) (sym (begins_root s q (qs ++ p ∷ first.after) e)) redex))

-- the rule by which the term first steps, at the root
pub record FirstStep (rs : List NamedRule) (s u : Tree) : Type 0 where
  pub by : NamedRule
  pub listed : Contains rs by
  pub m : ℕ → Tree
  pub matches : instance m by.rule.left ≡ s
  pub path : List Tree
  pub rest : IsPath (StrategyStep (as_rules rs)) path (instance m by.rule.right) u

slice_there : (xs : List Rule) (x : Rule) (c : Contains xs x) → slice_get xs c.0 ≡ Some x
slice_there xs x c = slice_get-get_or xs c.0 x c.1 ∙ ap Some c.2

-- a term that a rule matches as a whole steps at the root on the way to its normal form
pub first_step : (rs : List NamedRule) (x : NamedRule) → Contains rs x → (m : ℕ → Tree) (s u : Tree) → instance m x.rule.left ≡ s → HasForm rs s u → FirstStep rs s u
first_step rs x i m s u e h = go h.1.0 h.1.1.0
  where
    in_rules : Contains (as_rules rs) x.rule
    in_rules = contains_map (λ (r : NamedRule). r.rule) rs x i

    redex : IsRedex (as_rules rs) false s [] in_rules.0
    redex = record { rule = x.rule; there = slice_there (as_rules rs) x.rule in_rules; matches = (s, refl, (m, e)); strict = λ k. clash k refl }

    made : (p : List ℕ) (rule : Rule) (t : Tree) → p ≡ [] → RewritesAt rule p s t → (k : ℕ → Tree) × (instance k rule.left ≡ s) × (instance k rule.right ≡ t)
    made p rule t q r = let z = subst {A = List ℕ} (λ p. RewritesAt rule p s t) q r in (z.0, sym (some_is z.1.redex), some_is z.1.result)

    go : (path : List Tree) → IsPath (StrategyStep (as_rules rs)) path s u → FirstStep rs s u
    go [] q = absurd (h.1.4 (instance m x.rule.right) (x.rule, in_rules, [], (m, record { redex = ap Some (sym q ∙ sym e); result = refl })))
    go (t ∷ path) (k, rest) =
        let named = get_map_back (λ (r : NamedRule). r.rule) rs k.1 k.2.redex.rule k.2.redex.there in
        let r = made k.0 k.2.redex.rule t (root_step (as_rules rs) s t in_rules.0 redex k) k.3 in
        record {
          by = named.0;
          listed = slice_contains rs k.1 named.0 named.1;
          m = r.0;
          matches = ap (λ (z : Rule). instance r.0 z.left) named.2 ∙ r.1;
          path = path;
          rest = subst {A = Tree} (λ z. IsPath (StrategyStep (as_rules rs)) path z u) (sym (ap (λ (z : Rule). instance r.0 z.right) named.2 ∙ r.2)) rest;
        }
