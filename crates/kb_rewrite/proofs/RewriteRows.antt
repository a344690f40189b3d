-- Redexes and normal forms on small terms.
use Rattle.std.specs.Prelude.{ℕ, zero, suc, ◌+◌, ◌<◌, List, [], ◌∷◌, ◌≡◌, false, None, All, length}
use Rattle.std.proofs.Common.{refl, arith, subst, ap, sym, ◌∙◌}
use Rattle.std.proofs.lemmas.Bool.{false≢true}
use Rattle.std.proofs.lemmas.Option.{same_Some}
use Rattle.kb_lemmas.proofs.Options.{none_some}
use Rattle.kb_term.specs.Substitution.{instance}
use Rattle.kb_term.specs.Tree.{Tree, variable, tree_size, tree_depth}
use Rattle.kb_term.specs.Rule.{Rule}
use Rattle.kb_term.specs.Pair.{term_limit}
use Rattle.kb_rewrite.specs.NormalForm.{IsFound, IsNormal, IsRedex, StrategyStep, IsRunWithinLimits, HasRedex, NormalisesTo, form, long, large}
use Rattle.kb_term.specs.declared.limit.Limit.TheVariants.{Depth}
use Rattle.kb_term.specs.declared.origin.Found.TheVariants.{Variant}
use Rattle.kb_term.proofs.PairRows.{one, none}
use Rattle.kb_term.proofs.Trees.{apply-inj}
use Rattle.kb_term.proofs.Limited.{limit-none}
use Rattle.kb_rewrite.proofs.Strategy.{strategy_root}

-- f(a) is a variant of the left side of f(a) -> b
pub found-variant : IsFound (one 0 (none 1)) (record { left = one 0 (none 1); right = none 2 }) Variant
found-variant = ((λ n. n), (λ n. n), record { there = refl; back_again = refl })

-- a -> b and b -> a
abbrev pub a-b : List Rule
a-b = record { left = none 0; right = none 1 } ∷ record { left = none 1; right = none 0 } ∷ []

redex-a : IsRedex a-b false (none 0) [] 0
redex-a =
    record { rule = record { left = none 0; right = none 1 }; there = refl; matches = (none 0, refl, (variable, refl)); strict = λ e. absurd (false≢true e) }

redex-b : IsRedex a-b false (none 1) [] 1
redex-b =
    record { rule = record { left = none 1; right = none 0 }; there = refl; matches = (none 1, refl, (variable, refl)); strict = λ e. absurd (false≢true e) }

step-a : StrategyStep a-b (none 0) (none 1)
unfolding redex-a
step-a = (
  [],
  0,
  record {
    redex = redex-a;
    before = [];
    after = [];
    in_preorder = refl;
    none_before = λ q j c. absurd (omega (arith, c.1));
    first_rule = λ j h. absurd (omega (arith, h));
  },
  (variable, record { redex = refl; result = refl }),
)

step-b : StrategyStep a-b (none 1) (none 0)
unfolding redex-b
step-b = (
  [],
  1,
  record {
    redex = redex-b;
    before = [];
    after = [];
    in_preorder = refl;
    none_before = λ q j c. absurd (omega (arith, c.1));
    first_rule = not-a;
  },
  (variable, record { redex = refl; result = refl }),
)
  where
    -- the first rule doesn't match b
    not-a : (j : ℕ) → j < 1 → ¬ IsRedex a-b false (none 1) [] j
    not-a zero h r =
        let rule-is = same_Some _ _ r.there in
        let subterm-is = same_Some _ _ r.matches.1 in
        let e : instance r.matches.2.0 (none 0) ≡ none 1 = subst (λ (q : Rule). instance r.matches.2.0 q.left ≡ none 1) (sym rule-is) (r.matches.2.1 ∙ sym subterm-is) in
        absurd (omega (arith, (apply-inj e).0))
    not-a (suc j) h r = absurd (omega (arith, h))

-- a, b, a, .. for n steps
abbrev pub swaps : ℕ → ℕ → ℕ → List Tree
swaps zero f g = []
swaps (suc n) f g = none g ∷ swaps n g f

pub length-swaps : (n f g : ℕ) → length (swaps n f g) ≡ n
length-swaps zero f g = refl
length-swaps (suc n) f g = ap suc (length-swaps n g f)

abbrev Ends : ℕ → ℕ → ℕ → Type 0
Ends n f g = (u : Tree) × IsRunWithinLimits a-b (swaps n f g) (none f) u × HasRedex a-b u

within-more : (t : Tree) (ts : List Tree) → term_limit t ≡ None → All (λ v. term_limit v ≡ None) ts → All (λ v. term_limit v ≡ None) (t ∷ ts)
within-more t ts h hs zero d p = h
within-more t ts h hs (suc k) d p = hs k d (omega (arith, p))

swaps-run : (n f g : ℕ) → StrategyStep a-b (none f) (none g) → StrategyStep a-b (none g) (none f) → Ends n f g
swaps-run zero f g forth back = (none f, (refl, λ k d p. absurd (omega (arith, p))), (forth.0, forth.1, forth.2.redex))
swaps-run (suc n) f g forth back =
    let r = swaps-run n g f back forth in
    (r.0, ((forth, r.1.0), within-more (none g) (swaps n g f) refl r.1.1), r.2)

-- normalising a under a -> b and b -> a is still going on after 10,000 steps
pub normalises-long : NormalisesTo a-b (none 0) (long 10000)
normalises-long =
    let r = swaps-run 10000 0 1 step-a step-b in
    (refl, swaps 10000 0 1, r.0, r.1, length-swaps 10000 0 1, r.2)

-- a -> b alone
abbrev pub to-b : List Rule
to-b = record { left = none 0; right = none 1 } ∷ []

step-to-b : StrategyStep to-b (none 0) (none 1)
step-to-b = strategy_root to-b (none 0) (none 1) 0 (record { left = none 0; right = none 1 }) variable refl refl refl (λ j h. absurd (omega (arith, h)))

normal-b : IsNormal to-b (none 1)
normal-b u (rule, (suc k, h, e), p, s) = absurd (omega (arith, h))
normal-b u (rule, (zero, h, e), zero ∷ p, (m, w)) = none_some (w.redex)
normal-b u (rule, (zero, h, e), suc i ∷ p, (m, w)) = none_some (w.redex)
normal-b u (rule, (zero, h, e), [], (m, w)) =
    let same : instance m (none 0) ≡ none 1 = subst (λ (q : Rule). instance m q.left ≡ none 1) (sym e) (sym (same_Some _ _ w.redex)) in
    absurd (omega (arith, (apply-inj same).0))

-- the normal form of a is b, one step away
pub normalises-form : NormalisesTo to-b (none 0) (form (none 1) 1)
normalises-form = (none 1 ∷ [], ((step-to-b, refl), within-more (none 1) [] refl (λ k d p. absurd (omega (arith, p)))), refl, omega arith, normal-b)

-- f(x) -> f(f(x))
abbrev pub f-ff : List Rule
f-ff = record { left = one 0 (variable 0); right = one 0 (one 0 (variable 0)) } ∷ []

-- so many f over a
abbrev pub powers : ℕ → Tree
powers zero = none 1
powers (suc n) = one 0 (powers n)

step-f : (n : ℕ) → StrategyStep f-ff (powers (suc n)) (powers (suc (suc n)))
step-f n = strategy_root f-ff (powers (suc n)) (powers (suc (suc n))) 0 (record { left = one 0 (variable 0); right = one 0 (one 0 (variable 0)) }) (λ x. powers n) refl refl refl (λ j h. absurd (omega (arith, h)))

size-powers : (n : ℕ) → tree_size (powers n) ≡ suc n
size-powers zero = refl
size-powers (suc n) = omega (arith, size-powers n)

depth-powers : (n : ℕ) → tree_depth (powers n) ≡ suc n
depth-powers zero = refl
depth-powers (suc n) = omega (arith, depth-powers n)

small-power : (n : ℕ) → n < 64 → term_limit (powers n) ≡ None
small-power n h = limit-none (powers n) (omega (arith, h, size-powers n)) (omega (arith, h, depth-powers n))

-- the results of k steps from n + 1 times f, and how many more f than one the last has
abbrev climb : ℕ → ℕ → List Tree
climb zero n = []
climb (suc k) n = powers (suc (suc n)) ∷ climb k (suc n)

abbrev top : ℕ → ℕ → ℕ
top zero n = n
top (suc k) n = top k (suc n)

length-climb : (k n : ℕ) → length (climb k n) ≡ k
length-climb zero n = refl
length-climb (suc k) n = ap suc (length-climb k (suc n))

climbs : (k n : ℕ) → k + n < 63 → IsRunWithinLimits f-ff (climb k n) (powers (suc n)) (powers (suc (top k n)))
climbs zero n h = (refl, λ k d p. absurd (omega (arith, p)))
climbs (suc k) n h =
    let r = climbs k (suc n) (omega (arith, h)) in
    ((step-f n, r.0), within-more (powers (suc (suc n))) (climb k (suc n)) (small-power (suc (suc n)) (omega (arith, h))) r.1)

-- normalising f(a) passes the depth
pub normalises-deep : NormalisesTo f-ff (powers 1) (large Depth)
normalises-deep = (climb 62 0, powers 63, powers 64, climbs 62 0 (omega arith), omega (arith, length-climb 62 0), step-f 62, refl)
