-- The orders that are tried: a weight from 1 to 3 for each symbol, and a precedence of all symbols.
use Rattle.std.proofs.Common.{ℕ, zero, suc, ◌≤◌, ◌≡◌, ⊎_elim, refl, ap, subst, arith, List, [], ◌∷◌, Bool, true, false, cond, length, map, All, Contains}
use Rattle.std.specs.Prelude.{nat_le, replicate}
use Rattle.std.specs.List.{AllZip}
use Rattle.std.proofs.lemmas.List.Elements.{All-cons, All-nil, All-weaker}
use Rattle.kb_lemmas.proofs.Membership.{contains_cases, contains_flat_map_back}
use Rattle.kb_term.specs.Signature.{Signature}
use Rattle.kb_lpo.specs.Precedences.{precedences}
use Rattle.kb_linear.proofs.Sorted.{contains_map_back, choices_from}
use Rattle.kb_kbo.specs.KnuthBendix.{KboOrder}
use Rattle.kb_kbo.specs.KnuthBendixLaws.{HasWeights}
use Rattle.kb_kbo.specs.Orders.{weightings, orders_of, kbo_orders}

abbrev pub IsSmallWeight : ℕ → Type 0
IsSmallWeight n = (1 ≤ n) × (n ≤ 3)

-- a weight from 1 to 3 for each of k symbols, and a precedence of them
pub record IsTried (k : ℕ) (order : KboOrder) : Type 0 where
  pub count : length order.weights ≡ k
  pub weights : All IsSmallWeight order.weights
  pub precedence : Contains (precedences k) order.precedence

small_weight : (n : ℕ) → Contains (1 ∷ 2 ∷ 3 ∷ []) n → IsSmallWeight n
small_weight n c =
    ⊎_elim (λ e. (omega arith, omega arith)) (λ d. ⊎_elim (λ e. (omega arith, omega arith)) (λ b. ⊎_elim (λ e. (omega arith, omega arith)) (λ a. absurd (omega arith)) (contains_cases 3 [] n b)) (contains_cases 2 (3 ∷ []) n d)) (contains_cases 1 (2 ∷ 3 ∷ []) n c)

weights_small : (k : ℕ) (ws : List ℕ) → AllZip (λ xs y. Contains xs y) (replicate k (1 ∷ 2 ∷ 3 ∷ [])) ws → (length ws ≡ k) × All IsSmallWeight ws
weights_small zero [] h = (refl, All-nil IsSmallWeight)
weights_small zero (w ∷ ws) h = absurd h
weights_small (suc k) [] h = absurd h
weights_small (suc k) (w ∷ ws) h = let r = weights_small k ws h.1 in (ap suc r.0, All-cons IsSmallWeight w ws (small_weight w h.0) r.1)

of_symbols : (k : ℕ) (order : KboOrder) → Contains (orders_of k) order → IsTried k order
of_symbols k order c =
    let r = contains_flat_map_back (λ (w : List ℕ). map (λ (p : List ℕ). record { weights = w; precedence = p }) (precedences k)) (weightings k) order c in
    let q = contains_map_back (λ (p : List ℕ). record { weights = r.0; precedence = p }) (precedences k) order r.2 in
    let w = weights_small k r.0 (choices_from (replicate k (1 ∷ 2 ∷ 3 ∷ [])) r.0 r.1) in
    subst (IsTried k) q.2 (record { count = w.0; weights = w.1; precedence = q.1 })

where_few : (few : Bool) (orders : List KboOrder) (order : KboOrder) → Contains (cond few orders []) order → Contains orders order
where_few true orders order c = c
where_few false orders order c = absurd (omega arith)

pub order_tried : (signature : Signature) (order : KboOrder) → Contains (kbo_orders signature) order → IsTried (length signature) order
order_tried signature order c = of_symbols (length signature) order (where_few (nat_le (length signature) 8) (orders_of (length signature)) order c)

-- so each symbol weighs at least 1
pub order_weighs : (signature : Signature) (order : KboOrder) → Contains (kbo_orders signature) order → HasWeights order
order_weighs signature order c = All-weaker IsSmallWeight (λ n. 1 ≤ n) (λ n w. w.0) order.weights (order_tried signature order c).weights
