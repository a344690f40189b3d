-- What a process costs, node by node.
use Rattle.std.proofs.Common.{ℕ, ◌+◌, ◌*◌, ◌≤◌, ◌≡◌, refl, ap₂, ◌∙◌, arith, List, [], ◌∷◌, length, Bool, true, false, Option, Some, None}
use Rattle.std.specs.Prelude.{sum_by}
use Rattle.std.specs.Option.{option_map_or}
use Rattle.std.proofs.Math.Nat.{add-mul}
use Rattle.std.proofs.lemmas.Nat.{mul-le}
use Rattle.std.proofs.lemmas.List.Sums.{sum_by-cons}
use Rattle.kb_term.specs.Pair.{Pair}
use Rattle.kb_term.specs.Signature.{Signature}
use Rattle.kb_label.specs.Names.{Name}
use Rattle.mkb_model.specs.Limits.{AreLimited}
use Rattle.mkb_model.specs.Plain.{Plain, node_numbers, is_equation, is_rule, is_constraint, pair_at, pair_size, node_size, rule_sizes, counted_rules, cost}
use Rattle.mkb_model.specs.declared.settings.Selection.{Selection}
use Rattle.mkb_model.specs.declared.settings.Selection.TheVariants.{Stated, Size}
use Rattle.mkb_rules.proofs.Costs.{times_of, shares, rule_shares}
use Rattle.mkb_board.specs.Choosing.{one_if, rule_count, role_count}

no_shares : (f : ℕ → ℕ) (ns : List ℕ) → 0 ≡ sum_by (λ m. 0 * f m) ns
no_shares f [] = refl
no_shares f (n ∷ ns) = omega (arith, sum_by-cons (λ m. 0 * f m) n ns, no_shares f ns)

-- what the rules that count add
counted_as : (by : Selection) (b : Plain) (p : Name) → rule_sizes b (counted_rules by b p) ≡ sum_by (λ n. rule_count by b p n * node_size b n) (node_numbers b)
counted_as Stated b p = no_shares (node_size b) (node_numbers b)
counted_as Size b p = rule_shares (node_size b) (is_rule b p) 0 (length b.nodes)

sum_both : (f g h : ℕ → ℕ) (ns : List ℕ) → sum_by (λ n. f n * h n) ns + sum_by (λ n. g n * h n) ns ≡ sum_by (λ n. (f n + g n) * h n) ns
sum_both f g h [] = refl
sum_both f g h (n ∷ ns) =
    omega (arith, sum_by-cons (λ n. f n * h n) n ns, sum_by-cons (λ n. g n * h n) n ns, sum_by-cons (λ n. (f n + g n) * h n) n ns, sum_both f g h ns, add-mul (f n) (g n) (h n))

-- the cost is what each node adds to it
pub cost_as : (b : Plain) (p : Name) → cost b p ≡ sum_by (λ n. role_count b p n * node_size b n) (node_numbers b)
cost_as b p =
    ap₂ (λ x y. x + y) (shares (node_size b) (is_equation b p) (is_constraint b p) 0 (length b.nodes)) (counted_as b.settings.selection b p)
    ∙ sum_both (times_of (node_size b) (is_equation b p) (is_constraint b p)) (rule_count b.settings.selection b p) (node_size b) (node_numbers b)

-- ---- limits

-- the size of a node within the limits
pub size_most : (g : Signature) (b : Plain) → AreLimited g b.nodes → (n : ℕ) → node_size b n ≤ 1024
size_most g b limited n = go (pair_at b n) refl
  where
    go : (o : Option Pair) → pair_at b n ≡ o → option_map_or pair_size o 0 ≤ 1024
    go None e = omega arith
    go (Some q) e = let h = (limited n q e).within in omega (arith, h.first.size, h.second.size)

one_most : (t : Bool) → one_if t ≤ 1
one_most true = omega arith
one_most false = omega arith

rules_most : (by : Selection) (b : Plain) (p : Name) (n : ℕ) → rule_count by b p n ≤ 2
rules_most Stated b p n = omega arith
rules_most Size b p n = omega (arith, one_most (is_rule b p (record { node = n; dir = 0 })), one_most (is_rule b p (record { node = n; dir = 1 })))

pub roles_most : (b : Plain) (p : Name) (n : ℕ) → role_count b p n ≤ 5
roles_most b p n =
    omega (arith, one_most (is_equation b p n), one_most (is_constraint b p (record { node = n; dir = 0 })), one_most (is_constraint b p (record { node = n; dir = 1 })), rules_most b.settings.selection b p n)

-- what a node within the limits adds to the cost
pub share_most : (g : Signature) (b : Plain) (p : Name) → AreLimited g b.nodes → (n : ℕ) → role_count b p n * node_size b n ≤ 5120
share_most g b p limited n = mul-le (role_count b p n) (node_size b n) 5 1024 (roles_most b p n) (size_most g b limited n)
