-- What comparisons ask, and the table of all rules.
use Rattle.std.proofs.Common.{ℕ, zero, suc, ◌≡◌, ◌<◌, ◌≤◌, ◌+◌, ◌*◌, refl, sym, ap, ◌∙◌, subst, subst₂, arith, List, [], ◌∷◌, ◌++◌, length, get_or, drop}
use Rattle.std.specs.Prelude.{Vec}
use Rattle.std.specs.declared.alloc.Global.{Global}
use Rattle.std.proofs.lemmas.List.{append_assoc}
use Rattle.std.proofs.lemmas.List.Elements.{All-append}
use Rattle.kb_term.specs.Tree.{Tree, Trees, variable, apply, no_trees, more_trees, tree_size, trees_size}
use Rattle.kb_term.specs.Rule.{Rule}
use Rattle.kb_kbo.specs.KnuthBendix.{KboOrder, KboGreater, weight, weight_in, symbol_weight}
use Rattle.kb_kbo.specs.Measures.{order_of}
use Rattle.kb_kbo.specs.Orders.{KboOrients}
use Rattle.kb_kbo.specs.Asking.{value_of, Asks, AsksAtTie, AreAsked, AreAskedAll}
use Rattle.kb_kbo.specs.declared.level.Level.{Level}
use Rattle.kb_linear.specs.Forms.{weighted}
use Rattle.std.proofs.Math.Nat.{mul-le-mul_left}
use Rattle.std.proofs.Math.Seq.{drop-cons}
use Rattle.kb_kbo.proofs.Compared.{greater_weighs}

-- where each symbol weighs 1, a term weighs its size
mutual
  pub weight_plain : (t : Tree) → weight (order_of [] []) t ≡ tree_size t
  weight_plain (variable n) = refl
  weight_plain (apply f ts) = let h = weight_plains ts in omega arith

  pub weight_plains : (ts : Trees) → weight_in (order_of [] []) ts ≡ trees_size ts
  weight_plains no_trees = refl
  weight_plains (more_trees t ts) = let h = weight_plain t in let k = weight_plains ts in omega arith

-- a comparison of two terms asks what an order asks that has the first above the second
pub level_asks : (order : KboOrder) (level : Level) (levels : List Level) (s t : Tree) → value_of level.left (symbol_weight order) + weight order t ≡ value_of level.right (symbol_weight order) + weight order s → KboGreater order s t
    → (weight order s ≡ weight order t → AsksAtTie order level.tie (Asks order levels)) → Asks order (level ∷ levels)
level_asks order level levels s t e l h = (omega (arith, e, greater_weighs order l), λ q. h (omega (arith, e, q)))

-- one level more
pub asked_one : (old new : List Level) (level : Level) (s t : Tree) → new ≡ old ++ level ∷ [] → ((order : KboOrder) → length order.weights ≤ 8 → KboGreater order s t → Asks order (level ∷ [])) → AreAsked old new s t
asked_one old new level s t e h = (level ∷ [], e, h)

pub asked_next : (old mid new : List Level) (level : Level) (s t u v : Tree) → mid ≡ old ++ level ∷ [] → AreAsked mid new u v
    → ((order : KboOrder) → length order.weights ≤ 8 → KboGreater order s t → (more : List Level) → (KboGreater order u v → Asks order more) → Asks order (level ∷ more)) → AreAsked old new s t
asked_next old mid new level s t u v e (more, d, k) h = (level ∷ more, d ∙ ap (λ z. z ++ more) e ∙ append_assoc old (level ∷ []) more, λ order l g. h order l g more (k order l))

-- a level that always leaves the decision to the next
pub asked_skip : (old new : List Level) (level : Level) (s t u v : Tree) → ((order : KboOrder) → length order.weights ≤ 8 → value_of level.left (symbol_weight order) + weight order t ≡ value_of level.right (symbol_weight order) + weight order s) → ((a : ℕ → ℕ) → value_of level.left a ≡ value_of level.right a)
    → ((order : KboOrder) → KboGreater order s t → weight order s ≡ weight order t → KboGreater order u v) → AreAsked old new u v → AreAsked old new s t
asked_skip old new level s t u v w e h (more, d, k) = (more, d, λ order l g. k order l (h order g (omega (arith, w order l, e (symbol_weight order)))))

-- one rule more in the table
all_one : (order : KboOrder) (levels : Vec Level Global) → Asks order levels.items → AreAskedAll order (levels ∷ [])
all_one order levels a zero d l = a
all_one order levels a (suc k) d l = absurd (omega arith)

pub table_more : (order : KboOrder) (table new : List (Vec Level Global)) (levels : Vec Level Global) → new ≡ table ++ levels ∷ [] → AreAskedAll order table → Asks order levels.items → AreAskedAll order new
table_more order table new levels e h a = subst (AreAskedAll order) (sym e) (All-append (λ (z : Vec Level Global). Asks order z.items) table (levels ∷ []) h (all_one order levels a))

-- what an order that orients the rules is asked by one of them
pub rule_asks : (rules : List Rule) (levels : Vec Level Global) (empty : List Level) (i : ℕ) (rule : Rule) (s t : Tree) (order : KboOrder) → i < length rules → rule ≡ get_or rules i rule → s ≡ rule.left → t ≡ rule.right → empty ≡ [] → AreAsked empty levels.items s t → length order.weights ≤ 8 → KboOrients order rules → Asks order levels.items
rule_asks rules levels empty i rule s t order l r p q n (more, d, k) m o =
    let g : KboGreater order rule.left rule.right = subst (λ (z : Rule). KboGreater order z.left z.right) (sym r) (o i rule l) in
    let f : levels.items ≡ more = d ∙ ap (λ z. z ++ more) n in
    subst (Asks order) (sym f) (k order m (subst₂ (KboGreater order) (sym p) (sym q) g))

-- the same occurrences weigh the same
pub weighted_same : (cs ds : List ℕ) (a : ℕ → ℕ) → length cs ≡ length ds → ((f : ℕ) → f < length cs → get_or cs f 0 ≡ get_or ds f 0) → weighted cs a ≡ weighted ds a
weighted_same [] [] a l h = refl
weighted_same [] (d ∷ ds) a l h = absurd (omega arith)
weighted_same (c ∷ cs) [] a l h = absurd (omega arith)
weighted_same (c ∷ cs) (d ∷ ds) a l h = let e : c * a 0 ≡ d * a 0 = ap (λ z. z * a 0) (h 0 (omega arith)) in omega (arith, e, weighted_same cs ds (λ f. a (suc f)) (omega arith) (λ f p. h (suc f) (omega arith)))

-- larger weights of the symbols
pub weighted_le : (cs : List ℕ) (a b : ℕ → ℕ) → ((f : ℕ) → f < length cs → a f ≤ b f) → weighted cs a ≤ weighted cs b
weighted_le [] a b h = omega arith
weighted_le (c ∷ cs) a b h = let first = mul-le-mul_left c (h 0 (omega arith)) in omega (arith, first, weighted_le cs (λ f. a (suc f)) (λ f. b (suc f)) (λ f l. h (suc f) (omega arith)))

-- the comparisons from a place on
pub asked_cons : (order : KboOrder) (levels : List Level) (i : ℕ) (d : Level) → i < length levels → Asks order (drop i levels) → Asks order (get_or levels i d ∷ drop (i + 1) levels)
asked_cons order levels i d h a =
    let n : suc i ≡ i + 1 = omega arith in
    let e : drop i levels ≡ get_or levels i d ∷ drop (i + 1) levels = drop-cons levels i d h ∙ ap (λ (m : ℕ). get_or levels i d ∷ drop m levels) n in
    subst (Asks order) e a
