-- What a Knuth-Bendix order orients halts: a chain runs through different terms that weigh no more.
use Rattle.std.proofs.Common.{ℕ, ◌≡◌, ⊎_elim, subst, arith, List, [], ◌∷◌, All, Contains, length}
use Rattle.std.proofs.lemmas.List.Elements.{All-contains, All-contains_itself, All-weaker}
use Rattle.kb_lemmas.proofs.Membership.{contains_cases}
use Rattle.kb_term.specs.Tree.{Tree, variable, variables_of}
use Rattle.kb_term.specs.Rule.{Rule}
use Rattle.kb_term.specs.Signature.{Signature, IsWellFormed, IsRuleOver}
use Rattle.kb_term.specs.Proving.{IsChain}
use Rattle.kb_term.proofs.Steps.{occurs_to}
use Rattle.kb_term.proofs.Bridge.{step_from_position}
use Rattle.kb_lpo.proofs.Arities.{arity_at, below, well_from, keeps_well}
use Rattle.kb_linear.proofs.Sorted.{IsSorted}
use Rattle.kb_kbo.specs.KnuthBendix.{KboOrder, KboGreater, weight}
use Rattle.kb_kbo.specs.KnuthBendixLaws.{HasWeights, OrientsRulesOnly, IsLighter, LighterAreFew, ChainsAreShort, HaltsWhatItOrients}
use Rattle.kb_kbo.specs.Orders.{KboOrients}
use Rattle.kb_kbo.proofs.KboOccurrences.{contains_from_occurrence, occurrence_from_contains}
use Rattle.kb_kbo.proofs.KboWeights.{term_weighs, depth-le-weight}
use Rattle.kb_kbo.proofs.KboCases.{greater_holds, greater_weighs, greater_cases, kbo_trans, kbo_irreflexive}
use Rattle.kb_kbo.proofs.KboLaws.{kbo_step}
use Rattle.kb_kbo.proofs.KboTerms.{sorted-le, terms_to, term_in}

-- a lesser term has no more variables
pub greater_contains : {order : KboOrder} (s t : Tree) → KboGreater order s t → (x : ℕ) → Contains (variables_of t) x → Contains (variables_of s) x
greater_contains s t g x c = contains_from_occurrence x (variables_of s) (omega (arith, greater_holds g x, occurrence_from_contains x (variables_of t) c))

-- a variable is above no term
variable_least : (order : KboOrder) → HasWeights order → (s t : Tree) (n : ℕ) → s ≡ variable n → ¬ KboGreater order s t
variable_least order w s t n e g = ⊎_elim (λ l. omega (arith, term_weighs order w t)) (λ r. r.1) (greater_cases (subst (λ z. KboGreater order z t) e g))

pub kbo_rule : (order : KboOrder) → OrientsRulesOnly order
kbo_rule order w rule g = record { no_variable = λ n e. variable_least order w rule.left rule.right n e g; holds_variables = greater_contains rule.left rule.right g }

pub lighter_few : (signature : Signature) (order : KboOrder) → LighterAreFew signature order
lighter_few signature order w t = (
  terms_to (arity_at signature) (below (length signature)) (variables_of t) (weight order t),
  λ u l.
      let weighs = l.weighs in
      term_in (arity_at signature) (below (length signature)) (variables_of t) (weight order t) u (well_from signature u l.over)
      (λ x o. All-contains (Contains (variables_of t)) (variables_of u) x l.variables (occurs_to x u o)) (omega (arith, depth-le-weight order w u)),
)

-- along a chain each term is above those behind it
chain_sorted : (order : KboOrder) → HasWeights order → (rules : List Rule) → KboOrients order rules → (path : List Tree) (t u : Tree) → IsChain rules path t u → IsSorted (KboGreater order) (t ∷ path)
chain_sorted order w rules orients [] t u c = (λ y d. absurd (omega arith), tt)
chain_sorted order w rules orients (v ∷ path) t u c =
    let q = chain_sorted order w rules orients path v u c.1 in
    let g = kbo_step order w rules orients t v c.0 in
    (λ y d. ⊎_elim (λ e. subst (KboGreater order t) e g) (λ b. kbo_trans order t v y g (q.0 y b)) (contains_cases v path y d), q)

-- and over the signature
chain_well : (signature : Signature) (rules : List Rule) → All (IsRuleOver signature) rules → (path : List Tree) (t u : Tree) → IsWellFormed signature t → IsChain rules path t u → (y : Tree) → Contains path y → IsWellFormed signature y
chain_well signature rules over [] t u w c y d = absurd (omega arith)
chain_well signature rules over (v ∷ path) t u w c y d =
    let x = keeps_well signature rules over t v w (step_from_position (Contains rules) t v c.0) in
    ⊎_elim (λ e. subst (IsWellFormed signature) e x) (λ b. chain_well signature rules over path v u x c.1 y b) (contains_cases v path y d)

lighter_self : (signature : Signature) (order : KboOrder) (t : Tree) → IsWellFormed signature t → IsLighter signature order t t
lighter_self signature order t w = record { over = w; variables = All-contains_itself (variables_of t); weighs = omega arith }

lighter_below : (signature : Signature) (order : KboOrder) (t u : Tree) → IsWellFormed signature u → KboGreater order t u → IsLighter signature order t u
lighter_below signature order t u w g = record {
  over = w;
  variables = All-weaker (Contains (variables_of u)) (Contains (variables_of t)) (greater_contains t u g) (variables_of u) (All-contains_itself (variables_of u));
  weighs = greater_weighs g;
}

pub chains_short : (signature : Signature) (order : KboOrder) → ChainsAreShort signature order
chains_short signature order w rules over orients t well terms has path u c =
    let sorted = chain_sorted order w rules orients path t u c in
    sorted-le (KboGreater order) (kbo_irreflexive order) (t ∷ path) terms sorted
    (λ y d. ⊎_elim (λ e. subst (Contains terms) e (has t (lighter_self signature order t well)))
    (λ b. has y (lighter_below signature order t y (chain_well signature rules over path t u well c y b) (sorted.0 y b))) (contains_cases t path y d))

pub terminating_by_kbo : (signature : Signature) (order : KboOrder) → HaltsWhatItOrients signature order
terminating_by_kbo signature order w rules over orients t well =
    let r = lighter_few signature order w t in
    (length r.0, λ path u c. let l = chains_short signature order w rules over orients t well r.0 r.1 path u c in omega arith)
