-- What a member orders, by lists of rules: no rules, sublists, renamed rules, and one rule more.
use Rattle.std.proofs.Common.{ℕ, ◌≡◌, subst₂, arith, List, [], ◌∷◌, ◌++◌, All, Contains}
use Rattle.std.proofs.lemmas.List.Elements.{All-contains, All-nil, All-head, All-push, Contains-get_or}
use Rattle.kb_term.specs.Tree.{Tree, variable}
use Rattle.kb_term.specs.Substitution.{rename}
use Rattle.kb_term.specs.Rule.{Rule}
use Rattle.kb_lpo.specs.PathOrder.{LpoGreater}
use Rattle.kb_lpo.proofs.PathOrderLaws.{lpo-instance}
use Rattle.kb_linear.specs.LinearOrder.{linear_value, LinearGreater}
use Rattle.kb_linear.proofs.LinearHalting.{value-instance}
use Rattle.kb_kbo.specs.KnuthBendix.{KboGreater}
use Rattle.kb_kbo.proofs.KboLaws.{kbo-rename}
use Rattle.kb_cert.specs.Family.{Orders}
use Rattle.kb_cert.specs.declared.certificate.Certificate.{Certificate}
use Rattle.kb_cert.specs.declared.certificate.Certificate.TheVariants.{Lpo, Linear, Kbo}

pub all_from : {X : Type 0} (P : X → Type 0) (xs : List X) → ((x : X) → Contains xs x → P x) → All P xs
all_from P xs h = λ k d l. h _ (Contains-get_or xs k d l)

-- each member orders no rules
pub nothing_ordered : (c : Certificate) → Orders c []
nothing_ordered (Lpo p) = All-nil (λ (r : Rule). LpoGreater p r.left r.right)
nothing_ordered (Linear i) = All-nil (λ (r : Rule). LinearGreater i r.left r.right)
nothing_ordered (Kbo o) = All-nil (λ (r : Rule). KboGreater o r.left r.right)

all_among : (P : Rule → Type 0) (rules some : List Rule) → ((r : Rule) → Contains some r → Contains rules r) → All P rules → All P some
all_among P rules some sub all = all_from P some (λ r i. All-contains P rules r all (sub r i))

-- what orders rules orders those that are among them
pub orders_among : (c : Certificate) (rules some : List Rule) → ((r : Rule) → Contains some r → Contains rules r) → Orders c rules → Orders c some
orders_among (Lpo p) rules some sub h = all_among (λ (r : Rule). LpoGreater p r.left r.right) rules some sub h
orders_among (Linear i) rules some sub h = all_among (λ (r : Rule). LinearGreater i r.left r.right) rules some sub h
orders_among (Kbo o) rules some sub h = all_among (λ (r : Rule). KboGreater o r.left r.right) rules some sub h

-- the rule is a rule of the list with its variables renamed
abbrev pub IsRenamedOf : List Rule → Rule → Type 0
IsRenamedOf qs r = (q : Rule) × Contains qs q × (f : ℕ → ℕ) × (rename f q.left ≡ r.left) × (rename f q.right ≡ r.right)

all_renamed : (R : Tree → Tree → Type 0) → ((f : ℕ → ℕ) (s t : Tree) → R s t → R (rename f s) (rename f t)) → (qs rs : List Rule) → ((r : Rule) → Contains rs r → IsRenamedOf qs r) → All (λ (r : Rule). R r.left r.right) qs → All (λ (r : Rule). R r.left r.right) rs
all_renamed R renamed qs rs sub all = all_from (λ (r : Rule). R r.left r.right) rs (λ r i. go r (sub r i))
  where
    go : (r : Rule) → IsRenamedOf qs r → R r.left r.right
    go r (q, i, f, n, m) = subst₂ R n m (renamed f q.left q.right (All-contains (λ (r : Rule). R r.left r.right) qs q all i))

-- and variants of them
pub orders_renamed : (c : Certificate) (qs rs : List Rule) → ((r : Rule) → Contains rs r → IsRenamedOf qs r) → Orders c qs → Orders c rs
orders_renamed (Lpo p) qs rs sub h = all_renamed (LpoGreater p) (λ f s t. lpo-instance p (λ x. variable (f x)) s t) qs rs sub h
orders_renamed (Linear i) qs rs sub h =
    all_renamed (LinearGreater i) (λ f s t g a. omega (arith, g (λ x. linear_value i a (variable (f x))), value-instance i a (λ x. variable (f x)) s, value-instance i a (λ x. variable (f x)) t)) qs rs sub h
orders_renamed (Kbo o) qs rs sub h = all_renamed (KboGreater o) (kbo-rename o) qs rs sub h

-- what orders rules and one more orders all of them
pub orders_push : (c : Certificate) (rules : List Rule) (r : Rule) → Orders c rules → Orders c (r ∷ []) → Orders c (rules ++ r ∷ [])
orders_push (Lpo p) rules r h k = All-push (λ (r : Rule). LpoGreater p r.left r.right) rules r h (All-head (λ (r : Rule). LpoGreater p r.left r.right) r [] k)
orders_push (Linear i) rules r h k = All-push (λ (r : Rule). LinearGreater i r.left r.right) rules r h (All-head (λ (r : Rule). LinearGreater i r.left r.right) r [] k)
orders_push (Kbo o) rules r h k = All-push (λ (r : Rule). KboGreater o r.left r.right) rules r h (All-head (λ (r : Rule). KboGreater o r.left r.right) r [] k)
