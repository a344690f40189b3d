-- Rules in another order: two parts of their list swapped.
use Rattle.std.proofs.Common.{sym, subst, ⊎_elim, List, [], ◌∷◌, ◌++◌, Contains, Option, Some, None}
use Rattle.std.proofs.lemmas.List.Elements.{Contains-append_cases, Contains-append_left, Contains-append_right, filter_map-append}
use Rattle.kb_term.specs.Rule.{Rule}
use Rattle.kb_term.specs.Signature.{Signature}
use Rattle.kb_term.specs.declared.origin.RuleRef.{RuleRef}
use Rattle.kb_cert.specs.Family.{family, Orders, IsFirstOrder}
use Rattle.kb_cert.specs.declared.certificate.Certificate.{Certificate}
use Rattle.kb_cert.specs.declared.family.Family.{Family}
use Rattle.kb_cert.proofs.Ordering.{orders_among}
use Rattle.mkb_model.specs.Plain.{Plain, rule_at, rules_at}
use Rattle.mkb_model.proofs.runs.AllFine.{first_same}

contains_swapped : (xs ys : List Rule) (r : Rule) → Contains (xs ++ ys) r → Contains (ys ++ xs) r
contains_swapped xs ys r i = ⊎_elim (Contains-append_right ys xs r) (Contains-append_left ys xs r) (Contains-append_cases xs ys r i)

-- a certificate that orders the rules in one order orders them in the other
pub orders_swapped : (c : Certificate) (xs ys : List Rule) → Orders c (xs ++ ys) → Orders c (ys ++ xs)
orders_swapped c xs ys h = orders_among c (xs ++ ys) (ys ++ xs) (contains_swapped ys xs) h

-- so the first that does is the same
pub first_swapped : (f : Family) (signature : Signature) (xs ys : List Rule) (o : Option Certificate) → IsFirstOrder f signature (xs ++ ys) o → IsFirstOrder f signature (ys ++ xs) o
first_swapped f signature xs ys None none = λ k d l h. none k d l (orders_swapped _ ys xs h)
first_swapped f signature xs ys (Some c) h = first_same (family f signature) (xs ++ ys) (ys ++ xs) c (contains_swapped xs ys) (contains_swapped ys xs) h

-- on a board too: a rule in front of others, and behind them
pub first_behind : (b : Plain) (f : Family) (signature : Signature) (a : RuleRef) (names : List RuleRef) (o : Option Certificate) → IsFirstOrder f signature (rules_at b (a ∷ names)) o → IsFirstOrder f signature (rules_at b (names ++ a ∷ [])) o
first_behind b f signature a names o h =
    subst {A = List Rule} (λ rules. IsFirstOrder f signature rules o) (sym (filter_map-append (rule_at b) names (a ∷ [])))
    (first_swapped f signature (rules_at b (a ∷ [])) (rules_at b names) o
    (subst {A = List Rule} (λ rules. IsFirstOrder f signature rules o) (filter_map-append (rule_at b) (a ∷ []) names) h))
