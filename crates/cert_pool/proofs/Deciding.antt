-- What a true result for some of the rules says of all.
use Rattle.std.proofs.Common.{ℕ, ◌<◌, ◌+◌, ◌≡◌, sym, refl, subst, arith, ⊎_elim, List, length, slice_index_or, Option, Some, None, Contains}
use Rattle.std.proofs.lemmas.Bool.{cases_lt}
use Rattle.std.proofs.lemmas.List.{get_or_read_under}
use Rattle.kb_term.specs.Rule.{Rule}
use Rattle.kb_term.specs.Signature.{Signature}
use Rattle.kb_cert.specs.Family.{Orders, IsLowerBound, FirstBoundsMore, NoneForMore}
use Rattle.kb_cert.specs.declared.certificate.Certificate.{Certificate}
use Rattle.kb_cert.specs.declared.family.Family.{Family}
use Rattle.cert_pool.specs.Kept.{IsAnswer, IsFor}
use Rattle.cert_pool.specs.declared.pool.Found.{Found}

-- a result, by what it answered
answered : (found : Found) (rules : List Rule) (answer : Option Certificate) → IsFor found.family found.signature rules found → found.answer ≡ answer → IsAnswer found.family found.signature found.rules.items answer
answered found rules answer h e = subst {A = Option Certificate} (λ o. IsAnswer found.family found.signature found.rules.items o) e h.holds

-- no member orders all rules
pub none_orders : (found : Found) (rules : List Rule) → NoneForMore found.family found.signature → IsFor found.family found.signature rules found → found.answer ≡ None → IsAnswer found.family found.signature rules None
none_orders found rules more h e = record { first = more found.rules.items rules h.some (answered found rules None h e).first; text = tt }

-- none before the first member for some orders all rules
pub bounds_all : (found : Found) (rules : List Rule) (c : Certificate) → FirstBoundsMore found.family found.signature → IsFor found.family found.signature rules found → found.answer ≡ Some c → IsLowerBound found.family found.signature rules c
bounds_all found rules c more h e = more found.rules.items rules c h.some (answered found rules (Some c) h e).first

-- where that member orders all rules, it is the first that does
pub member_orders : (found : Found) (rules : List Rule) (c : Certificate) → FirstBoundsMore found.family found.signature → IsFor found.family found.signature rules found → found.answer ≡ Some c → Orders c rules → IsAnswer found.family found.signature rules (Some c)
member_orders found rules c more h e orders = let b = bounds_all found rules c more h e in record { first = (orders, b.0, b.1, b.2, b.3); text = (answered found rules (Some c) h e).text }

-- copies of a question and its answer
pub copies_answer : (f : Family) (signature s : Signature) (rules rs : List Rule) (answer a : Option Certificate) → s ≡ signature → rs ≡ rules → a ≡ answer → IsAnswer f signature rules answer → IsAnswer f s rs a
copies_answer f signature s rules rs answer a e k g h = rw (e, k, g) h

-- one more of the rules is among these
pub one_more : (some rules : List Rule) (i : ℕ) (r : Rule) → i < length some → r ≡ slice_index_or some i r → Contains rules r → ((k : ℕ) (d : Rule) → k < i → Contains rules (slice_index_or some k d)) → (k : ℕ) (d : Rule) → k < i + 1 → Contains rules (slice_index_or some k d)
one_more some rules i r there is here before k d l = ⊎_elim (λ low. before k d low) (λ high. last (omega (arith, high, l))) (cases_lt k i)
  where
    last : k ≡ i → Contains rules (slice_index_or some k d)
    last e = subst {A = ℕ} (λ j. Contains rules (slice_index_or some j d)) (sym e) (subst {A = Rule} (Contains rules) (get_or_read_under some i (length some) r d is there refl) here)
