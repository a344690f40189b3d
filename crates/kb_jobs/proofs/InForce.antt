-- What the first order for some rules says of them and one more.
use Rattle.std.proofs.Common.{◌≡◌, ◌∙◌, ap, sym, subst, List, [], ◌∷◌, Contains, Some}
use Rattle.std.specs.Prelude.{slice_get}
use Rattle.kb_lemmas.proofs.Membership.{contains_behind}
use Rattle.kb_lemmas.proofs.Options.{some_is}
use Rattle.kb_term.specs.Rule.{Rule}
use Rattle.kb_cert.specs.Family.{Orders, IsFirstOrder, IsLowerBound, FirstBoundsMore}
use Rattle.kb_cert.proofs.Ordering.{all_from, orders_push}
use Rattle.kb_jobs.specs.Orienting.{AreOneMore}
use Rattle.kb_jobs.specs.declared.orienting.OrientSnapshot.{OrientSnapshot}
use Rattle.kb_jobs.proofs.Swapped.{orders_swapped}

-- none before it orders all rules
pub bound_in_force : (s : OrientSnapshot) (rules : List Rule) → FirstBoundsMore s.family s.signature → AreOneMore s rules → IsLowerBound s.family s.signature rules s.in_force
bound_in_force s rules more (some, rule, e, first) =
    more some rules s.in_force (all_from (Contains rules) some (λ r i. subst {A = List Rule} (λ z. Contains z r) (sym e) (contains_behind rule some r i))) first

pub first_is : (rules : List Rule) (first : Rule) → slice_get rules 0 ≡ Some first → (some : List Rule) (rule : Rule) → rules ≡ rule ∷ some → first ≡ rule
first_is rules first h some rule e = some_is (sym h ∙ ap (λ (z : List Rule). slice_get z 0) e)

-- where it orders the first one too, it is the first for all rules
pub first_in_force : (s : OrientSnapshot) (rules : List Rule) (first : Rule) → FirstBoundsMore s.family s.signature → AreOneMore s rules → ((some : List Rule) (rule : Rule) → rules ≡ rule ∷ some → first ≡ rule) → Orders s.in_force (first ∷ []) → IsFirstOrder s.family s.signature rules (Some s.in_force)
first_in_force s rules first more h is orders =
    let b = bound_in_force s rules more h in
    let k = subst {A = Rule} (λ z. Orders s.in_force (z ∷ [])) (is h.0 h.1 h.2) orders in
    (subst {A = List Rule} (Orders s.in_force) (sym h.2) (orders_swapped s.in_force h.0 (h.1 ∷ []) (orders_push s.in_force h.0 h.1 h.3.0 k)), b.0, b.1, b.2, b.3)
