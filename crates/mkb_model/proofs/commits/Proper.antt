-- In a run of completion, composing gives no trivial rule, and none whose reverse is there.
use Rattle.std.proofs.Common.{ℕ, zero, suc, ◌+◌, ◌≡◌, ◌≤◌, ◌≢◌, refl, sym, subst, arith, List, Contains}
use Rattle.kb_term.specs.Tree.{Tree}
use Rattle.kb_term.specs.Rule.{Rule, IsVariantRule, rule_between}
use Rattle.kb_term.specs.Signature.{Signature, IsWellFormed, IsRuleOver}
use Rattle.kb_cert.specs.Family.{Orders, IsMember, IsOrderable}
use Rattle.kb_laws.specs.Completion.{KbState, Has}
use Rattle.kb_cert.specs.declared.certificate.Certificate.{Certificate}
use Rattle.kb_term.proofs.Relation.{Steps}
use Rattle.kb_term.proofs.Steps.{Step}
use Rattle.kb_term.proofs.Bridge.{step_from_position, halts_from}
use Rattle.kb_cert.proofs.FamilyLaws.{terminating_by_member}
use Rattle.kb_laws.proofs.Complete.{IsSoundState, has_over, all_from}
use Rattle.kb_laws.proofs.RunLaws.{AreChains, Chain, has_chain, step_chain, chain_trans}
use Rattle.kb_term.specs.Proving as Proving

-- chains one behind the other
steps_behind : {A : Type 0} (R : A → A → Type 0) (n m : ℕ) (s t u : A) → Steps R n s t → Steps R m t u → (k : ℕ) × (k ≡ n + m) × Steps R k s u
steps_behind R zero m s t u e d = (m, omega arith, subst (λ x. Steps R m x u) (sym e) d)
steps_behind R (suc n) m s t u (v, r, c) d = let q = steps_behind R n m v t u c d in (suc q.0, omega (arith, q.1), (v, r, q.2))

-- a loop goes round as often as one likes
round_again : {A : Type 0} (R : A → A → Type 0) (n : ℕ) (s : A) → Steps R (suc n) s s → (m : ℕ) → (k : ℕ) × (m ≤ k) × Steps R k s s
round_again R n s c zero = (0, omega arith, refl)
round_again R n s c (suc m) = let q = round_again R n s c m in let r = steps_behind R (suc n) q.0 s s s c q.2 in (r.0, omega (arith, r.1, q.1), r.2)

-- what a member orders has no chain from a term to itself
no_loop : (g : Signature) (c : Certificate) → IsMember g c → (rules : List Rule) → ((r : Rule) → Contains rules r → IsRuleOver g r) → Orders c rules → (s : Tree) → IsWellFormed g s → ¬ Chain (Step (Contains rules)) s s
no_loop g c m rules over h s w k =
    let b = halts_from rules s (terminating_by_member g c m rules (all_from (IsRuleOver g) rules over) h s w) in
    let q = round_again (Step (Contains rules)) k.2.0 s (k.0, k.1, k.2.1) (suc b.0) in
    let l = b.1 q.0 s q.2 in
    omega (arith, q.1, l)

-- a state of a run: its rules are chains of its constraint rules, which some member orders
pub record IsOrdered (g : Signature) (a : KbState) : Type 0 where
  pub sound : IsSoundState g a
  pub chained : AreChains a
  pub orderable : IsOrderable g a.constraints

module _ (g : Signature) (a : KbState) (h : IsOrdered g a) (s t u : Tree) (r : Has IsVariantRule a.rules (rule_between s t)) (step : Proving.Step a.rules t u) where
  by_two : Chain (Step (Contains a.constraints)) s u
  by_two = chain_trans (Step (Contains a.constraints)) s t u (has_chain a h.chained (rule_between s t) r) (step_chain (Contains a.rules) (Contains a.constraints) h.chained (step_from_position (Contains a.rules) t u step))

  well : IsWellFormed g s
  well = (has_over g a.rules h.sound.rules (rule_between s t) r).left

  -- composing gives no trivial rule
  pub composed_differs : u ≢ s
  composed_differs e = no_loop g h.orderable.0 h.orderable.1 a.constraints h.sound.constraints h.orderable.2 s well (subst {A = Tree} (Chain (Step (Contains a.constraints)) s) e by_two)

  -- and no rule whose reverse is there
  pub composed_not_reversed : ¬ Has IsVariantRule a.rules (rule_between u s)
  composed_not_reversed k = no_loop g h.orderable.0 h.orderable.1 a.constraints h.sound.constraints h.orderable.2 s well (chain_trans (Step (Contains a.constraints)) s u s by_two (has_chain a h.chained (rule_between u s) k))
