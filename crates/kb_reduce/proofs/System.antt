-- A complete system stays one where its right sides are rewritten and rules are left out whose left sides stay reducible.
use Rattle.std.proofs.Common.{◌≡◌, sym, subst, List, All, Contains}
use Rattle.std.specs.Prelude.{IsTrue}
use Rattle.std.proofs.lemmas.List.Elements.{All-contains}
use Rattle.kb_term.specs.Tree.{Tree, variable}
use Rattle.kb_term.specs.Rule.{Rule, IsRule}
use Rattle.kb_term.specs.Signature.{Signature, Problem, IsWellFormed, IsRuleOver}
use Rattle.kb_term.specs.Proving.{Proves, IsTerminating, IsConfluent, equations_of}
use Rattle.kb_term.specs.Proving as Proving
use Rattle.kb_term.proofs.Relation.{Reaches, IsJoinable, IsConfluentAt}
use Rattle.kb_term.proofs.Chains.{bounded_from, reaches_refl, reaches_step, steps_keep}
use Rattle.kb_term.proofs.Steps.{Step, at_root}
use Rattle.kb_term.proofs.Instances.{instance-variable}
use Rattle.kb_term.proofs.Bridge.{reaches_from, reaches_to, halts_from, joinable_from, joinable_to, step_from_position, step_to_position}
use Rattle.kb_lpo.proofs.Arities.{keeps_well}
use Rattle.kb_cert.specs.CertificateText.{is_certificate}
use Rattle.kb_cert.specs.Family.{Orders}
use Rattle.kb_cert.specs.declared.certificate.Certificate.{Certificate}
use Rattle.kb_cert.proofs.Ordering.{all_from}
use Rattle.kb_rewrite.specs.NormalForm.{IsNormal}
use Rattle.kb_laws.specs.Complete.{IsCompleteSystem}
use Rattle.kb_laws.proofs.Conversion.{equal_made_up}
use Rattle.kb_laws.proofs.CompletionLaws.{Members, proves_from, proves_to, from_equations_of}
use Rattle.kb_laws.proofs.Complete.{proved_by_joining}
use Rattle.kb_laws.proofs.ConfluenceLaws.{joinable_by_confluence}
use Rattle.kb_laws.proofs.RunLaws.{Chain, step_chain}
use Rattle.kb_checker.proofs.Sound.{oriented_rules, oriented_halts as certified_halts}
use Rattle.kb_reduce.proofs.Below.{connected, normal_reached}
use Rattle.kb_reduce.proofs.Reducible.{reducible, step_joined}
use Rattle.kb_reduce.proofs.Certified.{chains_certified}

-- each new rule is an old one with a right side that is reached; each old right side reaches a normal form; each old left side has a step by the new rules
pub record IsReducing (old new : List Rule) : Type 0 where
  pub reached : (r : Rule) → Contains new r → (q : Rule) × Contains old q × (r.left ≡ q.left) × Proving.Reaches old q.right r.right
  pub normal : (q : Rule) → Contains old q → (t : Tree) × Proving.Reaches old q.right t × IsNormal old t
  pub lefts : (q : Rule) → Contains old q → (t : Tree) × Step (Contains new) q.left t

module _ (problem : Problem) (c : Certificate) (form : IsTrue (is_certificate problem.signature c)) (old new : List Rule) (system : IsCompleteSystem problem c old) (z : IsReducing old new) where
  abbrev g : Signature
  g = problem.signature

  abbrev R : Tree → Tree → Type 0
  R = Step (Contains old)

  abbrev T : Tree → Tree → Type 0
  T = Step (Contains new)

  root : (P : Rule → Type 0) (r : Rule) → P r → Step P r.left r.right
  root P r i = at_root (r, variable, i, sym (instance-variable r.left), sym (instance-variable r.right))

  old_over : (q : Rule) → Contains old q → IsRuleOver g q
  old_over q i = All-contains (IsRuleOver g) old q system.over i

  rule_chain : (r : Rule) → Contains new r → Chain R r.left r.right
  rule_chain r i =
      let k = z.reached r i in
      (k.0.right, subst (λ x. R x k.0.right) (sym k.2) (root (Contains old) k.0 k.1), reaches_from old k.0.right r.right k.3)

  pub chains : (s t : Tree) → T s t → Chain R s t
  chains s t h = step_chain (Contains new) (Contains old) rule_chain h

  kept : (s t : Tree) → IsWellFormed g s → R s t → IsWellFormed g t
  kept = keeps_well g old system.over

  confluent_at : (s : Tree) → IsWellFormed g s → IsConfluentAt R s
  confluent_at s w t u a b = joinable_from old t u (system.confluent s t u w (reaches_to old s t a) (reaches_to old s u b))

  has : (s t : Tree) → R s t → (u : Tree) × T s u
  has s t h = reducible (Contains old) (Contains new) z.lefts h

  normal_by_new : (s w : Tree) → IsWellFormed g s → IsNormal old w → Reaches R s w → Reaches T s w
  normal_by_new s w well n h =
      let b = halts_from old s (system.terminating s well) in
      normal_reached R T (IsWellFormed g) kept chains has confluent_at w (λ u r. n u (step_to_position (Contains old) r)) b.0 s well (bounded_from R b.0 s b.1) h

  -- the sides of each old rule are joinable by the new rules
  rule_joined : (q : Rule) → Contains old q → IsJoinable T q.left q.right
  rule_joined q i =
      let n = z.normal q i in
      let on = reaches_from old q.right n.0 n.1 in (
        n.0,
        normal_by_new q.left n.0 (old_over q i).left n.2 (reaches_step R q.left q.right n.0 (root (Contains old) q i) on),
        normal_by_new q.right n.0 (old_over q i).right n.2 on,
      )

  ordered : Orders c new
  ordered = chains_certified g c form old new system.over (λ r i.
      let k = z.reached r i in
      let h = rule_chain r i in
      (subst (IsWellFormed g) (sym k.2) (old_over k.0 k.1).left, (h.2.0, (h.0, h.1, h.2.1)))) system.ordered

  well_right : (r : Rule) → Contains new r → IsWellFormed g r.right
  well_right r i =
      let k = z.reached r i in
      let h = reaches_from old k.0.right r.right k.3 in
      steps_keep R (IsWellFormed g) kept h.0 k.0.right r.right (old_over k.0 k.1).right h.1

  rules : All IsRule new
  rules = oriented_rules g c form new (all_from (λ (r : Rule). IsWellFormed g r.right) new well_right) ordered

  over : All (IsRuleOver g) new
  over = all_from (IsRuleOver g) new (λ r i.
      let k = z.reached r i in
      record { is_rule = All-contains IsRule new r rules i; left = subst (IsWellFormed g) (sym k.2) (old_over k.0 k.1).left; right = well_right r i })

  confluent : IsConfluent g new
  confluent s t u well a b =
      let h = halts_from old s (system.terminating s well) in
      joinable_to new t u (connected R T (IsWellFormed g) kept chains (λ x y k. step_joined (Contains old) (Contains new) rule_joined k) confluent_at h.0 s well (bounded_from R h.0 s h.1) t u (reaches_from new s t a) (reaches_from new s u b))

  -- the new rules prove each old one
  forth : (s t : Tree) → Proves (equations_of old) s t → Proves (equations_of new) s t
  forth s t p = proves_to (equations_of new) s t (equal_made_up (Members (equations_of old)) (Members (equations_of new)) (λ q i.
      proves_from (equations_of new) q.left q.right (proved_by_joining new q.left q.right (joinable_to new q.left q.right (rule_joined q (from_equations_of old q i))))) s t (proves_from (equations_of old) s t p))

  -- the old rules prove each new one
  back : (s t : Tree) → Proves (equations_of new) s t → Proves (equations_of old) s t
  back s t p = proves_to (equations_of old) s t (equal_made_up (Members (equations_of new)) (Members (equations_of old)) (λ r i.
      let h = rule_chain r (from_equations_of new r i) in
      let j : IsJoinable R r.left r.right = (r.right, reaches_step R r.left h.0 r.right h.1 h.2, reaches_refl R r.right) in
      proves_from (equations_of old) r.left r.right (proved_by_joining old r.left r.right (joinable_to old r.left r.right j))) s t (proves_from (equations_of new) s t p))

  pub reduced_is_complete : IsCompleteSystem problem c new
  reduced_is_complete = record {
    over = over;
    ordered = ordered;
    terminating = certified_halts g c form new over ordered;
    confluent = confluent;
    proves_same = λ s t. ((λ p. forth s t ((system.proves_same s t).0 p)), (λ p. (system.proves_same s t).1 (back s t p)));
    decides = λ s t ws wt. (
      (λ p. joinable_by_confluence g new over confluent s t ws wt (forth s t ((system.proves_same s t).0 p))),
      (λ j. (system.proves_same s t).1 (back s t (proved_by_joining new s t j))),
    );
  }

  -- what is normal by the old rules is normal by the new ones
  pub normal_stays : (t : Tree) → IsNormal old t → IsNormal new t
  normal_stays t n u h = let k = chains t u (step_from_position (Contains new) t u h) in n k.0 (step_to_position (Contains old) k.1)
