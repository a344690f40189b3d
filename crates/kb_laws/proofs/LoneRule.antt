-- One rule that doesn't overlap itself is a complete system for its equation.
use Rattle.std.proofs.Common.{ℕ, zero, suc, ◌≡◌, ◌∙◌, inl, inr, refl, sym, subst, subst₂, arith, List, [], ◌∷◌, All, Some, None, slice_get, Bool, true, false, cond, ⊎_elim}
use Rattle.std.proofs.lemmas.List.Elements.{All-head}
use Rattle.kb_lemmas.proofs.Membership.{contains_cases, contains_first}
use Rattle.kb_term.specs.Tree.{Tree, tree_eq}
use Rattle.kb_term.specs.Substitution.{IsRenaming}
use Rattle.kb_term.specs.Pair.{Pair, numbered, canonical, place_in, variables_of_pair, IsVariantEquation, IsSameEquation}
use Rattle.kb_term.proofs.Variants.{variants_from_numbered, numbered_renamed}
use Rattle.kb_term.proofs.OwnPair.{numbered_apart}
use Rattle.kb_term.proofs.CanonicalPairs.{lesser_cases, canonical_from_same, same_from_canonical}
use Rattle.kb_term.specs.Rule.{Rule, IsRule, rule_of}
use Rattle.kb_term.specs.Signature.{Signature, IsWellFormed, IsRuleOver}
use Rattle.kb_term.specs.Proving.{Proves, equations_of}
use Rattle.kb_cert.specs.declared.certificate.Certificate.{Certificate}
use Rattle.kb_cert.proofs.FamilyLaws.{terminating_by_member, ordered_rules}
use Rattle.kb_overlap.specs.Overlap.{IsOverlapList}
use Rattle.kb_laws.specs.Overlaps.{OverlapsJoin}
use Rattle.kb_laws.specs.Runs.{ProveSame}
use Rattle.kb_laws.specs.Complete.{LoneRuleIsSystem, PairRuleIsSystem}
use Rattle.kb_laws.proofs.Conversion.{Equal, equal_same, equal_rule, equal_made_up}
use Rattle.kb_laws.proofs.CompletionLaws.{Members, proves_from, proves_to}
use Rattle.kb_laws.proofs.ConfluenceLaws.{confluent_by_overlaps, joinable_by_confluence}
use Rattle.kb_laws.proofs.Complete.{proved_by_joining, all_from}

-- the only rule of a list
only : (rule A : Rule) (i : ℕ) → slice_get (rule ∷ []) i ≡ Some A → (i ≡ 0) × (rule ≡ A)
only rule A zero e = (refl, cc)
only rule A (suc i) e = absurd (cc)

pub lone_joins : (rule : Rule) → IsOverlapList rule rule true [] → OverlapsJoin (rule ∷ [])
lone_joins rule none zero zero A B e d = ([], subst₂ (λ a b. IsOverlapList a b true []) (only rule A 0 e).1 (only rule B 0 d).1 none, λ o c. absurd (omega arith))
lone_joins rule none zero (suc j) A B e d = absurd (let q = only rule B (suc j) d in omega (arith, q.0))
lone_joins rule none (suc i) j A B e d = absurd (let q = only rule A (suc i) e in omega (arith, q.0))

turned : (r back : ℕ → ℕ) (s t : Tree) → IsRenaming r back s t → IsRenaming back r t s
turned r back s t n = record { there = n.back_again; back_again = n.there }

pub same_turned : (d e : Tree × Tree) → IsSameEquation d e → IsSameEquation e d
same_turned d e (inl (r, back, n, k)) = inl (back, r, turned r back d.0 e.0 n, turned r back d.1 e.1 k)
same_turned d e (inr (r, back, n, k)) = inr (back, r, turned r back d.1 e.0 k, turned r back d.0 e.1 n)

-- two lists of one equation each, which are the same, prove the same
same_proves : (d e : Tree × Tree) → IsSameEquation d e → (s t : Tree) → Proves (d ∷ []) s t → Proves (e ∷ []) s t
same_proves d e same s t p =
    let there : Equal (Members (e ∷ [])) d.0 d.1 = equal_same (Members (e ∷ [])) e d (same_turned d e same) (equal_rule (Members (e ∷ [])) (record { left = e.0; right = e.1 }) (contains_first e [])) in
    let each : (r : Rule) → Members (d ∷ []) r → Equal (Members (e ∷ [])) r.left r.right = λ r i. ⊎_elim (λ (q : d ≡ (r.left, r.right)). subst (λ (x : Tree × Tree). Equal (Members (e ∷ [])) x.0 x.1) q there) (λ k. absurd (omega arith)) (contains_cases d [] (r.left, r.right) i) in
    proves_to (e ∷ []) s t (equal_made_up (Members (d ∷ [])) (Members (e ∷ [])) each s t (proves_from (d ∷ []) s t p))

pub lone_rule_is_system : (signature : Signature) (order : Certificate) (rule : Rule) (e : Tree × Tree) → LoneRuleIsSystem signature order rule e
lone_rule_is_system g c rule e h same =
    let rules : List Rule = rule ∷ [] in
    let is_rule = ordered_rules g c h.member rules (all_from (λ (r : Rule). IsWellFormed g r.right) rules (λ r i. ⊎_elim (λ q. subst (λ (x : Rule). IsWellFormed g x.right) q h.over.1) (λ k. absurd (omega arith)) (contains_cases rule [] r i))) h.ordered in
    let one : IsRuleOver g rule = record { is_rule = All-head IsRule rule [] is_rule; left = h.over.0; right = h.over.1 } in
    let over : All (IsRuleOver g) rules = all_from (IsRuleOver g) rules (λ r i. ⊎_elim (λ q. subst (IsRuleOver g) q one) (λ k. absurd (omega arith)) (contains_cases rule [] r i)) in
    let halting = terminating_by_member g c h.member rules over h.ordered in
    let conf = confluent_by_overlaps g rules over halting (lone_joins rule h.no_overlap) in
    let keeps : ProveSame (e ∷ []) (equations_of rules) = λ s t. (same_proves e (rule.left, rule.right) same s t, same_proves (rule.left, rule.right) e (same_turned e (rule.left, rule.right) same) s t) in
    record {
      over = over;
      ordered = h.ordered;
      terminating = halting;
      confluent = conf;
      proves_same = keeps;
      decides = λ s t ws wt. ((λ p. joinable_by_confluence g rules over conf s t ws wt ((keeps s t).0 p)), (λ j. (keeps s t).1 (proved_by_joining rules s t j)));
    }

-- the numbered pair is a variant
numbered_variant : (s t : Tree) → IsVariantEquation (s, t) ((numbered s t).first, (numbered s t).second)
numbered_variant s t = variants_from_numbered s t (numbered s t).first (numbered s t).second (sym (numbered_renamed (place_in (variables_of_pair s t)) s t (numbered_apart s t)))

-- so are the canonical pair and the rule that it is in either direction
pub canonical_same : (s t : Tree) → IsSameEquation (s, t) ((canonical s t).first, (canonical s t).second)
canonical_same s t = ⊎_elim (λ q. subst (λ (p : Pair). IsSameEquation (s, t) (p.first, p.second)) (sym q) (inl (numbered_variant s t)))
    (λ q. subst (λ (p : Pair). IsSameEquation (s, t) (p.first, p.second)) (sym q) (inr (let v = numbered_variant t s in (v.0, v.1, v.3, v.2))))
    (lesser_cases (numbered s t) (numbered t s))

pub rule_same : (p : Pair) (direction : ℕ) → IsSameEquation (p.first, p.second) ((rule_of p direction).left, (rule_of p direction).right)
rule_same p zero = inl (numbered_variant p.first p.second)
rule_same p (suc d) = inr (let v = numbered_variant p.second p.first in (v.0, v.1, v.3, v.2))

pair_rule_same : (s t : Tree) (direction : ℕ) → IsSameEquation (s, t) ((rule_of (canonical s t) direction).left, (rule_of (canonical s t) direction).right)
pair_rule_same s t d =
    let p : Pair = canonical s t in
    let r : Rule = rule_of p d in
    same_from_canonical s t r.left r.right (canonical_from_same s t p.first p.second (canonical_same s t) ∙ canonical_from_same p.first p.second r.left r.right (rule_same p d))

pub the_pair : (b : Bool) (p q : Pair) → cond b None (Some p) ≡ Some q → p ≡ q
the_pair true p q e = absurd (cc)
the_pair false p q e = cc

pub pair_rule_is_system : (signature : Signature) (order : Certificate) (rule : Rule) (e : Tree × Tree) → PairRuleIsSystem signature order rule e
pair_rule_is_system g c rule e p d h of is =
    let q : canonical e.0 e.1 ≡ p = the_pair (tree_eq e.0 e.1) (canonical e.0 e.1) p of in
    lone_rule_is_system g c rule e h (subst (λ (r : Rule). IsSameEquation e (r.left, r.right)) (sym is) (subst (λ (x : Pair). IsSameEquation e ((rule_of x d).left, (rule_of x d).right)) q (pair_rule_same e.0 e.1 d)))
