-- An accepted answer is good.
use Rattle.std.proofs.Common.{ℕ, ◌≤◌, ◌≡◌, subst, arith, List, [], ◌∷◌, All, map, length, true, ◌&&◌}
use Rattle.std.specs.Prelude.{IsTrue, nat_le, nat_eq}
use Rattle.std.specs.List.{list_all}
use Rattle.std.proofs.lemmas.List.Elements.{All-contains, All-weaker, All-head}
use Rattle.std.proofs.lemmas.Bool.{and_parts}
use Rattle.kb_lemmas.proofs.Membership.{contains_mapped}
use Rattle.kb_term.specs.Tree.{Tree}
use Rattle.kb_term.specs.Rule.{Rule, IsRule}
use Rattle.kb_term.specs.Signature.{Signature, IsWellFormed, IsRuleOver, IsEquationWithinLimits}
use Rattle.kb_term.specs.Proving.{Proves, IsTerminating, equations_of}
use Rattle.kb_linear.specs.LinearOrder.{Interpretation, IsInterpretationOf, LinearGreater}
use Rattle.kb_lpo.specs.PathOrder.{LpoGreater}
use Rattle.kb_kbo.specs.KnuthBendix.{KboOrder, KboGreater}
use Rattle.kb_kbo.specs.KnuthBendixLaws.{HasWeights}
use Rattle.kb_kbo.proofs.KboHalting.{kbo_rule, terminating_by_kbo}
use Rattle.kb_lpo.proofs.PathOrderLaws.{lpo_rule, terminating_by_lpo}
use Rattle.kb_cert.specs.CertificateText.{is_between, is_row, are_rows, is_certificate}
use Rattle.kb_cert.specs.Family.{Orders}
use Rattle.kb_cert.specs.declared.certificate.Certificate.{Certificate}
use Rattle.kb_cert.specs.declared.certificate.Certificate.TheVariants.{Lpo, Linear, Kbo}
use Rattle.kb_cert.proofs.OrderTexts.{tested}
use Rattle.kb_cert.proofs.RowLaws.{rows_small}
use Rattle.kb_cert.proofs.FamilyLaws.{linear_rules}
use Rattle.kb_laws.proofs.Conversion.{Equal, equal_made_up}
use Rattle.kb_laws.proofs.CompletionLaws.{Members, proves_from, proves_to, from_equations_of}
use Rattle.kb_laws.proofs.ConfluenceLaws.{confluent_by_overlaps, joinable_by_confluence}
use Rattle.kb_laws.proofs.Closing.{closed_joins, joined}
use Rattle.kb_laws.proofs.Complete.{all_from, proved_by_joining}
use Rattle.kb_laws.proofs.Stated.{interpretation_halts}
use Rattle.kb_checker.specs.Answers.{Answer, rules_of, IsAnswer, IsTraced, IsOriented, IsGoodAnswer}
use Rattle.kb_checker.specs.Verdicts.{IsProved, IsAccepted}
use Rattle.kb_checker.proofs.Proved.{traced_proved}

-- the rows of a certificate interpret the signature
pub rows_fit : (g : Signature) (i : Interpretation) → are_rows g i ≡ true → IsInterpretationOf g i
rows_fit [] [] h = tt
rows_fit [] (row ∷ i) h = absurd (cc)
rows_fit (f ∷ g) [] h = absurd (cc)
rows_fit (f ∷ g) (row ∷ i) h =
    let q = and_parts (is_row f.arity row) (are_rows g i) h in
    let r = and_parts (nat_le row.0 15 && nat_eq (length row.1) f.arity) (list_all (is_between 1 3) row.1) q.0 in
    let n : nat_eq (length row.1) f.arity ≡ true = (and_parts (nat_le row.0 15) (nat_eq (length row.1) f.arity) r.0).1 in
    let small = rows_small (f ∷ g) (row ∷ i) h 0 row (omega arith) in
    ((grind (arith, n), λ k d l. (small.coefficients k d l).0), rows_fit g i q.1)

-- each symbol weighs at least 1 in a certificate
pub certificate_weighs : (g : Signature) (o : KboOrder) → IsTrue (is_certificate g (Kbo o)) → HasWeights o
certificate_weighs g o h = All-weaker (λ n. (1 ≤ n) × (n ≤ 15)) (λ n. 1 ≤ n) (λ n w. w.0) o.weights (tested g o.weights o.precedence h).1

-- what a certificate of the signature orders are rules
pub oriented_rules : (g : Signature) (c : Certificate) → IsTrue (is_certificate g c) → (rules : List Rule) → All (λ (r : Rule). IsWellFormed g r.right) rules → Orders c rules → All IsRule rules
oriented_rules g (Lpo p) m rules well h = All-weaker (λ (r : Rule). LpoGreater p r.left r.right) IsRule (lpo_rule p) rules h
oriented_rules g (Linear i) m rules well h = linear_rules g i (rows_fit g i m) rules well h
oriented_rules g (Kbo o) m rules well h = All-weaker (λ (r : Rule). KboGreater o r.left r.right) IsRule (kbo_rule o (certificate_weighs g o m)) rules h

-- and halt
pub oriented_halts : (g : Signature) (c : Certificate) → IsTrue (is_certificate g c) → (rules : List Rule) → All (IsRuleOver g) rules → Orders c rules → IsTerminating g rules
oriented_halts g (Lpo p) m rules over h = terminating_by_lpo p g rules over h
oriented_halts g (Linear i) m rules over h = interpretation_halts g i (rows_fit g i m) rules over h
oriented_halts g (Kbo o) m rules over h = terminating_by_kbo g o (certificate_weighs g o m) rules over h

pub all_mapped : {X Y : Type 0} (f : X → Y) (P : Y → Type 0) (xs : List X) → All (λ x. P (f x)) xs → All P (map f xs)
all_mapped f P xs h = all_from P (map f xs) (λ y c. let m = contains_mapped f xs y c in subst P m.2 (All-contains (λ x. P (f x)) xs m.0 h m.1))

-- what the certificate makes greater one by one it orders
pub all_ordered : (c : Certificate) (rules : List (Rule × ℕ)) → All (IsOriented c) rules → Orders c (rules_of rules)
all_ordered (Lpo p) rules h = all_mapped (λ (r : Rule × ℕ). r.0) (λ (r : Rule). LpoGreater p r.left r.right) rules (λ k d l. All-head (λ (r : Rule). LpoGreater p r.left r.right) _ [] (h k d l))
all_ordered (Linear i) rules h = all_mapped (λ (r : Rule × ℕ). r.0) (λ (r : Rule). LinearGreater i r.left r.right) rules (λ k d l. All-head (λ (r : Rule). LinearGreater i r.left r.right) _ [] (h k d l))
all_ordered (Kbo o) rules h = all_mapped (λ (r : Rule × ℕ). r.0) (λ (r : Rule). KboGreater o r.left r.right) rules (λ k d l. All-head (λ (r : Rule). KboGreater o r.left r.right) _ [] (h k d l))

-- the rules of an answer have terms over the signature, and are rules where the certificate orders them
module _ (a : Answer) (form : IsAnswer a) where
  sides : All (λ (r : Rule). IsEquationWithinLimits a.problem.signature (r.left, r.right)) (rules_of a.rules)
  sides = all_mapped (λ (r : Rule × ℕ). r.0) (λ (r : Rule). IsEquationWithinLimits a.problem.signature (r.left, r.right)) a.rules (λ k d l. (form.rules k d l).sides)

  pub are_rules : All (IsOriented a.cert) a.rules → All IsRule (rules_of a.rules)
  are_rules h = oriented_rules a.problem.signature a.cert form.cert (rules_of a.rules) (λ k d l. (sides k d l).right.well_formed) (all_ordered a.cert a.rules h)

module _ (a : Answer) (form : IsAnswer a) (h : IsAccepted a) where
  abbrev rules : List Rule
  rules = rules_of a.rules

  ordered : Orders a.cert rules
  ordered = all_ordered a.cert a.rules h.orders

  over : All (IsRuleOver a.problem.signature) rules
  over = λ k d l. let w = sides a form k d l in record { is_rule = are_rules a form h.orders k d l; left = w.left.well_formed; right = w.right.well_formed }

  -- the rules prove each equation
  forth : (s t : Tree) → Proves a.problem.equations s t → Proves (equations_of rules) s t
  forth s t p = proves_to (equations_of rules) s t (equal_made_up (Members a.problem.equations) (Members (equations_of rules)) (λ r i.
      let one = All-contains (IsProved rules) a.problem.equations (r.left, r.right) h.equations i in
      proves_from (equations_of rules) r.left r.right (proved_by_joining rules r.left r.right (joined rules r.left r.right one))) s t (proves_from a.problem.equations s t p))

  -- the equations prove each rule
  back : (s t : Tree) → Proves (equations_of rules) s t → Proves a.problem.equations s t
  back s t p = proves_to a.problem.equations s t (equal_made_up (Members (equations_of rules)) (Members a.problem.equations) (λ r i.
      let m = contains_mapped (λ (r : Rule × ℕ). r.0) a.rules r (from_equations_of rules r i) in
      subst (λ (x : Rule). Equal (Members a.problem.equations) x.left x.right) m.2
      (traced_proved a.problem.equations a.trace m.0.1 m.0.0 h.steps (All-contains (IsTraced a.trace) a.rules m.0 h.citations m.1))) s t (proves_from (equations_of rules) s t p))

  pub accepted_is_good : IsGoodAnswer a
  accepted_is_good =
      let g = a.problem.signature in
      let halting = oriented_halts g a.cert form.cert rules over ordered in
      let conf = confluent_by_overlaps g rules over halting (closed_joins rules h.overlaps) in
      record {
        system =
            record {
              over = over;
              ordered = ordered;
              terminating = halting;
              confluent = conf;
              proves_same = λ s t. (forth s t, back s t);
              decides = λ s t ws wt. ((λ p. joinable_by_confluence g rules over conf s t ws wt (forth s t p)), (λ j. back s t (proved_by_joining rules s t j)));
            };
        ordered = all_ordered a.cert a.constraints h.constraints;
        right = h.steps;
        traced = h.citations;
        constraints_traced = h.constraint_citations;
      }
