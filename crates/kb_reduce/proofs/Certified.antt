-- What a certificate of a signature orders.
use Rattle.std.proofs.Common.{ℕ, suc, List, All, Contains}
use Rattle.std.specs.Prelude.{IsTrue}
use Rattle.std.proofs.lemmas.List.Elements.{All-contains}
use Rattle.kb_term.specs.Rule.{Rule}
use Rattle.kb_term.specs.Signature.{Signature, IsWellFormed, IsRuleOver}
use Rattle.kb_term.proofs.Relation.{Steps}
use Rattle.kb_term.proofs.Steps.{Step}
use Rattle.kb_linear.specs.LinearOrder.{LinearGreater}
use Rattle.kb_linear.proofs.LinearHalting.{chain_linear}
use Rattle.kb_lpo.specs.PathOrder.{LpoGreater}
use Rattle.kb_lpo.proofs.Arities.{keeps_well}
use Rattle.kb_lpo.proofs.Lpo.{path_from_lpo, lpo_from_path}
use Rattle.kb_lpo.proofs.LpoLaws.{chain_greater}
use Rattle.kb_kbo.specs.KnuthBendix.{KboGreater}
use Rattle.kb_kbo.proofs.KboLaws.{kbo_chain}
use Rattle.kb_cert.specs.CertificateText.{is_certificate}
use Rattle.kb_cert.specs.Family.{Orders}
use Rattle.kb_cert.specs.declared.certificate.Certificate.{Certificate}
use Rattle.kb_cert.specs.declared.certificate.Certificate.TheVariants.{Lpo, Linear, Kbo}
use Rattle.kb_cert.proofs.Ordering.{all_from}
use Rattle.kb_checker.proofs.Sound.{rows_fit, certificate_weighs as weighs}

-- it orders rules that are chains of ordered ones
pub chains_certified : (g : Signature) (c : Certificate) → IsTrue (is_certificate g c) → (qs rs : List Rule) → All (IsRuleOver g) qs → ((r : Rule) → Contains rs r → IsWellFormed g r.left × ((n : ℕ) × Steps (Step (Contains qs)) (suc n) r.left r.right)) → Orders c qs → Orders c rs
chains_certified g (Lpo p) m qs rs over chained h = all_from (λ (r : Rule). LpoGreater p r.left r.right) rs (λ r i.
    let k = (chained r i).1 in
    lpo_from_path p (chain_greater p (Contains qs) (λ q j. path_from_lpo p (All-contains (λ (q : Rule). LpoGreater p q.left q.right) qs q h j)) k.0 r.left r.right k.1))
chains_certified g (Linear i) m qs rs over chained h = all_from (λ (r : Rule). LinearGreater i r.left r.right) rs (λ r j.
    let k = chained r j in
    chain_linear g i (Contains qs) (rows_fit g i m) (λ q o. All-contains (λ (q : Rule). LinearGreater i q.left q.right) qs q h o) (keeps_well g qs over) k.1.0 r.left r.right k.0 k.1.1)
chains_certified g (Kbo o) m qs rs over chained h = all_from (λ (r : Rule). KboGreater o r.left r.right) rs (λ r i.
    let k = (chained r i).1 in
    kbo_chain o (weighs g o m) (Contains qs) (λ q j. All-contains (λ (q : Rule). KboGreater o q.left q.right) qs q h j) k.0 r.left r.right k.1)
