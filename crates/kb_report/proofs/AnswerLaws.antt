-- The line of a certificate.
use Rattle.std.proofs.Common.{◌≡◌, refl, ℕ, List, [], ◌∷◌, ◌++◌}
use Rattle.std.specs.Prelude.{codes}
use Rattle.std.specs.List.{join_with_byte}
use Rattle.kb_text.specs.Lines.{line}
use Rattle.kb_cert.specs.CertificateText.{cert_fields}
use Rattle.kb_cert.specs.declared.certificate.Certificate.{Certificate}
use Rattle.kb_cert.specs.declared.certificate.Certificate.TheVariants.{Lpo, Linear, Kbo}

pub order_line : (names : List (List ℕ)) (c : Certificate) → codes "ORDER " ++ join_with_byte 32 (cert_fields names c) ++ 10 ∷ [] ≡ line (codes "ORDER" ∷ cert_fields names c)
order_line names (Lpo symbols) = refl
order_line names (Linear rows) = refl
order_line names (Kbo order) = refl
