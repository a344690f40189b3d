use Rattle.std.proofs.Common.{◌≡◌, ◌∙◌, Contains, subst, sym, refl, Option, Some, rules}
use Rattle.std.specs.Prelude.{IsTrue, IsSome}
use Rattle.kb_lemmas.proofs.Options.{some_is}
use Rattle.kb_cert.specs.Family.{Orders, IsFirstOrder}
use Rattle.kb_cert.specs.declared.certificate.Certificate.{Certificate}
use Rattle.kb_cert.proofs.Members.{first_contained}
use Rattle.kb_label.specs.Names.{has}
use Rattle.mkb_model.specs.Plain.{orders_of, certificate_of, rules_at, constraints_of}
use Rattle.mkb_model.specs.Invariants.{IsCertified}
use Rattle.mkb_board.specs.Boards.{Seen}
use Rattle.mkb_board.proofs.Readable.{certified_on}
use Rattle.mkb_board.proofs.board.Board.certificate.Goals as goal

pub certificate-requires-clause-lives : goal.certificate-requires-clause-lives
certificate-requires-clause-lives c = subst {A = Seen} (λ z. IsTrue (has z.plain.living c.args.p.now)) (sym c.self.view_is) c.requires

pub certificate-requires-clause-ordered : goal.certificate-requires-clause-ordered
certificate-requires-clause-ordered c =
    let p = c.args.p.now in
    let lives = subst {A = Seen} (λ z. IsTrue (has z.plain.living p)) (sym c.self.view_is) c.requires in
    let k = certified_on c.self.inside.state c.self.inside.flight.items c.self.inside.journal.items c.self.invariant.0.legal p lives in
    subst {A = Option Certificate} IsSome (sym k.there) refl

pub returns-clause-member : goal.returns-clause-member
returns-clause-member c =
    let p = c.args.p.now in
    let lives = subst {A = Seen} (λ z. IsTrue (has z.plain.living p)) (sym c.self.view_is) c.requires in
    let k = subst {A = Seen} (λ z. IsCertified z.plain p) c.self.view_is (certified_on c.self.inside.state c.self.inside.flight.items c.self.inside.journal.items c.self.invariant.0.legal p lives) in
    let is : certificate_of c.args.self.now.plain p ≡ Some c.in_ok-certificate.certificate = search rules in
    let b = c.args.self.now.plain in
    subst {A = Certificate} (Contains (orders_of b)) (some_is (sym k.there ∙ is)) (first_contained b.settings.family b.problem.signature (rules_at b (constraints_of b p)) k.certificate k.first)

pub returns-clause-orders : goal.returns-clause-orders
returns-clause-orders c =
    let p = c.args.p.now in
    let lives = subst {A = Seen} (λ z. IsTrue (has z.plain.living p)) (sym c.self.view_is) c.requires in
    let k = subst {A = Seen} (λ z. IsCertified z.plain p) c.self.view_is (certified_on c.self.inside.state c.self.inside.flight.items c.self.inside.journal.items c.self.invariant.0.legal p lives) in
    let is : certificate_of c.args.self.now.plain p ≡ Some c.in_ok-certificate.certificate = search rules in
    subst {A = Certificate} (λ z. Orders z (rules_at c.args.self.now.plain (constraints_of c.args.self.now.plain p))) (some_is (sym k.there ∙ is)) k.first.0

pub returns-clause-first : goal.returns-clause-first
returns-clause-first c =
    let p = c.args.p.now in
    let lives = subst {A = Seen} (λ z. IsTrue (has z.plain.living p)) (sym c.self.view_is) c.requires in
    let k = subst {A = Seen} (λ z. IsCertified z.plain p) c.self.view_is (certified_on c.self.inside.state c.self.inside.flight.items c.self.inside.journal.items c.self.invariant.0.legal p lives) in
    let is : certificate_of c.args.self.now.plain p ≡ Some c.in_ok-certificate.certificate = search rules in
    let b = c.args.self.now.plain in
    subst {A = Certificate} (λ z. IsFirstOrder b.settings.family b.problem.signature (rules_at b (constraints_of b p)) (Some z)) (some_is (sym k.there ∙ is)) k.first
