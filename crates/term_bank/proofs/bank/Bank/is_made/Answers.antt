use Rattle.std.proofs.Common.{ℕ, ◌≡◌, ◌==◌, ◌∙◌, true, length, sym, ap, subst, arith, Decides}
use Rattle.std.proofs.lemmas.Bool.Decides.{nat_tests, Decides-eqb}
use Rattle.std.proofs.lemmas.Slice.Eq.{slice_eq-Decides}
use Rattle.kb_term.specs.Tree.{apply, trees_of}
use Rattle.term_bank.specs.Terms.{terms_at, AreDistinct}
use Rattle.term_bank.specs.Cells.{term_with}
use Rattle.term_bank.specs.declared.cell.TermId.{TermId}
use Rattle.term_bank.proofs.TermRows.{below_more}
use Rattle.term_bank.proofs.Arguments.{same_arguments, same_ids}
use Rattle.term_bank.proofs.bank.Bank.is_made.Goals as goal

same_number : (m n : ℕ) → true ≡ (m == n) → m ≡ n
same_number m n e = grind (arith, nat_tests)

same_id : (a b : TermId) → Decides (a.0 == b.0) (a ≡ b)
same_id a b = let d = Decides-eqb a.0 b.0 in (λ e. λ i. record { 0 = d.0 e i }, λ e. d.1 (ap (λ (x : TermId). x.0) e))

pub returns-then-eq : goal.returns-then-eq
returns-then-eq c =
    let terms = c.args.self.now in
    let xs = c.in-App-App.arguments.now in
    let ys = c.args.ids.now in
    let fg : c.in-App-App.f.0 ≡ c.in-App-App.g.0 = same_number c.in-App-App.f.0 c.in-App-App.g.0 c.if-eq.ensures in
    let wanted : term_with c.args.head (terms_at terms ys) ≡ apply c.in-App-App.g.0 (trees_of (terms_at terms ys)) = ap (λ h. term_with h (terms_at terms ys)) c.in-App-App.is-1 in
    let decides : Decides c.eq-then-eq.result (xs ≡ ys) = slice_eq-Decides same_id xs ys c.eq-then-eq.result c.eq-then-eq.ensures in
    let distinct : AreDistinct terms = subst AreDistinct c.self.view_is c.self.invariant.distinct in (
      λ r. sym c.in-App-App.ensures.term ∙ ap (λ n. apply n (trees_of (terms_at terms xs))) fg ∙ ap (λ ids. apply c.in-App-App.g.0 (trees_of (terms_at terms ids))) (decides.0 r) ∙ sym wanted,
      λ e. decides.1 (same_ids terms xs ys distinct (below_more c.args.id.0 (length terms) xs (omega (arith, c.requires.there)) c.in-App-App.ensures.below) c.requires.below
          (same_arguments c.in-App-App.f.0 c.in-App-App.g.0 (terms_at terms xs) (terms_at terms ys) (c.in-App-App.ensures.term ∙ e ∙ wanted))),
    )
