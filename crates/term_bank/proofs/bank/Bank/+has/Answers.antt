use Rattle.std.proofs.Common.{ℕ, ◌≡◌, ◌<◌, ◌==◌, ◌∙◌, true, length, get_or, refl, sym, ap, List, arith}
use Rattle.std.specs.Prelude.{map, not}
use Rattle.std.proofs.lemmas.Bool.{false≢true}
use Rattle.std.proofs.lemmas.Bool.Decides.{nat_tests}
use Rattle.std.proofs.lemmas.List.{length-map, get_or-map, get_or_default, take_more_same}
use Rattle.kb_term.specs.Tree.{Tree, variable, apply, trees_of, tree_depth}
use Rattle.kb_term.specs.View.{tree_of}
use Rattle.kb_term.specs.declared.term.Term.{Term}
use Rattle.kb_term.proofs.Arguments.{argument-is, argument-depth, arguments-length}
use Rattle.term_bank.specs.Terms.{term_at, terms_at}
use Rattle.term_bank.specs.declared.cell.TermId.{TermId}
use Rattle.term_bank.proofs.TermRows.{below_at, below_more}
use Rattle.term_bank.proofs.Arguments.{same_arguments, same_symbol}
use Rattle.term_bank.proofs.bank.Bank.+has.Goals as goal
use Rattle.term_bank.proofs.bank.Bank.+has.Goals.{then-ne-via-then-ne, then-ne-via-else-ne+then-ids-items}

other_number : (m n : ℕ) → true ≡ not (m == n) → m ≡ n → ⊥
other_number m n e d = grind (arith, nat_tests)

-- the term at an argument of the cell
at_argument : (terms : List Tree) (ids : List TermId) (items : List Term) (i : ℕ) (none : TermId) (x : Term) → i < length ids → i < length items → x ≡ get_or items i x → terms_at terms ids ≡ map tree_of items → term_at terms (get_or ids i none).0 ≡ tree_of x
at_argument terms ids items i none x h k is e =
    sym (get_or-map (λ (y : TermId). term_at terms y.0) ids i none (variable 0) h) ∙ ap (λ us. get_or us i (variable 0)) e ∙ sym (argument-is items (map tree_of items) i x refl k is)

same_argument : (terms : List Tree) (ids : List TermId) (items : List Term) (i : ℕ) (none : TermId) (x : Term) → i < length ids → i < length items → x ≡ get_or items i x → term_at terms (get_or ids i none).0 ≡ tree_of x → get_or (terms_at terms ids) i (variable 0) ≡ get_or (map tree_of items) i (variable 0)
same_argument terms ids items i none x h k is e =
    get_or-map (λ (y : TermId). term_at terms y.0) ids i none (variable 0) h ∙ e ∙ argument-is items (map tree_of items) i x refl k is

pub has-requires : goal.has-requires
has-requires t c =
    let items = c.items-items.result.now in
    let us = map tree_of items in
    let ids = c.in-App-App.ids.now in
    let i = c.loop-i.i in
    let none : TermId = record { 0 = 0 } in
    let inside : i < length items = omega (arith, c.if-ids-items.false, c.loop-i-test.true) in
    let here = argument-is items us i c.index-items-i.result refl inside c.index-items-i.is in
    let room : i < length us = omega (arith, arguments-length items) in
    let whole : tree_of c.args.t.now ≡ apply c.in-App-App.g.0 (trees_of us) = ap tree_of c.in-App-App.is-1 ∙ ap (λ vs. apply c.in-App-App.g.0 (trees_of vs)) (sym c.items-items.ensures) in (
      omega (arith, ap tree_depth here, argument-depth us i room, ap tree_depth whole, c.decreases),
      below_at (length c.args.self.now) ids i (get_or ids i none) (below_more c.args.id.0 (length c.args.self.now) ids (omega (arith, c.requires)) c.in-App-App.ensures.below) c.loop-i-test.true
          (get_or_default ids i none (get_or ids i none) c.loop-i-test.true),
    )

pub returns-then-ne : goal.returns-then-ne
returns-then-ne t c =
    let items = c.items-items.result.now in
    let us = map tree_of items in
    let ids = c.in-App-App.ids.now in
    let terms = c.args.self.now in
    let whole : tree_of c.args.t.now ≡ apply c.in-App-App.g.0 (trees_of us) = ap tree_of c.in-App-App.is-1 ∙ ap (λ vs. apply c.in-App-App.g.0 (trees_of vs)) (sym c.items-items.ensures) in
    elim c.then-ne.branch [
      | then-ne-via-then-ne w ↦ (λ h. absurd (false≢true h), λ e. absurd (other_number c.in-App-App.f.0 c.in-App-App.g.0 w.if-ne.ensures (same_symbol c.in-App-App.f.0 c.in-App-App.g.0 (trees_of (terms_at terms ids)) (trees_of us) (c.in-App-App.ensures.term ∙ e ∙ whole))))
      | then-ne-via-else-ne+then-ids-items w ↦ (
        λ h. absurd (false≢true h),
        λ e. absurd (w.if-ids-items.true
            (sym (length-map ids (λ (y : TermId). term_at terms y.0)) ∙ ap length (same_arguments c.in-App-App.f.0 c.in-App-App.g.0 (terms_at terms ids) us (c.in-App-App.ensures.term ∙ e ∙ whole)) ∙ arguments-length items)),
      )
    ]

pub returns-then-not-has : goal.returns-then-not-has
returns-then-not-has t c =
    let items = c.items-items.result.now in
    let us = map tree_of items in
    let ids = c.in-App-App.ids.now in
    let terms = c.args.self.now in
    let i = c.loop-i.i in
    let none : TermId = record { 0 = 0 } in
    let inside : i < length items = omega (arith, c.if-ids-items.false, c.loop-i-test.true) in
    let whole : tree_of c.args.t.now ≡ apply c.in-App-App.g.0 (trees_of us) = ap tree_of c.in-App-App.is-1 ∙ ap (λ vs. apply c.in-App-App.g.0 (trees_of vs)) (sym c.items-items.ensures) in (
      λ h. absurd (false≢true h),
      λ e. absurd (false≢true (sym c.if-not-has.true ∙ c.has.ensures.1
          (at_argument terms ids items i none c.index-items-i.result c.loop-i-test.true inside c.index-items-i.is
          (same_arguments c.in-App-App.f.0 c.in-App-App.g.0 (terms_at terms ids) us (c.in-App-App.ensures.term ∙ e ∙ whole))))),
    )

pub loop-i-preserved : goal.loop-i-preserved
loop-i-preserved t c =
    let items = c.items-items.result.now in
    let us = map tree_of items in
    let ids = c.in-App-App.ids.now in
    let terms = c.args.self.now in
    let i = c.loop-i.i in
    let none : TermId = record { 0 = 0 } in
    let inside : i < length items = omega (arith, c.if-ids-items.false, c.loop-i-test.true) in
    take_more_same (terms_at terms ids) us i (variable 0) (omega (arith, c.loop-i-test.true, length-map ids (λ (y : TermId). term_at terms y.0))) (omega (arith, inside, arguments-length items)) c.loop-i.invariant
    (same_argument terms ids items i none c.index-items-i.result c.loop-i-test.true inside c.index-items-i.is (c.has.ensures.0 c.if-not-has.false))
