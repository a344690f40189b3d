use Rattle.std.proofs.Common.{arith, ◌≡◌, ◌+◌, ◌++◌, ◌∷◌, [], List, length, ap, sym, ◌∙◌, subst}
use Rattle.std.proofs.lemmas.List.{length_push, map-append}
use Rattle.kb_term.specs.Tree.{Tree, variable}
use Rattle.kb_term.specs.View.{tree_of, equations_of_list}
use Rattle.kb_term.specs.declared.term.Term.{Term}
use Rattle.kb_term.specs.Signature.{IsEquationWithinLimits}
use Rattle.kb_text.specs.Terms.{names_of}
use Rattle.kb_report.specs.SystemSections.{equation_body}
use Rattle.kb_report.proofs.SectionLaws.{AreReadItems, no_items, item_pushed, items_bad, items_whole}
use Rattle.kb_report.proofs.SidesRead.{some_equation}
use Rattle.kb_report.proofs.sides.read_equations.Goals as goal

pub loop-k-init : goal.loop-k-init
loop-k-init c =
    let sig = c.args.sig.now in
    let text = c.args.text.now in
    record {
      read = subst (λ (es : List (Term × Term)). AreReadItems (IsEquationWithinLimits sig) (λ k. equation_body (names_of sig)) text (equations_of_list es) 0) (sym c.new-equations.ensures.items) (no_items (IsEquationWithinLimits sig) (λ k. equation_body (names_of sig)) text);
      count = ap (λ (es : List (Term × Term)). length (equations_of_list es)) c.new-equations.ensures.items;
    }

pub split_at-requires : goal.split_at-requires
split_at-requires c = c.loop-k.invariant.read.within

pub loop-k-preserved : goal.loop-k-preserved
loop-k-preserved c =
    let sig = c.args.sig.now in
    let items = (equations_of_list c.loop-k.equations.items) in
    let news = (equations_of_list c.push.new.self.items) in
    let x : Tree × Tree = (tree_of c.in-Some.equation.0, tree_of c.in-Some.equation.1) in
    let more : news ≡ items ++ x ∷ [] = (ap equations_of_list c.in_ok-push.ensures.items ∙ map-append (λ (e : Term × Term). (tree_of e.0, tree_of e.1)) c.loop-k.equations.items (c.in-Some.equation ∷ [])) in
    let long : length news ≡ length items + 1 = ap length more ∙ length_push items x in
    let count = c.loop-k.invariant.count in
    record {
      read = item_pushed (IsEquationWithinLimits sig) (λ k. equation_body (names_of sig)) c.args.text.now c.split_at.result.1.now items news x c.loop-k.at c.in-Some.size (length items + 1) c.loop-k.invariant.read c.split_at.ensures.back (λ i. length items + 1) (rw c.in-Some.is at c.in_ok-equation.ensures.read) (rw c.in-Some.is at c.in_ok-equation.ensures.size) more;
      count = omega arith;
    }

pub returns-in_default-clause-fault : goal.returns-in_default-clause-fault
returns-in_default-clause-fault c =
    let sig = c.args.sig.now in
    let items = (equations_of_list c.loop-k.equations.items) in
    let count = c.loop-k.invariant.count in
    items_bad (IsEquationWithinLimits sig) (λ k. equation_body (names_of sig)) c.args.text.now c.split_at.result.1.now items c.loop-k.at c.args.count c.args.first (c.args.first + c.loop-k.k) (variable 0, variable 0) (some_equation sig) c.loop-k.invariant.read c.split_at.ensures.back (omega arith) (omega arith) (rw c.in_default.is at c.in_ok-equation.ensures.read)

pub returns-clause-read : goal.returns-clause-read
returns-clause-read c =
    let sig = c.args.sig.now in
    let count = c.loop-k.invariant.count in
    items_whole (IsEquationWithinLimits sig) (λ k. equation_body (names_of sig)) c.args.text.now (equations_of_list c.loop-k.equations.items) c.loop-k.at c.args.count c.loop-k.invariant.read (omega arith)
