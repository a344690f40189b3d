use Rattle.std.proofs.Common.{ap, subst, sym, ◌≡◌, ◌∙◌, []}
use Rattle.std.specs.Prelude.{Ok}
use Rattle.kb_term.specs.Tree.{variables_of}
use Rattle.kb_term.specs.Substitution.{instance}
use Rattle.kb_term.specs.View.{tree_of}
use Rattle.kb_match.specs.Binding.{bindings_of_list}
use Rattle.kb_match.specs.Matching.{IsMatchList}
use Rattle.kb_match.specs.Extending.{IsExtended}
use Rattle.std.proofs.lemmas.Bool.{false≢true}
use Rattle.kb_match.proofs.FittingLaws.{fits_from_match}
use Rattle.kb_match.proofs.Extensions.{match_from}
use Rattle.kb_match.proofs.matcher.match_term.Goals as goal

pub returns-then-not-fits : goal.returns-then-not-fits
returns-then-not-fits c = λ m. false≢true (c.if-not-fits.ensures.1 (fits_from_match (tree_of c.args.pattern.now) (tree_of c.args.subject.now) m))

pub returns-then-branch : goal.returns-then-branch
returns-then-branch c =
    let p = tree_of c.args.pattern.now in
    let s = tree_of c.args.subject.now in
    let new = bindings_of_list c.extend.new.bindings.items in
    let none : bindings_of_list c.new-bindings.result.items ≡ [] = ap bindings_of_list c.new-bindings.ensures.items in
    let grown : IsExtended (variables_of p) (λ k. instance k p ≡ s) [] new = subst (λ es. IsExtended (variables_of p) (λ k. instance k p ≡ s) es new) none (c.in_ok-extend.ensures.matched (ap Ok c.if-branch.true)) in
    subst (λ m. IsMatchList m p s) (sym (c.in_ok-copied.ensures ∙ ap bindings_of_list c.as_slice.ensures)) (match_from p s new grown)
