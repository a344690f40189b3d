use Rattle.std.proofs.Common.{ℕ, ◌≡◌, ◌∙◌, sym, ap, subst, Some, None}
use Rattle.std.specs.Prelude.{option_map}
use Rattle.kb_term.specs.Tree.{Tree, variable, apply, trees_of}
use Rattle.kb_term.specs.Position.{subtree_at}
use Rattle.kb_term.specs.Rule.{Rule}
use Rattle.kb_term.specs.View.{tree_of}
use Rattle.kb_overlap.specs.Found.{AreVariablesBelow, IsFoundAt}
use Rattle.kb_overlap.specs.View.{overlap_of}
use Rattle.kb_overlap.proofs.Finding.{below_more, below_apart}
use Rattle.kb_trace.proofs.Overlapping.{below_from, function_listed, variable_overlaps, none_overlaps, found_overlaps}
use Rattle.kb_trace.proofs.right.overlapped.Goals as goal

pub returns-in-Some-Var : goal.returns-in-Some-Var
returns-in-Some-Var c =
    let A = c.args.outer.now in
    let p = c.args.position.now in
    let n = c.in-Some-Var.field-0-0 in
    let at : subtree_at A.left p ≡ Some (variable n) = ap (λ t. subtree_at t p) (sym c.left.ensures) ∙ sym c.in-Some-Var.ensures ∙ ap (λ u. Some (tree_of u)) c.in-Some-Var.field-0-is in
    variable_overlaps A c.args.inner.now p n at

pub overlap_at-requires-clause-outer_variables : goal.overlap_at-requires-clause-outer_variables
overlap_at-requires-clause-outer_variables c = below_more c.args.outer.now (below_from 64 c.args.outer.now c.requires.outer_variables)

pub overlap_at-requires-clause-renamed_variables : goal.overlap_at-requires-clause-renamed_variables
overlap_at-requires-clause-renamed_variables c = subst (AreVariablesBelow 128) (sym c.in_ok-renamed-in-Some-App.ensures) (below_apart c.args.inner.now (below_from 64 c.args.inner.now c.requires.inner_variables))

pub overlap_at-requires-clause-there : goal.overlap_at-requires-clause-there
overlap_at-requires-clause-there c =
    let A = c.args.outer.now in
    let p = c.args.position.now in
    let f = c.in-Some-App.field-0-0.0 in
    let ts = trees_of c.in-Some-App.field-0-1 in
    let at : subtree_at A.left p ≡ Some (apply f ts) = ap (λ t. subtree_at t p) (sym c.left.ensures) ∙ sym c.in-Some-App.ensures ∙ ap (λ u. Some (tree_of u)) c.in-Some-App.field-0-is in
    function_listed A.left p f ts at

pub returns-in-None-2 : goal.returns-in-None-2
returns-in-None-2 c =
    let A = c.args.outer.now in
    let B = c.args.inner.now in
    let p = c.args.position.now in
    let u = tree_of c.in-Some-App.field-0.now in
    let at : subtree_at A.left p ≡ Some u = ap (λ t. subtree_at t p) (sym c.left.ensures) ∙ sym c.in-Some-App.ensures in
    let found = subst (λ o. IsFoundAt A c.in_ok-renamed-in-Some-App.renamed p (option_map overlap_of o)) c.in-None-2.is c.in_ok-overlap_at-in-Some-App.ensures in
    none_overlaps A B p u (below_from 64 A c.requires.outer_variables) at (subst (λ (R : Rule). IsFoundAt A R p None) c.in_ok-renamed-in-Some-App.ensures found)

pub returns : goal.returns
returns c =
    let A = c.args.outer.now in
    let p = c.args.position.now in
    let o = overlap_of c.in-Some.overlap in
    let found = subst (λ x. IsFoundAt A c.in_ok-renamed-in-Some-App.renamed p (option_map overlap_of x)) c.in-Some.is c.in_ok-overlap_at-in-Some-App.ensures in
    found_overlaps A c.args.inner.now p o c.sides_within.result (below_from 64 A c.requires.outer_variables) (subst (λ (R : Rule). IsFoundAt A R p (Some o)) c.in_ok-renamed-in-Some-App.ensures found) c.sides_within.ensures
