use Rattle.std.proofs.Common.{◌≡◌, ◌∙◌, sym, ap, arith, length, refl, ◌≤◌}
use Rattle.std.specs.Prelude.{map}
use Rattle.kb_term.specs.Tree.{apply, trees_of}
use Rattle.kb_term.specs.View.{tree_of}
use Rattle.kb_term.proofs.Arguments.{argument-is, arguments-length}
use Rattle.kb_rewrite.specs.Fingerprints.{argument_of, tree_or}
use Rattle.kb_rewrite.proofs.Tops.{argument_at, argument_none}
use Rattle.kb_rewrite.proofs.fingerprint.argument.Goals as goal

pub returns-then-k-items : goal.returns-then-k-items
returns-then-k-items c =
    let items = c.items-items.result.now in
    let us = map tree_of items in
    let k = c.args.k in
    let f = c.in-App.field-0.0 in
    let here = argument-is items us k c.index-items-k.result refl c.if-k-items.true c.index-items-k.is in
    let whole : tree_or c.args.t ≡ apply f (trees_of us) = ap tree_or c.in_ok-arguments.was ∙ ap tree_of c.in-App.is ∙ ap (λ vs. apply f (trees_of vs)) (sym c.items-items.ensures) in
    here ∙ sym (argument_at f us k) ∙ ap (λ t. argument_of t k) (sym whole)

pub returns-else-k-items : goal.returns-else-k-items
returns-else-k-items c =
    let items = c.items-items.result.now in
    let us = map tree_of items in
    let k = c.args.k in
    let f = c.in-App.field-0.0 in
    let behind : length us ≤ k = omega (arith, c.if-k-items.false, arguments-length items) in
    let whole : tree_or c.args.t ≡ apply f (trees_of us) = ap tree_or c.in_ok-arguments.was ∙ ap tree_of c.in-App.is ∙ ap (λ vs. apply f (trees_of vs)) (sym c.items-items.ensures) in
    sym (argument_none f us k behind) ∙ ap (λ t. argument_of t k) (sym whole)
