use Rattle.std.proofs.Common.{◌≡◌, ◌∙◌, sym, ap, subst, subst₂, take, [], ◌∷◌, ◌++◌, Contains, Some}
use Rattle.std.specs.Prelude.{map, option_map}
use Rattle.std.proofs.lemmas.List.{take_more, map-append}
use Rattle.kb_term.specs.Tree.{Tree}
use Rattle.kb_term.specs.Position.{subtree_at, function_positions_of}
use Rattle.kb_unify.specs.Unifier.{IsUnifiable}
use Rattle.kb_overlap.specs.Found.{IsFoundAt}
use Rattle.kb_overlap.specs.Overlap.{IsRenamedApart, ListsOverlaps}
use Rattle.kb_overlap.specs.View.{overlap_of}
use Rattle.kb_overlap.proofs.Finding.{below_more, none_there}
use Rattle.kb_overlap.proofs.Preorder.{listed_at, lists_none, lists_some}
use Rattle.kb_term.proofs.Subtrees.{position_there}
use Rattle.kb_overlap.proofs.overlap.overlaps.Goals.{in-Some+in_ok-push-in-Some, in-None}
use Rattle.kb_overlap.proofs.overlap.overlaps.Goals as goal

pub overlap_at-requires-clause-outer_variables : goal.overlap_at-requires-clause-outer_variables
overlap_at-requires-clause-outer_variables c = below_more c.args.outer.now c.requires.outer_variables

pub overlap_at-requires-clause-renamed_variables : goal.overlap_at-requires-clause-renamed_variables
overlap_at-requires-clause-renamed_variables c = c.in_ok-renamed.ensures.below

pub overlap_at-requires-clause-there : goal.overlap_at-requires-clause-there
overlap_at-requires-clause-there c =
    let here = listed_at c.args.outer.now c.args.same c.deref-position-items.result.now (c.deref-position-items.ensures.value ∙ c.in_ok-positions.ensures) c.loop-position.position-index c.position-item.result c.loop-position-test.true in
    subst (Contains (function_positions_of c.args.outer.now.left)) (sym c.position-item.is) here

pub loop-position-preserved : goal.loop-position-preserved
loop-position-preserved c =
    let outer = c.args.outer.now in
    let inner = c.args.inner.now in
    let renamed = c.in_ok-renamed.renamed in
    let ps = c.deref-position-items.result.now in
    let i = c.loop-position.position-index in
    let p = c.position-item.result in
    let more = take_more ps i p c.loop-position-test.true ∙ ap (λ q. take i ps ++ q ∷ []) (sym c.position-item.is) in
    let renamed_apart : IsRenamedApart outer inner renamed = c.in_ok-renamed.ensures.apart in
    let there = listed_at outer c.args.same ps (c.deref-position-items.ensures.value ∙ c.in_ok-positions.ensures) i p c.loop-position-test.true in
    let here : Contains (function_positions_of outer.left) p = subst (Contains (function_positions_of outer.left)) (sym c.position-item.is) there in
    let redex = position_there outer.left p here in
    elim c.match-branch-4.branch [
      | in-Some+in_ok-push-in-Some w ↦
          let o = overlap_of w.in-Some.overlap in
          let found : IsFoundAt outer renamed p (Some o) = subst (λ x. IsFoundAt outer renamed p (option_map overlap_of x)) w.in-Some.is c.in_ok-overlap_at.ensures in
          let now = ap (λ v. map overlap_of v.items) w.found-is ∙ ap (map overlap_of) w.in_ok-push-in-Some.ensures.items ∙ map-append overlap_of c.loop-position.found.items (w.in-Some.overlap ∷ []) in
          subst₂ (ListsOverlaps outer inner) (sym more) (sym now) (lists_some outer inner p o found.0 (found.1 inner renamed_apart) (take i ps) (map overlap_of c.loop-position.found.items) c.loop-position.invariant)
      | in-None w ↦
          let none : (u : Tree) → subtree_at outer.left p ≡ Some u → ¬ IsUnifiable u renamed.left = subst (λ x. IsFoundAt outer renamed p (option_map overlap_of x)) w.in-None.is c.in_ok-overlap_at.ensures in
          subst₂ (ListsOverlaps outer inner) (sym more) (sym (ap (λ v. map overlap_of v.items) w.found-is))
          (lists_none outer inner p (none_there outer inner renamed renamed_apart p redex.0 redex.1 (none redex.0 redex.1)) (take i ps) (map overlap_of c.loop-position.found.items) c.loop-position.invariant)
    ]
