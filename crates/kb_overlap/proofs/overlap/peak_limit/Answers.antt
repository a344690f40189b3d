use Rattle.std.proofs.Common.{◌≡◌, ◌∙◌, sym, ap, subst, [], ◌∷◌, None}
use Rattle.kb_term.specs.Position.{subtree_at}
use Rattle.kb_term.specs.Pair.{first_limit, term_limit, pair_limit}
use Rattle.kb_term.specs.Substitution.{instance, substitution_of}
use Rattle.kb_term.specs.Tree.{tree_size}
use Rattle.kb_unify.specs.Extent.{IsExtent}
use Rattle.kb_term.proofs.Subtrees.{some_value}
use Rattle.kb_overlap.proofs.Sides.{extent_passed, peak_answer}
use Rattle.kb_overlap.proofs.overlap.peak_limit.Goals as goal

pub returns-in-Some : goal.returns-in-Some
returns-in-Some c t made =
    let m = substitution_of c.args.m.now in
    let peak : IsExtent c.instance_extent-peak.result (instance m c.args.outer.now.left) = subst (λ u. IsExtent c.instance_extent-peak.result (instance m u)) c.left.ensures c.instance_extent-peak.ensures in
    ap (λ l. first_limit (l ∷ pair_limit (instance m c.args.outer.now.right) t ∷ [])) (sym (extent_passed c.instance_extent-peak.result (instance m c.args.outer.now.left) peak) ∙ sym c.limit.ensures ∙ c.in-Some.is)

pub returns : goal.returns
returns c =
    let outer = c.args.outer.now in
    let m = substitution_of c.args.m.now in
    let p = c.args.position.now in
    let redex = some_value (subtree_at outer.left p) c.requires.there in
    let peak : IsExtent c.instance_extent-peak.result (instance m outer.left) = subst (λ u. IsExtent c.instance_extent-peak.result (instance m u)) c.left.ensures c.instance_extent-peak.ensures in
    let first : IsExtent c.instance_extent-first.result (instance m outer.right) = subst (λ u. IsExtent c.instance_extent-first.result (instance m u)) c.right.ensures c.instance_extent-first.ensures in
    let inserted : IsExtent c.instance_extent-inserted.result (instance m c.args.renamed.now.right) = subst (λ u. IsExtent c.instance_extent-inserted.result (instance m u)) c.right-2.ensures c.instance_extent-inserted.ensures in
    let none : term_limit (instance m outer.left) ≡ None = sym (extent_passed c.instance_extent-peak.result (instance m outer.left) peak) ∙ sym c.limit.ensures ∙ c.in_default.is in
    let rest = c.size_without-rest.ensures.rest redex.0 (ap (λ u. subtree_at u p) c.left-2.ensures ∙ redex.1) ∙ ap (λ u. tree_size (instance m u)) c.left-2.ensures in
    peak_answer outer c.args.renamed.now p m redex.0 redex.1 c.instance_extent-first.result c.instance_extent-inserted.result c.size_without-rest.result none first inserted rest c.extents_limit.result c.extents_limit.ensures
