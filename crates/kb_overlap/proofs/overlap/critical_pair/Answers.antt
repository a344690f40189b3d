use Rattle.std.proofs.Common.{◌≡◌, ◌∙◌, sym, ap, ap₂, [], ◌∷◌}
use Rattle.kb_term.specs.Pair.{first_limit, pair_limit}
use Rattle.kb_term.specs.Substitution.{instance, substitution_of}
use Rattle.kb_term.specs.View.{tree_of}
use Rattle.kb_overlap.proofs.Sides.{second_is}
use Rattle.kb_overlap.proofs.overlap.critical_pair.Goals as goal

pub returns-in-Some-pair_limit : goal.returns-in-Some-pair_limit
returns-in-Some-pair_limit c t made =
    let outer = c.args.outer.now in
    let m = substitution_of c.args.m.now in
    let first : tree_of c.in_ok-first.first ≡ instance m outer.right = c.in_ok-first.ensures ∙ ap (instance m) c.right.ensures in
    let second : tree_of c.in_ok-second.second ≡ t = second_is outer c.args.renamed.now c.args.position.now m c.requires.there (tree_of c.in_ok-second.second) (λ v e. c.in_ok-second.ensures v (rw (c.left.ensures, c.steps.ensures, c.right-2.ensures) e)) t made in
    ap (λ l. first_limit (l ∷ pair_limit (instance m outer.right) t ∷ [])) c.in_default.ensures.0
    ∙ ap (λ l. first_limit (l ∷ [])) (ap₂ pair_limit (sym first) (sym second) ∙ sym c.pair_limit.ensures.limit ∙ c.in-Some-pair_limit.is)

pub returns-in-None : goal.returns-in-None
returns-in-None c t made =
    let outer = c.args.outer.now in
    let m = substitution_of c.args.m.now in
    let first : tree_of c.in_ok-first.first ≡ instance m outer.right = c.in_ok-first.ensures ∙ ap (instance m) c.right.ensures in
    let second : tree_of c.in_ok-second.second ≡ t = second_is outer c.args.renamed.now c.args.position.now m c.requires.there (tree_of c.in_ok-second.second) (λ v e. c.in_ok-second.ensures v (rw (c.left.ensures, c.steps.ensures, c.right-2.ensures) e)) t made in (
      ap (λ l. first_limit (l ∷ pair_limit (instance m outer.right) t ∷ [])) c.in_default.ensures.0
          ∙ ap (λ l. first_limit (l ∷ [])) (ap₂ pair_limit (sym first) (sym second) ∙ sym c.pair_limit.ensures.limit ∙ c.in-None.is),
      first,
      second,
    )
