-- Terms without redex, and steps of the strategy.
use Rattle.std.proofs.Common.{refl, ap, sym, ◌∙◌, List, Some}
use Rattle.std.specs.Prelude.{false}
use Rattle.std.proofs.lemmas.Bool.{false≢true}
use Rattle.std.proofs.lemmas.Option.{slice_get-get_or, same_Some}
use Rattle.kb_term.specs.Tree.{Tree}
use Rattle.kb_term.specs.Rule.{Rule}
use Rattle.kb_term.specs.Substitution.{instance}
use Rattle.kb_term.specs.Proving.{Step}
use Rattle.kb_rewrite.specs.NormalForm.{HasNoRedex, IsNormal, StrategyStep}
use Rattle.kb_rewrite.proofs.FirstRedexes.{rule_inside}

pub normal_from : (rules : List Rule) (t : Tree) → HasNoRedex rules false t → IsNormal rules t
normal_from rules t none u (rule, (k, h, e), p, (m, w)) =
    none p k (record { rule = rule; there = slice_get-get_or rules k rule h ∙ ap Some e; matches = (instance m rule.left, w.redex, (m, refl)); strict = λ d. absurd (false≢true d) })

pub step_from : (rules : List Rule) (t u : Tree) → StrategyStep rules t u → Step rules t u
step_from rules t u (p, i, first, w) =
    let rule = first.redex.rule in
    let inside = rule_inside rules i rule first.redex.there in
    (rule, (i, inside, same_Some _ _ (sym (slice_get-get_or rules i rule inside) ∙ first.redex.there)), p, w)
