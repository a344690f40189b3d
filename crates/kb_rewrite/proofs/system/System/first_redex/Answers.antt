use Rattle.std.proofs.Common.{◌≡◌, ◌∙◌, sym, ap, subst, get_or, List}
use Rattle.std.specs.Prelude.{IfSome, Ok, reverse}
use Rattle.kb_term.specs.Rule.{Rule}
use Rattle.kb_term.specs.View.{tree_of}
use Rattle.kb_rewrite.specs.NormalForm.{IsFirstRedex, IsFound}
use Rattle.kb_rewrite.specs.Search.{IsRootRedex, IsFirstAt}
use Rattle.kb_rewrite.proofs.FirstRedexes.{first_redex_from, no_redex_from, rule_at, rule_inside}
use Rattle.kb_rewrite.proofs.system.System.first_redex.Goals as goal

pub returns-in-None : goal.returns-in-None
returns-in-None c = no_redex_from c.args.self.now c.args.strict_only (tree_of c.args.t.now) (c.in_ok-first_below.ensures.none (ap Ok c.in-None.is))

pub returns-in_ok-kind-in-Some : goal.returns-in_ok-kind-in-Some
returns-in_ok-kind-in-Some c =
    let rules = c.args.self.now in
    let t = tree_of c.args.t.now in
    let P = IsRootRedex rules c.args.strict_only t in
    let found = subst (λ o. IfSome o (λ e. IsFirstAt P t (reverse e.0.items) e.1)) c.in-Some.is c.in_ok-first_below.ensures.first in
    let place : c.in_ok-position-in-Some.position ≡ reverse c.in-Some.steps.items = c.in_ok-position-in-Some.ensures ∙ c.deref.ensures.value ∙ c.reverse.ensures.items in
    let first = first_redex_from rules c.args.strict_only t (reverse c.in-Some.steps.items) c.in-Some.i found in
    let inside = rule_inside rules c.in-Some.i found.first.0.0 found.first.0.1 in (
      subst (λ p. IsFirstRedex rules c.args.strict_only t p c.in-Some.i) (sym place) first,
      λ rule e. subst (λ (r : Rule). IsFound t r c.in_ok-kind-in-Some.kind) (sym (rule_at rules c.in-Some.i c.index-rules-i.result rule inside (subst (λ (rs : List Rule). c.index-rules-i.result ≡ get_or rs c.in-Some.i c.index-rules-i.result) c.rules.ensures c.index-rules-i.is) e)) c.in_ok-kind-in-Some.ensures,
    )
