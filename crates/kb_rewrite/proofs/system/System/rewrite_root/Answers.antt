use Rattle.std.proofs.Common.{◌<◌, ◌≡◌, ◌∙◌, sym, ap, subst, arith, refl, length, get_or, List, Some}
use Rattle.std.specs.Prelude.{slice_get, false}
use Rattle.std.proofs.lemmas.Option.{same_Some}
use Rattle.kb_term.specs.Tree.{Tree}
use Rattle.kb_term.specs.Rule.{Rule}
use Rattle.kb_term.specs.Substitution.{instance, substitution_of, Matches}
use Rattle.kb_term.specs.View.{tree_of}
use Rattle.kb_rewrite.specs.Search.{IsFirstRule, IsRootRedex}
use Rattle.kb_rewrite.proofs.FirstRedexes.{rule_there, rule_inside, none_applies}
use Rattle.kb_rewrite.proofs.Strategy.{strategy_root, root_redex}
use Rattle.kb_rewrite.proofs.system.System.rewrite_root.Goals as goal

pub returns-in_default : goal.returns-in_default
returns-in_default c i r =
    let t = tree_of c.args.t.now in
    none_applies c.args.self.now false t refl c.in_default.is c.in_ok-i.ensures i (root_redex c.args.self.now t i r)

pub bounds-rules-i : goal.bounds-rules-i
bounds-rules-i c =
    let t = tree_of c.args.t.now in
    let found = subst (IsFirstRule (IsRootRedex c.args.self.now false t t)) c.in-Some.is c.in_ok-i.ensures in
    omega (arith, rule_inside c.args.self.now c.in-Some.i found.0.0 found.0.1, ap (length {A = Rule}) c.rules.ensures)

pub matched-requires : goal.matched-requires
matched-requires c =
    let rules = c.args.self.now in
    let t = tree_of c.args.t.now in
    let i = c.in-Some.i in
    let rule = c.index-rules-i.result in
    let found = subst (IsFirstRule (IsRootRedex rules false t t)) c.in-Some.is c.in_ok-i.ensures in
    let room : i < length rules = rule_inside rules i found.0.0 found.0.1 in
    let there : slice_get rules i ≡ Some rule = rule_there rules i rule room (subst (λ (rs : List Rule). rule ≡ get_or rs i rule) c.rules.ensures c.index-rules-i.is) in
    let one : found.0.0 ≡ rule = same_Some _ _ (sym found.0.1 ∙ there) in
    subst (λ (l : Tree). Matches l t) (ap (λ (r : Rule). r.left) one ∙ sym c.left.ensures) found.0.2.0

pub returns : goal.returns
returns c =
    let rules = c.args.self.now in
    let t = tree_of c.args.t.now in
    let i = c.in-Some.i in
    let rule = c.index-rules-i.result in
    let found = subst (IsFirstRule (IsRootRedex rules false t t)) c.in-Some.is c.in_ok-i.ensures in
    let room : i < length rules = rule_inside rules i found.0.0 found.0.1 in
    let there : slice_get rules i ≡ Some rule = rule_there rules i rule room (subst (λ (rs : List Rule). rule ≡ get_or rs i rule) c.rules.ensures c.index-rules-i.is) in
    let m = substitution_of c.in_ok-m.m in
    strategy_root rules t (tree_of c.in_ok-instance_of.field-0) i rule m there (ap (instance m) (sym c.left.ensures) ∙ c.in_ok-m.ensures) (c.in_ok-instance_of.ensures ∙ ap (instance m) c.right.ensures) (λ j l r. found.1 j l (root_redex rules t j r))
