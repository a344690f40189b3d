use Rattle.std.proofs.Common.{◌≡◌, ◌+◌, sym, subst, ◌∙◌, ap, arith, ◌∷◌, drop, Some}
use Rattle.std.proofs.lemmas.List.{at_drop_more}
use Rattle.kb_term.specs.View.{tree_of}
use Rattle.kb_decide.specs.Running.{IsStepped}
use Rattle.kb_decide.proofs.Lines.{led_on, led_same}
use Rattle.kb_decide.proofs.replaying.led.Goals as goal

pub loop-line-preserved : goal.loop-line-preserved
loop-line-preserved c u =
    let rules = c.args.rules.now in
    let lines = c.args.lines.now in
    let k = c.loop-line.line-index in
    let line = c.line-item.result in
    let s = tree_of c.loop-line.term in
    let next = tree_of c.in-Some.next in
    let rest : drop k lines ≡ line ∷ drop (k + 1) lines = at_drop_more (λ l. l) lines k line (omega (arith, c.loop-line-test.true)) ∙ ap (λ x. x ∷ drop (k + 1) lines) (sym c.line-item.is) in
    let step : IsStepped rules line s (Some c.in-Some.next) = subst (IsStepped rules line s) c.in-Some.is c.in_ok-next.ensures in
    let before = c.loop-line.invariant u in
    let same = led_same rules (drop k lines) (line ∷ drop (k + 1) lines) s u rest in
    let on = led_on rules line (drop (k + 1) lines) s next c.requires step.0 step.1 u in
    (λ h. on.0 (same.0 (before.0 h)), λ h. before.1 (same.1 (on.1 h)))
