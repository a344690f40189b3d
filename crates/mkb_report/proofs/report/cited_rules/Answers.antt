use Rattle.std.proofs.Common.{ℕ, ◌<◌, ◌++◌, ◌∷◌, ◌≡◌, ◌∙◌, [], List, map, length, get_or, ap, ap₂, sym, arith, Some}
use Rattle.std.proofs.lemmas.List.{map-append}
use Rattle.kb_term.specs.Pair.{Pair}
use Rattle.kb_term.specs.Rule.{Rule}
use Rattle.kb_term.specs.declared.origin.RuleRef.{RuleRef}
use Rattle.mkb_model.specs.Plain.{Plain, pair_at}
use Rattle.mkb_rules.proofs.Viewed.{rules_next}
use Rattle.mkb_report.proofs.Viewed.{pair_read, rule_read, cites_next}
use Rattle.mkb_report.proofs.report.cited_rules.Goals as goal

pub loop-i-preserved : goal.loop-i-preserved
loop-i-preserved c =
    let b : Plain = c.args.state.now in
    let names : List RuleRef = c.args.names.now in
    let i : ℕ = c.loop-i.i in
    let d : RuleRef = record { node = 0; dir = 0 } in
    let q : Pair = c.in_ok-pair.pair in
    let r : Rule = c.in_ok-rule.rule in
    let n : ℕ = c.number_with.result in
    let inside : i < length names = omega (arith, c.loop-i-test.true, c.loop-i.auto.i-end) in
    let at : pair_at b (get_or names i d).node ≡ Some q = pair_read b c.nodes.result.now c.nodes.ensures (get_or names i d).node q c.in_ok-pair.ensures in
    let next : List (Rule × ℕ) = (r, n) ∷ [] in
    record {
      rules =
          ap (map (λ (x : Rule × ℕ). x.0)) c.in_ok-push.ensures.items ∙ map-append (λ (x : Rule × ℕ). x.0) c.loop-i.rules.items next
          ∙ ap (λ (rs : List Rule). rs ++ r ∷ []) c.loop-i.invariant.rules ∙ sym (rules_next b names i d r inside (rule_read b (get_or names i d) q r at c.in_ok-rule.ensures.rule));
      cites =
          ap (map (λ (x : Rule × ℕ). x.1)) c.in_ok-push.ensures.items ∙ map-append (λ (x : Rule × ℕ). x.1) c.loop-i.rules.items next
          ∙ ap₂ (λ (ns : List ℕ) (m : ℕ). ns ++ m ∷ []) c.loop-i.invariant.cites c.number_with.ensures ∙ sym (cites_next b c.args.steps.now names i d q inside at);
    }
