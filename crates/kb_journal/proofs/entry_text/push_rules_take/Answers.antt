use Rattle.std.proofs.Common.{◌≡◌, ◌++◌, ◌∷◌, [], List, ℕ, ap₂, ◌∙◌, subst, append_assoc}
use Rattle.std.specs.Prelude.{OnOk, codes}
use Rattle.kb_journal.specs.EntryLines.{take_fields, rule_text}
use Rattle.kb_journal.proofs.entry_text.push_rules_take.Goals as goal

pub returns : goal.returns
returns c =
    let old = c.args.fields.now in
    let take = take_fields c.args.taker.0 c.args.taker.1 (codes "overlap") c.args.process.now in
    let a = rule_text c.args.rules.0 in
    let b = rule_text c.args.rules.1 in
    subst {A = List (List ℕ)} (λ q. OnOk c.push-2.result (c.push-2.new.self ≡ q))
    (
    ap₂ (λ (x : List (List ℕ)) (y : List ℕ). x ++ y ∷ []) (c.in_ok-push.ensures.ok ∙ ap₂ (λ (x : List (List ℕ)) (y : List ℕ). x ++ y ∷ []) c.in_ok-push_take.ensures c.in_ok-rule_text.ensures) c.in_ok-rule_text-2.ensures
    ∙ append_assoc (old ++ take) (a ∷ []) (b ∷ [])
    ∙ append_assoc old take (a ∷ b ∷ [])
    )
    c.push-2.ensures.ok
