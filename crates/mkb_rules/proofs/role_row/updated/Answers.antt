use Rattle.std.proofs.Common.{◌+◌, ◌*◌, rules, List, ◌∙◌, ap, sym, cond, ℕ, Bool, filter, flat_map}
use Rattle.std.specs.Prelude.{insert, is_some}
use Rattle.std.proofs.lemmas.List.Sorted.{answers_always}
use Rattle.kb_term.specs.declared.origin.RuleRef.{RuleRef}
use Rattle.mkb_model.specs.Plain.{directions, numbers_from}
use Rattle.mkb_rules.specs.Roles.{but_for}
use Rattle.mkb_rules.proofs.RulesKept.{rule_away, rule_put, rule_taken, rule_there}
use Rattle.mkb_rules.proofs.RowKept.{of_some}
use Rattle.mkb_rules.proofs.role_row.updated.Goals as goal
use Rattle.mkb_rules.proofs.role_row.updated.Goals.{in_default-via-in-Ok+else-not-is_there, in_default-via-in-Err+else-is_there}

-- the rules where the answer for this one is t
abbrev those : (RuleRef → Bool) → RuleRef → ℕ → Bool → List RuleRef
those has rule count t = filter (but_for has rule t) (flat_map directions (numbers_from 0 count))

pub returns-in-Ok : goal.returns-in-Ok
returns-in-Ok c = λ has count h e.
    let found = c.in-Ok.ensures.position (λ a. 2 * a.node + a.dir) (answers_always _ _ _ (λ f a r g called. search rules)) in
    c.remove.ensures.items
    ∙ rule_taken c.args.rule c.requires has count c.in_ok-rules.rules.items (of_some _ _ _ c.in_ok-rules.was e) h c.in-Ok.place (rw (← c.deref.ensures.value) found)
    ∙ ap (those has c.args.rule count) (sym c.if-not-is_there.true)

pub returns-in_ok-ok-in-Err : goal.returns-in_ok-ok-in-Err
returns-in_ok-ok-in-Err c = λ has count h e.
    let place = c.in-Err.ensures.position (λ a. 2 * a.node + a.dir) (answers_always _ _ _ (λ f a r g called. search rules)) in
    let done = sym c.ok.ensures.variant ∙ ap is_some c.in_ok-ok-in-Err.was in
    c.insert.ensures.items ∙ ap (λ b. cond b (insert c.in_ok-rules.rules.items c.in-Err.place c.args.rule) c.in_ok-rules.rules.items) done
    ∙ rule_put c.args.rule c.requires has count c.in_ok-rules.rules.items (of_some _ _ _ c.in_ok-rules.was e) h c.in-Err.place (rw (← c.deref.ensures.value) place)
    ∙ ap (those has c.args.rule count) (sym c.if-is_there.true)

pub returns-in_default : goal.returns-in_default
returns-in_default c = λ has count h e. elim c.in_default.branch [
  | in_default-via-in-Ok+else-not-is_there w ↦
      (let found = w.in-Ok.ensures.position (λ a. 2 * a.node + a.dir) (answers_always _ _ _ (λ f a r g called. search rules)) in
      rule_there c.args.rule c.requires has count c.in_ok-rules.rules.items (of_some _ _ _ c.in_ok-rules.was e) h w.in-Ok.place (rw (← c.deref.ensures.value) found)
      ∙ ap (those has c.args.rule count) (sym w.if-not-is_there.false))
  | in_default-via-in-Err+else-is_there w ↦
      (let place = w.in-Err.ensures.position (λ a. 2 * a.node + a.dir) (answers_always _ _ _ (λ f a r g called. search rules)) in
      rule_away c.args.rule c.requires has count c.in_ok-rules.rules.items (of_some _ _ _ c.in_ok-rules.was e) h w.in-Err.place (rw (← c.deref.ensures.value) place)
      ∙ ap (those has c.args.rule count) (sym w.if-is_there.false))
]
