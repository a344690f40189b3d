use Rattle.std.proofs.Common.{◌∙◌, ap}
use Rattle.kb_term.specs.View.{entries_of_list}
use Rattle.kb_match.proofs.Extensions.{copied_more, copied_free}
use Rattle.kb_match.proofs.matcher.copied.Goals as goal
use Rattle.kb_match.proofs.matcher.copied.Goals.{in-Some+in_ok-clone+in_ok-push, in_default}

pub loop-binding-preserved : goal.loop-binding-preserved
loop-binding-preserved c =
    let es = c.args.bindings.now in
    let i = c.loop-binding.binding-index in
    let x = c.binding-item.result in
    elim c.match-binding.branch [
      | in-Some+in_ok-clone+in_ok-push w ↦
          ap (λ v. entries_of_list v.items) w.entries-is ∙ ap entries_of_list w.in_ok-push.ensures.items ∙ copied_more c.loop-binding.entries.items es i w.in-Some.n w.in-Some.t w.in_ok-clone.field-0 x c.loop-binding-test.true c.binding-item.is w.in-Some.is w.in_ok-clone.ensures.cases c.loop-binding.invariant
      | in_default w ↦
          ap (λ v. entries_of_list v.items) w.entries-is ∙ c.loop-binding.invariant ∙ copied_free es i x c.loop-binding-test.true c.binding-item.is w.in_default.is
    ]
