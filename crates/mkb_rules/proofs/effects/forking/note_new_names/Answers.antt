use Rattle.std.proofs.Common.{suc, ◌≡◌, ◌+◌, ◌<◌, ◌∙◌, List, length, ap, ap₂, sym, arith}
use Rattle.mkb_rules.specs.Forking.{with_new_names, with_names_at}
use Rattle.mkb_rules.specs.Kept.{plain_done}
use Rattle.mkb_rules.specs.declared.effects.forking.NewNames.{NewNames}
use Rattle.mkb_rules.proofs.DoneLists.{done_front, front_named, front_other, front_all, new_names-more}
use Rattle.mkb_rules.proofs.effects.forking.note_new_names.Goals as goal
use Rattle.mkb_rules.proofs.effects.forking.note_new_names.Goals.{then-has+in_ok-names+in_ok-push, else-has}

pub loop-i-preserved : goal.loop-i-preserved
loop-i-preserved c =
    let ds = c.args.done.now in
    let p = c.args.p.now in
    let i = c.loop-i.i in
    let d = c.index-done-i.result in
    let within : i < length ds = c.loop-i-test.true in
    let next : suc i ≡ i + 1 = omega arith in
    elim c.if-has.branch [
      | then-has+in_ok-names+in_ok-push w ↦ rw w.new-is (
          ap (λ (ns : List NewNames). with_new_names ns (plain_done ds)) w.in_ok-push.ensures.items
          ∙ new_names-more c.loop-i.new.items (record { place = i; names = w.in_ok-names.names }) (plain_done ds)
          ∙ ap₂ (with_names_at i) w.in_ok-names.ensures c.loop-i.invariant
          ∙ front_named p i ds d within c.index-done-i.is
          ∙ ap (λ m. done_front p m (plain_done ds)) next
          )
      | else-has w ↦ rw w.new-is (c.loop-i.invariant ∙ front_other p i ds d within c.index-done-i.is (sym c.has.ensures ∙ w.if-has.false) ∙ ap (λ m. done_front p m (plain_done ds)) next)
    ]

pub returns : goal.returns
returns c = c.loop-i.invariant ∙ front_all c.args.p.now c.loop-i.i c.args.done.now c.loop-i-test.false
