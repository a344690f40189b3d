use Rattle.std.proofs.Common.{◌≡◌, ◌+◌, ◌<◌, ◌∙◌, length, sym, ap, subst, refl, List, arith}
use Rattle.std.specs.Prelude.{map}
use Rattle.std.proofs.lemmas.Result.{on_ok_weaker}
use Rattle.kb_term.specs.Tree.{apply, trees_of, tree_depth, tree_size}
use Rattle.kb_term.specs.View.{tree_of}
use Rattle.kb_term.proofs.Arguments.{argument-is, argument-depth, arguments-length}
use Rattle.term_bank.specs.Terms.{terms_at, with_term}
use Rattle.term_bank.specs.declared.cell.TermId.{TermId}
use Rattle.term_bank.proofs.Missing.{front_then, placed_front}
use Rattle.term_bank.proofs.Coming.{HaveCome, come_front, come_room, come_more, come_most, come_count, come_whole}
use Rattle.term_bank.proofs.bank.Bank.+add.Goals as goal

pub add-requires : goal.add-requires
add-requires t c =
    let items = c.items-argument-items.result.now in
    let us = map tree_of items in
    let k = c.loop-argument.argument-index in
    let here = argument-is items us k c.argument-item.result refl c.loop-argument-test.true c.argument-item.is in
    let room : k < length us = omega (arith, arguments-length items) in
    let whole : tree_of c.args.t.now ≡ apply c.in-App.f.0 (trees_of us) = ap tree_of c.in-App.is ∙ ap (λ vs. apply c.in-App.f.0 (trees_of vs)) (sym c.items-argument-items.ensures) in (
      omega (arith, ap tree_depth here, argument-depth us k room, ap tree_depth whole, c.decreases),
      omega (arith, c.requires, ap tree_size whole, come_room c.args.self.now c.loop-argument.self items k c.loop-argument.ids.items c.loop-argument.invariant c.argument-item.result c.loop-argument-test.true c.argument-item.is),
    )

pub loop-argument-preserved : goal.loop-argument-preserved
loop-argument-preserved t c =
    let items = c.items-argument-items.result.now in
    subst (HaveCome c.args.self.now c.add.new.self items (c.loop-argument.argument-index + 1)) (sym c.in_ok-push-in-App.ensures.ok)
    (come_more c.args.self.now c.loop-argument.self items c.loop-argument.argument-index c.loop-argument.ids.items c.loop-argument.invariant c.argument-item.result c.in_ok-add-in-App.field-0 c.add.new.self c.loop-argument-test.true c.argument-item.is
    c.in_ok-add-in-App.ensures.ok c.in_ok-add-in-App.ensures.id)

pub returns-in_err-add-in-App-clause-front : goal.returns-in_err-add-in-App-clause-front
returns-in_err-add-in-App-clause-front t c =
    (front_then c.args.self.now c.loop-argument.self c.add.new.self
    (come_front c.args.self.now c.loop-argument.self c.items-argument-items.result.now c.loop-argument.argument-index c.loop-argument.ids.items c.loop-argument.invariant)
    (record { front = c.add.ensures.front; more = c.add.ensures.more })).front

pub returns-in_err-add-in-App-clause-more : goal.returns-in_err-add-in-App-clause-more
returns-in_err-add-in-App-clause-more t c =
    (front_then c.args.self.now c.loop-argument.self c.add.new.self
    (come_front c.args.self.now c.loop-argument.self c.items-argument-items.result.now c.loop-argument.argument-index c.loop-argument.ids.items c.loop-argument.invariant)
    (record { front = c.add.ensures.front; more = c.add.ensures.more })).more

pub returns-in_err-push-in-App-clause-front : goal.returns-in_err-push-in-App-clause-front
returns-in_err-push-in-App-clause-front t c =
    (front_then c.args.self.now c.loop-argument.self c.add.new.self
    (come_front c.args.self.now c.loop-argument.self c.items-argument-items.result.now c.loop-argument.argument-index c.loop-argument.ids.items c.loop-argument.invariant)
    (record { front = c.add.ensures.front; more = c.add.ensures.more })).front

pub returns-in_err-push-in-App-clause-more : goal.returns-in_err-push-in-App-clause-more
returns-in_err-push-in-App-clause-more t c =
    (front_then c.args.self.now c.loop-argument.self c.add.new.self
    (come_front c.args.self.now c.loop-argument.self c.items-argument-items.result.now c.loop-argument.argument-index c.loop-argument.ids.items c.loop-argument.invariant)
    (record { front = c.add.ensures.front; more = c.add.ensures.more })).more

pub place-requires-in-App-clause-room : goal.place-requires-in-App-clause-room
place-requires-in-App-clause-room t c =
    let items = c.items-argument-items.result.now in
    let whole : tree_of c.args.t.now ≡ apply c.in-App.f.0 (trees_of (map tree_of items)) = ap tree_of c.in-App.is ∙ ap (λ vs. apply c.in-App.f.0 (trees_of vs)) (sym c.items-argument-items.ensures) in
    omega (arith, c.requires, ap tree_size whole, come_most c.args.self.now c.loop-argument.self items c.loop-argument.argument-index c.loop-argument.ids.items c.loop-argument.invariant (omega (arith, c.loop-argument-test.false)))

pub place-requires-in-App-clause-few : goal.place-requires-in-App-clause-few
place-requires-in-App-clause-few t c =
    let items = c.items-argument-items.result.now in
    let whole : tree_of c.args.t.now ≡ apply c.in-App.f.0 (trees_of (map tree_of items)) = ap tree_of c.in-App.is ∙ ap (λ vs. apply c.in-App.f.0 (trees_of vs)) (sym c.items-argument-items.ensures) in
    omega (arith, c.requires, ap tree_size whole, ap length c.as_slice.ensures, come_count c.args.self.now c.loop-argument.self items c.loop-argument.argument-index c.loop-argument.ids.items c.loop-argument.invariant (omega (arith, c.loop-argument-test.false)))

pub returns-after-loop-argument-clause-ok : goal.returns-after-loop-argument-clause-ok
returns-after-loop-argument-clause-ok t c =
    let items = c.items-argument-items.result.now in
    let now = c.loop-argument.self in
    let whole : tree_of c.args.t.now ≡ apply c.in-App.f.0 (trees_of (map tree_of items)) = ap tree_of c.in-App.is ∙ ap (λ vs. apply c.in-App.f.0 (trees_of vs)) (sym c.items-argument-items.ensures) in
    on_ok_weaker c.place-in-App.result
    (λ e. e ∙ ap (λ (xs : List TermId). with_term now (apply c.in-App.f.0 (trees_of (terms_at now xs)))) c.as_slice.ensures
    ∙ come_whole c.args.self.now now items c.loop-argument.argument-index c.loop-argument.ids.items c.loop-argument.invariant (omega (arith, c.loop-argument-test.false)) c.in-App.f (tree_of c.args.t.now) whole)
    c.place-in-App.ensures.ok

pub returns-after-loop-argument-clause-front : goal.returns-after-loop-argument-clause-front
returns-after-loop-argument-clause-front t c =
    (front_then c.args.self.now c.loop-argument.self c.place-in-App.new.self
    (come_front c.args.self.now c.loop-argument.self c.items-argument-items.result.now c.loop-argument.argument-index c.loop-argument.ids.items c.loop-argument.invariant)
    (placed_front c.place-in-App.result c.loop-argument.self c.place-in-App.new.self (apply c.in-App.f.0 (trees_of (terms_at c.loop-argument.self c.as_slice.result.now))) c.place-in-App.ensures.ok c.place-in-App.ensures.err)).front

pub returns-after-loop-argument-clause-more : goal.returns-after-loop-argument-clause-more
returns-after-loop-argument-clause-more t c =
    (front_then c.args.self.now c.loop-argument.self c.place-in-App.new.self
    (come_front c.args.self.now c.loop-argument.self c.items-argument-items.result.now c.loop-argument.argument-index c.loop-argument.ids.items c.loop-argument.invariant)
    (placed_front c.place-in-App.result c.loop-argument.self c.place-in-App.new.self (apply c.in-App.f.0 (trees_of (terms_at c.loop-argument.self c.as_slice.result.now))) c.place-in-App.ensures.ok c.place-in-App.ensures.err)).more
