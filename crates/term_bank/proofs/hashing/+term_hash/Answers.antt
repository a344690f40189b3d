use Rattle.std.proofs.Common.{◌≡◌, ◌<◌, ◌∙◌, sym, ap, refl, length, take, get_or, arith}
use Rattle.std.specs.Prelude.{map}
use Rattle.std.proofs.lemmas.List.{take_more, take_all}
use Rattle.kb_term.specs.Tree.{tree_depth, trees_of, apply, variable}
use Rattle.kb_term.specs.View.{tree_of}
use Rattle.kb_term.proofs.Arguments.{argument-is, argument-depth, arguments-length}
use Rattle.term_bank.specs.Hashing.{mix, tree_hash, trees_hash}
use Rattle.term_bank.proofs.Hashed.{list_hash, list_hash-push, trees_hash-of}
use Rattle.term_bank.proofs.hashing.+term_hash.Goals as goal

pub term_hash-requires : goal.term_hash-requires
term_hash-requires t c =
    let items = c.items-items.result.now in
    let us = map tree_of items in
    let i = c.loop-i.i in
    let here = argument-is items us i c.index-items-i.result refl c.loop-i-test.true c.index-items-i.is in
    let room : i < length us = omega (arith, arguments-length items) in
    let whole : tree_of c.args.t.now ≡ apply c.in-App.f.0 (trees_of us) = ap tree_of c.in-App.is ∙ ap (λ vs. apply c.in-App.f.0 (trees_of vs)) (sym c.items-items.ensures) in
    (omega (arith, ap tree_depth here, argument-depth us i room, ap tree_depth whole, c.decreases), tt)

pub loop-i-preserved : goal.loop-i-preserved
loop-i-preserved t c =
    let items = c.items-items.result.now in
    let us = map tree_of items in
    let i = c.loop-i.i in
    let first = c.hash_of_symbol-hash.result in
    let here = argument-is items us i c.index-items-i.result refl c.loop-i-test.true c.index-items-i.is in
    let room : i < length us = omega (arith, arguments-length items) in
    c.mixed-hash.ensures
    ∙ ap (λ x. mix x c.term_hash.result) c.loop-i.invariant
    ∙ ap (mix (list_hash (take i us) first)) (c.term_hash.ensures ∙ ap tree_hash here)
    ∙ sym (ap (λ l. list_hash l first) (take_more us i (variable 0) room) ∙ list_hash-push (take i us) (get_or us i (variable 0)) first)

pub returns-after-loop-i : goal.returns-after-loop-i
returns-after-loop-i t c =
    let items = c.items-items.result.now in
    let us = map tree_of items in
    let first = c.hash_of_symbol-hash.result in
    let whole : tree_of c.args.t.now ≡ apply c.in-App.f.0 (trees_of us) = ap tree_of c.in-App.is ∙ ap (λ vs. apply c.in-App.f.0 (trees_of vs)) (sym c.items-items.ensures) in
    let all : take c.loop-i.i us ≡ us = take_all c.loop-i.i us (omega (arith, arguments-length items, c.loop-i-test.false)) in
    c.loop-i.invariant ∙ ap (λ l. list_hash l first) all ∙ sym (trees_hash-of us first)
    ∙ ap (trees_hash (trees_of us)) c.hash_of_symbol-hash.ensures ∙ ap tree_hash (sym whole)
