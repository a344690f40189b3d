use Rattle.std.proofs.Common.{◌≡◌, ◌∙◌, sym, ap, take, get_or, arith, List}
use Rattle.std.specs.Prelude.{map}
use Rattle.std.proofs.lemmas.List.{map_more, take_all}
use Rattle.kb_term.specs.Tree.{Tree, trees_of}
use Rattle.term_bank.specs.Hashing.{mix, tree_hash, trees_hash}
use Rattle.term_bank.specs.Terms.{term_at, terms_at}
use Rattle.term_bank.specs.Cells.{term_with, terms_in}
use Rattle.term_bank.specs.declared.cell.TermId.{TermId}
use Rattle.term_bank.proofs.Hashed.{list_hash, list_hash-push, trees_hash-of, hash_at}
use Rattle.term_bank.proofs.bank.Bank.hash_with.Goals as goal

pub loop-id-preserved : goal.loop-id-preserved
loop-id-preserved c =
    let ids = c.args.ids.now in
    let k = c.loop-id.id-index in
    let first = c.hash_of_symbol-hash.result in
    let none : TermId = record { 0 = 0 } in
    let f : TermId → Tree = λ id. term_at c.args.self.now id.0 in
    let id : TermId = get_or ids k none in
    let told : c.hash.result ≡ tree_hash (term_at c.args.self.now id.0) =
    hash_at c.self.inside.chains (terms_in c.self.inside.cells.items c.self.inside.arguments.items) id.0 c.hash.result c.self.invariant.hashed c.hash.ensures
    ∙ ap (λ (ts : List Tree). tree_hash (term_at ts id.0)) c.self.view_is in
    c.mixed-hash.ensures
    ∙ ap (λ x. mix x c.hash.result) c.loop-id.invariant
    ∙ ap (mix (list_hash (terms_at c.args.self.now (take k ids)) first)) told
    ∙ sym (ap (λ ts. list_hash ts first) (map_more f ids k none c.loop-id-test.true) ∙ list_hash-push (map f (take k ids)) (f id) first)

pub returns-after-loop-id : goal.returns-after-loop-id
returns-after-loop-id c =
    let ids = c.args.ids.now in
    let first = c.hash_of_symbol-hash.result in
    let us = terms_at c.args.self.now ids in
    c.loop-id.invariant
    ∙ ap (λ xs. list_hash (terms_at c.args.self.now xs) first) (take_all c.loop-id.id-index ids (omega (arith, c.loop-id-test.false)))
    ∙ sym (trees_hash-of us first)
    ∙ ap (trees_hash (trees_of us)) c.hash_of_symbol-hash.ensures
    ∙ ap (λ h. tree_hash (term_with h us)) (sym c.in-App.is)
