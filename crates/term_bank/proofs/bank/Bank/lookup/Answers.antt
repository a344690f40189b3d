use Rattle.std.proofs.Common.{◌∙◌, Some, sym, ap, subst}
use Rattle.std.specs.Prelude.{map}
use Rattle.std.proofs.lemmas.Option.{slice_get-get_or}
use Rattle.std.proofs.lemmas.Bool.{false≢true}
use Rattle.kb_term.specs.Tree.{variable}
use Rattle.term_bank.specs.Hashing.{tree_hash}
use Rattle.kb_term.specs.View.{tree_of}
use Rattle.term_bank.proofs.Found.{IsSought, sought-first, sought-next, sought_there}
use Rattle.term_bank.proofs.bank.Bank.lookup.Goals as goal

pub loop-at-init : goal.loop-at-init
loop-at-init c =
    let terms = c.args.self.now in
    let t = tree_of c.args.t.now in
    sought-first terms c.self.inside.chains t c.term_hash-hash.result (c.self.invariant.hashed ∙ ap (map tree_hash) c.self.view_is) c.term_hash-hash.ensures c.last-at.result c.last-at.ensures

pub has-requires : goal.has-requires
has-requires c =
    let terms = c.args.self.now in
    let t = tree_of c.args.t.now in
    sought_there terms c.self.inside.chains t c.term_hash-hash.result c.in-Some.place (c.self.invariant.hashed ∙ ap (map tree_hash) c.self.view_is)
    (subst (IsSought terms c.self.inside.chains t c.term_hash-hash.result) c.in-Some.is c.loop-at.invariant)

pub returns-then-has-clause-cell : goal.returns-then-has-clause-cell
returns-then-has-clause-cell c =
    let terms = c.args.self.now in
    let t = tree_of c.args.t.now in
    slice_get-get_or terms c.in-Some.place (variable 0)
    (sought_there terms c.self.inside.chains t c.term_hash-hash.result c.in-Some.place (c.self.invariant.hashed ∙ ap (map tree_hash) c.self.view_is)
    (subst (IsSought terms c.self.inside.chains t c.term_hash-hash.result) c.in-Some.is c.loop-at.invariant))
    ∙ ap Some (c.has.ensures.0 c.if-has.true)

pub loop-at-preserved : goal.loop-at-preserved
loop-at-preserved c =
    let terms = c.args.self.now in
    let t = tree_of c.args.t.now in
    sought-next terms c.self.inside.chains t c.term_hash-hash.result (c.self.invariant.hashed ∙ ap (map tree_hash) c.self.view_is) c.term_hash-hash.ensures c.in-Some.place c.last-at-in-Some.result
    (subst (IsSought terms c.self.inside.chains t c.term_hash-hash.result) c.in-Some.is c.loop-at.invariant)
    (λ e. false≢true (sym c.if-has.false ∙ c.has.ensures.1 e))
    c.last-at-in-Some.ensures
