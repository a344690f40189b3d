use Rattle.std.proofs.Common.{◌∙◌, Some, sym, ap, subst}
use Rattle.std.specs.Prelude.{map}
use Rattle.std.proofs.lemmas.Option.{slice_get-get_or}
use Rattle.std.proofs.lemmas.Bool.{false≢true}
use Rattle.kb_term.specs.Tree.{variable}
use Rattle.term_bank.specs.Hashing.{tree_hash}
use Rattle.term_bank.specs.Terms.{terms_at}
use Rattle.term_bank.specs.Cells.{term_with}
use Rattle.term_bank.proofs.Found.{IsSought, sought-first, sought-next, sought_there}
use Rattle.term_bank.proofs.bank.Bank.find.Goals as goal

pub loop-at-init : goal.loop-at-init
loop-at-init c =
    let terms = c.args.self.now in
    let t = term_with c.args.head (terms_at c.args.self.now c.args.ids.now) in
    sought-first terms c.self.inside.chains t c.args.hash (c.self.invariant.hashed ∙ ap (map tree_hash) c.self.view_is) c.requires.hash c.last-at.result c.last-at.ensures

pub is_made-requires-clause-there : goal.is_made-requires-clause-there
is_made-requires-clause-there c =
    let terms = c.args.self.now in
    let t = term_with c.args.head (terms_at c.args.self.now c.args.ids.now) in
    sought_there terms c.self.inside.chains t c.args.hash c.in-Some.place (c.self.invariant.hashed ∙ ap (map tree_hash) c.self.view_is)
    (subst (IsSought terms c.self.inside.chains t c.args.hash) c.in-Some.is c.loop-at.invariant)

pub returns-then-is_made : goal.returns-then-is_made
returns-then-is_made c =
    let terms = c.args.self.now in
    let t = term_with c.args.head (terms_at c.args.self.now c.args.ids.now) in
    slice_get-get_or terms c.in-Some.place (variable 0)
    (sought_there terms c.self.inside.chains t c.args.hash c.in-Some.place (c.self.invariant.hashed ∙ ap (map tree_hash) c.self.view_is)
    (subst (IsSought terms c.self.inside.chains t c.args.hash) c.in-Some.is c.loop-at.invariant))
    ∙ ap Some (c.is_made.ensures.0 c.if-is_made.true)

pub loop-at-preserved : goal.loop-at-preserved
loop-at-preserved c =
    let terms = c.args.self.now in
    let t = term_with c.args.head (terms_at c.args.self.now c.args.ids.now) in
    sought-next terms c.self.inside.chains t c.args.hash (c.self.invariant.hashed ∙ ap (map tree_hash) c.self.view_is) c.requires.hash c.in-Some.place c.last-at-in-Some.result
    (subst (IsSought terms c.self.inside.chains t c.args.hash) c.in-Some.is c.loop-at.invariant)
    (λ e. false≢true (sym c.if-is_made.false ∙ c.is_made.ensures.1 e))
    c.last-at-in-Some.ensures
