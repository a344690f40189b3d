use Rattle.std.proofs.Common.{ap, sym, ◌∙◌, arith, ℕ, List, length}
use Rattle.kb_term.specs.Pair.{place_in}
use Rattle.kb_text.proofs.Vectors.{vec_length}
use Rattle.kb_syntax.proofs.VariableLaws.{key_names, number-inside, one-more}
use Rattle.kb_syntax.proofs.PlacedLaws.{inside}
use Rattle.kb_syntax.proofs.variables.Variables.is_one_more.Goals as goal

pub place_of-requires-clause-declared : goal.place_of-requires-clause-declared
place_of-requires-clause-declared c =
    let names = key_names c.self.inside.names.keys in
    let key = number-inside names c.self.inside.found.items c.args.self.now c.requires.name c.args.number c.self.view_is c.requires.is in
    omega (arith, inside names c.self.inside.found.items c.self.inside.places.items c.requires.name c.self.invariant key.0, key.1, ap length c.deref-then-count-n.ensures.value)

pub returns-then-count-n : goal.returns-then-count-n
returns-then-count-n c = λ x e.
    let names = key_names c.self.inside.names.keys in
    let is = c.self.inside.found.items in
    let key = number-inside names is c.args.self.now x c.args.number c.self.view_is e in
    one-more names is c.args.self.now x c.place_of.result c.len.result c.args.n c.self.view_is key.0 c.self.invariant.numbered
    (c.place_of.ensures ∙ ap (λ (xs : List ℕ). place_in xs c.args.number) c.deref.ensures.value ∙ ap (place_in is) key.1)
    (c.len.ensures ∙ vec_length c.self.inside.found) (sym c.count.ensures ∙ c.if-count-n.true)
