use Rattle.std.proofs.Common.{ap, ◌∙◌, arith, ℕ, ◌<◌, List, length}
use Rattle.kb_term.specs.Pair.{place_in}
use Rattle.kb_text.proofs.Vectors.{vec_length}
use Rattle.kb_syntax.proofs.VariableLaws.{key_names, key-number, no-key, place-some, place-none, place-undeclared}
use Rattle.kb_syntax.proofs.PlacedLaws.{inside}
use Rattle.kb_syntax.proofs.variables.Variables.place.Goals as goal

pub place_of-at-requires-clause-declared : goal.place_of-at-requires-clause-declared
place_of-at-requires-clause-declared c =
    let keys = c.self.inside.names.keys in
    let key = key-number keys c.args.name.now c.in-Some.number c.in-Some.ensures.index in
    omega (arith, inside (key_names keys) c.self.inside.found.items c.self.inside.places.items c.args.name.now c.self.invariant key.0, key.1, ap length c.deref-in-Some.ensures.value)

pub returns-then-at-len : goal.returns-then-at-len
returns-then-at-len c =
    let keys = c.self.inside.names.keys in
    let is = c.self.inside.found.items in
    let x = c.args.name.now in
    let key = key-number keys x c.in-Some.number c.in-Some.ensures.index in
    let before : c.place_of-at.result < length is = omega (arith, c.if-at-len.true, c.len.ensures, vec_length c.self.inside.found) in
    place-some (key_names keys) is c.args.self.now x c.place_of-at.result c.self.view_is key.0 c.self.invariant.numbered (c.place_of-at.ensures ∙ ap (λ (xs : List ℕ). place_in xs c.in-Some.number) c.deref.ensures.value ∙ ap (place_in is) key.1) before

pub returns-else-at-len : goal.returns-else-at-len
returns-else-at-len c =
    let keys = c.self.inside.names.keys in
    let is = c.self.inside.found.items in
    let x = c.args.name.now in
    let key = key-number keys x c.in-Some.number c.in-Some.ensures.index in
    place-none (key_names keys) is c.args.self.now x c.place_of-at.result c.self.view_is key.0 c.self.invariant.numbered (c.place_of-at.ensures ∙ ap (λ (xs : List ℕ). place_in xs c.in-Some.number) c.deref.ensures.value ∙ ap (place_in is) key.1)
    (λ h. omega (arith, h, c.if-at-len.false, c.len.ensures, vec_length c.self.inside.found))

pub returns-in-None : goal.returns-in-None
returns-in-None c = place-undeclared (key_names c.self.inside.names.keys) c.self.inside.found.items c.args.self.now c.args.name.now c.self.view_is (no-key c.self.inside.names.keys c.args.name.now c.in-None.ensures.index) c.self.invariant.numbered
