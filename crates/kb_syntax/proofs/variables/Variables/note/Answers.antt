use Rattle.std.proofs.Common.{ap, sym, ◌∙◌, ◌≡◌, arith, subst, ℕ, List, [], ◌∷◌, ◌++◌, length}
use Rattle.std.proofs.Math.ListN.{set}
use Rattle.kb_term.specs.Pair.{place_in}
use Rattle.kb_text.specs.Names.{number_of}
use Rattle.kb_text.proofs.Vectors.{vec_length}
use Rattle.kb_syntax.specs.Variables.{IsKept}
use Rattle.kb_syntax.proofs.VariableLaws.{key_names, number-inside, noted-declared, note-new, note-old}
use Rattle.kb_syntax.proofs.PlacedLaws.{inside, kept_found}
use Rattle.kb_syntax.proofs.variables.Variables.note.Goals as goal

pub invariant_of-self-then-place_of-count : goal.invariant_of-self-then-place_of-count
invariant_of-self-then-place_of-count c =
    let names = key_names c.self.inside.names.keys in
    let is = c.self.inside.found.items in
    let places = c.self.inside.places.items in
    let key = number-inside names is c.args.self.now c.requires.name c.args.number c.self.view_is c.requires.is in
    let count : c.len-count.result ≡ length is = c.len-count.ensures ∙ vec_length c.self.inside.found in
    let lost : place_in is c.args.number ≡ length is = sym (ap (λ (xs : List ℕ). place_in xs c.args.number) c.deref.ensures.value) ∙ sym c.place_of.ensures ∙ c.if-place_of-count.true ∙ count in
    subst (λ (xs : List ℕ). IsKept names xs (set places c.args.number c.len-count.result)) (sym c.in_ok-push.ensures.items)
    (subst (λ (n : ℕ). IsKept names (is ++ c.args.number ∷ []) (set places c.args.number n)) (sym count) (kept_found names is places c.requires.name c.args.number c.self.invariant key.0 key.1 lost))

pub index_mut-requires : goal.index_mut-requires
index_mut-requires c =
    let names = key_names c.self.inside.names.keys in
    let key = number-inside names c.self.inside.found.items c.args.self.now c.requires.name c.args.number c.self.view_is c.requires.is in
    omega (arith, inside names c.self.inside.found.items c.self.inside.places.items c.requires.name c.self.invariant key.0, key.1, vec_length c.self.inside.places)

pub place_of-requires-clause-declared : goal.place_of-requires-clause-declared
place_of-requires-clause-declared c =
    let names = key_names c.self.inside.names.keys in
    let key = number-inside names c.self.inside.found.items c.args.self.now c.requires.name c.args.number c.self.view_is c.requires.is in
    omega (arith, inside names c.self.inside.found.items c.self.inside.places.items c.requires.name c.self.invariant key.0, key.1, ap length c.deref-2.ensures.value)

pub returns-in_ok-push : goal.returns-in_ok-push
returns-in_ok-push c = λ x e.
    let names = key_names c.self.inside.names.keys in
    let is = c.self.inside.found.items in
    let key = number-inside names is c.args.self.now x c.args.number c.self.view_is e in
    let place : place_in is (number_of names x) ≡ length is =
    ap (place_in is) (sym key.1) ∙ ap (λ (xs : List ℕ). place_in xs c.args.number) (sym c.deref.ensures.value) ∙ sym c.place_of.ensures ∙ c.if-place_of-count.true ∙ c.len-count.ensures ∙ vec_length c.self.inside.found in
    noted-declared c.args.self.now _ x c.args.number e (note-new names is c.push.new.self.items c.args.self.now x c.self.view_is key.0 c.self.invariant.numbered place (c.in_ok-push.ensures.items ∙ ap (λ (n : ℕ). is ++ n ∷ []) key.1))

pub returns-else-place_of-count : goal.returns-else-place_of-count
returns-else-place_of-count c = λ x e.
    let names = key_names c.self.inside.names.keys in
    let is = c.self.inside.found.items in
    let key = number-inside names is c.args.self.now x c.args.number c.self.view_is e in
    noted-declared c.args.self.now _ x c.args.number e (note-old names is c.args.self.now x c.self.view_is key.0 c.self.invariant.numbered
    (λ p. c.if-place_of-count.false (c.place_of.ensures ∙ ap (λ (xs : List ℕ). place_in xs c.args.number) c.deref.ensures.value ∙ ap (place_in is) key.1 ∙ p ∙ sym (c.len-count.ensures ∙ vec_length c.self.inside.found))))
