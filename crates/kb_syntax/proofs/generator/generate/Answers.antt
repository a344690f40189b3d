use Rattle.std.proofs.Common.{◌≡◌, ℕ, sym, ◌∙◌, ap, subst, arith, List, [], ◌∷◌, ◌++◌, length}
use Rattle.std.specs.Prelude.{map}
use Rattle.std.specs.List.{range_with_len}
use Rattle.std.proofs.lemmas.List.{map-append, length-map}
use Rattle.std.proofs.lemmas.List.FromFn.{map-range_with_len_more}
use Rattle.kb_term.specs.Tree.{variable}
use Rattle.kb_term.specs.Signature.{IsSignature}
use Rattle.kb_term.specs.View.{tree_of, equations_of_list}
use Rattle.kb_syntax.specs.Generator.{letter_entry, generated_equation, on, outer_of, inner_of, right_of}
use Rattle.kb_syntax.proofs.GeneratorLaws.{is_signature_of_letters}
use Rattle.kb_syntax.proofs.generator.generate.Goals as goal

pub new-signature-requires-clause-few : goal.new-signature-requires-clause-few
new-signature-requires-clause-few c =
    omega (arith, c.in_ok-letters.ensures.few, ap length c.deref.ensures.value, simp length-map at (ap length c.in_ok-entries.ensures))

pub new-signature-requires-clause-names : goal.new-signature-requires-clause-names
new-signature-requires-clause-names c = subst IsSignature (ap (map letter_entry) (sym c.deref.ensures.value) ∙ sym c.in_ok-entries.ensures) (is_signature_of_letters c.in_ok-letters.letters.items c.in_ok-letters.ensures.kept)

pub loop-i-preserved : goal.loop-i-preserved
loop-i-preserved c =
    let letters = c.in_ok-letters.letters.items in
    let i = c.loop-i.i in
    let inside : tree_of c.in_ok-inside.inside ≡ on (inner_of i) letters (variable 0) = c.in_ok-inside.ensures ∙ ap (λ (ls : List ℕ). on (inner_of i) ls (variable 0)) c.deref-in-loop-i.ensures.value in
    let left : tree_of c.in_ok-left.left ≡ on (outer_of i) letters (on (inner_of i) letters (variable 0)) =
    c.in_ok-left.ensures ∙ ap (λ (ls : List ℕ). on (outer_of i) ls (tree_of c.in_ok-inside.inside)) c.deref-in-loop-i-2.ensures.value ∙ ap (on (outer_of i) letters) inside in
    let right : tree_of c.in_ok-right.right ≡ on (right_of i) letters (variable 0) = c.in_ok-right.ensures ∙ ap (λ (ls : List ℕ). on (right_of i) ls (variable 0)) c.deref-in-loop-i-3.ensures.value in
    ap equations_of_list c.in_ok-push.ensures.items
    ∙ map-append (λ e. (tree_of e.0, tree_of e.1)) c.loop-i.equations.items ((c.in_ok-left.left, c.in_ok-right.right) ∷ [])
    ∙ ap (λ es. es ++ (tree_of c.in_ok-left.left, tree_of c.in_ok-right.right) ∷ []) c.loop-i.invariant
    ∙ (λ k. map (generated_equation letters) (range_with_len 0 i) ++ (left k, right k) ∷ [])
    ∙ sym (map-range_with_len_more (generated_equation letters) 0 i i (omega arith))
