use Rattle.std.proofs.Common.{arith, ◌≡◌, ◌∷◌, ◌≤◌, List, ℕ, length, ap, ap₂, sym, ◌∙◌, subst, drop}
use Rattle.std.specs.List.{join_with_byte}
use Rattle.std.proofs.lemmas.Bool.{false≢true}
use Rattle.std.proofs.lemmas.List.{length-drop, length-map}
use Rattle.std.proofs.lemmas.List.Splits.{join_with_byte-slice_split}
use Rattle.kb_term.specs.Signature.{Signature, IsSignature, symbols_of_list}
use Rattle.kb_text.proofs.IdentifierLaws.{Entry}
use Rattle.kb_report.specs.Answers.{entry_text}
use Rattle.kb_report.specs.SystemSections.{IsSymbolsLine}
use Rattle.kb_report.proofs.SystemLines.{one_entries}
use Rattle.kb_report.proofs.NamesRead.{symbols_fields_are, first_field}
use Rattle.kb_report.proofs.symbols.symbols_of.Goals as goal

pub returns-then-len-gt-FIELDS : goal.returns-then-len-gt-FIELDS
returns-then-len-gt-FIELDS c = λ s k.
    let n = ap length (symbols_fields_are c.args.line.now _ s c.in_ok-fields.ensures k) in
    let few = k.form.few in
    omega (arith, length-map s entry_text)

pub returns-in_default : goal.returns-in_default
returns-in_default c = λ s k. (rw c.in_default.is at c.in_ok-symbols.ensures) s k.form.arities (sym (ap (drop 1) (symbols_fields_are c.args.line.now _ s c.in_ok-fields.ensures k)))

pub returns-then-not-are_names : goal.returns-then-not-are_names
returns-then-not-are_names c = λ s k.
    let read = rw c.in-Some.is at c.in_ok-symbols.ensures in
    let same : s ≡ symbols_of_list c.in-Some.symbols.items = one_entries s (symbols_of_list c.in-Some.symbols.items) k.form.arities read.0 (sym (ap (drop 1) (symbols_fields_are c.args.line.now _ s c.in_ok-fields.ensures k)) ∙ sym read.1) in
    false≢true (sym c.if-not-are_names.true ∙ c.are_names.ensures.1 (subst (λ (es : List Entry). IsSignature (symbols_of_list es)) (sym c.deref.ensures.value) (subst IsSignature same k.form.names)))

pub returns : goal.returns
returns c =
    let es = c.in-Some.symbols.items in
    let s = symbols_of_list es in
    let read = rw c.in-Some.is at c.in_ok-symbols.ensures in
    let names : IsSignature s = subst (λ (es : List Entry). IsSignature (symbols_of_list es)) c.deref.ensures.value (c.are_names.ensures.0 c.if-not-are_names.false) in
    let n = ap length read.1 in
    let few : length s ≤ 24 = omega (arith, length-map s entry_text, length-drop 1 c.in_ok-fields.fields) in
    subst {A = Signature} (IsSymbolsLine c.args.line.now) (sym c.new.ensures) (record {
      form = record { names = names; few = few; arities = read.0 };
      spelling = sym (join_with_byte-slice_split 32 c.args.line.now) ∙ ap (join_with_byte 32) (sym c.in_ok-fields.ensures ∙ first_field _ (omega arith) ∙ ap₂ (λ (x : List ℕ) (xs : List (List ℕ)). x ∷ xs) (sym c.field.ensures ∙ c.is_word.ensures.0 c.if-not-is_word.false) (sym read.1));
    })
