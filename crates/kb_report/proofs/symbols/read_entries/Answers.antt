use Rattle.std.proofs.Common.{arith, ◌≡◌, ◌++◌, ◌∷◌, [], List, ℕ, ap, ap₂, sym, ◌∙◌, subst, All}
use Rattle.std.specs.Prelude.{map}
use Rattle.std.proofs.lemmas.List.{map-append}
use Rattle.std.proofs.lemmas.List.Elements.{All-push}
use Rattle.kb_term.specs.Signature.{SymbolEntry, symbols_of_list}
use Rattle.kb_text.proofs.IdentifierLaws.{Entry}
use Rattle.kb_report.specs.Answers.{entry_text}
use Rattle.kb_report.proofs.SystemLines.{IsSmall}
use Rattle.kb_report.proofs.NamesRead.{no_entry, entries_more}
use Rattle.kb_report.proofs.symbols.read_entries.Goals as goal

pub returns-in_default : goal.returns-in_default
returns-in_default c = λ s a e.
    no_entry s c.args.fields.now c.loop-k.k a e (omega arith) (omega arith) (λ f h q. (rw c.in_default.is at c.in_ok-symbol.ensures) f h (q ∙ sym c.field.ensures))

pub loop-k-preserved : goal.loop-k-preserved
loop-k-preserved c =
    let old = symbols_of_list c.loop-k.symbols.items in
    let e = c.in-Some.symbol in
    let f : SymbolEntry = record { name = e.0.items; arity = e.1 } in
    let more : symbols_of_list c.push.new.self.items ≡ old ++ f ∷ [] = ap symbols_of_list c.in_ok-push.ensures.items ∙ map-append (λ (x : Entry). record { name = x.0.items; arity = x.1 }) c.loop-k.symbols.items (e ∷ []) in
    let read = rw c.in-Some.is at c.in_ok-symbol.ensures in
    record {
      small = subst (All IsSmall) (sym more) (All-push IsSmall old f c.loop-k.invariant.small read.0);
      entries = ap (map entry_text) more ∙ map-append entry_text old (f ∷ []) ∙ ap₂ (λ (xs : List (List ℕ)) (x : List ℕ). xs ++ x ∷ []) c.loop-k.invariant.entries (read.1 ∙ c.field.ensures) ∙ entries_more c.args.fields.now c.loop-k.k (omega arith) (omega arith);
    }
