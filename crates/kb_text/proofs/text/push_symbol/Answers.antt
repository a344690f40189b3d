use Rattle.std.proofs.Common.{◌∙◌, ◌++◌, ap, sym}
use Rattle.kb_term.specs.Signature.{Signature}
use Rattle.kb_text.specs.Terms.{names_of, symbol_text}
use Rattle.kb_text.proofs.IdentifierLaws.{Entry}
use Rattle.kb_text.proofs.TextLaws.{symbol_text-is}
use Rattle.kb_text.proofs.text.push_symbol.Goals as goal

pub returns-in_ok-extend_from_slice-clause-ok : goal.returns-in_ok-extend_from_slice-clause-ok
returns-in_ok-extend_from_slice-clause-ok c =
    c.in_ok-extend_from_slice.ensures.items
    ∙ ap (c.args.out.now.items ++◌) (c.deref.ensures.value ∙ ap (λ (e : Entry). e.0.items) (sym c.index-symbols-f.is) ∙ sym (symbol_text-is c.symbols-symbols.result.now c.args.f.0 c.index-symbols-f.result c.index-symbols-f.is c.if-f-symbols.true) ∙ ap (λ (s : Signature). symbol_text (names_of s) c.args.f.0) c.symbols-symbols.ensures.symbols)
