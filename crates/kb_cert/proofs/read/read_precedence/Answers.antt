use Rattle.std.proofs.Common.{subst, sym, ap, ◌∙◌, map, List, ℕ, length}
use Rattle.std.proofs.lemmas.List.{length-map}
use Rattle.std.specs.Prelude.{Vec}
use Rattle.std.specs.declared.alloc.Global.{Global}
use Rattle.kb_term.specs.Signature.{SymbolEntry}
use Rattle.std.proofs.lemmas.Bool.{false≢true}
use Rattle.kb_term.specs.declared.term.Symbol.{Symbol}
use Rattle.kb_cert.specs.Reading.{SpellsNames, AreDifferent, IsPrecedenceText}
use Rattle.kb_cert.proofs.Different.{precedence_read, precedence_twice}
use Rattle.kb_cert.proofs.read.read_precedence.Goals as goal

abbrev entry : Vec ℕ Global × ℕ → SymbolEntry
entry f = record { name = f.0.items; arity = f.1 }

pub returns-then-not-are_different : goal.returns-then-not-are_different
returns-then-not-are_different c =
    let new = c.read_symbols.new.symbols.items in
    let s = subst (λ b. SpellsNames c.args.sig.now (length c.symbols-count.result.now) c.args.text.now c.new-symbols.result.items new b) c.if-not-branch.false c.in_ok-read_symbols.ensures in
    precedence_twice c.args.sig.now c.symbols-count.ensures.kept c.args.text.now (length c.symbols-count.result.now) c.new-symbols.result.items new (sym (length-map c.symbols-count.result.now entry) ∙ ap length c.symbols-count.ensures.symbols) c.new-symbols.ensures.items s
    (λ d. false≢true (sym c.if-not-are_different.true ∙ c.are_different.ensures.1 (subst (λ (z : List Symbol). AreDifferent (map (λ (f : Symbol). f.0) z)) (sym c.deref.ensures.value) d)))

pub returns : goal.returns
returns c =
    let new = c.read_symbols.new.symbols.items in
    let s = subst (λ b. SpellsNames c.args.sig.now (length c.symbols-count.result.now) c.args.text.now c.new-symbols.result.items new b) c.if-not-branch.false c.in_ok-read_symbols.ensures in
    let d = subst (λ (z : List Symbol). AreDifferent (map (λ (f : Symbol). f.0) z)) c.deref.ensures.value (c.are_different.ensures.0 c.if-not-are_different.false) in
    subst (IsPrecedenceText c.args.sig.now c.args.text.now) (sym c.new.ensures) (precedence_read c.args.sig.now c.args.text.now (length c.symbols-count.result.now) c.new-symbols.result.items new (sym (length-map c.symbols-count.result.now entry) ∙ ap length c.symbols-count.ensures.symbols) c.new-symbols.ensures.items s d)
