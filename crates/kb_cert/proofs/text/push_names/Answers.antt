use Rattle.std.proofs.Common.{arith, sym, ap, ◌∙◌, ◌++◌, ◌∷◌, [], append_assoc, map, take, get_or}
use Rattle.kb_term.specs.declared.term.Symbol.{Symbol}
use Rattle.kb_cert.specs.CertificateText.{each_behind}
use Rattle.kb_term.proofs.SymbolNames.{name_read}
use Rattle.kb_cert.proofs.Texts.{each_behind_more, symbol_name, get_same}
use Rattle.kb_cert.proofs.text.push_names.Goals as goal

pub loop-f-preserved : goal.loop-f-preserved
loop-f-preserved c =
    let sig = c.args.sig.now in
    let f : Symbol = get_or c.args.symbols.now c.loop-f.f-index (record { 0 = 0 }) in
    let name = name_read sig f.0 c.name.result.now c.name.ensures in
    let front = each_behind 32 (map (symbol_name sig) (take c.loop-f.f-index c.args.symbols.now)) in
    c.in_ok-extend_from_slice.ensures.items
    ∙ ap (λ z. z ++ c.name.result.now) c.in_ok-push.ensures.items
    ∙ (λ k. (c.loop-f.invariant k ++ 32 ∷ []) ++ name k)
    ∙ ap (λ z. z ++ symbol_name sig f) (append_assoc c.args.out.now.items front (32 ∷ []))
    ∙ append_assoc c.args.out.now.items (front ++ 32 ∷ []) (symbol_name sig f)
    ∙ ap (λ z. c.args.out.now.items ++ z) (sym (each_behind_more 32 (symbol_name sig) c.args.symbols.now c.loop-f.f-index f (omega arith) (get_same c.args.symbols.now c.loop-f.f-index (record { 0 = 0 }) (omega arith))))
