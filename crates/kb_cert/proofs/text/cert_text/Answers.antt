use Rattle.std.proofs.Common.{sym, ap, ◌∙◌, ◌++◌, append_assoc, map, subst, IsTrue}
use Rattle.std.specs.Prelude.{codes, ◌∷◌, List, ℕ}
use Rattle.kb_term.specs.Signature.{SymbolEntry}
use Rattle.kb_linear.specs.Limits.{interpretation_of}
use Rattle.kb_cert.specs.CertificateText.{each_behind, cert_text, is_certificate, is_precedence, are_weights, name_at, interp_text, weight_fields}
use Rattle.kb_cert.proofs.Texts.{join_with_byte-behind, symbols_within, map_names, symbol_name}
use Rattle.std.proofs.lemmas.Grind.{flat_map-append}
use Rattle.std.proofs.lemmas.Bool.{and_parts}
use Rattle.kb_cert.proofs.text.cert_text.Goals as goal

pub push_names-requires : goal.push_names-requires
push_names-requires c =
    let h = subst (λ z. IsTrue (is_certificate c.args.sig.now z)) c.in-Lpo.is c.requires in
    symbols_within c.args.sig.now c.symbols.result.now (subst (λ z. IsTrue (is_precedence c.args.sig.now z)) (sym c.symbols.ensures) h)

pub returns-in_ok-push_names-in-Lpo : goal.returns-in_ok-push_names-in-Lpo
returns-in_ok-push_names-in-Lpo c =
    let names = map (λ (e : SymbolEntry). e.name) c.args.sig.now in
    c.in_ok-push_names-in-Lpo.ensures
    ∙ ap (λ z. z ++ each_behind 32 (map (symbol_name c.args.sig.now) c.symbols.result.now)) c.in_ok-out-in-Lpo.ensures.items
    ∙ ap (λ z. codes "LPO" ++ each_behind 32 z) (map_names names c.symbols.result.now ∙ ap (map (name_at names)) c.symbols.ensures)
    ∙ sym (join_with_byte-behind 32 (codes "LPO") (map (name_at names) c.in-Lpo.prec))
    ∙ sym (ap (cert_text c.args.sig.now) c.in-Lpo.is)

pub returns-in_ok-push_rows-in-Linear : goal.returns-in_ok-push_rows-in-Linear
returns-in_ok-push_rows-in-Linear c =
    c.in_ok-push_rows-in-Linear.ensures
    ∙ ap (λ z. z ++ each_behind 32 (map interp_text (interpretation_of c.rows.result.now))) c.in_ok-out-in-Linear.ensures.items
    ∙ ap (λ z. codes "LINEAR" ++ each_behind 32 (map interp_text z)) c.rows.ensures.rows
    ∙ sym (join_with_byte-behind 32 (codes "LINEAR") (map interp_text c.in-Linear.i))
    ∙ sym (ap (cert_text c.args.sig.now) c.in-Linear.is)

pub push_names-requires-in-Kbo : goal.push_names-requires-in-Kbo
push_names-requires-in-Kbo c =
    let sig = c.args.sig.now in
    let order = c.in-Kbo.order in
    let h = subst (λ z. IsTrue (is_certificate sig z)) c.in-Kbo.is c.requires in
    let p = and_parts (are_weights sig order.weights) (is_precedence sig order.precedence) h in
    symbols_within sig c.symbols-in-Kbo.result.now (subst (λ z. IsTrue (is_precedence sig z)) (sym (c.symbols-in-Kbo.ensures ∙ c.precedence.ensures)) p.1)

pub returns-in_ok-push_names-in-Kbo : goal.returns-in_ok-push_names-in-Kbo
returns-in_ok-push_names-in-Kbo c =
    let sig = c.args.sig.now in
    let order = c.in-Kbo.order in
    let names = map (λ (e : SymbolEntry). e.name) sig in
    let fields = map (name_at names) order.precedence in
    c.in_ok-push_names-in-Kbo.ensures
    ∙ ap (λ z. z ++ each_behind 32 (map (symbol_name sig) c.symbols-in-Kbo.result.now)) (c.in_ok-push_weights-in-Kbo.ensures ∙ ap (λ z. z ++ each_behind 32 (weight_fields c.weights.result.now)) c.in_ok-out-in-Kbo.ensures.items)
    ∙ ap (λ z. (codes "KBO" ++ each_behind 32 (weight_fields c.weights.result.now)) ++ each_behind 32 z) (map_names names c.symbols-in-Kbo.result.now ∙ ap (map (name_at names)) (c.symbols-in-Kbo.ensures ∙ c.precedence.ensures))
    ∙ ap (λ z. (codes "KBO" ++ each_behind 32 (weight_fields z)) ++ each_behind 32 fields) c.weights.ensures.weights
    ∙ append_assoc (codes "KBO") (each_behind 32 (weight_fields order.weights)) (each_behind 32 fields)
    ∙ ap (λ z. codes "KBO" ++ z) (sym (flat_map-append (λ (piece : List ℕ). 32 ∷ piece) (weight_fields order.weights) fields))
    ∙ sym (join_with_byte-behind 32 (codes "KBO") (weight_fields order.weights ++ fields))
    ∙ sym (ap (cert_text sig) c.in-Kbo.is)
