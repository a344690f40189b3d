use Rattle.std.proofs.Common.{◌≡◌, ◌≤◌, ap₂, sym, ◌∙◌, subst, length, ℕ}
use Rattle.std.proofs.lemmas.List.Elements.{same_from_all_zip}
use Rattle.kb_term.specs.Signature.{IsSignature, symbols_of_list}
use Rattle.kb_term.proofs.Copies.{map_from_all_zip}
use Rattle.kb_term.proofs.signature.SignatureClone.clone.Goals as goal

same : (c : goal.In_ok-symbols) → symbols_of_list c.in_ok-symbols.symbols.items ≡ symbols_of_list c.self.inside.symbols.items
same c =
    map_from_all_zip _ _ c.self.inside.symbols.items c.in_ok-symbols.symbols.items c.in_ok-symbols.ensures.cases.0
    (λ x y h. ap₂ (λ name (arity : ℕ). record { name = name; arity = arity }) (same_from_all_zip _ x.0.items y.0.items h.0.0 (λ a b e. e)) h.1)

pub invariant_of-result : goal.invariant_of-result
invariant_of-result c = subst (λ fs. IsSignature fs × (length fs ≤ 256)) (sym (same c)) c.self.invariant

pub returns : goal.returns
returns c = record { cases = same c ∙ c.self.view_is }
