use Rattle.std.proofs.Common.{◌≡◌, ap₂, sym, ◌∙◌, subst, ℕ}
use Rattle.std.proofs.lemmas.List.Elements.{same_from_all_zip}
use Rattle.kb_linear.specs.Limits.{IsSmall, interpretation_of}
use Rattle.kb_term.proofs.Copies.{map_from_all_zip}
use Rattle.kb_linear.proofs.interp.InterpClone.clone.Goals as goal

same : (c : goal.In_ok-rows) → interpretation_of c.in_ok-rows.rows.items ≡ interpretation_of c.self.inside.rows.items
same c =
    map_from_all_zip _ _ c.self.inside.rows.items c.in_ok-rows.rows.items c.in_ok-rows.ensures.cases.0
    (λ x y h. ap₂ (λ (n : ℕ) cs. (n, cs)) h.0 (same_from_all_zip _ x.1.items y.1.items h.1.0 (λ a b e. e)))

pub invariant_of-result : goal.invariant_of-result
invariant_of-result c = subst IsSmall (sym (same c)) c.self.invariant

pub returns : goal.returns
returns c = record { cases = same c ∙ c.self.view_is }
