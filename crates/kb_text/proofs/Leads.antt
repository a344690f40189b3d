-- Where a machine that takes a token at a time comes to.
use Rattle.std.proofs.Common.{◌≡◌, List, [], ◌∷◌, ◌++◌, Option, Some, refl, sym, ◌∙◌, ap, subst}
use Rattle.std.proofs.lemmas.Option.{same_Some}
use Rattle.kb_text.specs.Tokens.{Token}

abbrev pub Leads : {S : Type 0} → (S → Token → Option S) → S → List Token → S → Type 0
Leads step s [] v = s ≡ v
Leads {S} step s (t ∷ ts) v = (w : S) × (step s t ≡ Some w) × Leads step w ts v

module _ {S : Type 0} (step : S → Token → Option S) where
  pub leads-append : (xs ys : List Token) (s v w : S) → Leads step s xs v → Leads step v ys w → Leads step s (xs ++ ys) w
  leads-append [] ys s v w a b = subst (λ (u : S). Leads step u ys w) (sym a) b
  leads-append (t ∷ xs) ys s v w a b = (a.0, a.1, leads-append xs ys a.0 v w a.2 b)

  pub leads_split : (xs ys : List Token) (s w : S) → Leads step s (xs ++ ys) w → (v : S) × Leads step s xs v × Leads step v ys w
  leads_split [] ys s w a = (s, refl, a)
  leads_split (t ∷ xs) ys s w a = let r = leads_split xs ys a.0 w a.2 in (r.0, (a.0, a.1, r.1), r.2)

  pub leads_once : (xs : List Token) (s v w : S) → Leads step s xs v → Leads step s xs w → v ≡ w
  leads_once [] s v w a b = sym a ∙ b
  leads_once (t ∷ xs) s v w a b =
      let same : a.0 ≡ b.0 = same_Some a.0 b.0 (sym a.1 ∙ b.1) in
      leads_once xs b.0 v w (subst (λ (u : S). Leads step u xs v) same a.2) b.2

-- a machine that goes along within another
pub leads_within : {S U : Type 0} (step : S → Token → Option S) (outer : U → Token → Option U) (F : S → U)
    → ((s w : S) (t : Token) → step s t ≡ Some w → outer (F s) t ≡ Some (F w))
    → (xs : List Token) (s v : S) → Leads step s xs v → Leads outer (F s) xs (F v)
leads_within step outer F h [] s v a = ap F a
leads_within step outer F h (t ∷ xs) s v a = (F a.0, h s a.0 t a.1, leads_within step outer F h xs a.0 v a.2)
