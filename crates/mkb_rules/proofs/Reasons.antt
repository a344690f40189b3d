-- A process gave up where there is a reason.
use Rattle.std.proofs.Common.{◌≡◌, refl, List, [], ◌∷◌, Bool, true, false, cond, ◌||◌, Some}
use Rattle.std.specs.Prelude.{is_some}
use Rattle.std.specs.List.{list_any}
use Rattle.kb_label.specs.Names.{Name, has}
use Rattle.mkb_model.specs.Plain.{Plain, GivenUp, is_over, over_in, over_reason}

over_some : (gs : List GivenUp) (p : Name) → is_some (over_in gs p) ≡ list_any (λ (g : GivenUp). has g.names p) gs
over_some [] p = refl
over_some (g ∷ gs) p = go (has g.names p) (over_some gs p)
  where
    go : (b : Bool) → is_some (over_in gs p) ≡ list_any (λ (g : GivenUp). has g.names p) gs → is_some (cond b (Some g.reason) (over_in gs p)) ≡ (b || list_any (λ (g : GivenUp). has g.names p) gs)
    go true h = refl
    go false h = h

pub over_reasoned : (b : Plain) (p : Name) → is_some (over_reason b p) ≡ is_over b p
over_reasoned b p = over_some b.over p
