-- Where none is closed and none gave up.
use Rattle.std.proofs.Common.{◌≡◌, refl, ap, ap₂, ◌∙◌, List, [], ◌∷◌, Bool, true, false, cond, not, ◌&&◌, ◌||◌, Some, None}
use Rattle.std.specs.List.{find, list_all, list_any}
use Rattle.std.proofs.Math.Bool.{and-false}
use Rattle.kb_label.specs.Names.{Name, has, is_empty}
use Rattle.mkb_model.specs.Plain.{Plain, GivenUp, equations_of, is_over}
use Rattle.mkb_model.specs.Sleeping.{is_failed, no_members}
use Rattle.mkb_model.specs.Verdicts.{is_complete}
use Rattle.mkb_model.proofs.Lists.{any_none, clash, none_any}

-- ---- lists

none_to_find : {A : Type 0} (q : A → Bool) (xs : List A) → ((x : A) → q x ≡ false) → find q xs ≡ None
none_to_find q [] none = refl
none_to_find q (x ∷ xs) none = ap (λ b. cond b (Some x) (find q xs)) (none x) ∙ none_to_find q xs none

-- ---- names

nobody_named : (l : List Name) (p : Name) → not (is_empty l) ≡ false → has l p ≡ false
nobody_named [] p h = refl
nobody_named (q ∷ l) p h = clash refl h

-- for some reason some process gave up
abbrev some_over : Plain → Bool
some_over b = list_any (λ (g : GivenUp). not (is_empty g.names)) b.over

nobody_over : (b : Plain) (p : Name) → some_over b ≡ false → is_over b p ≡ false
nobody_over b p h = none_any (λ (g : GivenUp). has g.names p) b.over (λ g i. nobody_named g.names p (any_none (λ (k : GivenUp). not (is_empty k.names)) b.over h g i))

-- ---- processes

-- no process is complete
pub none_complete : (b : Plain) → not (is_empty b.closed) ≡ false → find (is_complete b) b.living ≡ None
none_complete b none = none_to_find (is_complete b) b.living (λ p. ap (λ z. no_members (equations_of b p) && z) (nobody_named b.closed p none) ∙ and-false (no_members (equations_of b p)))

-- where nobody gave up, to have stopped is to have failed
pub all_stopped : (b : Plain) → some_over b ≡ false → list_all (λ (p : Name). is_failed b p || is_over b p) b.living ≡ list_all (is_failed b) b.living
all_stopped b going = each b.living
  where
    neither : (x y : Bool) → y ≡ false → (x || y) ≡ x
    neither true y e = refl
    neither false y e = e

    each : (ps : List Name) → list_all (λ (p : Name). is_failed b p || is_over b p) ps ≡ list_all (is_failed b) ps
    each [] = refl
    each (p ∷ ps) = ap₂ (λ (x y : Bool). x && y) (neither (is_failed b p) (is_over b p) (nobody_over b p going)) (each ps)
