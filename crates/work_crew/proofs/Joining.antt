-- Which numbers were joined.
use Rattle.std.proofs.Common.{◌≡◌, ℕ, ◌+◌, ◌<◌, ◌≤◌, List, [], ◌∷◌, ◌++◌, Any, ap, sym, ◌∙◌, subst, arith, length-append}
use mathlib.Core.Logic.{dite}
use native.Mathlib.Decide.{ℕ_discrete}
use Rattle.std.proofs.lemmas.List.{get_or_append_left}
use Rattle.std.proofs.lemmas.List.Quantifiers.{Any-push}
use Rattle.turn_lock.specs.Turn.{joined_of}
use Rattle.turn_lock.specs.Places.{Sitting, draws, drawn_seat, takes_in}
use Rattle.work_crew.specs.Together.{IsSameSeat, HasJoined}

any_left : {X : Type 0} (P : X → Type 0) (xs : List X) (y : X) → Any P xs → Any P (xs ++ y ∷ [])
any_left P xs y a = let l = a.2 in (a.0, a.1, omega (arith, length-append xs (y ∷ [])), get_or_append_left xs (y ∷ []) a.1 a.0 a.2 ∙ a.3, a.4)

module _ {P E : Type 0} where
  pub kept_after : (first mid a other res : Sitting P E) → mid ≡ draws first → ((n : ℕ) → HasJoined mid n → HasJoined a n) → res ≡ takes_in a other → (n : ℕ) → HasJoined first n → HasJoined res n
  kept_after first mid a other res e keep is n h =
      subst (λ (s : Sitting P E). HasJoined s n) (sym is) (any_left (λ j. j.worker ≡ n) a.view.joined (joined_of other.view) (keep n (subst (λ (s : Sitting P E). HasJoined s n) (sym e) h)))

  pub joined_after : (first mid made a other res : Sitting P E) → mid ≡ draws first → made ≡ drawn_seat first → IsSameSeat made other
      → ((n : ℕ) → mid.view.drawn < n → n ≤ a.view.drawn → HasJoined a n) → res ≡ takes_in a other → (n : ℕ) → first.view.drawn < n → n ≤ res.view.drawn → HasJoined res n
  joined_after first mid made a other res e m same all is n low high =
      let number : other.view.worker ≡ first.view.drawn + 1 = same.0 ∙ ap (λ (s : Sitting P E). s.view.worker) m in
      let count : mid.view.drawn ≡ first.view.drawn + 1 = ap (λ (s : Sitting P E). s.view.drawn) e in
      let last : res.view.drawn ≡ a.view.drawn = ap (λ (s : Sitting P E). s.view.drawn) is in
      subst (λ (s : Sitting P E). HasJoined s n) (sym is) (dite (ℕ_discrete n (first.view.drawn + 1))
      (λ (new : n ≡ first.view.drawn + 1). Any-push (λ j. j.worker ≡ n) a.view.joined (joined_of other.view) (number ∙ sym new))
      (λ old. any_left (λ j. j.worker ≡ n) a.view.joined (joined_of other.view) (all n (omega arith) (omega arith))))
