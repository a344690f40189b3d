use Rattle.std.proofs.Common.{rules, ◌≡◌, ◌≤◌, ◌∷◌, [], ℕ, ◌<◌, ◌⊎◌, List, inl, refl, subst, sym, ◌∙◌, zero, suc, arith, All, Any}
use Rattle.turn_lock.specs.declared.rule.Joined.{Joined}
use Rattle.edges_tests.proofs.turns.each_seat_sees_what_others_entered.Goals as goal

-- the one entry is of this worker
one_of : (w : ℕ) → All (λ e. (e ≡ w) ⊎ (e ≡ 0)) (w ∷ [])
one_of w zero d l = inl refl
one_of w (suc k) d l = absurd (omega arith)

-- where two numbers were drawn, and the second is joined, each is
both_joined : (drawn : ℕ) (js : List (Joined ℕ)) (j : Joined ℕ) → drawn ≡ 2 → js ≡ j ∷ [] → j.worker ≡ 2 → (n : ℕ) → 1 < n → n ≤ drawn → Any (λ i. i.worker ≡ n) js
both_joined drawn js j e f h n l m = subst (Any (λ i. i.worker ≡ n)) (sym f) (0, j, omega arith, refl, h ∙ omega arith)

pub leave-requires-clause-mine : goal.leave-requires-clause-mine
leave-requires-clause-mine g c = (2 ∷ [], search rules, subst (λ w. All (λ e. (e ≡ w) ⊎ (e ≡ 0)) (2 ∷ [])) (search rules) (one_of 2))

pub leave-requires-2-clause-mine : goal.leave-requires-2-clause-mine
leave-requires-2-clause-mine g c = (1 ∷ [], search rules, subst (λ w. All (λ e. (e ≡ w) ⊎ (e ≡ 0)) (1 ∷ [])) (search rules) (one_of 1))

pub close-marks-requires-clause-all : goal.close-marks-requires-clause-all
close-marks-requires-clause-all g c =
    both_joined c.join.new.seat.view.drawn c.join.new.seat.view.joined (record { worker = c.leave.new.seat.view.worker; seen = c.leave.new.seat.view.seen }) (search rules) (search rules) (search rules)
