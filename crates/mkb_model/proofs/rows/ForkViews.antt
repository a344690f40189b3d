-- The views of process 0 in the run on a == b are a completion run: an equation that becomes a rule at the fork.
use Rattle.std.specs.Prelude.{List, [], ◌∷◌, ◌≡◌, ◌⊎◌, refl, Contains}
use Rattle.std.proofs.Common.{arith, sym, subst, inl, inr}
use Rattle.mkb_model.proofs.commits.Steps.{same_state}
use Rattle.kb_lemmas.proofs.Membership.{none_in, all_one}
use Rattle.kb_term.specs.Rule.{Rule, IsVariantRule}
use Rattle.kb_lpo.specs.PathOrder.{LpoGreater}
use Rattle.kb_laws.specs.Completion.{KbState, KbStep, KbReaches, IsKbRun, Has, Keeps, Gains}
use Rattle.mkb_model.proofs.commits.MemberSteps.{orient, Loses}
use Rattle.kb_term.specs.Pair.{IsSameEquation}
use Rattle.kb_cert.specs.declared.family.Family.TheVariants.{Stated}
use Rattle.kb_cert.specs.declared.certificate.Certificate.TheVariants.{Lpo}
use Rattle.mkb_model.specs.Headline.{states_of}
use Rattle.mkb_model.proofs.rows.Worked.{two_constants, p0}
use Rattle.mkb_model.proofs.rows.ForkRun.{one_in, a, b, a_to_b, a_above_b, board6, moment1, moment2, moment3, moment4, moment5, moment6}

abbrev before : KbState
before = record { equations = (a, b) ∷ []; rules = []; constraints = [] }

abbrev after : KbState
after = record { equations = []; rules = a_to_b ∷ []; constraints = a_to_b ∷ [] }

-- the states of process 0, in order
two_constants_states : states_of (moment6 ∷ moment5 ∷ moment4 ∷ moment3 ∷ moment2 ∷ moment1 ∷ []) board6 p0 ≡ before ∷ before ∷ after ∷ after ∷ after ∷ after ∷ after ∷ []
two_constants_states = refl

keeps : {X : Type 0} (Same : X → X → Type 0) (xs : List X) → Keeps Same xs xs
keeps Same xs y = (λ h. h, λ h. h)

stays : (s : KbState) → KbReaches two_constants.signature s s
stays s = ([], s, refl, record { equations = keeps IsSameEquation s.equations; rules = keeps IsVariantRule s.rules; constraints = keeps IsVariantRule s.constraints })

same_ab : IsSameEquation (a, b) (a, b)
same_ab = inl ((λ n. n), (λ n. n), record { there = refl; back_again = refl }, record { there = refl; back_again = refl })

first_in : {X : Type 0} (x : X) → Contains (x ∷ []) x
first_in x = (0, omega arith, refl)

loses_only : {X : Type 0} (Same : X → X → Type 0) (x : X) → Same x x → Loses Same (x ∷ []) [] x
loses_only {X} Same x s = ((x, first_in x, s), λ y. (λ h. absurd (h.1 (found y h.0)), λ h. none_in h.1))
  where
    found : (y : X) → Has Same (x ∷ []) y → Same x y
    found y (z, c, t) = subst {A = X} (λ z. Same z y) (sym (one_in c)) t

gains_only : {X : Type 0} (Same : X → X → Type 0) (x : X) → Gains Same [] (x ∷ []) x
gains_only {X} Same x y = (there, back)
  where
    there : Has Same [] y ⊎ Same x y → Has Same (x ∷ []) y
    there (inl h) = none_in h.1
    there (inr s) = (x, first_in x, s)

    back : Has Same (x ∷ []) y → Has Same [] y ⊎ Same x y
    back (z, c, t) = inr (subst {A = X} (λ z. Same z y) (sym (one_in c)) t)

forks : KbStep two_constants.signature before after
forks = orient a b (Lpo (0 ∷ 1 ∷ []), (Stated, (0, omega arith, refl)), all_one (λ (r : Rule). LpoGreater (0 ∷ 1 ∷ []) r.left r.right) a_to_b a_above_b)
    (loses_only IsSameEquation (a, b) same_ab) (gains_only IsVariantRule a_to_b) (gains_only IsVariantRule a_to_b)

two_constants_run : IsKbRun two_constants (states_of (moment6 ∷ moment5 ∷ moment4 ∷ moment3 ∷ moment2 ∷ moment1 ∷ []) board6 p0)
two_constants_run =
    (stays before, (stays before, ((after ∷ [], after, (forks, refl), same_state after), (stays after, (stays after, (stays after, (stays after, tt)))))))
