-- Goals between constants.
use Rattle.std.proofs.Common.{ℕ, zero, suc, ◌<◌, refl, arith, List, [], ◌∷◌, Contains}
use Rattle.std.specs.Prelude.{◌≤◌, All}
use Rattle.std.proofs.lemmas.List.Elements.{All-cons, All-nil}
use Rattle.kb_term.specs.Rule.{Rule, rule_between}
use Rattle.kb_term.specs.Signature.{SymbolEntry, IsWellFormed, IsRuleOver}
use Rattle.kb_decide.specs.Constants.{constant, nullary, four_constants}
use Rattle.kb_decide.specs.Deciding.{IsGoalFor}

constant_over : (f : ℕ) → f < 4 → IsWellFormed four_constants (constant f)
constant_over zero h = (refl, tt)
constant_over (suc zero) h = (refl, tt)
constant_over (suc (suc zero)) h = (refl, tt)
constant_over (suc (suc (suc zero))) h = (refl, tt)
constant_over (suc (suc (suc (suc f)))) h = absurd (omega (arith, h))

none_in : {A : Type 0} (x : A) {Q : Type 0} → Contains [] x → Q
none_in x (i, h, e) = absurd (omega (arith, h))

rule_over : (f g : ℕ) → f < 4 → g < 4 → IsRuleOver four_constants (rule_between (constant f) (constant g))
rule_over f g h k =
    record {
      is_rule = record { no_variable = λ n e. absurd (cc); holds_variables = λ n i. none_in n i };
      left = constant_over f h;
      right = constant_over g k;
    }

small : All (λ (f : SymbolEntry). f.arity ≤ 255) four_constants
small =
    let P = λ (f : SymbolEntry). f.arity ≤ 255 in
    let one : P nullary = omega arith in
    All-cons P nullary (nullary ∷ nullary ∷ nullary ∷ []) one (All-cons P nullary (nullary ∷ nullary ∷ []) one (All-cons P nullary (nullary ∷ []) one (All-cons P nullary [] one (All-nil P))))

-- two rules between constants
abbrev pub two : ℕ → ℕ → ℕ → ℕ → List Rule
two f g h k = rule_between (constant f) (constant g) ∷ rule_between (constant h) (constant k) ∷ []

pub constants_goal : (f g h k left right : ℕ) → f < 4 → g < 4 → h < 4 → k < 4 → left < 4 → right < 4 → IsGoalFor (two f g h k) (constant left) (constant right)
constants_goal f g h k left right a b c d l r =
    record {
      signature = four_constants;
      arities = small;
      over = All-cons (IsRuleOver four_constants) (rule_between (constant f) (constant g)) (rule_between (constant h) (constant k) ∷ []) (rule_over f g a b) (All-cons (IsRuleOver four_constants) (rule_between (constant h) (constant k)) [] (rule_over h k c d) (All-nil (IsRuleOver four_constants)));
      left_over = constant_over left l;
      right_over = constant_over right r;
    }
