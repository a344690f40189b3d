use Rattle.std.proofs.Common.{arith, ◌≡◌, ◌+◌, ◌*◌, ◌-◌, ◌<◌, length, get_or, sym, ◌∙◌, ap, ⊎_elim}
use Rattle.std.proofs.lemmas.Bool.{eqb-true, eqb-false}
use Rattle.std.specs.Prelude.{decimal}
use Rattle.kb_text.proofs.VariableTexts.{digits_cases, one_digit_is, two_digits_are}
use Rattle.kb_text.proofs.read.variable_of_digits.Goals as goal

pub returns-then-is_empty : goal.returns-then-is_empty
returns-then-is_empty c = λ n h e.
    ⊎_elim
    (λ p. let none : length c.args.digits.now ≡ 0 = eqb-true (length c.args.digits.now) 0 (sym c.is_empty.ensures ∙ p) in ⊎_elim (λ a. omega arith) (λ a. omega arith) (digits_cases (n + 1) c.args.digits.now (omega arith) e))
    (λ p. let many : 2 < length c.args.digits.now = p.1 in ⊎_elim (λ a. omega arith) (λ a. omega arith) (digits_cases (n + 1) c.args.digits.now (omega arith) e))
    c.then-is_empty.either

pub returns-then-first-lt49 : goal.returns-then-first-lt49
returns-then-first-lt49 c = λ n h e. ⊎_elim (λ a. ⊎_elim (λ p. omega arith) (λ p. omega arith) c.then-first-lt49.either) (λ a. ⊎_elim (λ p. omega arith) (λ p. omega arith) c.then-first-lt49.either) (digits_cases (n + 1) c.args.digits.now (omega arith) e)

pub returns-then-digits-eq1 : goal.returns-then-digits-eq1
returns-then-digits-eq1 c =
    let first = get_or c.args.digits.now 0 0 in
    let one : first - 48 - 1 + 1 ≡ first - 48 = omega arith in
    (omega arith, ap decimal one ∙ one_digit_is c.args.digits.now (first - 48) c.if-digits-eq1.true (omega arith) (omega arith))

pub returns-then-second-lt48 : goal.returns-then-second-lt48
returns-then-second-lt48 c = λ n h e. ⊎_elim (λ a. omega arith) (λ a. ⊎_elim (λ p. omega arith) (λ p. omega arith) c.then-second-lt48.either) (digits_cases (n + 1) c.args.digits.now (omega arith) e)

pub returns-then-number-gt-VARIABLES : goal.returns-then-number-gt-VARIABLES
returns-then-number-gt-VARIABLES c = λ n h e. ⊎_elim (λ a. omega arith) (λ a. omega arith) (digits_cases (n + 1) c.args.digits.now (omega arith) e)

pub returns : goal.returns
returns c =
    let ds = c.args.digits.now in
    let a = get_or ds 0 0 - 48 in
    let b = get_or ds 1 0 - 48 in
    let some : (length ds ≡ 0) → ⊥ = eqb-false (length ds) 0 (sym c.is_empty.ensures ∙ c.if-is_empty.false) in
    let one : a * 10 + b - 1 + 1 ≡ a * 10 + b = omega arith in
    (omega arith, ap decimal one ∙ two_digits_are ds a b (a * 10 + b) (omega arith) (omega arith) (omega arith) (omega arith) (omega arith) (omega arith) (λ _. a * 10 + b))
