-- Numbers in decimal digits.
use Rattle.std.proofs.Common.{◌≡◌, ap, sym, ◌∙◌, ⊎_elim, arith, ℕ, ◌-◌, ◌<◌, ◌≤◌, List, length, get_or}
use Rattle.std.specs.Prelude.{decimal}
use Rattle.std.specs.Char.{digit_value}
use Rattle.std.specs.Str.Parse.{AllDigits, digits_value}
use Rattle.std.proofs.lemmas.Bool.{cases_lt}
use Rattle.std.proofs.lemmas.Bool.Decides.{nat_tests}
use Rattle.std.proofs.lemmas.Fmt.{decimal_digit, first_decimal}
use Rattle.std.proofs.lemmas.Str.Parse.{IsNumeralModel, numerals_by_value, tells_digits}

pub own : IsNumeralModel (AllDigits 10) (digits_value 10)
own = numerals_by_value (AllDigits 10) tells_digits

pub no_leading_zero : (n : ℕ) (ds : List ℕ) → n < 100000 → decimal n ≡ ds → get_or ds 0 0 ≡ 48 → 1 < length ds → ⊥
no_leading_zero n ds h e z l =
    ⊎_elim (λ p. let f = first_decimal n p (omega arith) in let g = ap (λ xs. get_or xs 0 0) e in omega arith)
    (λ p. let zero_is : n ≡ 0 = omega arith in let one = ap length (sym e ∙ ap decimal zero_is ∙ decimal_digit 0 (omega arith)) in omega arith)
    (cases_lt 0 n)

pub digit_value-is : (c : ℕ) → 48 ≤ c → c ≤ 57 → digit_value c ≡ c - 48
digit_value-is c h k = grind (arith, nat_tests)
