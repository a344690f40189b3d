use Rattle.std.proofs.Common.{arith, ◌≡◌, ◌-◌, ◌^◌, ◌<◌, ℕ, List, length, get_or, take, sym, ◌∙◌, ap, subst, ⊎_elim}
use Rattle.std.specs.Prelude.{decimal}
use Rattle.std.specs.Char.{digit_value}
use Rattle.std.specs.Str.Parse.{AllDigits, digits_value}
use Rattle.std.proofs.lemmas.Bool.{cases_lt, eqb-true, eqb-false}
use Rattle.std.proofs.lemmas.Fmt.{decimal_digit, decimal_is_IsNumeral, first_decimal, decimal_nonempty, length-decimal-le, digits_decimal, decimal-digits_value}
use Rattle.std.proofs.lemmas.Int.Digits.{digits_more, digits_value_more}
use Rattle.std.proofs.lemmas.List.{length-take-le, take_all}
use Rattle.std.proofs.lemmas.Str.Parse.{digit_at, digits_value_short}
use Rattle.kb_text.proofs.Numbers.{own, digit_value-is}
use Rattle.kb_journal.proofs.line_reading.whole_of.Goals as goal

no_leading_zero : (n : ℕ) (ds : List ℕ) → n < 2 ^ 64 → decimal n ≡ ds → get_or ds 0 0 ≡ 48 → 1 < length ds → ⊥
no_leading_zero n ds h e z l =
    ⊎_elim (λ p. let f = first_decimal n p h in let g = ap (λ xs. get_or xs 0 0) e in omega arith)
    (λ p. let zero_is : n ≡ 0 = omega arith in let one = ap length (sym e ∙ ap decimal zero_is ∙ decimal_digit 0 (omega arith)) in omega arith)
    (cases_lt 0 n)

pub returns-then-is_empty : goal.returns-then-is_empty
returns-then-is_empty c = λ n h e.
    let same = ap length e in
    ⊎_elim
    (λ p. let none : length c.args.digits.now ≡ 0 = eqb-true (length c.args.digits.now) 0 (sym c.is_empty.ensures ∙ p) in let some = decimal_nonempty n h in omega arith)
    (λ p. let many : 20 < length c.args.digits.now = p.1 in let few = length-decimal-le 20 n (omega arith) (omega arith) h in omega arith)
    c.then-is_empty.either

pub returns-then-digits-gt1 : goal.returns-then-digits-gt1
returns-then-digits-gt1 c = λ n h e. no_leading_zero n c.args.digits.now h e (omega arith) (omega arith)

pub returns-then-digit-lt48 : goal.returns-then-digit-lt48
returns-then-digit-lt48 c = λ n h e.
    let r = digit_at c.args.digits.now c.loop-i.i (subst (AllDigits 10) e (digits_decimal own n h)) c.loop-i-test.true in
    ⊎_elim (λ p. omega (arith, r.0)) (λ p. omega (arith, r.1)) c.then-digit-lt48.either

pub overflow_mul-number : goal.overflow_mul-number
overflow_mul-number c =
    let ds = c.args.digits.now in
    let i = c.loop-i.i in
    let some : (length ds ≡ 0) → ⊥ = eqb-false (length ds) 0 (sym c.is_empty.ensures ∙ c.if-is_empty.false) in
    let small = digits_value_short own (take i ds) 19 c.loop-i.invariant.0 (omega (arith, length-take-le i ds (omega arith))) in
    omega (arith, small, c.loop-i.invariant.1)

pub overflow_add-number : goal.overflow_add-number
overflow_add-number c =
    let ds = c.args.digits.now in
    let i = c.loop-i.i in
    let small = digits_value_short own (take i ds) 19 c.loop-i.invariant.0 (omega (arith, length-take-le i ds (omega arith))) in
    omega (arith, small, c.loop-i.invariant.1)

pub loop-i-preserved : goal.loop-i-preserved
loop-i-preserved c =
    let ds = c.args.digits.now in
    let i = c.loop-i.i in
    let v : digit_value (get_or ds i 0) ≡ get_or ds i 0 - 48 = digit_value-is (get_or ds i 0) (omega arith) (omega arith) in
    (digits_more 10 ds i c.loop-i-test.true c.loop-i.invariant.0 (omega arith), omega (arith, digits_value_more 10 ds i c.loop-i-test.true, c.loop-i.invariant.1))

pub returns-then-number : goal.returns-then-number
returns-then-number c = λ n h e.
    let ds = c.args.digits.now in
    let all : take c.loop-i.i ds ≡ ds = take_all c.loop-i.i ds (omega arith) in
    let is : c.loop-i.number ≡ digits_value 10 ds = c.loop-i.invariant.1 ∙ ap (digits_value 10) all in
    let value : digits_value 10 ds ≡ n = ap (digits_value 10) (sym e) ∙ (decimal_is_IsNumeral n h).1 in
    omega arith

pub returns : goal.returns
returns c =
    let ds = c.args.digits.now in
    let all : take c.loop-i.i ds ≡ ds = take_all c.loop-i.i ds (omega arith) in
    let whole : AllDigits 10 ds = subst (AllDigits 10) all c.loop-i.invariant.0 in
    let is : c.loop-i.number ≡ digits_value 10 ds = c.loop-i.invariant.1 ∙ ap (digits_value 10) all in
    let some : (length ds ≡ 0) → ⊥ = eqb-false (length ds) 0 (sym c.is_empty.ensures ∙ c.if-is_empty.false) in
    (omega arith, ap decimal is ∙ decimal-digits_value own ds whole (omega arith) (λ z. ⊎_elim (λ p. omega arith) (λ p. absurd (p z)) c.else-digits-eq48.either) (omega arith))
