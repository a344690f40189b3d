use Rattle.std.proofs.Common.{arith, ◌≡◌, ◌-◌, ◌<◌, length, get_or, take, sym, ◌∙◌, ap, subst, ⊎_elim}
use Rattle.std.specs.Prelude.{decimal}
use Rattle.std.specs.Char.{digit_value}
use Rattle.std.specs.Str.Parse.{AllDigits, digits_value}
use Rattle.std.proofs.lemmas.Bool.{eqb-true, eqb-false}
use Rattle.std.proofs.lemmas.Fmt.{decimal_nonempty, length-decimal-le, digits_decimal, decimal-digits_value}
use Rattle.std.proofs.lemmas.Int.Digits.{digits_more, digits_value_more}
use Rattle.std.proofs.lemmas.List.{length-take-le, take_all}
use Rattle.std.proofs.lemmas.Str.Parse.{digit_at, digits_value_short}
use Rattle.kb_text.proofs.Numbers.{own, no_leading_zero, digit_value-is}
use Rattle.kb_text.proofs.number.read_number.Goals as goal

pub returns-then-is_empty : goal.returns-then-is_empty
returns-then-is_empty c = λ n h e.
    let same = ap length e in
    ⊎_elim
    (λ p. let none : length c.args.digits.now ≡ 0 = eqb-true (length c.args.digits.now) 0 (sym c.is_empty.ensures ∙ p) in let some = decimal_nonempty n (omega arith) in omega arith)
    (λ p. let many : 5 < length c.args.digits.now = p.1 in let few = length-decimal-le 5 n (omega arith) (omega arith) (omega arith) in omega arith)
    c.then-is_empty.either

pub returns-then-digits-gt1 : goal.returns-then-digits-gt1
returns-then-digits-gt1 c = λ n h e. no_leading_zero n c.args.digits.now h e (omega arith) (omega arith)

pub returns-then-digit-lt48 : goal.returns-then-digit-lt48
returns-then-digit-lt48 c = λ n h e.
    let r = digit_at c.args.digits.now c.loop-i.i (subst (AllDigits 10) e (digits_decimal own n (omega arith))) c.loop-i-test.true in
    ⊎_elim (λ p. omega (arith, r.0)) (λ p. omega (arith, r.1)) c.then-digit-lt48.either

pub overflow_mul-number : goal.overflow_mul-number
overflow_mul-number c =
    let ds = c.args.digits.now in
    let i = c.loop-i.i in
    let some : (length ds ≡ 0) → ⊥ = eqb-false (length ds) 0 (sym c.is_empty.ensures ∙ c.if-is_empty.false) in
    let small = digits_value_short own (take i ds) 4 c.loop-i.invariant.0 (omega (arith, length-take-le i ds (omega arith))) in
    omega (arith, small, c.loop-i.invariant.1)

pub overflow_add-number : goal.overflow_add-number
overflow_add-number c =
    let ds = c.args.digits.now in
    let i = c.loop-i.i in
    let small = digits_value_short own (take i ds) 4 c.loop-i.invariant.0 (omega (arith, length-take-le i ds (omega arith))) in
    omega (arith, small, c.loop-i.invariant.1)

pub loop-i-preserved : goal.loop-i-preserved
loop-i-preserved c =
    let ds = c.args.digits.now in
    let i = c.loop-i.i in
    let v : digit_value (get_or ds i 0) ≡ get_or ds i 0 - 48 = digit_value-is (get_or ds i 0) (omega arith) (omega arith) in
    (digits_more 10 ds i c.loop-i-test.true c.loop-i.invariant.0 (omega arith), omega (arith, digits_value_more 10 ds i c.loop-i-test.true, c.loop-i.invariant.1))

pub returns : goal.returns
returns c =
    let ds = c.args.digits.now in
    let all : take c.loop-i.i ds ≡ ds = take_all c.loop-i.i ds (omega arith) in
    let whole : AllDigits 10 ds = subst (AllDigits 10) all c.loop-i.invariant.0 in
    let is : c.loop-i.number ≡ digits_value 10 ds = c.loop-i.invariant.1 ∙ ap (digits_value 10) all in
    let some : (length ds ≡ 0) → ⊥ = eqb-false (length ds) 0 (sym c.is_empty.ensures ∙ c.if-is_empty.false) in
    let small = digits_value_short own ds 5 whole (omega arith) in
    (omega arith, ap decimal is ∙ decimal-digits_value own ds whole (omega arith) (λ z. ⊎_elim (λ p. omega arith) (λ p. absurd (p z)) c.else-digits-eq48.either) (omega arith))
