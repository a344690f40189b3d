use Rattle.std.proofs.Common.{arith, ap, sym, ◌∙◌, length, get_or, ◌+◌, ◌-◌}
use Rattle.std.proofs.lemmas.Bool.{eqb-true, eq-eqb}
use Rattle.std.proofs.lemmas.Fmt.{decimal_digit}
use Rattle.kb_lemmas.proofs.Booleans.{fails}
use Rattle.kb_cert.proofs.Fields.{two_digits, one_byte, two_bytes}
use Rattle.kb_cert.proofs.read.is_decimal.Goals as goal

pub returns-then-text-ne1 : goal.returns-then-text-ne1
returns-then-text-ne1 c = fails (λ e. c.if-text-ne1.true (ap length (sym e ∙ decimal_digit c.args.n c.if-n-lt10.true)))

pub returns-then-n-lt10 : goal.returns-then-n-lt10
returns-then-n-lt10 c = (
  λ t. decimal_digit c.args.n c.if-n-lt10.true ∙ one_byte c.args.text.now (48 + c.args.n) (omega arith) (eqb-true (get_or c.args.text.now 0 0) (48 + c.args.n) t),
  λ e. eq-eqb (get_or c.args.text.now 0 0) (48 + c.args.n) (ap (λ z. get_or z 0 0) (sym e ∙ decimal_digit c.args.n c.if-n-lt10.true)),
)

pub returns-then-text-ne2 : goal.returns-then-text-ne2
returns-then-text-ne2 c = fails (λ e. c.if-text-ne2.true (ap length (sym e ∙ two_digits c.args.n c.if-n-lt10.false c.requires)))

pub returns-then-text-ne49 : goal.returns-then-text-ne49
returns-then-text-ne49 c = fails (λ e. c.if-text-ne49.true (ap (λ z. get_or z 0 0) (sym e ∙ two_digits c.args.n c.if-n-lt10.false c.requires)))

pub returns : goal.returns
returns c = (
  λ t. two_digits c.args.n c.if-n-lt10.false c.requires ∙ two_bytes c.args.text.now 49 (48 + (c.args.n - 10)) (omega arith) (omega arith) (eqb-true (get_or c.args.text.now 1 0) (48 + (c.args.n - 10)) t),
  λ e. eq-eqb (get_or c.args.text.now 1 0) (48 + (c.args.n - 10)) (ap (λ z. get_or z 1 0) (sym e ∙ two_digits c.args.n c.if-n-lt10.false c.requires)),
)
