use Rattle.std.proofs.Common.{arith, refl}
use Rattle.std.proofs.lemmas.Bool.{false≢true}
use Rattle.kb_linear.proofs.Weights.{exceeds_if, exceeds_constant, exceeds_coefficient}
use Rattle.kb_linear.proofs.form.LinearForm.exceeds.Goals as goal

pub returns-then-self-other : goal.returns-then-self-other
returns-then-self-other c = (λ e. absurd (false≢true e), λ h. absurd (let k = exceeds_constant c.args.self.now c.args.other.now h in let l = c.if-self-other.true in omega (arith, k, l)))

pub returns-then-self-k : goal.returns-then-self-k
returns-then-self-k c = (λ e. absurd (false≢true e), λ h. absurd (exceeds_coefficient c.args.self.now c.args.other.now c.loop-k.k h c.if-self-k.true))

pub returns : goal.returns
returns c =
    (λ e. exceeds_if c.args.self.now c.args.other.now (omega arith) c.if-self-other.false (λ k h. c.loop-k.invariant k (omega arith)), λ h. refl)
