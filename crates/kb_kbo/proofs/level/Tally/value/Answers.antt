use Rattle.std.proofs.Common.{arith, ap, ◌≡◌, ◌+◌, drop, get_or, []}
use Rattle.kb_linear.specs.Forms.{weighted}
use Rattle.kb_linear.proofs.Values.{numbers_end}
use Rattle.kb_kbo.proofs.Levels.{weighted_le}
use Rattle.kb_kbo.proofs.level.Tally.value.Goals as goal

pub returns-clause-least : goal.returns-clause-least
returns-clause-least c = λ a h. omega (arith, c.loop-f.invariant.added, weighted_le c.args.self.now.symbols (λ n. get_or c.args.weights.now n 0) a (λ f l. h f (omega arith)))

pub returns-clause-most : goal.returns-clause-most
returns-clause-most c = λ a h.
    let e : drop c.loop-f.f c.args.self.now.symbols ≡ [] = numbers_end c.args.self.now.symbols c.loop-f.f (omega arith) in
    let w : weighted (drop c.loop-f.f c.args.self.now.symbols) (λ n. get_or c.args.weights.now (n + c.loop-f.f) 0) ≡ 0 = ap (λ z. weighted z (λ n. get_or c.args.weights.now (n + c.loop-f.f) 0)) e in
    omega (arith, c.loop-f.invariant.added, w, weighted_le c.args.self.now.symbols a (λ n. get_or c.args.weights.now n 0) (λ f l. h f (omega arith)))
