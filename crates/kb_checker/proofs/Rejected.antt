-- What an option says, and the reasons of overlaps and of equations.
use Rattle.std.proofs.Common.{ℕ, ◌≡◌, subst, Option, Some, None}
use Rattle.std.specs.Prelude.{MatchOption}
use Rattle.kb_checker.specs.Answers.{Answer, rules_of}
use Rattle.kb_checker.specs.Verdicts.{FailsFirst, FirstUnclosed, IsProved, FailsToProve, PassesOrder, PassesOverlaps, pair_reason, equation_reason, IsRejected}
use Rattle.kb_checker.specs.declared.joining.Failure.{Failure}
use Rattle.kb_checker.specs.declared.joining.Failure.TheVariants.{Large, Steps, Different}

pub none_says : {X : Type 0} (o : Option X) (A : Type 0) (B : X → Type 0) → o ≡ None → MatchOption o A B → A
none_says {X} o A B e h = subst {A = Option X} (λ z. MatchOption z A B) e h

pub some_says : {X : Type 0} (o : Option X) (x : X) (A : Type 0) (B : X → Type 0) → o ≡ Some x → MatchOption o A B → B x
some_says {X} o x A B e h = subst {A = Option X} (λ z. MatchOption z A B) e h

pub pair_rejected : (a : Answer) (f : Failure) (n : ℕ) → PassesOrder a → FirstUnclosed (rules_of a.rules) f n → IsRejected a (pair_reason f) n
pair_rejected a Large n p h = (p, h)
pair_rejected a Steps n p h = (p, h)
pair_rejected a Different n p h = (p, h)

pub equation_rejected : (a : Answer) (f : Failure) (n : ℕ) → PassesOverlaps a → FailsFirst (IsProved (rules_of a.rules)) (FailsToProve (rules_of a.rules) f) a.problem.equations n → IsRejected a (equation_reason f) n
equation_rejected a Large n p h = (p, h)
equation_rejected a Steps n p h = (p, h)
equation_rejected a Different n p h = (p, h)
