-- What is told of an answer that is to be reduced.
use Rattle.std.specs.Prelude.{ℕ, ◌≡◌, List, [], ◌∷◌, Option, None, codes, decimal}
use Rattle.kb_text.specs.Lines.{line}
use Rattle.kb_checker.specs.Answers.{Answer, IsGoodAnswer}
use Rattle.kb_checker.specs.declared.verdict.Checked.TheVariants as checks
use Rattle.kb_report.specs.Answers.{AnswerSpelled}
use Rattle.kb_reduce.specs.Reducing.{IsReducedSystem}
use Rattle.kb_reduce.specs.Telling.{IsReduction}
use Rattle.kb_reduce.specs.declared.reduction.Reduction.{Reduction}
use Rattle.kb_reduce.specs.declared.reduction.Reduction.TheVariants as told
use Rattle.kb_reduce.specs.declared.reduction.Why.{Why}
use Rattle.kb_reduce.specs.declared.reduction.Why.TheVariants.{Steps, Size, Depth, Trace}
use Rattle.mkb_board.specs.Boards.{Seen}
use Rattle.mkbtt_top.specs.Answering.{IsReadFrom}
use Rattle.mkbtt_top.specs.Checking.{checked_text}
use Rattle.mkbtt_top.specs.declared.status.Status.{Status}
use Rattle.mkbtt_top.specs.declared.status.Status.TheVariants.{Done, Rejected, Unreduced}

-- the limit that a right side passes
abbrev pub why_word : Why → List ℕ
why_word Steps = codes "steps"
why_word Size = codes "size"
why_word Depth = codes "depth"
why_word Trace = codes "trace"

-- one line
abbrev pub unreduced_text : Why → ℕ → List ℕ
unreduced_text why n = line (codes "UNREDUCED" ∷ why_word why ∷ decimal n ∷ [])

-- the status and the text tell this: a reduced answer is good, its right sides are normal, and so are its left sides by the other rules
abbrev pub Tells : Reduction → Status → List ℕ → Type 0
Tells (told.Reduced b) end text = (end ≡ Done) × AnswerSpelled text b × IsGoodAnswer b × IsReducedSystem b.rules
Tells (told.Rejected reason n) end text = (end ≡ Rejected reason n) × (text ≡ checked_text (checks.Rejected reason n))
Tells (told.Unreduced why n) end text = (end ≡ Unreduced why n) × (text ≡ unreduced_text why n)

-- the status and the text tell what becomes of the answer
pub record TellsOf (answer : Answer) (end : Status) (text : List ℕ) : Type 0 where
  pub reduction : Reduction
  pub is : IsReduction answer reduction
  pub told : Tells reduction end text

-- of an answer that was read
pub record Reduces (end : Status) (board : Option Seen) (left_old left_new : Option (List ℕ)) (text : List ℕ) : Type 0 where
  pub answer : Answer
  pub read : IsReadFrom left_old left_new answer
  pub told : TellsOf answer end text
  pub board_is : board ≡ None
