-- What an answer's system says of goals and terms.
use Rattle.std.specs.Prelude.{ℕ, ◌≡◌, ◌⊎◌, List, Option, None}
use Rattle.kb_term.specs.Tree.{Tree}
use Rattle.kb_checker.specs.Answers.{Answer, IsGoodAnswer, rules_of}
use Rattle.kb_checker.specs.Verdicts.{IsRejected}
use Rattle.kb_checker.specs.declared.verdict.Reject.{Reject}
use Rattle.kb_checker.specs.declared.verdict.Checked.TheVariants as checks
use Rattle.kb_decide.specs.declared.decision.Decision.{Decision}
use Rattle.kb_goals.specs.Answering.{AreDecided, AreRight, decide_text}
use Rattle.kb_goals.specs.Simplifying.{AreRightForms, AreSimplified, HaveOneForm, simplify_text}
use Rattle.kb_goals.specs.declared.simplifying.Simplified.{Simplified}
use Rattle.mkb_board.specs.Boards.{Seen}
use Rattle.mkbtt_top.specs.Answering.{AreGoalsFrom, AreTermsFrom}
use Rattle.mkbtt_top.specs.Checking.{checked_text}
use Rattle.mkbtt_top.specs.declared.status.Status.{Status}
use Rattle.mkbtt_top.specs.declared.status.Status.TheVariants.{Done, Rejected}

-- the checker rejects the answer, and the status and the text say why
pub record IsRejection (answer : Answer) (end : Status) (text : List ℕ) : Type 0 where
  pub reason : Reject
  pub number : ℕ
  pub rejected : IsRejected answer reason number
  pub status_is : end ≡ Rejected reason number
  pub text_is : text ≡ checked_text (checks.Rejected reason number)

-- the answer is good, and the text says of each goal what the strategy by its rules finds, which is right for its problem: yes only where the equations prove the goal, and no only where they don't
pub record SaysOfGoals (answer : Answer) (goals : List (Tree × Tree)) (end : Status) (text : List ℕ) : Type 0 where
  pub good : IsGoodAnswer answer
  pub decisions : List Decision
  pub decided : AreDecided (rules_of answer.rules) goals decisions
  pub right : AreRight answer.problem.equations goals decisions
  pub status_is : end ≡ Done
  pub text_is : text ≡ decide_text answer.problem.signature decisions

-- of an answer with goals behind it that was read
pub record Decides (end : Status) (board : Option Seen) (left_old left_new : Option (List ℕ)) (text : List ℕ) : Type 0 where
  pub answer : Answer
  pub goals : List (Tree × Tree)
  pub read : AreGoalsFrom left_old left_new answer goals
  pub said : IsRejection answer end text ⊎ SaysOfGoals answer goals end text
  pub board_is : board ≡ None

-- the answer is good, and the text tells the normal form of each term by the strategy: it is normal, the equations prove it equal to the term, and terms that they prove equal have one
pub record SaysOfTerms (answer : Answer) (terms : List Tree) (end : Status) (text : List ℕ) : Type 0 where
  pub good : IsGoodAnswer answer
  pub forms : List Simplified
  pub simplified : AreSimplified (rules_of answer.rules) terms forms
  pub right : AreRightForms answer.problem.equations (rules_of answer.rules) terms forms
  pub one : HaveOneForm answer.problem.equations terms forms
  pub status_is : end ≡ Done
  pub text_is : text ≡ simplify_text answer.problem.signature forms

-- of an answer with terms behind it that was read
pub record Simplifies (end : Status) (board : Option Seen) (left_old left_new : Option (List ℕ)) (text : List ℕ) : Type 0 where
  pub answer : Answer
  pub terms : List Tree
  pub read : AreTermsFrom left_old left_new answer terms
  pub said : IsRejection answer end text ⊎ SaysOfTerms answer terms end text
  pub board_is : board ≡ None
