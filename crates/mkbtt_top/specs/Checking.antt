-- What a check of an answer comes to.
use Rattle.std.specs.Prelude.{ℕ, ◌≡◌, List, [], ◌∷◌, Option, None, codes, decimal}
use Rattle.kb_text.specs.Lines.{line}
use Rattle.kb_checker.specs.Answers.{Answer, IsGoodAnswer}
use Rattle.kb_checker.specs.Verdicts.{IsVerdict}
use Rattle.kb_checker.specs.declared.verdict.Reject.{Reject}
use Rattle.kb_checker.specs.declared.verdict.Reject.TheVariants.{BadStep, Untraced, UntracedConstraint, ConstraintNotOriented, NotOriented, PairLarge, PairSteps, NotJoined, EquationLarge, EquationSteps, NotProved}
use Rattle.kb_checker.specs.declared.verdict.Checked.{Checked}
use Rattle.kb_checker.specs.declared.verdict.Checked.TheVariants.{Accepted, Rejected}
use Rattle.mkb_board.specs.Boards.{Seen}
use Rattle.mkbtt_top.specs.Answering.{IsReadFrom}
use Rattle.mkbtt_top.specs.declared.status.Status.{Status}
use Rattle.mkbtt_top.specs.declared.status.Status.TheVariants.{Done}
use Rattle.mkbtt_top.specs.declared.status.Status.TheVariants as status

abbrev pub reject_word : Reject → List ℕ
reject_word BadStep = codes "badstep"
reject_word Untraced = codes "untraced"
reject_word UntracedConstraint = codes "untracedconstraint"
reject_word ConstraintNotOriented = codes "constraintnotoriented"
reject_word NotOriented = codes "notoriented"
reject_word PairLarge = codes "pairlarge"
reject_word PairSteps = codes "pairsteps"
reject_word NotJoined = codes "notjoined"
reject_word EquationLarge = codes "equationlarge"
reject_word EquationSteps = codes "equationsteps"
reject_word NotProved = codes "notproved"

-- one line
abbrev pub checked_text : Checked → List ℕ
checked_text Accepted = line (codes "ACCEPTED" ∷ [])
checked_text (Rejected reason n) = line (codes "REJECTED" ∷ reject_word reason ∷ decimal n ∷ [])

-- the status of what the checker says
abbrev pub status_of : Checked → Status
status_of Accepted = Done
status_of (Rejected reason n) = status.Rejected reason n

-- the text and the status are what the checker says of the answer that was read; what it accepts is good
pub record Checks (end : Status) (board : Option Seen) (left_old left_new : Option (List ℕ)) (text : List ℕ) : Type 0 where
  pub answer : Answer
  pub read : IsReadFrom left_old left_new answer
  pub checked : Checked
  pub verdict : IsVerdict answer checked
  pub good : checked ≡ Accepted → IsGoodAnswer answer
  pub status_is : end ≡ status_of checked
  pub board_is : board ≡ None
  pub text_is : text ≡ checked_text checked
