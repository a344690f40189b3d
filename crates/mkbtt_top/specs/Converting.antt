-- What a conversion of an answer comes to.
use Rattle.std.specs.Prelude.{ℕ, ◌≡◌, ◌≤◌, List, Option, None, length}
use Rattle.kb_checker.specs.Answers.{Answer as AnswerOf}
use Rattle.kb_export.specs.Graphs.{graph_text}
use Rattle.kb_export.specs.ReadBack.{SpellsSame}
use Rattle.kb_export.specs.RuleTexts.{rules_problem, rules_text}
use Rattle.kb_report.specs.Answers.{AnswerSpelled}
use Rattle.mkb_board.specs.Boards.{Seen}
use Rattle.mkbtt_words.specs.declared.format.Format.{Format}
use Rattle.mkbtt_words.specs.declared.format.Format.TheVariants.{Answer, Trs, Dot}
use Rattle.mkbtt_top.specs.Answering.{IsReadFrom}
use Rattle.mkbtt_top.specs.declared.status.Status.{Status}
use Rattle.mkbtt_top.specs.declared.status.Status.TheVariants.{Done}
use Rattle.kb_term.specs.declared.limits.TheConstants.{MAX_EQUATIONS, MAX_PROBLEM_BYTES}

-- the text lists the rules of the answer; where there are at most 256 of them and 1,048,576 bytes it is read as a problem with the same equations
pub record ListsRules (text : List ℕ) (answer : AnswerOf) : Type 0 where
  pub text_is : text ≡ rules_text (rules_problem answer)
  pub read : length answer.rules ≤ MAX_EQUATIONS → length text ≤ MAX_PROBLEM_BYTES → SpellsSame text (rules_problem answer)

-- the text is the answer's in this format: its newest text, its rules, or its trace as a graph
abbrev pub IsWrittenAs : Format → List ℕ → AnswerOf → Type 0
IsWrittenAs Answer text answer = AnswerSpelled text answer
IsWrittenAs Trs text answer = ListsRules text answer
IsWrittenAs Dot text answer = text ≡ graph_text answer

-- the text is the one that is written in this format of the answer that was read
pub record Converts (format : Format) (end : Status) (board : Option Seen) (left_old left_new : Option (List ℕ)) (text : List ℕ) : Type 0 where
  pub answer : AnswerOf
  pub read : IsReadFrom left_old left_new answer
  pub written : IsWrittenAs format text answer
  pub status_is : end ≡ Done
  pub board_is : board ≡ None
