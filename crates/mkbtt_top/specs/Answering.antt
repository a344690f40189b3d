-- The answer that a task reads, alone or with what stands behind it.
use Rattle.std.specs.Prelude.{ℕ, ◌≡◌, List, Option, None, Bool}
use Rattle.kb_io.specs.Bytes.{HasMoreThan, TakesAll}
use Rattle.kb_term.specs.Tree.{Tree}
use Rattle.kb_text.specs.Lines.{IsBadLine}
use Rattle.kb_text.specs.declared.kind.Kind.{Kind}
use Rattle.kb_text.specs.declared.kind.Kind.TheVariants.{Limit}
use Rattle.kb_text.specs.declared.kind.Bound.TheVariants.{Input}
use Rattle.kb_checker.specs.Answers.{Answer}
use Rattle.kb_report.specs.Answers.{IsTextOf}
use Rattle.kb_goals.specs.Asking.{IsGoalsTextOf}
use Rattle.kb_goals.specs.Simplifying.{IsTermsTextOf}
use Rattle.mkbtt_top.specs.Replies.{Fails}
use Rattle.mkbtt_top.specs.declared.reply.Stop.{Stop}
use Rattle.mkbtt_top.specs.declared.reply.Stop.TheVariants as stops
use Rattle.kb_term.specs.declared.limits.TheConstants.{MAX_ANSWER_BYTES}

-- ---- what is read

-- the source was read to its end, and its bytes are the text of the answer in one of the versions
pub record IsReadFrom (left_old left_new : Option (List ℕ)) (answer : Answer) : Type 0 where
  pub bytes : List ℕ
  pub read : TakesAll left_old bytes left_new
  pub is_text : IsTextOf bytes answer

-- the source was read to its end, and its bytes are a text of the answer with the goals behind it
pub record AreGoalsFrom (left_old left_new : Option (List ℕ)) (answer : Answer) (goals : List (Tree × Tree)) : Type 0 where
  pub bytes : List ℕ
  pub read : TakesAll left_old bytes left_new
  pub is_text : IsGoalsTextOf bytes answer goals

-- the source was read to its end, and its bytes are a text of the answer with the terms behind it
pub record AreTermsFrom (left_old left_new : Option (List ℕ)) (answer : Answer) (terms : List Tree) : Type 0 where
  pub bytes : List ℕ
  pub read : TakesAll left_old bytes left_new
  pub is_text : IsTermsTextOf bytes answer terms

-- ---- why nothing is

-- the source was read to its end, and this line is the first that isn't of this form
pub record HasBadLine (IsOfForm : List ℕ → Type 0) (left_old left_new : Option (List ℕ)) (n : ℕ) : Type 0 where
  pub bytes : List ℕ
  pub read : TakesAll left_old bytes left_new
  pub bad : IsBadLine IsOfForm bytes n

-- the refusal of an answer that has too many bytes
abbrev pub IsAnswerLong : Option (List ℕ) → Kind → ℕ → Type 0
IsAnswerLong left_old kind at = (kind ≡ Limit Input) × (at ≡ MAX_ANSWER_BYTES) × HasMoreThan MAX_ANSWER_BYTES left_old

-- why no bytes were read
abbrev pub IsUnreadBy : Option (List ℕ) → Bool → ℕ → ℕ → Stop → Type 0
IsUnreadBy left_old quiet before after (stops.Refused kind at) = IsAnswerLong left_old kind at
IsUnreadBy left_old quiet before after (stops.BadText n) = ⊥
IsUnreadBy left_old quiet before after stops.ReadFault = Fails quiet before after
IsUnreadBy left_old quiet before after (stops.Memory board) = board ≡ None

-- why no text of this form was read
abbrev pub IsNoTextBy : (List ℕ → Type 0) → Option (List ℕ) → Option (List ℕ) → Bool → ℕ → ℕ → Stop → Type 0
IsNoTextBy IsOfForm left_old left_new quiet before after (stops.Refused kind at) = IsAnswerLong left_old kind at
IsNoTextBy IsOfForm left_old left_new quiet before after (stops.BadText n) = HasBadLine IsOfForm left_old left_new n
IsNoTextBy IsOfForm left_old left_new quiet before after stops.ReadFault = Fails quiet before after
IsNoTextBy IsOfForm left_old left_new quiet before after (stops.Memory board) = board ≡ None
