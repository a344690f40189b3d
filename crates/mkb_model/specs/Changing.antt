-- Which commits change what the board says of its processes.
use Rattle.std.specs.Prelude.{ℕ, List, ◌≡◌, ◌⊎◌, IsTrue}
use Rattle.std.specs.declared.option.Option.TheVariants.{Some, None}
use Rattle.kb_term.specs.declared.origin.RuleRef.{RuleRef}
use Rattle.kb_label.specs.Names.{Name, has}
use Rattle.kb_label.specs.declared.verdict.Reason.TheVariants.{Nodes, Processes}
use Rattle.kb_node.specs.declared.node.LabelKind.{LabelKind}
use Rattle.mkb_model.specs.Plain.{Plain, label, done_of, known, is_over}
use Rattle.mkb_model.specs.Effects.{own_reason, limit_of, effect_label, counted}
use Rattle.mkb_model.specs.Journals.{Moment, IsCommitting, landed}
use Rattle.mkb_model.specs.declared.entry.Effect.{Effect}
use Rattle.mkb_model.specs.declared.proposed.Proposed.{Proposed}

-- each label names the same processes on both boards, the same is known of each side and rule, and the same processes live
pub record SaysTheSame (b c : Plain) : Type 0 where
  pub nodes : (n : ℕ) (kind : LabelKind) (p : Name) → has (label c n kind) p ≡ has (label b n kind) p
  pub overlapped : (a e : RuleRef) (p : Name) → has (done_of c a e) p ≡ has (done_of b a e) p
  pub facts : (n w : ℕ) (a : RuleRef) → known c n w a ≡ known b n w a
  pub closed : (p : Name) → has c.closed p ≡ has b.closed p
  pub over : (p : Name) → is_over c p ≡ is_over b p
  pub living : (p : Name) → has c.living p ≡ has b.living p

-- some label, something known or the living names differ
abbrev pub IsChanged : Plain → Plain → Type 0
IsChanged b c = ¬ SaysTheSame b c

-- the commit comes to want of room, which the proposal doesn't bring, and the processes on which it acts, of which there is one, have all given up before
pub record IsIdleLimit (b : Plain) (x : Proposed) : Type 0 where
  pub not_own : own_reason x ≡ None
  pub limit : (limit_of b x ≡ Some Nodes) ⊎ (limit_of b x ≡ Some Processes)
  pub some : Name
  pub acts : IsTrue (has (effect_label b x) some)
  pub all_over : (p : Name) → IsTrue (has (effect_label b x) p) → IsTrue (is_over b p)

-- a commit on the board that is an idle limit changes the number of commits and the flight alone
abbrev pub IdleLimitsOnlyCount : List Moment → Plain → Type 0
IdleLimitsOnlyCount past b = (w t : ℕ) (e : Effect) (c : Plain) → (commit : IsCommitting past b w t e c) → IsIdleLimit b commit.proposal → c ≡ landed t (counted b)
