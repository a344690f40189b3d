-- What helps whoever reads the status of a run.
use Rattle.std.specs.Prelude.{ℕ, List, []}
use Rattle.mkbtt_shown.specs.Hints.{line_hint, refusal_hint}
use Rattle.mkbtt_shown.specs.Sentences.{spent_sentence}
use Rattle.mkbtt_top.specs.declared.status.Status.{Status}
use Rattle.mkbtt_top.specs.declared.status.Status.TheVariants.{Refused, BadText, Spent}

-- of what was read: the line with the place, and a sentence; of a used up budget or limit what to try; else nothing
abbrev pub hint_of : Status → List ℕ → List ℕ
hint_of (Refused kind at) text = refusal_hint kind text at
hint_of (BadText n) text = line_hint text n
hint_of (Spent spent) text = spent_sentence spent
hint_of status text = []
