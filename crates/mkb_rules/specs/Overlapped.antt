-- Rules that have been overlapped, in whichever order they are named.
use Rattle.std.specs.Prelude.{Bool, if◌then◌else◌}
use Rattle.kb_label.specs.Names.{Name, has}
use Rattle.kb_term.specs.declared.origin.RuleRef.{RuleRef}
use Rattle.mkb_model.specs.Jobs.{ref_le}
use Rattle.mkb_model.specs.Plain.{Plain, done_of}

-- p has overlapped the two rules, of which the one that comes first is the outer one
abbrev pub is_overlapped : Plain → Name → RuleRef → RuleRef → Bool
is_overlapped b p a c = if ref_le a c then has (done_of b a c) p else has (done_of b c a) p
