-- The exit code of each status, and what is written to standard error.
use Rattle.std.specs.Prelude.{ℕ, List, [], ◌∷◌, ◌++◌, codes, decimal}
use Rattle.kb_text.specs.Lines.{line}
use Rattle.kb_text.specs.declared.kind.Kind.{Kind}
use Rattle.kb_text.specs.declared.kind.Kind.TheVariants.{NotUtf8, Unclosed, BadSection, Theory, Strategy, DoubleVariable, Relative, Conditional, VariableApplied, ArityClash, BadToken, Limit}
use Rattle.kb_text.specs.declared.kind.Bound.{Bound}
use Rattle.kb_text.specs.declared.kind.Bound.TheVariants.{Name, Equations, Size, Depth, Symbols, Variables, Arity, Input}
use Rattle.mkbtt_top.specs.declared.status.Status.{Status}
use Rattle.mkbtt_top.specs.declared.status.Status.TheVariants.{Done, AllFailed, Rejected, BadEntry, Unreduced, Spent, Refused, BadText, ReadFault, WriteFault, Memory, Words}

abbrev pub bound_word : Bound → List ℕ
bound_word Name = codes "name"
bound_word Equations = codes "equations"
bound_word Size = codes "size"
bound_word Depth = codes "depth"
bound_word Symbols = codes "symbols"
bound_word Variables = codes "variables"
bound_word Arity = codes "arity"
bound_word Input = codes "input"

-- the kind in small letters, a limit with a dash and its name
abbrev pub kind_word : Kind → List ℕ
kind_word NotUtf8 = codes "notutf8"
kind_word Unclosed = codes "unclosed"
kind_word BadSection = codes "badsection"
kind_word Theory = codes "theory"
kind_word Strategy = codes "strategy"
kind_word DoubleVariable = codes "doublevariable"
kind_word Relative = codes "relative"
kind_word Conditional = codes "conditional"
kind_word VariableApplied = codes "variableapplied"
kind_word ArityClash = codes "arityclash"
kind_word BadToken = codes "badtoken"
kind_word (Limit b) = codes "limit-" ++ bound_word b

-- nothing where the run did its work
abbrev pub line_of : Status → List ℕ
line_of Done = []
line_of AllFailed = []
line_of (Spent spent) = []
line_of (Rejected reason n) = []
line_of (BadEntry n) = []
line_of (Unreduced why n) = []
line_of (Refused kind at) = line (codes "mkbtt:" ∷ codes "refused" ∷ kind_word kind ∷ codes "at" ∷ decimal at ∷ [])
line_of (BadText n) = line (codes "mkbtt:" ∷ codes "refused" ∷ codes "line" ∷ decimal n ∷ [])
line_of ReadFault = line (codes "mkbtt:" ∷ codes "read" ∷ codes "fault" ∷ [])
line_of WriteFault = line (codes "mkbtt:" ∷ codes "write" ∷ codes "fault" ∷ [])
line_of Memory = line (codes "mkbtt:" ∷ codes "out" ∷ codes "of" ∷ codes "memory" ∷ [])
line_of Words = line (codes "mkbtt:" ∷ codes "bad" ∷ codes "words" ∷ [])

abbrev pub code_of : Status → ℕ
code_of Done = 0
code_of AllFailed = 1
code_of (Rejected reason n) = 1
code_of (BadEntry n) = 1
code_of (Unreduced why n) = 1
code_of (Spent spent) = 2
code_of (Refused kind at) = 3
code_of (BadText n) = 3
code_of ReadFault = 4
code_of WriteFault = 5
code_of Memory = 6
code_of Words = 7
