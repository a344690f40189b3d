-- What is said of each refusal, in a sentence.
use Rattle.std.specs.Prelude.{ℕ, List, codes}
use Rattle.kb_text.specs.declared.kind.Kind.{Kind}
use Rattle.kb_text.specs.declared.kind.Kind.TheVariants.{NotUtf8, Unclosed, BadSection, Theory, Strategy, DoubleVariable, Relative, Conditional, VariableApplied, ArityClash, BadToken, Limit}
use Rattle.kb_text.specs.declared.kind.Bound.{Bound}
use Rattle.kb_text.specs.declared.kind.Bound.TheVariants.{Name, Equations, Size, Depth, Symbols, Variables, Arity, Input}
use Rattle.kb_label.specs.declared.verdict.Spent.{Spent}
use Rattle.kb_label.specs.declared.verdict.Spent.TheVariants.{Commits, Over}

-- of a limit
abbrev pub bound_sentence : Bound → List ℕ
bound_sentence Name = codes "A name has at most 64 bytes.\n"
bound_sentence Equations = codes "A problem has at most 256 equations.\n"
bound_sentence Size = codes "A side of an equation has at most 512 names.\n"
bound_sentence Depth = codes "Terms are nested at most 64 deep.\n"
bound_sentence Symbols = codes "A problem has at most 24 function symbols.\n"
bound_sentence Variables = codes "An equation has at most 64 variables.\n"
bound_sentence Arity = codes "A symbol takes at most 8 arguments.\n"
bound_sentence Input = codes "A problem has at most 1048576 bytes, an answer with what stands behind it 67108864.\n"

-- of a refused problem
abbrev pub kind_sentence : Kind → List ℕ
kind_sentence NotUtf8 = codes "This isn't UTF-8.\n"
kind_sentence Unclosed = codes "The text ends here, within parentheses that are still open.\n"
kind_sentence BadSection = codes "A section is wanted here: (VAR x y) before (RULES s == t), and one with rules at least.\n"
kind_sentence Theory = codes "Theories aren't read: write their axioms as equations.\n"
kind_sentence Strategy = codes "Strategies aren't read: leave this section out.\n"
kind_sentence DoubleVariable = codes "This variable was named before: each is named once.\n"
kind_sentence Relative = codes "Relative rules aren't read: write == or ->.\n"
kind_sentence Conditional = codes "Conditions aren't read: each equation stands alone, s == t.\n"
kind_sentence VariableApplied = codes "This is a variable, named by a section VAR: it takes no arguments.\n"
kind_sentence ArityClash = codes "This symbol has another number of arguments than where it came first: each symbol has one.\n"
kind_sentence BadToken = codes "This doesn't belong here: equations are written s == t, and arguments f(s,t).\n"
kind_sentence (Limit bound) = bound_sentence bound

-- of an answer whose line isn't of its form
abbrev pub line_sentence : List ℕ
line_sentence = codes "This is the first line that isn't of the form that is read here.\n"

-- of a run whose budget is used up
abbrev pub spent_sentence : Spent → List ℕ
spent_sentence Commits = codes "The budget is used up: try a greater one (--budget, up to 100000) or the other selection (--select).\n"
spent_sentence (Over reason) = codes "Each process that didn't fail passed a limit: try the other selection (--select).\n"
