-- The sections of the text of a system.
use Rattle.std.specs.Prelude.{ℕ, ◌≡◌, ◌≤◌, List, [], ◌∷◌, ◌++◌, length, map, codes, decimal, All, IsTrue, get_or, ⊤}
use Rattle.std.specs.List.{join_with_byte}
use Rattle.kb_term.specs.Tree.{Tree}
use Rattle.kb_term.specs.Rule.{Rule}
use Rattle.kb_term.specs.Signature.{SymbolEntry, Signature, IsSignature, IsEquationWithinLimits}
use Rattle.kb_text.specs.Names.{Name}
use Rattle.kb_text.specs.Terms.{names_of, term_text, infix_text}
use Rattle.kb_cert.specs.CertificateText.{cert_fields, is_certificate}
use Rattle.kb_cert.specs.declared.certificate.Certificate.{Certificate}
use Rattle.kb_overlap.specs.Trace.{TraceStep}
use Rattle.kb_trace.specs.TraceText.{step_fields, IsStepForm}
use Rattle.kb_checker.specs.Answers.{IsRuleForm}
use Rattle.kb_report.specs.Answers.{entry_text}
use Rattle.kb_report.specs.declared.version.Version.{Version}
use Rattle.kb_report.specs.declared.version.Version.TheVariants.{First, Second}
use Rattle.kb_report.specs.Sections.{Section, OneLine, Items, Count, Both, IsLineOf}
use Rattle.kb_term.specs.declared.limits.TheConstants.{MAX_ARITY, MAX_EQUATIONS, MAX_NODES, MAX_SYMBOLS}

-- ---- lines without their line feeds

abbrev pub head_body : Version → List ℕ
head_body First = codes "MKBTT 1"
head_body Second = codes "MKBTT 2"

abbrev pub symbols_body : Signature → List ℕ
symbols_body sig = join_with_byte 32 (codes "SYMBOLS" ∷ map entry_text sig)

abbrev pub equation_body : List Name → Tree × Tree → List ℕ
equation_body names e = join_with_byte 32 (infix_text names (codes "=") e.0 e.1)

abbrev pub rule_body : List Name → Rule × ℕ → List ℕ
rule_body names r = join_with_byte 32 (infix_text names (codes "->") r.0.left r.0.right ++ codes ":" ∷ decimal r.1 ∷ [])

abbrev pub order_body : List Name → Certificate → List ℕ
order_body names c = join_with_byte 32 (codes "ORDER" ∷ cert_fields names c)

abbrev pub step_body : List Name → ℕ → TraceStep → List ℕ
step_body names k s = join_with_byte 32 (step_fields names k s)

-- ---- the sections

abbrev pub Head : Section Version
Head = OneLine (λ v. ⊤) head_body

-- at most 24 symbols of at most 8 arguments, whose names are different identifiers
pub record AreSymbols (sig : Signature) : Type 0 where
  pub names : IsSignature sig
  pub few : length sig ≤ MAX_SYMBOLS
  pub arities : All (λ (f : SymbolEntry). f.arity ≤ MAX_ARITY) sig

abbrev pub Symbols : Section Signature
Symbols = OneLine AreSymbols symbols_body

abbrev pub Equations : Signature → ℕ → Section (List (Tree × Tree))
Equations sig = Items (IsEquationWithinLimits sig) (λ k. equation_body (names_of sig))

abbrev pub Rules : Signature → ℕ → Section (List (Rule × ℕ))
Rules sig = Items (IsRuleForm sig) (λ k. rule_body (names_of sig))

-- how many constraints there are: version 1 has none, and no line for it
abbrev pub ConstraintCount : Version → Section ℕ
ConstraintCount First n lines = (n ≡ 0) × (lines ≡ [])
ConstraintCount Second n lines = Count (codes "CONSTRAINTS ") MAX_NODES n lines

abbrev pub Order : Signature → Section Certificate
Order sig = OneLine (λ c. IsTrue (is_certificate sig c)) (order_body (names_of sig))

abbrev pub Steps : Signature → ℕ → Section (List TraceStep)
Steps sig = Items (IsStepForm sig) (step_body (names_of sig))

-- a list behind the number of its members
abbrev pub with_count : {X : Type 0} → List X → ℕ × List X
with_count xs = (length xs, xs)

-- how many there are, and then the items
abbrev pub CountedEquations : Signature → Section (ℕ × List (Tree × Tree))
CountedEquations sig = Both (Count (codes "EQUATIONS ") MAX_EQUATIONS) (Equations sig)

abbrev pub CountedRules : Signature → Section (ℕ × List (Rule × ℕ))
CountedRules sig = Both (Count (codes "RULES ") MAX_NODES) (Rules sig)

abbrev pub CountedConstraints : Version → Signature → Section (ℕ × List (Rule × ℕ))
CountedConstraints version sig = Both (ConstraintCount version) (Rules sig)

abbrev pub CountedSteps : Signature → Section (ℕ × List TraceStep)
CountedSteps sig = Both (Count (codes "TRACE ") MAX_NODES) (Steps sig)

-- the symbols and the equations
abbrev pub ProblemPart : Section (Signature × (ℕ × List (Tree × Tree)))
ProblemPart = Both Symbols CountedEquations

-- what stands behind them, but for the last line
abbrev pub OrderPart : Signature → Section (Certificate × (ℕ × List TraceStep))
OrderPart sig = Both (Order sig) (λ cert. CountedSteps sig)

abbrev pub ConstraintPart : Version → Signature → Section ((ℕ × List (Rule × ℕ)) × (Certificate × (ℕ × List TraceStep)))
ConstraintPart version sig = Both (CountedConstraints version sig) (λ constraints. OrderPart sig)

abbrev pub PartValues : Type 0
PartValues = (ℕ × List (Rule × ℕ)) × ((ℕ × List (Rule × ℕ)) × (Certificate × (ℕ × List TraceStep)))

-- these rules, constraints, certificate and trace, each list behind the number of its members
abbrev pub part_values : List (Rule × ℕ) → List (Rule × ℕ) → Certificate → List TraceStep → PartValues
part_values rules constraints cert trace = (with_count rules, (with_count constraints, (cert, with_count trace)))

abbrev pub RulePart : Version → Signature → Section PartValues
RulePart version sig = Both (CountedRules sig) (λ rules. ConstraintPart version sig)

-- ---- their fields

-- the field is that of a symbol of at most 8 arguments
abbrev pub IsEntry : List ℕ → SymbolEntry → Type 0
IsEntry field f = (f.arity ≤ 8) × (entry_text f ≡ field)

-- it is that of no such symbol
abbrev pub IsNoEntry : List ℕ → Type 0
IsNoEntry field = (f : SymbolEntry) → f.arity ≤ 8 → ¬ (entry_text f ≡ field)

-- the fields are those of symbols of at most 8 arguments each
abbrev pub AreEntries : List (List ℕ) → Signature → Type 0
AreEntries fields sig = All (λ (f : SymbolEntry). f.arity ≤ 8) sig × (map entry_text sig ≡ fields)

-- they are those of no such symbols
abbrev pub AreNoEntries : List (List ℕ) → Type 0
AreNoEntries fields = (sig : Signature) → All (λ (f : SymbolEntry). f.arity ≤ 8) sig → ¬ (map entry_text sig ≡ fields)

-- the first three fields are a term, the sign and a term, numbered by first occurrence
pub record AreSidesIn (sig : Signature) (fields : List (List ℕ)) (sign : List ℕ) (e : Tree × Tree) : Type 0 where
  pub form : IsEquationWithinLimits sig e
  pub left : get_or fields 0 [] ≡ term_text (names_of sig) e.0
  pub sign_is : get_or fields 1 [] ≡ sign
  pub right : get_or fields 2 [] ≡ term_text (names_of sig) e.1

-- the bytes are the line of such a value
abbrev pub IsHeadLine : List ℕ → Version → Type 0
IsHeadLine = IsLineOf (λ v. ⊤) head_body

abbrev pub IsSymbolsLine : List ℕ → Signature → Type 0
IsSymbolsLine = IsLineOf AreSymbols symbols_body

abbrev pub IsEquationLine : Signature → List ℕ → Tree × Tree → Type 0
IsEquationLine sig = IsLineOf (IsEquationWithinLimits sig) (equation_body (names_of sig))

abbrev pub IsRuleLine : Signature → List ℕ → Rule × ℕ → Type 0
IsRuleLine sig = IsLineOf (IsRuleForm sig) (rule_body (names_of sig))

abbrev pub IsOrderLine : Signature → List ℕ → Certificate → Type 0
IsOrderLine sig = IsLineOf (λ c. IsTrue (is_certificate sig c)) (order_body (names_of sig))
