-- The answer text.
use Rattle.std.specs.Prelude.{◌≡◌, ℕ, List, [], ◌∷◌, ◌++◌, map, flat_map, length, codes, decimal, ⊤}
use Rattle.kb_term.specs.Tree.{Tree}
use Rattle.kb_term.specs.Rule.{Rule}
use Rattle.kb_term.specs.Signature.{SymbolEntry, Signature, Problem, IsSignature}
use Rattle.kb_text.specs.Names.{Name}
use Rattle.kb_text.specs.Lines.{line, counted}
use Rattle.kb_text.specs.Terms.{names_of, infix_text}
use Rattle.kb_cert.specs.CertificateText.{cert_fields}
use Rattle.kb_cert.specs.declared.certificate.Certificate.{Certificate}
use Rattle.kb_trace.specs.TraceText.{trace_text}
use Rattle.kb_checker.specs.Answers.{Answer, IsAnswer}
use Rattle.kb_report.specs.declared.version.Version.{Version}
use Rattle.kb_report.specs.declared.version.Version.TheVariants.{First, Second}

-- ---- the lines

-- the name and the arity of a symbol
abbrev pub entry_text : SymbolEntry → List ℕ
entry_text e = e.name ++ codes "/" ++ decimal e.arity

abbrev pub symbols_line : Signature → List ℕ
symbols_line sig = line (codes "SYMBOLS" ∷ map entry_text sig)

abbrev pub equation_line : List Name → Tree × Tree → List ℕ
equation_line names e = line (infix_text names (codes "=") e.0 e.1)

abbrev pub equation_lines : Problem → List ℕ
equation_lines p = counted (codes "EQUATIONS") (length p.equations) ++ flat_map (equation_line (names_of p.signature)) p.equations

-- a rule, and the step that it cites
abbrev pub rule_line : List Name → Rule × ℕ → List ℕ
rule_line names r = line (infix_text names (codes "->") r.0.left r.0.right ++ codes ":" ∷ decimal r.1 ∷ [])

-- how many rules there are behind the word, and each on its line
abbrev pub rule_lines : List ℕ → List Name → List (Rule × ℕ) → List ℕ
rule_lines word names rules = counted word (length rules) ++ flat_map (rule_line names) rules

-- the constraints are listed from version 2 on
abbrev pub constraint_lines : Version → List Name → List (Rule × ℕ) → List ℕ
constraint_lines First names constraints = []
constraint_lines Second names constraints = rule_lines (codes "CONSTRAINTS") names constraints

abbrev pub order_line : List Name → Certificate → List ℕ
order_line names c = line (codes "ORDER" ∷ cert_fields names c)

-- ---- the texts

-- the number of a version
abbrev pub version_word : Version → List ℕ
version_word First = codes "1"
version_word Second = codes "2"

abbrev pub head_line : Version → List ℕ
head_line version = line (codes "MKBTT" ∷ version_word version ∷ [])

abbrev pub end_line : List ℕ
end_line = line (codes "END" ∷ [])

-- the text of a system in a version
abbrev pub system_text : Version → Answer → List ℕ
system_text version a = let names = names_of a.problem.signature in
    head_line version ++ symbols_line a.problem.signature ++ equation_lines a.problem
    ++ rule_lines (codes "RULES") names a.rules ++ constraint_lines version names a.constraints ++ order_line names a.cert
    ++ counted (codes "TRACE") (length a.trace) ++ trace_text a.problem.signature a.trace
    ++ end_line

-- ---- their form

-- what a system may be, so that it has a text; whether it is good is another question
pub record IsSystem (a : Answer) : Type 0 where
  pub signature : IsSignature a.problem.signature
  pub form : IsAnswer a

-- the bytes are the text of the system as it is written, in version 2
pub record AnswerSpelled (bytes : List ℕ) (a : Answer) : Type 0 where
  pub form : IsSystem a
  pub spelling : bytes ≡ system_text Second a

-- version 1 has the systems without constraints, version 2 has all
abbrev pub IsInVersion : Version → Answer → Type 0
IsInVersion First a = a.constraints ≡ []
IsInVersion Second a = ⊤

-- the bytes are the text of the system in one of the versions
pub record IsTextOf (bytes : List ℕ) (a : Answer) : Type 0 where
  pub version : Version
  pub form : IsSystem a
  pub is_in : IsInVersion version a
  pub spelling : bytes ≡ system_text version a

-- the texts of systems, which alone are read
abbrev pub IsSystemText : List ℕ → Type 0
IsSystemText bytes = (a : Answer) × IsTextOf bytes a
