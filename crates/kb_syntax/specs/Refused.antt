-- Refusals as values of the program.
use Rattle.std.specs.Prelude.{◌≡◌, ℕ, List}
use Rattle.kb_text.specs.Refusals.{IsRefused, place_of}
use Rattle.kb_text.specs.declared.kind.Kind.{Kind}
use Rattle.kb_syntax.specs.declared.fault.SyntaxFault.{SyntaxFault}
use Rattle.kb_syntax.specs.declared.fault.SyntaxFault.TheVariants.{Refused, Memory}

-- the bytes are refused so, or memory is wanting
abbrev pub IsFault : List ℕ → SyntaxFault → Type 0
IsFault bytes (Refused r) = IsRefused bytes r.kind r.at
IsFault bytes Memory = Unit {0}

-- a refusal of this kind at the token with this number
abbrev pub IsRefusal : List ℕ → Kind → ℕ → SyntaxFault → Type 0
IsRefusal bytes kind number (Refused r) = (r.kind ≡ kind) × (r.at ≡ place_of bytes number)
IsRefusal bytes kind number Memory = ⊥
