-- What the verdict 'complete' promises of the process that it names.
use Rattle.std.specs.Prelude.{Contains}
use Rattle.kb_term.specs.Tree.{Tree}
use Rattle.kb_term.specs.Signature.{Problem}
use Rattle.kb_laws.specs.Complete.{IsCompleteSystem}
use Rattle.kb_laws.specs.Overlaps.{OverlapsClose, HaveOneNormalForm}
use Rattle.kb_label.specs.Names.{Name}
use Rattle.mkb_model.specs.Plain.{Plain, state_of}
use Rattle.mkb_model.specs.Invariants.{IsCertified}

-- The certificate of the process orders its constraints, and its rules are by it a complete system for the problem: terminating, confluent,
-- and proving exactly what the problem proves. The terms of each overlap of two of them normalise to one term, and so do the sides of each
-- input equation.
pub record IsGoodAnswer (P : Problem) (b : Plain) (p : Name) : Type 0 where
  pub certified : IsCertified b p
  pub system : IsCompleteSystem P certified.certificate (state_of b p).rules
  pub overlaps : OverlapsClose (state_of b p).rules
  pub inputs : (e : Tree × Tree) → Contains P.equations e → HaveOneNormalForm (state_of b p).rules e.0 e.1
