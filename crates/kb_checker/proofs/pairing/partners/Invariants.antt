use Rattle.std.proofs.Common.{ℕ, Contains, take}
use Rattle.std.specs.Prelude.{◌↔◌}
use Rattle.kb_checker.specs.Partners.{IsPartnerAt}
use Rattle.kb_checker.proofs.pairing.partners.Given as goal

-- the keys are those of the positions so far
abbrev pub invariant-loop-k : goal.invariant-loop-k
invariant-loop-k l = (key : ℕ) → Contains l.keys.items key ↔ IsPartnerAt l.index l.outer.left (take l.k l.positions.items) key
