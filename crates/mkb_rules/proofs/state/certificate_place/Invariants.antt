use Rattle.std.proofs.Common.{◌≡◌, ◌+◌, drop}
use Rattle.mkb_rules.specs.Kept.{plain_certificates, place_in}
use Rattle.mkb_rules.proofs.state.certificate_place.Given as goal

-- the orders so far are of other processes
abbrev pub invariant-loop-i : goal.invariant-loop-i
invariant-loop-i l = place_in (plain_certificates l.certificates) l.p ≡ l.i + place_in (plain_certificates (drop l.i l.certificates)) l.p
