use Rattle.std.proofs.Common.{◌≡◌}
use Rattle.mkb_rules.specs.Forking.{with_new_names}
use Rattle.mkb_rules.specs.Kept.{plain_done}
use Rattle.mkb_rules.proofs.DoneLists.{done_front}
use Rattle.mkb_rules.proofs.effects.forking.note_new_names.Given as goal

-- the first lists have their new names
abbrev pub invariant-loop-i : goal.invariant-loop-i
invariant-loop-i l = with_new_names l.new.items (plain_done l.done) ≡ done_front l.p l.i (plain_done l.done)
