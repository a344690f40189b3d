use Rattle.std.proofs.Common.{◌≡◌, ℕ, ◌<◌, get_or}
use Rattle.kb_syntax.proofs.generator.place_of_letter.Given as goal

-- the letter isn't among those that were passed
abbrev pub invariant-loop-i : goal.invariant-loop-i
invariant-loop-i l = (k : ℕ) → k < l.i → get_or l.letters k 0 ≡ l.letter → ⊥
