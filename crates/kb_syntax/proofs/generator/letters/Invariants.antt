use Rattle.std.proofs.Common.{◌≡◌, ◌*◌, ◌≤◌, vec_len}
use Rattle.kb_syntax.specs.Generator.{letters_of, AreLetters}
use Rattle.kb_syntax.proofs.generator.letters.Given as goal

-- the letters of the equations so far
abbrev pub invariant-loop-i : goal.invariant-loop-i
invariant-loop-i l = record {
  letters : l.letters.items ≡ letters_of l.i;
  kept : AreLetters l.letters.items;
  few : vec_len l.letters ≤ 3 * l.i;
}
