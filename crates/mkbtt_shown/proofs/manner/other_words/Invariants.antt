use Rattle.std.proofs.Common.{◌≡◌, map, take}
use Rattle.mkbtt_shown.specs.Manners.{others_of}
use Rattle.mkbtt_shown.proofs.manner.other_words.Given as goal

abbrev pub invariant-loop-word : goal.invariant-loop-word
invariant-loop-word l = map (λ w. w.now) l.others.items ≡ others_of (map (λ w. w.now) (take l.word-index l.words))
