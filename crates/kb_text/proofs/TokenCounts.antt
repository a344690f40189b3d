-- How many tokens written terms have.
use Rattle.std.proofs.Common.{◌≡◌, refl, arith, ◌+◌, [], ◌∷◌, ◌++◌, length, length-append}
use Rattle.kb_text.specs.Tokens.{comma, right_paren}
use Rattle.kb_text.specs.Names.{Name}
use Rattle.kb_text.specs.Grammar.{Written, applied, Arguments, no_arguments, argument, term_tokens, later_tokens}
use Rattle.kb_text.specs.Fronts.{followed_tokens}

later_count : (ts : Arguments) → length (later_tokens ts) ≡ length (followed_tokens ts)
later_count no_arguments = refl
later_count (argument t ts) = omega (arith, later_count ts, length-append (term_tokens t) (later_tokens ts), length-append (term_tokens t) (comma ∷ followed_tokens ts))

-- arguments in parentheses, by their tokens with a comma behind each
pub applied_count : (f : Name) (t : Written) (ts : Arguments) → length (term_tokens (applied f (argument t ts))) ≡ length (followed_tokens (argument t ts)) + 2
applied_count f t ts = omega (arith, length-append (term_tokens t ++ later_tokens ts) (right_paren ∷ []), length-append (term_tokens t) (later_tokens ts), later_count ts, length-append (term_tokens t) (comma ∷ followed_tokens ts))
