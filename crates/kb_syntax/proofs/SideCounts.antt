-- How many tokens the sides of equations have.
use Rattle.std.proofs.Common.{◌≡◌, refl, ap, sym, ◌∙◌, arith, ℕ, ◌+◌, ◌≤◌, [], ◌∷◌, length, length-append, subst, Option}
use Rattle.std.specs.Prelude.{map}
use Rattle.kb_text.specs.Names.{Name}
use Rattle.kb_text.specs.Grammar.{Written, Arguments, no_arguments, argument, term_tokens}
use Rattle.kb_text.specs.Fronts.{TermFront, whole, opened, within, followed_tokens, term_front_tokens}
use Rattle.kb_syntax.specs.Written.{written_of}
use Rattle.kb_syntax.specs.Sides.{application_of, enclosed, side_front, HasTokens}
use Rattle.kb_text.specs.Refusals.{ends_next}
use Rattle.kb_syntax.specs.declared.written.WrittenTerm.{WrittenTerm}
use Rattle.kb_syntax.specs.declared.side.Application.{Application}
use Rattle.kb_syntax.specs.declared.side.Inner.TheVariants.{Whole, Open}
use Rattle.kb_syntax.specs.declared.side.Side.{Side}
use Rattle.kb_syntax.proofs.WrittenArguments.{args}
use Rattle.kb_syntax.proofs.SideLaws.{Enclosing, front_is, ends-within, ends-opened}

enclosed_count : (xs : Enclosing) (u : TermFront) → length (term_front_tokens u) ≤ length (term_front_tokens (enclosed xs u))
enclosed_count [] u = omega arith
enclosed_count (x ∷ xs) u = omega (arith, enclosed_count xs u, length-append (followed_tokens x.1) (term_front_tokens (enclosed xs u)))

within_count : (f : Name) (ts : Arguments) (t : Written) → length (term_front_tokens (within f ts (whole t))) ≡ length (followed_tokens ts) + length (term_tokens t) + 2
within_count f ts t = omega (arith, length-append (followed_tokens ts) (term_tokens t))

-- the tokens of the application around the end
pub around_count : (s : Side) (t : WrittenTerm) (a : Application) → s.inner ≡ Whole t → (ys : Enclosing) → side_front s ≡ enclosed ys (within (application_of a).0 (application_of a).1 (whole (written_of t)))
    → length (followed_tokens (args a.arguments.items)) + length (term_tokens (written_of t)) + 2 ≤ length (term_front_tokens (side_front s))
around_count s t a e ys h = omega (arith, ap (λ (u : TermFront). length (term_front_tokens u)) h, enclosed_count ys (within (application_of a).0 (application_of a).1 (whole (written_of t))), within_count (application_of a).0 (application_of a).1 (written_of t))

pub around_tokens : (s : Side) (t : WrittenTerm) (a : Application) → (ys : Enclosing) → side_front s ≡ enclosed ys (within (application_of a).0 (application_of a).1 (whole (written_of t))) → (k : ℕ)
    → k ≡ length (followed_tokens (args a.arguments.items)) + length (term_tokens (written_of t)) + 2 → HasTokens (ends_next (side_front s)) k
around_tokens s t a ys h k e = subst (λ (o : Option (Name × ℕ × ℕ)). HasTokens o k) (sym (ap ends_next h ∙ ends-within ys (application_of a).0 (application_of a).1 (written_of t))) (within_count (application_of a).0 (application_of a).1 (written_of t) ∙ sym e)

open_two : (f : Name) (ts : Arguments) → HasTokens (ends_next (opened f ts)) 2
open_two f no_arguments = refl
open_two f (argument t ts) = tt

pub open_tokens : (s : Side) (a : Application) → s.inner ≡ Open a → HasTokens (ends_next (side_front s)) 2
open_tokens s a e = subst (λ (o : Option (Name × ℕ × ℕ)). HasTokens o 2) (sym (ap ends_next (front_is s (Open a) e) ∙ ends-opened (map application_of s.outer.items) (application_of a).0 (application_of a).1)) (open_two (application_of a).0 (application_of a).1)
