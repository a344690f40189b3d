use Rattle.std.proofs.Common.{◌≡◌, ◌+◌, ◌-◌, length}
use Rattle.std.specs.Prelude.{not, find}
use Rattle.std.specs.List.{list_any, range_with_len}
use Rattle.kb_term.specs.Signature.{symbols_of_list}
use Rattle.kb_text.specs.Terms.{is_x_number, names_of}
use Rattle.kb_text.proofs.text.first_free.Given as goal

-- the first is among the numbers that are left
abbrev pub invariant-loop-n : goal.invariant-loop-n
invariant-loop-n l = find (λ n. not (list_any (is_x_number n) (names_of (symbols_of_list l.symbols)))) (range_with_len 1 (length (names_of (symbols_of_list l.symbols)) + 1))
    ≡ find (λ n. not (list_any (is_x_number n) (names_of (symbols_of_list l.symbols)))) (range_with_len l.n (length l.symbols + 2 - l.n))
