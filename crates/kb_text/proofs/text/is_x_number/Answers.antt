use Rattle.std.proofs.Common.{◌≡◌, ◌-◌, ◌≤◌, ap, sym, ◌∙◌, true, false, arith, length, drop, length-drop}
use Rattle.std.specs.List.{list_all}
use Rattle.std.proofs.lemmas.List.{take_all}
use Rattle.kb_text.specs.Terms.{is_digit}
use Rattle.kb_text.proofs.TextLaws.{x_number}
use Rattle.kb_text.proofs.text.is_x_number.Goals as goal

pub returns-then-are_letters : goal.returns-then-are_letters
returns-then-are_letters c =
    let n = c.args.n in
    let name = c.args.name.now in
    let short : length (drop n name) ≤ length name - n = omega (arith, length-drop n name) in
    let digits : list_all is_digit (drop n name) ≡ c.are_digits.result = sym (c.are_digits.ensures ∙ ap (list_all is_digit) (take_all (length name - n) (drop n name) short)) in
    sym (x_number n name true c.are_digits.result c.if-name-n.false (sym c.if-are_letters.ensures) digits)

pub returns-else-are_letters : goal.returns-else-are_letters
returns-else-are_letters c =
    let n = c.args.n in
    let name = c.args.name.now in
    c.if-are_letters.false ∙ sym (x_number n name false (list_all is_digit (drop n name)) c.if-name-n.false (sym c.if-are_letters.ensures) (λ _. list_all is_digit (drop n name)))
