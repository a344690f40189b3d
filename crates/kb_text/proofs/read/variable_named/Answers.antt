use Rattle.std.proofs.Common.{arith, ◌+◌, ap, length, sym, take, ◌∙◌}
use Rattle.std.specs.Prelude.{nat_eq}
use Rattle.std.specs.List.{list_all}
use Rattle.std.proofs.lemmas.Bool.{false≢true}
use Rattle.kb_text.proofs.VariableTexts.{behind_letters, variable_letters, variable_longer}
use Rattle.kb_text.proofs.read.variable_named.Goals as goal

pub returns-then-name-prefix : goal.returns-then-name-prefix
returns-then-name-prefix c = λ n h e. omega (arith, variable_longer c.args.prefix (n + 1) (omega arith), ap length e)

pub returns-then-not-are_letters : goal.returns-then-not-are_letters
returns-then-not-are_letters c = λ n h e.
    false≢true (sym c.if-not-are_letters.true ∙ c.are_letters.ensures ∙ ap (list_all (λ b. nat_eq 120 b)) (c.split_at.ensures.front ∙ ap (take c.args.prefix) (sym e)) ∙ variable_letters c.args.prefix (n + 1))

pub returns : goal.returns
returns c =
    behind_letters c.args.prefix c.args.name.now c.split_at.result.1.now c.variable_of_digits.result (omega arith)
    (sym (c.are_letters.ensures ∙ ap (list_all (λ b. nat_eq 120 b)) c.split_at.ensures.front) ∙ c.if-not-are_letters.false)
    c.split_at.ensures.back c.variable_of_digits.ensures
