use Rattle.std.proofs.Common.{◌∙◌, List, map, refl, sym}
use Rattle.std.specs.Prelude.{Result, Ok, Err, Option, IfOk, IsOk, IsSome}
use Rattle.clap.specs.Walk.{Text}
use Rattle.mkbtt_words.proofs.Commands.{budget_found, number_found, workers_found}
use Rattle.mkbtt_words.proofs.Read.{failed_unread, parsed_read}
use Rattle.mkbtt_words.proofs.message.refusal_message.Goals as goal

pub words_of-requires-clause-workers : goal.words_of-requires-clause-workers
words_of-requires-clause-workers c = workers_found c.in_ok-command.command c.in-Ok.matches c.in-Ok.ensures.parsed c.in_ok-command.ensures

pub words_of-requires-clause-budget : goal.words_of-requires-clause-budget
words_of-requires-clause-budget c = budget_found c.in_ok-command.command c.in-Ok.matches c.in-Ok.ensures.parsed c.in_ok-command.ensures

pub words_of-requires-clause-number : goal.words_of-requires-clause-number
words_of-requires-clause-number c = number_found c.in_ok-command.command c.in-Ok.matches c.in-Ok.ensures.parsed c.in_ok-command.ensures

pub returns-in-Some-clause-taken : goal.returns-in-Some-clause-taken
returns-in-Some-clause-taken c e =
    let words : List Text = map (λ w. w.now) c.args.words.now in
    let held = parsed_read _ c.in_ok-command.ensures words c.in-Ok.matches c.in-Ok.ensures.kinds c.in-Ok.ensures.matches in
    (c.in-Some._words, held ∙ sym c.in-Some.ensures)

pub returns-in-Ok-clause-refused : goal.returns-in-Ok-clause-refused
returns-in-Ok-clause-refused c some =
    let words : List Text = map (λ w. w.now) c.args.words.now in
    let held = parsed_read _ c.in_ok-command.ensures words c.in-Ok.matches c.in-Ok.ensures.kinds c.in-Ok.ensures.matches in
    held ∙ sym c.in-None.ensures

-- what follows from an Ok
from_ok : {X E A : Type 0} (r : Result (Option X) E) → (IsOk r → A) → IfOk r (λ o. IsSome o → A)
from_ok (Ok o) follows = λ some. follows refl
from_ok (Err e) follows = tt

pub returns-clause-refused : goal.returns-clause-refused
returns-clause-refused c = from_ok c.message_of.result (λ ok.
    let words : List Text = map (λ w. w.now) c.args.words.now in
    failed_unread _ c.in_ok-command.ensures words c.in-Err.error c.in-Err.ensures.kinds (c.message_of.ensures.refused ok))
