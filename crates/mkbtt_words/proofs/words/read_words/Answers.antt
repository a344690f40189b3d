use Rattle.std.proofs.Common.{◌∙◌, ap, List, map, sym}
use Rattle.std.specs.Prelude.{Result, Ok, Err}
use Rattle.clap.specs.Walk.{Text}
use Rattle.mkbtt_words.specs.declared.fault.WordsFault.{WordsFault}
use Rattle.mkbtt_words.specs.declared.fault.WordsFault.TheVariants.{Memory}
use Rattle.mkbtt_words.specs.declared.words.Words.{Words}
use Rattle.mkbtt_words.proofs.Commands.{budget_found, number_found, workers_found}
use Rattle.mkbtt_words.proofs.Read.{failed_unread, parsed_read, read_or, refused_or}
use Rattle.mkbtt_words.proofs.words.read_words.Goals as goal

pub words_of-requires-clause-workers : goal.words_of-requires-clause-workers
words_of-requires-clause-workers c = workers_found c.in_ok-command.command c.in-Ok.matches c.in-Ok.ensures.parsed c.in_ok-command.ensures

pub words_of-requires-clause-budget : goal.words_of-requires-clause-budget
words_of-requires-clause-budget c = budget_found c.in_ok-command.command c.in-Ok.matches c.in-Ok.ensures.parsed c.in_ok-command.ensures

pub words_of-requires-clause-number : goal.words_of-requires-clause-number
words_of-requires-clause-number c = number_found c.in_ok-command.command c.in-Ok.matches c.in-Ok.ensures.parsed c.in_ok-command.ensures

pub returns-in-Ok-clause-read : goal.returns-in-Ok-clause-read
returns-in-Ok-clause-read c =
    let words : List Text = map (λ w. w.now) c.args.words.now in
    let held = parsed_read _ c.in_ok-command.ensures words c.in-Ok.matches c.in-Ok.ensures.kinds c.in-Ok.ensures.matches in
    read_or words c.words_of.result c.ok_or.result (held ∙ sym c.words_of.ensures) c.ok_or.ensures.value

pub returns-in-Ok-clause-refused : goal.returns-in-Ok-clause-refused
returns-in-Ok-clause-refused c =
    let words : List Text = map (λ w. w.now) c.args.words.now in
    let held = parsed_read _ c.in_ok-command.ensures words c.in-Ok.matches c.in-Ok.ensures.kinds c.in-Ok.ensures.matches in
    refused_or words c.words_of.result c.ok_or.result (held ∙ sym c.words_of.ensures) c.ok_or.ensures.value

abbrev fault_in : Result Words WordsFault → WordsFault
fault_in (Ok w) = Memory
fault_in (Err fault) = fault

pub returns-in-Err-clause-refused : goal.returns-in-Err-clause-refused
returns-in-Err-clause-refused c e =
    let words : List Text = map (λ w. w.now) c.args.words.now in
    failed_unread _ c.in_ok-command.ensures words c.in-Err.error c.in-Err.ensures.kinds (c.fault_of.ensures.0 (ap fault_in e))
