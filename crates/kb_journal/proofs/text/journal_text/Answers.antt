use Rattle.std.proofs.Common.{◌≡◌, List, All, map, sym, ap, ◌∙◌, subst}
use Rattle.std.specs.Prelude.{IfOk}
use Rattle.mkb_model.specs.Plain.{Plain, PlainNode}
use Rattle.mkb_model.specs.declared.entry.Entry.{Entry}
use Rattle.mkb_rules.specs.Parts.{plain_nodes}
use Rattle.kb_journal.specs.EntryLines.{line_of, IsEntryOn}
use Rattle.kb_journal.specs.Journals.{Journal, journal_text}
use Rattle.kb_journal.proofs.Kept.{board_on}
use Rattle.kb_journal.proofs.text.journal_text.Goals as goal

pub text_of-requires : goal.text_of-requires
text_of-requires c =
    let b = c.args.board.now in
    subst {A = List Entry} (All (IsEntryOn (plain_nodes c.nodes.result.now))) (sym c.journal.ensures.journal) (subst {A = List PlainNode} (λ xs. All (IsEntryOn xs) b.journal) (sym c.nodes.ensures) (board_on b c.journal.ensures.legal))

pub returns : goal.returns
returns c =
    let b = c.args.board.now in
    let problems = c.problem.ensures ∙ ap (λ (z : Plain). z.problem) c.state-state.ensures in
    let settings = c.settings.ensures ∙ ap (λ (z : Plain). z.settings) c.state-state.ensures in
    let nodes = c.nodes.ensures in
    let entries = c.journal.ensures.journal in
    subst {A = Journal} (λ j. IfOk c.text_of.result (λ text. text.items ≡ journal_text j)) (λ i. record { problem = problems i; settings = settings i; lines = map (line_of (nodes i)) (entries i) }) c.text_of.ensures
