use Rattle.std.proofs.Common.{◌<◌, ◌∙◌, ap, arith, length, List}
use Rattle.kb_term.specs.Tree.{Tree, tree_size}
use Rattle.term_bank.specs.Terms.{term_at}
use Rattle.term_bank.proofs.TermRows.{terms_in-length}
use Rattle.term_bank.proofs.CellRows.{cell_at}
use Rattle.term_bank.proofs.bank.Bank.size.Goals as goal

pub returns : goal.returns
returns c =
    let cells = c.self.inside.cells.items in
    let arguments = c.self.inside.arguments.items in
    let within : c.args.id.0 < length cells = omega (arith, c.requires, terms_in-length cells arguments, ap length c.self.view_is) in
    (cell_at c.self.inside.chains cells arguments c.self.invariant c.args.id.0 c.index.result.now within c.index.ensures).size
    ∙ ap (λ (ts : List Tree). tree_size (term_at ts c.args.id.0)) c.self.view_is
