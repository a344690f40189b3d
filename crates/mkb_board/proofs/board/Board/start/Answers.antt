use Rattle.std.proofs.Common.{◌≡◌, ◌∙◌, ap, List, [], refl, sym, subst, arith, false}
use Rattle.kb_term.specs.Signature.{Problem, IsWithinLimits}
use Rattle.mkb_model.specs.Plain.{Plain}
use Rattle.mkb_model.specs.Journals.{opening}
use Rattle.mkb_model.specs.declared.entry.Ticket.{Ticket}
use Rattle.mkb_model.specs.declared.entry.Entry.{Entry}
use Rattle.mkb_board.specs.Boards.{seen, IsBoard}
use Rattle.mkb_board.specs.Working.{processes_in}
use Rattle.mkb_board.specs.declared.working.Placed.{Placed}
use Rattle.mkb_board.proofs.AtRest.{opening_rest}
use Rattle.mkb_board.proofs.Following.{first_works, nobody_complete}
use Rattle.mkb_board.proofs.Listed.{made_kept}
use Rattle.mkb_board.proofs.board.Board.start.Goals as goal
use Rattle.mkb_model.specs.declared.settings.Settings.{Settings}

-- the board before any entry
opening_board : (P : Problem) (n : Settings) (b : Plain) (ts : List Ticket) (es : List Entry) → IsWithinLimits P → b ≡ opening P n → ts ≡ [] → es ≡ [] → IsBoard (seen b ts es) 0 0 false
opening_board P n b ts es w e f g =
    subst {A = Plain} (λ z. IsBoard (seen z ts es) 0 0 false) (sym e) (subst {A = List Ticket} (λ z. IsBoard (seen (opening P n) z es) 0 0 false) (sym f) (subst {A = List Entry} (λ z. IsBoard (seen (opening P n) [] z) 0 0 false) (sym g) first))
  where
    first : IsBoard (seen (opening P n) [] []) 0 0 false
    first = record { legal = record { within = w; after = ([], refl, refl) }; taken_is = refl; dropped_is = refl; halted_is = refl }

pub invariant_of-result : goal.invariant_of-result
invariant_of-result c = (
  opening_board c.args.problem c.args.settings c.in_ok-state.state c.new.result.items c.in_ok-journal.journal.items c.requires c.in_ok-state.ensures c.new.ensures.items c.in_ok-journal.ensures.items,
  omega (arith, c.in_ok-journal.ensures.capacity, c.in_ok-journal.ensures.len, c.new.ensures.len),
  c.verdict-verdict.ensures,
  made_kept c.in_ok-state.state c.agenda_of.result c.ok-agenda.result c.ok-agenda.ensures.value c.agenda_of.ensures,
  c.new-2.ensures c.in_ok-state.state,
  record { all = first_works c.args.problem c.args.settings c.in_ok-state.state c.in_ok-state.ensures c.in_ok-working.working.items c.in_ok-working.ensures.items; room = c.in_ok-working.ensures.room },
  ap (λ (z : Plain). z.flight) c.in_ok-state.ensures,
)

pub verdict-verdict-requires : goal.verdict-verdict-requires
verdict-verdict-requires c =
    let b = c.in_ok-state.state in
    record {
      rest = opening_rest c.args.problem c.args.settings b c.in_ok-state.ensures;
      works = first_works c.args.problem c.args.settings b c.in_ok-state.ensures c.as_slice.result.now (ap (λ (l : List Placed). processes_in l) c.as_slice.ensures.value ∙ c.in_ok-working.ensures.items);
      completes = nobody_complete c.args.problem c.args.settings b c.in_ok-state.ensures;
    }
