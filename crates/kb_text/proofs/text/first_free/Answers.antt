use Rattle.std.proofs.Common.{◌∙◌, ◌+◌, ap, sym, length}
use Rattle.std.specs.Prelude.{not}
use Rattle.std.specs.List.{list_any}
use Rattle.kb_term.specs.Signature.{symbols_of_list}
use Rattle.kb_text.specs.Terms.{is_x_number, names_of}
use Rattle.kb_text.proofs.TextLaws.{find_left}
use Rattle.kb_text.proofs.text.first_free.Goals as goal

pub loop-n-preserved : goal.loop-n-preserved
loop-n-preserved c =
    c.loop-n.invariant ∙ find_left (λ n. not (list_any (is_x_number n) (names_of (symbols_of_list c.args.symbols.now)))) c.loop-n.n (length c.args.symbols.now + 2) c.loop-n-test.true (ap not (sym c.is_taken.ensures ∙ c.if-not-is_taken.false))
