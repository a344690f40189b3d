use Rattle.std.proofs.Common.{subst}
use Rattle.kb_cert.specs.Reading.{SpellsNumbers}
use Rattle.kb_cert.proofs.RowLaws.{row_found, row_none, row_no_constant, cut_parts, end_parts}
use Rattle.kb_cert.proofs.read.read_row.Goals as goal

pub returns-then-branch : goal.returns-then-branch
returns-then-branch c =
    let t = cut_parts c.args.text.now c.split_at.result.0.now c.split_at.result.1.now c.field_end.result c.split_at.ensures.front c.split_at.ensures.back in
    let s = subst (λ b. SpellsNumbers 3 c.args.arity c.split_at.result.1.now c.new-coefficients.result.items c.read_numbers.new.numbers.items b) c.if-branch.true c.in_ok-read_numbers-in-Some.ensures in
    row_found c.args.arity c.args.text.now c.split_at.result.0.now c.split_at.result.1.now c.in-Some.constant c.new-coefficients.result.items c.read_numbers.new.numbers.items t c.in-Some.ensures c.new-coefficients.ensures.items s

pub returns-else-branch : goal.returns-else-branch
returns-else-branch c =
    let t = cut_parts c.args.text.now c.split_at.result.0.now c.split_at.result.1.now c.field_end.result c.split_at.ensures.front c.split_at.ensures.back in
    let e = end_parts 44 c.args.text.now c.split_at.result.0.now c.split_at.result.1.now c.field_end.result c.split_at.ensures.front c.split_at.ensures.back c.field_end.ensures.end in
    let s = subst (λ b. SpellsNumbers 3 c.args.arity c.split_at.result.1.now c.new-coefficients.result.items c.read_numbers.new.numbers.items b) c.if-branch.false c.in_ok-read_numbers-in-Some.ensures in
    row_none c.args.arity c.args.text.now c.split_at.result.0.now c.split_at.result.1.now c.new-coefficients.result.items c.read_numbers.new.numbers.items t e s

pub returns-in-None : goal.returns-in-None
returns-in-None c =
    let t = cut_parts c.args.text.now c.split_at.result.0.now c.split_at.result.1.now c.field_end.result c.split_at.ensures.front c.split_at.ensures.back in
    let e = end_parts 44 c.args.text.now c.split_at.result.0.now c.split_at.result.1.now c.field_end.result c.split_at.ensures.front c.split_at.ensures.back c.field_end.ensures.end in
    row_no_constant c.args.arity c.args.text.now c.split_at.result.0.now c.split_at.result.1.now t e c.in-None.ensures
