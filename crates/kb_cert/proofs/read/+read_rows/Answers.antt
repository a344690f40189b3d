use Rattle.std.proofs.Common.{arith, drop, ◌+◌}
use Rattle.kb_cert.proofs.RowLaws.{rows_begin, rows_step, rows_none, from_symbol, row_some, row_not}
use Rattle.kb_cert.proofs.read.+read_rows.Goals as goal

pub returns-in_default : goal.returns-in_default
returns-in_default t c = λ rows a. rows_begin c.args.sig.now c.args.f c.args.text.now rows (omega arith) c.in_default.ensures a

pub returns-in_ok-found-in-Some-2 : goal.returns-in_ok-found-in-Some-2
returns-in_ok-found-in-Some-2 t c =
    let s = c.in-Some.ensures in
    let e = from_symbol c.args.sig.now c.args.f c.arity.result c.arity.ensures in
    rows_step (drop c.args.f c.args.sig.now) e.0 (drop (c.args.f + 1) c.args.sig.now) c.arity.result c.args.text.now c.in-Some.field.now c.in-Some.rest.now c.args.rows.now.items c.push.new.self.items c.read_rows.new.rows.items c.in-Some-2.row c.in_ok-found-in-Some-2.found
    e.1 e.2 s.0 s.1 (row_some c.arity.result c.in-Some.field.now c.in_ok-row.field-0 c.in-Some-2.row c.in-Some-2.is c.in_ok-row.ensures) c.in_ok-push-in-Some-2.ensures.items c.in_ok-found-in-Some-2.ensures

pub returns-in-None : goal.returns-in-None
returns-in-None t c =
    let s = c.in-Some.ensures in
    let e = from_symbol c.args.sig.now c.args.f c.arity.result c.arity.ensures in
    rows_none (drop c.args.f c.args.sig.now) e.0 (drop (c.args.f + 1) c.args.sig.now) c.arity.result c.args.text.now c.in-Some.field.now c.in-Some.rest.now e.1 e.2 s.0 s.1 (row_not c.arity.result c.in-Some.field.now c.in_ok-row.field-0 c.in-None.is c.in_ok-row.ensures)
