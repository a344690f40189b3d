use Rattle.std.proofs.Common.{arith}
use Rattle.kb_cert.proofs.ReadingLaws.{names_step, names_none}
use Rattle.kb_cert.proofs.read.+read_symbols.Goals as goal

pub returns-in_ok-found-in-Some-symbol_named : goal.returns-in_ok-found-in-Some-symbol_named
returns-in_ok-found-in-Some-symbol_named t c =
    let s = c.in-Some.ensures in
    names_step c.args.sig.now c.args.count c.args.text.now c.in-Some.field.now c.in-Some.rest.now c.args.symbols.now.items c.push.new.self.items c.read_symbols.new.symbols.items c.in-Some-symbol_named.f c.in_ok-found-in-Some-symbol_named.found
    c.requires s.0 s.1 (omega arith) c.in-Some-symbol_named.ensures c.in_ok-push-in-Some-symbol_named.ensures.items c.in_ok-found-in-Some-symbol_named.ensures

pub returns-in-None : goal.returns-in-None
returns-in-None t c =
    let s = c.in-Some.ensures in
    names_none c.args.sig.now c.args.count c.args.text.now c.in-Some.field.now c.in-Some.rest.now c.requires s.0 s.1 (omega arith) c.in-None.ensures
