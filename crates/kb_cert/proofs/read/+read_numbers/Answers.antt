use Rattle.std.proofs.Common.{arith}
use Rattle.kb_cert.proofs.ReadingLaws.{numbers_step, numbers_none}
use Rattle.kb_cert.proofs.read.+read_numbers.Goals as goal

pub returns-in_ok-found-in-Some-read_positive : goal.returns-in_ok-found-in-Some-read_positive
returns-in_ok-found-in-Some-read_positive t c =
    let s = c.in-Some.ensures in
    numbers_step c.args.most c.args.count c.args.text.now c.in-Some.field.now c.in-Some.rest.now c.args.numbers.now.items c.push.new.self.items c.read_numbers.new.numbers.items c.in-Some-read_positive.n c.in_ok-found-in-Some-read_positive.found
    c.requires s.0 s.1 (omega arith) c.in-Some-read_positive.ensures c.in_ok-push-in-Some-read_positive.ensures.items c.in_ok-found-in-Some-read_positive.ensures

pub returns-in-None : goal.returns-in-None
returns-in-None t c =
    let s = c.in-Some.ensures in
    numbers_none c.args.most c.args.count c.args.text.now c.in-Some.field.now c.in-Some.rest.now c.requires s.0 s.1 (omega arith) c.in-None.ensures
