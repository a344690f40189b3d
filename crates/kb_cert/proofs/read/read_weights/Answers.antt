use Rattle.std.proofs.Common.{subst, ◌-◌}
use Rattle.kb_cert.specs.Reading.{SpellsNumbers}
use Rattle.kb_cert.proofs.RowLaws.{cut_parts, end_parts}
use Rattle.kb_cert.proofs.OrderTexts.{weights_found, weights_none, weights_no_first}
use Rattle.kb_cert.proofs.read.read_weights.Goals as goal

pub returns-then-branch : goal.returns-then-branch
returns-then-branch c =
    let t = cut_parts c.args.text.now c.split_at.result.0.now c.split_at.result.1.now c.field_end.result c.split_at.ensures.front c.split_at.ensures.back in
    let s = subst (λ b. SpellsNumbers 15 (c.args.count - 1) c.split_at.result.1.now c.push.new.self.items c.read_numbers.new.numbers.items b) c.if-branch.true c.in_ok-read_numbers-in-Some.ensures in
    weights_found c.args.count c.args.text.now c.split_at.result.0.now c.split_at.result.1.now c.in-Some.first c.new-weights.result.items c.push.new.self.items c.read_numbers.new.numbers.items c.requires t c.in-Some.ensures c.new-weights.ensures.items c.in_ok-push-in-Some.ensures.items s

pub returns-else-branch : goal.returns-else-branch
returns-else-branch c =
    let t = cut_parts c.args.text.now c.split_at.result.0.now c.split_at.result.1.now c.field_end.result c.split_at.ensures.front c.split_at.ensures.back in
    let e = end_parts 44 c.args.text.now c.split_at.result.0.now c.split_at.result.1.now c.field_end.result c.split_at.ensures.front c.split_at.ensures.back c.field_end.ensures.end in
    let s = subst (λ b. SpellsNumbers 15 (c.args.count - 1) c.split_at.result.1.now c.push.new.self.items c.read_numbers.new.numbers.items b) c.if-branch.false c.in_ok-read_numbers-in-Some.ensures in
    weights_none c.args.count c.args.text.now c.split_at.result.0.now c.split_at.result.1.now c.push.new.self.items c.read_numbers.new.numbers.items c.requires t e s

pub returns-in-None : goal.returns-in-None
returns-in-None c =
    let t = cut_parts c.args.text.now c.split_at.result.0.now c.split_at.result.1.now c.field_end.result c.split_at.ensures.front c.split_at.ensures.back in
    let e = end_parts 44 c.args.text.now c.split_at.result.0.now c.split_at.result.1.now c.field_end.result c.split_at.ensures.front c.split_at.ensures.back c.field_end.ensures.end in
    weights_no_first c.args.count c.args.text.now c.split_at.result.0.now c.split_at.result.1.now c.requires t e c.in-None.ensures
