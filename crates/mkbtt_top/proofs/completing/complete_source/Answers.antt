use Rattle.std.proofs.Common.{List, ℕ, Err, ap, subst}
use Rattle.std.proofs.lemmas.Result.{IfErr-weaker}
use Rattle.mkbtt_top.specs.Completing.{too_long, IsRefusal, IsUnfinishedBy}
use Rattle.mkbtt_top.proofs.Endings.{stop_of_refusal}
use Rattle.mkbtt_top.proofs.completing.complete_source.Goals as goal

pub returns-in-Err-TooLong-clause-stop : goal.returns-in-Err-TooLong-clause-stop
returns-in-Err-TooLong-clause-stop g c = too_long (c.in-Err-TooLong.ensures.too_long (ap Err c.in-Err-TooLong.field-0-is))

pub returns-clause-stop : goal.returns-clause-stop
returns-clause-stop g c =
    let old = g.S.Source.left c.args.source.now in
    let new = g.S.Source.left c.read_all.new.source in
    let quiet = g.S.Source.quiet c.args.source.now in
    let before = g.S.Source.faults c.args.source.now in
    let after = g.S.Source.faults c.read_all.new.source in
    IfErr-weaker c.complete_bytes.result (IsRefusal c.args.settings c.args.workers c.deref.result.now) (IsUnfinishedBy c.args.settings c.args.workers old new quiet before after)
    (λ stop h. stop_of_refusal c.args.settings c.args.workers old new quiet before after c.in-Ok.bytes.items stop c.in-Ok.ensures.whole (subst {A = List ℕ} (λ b. IsRefusal c.args.settings c.args.workers b stop) c.deref.ensures.value h))
    c.complete_bytes.ensures.stop
