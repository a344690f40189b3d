use Rattle.std.proofs.Common.{arith, refl, inl, inr, subst}
use Rattle.kb_text.specs.Fields.{IsWithout}
use Rattle.kb_report.proofs.StepsRead.{no_front, front_more}
use Rattle.kb_report.proofs.steps.front_of.Goals as goal

pub loop-k-init : goal.loop-k-init
loop-k-init c = no_front c.args.text.now

pub split_at-requires : goal.split_at-requires
split_at-requires c = c.loop-k.invariant.within

pub loop-k-preserved : goal.loop-k-preserved
loop-k-preserved c = front_more c.args.text.now c.split_at.result.1.now c.loop-k.k c.loop-k.at c.in-Some.length c.loop-k.invariant c.split_at.ensures.back c.in-Some.ensures

pub returns-in_default : goal.returns-in_default
returns-in_default c =
    let f = c.loop-k.invariant in
    record { within = f.within; few = omega arith; lines = f.lines; count_is = f.count_is; without = f.without; parts = f.parts; all = inr (subst (IsWithout 10) c.split_at.ensures.back c.in_default.ensures) }

pub returns : goal.returns
returns c =
    let f = c.loop-k.invariant in
    let n = f.count_is in
    record { within = f.within; few = omega arith; lines = f.lines; count_is = omega arith; without = f.without; parts = f.parts; all = inl refl }
