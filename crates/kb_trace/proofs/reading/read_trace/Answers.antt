use Rattle.std.proofs.Common.{arith, ◌≡◌, ◌+◌, ◌-◌, ◌≤◌, ◌++◌, [], List, length, sym, ap, ◌∙◌, subst, drop}
use Rattle.std.proofs.lemmas.List.{length-drop}
use Rattle.std.proofs.lemmas.List.Elements.{All-nil}
use Rattle.kb_overlap.specs.Trace.{TraceStep}
use Rattle.kb_trace.specs.TraceText.{IsStepForm, IsTraceForm, trace_text}
use Rattle.kb_trace.proofs.TraceLines.{IsReadPart, part_pushed, part_bad, part_whole, part_one}
use Rattle.kb_trace.proofs.reading.read_trace.Goals as goal

pub loop-at-init : goal.loop-at-init
loop-at-init c = record {
  read = subst (IsReadPart c.args.sig.now c.args.lines.now 0 1) (sym c.new-steps.ensures.items) (record { within = omega arith; number_is = omega arith; parts = λ i. c.args.lines.now; form = record { count = omega arith; steps = All-nil (IsStepForm c.args.sig.now) } });
  names = c.names_are_identifiers.ensures.kept;
}

pub loop-at-preserved : goal.loop-at-preserved
loop-at-preserved c =
    let size = rw c.in-Some.is at c.in_ok-step.ensures.size in
    record {
      read = part_pushed c.args.sig.now c.args.lines.now c.split_at.result.1.now c.loop-at.at c.in-Some.size c.loop-at.number c.loop-at.steps.items c.push.new.self.items c.in-Some.step c.loop-at.invariant.read c.split_at.ensures.back (rw c.in-Some.is at c.in_ok-step.ensures.step) size.1 c.in_ok-push.ensures.items;
      names = c.loop-at.invariant.names;
    }

pub returns-in_default-clause-fault : goal.returns-in_default-clause-fault
returns-in_default-clause-fault c =
    part_bad c.args.sig.now c.loop-at.invariant.names c.args.lines.now c.split_at.result.1.now c.loop-at.at c.loop-at.number c.loop-at.steps.items c.loop-at.invariant.read c.split_at.ensures.back (omega arith) (rw c.in_default.is at c.in_ok-step.ensures.step)

pub returns-clause-read : goal.returns-clause-read
returns-clause-read c =
    let r = c.loop-at.invariant.read in
    (subst (IsTraceForm c.args.sig.now) (sym c.new.ensures) r.form, part_whole c.args.sig.now c.args.lines.now c.loop-at.at c.loop-at.number c.loop-at.steps.items r (omega arith) ∙ ap (trace_text c.args.sig.now) (sym c.new.ensures))

pub returns-clause-one : goal.returns-clause-one
returns-clause-one c = λ u f e.
    let r = c.loop-at.invariant.read in
    c.new.ensures ∙ part_one c.args.sig.now c.loop-at.invariant.names c.args.lines.now c.loop-at.steps.items u r.form f (part_whole c.args.sig.now c.args.lines.now c.loop-at.at c.loop-at.number c.loop-at.steps.items r (omega arith)) e
