use Rattle.std.proofs.Common.{arith, length, ◌≡◌, ◌∙◌, ap, subst, refl, List, Some, None, Ok, Vec, Global}
use Rattle.std.specs.Prelude.{Option, IfSome}
use Rattle.kb_term.specs.View.{tree_of}
use Rattle.kb_unify.specs.declared.extent.Extent.{Extent}
use Rattle.kb_unify.specs.declared.table.Slot.{Slot}
use Rattle.kb_unify.specs.Extent.{IsMeasurement, IsSolution, extents_of}
use Rattle.kb_unify.specs.Reading.{IsLimitPassed, ListsBound}
use Rattle.kb_unify.proofs.Limits.{whole_clash, whole_unsolved, whole_long, whole_readable, whole_unifier, whole_list, restricted}
use Rattle.kb_unify.proofs.Measuring.{length-extents_of}
use Rattle.kb_unify.proofs.unifier.solve.Goals as goal

pub returns-then-not-branch : goal.returns-then-not-branch
returns-then-not-branch c =
    whole_clash c.variable_places-variables.result ((c.variable_places-variables.ensures 128).1 (c.requires.a_variables, c.requires.b_variables)) (tree_of c.args.a.now) (tree_of c.args.b.now) ((c.variable_places-variables.ensures c.variable_places-variables.result).0 (omega arith)).0 ((c.variable_places-variables.ensures c.variable_places-variables.result).0 (omega arith)).1 c.in_ok-slots.slots.items c.in_ok-slots.ensures (c.close_table.ensures.clash (c.in_ok-close_table.was ∙ ap Ok c.if-not-branch.true))

pub returns-in-None : goal.returns-in-None
returns-in-None c =
    whole_unsolved c.variable_places-variables.result ((c.variable_places-variables.ensures 128).1 (c.requires.a_variables, c.requires.b_variables)) (tree_of c.args.a.now) (tree_of c.args.b.now) ((c.variable_places-variables.ensures c.variable_places-variables.result).0 (omega arith)).0 ((c.variable_places-variables.ensures c.variable_places-variables.result).0 (omega arith)).1 c.in_ok-slots.slots.items c.in_ok-slots.ensures c.close_table.new.slots.items (c.close_table.ensures.closed (c.in_ok-close_table.was ∙ ap Ok c.if-not-branch.false))
    (subst (λ s. IsMeasurement s None) c.deref.ensures.value (c.measure.ensures.none (c.in_ok-measure.was ∙ ap Ok c.in-None.is)))

measured : (s r : List Slot) (o : Option (Vec (Option Extent) Global)) (v : Vec (Option Extent) Global) → r ≡ s → o ≡ Some v → IfSome o (λ v. IsMeasurement r (Some (extents_of v.items))) → IsMeasurement s (Some (extents_of v.items))
measured s r o v e is h = subst (λ s. IsMeasurement s (Some (extents_of v.items))) e (subst (λ o. IfSome o (λ v. IsMeasurement r (Some (extents_of v.items)))) is h)

pub returns-in-Some-limit_passed : goal.returns-in-Some-limit_passed
returns-in-Some-limit_passed c =
    let h = measured c.close_table.new.slots.items c.deref.result.now c.in_ok-measure.field-0 c.in-Some.known c.deref.ensures.value c.in-Some.is c.in_ok-measure.ensures.solution in (
      restricted c.variable_places-variables.result h.0,
      whole_unifier c.variable_places-variables.result ((c.variable_places-variables.ensures 128).1 (c.requires.a_variables, c.requires.b_variables)) (tree_of c.args.a.now) (tree_of c.args.b.now) ((c.variable_places-variables.ensures c.variable_places-variables.result).0 (omega arith)).0 ((c.variable_places-variables.ensures c.variable_places-variables.result).0 (omega arith)).1 c.in_ok-slots.slots.items c.in_ok-slots.ensures c.close_table.new.slots.items (c.close_table.ensures.closed (c.in_ok-close_table.was ∙ ap Ok c.if-not-branch.false))
          (extents_of c.in-Some.known.items)
          h
          (Some c.in-Some-limit_passed.limit)
          (subst (λ ks. IsLimitPassed c.variable_places-variables.result (extents_of ks) (Some c.in-Some-limit_passed.limit)) c.deref-in-Some.ensures.value c.in-Some-limit_passed.ensures)
          (restricted c.variable_places-variables.result h.0)
          (λ n. refl),
    )

pub returns : goal.returns
returns c =
    let h = measured c.close_table.new.slots.items c.deref.result.now c.in_ok-measure.field-0 c.in-Some.known c.deref.ensures.value c.in-Some.is c.in_ok-measure.ensures.solution in
    let solution : IsSolution c.deref-in-None-limit_passed.result.now (extents_of c.deref-in-None-limit_passed-2.result.now) h.0 = rw (c.deref-in-None-limit_passed.ensures.value, c.deref-in-None-limit_passed-2.ensures.value) h.1 in
    let m = c.in_ok-read_off-in-None-limit_passed.field-0 in
    whole_list c.variable_places-variables.result ((c.variable_places-variables.ensures 128).1 (c.requires.a_variables, c.requires.b_variables)) (tree_of c.args.a.now) (tree_of c.args.b.now) ((c.variable_places-variables.ensures c.variable_places-variables.result).0 (omega arith)).0 ((c.variable_places-variables.ensures c.variable_places-variables.result).0 (omega arith)).1 c.in_ok-slots.slots.items c.in_ok-slots.ensures c.close_table.new.slots.items (c.close_table.ensures.closed (c.in_ok-close_table.was ∙ ap Ok c.if-not-branch.false))
    (extents_of c.in-Some.known.items)
    h
    (subst (λ ks. IsLimitPassed c.variable_places-variables.result (extents_of ks) None) c.deref-in-Some.ensures.value c.in-None-limit_passed.ensures)
    m
    (c.in_ok-read_off-in-None-limit_passed.ensures.terms h.0 solution)
    (subst (λ s. ListsBound c.variable_places-variables.result s m) c.deref-in-None-limit_passed.ensures.value c.in_ok-read_off-in-None-limit_passed.ensures.variables)

pub table_of-requires-clause-few : goal.table_of-requires-clause-few
table_of-requires-clause-few c = (c.variable_places-variables.ensures 128).1 (c.requires.a_variables, c.requires.b_variables)

pub table_of-requires-clause-a_variables : goal.table_of-requires-clause-a_variables
table_of-requires-clause-a_variables c = ((c.variable_places-variables.ensures c.variable_places-variables.result).0 (omega arith)).0

pub table_of-requires-clause-b_variables : goal.table_of-requires-clause-b_variables
table_of-requires-clause-b_variables c = ((c.variable_places-variables.ensures c.variable_places-variables.result).0 (omega arith)).1

pub read_off-requires-clause-few : goal.read_off-requires-clause-few
read_off-requires-clause-few c = (c.variable_places-variables.ensures 128).1 (c.requires.a_variables, c.requires.b_variables)

pub read_off-requires-clause-readable : goal.read_off-requires-clause-readable
read_off-requires-clause-readable c =
    let h = measured c.close_table.new.slots.items c.deref.result.now c.in_ok-measure.field-0 c.in-Some.known c.deref.ensures.value c.in-Some.is c.in_ok-measure.ensures.solution in
    let r = whole_readable c.variable_places-variables.result ((c.variable_places-variables.ensures 128).1 (c.requires.a_variables, c.requires.b_variables)) (tree_of c.args.a.now) (tree_of c.args.b.now) ((c.variable_places-variables.ensures c.variable_places-variables.result).0 (omega arith)).0 ((c.variable_places-variables.ensures c.variable_places-variables.result).0 (omega arith)).1 c.in_ok-slots.slots.items c.in_ok-slots.ensures c.close_table.new.slots.items (c.close_table.ensures.closed (c.in_ok-close_table.was ∙ ap Ok c.if-not-branch.false)) (extents_of c.in-Some.known.items) h in
    rw (c.deref-in-None-limit_passed.ensures.value, c.deref-in-None-limit_passed-2.ensures.value) r

pub limit_passed-requires : goal.limit_passed-requires
limit_passed-requires c =
    let h = measured c.close_table.new.slots.items c.deref.result.now c.in_ok-measure.field-0 c.in-Some.known c.deref.ensures.value c.in-Some.is c.in_ok-measure.ensures.solution in
    let long = whole_long c.variable_places-variables.result ((c.variable_places-variables.ensures 128).1 (c.requires.a_variables, c.requires.b_variables)) (tree_of c.args.a.now) (tree_of c.args.b.now) ((c.variable_places-variables.ensures c.variable_places-variables.result).0 (omega arith)).0 ((c.variable_places-variables.ensures c.variable_places-variables.result).0 (omega arith)).1 c.in_ok-slots.slots.items c.in_ok-slots.ensures c.close_table.new.slots.items (c.close_table.ensures.closed (c.in_ok-close_table.was ∙ ap Ok c.if-not-branch.false)) in
    omega (arith, long, h.1.lengths, length-extents_of c.in-Some.known.items, ap length c.deref-in-Some.ensures.value)
