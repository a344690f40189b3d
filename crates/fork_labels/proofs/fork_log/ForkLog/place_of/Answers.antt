use Rattle.std.proofs.Common.{ℕ, List, length, map, ap, sym, subst, ◌∙◌, arith}
use Rattle.kb_label.specs.Names.{IsInNameOrder}
use Rattle.fork_labels.specs.Places.{names_of, place_in}
use Rattle.fork_labels.proofs.Picked.{sorted}
use Rattle.fork_labels.proofs.PlaceOf.{place_of_living, place_in-most}
use Rattle.fork_labels.proofs.Relabelled.{length-names_of}
use Rattle.fork_labels.proofs.fork_log.ForkLog.place_of.Goals as goal

pub place_among-requires-clause-in_order : goal.place_among-requires-clause-in_order
place_among-requires-clause-in_order c = subst IsInNameOrder (sym (c.processes.ensures ∙ c.self.invariant.2)) (sorted (names_of c.self.inside.forks.items))

pub returns-clause-place : goal.returns-clause-place
returns-clause-place c =
    let fs = c.self.inside.forks.items in
    let living = c.processes.ensures ∙ c.self.invariant.2 in
    place_of_living fs c.as_slice.result.now c.processes.result.now c.args.process.now c.place_among.result c.self.invariant.0 living
    (c.as_slice.ensures.value ∙ c.self.invariant.1 ∙ ap (map (place_in (names_of fs))) (sym living)) c.place_among.ensures.found c.place_among.ensures.absent
    ∙ ap (λ (l : List ℕ). place_in (names_of l) c.args.process.now) c.self.view_is

pub returns-clause-most : goal.returns-clause-most
returns-clause-most c =
    omega (arith, returns-clause-place c, place_in-most (names_of c.args.self.now) c.args.process.now, length-names_of c.args.self.now, c.self.invariant.3, ap length c.self.view_is)
