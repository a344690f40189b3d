use Rattle.std.proofs.Common.{List, Bool, true, ℕ, set, ap, ap₂, sym, ◌∙◌, arith}
use Rattle.fork_labels.specs.Places.{names_of, stands_for}
use Rattle.fork_labels.proofs.Picked.{has-sorted}
use Rattle.fork_labels.proofs.Relabelled.{place_in-there, length-names_of}
use Rattle.fork_labels.proofs.Stands.{stands-add}
use Rattle.fork_labels.proofs.labels.ForkLabelsLabels.add.Goals as goal

pub insert-requires : goal.insert-requires
insert-requires c =
    let ns = names_of c.args.log.now in
    let there = place_in-there ns c.args.process.now (sym (has-sorted ns c.args.process.now) ∙ c.requires) in
    omega (arith, there.0, c.place_of.ensures.place, c.at_end-places.ensures.count, length-names_of c.args.log.now)

pub returns-clause-ok : goal.returns-clause-ok
returns-clause-ok c =
    ap (stands_for c.args.log.now) (c.insert.ensures ∙ ap₂ (λ (l : List Bool) (s : ℕ). set l s true) c.at_end-places.ensures.set c.place_of.ensures.place)
    ∙ stands-add c.args.log.now c.at_end-places.ensures.log c.args.self.now c.args.process.now c.at_end-places.ensures.some c.requires
