use Rattle.std.proofs.Common.{◌≡◌, ◌++◌, ◌∷◌, [], ℕ, List, ap, ap₂, subst, ◌∙◌}
use Rattle.kb_label.specs.Names.{Name, relabel}
use Rattle.fork_labels.specs.Places.{IsLog, living_of, forked}
use Rattle.fork_labels.proofs.Logs.{fork_living, fork_log}
use Rattle.fork_labels.proofs.fork_log.ForkLogLiving.fork.Goals as goal

pub invariant_of-self : goal.invariant_of-self
invariant_of-self c =
    let now = c.args.self.now in
    let p = c.args.process.now in
    let log = subst IsLog c.self.view_is c.self.invariant.0 in
    let gs : c.in_ok-forks.forks.items ≡ forked now p = c.in_ok-forks.ensures ∙ ap₂ (λ (l : List ℕ) n. l ++ n ∷ []) (c.as_slice.ensures.value ∙ c.self.view_is) c.place_of-place.ensures.place in
    let same : c.fork.new.self ≡ relabel p (living_of now) = c.in_ok-fork.ensures.ok ∙ ap (λ (l : List Name). relabel p l) (c.in_ok-living.ensures ∙ c.self.invariant.2 ∙ ap living_of c.self.view_is) in
    fork_log now p log c.requires.living c.in_ok-forks.forks.items c.in_ok-places.places.items c.fork.new.self c.processes.result.now c.requires.room gs (c.processes.ensures ∙ same) c.in_ok-places.ensures same

pub returns-clause-ok : goal.returns-clause-ok
returns-clause-ok c =
    let now = c.args.self.now in
    let p = c.args.process.now in
    let log = subst IsLog c.self.view_is c.self.invariant.0 in
    let gs : c.in_ok-forks.forks.items ≡ forked now p = c.in_ok-forks.ensures ∙ ap₂ (λ (l : List ℕ) n. l ++ n ∷ []) (c.as_slice.ensures.value ∙ c.self.view_is) c.place_of-place.ensures.place in
    fork_living now p log c.requires.living c.in_ok-forks.forks.items gs

pub returns-clause-valid : goal.returns-clause-valid
returns-clause-valid c =
    let now = c.args.self.now in
    let p = c.args.process.now in
    let log = subst IsLog c.self.view_is c.self.invariant.0 in
    let gs : c.in_ok-forks.forks.items ≡ forked now p = c.in_ok-forks.ensures ∙ ap₂ (λ (l : List ℕ) n. l ++ n ∷ []) (c.as_slice.ensures.value ∙ c.self.view_is) c.place_of-place.ensures.place in
    let same : c.fork.new.self ≡ relabel p (living_of now) = c.in_ok-fork.ensures.ok ∙ ap (λ (l : List Name). relabel p l) (c.in_ok-living.ensures ∙ c.self.invariant.2 ∙ ap living_of c.self.view_is) in
    (fork_log now p log c.requires.living c.in_ok-forks.forks.items c.in_ok-places.places.items c.fork.new.self c.processes.result.now c.requires.room gs (c.processes.ensures ∙ same) c.in_ok-places.ensures same).0
