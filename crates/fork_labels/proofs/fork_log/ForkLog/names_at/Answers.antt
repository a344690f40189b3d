use Rattle.std.proofs.Common.{◌≡◌, ℕ, List, false, get_or, filter, map, ap, ap₂, subst, ◌∙◌}
use Rattle.std.specs.Prelude.{IfOk}
use Rattle.kb_label.specs.Names.{Name}
use Rattle.fork_labels.specs.Places.{living_of, names_of, picked, place_in}
use Rattle.fork_labels.proofs.NamesAt.{picked-filter}
use Rattle.fork_labels.proofs.fork_log.ForkLog.names_at.Goals as goal

pub returns : goal.returns
returns c =
    let g = λ (s : ℕ). get_or c.args.set.now s false in
    let fs = c.self.inside.forks.items in
    let living = c.processes.ensures ∙ c.self.invariant.2 in
    let same : picked (map g c.as_slice.result.now) c.processes.result.now ≡ filter (λ q. g (place_in (names_of c.args.self.now) q)) (living_of c.args.self.now) =
    ap₂ (λ (s : List ℕ) (l : List Name). picked (map g s) l) (c.as_slice.ensures.value ∙ c.self.invariant.1) living
    ∙ picked-filter g (place_in (names_of fs)) (living_of fs)
    ∙ ap (λ (l : List ℕ). filter (λ q. g (place_in (names_of l) q)) (living_of l)) c.self.view_is in
    subst (λ (l : List Name). IfOk c.names_among.result (λ names. names.items ≡ l)) same c.names_among.ensures
