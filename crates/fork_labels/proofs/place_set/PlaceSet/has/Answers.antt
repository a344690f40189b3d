use Rattle.std.proofs.Common.{List, Bool, false, get_or, sym, ap, ◌∙◌, arith}
use Rattle.std.proofs.lemmas.Bool.Decides.{nat_tests}
use Rattle.std.proofs.lemmas.List.{get_or_past}
use Rattle.fork_labels.specs.Sets.{has_place, set_in}
use Rattle.fork_labels.proofs.SetIn.{get_or-set_in, length-set_in}
use Rattle.fork_labels.proofs.place_set.PlaceSet.has.Goals as goal

pub returns-then-s-self : goal.returns-then-s-self
unfolding has_place
returns-then-s-self c =
    sym (get_or-set_in c.self.inside.words c.self.inside.len c.args.s (omega arith))
    ∙ ap (λ (l : List Bool). get_or l c.args.s false) c.self.view_is

pub returns-else-s-self : goal.returns-else-s-self
returns-else-s-self c =
    let past = get_or_past (set_in c.self.inside.words c.self.inside.len) c.args.s false (omega (arith, length-set_in c.self.inside.words c.self.inside.len)) in
    grind (arith, nat_tests, sym past ∙ ap (λ (l : List Bool). get_or l c.args.s false) c.self.view_is)
