use Rattle.std.proofs.Common.{◌∙◌, List, ap, sym, arith}
use Rattle.std.specs.Prelude.{slice_set}
use Rattle.kb_label.specs.Names.{Name}
use Rattle.mkb_rules.specs.Forking.{with_names_at}
use Rattle.mkb_rules.specs.Kept.{plain_done}
use Rattle.mkb_rules.proofs.DoneLists.{names_put, names_beyond}
use Rattle.mkb_rules.proofs.Keyed.{keys_put}
use Rattle.mkb_rules.proofs.overlapped.OverlappedPairs.swap_names.Goals as goal

pub invariant_of-self : goal.invariant_of-self
invariant_of-self c = c.self.invariant ∙ keys_put c.self.inside.pairs.items c.args.place c.index_mut.result.now c.swap.new.x c.index_mut.ensures.value

pub returns-then-place-len : goal.returns-then-place-len
returns-then-place-len c =
    let ds = c.self.inside.pairs.items in
    let d = c.index_mut.result.now in
    ap (λ (l : List Name). plain_done (slice_set ds c.args.place (record d { names = l }))) c.swap.ensures.x_after
    ∙ names_put ds c.args.place c.args.names.now d (omega (arith, c.if-place-len.true, c.len.ensures, c.self.inside.pairs.ok.0)) c.index_mut.ensures.value
    ∙ ap (with_names_at c.args.place c.args.names.now) c.self.view_is

pub returns-else-place-len : goal.returns-else-place-len
returns-else-place-len c =
    sym c.self.view_is
    ∙ names_beyond c.self.inside.pairs.items c.args.place c.args.names.now (omega (arith, c.if-place-len.false, c.len.ensures, c.self.inside.pairs.ok.0))
    ∙ ap (with_names_at c.args.place c.args.names.now) c.self.view_is
