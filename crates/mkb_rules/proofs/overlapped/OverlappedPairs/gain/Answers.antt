use Rattle.std.proofs.Common.{List, position, ap, sym, ◌∙◌}
use Rattle.std.specs.Prelude.{slice_set}
use Rattle.std.proofs.lemmas.Result.{on_ok_weaker}
use Rattle.kb_label.specs.Names.{Name}
use Rattle.mkb_model.specs.Effects.{gains_done_in}
use Rattle.mkb_rules.specs.Keyed.{is_kept_for}
use Rattle.mkb_rules.specs.Kept.{plain_done}
use Rattle.mkb_rules.proofs.DoneLists.{gains_found, gains_new}
use Rattle.mkb_rules.proofs.Keyed.{keys_put}
use Rattle.mkb_rules.proofs.overlapped.OverlappedPairs.gain.Goals as goal

pub invariant_of-self : goal.invariant_of-self
invariant_of-self c = c.self.invariant ∙ keys_put c.self.inside.pairs.items c.in-Some.place c.index_mut-pair.result.now c.join.new.self c.index_mut-pair.ensures.value

pub returns-in-Some-clause-ok : goal.returns-in-Some-clause-ok
returns-in-Some-clause-ok c =
    let a = c.args.a in
    let b = c.args.b in
    let ds = c.self.inside.pairs.items in
    let pair = c.index_mut-pair.result.now in
    on_ok_weaker c.join.result
    (λ joined.
    ap (λ (l : List Name). plain_done (slice_set ds c.in-Some.place (record pair { names = l }))) joined
    ∙ gains_found a b c.args.names ds c.in-Some.place pair (c.in-Some.ensures ∙ ap (position (is_kept_for a b)) (sym c.self.view_is)) c.index_mut-pair.ensures.value
    ∙ ap (gains_done_in a b c.args.names) c.self.view_is)
    c.join.ensures.ok

pub returns-in-None-clause-ok : goal.returns-in-None-clause-ok
returns-in-None-clause-ok c = on_ok_weaker c.add.result (λ added. added ∙ gains_new c.args.a c.args.b c.args.names c.args.self.now c.in-None.ensures) c.add.ensures.ok
