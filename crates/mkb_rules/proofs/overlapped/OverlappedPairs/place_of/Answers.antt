use Rattle.std.proofs.Common.{List, position, ap, ap₂, ◌∙◌}
use Rattle.mkb_rules.specs.Keyed.{is_kept_for, key_eq}
use Rattle.mkb_rules.specs.declared.overlapped.OverlapKey.{OverlapKey}
use Rattle.mkb_rules.proofs.Keyed.{key_place}
use Rattle.mkb_rules.proofs.overlapped.OverlappedPairs.place_of.Goals as goal

pub returns : goal.returns
returns c =
    c.get_index_of.ensures.index
    ∙ ap₂ (λ (k : OverlapKey) (ks : List OverlapKey). position (key_eq k) ks) c.key_of.ensures c.self.invariant
    ∙ key_place c.args.a c.args.b c.self.inside.pairs.items
    ∙ ap (position (is_kept_for c.args.a c.args.b)) c.self.view_is
