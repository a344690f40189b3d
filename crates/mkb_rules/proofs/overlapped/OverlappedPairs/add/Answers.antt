use Rattle.std.proofs.Common.{List, position, [], ◌∷◌, ◌++◌, ap, ap₂, sym, ◌∙◌}
use Rattle.indexmap.specs.IndexSet.{insert_key}
use Rattle.mkb_rules.specs.Keyed.{is_kept_for, key_eq, keys_of_pairs}
use Rattle.mkb_rules.specs.declared.overlapped.DonePair.{DonePair}
use Rattle.mkb_rules.specs.declared.overlapped.OverlapKey.{OverlapKey}
use Rattle.mkb_rules.proofs.Keyed.{key_added}
use Rattle.mkb_rules.proofs.overlapped.OverlappedPairs.add.Goals as goal

pub invariant_of-self-2 : goal.invariant_of-self-2
invariant_of-self-2 c =
    let a = c.args.a in
    let b = c.args.b in
    let ds = c.self.inside.pairs.items in
    let none = sym c.requires ∙ ap (position (is_kept_for a b)) (sym c.self.view_is) in
    let pairs = (rw c.unwrap.ensures at c.push.ensures.items) ∙ ap (λ (l : List DonePair). l ++ record { first = a; second = b; names = c.args.names } ∷ []) c.in_ok-reserve.ensures.items in
    c.in_ok-insert.ensures.keys
    ∙ ap₂ (λ (ks : List OverlapKey) (k : OverlapKey). insert_key key_eq ks k) c.self.invariant c.key_of.ensures
    ∙ key_added a b ds c.args.names none
    ∙ ap keys_of_pairs (sym pairs)
