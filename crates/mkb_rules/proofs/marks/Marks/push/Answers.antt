use Rattle.std.proofs.Common.{◌≡◌, List, Bool, true, false, ◌∷◌, [], ◌++◌, length, cond, sym, subst}
use Rattle.std.specs.Prelude.{IfSome, is_ok}
use Rattle.std.proofs.lemmas.Option.{IfSome_then}
use Rattle.mkb_rules.specs.Sizes.{AreListed}
use Rattle.mkb_rules.proofs.Listing.{listed_new}
use Rattle.mkb_rules.proofs.marks.Marks.push.Goals as goal

pub invariant_of-self : goal.invariant_of-self
invariant_of-self c = go (is_ok c.push.result) c.push.ensures.items
  where
    old : List Bool
    old = c.self.inside.used.items

    Listed : List Bool → Type 0
    Listed used = IfSome c.self.inside.list (λ l. AreListed used (length used) l.items)

    go : (b : Bool) → c.push.new.self.items ≡ cond b (old ++ false ∷ []) old → Listed c.push.new.self.items
    go true e = subst {A = List Bool} Listed (sym e) (IfSome_then c.self.inside.list c.self.invariant (λ l a. listed_new old l.items a))
    go false e = subst {A = List Bool} Listed (sym e) c.self.invariant
