use Rattle.std.proofs.Common.{ℕ, ◌≡◌, ◌<◌, ◌↔◌, List, length, get_or, refl, sym, subst}
use Rattle.std.specs.Prelude.{Contains, MatchOption, Option, Some, None, is_some, IsTrue}
use Rattle.kb_label.specs.Names.{Name}
use Rattle.mkb_pick.proofs.queue.Queue.is_seated.Goals as goal

-- a place was found where the name is listed
found : (l : List Name) (n : Name) (r : Option ℕ) → MatchOption r (¬ Contains l n) (λ k. (k < length l) × (get_or l k n ≡ n)) → IsTrue (is_some r) ↔ Contains l n
found l n None h = (λ t. absurd (cc), λ s. absurd (h s))
found l n (Some k) h = (λ t. (k, h.0, h.1), λ s. refl)

pub returns : goal.returns
returns c =
    let l = c.args.self.now.names.items in
    subst (λ b. IsTrue b ↔ Contains l c.args.name.now) (sym c.is_some.ensures) (found l c.args.name.now c.place_of.result c.place_of.ensures)
