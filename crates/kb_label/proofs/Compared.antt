-- Labels of which one has all or none of the names of the other.
use Rattle.std.specs.Prelude.{List, [], ◌∷◌, Bool, true, false, ◌&&◌, ◌||◌, not, ◌≡◌, refl, filter}
use Rattle.std.proofs.Common.{ap, sym, ◌∙◌}
use mathlib.Core.Bool.{true≢false}
use Rattle.kb_label.specs.Names.{Name, has, join, meet, minus, is_empty, IsInNameOrder}
use Rattle.kb_label.proofs.Members.{has-filter, has-join, has-minus}
use Rattle.kb_label.proofs.Ordered.{ordered-filter, ordered-join}
use Rattle.kb_label.proofs.Sets.{same_names}

nobody : (l : List Name) (q : Name) → is_empty l ≡ true → has l q ≡ false
nobody [] q e = refl
nobody (p ∷ l) q e = absurd (true≢false (sym e))

none_passes : (f : Name → Bool) (l : List Name) (q : Name) → is_empty (filter f l) ≡ true → has l q ≡ true → f q ≡ false
none_passes f l q e h = sym (and_true (f q)) ∙ ap (λ b. f q && b) (sym h) ∙ sym (has-filter f l q) ∙ nobody (filter f l) q e
  where
    and_true : (b : Bool) → (b && true) ≡ b
    and_true true = refl
    and_true false = refl

-- who has all names of m gains nothing by it
pub joined_all : (l m : List Name) → IsInNameOrder l → IsInNameOrder m → is_empty (minus m l) ≡ true → join l m ≡ l
joined_all l m o w e = same_names (join l m) l (ordered-join l m w) o (λ q. has-join l m q ∙ go (has l q) (has m q) (none_passes (λ p. not (has l p)) m q e))
  where
    go : (a b : Bool) → (b ≡ true → not a ≡ false) → (a || b) ≡ a
    go true b h = refl
    go false true h = absurd (true≢false (h refl))
    go false false h = refl

-- who has none of the names of m loses nothing by it
pub left_all : (l m : List Name) → IsInNameOrder l → is_empty (meet m l) ≡ true → minus l m ≡ l
left_all l m o e = same_names (minus l m) l (ordered-filter (λ p. not (has m p)) l o) o (λ q. has-minus l m q ∙ go (has l q) (has m q) (none_passes (has l) m q e))
  where
    go : (a b : Bool) → (b ≡ true → a ≡ false) → (not b && a) ≡ a
    go a true h = sym (h refl)
    go a false h = refl
