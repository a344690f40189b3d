-- The order of names is a total order, and its equality is equality.
use Rattle.std.specs.Prelude.{◌≡◌, Bool, true, false, [], ◌∷◌, length}
use Rattle.std.proofs.Common.{refl, sym, ap, ap₂}
use Rattle.std.specs.declared.cmp.Ordering.TheVariants.{Equal}
use Rattle.std.specs.Ordering.{is_eq, nat_cmp}
use Rattle.std.specs.Cmp.{IsTotalOrder, on_total, then_total, nat_cmp_total, bool_cmp_total, tied_itself}
use Rattle.std.specs.Cmp.Lexicographic.{lists_total}
use Rattle.kb_lemmas.proofs.Booleans.{then_equal, is_equal}
use Rattle.kb_label.specs.Names.{Name, bit_cmp, bits_cmp, name_cmp, name_eq}

pub bits_cmp-total : IsTotalOrder bits_cmp
bits_cmp-total = lists_total bool_cmp_total

pub name_cmp-total : IsTotalOrder name_cmp
name_cmp-total = then_total (on_total length nat_cmp_total) bits_cmp-total

bit_cmp-equal : (x y : Bool) → bit_cmp x y ≡ Equal → x ≡ y
bit_cmp-equal true true e = refl
bit_cmp-equal true false e = absurd (cc)
bit_cmp-equal false true e = absurd (cc)
bit_cmp-equal false false e = refl

pub bits_cmp-equal : (p q : Name) → bits_cmp p q ≡ Equal → p ≡ q
bits_cmp-equal [] [] e = refl
bits_cmp-equal [] (y ∷ q) e = absurd (cc)
bits_cmp-equal (x ∷ p) [] e = absurd (cc)
bits_cmp-equal (x ∷ p) (y ∷ q) e =
    let h = then_equal (bit_cmp x y) (bits_cmp p q) e in
    ap₂ ◌∷◌ (bit_cmp-equal x y h.0) (bits_cmp-equal p q h.1)

pub name_cmp-equal : (p q : Name) → name_cmp p q ≡ Equal → p ≡ q
name_cmp-equal p q e = bits_cmp-equal p q (then_equal (nat_cmp (length p) (length q)) (bits_cmp p q) e).1

pub name_cmp-same : (p : Name) → name_cmp p p ≡ Equal
name_cmp-same p = tied_itself name_cmp-total p

same_test : (b c : Bool) → (b ≡ true → c ≡ true) → (c ≡ true → b ≡ true) → b ≡ c
same_test true c f g = sym (f refl)
same_test false true f g = g refl
same_test false false f g = refl

-- two names are the same where neither comes before the other
pub name_eq-by_cmp : (p q : Name) → name_eq p q ≡ is_eq (name_cmp p q)
name_eq-by_cmp p q =
    same_test (name_eq p q) (is_eq (name_cmp p q))
    (λ e. let h = bits_cmp-equal p q (is_equal (bits_cmp p q) e) in rw (← h) (ap is_eq (name_cmp-same p)))
    (λ e. ap is_eq (then_equal (nat_cmp (length p) (length q)) (bits_cmp p q) (is_equal (name_cmp p q) e)).1)
