-- Lists and tests.
use Rattle.std.proofs.Common.{ℕ, zero, suc, ◌+◌, ◌≡◌, ◌≢◌, ◌==◌, refl, sym, ap, ◌∙◌, subst, arith, All, List, [], ◌∷◌, ◌++◌, length, filter, map, Contains, Bool, true, false, not, ◌||◌, ◌&&◌, Option, Some, None}
use Rattle.std.specs.Prelude.{AllPairs, if◌then◌else◌}
use Rattle.std.proofs.lemmas.Bool.Decides.{nat_tests}
use Rattle.kb_lemmas.proofs.Membership.{all_rest}
use Rattle.mkb_model.specs.declared.entry.Ticket.{Ticket}

pub if_both : {A : Type 0} (p q : Bool) (x y : A) → p ≡ true → q ≡ true → (if p && q then x else y) ≡ x
if_both p q x y e f = rw (e, f) refl

pub if_first_off : {A : Type 0} (p q : Bool) (x y : A) → p ≡ false → (if p && q then x else y) ≡ y
if_first_off p q x y e = rw e refl

pub if_second_off : {A : Type 0} (p q : Bool) (x y : A) → q ≡ false → (if p && q then x else y) ≡ y
if_second_off true q x y e = rw e refl
if_second_off false q x y e = refl

pub if_same : {A : Type 0} (p : Bool) (x y : A) → x ≡ y → (if p then x else y) ≡ y
if_same true x y e = e
if_same false x y e = refl

pub or_none : (p : Bool) → p ≡ false → (p || false) ≡ false
or_none p e = rw e refl

-- what holds of all holds of each
pub all_in : {A : Type 0} (P : A → Type 0) (xs : List A) (x : A) → All P xs → Contains xs x → P x
all_in {A} P xs x h k = subst {A = A} P k.2 (h k.0 x k.1)

pub all_first : {A : Type 0} (P : A → Type 0) (x : A) (xs : List A) → All P (x ∷ xs) → P x
all_first P x xs h = h zero x (omega arith)

pub all_map : {A : Type 0} (P Q : A → Type 0) (xs : List A) → ((x : A) → P x → Q x) → All P xs → All Q xs
all_map {A} P Q xs f h i d l = f _ (h i d l)

abbrev pub Differ : List Ticket → Type 0
Differ ts = AllPairs (λ (t u : Ticket). t.number ≢ u.number) ts

-- the others have other numbers
pub differ_first : (t : Ticket) (ts : List Ticket) → Differ (t ∷ ts) → All (λ (u : Ticket). t.number ≢ u.number) ts
differ_first t ts h i d l = h zero (suc i) d (omega arith) (omega (arith, l))

kept : (n : ℕ) (ts : List Ticket) → All (λ (u : Ticket). n ≢ u.number) ts → filter (λ (x : Ticket). not (x.number == n)) ts ≡ ts
kept n [] h = refl
kept n (u ∷ us) h =
    let e : (u.number == n) ≡ false = grind (arith, nat_tests, all_first (λ (x : Ticket). n ≢ x.number) u us h) in
    let r = kept n us (all_rest (λ (x : Ticket). n ≢ x.number) u us h) in
    grind (arith, e, r)

-- where the first ticket lands the others stay
pub lands_first : (t : Ticket) (ts : List Ticket) → Differ (t ∷ ts) → filter (λ (x : Ticket). not (x.number == t.number)) (t ∷ ts) ≡ ts
lands_first t ts h =
    let e : (t.number == t.number) ≡ true = grind (arith, nat_tests) in
    let r = kept t.number ts (differ_first t ts h) in
    grind (arith, e, r)
