-- Members of lists that are filtered, mapped, joined and searched; small facts on tests.
use Rattle.std.proofs.Common.{ℕ, zero, suc, ◌+◌, ◌≤◌, ◌<◌, ◌≡◌, ◌⊎◌, inl, inr, refl, sym, ap, ◌∙◌, subst, arith, List, [], ◌∷◌, filter, Contains, Bool, true, false, cond, not, Option, Some, None, ⊎_elim}
use Rattle.std.specs.List.{find, list_any, list_all, filter_map, cons_option}
use Rattle.mkb_model.specs.Plain.{numbers_from}
use mathlib.Core.Bool.{true≢false}
use Rattle.std.proofs.lemmas.Bool.{and_from, or_cases, or_left, or_right}
use Rattle.kb_lemmas.proofs.Booleans.{and_gives_left, and_gives_right}
use Rattle.kb_lemmas.proofs.Options.{none_some, some_is}
use Rattle.kb_lemmas.proofs.Membership.{none_in, contains_cases, contains_behind, contains_first}

-- ---- tests

pub clash : {x : Bool} {P : Type 0} → x ≡ true → x ≡ false → P
clash t f = absurd (true≢false (sym t ∙ f))

pub decide : (x : Bool) → (x ≡ true) ⊎ (x ≡ false)
decide true = inl refl
decide false = inr refl

pub false_unless : (x : Bool) → ¬ (x ≡ true) → x ≡ false
false_unless true h = absurd (h refl)
false_unless false h = refl

pub not_true : {x : Bool} → not x ≡ true → x ≡ false
not_true {x = true} h = absurd (true≢false (sym h))
not_true {x = false} h = refl

pub not_false : {x : Bool} → not x ≡ false → x ≡ true
not_false {x = true} h = refl
not_false {x = false} h = absurd (true≢false h)

pub not_of_false : {x : Bool} → x ≡ false → not x ≡ true
not_of_false {x = true} h = absurd (true≢false h)
not_of_false {x = false} h = refl

pub not_of_true : {x : Bool} → x ≡ true → not x ≡ false
not_of_true {x = true} h = refl
not_of_true {x = false} h = absurd (true≢false (sym h))

-- two tests are the same where each gives the other
pub same_test : (x y : Bool) → (x ≡ true → y ≡ true) → (y ≡ true → x ≡ true) → x ≡ y
same_test true y f g = sym (f refl)
same_test false true f g = g refl
same_test false false f g = refl

-- ---- members

pub filter_in : {X : Type 0} (p : X → Bool) (xs : List X) (x : X) → Contains (filter p xs) x → Contains xs x × (p x ≡ true)
filter_in p [] x c = none_in c
filter_in {X} p (y ∷ ys) x c = go (λ k. filter_in p ys x k) (p y) refl c
  where
    go : (Contains (filter p ys) x → Contains ys x × (p x ≡ true)) → (b : Bool) → p y ≡ b → Contains (cond b (y ∷ filter p ys) (filter p ys)) x → Contains (y ∷ ys) x × (p x ≡ true)
    go ih true e d = ⊎_elim (λ q. (subst {A = X} (Contains (y ∷ ys)) q (contains_first y ys), subst {A = X} (λ z. p z ≡ true) q e)) (λ k. let r = ih k in (contains_behind y ys x r.0, r.1)) (contains_cases y (filter p ys) x d)
    go ih false e d = let r = ih d in (contains_behind y ys x r.0, r.1)

pub in_filter : {X : Type 0} (p : X → Bool) (xs : List X) (x : X) → Contains xs x → p x ≡ true → Contains (filter p xs) x
in_filter p [] x c h = none_in c
in_filter {X} p (y ∷ ys) x c h = go (λ k. in_filter p ys x k h) (p y) refl (contains_cases y ys x c)
  where
    go : (Contains ys x → Contains (filter p ys) x) → (b : Bool) → p y ≡ b → (y ≡ x) ⊎ Contains ys x → Contains (cond b (y ∷ filter p ys) (filter p ys)) x
    go ih true e (inl q) = subst {A = X} (Contains (y ∷ filter p ys)) q (contains_first y (filter p ys))
    go ih true e (inr k) = contains_behind y (filter p ys) x (ih k)
    go ih false e (inl q) = clash (subst {A = X} (λ z. p z ≡ true) (sym q) h) e
    go ih false e (inr k) = ih k

pub filter_map_in : {X Y : Type 0} (f : X → Option Y) (xs : List X) (y : Y) → Contains (filter_map f xs) y → (x : X) × Contains xs x × (f x ≡ Some y)
filter_map_in f [] y c = none_in c
filter_map_in {X} {Y} f (x ∷ xs) y c = go (λ d. let r = filter_map_in f xs y d in (r.0, contains_behind x xs r.0 r.1, r.2)) (f x) refl c
  where
    go : (Contains (filter_map f xs) y → (z : X) × Contains (x ∷ xs) z × (f z ≡ Some y)) → (o : Option Y) → f x ≡ o → Contains (cons_option o (filter_map f xs)) y → (z : X) × Contains (x ∷ xs) z × (f z ≡ Some y)
    go later None e d = later d
    go later (Some w) e d = ⊎_elim (λ q. (x, contains_first x xs, e ∙ ap {B = Option Y} Some q)) later (contains_cases w (filter_map f xs) y d)

pub in_filter_map : {X Y : Type 0} (f : X → Option Y) (xs : List X) (x : X) (y : Y) → Contains xs x → f x ≡ Some y → Contains (filter_map f xs) y
in_filter_map f [] x y c h = none_in c
in_filter_map {X} {Y} f (z ∷ zs) x y c h = go (λ k. in_filter_map f zs x y k h) (f z) refl (contains_cases z zs x c)
  where
    go : (Contains zs x → Contains (filter_map f zs) y) → (o : Option Y) → f z ≡ o → (z ≡ x) ⊎ Contains zs x → Contains (cons_option o (filter_map f zs)) y
    go ih None e (inl q) = none_some (sym e ∙ ap f q ∙ h)
    go ih None e (inr k) = ih k
    go ih (Some w) e (inl q) = subst {A = Y} (Contains (w ∷ filter_map f zs)) (some_is (sym e ∙ ap f q ∙ h)) (contains_first w (filter_map f zs))
    go ih (Some w) e (inr k) = contains_behind w (filter_map f zs) y (ih k)

pub find_in : {X : Type 0} (p : X → Bool) (xs : List X) (x : X) → find p xs ≡ Some x → Contains xs x × (p x ≡ true)
find_in p [] x h = none_some h
find_in {X} p (y ∷ ys) x h = go (λ k. find_in p ys x k) (p y) refl h
  where
    go : (find p ys ≡ Some x → Contains ys x × (p x ≡ true)) → (b : Bool) → p y ≡ b → cond b (Some y) (find p ys) ≡ Some x → Contains (y ∷ ys) x × (p x ≡ true)
    go ih true e k = (subst {A = X} (Contains (y ∷ ys)) (some_is k) (contains_first y ys), subst {A = X} (λ z. p z ≡ true) (some_is k) e)
    go ih false e k = let r = ih k in (contains_behind y ys x r.0, r.1)

pub find_none : {X : Type 0} (p : X → Bool) (xs : List X) → find p xs ≡ None → (x : X) → Contains xs x → p x ≡ false
find_none p [] h x c = none_in c
find_none {X} p (y ∷ ys) h x c = go (λ k d. find_none p ys k x d) (p y) refl h (contains_cases y ys x c)
  where
    go : (find p ys ≡ None → Contains ys x → p x ≡ false) → (b : Bool) → p y ≡ b → cond b (Some y) (find p ys) ≡ None → (y ≡ x) ⊎ Contains ys x → p x ≡ false
    go ih true e k d = none_some (sym k)
    go ih false e k (inl q) = subst {A = X} (λ z. p z ≡ false) q e
    go ih false e k (inr d) = ih k d

pub any_in : {X : Type 0} (p : X → Bool) (xs : List X) → list_any p xs ≡ true → (x : X) × Contains xs x × (p x ≡ true)
any_in p [] h = clash h refl
any_in p (y ∷ ys) h = ⊎_elim (λ e. (y, contains_first y ys, e)) (λ k. let r = any_in p ys k in (r.0, contains_behind y ys r.0 r.1, r.2)) (or_cases (p y) (list_any p ys) h)

pub in_any : {X : Type 0} (p : X → Bool) (xs : List X) (x : X) → Contains xs x → p x ≡ true → list_any p xs ≡ true
in_any p [] x c h = none_in c
in_any {X} p (y ∷ ys) x c h = ⊎_elim (λ e. or_left (p y) (list_any p ys) (subst {A = X} (λ z. p z ≡ true) (sym e) h)) (λ k. or_right (p y) (list_any p ys) (in_any p ys x k h)) (contains_cases y ys x c)

pub any_none : {X : Type 0} (p : X → Bool) (xs : List X) → list_any p xs ≡ false → (x : X) → Contains xs x → p x ≡ false
any_none p xs h x c = false_unless (p x) (λ e. clash (in_any p xs x c e) h)

pub none_any : {X : Type 0} (p : X → Bool) (xs : List X) → ((x : X) → Contains xs x → p x ≡ false) → list_any p xs ≡ false
none_any p xs h = false_unless (list_any p xs) (λ e. let r = any_in p xs e in clash r.2 (h r.0 r.1))

pub all_of : {X : Type 0} (p : X → Bool) (xs : List X) → ((x : X) → Contains xs x → p x ≡ true) → list_all p xs ≡ true
all_of p [] h = refl
all_of p (y ∷ ys) h = and_from (p y) (list_all p ys) (h y (contains_first y ys)) (all_of p ys (λ x c. h x (contains_behind y ys x c)))

pub of_all : {X : Type 0} (p : X → Bool) (xs : List X) → list_all p xs ≡ true → (x : X) → Contains xs x → p x ≡ true
of_all p [] h x c = none_in c
of_all {X} p (y ∷ ys) h x c = ⊎_elim (λ e. subst {A = X} (λ z. p z ≡ true) e (and_gives_left (p y) (list_all p ys) h)) (λ k. of_all p ys (and_gives_right (p y) (list_all p ys) h) x k) (contains_cases y ys x c)

-- ---- numbers in a row

pub numbers_in : (n k m : ℕ) → Contains (numbers_from n k) m → (n ≤ m) × (m < n + k)
numbers_in n zero m c = none_in c
numbers_in n (suc k) m c = ⊎_elim (λ e. (omega (arith, e), omega (arith, e))) (λ d. let r = numbers_in (n + 1) k m d in (omega (arith, r.0), omega (arith, r.1))) (contains_cases n (numbers_from (n + 1) k) m c)

pub equal_or_more : (n m : ℕ) → n ≤ m → (n ≡ m) ⊎ (n + 1 ≤ m)
equal_or_more zero zero h = inl refl
equal_or_more zero (suc m) h = inr (omega arith)
equal_or_more (suc n) zero h = absurd (omega (arith, h))
equal_or_more (suc n) (suc m) h = ⊎_elim (λ e. inl (ap suc e)) (λ k. inr (omega (arith, k))) (equal_or_more n m (omega (arith, h)))

pub in_numbers : (n k m : ℕ) → n ≤ m → m < n + k → Contains (numbers_from n k) m
in_numbers n zero m h l = absurd (omega (arith, h, l))
in_numbers n (suc k) m h l = go (λ d. in_numbers (n + 1) k m d (omega (arith, l))) (equal_or_more n m h)
  where
    go : (n + 1 ≤ m → Contains (numbers_from (n + 1) k) m) → (n ≡ m) ⊎ (n + 1 ≤ m) → Contains (n ∷ numbers_from (n + 1) k) m
    go ih (inl e) = subst {A = ℕ} (Contains (n ∷ numbers_from (n + 1) k)) e (contains_first n (numbers_from (n + 1) k))
    go ih (inr d) = contains_behind n (numbers_from (n + 1) k) m (ih d)
