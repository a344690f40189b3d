-- The first member of the family, part by part.
use Rattle.std.proofs.Common.{ℕ, ⊎_elim, zero, suc, ◌≡◌, refl, sym, ap, ap₂, ◌∙◌, subst, arith, List, [], ◌∷◌, ◌++◌, length, map, All, Contains, slice_index_or, append_assoc}
use Rattle.std.specs.Prelude.{Option, Some, None, option_map}
use Rattle.std.proofs.lemmas.List.{append-nil, map-append}
use Rattle.std.proofs.lemmas.List.Elements.{All-append, All-contains, Contains-append_cases, Contains-append_right}
use Rattle.kb_term.specs.First.{IsFirst}
use Rattle.kb_term.specs.Rule.{Rule}
use Rattle.kb_term.specs.Signature.{Signature}
use Rattle.kb_lpo.specs.Precedences.{precedences, LpoOrients, IsLowerBound as IsLpoBound}
use Rattle.kb_linear.specs.LinearOrder.{Interpretation}
use Rattle.kb_linear.specs.Interpretations.{interpretations, LinearOrients, IsLowerBound as IsLinearBound}
use Rattle.std.specs.Option.{IfSome}
use Rattle.std.specs.Bool.{IsTrue}
use Rattle.kb_lemmas.proofs.Membership.{all_front, all_behind, contains_first}
use Rattle.kb_cert.specs.CertificateText.{is_certificate}
use Rattle.kb_cert.proofs.Members.{first_text}
use Rattle.kb_cert.proofs.Ordering.{orders_among}
use Rattle.kb_kbo.specs.KnuthBendix.{KboOrder}
use Rattle.kb_kbo.specs.Orders.{kbo_orders, IsFirstKbo, IsLowerBound as IsKboBound}
use Rattle.kb_linear.proofs.Sorted.{contains_map_back}
use Rattle.kb_cert.specs.Family.{family, Orders, IsFirstOrder, IsLowerBound, FirstBoundsMore, NoneForMore}
use Rattle.kb_cert.specs.declared.family.Family.{Family}
use Rattle.kb_cert.specs.declared.family.Family.TheVariants.{Stated}
use Rattle.kb_cert.specs.declared.certificate.Certificate.{Certificate}
use Rattle.kb_cert.specs.declared.certificate.Certificate.TheVariants.{Lpo, Linear, Kbo}

none_map : {X Y : Type 0} (Q : Y → Type 0) (f : X → Y) (xs : List X) → All (λ x. ¬ Q (f x)) xs → All (λ y. ¬ Q y) (map f xs)
none_map Q f [] h k d i = absurd (omega arith)
none_map Q f (x ∷ xs) h zero d i = h 0 x (omega arith)
none_map Q f (x ∷ xs) h (suc k) d i = none_map Q f xs (λ j e q. h (suc j) e (omega arith)) k d (omega arith)

map_none : {X Y : Type 0} (Q : Y → Type 0) (f : X → Y) (xs : List X) → All (λ y. ¬ Q y) (map f xs) → All (λ x. ¬ Q (f x)) xs
map_none Q f [] h k d i = absurd (omega arith)
map_none Q f (x ∷ xs) h zero d i = h 0 (f x) (omega arith)
map_none Q f (x ∷ xs) h (suc k) d i = map_none Q f xs (λ j e q. h (suc j) e (omega arith)) k d (omega arith)

some_map : {X Y : Type 0} (Q : Y → Type 0) (f : X → Y) (xs : List X) (x : X) → IsFirst (λ x. Q (f x)) xs (Some x) → IsFirst Q (map f xs) (Some (f x))
some_map Q f xs x (h, before, after, e, n) = (h, map f before, map f after, ap (map f) e ∙ map-append f before (x ∷ after), none_map Q f before n)

some_front : {X : Type 0} (Q : X → Type 0) (xs ys : List X) (x : X) → IsFirst Q xs (Some x) → IsFirst Q (xs ++ ys) (Some x)
some_front Q xs ys x (h, before, after, e, n) = (h, before, after ++ ys, ap (λ z. z ++ ys) e ∙ append_assoc before (x ∷ after) ys, n)

some_behind : {X : Type 0} (Q : X → Type 0) (xs ys : List X) (x : X) → All (λ y. ¬ Q y) xs → IsFirst Q ys (Some x) → IsFirst Q (xs ++ ys) (Some x)
some_behind Q xs ys x m (h, before, after, e, n) = (h, xs ++ before, after, ap (λ z. xs ++ z) e ∙ sym (append_assoc xs before (x ∷ after)), All-append (λ y. ¬ Q y) xs before m n)

-- the first in a part is the first where the part stands first
first_in_part : {X : Type 0} (Q : Certificate → Type 0) (f : X → Certificate) (xs : List X) (rest : List Certificate) (x : X) → IsFirst (λ x. Q (f x)) xs (Some x) → IsFirst Q (map f xs ++ rest) (Some (f x))
first_in_part Q f xs rest x h = some_front Q (map f xs) rest (f x) (some_map Q f xs x h)

-- behind a part without one the first of the rest is
first_behind_part : {X : Type 0} (Q : Certificate → Type 0) (f : X → Certificate) (xs : List X) (rest : List Certificate) (found : Option Certificate) → IsFirst (λ x. Q (f x)) xs None → IsFirst Q rest found → IsFirst Q (map f xs ++ rest) found
first_behind_part Q f xs rest None n h = All-append (λ c. ¬ Q c) (map f xs) rest (none_map Q f xs n) h
first_behind_part Q f xs rest (Some c) n h = some_behind Q (map f xs) rest c (none_map Q f xs n) h

first_of_part : {X : Type 0} (Q : Certificate → Type 0) (f : X → Certificate) (xs : List X) (found : Option X) → IsFirst (λ x. Q (f x)) xs found → IsFirst Q (map f xs) (option_map f found)
first_of_part Q f xs None h = none_map Q f xs h
first_of_part Q f xs (Some x) h = some_map Q f xs x h

-- the members behind the precedences
abbrev pub later_members : Signature → List Certificate
later_members sig = map Linear (interpretations sig) ++ map Kbo (kbo_orders sig)

-- what the searches answered: a first precedence is the first member
pub precedence_found : (sig : Signature) (rules : List Rule) (found : Option (List ℕ)) (prec : List ℕ) → found ≡ Some prec → IsFirst (λ p. LpoOrients p rules) (precedences (length sig)) found → IsFirstOrder Stated sig rules (Some (Lpo prec))
precedence_found sig rules found prec e h =
    first_in_part (λ c. Orders c rules) Lpo (precedences (length sig)) (later_members sig) prec (subst (IsFirst (λ p. LpoOrients p rules) (precedences (length sig))) e h)

-- without one the first behind the precedences is
pub later_found : (sig : Signature) (rules : List Rule) (before : Option (List ℕ)) (result : Option Certificate) → before ≡ None → IsFirst (λ p. LpoOrients p rules) (precedences (length sig)) before → IsFirst (λ c. Orders c rules) (later_members sig) result → IsFirstOrder Stated sig rules result
later_found sig rules before result e n h =
    first_behind_part (λ c. Orders c rules) Lpo (precedences (length sig)) (later_members sig) result (subst (IsFirst (λ p. LpoOrients p rules) (precedences (length sig))) e n) h

-- this is a first interpretation
pub interpretation_found : (sig : Signature) (rules : List Rule) (found : Option Interpretation) (i : Interpretation) → found ≡ Some i → IsFirst (λ i. LinearOrients i rules) (interpretations sig) found → IsFirst (λ c. Orders c rules) (later_members sig) (Some (Linear i))
interpretation_found sig rules found i e h = first_in_part (λ c. Orders c rules) Linear (interpretations sig) (map Kbo (kbo_orders sig)) i (subst (IsFirst (λ i. LinearOrients i rules) (interpretations sig)) e h)

-- else a first Knuth-Bendix order
pub kbo_found : (sig : Signature) (rules : List Rule) (before : Option Interpretation) (found : Option KboOrder) (result : Option Certificate) → before ≡ None → IsFirst (λ i. LinearOrients i rules) (interpretations sig) before → IsFirstKbo sig rules found → result ≡ option_map Kbo found → IsFirst (λ c. Orders c rules) (later_members sig) result
kbo_found sig rules before found result e n h r =
    subst (IsFirst (λ c. Orders c rules) (later_members sig)) (sym r)
    (first_behind_part (λ c. Orders c rules) Linear (interpretations sig) (map Kbo (kbo_orders sig)) (option_map Kbo found) (subst (IsFirst (λ i. LinearOrients i rules) (interpretations sig)) e n) (first_of_part (λ c. Orders c rules) Kbo (kbo_orders sig) found h))

abbrev tail_of : List Certificate → List Certificate
tail_of [] = []
tail_of (c ∷ cs) = cs

abbrev head_of : Certificate → List Certificate → Certificate
head_of d [] = d
head_of d (c ∷ cs) = c

-- where the family is split at a member of a part, the part is
record SplitsAt {X : Type 0} (f : X → Certificate) (xs : List X) (x : X) (before : List Certificate) : Type 0 where
  some : List X
  others : List X
  whole : xs ≡ some ++ x ∷ others
  before_is : before ≡ map f some

split_part : {X : Type 0} (f : X → Certificate) → ((x y : X) → f x ≡ f y → x ≡ y) → (xs : List X) (rest : List Certificate) (x : X) → ¬ Contains rest (f x) → (before after : List Certificate) → map f xs ++ rest ≡ before ++ f x ∷ after → SplitsAt f xs x before
split_part f same [] rest x n before after e = absurd (n (subst (λ z. Contains z (f x)) (sym e) (Contains-append_right before (f x ∷ after) (f x) (contains_first (f x) after))))
split_part {X} f same (y ∷ xs) rest x n [] after e = record { some = []; others = xs; whole = ap (λ (z : X). z ∷ xs) (same y x (ap (head_of (f x)) e)); before_is = refl }
split_part f same (y ∷ xs) rest x n (c ∷ before) after e =
    let r = split_part f same xs rest x n before after (ap tail_of e) in
    record { some = y ∷ r.some; others = r.others; whole = ap (y ∷◌) r.whole; before_is = ap₂ (λ (z : Certificate) zs. z ∷ zs) (sym (ap (head_of c) e)) r.before_is }

none_of_some : {X : Type 0} (rules : List Rule) (f : X → Certificate) (some : List X) (before : List Certificate) → before ≡ map f some → All (λ c. ¬ Orders c rules) before → All (λ x. ¬ Orders (f x) rules) some
none_of_some rules f some before e n = map_none (λ c. Orders c rules) f some (subst (All (λ c. ¬ Orders c rules)) e n)

-- where it is split at a member of no part so far, the rest is split
record SplitsBehind (part rest before : List Certificate) (c : Certificate) (after : List Certificate) : Type 0 where
  more : List Certificate
  whole : rest ≡ more ++ c ∷ after
  before_is : before ≡ part ++ more

split_behind : {X : Type 0} (f : X → Certificate) (xs : List X) (rest : List Certificate) (c : Certificate) → ((x : X) → ¬ (f x ≡ c)) → (before after : List Certificate) → map f xs ++ rest ≡ before ++ c ∷ after → SplitsBehind (map f xs) rest before c after
split_behind f [] rest c n before after e = record { more = before; whole = e; before_is = refl }
split_behind f (y ∷ xs) rest c n [] after e = absurd (n y (ap (head_of c) e))
split_behind f (y ∷ xs) rest c n (d ∷ before) after e =
    let r = split_behind f xs rest c n before after (ap tail_of e) in
    record { more = r.more; whole = r.whole; before_is = ap₂ (λ (z : Certificate) zs. z ∷ zs) (sym (ap (head_of d) e)) r.before_is }

no_member : {X : Type 0} (f : X → Certificate) (xs : List X) (c : Certificate) → ((x : X) → ¬ (f x ≡ c)) → ¬ Contains (map f xs) c
no_member f xs c differs i = let r = contains_map_back f xs c i in differs r.0 r.2

-- a lower bound of the family is one of its part, and no member of the parts before orders the rules
pub precedence_bound : (sig : Signature) (rules : List Rule) (prec : List ℕ) → IsLowerBound Stated sig rules (Lpo prec) → IsLpoBound (length sig) rules prec
precedence_bound sig rules prec (before, after, e, n) =
    let later : ¬ Contains (later_members sig) (Lpo prec) = λ i. ⊎_elim (no_member Linear (interpretations sig) (Lpo prec) (λ x d. cc)) (no_member Kbo (kbo_orders sig) (Lpo prec) (λ x d. cc)) (Contains-append_cases (map Linear (interpretations sig)) (map Kbo (kbo_orders sig)) (Lpo prec) i) in
    let r = split_part Lpo (λ x y d. cc) (precedences (length sig)) (later_members sig) prec later before after e in
    (r.some, r.others, r.whole, none_of_some rules Lpo r.some before r.before_is n)

-- the last part has nothing behind it
split_last : {X : Type 0} (f : X → Certificate) → ((x y : X) → f x ≡ f y → x ≡ y) → (xs : List X) (x : X) (before after : List Certificate) → map f xs ≡ before ++ f x ∷ after → SplitsAt f xs x before
split_last f same xs x before after e = split_part f same xs [] x (λ i. absurd (omega arith)) before after (append-nil (map f xs) ∙ e)

-- no member of the part and none behind it
none_in_both : {X : Type 0} (rules : List Rule) (f : X → Certificate) (xs : List X) (more before : List Certificate) → before ≡ map f xs ++ more → All (λ c. ¬ Orders c rules) before → All (λ x. ¬ Orders (f x) rules) xs × All (λ c. ¬ Orders c rules) more
none_in_both rules f xs more before e n =
    let m : All (λ c. ¬ Orders c rules) (map f xs ++ more) = subst (All (λ c. ¬ Orders c rules)) e n in
    (map_none (λ c. Orders c rules) f xs (all_front (λ c. ¬ Orders c rules) (map f xs) more m), all_behind (λ c. ¬ Orders c rules) (map f xs) more m)

-- a lower bound behind the precedences: it is one of the rest, and no precedence orders the rules
record IsLater (sig : Signature) (rules : List Rule) (start : Certificate) : Type 0 where
  before : List Certificate
  after : List Certificate
  whole : later_members sig ≡ before ++ start ∷ after
  none : All (λ c. ¬ Orders c rules) before
  no_precedence : IsFirst (λ p. LpoOrients p rules) (precedences (length sig)) None

later_bound : (sig : Signature) (rules : List Rule) (start : Certificate) → ((prec : List ℕ) → ¬ (Lpo prec ≡ start)) → IsLowerBound Stated sig rules start → IsLater sig rules start
later_bound sig rules start differs (before, after, e, n) =
    let r = split_behind Lpo (precedences (length sig)) (later_members sig) start differs before after e in
    let m = none_in_both rules Lpo (precedences (length sig)) r.more before r.before_is n in
    record { before = r.more; after = after; whole = r.whole; none = m.1; no_precedence = m.0 }

pub no_precedence_before : (sig : Signature) (rules : List Rule) (start : Certificate) → ((prec : List ℕ) → ¬ (Lpo prec ≡ start)) → IsLowerBound Stated sig rules start → IsFirst (λ p. LpoOrients p rules) (precedences (length sig)) None
no_precedence_before sig rules start differs b = (later_bound sig rules start differs b).no_precedence

pub interpretation_bound : (sig : Signature) (rules : List Rule) (i : Interpretation) → IsLowerBound Stated sig rules (Linear i) → IsLinearBound sig rules i
interpretation_bound sig rules i b =
    let l = later_bound sig rules (Linear i) (λ p d. cc) b in
    let r = split_part Linear (λ x y d. cc) (interpretations sig) (map Kbo (kbo_orders sig)) i (no_member Kbo (kbo_orders sig) (Linear i) (λ x d. cc)) l.before l.after l.whole in
    (r.some, r.others, r.whole, none_of_some rules Linear r.some l.before r.before_is l.none)

-- a lower bound among the Knuth-Bendix orders: no interpretation orders the rules either
record IsLast (sig : Signature) (rules : List Rule) (order : KboOrder) : Type 0 where
  bound : IsKboBound sig rules order
  no_interpretation : IsFirst (λ i. LinearOrients i rules) (interpretations sig) None

last_bound : (sig : Signature) (rules : List Rule) (order : KboOrder) → IsLowerBound Stated sig rules (Kbo order) → IsLast sig rules order
last_bound sig rules order b =
    let l = later_bound sig rules (Kbo order) (λ p d. cc) b in
    let q = split_behind Linear (interpretations sig) (map Kbo (kbo_orders sig)) (Kbo order) (λ x d. cc) l.before l.after l.whole in
    let s = none_in_both rules Linear (interpretations sig) q.more l.before q.before_is l.none in
    let r = split_last Kbo (λ x y d. cc) (kbo_orders sig) order q.more l.after q.whole in
    record { bound = (r.some, r.others, r.whole, none_of_some rules Kbo r.some q.more r.before_is s.1); no_interpretation = s.0 }

pub kbo_bound : (sig : Signature) (rules : List Rule) (order : KboOrder) → IsLowerBound Stated sig rules (Kbo order) → IsKboBound sig rules order
kbo_bound sig rules order b = (last_bound sig rules order b).bound

pub no_interpretation_before : (sig : Signature) (rules : List Rule) (order : KboOrder) → IsLowerBound Stated sig rules (Kbo order) → IsFirst (λ i. LinearOrients i rules) (interpretations sig) None
no_interpretation_before sig rules order b = (last_bound sig rules order b).no_interpretation

-- a first member, if there is one, has a text
pub found_text : (sig : Signature) (rules : List Rule) (result : Option Certificate) → IsFirstOrder Stated sig rules result → IfSome result (λ c. IsTrue (is_certificate sig c))
found_text sig rules None h = tt
found_text sig rules (Some c) h = first_text Stated sig rules c h

-- what orders all rules orders some of them
some_ordered : (c : Certificate) (some rules : List Rule) → All (Contains rules) some → Orders c rules → Orders c some
some_ordered c some rules h o = orders_among c rules some (λ r i. All-contains (Contains rules) some r h i) o

pub bounds_more : (f : Family) (sig : Signature) → FirstBoundsMore f sig
bounds_more f sig some rules start h (o, before, after, e, n) = (before, after, e, λ k d p q. n k d p (some_ordered (slice_index_or before k d) some rules h q))

pub none_more : (f : Family) (sig : Signature) → NoneForMore f sig
none_more f sig some rules h n k d p q = n k d p (some_ordered (slice_index_or (family f sig) k d) some rules h q)

pub first_bounds : (f : Family) (sig : Signature) (rules : List Rule) (start : Certificate) → IsFirstOrder f sig rules (Some start) → IsLowerBound f sig rules start
first_bounds f sig rules start (o, before, after, e, n) = (before, after, e, n)
