-- The whole search, from the least and the greatest interpretations of a signature.
use Rattle.std.proofs.Common.{ℕ, ⊎_elim, Bool, zero, suc, ◌+◌, ◌*◌, ◌^◌, ◌≤◌, ◌<◌, ◌≡◌, refl, sym, ap, ap₂, ◌∙◌, subst, arith, List, [], ◌∷◌, ◌++◌, length, All, Contains, true, false, cond}
use Rattle.std.specs.Prelude.{replicate, Option, Some, None, sum_by, nat_le}
use Rattle.std.proofs.Math.Nat.{pow-suc}
use Rattle.std.proofs.lemmas.List.Sums.{sum_by-cons}
use Rattle.std.proofs.lemmas.Nat.{pow_below}
use Rattle.std.proofs.lemmas.Bool.{le-leb}
use Rattle.std.proofs.lemmas.Bool.Decides.{leb_tells}
use Rattle.std.proofs.Math.Nat.{pow-le-pow_right}
use Rattle.std.proofs.lemmas.List.{length-append, length-replicate}
use Rattle.std.proofs.lemmas.List.Elements.{All-append, Contains-append_right}
use Rattle.kb_term.specs.First.{IsFirst}
use Rattle.kb_term.specs.Rule.{Rule}
use Rattle.kb_term.specs.Signature.{Signature, SymbolEntry}
use Rattle.std.specs.Prelude.{Vec}
use Rattle.std.specs.declared.alloc.Global.{Global}
use Rattle.kb_lemmas.proofs.Membership.{contains_first}
use Rattle.kb_linear.specs.Limits.{interpretation_of}
use Rattle.kb_linear.specs.LinearOrder.{Interpretation, IsInterpretationOf}
use Rattle.kb_linear.specs.Interpretations.{interpretations_to, LinearOrients, IsLowerBound, top_constant, interpretations, interpretations_up_to}
use Rattle.kb_linear.specs.Numbers.{numbers_of, shape_of, uniform, IsWithin, IsMember, AreBounds, low_of, high_of, IsAt, IsStartAt, IsSearched, NoneLess}
use Rattle.kb_linear.specs.declared.search.Bounds.{Bounds}
use Rattle.kb_linear.specs.declared.search.Space.{Space}
use Rattle.kb_linear.proofs.Members.{IsTried, within_append, tried_to, tried_small, first_tried_of, none_tried_of, tried_from, none_less, tried_fits}
use Rattle.kb_linear.proofs.Within.{within_lengths}

-- the search is for the interpretations of the signature up to a constant, and nothing is fixed yet
pub record IsFor (sig : Signature) (top : ℕ) (bounds : Bounds) (space : Space) : Type 0 where
  pub small : top ≤ 3
  pub low_is : low_of space ≡ uniform sig 0 1
  pub high_is : high_of space ≡ uniform sig top 2
  pub least_is : bounds.least.items ≡ numbers_of (uniform sig 0 1)
  pub most_is : bounds.most.items ≡ numbers_of (uniform sig top 2)

same_shape : (sig : Signature) (c k : ℕ) → shape_of (uniform sig c k) ≡ shape_of (uniform sig 0 1)
same_shape [] c k = refl
same_shape (f ∷ sig) c k = ap₂ (λ x xs. x ∷ xs) (length-replicate f.arity k ∙ sym (length-replicate f.arity 1)) (same_shape sig c k)

within_replicate : (n k : ℕ) → 1 ≤ k → k ≤ 2 → IsWithin (replicate n 1) (replicate n 2) (replicate n k)
within_replicate zero k h l = tt
within_replicate (suc n) k h l = (h, l, within_replicate n k h l)

uniform_within : (sig : Signature) (top c k : ℕ) → c ≤ top → 1 ≤ k → k ≤ 2 → IsWithin (numbers_of (uniform sig 0 1)) (numbers_of (uniform sig top 2)) (numbers_of (uniform sig c k))
uniform_within [] top c k l h m = tt
uniform_within (f ∷ sig) top c k l h m =
    (omega arith, l, within_append (replicate f.arity 1) (replicate f.arity 2) (replicate f.arity k) (numbers_of (uniform sig 0 1)) (numbers_of (uniform sig top 2)) (numbers_of (uniform sig c k)) (within_replicate f.arity k h m) (uniform_within sig top c k l h m))

pub uniform_tried : (sig : Signature) (top c k : ℕ) → c ≤ top → 1 ≤ k → k ≤ 2 → IsTried sig top (uniform sig c k)
uniform_tried sig top c k l h m = record { shape_is = same_shape sig c k; within = uniform_within sig top c k l h m }

all_more : (P : ℕ → Type 0) (x : ℕ) (xs : List ℕ) → P x → All P xs → All P (x ∷ xs)
all_more P x xs p h zero d l = p
all_more P x xs p h (suc k) d l = h k d (omega arith)

all_replicate : (n : ℕ) → All (λ x. x ≤ 3) (replicate n 2)
all_replicate zero = λ k d l. absurd (omega arith)
all_replicate (suc n) = all_more (λ x. x ≤ 3) 2 (replicate n 2) (omega arith) (all_replicate n)

uniform_below : (sig : Signature) (top : ℕ) → top ≤ 3 → All (λ x. x ≤ 3) (numbers_of (uniform sig top 2))
uniform_below [] top l = λ k d h. absurd (omega arith)
uniform_below (f ∷ sig) top l = all_more (λ x. x ≤ 3) top (replicate f.arity 2 ++ numbers_of (uniform sig top 2)) l (All-append (λ x. x ≤ 3) (replicate f.arity 2) (numbers_of (uniform sig top 2)) (all_replicate f.arity) (uniform_below sig top l))

pub member_tried : (sig : Signature) (top : ℕ) (bounds : Bounds) (space : Space) → IsFor sig top bounds space → (i : Interpretation) → IsMember (shape_of (low_of space)) bounds i → IsTried sig top i
member_tried sig top bounds space f i m = record {
  shape_is = m.shape_is ∙ ap shape_of f.low_is;
  within = subst (λ ms. IsWithin (numbers_of (uniform sig 0 1)) ms (numbers_of i)) f.most_is (subst (λ ls. IsWithin ls bounds.most.items (numbers_of i)) f.least_is m.within);
}

pub tried_member : (sig : Signature) (top : ℕ) (bounds : Bounds) (space : Space) → IsFor sig top bounds space → (i : Interpretation) → IsTried sig top i → IsMember (shape_of (low_of space)) bounds i
tried_member sig top bounds space f i t = record {
  shape_is = t.shape_is ∙ sym (ap shape_of f.low_is);
  within = subst (λ ms. IsWithin bounds.least.items ms (numbers_of i)) (sym f.most_is) (subst (λ ls. IsWithin ls (numbers_of (uniform sig top 2)) (numbers_of i)) (sym f.least_is) t.within);
}

low_member : (sig : Signature) (top : ℕ) (bounds : Bounds) (space : Space) → IsFor sig top bounds space → IsMember (shape_of (low_of space)) bounds (low_of space)
low_member sig top bounds space f = subst (IsMember (shape_of (low_of space)) bounds) (sym f.low_is) (tried_member sig top bounds space f (uniform sig 0 1) (uniform_tried sig top 0 1 (omega arith) (omega arith) (omega arith)))

high_member : (sig : Signature) (top : ℕ) (bounds : Bounds) (space : Space) → IsFor sig top bounds space → IsMember (shape_of (low_of space)) bounds (high_of space)
high_member sig top bounds space f = subst (IsMember (shape_of (low_of space)) bounds) (sym f.high_is) (tried_member sig top bounds space f (uniform sig top 2) (uniform_tried sig top top 2 (omega arith) (omega arith) (omega arith)))

pub bounds_ready : (sig : Signature) (top : ℕ) (bounds : Bounds) (space : Space) → IsFor sig top bounds space → AreBounds (shape_of (low_of space)) bounds
bounds_ready sig top bounds space f = record {
  least_within = subst (IsWithin bounds.least.items bounds.most.items) (ap numbers_of f.low_is ∙ sym f.least_is) (low_member sig top bounds space f).within;
  most_within = subst (IsWithin bounds.least.items bounds.most.items) (ap numbers_of f.high_is ∙ sym f.most_is) (high_member sig top bounds space f).within;
  below = subst (All (λ x. x ≤ 3)) (sym f.most_is) (uniform_below sig top f.small);
  small = λ i m. tried_small sig top f.small i (member_tried sig top bounds space f i m);
}

pub at_ready : (sig : Signature) (top : ℕ) (bounds : Bounds) (space : Space) → IsFor sig top bounds space → IsAt (shape_of (low_of space)) bounds space 0
at_ready sig top bounds space f = record {
  low_member = low_member sig top bounds space f;
  high_member = high_member sig top bounds space f;
  fixed = refl;
  low_rest = ap numbers_of f.low_is ∙ sym f.least_is;
  high_rest = ap numbers_of f.high_is ∙ sym f.most_is;
}

pub start_ready : (sig : Signature) (top : ℕ) (bounds : Bounds) (space : Space) (rules : List Rule) → IsFor sig top bounds space → IsWithin (numbers_of (uniform sig 0 1)) (numbers_of (uniform sig top 2)) bounds.start.items → NoneLess rules sig top bounds.start.items → IsStartAt rules (shape_of (low_of space)) bounds space 0
start_ready sig top bounds space rules f w n = record {
  within = subst (λ ms. IsWithin bounds.least.items ms bounds.start.items) (sym f.most_is) (subst (λ ls. IsWithin ls (numbers_of (uniform sig top 2)) bounds.start.items) (sym f.least_is) w);
  begins = refl;
  first = λ j m b l. n j (tried_to sig top j (member_tried sig top bounds space f j m)) l;
}

pub search_found : (sig : Signature) (top : ℕ) (bounds : Bounds) (space new : Space) (rules : List Rule) → IsFor sig top bounds space → IsSearched rules (shape_of (low_of space)) bounds 0 space new true → IsFirst (λ j. LinearOrients j rules) (interpretations_to sig top) (Some (low_of new))
search_found sig top bounds space new rules f (m, b, o, n) = first_tried_of sig top rules (low_of new) (member_tried sig top bounds space f (low_of new) m) o (λ j t l. n j (tried_member sig top bounds space f j t) refl l)

pub search_none : (sig : Signature) (top : ℕ) (bounds : Bounds) (space new : Space) (rules : List Rule) → IsFor sig top bounds space → IsSearched rules (shape_of (low_of space)) bounds 0 space new false → IsFirst (λ j. LinearOrients j rules) (interpretations_to sig top) None
search_none sig top bounds space new rules f (l, h, n) = none_tried_of sig top rules (λ j t. n j (tried_member sig top bounds space f j t) refl)

-- how many numbers there are
pub numbers_count : (sig : Signature) (c k : ℕ) → length (numbers_of (uniform sig c k)) ≡ length sig + sum_by (λ (f : SymbolEntry). f.arity) sig
numbers_count [] c k = refl
numbers_count (f ∷ sig) c k = omega (arith, length-append (replicate f.arity k) (numbers_of (uniform sig c k)), length-replicate f.arity k, sum_by-cons (λ (g : SymbolEntry). g.arity) f sig, numbers_count sig c k)

-- so many interpretations
powers : (k a : ℕ) → 4 ^ k * 2 ^ a ≡ 2 ^ (k + (k + a))
powers zero a = let e : 0 + (0 + a) ≡ a = omega arith in rw e (omega arith)
powers (suc k) a =
    let e : suc k + (suc k + a) ≡ suc (suc (k + (k + a))) = omega arith in
    let m : 4 ^ suc k * 2 ^ a ≡ 4 ^ k * 4 * 2 ^ a = ap (λ z. z * 2 ^ a) (pow-suc 4 k) in
    rw e (omega (arith, m, pow-suc 2 (suc (k + (k + a))), pow-suc 2 (k + (k + a)), powers k a))

is_over : (m n : ℕ) → n < m → nat_le m n ≡ false
is_over m n h = ⊎_elim (λ d. absurd (omega (arith, d.1))) (λ d. d.0) (leb_tells m n)

few : (n : ℕ) → n ≤ 16 → 2 ^ n ≤ 65536
few n h = pow-le-pow_right (omega arith) h

many : (n : ℕ) → 16 < n → 65536 < 2 ^ n
many n h = pow_below 16 n h

chosen : (sig : Signature) (x y : Bool) → nat_le (4 ^ length sig * 2 ^ sum_by (λ (f : SymbolEntry). f.arity) sig) 65536 ≡ x → nat_le (2 ^ (length sig + sum_by (λ (f : SymbolEntry). f.arity) sig)) 65536 ≡ y → top_constant sig ≡ cond x (Some 3) (cond y (Some 1) None)
chosen sig x y e d = ap₂ (λ a b. cond a (Some 3) (cond b (Some 1) None)) e d

pub top_three : (sig : Signature) (n : ℕ) → n ≡ length sig + sum_by (λ (f : SymbolEntry). f.arity) sig → length sig + n ≤ 16 → top_constant sig ≡ Some 3
top_three sig n e h =
    let k = length sig in
    let a = sum_by (λ (f : SymbolEntry). f.arity) sig in
    let p = powers k a in
    let q = few (k + (k + a)) (omega arith) in
    chosen sig true true (le-leb (4 ^ k * 2 ^ a) 65536 (omega arith)) (le-leb (2 ^ (k + a)) 65536 (few (k + a) (omega arith)))

pub top_one : (sig : Signature) (n : ℕ) → n ≡ length sig + sum_by (λ (f : SymbolEntry). f.arity) sig → 16 < length sig + n → n ≤ 16 → top_constant sig ≡ Some 1
top_one sig n e h l =
    let k = length sig in
    let a = sum_by (λ (f : SymbolEntry). f.arity) sig in
    let p = powers k a in
    let q = many (k + (k + a)) (omega arith) in
    chosen sig false true (is_over (4 ^ k * 2 ^ a) 65536 (omega arith)) (le-leb (2 ^ (k + a)) 65536 (few (k + a) (omega arith)))

pub top_none : (sig : Signature) (n : ℕ) → n ≡ length sig + sum_by (λ (f : SymbolEntry). f.arity) sig → 16 < n → top_constant sig ≡ None
top_none sig n e l =
    let k = length sig in
    let a = sum_by (λ (f : SymbolEntry). f.arity) sig in
    let p = powers k a in
    let q = many (k + (k + a)) (omega arith) in
    chosen sig false false (is_over (4 ^ k * 2 ^ a) 65536 (omega arith)) (is_over (2 ^ (k + a)) 65536 (many (k + a) (omega arith)))

-- what is tried, by the greatest constant
pub first_to : (sig : Signature) (rules : List Rule) (top : Option ℕ) (found : Option Interpretation) → top ≡ top_constant sig → IsFirst (λ j. LinearOrients j rules) (interpretations_up_to sig top) found → IsFirst (λ j. LinearOrients j rules) (interpretations sig) found
first_to sig rules top found e h = subst (λ t. IsFirst (λ j. LinearOrients j rules) (interpretations_up_to sig t) found) e h

-- the same from the rows and the lists as they were read
pub is_for : (sig : Signature) (top : ℕ) (bounds : Bounds) (space : Space) (lows highs : List (ℕ × Vec ℕ Global)) → top ≤ 3 → low_of space ≡ uniform sig 0 1 → high_of space ≡ uniform sig top 2 → lows ≡ space.low.items → highs ≡ space.high.items
    → bounds.least.items ≡ numbers_of (interpretation_of lows) → bounds.most.items ≡ numbers_of (interpretation_of highs) → IsFor sig top bounds space
is_for sig top bounds space lows highs s l h ls hs b m = record {
  small = s;
  low_is = l;
  high_is = h;
  least_is = b ∙ ap (λ z. numbers_of (interpretation_of z)) ls ∙ ap numbers_of l;
  most_is = m ∙ ap (λ z. numbers_of (interpretation_of z)) hs ∙ ap numbers_of h;
}

-- a start is one of what is tried, and nothing before it by its numbers orients the rules
start_contained : (sig : Signature) (rules : List Rule) (start : Interpretation) → IsLowerBound sig rules start → Contains (interpretations sig) start
start_contained sig rules start (before, after, e, n) = subst (λ z. Contains z start) (sym e) (Contains-append_right before (start ∷ after) start (contains_first start after))

pub start_length : (sig : Signature) (rules : List Rule) (start : Interpretation) → IsLowerBound sig rules start → length (numbers_of start) ≡ length sig + sum_by (λ (f : SymbolEntry). f.arity) sig
start_length sig rules start s = go (top_constant sig) (start_contained sig rules start s)
  where
    go : (top : Option ℕ) → Contains (interpretations_up_to sig top) start → length (numbers_of start) ≡ length sig + sum_by (λ (f : SymbolEntry). f.arity) sig
    go None c = absurd (omega arith)
    go (Some top) c = sym (within_lengths (numbers_of (uniform sig 0 1)) (numbers_of (uniform sig top 2)) (numbers_of start) (tried_from sig top start c).within).0 ∙ numbers_count sig 0 1

pub start_tried : (sig : Signature) (rules : List Rule) (start : Interpretation) (top : ℕ) → Some top ≡ top_constant sig → IsLowerBound sig rules start → IsTried sig top start
start_tried sig rules start top e s = tried_from sig top start (subst (λ t. Contains (interpretations_up_to sig t) start) (sym e) (start_contained sig rules start s))

pub start_first : (sig : Signature) (rules : List Rule) (start : Interpretation) (top : ℕ) → Some top ≡ top_constant sig → IsLowerBound sig rules start → NoneLess rules sig top (numbers_of start)
start_first sig rules start top e s =
    let d : interpretations_to sig top ≡ s.0 ++ start ∷ s.1 = ap (interpretations_up_to sig) e ∙ s.2 in
    λ j c l. none_less sig top rules start s.0 s.1 d s.3 (start_tried sig rules start top e s) j (tried_from sig top j c) l

-- each interpretation that is tried has constants up to 3, and interprets the signature
pub tried_to_three : (sig : Signature) (i : Interpretation) → Contains (interpretations sig) i → (top : ℕ) × (top ≤ 3) × IsTried sig top i
tried_to_three sig i c = go (nat_le (4 ^ length sig * 2 ^ sum_by (λ (f : SymbolEntry). f.arity) sig) 65536) (nat_le (2 ^ (length sig + sum_by (λ (f : SymbolEntry). f.arity) sig)) 65536) (subst (λ t. Contains (interpretations_up_to sig t) i) (chosen sig _ _ refl refl) c)
  where
    go : (x y : Bool) → Contains (interpretations_up_to sig (cond x (Some 3) (cond y (Some 1) None))) i → (top : ℕ) × (top ≤ 3) × IsTried sig top i
    go true y d = (3, omega arith, tried_from sig 3 i d)
    go false true d = (1, omega arith, tried_from sig 1 i d)
    go false false d = absurd (omega arith)

pub interpretation_fits : (sig : Signature) (i : Interpretation) → Contains (interpretations sig) i → IsInterpretationOf sig i
interpretation_fits sig i c = let r = tried_to_three sig i c in tried_fits sig r.0 i r.2
