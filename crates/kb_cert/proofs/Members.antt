-- The members of a family have texts: they have exactly the symbols of the signature, and numbers within the limits.
use Rattle.std.proofs.Common.{ℕ, zero, suc, ◌≤◌, ◌≡◌, ⊎_elim, refl, sym, ap, ap₂, ◌∙◌, subst, arith, List, [], ◌∷◌, ◌++◌, All, length, map, filter, Contains, Bool, true, false, ◌==◌, cond, IsTrue}
use Rattle.std.specs.Prelude.{not, ◌&&◌, nat_eq, nat_le, nat_lt, replicate, Some}
use Rattle.std.specs.List.{list_all, range_with_len}
use Rattle.std.proofs.lemmas.Bool.{le-leb, lt-ltb, eq-eqb}
use Rattle.std.proofs.lemmas.List.Elements.{All-contains, Contains-append_cases, Contains-append_right}
use Rattle.std.proofs.lemmas.List.{length-replicate}
use Rattle.kb_lemmas.proofs.Membership.{contains_cases, contains_behind, contains_first, contains_flat_map_back}
use Rattle.kb_term.specs.Pair.{distinct}
use Rattle.kb_term.specs.Rule.{Rule}
use Rattle.kb_term.specs.Signature.{Signature}
use Rattle.kb_lpo.specs.Precedences.{arrangements, precedences}
use Rattle.kb_linear.specs.LinearOrder.{Interpretation}
use Rattle.kb_linear.specs.Interpretations.{interpretations}
use Rattle.kb_linear.specs.Numbers.{IsWithin}
use Rattle.kb_linear.proofs.Sorted.{contains_map_back, contains_range}
use Rattle.kb_linear.proofs.Within.{within_lengths}
use Rattle.kb_linear.proofs.Members.{IsTried, first_tried, others_tried}
use Rattle.kb_linear.proofs.Ready.{tried_to_three}
use Rattle.kb_kbo.specs.KnuthBendix.{KboOrder}
use Rattle.kb_kbo.specs.Orders.{kbo_orders}
use Rattle.kb_kbo.proofs.KboMembers.{IsSmallWeight, order_tried}
use Rattle.kb_cert.specs.Family.{family, IsMember, IsFirstOrder}
use Rattle.kb_cert.specs.declared.family.Family.{Family}
use Rattle.kb_cert.specs.declared.family.Family.TheVariants.{Stated}
use Rattle.kb_cert.specs.CertificateText.{is_certificate, is_precedence, are_rows, is_between}
use Rattle.kb_cert.specs.declared.certificate.Certificate.{Certificate}
use Rattle.kb_cert.specs.declared.certificate.Certificate.TheVariants.{Lpo, Linear, Kbo}

contains_filter : (p : ℕ → Bool) (xs : List ℕ) (y : ℕ) → Contains (filter p xs) y → Contains xs y × (p y ≡ true)
contains_filter p [] y c = absurd (omega arith)
contains_filter p (x ∷ xs) y c = go (p x) refl c (contains_filter p xs y)
  where
    go : (b : Bool) → p x ≡ b → Contains (cond b (x ∷ filter p xs) (filter p xs)) y → (Contains (filter p xs) y → Contains xs y × (p y ≡ true)) → Contains (x ∷ xs) y × (p y ≡ true)
    go true e c rest = ⊎_elim (λ q. (subst (Contains (x ∷ xs)) q (contains_first x xs), subst (λ z. p z ≡ true) q e)) (λ d. let r = rest d in (contains_behind x xs y r.0, r.1)) (contains_cases x (filter p xs) y c)
    go false e c rest = let r = rest c in (contains_behind x xs y r.0, r.1)

pub keep_all : (p : ℕ → Bool) (xs : List ℕ) → ((y : ℕ) → Contains xs y → p y ≡ true) → filter p xs ≡ xs
keep_all p [] h = refl
keep_all p (x ∷ xs) h = ap₂ (λ b ys. cond b (x ∷ ys) ys) (h x (contains_first x xs)) (keep_all p xs (λ y c. h y (contains_behind x xs y c)))

-- an arrangement: so many different members of the list
record IsArranged (n : ℕ) (xs r : List ℕ) : Type 0 where
  count : length r ≡ n
  once : distinct r ≡ r
  within : (y : ℕ) → Contains r y → Contains xs y

arranged : (n : ℕ) (xs r : List ℕ) → Contains (arrangements n xs) r → IsArranged n xs r
arranged zero xs r c = ⊎_elim (λ e. subst (IsArranged zero xs) e (record { count = refl; once = refl; within = λ y d. absurd (omega arith) })) (λ d. absurd (omega arith)) (contains_cases [] [] r c)
arranged (suc n) xs r c =
    let b = contains_flat_map_back (λ x. map (x ∷◌) (arrangements n (filter (λ y. not (y == x)) xs))) xs r c in
    let x = b.0 in
    let q = contains_map_back (x ∷◌) (arrangements n (filter (λ y. not (y == x)) xs)) r b.2 in
    let a = arranged n (filter (λ y. not (y == x)) xs) q.0 q.1 in
    subst (IsArranged (suc n) xs) q.2 (record {
      count = ap suc a.count;
      once = ap (x ∷◌) (ap (filter (λ y. not (y == x))) a.once ∙ keep_all (λ y. not (y == x)) q.0 (λ y d. (contains_filter (λ y. not (y == x)) xs y (a.within y d)).1));
      within = λ y d. ⊎_elim (λ e. subst (Contains xs) e b.1) (λ m. (contains_filter (λ y. not (y == x)) xs y (a.within y m)).0) (contains_cases x q.0 y d);
    })

pub all_true : (p : ℕ → Bool) (xs : List ℕ) → ((y : ℕ) → Contains xs y → p y ≡ true) → list_all p xs ≡ true
all_true p [] h = refl
all_true p (x ∷ xs) h = ap₂ (λ a b. a && b) (h x (contains_first x xs)) (all_true p xs (λ y c. h y (contains_behind x xs y c)))

precedence_text : (sig : Signature) (prec : List ℕ) → Contains (precedences (length sig)) prec → IsTrue (is_precedence sig prec)
precedence_text sig prec c =
    let a = arranged (length sig) (range_with_len 0 (length sig)) prec c in
    let l : nat_eq (length prec) (length sig) ≡ true = eq-eqb (length prec) (length sig) a.count in
    let d : nat_eq (length (distinct prec)) (length sig) ≡ true = eq-eqb (length (distinct prec)) (length sig) (ap length a.once ∙ a.count) in
    let w : list_all (λ f. nat_lt f (length sig)) prec ≡ true = all_true (λ f. nat_lt f (length sig)) prec (λ y m. lt-ltb y (length sig) (let r = contains_range 0 (length sig) y (a.within y m) in omega (arith, r.1))) in
    λ i. l i && d i && w i

coefficients_text : (n : ℕ) (cs : List ℕ) → IsWithin (replicate n 1) (replicate n 2) cs → list_all (is_between 1 3) cs ≡ true
coefficients_text zero [] h = refl
coefficients_text zero (c ∷ cs) h = absurd h
coefficients_text (suc n) [] h = absurd h
coefficients_text (suc n) (c ∷ cs) h =
    let l : nat_le 1 c ≡ true = le-leb 1 c h.0 in
    let m : nat_le c 3 ≡ true = le-leb c 3 (let q = h.1 in omega arith) in
    let r = coefficients_text n cs h.2 in
    λ i. (l i && m i) && r i

rows_text : (sig : Signature) (top : ℕ) (i : Interpretation) → top ≤ 3 → IsTried sig top i → are_rows sig i ≡ true
rows_text [] top [] l t = refl
rows_text [] top (row ∷ i) l t = absurd (let e = t.shape_is in cc)
rows_text (f ∷ sig) top [] l t = absurd (let e = t.shape_is in cc)
rows_text (f ∷ sig) top (row ∷ i) l t =
    let r = first_tried f sig top row i t in
    let n = within_lengths (replicate f.arity 1) (replicate f.arity 2) row.1 r.within in
    let c : nat_le row.0 15 ≡ true = le-leb row.0 15 (let q = r.constant in omega arith) in
    let m : nat_eq (length row.1) f.arity ≡ true = eq-eqb (length row.1) f.arity (sym n.0 ∙ length-replicate f.arity 1) in
    let w = coefficients_text f.arity row.1 r.within in
    let rest = rows_text sig top i l (others_tried f sig top row i t) in
    λ k. (c k && m k && w k) && rest k

weights_text : (ws : List ℕ) → All IsSmallWeight ws → list_all (is_between 1 15) ws ≡ true
weights_text ws h = all_true (is_between 1 15) ws (λ n c.
    let w = All-contains IsSmallWeight ws n h c in
    let l : nat_le 1 n ≡ true = le-leb 1 n w.0 in
    let m : nat_le n 15 ≡ true = le-leb n 15 (let q = w.1 in omega arith) in
    λ i. l i && m i)

kbo_text : (sig : Signature) (order : KboOrder) → Contains (kbo_orders sig) order → IsTrue (is_certificate sig (Kbo order))
kbo_text sig order c =
    let t = order_tried sig order c in
    let l : nat_eq (length order.weights) (length sig) ≡ true = eq-eqb (length order.weights) (length sig) t.count in
    let w = weights_text order.weights t.weights in
    let p = precedence_text sig order.precedence t.precedence in
    λ i. (l i && w i) && p i

-- each member of a family has a text
pub member_text : (sig : Signature) (c : Certificate) → IsMember sig c → IsTrue (is_certificate sig c)
member_text sig c (Stated, m) = ⊎_elim
    (λ d. let r = contains_map_back Lpo (precedences (length sig)) c d in subst (λ z. IsTrue (is_certificate sig z)) r.2 (precedence_text sig r.0 r.1))
    (λ b. ⊎_elim
    (λ d. let r = contains_map_back Linear (interpretations sig) c d in let t = tried_to_three sig r.0 r.1 in subst (λ z. IsTrue (is_certificate sig z)) r.2 (rows_text sig t.0 r.0 t.1 t.2))
    (λ d. let r = contains_map_back Kbo (kbo_orders sig) c d in subst (λ z. IsTrue (is_certificate sig z)) r.2 (kbo_text sig r.0 r.1))
    (Contains-append_cases (map Linear (interpretations sig)) (map Kbo (kbo_orders sig)) c b))
    (Contains-append_cases (map Lpo (precedences (length sig))) (map Linear (interpretations sig) ++ map Kbo (kbo_orders sig)) c m)

pub first_contained : (f : Family) (sig : Signature) (rules : List Rule) (c : Certificate) → IsFirstOrder f sig rules (Some c) → Contains (family f sig) c
first_contained f sig rules c (h, before, after, e, n) = subst (λ z. Contains z c) (sym e) (Contains-append_right before (c ∷ after) c (contains_first c after))

-- so has the first that orders rules
pub first_text : (f : Family) (sig : Signature) (rules : List Rule) (c : Certificate) → IsFirstOrder f sig rules (Some c) → IsTrue (is_certificate sig c)
first_text f sig rules c h = member_text sig c (f, first_contained f sig rules c h)
