-- What the Knuth-Bendix order asks of two terms, and which case decides.
use Rattle.std.proofs.Common.{ℕ, zero, suc, ◌≡◌, ◌<◌, ◌≤◌, ◌⊎◌, inl, inr, ⊎_elim, refl, sym, ap, ◌∙◌, subst, subst₂, arith, List, [], ◌∷◌, ◌++◌, length}
use Rattle.std.proofs.lemmas.Bool.{cases_lt}
use Rattle.kb_term.specs.Tree.{Tree, Trees, variable, apply, list_of, trees_of}
use Rattle.kb_lpo.specs.PathOrder.{IsAbove}
use Rattle.kb_lpo.specs.Agreeing.{At, IsAgreement}
use Rattle.kb_lpo.proofs.Places.{at_same}
use Rattle.kb_kbo.specs.KnuthBendix.{KboOrder, KboGreater, HoldsVariables, weight, heavier, symbol_greater, arguments_greater}

pub greater_holds : (o : KboOrder) {s t : Tree} → KboGreater o s t → HoldsVariables s t
greater_holds o (heavier h l) = h
greater_holds o (symbol_greater h e u) = h
greater_holds o (arguments_greater h e front s t xs ys d b l) = h

pub greater_weighs : (o : KboOrder) {s t : Tree} → KboGreater o s t → weight o t ≤ weight o s
greater_weighs o (heavier h l) = omega arith
greater_weighs o (symbol_greater h e u) = omega (arith, e)
greater_weighs o (arguments_greater h e front s t xs ys d b l) = omega (arith, e)

pub same_list : (ts : List Tree) → list_of (trees_of ts) ≡ ts
same_list [] = refl
same_list (t ∷ ts) = ap (t ∷◌) (same_list ts)

front_same : (front : List Tree) (s t : Tree) (xs ys : List Tree) → front ++ s ∷ xs ≡ front ++ t ∷ ys → s ≡ t
front_same [] s t xs ys e = cc
front_same (x ∷ front) s t xs ys e = front_same front s t xs ys (cc)

pub greater_irreflexive : (o : KboOrder) {s t : Tree} → KboGreater o s t → ¬ (s ≡ t)
greater_irreflexive o (heavier {s = s} {t = t} h l) q = let w : weight o s ≡ weight o t = ap (weight o) q in omega (arith, w, l)
greater_irreflexive o (symbol_greater {f = f} {g = g} h e u) q = let w : f ≡ g = cc in let v : IsAbove o.precedence f f = subst (IsAbove o.precedence f) (sym w) u in omega (arith, v)
greater_irreflexive o (arguments_greater {ss = ss} {ts = ts} h e front s t xs ys d b l) q =
    let w : ss ≡ ts = cc in
    greater_irreflexive o l (front_same front s t xs ys (sym d ∙ ap list_of w ∙ b))

-- at equal weights both are applications
pub not_variable : (o : KboOrder) (n : ℕ) {s t : Tree} → KboGreater o s t → weight o s ≡ weight o t → (s ≡ variable n) ⊎ (t ≡ variable n) → ⊥
not_variable o n (heavier h l) w q = omega (arith, w, l)
not_variable o n (symbol_greater h e u) w (inl q) = cc
not_variable o n (symbol_greater h e u) w (inr q) = cc
not_variable o n (arguments_greater h e front s t xs ys d b l) w (inl q) = cc
not_variable o n (arguments_greater h e front s t xs ys d b l) w (inr q) = cc

-- with different symbols the precedence decides
pub symbol_decides : (o : KboOrder) (f g : ℕ) (ss ts : Trees) {s t : Tree} → KboGreater o s t → s ≡ apply f ss → t ≡ apply g ts → weight o s ≡ weight o t → ¬ (f ≡ g) → IsAbove o.precedence f g
symbol_decides o f g ss ts (heavier h l) p q w d = absurd (omega (arith, w, l))
symbol_decides o f g ss ts (symbol_greater {f = i} {g = j} h e u) p q w d = let a : i ≡ f = cc in let b : j ≡ g = cc in subst₂ (IsAbove o.precedence) a b u
symbol_decides o f g ss ts (arguments_greater h e front s t xs ys k b l) p q w d = absurd (d (cc))

-- the lists agree in front, and then s and t stand there, where s is above t
abbrev pub IsAboveAt : KboOrder → List Tree → List Tree → Type 0
IsAboveAt o ss ts = (front : List Tree) × (s : Tree) × (t : Tree) × (xs : List Tree) × (ys : List Tree) × (ss ≡ front ++ s ∷ xs) × (ts ≡ front ++ t ∷ ys) × KboGreater o s t

-- with one symbol the arguments decide
pub arguments_decide : (o : KboOrder) (f g : ℕ) (ss ts : List Tree) {s t : Tree} → KboGreater o s t → s ≡ apply f (trees_of ss) → t ≡ apply g (trees_of ts) → weight o s ≡ weight o t → f ≡ g → IsAboveAt o ss ts
arguments_decide o f g ss ts (heavier h l) p q w d = absurd (omega (arith, w, l))
arguments_decide o f g ss ts (symbol_greater {f = i} {g = j} h e u) p q w d = let a : i ≡ j = cc in let v : IsAbove o.precedence i i = subst (IsAbove o.precedence i) (sym a) u in absurd (omega (arith, v))
arguments_decide o f g ss ts (arguments_greater {ss = us} {ts = vs} h e front s t xs ys k b l) p q w d =
    let a : us ≡ trees_of ss = cc in
    let c : vs ≡ trees_of ts = cc in
    (front, s, t, xs, ys, sym (same_list ss) ∙ sym (ap list_of a) ∙ k, sym (same_list ts) ∙ sym (ap list_of c) ∙ b, l)

at_front : (front : List Tree) (s : Tree) (xs : List Tree) → At (front ++ s ∷ xs) (length front) s
at_front [] s xs = refl
at_front (x ∷ front) s xs = at_front front s xs

at_before : (front xs ys : List Tree) (k : ℕ) (u v : Tree) → k < length front → At (front ++ xs) k u → At (front ++ ys) k v → u ≡ v
at_before [] xs ys k u v h a b = absurd (omega arith)
at_before (x ∷ front) xs ys zero u v h a b = sym a ∙ b
at_before (x ∷ front) xs ys (suc k) u v h a b = at_before front xs ys k u v (omega arith) a b

at_length : (front : List Tree) (s : Tree) (xs : List Tree) → length front < length (front ++ s ∷ xs)
at_length [] s xs = omega arith
at_length (x ∷ front) s xs = let h = at_length front s xs in omega arith

-- lists that agree up to n go on to the place of their difference
front_bound : (o : KboOrder) (ss ts : List Tree) (n : ℕ) (r : IsAboveAt o ss ts) → IsAgreement ss ts n → n ≤ length r.0
front_bound o ss ts n (front, s, t, xs, ys, p, q, l) a =
    ⊎_elim (λ h. absurd (greater_irreflexive o l (a.same (length front) s t h (subst (λ z. At z (length front) s) (sym p) (at_front front s xs)) (subst (λ z. At z (length front) t) (sym q) (at_front front t ys))))) (λ h. h) (cases_lt (length front) n)

pub difference_within : (o : KboOrder) (ss ts : List Tree) (n : ℕ) → IsAboveAt o ss ts → IsAgreement ss ts n → (n < length ss) × (n < length ts)
difference_within o ss ts n r a =
    let h = front_bound o ss ts n r a in
    let p : length ss ≡ length (r.0 ++ r.1 ∷ r.3) = ap length r.5 in
    let q : length ts ≡ length (r.0 ++ r.2 ∷ r.4) = ap length r.6 in
    (omega (arith, h, p, at_length r.0 r.1 r.3), omega (arith, h, q, at_length r.0 r.2 r.4))

pub difference_above : (o : KboOrder) (ss ts : List Tree) (n : ℕ) (u v : Tree) → IsAboveAt o ss ts → IsAgreement ss ts n → At ss n u → At ts n v → KboGreater o u v
difference_above o ss ts n u v r a c d = go r (front_bound o ss ts n r a)
  where
    go : (r : IsAboveAt o ss ts) → n ≤ length r.0 → KboGreater o u v
    go (front, s, t, xs, ys, p, q, l) h =
        ⊎_elim (λ k. absurd (a.differ u v c d (at_before front (s ∷ xs) (t ∷ ys) n u v k (subst (λ z. At z n u) p c) (subst (λ z. At z n v) q d))))
        (λ k. let e : length front ≡ n = omega arith in
        subst₂ (KboGreater o) (at_same ss n s u (subst₂ (λ z m. At z m s) (sym p) e (at_front front s xs)) c) (at_same ts n t v (subst₂ (λ z m. At z m t) (sym q) e (at_front front t ys)) d) l)
        (cases_lt n (length front))

-- the lists up to a place, where they agree
split : (ss ts : List Tree) (n : ℕ) (u v : Tree) → ((k : ℕ) (x y : Tree) → k < n → At ss k x → At ts k y → x ≡ y) → At ss n u → At ts n v → (front : List Tree) × (xs : List Tree) × (ys : List Tree) × (ss ≡ front ++ u ∷ xs) × (ts ≡ front ++ v ∷ ys)
split [] ts n u v h a b = absurd a
split (s ∷ ss) [] n u v h a b = absurd b
split (s ∷ ss) (t ∷ ts) zero u v h a b = ([], ss, ts, ap (λ x. x ∷ ss) a, ap (λ x. x ∷ ts) b)
split (s ∷ ss) (t ∷ ts) (suc n) u v h a b =
    let r = split ss ts n u v (λ k x y l c d. h (suc k) x y (omega arith) c d) a b in
    (s ∷ r.0, r.1, r.2, ap (s ∷◌) r.3, ap (t ∷◌) r.4 ∙ ap (λ x. x ∷ (r.0 ++ v ∷ r.2)) (sym (h 0 s t (omega arith) refl refl)))

-- two applications in the order, by the arguments at their first difference
pub above_at : (o : KboOrder) (f g : ℕ) (ss ts : List Tree) (n : ℕ) (s t u v : Tree) → s ≡ apply f (trees_of ss) → t ≡ apply g (trees_of ts) → f ≡ g → HoldsVariables s t → weight o s ≡ weight o t → IsAgreement ss ts n → At ss n u → At ts n v → KboGreater o u v → KboGreater o s t
above_at o f g ss ts n s t u v p q e h w a c d l =
    let b : t ≡ apply f (trees_of ts) = q ∙ ap (λ z. apply z (trees_of ts)) (sym e) in
    let r = split ss ts n u v a.same c d in
    subst₂ (KboGreater o) (sym p) (sym b)
    (arguments_greater (subst₂ HoldsVariables p b h) (sym (ap (weight o) p) ∙ w ∙ ap (weight o) b) r.0 u v r.1 r.2 (same_list ss ∙ r.3) (same_list ts ∙ r.4) l)

pub above_by_symbol : (o : KboOrder) (f g : ℕ) (ss ts : Trees) (s t : Tree) → s ≡ apply f ss → t ≡ apply g ts → HoldsVariables s t → weight o s ≡ weight o t → IsAbove o.precedence f g → KboGreater o s t
above_by_symbol o f g ss ts s t p q h w u =
    subst₂ (KboGreater o) (sym p) (sym q) (symbol_greater (subst₂ HoldsVariables p q h) (sym (ap (weight o) p) ∙ w ∙ ap (weight o) q) u)
