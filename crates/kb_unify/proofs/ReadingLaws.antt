-- Terms and limits read off a measured table.
use Rattle.std.proofs.Common.{ℕ, zero, suc, ◌+◌, ◌*◌, ◌≤◌, ◌<◌, ◌≡◌, ◌⊎◌, inl, inr, List, [], ◌∷◌, ◌++◌, length, get_or, refl, sym, ap, ◌∙◌, subst, arith}
use Rattle.std.proofs.Math.Nat.{mul-le-mul_right}
use Rattle.std.proofs.lemmas.Bool.{cases_eq}
use Rattle.std.proofs.lemmas.List.Quantifiers.{all_pairs_push}
use Rattle.std.specs.Prelude.{AllPairs, map, ⊤, Result, Ok, Err, IfOk, min, cond, nat_lt, true, false, ◌==◌}
use Rattle.kb_lemmas.proofs.Numbers.{lt_itself}
use Rattle.kb_term.specs.Tree.{Tree, variable, apply, more_trees, trees_of, tree_size, tree_depth, trees_depth}
use Rattle.kb_term.specs.View.{tree_of}
use Rattle.kb_term.specs.declared.term.Term.{Term}
use Rattle.kb_term.specs.Substitution.{substitution_of}
use Rattle.kb_unify.specs.Table.{slot_at, values_from, IsSlot, IsFree}
use Rattle.kb_unify.specs.Extent.{value_of, IsSolution}
use Rattle.kb_unify.specs.Reading.{size_at, depth_at, IsReadable, ListsBelow}
use Rattle.kb_term.specs.declared.term.Symbol.{Symbol}
use Rattle.kb_unify.specs.declared.table.Slot.{Slot}
use Rattle.kb_unify.specs.declared.table.Slot.TheVariants.{Node, Link}
use Rattle.kb_unify.specs.declared.extent.Extent.{Extent}

-- the values of n places from one on, as a list
abbrev pub list_from : (ℕ → Tree) → ℕ → ℕ → List Tree
list_from w first zero = []
list_from w first (suc n) = w first ∷ list_from w (suc first) n

pub list_from-more : (w : ℕ → Tree) (first n : ℕ) → list_from w first (suc n) ≡ list_from w first n ++ w (first + n) ∷ []
list_from-more w first zero = let e : first ≡ first + 0 = omega arith in λ i. w (e i) ∷ []
list_from-more w first (suc n) = let e : suc first + n ≡ first + suc n = omega arith in ap (w first ∷◌) (list_from-more w (suc first) n ∙ (λ i. list_from w (suc first) n ++ w (e i) ∷ []))

pub trees_of-list : (w : ℕ → Tree) (first n : ℕ) → trees_of (list_from w first n) ≡ values_from w first n
trees_of-list w first zero = refl
trees_of-list w first (suc n) = ap (more_trees (w first)) (trees_of-list w (suc first) n)

depth-values : (v : ℕ → Tree) (first n j : ℕ) → j < n → tree_depth (v (first + j)) ≤ trees_depth (values_from v first n)
depth-values v first zero j h = absurd (omega (arith, h))
depth-values v first (suc n) zero h = let e : first + 0 ≡ first = omega arith in rw e (omega arith)
depth-values v first (suc n) (suc j) h = let e : first + suc j ≡ suc first + j = omega arith in rw e (omega (arith, depth-values v (suc first) n j (omega (arith, h))))

read-extent : (es : List Extent) (i : ℕ) → i < length es → (e : Extent) × (get_or es i e ≡ e) × (size_at es i ≡ e.size) × (depth_at es i ≡ e.depth)
read-extent [] i h = absurd (omega (arith, h))
read-extent (e ∷ es) zero h = (e, refl, refl, refl)
read-extent (e ∷ es) (suc i) h = read-extent es i (omega (arith, h))

-- what is listed at a place: size and depth of the solution, up to the limits
pub size-listed : (slots : List Slot) (es : List Extent) (w : ℕ → Tree) → IsSolution slots es w → (i : ℕ) → i < length slots → size_at es i ≡ min (tree_size (w i)) 513
size-listed slots es w s i h = let r = read-extent es i (omega (arith, h, s.lengths)) in r.2 ∙ (s.extents_are i r.0 h r.1).size

pub depth-listed : (slots : List Slot) (es : List Extent) (w : ℕ → Tree) → IsSolution slots es w → (i : ℕ) → i < length slots → depth_at es i ≡ min (tree_depth (w i)) 65
depth-listed slots es w s i h = let r = read-extent es i (omega (arith, h, s.lengths)) in r.3 ∙ (s.extents_are i r.0 h r.1).depth

-- an argument is less deep
pub argument-less : (slots : List Slot) (es : List Extent) → IsReadable slots es → (i : ℕ) → i < length slots → depth_at es i ≤ 64 → (f : Symbol) (first count : ℕ) → slot_at slots i ≡ Node f first count
    → (k : ℕ) → k < count → (first + k < length slots) × (depth_at es (first + k) < depth_at es i)
argument-less slots es r i h shallow f first count at k p =
    let w = r.solution.0 in
    let s = r.solution.1 in
    let value : w i ≡ apply f.0 (values_from w first count) = s.values i ∙ ap (value_of w i) at in
    let inside : first + count ≤ length slots = subst (IsSlot (length slots) i) at (r.table i) in
    let here : first + k < length slots = omega (arith, inside, p) in
    (here, omega (arith, depth-listed slots es w s i h, depth-listed slots es w s (first + k) here, depth-values w first count k p, ap tree_depth value, shallow))

-- the measure falls
suc-mul : (d n : ℕ) → suc d * n ≡ d * n + n
suc-mul d n = grind arith

pub falls-deeper : (d e n j i : ℕ) → d < e → j < n → d * n + j < e * n + i
falls-deeper d e n j i h p = let q : suc d * n ≤ e * n = mul-le-mul_right n h in omega (arith, q, suc-mul d n, p)

pub map_push : (ts : List Term) (t : Term) → map tree_of (ts ++ t ∷ []) ≡ map tree_of ts ++ tree_of t ∷ []
map_push [] t = refl
map_push (u ∷ us) t = ap (tree_of u ∷◌) (map_push us t)

-- the variables listed are below n
abbrev pub AreKeysBelow : ℕ → List (ℕ × Tree) → Type 0
AreKeysBelow n [] = ⊤
AreKeysBelow n (e ∷ es) = (e.0 < n) × AreKeysBelow n es

keys-more : (n : ℕ) (es : List (ℕ × Tree)) → AreKeysBelow n es → AreKeysBelow (n + 1) es
keys-more n [] h = tt
keys-more n (e ∷ es) h = (omega (arith, h.0), keys-more n es h.1)

keys-push : (n : ℕ) (t : Tree) (es : List (ℕ × Tree)) → AreKeysBelow n es → AreKeysBelow (n + 1) (es ++ (n, t) ∷ [])
keys-push n t [] h = (omega arith, tt)
keys-push n t (e ∷ es) h = (omega (arith, h.0), keys-push n t es h.1)

push-same : (n : ℕ) (t : Tree) (es : List (ℕ × Tree)) → AreKeysBelow n es → substitution_of (es ++ (n, t) ∷ []) n ≡ t
push-same n t [] h = let e : (n == n) ≡ true = grind arith in rw e refl
push-same n t (d ∷ es) h =
    let p = h.0 in
    let e : (d.0 == n) ≡ false = grind arith in
    rw e (push-same n t es h.1)

push-other : (n : ℕ) (t : Tree) (es : List (ℕ × Tree)) (i : ℕ) → ¬ (i ≡ n) → substitution_of (es ++ (n, t) ∷ []) i ≡ substitution_of es i
push-other n t [] i ne = let e : (n == i) ≡ false = grind arith in rw e refl
push-other n t (d ∷ es) i ne = ap (cond (d.0 == i) d.1) (push-other n t es i ne)

bound-same : (n i : ℕ) → ¬ (i ≡ n) → nat_lt i (n + 1) ≡ nat_lt i n
bound-same n i ne = grind arith

bound-at : (n : ℕ) → nat_lt n (n + 1) ≡ true
bound-at n = grind arith

-- one more variable, which gets a term or stays
pub lists-push : (n : ℕ) (w : ℕ → Tree) (es : List (ℕ × Tree)) (t : Tree) → ListsBelow n w es → AreKeysBelow n es → t ≡ w n → ListsBelow (n + 1) w (es ++ (n, t) ∷ [])
lists-push n w es t h keys is i = go (cases_eq i n)
  where
    go : (i ≡ n) ⊎ (¬ (i ≡ n)) → substitution_of (es ++ (n, t) ∷ []) i ≡ cond (nat_lt i (n + 1)) (w i) (variable i)
    go (inl e) = subst (λ j. substitution_of (es ++ (n, t) ∷ []) j ≡ cond (nat_lt j (n + 1)) (w j) (variable j)) (sym e) (rw (bound-at n) (push-same n t es keys ∙ is))
    go (inr ne) = rw (bound-same n i ne) (push-other n t es i ne ∙ h i)

pub lists-skip : (n : ℕ) (w : ℕ → Tree) (es : List (ℕ × Tree)) → ListsBelow n w es → w n ≡ variable n → ListsBelow (n + 1) w es
lists-skip n w es h is i = go (cases_eq i n)
  where
    go : (i ≡ n) ⊎ (¬ (i ≡ n)) → substitution_of es i ≡ cond (nat_lt i (n + 1)) (w i) (variable i)
    go (inl e) = subst (λ j. substitution_of es j ≡ cond (nat_lt j (n + 1)) (w j) (variable j)) (sym e) (rw (bound-at n) (h n ∙ rw (lt_itself n) (sym is)))
    go (inr ne) = rw (bound-same n i ne) (h i)

pub keys_pushed : (n : ℕ) (t : Tree) (es : List (ℕ × Tree)) → AreKeysBelow n es → AreKeysBelow (n + 1) (es ++ (n, t) ∷ [])
keys_pushed n t es h = keys-push n t es h

pub keys_kept : (n : ℕ) (es : List (ℕ × Tree)) → AreKeysBelow n es → AreKeysBelow (n + 1) es
keys_kept n es h = keys-more n es h

-- of a link or a node something is known
pub link_or_node : (s : Slot) → ((j : ℕ) × (s ≡ Link j)) ⊎ ((f : Symbol) × (first : ℕ) × (count : ℕ) × (s ≡ Node f first count)) → ¬ IsFree s
link_or_node s (inl (j, e)) free = subst IsFree e free
link_or_node s (inr (f, first, count, e)) free = subst IsFree e free

-- the variables listed are below n, so n goes behind them
pub order_pushed : (n : ℕ) (t : Tree) (es : List (ℕ × Tree)) → AreKeysBelow n es → AllPairs (λ (d e : ℕ × Tree). d.0 < e.0) es → AllPairs (λ (d e : ℕ × Tree). d.0 < e.0) (es ++ (n, t) ∷ [])
order_pushed n t es keys order = all_pairs_push (λ (d e : ℕ × Tree). d.0 < e.0) es (n, t) order (below es keys)
  where
    below : (es : List (ℕ × Tree)) → AreKeysBelow n es → (k : ℕ) (d : ℕ × Tree) → k < length es → (get_or es k d).0 < n
    below [] keys k d h = absurd (omega (arith, h))
    below (e ∷ es) keys zero d h = keys.0
    below (e ∷ es) keys (suc k) d h = below es keys.1 k d (omega (arith, h))

-- an entry as a variable and a term
abbrev pub entry_of : ℕ × Term → ℕ × Tree
entry_of e = (e.0, tree_of e.1)

pub entries_push : (es : List (ℕ × Term)) (e : ℕ × Term) → map entry_of (es ++ e ∷ []) ≡ map entry_of es ++ entry_of e ∷ []
entries_push [] e = refl
entries_push (d ∷ es) e = ap (entry_of d ∷◌) (entries_push es e)

pub if_ok : {V E : Type 0} (P Q : V → Type 0) (r : Result V E) → ((v : V) → P v → Q v) → IfOk r P → IfOk r Q
if_ok P Q (Ok v) f h = f v h
if_ok P Q (Err e) f h = h
