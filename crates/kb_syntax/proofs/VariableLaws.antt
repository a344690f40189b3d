-- Names by their numbers.
use Rattle.std.proofs.Common.{◌≡◌, refl, ap, sym, ◌∙◌, arith, ℕ, ◌+◌, ◌<◌, ◌≤◌, List, [], ◌∷◌, ◌++◌, Some, None, Bool, true, false, cond, ◌&&◌, ◌||◌, ◌==◌, length, get_or, Vec, Global}
use Rattle.std.specs.Prelude.{map, bytes_eq, nat_lt, nat_eq, not, Option, is_some}
use Rattle.std.specs.List.{list_all, position, position_or_len}
use Rattle.std.proofs.lemmas.List.{map-append, length-map}
use Rattle.std.proofs.lemmas.Option.{same_Some}
use Rattle.std.proofs.lemmas.Bool.{and_parts}
use Rattle.kb_term.specs.Pair.{place_in}
use Rattle.kb_text.specs.Names.{Name, is_among, number_of, with_name}
use Rattle.kb_text.proofs.Firsts.{bytes_eq-comm, same_bytes}
use Rattle.kb_text.proofs.RewrittenTerms.{at_number}
use Rattle.kb_text.proofs.RewrittenLists.{among-append}
use Rattle.kb_text.proofs.WrittenLists.{number_of-le}
use Rattle.kb_text.specs.Grammar.{WrittenEquation}
use Rattle.kb_text.specs.Problems.{equation_variables, names_in, variables_among}
use Rattle.kb_syntax.specs.Looks.{is_one_more}
use Rattle.kb_syntax.specs.Variables.{VariableNames, AreNumbered, names_at, with_found, variable_number}
use Rattle.kb_syntax.proofs.WrittenArguments.{with_names-among, names-firsts}
use Rattle.kb_syntax.proofs.Numbers.{same_number}

pub names-numbered : (names ns : List Name) → list_all (is_among names) ns ≡ true → names_at names (map (number_of names) ns) ≡ ns
names-numbered names [] h = refl
names-numbered names (x ∷ xs) h =
    let r = and_parts (is_among names x) (list_all (is_among names) xs) h in
    λ i. at_number names x r.0 i ∷ names-numbered names xs r.1 i

pub names-are : (names : List Name) (is : List ℕ) (n : AreNumbered names is) → names_at names is ≡ n.names
names-are names is n = ap (names_at names) n.numbered ∙ names-numbered names n.names n.declared_all

step : (n : ℕ) (b : Bool) → cond (not b) (1 + n) 0 ≡ cond b 0 (n + 1)
step n true = refl
step n false = omega arith

-- the place of a number is that of the name
pub place-number : (names ns : List Name) (x : Name) → list_all (is_among names) ns ≡ true → is_among names x ≡ true → place_in (map (number_of names) ns) (number_of names x) ≡ number_of ns x
place-number names [] x h k = refl
place-number names (y ∷ ys) x h k =
    let r = and_parts (is_among names y) (list_all (is_among names) ys) h in
    let same : (number_of names y == number_of names x) ≡ bytes_eq x y = same_number names x y k r.0 ∙ sym (bytes_eq-comm y x (bytes_eq y x) refl) in
    (λ i. cond (not (same i)) (1 + place-number names ys x r.1 k i) 0) ∙ step (number_of ys x) (bytes_eq x y)

-- a name is there where its place is before the end
pub among-place : (ns : List Name) (x : Name) → is_among ns x ≡ nat_lt (number_of ns x) (length ns)
among-place [] x = refl
among-place (y ∷ ys) x =
    let e : length ys + 1 ≡ length (y ∷ ys) = omega arith in
    go (bytes_eq x y) (among-place ys x) ∙ ap (λ (n : ℕ). nat_lt (number_of (y ∷ ys) x) n) e
  where
    go : (b : Bool) → is_among ys x ≡ nat_lt (number_of ys x) (length ys) → (b || is_among ys x) ≡ nat_lt (cond b 0 (number_of ys x + 1)) (length ys + 1)
    go true h = grind arith
    go false h = h ∙ grind arith

-- the key that a name is
pub position-keys : (ks : List (Vec ℕ Global)) (x : Name) → position_or_len (λ (k : Vec ℕ Global). bytes_eq x k.items) ks ≡ number_of (map (λ (n : Vec ℕ Global). n.items) ks) x
position-keys [] x = refl
position-keys (k ∷ ks) x = (λ i. cond (not (bytes_eq x k.items)) (1 + position-keys ks x i) 0) ∙ step (number_of (map (λ (n : Vec ℕ Global). n.items) ks) x) (bytes_eq x k.items)

pub position-some : {X : Type 0} (p : X → Bool) (xs : List X) (i : ℕ) → Some i ≡ position p xs → i ≡ position_or_len p xs
position-some p xs i e = go (nat_lt (position_or_len p xs) (length xs)) e
  where
    go : (b : Bool) → Some i ≡ cond b (Some (position_or_len p xs)) None → i ≡ position_or_len p xs
    go true e = cc
    go false e = absurd (cc)

-- ---- one name more

among-more : (names ns : List Name) (x : Name) → list_all (is_among names) ns ≡ true → list_all (is_among (with_name names x)) ns ≡ true
among-more names ns x h = go (is_among names x)
  where
    more : (ys : List Name) → list_all (is_among names) ys ≡ true → list_all (is_among (names ++ x ∷ [])) ys ≡ true
    more [] h = refl
    more (y ∷ ys) h =
        let r = and_parts (is_among names y) (list_all (is_among names) ys) h in
        λ i. (among-append names (x ∷ []) y ∙ ap (λ (b : Bool). b || is_among (x ∷ []) y) r.0) i && more ys r.1 i

    go : (b : Bool) → list_all (is_among (cond b names (names ++ x ∷ []))) ns ≡ true
    go true = h
    go false = more ns h

number-more : (names : List Name) (x y : Name) → is_among names y ≡ true → number_of (names ++ x ∷ []) y ≡ number_of names y
number-more [] x y h = absurd (cc)
number-more (z ∷ zs) x y h = go (bytes_eq y z) h (number-more zs x y)
  where
    go : (b : Bool) → (b || is_among zs y) ≡ true → (is_among zs y ≡ true → number_of (zs ++ x ∷ []) y ≡ number_of zs y) → cond b 0 (number_of (zs ++ x ∷ []) y + 1) ≡ cond b 0 (number_of zs y + 1)
    go true h ih = refl
    go false h ih = ap (λ (n : ℕ). n + 1) (ih h)

numbers-more : (names ns : List Name) (x : Name) → list_all (is_among names) ns ≡ true → map (number_of (with_name names x)) ns ≡ map (number_of names) ns
numbers-more names ns x h = go (is_among names x)
  where
    more : (ys : List Name) → list_all (is_among names) ys ≡ true → map (number_of (names ++ x ∷ [])) ys ≡ map (number_of names) ys
    more [] h = refl
    more (y ∷ ys) h =
        let r = and_parts (is_among names y) (list_all (is_among names) ys) h in
        λ i. number-more names x y r.0 i ∷ more ys r.1 i

    go : (b : Bool) → map (number_of (cond b names (names ++ x ∷ []))) ns ≡ map (number_of names) ns
    go true = refl
    go false = more ns h

-- numbers stay where one name more is declared
pub numbered-more : (names : List Name) (is : List ℕ) (x : Name) → AreNumbered names is → AreNumbered (with_name names x) is
numbered-more names is x n = record {
  names = n.names;
  declared_all = among-more names n.names x n.declared_all;
  numbered = n.numbered ∙ sym (numbers-more names n.names x n.declared_all);
}

pub names-more : (names : List Name) (is : List ℕ) (x : Name) → AreNumbered names is → names_at (with_name names x) is ≡ names_at names is
names-more names is x n =
    ap (names_at (with_name names x)) (n.numbered ∙ sym (numbers-more names n.names x n.declared_all))
    ∙ names-numbered (with_name names x) n.names (among-more names n.names x n.declared_all) ∙ sym (names-are names is n)

-- one more declared name is found
pub numbered-push : (names : List Name) (is : List ℕ) (x : Name) → is_among names x ≡ true → AreNumbered names is → AreNumbered names (is ++ number_of names x ∷ [])
numbered-push names is x k n = record {
  names = n.names ++ x ∷ [];
  declared_all = all_push n.names n.declared_all;
  numbered = ap (λ (js : List ℕ). js ++ number_of names x ∷ []) n.numbered ∙ sym (map-append (number_of names) n.names (x ∷ []));
}
  where
    all_push : (ns : List Name) → list_all (is_among names) ns ≡ true → list_all (is_among names) (ns ++ x ∷ []) ≡ true
    all_push [] h = ap (λ (b : Bool). b && true) k
    all_push (y ∷ ys) h =
        let r = and_parts (is_among names y) (list_all (is_among names) ys) h in
        λ i. r.0 i && all_push ys r.1 i

pub names-push : (names : List Name) (is : List ℕ) (x : Name) → is_among names x ≡ true → names_at names (is ++ number_of names x ∷ []) ≡ names_at names is ++ x ∷ []
names-push names is x k = map-append (λ (i : ℕ). get_or names i []) is (number_of names x ∷ []) ∙ ap (λ (y : Name). names_at names is ++ y ∷ []) (at_number names x k)

-- whether a declared name is found, by its number
pub place-found : (names : List Name) (is : List ℕ) (x : Name) → is_among names x ≡ true → AreNumbered names is → place_in is (number_of names x) ≡ number_of (names_at names is) x
place-found names is x k n = ap (λ (js : List ℕ). place_in js (number_of names x)) n.numbered ∙ place-number names n.names x n.declared_all k ∙ ap (λ (ns : List Name). number_of ns x) (sym (names-are names is n))

pub length-found : (names : List Name) (is : List ℕ) → AreNumbered names is → length is ≡ length (names_at names is)
length-found names is n = go is
  where
    go : (js : List ℕ) → length js ≡ length (names_at names js)
    go [] = refl
    go (j ∷ js) = omega (arith, go js)

-- what isn't declared isn't found
pub not_found : (names : List Name) (is : List ℕ) (x : Name) → is_among names x ≡ false → AreNumbered names is → is_among (names_at names is) x ≡ false
not_found names is x k n = ap (λ (ns : List Name). is_among ns x) (names-are names is n) ∙ go n.names n.declared_all
  where
    go : (ns : List Name) → list_all (is_among names) ns ≡ true → is_among ns x ≡ false
    go [] h = refl
    go (y ∷ ys) h =
        let r = and_parts (is_among names y) (list_all (is_among names) ys) h in by (bytes_eq x y) refl r.0 (go ys r.1)
      where
        by : (b : Bool) → bytes_eq x y ≡ b → is_among names y ≡ true → is_among ys x ≡ false → (b || is_among ys x) ≡ false
        by true e p q = let both : is_among names x ≡ true = ap (is_among names) (same_bytes x y e) ∙ p in absurd (cc)
        by false e p q = q

-- ---- a name that is looked up

abbrev pub Keys : Type 0
Keys = List (Vec ℕ Global)

abbrev pub key_names : Keys → List Name
key_names ks = map (λ (n : Vec ℕ Global). n.items) ks

among-keys-place : (ks : Keys) (x : Name) → is_among (key_names ks) x ≡ nat_lt (position_or_len (λ (k : Vec ℕ Global). bytes_eq x k.items) ks) (length ks)
among-keys-place ks x = among-place (key_names ks) x ∙ (λ i. nat_lt (sym (position-keys ks x) i) (length-map ks (λ (n : Vec ℕ Global). n.items) i))

pub key-number : (ks : Keys) (x : Name) (i : ℕ) → Some i ≡ position (λ (k : Vec ℕ Global). bytes_eq x k.items) ks → (is_among (key_names ks) x ≡ true) × (i ≡ number_of (key_names ks) x)
key-number ks x i e = (among-keys-place ks x ∙ go (nat_lt (position_or_len (λ (k : Vec ℕ Global). bytes_eq x k.items) ks) (length ks)) e, position-some _ ks i e ∙ position-keys ks x)
  where
    go : (b : Bool) → Some i ≡ cond b (Some (position_or_len (λ (k : Vec ℕ Global). bytes_eq x k.items) ks)) None → b ≡ true
    go true e = refl
    go false e = absurd (cc)

pub no-key : (ks : Keys) (x : Name) → None ≡ position (λ (k : Vec ℕ Global). bytes_eq x k.items) ks → is_among (key_names ks) x ≡ false
no-key ks x e = among-keys-place ks x ∙ go (nat_lt (position_or_len (λ (k : Vec ℕ Global). bytes_eq x k.items) ks) (length ks)) e
  where
    go : (b : Bool) → None ≡ cond b (Some (position_or_len (λ (k : Vec ℕ Global). bytes_eq x k.items) ks)) None → b ≡ false
    go true e = absurd (cc)
    go false e = refl

abbrev pub viewed : List Name → List ℕ → VariableNames
viewed names is = record { declared = names; found = names_at names is }

abbrev pub noted : VariableNames → Name → VariableNames
noted v x = record v { found = cond (is_among v.declared x) (with_name v.found x) v.found }

found_at : (names : List Name) (is : List ℕ) (x : Name) (b : Bool) → is_among names x ≡ true → AreNumbered names is → nat_lt (place_in is (number_of names x)) (length is) ≡ b → is_among (names_at names is) x ≡ b
found_at names is x b k n e = among-place (names_at names is) x ∙ (λ i. nat_lt (sym (place-found names is x k n) i) (sym (length-found names is n) i)) ∙ e

pub note-new : (names : List Name) (is js : List ℕ) (v : VariableNames) (x : Name) → viewed names is ≡ v → is_among names x ≡ true → AreNumbered names is → place_in is (number_of names x) ≡ length is → js ≡ is ++ number_of names x ∷ [] → viewed names js ≡ noted v x
note-new names is js v x e k n p q =
    (λ i. record { declared = names; found = (ap (names_at names) q ∙ names-push names is x k ∙ sym with) i }) ∙ ap (λ (w : VariableNames). noted w x) e
  where
    with : cond (is_among names x) (with_name (names_at names is) x) (names_at names is) ≡ names_at names is ++ x ∷ []
    with = (λ i. cond (k i) (cond (found_at names is x false k n (grind arith) i) (names_at names is) (names_at names is ++ x ∷ [])) (names_at names is))

pub note-old : (names : List Name) (is : List ℕ) (v : VariableNames) (x : Name) → viewed names is ≡ v → is_among names x ≡ true → AreNumbered names is → (place_in is (number_of names x) ≡ length is → ⊥) → v ≡ noted v x
note-old names is v x e k n p = sym e ∙ (λ i. record { declared = names; found = sym with i }) ∙ ap (λ (w : VariableNames). noted w x) e
  where
    le : place_in is (number_of names x) ≤ length is
    le = omega (arith, place-found names is x k n, length-found names is n, number_of-le (names_at names is) x)

    with : cond (is_among names x) (with_name (names_at names is) x) (names_at names is) ≡ names_at names is
    with = (λ i. cond (k i) (cond (found_at names is x true k n (grind (arith, le, p)) i) (names_at names is) (names_at names is ++ x ∷ [])) (names_at names is))

pub place-some : (names : List Name) (is : List ℕ) (v : VariableNames) (x : Name) (at : ℕ) → viewed names is ≡ v → is_among names x ≡ true → AreNumbered names is → at ≡ place_in is (number_of names x) → at < length is → (is_among v.found x ≡ true) × (number_of v.found x ≡ at)
place-some names is v x at e k n p h = (
  ap (λ (w : VariableNames). is_among w.found x) (sym e) ∙ found_at names is x true k n (grind (arith, p, h)),
  ap (λ (w : VariableNames). number_of w.found x) (sym e) ∙ sym (place-found names is x k n) ∙ sym p,
)

pub place-none : (names : List Name) (is : List ℕ) (v : VariableNames) (x : Name) (at : ℕ) → viewed names is ≡ v → is_among names x ≡ true → AreNumbered names is → at ≡ place_in is (number_of names x) → (at < length is → ⊥) → is_among v.found x ≡ false
place-none names is v x at e k n p h = ap (λ (w : VariableNames). is_among w.found x) (sym e) ∙ found_at names is x false k n (grind (arith, p, h))

pub place-undeclared : (names : List Name) (is : List ℕ) (v : VariableNames) (x : Name) → viewed names is ≡ v → is_among names x ≡ false → AreNumbered names is → is_among v.found x ≡ false
place-undeclared names is v x e k n = ap (λ (w : VariableNames). is_among w.found x) (sym e) ∙ not_found names is x k n

-- ---- a name by its number

pub number-some : (vars : List Name) (x : Name) (n : ℕ) → variable_number vars x ≡ Some n → (is_among vars x ≡ true) × (n ≡ number_of vars x)
number-some vars x n e = go (is_among vars x) e
  where
    go : (b : Bool) → cond b (Some (number_of vars x)) None ≡ Some n → (b ≡ true) × (n ≡ number_of vars x)
    go true e = (refl, sym (same_Some (number_of vars x) n e))
    go false e = absurd (cc)

pub number-is_some : (vars : List Name) (x : Name) → is_some (variable_number vars x) ≡ is_among vars x
number-is_some vars x = go (is_among vars x)
  where
    go : (b : Bool) → is_some (cond b (Some (number_of vars x)) None) ≡ b
    go true = refl
    go false = refl

pub number-key : (ks : Keys) (x : Name) → position (λ (k : Vec ℕ Global). bytes_eq x k.items) ks ≡ variable_number (key_names ks) x
number-key ks x = go (position (λ (k : Vec ℕ Global). bytes_eq x k.items) ks) refl
  where
    some : (n : ℕ) (b : Bool) → b ≡ true → n ≡ number_of (key_names ks) x → Some n ≡ cond b (Some (number_of (key_names ks) x)) None
    some n true h e = ap (λ (m : ℕ). Some m) e
    some n false h e = absurd (cc)

    none : (b : Bool) → b ≡ false → None ≡ cond b (Some (number_of (key_names ks) x)) None
    none true h = absurd (cc)
    none false h = refl

    go : (o : Option ℕ) → o ≡ position (λ (k : Vec ℕ Global). bytes_eq x k.items) ks → o ≡ variable_number (key_names ks) x
    go (Some n) e = let r = key-number ks x n e in some n (is_among (key_names ks) x) r.0 r.1
    go None e = none (is_among (key_names ks) x) (no-key ks x e)

-- the numbered name that a value of variables has, in its inside
pub number-inside : (names : List Name) (is : List ℕ) (v : VariableNames) (x : Name) (n : ℕ) → viewed names is ≡ v → variable_number v.declared x ≡ Some n → (is_among names x ≡ true) × (n ≡ number_of names x)
number-inside names is v x n e h = number-some names x n (ap (λ (w : VariableNames). variable_number w.declared x) e ∙ h)

pub noted-declared : (v w : VariableNames) (x : Name) (n : ℕ) → variable_number v.declared x ≡ Some n → w ≡ noted v x → w ≡ record v { found = with_name v.found x }
noted-declared v w x n h e = e ∙ (λ i. record v { found = cond ((number-some v.declared x n h).0 i) (with_name v.found x) v.found })

-- whether a declared name is one more
pub one-more : (names : List Name) (is : List ℕ) (v : VariableNames) (x : Name) (at len n : ℕ) → viewed names is ≡ v → is_among names x ≡ true → AreNumbered names is → at ≡ place_in is (number_of names x) → len ≡ length is → length v.found ≡ n → nat_eq at len ≡ is_one_more v.found n x
one-more names is v x at len n e k m p l c = same ∙ (λ i. not (sym among i)) ∙ and_true (not (is_among v.found x)) (nat_eq (length v.found) n) (grind (arith, c))
  where
    le : at ≤ len
    le = omega (arith, p, l, place-found names is x k m, length-found names is m, number_of-le (names_at names is) x)

    same : nat_eq at len ≡ not (nat_lt at len)
    same = grind (arith, le)

    among : is_among v.found x ≡ nat_lt at len
    among = ap (λ (w : VariableNames). is_among w.found x) (sym e) ∙ found_at names is x (nat_lt at len) k m (λ i. nat_lt (sym p i) (sym l i))

    and_true : (a b : Bool) → b ≡ true → a ≡ (a && b)
    and_true true b h = sym h
    and_true false b h = refl

-- ---- the names of terms

pub with_found-among : (v : VariableNames) (xs ys : List Name) → with_found v (variables_among v.declared (xs ++ ys)) ≡ with_found (with_found v (variables_among v.declared xs)) (variables_among v.declared ys)
with_found-among v xs ys = λ i. record v { found = with_names-among v.declared v.found xs ys i }

-- the variables that are found in both sides are those of the equation
pub equation-found : (v none left right : VariableNames) (e : WrittenEquation) → none ≡ record v { found = [] } → left ≡ with_found none (variables_among none.declared (names_in e.left)) → right ≡ with_found left (variables_among left.declared (names_in e.right)) → right ≡ record v { found = equation_variables v.declared e }
equation-found v none left right e n l r =
    r ∙ ap (λ (w : VariableNames). with_found w (variables_among w.declared (names_in e.right))) (l ∙ ap (λ (w : VariableNames). with_found w (variables_among w.declared (names_in e.left))) n)
    ∙ (λ i. record v { found = (sym (with_names-among v.declared [] (names_in e.left) (names_in e.right)) ∙ names-firsts (variables_among v.declared (names_in e.left ++ names_in e.right))) i })
