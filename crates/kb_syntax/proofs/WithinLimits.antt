-- Spelled problems are within the limits, and their variables are numbered by first occurrence.
use Rattle.std.proofs.Common.{append_assoc, length-append, ⊎_elim, ◌≡◌, refl, ap, ap₂, sym, ◌∙◌, subst, arith, ℕ, suc, ◌+◌, ◌≤◌, List, [], ◌∷◌, ◌++◌, map, Some, Bool, true, false, not, cond, ◌&&◌, ◌||◌, length, Contains}
use Rattle.std.specs.Prelude.{max, nat_le, nat_eq, bytes_eq, unwrap_or, All}
use Rattle.std.specs.List.{list_all}
use Rattle.std.proofs.lemmas.List.{length-map}
use Rattle.std.proofs.lemmas.List.Elements.{All-nil, All-cons, filter-append}
use Rattle.kb_term.specs.Tree.{Tree, variable, apply, no_trees, list_of, tree_size, trees_size, tree_depth, trees_depth, variables_of, variables_in}
use Rattle.kb_term.specs.Substitution.{rename}
use Rattle.kb_term.specs.Pair.{distinct, place_in, variables_of_pair}
use Rattle.kb_term.specs.Signature.{SymbolEntry, Problem, HasArity, IsWellFormed, AreWellFormed, IsEquationWithinLimits, IsWithinLimits}
use Rattle.kb_term.proofs.Variants.{rename_same}
use Rattle.std.proofs.lemmas.List.Elements.{Contains-append_left, Contains-append_right}
use Rattle.std.proofs.lemmas.Bool.{not-true, leb-true, and_parts, or_left, or_right}
use Rattle.kb_text.proofs.RewrittenLists.{among-append, same_name}
use Rattle.kb_lemmas.proofs.Membership.{contains_cases}
use Rattle.kb_text.specs.Names.{Name, is_among, number_of}
use Rattle.kb_text.specs.Grammar.{Written, alone, applied, Arguments, no_arguments, argument, WrittenEquation, Section}
use Rattle.kb_text.specs.Problems.{variables_of as declared, equations_of, names_in, names_in_all, count_of, uses_in, uses_in_all, arity_in, depth_in, depth_in_all, sides_of, all_names, all_uses, variables_among, symbols_among, term_of, terms_of, symbol_names, equation_variables, equation_of, entry_of, is_unapplied, are_unapplied, Spells}
use Rattle.kb_text.proofs.Firsts.{same_bytes, is_among-firsts}
use Rattle.kb_syntax.proofs.FitsTerms.{few_arguments}
use Rattle.kb_syntax.proofs.FitsLists.{all_front, all_behind}
use Rattle.kb_syntax.proofs.Numbers.{among-filter, distinct_firsts, distinct_numbers, place_number}

-- ---- the shape of a term

mutual
  term_size : (vars symbols : List Name) (t : Written) → tree_size (term_of vars symbols t) ≡ length (names_in t)
  term_size vars symbols (alone c) = go (is_among vars c)
    where
      go : (b : Bool) → tree_size (cond b (variable (number_of vars c)) (apply (number_of symbols c) no_trees)) ≡ 1
      go true = refl
      go false = refl
  term_size vars symbols (applied f ts) = omega (arith, terms_size vars symbols ts)

  terms_size : (vars symbols : List Name) (ts : Arguments) → trees_size (terms_of vars symbols ts) ≡ length (names_in_all ts)
  terms_size vars symbols no_arguments = refl
  terms_size vars symbols (argument t ts) = omega (arith, term_size vars symbols t, terms_size vars symbols ts, length-append (names_in t) (names_in_all ts))

mutual
  term_depth : (vars symbols : List Name) (t : Written) → tree_depth (term_of vars symbols t) ≡ depth_in t
  term_depth vars symbols (alone c) = go (is_among vars c)
    where
      go : (b : Bool) → tree_depth (cond b (variable (number_of vars c)) (apply (number_of symbols c) no_trees)) ≡ 1
      go true = refl
      go false = refl
  term_depth vars symbols (applied f ts) = ap (λ (n : ℕ). n + 1) (terms_depth vars symbols ts)

  terms_depth : (vars symbols : List Name) (ts : Arguments) → trees_depth (terms_of vars symbols ts) ≡ depth_in_all ts
  terms_depth vars symbols no_arguments = refl
  terms_depth vars symbols (argument t ts) = ap₂ max (term_depth vars symbols t) (terms_depth vars symbols ts)

terms_count : (vars symbols : List Name) (ts : Arguments) → length (list_of (terms_of vars symbols ts)) ≡ count_of ts
terms_count vars symbols no_arguments = refl
terms_count vars symbols (argument t ts) = omega (arith, terms_count vars symbols ts)

-- ---- its symbols

has_arity : (uses : List (Name × ℕ)) (symbols : List Name) (f : Name) (n : ℕ) → is_among symbols f ≡ true → n ≡ unwrap_or (arity_in uses f) 0 → HasArity (map (entry_of uses) symbols) (number_of symbols f) n
has_arity uses [] f n a e = absurd (cc)
has_arity uses (x ∷ xs) f n a e = go (bytes_eq f x) refl a (has_arity uses xs f n)
  where
    Has : ℕ → Type 0
    Has k = HasArity (map (entry_of uses) (x ∷ xs)) k n

    one : (k : ℕ) → suc k ≡ k + 1
    one k = omega arith

    go : (b : Bool) → bytes_eq f x ≡ b → (b || is_among xs f) ≡ true → (is_among xs f ≡ true → n ≡ unwrap_or (arity_in uses f) 0 → HasArity (map (entry_of uses) xs) (number_of xs f) n) → HasArity (map (entry_of uses) (x ∷ xs)) (cond (bytes_eq f x) 0 (number_of xs f + 1)) n
    go true q a ih = subst (λ (c : Bool). Has (cond c 0 (number_of xs f + 1))) (sym q) (ap Some (ap (λ (y : Name). unwrap_or (arity_in uses y) 0) (sym (same_bytes f x q)) ∙ sym e))
    go false q a ih = subst (λ (c : Bool). Has (cond c 0 (number_of xs f + 1))) (sym q) (subst Has (one (number_of xs f)) (ih a e))

same_count : (m n : ℕ) → nat_eq m n ≡ true → m ≡ n
same_count m n h = grind arith

-- a use of as many arguments as the first of its name
abbrev agrees : List (Name × ℕ) → Name × ℕ → Bool
agrees uses u = nat_eq u.1 (unwrap_or (arity_in uses u.0) 0)

-- names of which those that aren't variables are symbols
abbrev AreSymbols : List Name → List Name → List Name → Type 0
AreSymbols vars symbols names = (x : Name) → is_among names x ≡ true → is_among vars x ≡ false → is_among symbols x ≡ true

-- and of which the variables are found
abbrev AreFound : List Name → List Name → List Name → Type 0
AreFound vars found names = (x : Name) → is_among names x ≡ true → is_among found x ≡ is_among vars x

first_name : (f : Name) (ns : List Name) → is_among (f ∷ ns) f ≡ true
first_name f ns = or_left (bytes_eq f f) (is_among ns f) (same_name f)

in_front : (xs ys : List Name) (x : Name) → is_among xs x ≡ true → is_among (xs ++ ys) x ≡ true
in_front xs ys x h = among-append xs ys x ∙ or_left (is_among xs x) (is_among ys x) h

in_rest : (xs ys : List Name) (x : Name) → is_among ys x ≡ true → is_among (xs ++ ys) x ≡ true
in_rest xs ys x h = among-append xs ys x ∙ or_right (is_among xs x) (is_among ys x) h

mutual
  term_formed : (vars found symbols : List Name) (uses : List (Name × ℕ)) (t : Written) → AreFound vars found (names_in t) → AreSymbols vars symbols (names_in t) → is_unapplied vars t ≡ true → list_all (agrees uses) (uses_in t) ≡ true → IsWellFormed (map (entry_of uses) symbols) (term_of found symbols t)
  term_formed vars found symbols uses (alone c) a b u g = go (is_among found c) refl
    where
      go : (v : Bool) → is_among found c ≡ v → IsWellFormed (map (entry_of uses) symbols) (cond v (variable (number_of found c)) (apply (number_of symbols c) no_trees))
      go true e = tt
      go false e = (has_arity uses symbols c 0 (b c (first_name c []) (sym (a c (first_name c [])) ∙ e)) (same_count 0 (unwrap_or (arity_in uses c) 0) (and_parts _ _ g).0), tt)
  term_formed vars found symbols uses (applied f ts) a b u g =
      let v = and_parts _ _ u in
      let own = (and_parts _ _ (all_behind (agrees uses) (uses_in_all ts) ((f, count_of ts) ∷ []) g)).0 in (
        subst (HasArity (map (entry_of uses) symbols) (number_of symbols f)) (sym (terms_count found symbols ts)) (has_arity uses symbols f (count_of ts) (b f (first_name f (names_in_all ts)) (not-true (is_among vars f) v.0)) (same_count (count_of ts) (unwrap_or (arity_in uses f) 0) own)),
        terms_formed vars found symbols uses ts (λ x c. a x (or_right (bytes_eq x f) (is_among (names_in_all ts) x) c)) (λ x c. b x (or_right (bytes_eq x f) (is_among (names_in_all ts) x) c)) v.1 (all_front (agrees uses) (uses_in_all ts) ((f, count_of ts) ∷ []) g),
      )

  terms_formed : (vars found symbols : List Name) (uses : List (Name × ℕ)) (ts : Arguments) → AreFound vars found (names_in_all ts) → AreSymbols vars symbols (names_in_all ts) → are_unapplied vars ts ≡ true → list_all (agrees uses) (uses_in_all ts) ≡ true → AreWellFormed (map (entry_of uses) symbols) (terms_of found symbols ts)
  terms_formed vars found symbols uses no_arguments a b u g = tt
  terms_formed vars found symbols uses (argument t ts) a b u g =
      let v = and_parts _ _ u in (
        term_formed vars found symbols uses t (λ x c. a x (in_front (names_in t) (names_in_all ts) x c)) (λ x c. b x (in_front (names_in t) (names_in_all ts) x c)) v.0 (all_front (agrees uses) (uses_in t) (uses_in_all ts) g),
        terms_formed vars found symbols uses ts (λ x c. a x (in_rest (names_in t) (names_in_all ts) x c)) (λ x c. b x (in_rest (names_in t) (names_in_all ts) x c)) v.1 (all_behind (agrees uses) (uses_in t) (uses_in_all ts) g),
      )

-- ---- its variables

map_join : (f : Name → ℕ) (xs ys : List Name) → map f (xs ++ ys) ≡ map f xs ++ map f ys
map_join f [] ys = refl
map_join f (x ∷ xs) ys = ap (f x ∷◌) (map_join f xs ys)

mutual
  term_variables : (vars found symbols : List Name) (t : Written) → AreFound vars found (names_in t) → is_unapplied vars t ≡ true → variables_of (term_of found symbols t) ≡ map (number_of found) (variables_among vars (names_in t))
  term_variables vars found symbols (alone c) a u = ap (λ (b : Bool). variables_of (cond b (variable (number_of found c)) (apply (number_of symbols c) no_trees))) (a c (first_name c [])) ∙ go (is_among vars c)
    where
      go : (b : Bool) → variables_of (cond b (variable (number_of found c)) (apply (number_of symbols c) no_trees)) ≡ map (number_of found) (cond b (c ∷ []) [])
      go true = refl
      go false = refl
  term_variables vars found symbols (applied f ts) a u =
      let v = and_parts _ _ u in
      terms_variables vars found symbols ts (λ x c. a x (or_right (bytes_eq x f) (is_among (names_in_all ts) x) c)) v.1 ∙ sym (ap (λ (b : Bool). map (number_of found) (cond b (f ∷ variables_among vars (names_in_all ts)) (variables_among vars (names_in_all ts)))) (not-true (is_among vars f) v.0))

  terms_variables : (vars found symbols : List Name) (ts : Arguments) → AreFound vars found (names_in_all ts) → are_unapplied vars ts ≡ true → variables_in (terms_of found symbols ts) ≡ map (number_of found) (variables_among vars (names_in_all ts))
  terms_variables vars found symbols no_arguments a u = refl
  terms_variables vars found symbols (argument t ts) a u =
      let v = and_parts _ _ u in
      ap₂ (λ (ms ns : List ℕ). ms ++ ns) (term_variables vars found symbols t (λ x c. a x (in_front (names_in t) (names_in_all ts) x c)) v.0) (terms_variables vars found symbols ts (λ x c. a x (in_rest (names_in t) (names_in_all ts) x c)) v.1)
      ∙ sym (map_join (number_of found) (variables_among vars (names_in t)) (variables_among vars (names_in_all ts)))
      ∙ ap (map (number_of found)) (sym (filter-append (is_among vars) (names_in t) (names_in_all ts)))

-- a number among those of names is that of one of them
number_in : (P : ℕ → Type 0) (found xs : List Name) → ((x : Name) → is_among xs x ≡ true → P (number_of found x)) → (n : ℕ) → Contains (map (number_of found) xs) n → P n
number_in P found [] h n c = absurd (omega arith)
number_in P found (x ∷ xs) h n c = ⊎_elim (λ e. subst P e (h x (first_name x xs))) (λ k. number_in P found xs (λ y d. h y (or_right (bytes_eq y x) (is_among xs y) d)) n k) (contains_cases (number_of found x) (map (number_of found) xs) n c)

-- ---- an equation

equation_within : (vars symbols : List Name) (uses : List (Name × ℕ)) (e : WrittenEquation) → AreSymbols vars symbols (names_in e.left ++ names_in e.right) → is_unapplied vars e.left ≡ true → is_unapplied vars e.right ≡ true
    → list_all (agrees uses) (uses_in e.left) ≡ true → list_all (agrees uses) (uses_in e.right) ≡ true → length (names_in e.left) ≤ 512 → length (names_in e.right) ≤ 512 → depth_in e.left ≤ 64 → depth_in e.right ≤ 64 → length (equation_variables vars e) ≤ 64
    → IsEquationWithinLimits (map (entry_of uses) symbols) (equation_of vars symbols e)
equation_within vars symbols uses e known ul ur gl gr sl sr dl dr few = record {
  left = record { well_formed = term_formed vars found symbols uses e.left (λ x c. are_found x (in_front (names_in e.left) (names_in e.right) x c)) (λ x c. known x (in_front (names_in e.left) (names_in e.right) x c)) ul gl; size = omega (arith, sl, term_size found symbols e.left); depth = omega (arith, dl, term_depth found symbols e.left) };
  right = record { well_formed = term_formed vars found symbols uses e.right (λ x c. are_found x (in_rest (names_in e.left) (names_in e.right) x c)) (λ x c. known x (in_rest (names_in e.left) (names_in e.right) x c)) ur gr; size = omega (arith, sr, term_size found symbols e.right); depth = omega (arith, dr, term_depth found symbols e.right) };
  variables = omega (arith, few, ap length pair, length-map found (number_of found));
  by_occurrence = ap₂ (λ (s t : Tree). record { first = s; second = t }) (same (term_of found symbols e.left) (λ n c. Contains-append_left (variables_of (term_of found symbols e.left)) (variables_of (term_of found symbols e.right)) n c)) (same (term_of found symbols e.right) (λ n c. Contains-append_right (variables_of (term_of found symbols e.left)) (variables_of (term_of found symbols e.right)) n c));
}
  where
    names : List Name
    names = names_in e.left ++ names_in e.right

    found : List Name
    found = equation_variables vars e

    both : (a b : Bool) → a ≡ true → (a && b) ≡ b
    both a b h = ap (λ (c : Bool). c && b) h

    among : (x : Name) → is_among found x ≡ (is_among names x && is_among vars x)
    among x = is_among-firsts (variables_among vars names) x ∙ among-filter vars names x

    are_found : AreFound vars found names
    are_found x c = among x ∙ both (is_among names x) (is_among vars x) c

    kept : (x : Name) → is_among (variables_among vars names) x ≡ true → is_among found x ≡ true
    kept x c = is_among-firsts (variables_among vars names) x ∙ c

    all : variables_of (term_of found symbols e.left) ++ variables_of (term_of found symbols e.right) ≡ map (number_of found) (variables_among vars names)
    all = ap₂ (λ (ms ns : List ℕ). ms ++ ns) (term_variables vars found symbols e.left (λ x c. are_found x (in_front (names_in e.left) (names_in e.right) x c)) ul) (term_variables vars found symbols e.right (λ x c. are_found x (in_rest (names_in e.left) (names_in e.right) x c)) ur)
        ∙ sym (map_join (number_of found) (variables_among vars (names_in e.left)) (variables_among vars (names_in e.right)))
        ∙ ap (map (number_of found)) (sym (filter-append (is_among vars) (names_in e.left) (names_in e.right)))

    pair : variables_of_pair (term_of found symbols e.left) (term_of found symbols e.right) ≡ map (number_of found) found
    pair = ap distinct all ∙ distinct_numbers found (variables_among vars names) kept

    same : (u : Tree) → ((n : ℕ) → Contains (variables_of u) n → Contains (variables_of (term_of found symbols e.left) ++ variables_of (term_of found symbols e.right)) n) → rename (place_in (variables_of_pair (term_of found symbols e.left) (term_of found symbols e.right))) u ≡ u
    same u h = rename_same (place_in (variables_of_pair (term_of found symbols e.left) (term_of found symbols e.right))) u (λ n c. ap (λ (ns : List ℕ). place_in ns n) pair ∙ number_in (λ k. place_in (map (number_of found) found) k ≡ k) found (variables_among vars names) (λ x d. place_number found x (distinct_firsts (variables_among vars names)) (kept x d)) n (subst (λ (ns : List ℕ). Contains ns n) all (h n c)))

-- ---- a problem

equations_within : (vars symbols : List Name) (uses : List (Name × ℕ)) (es : List WrittenEquation) → AreSymbols vars symbols (all_names es) → list_all (is_unapplied vars) (sides_of es) ≡ true → list_all (agrees uses) (all_uses es) ≡ true
    → list_all (λ t. nat_le (length (names_in t)) 512) (sides_of es) ≡ true → list_all (λ t. nat_le (depth_in t) 64) (sides_of es) ≡ true → list_all (λ e. nat_le (length (equation_variables vars e)) 64) es ≡ true
    → All (IsEquationWithinLimits (map (entry_of uses) symbols)) (map (equation_of vars symbols) es)
equations_within vars symbols uses [] known u g s d few = All-nil (IsEquationWithinLimits (map (entry_of uses) symbols))
equations_within vars symbols uses (e ∷ es) known u g s d few =
    let u1 = and_parts _ _ u in
    let u2 = and_parts _ _ u1.1 in
    let s1 = and_parts _ _ s in
    let s2 = and_parts _ _ s1.1 in
    let d1 = and_parts _ _ d in
    let d2 = and_parts _ _ d1.1 in
    let f = and_parts _ _ few in
    let g1 = all_behind (agrees uses) (uses_in e.left) (uses_in e.right ++ all_uses es) g in
    All-cons (IsEquationWithinLimits (map (entry_of uses) symbols)) (equation_of vars symbols e) (map (equation_of vars symbols) es)
    (equation_within vars symbols uses e (λ x c. known x (ap (λ (ns : List Name). is_among ns x) (sym (append_assoc (names_in e.left) (names_in e.right) (all_names es))) ∙ in_front (names_in e.left ++ names_in e.right) (all_names es) x c)) u1.0 u2.0
    (all_front (agrees uses) (uses_in e.left) (uses_in e.right ++ all_uses es) g) (all_front (agrees uses) (uses_in e.right) (all_uses es) g1)
    (leb-true (length (names_in e.left)) 512 s1.0) (leb-true (length (names_in e.right)) 512 s2.0) (leb-true (depth_in e.left) 64 d1.0) (leb-true (depth_in e.right) 64 d2.0) (leb-true (length (equation_variables vars e)) 64 f.0))
    (equations_within vars symbols uses es (λ x c. known x (in_rest (names_in e.left) (names_in e.right ++ all_names es) x (in_rest (names_in e.right) (all_names es) x c))) u2.1 (all_behind (agrees uses) (uses_in e.right) (all_uses es) g1) s2.1 d2.1 f.1)

few_at : (uses : List (Name × ℕ)) (x : Name) → list_all few_arguments uses ≡ true → unwrap_or (arity_in uses x) 0 ≤ 8
few_at [] x h = omega arith
few_at (u ∷ us) x h = let r = and_parts _ _ h in go (bytes_eq x u.0) (leb-true u.1 8 r.0) (few_at us x r.1)
  where
    go : (b : Bool) → u.1 ≤ 8 → unwrap_or (arity_in us x) 0 ≤ 8 → unwrap_or (cond b (Some u.1) (arity_in us x)) 0 ≤ 8
    go true a c = a
    go false a c = c

entries_few : (uses : List (Name × ℕ)) (symbols : List Name) → list_all few_arguments uses ≡ true → All (λ (f : SymbolEntry). f.arity ≤ 8) (map (entry_of uses) symbols)
entries_few uses [] h = All-nil (λ (f : SymbolEntry). f.arity ≤ 8)
entries_few uses (x ∷ xs) h = All-cons (λ (f : SymbolEntry). f.arity ≤ 8) (entry_of uses x) (map (entry_of uses) xs) (few_at uses x h) (entries_few uses xs h)

are_symbols : (ss : List Section) → AreSymbols (declared ss) (symbol_names ss) (all_names (equations_of ss))
are_symbols ss x a b = is_among-firsts (symbols_among (declared ss) (all_names (equations_of ss))) x ∙ go (all_names (equations_of ss)) a
  where
    go : (ns : List Name) → is_among ns x ≡ true → is_among (symbols_among (declared ss) ns) x ≡ true
    go [] a = absurd (cc)
    go (n ∷ ns) a = by (bytes_eq x n) refl (is_among (declared ss) n) refl a (go ns)
      where
        by : (p : Bool) → bytes_eq x n ≡ p → (q : Bool) → is_among (declared ss) n ≡ q → (p || is_among ns x) ≡ true → (is_among ns x ≡ true → is_among (symbols_among (declared ss) ns) x ≡ true) → is_among (cond (not q) (n ∷ symbols_among (declared ss) ns) (symbols_among (declared ss) ns)) x ≡ true
        by true p true q a ih = absurd (no (sym (ap (is_among (declared ss)) (same_bytes x n p) ∙ q) ∙ b))
          where
            no : true ≡ false → ⊥
            no e = cc
        by true p false q a ih = or_left (bytes_eq x n) (is_among (symbols_among (declared ss) ns) x) p
        by false p true q a ih = ih a
        by false p false q a ih = or_right (bytes_eq x n) (is_among (symbols_among (declared ss) ns) x) (ih a)

pub within_limits : (bytes : List ℕ) (p : Problem) → Spells bytes p → IsWithinLimits p
within_limits bytes p h = subst IsWithinLimits (sym h.stands_for) (record {
  symbols = let few = leb-true (length (symbol_names h.sections)) 24 h.limits.symbols in omega (arith, few, length-map (symbol_names h.sections) (entry_of (all_uses (equations_of h.sections))));
  arities = entries_few (all_uses (equations_of h.sections)) (symbol_names h.sections) h.limits.arity;
  count = let few = leb-true (length (equations_of h.sections)) 256 h.limits.equations in omega (arith, few, length-map (equations_of h.sections) (equation_of (declared h.sections) (symbol_names h.sections)));
  each = equations_within (declared h.sections) (symbol_names h.sections) (all_uses (equations_of h.sections)) (equations_of h.sections) (are_symbols h.sections) h.conditions.unapplied h.conditions.one_arity h.limits.size h.limits.depth h.limits.variables_each;
})
