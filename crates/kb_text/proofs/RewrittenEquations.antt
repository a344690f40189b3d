-- Equations that are read and written again.
use Rattle.std.proofs.Common.{◌≡◌, refl, ap, ap₂, sym, ◌∙◌, arith, ℕ, ◌≤◌, List, [], ◌∷◌, ◌++◌, Bool, true, false, not, ◌&&◌, ◌||◌, cond, length, max}
use Rattle.std.specs.Prelude.{filter, map, nat_eq, nat_le, unwrap_or, ⊤}
use Rattle.std.specs.List.{list_all}
use Rattle.std.proofs.lemmas.Bool.{leb-true, and_parts}
use Rattle.std.proofs.lemmas.List.{length-map, map-append}
use Rattle.std.proofs.lemmas.List.Elements.{filter-append}
use Rattle.std.proofs.Math.Bool.{or-true}
use Rattle.kb_term.specs.Pair.{distinct}
use Rattle.kb_term.specs.Tree.{variable, apply, no_trees, variables_of as occurrences, variables_in}
use Rattle.kb_text.specs.Names.{Name, is_among, number_of, firsts}
use Rattle.kb_text.specs.Grammar.{Written, alone, applied, Arguments, no_arguments, argument, WrittenEquation}
use Rattle.kb_text.specs.Problems.{names_in, names_in_all, uses_in, arity_in, depth_in, is_unapplied, sides_of, all_names, all_uses, term_of, terms_of, equation_variables, equation_of}
use Rattle.kb_text.specs.Terms.{variable_count, most_variables}
use Rattle.kb_text.proofs.Firsts.{is_among-firsts}
use Rattle.kb_text.proofs.RewrittenTerms.{IsGood, AreGood, is_good, good_symbol, good_variable, first_good, others_good, arguments_good, head_symbol, all_split}
use Rattle.kb_text.proofs.RewrittenLists.{all_among, among-append, among-filter, distinct_numbers}

abbrev pub agrees : List (Name × ℕ) → Name × ℕ → Bool
agrees uses u = nat_eq u.1 (unwrap_or (arity_in uses u.0) 0)

-- what is asked of an equation that is read
pub record IsGoodEquation (vars symbols : List Name) (uses : List (Name × ℕ)) (e : WrittenEquation) : Type 0 where
  pub left : IsGood vars (equation_variables vars e) symbols uses e.left
  pub right : IsGood vars (equation_variables vars e) symbols uses e.right
  pub few : length (equation_variables vars e) ≤ 64
  pub left_depth : depth_in e.left ≤ 64
  pub right_depth : depth_in e.right ≤ 64

abbrev pub AreGoodEquations : List Name → List Name → List (Name × ℕ) → List WrittenEquation → Type 0
AreGoodEquations vars symbols uses [] = ⊤
AreGoodEquations vars symbols uses (e ∷ es) = IsGoodEquation vars symbols uses e × AreGoodEquations vars symbols uses es

in_left : (xs ys : List Name) (c : Name) → is_among xs c ≡ true → is_among (xs ++ ys) c ≡ true
in_left xs ys c h = among-append xs ys c ∙ ap (λ v. v || is_among ys c) h

in_right : (xs ys : List Name) (c : Name) → is_among ys c ≡ true → is_among (xs ++ ys) c ≡ true
in_right xs ys c h = among-append xs ys c ∙ ap (is_among xs c ||◌) h ∙ or-true (is_among xs c)

good_in_equation : (vars symbols ns : List Name) (c : Name) → is_among ns c ≡ true → (is_among vars c ≡ false → is_among symbols c ≡ true) → is_good vars (firsts (filter (is_among vars) ns)) symbols c ≡ true
good_in_equation vars symbols ns c h s = go (is_among vars c) refl
  where
    found : List Name
    found = firsts (filter (is_among vars) ns)

    is_found : is_among found c ≡ (is_among vars c && is_among ns c)
    is_found = is_among-firsts (filter (is_among vars) ns) c ∙ among-filter (is_among vars) ns c

    go : (v : Bool) → is_among vars c ≡ v → cond (is_among vars c) (is_among found c) (not (is_among found c) && is_among symbols c) ≡ true
    go true e = ap (λ v. cond v (is_among found c) (not (is_among found c) && is_among symbols c)) e ∙ is_found ∙ ap₂ ◌&&◌ e h
    go false e = ap (λ v. cond v (is_among found c) (not (is_among found c) && is_among symbols c)) e ∙ ap₂ (λ v w. not v && w) (is_found ∙ ap (λ v. v && is_among ns c) e) (s e)

pub good_equations : (vars symbols : List Name) (uses : List (Name × ℕ)) (es : List WrittenEquation) → ((c : Name) → is_among (all_names es) c ≡ true → is_among vars c ≡ false → is_among symbols c ≡ true) → list_all (is_unapplied vars) (sides_of es) ≡ true → list_all (agrees uses) (all_uses es) ≡ true
    → list_all (λ t. nat_le (depth_in t) 64) (sides_of es) ≡ true → list_all (λ e. nat_le (length (equation_variables vars e)) 64) es ≡ true → AreGoodEquations vars symbols uses es
good_equations vars symbols uses [] s u a d f = tt
good_equations vars symbols uses (e ∷ es) s u a d f =
    let l = names_in e.left in
    let r = names_in e.right in
    let found = equation_variables vars e in
    let ul = and_parts (is_unapplied vars e.left) (is_unapplied vars e.right && list_all (is_unapplied vars) (sides_of es)) u in
    let ur = and_parts (is_unapplied vars e.right) (list_all (is_unapplied vars) (sides_of es)) ul.1 in
    let al = all_split (agrees uses) (uses_in e.left) (uses_in e.right ++ all_uses es) a in
    let ar = all_split (agrees uses) (uses_in e.right) (all_uses es) al.1 in
    let dl = and_parts (nat_le (depth_in e.left) 64) (nat_le (depth_in e.right) 64 && list_all (λ t. nat_le (depth_in t) 64) (sides_of es)) d in
    let dr = and_parts (nat_le (depth_in e.right) 64) (list_all (λ t. nat_le (depth_in t) 64) (sides_of es)) dl.1 in
    let fe = and_parts (nat_le (length found) 64) (list_all (λ e. nat_le (length (equation_variables vars e)) 64) es) f in (
      record {
        left = record { names = all_among (is_good vars found symbols) l (λ c h. good_in_equation vars symbols (l ++ r) c (in_left l r c h) (s c (in_left l (r ++ all_names es) c h))); unapplied = ul.0; uses_agree = al.0 };
        right = record { names = all_among (is_good vars found symbols) r (λ c h. good_in_equation vars symbols (l ++ r) c (in_right l r c h) (s c (in_right l (r ++ all_names es) c (in_left r (all_names es) c h)))); unapplied = ur.0; uses_agree = ar.0 };
        few = leb-true (length found) 64 fe.0;
        left_depth = leb-true (depth_in e.left) 64 dl.0;
        right_depth = leb-true (depth_in e.right) 64 dr.0;
      },
      good_equations vars symbols uses es (λ c h. s c (in_right l (r ++ all_names es) c (in_right r (all_names es) c h))) ur.1 ar.1 dr.1 fe.1,
    )

-- ---- how many variables

mutual
  numbers_of : (vars found symbols : List Name) (uses : List (Name × ℕ)) (t : Written) → IsGood vars found symbols uses t → occurrences (term_of found symbols t) ≡ map (number_of found) (filter (is_among vars) (names_in t))
  numbers_of vars found symbols uses (alone c) h = go (and_parts (is_good vars found symbols c) true h.names).0 (is_among found c) refl
    where
      go : is_good vars found symbols c ≡ true → (v : Bool) → is_among found c ≡ v → occurrences (cond (is_among found c) (variable (number_of found c)) (apply (number_of symbols c) no_trees)) ≡ map (number_of found) (cond (is_among vars c) (c ∷ []) [])
      go g true e = ap (λ v. occurrences (cond v (variable (number_of found c)) (apply (number_of symbols c) no_trees))) e ∙ ap (λ v. map (number_of found) (cond v (c ∷ []) [])) (sym (good_variable vars found symbols c g e))
      go g false e = ap (λ v. occurrences (cond v (variable (number_of found c)) (apply (number_of symbols c) no_trees))) e ∙ ap (λ v. map (number_of found) (cond v (c ∷ []) [])) (sym (good_symbol vars found symbols c g e).no_variable)
  numbers_of vars found symbols uses (applied f ts) h =
      numbers_in vars found symbols uses ts (arguments_good vars found symbols uses f ts h) ∙ ap (λ v. map (number_of found) (cond v (f ∷ filter (is_among vars) (names_in_all ts)) (filter (is_among vars) (names_in_all ts)))) (sym (head_symbol vars found symbols uses f ts h).no_variable)

  numbers_in : (vars found symbols : List Name) (uses : List (Name × ℕ)) (ts : Arguments) → AreGood vars found symbols uses ts → variables_in (terms_of found symbols ts) ≡ map (number_of found) (filter (is_among vars) (names_in_all ts))
  numbers_in vars found symbols uses no_arguments h = refl
  numbers_in vars found symbols uses (argument t ts) h =
      ap₂ ◌++◌ (numbers_of vars found symbols uses t (first_good vars found symbols uses t ts h)) (numbers_in vars found symbols uses ts (others_good vars found symbols uses t ts h))
      ∙ sym (map-append (number_of found) (filter (is_among vars) (names_in t)) (filter (is_among vars) (names_in_all ts)))
      ∙ ap (map (number_of found)) (sym (filter-append (is_among vars) (names_in t) (names_in_all ts)))

pub all_found : (vars ns : List Name) → list_all (is_among (firsts (filter (is_among vars) ns))) (filter (is_among vars) ns) ≡ true
all_found vars ns = all_among (is_among (firsts (filter (is_among vars) ns))) (filter (is_among vars) ns) (λ c h. is_among-firsts (filter (is_among vars) ns) c ∙ h)

count_is : (vars symbols : List Name) (uses : List (Name × ℕ)) (e : WrittenEquation) → IsGoodEquation vars symbols uses e → variable_count (equation_of vars symbols e) ≡ length (equation_variables vars e)
count_is vars symbols uses e h =
    let found = equation_variables vars e in
    ap (λ xs. length (distinct xs))
    (ap₂ ◌++◌ (numbers_of vars found symbols uses e.left h.left) (numbers_of vars found symbols uses e.right h.right)
    ∙ sym (map-append (number_of found) (filter (is_among vars) (names_in e.left)) (filter (is_among vars) (names_in e.right)))
    ∙ ap (map (number_of found)) (sym (filter-append (is_among vars) (names_in e.left) (names_in e.right))))
    ∙ ap length (distinct_numbers found (filter (is_among vars) (names_in e.left ++ names_in e.right)) (all_found vars (names_in e.left ++ names_in e.right)))
    ∙ length-map (firsts (filter (is_among vars) (names_in e.left ++ names_in e.right))) (number_of found)

-- each equation has at most so many variables
abbrev pub HaveAtMost : List Name → ℕ → List WrittenEquation → Type 0
HaveAtMost vars n [] = ⊤
HaveAtMost vars n (e ∷ es) = (length (equation_variables vars e) ≤ n) × HaveAtMost vars n es

more_allowed : (vars : List Name) (m n : ℕ) (es : List WrittenEquation) → m ≤ n → HaveAtMost vars m es → HaveAtMost vars n es
more_allowed vars m n [] l h = tt
more_allowed vars m n (e ∷ es) l h = (omega arith, more_allowed vars m n es l h.1)

pub at_most_most : (vars symbols : List Name) (uses : List (Name × ℕ)) (es : List WrittenEquation) → AreGoodEquations vars symbols uses es → (most_variables (map (equation_of vars symbols) es) ≤ 64) × HaveAtMost vars (most_variables (map (equation_of vars symbols) es)) es
at_most_most vars symbols uses [] h = (omega arith, tt)
at_most_most vars symbols uses (e ∷ es) h =
    let r = at_most_most vars symbols uses es h.1 in
    let c = count_is vars symbols uses e h.0 in
    let few = h.0.few in
    let m = most_variables (map (equation_of vars symbols) es) in
    (omega (arith, r.0), (omega arith, more_allowed vars m (max (variable_count (equation_of vars symbols e)) m) es (omega arith) r.1))
