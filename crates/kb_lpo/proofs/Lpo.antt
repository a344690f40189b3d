-- The lexicographic path order by recursion on argument lists, in which the laws are proved.
use Rattle.std.proofs.Common.{ℕ, ◌≡◌, ◌≢◌, ◌⊎◌, inl, inr, sym, ap, ◌∙◌, subst, List, [], ◌∷◌, ◌++◌, Contains, arith, ⊎_elim}
use Rattle.kb_lemmas.proofs.Membership.{contains_cases, contains_behind, contains_first}
use Rattle.kb_term.specs.Tree.{Tree, variable, apply, Trees, no_trees, more_trees, list_of, variables_of}
use Rattle.kb_lpo.specs.PathOrder.{IsAbove, LpoGreater, variable_within, argument_equal, argument_greater, symbol_greater, arguments_greater}

-- t is one of the arguments
abbrev pub IsArgument : Tree → Trees → Type 0
IsArgument t no_trees = ⊥
IsArgument t (more_trees u us) = (u ≡ t) ⊎ IsArgument t us

-- the arguments agree up to a place where they are s and t
abbrev pub DifferFirst : Tree → Tree → Trees → Trees → Type 0
DifferFirst s t no_trees ts = ⊥
DifferFirst s t (more_trees x xs) no_trees = ⊥
DifferFirst s t (more_trees x xs) (more_trees y ys) = (x ≡ s × y ≡ t) ⊎ (x ≡ y × DifferFirst s t xs ys)

-- s is greater than t by the path order
pub data PathGreater (precedence : List ℕ) : Tree → Tree → Type 0 where
  -- t is a variable of s and differs from s
  has_variable : {s : Tree} {x : ℕ} → Contains (variables_of s) x → s ≢ variable x → PathGreater precedence s (variable x)
  -- an argument is t
  has_argument : {f : ℕ} {ss : Trees} {t : Tree} → IsArgument t ss → PathGreater precedence (apply f ss) t
  -- an argument is greater than t
  through_argument : {f : ℕ} {ss : Trees} {t : Tree} (s : Tree) → IsArgument s ss → PathGreater precedence s t → PathGreater precedence (apply f ss) t
  -- the symbol is above t's, and s is greater than each argument of t
  symbol_above : {f g : ℕ} {ss ts : Trees} → IsAbove precedence f g → ((t : Tree) → IsArgument t ts → PathGreater precedence (apply f ss) t) → PathGreater precedence (apply f ss) (apply g ts)
  -- the symbol is t's, the first argument that differs is greater, and s is greater than each argument of t
  first_greater : {f : ℕ} {ss ts : Trees} (s t : Tree) → DifferFirst s t ss ts → PathGreater precedence s t → ((u : Tree) → IsArgument u ts → PathGreater precedence (apply f ss) u) → PathGreater precedence (apply f ss) (apply f ts)

contains_argument : (t : Tree) (ts : Trees) → Contains (list_of ts) t → IsArgument t ts
contains_argument t no_trees c = absurd (omega arith)
contains_argument t (more_trees u us) c = ⊎_elim (λ e. inl e) (λ k. inr (contains_argument t us k)) (contains_cases u (list_of us) t c)

argument_contains : (t : Tree) (ts : Trees) → IsArgument t ts → Contains (list_of ts) t
argument_contains t no_trees i = absurd i
argument_contains t (more_trees u us) (inl e) = subst (Contains (u ∷ list_of us)) e (contains_first u (list_of us))
argument_contains t (more_trees u us) (inr i) = contains_behind u (list_of us) t (argument_contains t us i)

differ_from : (front : List Tree) (s t : Tree) (ss ts : Trees) (xs ys : List Tree) → list_of ss ≡ front ++ s ∷ xs → list_of ts ≡ front ++ t ∷ ys → DifferFirst s t ss ts
differ_from [] s t no_trees ts xs ys e d = absurd (cc)
differ_from [] s t (more_trees u us) no_trees xs ys e d = absurd (cc)
differ_from [] s t (more_trees u us) (more_trees v vs) xs ys e d = inl (cc, cc)
differ_from (x ∷ front) s t no_trees ts xs ys e d = absurd (cc)
differ_from (x ∷ front) s t (more_trees u us) no_trees xs ys e d = absurd (cc)
differ_from (x ∷ front) s t (more_trees u us) (more_trees v vs) xs ys e d = inr (cc, differ_from front s t us vs xs ys (cc) (cc))

differ_to : (s t : Tree) (ss ts : Trees) → DifferFirst s t ss ts → (front xs ys : List Tree) × list_of ss ≡ front ++ s ∷ xs × list_of ts ≡ front ++ t ∷ ys
differ_to s t no_trees ts d = absurd d
differ_to s t (more_trees u us) no_trees d = absurd d
differ_to s t (more_trees u us) (more_trees v vs) (inl d) = ([], list_of us, list_of vs, ap (λ x. x ∷ list_of us) d.0, ap (λ x. x ∷ list_of vs) d.1)
differ_to s t (more_trees u us) (more_trees v vs) (inr d) =
    let r = differ_to s t us vs d.1 in
    (u ∷ r.0, r.1, r.2, ap (λ x. u ∷ x) r.3, ap (λ x. v ∷ x) r.4 ∙ ap (λ x. x ∷ (r.0 ++ t ∷ r.2)) (sym d.0))

pub path_from_lpo : (p : List ℕ) {s t : Tree} → LpoGreater p s t → PathGreater p s t
path_from_lpo p (variable_within o d) = has_variable o d
path_from_lpo p (argument_equal {ss = ss} {t = t} c) = has_argument (contains_argument t ss c)
path_from_lpo p (argument_greater {ss = ss} u c l) = through_argument u (contains_argument u ss c) (path_from_lpo p l)
path_from_lpo p (symbol_greater {ts = ts} each up) = symbol_above up (λ t i. path_from_lpo p (each t (argument_contains t ts i)))
path_from_lpo p (arguments_greater {ss = ss} {ts = ts} each front s t xs ys e d l) = first_greater s t (differ_from front s t ss ts xs ys e d) (path_from_lpo p l) (λ u i. path_from_lpo p (each u (argument_contains u ts i)))

pub lpo_from_path : (p : List ℕ) {s t : Tree} → PathGreater p s t → LpoGreater p s t
lpo_from_path p (has_variable o d) = variable_within o d
lpo_from_path p (has_argument {ss = ss} {t = t} i) = argument_equal (argument_contains t ss i)
lpo_from_path p (through_argument {ss = ss} u i l) = argument_greater u (argument_contains u ss i) (lpo_from_path p l)
lpo_from_path p (symbol_above {ts = ts} up each) = symbol_greater (λ t c. lpo_from_path p (each t (contains_argument t ts c))) up
lpo_from_path p (first_greater {ss = ss} {ts = ts} s t d l each) =
    let r = differ_to s t ss ts d in
    arguments_greater (λ u c. lpo_from_path p (each u (contains_argument u ts c))) r.0 s t r.1 r.2 r.3 r.4 (lpo_from_path p l)
