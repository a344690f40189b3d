-- Names that look like variables, and the texts of terms argument by argument.
use Rattle.std.proofs.Common.{append-nil, append_assoc, ◌≡◌, refl, ap, sym, ◌∙◌, arith, ℕ, zero, suc, ◌+◌, ◌-◌, ◌≤◌, ◌<◌, List, [], ◌∷◌, ◌++◌, Bool, true, false, ◌&&◌, length, get_or, take, drop, Vec, Global}
use Rattle.std.specs.Prelude.{map, replicate, nat_eq, nat_lt, codes, bytes_eq, find}
use Rattle.std.specs.List.{list_all, starts_with, range_with_len}
use Rattle.std.proofs.lemmas.List.{length-replicate}
use Rattle.kb_term.specs.Tree.{Trees, no_trees, more_trees, trees_of}
use Rattle.kb_term.specs.View.{tree_of}
use Rattle.kb_term.specs.Signature.{symbols_of_list}
use Rattle.kb_term.specs.declared.term.Term.{Term}
use Rattle.kb_text.specs.Names.{Name}
use Rattle.kb_text.specs.Terms.{separator, is_digit, is_x_number, names_of, symbol_text, term_text, arguments_text, later_text}

letters : (xs : List ℕ) → bytes_eq (replicate (length xs) 120) xs ≡ list_all (λ b. nat_eq 120 b) xs
letters [] = refl
letters (x ∷ xs) = ap (nat_eq 120 x &&◌) (letters xs)

length-take : (n : ℕ) (xs : List ℕ) → n ≤ length xs → length (take n xs) ≡ n
length-take zero xs h = refl
length-take (suc n) [] h = absurd (omega arith)
length-take (suc n) (x ∷ xs) h = omega (arith, length-take n xs (omega arith))

-- a name that is long enough begins with n letters x where its first n bytes are letters x
pub begins_with_letters : (n : ℕ) (name : List ℕ) → n ≤ length name → starts_with nat_eq name (replicate n 120) ≡ list_all (λ b. nat_eq 120 b) (take n name)
begins_with_letters n name h =
    ap (λ (k : ℕ). bytes_eq (replicate n 120) (take k name)) (length-replicate n 120)
    ∙ ap (λ (k : ℕ). bytes_eq (replicate k 120) (take n name)) (sym (length-take n name h))
    ∙ letters (take n name)

pub x_number : (n : ℕ) (name : List ℕ) (a b : Bool) → n < length name → list_all (λ b. nat_eq 120 b) (take n name) ≡ a → list_all is_digit (drop n name) ≡ b → is_x_number n name ≡ (a && b)
x_number n name a b h p q =
    (λ i. (begins_with_letters n name (omega arith) ∙ p) i && long i && q i) ∙ ends a
  where
    long : nat_lt n (length name) ≡ true
    long = grind arith

    ends : (a : Bool) → (a && true && b) ≡ (a && b)
    ends true = refl
    ends false = refl

-- the name of a symbol, where it is one of the signature, and else nothing
pub symbol_text-is : (es : List (Vec ℕ Global × ℕ)) (f : ℕ) (e : Vec ℕ Global × ℕ) → e ≡ get_or es f e → f < length es → symbol_text (names_of (symbols_of_list es)) f ≡ e.0.items
symbol_text-is [] f e p h = absurd (omega arith)
symbol_text-is (d ∷ es) zero e p h = ap (λ (x : Vec ℕ Global × ℕ). x.0.items) (sym p)
symbol_text-is (d ∷ es) (suc f) e p h = symbol_text-is es f e p (omega arith)

-- arguments without the closing parenthesis
abbrev pub opened_text : List Name → Trees → List ℕ
opened_text names no_trees = []
opened_text names (more_trees t ts) = codes "(" ++ term_text names t ++ later_text names ts

abbrev pub trees : List Term → Trees
trees ts = trees_of (map tree_of ts)

later_more : (names : List Name) (ts : List Term) (i : ℕ) (d : Term) → i < length ts → later_text names (trees (take (i + 1) ts)) ≡ later_text names (trees (take i ts)) ++ 44 ∷ term_text names (tree_of (get_or ts i d))
later_more names [] i d h = absurd (omega arith)
later_more names (t ∷ ts) zero d h = append-nil _
later_more names (t ∷ ts) (suc i) d h =
    let e : suc i + 1 ≡ suc (i + 1) = omega arith in
    rw e (ap ((codes "," ++ term_text names (tree_of t)) ++◌) (later_more names ts i d (omega arith)) ∙ sym (append_assoc (codes "," ++ term_text names (tree_of t)) _ _))

-- one argument more
pub opened_more : (names : List Name) (ts : List Term) (i : ℕ) (d : Term) → i < length ts → opened_text names (trees (take (i + 1) ts)) ≡ opened_text names (trees (take i ts)) ++ separator i ∷ term_text names (tree_of (get_or ts i d))
opened_more names [] i d h = absurd (omega arith)
opened_more names (t ∷ ts) zero d h = append-nil _
opened_more names (t ∷ ts) (suc i) d h =
    let e : suc i + 1 ≡ suc (i + 1) = omega arith in
    rw e (ap ((codes "(" ++ term_text names (tree_of t)) ++◌) (later_more names ts i d (omega arith)) ∙ sym (append_assoc (codes "(" ++ term_text names (tree_of t)) _ _))

-- the closing parenthesis, where there are arguments
pub closed : (names : List Name) (ts : List Term) → 0 < length ts → opened_text names (trees ts) ++ 41 ∷ [] ≡ arguments_text names (trees ts)
closed names [] h = absurd (omega arith)
closed names (t ∷ ts) h = refl

-- the first number of those from n up to k that passes, where n doesn't
pub find_left : (p : ℕ → Bool) (n k : ℕ) → n < k → p n ≡ false → find p (range_with_len n (k - n)) ≡ find p (range_with_len (n + 1) (k - (n + 1)))
find_left p n k h e =
    let one : k - n ≡ suc (k - (n + 1)) = omega arith in
    rw (one, e) refl
