-- The text of a term decides the term.
use Rattle.std.proofs.Common.{◌≡◌, refl, ap, ap₂, sym, ◌∙◌, subst, ⊎_elim, append_assoc, arith, ℕ, zero, suc, ◌+◌, ◌-◌, ◌<◌, List, [], ◌∷◌, ◌++◌, Bool, true, false, not, ◌||◌, ◌==◌, Some, length, get_or}
use Rattle.std.proofs.lemmas.Bool.{cases_lt, eqb-true, false≢true, not-true, and_parts}
use Rattle.std.proofs.lemmas.List.{get_or-map}
use Rattle.kb_term.specs.Identifier.{begins_otherwise, is_unbroken}
use Rattle.kb_term.specs.Signature.{Signature, SymbolEntry, IsSignature, HasArity}
use Rattle.kb_term.specs.Tree.{Tree, variable, apply, Trees, no_trees, more_trees, list_of}
use Rattle.kb_text.specs.Terms.{is_x_number, names_of, prefix_length, variable_text, symbol_text, term_text, arguments_text, later_text}
use Rattle.kb_text.specs.TermReading.{ends_name, IsInName, IsNameEnd, IsBounded, AreBounded}
use Rattle.kb_text.proofs.Prefixes.{name_is_no_variable}
use Rattle.kb_text.proofs.VariableTexts.{one_variable, variable_in_name, variable_is_x_number}

abbrev tail_of : List ℕ → List ℕ
tail_of [] = []
tail_of (x ∷ xs) = xs

pub same_tail : (b c : ℕ) (xs ys : List ℕ) → b ∷ xs ≡ c ∷ ys → xs ≡ ys
same_tail b c xs ys e = ap tail_of e

-- a text is cut behind its name in one way
pub one_cut : (xs ys zs ws : List ℕ) → IsInName xs → IsInName ys → IsNameEnd zs → IsNameEnd ws → xs ++ zs ≡ ys ++ ws → (xs ≡ ys) × (zs ≡ ws)
one_cut [] [] zs ws f g p q e = (refl, e)
one_cut [] (y ∷ ys) [] ws f g p q e = absurd (cc)
one_cut [] (y ∷ ys) (z ∷ zs) ws f g p q e = absurd (let s : y ≡ z = cc in false≢true (sym g.0 ∙ ap ends_name s ∙ p))
one_cut (x ∷ xs) [] zs [] f g p q e = absurd (cc)
one_cut (x ∷ xs) [] zs (w ∷ ws) f g p q e = absurd (let s : x ≡ w = cc in false≢true (sym f.0 ∙ ap ends_name s ∙ q))
one_cut (x ∷ xs) (y ∷ ys) zs ws f g p q e =
    let r = one_cut xs ys zs ws f.1 g.1 p q (same_tail x y (xs ++ zs) (ys ++ ws) e) in
    let s : x ≡ y = cc in (ap₂ (λ z zs. z ∷ zs) s r.0, r.1)

-- ---- names of symbols

no_end : (b : ℕ) (bytes : List ℕ) → begins_otherwise (b ∷ bytes) ≡ false → ends_name b ≡ false
no_end b bytes h = first (b == 40) refl
  where
    third : (v : Bool) → (b == 44) ≡ v → (b == 40) ≡ false → (b == 41) ≡ false → ends_name b ≡ false
    third true e f g = absurd (false≢true (sym h ∙ ap (λ z. begins_otherwise (z ∷ bytes)) (eqb-true b 44 e)))
    third false e f g = λ i. f i || g i || e i

    second : (v : Bool) → (b == 41) ≡ v → (b == 40) ≡ false → ends_name b ≡ false
    second true e f = absurd (false≢true (sym h ∙ ap (λ z. begins_otherwise (z ∷ bytes)) (eqb-true b 41 e)))
    second false e f = third (b == 44) refl f e

    first : (v : Bool) → (b == 40) ≡ v → ends_name b ≡ false
    first true e = absurd (false≢true (sym h ∙ ap (λ z. begins_otherwise (z ∷ bytes)) (eqb-true b 40 e)))
    first false e = second (b == 41) refl e

unbroken_in_name : (bytes : List ℕ) → is_unbroken bytes ≡ true → IsInName bytes
unbroken_in_name [] h = tt
unbroken_in_name (b ∷ bytes) h =
    let r = and_parts (not (begins_otherwise (b ∷ bytes))) (is_unbroken bytes) h in
    (no_end b bytes (not-true (begins_otherwise (b ∷ bytes)) r.0), unbroken_in_name bytes r.1)

names_length : (signature : Signature) → length (names_of signature) ≡ length signature
names_length [] = refl
names_length (e ∷ signature) = omega (arith, names_length signature)

name_at : (signature : Signature) (f : ℕ) (d : SymbolEntry) → f < length signature → symbol_text (names_of signature) f ≡ (get_or signature f d).name
name_at signature f d h = get_or-map (λ (e : SymbolEntry). e.name) signature f d [] h

some_entry : SymbolEntry
some_entry = record { name = []; arity = 0 }

pub name_in_name : (signature : Signature) → IsSignature signature → (f : ℕ) → f < length signature → IsInName (symbol_text (names_of signature) f)
name_in_name signature s f h = subst IsInName (sym (name_at signature f some_entry h)) (unbroken_in_name (get_or signature f some_entry).name (s.names f some_entry h).0.unbroken)

pub one_symbol : (signature : Signature) → IsSignature signature → (f g : ℕ) → f < length signature → g < length signature → symbol_text (names_of signature) f ≡ symbol_text (names_of signature) g → f ≡ g
one_symbol signature s f g h k e =
    let names : (get_or signature f some_entry).name ≡ (get_or signature g some_entry).name = sym (name_at signature f some_entry h) ∙ e ∙ name_at signature g some_entry k in
    ⊎_elim (λ l. absurd (s.differ f g some_entry l k names)) (λ l. ⊎_elim (λ m. absurd (s.differ g f some_entry m h (sym names))) (λ m. omega arith) (cases_lt g f)) (cases_lt f g)

pub arity_within : (signature : Signature) (f n : ℕ) → HasArity signature f n → f < length signature
arity_within [] f n h = absurd (cc)
arity_within (e ∷ signature) zero n h = omega arith
arity_within (e ∷ signature) (suc f) n h = let k : f < length signature = arity_within signature f n h in omega arith

pub one_arity : (signature : Signature) (f m n : ℕ) → HasArity signature f m → HasArity signature f n → m ≡ n
one_arity signature f m n h k = let e : Some m ≡ Some n = sym h ∙ k in cc

-- no symbol's name is the text of a variable
pub symbol_not_variable : (signature : Signature) (f n : ℕ) → f < length signature → n < 64 → symbol_text (names_of signature) f ≡ variable_text (names_of signature) n → ⊥
symbol_not_variable signature f n h k e =
    let p = prefix_length (names_of signature) in
    false≢true (sym (name_is_no_variable (names_of signature) f (omega (arith, names_length signature))) ∙ ap (is_x_number p) e ∙ variable_is_x_number p (n + 1) (omega arith))

-- ---- what stands behind a name

pub arguments_end : (names : List (List ℕ)) (ts : Trees) (rest : List ℕ) → IsNameEnd rest → IsNameEnd (arguments_text names ts ++ rest)
arguments_end names no_trees rest h = h
arguments_end names (more_trees t ts) rest h = refl

pub later_end : (names : List (List ℕ)) (ts : Trees) (rest : List ℕ) → IsNameEnd (later_text names ts ++ 41 ∷ rest)
later_end names no_trees rest = refl
later_end names (more_trees t ts) rest = refl

pub arguments_more : (names : List (List ℕ)) (t : Tree) (ts : Trees) (rest : List ℕ) → arguments_text names (more_trees t ts) ++ rest ≡ 40 ∷ (term_text names t ++ (later_text names ts ++ 41 ∷ rest))
arguments_more names t ts rest = ap (40 ∷◌) (append_assoc (term_text names t ++ later_text names ts) (41 ∷ []) rest ∙ append_assoc (term_text names t) (later_text names ts) (41 ∷ rest))

pub later_more : (names : List (List ℕ)) (t : Tree) (ts : Trees) (rest : List ℕ) → later_text names (more_trees t ts) ++ rest ≡ 44 ∷ (term_text names t ++ (later_text names ts ++ rest))
later_more names t ts rest = ap (44 ∷◌) (append_assoc (term_text names t) (later_text names ts) rest)

-- ---- one term

mutual
  pub one_term : (signature : Signature) → IsSignature signature → (t u : Tree) (d e : ℕ) (rest other : List ℕ) → IsBounded signature d t → IsBounded signature e u → IsNameEnd rest → IsNameEnd other → term_text (names_of signature) t ++ rest ≡ term_text (names_of signature) u ++ other → (t ≡ u) × (rest ≡ other)
  one_term signature s (variable m) (variable n) d e rest other b c p q h =
      let names = names_of signature in
      let k = one_cut (variable_text names m) (variable_text names n) rest other (variable_in_name (prefix_length names) (m + 1) (let l : m < 64 = b.1 in omega arith)) (variable_in_name (prefix_length names) (n + 1) (let l : n < 64 = c.1 in omega arith)) p q h in
      (ap variable (one_variable (prefix_length names) m n b.1 c.1 k.0), k.1)
  one_term signature s (variable m) (apply g us) d e rest other b c p q h =
      let names = names_of signature in
      let inside = arity_within signature g (length (list_of us)) c.1 in
      let k = one_cut (variable_text names m) (symbol_text names g) rest (arguments_text names us ++ other) (variable_in_name (prefix_length names) (m + 1) (let l : m < 64 = b.1 in omega arith)) (name_in_name signature s g inside) p (arguments_end names us other q) (h ∙ append_assoc (symbol_text names g) (arguments_text names us) other) in
      absurd (symbol_not_variable signature g m inside b.1 (sym k.0))
  one_term signature s (apply f ts) (variable n) d e rest other b c p q h =
      let names = names_of signature in
      let inside = arity_within signature f (length (list_of ts)) b.1 in
      let k = one_cut (symbol_text names f) (variable_text names n) (arguments_text names ts ++ rest) other (name_in_name signature s f inside) (variable_in_name (prefix_length names) (n + 1) (let l : n < 64 = c.1 in omega arith)) (arguments_end names ts rest p) q (sym (append_assoc (symbol_text names f) (arguments_text names ts) rest) ∙ h) in
      absurd (symbol_not_variable signature f n inside c.1 k.0)
  one_term signature s (apply f ts) (apply g us) d e rest other b c p q h =
      let names = names_of signature in
      let inside = arity_within signature f (length (list_of ts)) b.1 in
      let within = arity_within signature g (length (list_of us)) c.1 in
      let k = one_cut (symbol_text names f) (symbol_text names g) (arguments_text names ts ++ rest) (arguments_text names us ++ other) (name_in_name signature s f inside) (name_in_name signature s g within) (arguments_end names ts rest p) (arguments_end names us other q)
      (sym (append_assoc (symbol_text names f) (arguments_text names ts) rest) ∙ h ∙ append_assoc (symbol_text names g) (arguments_text names us) other) in
      let same : f ≡ g = one_symbol signature s f g inside within k.0 in
      let count = one_arity signature g (length (list_of ts)) (length (list_of us)) (subst (λ (x : ℕ). HasArity signature x (length (list_of ts))) same b.1) c.1 in
      let j = one_list signature s ts us (d - 1) (e - 1) rest other b.2 c.2 p q count k.1 in
      (ap₂ apply same j.0, j.1)

  pub one_list : (signature : Signature) → IsSignature signature → (ts us : Trees) (d e : ℕ) (rest other : List ℕ) → AreBounded signature d ts → AreBounded signature e us → IsNameEnd rest → IsNameEnd other → length (list_of ts) ≡ length (list_of us) → arguments_text (names_of signature) ts ++ rest ≡ arguments_text (names_of signature) us ++ other → (ts ≡ us) × (rest ≡ other)
  one_list signature s no_trees no_trees d e rest other b c p q n h = (refl, h)
  one_list signature s no_trees (more_trees u us) d e rest other b c p q n h = absurd (omega arith)
  one_list signature s (more_trees t ts) no_trees d e rest other b c p q n h = absurd (omega arith)
  one_list signature s (more_trees t ts) (more_trees u us) d e rest other b c p q n h =
      let names = names_of signature in
      let k = one_term signature s t u d e (later_text names ts ++ 41 ∷ rest) (later_text names us ++ 41 ∷ other) b.0 c.0 (later_end names ts rest) (later_end names us other)
      (same_tail 40 40 (term_text names t ++ (later_text names ts ++ 41 ∷ rest)) (term_text names u ++ (later_text names us ++ 41 ∷ other)) (sym (arguments_more names t ts rest) ∙ h ∙ arguments_more names u us other)) in
      let j = one_later signature s ts us d e rest other b.1 c.1 (omega arith) k.1 in
      (ap₂ more_trees k.0 j.0, j.1)

  pub one_later : (signature : Signature) → IsSignature signature → (ts us : Trees) (d e : ℕ) (rest other : List ℕ) → AreBounded signature d ts → AreBounded signature e us → length (list_of ts) ≡ length (list_of us) → later_text (names_of signature) ts ++ 41 ∷ rest ≡ later_text (names_of signature) us ++ 41 ∷ other → (ts ≡ us) × (rest ≡ other)
  one_later signature s no_trees no_trees d e rest other b c n h = (refl, same_tail 41 41 rest other h)
  one_later signature s no_trees (more_trees u us) d e rest other b c n h = absurd (omega arith)
  one_later signature s (more_trees t ts) no_trees d e rest other b c n h = absurd (omega arith)
  one_later signature s (more_trees t ts) (more_trees u us) d e rest other b c n h =
      let names = names_of signature in
      let k = one_term signature s t u d e (later_text names ts ++ 41 ∷ rest) (later_text names us ++ 41 ∷ other) b.0 c.0 (later_end names ts rest) (later_end names us other)
      (same_tail 44 44 (term_text names t ++ (later_text names ts ++ 41 ∷ rest)) (term_text names u ++ (later_text names us ++ 41 ∷ other)) (sym (later_more names t ts (41 ∷ rest)) ∙ h ∙ later_more names u us (41 ∷ other))) in
      let j = one_later signature s ts us d e rest other b.1 c.1 (omega arith) k.1 in
      (ap₂ more_trees k.0 j.0, j.1)
