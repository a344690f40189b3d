-- Terms that are read argument by argument.
use Rattle.std.proofs.Common.{◌≡◌, refl, ap, ap₂, sym, ◌∙◌, subst, append-nil, append_assoc, arith, ℕ, zero, suc, ◌+◌, ◌-◌, ◌<◌, ◌≤◌, List, [], ◌∷◌, ◌++◌, length, drop, take, length-drop, length-append, take-append-drop, Bool, true, false}
use Rattle.std.specs.Prelude.{IsTrue, map}
use Rattle.std.proofs.lemmas.Bool.{false≢true}
use Rattle.std.proofs.lemmas.List.{drop-drop, length-take-le, map_push}
use Rattle.kb_term.proofs.FewArguments.{arguments-count}
use Rattle.kb_term.specs.Signature.{Signature, IsSignature, HasArity}
use Rattle.kb_term.specs.Tree.{Tree, variable, apply, Trees, no_trees, more_trees, list_of, trees_of}
use Rattle.kb_term.specs.View.{tree_of}
use Rattle.kb_term.specs.declared.term.Term.{Term}
use Rattle.kb_text.specs.Terms.{names_of, prefix_length, separator, variable_text, symbol_text, term_text, arguments_text, later_text}
use Rattle.kb_text.specs.TermReading.{IsInName, IsNameEnd, IsBounded, AreBounded, BeginsWithArguments, BeginsWithNoArguments, BeginsWithTerm, BeginsWithNone, IsClosed, closing_text}
use Rattle.kb_text.proofs.TextLaws.{opened_text}
use Rattle.kb_text.proofs.TermTexts.{one_cut, one_term, same_tail, arguments_end, arguments_more, later_more, name_in_name, one_symbol, arity_within, one_arity}
use Rattle.kb_text.proofs.VariableTexts.{variable_in_name}

-- what stands behind i arguments: the others, and the closing parenthesis
abbrev pub rest_text : List (List ℕ) → ℕ → Trees → List ℕ
rest_text names zero us = arguments_text names us
rest_text names (suc i) us = later_text names us ++ 41 ∷ []

rest_more : (names : List (List ℕ)) (i : ℕ) (u : Tree) (us : Trees) (rest : List ℕ) → rest_text names i (more_trees u us) ++ rest ≡ separator i ∷ (term_text names u ++ (rest_text names (suc i) us ++ rest))
rest_more names zero u us rest = arguments_more names u us rest ∙ ap (λ xs. 40 ∷ (term_text names u ++ xs)) (sym (append_assoc (later_text names us) (41 ∷ []) rest))
rest_more names (suc i) u us rest =
    append_assoc (later_text names (more_trees u us)) (41 ∷ []) rest
    ∙ later_more names u us (41 ∷ rest)
    ∙ ap (λ xs. 44 ∷ (term_text names u ++ xs)) (sym (append_assoc (later_text names us) (41 ∷ []) rest))

rest_end : (names : List (List ℕ)) (i : ℕ) (us : Trees) (rest : List ℕ) → IsNameEnd (rest_text names (suc i) us ++ rest)
rest_end names i no_trees rest = refl
rest_end names i (more_trees u us) rest = refl

later_push : (names : List (List ℕ)) (xs : List Tree) (y : Tree) → later_text names (trees_of (xs ++ y ∷ [])) ≡ later_text names (trees_of xs) ++ 44 ∷ term_text names y
later_push names [] y = ap (44 ∷◌) (append-nil (term_text names y))
later_push names (x ∷ xs) y = ap (λ zs. 44 ∷ (term_text names x ++ zs)) (later_push names xs y) ∙ ap (44 ∷◌) (sym (append_assoc (term_text names x) (later_text names (trees_of xs)) (44 ∷ term_text names y)))

opened_push : (names : List (List ℕ)) (xs : List Tree) (y : Tree) → opened_text names (trees_of (xs ++ y ∷ [])) ≡ opened_text names (trees_of xs) ++ separator (length xs) ∷ term_text names y
opened_push names [] y = ap (40 ∷◌) (append-nil (term_text names y))
opened_push names (x ∷ xs) y = ap (λ zs. 40 ∷ (term_text names x ++ zs)) (later_push names xs y) ∙ ap (40 ∷◌) (sym (append_assoc (term_text names x) (later_text names (trees_of xs)) (44 ∷ term_text names y)))

opened_closed : (names : List (List ℕ)) (xs : List Tree) → opened_text names (trees_of xs) ++ closing_text (length xs) ≡ arguments_text names (trees_of xs)
opened_closed names [] = refl
opened_closed names (x ∷ xs) = refl

bounded_push : (signature : Signature) (d : ℕ) (xs : List Tree) (y : Tree) → AreBounded signature d (trees_of xs) → IsBounded signature d y → AreBounded signature d (trees_of (xs ++ y ∷ []))
bounded_push signature d [] y h k = (k, tt)
bounded_push signature d (x ∷ xs) y h k = (h.0, bounded_push signature d xs y h.1 k)

length-push : (xs : List Tree) (y : Tree) → length (xs ++ y ∷ []) ≡ suc (length xs)
length-push [] y = refl
length-push (x ∷ xs) y = omega (arith, length-push xs y)

-- so many arguments that are left, which the text spells from there on
abbrev pub IsLeft : Signature → ℕ → ℕ → List ℕ → ℕ → List ℕ → Type 0
IsLeft signature d arity tail i rest = (vs : Trees) × AreBounded signature d vs × (length (list_of vs) + i ≡ arity) × (tail ≡ rest_text (names_of signature) i vs ++ rest)

-- the first i arguments of a list that is spelled behind a symbol
pub record IsPartRead (signature : Signature) (d arity : ℕ) (behind : List ℕ) (items : List Tree) (i at : ℕ) : Type 0 where
  pub count : length items ≡ i
  pub within : at ≤ length behind
  pub bounded : AreBounded signature d (trees_of items)
  pub spelling : behind ≡ opened_text (names_of signature) (trees_of items) ++ drop at behind
  pub ends : IsNameEnd (drop at behind)
  pub left : (us : Trees) (rest : List ℕ) → AreBounded signature d us → length (list_of us) ≡ arity → IsNameEnd rest → behind ≡ arguments_text (names_of signature) us ++ rest → IsLeft signature d arity (drop at behind) i rest

pub part_more : (signature : Signature) → IsSignature signature → (d arity : ℕ) (behind : List ℕ) (items : List Tree) (i at : ℕ) (rest : List ℕ) (t : Tree) (size : ℕ) → IsPartRead signature d arity behind items i at → i < arity → drop at behind ≡ separator i ∷ rest → BeginsWithTerm signature rest d t size
    → IsPartRead signature d arity behind (items ++ t ∷ []) (suc i) (at + (1 + size))
part_more signature s d arity behind items i at rest t size p l cut b = record {
  count = length-push items t ∙ ap suc p.count;
  within = omega (arith, b.within, ap length cut, length-drop at behind);
  bounded = bounded_push signature d items t p.bounded b.bounded;
  spelling = p.spelling
      ∙ ap (opened_text names (trees_of items) ++◌) (cut ∙ ap (separator i ∷◌) (b.spelling ∙ ap (term_text names t ++◌) (sym moved)))
      ∙ sym (append_assoc (opened_text names (trees_of items)) (separator i ∷ term_text names t) (drop (at + (1 + size)) behind))
      ∙ ap (λ xs. xs ++ drop (at + (1 + size)) behind) (ap (λ k. opened_text names (trees_of items) ++ separator k ∷ term_text names t) (sym p.count) ∙ sym (opened_push names items t));
  ends = subst IsNameEnd (sym moved) b.ends;
  left = λ us r c n e k. go r (p.left us r c n e k);
}
  where
    names : List (List ℕ)
    names = names_of signature

    moved : drop (at + (1 + size)) behind ≡ drop size rest
    moved =
        let one : 1 + size ≡ suc size = omega arith in
        sym (drop-drop (1 + size) at behind) ∙ ap (drop (1 + size)) cut ∙ ap (λ k. drop k (separator i ∷ rest)) one

    go : (r : List ℕ) → IsLeft signature d arity (drop at behind) i r → IsLeft signature d arity (drop (at + (1 + size)) behind) (suc i) r
    go r (no_trees, c, n, k) = absurd (omega arith)
    go r (more_trees v vs, c, n, k) =
        let whole = same_tail (separator i) (separator i) rest (term_text names v ++ (rest_text names (suc i) vs ++ r)) (sym cut ∙ k ∙ rest_more names i v vs r) in
        let j = one_term signature s t v d d (drop size rest) (rest_text names (suc i) vs ++ r) b.bounded c.0 b.ends (rest_end names i vs r) (sym b.spelling ∙ whole) in
        (vs, c.1, omega arith, moved ∙ j.1)

-- the same by the terms of the program
pub part_pushed : (signature : Signature) → IsSignature signature → (d arity : ℕ) (behind : List ℕ) (items new : List Term) (i j at : ℕ) (rest : List ℕ) (t : Term) (size : ℕ) → new ≡ items ++ t ∷ [] → j ≡ suc i → IsPartRead signature d arity behind (map tree_of items) i at → i < arity → drop at behind ≡ separator i ∷ rest → BeginsWithTerm signature rest d (tree_of t) size
    → IsPartRead signature d arity behind (map tree_of new) j (at + (1 + size))
part_pushed signature s d arity behind items new i j at rest t size e k p l cut b =
    let list : map tree_of new ≡ map tree_of items ++ tree_of t ∷ [] = ap (map tree_of) e ∙ map_push tree_of items t in
    subst (λ (xs : List Tree). IsPartRead signature d arity behind xs j (at + (1 + size))) (sym list)
    (subst (λ (n : ℕ). IsPartRead signature d arity behind (map tree_of items ++ tree_of t ∷ []) n (at + (1 + size))) (sym k) (part_more signature s d arity behind (map tree_of items) i at rest (tree_of t) size p l cut b))

-- a tested first byte
pub begun : (b x : ℕ) (tail text rest : List ℕ) (r : Bool) → tail ≡ text → b ≡ x → r ≡ true → (IsTrue r → tail ≡ b ∷ drop 1 tail) → rest ≡ drop 1 tail → text ≡ x ∷ rest
begun b x tail text rest r e f t h k = sym e ∙ h t ∙ ap₂ (λ y ys. y ∷ ys) f (sym k)

pub not_begun : (b x : ℕ) (tail text : List ℕ) (r : Bool) → tail ≡ text → b ≡ x → r ≡ false → (tail ≡ b ∷ drop 1 tail → IsTrue r) → (rest : List ℕ) → ¬ (text ≡ x ∷ rest)
not_begun b x tail text r e f t h rest k = false≢true (sym t ∙ h (e ∙ k ∙ ap₂ (λ y ys. y ∷ ys) (sym f) (sym (ap (drop 1) (e ∙ k)))))

pub bounded_some : (signature : Signature) (d : ℕ) (t : Tree) → IsBounded signature d t → 1 ≤ d
bounded_some signature d (variable n) h = h.0
bounded_some signature d (apply f ts) h = h.0

-- an argument that is missing
pub no_separator : (signature : Signature) (d arity : ℕ) (behind : List ℕ) (items : List Tree) (i at : ℕ) → IsPartRead signature d arity behind items i at → i < arity → ((rest : List ℕ) → ¬ (drop at behind ≡ separator i ∷ rest)) → BeginsWithNoArguments signature behind d arity
no_separator signature d arity behind items i at p l none = λ us rest b n e k. go rest (p.left us rest b n e k)
  where
    go : (rest : List ℕ) → IsLeft signature d arity (drop at behind) i rest → ⊥
    go rest (no_trees, c, n, k) = absurd (omega arith)
    go rest (more_trees v vs, c, n, k) = none (term_text (names_of signature) v ++ (rest_text (names_of signature) (suc i) vs ++ rest)) (k ∙ rest_more (names_of signature) i v vs rest)

pub no_argument : (signature : Signature) (d arity : ℕ) (behind : List ℕ) (items : List Tree) (i at : ℕ) (tail : List ℕ) → IsPartRead signature d arity behind items i at → i < arity → drop at behind ≡ separator i ∷ tail → BeginsWithNone signature tail d → BeginsWithNoArguments signature behind d arity
no_argument signature d arity behind items i at tail p l cut none = λ us rest b n e k. go rest (p.left us rest b n e k)
  where
    go : (rest : List ℕ) → IsLeft signature d arity (drop at behind) i rest → ⊥
    go rest (no_trees, c, n, k) = absurd (omega arith)
    go rest (more_trees v vs, c, n, k) =
        none v (rest_text (names_of signature) (suc i) vs ++ rest) c.0 (rest_end (names_of signature) i vs rest)
        (same_tail (separator i) (separator i) tail (term_text (names_of signature) v ++ (rest_text (names_of signature) (suc i) vs ++ rest)) (sym cut ∙ k ∙ rest_more (names_of signature) i v vs rest))

rest_none : (names : List (List ℕ)) (i : ℕ) → rest_text names i no_trees ≡ closing_text i
rest_none names zero = refl
rest_none names (suc i) = refl

pub no_closing : (signature : Signature) (d arity : ℕ) (behind : List ℕ) (items : List Tree) (at : ℕ) → IsPartRead signature d arity behind items arity at → ((rest : List ℕ) → IsNameEnd rest → ¬ (drop at behind ≡ closing_text arity ++ rest)) → BeginsWithNoArguments signature behind d arity
no_closing signature d arity behind items at p none = λ us rest b n e k. go rest e (p.left us rest b n e k)
  where
    go : (rest : List ℕ) → IsNameEnd rest → IsLeft signature d arity (drop at behind) arity rest → ⊥
    go rest e (no_trees, c, n, k) = none rest e (k ∙ ap (λ xs. xs ++ rest) (rest_none (names_of signature) arity))
    go rest e (more_trees v vs, c, n, k) = absurd (omega arith)

-- ---- behind a name

-- a text, cut behind its name
pub record IsCut (text name behind : List ℕ) (size : ℕ) : Type 0 where
  pub size_is : length name ≡ size
  pub in_name : IsInName name
  pub ends : IsNameEnd behind
  pub whole : text ≡ name ++ behind
  pub behind_is : behind ≡ drop size text

pub cut_at : (text name behind : List ℕ) (size : ℕ) → size ≤ length text → name ≡ take size text → behind ≡ drop size text → IsInName (take size text) → IsNameEnd (drop size text) → IsCut text name behind size
cut_at text name behind size h e f n b = record {
  size_is = ap length e ∙ length-take-le size text h;
  in_name = subst IsInName (sym e) n;
  ends = subst IsNameEnd (sym f) b;
  whole = sym (take-append-drop size text) ∙ ap₂ ◌++◌ (sym e) (sym f);
  behind_is = f;
}

abbrev NoVariable : Signature → List ℕ → Type 0
NoVariable signature name = (n : ℕ) → n < 64 → ¬ (variable_text (names_of signature) n ≡ name)

pub no_head : (signature : Signature) → IsSignature signature → (text name behind : List ℕ) (size d : ℕ) → IsCut text name behind size → NoVariable signature name → ((f : ℕ) → f < length signature → ¬ (symbol_text (names_of signature) f ≡ name)) → BeginsWithNone signature text d
no_head signature s text name behind size d c v f = go
  where
    go : BeginsWithNone signature text d
    go (variable n) rest b e k = v n b.1 (sym (one_cut name (variable_text (names_of signature) n) behind rest c.in_name (variable_in_name (prefix_length (names_of signature)) (n + 1) (let l : n < 64 = b.1 in omega arith)) c.ends e (sym c.whole ∙ k)).0)
    go (apply g us) rest b e k =
        let inside = arity_within signature g (length (list_of us)) b.1 in
        f g inside (sym (one_cut name (symbol_text (names_of signature) g) behind (arguments_text (names_of signature) us ++ rest) c.in_name (name_in_name signature s g inside) c.ends (arguments_end (names_of signature) us rest e) (sym c.whole ∙ k ∙ append_assoc (symbol_text (names_of signature) g) (arguments_text (names_of signature) us) rest)).0)

pub no_arguments : (signature : Signature) → IsSignature signature → (text name behind : List ℕ) (size d f arity : ℕ) → IsCut text name behind size → NoVariable signature name → f < length signature → symbol_text (names_of signature) f ≡ name → HasArity signature f arity → BeginsWithNoArguments signature behind (d - 1) arity → BeginsWithNone signature text d
no_arguments signature s text name behind size d f arity c v l e a none = go
  where
    go : BeginsWithNone signature text d
    go (variable n) rest b q k = v n b.1 (sym (one_cut name (variable_text (names_of signature) n) behind rest c.in_name (variable_in_name (prefix_length (names_of signature)) (n + 1) (let l : n < 64 = b.1 in omega arith)) c.ends q (sym c.whole ∙ k)).0)
    go (apply g us) rest b q k =
        let inside = arity_within signature g (length (list_of us)) b.1 in
        let j = one_cut name (symbol_text (names_of signature) g) behind (arguments_text (names_of signature) us ++ rest) c.in_name (name_in_name signature s g inside) c.ends (arguments_end (names_of signature) us rest q) (sym c.whole ∙ k ∙ append_assoc (symbol_text (names_of signature) g) (arguments_text (names_of signature) us) rest) in
        let same : g ≡ f = one_symbol signature s g f inside l (sym j.0 ∙ sym e) in
        none us rest b.2 (one_arity signature f (length (list_of us)) arity (subst (λ (x : ℕ). HasArity signature x (length (list_of us))) same b.1) a) q j.1

pub arguments_read : (signature : Signature) (behind : List ℕ) (d arity : ℕ) (items : List Tree) (at size : ℕ) → IsPartRead signature d arity behind items arity at → IsClosed (drop at behind) arity size → BeginsWithArguments signature behind d arity items (at + size)
arguments_read signature behind d arity items at size p k = record {
  bounded = p.bounded;
  count = p.count;
  within = omega (arith, k.within, length-drop at behind, p.within);
  spelling =
      p.spelling
      ∙ ap (opened_text names (trees_of items) ++◌) (k.spelling ∙ ap₂ ◌++◌ (ap closing_text (sym p.count)) (sym moved))
      ∙ sym (append_assoc (opened_text names (trees_of items)) (closing_text (length items)) (drop (at + size) behind))
      ∙ ap (λ xs. xs ++ drop (at + size) behind) (opened_closed names items);
  ends = subst IsNameEnd (sym moved) k.ends;
}
  where
    names : List (List ℕ)
    names = names_of signature

    moved : drop (at + size) behind ≡ drop size (drop at behind)
    moved = sym (drop-drop size at behind)

pub application_read : (signature : Signature) (text name behind : List ℕ) (cut d f arity : ℕ) (items : List Tree) (size : ℕ) → IsCut text name behind cut → 1 ≤ d → symbol_text (names_of signature) f ≡ name → HasArity signature f arity → BeginsWithArguments signature behind (d - 1) arity items size
    → BeginsWithTerm signature text d (apply f (trees_of items)) (length name + size)
application_read signature text name behind cut d f arity items size c h e a p = record {
  bounded = (h, subst (HasArity signature f) (sym (arguments-count items ∙ p.count)) a, p.bounded);
  within = omega (arith, ap length c.whole, length-append name behind, p.within);
  spelling = c.whole ∙ ap₂ ◌++◌ (sym e) (p.spelling ∙ ap (arguments_text names (trees_of items) ++◌) (sym moved)) ∙ sym (append_assoc (symbol_text names f) (arguments_text names (trees_of items)) (drop (length name + size) text));
  ends = subst IsNameEnd (sym moved) p.ends;
}
  where
    names : List (List ℕ)
    names = names_of signature

    moved : drop (length name + size) text ≡ drop size behind
    moved =
        let sum : length name + size ≡ cut + size = omega (arith, c.size_is) in
        ap (λ k. drop k text) sum ∙ sym (drop-drop size cut text) ∙ ap (drop size) (sym c.behind_is)
