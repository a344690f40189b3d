-- Written numbers and terms hold no white space.
use Rattle.std.proofs.Common.{◌≡◌, refl, ap, sym, ◌∙◌, subst, arith, ℕ, zero, suc, ◌+◌, ◌-◌, ◌<◌, ◌==◌, ◌^◌, List, [], ◌∷◌, ◌++◌, Bool, true, false, not, ◌||◌, length, get_or}
use Rattle.std.specs.Prelude.{decimal, nat_le, replicate}
use Rattle.std.specs.List.{join_with_byte, list_all, list_any, starts_with}
use Rattle.std.proofs.lemmas.Bool.{false≢true, ne_eqb, leb-true, and_parts, not-true}
use Rattle.std.proofs.lemmas.Fmt.{decimal_by_steps}
use Rattle.std.proofs.lemmas.List.{get_or-map}
use Rattle.kb_lemmas.proofs.Numbers.{eq_above}
use Rattle.kb_term.specs.Identifier.{is_white_space, marks, begins_otherwise, is_unbroken}
use Rattle.kb_term.specs.Signature.{Signature, SymbolEntry, IsSignature}
use Rattle.kb_term.specs.Tree.{Tree, variable, apply, Trees, no_trees, more_trees, list_of}
use Rattle.kb_text.specs.Fields.{IsWithout}
use Rattle.kb_text.specs.Terms.{names_of, prefix_length, symbol_text, term_text, arguments_text, later_text}
use Rattle.kb_text.specs.TermReading.{IsBounded, AreBounded}
use Rattle.kb_text.proofs.Cuts.{AreWithout, without-append}
use Rattle.kb_text.proofs.TermTexts.{arity_within}

-- white space, below every byte that is written but those of names
pub record IsBlank (c : ℕ) : Type 0 where
  pub low : c < 40
  pub white : is_white_space c ≡ true

pub space_blank : IsBlank 32
space_blank = record { low = omega arith; white = refl }

pub feed_blank : IsBlank 10
feed_blank = record { low = omega arith; white = refl }

-- a word of letters
pub word_without : (c : ℕ) → c < 40 → (w : List ℕ) → list_all (nat_le 40) w ≡ true → IsWithout c w
word_without c h [] e = tt
word_without c h (b ∷ w) e =
    let r = and_parts (nat_le 40 b) (list_all (nat_le 40) w) e in
    let l = leb-true 40 b r.0 in
    (eq_above b c (omega arith), word_without c h w r.1)

pub decimal_without : (c n : ℕ) → c < 48 → n < 2 ^ 64 → IsWithout c (decimal n)
decimal_without c n h l =
    decimal_by_steps (λ m ds. IsWithout c ds) (λ m k. (eq_above (48 + m) c (omega arith), tt)) (λ m ds k w. without-append c ds _ w (eq_above _ c (omega arith), tt)) n l

pub join_without : (c d : ℕ) (fs : List (List ℕ)) → (d == c) ≡ false → AreWithout c fs → IsWithout c (join_with_byte d fs)
join_without c d [] h k = tt
join_without c d (f ∷ []) h k = k.0
join_without c d (f ∷ g ∷ fs) h k = without-append c f (d ∷ join_with_byte d (g ∷ fs)) k.0 (h, join_without c d (g ∷ fs) h k.1)

letters_without : (c : ℕ) → c < 40 → (n : ℕ) → IsWithout c (replicate n 120)
letters_without c h zero = tt
letters_without c h (suc n) = (eq_above 120 c (omega arith), letters_without c h n)

no_white : (c : ℕ) → IsBlank c → (b : ℕ) (bytes : List ℕ) → begins_otherwise (b ∷ bytes) ≡ false → (b == c) ≡ false
no_white c k b bytes h =
    ne_eqb b c (λ e. false≢true (sym h ∙ ap (λ z. begins_otherwise (z ∷ bytes)) e ∙ ap (λ (v : Bool). v || list_any (λ mark. starts_with ◌==◌ (c ∷ bytes) mark) marks) k.white))

unbroken_without : (c : ℕ) → IsBlank c → (bytes : List ℕ) → is_unbroken bytes ≡ true → IsWithout c bytes
unbroken_without c k [] h = tt
unbroken_without c k (b ∷ bytes) h =
    let r = and_parts (not (begins_otherwise (b ∷ bytes))) (is_unbroken bytes) h in
    (no_white c k b bytes (not-true (begins_otherwise (b ∷ bytes)) r.0), unbroken_without c k bytes r.1)

some_entry : SymbolEntry
some_entry = record { name = []; arity = 0 }

symbol_without : (c : ℕ) → IsBlank c → (signature : Signature) → IsSignature signature → (f : ℕ) → f < length signature → IsWithout c (symbol_text (names_of signature) f)
symbol_without c k signature s f h =
    let is : symbol_text (names_of signature) f ≡ (get_or signature f some_entry).name = get_or-map (λ (e : SymbolEntry). e.name) signature f some_entry [] h in
    subst (IsWithout c) (sym is) (unbroken_without c k (get_or signature f some_entry).name (s.names f some_entry h).0.unbroken)

mutual
  pub text_without : (c : ℕ) → IsBlank c → (signature : Signature) → IsSignature signature → (d : ℕ) (t : Tree) → IsBounded signature d t → IsWithout c (term_text (names_of signature) t)
  text_without c k signature s d (variable n) b =
      let l : n < 64 = b.1 in
      let low = k.low in
      without-append c (replicate (prefix_length (names_of signature)) 120) (decimal (n + 1)) (letters_without c k.low (prefix_length (names_of signature))) (decimal_without c (n + 1) (omega arith) (omega arith))
  text_without c k signature s d (apply f ts) b =
      without-append c (symbol_text (names_of signature) f) (arguments_text (names_of signature) ts) (symbol_without c k signature s f (arity_within signature f (length (list_of ts)) b.1)) (arguments_without c k signature s (d - 1) ts b.2)

  arguments_without : (c : ℕ) → IsBlank c → (signature : Signature) → IsSignature signature → (d : ℕ) (ts : Trees) → AreBounded signature d ts → IsWithout c (arguments_text (names_of signature) ts)
  arguments_without c k signature s d no_trees b = tt
  arguments_without c k signature s d (more_trees t ts) b =
      let names = names_of signature in
      let low = k.low in (
        eq_above 40 c k.low,
        without-append c (term_text names t ++ later_text names ts) (41 ∷ [])
            (without-append c (term_text names t) (later_text names ts) (text_without c k signature s d t b.0) (later_without c k signature s d ts b.1))
            (eq_above 41 c (omega arith), tt),
      )

  later_without : (c : ℕ) → IsBlank c → (signature : Signature) → IsSignature signature → (d : ℕ) (ts : Trees) → AreBounded signature d ts → IsWithout c (later_text (names_of signature) ts)
  later_without c k signature s d no_trees b = tt
  later_without c k signature s d (more_trees t ts) b =
      let names = names_of signature in
      let low = k.low in
      (eq_above 44 c (omega arith), without-append c (term_text names t) (later_text names ts) (text_without c k signature s d t b.0) (later_without c k signature s d ts b.1))
