-- Found numbers and their places.
use Rattle.std.proofs.Common.{◌≡◌, sym, ap, ◌∙◌, arith, ℕ, ◌+◌, ◌<◌, ◌≤◌, List, [], ◌∷◌, ◌++◌, get_or, length, inl, inr, ◌⊎◌, refl, zero, suc, Bool, true, false, cond, subst}
use Rattle.std.specs.Prelude.{◌==◌}
use Rattle.std.proofs.Math.ListN.{set, get_or-append, length-set}
use Rattle.std.proofs.Math.Seq.{get_or-append_seam}
use Rattle.std.proofs.lemmas.List.{get_or-set_same, get_or-set_other, length-append}
use Rattle.std.proofs.lemmas.Bool.{ne_eqb, eq-eqb, ltb-true}
use Rattle.std.proofs.lemmas.List.Sums.{position_or_len_is}
use Rattle.kb_term.specs.Pair.{place_in}
use Rattle.kb_text.specs.Names.{Name, is_among, number_of, with_name}
use Rattle.kb_syntax.specs.Variables.{AreNumbered, ArePlaced, IsKept}
use Rattle.kb_syntax.proofs.VariableLaws.{among-place, numbered-more, numbered-push}

-- a number that stands at its place stands there first
pub place_kept : (found places : List ℕ) (n at : ℕ) → ArePlaced found places → at ≡ get_or places n 0 → at < length found → get_or found at 0 ≡ n → at ≡ place_in found n
place_kept found places n at placed e h k =
    sym (position_or_len_is (λ y. y == n) found at 0 (omega arith)
    (λ j l. ne_eqb (get_or found j 0) n (λ q. let same : j ≡ get_or places n 0 = sym (placed j (omega arith)) ∙ ap (λ m. get_or places m 0) q in omega arith))
    (λ l. eq-eqb (get_or found at 0) n k))

-- a number that doesn't stand at its place stands nowhere
pub place_lost : (found places : List ℕ) (n at : ℕ) → ArePlaced found places → at ≡ get_or places n 0 → (at < length found → get_or found at 0 ≡ n → ⊥) → length found ≡ place_in found n
place_lost found places n at placed e h =
    sym (position_or_len_is (λ y. y == n) found (length found) 0 (omega arith)
    (λ j l. ne_eqb (get_or found j 0) n (λ q.
    let same : j ≡ at = sym (placed j l) ∙ ap (λ m. get_or places m 0) q ∙ sym e in
    h (omega (arith, same)) (ap (λ m. get_or found m 0) (sym same) ∙ q)))
    (λ l. absurd (omega arith)))

-- a number that stands nowhere is placed behind the others
pub placed_push : (found places : List ℕ) (n : ℕ) → ArePlaced found places → n < length places → place_in found n ≡ length found → ArePlaced (found ++ n ∷ []) (set places n (length found))
placed_push found places n placed h lost i l = go (older i (length found) (omega (arith, length-append found (n ∷ []))))
  where
    older : (a b : ℕ) → a < b + 1 → (a < b) ⊎ (a ≡ b)
    older zero zero q = inr refl
    older zero (suc b) q = inl (omega arith)
    older (suc a) zero q = absurd (omega arith)
    older (suc a) (suc b) q = next (older a b (omega arith))
      where
        next : (a < b) ⊎ (a ≡ b) → (suc a < suc b) ⊎ (suc a ≡ suc b)
        next (inl k) = inl (omega arith)
        next (inr e) = inr (ap (λ m. suc m) e)

    go : (i < length found) ⊎ (i ≡ length found) → get_or (set places n (length found)) (get_or (found ++ n ∷ []) i 0) 0 ≡ i
    go (inr e) =
        ap (λ j. get_or (set places n (length found)) (get_or (found ++ n ∷ []) j 0) 0) e
        ∙ ap (λ m. get_or (set places n (length found)) m 0) (get_or-append_seam found n [] 0)
        ∙ get_or-set_same places n (length found) 0 h ∙ sym e
    go (inl k) =
        ap (λ m. get_or (set places n (length found)) m 0) (get_or-append found (n ∷ []) 0 i k)
        ∙ get_or-set_other places n (get_or found i 0) (length found) 0 (λ q. let p = place_kept found places n i placed (sym (placed i k) ∙ ap (λ m. get_or places m 0) q) k q in omega (arith, p, lost, k))
        ∙ placed i k

get_or_zero : (xs : List ℕ) (i : ℕ) → get_or (xs ++ 0 ∷ []) i 0 ≡ get_or xs i 0
get_or_zero [] zero = refl
get_or_zero [] (suc i) = refl
get_or_zero (x ∷ xs) zero = refl
get_or_zero (x ∷ xs) (suc i) = get_or_zero xs i

-- one more name is declared
pub kept_more : (names : List Name) (found places : List ℕ) (x : Name) → IsKept names found places → IsKept (with_name names x) found (places ++ 0 ∷ [])
kept_more names found places x k = record {
  numbered = numbered-more names found x k.numbered;
  placed = λ i l. get_or_zero places (get_or found i 0) ∙ k.placed i l;
  all = fits (is_among names x);
}
  where
    fits : (b : Bool) → length (cond b names (names ++ x ∷ [])) ≤ length (places ++ 0 ∷ [])
    fits true = omega (arith, length-append places (0 ∷ []), k.all)
    fits false = omega (arith, length-append places (0 ∷ []), length-append names (x ∷ []), k.all)

-- a declared name has a place
pub inside : (names : List Name) (found places : List ℕ) (x : Name) → IsKept names found places → is_among names x ≡ true → number_of names x < length places
inside names found places x k a = omega (arith, ltb-true (number_of names x) (length names) (sym (among-place names x) ∙ a), k.all)

-- one more name is found
pub kept_found : (names : List Name) (found places : List ℕ) (x : Name) (n : ℕ) → IsKept names found places → is_among names x ≡ true → n ≡ number_of names x → place_in found n ≡ length found → IsKept names (found ++ n ∷ []) (set places n (length found))
kept_found names found places x n k a e lost = record {
  numbered = subst (λ m. AreNumbered names (found ++ m ∷ [])) (sym e) (numbered-push names found x a k.numbered);
  placed = placed_push found places n k.placed (subst (λ m. m < length places) (sym e) (inside names found places x k a)) lost;
  all = omega (arith, length-set places n (length found), k.all);
}
