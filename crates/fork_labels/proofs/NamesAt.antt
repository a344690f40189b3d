-- The living names whose places are in a set.
use Rattle.std.proofs.Common.{◌≡◌, ℕ, ◌+◌, ◌<◌, ◌≤◌, List, [], ◌∷◌, ◌++◌, length, Bool, true, false, drop, get_or, filter, map, cond, refl, sym, ap, ap₂, ◌∙◌, arith, append_assoc}
use Rattle.std.proofs.lemmas.List.{drop_more, drop_all}
use Rattle.kb_label.specs.Names.{Name, root}
use Rattle.fork_labels.specs.Places.{picked}

none_after : (l : List Name) → l ++ [] ≡ l
none_after [] = refl
none_after (p ∷ l) = ap (λ m. p ∷ m) (none_after l)

module _ (g : ℕ → Bool) (kept : List Name) (places : List ℕ) (names : List Name) (i : ℕ) (long : i < length names) (same : length places ≡ length names) where
  rest : List Name
  rest = picked (map g (drop (i + 1) places)) (drop (i + 1) names)

  next : picked (map g (drop i places)) (drop i names) ≡ picked (g (get_or places i 0) ∷ map g (drop (i + 1) places)) (get_or names i root ∷ drop (i + 1) names)
  next = ap₂ (λ ps ns. picked (map g ps) ns) (drop_more places i 0 (omega (arith, same))) (drop_more names i root long)

  pub kept_step : g (get_or places i 0) ≡ true → (kept ++ get_or names i root ∷ []) ++ picked (map g (drop (i + 1) places)) (drop (i + 1) names) ≡ kept ++ picked (map g (drop i places)) (drop i names)
  unfolding picked rest
  kept_step e =
      append_assoc kept (get_or names i root ∷ []) rest
      ∙ ap (λ l. kept ++ l) (sym (next ∙ ap (λ b. picked (b ∷ map g (drop (i + 1) places)) (get_or names i root ∷ drop (i + 1) names)) e))

  pub left_step : g (get_or places i 0) ≡ false → kept ++ picked (map g (drop (i + 1) places)) (drop (i + 1) names) ≡ kept ++ picked (map g (drop i places)) (drop i names)
  unfolding picked rest
  left_step e = ap (λ l. kept ++ l) (sym (next ∙ ap (λ b. picked (b ∷ map g (drop (i + 1) places)) (get_or names i root ∷ drop (i + 1) names)) e))

-- nothing is left at the end
pub names_done : (g : ℕ → Bool) (kept : List Name) (places : List ℕ) (names : List Name) (i : ℕ) → length names ≤ i → length places ≡ length names → kept ++ picked (map g (drop i places)) (drop i names) ≡ kept
unfolding picked
names_done g kept places names i h same =
    ap₂ (λ ps ns. kept ++ picked (map g ps) ns) (drop_all i places (omega (arith, same, h))) (drop_all i names h)
    ∙ none_after kept

-- the names at places are those that pass
pub picked-filter : (g : ℕ → Bool) (f : Name → ℕ) (names : List Name) → picked (map g (map f names)) names ≡ filter (λ q. g (f q)) names
unfolding picked
picked-filter g f [] = refl
picked-filter g f (p ∷ names) = go (g (f p)) (picked-filter g f names)
  where
    go : (b : Bool) → picked (map g (map f names)) names ≡ filter (λ q. g (f q)) names → picked (b ∷ map g (map f names)) (p ∷ names) ≡ cond b (p ∷ filter (λ q. g (f q)) names) (filter (λ q. g (f q)) names)
    go true ih = ap (λ l. p ∷ l) ih
    go false ih = ih
