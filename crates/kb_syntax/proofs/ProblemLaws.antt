-- Members that pass a test of all.
use Rattle.std.proofs.Common.{◌≡◌, refl, ap, sym, ◌∙◌, subst, arith, ℕ, zero, suc, ◌<◌, ◌≤◌, List, [], ◌∷◌, Bool, true, false, ◌&&◌, length, get_or}
use Rattle.std.specs.Prelude.{map, All, unwrap_or}
use Rattle.std.specs.List.{list_all}
use Rattle.std.proofs.lemmas.List.{length-map, get_or-map}
use Rattle.std.proofs.lemmas.List.Elements.{All-get_or}
use Rattle.kb_text.specs.Names.{Name}
use Rattle.kb_text.specs.Problems.{arity_in}
use Rattle.kb_text.proofs.NameLists.{NameVec}

pub arity_fits : (names : List NameVec) (uses : List (Name × ℕ)) (i : ℕ) (v : NameVec) → All (λ x. unwrap_or (arity_in uses x) 0 ≤ 8) (map (λ (n : NameVec). n.items) names) → i < length names → v ≡ get_or names i v → unwrap_or (arity_in uses v.items) 0 ≤ 8
arity_fits names uses i v h k e =
    subst (λ (x : Name). unwrap_or (arity_in uses x) 0 ≤ 8) (get_or-map (λ (n : NameVec). n.items) names i v [] k ∙ ap (λ (n : NameVec). n.items) (sym e))
    (All-get_or (λ x. unwrap_or (arity_in uses x) 0 ≤ 8) (map (λ (n : NameVec). n.items) names) i [] (omega (arith, k, length-map names (λ (n : NameVec). n.items))) h)

pub all_at : {X Y : Type 0} (p : Y → Bool) (f : X → Y) (xs : List X) (i : ℕ) (x : X) → list_all p (map f xs) ≡ true → i < length xs → x ≡ get_or xs i x → p (f x) ≡ true
all_at p f [] i x h k e = absurd (omega arith)
all_at p f (y ∷ ys) zero x h k e = ap (λ z. p (f z)) e ∙ first (p (f y)) (list_all p (map f ys)) h
  where
    first : (a b : Bool) → (a && b) ≡ true → a ≡ true
    first true b h = refl
    first false b h = absurd (cc)
all_at p f (y ∷ ys) (suc i) x h k e = all_at p f ys i x (rest (p (f y)) (list_all p (map f ys)) h) (omega arith) e
  where
    rest : (a b : Bool) → (a && b) ≡ true → b ≡ true
    rest true b h = h
    rest false b h = absurd (cc)
