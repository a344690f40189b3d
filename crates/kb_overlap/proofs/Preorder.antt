-- The positions of a term in preorder, argument by argument, and lists of overlaps that grow with them.
use Rattle.std.proofs.Common.{ℕ, zero, suc, ◌+◌, ◌<◌, ◌≡◌, inl, inr, refl, sym, ap, ap₂, ◌∙◌, subst, arith, List, [], ◌∷◌, ◌++◌, length, get_or, take, append_assoc, Contains}
use Rattle.std.specs.Prelude.{map, drop, remove, Bool, true, false}
use Rattle.std.proofs.lemmas.List.{append-nil, map-append}
use Rattle.kb_term.specs.Tree.{Tree, variable, trees_of}
use Rattle.kb_term.specs.Position.{function_positions_of, function_positions_in}
use Rattle.kb_term.specs.Rule.{Rule}
use Rattle.kb_overlap.specs.Overlap.{Overlap, ListsOverlaps, HasNoOverlapAt, IsOverlapOrLimit, overlap_positions}

-- one more argument
positions-take : (us : List Tree) (k i : ℕ) → k < length us → function_positions_in (trees_of (take (suc k) us)) i ≡ function_positions_in (trees_of (take k us)) i ++ map ((i + k) ∷◌) (function_positions_of (get_or us k (variable 0)))
positions-take [] k i h = absurd (omega (arith, h))
positions-take (u ∷ us) zero i h = let e : i ≡ i + 0 = omega arith in append-nil (map (i ∷◌) (function_positions_of u)) ∙ (λ j. map (e j ∷◌) (function_positions_of u))
positions-take (u ∷ us) (suc k) i h =
    let e : suc i + k ≡ i + suc k = omega arith in
    ap (λ ps. map (i ∷◌) (function_positions_of u) ++ ps) (positions-take us k (suc i) (omega (arith, h)) ∙ ap (λ n. function_positions_in (trees_of (take k us)) (suc i) ++ map (n ∷◌) (function_positions_of (get_or us k (variable 0)))) e)
    ∙ sym (append_assoc (map (i ∷◌) (function_positions_of u)) (function_positions_in (trees_of (take k us)) (suc i)) (map ((i + suc k) ∷◌) (function_positions_of (get_or us k (variable 0)))))

-- a path that goes on to an argument
path-argument : (path : List ℕ) (n : ℕ) (ps : List (List ℕ)) → map (path ++◌) (map (n ∷◌) ps) ≡ map ((path ++ n ∷ []) ++◌) ps
path-argument path n [] = refl
path-argument path n (p ∷ ps) = ap₂ (λ q qs. q ∷ qs) (sym (append_assoc path (n ∷ []) p)) (path-argument path n ps)

-- the positions found behind a path, with those of one more argument
pub positions_more : (found start new : List (List ℕ)) (path here : List ℕ) (us : List Tree) (k : ℕ) → k < length us → found ≡ start ++ map (path ++◌) (function_positions_in (trees_of (take k us)) 1) → here ≡ path ++ (k + 1) ∷ [] → new ≡ found ++ map (here ++◌) (function_positions_of (get_or us k (variable 0)))
    → new ≡ start ++ map (path ++◌) (function_positions_in (trees_of (take (k + 1) us)) 1)
positions_more found start new path here us k h so_far here_is new_is =
    let next : suc k ≡ k + 1 = omega arith in
    let number : 1 + k ≡ k + 1 = omega arith in
    let xs = function_positions_in (trees_of (take k us)) 1 in
    let ys = function_positions_of (get_or us k (variable 0)) in
    new_is
    ∙ ap₂ (λ f q. f ++ map (q ++◌) ys) so_far here_is
    ∙ append_assoc start (map (path ++◌) xs) (map ((path ++ (k + 1) ∷ []) ++◌) ys)
    ∙ ap (λ zs. start ++ (map (path ++◌) xs ++ zs)) (sym (path-argument path (k + 1) ys))
    ∙ ap (λ zs. start ++ zs) (sym (map-append (path ++◌) xs (map ((k + 1) ∷◌) ys)))
    ∙ ap (λ n. start ++ map (path ++◌) (xs ++ map (n ∷◌) ys)) (sym number)
    ∙ ap (λ zs. start ++ map (path ++◌) zs) (sym (positions-take us k 1 h))
    ∙ ap (λ n. start ++ map (path ++◌) (function_positions_in (trees_of (take n us)) 1)) next

pub map_root : (ps : List (List ℕ)) → map ([] ++◌) ps ≡ ps
map_root [] = refl
map_root (p ∷ ps) = ap (p ∷◌) (map_root ps)

-- without the first
pub drop_first : (ps : List (List ℕ)) → remove ps 0 ≡ drop 1 ps
drop_first [] = refl
drop_first (p ∷ ps) = refl

-- a list of overlaps at one more position
pub lists_none : (A B : Rule) (p : List ℕ) → HasNoOverlapAt A B p → (ps : List (List ℕ)) (os : List Overlap) → ListsOverlaps A B ps os → ListsOverlaps A B (ps ++ p ∷ []) os
lists_none A B p none [] os l = inl (none, l)
lists_none A B p none (q ∷ ps) os (inl (n, l)) = inl (n, lists_none A B p none ps os l)
lists_none A B p none (q ∷ ps) os (inr (o, rest, is, at, here, l)) = inr (o, rest, is, at, here, lists_none A B p none ps rest l)

pub lists_some : (A B : Rule) (p : List ℕ) (x : Overlap) → x.position ≡ p → IsOverlapOrLimit A B x → (ps : List (List ℕ)) (os : List Overlap) → ListsOverlaps A B ps os → ListsOverlaps A B (ps ++ p ∷ []) (os ++ x ∷ [])
lists_some A B p x at here [] os l = inr (x, [], ap (λ zs. zs ++ x ∷ []) l, at, here, refl)
lists_some A B p x at here (q ∷ ps) os (inl (n, l)) = inl (n, lists_some A B p x at here ps os l)
lists_some A B p x at here (q ∷ ps) os (inr (o, rest, is, there, one, l)) = inr (o, rest ++ x ∷ [], ap (λ zs. zs ++ x ∷ []) is, there, one, lists_some A B p x at here ps rest l)

pub drop_empty : (ps : List (List ℕ)) → length ps ≡ 0 → ps ≡ drop 1 ps
drop_empty [] h = refl
drop_empty (p ∷ ps) h = absurd (omega (arith, h))

get_or_any : {X : Type 0} (xs : List X) (k : ℕ) (d e : X) → k < length xs → get_or xs k e ≡ get_or xs k d
get_or_any [] k d e h = absurd (omega (arith, h))
get_or_any (x ∷ xs) zero d e h = refl
get_or_any (x ∷ xs) (suc k) d e h = get_or_any xs k d e (omega (arith, h))

-- each place of the list has a position at which no variable stands
in_drop : (ps : List (List ℕ)) (k : ℕ) (d : List ℕ) → k < length (drop 1 ps) → Contains ps (get_or (drop 1 ps) k d)
in_drop [] k d h = absurd (omega (arith, h))
in_drop (p ∷ ps) k d h = (suc k, omega (arith, h), get_or_any ps k d (get_or ps k d) h)

pub listed_position : (A : Rule) (same : Bool) (k : ℕ) (d : List ℕ) → k < length (overlap_positions A same) → Contains (function_positions_of A.left) (get_or (overlap_positions A same) k d)
listed_position A true k d h = in_drop (function_positions_of A.left) k d h
listed_position A false k d h = (k, h, get_or_any (function_positions_of A.left) k d (get_or (function_positions_of A.left) k d) h)

-- the same, in a list of these positions
pub listed_at : (A : Rule) (same : Bool) (ps : List (List ℕ)) → ps ≡ overlap_positions A same → (k : ℕ) (d : List ℕ) → k < length ps → Contains (function_positions_of A.left) (get_or ps k d)
listed_at A same ps e k d h = subst (λ qs. k < length qs → Contains (function_positions_of A.left) (get_or qs k d)) (sym e) (listed_position A same k d) h
