-- Two lists of the overlaps of two rules are alike, whichever variants and unifiers were taken.
use Rattle.std.proofs.Common.{ℕ, ◌≡◌, ◌⊎◌, inl, inr, refl, sym, ap, ◌∙◌, subst, arith, List, [], ◌∷◌, ◌++◌, map, Contains, Option, Some, None, Result, Ok, Err}
use Rattle.std.specs.Prelude.{⊤}
use Rattle.kb_lemmas.proofs.Membership.{contains_cases, contains_behind, contains_first}
use Rattle.kb_term.specs.Tree.{Tree}
use Rattle.kb_term.specs.Substitution.{instance}
use Rattle.kb_term.specs.Rule.{Rule}
use Rattle.kb_term.specs.declared.limit.Limit.{Limit as TermLimit}
use Rattle.kb_overlap.specs.Overlap.{IsOverlapOrLimit, ListsOverlaps, OverlapsAt, IsCriticalPair, HasNoOverlapAt, Overlap as Listed, overlap_limit, pair_or_limit, canonical_sides}
use Rattle.kb_overlap.proofs.Uniqueness.{overlap_alike, transfer, first_made, second_made}
use Rattle.kb_laws.proofs.Renamings.{Back}

-- ---- lists whose members are related one by one

abbrev pub Both : {A : Type 0} → (A → A → Type 0) → List A → List A → Type 0
Both R [] [] = ⊤
Both R (x ∷ xs) (y ∷ ys) = R x y × Both R xs ys
Both R [] (y ∷ ys) = ⊥
Both R (x ∷ xs) [] = ⊥

pub both_append : {A : Type 0} (R : A → A → Type 0) (xs ys vs ws : List A) → Both R xs ys → Both R vs ws → Both R (xs ++ vs) (ys ++ ws)
both_append R [] [] vs ws h k = k
both_append R (x ∷ xs) (y ∷ ys) vs ws h k = (h.0, both_append R xs ys vs ws h.1 k)
both_append R [] (y ∷ ys) vs ws h k = absurd h
both_append R (x ∷ xs) [] vs ws h k = absurd h

pub both_map : {A B : Type 0} (R : A → A → Type 0) (S : B → B → Type 0) (f : A → B) → ((x y : A) → R x y → S (f x) (f y)) → (xs ys : List A) → Both R xs ys → Both S (map f xs) (map f ys)
both_map R S f g [] [] h = tt
both_map R S f g (x ∷ xs) (y ∷ ys) h = (g x y h.0, both_map R S f g xs ys h.1)
both_map R S f g [] (y ∷ ys) h = absurd h
both_map R S f g (x ∷ xs) [] h = absurd h

-- a member of one list has one related to it in the other
pub both_in : {A : Type 0} (R : A → A → Type 0) (xs ys : List A) → Both R xs ys → (x : A) → Contains xs x → (y : A) × Contains ys y × R x y
both_in R [] ys h x i = absurd (omega (arith, i.1))
both_in R (x ∷ xs) [] h z i = absurd h
both_in {A} R (x ∷ xs) (y ∷ ys) h z i = go (λ k. both_in R xs ys h.1 z k) (contains_cases x xs z i)
  where
    go : (Contains xs z → (w : A) × Contains ys w × R z w) → (x ≡ z) ⊎ Contains xs z → (w : A) × Contains (y ∷ ys) w × R z w
    go later (inl e) = (y, contains_first y ys, subst {A = A} (λ v. R v y) e h.0)
    go later (inr k) = let r = later k in (r.0, contains_behind y ys r.0 r.1, r.2)

-- ---- alike overlaps

-- two pairs of terms, each taken to the other by a substitution
pub record Twins (x y : Tree × Tree) : Type 0 where
  pub there : ℕ → Tree
  pub back : ℕ → Tree
  pub first : instance there x.0 ≡ y.0
  pub first_back : Back there back x.0
  pub second : instance there x.1 ≡ y.1
  pub second_back : Back there back x.1

abbrev pub AlikeSides : Result (Tree × Tree) TermLimit → Result (Tree × Tree) TermLimit → Type 0
AlikeSides (Ok x) (Ok y) = Twins x y
AlikeSides (Err l) (Err m) = l ≡ m
AlikeSides (Ok x) (Err m) = ⊥
AlikeSides (Err l) (Ok y) = ⊥

pub record AreListedAlike (o q : Listed) : Type 0 where
  pub position : o.position ≡ q.position
  pub sides : AlikeSides o.sides q.sides

pair_is : (l : Option TermLimit) (s t : Tree) (x : Tree × Tree) → pair_or_limit l s t ≡ Ok x → (s ≡ x.0) × (t ≡ x.1)
pair_is None s t x e = let q : (s, t) ≡ x = cc in (ap (λ (z : Tree × Tree). z.0) q, ap (λ (z : Tree × Tree). z.1) q)
pair_is (Some l) s t x e = absurd (cc)

twins_of : (A B : Rule) (o q : Listed) (x y : Tree × Tree) → o.position ≡ q.position → IsOverlapOrLimit A B o → IsOverlapOrLimit A B q → o.sides ≡ Ok x → q.sides ≡ Ok y → Twins x y
twins_of A B o q x y e f g ox qy =
    let there : OverlapsAt A g.renamed o.position g.m = subst {A = List ℕ} (λ p. OverlapsAt A g.renamed p g.m) (sym e) g.overlaps in
    let pair : IsCriticalPair A g.renamed o.position g.m g.s g.t = subst {A = List ℕ} (λ p. IsCriticalPair A g.renamed p g.m g.s g.t) (sym e) g.pair in
    let forth = transfer A B f.renamed g.renamed f.renamed_apart g.renamed_apart o.position f.m g.m f.overlaps there in
    let home = transfer A B g.renamed f.renamed g.renamed_apart f.renamed_apart o.position g.m f.m there f.overlaps in
    let v = pair_is (overlap_limit A f.renamed f.m f.s f.t) f.s f.t x (sym f.sides ∙ ox) in
    let w = pair_is (overlap_limit A g.renamed g.m g.s g.t) g.s g.t y (sym g.sides ∙ qy) in
    let one : instance forth.0 f.s ≡ g.s = first_made A B f.renamed g.renamed f.renamed_apart g.renamed_apart o.position f.m g.m f.overlaps there forth.0 forth.1 f.s f.t g.s g.t f.pair pair in
    let two : instance forth.0 f.t ≡ g.t = second_made A B f.renamed g.renamed f.renamed_apart g.renamed_apart o.position f.m g.m f.overlaps there forth.0 forth.1 f.s f.t g.s g.t f.pair pair in
    let one_back : instance home.0 g.s ≡ f.s = first_made A B g.renamed f.renamed g.renamed_apart f.renamed_apart o.position g.m f.m there f.overlaps home.0 home.1 g.s g.t f.s f.t pair f.pair in
    let two_back : instance home.0 g.t ≡ f.t = second_made A B g.renamed f.renamed g.renamed_apart f.renamed_apart o.position g.m f.m there f.overlaps home.0 home.1 g.s g.t f.s f.t pair f.pair in
    record {
      there = forth.0;
      back = home.0;
      first = ap (instance forth.0) (sym v.0) ∙ one ∙ w.0;
      first_back = subst {A = Tree} (Back forth.0 home.0) v.0 (ap (instance home.0) one ∙ one_back);
      second = ap (instance forth.0) (sym v.1) ∙ two ∙ w.1;
      second_back = subst {A = Tree} (Back forth.0 home.0) v.1 (ap (instance home.0) two ∙ two_back);
    }

sides_alike : (A B : Rule) (o q : Listed) → o.position ≡ q.position → IsOverlapOrLimit A B o → IsOverlapOrLimit A B q → AlikeSides o.sides q.sides
sides_alike A B o q e f g = go o.sides q.sides refl refl
  where
    same : canonical_sides o.sides ≡ canonical_sides q.sides
    same = overlap_alike A B o q e f g

    go : (r s : Result (Tree × Tree) TermLimit) → o.sides ≡ r → q.sides ≡ s → AlikeSides r s
    go (Ok x) (Ok y) h k = twins_of A B o q x y e f g h k
    go (Err l) (Err m) h k = let z : canonical_sides (Err l) ≡ canonical_sides (Err m) = sym (ap canonical_sides h) ∙ same ∙ ap canonical_sides k in cc
    go (Ok x) (Err m) h k = let z : canonical_sides (Ok x) ≡ canonical_sides (Err m) = sym (ap canonical_sides h) ∙ same ∙ ap canonical_sides k in absurd (cc)
    go (Err l) (Ok y) h k = let z : canonical_sides (Err l) ≡ canonical_sides (Ok y) = sym (ap canonical_sides h) ∙ same ∙ ap canonical_sides k in absurd (cc)

unifies_there : (A B : Rule) (o : Listed) → IsOverlapOrLimit A B o → ¬ HasNoOverlapAt A B o.position
unifies_there A B o x none = none x.renamed x.overlaps.subterm x.renamed_apart x.overlaps.there (x.m, x.overlaps.unifier.unifies)

pub lists_both : (A B : Rule) (ps : List (List ℕ)) (xs ys : List Listed) → ListsOverlaps A B ps xs → ListsOverlaps A B ps ys → Both AreListedAlike xs ys
lists_both A B [] xs ys l k = subst {A = List Listed} (λ z. Both AreListedAlike z ys) (sym l) (subst {A = List Listed} (Both AreListedAlike []) (sym k) tt)
lists_both A B (p ∷ ps) xs ys (inl l) (inl k) = lists_both A B ps xs ys l.1 k.1
lists_both A B (p ∷ ps) xs ys (inl l) (inr (q, rest, is, at, here, k)) = absurd (unifies_there A B q here (subst {A = List ℕ} (HasNoOverlapAt A B) (sym at) l.0))
lists_both A B (p ∷ ps) xs ys (inr (o, rest, is, at, here, l)) (inl k) = absurd (unifies_there A B o here (subst {A = List ℕ} (HasNoOverlapAt A B) (sym at) k.0))
lists_both A B (p ∷ ps) xs ys (inr (o, rest, is, at, here, l)) (inr (q, others, is', at', here', k)) =
    subst {A = List Listed} (λ z. Both AreListedAlike z ys) (sym is) (subst {A = List Listed} (Both AreListedAlike (o ∷ rest)) (sym is')
    (record { position = at ∙ sym at'; sides = sides_alike A B o q (at ∙ sym at') here here' }, lists_both A B ps rest others l k))
