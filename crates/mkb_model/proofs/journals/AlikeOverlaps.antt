-- Two lists of the overlaps of named rules are alike, whichever variants and unifiers were taken, and so are what is proposed from them.
use Rattle.std.proofs.Common.{ℕ, ◌≡◌, inl, inr, refl, sym, ap, ap₂, ◌∙◌, subst, List, [], ◌∷◌, ◌++◌, map, flat_map, Contains, Some, Result, Ok, Err}
use Rattle.std.specs.Prelude.{option_to_list}
use Rattle.kb_lemmas.proofs.Membership.{contains_behind, contains_first}
use Rattle.kb_lemmas.proofs.Options.{none_some, some_is}
use Rattle.kb_term.specs.Tree.{Tree}
use Rattle.kb_term.specs.Substitution.{instance}
use Rattle.kb_term.specs.Pair.{Pair, canonical_pair}
use Rattle.kb_term.specs.declared.limit.Limit.{Limit as TermLimit}
use Rattle.kb_term.specs.declared.origin.RuleRef.{RuleRef}
use Rattle.kb_overlap.specs.Overlap.{Overlap as Listed, overlap_positions}
use Rattle.kb_rewrite.specs.NormalForm.{HoldVariables, Normalised, form, long, large}
use Rattle.kb_rewrite.proofs.Determined.{answers_once}
use Rattle.kb_label.specs.declared.verdict.Reason.{Reason}
use Rattle.kb_node.specs.declared.job.Deduced.{Deduced}
use Rattle.mkb_model.specs.Jobs.{ref_eq}
use Rattle.mkb_model.specs.Proposals.{NamedRule, as_rules, NamedOverlap, OverlapsOfAll, own_limit, FirstThat, deduced_pair, AreDeduced, HasForm, form_limit, PassesLimit, PassesFirst, HaveForms, IsJoinedBy, FormsMeet, OfSides, IsFormed, IsJoined, IsUnjoined, IsStopped, Picks}
use Rattle.kb_laws.proofs.Renamings.{Back, back_again, answer_instance, normalises_instance, canonical_back}
use Rattle.kb_laws.proofs.Twins.{Both, both_append, both_map, Twins, AlikeSides, AreListedAlike, lists_both}

-- ---- lists whose members are related one by one

pub both_flat_map : {A B : Type 0} (R : A → A → Type 0) (f : A → List B) → ((x y : A) → R x y → f x ≡ f y) → (xs ys : List A) → Both R xs ys → flat_map f xs ≡ flat_map f ys
both_flat_map R f g [] [] h = refl
both_flat_map {A} {B} R f g (x ∷ xs) (y ∷ ys) h = ap₂ {C = List B} (λ v w. v ++ w) (g x y h.0) (both_flat_map R f g xs ys h.1)
both_flat_map R f g [] (y ∷ ys) h = absurd h
both_flat_map R f g (x ∷ xs) [] h = absurd h

-- the members picked from both lists
pub both_picked : {A : Type 0} (R : A → A → Type 0) (P : A → Type 0) → ((x y : A) → R x y → P x → P y) → ((x y : A) → R x y → P y → P x)
    → (xs ys vs ws : List A) → Both R xs ys → Picks P xs vs → Picks P ys ws → Both R vs ws
both_picked {A} R P f g [] [] vs ws h k l = subst {A = List A} (λ z. Both R z ws) (sym k) (subst {A = List A} (Both R []) (sym l) tt)
both_picked R P f g (x ∷ xs) (y ∷ ys) vs ws h (inl k) (inl l) = both_picked R P f g xs ys vs ws h.1 k.1 l.1
both_picked R P f g (x ∷ xs) (y ∷ ys) vs ws h (inl k) (inr l) = absurd (k.0 (g x y h.0 l.0))
both_picked R P f g (x ∷ xs) (y ∷ ys) vs ws h (inr k) (inl l) = absurd (l.0 (f x y h.0 k.0))
both_picked {A} R P f g (x ∷ xs) (y ∷ ys) vs ws h (inr (k, (zs, p, e))) (inr (l, (us, q, d))) =
    subst {A = List A} (λ z. Both R z ws) (sym e) (subst {A = List A} (Both R (x ∷ zs)) (sym d) (h.0, both_picked R P f g xs ys zs us h.1 p q))
both_picked R P f g [] (y ∷ ys) vs ws h k l = absurd h
both_picked R P f g (x ∷ xs) [] vs ws h k l = absurd h

-- the first members of both lists that meet a condition are at one place
pub both_first : {A : Type 0} (R : A → A → Type 0) (Clear Meets More : A → Type 0) → ((x y : A) → R x y → Meets x → Clear y → ⊥) → ((x y : A) → R x y → Clear x → More y → ⊥)
    → (xs ys : List A) → Both R xs ys → FirstThat Clear Meets xs → FirstThat Clear More ys → (x : A) × (y : A) × R x y × Meets x × More y
both_first {A} R Clear Meets More later never xs ys h (before, x, after, e, clear, meets) (front, y, back, d, free, more) =
    go before front xs ys h e d clear free
  where
    go : (before front xs ys : List A) → Both R xs ys → xs ≡ before ++ x ∷ after → ys ≡ front ++ y ∷ back → ((z : A) → Contains before z → Clear z) → ((z : A) → Contains front z → Clear z) → (x : A) × (y : A) × R x y × Meets x × More y
    go [] [] xs ys h e d c f = let b = subst {A = List A} (λ z. Both R z ys) e h in let g = subst {A = List A} (Both R (x ∷ after)) d b in (x, y, g.0, meets, more)
    go [] (w ∷ front) xs ys h e d c f = let b = subst {A = List A} (λ z. Both R z ys) e h in let g = subst {A = List A} (Both R (x ∷ after)) d b in absurd (later x w g.0 meets (f w (contains_first w front)))
    go (v ∷ before) [] xs ys h e d c f = let b = subst {A = List A} (λ z. Both R z ys) e h in let g = subst {A = List A} (Both R (v ∷ before ++ x ∷ after)) d b in absurd (never v y g.0 (c v (contains_first v before)) more)
    go (v ∷ before) (w ∷ front) xs ys h e d c f =
        let b = subst {A = List A} (λ z. Both R z ys) e h in
        let g = subst {A = List A} (Both R (v ∷ before ++ x ∷ after)) d b in
        go before front (before ++ x ∷ after) (front ++ y ∷ back) g.1 refl refl (λ z i. c z (contains_behind v before z i)) (λ z i. f z (contains_behind w front z i))

-- ---- alike overlaps

-- the same rules at the same position, with alike sides
pub record AreAlike (o q : NamedOverlap) : Type 0 where
  outer : o.outer ≡ q.outer
  inner : o.inner ≡ q.inner
  position : o.overlap.position ≡ q.overlap.position
  sides : AlikeSides o.overlap.sides q.overlap.sides

-- two lists of the overlaps of the same named rules are alike
pub overlaps_both : (pairs : List (NamedRule × NamedRule)) (os qs : List NamedOverlap) → OverlapsOfAll pairs os → OverlapsOfAll pairs qs → Both AreAlike os qs
overlaps_both [] os qs h k = subst {A = List NamedOverlap} (λ z. Both AreAlike z qs) (sym h) (subst {A = List NamedOverlap} (Both AreAlike []) (sym k) tt)
overlaps_both (p ∷ pairs) os qs (here, later, (found, list, is), rest, e) (there, others, (other, list', is'), rest', e') =
    subst {A = List NamedOverlap} (λ z. Both AreAlike z qs) (sym e) (subst {A = List NamedOverlap} (Both AreAlike (here ++ later)) (sym e')
    (both_append AreAlike here there later others named (overlaps_both pairs later others rest rest')))
  where
    name : Listed → NamedOverlap
    name o = record { outer = p.0.ref; inner = p.1.ref; overlap = o }

    named : Both AreAlike here there
    named = subst {A = List NamedOverlap} (λ z. Both AreAlike z there) (sym is) (subst {A = List NamedOverlap} (Both AreAlike (map name found)) (sym is')
        (both_map AreListedAlike AreAlike name (λ x y h. record { outer = refl; inner = refl; position = h.position; sides = h.sides }) found other (lists_both p.0.rule p.1.rule (overlap_positions p.0.rule (ref_eq p.0.ref p.1.ref)) found other list list')))

-- ---- what holds of an overlap holds of those alike

swapped : (x y : Tree × Tree) → Twins x y → Twins y x
swapped x y t = record {
  there = t.back;
  back = t.there;
  first = ap (instance t.back) (sym t.first) ∙ t.first_back;
  first_back = subst {A = Tree} (Back t.back t.there) t.first (back_again t.there t.back x.0 t.first_back);
  second = ap (instance t.back) (sym t.second) ∙ t.second_back;
  second_back = subst {A = Tree} (Back t.back t.there) t.second (back_again t.there t.back x.1 t.second_back);
}

sides_swapped : (r s : Result (Tree × Tree) TermLimit) → AlikeSides r s → AlikeSides s r
sides_swapped (Ok x) (Ok y) h = swapped x y h
sides_swapped (Err l) (Err m) h = sym h
sides_swapped (Ok x) (Err m) h = absurd h
sides_swapped (Err l) (Ok y) h = absurd h

pub alike_swapped : (o q : NamedOverlap) → AreAlike o q → AreAlike q o
alike_swapped o q h = record { outer = sym h.outer; inner = sym h.inner; position = sym h.position; sides = sides_swapped o.overlap.sides q.overlap.sides h.sides }

pub alike_limit : (o q : NamedOverlap) → AreAlike o q → own_limit o.overlap.sides ≡ own_limit q.overlap.sides
alike_limit o q h = go o.overlap.sides q.overlap.sides h.sides
  where
    go : (r s : Result (Tree × Tree) TermLimit) → AlikeSides r s → own_limit r ≡ own_limit s
    go (Ok x) (Ok y) k = refl
    go (Err l) (Err m) k = ap (λ z. own_limit (Err z)) k
    go (Ok x) (Err m) k = absurd k
    go (Err l) (Ok y) k = absurd k

twin_pairs : (x y : Tree × Tree) → Twins x y → canonical_pair x.0 x.1 ≡ canonical_pair y.0 y.1
twin_pairs x y t = sym (canonical_back t.there t.back x.0 x.1 t.first_back t.second_back) ∙ ap₂ canonical_pair t.first t.second

pub alike_deduced : (o q : NamedOverlap) → AreAlike o q → deduced_pair o o.overlap.sides ≡ deduced_pair q q.overlap.sides
alike_deduced o q h = go o.overlap.sides q.overlap.sides h.sides
  where
    go : (r s : Result (Tree × Tree) TermLimit) → AlikeSides r s → deduced_pair o r ≡ deduced_pair q s
    go (Ok x) (Ok y) k =
        ap (λ z. map (λ (w : Pair). (o.outer, o.inner, o.overlap.position, w)) (option_to_list z)) (twin_pairs x y k)
        ∙ ap (λ (z : RuleRef). map (λ (w : Pair). (z, o.inner, o.overlap.position, w)) (option_to_list (canonical_pair y.0 y.1))) h.outer
        ∙ ap (λ (z : RuleRef). map (λ (w : Pair). (q.outer, z, o.overlap.position, w)) (option_to_list (canonical_pair y.0 y.1))) h.inner
        ∙ ap (λ (z : List ℕ). map (λ (w : Pair). (q.outer, q.inner, z, w)) (option_to_list (canonical_pair y.0 y.1))) h.position
    go (Err l) (Err m) k = refl
    go (Ok x) (Err m) k = absurd k
    go (Err l) (Ok y) k = absurd k

abbrev four : Deduced → RuleRef × RuleRef × List ℕ × Pair
four x = (x.outer, x.inner, x.position, x.pair)

four_one : (x y : Deduced) → four x ≡ four y → x ≡ y
four_one x y k = ap {B = Deduced} (λ (z : RuleRef × RuleRef × List ℕ × Pair). record { outer = z.0; inner = z.1; position = z.2; pair = z.3 }) k

fours_one : (xs ys : List Deduced) → map four xs ≡ map four ys → xs ≡ ys
fours_one [] [] k = refl
fours_one [] (y ∷ ys) k = absurd (cc)
fours_one (x ∷ xs) [] k = absurd (cc)
fours_one (x ∷ xs) (y ∷ ys) k =
    let first : four x ≡ four y = cc in
    let rest : map four xs ≡ map four ys = cc in
    ap₂ {C = List Deduced} (λ z zs. z ∷ zs) (four_one x y first) (fours_one xs ys rest)

-- what is proposed from alike overlaps is the same
pub deduced_same : (ds es : List Deduced) (os qs : List NamedOverlap) → Both AreAlike os qs → AreDeduced ds os → AreDeduced es qs → ds ≡ es
deduced_same ds es os qs h d e = fours_one ds es (d ∙ both_flat_map AreAlike (λ (o : NamedOverlap). deduced_pair o o.overlap.sides) alike_deduced os qs h ∙ sym e)

module _ (rules : List NamedRule) (held : HoldVariables (as_rules rules)) where
  -- a term has one normal form, or passes one limit
  form_one : (t u v : Tree) → HasForm rules t u → HasForm rules t v → u ≡ v
  form_one t u v (m, f) (n, g) = go (answers_once (as_rules rules) held t (form u m) (form v n) f g)
    where
      go : form u m ≡ form v n → u ≡ v
      go e = cc

  form_no_limit : (t u : Tree) (r : Reason) → HasForm rules t u → ¬ PassesLimit rules t r
  form_no_limit t u r (m, f) (a, g, l) = none_some (ap form_limit (answers_once (as_rules rules) held t (form u m) a f g) ∙ l)

  limit_one : (t : Tree) (r s : Reason) → PassesLimit rules t r → PassesLimit rules t s → r ≡ s
  limit_one t r s (a, f, l) (b, g, m) = some_is (sym l ∙ ap form_limit (answers_once (as_rules rules) held t a b f g) ∙ m)

  form_there : (d e : ℕ → Tree) (t u : Tree) → Back d e t → HasForm rules t u → HasForm rules (instance d t) (instance d u) × Back d e u
  form_there d e t u h (m, f) = let r = normalises_instance d e (as_rules rules) t (form u m) held h f in ((m, r.0), r.1)

  limit_there : (d e : ℕ → Tree) (t : Tree) (r : Reason) → Back d e t → PassesLimit rules t r → PassesLimit rules (instance d t) r
  limit_there d e t r h (a, f, l) = (answer_instance d a, (normalises_instance d e (as_rules rules) t a held h f).0, same a ∙ l)
    where
      same : (a : Normalised) → form_limit (answer_instance d a) ≡ form_limit a
      same (form u n) = refl
      same (long n) = refl
      same (large l) = refl

  moved : (P : Tree × Tree → Type 0) (x y : Tree × Tree) (t : Twins x y) → P (instance t.there x.0, instance t.there x.1) → P y
  moved P x y t h = subst {A = Tree × Tree} P (ap₂ {C = Tree × Tree} (λ u v. (u, v)) t.first t.second) h

  forms_there : (x y : Tree × Tree) → Twins x y → HaveForms rules x → HaveForms rules y
  forms_there x y t (f, g) = moved (HaveForms rules) x y t ((instance t.there f.0, (form_there t.there t.back x.0 f.0 t.first_back f.1).0), (instance t.there g.0, (form_there t.there t.back x.1 g.0 t.second_back g.1).0))

  passes_there : (x y : Tree × Tree) (r : Reason) → Twins x y → PassesFirst rules x r → PassesFirst rules y r
  passes_there x y r t (inl p) = moved (λ z. PassesFirst rules z r) x y t (inl (limit_there t.there t.back x.0 r t.first_back p))
  passes_there x y r t (inr (u, f, p)) = moved (λ z. PassesFirst rules z r) x y t (inr (instance t.there u, (form_there t.there t.back x.0 u t.first_back f).0, limit_there t.there t.back x.1 r t.second_back p))

  meets_there : (Meet : Tree → Tree → Type 0) → ((d e : ℕ → Tree) (u v : Tree) → Back d e u → Back d e v → Meet u v → Meet (instance d u) (instance d v)) → (x y : Tree × Tree) → Twins x y → FormsMeet rules Meet x → FormsMeet rules Meet y
  meets_there Meet h x y t (u, v, f, g, m) =
      let p = form_there t.there t.back x.0 u t.first_back f in
      let q = form_there t.there t.back x.1 v t.second_back g in
      moved (FormsMeet rules Meet) x y t (instance t.there u, instance t.there v, p.0, q.0, h t.there t.back u v p.1 q.1 m)

  joined_there : (equations : List (Tree × Tree)) (d e : ℕ → Tree) (u v : Tree) → Back d e u → Back d e v → IsJoinedBy equations u v → IsJoinedBy equations (instance d u) (instance d v)
  joined_there equations d e u v h k (inl q) = inl (ap (instance d) q)
  joined_there equations d e u v h k (inr (q, c, i)) = inr (q, canonical_back d e u v h k ∙ c, i)

  unjoined_there : (equations : List (Tree × Tree)) (d e : ℕ → Tree) (u v : Tree) → Back d e u → Back d e v → ¬ IsJoinedBy equations u v → ¬ IsJoinedBy equations (instance d u) (instance d v)
  unjoined_there equations d e u v h k apart m = apart (subst {A = Tree} (λ z. IsJoinedBy equations z v) h (subst {A = Tree} (λ z. IsJoinedBy equations (instance e (instance d u)) z) k (joined_there equations e d (instance d u) (instance d v) (back_again d e u h) (back_again d e v k) m)))

  of_sides : (P : Tree × Tree → Type 0) → ((x y : Tree × Tree) → Twins x y → P x → P y) → (o q : NamedOverlap) → AreAlike o q → OfSides P o → OfSides P q
  of_sides P h o q a (x, e, p) = go q.overlap.sides refl (subst {A = Result (Tree × Tree) TermLimit} (λ z. AlikeSides z q.overlap.sides) e a.sides)
    where
      go : (s : Result (Tree × Tree) TermLimit) → q.overlap.sides ≡ s → AlikeSides (Ok x) s → OfSides P q
      go (Ok y) f t = (y, f, h x y t p)
      go (Err l) f t = absurd t

  pub formed_alike : (o q : NamedOverlap) → AreAlike o q → IsFormed rules o → IsFormed rules q
  formed_alike o q a = of_sides (HaveForms rules) forms_there o q a

  pub unjoined_alike : (equations : List (Tree × Tree)) (o q : NamedOverlap) → AreAlike o q → IsUnjoined rules equations o → IsUnjoined rules equations q
  unjoined_alike equations o q a = of_sides (FormsMeet rules (λ u v. ¬ IsJoinedBy equations u v)) (meets_there (λ u v. ¬ IsJoinedBy equations u v) (unjoined_there equations)) o q a

  pub stopped_alike : (r : Reason) (o q : NamedOverlap) → AreAlike o q → IsStopped rules r o → IsStopped rules r q
  stopped_alike r o q a (inl e) = inl (sym (alike_limit o q a) ∙ e)
  stopped_alike r o q a (inr h) = inr (of_sides (λ x. PassesFirst rules x r) (λ x y t. passes_there x y r t) o q a h)

  -- ---- what excludes what

  no_pass : (x : Tree × Tree) (r : Reason) → HaveForms rules x → ¬ PassesFirst rules x r
  no_pass x r (f, g) (inl p) = form_no_limit x.0 f.0 r f.1 p
  no_pass x r (f, g) (inr (u, h, p)) = form_no_limit x.1 g.0 r g.1 p

  pass_one : (x : Tree × Tree) (r s : Reason) → PassesFirst rules x r → PassesFirst rules x s → r ≡ s
  pass_one x r s (inl p) (inl q) = limit_one x.0 r s p q
  pass_one x r s (inl p) (inr (u, h, q)) = absurd (form_no_limit x.0 u r h p)
  pass_one x r s (inr (u, h, p)) (inl q) = absurd (form_no_limit x.0 u s h q)
  pass_one x r s (inr (u, h, p)) (inr (v, k, q)) = limit_one x.1 r s p q

  pub forms_no_pass : (x : Tree × Tree) (r : Reason) → HaveForms rules x → ¬ PassesFirst rules x r
  forms_no_pass = no_pass

  pub passes_one : (x : Tree × Tree) (r s : Reason) → PassesFirst rules x r → PassesFirst rules x s → r ≡ s
  passes_one = pass_one

  sides_one : (o : NamedOverlap) (x y : Tree × Tree) → o.overlap.sides ≡ Ok x → o.overlap.sides ≡ Ok y → x ≡ y
  sides_one o x y e f = go (sym e ∙ f)
    where
      go : ◌≡◌ {A = Result (Tree × Tree) TermLimit} (Ok x) (Ok y) → x ≡ y
      go h = cc

  no_own : (o : NamedOverlap) (x : Tree × Tree) (r : Reason) → o.overlap.sides ≡ Ok x → ¬ (own_limit o.overlap.sides ≡ Some r)
  no_own o x r e h = none_some (ap own_limit (sym e) ∙ h)

  pub formed_not_stopped : (o : NamedOverlap) (r : Reason) → IsFormed rules o → ¬ IsStopped rules r o
  formed_not_stopped o r (x, e, f) (inl h) = no_own o x r e h
  formed_not_stopped o r (x, e, f) (inr (y, g, p)) = no_pass y r (subst {A = Tree × Tree} (HaveForms rules) (sides_one o x y e g) f) p

  pub joined_formed : (equations : List (Tree × Tree)) (o : NamedOverlap) → IsJoined rules equations o → IsFormed rules o
  joined_formed equations o (x, e, (u, v, f, g, m)) = (x, e, ((u, f), (v, g)))

  pub joined_not_unjoined : (equations : List (Tree × Tree)) (o : NamedOverlap) → IsJoined rules equations o → ¬ IsUnjoined rules equations o
  joined_not_unjoined equations o (x, e, (u, v, f, g, m)) (y, d, (w, z, h, k, apart)) =
      let q = sides_one o y x d e in
      let a = form_one x.0 u w f (subst {A = Tree × Tree} (λ c. HasForm rules c.0 w) q h) in
      let b = form_one x.1 v z g (subst {A = Tree × Tree} (λ c. HasForm rules c.1 z) q k) in
      apart (subst {A = Tree} (λ c. IsJoinedBy equations c z) a (subst {A = Tree} (IsJoinedBy equations u) b m))

  pub stopped_one : (o : NamedOverlap) (r s : Reason) → IsStopped rules r o → IsStopped rules s o → r ≡ s
  stopped_one o r s (inl e) (inl f) = some_is (sym e ∙ f)
  stopped_one o r s (inl e) (inr (y, g, p)) = absurd (no_own o y r g e)
  stopped_one o r s (inr (x, g, p)) (inl f) = absurd (no_own o x s g f)
  stopped_one o r s (inr (x, g, p)) (inr (y, h, q)) = pass_one x r s p (subst {A = Tree × Tree} (λ z. PassesFirst rules z s) (sides_one o y x h g) q)
