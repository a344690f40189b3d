-- What the checker says of an answer is one.
use Rattle.std.proofs.Common.{ℕ, zero, suc, ◌+◌, ◌≤◌, ◌<◌, ◌≡◌, ◌⊎◌, inl, inr, refl, sym, ap, ap₂, ◌∙◌, subst, arith, List, [], ◌∷◌, ◌++◌, length, append_assoc, All, Contains, ⊎_elim}
use Rattle.std.specs.Prelude.{Result, Ok, Err, ◌==◌}
use Rattle.std.proofs.lemmas.List.Elements.{All-contains, All-head, All-tail, All-cons, Contains-append_cases, Contains-append_right}
use Rattle.std.proofs.lemmas.List.{append-nil}
use Rattle.std.proofs.lemmas.Option.{same_Some}
use Rattle.kb_lemmas.proofs.Membership.{contains_first}
use Rattle.kb_term.specs.Tree.{Tree}
use Rattle.kb_term.specs.Pair.{Pair}
use Rattle.kb_term.specs.Rule.{Rule, IsRule}
use Rattle.kb_term.specs.Substitution.{instance}
use Rattle.kb_term.specs.declared.limit.Limit.{Limit}
use Rattle.kb_overlap.specs.Overlap.{Overlap, IsOverlapList, overlap_positions}
use Rattle.kb_overlap.specs.Trace.{TraceStep, item, IsRightOrigin, IsRightAfter, IsRightTrace}
use Rattle.kb_rewrite.specs.NormalForm.{NormalisesTo, Normalised, form, long, large, HoldVariables}
use Rattle.kb_rewrite.proofs.Determined.{answers_once}
use Rattle.kb_rewrite.proofs.FirstRedexes.{rule_inside}
use Rattle.kb_laws.specs.Overlaps.{HaveOneNormalForm, OverlapsClose}
use Rattle.kb_laws.proofs.Renamings.{Back, answer_instance, FormBack, normalises_instance}
use Rattle.kb_laws.proofs.Twins.{Both, both_append, both_in, Twins, AlikeSides, AreListedAlike, lists_both}
use Rattle.kb_trace.specs.Steps.{pairs_of, IsFirstBadStep}
use Rattle.kb_checker.specs.Answers.{Answer, IsAnswer, IsTraced, IsOriented, rules_of}
use Rattle.kb_checker.specs.Verdicts.{FailsFirst, HasForm, FailToJoin, Closes, FailsToClose, AreOverlapsOf, AreInnerOverlaps, AreOuterOverlaps, FirstUnclosed, IsProved, FailsToProve, PassesSteps, PassesCitations, PassesConstraintCitations, PassesConstraints, PassesOrder, PassesOverlaps, pair_reason, equation_reason, IsVerdict}
use Rattle.kb_checker.specs.declared.joining.Failure.{Failure}
use Rattle.kb_checker.specs.declared.joining.Failure.TheVariants.{Large, Steps, Different}
use Rattle.kb_checker.specs.declared.verdict.Reject.{Reject}
use Rattle.kb_checker.specs.declared.verdict.Reject.TheVariants.{BadStep, Untraced, UntracedConstraint, ConstraintNotOriented, NotOriented, PairLarge, PairSteps, NotJoined, EquationLarge, EquationSteps, NotProved}
use Rattle.kb_checker.specs.declared.verdict.Checked.{Checked}
use Rattle.kb_checker.specs.declared.verdict.Checked.TheVariants.{Accepted, Rejected}
use Rattle.kb_checker.proofs.Sound.{are_rules}

-- ---- the first member that fails

-- two places in a list: one place and one member, or one before the other
abbrev ArePlaces : {X : Type 0} → List X → X → List X → X → Type 0
ArePlaces {X} before x front y = ((length before ≡ length front) × (x ≡ y)) ⊎ (((c : List X) × (front ≡ before ++ x ∷ c)) ⊎ ((c : List X) × (before ≡ front ++ y ∷ c)))

places : {X : Type 0} (before front after back : List X) (x y : X) → before ++ x ∷ after ≡ front ++ y ∷ back → ArePlaces before x front y
places [] [] after back x y e = inl (refl, let h : x ≡ y = cc in h)
places {X} [] (w ∷ front) after back x y e = let h : x ≡ w = cc in inr (inl (front, ap (λ (z : X). z ∷ front) (sym h)))
places {X} (v ∷ before) [] after back x y e = let h : v ≡ y = cc in inr (inr (before, ap (λ (z : X). z ∷ before) h))
places {X} (v ∷ before) (w ∷ front) after back x y e =
    let h : v ≡ w = cc in
    let t : before ++ x ∷ after ≡ front ++ y ∷ back = cc in
    ⊎_elim (λ k. inl (ap suc k.0, k.1))
    (λ k. ⊎_elim (λ c. inr (inl (c.0, ap₂ {C = List X} (λ (z : X) (zs : List X). z ∷ zs) (sym h) c.1))) (λ c. inr (inr (c.0, ap₂ {C = List X} (λ (z : X) (zs : List X). z ∷ zs) h c.1))) k)
    (places before front after back x y t)

middle : {X : Type 0} (before after : List X) (x : X) → Contains (before ++ x ∷ after) x
middle before after x = Contains-append_right before (x ∷ after) x (contains_first x after)

-- what is good doesn't fail, so all good ones have no first that fails
none_fails : {X : Type 0} (G F : X → Type 0) → ((x : X) → G x → F x → ⊥) → (xs : List X) (n : ℕ) → FailsFirst G F xs n → All G xs → ⊥
none_fails {X} G F never xs n (before, x, after, is, at, good, fails) all = never x (All-contains G xs x all (subst {A = List X} (λ zs. Contains zs x) (sym is) (middle before after x))) fails

-- two first ones that fail are one
first_once : {X : Type 0} (G F H : X → Type 0) → ((x : X) → G x → F x → ⊥) → ((x : X) → G x → H x → ⊥) → (xs : List X) (n m : ℕ) → FailsFirst G F xs n → FailsFirst G H xs m → (n ≡ m) × ((x : X) × F x × H x)
first_once {X} G F H f h xs n m (before, x, after, is, at, good, fails) (front, y, back, d, there, fine, failed) = ⊎_elim
    (λ k. (at ∙ ap (λ z. z + 1) k.0 ∙ sym there, (x, fails, subst {A = X} H (sym k.1) failed)))
    (λ k. ⊎_elim
    (λ c. absurd (f x (All-contains G front x fine (subst {A = List X} (λ zs. Contains zs x) (sym c.1) (middle before c.0 x))) fails))
    (λ c. absurd (h y (All-contains G before y good (subst {A = List X} (λ zs. Contains zs y) (sym c.1) (middle front c.0 y))) failed)) k)
    (places before front after back x y (sym is ∙ d))

-- ---- traces

-- each step of a right trace is right
right_there : (es : List (Tree × Tree)) (start : List Pair) (before : List TraceStep) (s : TraceStep) (after : List TraceStep) → IsRightAfter es start (before ++ s ∷ after) → IsRightOrigin es (item (start ++ pairs_of before)) s.origin s.pair
right_there es start [] s after h = subst {A = List Pair} (λ ps. IsRightOrigin es (item ps) s.origin s.pair) (sym (append-nil start)) h.0
right_there es start (b ∷ before) s after h = subst {A = List Pair} (λ ps. IsRightOrigin es (item ps) s.origin s.pair) (append_assoc start (b.pair ∷ []) (pairs_of before)) (right_there es (start ++ b.pair ∷ []) before s after h.1)

bad_never : (es : List (Tree × Tree)) (trace : List TraceStep) (n : ℕ) → IsFirstBadStep es trace n → IsRightTrace es trace → ⊥
bad_never es trace n f r = f.not_right (right_there es [] f.before f.step f.after (subst {A = List TraceStep} (IsRightTrace es) f.parts r))

bad_once : (es : List (Tree × Tree)) (trace : List TraceStep) (n m : ℕ) → IsFirstBadStep es trace n → IsFirstBadStep es trace m → n ≡ m
bad_once es trace n m f g = ⊎_elim
    (λ k. f.number ∙ ap (λ z. z + 1) k.0 ∙ sym g.number)
    (λ k. ⊎_elim
    (λ c. absurd (f.not_right (right_there es [] f.before f.step c.0 (subst {A = List TraceStep} (IsRightTrace es) c.1 g.right_before))))
    (λ c. absurd (g.not_right (right_there es [] g.before g.step c.0 (subst {A = List TraceStep} (IsRightTrace es) c.1 f.right_before)))) k)
    (places f.before g.before f.after g.after f.step g.step (sym f.parts ∙ g.parts))

-- ---- two terms

module _ (rules : List Rule) (hold : HoldVariables rules) where
  -- two answers are one
  not_two : {A : Type 0} (t : Tree) (a b : Normalised) → NormalisesTo rules t a → NormalisesTo rules t b → ¬ (a ≡ b) → A
  not_two t a b h k differ = absurd (differ (answers_once rules hold t a b h k))

  large_form : (l : Limit) (u : Tree) (n : ℕ) → ¬ (large l ≡ form u n)
  large_form l u n e = absurd (cc)

  long_form : (m : ℕ) (u : Tree) (n : ℕ) → ¬ (long m ≡ form u n)
  long_form m u n e = absurd (cc)

  large_long : (l : Limit) (n : ℕ) → ¬ (large l ≡ long n)
  large_long l n e = absurd (cc)

  same_form : (t u v : Tree) (m n : ℕ) → NormalisesTo rules t (form u m) → NormalisesTo rules t (form v n) → u ≡ v
  same_form t u v m n h k = let e : form u m ≡ form v n = answers_once rules hold t (form u m) (form v n) h k in cc

  join_never : (s t : Tree) (f : Failure) → HaveOneNormalForm rules s t → FailToJoin rules s t f → ⊥
  join_never s t Large (u, m, n, h, k) (inl (l, i)) = not_two s (large l) (form u m) i h (large_form l u m)
  join_never s t Large (u, m, n, h, k) (inr (_, (l, i))) = not_two t (large l) (form u n) i k (large_form l u n)
  join_never s t Steps (u, m, n, h, k) (inl (l, i)) = not_two s (long l) (form u m) i h (long_form l u m)
  join_never s t Steps (u, m, n, h, k) (inr (_, (l, i))) = not_two t (long l) (form u n) i k (long_form l u n)
  join_never s t Different (u, m, n, h, k) (v, w, p, q, i, j, differ) = differ (same_form s v u p m i h ∙ sym (same_form t w u q n j k))

  large_steps : (s t : Tree) → FailToJoin rules s t Large → FailToJoin rules s t Steps → ⊥
  large_steps s t (inl (l, h)) (inl (n, k)) = not_two s (large l) (long n) h k (large_long l n)
  large_steps s t (inl (l, h)) (inr ((u, m, k), _)) = not_two s (large l) (form u m) h k (large_form l u m)
  large_steps s t (inr ((u, m, h), _)) (inl (n, k)) = not_two s (long n) (form u m) k h (long_form n u m)
  large_steps s t (inr (_, (l, h))) (inr (_, (n, k))) = not_two t (large l) (long n) h k (large_long l n)

  large_different : (s t : Tree) → FailToJoin rules s t Large → FailToJoin rules s t Different → ⊥
  large_different s t (inl (l, h)) (u, v, m, n, i, j, differ) = not_two s (large l) (form u m) h i (large_form l u m)
  large_different s t (inr (_, (l, h))) (u, v, m, n, i, j, differ) = not_two t (large l) (form v n) h j (large_form l v n)

  steps_different : (s t : Tree) → FailToJoin rules s t Steps → FailToJoin rules s t Different → ⊥
  steps_different s t (inl (l, h)) (u, v, m, n, i, j, differ) = not_two s (long l) (form u m) h i (long_form l u m)
  steps_different s t (inr (_, (l, h))) (u, v, m, n, i, j, differ) = not_two t (long l) (form v n) h j (long_form l v n)

  one_failure : (s t : Tree) (f g : Failure) → FailToJoin rules s t f → FailToJoin rules s t g → f ≡ g
  one_failure s t Large Large h k = refl
  one_failure s t Steps Steps h k = refl
  one_failure s t Different Different h k = refl
  one_failure s t Large Steps h k = absurd (large_steps s t h k)
  one_failure s t Steps Large h k = absurd (large_steps s t k h)
  one_failure s t Large Different h k = absurd (large_different s t h k)
  one_failure s t Different Large h k = absurd (large_different s t k h)
  one_failure s t Steps Different h k = absurd (steps_different s t h k)
  one_failure s t Different Steps h k = absurd (steps_different s t k h)

  -- ---- overlaps

  sides_two : {A : Type 0} (o : Overlap) (l : Limit) (s t : Tree) → o.sides ≡ Err l → o.sides ≡ Ok (s, t) → A
  sides_two o l s t h k = let e : Err l ≡ Ok (s, t) = sym h ∙ k in absurd (cc)

  sides_one : (o : Overlap) (s t u v : Tree) → o.sides ≡ Ok (s, t) → o.sides ≡ Ok (u, v) → (s ≡ u) × (t ≡ v)
  sides_one o s t u v h k = let e : Ok (s, t) ≡ Ok (u, v) = sym h ∙ k in let q : ◌≡◌ {A = Tree × Tree} (s, t) (u, v) = cc in (ap (λ (z : Tree × Tree). z.0) q, ap (λ (z : Tree × Tree). z.1) q)

  close_never : (f : Failure) (o : Overlap) → Closes rules o → FailsToClose rules f o → ⊥
  close_never f o (s, t, e, h) (inl (l, i, k)) = sides_two o l s t i e
  close_never f o (s, t, e, h) (inr (u, v, i, k)) = let q = sides_one o u v s t i e in join_never s t f h (subst {A = Tree} (λ z. FailToJoin rules z t f) q.0 (subst {A = Tree} (λ z. FailToJoin rules u z f) q.1 k))

  close_failure : (f g : Failure) (o : Overlap) → FailsToClose rules f o → FailsToClose rules g o → f ≡ g
  close_failure f g o (inl (l, i, k)) (inl (m, j, h)) = k ∙ sym h
  close_failure f g o (inl (l, i, k)) (inr (s, t, e, h)) = sides_two o l s t i e
  close_failure f g o (inr (s, t, e, h)) (inl (l, i, k)) = sides_two o l s t i e
  close_failure f g o (inr (u, v, i, k)) (inr (s, t, e, h)) = let q = sides_one o u v s t i e in one_failure s t f g (subst {A = Tree} (λ z. FailToJoin rules z t f) q.0 (subst {A = Tree} (λ z. FailToJoin rules u z f) q.1 k)) h

  -- what a term normalises to its twin does too
  carry : (d e : ℕ → Tree) (s s' : Tree) (a : Normalised) → instance d s ≡ s' → Back d e s → NormalisesTo rules s a → NormalisesTo rules s' (answer_instance d a) × FormBack d e a
  carry d e s s' a h back n = let r = normalises_instance d e rules s a hold back n in (subst {A = Tree} (λ z. NormalisesTo rules z (answer_instance d a)) h r.0, r.1)

  module _ (x y : Tree × Tree) (t : Twins x y) where
    one_form_twin : HaveOneNormalForm rules x.0 x.1 → HaveOneNormalForm rules y.0 y.1
    one_form_twin (u, m, n, h, k) = (instance t.there u, m, n, (carry t.there t.back x.0 y.0 (form u m) t.first t.first_back h).0, (carry t.there t.back x.1 y.1 (form u n) t.second t.second_back k).0)

    has_form_twin : HasForm rules x.0 → HasForm rules y.0
    has_form_twin (u, n, h) = (instance t.there u, n, (carry t.there t.back x.0 y.0 (form u n) t.first t.first_back h).0)

    fail_twin : (f : Failure) → FailToJoin rules x.0 x.1 f → FailToJoin rules y.0 y.1 f
    fail_twin Large (inl (l, h)) = inl (l, (carry t.there t.back x.0 y.0 (large l) t.first t.first_back h).0)
    fail_twin Large (inr (k, (l, h))) = inr (has_form_twin k, (l, (carry t.there t.back x.1 y.1 (large l) t.second t.second_back h).0))
    fail_twin Steps (inl (n, h)) = inl (n, (carry t.there t.back x.0 y.0 (long n) t.first t.first_back h).0)
    fail_twin Steps (inr (k, (n, h))) = inr (has_form_twin k, (n, (carry t.there t.back x.1 y.1 (long n) t.second t.second_back h).0))
    fail_twin Different (u, v, m, n, h, k, differ) =
        let a = carry t.there t.back x.0 y.0 (form u m) t.first t.first_back h in
        let b = carry t.there t.back x.1 y.1 (form v n) t.second t.second_back k in
        (instance t.there u, instance t.there v, m, n, a.0, b.0, λ e. differ (sym a.1 ∙ ap (instance t.back) e ∙ b.1))

  close_twin : (o q : Overlap) → AreListedAlike o q → Closes rules o → Closes rules q
  close_twin o q alike (s, t, e, h) = go q.sides refl (subst {A = Result (Tree × Tree) Limit} (λ z. AlikeSides z q.sides) e alike.sides)
    where
      go : (r : Result (Tree × Tree) Limit) → q.sides ≡ r → AlikeSides (Ok (s, t)) r → Closes rules q
      go (Ok y) d a = (y.0, y.1, d, one_form_twin (s, t) y a h)
      go (Err l) d a = absurd a

  unclose_twin : (f : Failure) (o q : Overlap) → AreListedAlike o q → FailsToClose rules f o → FailsToClose rules f q
  unclose_twin f o q alike (inl (l, e, h)) = go q.sides refl (subst {A = Result (Tree × Tree) Limit} (λ z. AlikeSides z q.sides) e alike.sides)
    where
      go : (r : Result (Tree × Tree) Limit) → q.sides ≡ r → AlikeSides (Err l) r → FailsToClose rules f q
      go (Ok y) d a = absurd a
      go (Err m) d a = inl (m, d, h)
  unclose_twin f o q alike (inr (s, t, e, h)) = go q.sides refl (subst {A = Result (Tree × Tree) Limit} (λ z. AlikeSides z q.sides) e alike.sides)
    where
      go : (r : Result (Tree × Tree) Limit) → q.sides ≡ r → AlikeSides (Ok (s, t)) r → FailsToClose rules f q
      go (Ok y) d a = inr (y.0, y.1, d, fail_twin (s, t) y a f h)
      go (Err l) d a = absurd a

  -- ---- lists of overlaps

  overlaps_both : (i j : ℕ) (os qs : List Overlap) → AreOverlapsOf rules i j os → AreOverlapsOf rules i j qs → Both AreListedAlike os qs
  overlaps_both i j os qs (A, B, a, b, l) (C, D, c, d, k) =
      let ac : C ≡ A = same_Some C A (sym c ∙ a) in
      let bd : D ≡ B = same_Some D B (sym d ∙ b) in
      lists_both A B (overlap_positions A (i == j)) os qs l (subst {A = Rule} (λ z. IsOverlapList A z (i == j) qs) bd (subst {A = Rule} (λ z. IsOverlapList z D (i == j) qs) ac k))

  inner_both : (i j : ℕ) (os qs : List Overlap) → AreInnerOverlaps rules i j os → AreInnerOverlaps rules i j qs → Both AreListedAlike os qs
  inner_both i zero os qs h k = subst {A = List Overlap} (λ z. Both AreListedAlike z qs) (sym h) (subst {A = List Overlap} (Both AreListedAlike []) (sym k) tt)
  inner_both i (suc j) os qs (a, b, e, h, m) (c, d, f, k, n) = subst {A = List Overlap} (λ z. Both AreListedAlike z qs) (sym e) (subst {A = List Overlap} (Both AreListedAlike (a ++ b)) (sym f) (both_append AreListedAlike a c b d (inner_both i j a c h k) (overlaps_both i j b d m n)))

  outer_both : (i : ℕ) (os qs : List Overlap) → AreOuterOverlaps rules i os → AreOuterOverlaps rules i qs → Both AreListedAlike os qs
  outer_both zero os qs h k = subst {A = List Overlap} (λ z. Both AreListedAlike z qs) (sym h) (subst {A = List Overlap} (Both AreListedAlike []) (sym k) tt)
  outer_both (suc i) os qs (a, b, e, h, m) (c, d, f, k, n) = subst {A = List Overlap} (λ z. Both AreListedAlike z qs) (sym e) (subst {A = List Overlap} (Both AreListedAlike (a ++ b)) (sym f) (both_append AreListedAlike a c b d (outer_both i a c h k) (inner_both i (length rules) b d m n)))

  -- a list up to one number begins with one up to a lesser
  abbrev Begins : (List Overlap → Type 0) → List Overlap → Type 0
  Begins P os = (zs : List Overlap) × (rest : List Overlap) × (os ≡ zs ++ rest) × P zs

  begins_more : (P : List Overlap → Type 0) (os before more : List Overlap) → os ≡ before ++ more → Begins P before → Begins P os
  begins_more P os before more e (zs, rest, d, p) = (zs, rest ++ more, e ∙ ap (λ z. z ++ more) d ∙ append_assoc zs rest more, p)

  at_most : (j m : ℕ) → j ≤ suc m → (j ≡ suc m) ⊎ (j ≤ m)
  at_most zero m h = inr (omega arith)
  at_most (suc j) zero h = inl (omega (arith, h))
  at_most (suc j) (suc m) h = ⊎_elim (λ e. inl (ap suc e)) (λ k. inr (omega (arith, k))) (at_most j m (omega (arith, h)))

  inner_begins : (i j m : ℕ) (os : List Overlap) → j ≤ m → AreInnerOverlaps rules i m os → Begins (AreInnerOverlaps rules i j) os
  inner_begins i zero zero os l h = (os, [], sym (append-nil os), h)
  inner_begins i (suc j) zero os l h = absurd (omega (arith, l))
  inner_begins i j (suc m) os l h = go (at_most j m l) (λ k. inner_begins i j m h.0 k h.3)
    where
      go : (j ≡ suc m) ⊎ (j ≤ m) → (j ≤ m → Begins (AreInnerOverlaps rules i j) h.0) → Begins (AreInnerOverlaps rules i j) os
      go (inl e) ih = (os, [], sym (append-nil os), subst {A = ℕ} (λ z. AreInnerOverlaps rules i z os) (sym e) h)
      go (inr k) ih = begins_more (AreInnerOverlaps rules i j) os h.0 h.1 h.2 (ih k)

  outer_begins : (j m : ℕ) (os : List Overlap) → j ≤ m → AreOuterOverlaps rules m os → Begins (AreOuterOverlaps rules j) os
  outer_begins zero zero os l h = (os, [], sym (append-nil os), h)
  outer_begins (suc j) zero os l h = absurd (omega (arith, l))
  outer_begins j (suc m) os l h = go (at_most j m l) (λ k. outer_begins j m h.0 k h.3)
    where
      go : (j ≡ suc m) ⊎ (j ≤ m) → (j ≤ m → Begins (AreOuterOverlaps rules j) h.0) → Begins (AreOuterOverlaps rules j) os
      go (inl e) ih = (os, [], sym (append-nil os), subst {A = ℕ} (λ z. AreOuterOverlaps rules z os) (sym e) h)
      go (inr k) ih = begins_more (AreOuterOverlaps rules j) os h.0 h.1 h.2 (ih k)

  inner_inside : (i j : ℕ) (os : List Overlap) → AreInnerOverlaps rules i j os → j ≤ length rules
  inner_inside i zero os h = omega arith
  inner_inside i (suc j) os h = let k : j < length rules = rule_inside rules j h.4.1 h.4.3 in omega (arith, k)

  -- the one list begins with one like the other
  abbrev BeginsLike : List Overlap → List Overlap → Type 0
  BeginsLike os qs = Begins (Both AreListedAlike os) qs

  -- the overlaps of the outer rules below i, and of the outer rule i with the inner rules below j
  record AreUpTo (i j : ℕ) (os : List Overlap) : Type 0 where
    before : List Overlap
    more : List Overlap
    parts : os ≡ before ++ more
    outer : AreOuterOverlaps rules i before
    inner : AreInnerOverlaps rules i j more

  same_row : (i j l : ℕ) (os qs : List Overlap) → j ≤ l → AreUpTo i j os → AreUpTo i l qs → BeginsLike os qs
  same_row i j l os qs le a b =
      let k = inner_begins i j l b.more le b.inner in (
        b.before ++ k.0,
        k.1,
        b.parts ∙ ap (λ z. b.before ++ z) k.2 ∙ sym (append_assoc b.before k.0 k.1),
        subst {A = List Overlap} (λ z. Both AreListedAlike z (b.before ++ k.0)) (sym a.parts) (both_append AreListedAlike a.before b.before a.more k.0 (outer_both i a.before b.before a.outer b.outer) (inner_both i j a.more k.0 a.inner k.3)),
      )

  later_row : (i j k l : ℕ) (os qs : List Overlap) → suc i ≤ k → AreUpTo i j os → AreUpTo k l qs → BeginsLike os qs
  later_row i j k l os qs le a b =
      let r = outer_begins (suc i) k b.before le b.outer in
      let row : AreUpTo i (length rules) r.0 = record { before = r.3.0; more = r.3.1; parts = r.3.2; outer = r.3.3; inner = r.3.4 } in
      let s = same_row i j (length rules) os r.0 (inner_inside i j a.more a.inner) a row in
      begins_more (Both AreListedAlike os) qs b.before b.more b.parts (begins_more (Both AreListedAlike os) b.before r.0 r.1 r.2 s)

  less_or_more : (i k : ℕ) → (suc i ≤ k) ⊎ ((i ≡ k) ⊎ (suc k ≤ i))
  less_or_more zero zero = inr (inl refl)
  less_or_more zero (suc k) = inl (omega arith)
  less_or_more (suc i) zero = inr (inr (omega arith))
  less_or_more (suc i) (suc k) = ⊎_elim (λ h. inl (omega (arith, h))) (λ h. ⊎_elim (λ e. inr (inl (ap suc e))) (λ l. inr (inr (omega (arith, l)))) h) (less_or_more i k)

  either_begins : (i j k l : ℕ) (os qs : List Overlap) → AreUpTo i j os → AreUpTo k l qs → BeginsLike os qs ⊎ BeginsLike qs os
  either_begins i j k l os qs a b = ⊎_elim
      (λ h. inl (later_row i j k l os qs h a b))
      (λ h. ⊎_elim (λ e. rows e (less_or_more j l)) (λ h. inr (later_row k l i j qs os h b a)) h)
      (less_or_more i k)
    where
      rows : i ≡ k → (suc j ≤ l) ⊎ ((j ≡ l) ⊎ (suc l ≤ j)) → BeginsLike os qs ⊎ BeginsLike qs os
      rows e (inl h) = inl (same_row i j l os qs (omega (arith, h)) a (subst {A = ℕ} (λ z. AreUpTo z l qs) (sym e) b))
      rows e (inr (inl h)) = inl (same_row i j l os qs (omega (arith, h)) a (subst {A = ℕ} (λ z. AreUpTo z l qs) (sym e) b))
      rows e (inr (inr h)) = inr (same_row i l j qs os (omega (arith, h)) (subst {A = ℕ} (λ z. AreUpTo z l qs) (sym e) b) a)

  -- ---- the first that doesn't close

  abbrev Unclosed : Failure → List Overlap → ℕ → Type 0
  Unclosed f os n = FailsFirst (Closes rules) (FailsToClose rules f) os n

  -- a place in a list is one in a list like it
  record IsMoved (before : List Overlap) (x : Overlap) (zs : List Overlap) : Type 0 where
    front : List Overlap
    y : Overlap
    back : List Overlap
    parts : zs ≡ front ++ y ∷ back
    count : length front ≡ length before
    good : All (Closes rules) front
    alike : AreListedAlike x y

  moved : (before : List Overlap) (x : Overlap) (after zs : List Overlap) → Both AreListedAlike (before ++ x ∷ after) zs → All (Closes rules) before → IsMoved before x zs
  moved [] x after [] h good = absurd h
  moved [] x after (y ∷ zs) h good = record { front = []; y = y; back = zs; parts = refl; count = refl; good = good; alike = h.0 }
  moved (v ∷ before) x after [] h good = absurd h
  moved (v ∷ before) x after (w ∷ zs) h good =
      let r = moved before x after zs h.1 (All-tail (Closes rules) v before good) in
      record {
        front = w ∷ r.front;
        y = r.y;
        back = r.back;
        parts = ap (λ (ys : List Overlap). w ∷ ys) r.parts;
        count = ap suc r.count;
        good = All-cons (Closes rules) w r.front (close_twin v w h.0 (All-head (Closes rules) v before good)) r.good;
        alike = r.alike;
      }

  fails_along : (f : Failure) (os qs : List Overlap) (n : ℕ) → BeginsLike os qs → Unclosed f os n → Unclosed f qs n
  fails_along f os qs n (zs, rest, e, both) (before, x, after, is, at, good, fails) =
      let r = moved before x after zs (subst {A = List Overlap} (λ z. Both AreListedAlike z zs) is both) good in
      (r.front, r.y, r.back ++ rest, e ∙ ap (λ z. z ++ rest) r.parts ∙ append_assoc r.front (r.y ∷ r.back) rest, at ∙ ap (λ z. z + 1) (sym r.count), r.good, unclose_twin f x r.y r.alike fails)

  once : (f g : Failure) (os : List Overlap) (n m : ℕ) → Unclosed f os n → Unclosed g os m → (n ≡ m) × (f ≡ g)
  once f g os n m h k = let r = first_once (Closes rules) (FailsToClose rules f) (FailsToClose rules g) (close_never f) (close_never g) os n m h k in (r.0, close_failure f g r.1.0 r.1.1 r.1.2)

  unclosed_once : (f g : Failure) (n m : ℕ) → FirstUnclosed rules f n → FirstUnclosed rules g m → (n ≡ m) × (f ≡ g)
  unclosed_once f g n m (i, j, before, more, outer, inner, h) (k, l, front, rest, o, p, q) = ⊎_elim
      (λ b. once f g (front ++ rest) n m (fails_along f (before ++ more) (front ++ rest) n b h) q)
      (λ b. once f g (before ++ more) n m h (fails_along g (front ++ rest) (before ++ more) m b q))
      (either_begins i j k l (before ++ more) (front ++ rest) (record { before = before; more = more; parts = refl; outer = outer; inner = inner }) (record { before = front; more = rest; parts = refl; outer = o; inner = p }))

  -- each overlap of the lists is one of two rules
  abbrev IsOfTwo : Overlap → Type 0
  IsOfTwo x = (i : ℕ) × (j : ℕ) × (os : List Overlap) × AreOverlapsOf rules i j os × Contains os x

  inner_member : (i j : ℕ) (os : List Overlap) → AreInnerOverlaps rules i j os → (x : Overlap) → Contains os x → IsOfTwo x
  inner_member i zero os h x c = absurd (let k = subst {A = List Overlap} (λ z. Contains z x) h c in omega (arith, k.1))
  inner_member i (suc j) os (a, b, e, h, m) x c = ⊎_elim (λ k. inner_member i j a h x k) (λ k. (i, j, b, m, k)) (Contains-append_cases a b x (subst {A = List Overlap} (λ z. Contains z x) e c))

  outer_member : (i : ℕ) (os : List Overlap) → AreOuterOverlaps rules i os → (x : Overlap) → Contains os x → IsOfTwo x
  outer_member zero os h x c = absurd (let k = subst {A = List Overlap} (λ z. Contains z x) h c in omega (arith, k.1))
  outer_member (suc i) os (a, b, e, h, m) x c = ⊎_elim (λ k. outer_member i a h x k) (λ k. inner_member i (length rules) b m x k) (Contains-append_cases a b x (subst {A = List Overlap} (λ z. Contains z x) e c))

  unclosed_never : (f : Failure) (n : ℕ) → FirstUnclosed rules f n → OverlapsClose rules → ⊥
  unclosed_never f n (i, j, before, more, outer, inner, (front, x, back, is, at, good, fails)) close =
      let w = ⊎_elim (λ k. outer_member i before outer x k) (λ k. inner_member i j more inner x k) (Contains-append_cases before more x (subst {A = List Overlap} (λ z. Contains z x) (sym is) (middle front back x))) in
      let o = close w.0 w.1 w.3.0 w.3.1 w.3.2 w.3.3 in
      let y = both_in AreListedAlike w.2 o.0 (overlaps_both w.0 w.1 w.2 o.0 w.3 (w.3.0, w.3.1, w.3.2, w.3.3, o.1)) x w.4 in
      close_never f y.0 (o.2 y.0 y.1) (unclose_twin f x y.0 y.2 fails)

-- ---- the groups in their order

-- the answer fails in a group, or passes it and goes on
compare : {F G P R S : Type 0} (x y : Checked) → (F → G → x ≡ y) → (F → P → ⊥) → (G → P → ⊥) → (P → R → S → x ≡ y) → F ⊎ (P × R) → G ⊎ (P × S) → x ≡ y
compare x y one f g rest (inl h) (inl k) = one h k
compare x y one f g rest (inl h) (inr k) = absurd (f h k.0)
compare x y one f g rest (inr h) (inl k) = absurd (g k h.0)
compare x y one f g rest (inr h) (inr k) = rest h.0 h.1 k.1

module _ (a : Answer) (formed : IsAnswer a) where
  abbrev FailsSteps : Checked → Type 0
  FailsSteps x = (n : ℕ) × IsFirstBadStep a.problem.equations a.trace n × (x ≡ Rejected BadStep n)

  abbrev FailsCitations : Checked → Type 0
  FailsCitations x = (n : ℕ) × FailsFirst (IsTraced a.trace) (λ r. ¬ IsTraced a.trace r) a.rules n × (x ≡ Rejected Untraced n)

  abbrev FailsConstraintCitations : Checked → Type 0
  FailsConstraintCitations x = (n : ℕ) × FailsFirst (IsTraced a.trace) (λ r. ¬ IsTraced a.trace r) a.constraints n × (x ≡ Rejected UntracedConstraint n)

  abbrev FailsConstraints : Checked → Type 0
  FailsConstraints x = (n : ℕ) × FailsFirst (IsOriented a.cert) (λ r. ¬ IsOriented a.cert r) a.constraints n × (x ≡ Rejected ConstraintNotOriented n)

  abbrev FailsOrder : Checked → Type 0
  FailsOrder x = (n : ℕ) × FailsFirst (IsOriented a.cert) (λ r. ¬ IsOriented a.cert r) a.rules n × (x ≡ Rejected NotOriented n)

  abbrev FailsOverlaps : Checked → Type 0
  FailsOverlaps x = (f : Failure) × (n : ℕ) × FirstUnclosed (rules_of a.rules) f n × (x ≡ Rejected (pair_reason f) n)

  abbrev FailsEquations : Checked → Type 0
  FailsEquations x = (f : Failure) × (n : ℕ) × FailsFirst (IsProved (rules_of a.rules)) (FailsToProve (rules_of a.rules) f) a.problem.equations n × (x ≡ Rejected (equation_reason f) n)

  abbrev FromEquations : Checked → Type 0
  FromEquations x = FailsEquations x ⊎ (All (IsProved (rules_of a.rules)) a.problem.equations × (x ≡ Accepted))

  abbrev FromOverlaps : Checked → Type 0
  FromOverlaps x = FailsOverlaps x ⊎ (OverlapsClose (rules_of a.rules) × FromEquations x)

  abbrev FromOrder : Checked → Type 0
  FromOrder x = FailsOrder x ⊎ (All (IsOriented a.cert) a.rules × FromOverlaps x)

  abbrev FromConstraints : Checked → Type 0
  FromConstraints x = FailsConstraints x ⊎ (All (IsOriented a.cert) a.constraints × FromOrder x)

  abbrev FromConstraintCitations : Checked → Type 0
  FromConstraintCitations x = FailsConstraintCitations x ⊎ (All (IsTraced a.trace) a.constraints × FromConstraints x)

  abbrev FromCitations : Checked → Type 0
  FromCitations x = FailsCitations x ⊎ (All (IsTraced a.trace) a.rules × FromConstraintCitations x)

  abbrev FromSteps : Checked → Type 0
  FromSteps x = FailsSteps x ⊎ (PassesSteps a × FromCitations x)

  -- what an answer that passes a group has left
  past_citations : (x : Checked) → PassesCitations a → FromConstraintCitations x → FromSteps x
  past_citations x p h = inr (p.0, inr (p.1, h))

  past_constraint_citations : (x : Checked) → PassesConstraintCitations a → FromConstraints x → FromSteps x
  past_constraint_citations x p h = past_citations x p.0 (inr (p.1, h))

  past_constraints : (x : Checked) → PassesConstraints a → FromOrder x → FromSteps x
  past_constraints x p h = past_constraint_citations x p.0 (inr (p.1, h))

  past_order : (x : Checked) → PassesOrder a → FromOverlaps x → FromSteps x
  past_order x p h = past_constraints x p.0 (inr (p.1, h))

  past_overlaps : (x : Checked) → PassesOverlaps a → FromEquations x → FromSteps x
  past_overlaps x p h = past_order x p.0 (inr (p.1, h))

  groups : (x : Checked) → IsVerdict a x → FromSteps x
  groups Accepted h = past_overlaps Accepted (((((h.steps, h.citations), h.constraint_citations), h.constraints), h.orders), h.overlaps) (inr (h.equations, refl))
  groups (Rejected BadStep n) h = inl (n, h, refl)
  groups (Rejected Untraced n) h = inr (h.0, inl (n, h.1, refl))
  groups (Rejected UntracedConstraint n) h = past_citations _ h.0 (inl (n, h.1, refl))
  groups (Rejected ConstraintNotOriented n) h = past_constraint_citations _ h.0 (inl (n, h.1, refl))
  groups (Rejected NotOriented n) h = past_constraints _ h.0 (inl (n, h.1, refl))
  groups (Rejected PairLarge n) h = past_order _ h.0 (inl (Large, n, h.1, refl))
  groups (Rejected PairSteps n) h = past_order _ h.0 (inl (Steps, n, h.1, refl))
  groups (Rejected NotJoined n) h = past_order _ h.0 (inl (Different, n, h.1, refl))
  groups (Rejected EquationLarge n) h = past_overlaps _ h.0 (inl (Large, n, h.1, refl))
  groups (Rejected EquationSteps n) h = past_overlaps _ h.0 (inl (Steps, n, h.1, refl))
  groups (Rejected NotProved n) h = past_overlaps _ h.0 (inl (Different, n, h.1, refl))

  -- rules that are ordered hold their variables
  ordered_hold : All (IsOriented a.cert) a.rules → HoldVariables (rules_of a.rules)
  ordered_hold orders rule i = (All-contains IsRule (rules_of a.rules) rule (are_rules a formed orders) i).holds_variables

  module _ (x y : Checked) where
    in_equations : HoldVariables (rules_of a.rules) → FromEquations x → FromEquations y → x ≡ y
    in_equations hold = compare x y
        (λ h k.
        let r = first_once (IsProved (rules_of a.rules)) (FailsToProve (rules_of a.rules) h.0) (FailsToProve (rules_of a.rules) k.0) (λ e. join_never (rules_of a.rules) hold e.0 e.1 h.0) (λ e. join_never (rules_of a.rules) hold e.0 e.1 k.0) a.problem.equations h.1 k.1 h.2 k.2 in
        h.3 ∙ ap₂ (λ f n. Rejected (equation_reason f) n) (one_failure (rules_of a.rules) hold r.1.0.0 r.1.0.1 h.0 k.0 r.1.1 r.1.2) r.0 ∙ sym k.3)
        (λ h p. none_fails (IsProved (rules_of a.rules)) (FailsToProve (rules_of a.rules) h.0) (λ e. join_never (rules_of a.rules) hold e.0 e.1 h.0) a.problem.equations h.1 h.2 p)
        (λ h p. none_fails (IsProved (rules_of a.rules)) (FailsToProve (rules_of a.rules) h.0) (λ e. join_never (rules_of a.rules) hold e.0 e.1 h.0) a.problem.equations h.1 h.2 p)
        (λ p h k. h ∙ sym k)

    in_overlaps : HoldVariables (rules_of a.rules) → FromOverlaps x → FromOverlaps y → x ≡ y
    in_overlaps hold = compare x y
        (λ h k. let r = unclosed_once (rules_of a.rules) hold h.0 k.0 h.1 k.1 h.2 k.2 in h.3 ∙ ap₂ (λ f n. Rejected (pair_reason f) n) r.1 r.0 ∙ sym k.3)
        (λ h p. unclosed_never (rules_of a.rules) hold h.0 h.1 h.2 p)
        (λ h p. unclosed_never (rules_of a.rules) hold h.0 h.1 h.2 p)
        (λ p h k. in_equations hold h k)

    -- a group of a list, each of whose members is good or isn't
    in_members : {A S T : Type 0} (G : A → Type 0) (reason : Reject) (members : List A) → (All G members → S → T → x ≡ y)
        → ((n : ℕ) × FailsFirst G (λ r. ¬ G r) members n × (x ≡ Rejected reason n)) ⊎ (All G members × S)
        → ((n : ℕ) × FailsFirst G (λ r. ¬ G r) members n × (y ≡ Rejected reason n)) ⊎ (All G members × T) → x ≡ y
    in_members G reason members rest = compare x y
        (λ h k. h.2 ∙ ap (Rejected reason) (first_once G (λ r. ¬ G r) (λ r. ¬ G r) (λ r g n. n g) (λ r g n. n g) members h.0 k.0 h.1 k.1).0 ∙ sym k.2)
        (λ h p. none_fails G (λ r. ¬ G r) (λ r g n. n g) members h.0 h.1 p)
        (λ h p. none_fails G (λ r. ¬ G r) (λ r g n. n g) members h.0 h.1 p)
        rest

    in_order : FromOrder x → FromOrder y → x ≡ y
    in_order = in_members (IsOriented a.cert) NotOriented a.rules (λ p. in_overlaps (ordered_hold p))

    in_constraints : FromConstraints x → FromConstraints y → x ≡ y
    in_constraints = in_members (IsOriented a.cert) ConstraintNotOriented a.constraints (λ p. in_order)

    in_constraint_citations : FromConstraintCitations x → FromConstraintCitations y → x ≡ y
    in_constraint_citations = in_members (IsTraced a.trace) UntracedConstraint a.constraints (λ p. in_constraints)

    in_citations : FromCitations x → FromCitations y → x ≡ y
    in_citations = in_members (IsTraced a.trace) Untraced a.rules (λ p. in_constraint_citations)

    in_steps : FromSteps x → FromSteps y → x ≡ y
    in_steps = compare x y
        (λ h k. h.2 ∙ ap (Rejected BadStep) (bad_once a.problem.equations a.trace h.0 k.0 h.1 k.1) ∙ sym k.2)
        (λ h p. bad_never a.problem.equations a.trace h.0 h.1 p)
        (λ h p. bad_never a.problem.equations a.trace h.0 h.1 p)
        (λ p h k. in_citations h k)

-- what the checker says of an answer is one
pub verdict_once : (a : Answer) (x y : Checked) → IsAnswer a → IsVerdict a x → IsVerdict a y → x ≡ y
verdict_once a x y formed h k = in_steps a formed x y (groups a formed x h) (groups a formed y k)
