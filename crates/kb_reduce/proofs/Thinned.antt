-- What thinning keeps.
use Rattle.std.proofs.Common.{ℕ, ◌+◌, ◌≡◌, ◌≤◌, ◌⊎◌, inl, inr, refl, sym, ap, ◌∙◌, subst, arith, List, [], ◌∷◌, ◌++◌, append-nil, append_assoc, length, length-append, Contains, Some, ⊎_elim}
use Rattle.std.specs.Prelude.{false}
use Rattle.std.proofs.lemmas.Bool.{false≢true}
use Rattle.std.proofs.lemmas.Option.{slice_get-get_or}
use Rattle.std.proofs.lemmas.List.Elements.{Contains-append_cases, Contains-append_left, Contains-append_right}
use Rattle.kb_lemmas.proofs.Membership.{here_or_elsewhere, contains_behind, contains_mapped, contains_map, slice_contains}
use Rattle.kb_term.specs.Tree.{Tree, variable}
use Rattle.kb_term.specs.Rule.{Rule}
use Rattle.kb_term.specs.Substitution.{instance}
use Rattle.kb_term.proofs.Steps.{Step, at_root}
use Rattle.kb_term.proofs.Subtrees.{replace-there}
use Rattle.kb_term.proofs.Instances.{instance-variable}
use Rattle.kb_term.proofs.Bridge.{step_from_position}
use Rattle.kb_rewrite.specs.NormalForm.{IsRedex, HasRedex, IsNormal}
use Rattle.kb_rewrite.proofs.Irreducible.{normal_from}
use Rattle.kb_checker.specs.Answers.{rules_of}
use Rattle.kb_reduce.specs.Reducing.{IsCovered, IsThinned}
use Rattle.kb_reduce.proofs.Reducible.{reducible}

abbrev Cited : Type 0
Cited = Rule × ℕ

-- ---- redexes

-- a rule of the list that matches at a position gives a redex
pub redex_of : (rules : List Rule) (rule : Rule) → Contains rules rule → (t : Tree) (p : List ℕ) (i : ℕ) (others : List Rule) → (r : IsRedex others false t p i) → r.rule ≡ rule → HasRedex rules t
redex_of rules rule (k, h, e) t p i others r is = (p, k, record { rule = r.rule; there = slice_get-get_or rules k rule h ∙ ap Some (e ∙ sym is); matches = r.matches; strict = λ d. absurd (false≢true d) })

-- a redex by some rules is one by more rules
pub redex_more : (xs ys : List Rule) → ((q : Rule) → Contains xs q → Contains ys q) → (t : Tree) → HasRedex xs t → HasRedex ys t
redex_more xs ys more t (p, i, r) = redex_of ys r.rule (more r.rule (slice_contains xs i r.rule r.there)) t p i xs r refl

-- a redex is rewritten
pub redex_step : (rules : List Rule) (t : Tree) → HasRedex rules t → (z : Tree) × Step (Contains rules) t z
redex_step rules t (p, i, r) =
    let m = r.matches.2.0 in
    let v = replace-there p t r.matches.0 (instance m r.rule.right) r.matches.1 in
    (v.0, step_from_position (Contains rules) t v.0 (r.rule, slice_contains rules i r.rule r.there, p, (m, record { redex = r.matches.1 ∙ ap Some (sym r.matches.2.1); result = v.1 })))

pub no_redex_normal : (rules : List Rule) (t : Tree) → ¬ HasRedex rules t → IsNormal rules t
no_redex_normal rules t n = normal_from rules t (λ p i r. n (p, i, r))

-- ---- lists

pub with_one : {X : Type 0} (kept rules : List X) (r x : X) → Contains (kept ++ rules) x → Contains (kept ++ r ∷ rules) x
with_one kept rules r x c =
    ⊎_elim
    (λ i. Contains-append_left kept (r ∷ rules) x i)
    (λ i. Contains-append_right kept (r ∷ rules) x (contains_behind r rules x i))
    (Contains-append_cases kept rules x c)

snoc_split : {X : Type 0} (kept : List X) (r : X) (xs ys : List X) (x : X) → kept ++ r ∷ [] ≡ xs ++ x ∷ ys → ((xs ≡ kept) × (x ≡ r) × (ys ≡ [])) ⊎ ((zs : List X) × (ys ≡ zs ++ r ∷ []) × (kept ≡ xs ++ x ∷ zs))
snoc_split [] r [] ys x e = let h : x ≡ r = cc in let k : ys ≡ [] = cc in inl (refl, h, k)
snoc_split [] r (y ∷ xs) ys x e = absurd (omega (arith, ap length e, length-append xs (x ∷ ys)))
snoc_split (k ∷ kept) r [] ys x e = let h : k ≡ x = cc in let q : ys ≡ kept ++ r ∷ [] = cc in inr (kept, q, ap (λ z. z ∷ kept) h)
snoc_split (k ∷ kept) r (y ∷ xs) ys x e =
    let h : k ≡ y = cc in
    let q : kept ++ r ∷ [] ≡ xs ++ x ∷ ys = cc in
    ⊎_elim
    (λ s. inl (ap (y ∷◌) s.0 ∙ ap (λ z. z ∷ kept) (sym h), s.1, s.2))
    (λ s. inr (s.0, s.1, ap (λ z. z ∷ kept) h ∙ ap (y ∷◌) s.2))
    (snoc_split kept r xs ys x q)

-- the rules of a list with more members
pub rules_more : (xs ys : List Cited) → ((x : Cited) → Contains xs x → Contains ys x) → (q : Rule) → Contains (rules_of xs) q → Contains (rules_of ys) q
rules_more xs ys more q c =
    let m = contains_mapped (λ (r : Cited). r.0) xs q c in
    subst (Contains (rules_of ys)) m.2 (contains_map (λ (r : Cited). r.0) ys m.0 (more m.0 m.1))

pub covered_more : (xs ys : List Cited) → ((x : Cited) → Contains xs x → Contains ys x) → (r : Cited) → IsCovered xs r → IsCovered ys r
covered_more xs ys more r h = redex_more (rules_of xs) (rules_of ys) (rules_more xs ys more) r.0.left h

-- ---- thinning

-- what is left was there
pub thinned_in : (kept rules left : List Cited) → IsThinned kept rules left → (x : Cited) → Contains left x → Contains (kept ++ rules) x
thinned_in kept [] left e x c = subst (λ xs. Contains xs x) (e ∙ sym (append-nil kept)) c
thinned_in kept (r ∷ rules) left (inl (h, more)) x c = with_one kept rules r x (thinned_in kept rules left more x c)
thinned_in kept (r ∷ rules) left (inr (h, more)) x c = subst (λ xs. Contains xs x) (append_assoc kept (r ∷ []) rules) (thinned_in (kept ++ r ∷ []) rules left more x c)

pub thinned_fewer : (kept rules left : List Cited) → IsThinned kept rules left → length left ≤ length kept + length rules
thinned_fewer kept [] left e = omega (arith, ap length e)
thinned_fewer kept (r ∷ rules) left (inl (h, more)) = omega (arith, thinned_fewer kept rules left more)
thinned_fewer kept (r ∷ rules) left (inr (h, more)) = omega (arith, thinned_fewer (kept ++ r ∷ []) rules left more, length-append kept (r ∷ []))

-- some rule of the list has a step from the term
abbrev pub HasStep : List Cited → Tree → Type 0
HasStep rules t = (z : Tree) × Step (Contains (rules_of rules)) t z

-- each rule has one from its left side
pub own_step : (rules : List Cited) (r : Cited) → Contains rules r → HasStep rules r.0.left
own_step rules r i = (r.0.right, at_root (r.0, variable, contains_map (λ (x : Cited). x.0) rules r i, sym (instance-variable r.0.left), sym (instance-variable r.0.right)))

-- a term with a step by some rule has one by a rule that is left
pub thinned_has : (kept rules left : List Cited) → IsThinned kept rules left → (t : Tree) → HasStep (kept ++ rules) t → HasStep left t
thinned_has kept [] left e t h = subst (λ xs. HasStep xs t) (append-nil kept ∙ sym e) h
thinned_has kept (r ∷ rules) left (inl (covered, more)) t h = thinned_has kept rules left more t (reducible (Contains (rules_of (kept ++ r ∷ rules))) (Contains (rules_of (kept ++ rules))) one h.1)
  where
    one : (q : Rule) → Contains (rules_of (kept ++ r ∷ rules)) q → HasStep (kept ++ rules) q.left
    one q c =
        let m = contains_mapped (λ (x : Cited). x.0) (kept ++ r ∷ rules) q c in
        ⊎_elim
        (λ e. subst (λ (x : Rule). HasStep (kept ++ rules) x.left) (ap (λ (x : Cited). x.0) e ∙ m.2) (redex_step (rules_of (kept ++ rules)) r.0.left covered))
        (λ i. subst (λ (x : Rule). HasStep (kept ++ rules) x.left) m.2 (own_step (kept ++ rules) m.0 i))
        (here_or_elsewhere kept rules r m.0 m.1)
thinned_has kept (r ∷ rules) left (inr (h, more)) t s = thinned_has (kept ++ r ∷ []) rules left more t (subst (λ xs. HasStep xs t) (sym (append_assoc kept (r ∷ []) rules)) s)

-- no other rule covers a rule of the first list, where those of the second are there too
abbrev pub AreUncovered : List Cited → List Cited → Type 0
AreUncovered kept rules = (xs ys : List Cited) (x : Cited) → kept ≡ xs ++ x ∷ ys → ¬ IsCovered ((xs ++ ys) ++ rules) x

pub thinned_lefts : (kept rules left : List Cited) → IsThinned kept rules left → AreUncovered kept rules → AreUncovered left []
thinned_lefts kept [] left e u = subst (λ xs. AreUncovered xs []) (sym e) u
thinned_lefts kept (r ∷ rules) left (inl (h, more)) u = thinned_lefts kept rules left more (λ xs ys x e c. u xs ys x e (covered_more ((xs ++ ys) ++ rules) ((xs ++ ys) ++ r ∷ rules) (λ y i. with_one (xs ++ ys) rules r y i) x c))
thinned_lefts kept (r ∷ rules) left (inr (h, more)) u = thinned_lefts (kept ++ r ∷ []) rules left more one
  where
    one : AreUncovered (kept ++ r ∷ []) rules
    one xs ys x e c =
        ⊎_elim
        (λ s. h (subst (λ zs. IsCovered (zs ++ rules) r) (ap (xs ++◌) s.2 ∙ append-nil xs ∙ s.0) (subst (IsCovered ((xs ++ ys) ++ rules)) s.1 c)))
        (λ s. u xs s.0 x s.2 (subst (λ zs. IsCovered zs x) (ap (λ zs. (xs ++ zs) ++ rules) s.1 ∙ ap (λ zs. zs ++ rules) (sym (append_assoc xs s.0 (r ∷ []))) ∙ append_assoc (xs ++ s.0) (r ∷ []) rules) c))
        (snoc_split kept r xs ys x e)

-- the left sides of what is left are normal by the others
pub lefts_normal : (rules left : List Cited) → IsThinned [] rules left → (before after : List Cited) (r : Cited) → left ≡ before ++ r ∷ after → IsNormal (rules_of (before ++ after)) r.0.left
lefts_normal rules left h before after r e =
    let none : AreUncovered [] rules = λ xs ys x k c. absurd (omega (arith, ap length k, length-append xs (x ∷ ys))) in
    no_redex_normal (rules_of (before ++ after)) r.0.left (λ c. thinned_lefts [] rules left h none before after r e (subst (λ zs. IsCovered zs r) (sym (append-nil (before ++ after))) c))
