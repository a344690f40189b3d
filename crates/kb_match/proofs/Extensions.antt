-- Lists of variables and terms that grow: by one entry, and pattern by pattern.
use Rattle.std.proofs.Common.{ℕ, zero, suc, ◌+◌, ◌<◌, ◌≡◌, refl, sym, ap, ap₂, ◌∙◌, arith, subst, List, [], ◌∷◌, ◌++◌, length, get_or, take, append_assoc, append-nil, Bool, true, false, cond}
use Rattle.std.specs.Prelude.{◌==◌, ◌||◌, ◌↔◌, Option, Some, None, Result, Ok, Err, IfOk, IsTrue}
use Rattle.std.specs.List.{list_any}
use Rattle.std.specs.Borrow.{Bor}
use Rattle.std.proofs.lemmas.Bool.{false≢true, eqb-true, eq-eqb, ne_eqb}
use Rattle.kb_term.specs.Tree.{Tree, variable, apply, no_trees, more_trees, trees_of, variables_of, variables_in}
use Rattle.kb_term.specs.Pair.{distinct}
use Rattle.kb_term.specs.Substitution.{instance, instances, substitution_of, Matches}
use Rattle.kb_term.proofs.Distinct.{distinct-new, distinct-old}
use Rattle.kb_term.proofs.Trees.{more_trees-inj}
use Rattle.kb_term.specs.View.{tree_of, entries_of_list}
use Rattle.kb_term.specs.declared.term.Term.{Term}
use Rattle.kb_match.specs.Matching.{listed_variables, IsMatchList}
use Rattle.kb_match.specs.Extending.{Gives, IsAbsent, IsPresent, IsExtended}
use Rattle.kb_match.specs.Binding.{bindings_of_list}

gives_append : (k : ℕ → Tree) (es ds : List (ℕ × Tree)) → Gives k es → Gives k ds → Gives k (es ++ ds)
gives_append k [] ds g h = h
gives_append k (e ∷ es) ds g h = (g.0, gives_append k es ds g.1 h)

gives_left : (k : ℕ → Tree) (es ds : List (ℕ × Tree)) → Gives k (es ++ ds) → Gives k es
gives_left k [] ds g = tt
gives_left k (e ∷ es) ds g = (g.0, gives_left k es ds g.1)

gives_right : (k : ℕ → Tree) (es ds : List (ℕ × Tree)) → Gives k (es ++ ds) → Gives k ds
gives_right k [] ds g = g
gives_right k (e ∷ es) ds g = gives_right k es ds g.1

listed_append : (es ds : List (ℕ × Tree)) → listed_variables (es ++ ds) ≡ listed_variables es ++ listed_variables ds
listed_append [] ds = refl
listed_append (e ∷ es) ds = ap (e.0 ∷◌) (listed_append es ds)

-- what is first listed with a variable that is listed
gives_first : (k : ℕ → Tree) (es : List (ℕ × Tree)) (n : ℕ) → list_any (λ y. y == n) (listed_variables es) ≡ true → Gives k es → k n ≡ substitution_of es n
gives_first k [] n h g = absurd (false≢true h)
gives_first k (e ∷ es) n h g = go (e.0 == n) refl h (λ c. gives_first k es n c g.1)
  where
    go : (b : Bool) → (e.0 == n) ≡ b → (b || list_any (λ y. y == n) (listed_variables es)) ≡ true → (list_any (λ y. y == n) (listed_variables es) ≡ true → k n ≡ substitution_of es n) → k n ≡ cond b e.1 (substitution_of es n)
    go true d h f = subst (λ x. k x ≡ e.1) (eqb-true e.0 n d) g.0
    go false d h f = f h

-- a variable that isn't listed gets what is added
substitution_new : (es : List (ℕ × Tree)) (n : ℕ) (t : Tree) → IsAbsent n es → substitution_of (es ++ (n, t) ∷ []) n ≡ t
substitution_new [] n t h =
    let e : (n == n) ≡ true = eq-eqb n n refl in
    rw e refl
substitution_new (e ∷ es) n t h = go (e.0 == n) h (substitution_new es n t)
  where
    go : (b : Bool) → (b || list_any (λ y. y == n) (listed_variables es)) ≡ false → (IsAbsent n es → substitution_of (es ++ (n, t) ∷ []) n ≡ t) → cond b e.1 (substitution_of (es ++ (n, t) ∷ []) n) ≡ t
    go true h f = absurd (false≢true (sym h))
    go false h f = f h

-- a substitution that gives another variable another term gives the list all the same
gives_other : (j k : ℕ → Tree) (es : List (ℕ × Tree)) → ((x : ℕ) → list_any (λ y. y == x) (listed_variables es) ≡ true → j x ≡ k x) → Gives j es → Gives k es
gives_other j k [] h g = tt
gives_other j k (e ∷ es) h g = (sym (h e.0 (first e.0 (listed_variables es))) ∙ g.0, gives_other j k es (λ x c. h x (later (e.0 == x) _ c)) g.1)
  where
    first : (n : ℕ) (ns : List ℕ) → ((n == n) || list_any (λ y. y == n) ns) ≡ true
    first n ns =
        let e : (n == n) ≡ true = eq-eqb n n refl in
        rw e refl

    later : (a b : Bool) → b ≡ true → (a || b) ≡ true
    later true b c = refl
    later false b c = c

-- what was listed stays
substitution_kept : (es ds : List (ℕ × Tree)) (x : ℕ) → list_any (λ y. y == x) (listed_variables es) ≡ true → substitution_of es x ≡ substitution_of (es ++ ds) x
substitution_kept [] ds x h = absurd (false≢true h)
substitution_kept (e ∷ es) ds x h = go (e.0 == x) h (substitution_kept es ds x)
  where
    go : (b : Bool) → (b || list_any (λ y. y == x) (listed_variables es)) ≡ true → (list_any (λ y. y == x) (listed_variables es) ≡ true → substitution_of es x ≡ substitution_of (es ++ ds) x) → cond b e.1 (substitution_of es x) ≡ cond b e.1 (substitution_of (es ++ ds) x)
    go true h f = refl
    go false h f = f h

-- a variable that is listed already
pub extended_old : (n : ℕ) (t s : Tree) (es : List (ℕ × Tree)) → IsPresent n t es → t ≡ s → IsExtended (n ∷ []) (λ k. k n ≡ s) es es
extended_old n t s es p same = record {
  variables = λ vs e. distinct-old (listed_variables es) vs n e p.0;
  there = λ k g h. g;
  back = λ k g. (g, gives_first k es n p.0 g ∙ p.1 ∙ same);
  single = λ g. g;
}

pub clash_old : (n : ℕ) (t s : Tree) (es : List (ℕ × Tree)) → IsPresent n t es → ¬ (t ≡ s) → (k : ℕ → Tree) → Gives k es → ¬ (k n ≡ s)
clash_old n t s es p other k g h = other (sym p.1 ∙ sym (gives_first k es n p.0 g) ∙ h)

-- a variable that isn't listed yet
pub extended_new : (n : ℕ) (s : Tree) (es new : List (ℕ × Tree)) → IsAbsent n es → new ≡ es ++ (n, s) ∷ [] → IsExtended (n ∷ []) (λ k. k n ≡ s) es new
extended_new n s es new a is = subst (IsExtended (n ∷ []) (λ k. k n ≡ s) es) (sym is) (record {
  variables = λ vs e. listed_append es ((n, s) ∷ []) ∙ distinct-new (listed_variables es) vs n e a;
  there = λ k g h. gives_append k es ((n, s) ∷ []) g (h, tt);
  back = λ k g. (gives_left k es ((n, s) ∷ []) g, (gives_right k es ((n, s) ∷ []) g).0);
  single = λ g. gives_append (substitution_of (es ++ (n, s) ∷ [])) es ((n, s) ∷ []) (gives_other (substitution_of es) (substitution_of (es ++ (n, s) ∷ [])) es (λ x c. substitution_kept es ((n, s) ∷ []) x c) g) (substitution_new es n s a, tt);
})

-- one after another
extended_both : (xs ys : List ℕ) (E F : (ℕ → Tree) → Type 0) (ds bs cs : List (ℕ × Tree)) → IsExtended xs E ds bs → IsExtended ys F bs cs → IsExtended (xs ++ ys) (λ k. E k × F k) ds cs
extended_both xs ys E F ds bs cs a b = record {
  variables = λ vs e. b.variables (vs ++ xs) (a.variables vs e) ∙ ap distinct (append_assoc vs xs ys);
  there = λ k g h. b.there k (a.there k g h.0) h.1;
  back = λ k g. let r = b.back k g in let q = a.back k r.0 in (q.0, (q.1, r.1));
  single = λ g. b.single (a.single g);
}

extended_by : (xs ys : List ℕ) (E F : (ℕ → Tree) → Type 0) (ds bs : List (ℕ × Tree)) → xs ≡ ys → ((k : ℕ → Tree) → E k → F k) → ((k : ℕ → Tree) → F k → E k) → IsExtended xs E ds bs → IsExtended ys F ds bs
extended_by xs ys E F ds bs e f g h = record {
  variables = λ vs d. h.variables vs d ∙ ap (λ zs. distinct (vs ++ zs)) e;
  there = λ k p q. h.there k p (g k q);
  back = λ k p. let r = h.back k p in (r.0, f k r.1);
  single = λ p. h.single p;
}

variables-take : (ps : List Tree) (i : ℕ) → i < length ps → variables_in (trees_of (take i ps)) ++ variables_of (get_or ps i (variable 0)) ≡ variables_in (trees_of (take (suc i) ps))
variables-take [] i h = absurd (omega (arith, h))
variables-take (p ∷ ps) zero h = sym (append-nil (variables_of p))
variables-take (p ∷ ps) (suc i) h = append_assoc (variables_of p) (variables_in (trees_of (take i ps))) (variables_of (get_or ps i (variable 0))) ∙ ap (variables_of p ++◌) (variables-take ps i (omega (arith, h)))

same-take : (k : ℕ → Tree) (ps ts : List Tree) (i : ℕ) → i < length ps → i < length ts → instances k (trees_of (take i ps)) ≡ trees_of (take i ts) → instance k (get_or ps i (variable 0)) ≡ get_or ts i (variable 0) → instances k (trees_of (take (suc i) ps)) ≡ trees_of (take (suc i) ts)
same-take k [] ts i h d e f = absurd (omega (arith, h))
same-take k (p ∷ ps) [] i h d e f = absurd (omega (arith, d))
same-take k (p ∷ ps) (t ∷ ts) zero h d e f = ap (λ u. more_trees u no_trees) f
same-take k (p ∷ ps) (t ∷ ts) (suc i) h d e f = ap₂ more_trees (more_trees-inj e).0 (same-take k ps ts i (omega (arith, h)) (omega (arith, d)) (more_trees-inj e).1 f)

same-take_less : (k : ℕ → Tree) (ps ts : List Tree) (i : ℕ) → i < length ps → i < length ts → instances k (trees_of (take (suc i) ps)) ≡ trees_of (take (suc i) ts) → (instances k (trees_of (take i ps)) ≡ trees_of (take i ts)) × (instance k (get_or ps i (variable 0)) ≡ get_or ts i (variable 0))
same-take_less k [] ts i h d e = absurd (omega (arith, h))
same-take_less k (p ∷ ps) [] i h d e = absurd (omega (arith, d))
same-take_less k (p ∷ ps) (t ∷ ts) zero h d e = (refl, (more_trees-inj e).0)
same-take_less k (p ∷ ps) (t ∷ ts) (suc i) h d e =
    let r = same-take_less k ps ts i (omega (arith, h)) (omega (arith, d)) (more_trees-inj e).1 in
    (ap₂ more_trees (more_trees-inj e).0 r.0, r.1)

-- the list after the first i patterns
abbrev pub IsExtendedBy : ℕ → List Tree → List Tree → List (ℕ × Tree) → List (ℕ × Tree) → Type 0
IsExtendedBy i ps ts old new = IsExtended (variables_in (trees_of (take i ps))) (λ k. instances k (trees_of (take i ps)) ≡ trees_of (take i ts)) old new

-- one pattern more
pub extended_more : (ps ts : List Tree) (i : ℕ) (ds bs cs : List (ℕ × Tree)) → i < length ps → i < length ts → IsExtendedBy i ps ts ds bs
    → IsExtended (variables_of (get_or ps i (variable 0))) (λ k. instance k (get_or ps i (variable 0)) ≡ get_or ts i (variable 0)) bs cs
    → IsExtendedBy (i + 1) ps ts ds cs
extended_more ps ts i ds bs cs h d a b =
    let next : suc i ≡ i + 1 = omega arith in
    subst (λ n. IsExtendedBy n ps ts ds cs) next (
    extended_by _ _ _ _ ds cs (variables-take ps i h) (λ k e. same-take k ps ts i h d e.0 e.1) (λ k e. same-take_less k ps ts i h d e)
    (extended_both _ _ (λ k. instances k (trees_of (take i ps)) ≡ trees_of (take i ts)) (λ k. instance k (get_or ps i (variable 0)) ≡ get_or ts i (variable 0)) ds bs cs a b)
    )

-- the arguments are the same as long as they are looked at
same_first : (k : ℕ → Tree) (ps ts : List Tree) (i : ℕ) → instances k (trees_of ps) ≡ trees_of ts → instances k (trees_of (take i ps)) ≡ trees_of (take i ts)
same_first k [] [] zero e = refl
same_first k [] [] (suc i) e = refl
same_first k [] (t ∷ ts) i e = absurd (cc)
same_first k (p ∷ ps) [] i e = absurd (cc)
same_first k (p ∷ ps) (t ∷ ts) zero e = refl
same_first k (p ∷ ps) (t ∷ ts) (suc i) e = ap₂ more_trees (more_trees-inj e).0 (same_first k ps ts i (more_trees-inj e).1)

same_at : (k : ℕ → Tree) (ps ts : List Tree) (i : ℕ) → i < length ps → instances k (trees_of ps) ≡ trees_of ts → instance k (get_or ps i (variable 0)) ≡ get_or ts i (variable 0)
same_at k [] ts i h e = absurd (omega (arith, h))
same_at k (p ∷ ps) [] i h e = absurd (cc)
same_at k (p ∷ ps) (t ∷ ts) zero h e = (more_trees-inj e).0
same_at k (p ∷ ps) (t ∷ ts) (suc i) h e = same_at k ps ts i (omega (arith, h)) (more_trees-inj e).1

-- the pattern at i clashes
pub clash_at : (ps ts : List Tree) (i : ℕ) (ds bs : List (ℕ × Tree)) → i < length ps → IsExtendedBy i ps ts ds bs
    → ((k : ℕ → Tree) → Gives k bs → ¬ (instance k (get_or ps i (variable 0)) ≡ get_or ts i (variable 0)))
    → (k : ℕ → Tree) → Gives k ds → ¬ (instances k (trees_of ps) ≡ trees_of ts)
clash_at ps ts i ds bs h a clash k g e = clash k (a.there k g (same_first k ps ts i e)) (same_at k ps ts i h e)

pub same_length : (k : ℕ → Tree) (ps ts : List Tree) → instances k (trees_of ps) ≡ trees_of ts → length ps ≡ length ts
same_length k [] [] e = refl
same_length k [] (t ∷ ts) e = absurd (cc)
same_length k (p ∷ ps) [] e = absurd (cc)
same_length k (p ∷ ps) (t ∷ ts) e = ap suc (same_length k ps ts (more_trees-inj e).1)

take-whole : {X : Type 0} (xs : List X) → take (length xs) xs ≡ xs
take-whole [] = refl
take-whole (x ∷ xs) = ap (x ∷◌) (take-whole xs)

-- all patterns, as the arguments of one symbol
pub extended_all : (f g : ℕ) (ps ts : List Tree) (n : ℕ) (ds bs : List (ℕ × Tree)) → f ≡ g → n ≡ length ps → n ≡ length ts → IsExtendedBy n ps ts ds bs → IsExtended (variables_of (apply f (trees_of ps))) (λ k. instance k (apply f (trees_of ps)) ≡ apply g (trees_of ts)) ds bs
extended_all f g ps ts n ds bs same np nt h =
    let pw : take n ps ≡ ps = ap (λ j. take j ps) np ∙ take-whole ps in
    let tw : take n ts ≡ ts = ap (λ j. take j ts) nt ∙ take-whole ts in
    extended_by _ _ _ _ ds bs (ap (λ us. variables_in (trees_of us)) pw)
    (λ k e. ap₂ apply same (sym (ap (λ us. instances k (trees_of us)) pw) ∙ e ∙ ap trees_of tw))
    (λ k e. ap (λ us. instances k (trees_of us)) pw ∙ (cc) ∙ sym (ap trees_of tw))
    h

-- from nothing listed to a match
pub match_from : (p s : Tree) (new : List (ℕ × Tree)) → IsExtended (variables_of p) (λ k. instance k p ≡ s) [] new → IsMatchList new p s
match_from p s new h = record { variables = h.variables [] refl; makes = (h.back (substitution_of new) (h.single tt)).1 }

pub match_none : (p s : Tree) → ((k : ℕ → Tree) → Gives k [] → ¬ (instance k p ≡ s)) → ¬ Matches p s
match_none p s h (k, e) = h k tt e

more_absent : (es : List (Option (ℕ × Bor Term))) (i n : ℕ) (x : Option (ℕ × Bor Term)) → i < length es → x ≡ get_or es i x → IsAbsent n (bindings_of_list (x ∷ [])) → IsAbsent n (bindings_of_list (take i es)) → IsAbsent n (bindings_of_list (take (suc i) es))
more_absent [] i n x h is d a = absurd (omega (arith, h))
more_absent (e ∷ es) zero n x h is d a = subst (λ (y : Option (ℕ × Bor Term)). IsAbsent n (bindings_of_list (y ∷ []))) is d
more_absent (None ∷ es) (suc i) n x h is d a = more_absent es i n x (omega (arith, h)) is d a
more_absent (Some e ∷ es) (suc i) n x h is d a = both (e.0 == n) _ _ a (more_absent es i n x (omega (arith, h)) is d)
  where
    both : (a b c : Bool) → (a || b) ≡ false → (b ≡ false → c ≡ false) → (a || c) ≡ false
    both true b c e f = e
    both false b c e f = f e

absent_next : (es : List (Option (ℕ × Bor Term))) (i n : ℕ) (x : Option (ℕ × Bor Term)) → i < length es → x ≡ get_or es i x → IsAbsent n (bindings_of_list (x ∷ [])) → IsAbsent n (bindings_of_list (take i es)) → IsAbsent n (bindings_of_list (take (i + 1) es))
absent_next es i n x h is d a = let next : suc i ≡ i + 1 = omega arith in subst (λ j. IsAbsent n (bindings_of_list (take j es))) next (more_absent es i n x h is d a)

-- a variable that doesn't stand at the place i, nor at one before it
pub absent_more : (es : List (Option (ℕ × Bor Term))) (i n m : ℕ) (t : Bor Term) (x : Option (ℕ × Bor Term)) → i < length es → x ≡ get_or es i x → x ≡ Some (m, t) → ¬ (m ≡ n) → IsAbsent n (bindings_of_list (take i es)) → IsAbsent n (bindings_of_list (take (i + 1) es))
absent_more es i n m t x h is taken other a = absent_next es i n x h is (subst (λ (y : Option (ℕ × Bor Term)). IsAbsent n (bindings_of_list (y ∷ []))) (sym taken) (one (m == n) (ne_eqb m n other))) a
  where
    one : (b : Bool) → b ≡ false → (b || false) ≡ false
    one true e = e
    one false e = refl

pub absent_free : (es : List (Option (ℕ × Bor Term))) (i n : ℕ) (x : Option (ℕ × Bor Term)) → i < length es → x ≡ get_or es i x → x ≡ None → IsAbsent n (bindings_of_list (take i es)) → IsAbsent n (bindings_of_list (take (i + 1) es))
absent_free es i n x h is free a = absent_next es i n x h is (subst (λ (y : Option (ℕ × Bor Term)). IsAbsent n (bindings_of_list (y ∷ []))) (sym free) refl) a

at_present : (es : List (Option (ℕ × Bor Term))) (i n m : ℕ) (t : Bor Term) (x : Option (ℕ × Bor Term)) → i < length es → x ≡ get_or es i x → x ≡ Some (m, t) → (m == n) ≡ true → IsAbsent n (bindings_of_list (take i es)) → IsPresent n (tree_of t.now) (bindings_of_list es)
at_present [] i n m t x h is taken d a = absurd (omega (arith, h))
at_present (e ∷ es) zero n m t x h is taken d a = subst (λ (y : Option (ℕ × Bor Term)). IsPresent n (tree_of t.now) (bindings_of_list (y ∷ es))) (sym taken ∙ is) (rw d refl, rw d refl)
at_present (None ∷ es) (suc i) n m t x h is taken d a = at_present es i n m t x (omega (arith, h)) is taken d a
at_present (Some e ∷ es) (suc i) n m t x h is taken d a = go (e.0 == n) a (at_present es i n m t x (omega (arith, h)) is taken d)
  where
    go : (b : Bool) → (b || list_any (λ y. y == n) (listed_variables (bindings_of_list (take i es)))) ≡ false → (IsAbsent n (bindings_of_list (take i es)) → IsPresent n (tree_of t.now) (bindings_of_list es)) → ((b || list_any (λ y. y == n) (listed_variables (bindings_of_list es))) ≡ true) × (cond b (tree_of e.1.now) (substitution_of (bindings_of_list es) n) ≡ tree_of t.now)
    go true a f = absurd (false≢true (sym a))
    go false a f = f a

-- a variable that stands at the place i, and at none before it
pub present_at : (es : List (Option (ℕ × Bor Term))) (i n m : ℕ) (t : Bor Term) (x : Option (ℕ × Bor Term)) → i < length es → x ≡ get_or es i x → x ≡ Some (m, t) → m ≡ n → IsAbsent n (bindings_of_list (take i es)) → IsPresent n (tree_of t.now) (bindings_of_list es)
present_at es i n m t x h is taken same a = at_present es i n m t x h is taken (eq-eqb m n same) a

pub bindings_push : (es : List (Option (ℕ × Bor Term))) (n : ℕ) (t : Bor Term) → bindings_of_list (es ++ Some (n, t) ∷ []) ≡ bindings_of_list es ++ (n, tree_of t.now) ∷ []
bindings_push [] n t = refl
bindings_push (None ∷ es) n t = bindings_push es n t
bindings_push (Some e ∷ es) n t = ap ((e.0, tree_of e.1.now) ∷◌) (bindings_push es n t)

take_more : (es : List (Option (ℕ × Bor Term))) (i : ℕ) (x : Option (ℕ × Bor Term)) → i < length es → x ≡ get_or es i x → bindings_of_list (take i es) ++ bindings_of_list (x ∷ []) ≡ bindings_of_list (take (suc i) es)
take_more [] i x h is = absurd (omega (arith, h))
take_more (e ∷ es) zero x h is = ap (λ (y : Option (ℕ × Bor Term)). bindings_of_list (y ∷ [])) is
take_more (None ∷ es) (suc i) x h is = take_more es i x (omega (arith, h)) is
take_more (Some e ∷ es) (suc i) x h is = ap ((e.0, tree_of e.1.now) ∷◌) (take_more es i x (omega (arith, h)) is)

take_next : (es : List (Option (ℕ × Bor Term))) (i : ℕ) (x : Option (ℕ × Bor Term)) → i < length es → x ≡ get_or es i x → bindings_of_list (take i es) ++ bindings_of_list (x ∷ []) ≡ bindings_of_list (take (i + 1) es)
take_next es i x h is = let next : suc i ≡ i + 1 = omega arith in subst (λ j. bindings_of_list (take i es) ++ bindings_of_list (x ∷ []) ≡ bindings_of_list (take j es)) next (take_more es i x h is)

entries_push : (ds : List (ℕ × Term)) (n : ℕ) (u : Term) → entries_of_list (ds ++ (n, u) ∷ []) ≡ entries_of_list ds ++ (n, tree_of u) ∷ []
entries_push [] n u = refl
entries_push (d ∷ ds) n u = ap ((d.0, tree_of d.1) ∷◌) (entries_push ds n u)

-- one copy more
pub copied_more : (ds : List (ℕ × Term)) (es : List (Option (ℕ × Bor Term))) (i n : ℕ) (t : Bor Term) (u : Term) (x : Option (ℕ × Bor Term)) → i < length es → x ≡ get_or es i x → x ≡ Some (n, t) → u ≡ t.now → entries_of_list ds ≡ bindings_of_list (take i es) → entries_of_list (ds ++ (n, u) ∷ []) ≡ bindings_of_list (take (i + 1) es)
copied_more ds es i n t u x h is taken same e =
    entries_push ds n u ∙ ap₂ (λ (cs : List (ℕ × Tree)) (v : Term). cs ++ (n, tree_of v) ∷ []) e same ∙ ap (λ (y : Option (ℕ × Bor Term)). bindings_of_list (take i es) ++ bindings_of_list (y ∷ [])) (sym taken) ∙ take_next es i x h is

-- a place that is free
pub copied_free : (es : List (Option (ℕ × Bor Term))) (i : ℕ) (x : Option (ℕ × Bor Term)) → i < length es → x ≡ get_or es i x → x ≡ None → bindings_of_list (take i es) ≡ bindings_of_list (take (i + 1) es)
copied_free es i x h is free =
    sym (append-nil (bindings_of_list (take i es))) ∙ ap (λ (y : Option (ℕ × Bor Term)). bindings_of_list (take i es) ++ bindings_of_list (y ∷ [])) (sym free) ∙ take_next es i x h is

-- the answer of a match that starts from nothing listed
pub matches_from : {E : Type 0} (r : Result Bool E) (p s : Tree) (old new : List (ℕ × Tree)) → old ≡ []
    → (r ≡ Ok true → IsExtended (variables_of p) (λ k. instance k p ≡ s) old new)
    → (r ≡ Ok false → (k : ℕ → Tree) → Gives k old → ¬ (instance k p ≡ s))
    → IfOk r (λ b. IsTrue b ↔ Matches p s)
matches_from (Err e) p s old new none matched clash = tt
matches_from (Ok true) p s old new none matched clash =
    ((λ _. (substitution_of new, (match_from p s new (subst (λ es. IsExtended (variables_of p) (λ k. instance k p ≡ s) es new) none (matched refl))).makes)), λ _. refl)
matches_from (Ok false) p s old new none matched clash =
    ((λ e. absurd (false≢true e)), λ m. absurd (match_none p s (subst (λ es. (k : ℕ → Tree) → Gives k es → ¬ (instance k p ≡ s)) none (clash refl)) m))

-- the same for equal terms
pub extended_as : {p q s t : Tree} → p ≡ q → s ≡ t → (es ds : List (ℕ × Tree)) → IsExtended (variables_of p) (λ k. instance k p ≡ s) es ds → IsExtended (variables_of q) (λ k. instance k q ≡ t) es ds
extended_as {p} {q} {s} {t} d e es ds h = subst (λ u. IsExtended (variables_of u) (λ k. instance k u ≡ t) es ds) d (subst (λ u. IsExtended (variables_of p) (λ k. instance k p ≡ u) es ds) e h)

pub clash_as : {p q s t : Tree} → p ≡ q → s ≡ t → (es : List (ℕ × Tree)) → ((k : ℕ → Tree) → Gives k es → ¬ (instance k p ≡ s)) → (k : ℕ → Tree) → Gives k es → ¬ (instance k q ≡ t)
clash_as {p} {q} {s} {t} d e es h k g same = h k g (ap (instance k) d ∙ same ∙ sym e)

pub ok_value : {E : Type 0} {a b : Bool} → ◌≡◌ {A = Result Bool E} (Ok a) (Ok b) → a ≡ b
ok_value e = cc
