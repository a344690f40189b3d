-- The keys that a walk finds are those of the marks that lead through the terms.
use Rattle.std.proofs.Common.{ℕ, zero, suc, ◌≡◌, ◌⊎◌, inl, inr, ⊎_elim, refl, sym, ap, ◌∙◌, subst, arith, List, [], ◌∷◌, ◌++◌, length, Bool, true, false, cond, ◌==◌, ◌&&◌, append_assoc, eqb-true, eq-eqb}
use Rattle.std.specs.Prelude.{Contains, ◌↔◌, replicate}
use Rattle.std.proofs.lemmas.List.Elements.{Contains-append_left, Contains-append_right, Contains-append_cases}
use Rattle.kb_term.specs.Tree.{Tree, Trees, variable, apply, list_of}
use Rattle.rule_index.specs.declared.mark.Mark.{Mark}
use Rattle.rule_index.specs.declared.mark.Mark.TheVariants.{Any, Apply}
use Rattle.rule_index.specs.declared.branch.Branch.{Branch, End, Key', Node'}
use Rattle.rule_index.specs.Marks.{marks_of}
use Rattle.rule_index.specs.Branches.{HasEntry}
use Rattle.rule_index.specs.Walk.{Leads, hits}
use Rattle.rule_index.proofs.Leading.{Meets, leads_from_meeting, meeting_from_leads}

abbrev Found : Bool → Branch → List Tree → ℕ → Type 0
Found loose b ts k = (ms : List Mark) × HasEntry b k ms × Leads loose ms ts

contains_head : (x k : ℕ) (xs : List ℕ) → k ≡ x → Contains (x ∷ xs) k
contains_head x k xs e = (0, omega arith, sym e)

contains_tail : (x k : ℕ) (xs : List ℕ) → Contains xs k → Contains (x ∷ xs) k
contains_tail x k xs (i, l, e) = (suc i, omega (arith, l), e)

contains_cases : (x k : ℕ) (xs : List ℕ) → Contains (x ∷ xs) k → (k ≡ x) ⊎ Contains xs k
contains_cases x k xs (zero, l, e) = inl (sym e)
contains_cases x k xs (suc i, l, e) = inr (i, omega (arith, l), e)

contains_none : (k : ℕ) → Contains [] k → ⊥
contains_none k c = absurd (omega (arith, c.1))

bool_cases : (b : Bool) → (b ≡ false) ⊎ (b ≡ true)
bool_cases true = inr refl
bool_cases false = inl refl

both_true : (f g n m : ℕ) → f ≡ g → n ≡ m → ((f == g) && (n == m)) ≡ true
both_true f g n m e d = grind (arith, eq-eqb f g e, eq-eqb n m d)

both_cases : (f g n m : ℕ) → (((f == g) && (n == m)) ≡ false) ⊎ ((f ≡ g) × (n ≡ m))
both_cases f g n m = go (f == g) (n == m) refl refl
  where
    go : (a b : Bool) → (f == g) ≡ a → (n == m) ≡ b → (((f == g) && (n == m)) ≡ false) ⊎ ((f ≡ g) × (n ≡ m))
    go true true e d = inr (eqb-true f g e, eqb-true n m d)
    go true false e d = inl (rw (e, d) refl)
    go false b e d = inl (rw e refl)

both_false : (f g n m : ℕ) → (¬ (f ≡ g)) ⊎ (¬ (n ≡ m)) → ((f == g) && (n == m)) ≡ false
both_false f g n m h = ⊎_elim (λ e. e) (λ e. ⊎_elim (λ d. absurd (d e.0)) (λ d. absurd (d e.1)) h) (both_cases f g n m)

-- what a walk finds at a branch, case by case
none_here : (loose : Bool) (m : Mark) (p : _) (i : Branch) (q : _) (r : Branch) → hits loose (Node' m p i q r) [] ≡ hits loose r []
none_here loose Any p i q r = refl
none_here loose (Apply f n) p i q r = refl

pub hits_none : (loose : Bool) (m : Mark) (p : _) (i : Branch) (q : _) (r b : Branch) (ts : List Tree) → b ≡ Node' m p i q r → ts ≡ [] → hits loose b ts ≡ hits loose r ts
hits_none loose m p i q r b ts e d = ap (λ (y : Branch). hits loose y ts) e ∙ ap (hits loose (Node' m p i q r)) d ∙ none_here loose m p i q r ∙ ap (hits loose r) (sym d)

pub hits_any : (loose : Bool) (m : Mark) (p : _) (i : Branch) (q : _) (r b : Branch) (ts us : List Tree) (t : Tree) → b ≡ Node' m p i q r → m ≡ Any → ts ≡ t ∷ us → hits loose b ts ≡ hits loose i us ++ hits loose r ts
hits_any loose m p i q r b ts us t e a d =
    ap (λ (y : Branch). hits loose y ts) (e ∙ ap (λ (x : Mark). Node' x p i q r) a) ∙ ap (hits loose (Node' Any p i q r)) d ∙ ap (λ (vs : List Tree). hits loose i us ++ hits loose r vs) (sym d)

hits_variable : (loose : Bool) (m : Mark) (p : _) (i : Branch) (q : _) (r b : Branch) (ts us : List Tree) (f n x : ℕ) (v : Bool) → b ≡ Node' m p i q r → m ≡ Apply f n → ts ≡ variable x ∷ us → loose ≡ v
    → hits loose b ts ≡ cond v (hits loose i (replicate n (variable x) ++ us)) [] ++ hits loose r ts
hits_variable loose m p i q r b ts us f n x v e a d t =
    ap (λ (y : Branch). hits loose y ts) (e ∙ ap (λ (x : Mark). Node' x p i q r) a) ∙ ap (hits loose (Node' (Apply f n) p i q r)) d
    ∙ ap (λ (y : Bool). cond y (hits loose i (replicate n (variable x) ++ us)) [] ++ hits loose r (variable x ∷ us)) t
    ∙ ap (λ (ws : List Tree). cond v (hits loose i (replicate n (variable x) ++ us)) [] ++ hits loose r ws) (sym d)

pub hits_skipped : (loose : Bool) (m : Mark) (p : _) (i : Branch) (q : _) (r b : Branch) (ts us : List Tree) (f n x : ℕ) → b ≡ Node' m p i q r → m ≡ Apply f n → ts ≡ variable x ∷ us → loose ≡ false → hits loose b ts ≡ hits loose r ts
hits_skipped loose m p i q r b ts us f n x e a d t = hits_variable loose m p i q r b ts us f n x false e a d t

pub hits_taken : (loose : Bool) (m : Mark) (p : _) (i : Branch) (q : _) (r b : Branch) (ts us : List Tree) (f n x : ℕ) → b ≡ Node' m p i q r → m ≡ Apply f n → ts ≡ variable x ∷ us → loose ≡ true
    → hits loose b ts ≡ hits loose i (replicate n (variable x) ++ us) ++ hits loose r ts
hits_taken loose m p i q r b ts us f n x e a d t = hits_variable loose m p i q r b ts us f n x true e a d t

hits_tested : (loose : Bool) (m : Mark) (p : _) (i : Branch) (q : _) (r b : Branch) (ts us : List Tree) (f n g : ℕ) (vs : Trees) (v : Bool) → b ≡ Node' m p i q r → m ≡ Apply f n → ts ≡ apply g vs ∷ us → ((f == g) && (n == length (list_of vs))) ≡ v
    → hits loose b ts ≡ cond v (hits loose i (list_of vs ++ us)) [] ++ hits loose r ts
hits_tested loose m p i q r b ts us f n g vs v e a d t =
    ap (λ (y : Branch). hits loose y ts) (e ∙ ap (λ (x : Mark). Node' x p i q r) a) ∙ ap (hits loose (Node' (Apply f n) p i q r)) d
    ∙ ap (λ (y : Bool). cond y (hits loose i (list_of vs ++ us)) [] ++ hits loose r (apply g vs ∷ us)) t
    ∙ ap (λ (ws : List Tree). cond v (hits loose i (list_of vs ++ us)) [] ++ hits loose r ws) (sym d)

pub hits_inside : (loose : Bool) (m : Mark) (p : _) (i : Branch) (q : _) (r b : Branch) (ts us : List Tree) (f n g : ℕ) (vs : Trees) → b ≡ Node' m p i q r → m ≡ Apply f n → ts ≡ apply g vs ∷ us → f ≡ g → n ≡ length (list_of vs)
    → hits loose b ts ≡ hits loose i (list_of vs ++ us) ++ hits loose r ts
hits_inside loose m p i q r b ts us f n g vs e a d same count = hits_tested loose m p i q r b ts us f n g vs true e a d (both_true f g n (length (list_of vs)) same count)

pub hits_beside : (loose : Bool) (m : Mark) (p : _) (i : Branch) (q : _) (r b : Branch) (ts us : List Tree) (f n g : ℕ) (vs : Trees) → b ≡ Node' m p i q r → m ≡ Apply f n → ts ≡ apply g vs ∷ us → (¬ (f ≡ g)) ⊎ (¬ (n ≡ length (list_of vs)))
    → hits loose b ts ≡ hits loose r ts
hits_beside loose m p i q r b ts us f n g vs e a d other = hits_tested loose m p i q r b ts us f n g vs false e a d (both_false f g n (length (list_of vs)) other)

pub hits_from : (loose : Bool) (b : Branch) (ts : List Tree) (k : ℕ) (ms : List Mark) → HasEntry b k ms → Leads loose ms ts → Contains (hits loose b ts) k
hits_from loose End ts k ms h w = absurd h
hits_from loose (Key' key p rest) [] k ms h w = ⊎_elim (λ e. contains_head key k (hits loose rest []) e.0) (λ r. contains_tail key k (hits loose rest []) (hits_from loose rest [] k ms r w)) h
hits_from loose (Key' key p rest) (t ∷ ts) k ms h w = ⊎_elim (λ e. absurd (subst (λ (x : List Mark). Leads loose x (t ∷ ts)) e.1 w)) (λ r. hits_from loose rest (t ∷ ts) k ms r w) h
hits_from loose (Node' Any p inner q rest) [] k ms h w = ⊎_elim (λ e. absurd (subst (λ (x : List Mark). Leads loose x []) e.1 w)) (λ r. hits_from loose rest [] k ms r w) h
hits_from loose (Node' (Apply f n) p inner q rest) [] k ms h w = ⊎_elim (λ e. absurd (subst (λ (x : List Mark). Leads loose x []) e.1 w)) (λ r. hits_from loose rest [] k ms r w) h
hits_from loose (Node' Any p inner q rest) (t ∷ ts) k ms h w =
    ⊎_elim
    (λ e. Contains-append_left (hits loose inner ts) (hits loose rest (t ∷ ts)) k (hits_from loose inner ts k e.0 e.2 (subst (λ (x : List Mark). Leads loose x (t ∷ ts)) e.1 w)))
    (λ r. Contains-append_right (hits loose inner ts) (hits loose rest (t ∷ ts)) k (hits_from loose rest (t ∷ ts) k ms r w))
    h
hits_from loose (Node' (Apply f n) p inner q rest) (variable x ∷ ts) k ms h w =
    let inside = replicate n (variable x) ++ ts in
    let here = cond loose (hits loose inner inside) [] in
    ⊎_elim
    (λ e.
    let v : (loose ≡ true) × Leads loose e.0 inside = subst (λ (y : List Mark). Leads loose y (variable x ∷ ts)) e.1 w in
    Contains-append_left here (hits loose rest (variable x ∷ ts)) k
    (subst (λ (b : Bool). Contains (cond b (hits loose inner inside) []) k) (sym v.0) (hits_from loose inner inside k e.0 e.2 v.1)))
    (λ r. Contains-append_right here (hits loose rest (variable x ∷ ts)) k (hits_from loose rest (variable x ∷ ts) k ms r w))
    h
hits_from loose (Node' (Apply f n) p inner q rest) (apply g us ∷ ts) k ms h w =
    let here = cond ((f == g) && (n == length (list_of us))) (hits loose inner (list_of us ++ ts)) [] in
    ⊎_elim
    (λ e.
    let v : (f ≡ g) × (n ≡ length (list_of us)) × Leads loose e.0 (list_of us ++ ts) = subst (λ (y : List Mark). Leads loose y (apply g us ∷ ts)) e.1 w in
    Contains-append_left here (hits loose rest (apply g us ∷ ts)) k
    (subst (λ (b : Bool). Contains (cond b (hits loose inner (list_of us ++ ts)) []) k) (sym (both_true f g n (length (list_of us)) v.0 v.1)) (hits_from loose inner (list_of us ++ ts) k e.0 e.2 v.2)))
    (λ r. Contains-append_right here (hits loose rest (apply g us ∷ ts)) k (hits_from loose rest (apply g us ∷ ts) k ms r w))
    h

found_key : (loose : Bool) (key : ℕ) (p : _) (rest : Branch) (ts : List Tree) (k : ℕ) → Found loose rest ts k → Found loose (Key' key p rest) ts k
found_key loose key p rest ts k (ms, h, w) = (ms, inr h, w)

found_rest : (loose : Bool) (m : Mark) (p : _) (inner : Branch) (q : _) (rest : Branch) (ts : List Tree) (k : ℕ) → Found loose rest ts k → Found loose (Node' m p inner q rest) ts k
found_rest loose m p inner q rest ts k (ms, h, w) = (ms, inr h, w)

pub hits_to : (loose : Bool) (b : Branch) (ts : List Tree) (k : ℕ) → Contains (hits loose b ts) k → Found loose b ts k
hits_to loose End ts k c = absurd (contains_none k c)
hits_to loose (Key' key p rest) [] k c = ⊎_elim (λ e. ([], inl (e, refl), tt)) (λ r. found_key loose key p rest [] k (hits_to loose rest [] k r)) (contains_cases key k (hits loose rest []) c)
hits_to loose (Key' key p rest) (t ∷ ts) k c = found_key loose key p rest (t ∷ ts) k (hits_to loose rest (t ∷ ts) k c)
hits_to loose (Node' Any p inner q rest) [] k c = found_rest loose Any p inner q rest [] k (hits_to loose rest [] k c)
hits_to loose (Node' (Apply f n) p inner q rest) [] k c = found_rest loose (Apply f n) p inner q rest [] k (hits_to loose rest [] k c)
hits_to loose (Node' Any p inner q rest) (t ∷ ts) k c =
    ⊎_elim
    (λ i. let d = hits_to loose inner ts k i in (Any ∷ d.0, inl (d.0, refl, d.1), d.2))
    (λ r. found_rest loose Any p inner q rest (t ∷ ts) k (hits_to loose rest (t ∷ ts) k r))
    (Contains-append_cases (hits loose inner ts) (hits loose rest (t ∷ ts)) k c)
hits_to loose (Node' (Apply f n) p inner q rest) (variable x ∷ ts) k c =
    let inside = replicate n (variable x) ++ ts in
    ⊎_elim
    (λ i. ⊎_elim
    (λ e. absurd (contains_none k (subst (λ (b : Bool). Contains (cond b (hits loose inner inside) []) k) e i)))
    (λ e.
    let d = hits_to loose inner inside k (subst (λ (b : Bool). Contains (cond b (hits loose inner inside) []) k) e i) in
    (Apply f n ∷ d.0, inl (d.0, refl, d.1), (e, d.2)))
    (bool_cases loose))
    (λ r. found_rest loose (Apply f n) p inner q rest (variable x ∷ ts) k (hits_to loose rest (variable x ∷ ts) k r))
    (Contains-append_cases (cond loose (hits loose inner inside) []) (hits loose rest (variable x ∷ ts)) k c)
hits_to loose (Node' (Apply f n) p inner q rest) (apply g us ∷ ts) k c =
    ⊎_elim
    (λ i. ⊎_elim
    (λ e. absurd (contains_none k (subst (λ (b : Bool). Contains (cond b (hits loose inner (list_of us ++ ts)) []) k) e i)))
    (λ e.
    let d = hits_to loose inner (list_of us ++ ts) k (subst (λ (b : Bool). Contains (cond b (hits loose inner (list_of us ++ ts)) []) k) (both_true f g n (length (list_of us)) e.0 e.1) i) in
    (Apply f n ∷ d.0, inl (d.0, refl, d.1), (e.0, e.1, d.2)))
    (both_cases f g n (length (list_of us))))
    (λ r. found_rest loose (Apply f n) p inner q rest (apply g us ∷ ts) k (hits_to loose rest (apply g us ∷ ts) k r))
    (Contains-append_cases (cond ((f == g) && (n == length (list_of us))) (hits loose inner (list_of us ++ ts)) []) (hits loose rest (apply g us ∷ ts)) k c)

-- the keys found at one term are those that stand with the marks of a left side that meets it
pub hits_meet : (loose : Bool) (b : Branch) (t : Tree) (k : ℕ) → Contains (hits loose b (t ∷ [])) k ↔ ((l : Tree) × HasEntry b k (marks_of l) × Meets loose l t)
hits_meet loose b t k = (
  λ c. let d = hits_to loose b (t ∷ []) k c in
      let f = meeting_from_leads loose d.0 t d.2 in
      (f.0, subst (λ (ms : List Mark). HasEntry b k ms) f.1 d.1, f.2),
  λ (l, h, fit). hits_from loose b (t ∷ []) k (marks_of l) h (leads_from_meeting loose l t fit),
)

-- what a walk adds in two parts
pub added_both : (old mid new here there all : List ℕ) → new ≡ mid ++ there → mid ≡ old ++ here → all ≡ here ++ there → new ≡ old ++ all
added_both old mid new here there all a b d = a ∙ ap (λ (x : List ℕ). x ++ there) b ∙ append_assoc old here there ∙ ap (λ (x : List ℕ). old ++ x) (sym d)

pub added_rest : (old mid new there all : List ℕ) → new ≡ mid ++ there → mid ≡ old → all ≡ there → new ≡ old ++ all
added_rest old mid new there all a b d = a ∙ ap (λ (x : List ℕ). x ++ there) b ∙ ap (λ (x : List ℕ). old ++ x) (sym d)
