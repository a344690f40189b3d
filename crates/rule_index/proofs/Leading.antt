-- The marks of a left side lead through just the terms that it meets: that it fits, or in loose walks agrees with.
use Rattle.std.proofs.Common.{ℕ, zero, suc, ◌≡◌, ◌≤◌, refl, sym, ap, ◌∙◌, subst, List, [], ◌∷◌, ◌++◌, length, append_assoc, arith, Bool, true}
use Rattle.std.specs.Prelude.{replicate}
use Rattle.std.proofs.lemmas.List.{append-nil}
use Rattle.kb_term.specs.Tree.{Tree, Trees, variable, apply, no_trees, more_trees, list_of}
use Rattle.rule_index.specs.declared.mark.Mark.{Mark}
use Rattle.rule_index.specs.declared.mark.Mark.TheVariants.{Any, Apply}
use Rattle.rule_index.specs.Marks.{marks_of, marks_in}
use Rattle.rule_index.specs.Walk.{Leads}

-- the left side fits the term, or where walks are loose agrees with it
abbrev mutual
  pub Meets : Bool → Tree → Tree → Type 0
  Meets loose (variable n) t = Unit {0}
  Meets loose (apply f ps) (variable n) = loose ≡ true
  Meets loose (apply f ps) (apply g ts) = (f ≡ g) × MeetEach loose ps ts

  pub MeetEach : Bool → Trees → Trees → Type 0
  MeetEach loose no_trees no_trees = Unit {0}
  MeetEach loose no_trees (more_trees t ts) = ⊥
  MeetEach loose (more_trees p ps) no_trees = ⊥
  MeetEach loose (more_trees p ps) (more_trees t ts) = Meets loose p t × MeetEach loose ps ts

-- as many arguments as terms that they meet
meet_lengths : (loose : Bool) (ls us : Trees) → MeetEach loose ls us → length (list_of ls) ≡ length (list_of us)
meet_lengths loose no_trees no_trees h = refl
meet_lengths loose no_trees (more_trees u us) h = absurd h
meet_lengths loose (more_trees l ls) no_trees h = absurd h
meet_lengths loose (more_trees l ls) (more_trees u us) h = ap suc (meet_lengths loose ls us h.1)

meets_variable : (loose : Bool) (l : Tree) (x : ℕ) → loose ≡ true → Meets loose l (variable x)
meets_variable loose (variable n) x e = tt
meets_variable loose (apply f ls) x e = e

mutual
  leads_on : (loose : Bool) (l t : Tree) (rest : List Mark) (ts : List Tree) → Meets loose l t → Leads loose rest ts → Leads loose (marks_of l ++ rest) (t ∷ ts)
  leads_on loose (variable n) t rest ts fit h = h
  leads_on loose (apply f ls) (variable x) rest ts fit h = (fit, leads_on_all loose ls x rest ts fit h)
  leads_on loose (apply f ls) (apply g us) rest ts fit h = (fit.0, meet_lengths loose ls us fit.1, leads_on_each loose ls us rest ts fit.1 h)

  leads_on_each : (loose : Bool) (ls us : Trees) (rest : List Mark) (ts : List Tree) → MeetEach loose ls us → Leads loose rest ts → Leads loose (marks_in ls ++ rest) (list_of us ++ ts)
  leads_on_each loose no_trees no_trees rest ts fit h = h
  leads_on_each loose no_trees (more_trees u us) rest ts fit h = absurd fit
  leads_on_each loose (more_trees l ls) no_trees rest ts fit h = absurd fit
  leads_on_each loose (more_trees l ls) (more_trees u us) rest ts fit h =
      subst (λ (ms : List Mark). Leads loose ms (u ∷ (list_of us ++ ts))) (sym (append_assoc (marks_of l) (marks_in ls) rest))
      (leads_on loose l u (marks_in ls ++ rest) (list_of us ++ ts) fit.0 (leads_on_each loose ls us rest ts fit.1 h))

  leads_on_all : (loose : Bool) (ls : Trees) (x : ℕ) (rest : List Mark) (ts : List Tree) → loose ≡ true → Leads loose rest ts → Leads loose (marks_in ls ++ rest) (replicate (length (list_of ls)) (variable x) ++ ts)
  leads_on_all loose no_trees x rest ts e h = h
  leads_on_all loose (more_trees l ls) x rest ts e h =
      subst (λ (ms : List Mark). Leads loose ms (variable x ∷ (replicate (length (list_of ls)) (variable x) ++ ts))) (sym (append_assoc (marks_of l) (marks_in ls) rest))
      (leads_on loose l (variable x) (marks_in ls ++ rest) (replicate (length (list_of ls)) (variable x) ++ ts) (meets_variable loose l x e) (leads_on_all loose ls x rest ts e h))

-- marks that lead through a term and more begin with those of a left side that meets the term
abbrev Begins : Bool → List Mark → Tree → List Tree → Type 0
Begins loose marks t ts = (l : Tree) × (rest : List Mark) × (marks ≡ marks_of l ++ rest) × Meets loose l t × Leads loose rest ts

abbrev BeginsEach : Bool → List Mark → Trees → List Tree → Type 0
BeginsEach loose marks us ts = (ls : Trees) × (rest : List Mark) × (marks ≡ marks_in ls ++ rest) × MeetEach loose ls us × Leads loose rest ts

-- marks that lead through a variable so many times begin with those of as many left sides
abbrev BeginsAll : Bool → List Mark → ℕ → List Tree → Type 0
BeginsAll loose marks n ts = (ls : Trees) × (rest : List Mark) × (marks ≡ marks_in ls ++ rest) × (length (list_of ls) ≡ n) × (length rest ≤ length marks) × Leads loose rest ts

begins_apply : (loose : Bool) (f g n : ℕ) (us : Trees) (marks : List Mark) (ts : List Tree) → f ≡ g → n ≡ length (list_of us) → BeginsEach loose marks us ts → Begins loose (Apply f n ∷ marks) (apply g us) ts
begins_apply loose f g n us marks ts same count (ls, rest, is, fit, h) =
    let many : n ≡ length (list_of ls) = count ∙ sym (meet_lengths loose ls us fit) in
    (apply f ls, rest, ap (λ (k : ℕ). Apply f k ∷ marks) many ∙ ap (λ (ms : List Mark). Apply f (length (list_of ls)) ∷ ms) is, (same, fit), h)

begins_more : (loose : Bool) (t : Tree) (us : Trees) (marks : List Mark) (ts : List Tree) (l : Tree) (rest : List Mark) → marks ≡ marks_of l ++ rest → Meets loose l t → BeginsEach loose rest us ts → BeginsEach loose marks (more_trees t us) ts
begins_more loose t us marks ts l rest is fit (ls, last, its, fits, h) =
    (more_trees l ls, last, is ∙ ap (λ (ms : List Mark). marks_of l ++ ms) its ∙ sym (append_assoc (marks_of l) (marks_in ls) last), (fit, fits), h)

-- one left side before others
all_more : (loose : Bool) (marks : List Mark) (n : ℕ) (ts : List Tree) (l : Tree) (rest : List Mark) → marks ≡ marks_of l ++ rest → length rest ≤ length marks → BeginsAll loose rest n ts → BeginsAll loose marks (suc n) ts
all_more loose marks n ts l rest is fewer (ls, last, its, many, less, h) =
    (more_trees l ls, last, is ∙ ap (λ (ms : List Mark). marks_of l ++ ms) its ∙ sym (append_assoc (marks_of l) (marks_in ls) last), ap suc many, omega (arith, fewer, less), h)

begins_all : (loose : Bool) (k n x : ℕ) (marks : List Mark) (ts : List Tree) → length marks ≤ k → Leads loose marks (replicate n (variable x) ++ ts) → BeginsAll loose marks n ts
begins_all loose k zero x marks ts room h = (no_trees, marks, refl, refl, omega arith, h)
begins_all loose k (suc n) x [] ts room h = absurd h
begins_all loose zero (suc n) x (m ∷ marks) ts room h = absurd (omega (arith, room))
begins_all loose (suc k) (suc n) x (Any ∷ marks) ts room h = all_more loose (Any ∷ marks) n ts (variable 0) marks refl (omega arith) (begins_all loose k n x marks ts (omega (arith, room)) h)
begins_all loose (suc k) (suc n) x (Apply f m ∷ marks) ts room h =
    let inner : BeginsAll loose marks m (replicate n (variable x) ++ ts) = begins_all loose k m x marks (replicate n (variable x) ++ ts) (omega (arith, room)) h.1 in
    let is : Apply f m ∷ marks ≡ marks_of (apply f inner.0) ++ inner.1 = ap (λ (j : ℕ). Apply f j ∷ marks) (sym inner.3) ∙ ap (λ (ms : List Mark). Apply f (length (list_of inner.0)) ∷ ms) inner.2 in
    all_more loose (Apply f m ∷ marks) n ts (apply f inner.0) inner.1 is (omega (arith, inner.4)) (begins_all loose k n x inner.1 ts (omega (arith, inner.4, room)) inner.5)

mutual
  begins : (loose : Bool) (t : Tree) (marks : List Mark) (ts : List Tree) → Leads loose marks (t ∷ ts) → Begins loose marks t ts
  begins loose (variable x) [] ts h = absurd h
  begins loose (variable x) (Any ∷ marks) ts h = (variable 0, marks, refl, tt, h)
  begins loose (variable x) (Apply f n ∷ marks) ts h =
      let inner : BeginsAll loose marks n ts = begins_all loose (length marks) n x marks ts (omega arith) h.1 in
      (apply f inner.0, inner.1, ap (λ (j : ℕ). Apply f j ∷ marks) (sym inner.3) ∙ ap (λ (ms : List Mark). Apply f (length (list_of inner.0)) ∷ ms) inner.2, h.0, inner.5)
  begins loose (apply g us) [] ts h = absurd h
  begins loose (apply g us) (Any ∷ marks) ts h = (variable 0, marks, refl, tt, h)
  begins loose (apply g us) (Apply f n ∷ marks) ts h = begins_apply loose f g n us marks ts h.0 h.1 (begins_each loose us marks ts h.2)

  begins_each : (loose : Bool) (us : Trees) (marks : List Mark) (ts : List Tree) → Leads loose marks (list_of us ++ ts) → BeginsEach loose marks us ts
  begins_each loose no_trees marks ts h = (no_trees, marks, refl, tt, h)
  begins_each loose (more_trees t us) marks ts h =
      let b : Begins loose marks t (list_of us ++ ts) = begins loose t marks (list_of us ++ ts) h in
      begins_more loose t us marks ts b.0 b.1 b.2 b.3 (begins_each loose us b.1 ts b.4)

nothing_behind : (loose : Bool) (ms : List Mark) → Leads loose ms [] → ms ≡ []
nothing_behind loose [] h = refl
nothing_behind loose (m ∷ ms) h = absurd h

-- the marks of a left side that meets the term lead through it
pub leads_from_meeting : (loose : Bool) (l t : Tree) → Meets loose l t → Leads loose (marks_of l) (t ∷ [])
leads_from_meeting loose l t fit = subst (λ (ms : List Mark). Leads loose ms (t ∷ [])) (append-nil (marks_of l)) (leads_on loose l t [] [] fit tt)

-- marks that lead through the term are those of a left side that meets it
pub meeting_from_leads : (loose : Bool) (marks : List Mark) (t : Tree) → Leads loose marks (t ∷ []) → (l : Tree) × (marks ≡ marks_of l) × Meets loose l t
meeting_from_leads loose marks t h =
    let b : Begins loose marks t [] = begins loose t marks [] h in
    (b.0, b.2 ∙ ap (λ (ms : List Mark). marks_of b.0 ++ ms) (nothing_behind loose b.1 b.4) ∙ append-nil (marks_of b.0), b.3)

mutual
  leads_back : (loose : Bool) (l t : Tree) (rest : List Mark) (ts : List Tree) → Leads loose (marks_of l ++ rest) (t ∷ ts) → Meets loose l t × Leads loose rest ts
  leads_back loose (variable n) t rest ts h = (tt, h)
  leads_back loose (apply f ls) (variable x) rest ts h = (h.0, leads_back_all loose ls x rest ts h.1)
  leads_back loose (apply f ls) (apply g us) rest ts h =
      let e : MeetEach loose ls us × Leads loose rest ts = leads_back_each loose ls us rest ts h.1 h.2 in
      ((h.0, e.0), e.1)

  leads_back_each : (loose : Bool) (ls us : Trees) (rest : List Mark) (ts : List Tree) → length (list_of ls) ≡ length (list_of us) → Leads loose (marks_in ls ++ rest) (list_of us ++ ts) → MeetEach loose ls us × Leads loose rest ts
  leads_back_each loose no_trees no_trees rest ts many h = (tt, h)
  leads_back_each loose no_trees (more_trees u us) rest ts many h = absurd (omega (arith, many))
  leads_back_each loose (more_trees l ls) no_trees rest ts many h = absurd (omega (arith, many))
  leads_back_each loose (more_trees l ls) (more_trees u us) rest ts many h =
      let w : Leads loose (marks_of l ++ (marks_in ls ++ rest)) (u ∷ (list_of us ++ ts)) = subst (λ (ms : List Mark). Leads loose ms (u ∷ (list_of us ++ ts))) (append_assoc (marks_of l) (marks_in ls) rest) h in
      let a : Meets loose l u × Leads loose (marks_in ls ++ rest) (list_of us ++ ts) = leads_back loose l u (marks_in ls ++ rest) (list_of us ++ ts) w in
      let b : MeetEach loose ls us × Leads loose rest ts = leads_back_each loose ls us rest ts (omega (arith, many)) a.1 in
      ((a.0, b.0), b.1)

  leads_back_all : (loose : Bool) (ls : Trees) (x : ℕ) (rest : List Mark) (ts : List Tree) → Leads loose (marks_in ls ++ rest) (replicate (length (list_of ls)) (variable x) ++ ts) → Leads loose rest ts
  leads_back_all loose no_trees x rest ts h = h
  leads_back_all loose (more_trees l ls) x rest ts h =
      let behind = replicate (length (list_of ls)) (variable x) ++ ts in
      let w : Leads loose (marks_of l ++ (marks_in ls ++ rest)) (variable x ∷ behind) = subst (λ (ms : List Mark). Leads loose ms (variable x ∷ behind)) (append_assoc (marks_of l) (marks_in ls) rest) h in
      leads_back_all loose ls x rest ts (leads_back loose l (variable x) (marks_in ls ++ rest) behind w).1

-- a left side whose marks lead through the term meets it
pub meets_back : (loose : Bool) (l t : Tree) → Leads loose (marks_of l) (t ∷ []) → Meets loose l t
meets_back loose l t h = (leads_back loose l t [] [] (subst (λ (ms : List Mark). Leads loose ms (t ∷ [])) (sym (append-nil (marks_of l))) h)).0
