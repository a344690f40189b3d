-- The answer of normalising is one: no term has two steps of the strategy, so the longer of two runs goes on from the end of the shorter.
use Rattle.std.proofs.Common.{ℕ, suc, ◌<◌, ◌≡◌, ◌⊎◌, inl, inr, ⊎_elim, refl, sym, ap, ap₂, ◌∙◌, subst, arith, List, [], ◌∷◌, ◌++◌, length, length-append, Contains, Some, None}
use Rattle.std.specs.Prelude.{◌≤◌, All, false, slice_get}
use Rattle.std.proofs.lemmas.Bool.{cases_lt, cases_order}
use Rattle.std.proofs.lemmas.Option.{slice_get-get_or, same_Some}
use Rattle.kb_lemmas.proofs.Membership.{contains_first, contains_behind}
use Rattle.kb_term.specs.Tree.{Tree}
use Rattle.kb_term.specs.Position.{replace_at}
use Rattle.kb_term.specs.Pair.{term_limit}
use Rattle.kb_term.specs.Rule.{Rule}
use Rattle.kb_term.specs.Substitution.{instance}
use Rattle.kb_term.specs.Proving.{IsPath, RewritesAt}
use Rattle.kb_term.specs.declared.limit.Limit.{Limit}
use Rattle.kb_term.proofs.Instances.{agree_at, instance-agree}
use Rattle.kb_term.proofs.Steps.{occurs_from, occurs_to}
use Rattle.kb_term.proofs.Subtrees.{replace-there}
use Rattle.kb_rewrite.specs.NormalForm.{IsRedex, IsFirstRedex, IsNormal, HasRedex, StrategyStep, IsRunWithinLimits, HoldVariables, Normalised, form, long, large, NormalisesTo}
use Rattle.kb_rewrite.proofs.FirstRedexes.{rule_inside}
use Rattle.kb_rewrite.proofs.Irreducible.{step_from}

-- of two places in one list one is before the other, or they are one
split_once : {X : Type 0} (b c a d : List X) (p q : X) → b ++ p ∷ a ≡ c ++ q ∷ d → Contains c p ⊎ (Contains b q ⊎ (p ≡ q))
split_once [] [] a d p q e = inr (inr (cc))
split_once [] (y ∷ c) a d p q e =
    let same : y ≡ p = cc in
    inl (subst (Contains (y ∷ c)) same (contains_first y c))
split_once (x ∷ b) [] a d p q e =
    let same : x ≡ q = cc in
    inr (inl (subst (Contains (x ∷ b)) same (contains_first x b)))
split_once (x ∷ b) (y ∷ c) a d p q e = ⊎_elim (λ h. inl (contains_behind y c p h)) (⊎_elim (λ h. inr (inl (contains_behind x b q h))) (λ h. inr (inr h))) (split_once b c a d p q (cc))

-- the first redex is one
first_once : (rules : List Rule) (t : Tree) (p q : List ℕ) (i j : ℕ) → IsFirstRedex rules false t p i → IsFirstRedex rules false t q j → (p ≡ q) × (i ≡ j)
first_once rules t p q i j one other =
    ⊎_elim
    (λ c. absurd (other.none_before p i c one.redex))
    (⊎_elim (λ c. absurd (one.none_before q j c other.redex)) (λ e. (e, number e)))
    (split_once one.before other.before one.after other.after p q (sym one.in_preorder ∙ other.in_preorder))
  where
    number : p ≡ q → i ≡ j
    number e =
        ⊎_elim
        (λ same. same)
        (⊎_elim
        (λ less. absurd (other.first_rule i less (subst (λ r. IsRedex rules false t r i) e one.redex)))
        (λ less. absurd (one.first_rule j less (subst (λ r. IsRedex rules false t r j) (sym e) other.redex))))
        (cases_order i j)

-- a rule that holds its variables rewrites at a position in one way
rewrites_once : (rules : List Rule) (rule : Rule) (p : List ℕ) (t u v : Tree) → HoldVariables rules → Contains rules rule → RewritesAt rule p t u → RewritesAt rule p t v → u ≡ v
rewrites_once rules rule p t u v held c (m, w) (k, z) =
    let same : instance m rule.left ≡ instance k rule.left = same_Some _ _ (sym w.redex ∙ z.redex) in
    let right = instance-agree m k rule.right (λ n o. agree_at m k rule.left same n (occurs_from n rule.left (held rule c n (occurs_to n rule.right o)))) in
    same_Some _ _ (sym w.result ∙ ap (replace_at t p) right ∙ z.result)

-- a term has one step of the strategy at most
step_once : (rules : List Rule) → HoldVariables rules → (t u v : Tree) → StrategyStep rules t u → StrategyStep rules t v → u ≡ v
step_once rules held t u v (p, i, one, w) (q, j, other, z) =
    let same = first_once rules t p q i j one other in
    let rule = one.redex.rule in
    let rule_is : other.redex.rule ≡ rule = same_Some _ _ (sym other.redex.there ∙ ap (slice_get rules) (sym same.1) ∙ one.redex.there) in
    let inside = rule_inside rules i rule one.redex.there in
    let among : Contains rules rule = (i, inside, same_Some _ _ (sym (slice_get-get_or rules i rule inside) ∙ one.redex.there)) in
    rewrites_once rules rule p t u v held among w (subst (λ (r : Rule). RewritesAt r p t v) rule_is (subst (λ r. RewritesAt other.redex.rule r t v) (sym same.0) z))

-- the longer of two paths goes on from the end of the shorter
goes_on : {X : Type 0} (R : X → X → Type 0) → ((s t u : X) → R s t → R s u → t ≡ u) → (path more : List X) (s t u : X) → IsPath R path s t → IsPath R more s u → length path ≤ length more → (rest : List X) × (more ≡ path ++ rest) × IsPath R rest t u
goes_on R once [] more s t u e h l = (more, refl, subst (λ x. IsPath R more x u) e h)
goes_on R once (x ∷ path) [] s t u h g l = absurd (omega (arith, l))
goes_on R once (x ∷ path) (y ∷ more) s t u h g l =
    let same : y ≡ x = once s y x g.0 h.0 in
    let on = goes_on R once path more x t u h.1 (subst (λ z. IsPath R more z u) same g.1) (omega (arith, l)) in
    (on.0, ap₂ (λ z zs. z ∷ zs) same on.1, on.2)

all_at : {X : Type 0} (P : X → Type 0) (path rest : List X) (v : X) → All P (path ++ v ∷ rest) → P v
all_at P [] rest v h = h 0 v (omega arith)
all_at P (x ∷ path) rest v h = all_at P path rest v (λ k d p. h (suc k) d (omega (arith, p)))

-- where a run of k steps that ends at u stops with the answer
abbrev Stops : List Rule → Normalised → ℕ → Tree → Type 0
Stops rules (form w n) k u = (w ≡ u) × (n ≡ k) × (k ≤ 10000) × IsNormal rules u
Stops rules (long n) k u = (n ≡ 10000) × (k ≡ 10000) × HasRedex rules u
Stops rules (large l) k u = (k < 10000) × ((v : Tree) × StrategyStep rules u v × (term_limit v ≡ Some l))

abbrev StopsAfter : List Rule → Tree → Normalised → Type 0
StopsAfter rules t a = (path : List Tree) × (u : Tree) × IsRunWithinLimits rules path t u × Stops rules a (length path) u

stops : (rules : List Rule) (t : Tree) (a : Normalised) → NormalisesTo rules t a → StopsAfter rules t a
stops rules t (form w n) (path, h, e, few, normal) = (path, w, h, (refl, sym e, omega (arith, e, few), normal))
stops rules t (long n) (d, path, u, h, e, redex) = (path, u, h, (d, e ∙ d, redex))
stops rules t (large l) (path, u, v, h, few, s, e) = (path, u, h, (few, (v, s, e)))

few_steps : (rules : List Rule) (a : Normalised) (k : ℕ) (u : Tree) → Stops rules a k u → k ≤ 10000
few_steps rules (form w n) k u s = s.2
few_steps rules (long n) k u s = omega (arith, s.1)
few_steps rules (large l) k u s = omega (arith, s.0)

-- a term with a redex isn't normal
not_normal : (rules : List Rule) (u : Tree) → HasRedex rules u → ¬ IsNormal rules u
not_normal rules u (p, i, redex) normal =
    let m = redex.matches.2.0 in
    let rule = redex.rule in
    let at = redex.matches.1 ∙ ap Some (sym redex.matches.2.1) in
    let made = replace-there p u (instance m rule.left) (instance m rule.right) at in
    let inside = rule_inside rules i rule redex.there in
    normal made.0 (rule, (i, inside, same_Some _ _ (sym (slice_get-get_or rules i rule inside) ∙ redex.there)), p, (m, record { redex = at; result = made.1 }))

some_none : (l : Limit) → ¬ (None ≡ Some l)
some_none l e = cc

-- two answers at which runs of one length stop at one term
stops_once : (rules : List Rule) → HoldVariables rules → (a b : Normalised) (k : ℕ) (u : Tree) → Stops rules a k u → Stops rules b k u → a ≡ b
stops_once rules held (form w n) (form x m) k u s z = ap₂ form (s.0 ∙ sym z.0) (s.1 ∙ sym z.1)
stops_once rules held (form w n) (long m) k u s z = absurd (not_normal rules u z.2 s.3)
stops_once rules held (form w n) (large l) k u s z = absurd (s.3 z.1.0 (step_from rules u z.1.0 z.1.1))
stops_once rules held (long n) (form x m) k u s z = absurd (not_normal rules u s.2 z.3)
stops_once rules held (long n) (long m) k u s z = ap long (s.0 ∙ sym z.0)
stops_once rules held (long n) (large l) k u s z = absurd (omega (arith, s.1, z.0))
stops_once rules held (large l) (form x m) k u s z = absurd (z.3 s.1.0 (step_from rules u s.1.0 s.1.1))
stops_once rules held (large l) (long m) k u s z = absurd (omega (arith, s.0, z.1))
stops_once rules held (large l) (large m) k u s z = ap large (same_Some _ _ (sym s.1.2 ∙ ap term_limit (step_once rules held u s.1.0 z.1.0 s.1.1 z.1.1) ∙ z.1.2))

-- no answer stops a run that goes on within the limits
no_stop : (rules : List Rule) → HoldVariables rules → (a : Normalised) (k : ℕ) (u v : Tree) → Stops rules a k u → StrategyStep rules u v → term_limit v ≡ None → k < 10000 → ⊥
no_stop rules held (form w n) k u v s r small few = s.3 v (step_from rules u v r)
no_stop rules held (long n) k u v s r small few = omega (arith, s.1, few)
no_stop rules held (large l) k u v s r small few = some_none l (sym small ∙ ap term_limit (step_once rules held u v s.1.0 r s.1.1) ∙ s.1.2)

-- the run with fewer steps first
in_order : (rules : List Rule) → HoldVariables rules → (t : Tree) (a b : Normalised) (one : StopsAfter rules t a) (other : StopsAfter rules t b) → length one.0 ≤ length other.0 → a ≡ b
in_order rules held t a b (path, u, h, s) (more, w, g, z) l = go (goes_on (StrategyStep rules) (step_once rules held) path more t u w h.0 g.0 l)
  where
    go : ((rest : List Tree) × (more ≡ path ++ rest) × IsPath (StrategyStep rules) rest u w) → a ≡ b
    go ([], e, d) =
        let long_as : length more ≡ length path = omega (arith, ap length e, length-append path []) in
        stops_once rules held a b (length path) u s (subst (λ x. Stops rules b (length path) x) (sym d) (subst (λ k. Stops rules b k w) long_as z))
    go (v ∷ rest, e, (r, d)) =
        let small = all_at (λ x. term_limit x ≡ None) path rest v (subst (All (λ x. term_limit x ≡ None)) e g.1) in
        absurd (no_stop rules held a (length path) u v s r small (omega (arith, few_steps rules b (length more) w z, ap length e, length-append path (v ∷ rest))))

pub answers_once : (rules : List Rule) → HoldVariables rules → (t : Tree) (a b : Normalised) → NormalisesTo rules t a → NormalisesTo rules t b → a ≡ b
answers_once rules held t a b x y =
    let one = stops rules t a x in
    let other = stops rules t b y in
    ⊎_elim (λ less. in_order rules held t a b one other (omega (arith, less))) (λ most. sym (in_order rules held t b a other one most)) (cases_lt (length one.0) (length other.0))
