-- Each step of completion keeps what the equations and the rules together prove.
use Rattle.std.proofs.Common.{ℕ, ◌≡◌, ◌⊎◌, inl, inr, refl, ap, subst, arith, List, [], ◌∷◌, ◌++◌, Contains, ⊎_elim, ◌↔◌, append-nil}
use Rattle.std.proofs.lemmas.List.Elements.{Contains-append_cases, Contains-append_left, Contains-append_right}
use Rattle.kb_lemmas.proofs.Membership.{contains_cases, contains_behind, contains_first}
use Rattle.kb_term.specs.Tree.{Tree}
use Rattle.kb_term.specs.Rule.{Rule, IsVariantRule}
use Rattle.kb_term.specs.Substitution.{IsRenaming}
use Rattle.kb_term.specs.Signature.{Signature, Problem}
use Rattle.kb_term.specs.Proving.{Proves, EquationStep, RewritesAt, IsPath, equations_of}
use Rattle.kb_term.specs.Proving as Proving
use Rattle.kb_term.specs.Pair.{IsSameEquation}
use Rattle.kb_laws.specs.Runs.{all_of}
use Rattle.kb_laws.specs.Completion.{KbState, KbStep, deduce, orient, delete, simplify, compose, collapse, IsSameState, Has, Keeps, Gains, KbReaches, KbFollows, kb_start, IsKbRun}
use Rattle.kb_term.proofs.Steps.{Step}
use Rattle.kb_term.proofs.Bridge.{step_from_position, step_to_position, steps_from_path, path_from_steps}
use Rattle.kb_term.proofs.Chains.{reaches_refl}
use Rattle.kb_laws.proofs.Conversion.{Either, Equal, equal_sym, equal_trans, equal_step, equal_rule, equal_made_up, equal_same, equal_variant}
use Rattle.kb_term.proofs.Instances.{instance-variable}

-- the rules of a state, and its equations as rules
abbrev pub Given : KbState → Rule → Type 0
Given a r = Contains a.equations (r.left, r.right) ⊎ Contains a.rules r

-- the second state proves all that the first has
abbrev pub Covers : KbState → KbState → Type 0
Covers b a = (r : Rule) → Given a r → Equal (Given b) r.left r.right

renames_itself : (t : Tree) → IsRenaming (λ n. n) (λ n. n) t t
renames_itself t = record { there = instance-variable t; back_again = instance-variable t }

pub same_equation_itself : (d : Tree × Tree) → IsSameEquation d d
same_equation_itself d = inl ((λ n. n), (λ n. n), renames_itself d.0, renames_itself d.1)

pub variant_itself : (r : Rule) → IsVariantRule r r
variant_itself r = ((λ n. n), (λ n. n), renames_itself r.left, renames_itself r.right)

turned : {r back : ℕ → ℕ} {s t : Tree} → IsRenaming r back s t → IsRenaming back r t s
turned h = record { there = h.back_again; back_again = h.there }

variant_sym : (a b : Rule) → IsVariantRule a b → IsVariantRule b a
variant_sym a b (r, back, h, k) = (back, r, turned h, turned k)

pub has_equation : (es : List (Tree × Tree)) (d : Tree × Tree) → Contains es d → Has IsSameEquation es d
has_equation es d i = (d, i, same_equation_itself d)

pub has_rule : (rs : List Rule) (r : Rule) → Contains rs r → Has IsVariantRule rs r
has_rule rs r i = (r, i, variant_itself r)

equal_has : (b : KbState) (d : Tree × Tree) → Has IsSameEquation b.equations d → Equal (Given b) d.0 d.1
equal_has b d (e, i, v) = equal_same (Given b) e d v (equal_rule (Given b) (record { left = e.0; right = e.1 }) (inl i))

equal_has_rule : (b : KbState) (r : Rule) → Has IsVariantRule b.rules r → Equal (Given b) r.left r.right
equal_has_rule b r (q, i, v) = equal_variant (Given b) q r (equal_rule (Given b) q (inr i)) v

covers_by : (b a : KbState) → ((d : Tree × Tree) → Contains a.equations d → Equal (Given b) d.0 d.1) → ((r : Rule) → Contains a.rules r → Equal (Given b) r.left r.right) → Covers b a
covers_by b a h k r (inl i) = h (r.left, r.right) i
covers_by b a h k r (inr i) = k r i

-- steps by rules that the state proves
equal_by : (b : KbState) (rs : List Rule) (s t : Tree) → ((r : Rule) → Contains rs r → Equal (Given b) r.left r.right) → Proving.Step rs s t → Equal (Given b) s t
equal_by b rs s t h k = equal_made_up (Contains rs) (Given b) h s t (equal_step (Contains rs) s t (step_from_position (Contains rs) s t k))

equal_by_one : (b : KbState) (q : Rule) (p : List ℕ) (s t : Tree) → Equal (Given b) q.left q.right → RewritesAt q p s t → Equal (Given b) s t
equal_by_one b q p s t h k = equal_made_up (λ r. q ≡ r) (Given b) (λ r e. subst (λ (x : Rule). Equal (Given b) x.left x.right) e h) s t (equal_step (λ r. q ≡ r) s t (step_from_position (λ r. q ≡ r) s t (q, refl, p, k)))

-- lists with the same members
kept_equations : (b : KbState) (ds : List (Tree × Tree)) → Keeps IsSameEquation ds b.equations → (d : Tree × Tree) → Contains ds d → Equal (Given b) d.0 d.1
kept_equations b ds k d i = equal_has b d ((k d).0 (has_equation ds d i))

kept_back : (a : KbState) (es : List (Tree × Tree)) → Keeps IsSameEquation a.equations es → (d : Tree × Tree) → Contains es d → Equal (Given a) d.0 d.1
kept_back a es k d i = equal_has a d ((k d).1 (has_equation es d i))

kept_rules : (b : KbState) (rs : List Rule) → Keeps IsVariantRule rs b.rules → (r : Rule) → Contains rs r → Equal (Given b) r.left r.right
kept_rules b rs k r i = equal_has_rule b r ((k r).0 (has_rule rs r i))

kept_rules_back : (a : KbState) (rs : List Rule) → Keeps IsVariantRule a.rules rs → (r : Rule) → Contains rs r → Equal (Given a) r.left r.right
kept_rules_back a rs k r i = equal_has_rule a r ((k r).1 (has_rule rs r i))

-- a list that gains a member
gained_equations : (a : KbState) (ds es : List (Tree × Tree)) (x : Tree × Tree) → Gains IsSameEquation ds es x → ((d : Tree × Tree) → Has IsSameEquation ds d → Equal (Given a) d.0 d.1) → Equal (Given a) x.0 x.1 → (d : Tree × Tree) → Contains es d → Equal (Given a) d.0 d.1
gained_equations a ds es x g h c d i = ⊎_elim (λ k. h d k) (λ v. equal_same (Given a) x d v c) ((g d).1 (has_equation es d i))

gained_rules : (a : KbState) (qs rs : List Rule) (x : Rule) → Gains IsVariantRule qs rs x → ((r : Rule) → Has IsVariantRule qs r → Equal (Given a) r.left r.right) → Equal (Given a) x.left x.right → (r : Rule) → Contains rs r → Equal (Given a) r.left r.right
gained_rules a qs rs x g h c r i = ⊎_elim (λ k. h r k) (λ v. equal_variant (Given a) x r c v) ((g r).1 (has_rule rs r i))

step_covers : (signature : Signature) (old new : KbState) → KbStep signature old new → Covers new old × Covers old new
step_covers g a b (deduce u s t w h k ge kr kc) = (
  covers_by b a (λ d i. equal_has b d ((ge d).0 (inl (has_equation a.equations d i)))) (kept_rules b a.rules kr),
  covers_by a b (gained_equations a a.equations b.equations (s, t) ge (equal_has a)
      (equal_trans (Given a) s u t (equal_sym (Given a) u s (equal_by a a.rules u s (λ r i. equal_rule (Given a) r (inr i)) h)) (equal_by a a.rules u t (λ r i. equal_rule (Given a) r (inr i)) k)))
      (kept_rules_back a b.rules kr),
)
step_covers g a b (orient s t o l gr gc) =
    let q : Rule = record { left = s; right = t } in (
      covers_by b a (gained_equations b b.equations a.equations (s, t) l.0 (equal_has b) (equal_has_rule b q ((gr q).0 (inr (variant_itself q))))) (λ r i. equal_has_rule b r ((gr r).0 (inl (has_rule a.rules r i)))),
      covers_by a b (λ d i. equal_has a d ((l.0 d).0 (inl (has_equation b.equations d i)))) (gained_rules a a.rules b.rules q gr (equal_has_rule a) (equal_has a (s, t) ((l.0 (s, t)).0 (inr (same_equation_itself (s, t)))))),
    )
step_covers g a b (delete s l kr kc) = (
  covers_by b a (gained_equations b b.equations a.equations (s, s) l.0 (equal_has b) (reaches_refl (Step (Either (Given b))) s)) (kept_rules b a.rules kr),
  covers_by a b (λ d i. equal_has a d ((l.0 d).0 (inl (has_equation b.equations d i)))) (kept_rules_back a b.rules kr),
)
step_covers g a b (simplify s t u h (rest, l, ge) kr kc) =
    let new_ut : Equal (Given b) u t = equal_has b (u, t) ((ge (u, t)).0 (inr (same_equation_itself (u, t)))) in
    let old_st : Equal (Given a) s t = equal_has a (s, t) ((l.0 (s, t)).0 (inr (same_equation_itself (s, t)))) in (
      covers_by b a (gained_equations b rest a.equations (s, t) l.0 (λ d i. equal_has b d ((ge d).0 (inl i))) (equal_trans (Given b) s u t (equal_by b a.rules s u (kept_rules b a.rules kr) h) new_ut)) (kept_rules b a.rules kr),
      covers_by a b (gained_equations a rest b.equations (u, t) ge (λ d i. equal_has a d ((l.0 d).0 (inl i))) (equal_trans (Given a) u s t (equal_sym (Given a) s u (equal_by a a.rules s u (λ r i. equal_rule (Given a) r (inr i)) h)) old_st)) (kept_rules_back a b.rules kr),
    )
step_covers g a b (compose s t u q p i other h ke (rest, l, gr) kc) =
    let x : Rule = record { left = s; right = t } in
    let y : Rule = record { left = s; right = u } in
    let in_rest : Has IsVariantRule rest q = ⊎_elim (λ k. k) (λ v. absurd (other (variant_sym x q v))) ((l.0 q).1 (has_rule a.rules q i)) in
    let new_q : Equal (Given b) q.left q.right = equal_has_rule b q ((gr q).0 (inl in_rest)) in
    let new_y : Equal (Given b) s u = equal_has_rule b y ((gr y).0 (inr (variant_itself y))) in
    let old_x : Equal (Given a) s t = equal_has_rule a x ((l.0 x).0 (inr (variant_itself x))) in (
      covers_by b a (kept_equations b a.equations ke) (gained_rules b rest a.rules x l.0 (λ r j. equal_has_rule b r ((gr r).0 (inl j))) (equal_trans (Given b) s u t new_y (equal_sym (Given b) t u (equal_by_one b q p t u new_q h)))),
      covers_by a b (kept_back a b.equations ke) (gained_rules a rest b.rules y gr (λ r j. equal_has_rule a r ((l.0 r).0 (inl j))) (equal_trans (Given a) s t u old_x (equal_by_one a q p t u (equal_rule (Given a) q (inr i)) h))),
    )
step_covers g a b (collapse s t u q p i other h ge l kc) =
    let x : Rule = record { left = s; right = t } in
    let in_new : Has IsVariantRule b.rules q = ⊎_elim (λ k. k) (λ (v : IsVariantRule x q). absurd (other (v.0, v.1, v.2))) ((l.0 q).1 (has_rule a.rules q i)) in
    let new_ut : Equal (Given b) u t = equal_has b (u, t) ((ge (u, t)).0 (inr (same_equation_itself (u, t)))) in
    let old_x : Equal (Given a) s t = equal_has_rule a x ((l.0 x).0 (inr (variant_itself x))) in (
      covers_by b a (λ d j. equal_has b d ((ge d).0 (inl (has_equation a.equations d j)))) (gained_rules b b.rules a.rules x l.0 (equal_has_rule b) (equal_trans (Given b) s u t (equal_by_one b q p s u (equal_has_rule b q in_new) h) new_ut)),
      covers_by a b (gained_equations a a.equations b.equations (u, t) ge (equal_has a) (equal_trans (Given a) u s t (equal_sym (Given a) s u (equal_by_one a q p s u (equal_rule (Given a) q (inr i)) h)) old_x)) (λ r j. equal_has_rule a r ((l.0 r).0 (inl (has_rule b.rules r j)))),
    )

same_covers : (a b : KbState) → IsSameState a b → Covers b a × Covers a b
same_covers a b h = (covers_by b a (kept_equations b a.equations h.equations) (kept_rules b a.rules h.rules), covers_by a b (kept_back a b.equations h.equations) (kept_rules_back a b.rules h.rules))

covers_trans : (a b c : KbState) → Covers c b → Covers b a → Covers c a
covers_trans a b c h k r i = equal_made_up (Given b) (Given c) h r.left r.right (k r i)

-- the equations of a list, as rules
abbrev pub Members : List (Tree × Tree) → Rule → Type 0
Members es r = Contains es (r.left, r.right)

pub proves_from : (es : List (Tree × Tree)) (s t : Tree) → Proves es s t → Equal (Members es) s t
proves_from es s t (path, c) = (_, steps_from_path (EquationStep es) (Step (Either (Members es))) (λ x y h. step_from_position (Either (Members es)) x y h) path s t c)

pub proves_to : (es : List (Tree × Tree)) (s t : Tree) → Equal (Members es) s t → Proves es s t
proves_to es s t (n, c) = path_from_steps (EquationStep es) (Step (Either (Members es))) (λ x y h. step_to_position (Either (Members es)) h) n s t c

pub in_equations_of : (rs : List Rule) (r : Rule) → Contains rs r → Contains (equations_of rs) (r.left, r.right)
in_equations_of [] r i = absurd (omega arith)
in_equations_of (q ∷ rs) r i = ⊎_elim (λ e. subst (λ (x : Rule). Contains (equations_of (q ∷ rs)) (x.left, x.right)) e (contains_first (q.left, q.right) (equations_of rs))) (λ j. contains_behind (q.left, q.right) (equations_of rs) (r.left, r.right) (in_equations_of rs r j)) (contains_cases q rs r i)

pub from_equations_of : (rs : List Rule) (r : Rule) → Contains (equations_of rs) (r.left, r.right) → Contains rs r
from_equations_of [] r i = absurd (omega arith)
from_equations_of (q ∷ rs) r i = ⊎_elim (λ (e : (q.left, q.right) ≡ (r.left, r.right)). subst (Contains (q ∷ rs)) (ap (λ x. record { left = x.0; right = x.1 }) e) (contains_first q rs)) (λ j. contains_behind q rs r (from_equations_of rs r j)) (contains_cases (q.left, q.right) (equations_of rs) (r.left, r.right) i)

given_from : (a : KbState) (r : Rule) → Members (all_of a) r → Given a r
given_from a r i = ⊎_elim (λ j. inl j) (λ j. inr (from_equations_of a.rules r j)) (Contains-append_cases a.equations (equations_of a.rules) (r.left, r.right) i)

given_to : (a : KbState) (r : Rule) → Given a r → Members (all_of a) r
given_to a r (inl i) = Contains-append_left a.equations (equations_of a.rules) (r.left, r.right) i
given_to a r (inr i) = Contains-append_right a.equations (equations_of a.rules) (r.left, r.right) (in_equations_of a.rules r i)

covers_proves : (a b : KbState) → Covers b a → (s t : Tree) → Proves (all_of a) s t → Proves (all_of b) s t
covers_proves a b h s t c =
    let x = equal_made_up (Members (all_of a)) (Given b) (λ r i. h r (given_from a r i)) s t (proves_from (all_of a) s t c) in
    proves_to (all_of b) s t (equal_made_up (Given b) (Members (all_of b)) (λ r i. equal_rule (Members (all_of b)) r (given_to b r i)) s t x)

-- each step of completion keeps what equations and rules together prove
pub kb_step_keeps : (signature : Signature) (old new : KbState) → KbStep signature old new → (s t : Tree) → Proves (all_of old) s t ↔ Proves (all_of new) s t
kb_step_keeps g old new h s t = let c = step_covers g old new h in (covers_proves old new c.0 s t, covers_proves new old c.1 s t)

covers_itself : (a : KbState) → Covers a a
covers_itself a r i = equal_rule (Given a) r i

path_covers : (signature : Signature) (path : List KbState) (old new : KbState) → IsPath (KbStep signature) path old new → Covers new old × Covers old new
path_covers g [] old new e = subst (λ x. Covers x old × Covers old x) e (covers_itself old, covers_itself old)
path_covers g (a ∷ path) old new (h, k) =
    let x = step_covers g old a h in
    let y = path_covers g path a new k in
    (covers_trans old a new y.0 x.0, covers_trans new a old x.1 y.1)

reach_covers : (signature : Signature) (old new : KbState) → KbReaches signature old new → Covers new old × Covers old new
reach_covers g old new (path, last, h, k) =
    let x = path_covers g path old last h in
    let y = same_covers last new k in
    (covers_trans old last new y.0 x.0, covers_trans new last old x.1 y.1)

run_covers : (signature : Signature) (states : List KbState) (old : KbState) → KbFollows signature old states → (a : KbState) → Contains states a → Covers a old × Covers old a
run_covers g [] old f a i = absurd (omega arith)
run_covers g (new ∷ states) old (h, f) a i =
    let x = reach_covers g old new h in
    ⊎_elim (λ e. subst (λ z. Covers z old × Covers old z) e x) (λ j. let y = run_covers g states new f a j in (covers_trans old new a y.0 x.0, covers_trans a new old x.1 y.1)) (contains_cases new states a i)

-- in a run from a problem, the equations and rules of each state together prove what the problem's equations prove
pub kb_run_keeps : (problem : Problem) (states : List KbState) → IsKbRun problem states → (a : KbState) → Contains states a → (s t : Tree) → Proves problem.equations s t ↔ Proves (all_of a) s t
kb_run_keeps problem states run a i s t =
    let c = run_covers problem.signature states (kb_start problem) run a i in
    let e : problem.equations ++ [] ≡ problem.equations = append-nil problem.equations in
    subst (λ es. Proves es s t ↔ Proves (all_of a) s t) e (covers_proves (kb_start problem) a c.0 s t, covers_proves a (kb_start problem) c.1 s t)
