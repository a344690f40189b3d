-- Each signature has a precedence, and the constraint rules of a run stay orderable.
use Rattle.std.proofs.Common.{subst, arith, List, [], ◌∷◌, Contains, ⊎_elim}
use Rattle.kb_lemmas.proofs.Membership.{contains_cases, contains_behind, contains_first}
use Rattle.kb_term.specs.Rule.{Rule, IsVariantRule}
use Rattle.kb_term.specs.Signature.{Signature, Problem}
use Rattle.kb_term.specs.Proving.{IsPath}
use Rattle.kb_cert.specs.Family.{IsOrderable}
use Rattle.kb_laws.specs.Completion.{KbState, KbStep, deduce, orient, delete, simplify, compose, collapse, Has, Keeps, KbFollows, kb_start, IsKbRun}
use Rattle.kb_laws.proofs.CompletionLaws.{has_rule}
use Rattle.kb_cert.proofs.FamilyLaws.{nothing_orderable}
use Rattle.kb_cert.proofs.Ordering.{IsRenamedOf, orders_renamed}

renamed_of : (qs : List Rule) (r : Rule) → Has IsVariantRule qs r → IsRenamedOf qs r
renamed_of qs r (q, i, (f, back, n, k)) = (q, i, f, n.there, k.there)

pub orderable_variants : (g : Signature) (qs rs : List Rule) → ((r : Rule) → Contains rs r → Has IsVariantRule qs r) → IsOrderable g qs → IsOrderable g rs
orderable_variants g qs rs h (c, m, o) = (c, m, orders_renamed c qs rs (λ r i. renamed_of qs r (h r i)) o)

kept_orderable : (g : Signature) (a b : KbState) → Keeps IsVariantRule a.constraints b.constraints → IsOrderable g a.constraints → IsOrderable g b.constraints
kept_orderable g a b k o = orderable_variants g a.constraints b.constraints (λ r i. (k r).1 (has_rule b.constraints r i)) o

pub step_orderable : (g : Signature) (a b : KbState) → KbStep g a b → IsOrderable g a.constraints → IsOrderable g b.constraints
step_orderable g a b (deduce u s t w h k ge kr kc) o = kept_orderable g a b kc o
step_orderable g a b (orient s t n l gr gc) o =
    let x : Rule = record { left = s; right = t } in
    orderable_variants g (x ∷ a.constraints) b.constraints (λ r i. ⊎_elim (λ h. (h.0, contains_behind x a.constraints h.0 h.1, h.2)) (λ v. (x, contains_first x a.constraints, v)) ((gc r).1 (has_rule b.constraints r i))) n
step_orderable g a b (delete s l kr kc) o = kept_orderable g a b kc o
step_orderable g a b (simplify s t u h l kr kc) o = kept_orderable g a b kc o
step_orderable g a b (compose s t u q p i n h ke l kc) o = kept_orderable g a b kc o
step_orderable g a b (collapse s t u q p i n h ge l kc) o = kept_orderable g a b kc o

path_orderable : (g : Signature) (path : List KbState) (a b : KbState) → IsPath (KbStep g) path a b → IsOrderable g a.constraints → IsOrderable g b.constraints
path_orderable g [] a b e o = subst (λ z. IsOrderable g z.constraints) e o
path_orderable g (x ∷ path) a b (h, k) o = path_orderable g path x b k (step_orderable g a x h o)

follows_orderable : (g : Signature) (states : List KbState) (old : KbState) → KbFollows g old states → IsOrderable g old.constraints → (a : KbState) → Contains states a → IsOrderable g a.constraints
follows_orderable g [] old f o a i = absurd (omega arith)
follows_orderable g (new ∷ states) old (h, f) o a i =
    let d : IsOrderable g new.constraints = kept_orderable g h.1 new h.3.constraints (path_orderable g h.0 old h.1 h.2 o) in
    ⊎_elim (λ e. subst (λ (z : KbState). IsOrderable g z.constraints) e d) (λ j. follows_orderable g states new f d a j) (contains_cases new states a i)

-- in a run the constraint rules of each state are orderable
pub run_orderable : (problem : Problem) (states : List KbState) → IsKbRun problem states → (a : KbState) → Contains states a → IsOrderable problem.signature a.constraints
run_orderable problem states run a i = follows_orderable problem.signature states (kb_start problem) run (nothing_orderable problem.signature) a i
