-- What each state of a run of completion has: well-formed equations, rules over the signature, and rules that are chains of constraint rules.
use Rattle.std.proofs.Common.{ℕ, ◌≡◌, inl, inr, refl, sym, ap, ◌∙◌, subst, subst₂, arith, List, [], ◌∷◌, Contains, ⊎_elim}
use Rattle.kb_lemmas.proofs.Membership.{contains_cases}
use Rattle.kb_term.specs.Tree.{Tree, variable, apply, Trees, more_trees}
use Rattle.kb_term.specs.Substitution.{instance}
use Rattle.kb_term.specs.Rule.{Rule, IsVariantRule}
use Rattle.kb_term.specs.Signature.{Signature, Problem}
use Rattle.kb_term.specs.Proving.{IsPath}
use Rattle.kb_laws.specs.Completion.{KbState, KbStep, deduce, orient, delete, simplify, compose, collapse, IsSameState, Has, Keeps, KbFollows, kb_start, IsKbRun}
use Rattle.kb_term.proofs.Relation.{Reaches}
use Rattle.kb_term.proofs.Steps.{Step, StepIn, at_root, inside, here, there}
use Rattle.kb_term.proofs.Chains.{reaches_refl, reaches_one, reaches_step, reaches_trans, reaches_map}
use Rattle.kb_term.proofs.Bridge.{step_from_position}
use Rattle.kb_term.proofs.Instances.{instance-instance, instance-variable}
use Rattle.kb_term.proofs.StepsInside.{step-instance}
use Rattle.kb_laws.proofs.CompletionLaws.{variant_itself, has_rule}

-- a chain with at least one step
abbrev pub Chain : {A : Type 0} (R : A → A → Type 0) → A → A → Type 0
Chain {A} R s t = (u : A) × R s u × Reaches R u t

chain_map : {A B : Type 0} (R : A → A → Type 0) (S : B → B → Type 0) (f : A → B) → ((s t : A) → R s t → S (f s) (f t)) → (s t : A) → Chain R s t → Chain S (f s) (f t)
chain_map R S f h s t (u, r, c) = (f u, h s u r, reaches_map R S f (λ x y k. reaches_one S (f x) (f y) (h x y k)) u t c)

chain_reaches : {A : Type 0} (R : A → A → Type 0) (s t : A) → Chain R s t → Reaches R s t
chain_reaches R s t (u, r, c) = reaches_step R s u t r c

pub chain_trans : {A : Type 0} (R : A → A → Type 0) (s t u : A) → Chain R s t → Chain R t u → Chain R s u
chain_trans R s t u (v, r, c) d = (v, r, reaches_trans R v t u c (chain_reaches R t u d))

chain_instance : (P : Rule → Type 0) (m : ℕ → Tree) (s t : Tree) → Chain (Step P) s t → Chain (Step P) (instance m s) (instance m t)
chain_instance P m s t c = chain_map (Step P) (Step P) (instance m) (λ x y h. step-instance P m h) s t c

-- a step by rules each of which is a chain is a chain
mutual
  pub step_chain : (P Q : Rule → Type 0) → ((r : Rule) → P r → Chain (Step Q) r.left r.right) → {s t : Tree} → Step P s t → Chain (Step Q) s t
  step_chain P Q h (at_root (r, m, i, e, d)) = subst₂ (Chain (Step Q)) (sym e) (sym d) (chain_instance Q m r.left r.right (h r i))
  step_chain P Q h (inside {f = f} {ts = ts} {us = us} k) = chain_map (StepIn Q) (Step Q) (apply f) (λ x y l. inside l) ts us (step_in_chain P Q h k)

  step_in_chain : (P Q : Rule → Type 0) → ((r : Rule) → P r → Chain (Step Q) r.left r.right) → {ss ts : Trees} → StepIn P ss ts → Chain (StepIn Q) ss ts
  step_in_chain P Q h (here {t = t} {u = u} {ts = ts} k) = chain_map (Step Q) (StepIn Q) (λ x. more_trees x ts) (λ x y l. here l) t u (step_chain P Q h k)
  step_in_chain P Q h (there {t = t} {ts = ts} {us = us} k) = chain_map (StepIn Q) (StepIn Q) (more_trees t) (λ x y l. there l) ts us (step_in_chain P Q h k)

-- a step by a variant of a rule is one by the rule
mutual
  step_variant : (P Q : Rule → Type 0) → ((r : Rule) → P r → (q : Rule) × Q q × IsVariantRule q r) → {s t : Tree} → Step P s t → Step Q s t
  step_variant P Q h (at_root (r, m, i, e, d)) =
      let v = h r i in
      let n = v.2.2 in
      let k = v.2.3 in
      at_root (v.0, (λ x. m (v.2.0 x)), v.1, e ∙ ap (instance m) (sym n.there) ∙ instance-instance m (λ x. variable (v.2.0 x)) v.0.left, d ∙ ap (instance m) (sym k.there) ∙ instance-instance m (λ x. variable (v.2.0 x)) v.0.right)
  step_variant P Q h (inside k) = inside (step_in_variant P Q h k)

  step_in_variant : (P Q : Rule → Type 0) → ((r : Rule) → P r → (q : Rule) × Q q × IsVariantRule q r) → {ss ts : Trees} → StepIn P ss ts → StepIn Q ss ts
  step_in_variant P Q h (here k) = here (step_variant P Q h k)
  step_in_variant P Q h (there k) = there (step_in_variant P Q h k)

-- each rule of the state is a chain of constraint rules
abbrev pub AreChains : KbState → Type 0
AreChains a = (r : Rule) → Contains a.rules r → Chain (Step (Contains a.constraints)) r.left r.right

chain_variant : (P : Rule → Type 0) (q r : Rule) → IsVariantRule q r → Chain (Step P) q.left q.right → Chain (Step P) r.left r.right
chain_variant P q r (f, back, n, k) c = subst₂ (Chain (Step P)) n.there k.there (chain_instance P (λ x. variable (f x)) q.left q.right c)

pub has_chain : (a : KbState) → AreChains a → (r : Rule) → Has IsVariantRule a.rules r → Chain (Step (Contains a.constraints)) r.left r.right
has_chain a h r (q, i, v) = chain_variant (Contains a.constraints) q r v (h q i)

-- a chain of the old constraint rules is one of the new
lift : (a b : KbState) → ((r : Rule) → Contains a.constraints r → Has IsVariantRule b.constraints r) → (s t : Tree) → Chain (Step (Contains a.constraints)) s t → Chain (Step (Contains b.constraints)) s t
lift a b h s t c = chain_map (Step (Contains a.constraints)) (Step (Contains b.constraints)) (λ x. x) (λ x y k. step_variant (Contains a.constraints) (Contains b.constraints) h k) s t c

lift_kept : (a b : KbState) → Keeps IsVariantRule a.constraints b.constraints → (s t : Tree) → Chain (Step (Contains a.constraints)) s t → Chain (Step (Contains b.constraints)) s t
lift_kept a b k s t c = lift a b (λ r i. (k r).0 (has_rule a.constraints r i)) s t c

kept_chained : (a b : KbState) → AreChains a → Keeps IsVariantRule a.rules b.rules → Keeps IsVariantRule a.constraints b.constraints → AreChains b
kept_chained a b h kr kc r i = lift_kept a b kc r.left r.right (has_chain a h r ((kr r).1 (has_rule b.rules r i)))

pub step_chained : (g : Signature) (a b : KbState) → KbStep g a b → AreChains a → AreChains b
step_chained g a b (deduce u s t w h k ge kr kc) c = kept_chained a b c kr kc
step_chained g a b (orient s t o l gr gc) c = λ r i. ⊎_elim (λ d. lift a b (λ q j. (gc q).0 (inl (has_rule a.constraints q j))) r.left r.right (has_chain a c r d)) (λ v. new r v) ((gr r).1 (has_rule b.rules r i))
  where
    x : Rule
    x = record { left = s; right = t }

    new : (r : Rule) → IsVariantRule x r → Chain (Step (Contains b.constraints)) r.left r.right
    new r v =
        let q = (gc x).0 (inr (variant_itself x)) in
        let one : Step (λ y. x ≡ y) s t = at_root (x, variable, refl, sym (instance-variable s), sym (instance-variable t)) in
        let two : Step (Contains b.constraints) s t = step_variant (λ y. x ≡ y) (Contains b.constraints) (λ y e. (q.0, q.1, subst (IsVariantRule q.0) e q.2)) one in
        chain_variant (Contains b.constraints) x r v (t, two, reaches_refl (Step (Contains b.constraints)) t)
step_chained g a b (delete s l kr kc) c = kept_chained a b c kr kc
step_chained g a b (simplify s t u h l kr kc) c = kept_chained a b c kr kc
step_chained g a b (compose s t u q p i other h ke (rest, l, gr) kc) c = λ r j. ⊎_elim (λ d. lift_kept a b kc r.left r.right (has_chain a c r ((l.0 r).0 (inl d)))) (λ v. new r v) ((gr r).1 (has_rule b.rules r j))
  where
    x : Rule
    x = record { left = s; right = t }

    y : Rule
    y = record { left = s; right = u }

    new : (r : Rule) → IsVariantRule y r → Chain (Step (Contains b.constraints)) r.left r.right
    new r v =
        let one : Step (Contains a.rules) t u = step_from_position (Contains a.rules) t u (q, i, p, h) in
        let two = chain_trans (Step (Contains a.constraints)) s t u (has_chain a c x ((l.0 x).0 (inr (variant_itself x)))) (step_chain (Contains a.rules) (Contains a.constraints) c one) in
        chain_variant (Contains b.constraints) y r v (lift_kept a b kc s u two)
step_chained g a b (collapse s t u q p i other h ge l kc) c = λ r j. lift_kept a b kc r.left r.right (has_chain a c r ((l.0 r).0 (inl (has_rule b.rules r j))))

same_chained : (a b : KbState) → IsSameState a b → AreChains a → AreChains b
same_chained a b h c = kept_chained a b c h.rules h.constraints

path_chained : (g : Signature) (path : List KbState) (a b : KbState) → IsPath (KbStep g) path a b → AreChains a → AreChains b
path_chained g [] a b e c = subst AreChains e c
path_chained g (x ∷ path) a b (h, k) c = path_chained g path x b k (step_chained g a x h c)

follows_chained : (g : Signature) (states : List KbState) (old : KbState) → KbFollows g old states → AreChains old → (a : KbState) → Contains states a → AreChains a
follows_chained g [] old f c a i = absurd (omega arith)
follows_chained g (new ∷ states) old (h, f) c a i =
    let d : AreChains new = same_chained h.1 new h.3 (path_chained g h.0 old h.1 h.2 c) in
    ⊎_elim (λ e. subst AreChains e d) (λ j. follows_chained g states new f d a j) (contains_cases new states a i)

-- in a run each rule of a state is a chain of its constraint rules
pub run_chained : (problem : Problem) (states : List KbState) → IsKbRun problem states → (a : KbState) → Contains states a → AreChains a
run_chained problem states run a i = follows_chained problem.signature states (kb_start problem) run (λ r j. absurd (omega arith)) a i
