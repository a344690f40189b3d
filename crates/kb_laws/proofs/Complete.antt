-- What a complete state of a run gives: a terminating, confluent system that proves what the problem proves.
use Rattle.std.proofs.Common.{ℕ, ◌≡◌, ◌↔◌, inl, inr, refl, sym, ◌∙◌, subst, arith, List, [], ◌∷◌, ◌++◌, All, Contains, ⊎_elim}
use Rattle.std.proofs.lemmas.List.Elements.{All-contains, All-head, All-cons}
use Rattle.kb_lemmas.proofs.Membership.{contains_cases}
use Rattle.kb_term.specs.Tree.{Tree, variable, apply, Trees, no_trees, more_trees}
use Rattle.kb_term.specs.Substitution.{instance, instances, rename}
use Rattle.kb_term.specs.Rule.{Rule, IsRule, IsVariantRule}
use Rattle.kb_term.specs.Signature.{Signature, Problem, HasArity, IsWellFormed, AreWellFormed}
use Rattle.kb_term.specs.Proving.{RewritesAt, IsPath, Proves, equations_of, IsTerminating, IsConfluent, IsJoinable}
use Rattle.kb_term.specs.Proving as Proving
use Rattle.kb_cert.specs.Family.{Orders, IsMember}
use Rattle.kb_cert.specs.declared.certificate.Certificate.{Certificate}
use Rattle.kb_term.specs.Pair.{IsSameEquation}
use Rattle.kb_laws.specs.Complete.{IsCompleteSystem}
use Rattle.kb_laws.specs.Completion.{KbState, KbStep, deduce, orient, delete, simplify, compose, collapse, IsSameState, Has, Keeps, Gains, KbFollows, kb_start, IsKbRun}
use Rattle.kb_term.proofs.Relation.{Reaches}
use Rattle.kb_term.proofs.Steps.{Occurs, OccursIn, occurs_from, occurs_to, Step, StepIn, at_root, inside, here, there}
use Rattle.kb_term.proofs.Bridge.{step_from_position, joinable_from}
use Rattle.kb_laws.proofs.Cleaning.{length-instances}
use Rattle.kb_laws.proofs.Conversion.{Equal, Either, equal_trans, equal_sym, reaches_made_up, equal_rule}
use Rattle.kb_laws.proofs.CompletionLaws.{same_equation_itself, variant_itself, has_equation, has_rule, kb_run_keeps, Members, proves_to, in_equations_of}
pub use Rattle.kb_cert.proofs.Ordering.{all_from}
use Rattle.kb_cert.proofs.FamilyLaws.{ordered_rules, chains_ordered, terminating_by_member}
use Rattle.kb_laws.specs.Overlaps.{OverlapsJoin}
use Rattle.kb_term.specs.Signature.{IsRuleOver}
use Rattle.kb_lpo.proofs.Arities.{keeps_well}
use Rattle.kb_laws.proofs.ConfluenceLaws.{confluent_by_overlaps, joinable_by_confluence}
use Rattle.kb_laws.proofs.RunLaws.{AreChains, run_chained}

-- renamed terms
mutual
  well_renamed : (g : Signature) (f : ℕ → ℕ) (t : Tree) → IsWellFormed g t → IsWellFormed g (rename f t)
  well_renamed g f (variable n) w = tt
  well_renamed g f (apply h ts) w = (subst (HasArity g h) (sym (length-instances (λ x. variable (f x)) ts)) w.0, wells_renamed g f ts w.1)

  wells_renamed : (g : Signature) (f : ℕ → ℕ) (ts : Trees) → AreWellFormed g ts → AreWellFormed g (instances (λ x. variable (f x)) ts)
  wells_renamed g f no_trees w = tt
  wells_renamed g f (more_trees t ts) w = (well_renamed g f t w.0, wells_renamed g f ts w.1)

-- the variables of instances
mutual
  occurs_instance : (m : ℕ → Tree) (x y : ℕ) (t : Tree) → Occurs y t → Occurs x (m y) → Occurs x (instance m t)
  occurs_instance m x y (variable n) o q = subst (λ z. Occurs x (m z)) (sym o) q
  occurs_instance m x y (apply f ts) o q = occurs_instances m x y ts o q

  occurs_instances : (m : ℕ → Tree) (x y : ℕ) (ts : Trees) → OccursIn y ts → Occurs x (m y) → OccursIn x (instances m ts)
  occurs_instances m x y no_trees o q = absurd o
  occurs_instances m x y (more_trees t ts) (inl o) q = inl (occurs_instance m x y t o q)
  occurs_instances m x y (more_trees t ts) (inr o) q = inr (occurs_instances m x y ts o q)

mutual
  occurs_before : (m : ℕ → Tree) (x : ℕ) (t : Tree) → Occurs x (instance m t) → (y : ℕ) × Occurs y t × Occurs x (m y)
  occurs_before m x (variable n) o = (n, refl, o)
  occurs_before m x (apply f ts) o = occurs_before_in m x ts o

  occurs_before_in : (m : ℕ → Tree) (x : ℕ) (ts : Trees) → OccursIn x (instances m ts) → (y : ℕ) × OccursIn y ts × Occurs x (m y)
  occurs_before_in m x no_trees o = absurd o
  occurs_before_in m x (more_trees t ts) (inl o) = let r = occurs_before m x t o in (r.0, inl r.1, r.2)
  occurs_before_in m x (more_trees t ts) (inr o) = let r = occurs_before_in m x ts o in (r.0, inr r.1, r.2)

-- steps bring no new variables
mutual
  step_variables : (P : Rule → Type 0) → ((r : Rule) → P r → IsRule r) → (x : ℕ) {s t : Tree} → Step P s t → Occurs x t → Occurs x s
  step_variables P h x (at_root (r, m, i, e, d)) o =
      let q = occurs_before m x r.right (subst (Occurs x) d o) in
      subst (Occurs x) (sym e) (occurs_instance m x q.0 r.left (occurs_from q.0 r.left ((h r i).holds_variables q.0 (occurs_to q.0 r.right q.1))) q.2)
  step_variables P h x (inside k) o = step_in_variables P h x k o

  step_in_variables : (P : Rule → Type 0) → ((r : Rule) → P r → IsRule r) → (x : ℕ) {ss ts : Trees} → StepIn P ss ts → OccursIn x ts → OccursIn x ss
  step_in_variables P h x (here k) (inl o) = inl (step_variables P h x k o)
  step_in_variables P h x (here k) (inr o) = inr o
  step_in_variables P h x (there k) (inl o) = inl o
  step_in_variables P h x (there k) (inr o) = inr (step_in_variables P h x k o)

renamed_variable : (f : ℕ → ℕ) (t : Tree) (n : ℕ) → rename f t ≡ variable n → (k : ℕ) × t ≡ variable k
renamed_variable f (variable k) n e = (k, refl)
renamed_variable f (apply h ts) n e = absurd (cc)

-- a variant of a rule is a rule
rule_variant : (g : Signature) (q r : Rule) → IsRuleOver g q → IsVariantRule q r → IsRuleOver g r
rule_variant g q r h (f, back, n, k) = record {
  is_rule = record {
    no_variable = λ x e. let v = renamed_variable f q.left x (n.there ∙ e) in h.is_rule.no_variable v.0 v.1;
    holds_variables = λ x c.
        let o = occurs_before (λ y. variable (f y)) x q.right (subst (Occurs x) (sym k.there) (occurs_from x r.right c)) in
        occurs_to x r.left (subst (Occurs x) n.there (occurs_instance (λ y. variable (f y)) x o.0 q.left (occurs_from o.0 q.left (h.is_rule.holds_variables o.0 (occurs_to o.0 q.right o.1))) o.2));
  };
  left = subst (IsWellFormed g) n.there (well_renamed g f q.left h.left);
  right = subst (IsWellFormed g) k.there (well_renamed g f q.right h.right);
}

abbrev AreSidesWell : Signature → Tree × Tree → Type 0
AreSidesWell g d = IsWellFormed g d.0 × IsWellFormed g d.1

well_same : (g : Signature) (d e : Tree × Tree) → AreSidesWell g d → IsSameEquation d e → AreSidesWell g e
well_same g d e w (inl (f, back, n, k)) = (subst (IsWellFormed g) n.there (well_renamed g f d.0 w.0), subst (IsWellFormed g) k.there (well_renamed g f d.1 w.1))
well_same g d e w (inr (f, back, n, k)) = (subst (IsWellFormed g) k.there (well_renamed g f d.1 w.1), subst (IsWellFormed g) n.there (well_renamed g f d.0 w.0))

-- the equations are well formed, and the rules and constraint rules are rules over the signature
pub record IsSoundState (g : Signature) (a : KbState) : Type 0 where
  pub equations : (d : Tree × Tree) → Contains a.equations d → IsWellFormed g d.0 × IsWellFormed g d.1
  pub rules : (r : Rule) → Contains a.rules r → IsRuleOver g r
  pub constraints : (r : Rule) → Contains a.constraints r → IsRuleOver g r

has_well : (g : Signature) (ds : List (Tree × Tree)) → ((d : Tree × Tree) → Contains ds d → AreSidesWell g d) → (e : Tree × Tree) → Has IsSameEquation ds e → AreSidesWell g e
has_well g ds h e (d, i, v) = well_same g d e (h d i) v

pub has_over : (g : Signature) (qs : List Rule) → ((q : Rule) → Contains qs q → IsRuleOver g q) → (r : Rule) → Has IsVariantRule qs r → IsRuleOver g r
has_over g qs h r (q, i, v) = rule_variant g q r (h q i) v

kept_equations : (g : Signature) (ds es : List (Tree × Tree)) → ((d : Tree × Tree) → Contains ds d → AreSidesWell g d) → Keeps IsSameEquation ds es → (e : Tree × Tree) → Contains es e → AreSidesWell g e
kept_equations g ds es h k e i = has_well g ds h e ((k e).1 (has_equation es e i))

kept_over : (g : Signature) (qs rs : List Rule) → ((q : Rule) → Contains qs q → IsRuleOver g q) → Keeps IsVariantRule qs rs → (r : Rule) → Contains rs r → IsRuleOver g r
kept_over g qs rs h k r i = has_over g qs h r ((k r).1 (has_rule rs r i))

gained_equations : (g : Signature) (ds es : List (Tree × Tree)) (x : Tree × Tree) → ((d : Tree × Tree) → Has IsSameEquation ds d → AreSidesWell g d) → AreSidesWell g x → Gains IsSameEquation ds es x → (e : Tree × Tree) → Contains es e → AreSidesWell g e
gained_equations g ds es x h w k e i = ⊎_elim (λ c. h e c) (λ v. well_same g x e w v) ((k e).1 (has_equation es e i))

gained_over : (g : Signature) (qs rs : List Rule) (x : Rule) → ((q : Rule) → Has IsVariantRule qs q → IsRuleOver g q) → IsRuleOver g x → Gains IsVariantRule qs rs x → (r : Rule) → Contains rs r → IsRuleOver g r
gained_over g qs rs x h w k r i = ⊎_elim (λ c. h r c) (λ v. rule_variant g x r w v) ((k r).1 (has_rule rs r i))

well_step : (g : Signature) (a : KbState) → IsSoundState g a → (s t : Tree) → IsWellFormed g s → Proving.Step a.rules s t → IsWellFormed g t
well_step g a h s t w k = keeps_well g a.rules (all_from (IsRuleOver g) a.rules h.rules) s t w (step_from_position (Contains a.rules) s t k)

pub step_sound : (g : Signature) (a b : KbState) → KbStep g a b → IsSoundState g a → IsSoundState g b
step_sound g a b (deduce u s t w h k ge kr kc) z = record {
  equations = gained_equations g a.equations b.equations (s, t) (has_well g a.equations z.equations) (well_step g a z u s w h, well_step g a z u t w k) ge;
  rules = kept_over g a.rules b.rules z.rules kr;
  constraints = kept_over g a.constraints b.constraints z.constraints kc;
}
step_sound g a b (orient s t o l gr gc) z =
    let w : AreSidesWell g (s, t) = has_well g a.equations z.equations (s, t) ((l.0 (s, t)).0 (inr (same_equation_itself (s, t)))) in
    let x : Rule = record { left = s; right = t } in
    let well : All (λ (r : Rule). IsWellFormed g r.right) (x ∷ a.constraints) = All-cons (λ (r : Rule). IsWellFormed g r.right) x a.constraints w.1 (all_from (λ (r : Rule). IsWellFormed g r.right) a.constraints (λ r i. (z.constraints r i).right)) in
    let r : IsRuleOver g x = record { is_rule = All-head IsRule x a.constraints (ordered_rules g o.0 o.1 (x ∷ a.constraints) well o.2); left = w.0; right = w.1 } in
    record {
      equations = λ d i. has_well g a.equations z.equations d ((l.0 d).0 (inl (has_equation b.equations d i)));
      rules = gained_over g a.rules b.rules x (has_over g a.rules z.rules) r gr;
      constraints = gained_over g a.constraints b.constraints x (has_over g a.constraints z.constraints) r gc;
    }
step_sound g a b (delete s l kr kc) z = record {
  equations = λ d i. has_well g a.equations z.equations d ((l.0 d).0 (inl (has_equation b.equations d i)));
  rules = kept_over g a.rules b.rules z.rules kr;
  constraints = kept_over g a.constraints b.constraints z.constraints kc;
}
step_sound g a b (simplify s t u h (rest, l, ge) kr kc) z =
    let w : AreSidesWell g (s, t) = has_well g a.equations z.equations (s, t) ((l.0 (s, t)).0 (inr (same_equation_itself (s, t)))) in
    record {
      equations = gained_equations g rest b.equations (u, t) (λ d c. has_well g a.equations z.equations d ((l.0 d).0 (inl c))) (well_step g a z s u w.0 h, w.1) ge;
      rules = kept_over g a.rules b.rules z.rules kr;
      constraints = kept_over g a.constraints b.constraints z.constraints kc;
    }
step_sound g a b (compose s t u q p i other h ke (rest, l, gr) kc) z =
    let x : Rule = record { left = s; right = t } in
    let y : Rule = record { left = s; right = u } in
    let wx : IsRuleOver g x = has_over g a.rules z.rules x ((l.0 x).0 (inr (variant_itself x))) in
    let k : Step (Contains a.rules) t u = step_from_position (Contains a.rules) t u (q, i, p, h) in
    let wy : IsRuleOver g y = record {
      is_rule = record {
        no_variable = wx.is_rule.no_variable;
        holds_variables = λ n c. wx.is_rule.holds_variables n (occurs_to n t (step_variables (Contains a.rules) (λ r j. (z.rules r j).is_rule) n k (occurs_from n u c)));
      };
      left = wx.left;
      right = well_step g a z t u wx.right (q, i, p, h);
    } in
    record {
      equations = kept_equations g a.equations b.equations z.equations ke;
      rules = gained_over g rest b.rules y (λ r c. has_over g a.rules z.rules r ((l.0 r).0 (inl c))) wy gr;
      constraints = kept_over g a.constraints b.constraints z.constraints kc;
    }
step_sound g a b (collapse s t u q p i other h ge l kc) z =
    let x : Rule = record { left = s; right = t } in
    let wx : IsRuleOver g x = has_over g a.rules z.rules x ((l.0 x).0 (inr (variant_itself x))) in
    record {
      equations = gained_equations g a.equations b.equations (u, t) (has_well g a.equations z.equations) (well_step g a z s u wx.left (q, i, p, h), wx.right) ge;
      rules = λ r j. has_over g a.rules z.rules r ((l.0 r).0 (inl (has_rule b.rules r j)));
      constraints = kept_over g a.constraints b.constraints z.constraints kc;
    }

same_sound : (g : Signature) (a b : KbState) → IsSameState a b → IsSoundState g a → IsSoundState g b
same_sound g a b h z = record {
  equations = kept_equations g a.equations b.equations z.equations h.equations;
  rules = kept_over g a.rules b.rules z.rules h.rules;
  constraints = kept_over g a.constraints b.constraints z.constraints h.constraints;
}

path_sound : (g : Signature) (path : List KbState) (a b : KbState) → IsPath (KbStep g) path a b → IsSoundState g a → IsSoundState g b
path_sound g [] a b e z = subst (IsSoundState g) e z
path_sound g (x ∷ path) a b (h, k) z = path_sound g path x b k (step_sound g a x h z)

follows_sound : (g : Signature) (states : List KbState) (old : KbState) → KbFollows g old states → IsSoundState g old → (a : KbState) → Contains states a → IsSoundState g a
follows_sound g [] old f z a i = absurd (omega arith)
follows_sound g (new ∷ states) old (h, f) z a i =
    let d : IsSoundState g new = same_sound g h.1 new h.3 (path_sound g h.0 old h.1 h.2 z) in
    ⊎_elim (λ e. subst (IsSoundState g) e d) (λ j. follows_sound g states new f d a j) (contains_cases new states a i)

-- each state of a run from well-formed equations is sound
pub run_sound : (problem : Problem) (states : List KbState) → IsKbRun problem states → All (λ (d : Tree × Tree). IsWellFormed problem.signature d.0 × IsWellFormed problem.signature d.1) problem.equations → (a : KbState) → Contains states a → IsSoundState problem.signature a
run_sound problem states run well a i = follows_sound problem.signature states (kb_start problem) run (record {
  equations = λ d j. All-contains (λ (d : Tree × Tree). IsWellFormed problem.signature d.0 × IsWellFormed problem.signature d.1) problem.equations d well j;
  rules = λ r j. absurd (omega arith);
  constraints = λ r j. absurd (omega arith);
}) a i

-- a member that orders the constraint rules orders the rules
pub orders_chained : (g : Signature) (c : Certificate) → IsMember g c → (a : KbState) → IsSoundState g a → AreChains a → Orders c a.constraints → Orders c a.rules
orders_chained g c m a z chained h =
    chains_ordered g c m a.constraints a.rules (all_from (IsRuleOver g) a.constraints z.constraints) (λ r i. let k = chained r i in ((z.rules r i).left, (k.2.0, (k.0, k.1, k.2.1)))) h

-- joinable terms are proved equal
pub proved_by_joining : (rules : List Rule) (s t : Tree) → IsJoinable rules s t → Proves (equations_of rules) s t
proved_by_joining rules s t j =
    let k = joinable_from rules s t j in
    let up : (x y : Tree) → Reaches (Step (Contains rules)) x y → Equal (Members (equations_of rules)) x y = λ x y c. reaches_made_up (Contains rules) (Either (Members (equations_of rules))) (λ r i. equal_rule (Members (equations_of rules)) r (in_equations_of rules r i)) x y c in
    proves_to (equations_of rules) s t (equal_trans (Members (equations_of rules)) s k.0 t (up s k.0 k.1) (equal_sym (Members (equations_of rules)) t k.0 (up t k.0 k.2)))

-- a state of a run that has no equation left, whose constraint rules a member orders and whose overlaps are joinable, is a complete system
pub complete_state : (problem : Problem) (states : List KbState) → IsKbRun problem states
    → All (λ (d : Tree × Tree). IsWellFormed problem.signature d.0 × IsWellFormed problem.signature d.1) problem.equations
    → (a : KbState) → Contains states a → a.equations ≡ [] → (c : Certificate) → IsMember problem.signature c → Orders c a.constraints → OverlapsJoin a.rules
    → IsCompleteSystem problem c a.rules
complete_state problem states run well a i none c m h joins =
    let g : Signature = problem.signature in
    let z = run_sound problem states run well a i in
    let over : All (IsRuleOver g) a.rules = all_from (IsRuleOver g) a.rules z.rules in
    let ordered = orders_chained g c m a z (run_chained problem states run a i) h in
    let halting = terminating_by_member g c m a.rules over ordered in
    let conf = confluent_by_overlaps g a.rules over halting joins in
    let keeps : (s t : Tree) → Proves problem.equations s t ↔ Proves (equations_of a.rules) s t = λ s t. subst (λ es. Proves problem.equations s t ↔ Proves (es ++ equations_of a.rules) s t) none (kb_run_keeps problem states run a i s t) in
    record {
      over = over;
      ordered = ordered;
      terminating = halting;
      confluent = conf;
      proves_same = keeps;
      decides = λ s t ws wt. ((λ p. joinable_by_confluence g a.rules over conf s t ws wt ((keeps s t).0 p)), (λ j. (keeps s t).1 (proved_by_joining a.rules s t j)));
    }
