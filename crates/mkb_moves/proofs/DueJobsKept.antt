-- A process that a commit leaves alone has the same jobs due, where no facts are noted.
use Rattle.std.proofs.Common.{ℕ, ◌≤◌, ◌≡◌, refl, sym, ap, ap₂, ◌∙◌, subst, arith, List, [], ◌∷◌, ◌++◌, map, filter, flat_map, length, Contains, Bool, true, false, cond, not, ◌&&◌, Option, Some, None}
use Rattle.std.specs.List.{list_any}
use Rattle.std.specs.Option.{option_map_or}
use Rattle.std.proofs.lemmas.Bool.{and_right}
use Rattle.std.proofs.lemmas.List.Elements.{filter-append}
use Rattle.kb_term.specs.Signature.{Problem}
use Rattle.kb_term.specs.declared.origin.RuleRef.{RuleRef}
use Rattle.kb_label.specs.Names.{Name, has}
use Rattle.kb_label.specs.declared.verdict.Reason.{Reason}
use Rattle.kb_node.specs.declared.node.LabelKind.{LabelKind}
use Rattle.kb_node.specs.declared.node.LabelKind.TheVariants.{E, X}
use Rattle.kb_node.specs.declared.job.Job.{Job}
use Rattle.kb_node.specs.declared.job.Job.TheVariants.{Reduce, Orient, Overlap, Close}
use Rattle.mkb_model.specs.Plain.{Plain, rule_kind, node_numbers, rules_of, done_of, known}
use Rattle.mkb_model.specs.DueJobs.{is_working, is_work_due, is_due, work_of, due_jobs_of}
use Rattle.mkb_model.specs.Effects.{applied, effect, effect_label, give_up, limit_of}
use Rattle.mkb_model.specs.Journals.{Moment, IsPossibleRun, IsCommitting}
use Rattle.mkb_model.specs.declared.entry.Effect.{Effect}
use Rattle.mkb_model.specs.declared.proposed.Proposed.{Proposed}
use Rattle.mkb_model.specs.declared.proposed.Proposed.TheVariants.{Facts, Rewrite, One, Both, Refuse, Deduce, Unjoined, Closed, Limit}
use Rattle.mkb_model.specs.declared.settings.Settings.{Settings}
use Rattle.mkb_model.proofs.Lists.{filter_in, in_filter, same_test}
use Rattle.mkb_model.proofs.commits.Bystanders.{IsUnmoved, role_tests}
use Rattle.mkb_moves.specs.Changes.{IsNotOfFacts}
use Rattle.mkb_moves.proofs.Sight.{kept_numbers, same_rules}
use Rattle.mkb_moves.proofs.Others.{others_unmoved}
use Rattle.mkb_moves.proofs.DueWork.{IsSameAt, any_carried, no_reduce_beyond, no_orient_beyond, reduce_same, orient_same, overlap_same}

-- ---- lists

filter_mapped : {X Y : Type 0} (f : Y → Bool) (h : X → Y) (xs : List X) → filter f (map h xs) ≡ map h (filter (λ x. f (h x)) xs)
filter_mapped f h [] = refl
filter_mapped {X} {Y} f h (x ∷ xs) = go (f (h x)) (filter_mapped f h xs)
  where
    go : (z : Bool) → filter f (map h xs) ≡ map h (filter (λ y. f (h y)) xs) → cond z (h x ∷ filter f (map h xs)) (filter f (map h xs)) ≡ map h (cond z (x ∷ filter (λ y. f (h y)) xs) (filter (λ y. f (h y)) xs))
    go true ih = ap (h x ∷◌) ih
    go false ih = ih

-- one passes where what passes is the same
any_kept : {X : Type 0} (f g : X → Bool) (xs ys : List X) → filter f xs ≡ filter g ys → list_any f xs ≡ list_any g ys
any_kept f g xs ys e = same_test (list_any f xs) (list_any g ys)
    (any_carried f g xs ys (λ x i o. filter_in g ys x (subst (λ zs. Contains zs x) e (in_filter f xs x i o))))
    (any_carried g f ys xs (λ y i o. filter_in f xs y (subst (λ zs. Contains zs y) (sym e) (in_filter g ys y i o))))

-- ---- what passes of the work of a process on two boards

module _ (b c : Plain) (p : Name) (f g : Job → Bool) where
  kept_nodes : (at : ℕ → Job) → ((n : ℕ) → f (at n) ≡ g (at n)) → ((m : ℕ) → length c.nodes ≤ m → f (at m) ≡ false) → ((m : ℕ) → length b.nodes ≤ m → g (at m) ≡ false) → filter f (map at (node_numbers c)) ≡ filter g (map at (node_numbers b))
  kept_nodes at e hf hg = filter_mapped f at (node_numbers c)
      ∙ ap (map at) (kept_numbers (λ n. f (at n)) (λ n. g (at n)) e 0 (length c.nodes) (length b.nodes) (λ m h. hf m (omega (arith, h))) (λ m h. hg m (omega (arith, h))))
      ∙ sym (filter_mapped g at (node_numbers b))

  kept_row : ((a e : RuleRef) → f (Overlap p a e) ≡ g (Overlap p a e)) → (a : RuleRef) (ys : List RuleRef) → filter f (map (Overlap p a) ys) ≡ filter g (map (Overlap p a) ys)
  kept_row h a [] = refl
  kept_row h a (y ∷ ys) = ap₂ (λ (z : Bool) (js : List Job). cond z (Overlap p a y ∷ js) js) (h a y) (kept_row h a ys)

  kept_rows : ((a e : RuleRef) → f (Overlap p a e) ≡ g (Overlap p a e)) → (xs ys : List RuleRef) → filter f (flat_map (λ (a : RuleRef). map (Overlap p a) ys) xs) ≡ filter g (flat_map (λ (a : RuleRef). map (Overlap p a) ys) xs)
  kept_rows h [] ys = refl
  kept_rows h (x ∷ xs) ys = filter-append f (map (Overlap p x) ys) (flat_map (λ (a : RuleRef). map (Overlap p a) ys) xs)
      ∙ ap₂ (λ (is js : List Job). is ++ js) (kept_row h x ys) (kept_rows h xs ys)
      ∙ sym (filter-append g (map (Overlap p x) ys) (flat_map (λ (a : RuleRef). map (Overlap p a) ys) xs))

  -- the two tests give the same of each work of the process, and pass none of a node that is not there
  record PassAlike : Type 0 where
    reduces : (n : ℕ) → f (Reduce p (record { 0 = n })) ≡ g (Reduce p (record { 0 = n }))
    orients : (n : ℕ) → f (Orient p (record { 0 = n })) ≡ g (Orient p (record { 0 = n }))
    overlaps : (a e : RuleRef) → f (Overlap p a e) ≡ g (Overlap p a e)
    no_reduce_after : (n : ℕ) → length c.nodes ≤ n → f (Reduce p (record { 0 = n })) ≡ false
    no_reduce_before : (n : ℕ) → length b.nodes ≤ n → g (Reduce p (record { 0 = n })) ≡ false
    no_orient_after : (n : ℕ) → length c.nodes ≤ n → f (Orient p (record { 0 = n })) ≡ false
    no_orient_before : (n : ℕ) → length b.nodes ≤ n → g (Orient p (record { 0 = n })) ≡ false
    same_rules : rules_of c p ≡ rules_of b p

  work_kept : PassAlike → filter f (work_of c p) ≡ filter g (work_of b p)
  work_kept h = filter-append f (map reduces (node_numbers c)) (map orients (node_numbers c) ++ overlaps (rules_of c p))
      ∙ ap₂ (λ (is js : List Job). is ++ js) (kept_nodes reduces h.reduces h.no_reduce_after h.no_reduce_before)
      (filter-append f (map orients (node_numbers c)) (overlaps (rules_of c p))
      ∙ ap₂ (λ (is js : List Job). is ++ js) (kept_nodes orients h.orients h.no_orient_after h.no_orient_before) (ap (λ (rs : List RuleRef). filter f (overlaps rs)) h.same_rules ∙ kept_rows h.overlaps (rules_of b p) (rules_of b p))
      ∙ sym (filter-append g (map orients (node_numbers b)) (overlaps (rules_of b p))))
      ∙ sym (filter-append g (map reduces (node_numbers b)) (map orients (node_numbers b) ++ overlaps (rules_of b p)))
    where
      reduces : ℕ → Job
      reduces n = Reduce p (record { 0 = n })

      orients : ℕ → Job
      orients n = Orient p (record { 0 = n })

      overlaps : List RuleRef → List Job
      overlaps rs = flat_map (λ (a : RuleRef). map (Overlap p a) rs) rs

-- ---- a process of which nothing changes

-- the process is worked on or not as before, and its labels, its overlaps and the facts are the same
record IsAsBefore (b c : Plain) (p : Name) : Type 0 where
  labels : (m : ℕ) (j : LabelKind) → IsSameAt b c p p m j
  overlapped : (a e : RuleRef) → has (done_of c a e) p ≡ has (done_of b a e) p
  closed : has c.closed p ≡ has b.closed p
  working : is_working c p ≡ is_working b p
  facts : c.facts ≡ b.facts

module _ (b c : Plain) (p : Name) (h : IsAsBefore b c p) where
  rules_same : rules_of c p ≡ rules_of b p
  rules_same = same_rules b c p p (λ d m. h.labels m (rule_kind d))

  known_same : (n w : ℕ) (a : RuleRef) → known c n w a ≡ known b n w a
  known_same n w a = ap (λ fs. known (record b { facts = fs }) n w a) h.facts

  reduces : (n : ℕ) → is_work_due c (Reduce p (record { 0 = n })) ≡ is_work_due b (Reduce p (record { 0 = n }))
  reduces n = reduce_same b c p p (record { 0 = n }) (h.labels n E) (λ d. h.labels n (rule_kind d)) rules_same (known_same n)

  orients : (n : ℕ) → is_work_due c (Orient p (record { 0 = n })) ≡ is_work_due b (Orient p (record { 0 = n }))
  orients n = orient_same b c p p (record { 0 = n }) (h.labels n E) (h.labels n X)

  overlaps : (a e : RuleRef) → is_work_due c (Overlap p a e) ≡ is_work_due b (Overlap p a e)
  overlaps a e = overlap_same b c p p a e (h.labels a.node (rule_kind a.dir)) (h.labels e.node (rule_kind e.dir)) (h.overlapped a e)

  work_alike : PassAlike b c p (is_work_due c) (is_work_due b)
  work_alike = record {
    reduces = reduces;
    orients = orients;
    overlaps = overlaps;
    no_reduce_after = λ n. no_reduce_beyond c p (record { 0 = n });
    no_reduce_before = λ n. no_reduce_beyond b p (record { 0 = n });
    no_orient_after = λ n. no_orient_beyond c p (record { 0 = n });
    no_orient_before = λ n. no_orient_beyond b p (record { 0 = n });
    same_rules = rules_same;
  }

  jobs_alike : PassAlike b c p (is_due c) (is_due b)
  jobs_alike = record {
    reduces = λ n. ap₂ (λ (x y : Bool). x && y) h.working (reduces n);
    orients = λ n. ap₂ (λ (x y : Bool). x && y) h.working (orients n);
    overlaps = λ a e. ap₂ (λ (x y : Bool). x && y) h.working (overlaps a e);
    no_reduce_after = λ n l. and_right (is_working c p) (is_work_due c (Reduce p (record { 0 = n }))) (no_reduce_beyond c p (record { 0 = n }) l);
    no_reduce_before = λ n l. and_right (is_working b p) (is_work_due b (Reduce p (record { 0 = n }))) (no_reduce_beyond b p (record { 0 = n }) l);
    no_orient_after = λ n l. and_right (is_working c p) (is_work_due c (Orient p (record { 0 = n }))) (no_orient_beyond c p (record { 0 = n }) l);
    no_orient_before = λ n l. and_right (is_working b p) (is_work_due b (Orient p (record { 0 = n }))) (no_orient_beyond b p (record { 0 = n }) l);
    same_rules = rules_same;
  }

  close_same : is_due c (Close p) ≡ is_due b (Close p)
  close_same = ap₂ (λ (x y : Bool). x && y) h.working (ap₂ (λ (x y : Bool). not x && not y) (any_kept (is_work_due c) (is_work_due b) (work_of c p) (work_of b p) (work_kept b c p (is_work_due c) (is_work_due b) work_alike)) h.closed)

  jobs_same : due_jobs_of c p ≡ due_jobs_of b p
  jobs_same = filter-append (is_due c) (work_of c p) (Close p ∷ [])
      ∙ ap₂ (λ (is js : List Job). is ++ js) (work_kept b c p (is_due c) (is_due b) jobs_alike) (ap (λ (z : Bool). cond z (Close p ∷ []) []) close_same)
      ∙ sym (filter-append (is_due b) (work_of b p) (Close p ∷ []))

-- ---- the facts

facts_applied : (b : Plain) (x : Proposed) → IsNotOfFacts x → (applied b x).facts ≡ b.facts
facts_applied b (Facts fs) h = absurd h
facts_applied b (Rewrite n w at a kind t) h = refl
facts_applied b (One q n d c) h = refl
facts_applied b (Both q n c0 c1) h = refl
facts_applied b (Refuse q n) h = refl
facts_applied b (Deduce a c ds) h = refl
facts_applied b (Unjoined q ds) h = refl
facts_applied b (Closed q) h = refl
facts_applied b (Limit j cause) h = refl

facts_effect : (b : Plain) (x : Proposed) → IsNotOfFacts x → (effect b x).facts ≡ b.facts
facts_effect b x h = go (limit_of b x)
  where
    go : (o : Option Reason) → (option_map_or (λ r. give_up r (effect_label b x) b) o (applied b x)).facts ≡ b.facts
    go None = facts_applied b x h
    go (Some r) = refl

pub others_jobs : (P : Problem) (n : Settings) (past : List Moment) (b : Plain) (w t : ℕ) (e : Effect) (d : Plain) → IsPossibleRun P n past b → (c : IsCommitting past b w t e d) → IsNotOfFacts c.proposal → (p : Name) → has b.living p ≡ true → has (effect_label b c.proposal) p ≡ false → due_jobs_of d p ≡ due_jobs_of b p
others_jobs P n past b w t e d run c x p lives h = subst {A = Plain} (λ z. due_jobs_of z p ≡ due_jobs_of b p) (sym c.leads_to) (jobs_same b (effect b c.proposal) p (record {
  labels = role_tests b (effect b c.proposal) p k.0.roles;
  overlapped = k.0.done;
  closed = k.0.closed;
  working = ap₂ (λ (y z : Bool). y && not z) (k.1 ∙ sym lives) k.0.over;
  facts = facts_effect b c.proposal x;
}))
  where
    k : IsUnmoved b (effect b c.proposal) p × (has (effect b c.proposal).living p ≡ true)
    k = others_unmoved P n past b w t e d run c p lives h
