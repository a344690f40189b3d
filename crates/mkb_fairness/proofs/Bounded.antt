-- While an overlap waits no more overlaps of its process are taken than there are pairs of pairs that weigh no more.
use Rattle.std.proofs.Common.{ℕ, suc, ◌+◌, ◌≤◌, ◌≡◌, ◌≢◌, ◌⊎◌, inl, inr, sym, ap, ap₂, ◌∙◌, subst, arith, List, [], ◌∷◌, ◌++◌, length, length-append, Contains, Some, nat_cmp, ⊎_elim}
use Rattle.kb_lemmas.proofs.Membership.{here_or_elsewhere, contains_behind, contains_first, split_at}
use Rattle.kb_lemmas.proofs.Options.{some_is}
use Rattle.kb_term.specs.Pair.{Pair}
use Rattle.kb_term.specs.Signature.{Problem, IsWithinLimits}
use Rattle.kb_term.specs.declared.origin.RuleRef.{RuleRef}
use Rattle.kb_label.specs.Names.{Name}
use Rattle.kb_node.specs.declared.job.Job.{Job}
use Rattle.kb_node.specs.declared.job.Job.TheVariants.{Overlap}
use Rattle.mkb_model.specs.Plain.{Plain, pair_in, pair_size, rules_of, weight_by}
use Rattle.mkb_model.specs.Limits.{AreLimited}
use Rattle.mkb_model.specs.Journals.{Moment, IsRun, IsFirstJob}
use Rattle.mkb_model.specs.declared.settings.Selection.TheVariants.{Size}
use Rattle.mkb_model.specs.declared.settings.Settings.{Settings}
use Rattle.mkb_model.proofs.commits.RoleChanges.{Fits}
use Rattle.mkb_model.proofs.nodes.DistinctPairs.{fits_run}
use Rattle.mkb_model.proofs.runs.Selections.{first-free, legal-possible}
use Rattle.mkb_model.proofs.nodes.Sizes.{limited_run}
use Rattle.mkb_fairness.specs.Fairness.{AreDifferent, Waits, IsPairOver, HasPairsUpTo, overlaps_taken}
use Rattle.mkb_fairness.proofs.Directions.{one_direction}
use Rattle.mkb_fairness.proofs.Lighter.{IsTakenOverlap, rule_pair, overlap_weighs, taken_overlap, taken_lighter, keeps}
use Rattle.mkb_fairness.proofs.Lightest.{front_le, not_more}
use Rattle.mkb_fairness.proofs.Once.{taken_once}
use Rattle.mkb_fairness.proofs.Overlaps.{IsDueOverlap, free_overlap, due_ordered}

-- ---- counting

-- different jobs are no more than what they are related to, if no two are related to one
related_le : {Y : Type 0} (R : Job → Y → Type 0) → ((i j : Job) (y : Y) → R i y → R j y → i ≡ j) → (xs : List Job) (ys : List Y) → AreDifferent xs → ((x : Job) → Contains xs x → (y : Y) × Contains ys y × R x y) → length xs ≤ length ys
related_le R one [] ys apart all = omega arith
related_le {Y} R one (x ∷ xs) ys apart all =
    let y = all x (contains_first x xs) in
    let r = split_at ys y.0 y.1 in
    let q = related_le R one xs (r.0 ++ r.1) (λ i j d l h. apart (suc i) (suc j) d (omega (arith, l)) (omega (arith, h))) (λ z c. other y r z c (all z (contains_behind x xs z c))) in
    let e = ap length r.2 in
    let f = length-append r.0 (y.0 ∷ r.1) in
    let g = length-append r.0 r.1 in
    omega (arith, q, e, f, g)
  where
    first_apart : (z : Job) → Contains xs z → x ≢ z
    first_apart z c e = apart 0 (suc c.0) z (omega arith) (let l = c.1 in omega (arith, l)) (e ∙ sym c.2)

    other : (y : (y : Y) × Contains ys y × R x y) → (r : (before : List Y) × (after : List Y) × (ys ≡ before ++ y.0 ∷ after)) → (z : Job) → Contains xs z → (w : Y) × Contains ys w × R z w → (w : Y) × Contains (r.0 ++ r.1) w × R z w
    other y r z c (w, i, k) = ⊎_elim
        (λ e. absurd (first_apart z c (one x z w (subst {A = Y} (R x) e y.2) k)))
        (λ j. (w, j, k))
        (here_or_elsewhere r.0 r.1 y.0 w (subst {A = List Y} (λ zs. Contains zs w) r.2 i))

-- ---- rules that the process had

-- in some moment of the stretch the process had the rule
record WasRule (P : Problem) (n : Settings) (p : Name) (stretch : List Moment) (d : RuleRef) : Type 0 where
  moment : Moment
  there : Contains stretch moment
  past : List Moment
  run : IsRun P n past moment.board
  listed : Contains (rules_of moment.board p) d

module _ (P : Problem) (n : Settings) (p : Name) (stretch : List Moment) (j : Job) (t : IsTakenOverlap P n p stretch j) where
  was_due : IsDueOverlap t.moment.board p t.first t.second
  was_due = (free_overlap t.moment.board p t.first t.second (first-free t.moment.board (Overlap p t.first t.second) t.taken.first)).1

  first_was : WasRule P n p stretch t.first
  first_was = record { moment = t.moment; there = t.there; past = t.taken.past; run = t.taken.run; listed = was_due.first }

  second_was : WasRule P n p stretch t.second
  second_was = record { moment = t.moment; there = t.there; past = t.taken.past; run = t.taken.run; listed = was_due.second }

  -- the first is not of a later node than the second
  nodes_ordered : t.first.node ≤ t.second.node
  nodes_ordered = not_more t.first.node t.second.node (front_le (nat_cmp t.first.node t.second.node) (nat_cmp t.first.dir t.second.dir) (due_ordered t.moment.board p t.first t.second was_due.due))

-- ---- the bound

module _ (P : Problem) (n : Settings) (within : IsWithinLimits P) (l : Moment) (rest earlier : List Moment) (b : Plain) (p : Name) (a c : RuleRef) (size : n.selection ≡ Size) (waits : Waits P n (Overlap p a c) (l ∷ rest) earlier b) where
  fits : Fits b.nodes
  fits = fits_run IsFirstJob P n (l ∷ rest ++ earlier) b waits.run

  limited : AreLimited P.signature b.nodes
  limited = limited_run P n (l ∷ rest ++ earlier) b within (legal-possible P n (l ∷ rest ++ earlier) b waits.run)

  pair_over : (k : ℕ) (q : Pair) → pair_in b.nodes k ≡ Some q → IsPairOver P.signature q
  pair_over k q e = record { canonical = fits.canonical k q e; differ = fits.nontrivial k q e; first = (limited k q e).first; second = (limited k q e).second }

  pair_of : (d : RuleRef) → (w : WasRule P n p (l ∷ rest) d) → (q : Pair) × (pair_in w.moment.board.nodes d.node ≡ Some q) × (pair_in b.nodes d.node ≡ Some q)
  pair_of d w = rule_pair w.moment.board b p d (keeps P n (l ∷ rest) earlier b p a c waits w.moment w.there) w.listed

  -- two rules of one node are one
  same_rule : (d e : RuleRef) → WasRule P n p (l ∷ rest) d → WasRule P n p (l ∷ rest) e → d.node ≡ e.node → d ≡ e
  same_rule d e v w h =
      let q = pair_of d v in
      let r = pair_of e w in
      let same : r.0 ≡ q.0 = some_is (sym r.2 ∙ ap (pair_in b.nodes) (sym h) ∙ q.2) in
      one_direction P n within earlier p a c l rest b waits.run waits.stays_due v.moment w.moment v.there w.there v.past w.past v.run w.run d e q.0 v.listed w.listed q.1 (r.1 ∙ ap Some same) h

  -- the pairs of the two rules, in one order or the other
  record IsOfPairs (j : Job) (e : Pair × Pair) : Type 0 where
    taken : IsTakenOverlap P n p (l ∷ rest) j
    pairs : ((pair_in b.nodes taken.first.node ≡ Some e.0) × (pair_in b.nodes taken.second.node ≡ Some e.1)) ⊎ ((pair_in b.nodes taken.first.node ≡ Some e.1) × (pair_in b.nodes taken.second.node ≡ Some e.0))

  -- no two overlaps that were taken are of the same two pairs
  one_for_pairs : (i j : Job) (e : Pair × Pair) → IsOfPairs i e → IsOfPairs j e → i ≡ j
  one_for_pairs i j e x y = t.is_overlap ∙ same x.pairs y.pairs ∙ sym u.is_overlap
    where
      t : IsTakenOverlap P n p (l ∷ rest) i
      t = x.taken

      u : IsTakenOverlap P n p (l ∷ rest) j
      u = y.taken

      firsts : t.first.node ≡ u.first.node → t.first ≡ u.first
      firsts = same_rule t.first u.first (first_was P n p (l ∷ rest) i t) (first_was P n p (l ∷ rest) j u)

      seconds : t.second.node ≡ u.second.node → t.second ≡ u.second
      seconds = same_rule t.second u.second (second_was P n p (l ∷ rest) i t) (second_was P n p (l ∷ rest) j u)

      crossed : t.first.node ≡ u.second.node → t.second.node ≡ u.first.node → Overlap p t.first t.second ≡ Overlap p u.first u.second
      crossed h k =
          let o = nodes_ordered P n p (l ∷ rest) i t in
          let q = nodes_ordered P n p (l ∷ rest) j u in
          ap₂ (Overlap p) (firsts (omega (arith, h, k, o, q))) (seconds (omega (arith, h, k, o, q)))

      same : ((pair_in b.nodes t.first.node ≡ Some e.0) × (pair_in b.nodes t.second.node ≡ Some e.1)) ⊎ ((pair_in b.nodes t.first.node ≡ Some e.1) × (pair_in b.nodes t.second.node ≡ Some e.0))
          → ((pair_in b.nodes u.first.node ≡ Some e.0) × (pair_in b.nodes u.second.node ≡ Some e.1)) ⊎ ((pair_in b.nodes u.first.node ≡ Some e.1) × (pair_in b.nodes u.second.node ≡ Some e.0))
          → Overlap p t.first t.second ≡ Overlap p u.first u.second
      same (inl v) (inl w) = ap₂ (Overlap p) (firsts (fits.distinct t.first.node u.first.node e.0 v.0 w.0)) (seconds (fits.distinct t.second.node u.second.node e.1 v.1 w.1))
      same (inr v) (inr w) = ap₂ (Overlap p) (firsts (fits.distinct t.first.node u.first.node e.1 v.0 w.0)) (seconds (fits.distinct t.second.node u.second.node e.0 v.1 w.1))
      same (inl v) (inr w) = crossed (fits.distinct t.first.node u.second.node e.0 v.0 w.1) (fits.distinct t.second.node u.first.node e.1 v.1 w.0)
      same (inr v) (inl w) = crossed (fits.distinct t.first.node u.second.node e.1 v.0 w.1) (fits.distinct t.second.node u.first.node e.0 v.1 w.0)

  module _ (all : List (Pair × Pair)) (has : HasPairsUpTo P.signature (weight_by Size b (Overlap p a c)) all) where
    -- each overlap that was taken is of two of these pairs
    pairs_there : (j : Job) → Contains (overlaps_taken p (l ∷ rest)) j → (e : Pair × Pair) × Contains all e × IsOfPairs j e
    pairs_there j i = ⊎_elim
        (λ k. ((q.0, r.0), k, record { taken = t; pairs = inl (q.1, r.1) }))
        (λ k. ((r.0, q.0), k, record { taken = t; pairs = inr (q.1, r.1) }))
        (has q.0 r.0 (pair_over t.first.node q.0 q.1) (pair_over t.second.node r.0 r.1) (omega (arith, lighter, weighs)))
      where
        t : IsTakenOverlap P n p (l ∷ rest) j
        t = taken_overlap P n (l ∷ rest) earlier b p a c waits j i

        q : (q : Pair) × (pair_in b.nodes t.first.node ≡ Some q)
        q = let k = pair_of t.first (first_was P n p (l ∷ rest) j t) in (k.0, k.2)

        r : (r : Pair) × (pair_in b.nodes t.second.node ≡ Some r)
        r = let k = pair_of t.second (second_was P n p (l ∷ rest) j t) in (k.0, k.2)

        lighter : weight_by Size b (Overlap p t.first t.second) ≤ weight_by Size b (Overlap p a c)
        lighter = subst {A = Job} (λ z. weight_by Size b z ≤ weight_by Size b (Overlap p a c)) t.is_overlap (taken_lighter P n (l ∷ rest) earlier b p a c waits size j i)

        weighs : weight_by Size b (Overlap p t.first t.second) ≡ 0 + pair_size q.0 + pair_size r.0
        weighs = overlap_weighs b p t.first t.second q.0 r.0 q.1 r.1

    few_taken : length (overlaps_taken p (l ∷ rest)) ≤ length all
    few_taken = related_le IsOfPairs one_for_pairs (overlaps_taken p (l ∷ rest)) all (taken_once P n (l ∷ rest) earlier b p a c waits) pairs_there

-- the overlaps that were taken are no more than the pairs of pairs that weigh no more
pub taken_few : (P : Problem) (n : Settings) (stretch earlier : List Moment) (b : Plain) (p : Name) (a c : RuleRef) → n.selection ≡ Size → IsWithinLimits P → Waits P n (Overlap p a c) stretch earlier b
    → (all : List (Pair × Pair)) → HasPairsUpTo P.signature (weight_by Size b (Overlap p a c)) all → length (overlaps_taken p stretch) ≤ length all
taken_few P n [] earlier b p a c size within waits all has = omega arith
taken_few P n (l ∷ rest) earlier b p a c size within waits all has = few_taken P n within l rest earlier b p a c size waits all has
