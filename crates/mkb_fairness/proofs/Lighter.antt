-- What is taken while an overlap of its process waits weighs no more, by the sizes of the pairs.
use Rattle.std.proofs.Common.{ℕ, ◌+◌, ◌≤◌, ◌≡◌, sym, ap, ap₂, ◌∙◌, subst, subst₂, List, ◌++◌, Contains, Some}
use Rattle.std.specs.Option.{option_map_or}
use Rattle.std.proofs.lemmas.List.Elements.{Contains-append_left}
use Rattle.kb_term.specs.Pair.{Pair}
use Rattle.kb_term.specs.Signature.{Problem}
use Rattle.kb_term.specs.declared.origin.RuleRef.{RuleRef}
use Rattle.kb_label.specs.Names.{Name}
use Rattle.kb_node.specs.declared.job.Job.{Job}
use Rattle.kb_node.specs.declared.job.Job.TheVariants.{Overlap}
use Rattle.mkb_model.specs.Plain.{Plain, pair_in, pair_size, rule_kind, rules_of, weight, weight_by}
use Rattle.mkb_model.specs.DueJobs.{awake}
use Rattle.mkb_model.specs.Journals.{Moment, IsFirstJob}
use Rattle.mkb_model.specs.Ready.{KeepsPairs}
use Rattle.mkb_model.specs.declared.settings.Selection.{Selection}
use Rattle.mkb_model.specs.declared.settings.Selection.TheVariants.{Size}
use Rattle.mkb_model.specs.declared.settings.Settings.{Settings}
use Rattle.mkb_model.proofs.nodes.DistinctPairs.{pairs_stay}
use Rattle.mkb_model.proofs.labels.LivingNames.{within_budget}
use Rattle.mkb_model.proofs.closing.LeftAlone.{rules_in}
use Rattle.mkb_model.proofs.commits.Roles.{on_there}
use Rattle.mkb_model.proofs.runs.Selections.{first-free}
use Rattle.mkb_model.proofs.commits.Views.{there_pair}
use Rattle.mkb_fairness.specs.Fairness.{Waits, overlaps_taken}
use Rattle.mkb_fairness.proofs.Lightest.{first_weighs}
use Rattle.mkb_fairness.proofs.Turns.{IsTakenOn, turns, taken_on}
use Rattle.mkb_fairness.proofs.Overlaps.{IsDueOverlap, due_overlap, free_overlap, overlap_free, overlap_of, taken_at}

-- ---- weights

-- the pair of a rule, on a board and on a later one
pub rule_pair : (b c : Plain) (p : Name) (a : RuleRef) → KeepsPairs b.nodes c.nodes → Contains (rules_of b p) a → (q : Pair) × (pair_in b.nodes a.node ≡ Some q) × (pair_in c.nodes a.node ≡ Some q)
rule_pair b c p a keeps i =
    let r = there_pair b.nodes a.node (on_there b.nodes p a.node (rule_kind a.dir) (rules_in b p a i).1) in
    (r.0, r.1, keeps a.node r.0 r.1)

-- by size an overlap weighs what the two pairs do
pub overlap_weighs : (b : Plain) (p : Name) (a c : RuleRef) (q r : Pair) → pair_in b.nodes a.node ≡ Some q → pair_in b.nodes c.node ≡ Some r → weight_by Size b (Overlap p a c) ≡ 0 + pair_size q + pair_size r
overlap_weighs b p a c q r e f = ap₂ (λ (m n : ℕ). 0 + m + n) (ap (λ o. option_map_or pair_size o 0) e) (ap (λ o. option_map_or pair_size o 0) f)

-- ---- what is taken

-- an overlap that was taken in the stretch: where, and of which rules
pub record IsTakenOverlap (P : Problem) (n : Settings) (p : Name) (stretch : List Moment) (j : Job) : Type 0 where
  pub first : RuleRef
  pub second : RuleRef
  pub is_overlap : j ≡ Overlap p first second
  pub moment : Moment
  pub there : Contains stretch moment
  pub taken : IsTakenOn P n moment.board (Overlap p first second)

module _ (P : Problem) (n : Settings) (stretch earlier : List Moment) (b : Plain) (p : Name) (a c : RuleRef) (waits : Waits P n (Overlap p a c) stretch earlier b) where
  pub taken_overlap : (j : Job) → Contains (overlaps_taken p stretch) j → IsTakenOverlap P n p stretch j
  taken_overlap j i =
      let t = taken_at p stretch j i in
      let o = overlap_of p j t.3 in
      record {
        first = o.0;
        second = o.1;
        is_overlap = o.2;
        moment = t.0;
        there = t.1;
        taken = taken_on P n (stretch ++ earlier) b waits.run (turns (stretch ++ earlier) waits.in_turn) t.0 (Contains-append_left stretch earlier t.0 t.1) (Overlap p o.0 o.1) (t.2 ∙ ap Some o.2);
      }

  -- the pairs stay where they are
  pub keeps : (m : Moment) → Contains stretch m → KeepsPairs m.board.nodes b.nodes
  keeps m i = pairs_stay IsFirstJob P n (stretch ++ earlier) b waits.run m (Contains-append_left stretch earlier m i)

  -- an overlap of rules that its process had weighs the same later
  still_weighs : (m : Moment) → Contains stretch m → (d e : RuleRef) → Contains (rules_of m.board p) d → Contains (rules_of m.board p) e → weight_by Size m.board (Overlap p d e) ≡ weight_by Size b (Overlap p d e)
  still_weighs m i d e k l =
      let q = rule_pair m.board b p d (keeps m i) k in
      let r = rule_pair m.board b p e (keeps m i) l in
      overlap_weighs m.board p d e q.0 r.0 q.1 r.1 ∙ sym (overlap_weighs b p d e q.0 r.0 q.2 r.2)

  -- what was taken weighs no more than what waits
  pub taken_lighter : n.selection ≡ Size → (j : Job) → Contains (overlaps_taken p stretch) j → weight_by Size b j ≤ weight_by Size b (Overlap p a c)
  taken_lighter size j i = subst {A = Job} (λ z. weight_by Size b z ≤ weight_by Size b (Overlap p a c)) (sym t.is_overlap)
      (subst₂ {A = ℕ} {B = ℕ} (λ k l. k ≤ l) (by_size (Overlap p t.first t.second) ∙ still_weighs t.moment t.there t.first t.second free.1.first free.1.second) (by_size (Overlap p a c) ∙ still_weighs t.moment t.there a c due.first due.second)
      (first_weighs t.moment.board p t.first t.second a c t.taken.first (overlap_free t.moment.board p a c free.0 (waits.stays_due t.moment t.there) t.taken.none_in_flight)))
    where
      t : IsTakenOverlap P n p stretch j
      t = taken_overlap j i

      by_size : (i : Job) → weight t.moment.board i ≡ weight_by Size t.moment.board i
      by_size i = ap (λ (s : Settings). weight_by s.selection t.moment.board i) (within_budget IsFirstJob P n t.taken.past t.moment.board t.taken.run).settings ∙ ap (λ (s : Selection). weight_by s t.moment.board i) size

      free : Contains (awake t.moment.board) p × IsDueOverlap t.moment.board p t.first t.second
      free = free_overlap t.moment.board p t.first t.second (first-free t.moment.board (Overlap p t.first t.second) t.taken.first)

      due : IsDueOverlap t.moment.board p a c
      due = due_overlap t.moment.board p a c (waits.stays_due t.moment t.there)
