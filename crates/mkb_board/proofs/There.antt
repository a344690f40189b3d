-- What a ticket's proposal names is there when the ticket ends, and its result has few variables.
use Rattle.std.proofs.Common.{ℕ, zero, suc, ◌≤◌, ◌<◌, eq-eqb, ◌≡◌, ◌≢◌, refl, sym, ap, ◌∙◌, subst, arith, List, [], ◌∷◌, length, Contains, Bool, true, false, ◌==◌, Option, Some, None}
use Rattle.std.specs.Prelude.{IsFalse, option_map}
use Rattle.kb_term.specs.Signature.{Problem, IsWithinLimits}
use Rattle.kb_term.specs.Pair.{Pair, variables_of_pair}
use Rattle.kb_term.specs.Rule.{Rule, rule_of}
use Rattle.kb_term.specs.View.{tree_of}
use Rattle.kb_term.specs.declared.origin.Found.{Found}
use Rattle.kb_term.specs.declared.origin.RuleRef.{RuleRef}
use Rattle.kb_overlap.specs.Trace.{side, other_side}
use Rattle.kb_label.specs.Names.{Name}
use Rattle.kb_label.specs.declared.verdict.Spent.TheVariants.{Commits, Over}
use Rattle.kb_label.specs.declared.verdict.Verdict.TheVariants.{Complete, AllFailed, Spent as IsSpent}
use Rattle.mkb_model.specs.Verdicts.{is_complete, first_over}
use Rattle.mkb_model.specs.Sleeping.{is_failed}
use Rattle.mkb_model.specs.Plain.{is_over, over_reason}
use Rattle.std.specs.List.{find, list_all}
use Rattle.std.specs.Prelude.{option_and_then, if◌then◌else◌, ◌||◌}
use Rattle.kb_lemmas.proofs.Options.{some_is, none_some}
use Rattle.kb_node.specs.declared.node.LabelKind.TheVariants.{E}
use Rattle.kb_node.specs.declared.node.NodeId.{NodeId}
use Rattle.kb_node.specs.declared.job.Job.{Job}
use Rattle.kb_node.specs.declared.job.Job.TheVariants.{Reduce, Orient, Overlap, Close}
use Rattle.kb_node.specs.declared.job.LimitCause.{LimitCause}
use Rattle.mkb_model.specs.Jobs.{process_of}
use Rattle.mkb_model.specs.Plain.{Plain, PlainNode, pair_in, rule_at}
use Rattle.mkb_model.specs.DueJobs.{reducers}
use Rattle.mkb_model.specs.Effects.{is_dropped, rewrite_label, some_if}
use Rattle.mkb_model.specs.Proposals.{Proposes, named_rules}
use Rattle.mkb_model.specs.Ready.{KeepsPairs}
use Rattle.mkb_model.specs.Limits.{AreLimited, IsLimitedPair}
use Rattle.mkb_model.specs.Journals.{Moment, IsPossibleRun, IsFreeJob, IsFinishing}
use Rattle.mkb_model.specs.declared.proposed.Proposed.{Proposed}
use Rattle.mkb_model.specs.declared.proposed.Proposed.TheVariants.{Facts, Rewrite, One, Both, Refuse, Deduce, Unjoined, Closed, Limit}
use Rattle.mkb_model.specs.declared.entry.Entry.TheVariants.{Take}
use Rattle.mkb_model.proofs.commits.Roles.{on_there}
use Rattle.mkb_model.proofs.commits.Views.{rule_listed, there_pair}
use Rattle.mkb_model.proofs.commits.RewritingRuns.{source_of}
use Rattle.mkb_model.proofs.runs.Endings.{nones}
use Rattle.mkb_model.proofs.tickets.InFlight.{is_own, owners_live, taken_free}
use Rattle.mkb_model.proofs.nodes.DistinctPairs.{pairs_stay}
use Rattle.mkb_model.proofs.runs.Readiness.{rewrite_ready, named_rule}
use Rattle.mkb_model.proofs.runs.AllFine.{due_equation, states_ordered, commits_fine}
use Rattle.mkb_model.proofs.labels.LivingNames.{within_budget}
use Rattle.mkb_model.proofs.nodes.Origins.{some_named}
use Rattle.mkb_model.proofs.nodes.Sizes.{limited_run, turned}
use Rattle.mkb_model.proofs.nodes.Variables.{step_few}
use Rattle.mkb_rules.specs.Named.{IsThere, Lives, HasNamed, HasNamedJob, HasRedexRule}
use Rattle.mkb_rules.specs.Applicable.{HasFewVariablesAfter, IsApplicable}
use Rattle.mkb_model.specs.declared.settings.Settings.{Settings}

pub at_within : (xs : List PlainNode) (n : ℕ) (q : Pair) → pair_in xs n ≡ Some q → n < length xs
at_within [] n q e = none_some e
at_within (x ∷ xs) zero q e = omega arith
at_within (x ∷ xs) (suc n) q e = let h = at_within xs n q e in omega (arith, h)

module _ (P : Problem) (n : Settings) (ms : List Moment) (b : Plain) (run : IsPossibleRun P n ms b) (w t : ℕ) (j : Job) (x : Proposed) (f : IsFinishing ms b w t j x) where
  keeps : KeepsPairs f.before.nodes b.nodes
  keeps = pairs_stay IsFreeJob P n ms b run (record { board = f.before; entry = Take w t j }) f.taken

  there : (m : ℕ) (q : Pair) → pair_in f.before.nodes m ≡ Some q → IsThere b m
  there m q e = at_within b.nodes m q (keeps m q e)

  rule_node : (a : RuleRef) (r : Rule) → rule_at f.before a ≡ Some r → IsThere b a.node
  rule_node a r e = go (pair_in f.before.nodes a.node) refl e
    where
      go : (o : Option Pair) → pair_in f.before.nodes a.node ≡ o → option_map (λ q. rule_of q a.dir) o ≡ Some r → IsThere b a.node
      go None h k = none_some k
      go (Some q) h k = there a.node q h

  lives : (i : Job) → i ≡ j → is_own i ≡ true → Lives b (process_of i)
  lives i e own = owners_live P n ms b run (record { number = t; worker = w; job = i }) (subst {A = Job} (λ z. Contains b.flight (record { number = t; worker = w; job = z })) (sym e) f.flying) own

  oriented_there : (p : Name) (m : NodeId) → Orient p m ≡ j → IsThere b m.0
  oriented_there p m e =
      let free = (taken_free P n ms b run f.before w t (Orient p m) (subst {A = Job} (λ z. Contains ms (record { board = f.before; entry = Take w t z })) (sym e) f.taken)).0 in
      let q = there_pair f.before.nodes m.0 (on_there f.before.nodes p m.0 E (due_equation f.before p m free)) in
      there m.0 q.0 q.1

  redex_there : (p : Name) (m : ℕ) (cause : LimitCause) (side : ℕ) (a : RuleRef) (kind : Found) (r : Rule) → cause.redex ≡ Some (side, a, kind) → Contains (named_rules f.before (reducers f.before p m)) (record { ref = a; rule = r }) → HasRedexRule b cause.redex
  redex_there p m cause side a kind r e i = let k = named_rule f.before (reducers f.before p m) a r i in subst {A = Option (ℕ × RuleRef × Found)} (HasRedexRule b) (sym e) (there a.node k.1.0 k.1.1)

  -- the nodes are there, and the process of an orienting or a closing lives
  pub has_named : HasNamed b x
  has_named = go j x refl f.proposed
    where
      go : (i : Job) (y : Proposed) → i ≡ j → Proposes f.before i y → HasNamed b y
      go (Reduce p m) (Facts fs) e h = tt
      go (Reduce p m) (Rewrite k v at a kind u) e h = let r = rewrite_ready f.before b p m k v at a kind u h keeps in (at_within b.nodes k.0 r.pair r.there, at_within b.nodes a.node r.by r.by_there)
      go (Reduce p m) (Limit i cause) e h = subst {A = Job} (λ z. HasNamedJob b z × HasRedexRule b cause.redex) (sym h.0) (there m.0 h.1.0 h.1.1, redex_there p m.0 cause h.1.2.side h.1.2.rule h.1.2.kind h.1.2.first.is_redex.rule h.1.2.redex_is h.1.2.first.is_redex.listed)
      go (Orient p m) (One q k d c) e h = (subst {A = NodeId} (λ z. IsThere b z.0) (sym h.1) (oriented_there p m e), subst {A = Name} (Lives b) (sym h.0) (lives (Orient p m) e refl))
      go (Orient p m) (Both q k c d) e h = (subst {A = NodeId} (λ z. IsThere b z.0) (sym h.1) (oriented_there p m e), subst {A = Name} (Lives b) (sym h.0) (lives (Orient p m) e refl))
      go (Orient p m) (Refuse q k) e h = (subst {A = NodeId} (λ z. IsThere b z.0) (sym h.1) (oriented_there p m e), subst {A = Name} (Lives b) (sym h.0) (lives (Orient p m) e refl))
      go (Overlap p a c) (Deduce d k pairs) e h = (subst {A = RuleRef} (λ z. IsThere b z.node) (sym h.0) (rule_node a h.2.0 h.2.2), subst {A = RuleRef} (λ z. IsThere b z.node) (sym h.1) (rule_node c h.2.1 h.2.3))
      go (Overlap p a c) (Limit i cause) e h = subst {A = Job} (λ z. HasNamedJob b z × HasRedexRule b cause.redex) (sym h.0) ((rule_node a h.1.1.0 h.1.1.2, rule_node c h.1.1.1 h.1.1.3), subst {A = Option (ℕ × RuleRef × Found)} (HasRedexRule b) (sym h.1.0) tt)
      go (Close p) (Unjoined q pairs) e h = subst {A = Name} (Lives b) (sym h.0) (lives (Close p) e refl)
      go (Close p) (Closed q) e h = subst {A = Name} (Lives b) (sym h.0) (lives (Close p) e refl)
      go (Close p) (Limit i cause) e h = subst {A = Job} (λ z. HasNamedJob b z × HasRedexRule b cause.redex) (sym h.0) (lives (Close p) e refl, subst {A = Option (ℕ × RuleRef × Found)} (HasRedexRule b) (sym h.1.0) tt)
      go i (Facts fs) e h = tt
      go (Orient p m) (Rewrite k v at a kind u) e h = absurd h
      go (Orient p m) (Limit i cause) e h = absurd h
      go (Orient p m) (Deduce d k pairs) e h = absurd h
      go (Orient p m) (Unjoined q pairs) e h = absurd h
      go (Orient p m) (Closed q) e h = absurd h
      go (Reduce p m) (One q k d c) e h = absurd h
      go (Reduce p m) (Both q k c d) e h = absurd h
      go (Reduce p m) (Refuse q k) e h = absurd h
      go (Reduce p m) (Deduce d k pairs) e h = absurd h
      go (Reduce p m) (Unjoined q pairs) e h = absurd h
      go (Reduce p m) (Closed q) e h = absurd h
      go (Overlap p a c) (Rewrite k v at r kind u) e h = absurd h
      go (Overlap p a c) (One q k d r) e h = absurd h
      go (Overlap p a c) (Both q k r d) e h = absurd h
      go (Overlap p a c) (Refuse q k) e h = absurd h
      go (Overlap p a c) (Unjoined q pairs) e h = absurd h
      go (Overlap p a c) (Closed q) e h = absurd h
      go (Close p) (Rewrite k v at a kind u) e h = absurd h
      go (Close p) (One q k d c) e h = absurd h
      go (Close p) (Both q k c d) e h = absurd h
      go (Close p) (Refuse q k) e h = absurd h
      go (Close p) (Deduce d k pairs) e h = absurd h

  -- the commits are below the budget
  pub has_budget : b.commits < b.settings.budget
  has_budget = below b.commits b.settings.budget (let h = within_budget IsFreeJob P n ms b run in subst {A = ℕ} (λ z. b.commits ≤ z) (sym (ap (λ (z : Settings). z.budget) h.settings)) h.commits) (λ e. unspent (b.commits == b.settings.budget) refl e)
    where
      below : (c d : ℕ) → c ≤ d → c ≢ d → c < d
      below c d l h = grind (arith, l, h)

      unspent : (s : Bool) → (b.commits == b.settings.budget) ≡ s → b.commits ≡ b.settings.budget → ⊥
      unspent s e q = none_some (sym (nones (option_map Complete (find (is_complete b) b.living)) (some_if (list_all (is_failed b) b.living) AllFailed) (some_if (b.commits == b.settings.budget) (IsSpent Commits)) (if list_all (λ p. is_failed b p || is_over b p) b.living then option_map (λ r. IsSpent (Over r)) (option_and_then (over_reason b) (first_over b)) else None) f.no_verdict).2 ∙ ap (λ (z : Bool). some_if z (IsSpent Commits)) (eq-eqb b.commits b.settings.budget q))

  module _ (within : IsWithinLimits P) (acts : IsFalse (is_dropped b x)) where
    limited : AreLimited P.signature b.nodes
    limited = limited_run P n ms b within run

    few_side : (q : Pair) (v : ℕ) → IsLimitedPair P.signature q → length (variables_of_pair (side q v) (other_side q v)) ≤ 64
    few_side q zero l = l.within.few
    few_side q (suc v) l = (turned q.first q.second l.within).few

    -- the result of a rewriting has few variables with the other side
    pub fitting : HasFewVariablesAfter b x
    fitting = go j x refl refl f.proposed
      where
        go : (i : Job) (y : Proposed) → i ≡ j → y ≡ x → Proposes f.before i y → HasFewVariablesAfter b y
        go (Reduce p m) (Rewrite k v at a kind u) e d h = λ q there_q.
            let r = rewrite_ready f.before b p m k v at a kind u h keeps in
            let named = some_named (rewrite_label b k.0 v a kind) (subst {A = Proposed} (λ z. is_dropped b z ≡ false) (sym d) acts) in
            let over = ((states_ordered P n ms b within run (commits_fine P n ms b within run)) named.0).sound.rules (rule_of r.by a.dir) (rule_listed b named.0 a r.by (source_of b k.0 v a kind named.0 named.1).0 r.by_there) in
            subst {A = Pair} (λ z. length (variables_of_pair (tree_of u) (other_side z v)) ≤ 64) (some_is (sym r.there ∙ there_q))
            (step_few (rule_of r.by a.dir) at (side r.pair v) (tree_of u) (other_side r.pair v) over.is_rule r.step (few_side r.pair v (limited k.0 r.pair r.there)))
        go i (Facts fs) e d h = tt
        go i (One q k c r) e d h = tt
        go i (Both q k c r) e d h = tt
        go i (Refuse q k) e d h = tt
        go i (Deduce a c pairs) e d h = tt
        go i (Unjoined q pairs) e d h = tt
        go i (Closed q) e d h = tt
        go i (Limit k cause) e d h = tt
        go (Orient p m) (Rewrite k v at a kind u) e d h = absurd h
        go (Overlap p a c) (Rewrite k v at r kind u) e d h = absurd h
        go (Close p) (Rewrite k v at a kind u) e d h = absurd h

    pub applicable : IsApplicable b x
    applicable = (has_named, fitting)
