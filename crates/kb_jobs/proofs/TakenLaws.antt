-- What jobs propose by snapshots is what they propose on the board.
use Rattle.std.proofs.Common.{ℕ, zero, suc, ◌≡◌, ◌∙◌, ◌⊎◌, inl, inr, refl, sym, ap, subst, ⊎_elim, List, ◌∷◌, Bool, Option, Some, None}
use Rattle.kb_term.specs.Rule.{Rule}
use Rattle.kb_term.specs.View.{tree_of}
use Rattle.kb_term.specs.declared.origin.RuleRef.{RuleRef}
use Rattle.kb_term.specs.declared.origin.Found.{Found}
use Rattle.kb_term.specs.declared.origin.Found.TheVariants.{No, Variant, Strict}
use Rattle.kb_cert.specs.Family.{IsFirstOrder}
use Rattle.kb_cert.specs.declared.certificate.Certificate.{Certificate}
use Rattle.kb_node.specs.declared.job.Fact.{Fact}
use Rattle.kb_node.specs.declared.job.Job.TheVariants.{Reduce, Orient, Overlap, Close}
use Rattle.mkb_model.specs.Plain.{Plain, other, rules_at, constraints_of}
use Rattle.mkb_model.proofs.Lists.{clash}
use Rattle.mkb_model.specs.DueJobs.{reducers, is_usable}
use Rattle.mkb_model.specs.Proposals.{NamedRule, named_rules, IsUsableRedex, IsFirstRedex, IsIrreducible, IsFactOf, OrientsBy, Proposes, equations_on, IsUnjoining, IsClosed, IsOverlapStop, IsInputStop}
use Rattle.mkb_model.specs.declared.proposed.Proposed.{Proposed}
use Rattle.mkb_model.specs.declared.proposed.Proposed.TheVariants.{Facts, Rewrite, Limit, One, Both, Refuse, Deduce, Unjoined, Closed}
use Rattle.kb_jobs.specs.Rules.{listed}
use Rattle.kb_jobs.specs.Reducing.{usable, ProposesReduce}
use Rattle.kb_jobs.specs.Orienting.{OrientsTowards, ProposesOrient}
use Rattle.kb_jobs.specs.Overlapping.{ProposesOverlap}
use Rattle.kb_jobs.specs.Taken.{IsTakenReduce, IsTakenOrient, IsTakenOverlap, IsTakenClose}
use Rattle.kb_jobs.specs.Closing.{equations_of, ProposesClose}
use Rattle.kb_jobs.specs.Working.{job_of, IsTaken, ProposesBy}
use Rattle.kb_jobs.specs.declared.working.Snapshot.{Snapshot}
use Rattle.kb_jobs.specs.declared.working.Snapshot.TheVariants.{Reduce as ReduceOf, Orient as OrientOf, Overlap as OverlapOf, Close as CloseOf}
use Rattle.kb_jobs.specs.declared.closing.CloseSnapshot.{CloseSnapshot}
use Rattle.kb_term.specs.Tree.{Tree}
use Rattle.kb_jobs.specs.declared.reducing.ReduceSnapshot.{ReduceSnapshot}
use Rattle.kb_jobs.specs.declared.orienting.OrientSnapshot.{OrientSnapshot}
use Rattle.kb_jobs.specs.declared.overlapping.OverlapSnapshot.{OverlapSnapshot}
use Rattle.kb_jobs.proofs.Swapped.{first_behind}

usable_at : (b : Plain) (s : ReduceSnapshot) → IsTakenReduce b s → (w : ℕ) (k : Found) → usable s w k ≡ is_usable b s.process s.node.0 w k
usable_at b s t w No = refl
usable_at b s t zero Variant = t.any_first
usable_at b s t (suc w) Variant = t.any_second
usable_at b s t w Strict = refl

module _ (b : Plain) (s : ReduceSnapshot) (t : IsTakenReduce b s) where
  abbrev all : List NamedRule
  all = named_rules b (reducers b s.process s.node.0)

  abbrev may : ℕ → Found → Bool
  may = is_usable b s.process s.node.0

  -- a redex by the rules of the snapshot is one by the rules of the process
  redex_on : (w : ℕ) (at : List ℕ) (a : RuleRef) (k : Found) (u : Tree) → IsUsableRedex (listed s.rules) s.pair (usable s) w at a k u → IsUsableRedex all s.pair may w at a k u
  redex_on w at a k u h = record { rule = h.rule; listed = t.rules _ h.listed; is_side = h.is_side; rewrites = h.rewrites; found = h.found; may_be = sym (usable_at b s t w k) ∙ h.may_be }

  -- and each of those is one of the snapshot's: idle rules have none
  redex_in : (w : ℕ) (at : List ℕ) (a : RuleRef) (k : Found) (u : Tree) → IsUsableRedex all s.pair may w at a k u → IsUsableRedex (listed s.rules) s.pair (usable s) w at a k u
  redex_in w at a k u h =
      ⊎_elim
      (λ i. record { rule = h.rule; listed = i; is_side = h.is_side; rewrites = h.rewrites; found = h.found; may_be = usable_at b s t w k ∙ h.may_be })
      (λ idle. clash h.may_be (idle w k h.is_side h.found))
      (t.others (record { ref = a; rule = h.rule }) h.listed)

  first_on : (w : ℕ) (at : List ℕ) (a : RuleRef) (k : Found) (u : Tree) → IsFirstRedex (listed s.rules) s.pair (usable s) w at a k u → IsFirstRedex all s.pair may w at a k u
  first_on w at a k u h = record { is_redex = redex_on w at a k u h.is_redex; is_first = λ v pos c l r i. h.is_first v pos c l r (redex_in v pos c l r i) }

  none_on : IsIrreducible (listed s.rules) s.pair (usable s) → IsIrreducible all s.pair may
  none_on h w at a k u i = h w at a k u (redex_in w at a k u i)

  facts_on : (f : Fact) → IsFactOf (listed s.rules) s.pair f → IsFactOf all s.pair f
  facts_on f h = (h.0, t.rules _ h.1, h.2)

reduce_taken : (b : Plain) (s : ReduceSnapshot) (x : Proposed) → IsTakenReduce b s → ProposesReduce s x → Proposes b (Reduce s.process s.node) x
reduce_taken b s (Facts fs) t h =
    (s.pair, t.pair, record { none_usable = none_on b s t h.none_usable; at_node = h.at_node; are_unknown = h.are_unknown ∙ t.unknown; are_true = λ f i. facts_on b s t f (h.are_true f i) })
reduce_taken b s (Rewrite m w at a kind result) t h = (h.0, (s.pair, t.pair, record { first = first_on b s t w at a kind (tree_of result) h.1.first; fits = h.1.fits }))
reduce_taken b s (Limit j cause) t h =
    let l = h.1 in
    (h.0, (s.pair, t.pair, record { side = l.side; at = l.at; rule = l.rule; kind = l.kind; result = l.result; limit = l.limit; first = first_on b s t l.side l.at l.rule l.kind l.result l.first; passes = l.passes; redex_is = l.redex_is; reason_is = l.reason_is }))
reduce_taken b s x t h = absurd h

-- the first order by what the snapshot has is the first on the board, where the rule of the node stands behind the constraints
board_order : (b : Plain) (s : OrientSnapshot) (rules : List Rule) (d : ℕ) (o : Option Certificate) → IsTakenOrient b s → rules ≡ rules_at b (record { node = s.node.0; dir = d } ∷ constraints_of b s.process) → IsFirstOrder s.family s.signature rules o → OrientsBy b s.process s.node.0 d o
board_order b s rules d o t e h =
    first_behind b b.settings.family b.problem.signature (record { node = s.node.0; dir = d }) (constraints_of b s.process) o
    (subst (λ z. z) (λ i. IsFirstOrder (t.family i) (t.signature i) (e i) o) h)

towards_taken : (b : Plain) (s : OrientSnapshot) → IsTakenOrient b s → (d : ℕ) (o : Option Certificate) → (d ≡ 0) ⊎ (d ≡ 1) → OrientsTowards s d o → OrientsBy b s.process s.node.0 d o
towards_taken b s t d o (inl e) h =
    subst {A = ℕ} (λ z. OrientsBy b s.process s.node.0 z o) (sym e)
    (board_order b s s.forth.items 0 o t t.forth (subst {A = ℕ} (λ z. OrientsTowards s z o) e h))
towards_taken b s t d o (inr e) h =
    subst {A = ℕ} (λ z. OrientsBy b s.process s.node.0 z o) (sym e)
    (board_order b s s.back.items 1 o t t.back (subst {A = ℕ} (λ z. OrientsTowards s z o) e h))

other_way : (d : ℕ) → (d ≡ 0) ⊎ (d ≡ 1) → (other d ≡ 0) ⊎ (other d ≡ 1)
other_way d (inl e) = inr (ap other e)
other_way d (inr e) = inl (ap other e)

orient_taken : (b : Plain) (s : OrientSnapshot) (x : Proposed) → IsTakenOrient b s → ProposesOrient s x → Proposes b (Orient s.process s.node) x
orient_taken b s (One p n d c) t h = (h.0, h.1, h.2, towards_taken b s t d (Some c) h.2 h.3, towards_taken b s t (other d) None (other_way d h.2) h.4)
orient_taken b s (Both p n c0 c1) t h = (h.0, h.1, towards_taken b s t 0 (Some c0) (inl refl) h.2, towards_taken b s t 1 (Some c1) (inr refl) h.3)
orient_taken b s (Refuse p n) t h = (h.0, h.1, towards_taken b s t 0 None (inl refl) h.2, towards_taken b s t 1 None (inr refl) h.3)
orient_taken b s x t h = absurd h

overlap_taken : (b : Plain) (s : OverlapSnapshot) (x : Proposed) → IsTakenOverlap b s → ProposesOverlap s x → Proposes b (Overlap s.process s.first s.second) x
overlap_taken b s (Deduce a c pairs) t h = (h.0, h.1, (s.first_rule, s.second_rule, t.first, t.second, h.2))
overlap_taken b s (Limit j cause) t h = (h.0, (h.1.0, (s.first_rule, s.second_rule, t.first, t.second, h.1.1)))
overlap_taken b s x t h = absurd h

close_taken : (b : Plain) (s : CloseSnapshot) (x : Proposed) → IsTakenClose b s → ProposesClose s x → Proposes b (Close s.process) x
close_taken b s (Unjoined p pairs) t h = (h.0, subst {A = List NamedRule} (λ r. IsUnjoining r (equations_on b s.process) pairs) t.rules (subst {A = List (Tree × Tree)} (λ e. IsUnjoining (listed s.rules) e pairs) t.equations h.1))
close_taken b s (Closed p) t h =
    (h.0, subst {A = List NamedRule} (λ r. IsClosed r (equations_on b s.process) b.problem.equations) t.rules (subst {A = List (Tree × Tree)} (λ e. IsClosed (listed s.rules) e b.problem.equations) t.equations (subst {A = List (Tree × Tree)} (λ i. IsClosed (listed s.rules) (equations_of s.equations.items) i) t.inputs h.1)))
close_taken b s (Limit j cause) t h = (
  h.0,
  (
    h.1.0,
    ⊎_elim
        (λ o. inl (subst {A = List NamedRule} (λ r. IsOverlapStop r cause.reason) t.rules o))
        (λ i. inr (subst {A = List NamedRule} (λ r. IsInputStop r (equations_on b s.process) b.problem.equations cause.reason) t.rules (subst {A = List (Tree × Tree)} (λ e. IsInputStop (listed s.rules) e b.problem.equations cause.reason) t.equations (subst {A = List (Tree × Tree)} (λ z. IsInputStop (listed s.rules) (equations_of s.equations.items) z cause.reason) t.inputs i))))
        h.1.1,
  ),
)
close_taken b s x t h = absurd h

pub work_taken : (b : Plain) (s : Snapshot) (x : Proposed) → IsTaken b s → ProposesBy s x → Proposes b (job_of s) x
work_taken b (ReduceOf s) x t h = reduce_taken b s x t h
work_taken b (OrientOf s) x t h = orient_taken b s x t h
work_taken b (OverlapOf s) x t h = overlap_taken b s x t h
work_taken b (CloseOf s) x t h = close_taken b s x t h
