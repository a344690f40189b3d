-- Which processes a commit moves, and from which state to which.
use Rattle.std.specs.Prelude.{ℕ, List, true, false, ◌≡◌, ◌≢◌, ◌⊎◌, ◌↔◌, IsTrue, IsFalse, Contains}
use Rattle.std.specs.declared.option.Option.TheVariants.{Some}
use Rattle.kb_term.specs.Tree.{Tree}
use Rattle.kb_term.specs.View.{tree_of}
use Rattle.kb_term.specs.declared.term.Term.{Term}
use Rattle.kb_term.specs.Pair.{Pair, canonical_pair}
use Rattle.kb_term.specs.declared.origin.RuleRef.{RuleRef}
use Rattle.kb_term.specs.declared.origin.Found.{Found}
use Rattle.kb_term.specs.declared.origin.Found.TheVariants.{Strict}
use Rattle.kb_overlap.specs.Trace.{other_side}
use Rattle.kb_label.specs.Names.{Name, has, child}
use Rattle.kb_label.specs.declared.verdict.Reason.{Reason}
use Rattle.kb_node.specs.declared.node.NodeId.{NodeId}
use Rattle.kb_node.specs.declared.node.LabelKind.TheVariants.{X}
use Rattle.kb_node.specs.declared.job.Deduced.{Deduced}
use Rattle.mkb_model.specs.Plain.{Plain, label, other, view, equations_of, rules_of, constraints_of, done_of, is_over, over_reason, pair_at}
use Rattle.mkb_model.specs.Effects.{direction, overlap_label, rewrite_label}
use Rattle.mkb_model.specs.Runs.{OfEachLimitedCommit}
use Rattle.mkb_model.specs.declared.entry.Effect.TheVariants.{Made}
use Rattle.mkb_model.specs.declared.proposed.Proposed.TheVariants.{Rewrite}

-- ---- who is not moved

-- the process lives on with the same equations, rules and constraints; it is refused the same nodes, has overlapped the same rules, and is closed or has given up as before
pub record IsLeftAlone (b c : Plain) (p : Name) : Type 0 where
  pub lives : IsTrue (has c.living p)
  pub same_view : view c p ≡ view b p
  pub refused : (n : ℕ) → has (label c n X) p ≡ has (label b n X) p
  pub overlapped : (a e : RuleRef) → has (done_of c a e) p ≡ has (done_of b a e) p
  pub closed : has c.closed p ≡ has b.closed p
  pub over : is_over c p ≡ is_over b p

-- ---- orienting

-- q has what p had, but for the equation of the node, and besides it the rule, which is a constraint too
pub record Orients (b : Plain) (p : Name) (c : Plain) (q : Name) (a : RuleRef) : Type 0 where
  pub had : Contains (equations_of b p) a.node
  pub equations : (m : ℕ) → Contains (equations_of c q) m ↔ (Contains (equations_of b p) m × (m ≢ a.node))
  pub rules : (e : RuleRef) → Contains (rules_of c q) e ↔ (Contains (rules_of b p) e ⊎ (e ≡ a))
  pub constraints : (e : RuleRef) → Contains (constraints_of c q) e ↔ (Contains (constraints_of b p) e ⊎ (e ≡ a))

-- the two children take the place of the process; the first turns the equation of the node into its rule in direction 0, the second into that in direction 1
pub record Forks (b : Plain) (p : Name) (c : Plain) (n : ℕ) : Type 0 where
  pub gone : IsFalse (has c.living p)
  pub first_lives : IsTrue (has c.living (child p false))
  pub second_lives : IsTrue (has c.living (child p true))
  pub first : Orients b p c (child p false) (record { node = n; dir = 0 })
  pub second : Orients b p c (child p true) (record { node = n; dir = 1 })

-- ---- deducing

-- the process has the node as no rule
abbrev pub HasNoRule : Plain → Name → ℕ → Type 0
HasNoRule b p m = (a : RuleRef) → Contains (rules_of b p) a → a.node ≢ m

-- each pair has a node, and the process gains the pairs as equations, but for those that it has as rules; its rules and its constraints stay
pub record Deduces (b c : Plain) (p : Name) (pairs : List Deduced) : Type 0 where
  pub there : (d : Deduced) → Contains pairs d → (m : ℕ) × (pair_at c m ≡ Some d.pair)
  pub equations : (m : ℕ) → Contains (equations_of c p) m ↔ (Contains (equations_of b p) m ⊎ ((d : Deduced) × Contains pairs d × (pair_at c m ≡ Some d.pair) × HasNoRule c p m))
  pub rules : rules_of c p ≡ rules_of b p
  pub constraints : constraints_of c p ≡ constraints_of b p

-- each process that has both rules and has not overlapped them yet gains the pairs, and the two rules are noted as overlapped
abbrev pub DeducesByBoth : Plain → Plain → RuleRef → RuleRef → List Deduced → Type 0
DeducesByBoth b c a e pairs = (p : Name) → IsTrue (has (overlap_label b a e) p) → Deduces b c p pairs × IsTrue (has (done_of c a e) p)

-- ---- rewriting

-- the node is that of the equation of the two terms, which is not trivial
abbrev pub IsNodeOf : Plain → Tree → Tree → ℕ → Type 0
IsNodeOf c s t m = (q : Pair) × (canonical_pair s t ≡ Some q) × (pair_at c m ≡ Some q)

-- the reference names the rule from the rest to the result, where they differ
abbrev pub IsRuleTo : Plain → Tree → Tree → RuleRef → Type 0
IsRuleTo c rest result e = (q : Pair) × (canonical_pair result rest ≡ Some q) × (pair_at c e.node ≡ Some q) × (e.dir ≡ direction rest result q)

-- the equation of the node becomes that of the result and the other side, but where that is trivial or a rule of the process
pub record Simplifies (b c : Plain) (p : Name) (n : ℕ) (rest result : Tree) : Type 0 where
  pub had : Contains (equations_of b p) n
  pub equations : (m : ℕ) → Contains (equations_of c p) m ↔ ((Contains (equations_of b p) m × (m ≢ n)) ⊎ (IsNodeOf c result rest m × HasNoRule c p m))
  pub rules : rules_of c p ≡ rules_of b p

-- the rule a becomes the rule from its left side to the result, whose pair is no equation from then on
pub record Composes (b c : Plain) (p : Name) (a : RuleRef) (rest result : Tree) : Type 0 where
  pub had : Contains (rules_of b p) a
  pub equations : (m : ℕ) → Contains (equations_of c p) m ↔ (Contains (equations_of b p) m × ¬ IsNodeOf c result rest m)
  pub rules : (e : RuleRef) → Contains (rules_of c p) e ↔ ((Contains (rules_of b p) e × (e ≢ a)) ⊎ IsRuleTo c rest result e)

-- the rule a becomes the equation of the result and its right side, but where that is trivial or another rule of the process
pub record Collapses (b c : Plain) (p : Name) (a : RuleRef) (rest result : Tree) : Type 0 where
  pub had : Contains (rules_of b p) a
  pub equations : (m : ℕ) → Contains (equations_of c p) m ↔ (Contains (equations_of b p) m ⊎ (IsNodeOf c result rest m × HasNoRule c p m))
  pub rules : (e : RuleRef) → Contains (rules_of c p) e ↔ (Contains (rules_of b p) e × (e ≢ a))

-- the process has the rule that rewrites side w of the pair of node n; the equation of the result and the other side has a node, unless it is trivial; and the process's equation of n is simplified, its rule with side w on the right is composed, or its rule with side w on the left, of which the redex is strict, is collapsed
pub record Rewrites (b c : Plain) (p : Name) (n w : ℕ) (a : RuleRef) (found : Found) (pair : Pair) (result : Tree) : Type 0 where
  pub by : Contains (rules_of b p) a
  pub there : (q : Pair) → canonical_pair result (other_side pair w) ≡ Some q → (m : ℕ) × (pair_at c m ≡ Some q)
  pub moves :
      Simplifies b c p n (other_side pair w) result
      ⊎ (Composes b c p (record { node = n; dir = other w }) (other_side pair w) result
      ⊎ ((found ≡ Strict) × Collapses b c p (record { node = n; dir = w }) (other_side pair w) result))
  pub constraints : constraints_of c p ≡ constraints_of b p

-- the node has a pair, of which each process of the label of the rewriting has side w rewritten to the result
abbrev pub RewritesLabel : Plain → Plain → NodeId → ℕ → RuleRef → Found → Term → Type 0
RewritesLabel b c n w a found result =
    (pair : Pair) × (pair_at b n.0 ≡ Some pair) × ((p : Name) → IsTrue (has (rewrite_label b n.0 w a found) p) → Rewrites b c p n.0 w a found pair (tree_of result))

-- in each possible run of a problem within the limits, each commit of this rewriting rewrites its label
abbrev pub MovesItsLabel : NodeId → ℕ → List ℕ → RuleRef → Found → Term → Type 0
MovesItsLabel n w at a found result = OfEachLimitedCommit (Made (Rewrite n w at a found result)) (λ board next _. RewritesLabel board next n w a found result)

-- ---- giving up

-- the process has given up, for this reason unless it had before, and sees what it saw
pub record GivesUp (b c : Plain) (p : Name) (r : Reason) : Type 0 where
  pub over : IsTrue (is_over c p)
  pub reason : IsFalse (is_over b p) → over_reason c p ≡ Some r
  pub same_view : view c p ≡ view b p
