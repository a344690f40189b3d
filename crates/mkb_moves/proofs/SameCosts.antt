-- A process of which the equations, rules and constraints stay costs what it did.
use Rattle.std.proofs.Common.{ℕ, ◌+◌, ◌<◌, ◌≡◌, refl, sym, ap, ap₂, ◌∙◌, List, [], ◌∷◌, length, Contains, Option}
use Rattle.std.specs.Prelude.{sum_by}
use Rattle.std.specs.Option.{option_map_or}
use Rattle.std.proofs.lemmas.List.Sums.{sum_by-cons}
use Rattle.kb_lemmas.proofs.Membership.{contains_first, contains_behind}
use Rattle.kb_term.specs.Pair.{Pair}
use Rattle.kb_term.specs.Signature.{Problem}
use Rattle.kb_term.specs.declared.origin.RuleRef.{RuleRef}
use Rattle.kb_label.specs.Names.{Name}
use Rattle.kb_label.specs.declared.verdict.Reason.{Reason}
use Rattle.kb_node.specs.declared.node.NodeId.{NodeId}
use Rattle.kb_node.specs.declared.node.LabelKind.TheVariants.{E}
use Rattle.kb_node.specs.declared.job.Fact.{Fact}
use Rattle.mkb_model.specs.Plain.{Plain, View, rule_kind, constraint_kind, equations_of, rules_of, constraints_of, view, pair_size, node_size, rule_sizes, counted_rules, cost}
use Rattle.mkb_model.specs.Journals.{Moment, IsPossibleRun, IsCommitting, IsFreeJob}
use Rattle.mkb_model.specs.Ready.{KeepsPairs}
use Rattle.mkb_model.specs.declared.entry.Effect.{Effect}
use Rattle.mkb_model.specs.declared.entry.Effect.TheVariants.{Over, Made}
use Rattle.mkb_model.specs.declared.entry.Entry.TheVariants.{Commit}
use Rattle.mkb_model.specs.declared.proposed.Proposed.TheVariants.{Facts, Refuse, Closed}
use Rattle.mkb_model.specs.declared.settings.Selection.{Selection}
use Rattle.mkb_model.specs.declared.settings.Selection.TheVariants.{Stated, Size as BySize}
use Rattle.mkb_model.specs.declared.settings.Settings.{Settings}
use Rattle.mkb_model.proofs.commits.Roles.{on_there}
use Rattle.mkb_model.proofs.commits.Views.{there_pair}
use Rattle.mkb_model.proofs.labels.LivingNames.{effect_setting}
use Rattle.mkb_model.proofs.nodes.DistinctPairs.{pairs_follow}
use Rattle.mkb_moves.specs.Changes.{KeepsCosts, OthersKeepCosts}
use Rattle.mkb_moves.proofs.Sight.{equations_are, rules_are, constraints_are}
use Rattle.mkb_moves.proofs.Makes.{making, stopping}
use Rattle.mkb_moves.proofs.Others.{others_left}
use Rattle.mkb_moves.proofs.Stopped.{facts_noted}
use Rattle.mkb_moves.proofs.Turning.{refusal_seen}

-- a sum is the same where each part is
sum_same : {X : Type 0} (f g : X → ℕ) (xs : List X) → ((x : X) → Contains xs x → f x ≡ g x) → sum_by f xs ≡ sum_by g xs
sum_same f g [] h = refl
sum_same f g (x ∷ xs) h = sum_by-cons f x xs ∙ ap₂ (λ (m n : ℕ). m + n) (h x (contains_first x xs)) (sum_same f g xs (λ y i. h y (contains_behind x xs y i))) ∙ sym (sum_by-cons g x xs)

module _ (b c : Plain) (keeps : KeepsPairs b.nodes c.nodes) (settings : c.settings ≡ b.settings) (p : Name) (seen : view c p ≡ view b p) where
  size_same : (m : ℕ) → m < length b.nodes → node_size c m ≡ node_size b m
  size_same m h = let r = there_pair b.nodes m h in ap (λ (o : Option Pair). option_map_or pair_size o 0) (keeps m r.0 r.1 ∙ sym r.1)

  equation_costs : sum_by (node_size c) (equations_of c p) ≡ sum_by (node_size b) (equations_of b p)
  equation_costs = ap (λ (z : View). sum_by (node_size c) z.equations) seen ∙ sum_same (node_size c) (node_size b) (equations_of b p) (λ m i. size_same m (on_there b.nodes p m E ((equations_are b p m).0 i)))

  constraint_costs : rule_sizes c (constraints_of c p) ≡ rule_sizes b (constraints_of b p)
  constraint_costs = ap (λ (z : View). rule_sizes c z.constraints) seen
      ∙ sum_same (λ (a : RuleRef). node_size c a.node) (λ (a : RuleRef). node_size b a.node) (constraints_of b p) (λ a i. size_same a.node (on_there b.nodes p a.node (constraint_kind a.dir) ((constraints_are b p a).0 i).1))

  rule_costs : (by : Selection) → rule_sizes c (counted_rules by c p) ≡ rule_sizes b (counted_rules by b p)
  rule_costs Stated = refl
  rule_costs BySize = ap (λ (z : View). rule_sizes c z.rules) seen
      ∙ sum_same (λ (a : RuleRef). node_size c a.node) (λ (a : RuleRef). node_size b a.node) (rules_of b p) (λ a i. size_same a.node (on_there b.nodes p a.node (rule_kind a.dir) ((rules_are b p a).0 i).1))

  cost_same : cost c p ≡ cost b p
  cost_same = ap₂ (λ (m n : ℕ). m + n) (ap₂ (λ (m n : ℕ). m + n) equation_costs constraint_costs) (ap (λ (z : Settings). rule_sizes c (counted_rules z.selection c p)) settings ∙ rule_costs b.settings.selection)

-- ---- commits

-- who sees what it saw
by_view : (past : List Moment) (b : Plain) (w t : ℕ) (e : Effect) (d : Plain) → IsCommitting past b w t e d → (p : Name) → view d p ≡ view b p → cost d p ≡ cost b p
by_view past b w t e d c = cost_same b d (pairs_follow IsFreeJob past b (Commit w t e) d c) (ap (λ (z : Plain). z.settings) c.leads_to ∙ (effect_setting b c.proposal).1)

pub others_costs : (P : Problem) (n : Settings) (past : List Moment) (b : Plain) (w t : ℕ) (e : Effect) (d : Plain) → IsPossibleRun P n past b → (c : IsCommitting past b w t e d) → OthersKeepCosts b d c.proposal
others_costs P n past b w t e d run c p lives h = by_view past b w t e d c p (others_left P n past b w t e d run c p lives h).same_view

pub facts_costs : (past : List Moment) (b : Plain) (w t : ℕ) (fs : List Fact) (next : Plain) → IsCommitting past b w t (Made (Facts fs)) next → KeepsCosts b next
facts_costs past b w t fs next f p = by_view past b w t (Made (Facts fs)) next f p ((facts_noted past b w t fs next f).1 p)

pub refusal_costs : (past : List Moment) (b : Plain) (w t : ℕ) (p : Name) (n : NodeId) (next : Plain) → IsCommitting past b w t (Made (Refuse p n)) next → KeepsCosts b next
refusal_costs past b w t p n next f q = by_view past b w t (Made (Refuse p n)) next f q (refusal_seen past b w t p n next f q)

pub closing_costs : (past : List Moment) (b : Plain) (w t : ℕ) (p : Name) (next : Plain) → IsCommitting past b w t (Made (Closed p)) next → KeepsCosts b next
closing_costs past b w t p next f q = by_view past b w t (Made (Closed p)) next f q (ap (λ (z : Plain). view z q) (making past b w t (Closed p) next f).leads_to)

pub limit_costs : (past : List Moment) (b : Plain) (w t : ℕ) (r : Reason) (next : Plain) → IsCommitting past b w t (Over r) next → KeepsCosts b next
limit_costs past b w t r next f p = by_view past b w t (Over r) next f p (ap (λ (z : Plain). view z p) (stopping past b w t r next f))
