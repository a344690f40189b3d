-- What decisions mean.
use Rattle.std.proofs.Common.{ℕ, ◌≡◌, sym, ◌∙◌, subst, List, [], ◌∷◌, Contains}
use Rattle.kb_term.specs.Tree.{Tree}
use Rattle.kb_term.specs.Rule.{Rule}
use Rattle.kb_term.specs.Signature.{Signature}
use Rattle.kb_term.specs.View.{tree_of}
use Rattle.kb_term.specs.Proving.{IsPath, Proves, equations_of}
use Rattle.kb_term.specs.Proving as Proving
use Rattle.kb_term.specs.declared.term.Term.{Term}
use Rattle.kb_term.proofs.Steps.{Step}
use Rattle.kb_term.proofs.Chains.{reaches_map, reaches_trans}
use Rattle.kb_term.proofs.Bridge.{reaches_from, reaches_to}
use Rattle.kb_rewrite.specs.NormalForm.{IsNormal, NormalisesTo, StrategyStep, form}
use Rattle.kb_laws.proofs.Conversion.{Either, Equal, equal_step, equal_rule, equal_sym, equal_trans, equal_made_up}
use Rattle.kb_laws.proofs.CompletionLaws.{Members, proves_to, in_equations_of}
use Rattle.kb_laws.proofs.ConfluenceLaws.{joinable_by_confluence}
use Rattle.kb_decide.specs.Deciding.{IsDecision, IsDecidable, IsYes, Leads, Replays, ProvesGoal}
use Rattle.kb_decide.specs.declared.decision.Line.{Line}
use Rattle.kb_decide.specs.declared.decision.Decision.{Decision}
use Rattle.kb_decide.specs.declared.decision.Decision.TheVariants.{Yes, No, Unknown}
use Rattle.kb_decide.proofs.Lines.{among, strategy_leads}

-- ---- yes

-- the lines of a yes are steps by the rules
pub yes_replays : (rules : List Rule) (left right : Tree) (d : Decision) → IsDecision rules left right d → IsYes d → Replays rules left right d
yes_replays rules left right (Yes ls rs) (t, l, r) y = (t, strategy_leads rules ls.items left t l.0, strategy_leads rules rs.items right t r.0)
yes_replays rules left right (No s t) h y = absurd y
yes_replays rules left right (Unknown reason) h y = absurd y

-- where lines lead, rules do
leads_reach : (rules : List Rule) (lines : List Line) (s t : Tree) → Leads rules lines s t → Proving.Reaches rules s t
leads_reach rules [] s t e = ([], e)
leads_reach rules (line ∷ lines) s t (u, h, small, more) =
    let r = leads_reach rules lines u t more in
    (u ∷ r.0, ((h.rule, among rules h.index h.rule h.there, line.position, h.rewrites), r.1))

-- the ends of a chain are equal by the rules
reach_equal : (rules : List Rule) (s t : Tree) → Proving.Reaches rules s t → Equal (Contains rules) s t
reach_equal rules s t c = reaches_map (Step (Contains rules)) (Step (Either (Contains rules))) (λ x. x) (λ x y k. equal_step (Contains rules) x y k) s t (reaches_from rules s t c)

-- what is equal by the rules is proved by them as equations
equal_proved : (rules : List Rule) (s t : Tree) → Equal (Contains rules) s t → Proves (equations_of rules) s t
equal_proved rules s t c =
    let M = Members (equations_of rules) in
    proves_to (equations_of rules) s t (equal_made_up (Contains rules) M (λ r i. equal_rule M r (in_equations_of rules r i)) s t c)

-- lines that lead both sides to one term show that the rules prove the goal
pub replays_proves : (rules : List Rule) (left right : Tree) (d : Decision) → Replays rules left right d → ProvesGoal rules left right
replays_proves rules left right (Yes ls rs) (t, l, r) =
    let P = Contains rules in
    let one = reach_equal rules left t (leads_reach rules ls.items left t l) in
    let other = equal_sym P right t (reach_equal rules right t (leads_reach rules rs.items right t r)) in
    equal_proved rules left right (equal_trans P left t right one other)
replays_proves rules left right (No s t) h = absurd h
replays_proves rules left right (Unknown reason) h = absurd h

-- ---- no

-- from a normal form no chain leads on
normal_stays : (rules : List Rule) (s t : Tree) → IsNormal rules s → Proving.Reaches rules s t → s ≡ t
normal_stays rules s t n ([], e) = e
normal_stays rules s t n (u ∷ path, (h, more)) = absurd (n u h)

-- a run of the strategy is a chain
run_chain : (rules : List Rule) (path : List Tree) (s t : Tree) → IsPath (StrategyStep rules) path s t → Proving.IsChain rules path s t
run_chain rules [] s t e = e
run_chain rules (u ∷ path) s t ((p, i, first, w), more) = ((first.redex.rule, among rules i first.redex.rule first.redex.there, p, w), run_chain rules path u t more)

form_reached : (rules : List Rule) (s t : Tree) (n : ℕ) → NormalisesTo rules s (form t n) → Proving.Reaches rules s t
form_reached rules s t n (path, h, e, few, normal) = (path, run_chain rules path s t h.0)

pub form_normal : (rules : List Rule) (s t : Tree) (n : ℕ) → NormalisesTo rules s (form t n) → IsNormal rules t
form_normal rules s t n (path, h, e, few, normal) = normal

-- the rules prove a term equal to its normal form
pub form_proved : (rules : List Rule) (s t : Tree) (n : ℕ) → NormalisesTo rules s (form t n) → ProvesGoal rules s t
form_proved rules s t n h = equal_proved rules s t (reach_equal rules s t (form_reached rules s t n h))

-- where confluent rules prove the goal, its sides have one normal form
pub one_form : (g : Signature) (rules : List Rule) (left right u v : Tree) (n m : ℕ) → IsDecidable g rules left right → NormalisesTo rules left (form u n) → NormalisesTo rules right (form v m) → ProvesGoal rules left right → u ≡ v
one_form g rules left right u v n m d l r proved =
    let left_form = form_reached rules left u n l in
    let right_form = form_reached rules right v m r in
    let j = joinable_by_confluence g rules d.over d.confluent left right d.left_over d.right_over proved in
    let k = d.confluent right v j.0 d.right_over right_form j.2 in
    let same : v ≡ k.0 = normal_stays rules v k.0 (form_normal rules right v m r) k.1 in
    let on : Proving.Reaches rules j.0 v = subst (Proving.Reaches rules j.0) (sym same) k.2 in
    let whole = reaches_to rules left v (reaches_trans (Step (Contains rules)) left j.0 v (reaches_from rules left j.0 j.1) (reaches_from rules j.0 v on)) in
    let z = d.confluent left u v d.left_over left_form whole in
    normal_stays rules u z.0 (form_normal rules left u n l) z.1 ∙ sym (normal_stays rules v z.0 (form_normal rules right v m r) z.2)

-- confluent rules with two normal forms of the sides don't prove the goal
pub no_is_right : (g : Signature) (rules : List Rule) (left right : Tree) (s t : Term) → IsDecidable g rules left right → IsDecision rules left right (No s t) → ProvesGoal rules left right → ⊥
no_is_right g rules left right s t d ((n, l), (m, r), differ) proved = differ (one_form g rules left right (tree_of s) (tree_of t) n m d l r proved)
