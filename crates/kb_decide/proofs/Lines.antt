-- Lines that lead from one term to another.
use Rattle.std.proofs.Common.{ℕ, suc, ◌+◌, ◌-◌, ◌<◌, ◌≡◌, ◌≢◌, refl, sym, ap, ap₂, ◌∙◌, subst, arith, List, [], ◌∷◌, ◌++◌, length, Contains, Option, Some, None, Ok, Err}
use Rattle.std.specs.Prelude.{◌≤◌, ◌↔◌, slice_get, false, IsSomeAnd}
use Rattle.std.proofs.lemmas.Option.{slice_get-get_or, same_Some}
use Rattle.std.proofs.lemmas.List.Elements.{All-cons}
use Rattle.kb_term.specs.Tree.{Tree, variables_of}
use Rattle.kb_term.specs.Position.{subtree_at, replace_at}
use Rattle.kb_term.specs.Pair.{term_limit}
use Rattle.kb_term.specs.View.{tree_of}
use Rattle.kb_term.specs.Made.{IsLimitedAnswer}
use Rattle.kb_term.specs.declared.term.Term.{Term}
use Rattle.kb_term.specs.declared.fault.TermFault.TheVariants.{Large}
use Rattle.kb_term.specs.declared.limit.Limit.{Limit}
use Rattle.kb_term.specs.Rule.{Rule}
use Rattle.kb_term.specs.Substitution.{instance}
use Rattle.kb_term.specs.Proving.{RewritesAt}
use Rattle.kb_term.proofs.Instances.{agree_at, instance-agree}
use Rattle.kb_term.proofs.Steps.{occurs_from, occurs_to}
use Rattle.kb_term.proofs.Bridge.{step_from_position}
use Rattle.kb_term.proofs.FewArguments.{few_from_arities}
use Rattle.kb_term.specs.FewArguments.{HasFewArguments}
use Rattle.kb_lpo.proofs.Arities.{keeps_well}
use Rattle.kb_rewrite.specs.NormalForm.{HoldVariables, StrategyStep, IsFirstRedex, long, large}
use Rattle.kb_rewrite.specs.Search.{IsRedexAnswer, IsStepAnswer}
use Rattle.kb_rewrite.specs.declared.redex.Redex.{Redex}
use Rattle.kb_rewrite.proofs.Steps.{rewrites_at}
use Rattle.kb_rewrite.proofs.FirstRedexes.{rule_inside}
use Rattle.kb_rewrite.proofs.Runs.{Run, run_none, answers_form, answers_large}
use Rattle.kb_decide.specs.Deciding.{IsStepBy, IsStrategyStepBy, LeadsBy, Leads, Normalises, IsStopped, IsLimitReason}
use Rattle.kb_decide.specs.Running.{IsOver, IsStepped}
use Rattle.kb_decide.specs.declared.decision.Reason.{Reason}
use Rattle.kb_decide.specs.declared.decision.Reason.TheVariants.{Steps}
use Rattle.kb_decide.specs.declared.decision.Line.{Line}

-- a rule that holds its variables rewrites at a position in one way
rewrites_once : (rule : Rule) (p : List ℕ) (t u v : Tree) → ((n : ℕ) → Contains (variables_of rule.right) n → Contains (variables_of rule.left) n) → RewritesAt rule p t u → RewritesAt rule p t v → u ≡ v
rewrites_once rule p t u v held (m, w) (k, z) =
    let same : instance m rule.left ≡ instance k rule.left = same_Some _ _ (sym w.redex ∙ z.redex) in
    let right = instance-agree m k rule.right (λ n o. agree_at m k rule.left same n (occurs_from n rule.left (held n (occurs_to n rule.right o)))) in
    same_Some _ _ (sym w.result ∙ ap (replace_at t p) right ∙ z.result)

-- a rule at its place in the list is one of the list
pub among : (rules : List Rule) (i : ℕ) (rule : Rule) → slice_get rules i ≡ Some rule → Contains rules rule
among rules i rule there =
    let inside = rule_inside rules i rule there in
    (i, inside, same_Some _ _ (sym (slice_get-get_or rules i rule inside) ∙ there))

-- the step of a line is one
pub step_once : (rules : List Rule) (line : Line) (s u v : Tree) → HoldVariables rules → IsStepBy rules line s u → IsStepBy rules line s v → u ≡ v
step_once rules line s u v held one other =
    let same_index : other.index ≡ one.index = omega (arith, one.number, other.number) in
    let same : other.rule ≡ one.rule = same_Some _ _ (sym other.there ∙ ap (slice_get rules) same_index ∙ one.there) in
    rewrites_once one.rule line.position s u v (held one.rule (among rules one.index one.rule one.there)) one.rewrites (subst (λ (r : Rule). RewritesAt r line.position s v) same other.rewrites)

-- what a line's rule makes is its step
pub step_of : (rules : List Rule) (line : Line) (s v : Tree) (rule : Rule) → line.rule ≢ 0 → slice_get rules (line.rule - 1) ≡ Some rule → RewritesAt rule line.position s v → IsStepBy rules line s v
step_of rules line s v rule some there w = record { index = line.rule - 1; number = omega (arith, some); rule = rule; there = there; rewrites = w }

-- ---- runs of the strategy

-- one line more
pub leads_more : (Goes : Line → Tree → Tree → Type 0) (lines : List Line) (line : Line) (s t u : Tree) → LeadsBy Goes lines s t → Goes line t u → term_limit u ≡ None → LeadsBy Goes (lines ++ line ∷ []) s u
leads_more Goes [] line s t u e g small = (u, subst (λ x. Goes line x u) (sym e) g, small, refl)
leads_more Goes (l ∷ lines) line s t u (v, h, k, more) g small = (v, h, k, leads_more Goes lines line v t u more g small)

-- the step of the strategy that a line names
pub strategy_of : (rules : List Rule) (line : Line) (s t : Tree) → IsStrategyStepBy rules line s t → StrategyStep rules s t
strategy_of rules line s t h = (line.position, h.index, h.first, h.rewrites)

-- the path of the lines
pub path_of : (rules : List Rule) (lines : List Line) (s t : Tree) → LeadsBy (IsStrategyStepBy rules) lines s t → Run rules s t (length lines)
path_of rules [] s t e = run_none rules s t e
path_of rules (line ∷ lines) s t (u, h, small, more) =
    let r = path_of rules lines u t more in
    (u ∷ r.0, ((strategy_of rules line s u h, r.1.0), All-cons (λ v. term_limit v ≡ None) u r.0 small r.1.1), ap suc r.2)

-- the lines of a run are steps by the rules
pub strategy_leads : (rules : List Rule) (lines : List Line) (s t : Tree) → LeadsBy (IsStrategyStepBy rules) lines s t → Leads rules lines s t
strategy_leads rules [] s t e = e
strategy_leads rules (line ∷ lines) s t (u, h, small, more) =
    (u, record { index = h.index; number = h.number; rule = h.first.redex.rule; there = h.first.redex.there; rewrites = h.rewrites }, small, strategy_leads rules lines u t more)

-- ---- the end of a run

-- a line with this position and this number
line_is : (line : Line) (p : List ℕ) (n : ℕ) → line.position ≡ p → line.rule ≡ n → line ≡ record { position = p; rule = n }
line_is line p n at number = ap₂ (λ (q : List ℕ) (k : ℕ). record (line) { position = q; rule = k }) at number

-- the first redex that an answer names
first_of : (rules : List Rule) (s : Tree) (o : Option Redex) (r : Redex) → IsRedexAnswer rules false s o → o ≡ Some r → IsFirstRedex rules false s r.position r.rule
first_of rules s o r h e = let k : IsRedexAnswer rules false s (Some r) = subst (IsRedexAnswer rules false s) e h in k.0

-- its rule is one of the list
pub rule_below : (rules : List Rule) (s : Tree) (o : Option Redex) (r : Redex) → IsRedexAnswer rules false s o → o ≡ Some r → r.rule < length rules
rule_below rules s o r h e = let first = first_of rules s o r h e in rule_inside rules r.rule first.redex.rule first.redex.there

-- the line of the redex is the step of the strategy
pub strategy_made : (rules : List Rule) (s : Tree) (o : Option Redex) (r : Redex) (line : Line) (next : Term) → IsRedexAnswer rules false s o → o ≡ Some r → IsStepAnswer rules s r.position r.rule (Ok next) → line.position ≡ r.position → line.rule ≡ r.rule + 1 → IsStrategyStepBy rules line s (tree_of next) × (term_limit (tree_of next) ≡ None)
strategy_made rules s o r line next h e answer at number =
    let first = first_of rules s o r h e in
    let made = answer first.redex.rule first.redex.there in
    let step : IsStrategyStepBy rules (record { position = r.position; rule = r.rule + 1 }) s (tree_of next) = record { index = r.rule; number = refl; first = first; rewrites = subst (λ v. RewritesAt first.redex.rule r.position s v) (sym made.2.0) made.1 } in
    (subst {A = Line} (λ l. IsStrategyStepBy rules l s (tree_of next)) (sym (line_is line r.position (r.rule + 1) at number)) step, ap term_limit made.2.0 ∙ made.2.1)

-- a run that ends at a normal form
pub form_made : (rules : List Rule) (lines : List Line) (s t : Tree) (o : Option Redex) → LeadsBy (IsStrategyStepBy rules) lines s t → length lines ≤ 10000 → IsRedexAnswer rules false t o → o ≡ None → Normalises rules lines s t
form_made rules lines s t o leads few h e = (leads, answers_form rules s t (length lines) (path_of rules lines s t leads) few (subst (IsRedexAnswer rules false t) e h))

-- a run that ends where a redex is left after the last step
pub stopped_long : (rules : List Rule) (lines : List Line) (s t : Tree) (o : Option Redex) (r : Redex) → LeadsBy (IsStrategyStepBy rules) lines s t → length lines ≡ 10000 → IsRedexAnswer rules false t o → o ≡ Some r → IsStopped rules s Steps
stopped_long rules lines s t o r leads all h e =
    let p = path_of rules lines s t leads in
    (long 10000, (refl, p.0, t, p.1, p.2 ∙ all, (r.position, r.rule, (first_of rules t o r h e).redex)), refl)

-- a run that ends where the result of a step passes a limit
pub stopped_large : (rules : List Rule) (lines : List Line) (s t : Tree) (o : Option Redex) (r : Redex) (limit : Limit) (reason : Reason) → LeadsBy (IsStrategyStepBy rules) lines s t → length lines < 10000 → IsRedexAnswer rules false t o → o ≡ Some r → IsStepAnswer rules t r.position r.rule (Err (Large limit)) → IsLimitReason limit reason → IsStopped rules s reason
stopped_large rules lines s t o r limit reason leads few h e answer is =
    let first = first_of rules t o r h e in
    let made = answer first.redex.rule first.redex.there in
    (large limit, answers_large rules s t made.0 (length lines) limit (path_of rules lines s t leads) few (r.position, r.rule, first, made.1) made.2, is)

-- ---- terms over a signature

pub few_over : (rules : List Rule) (t : Tree) → IsOver rules t → HasFewArguments t
few_over rules t h = few_from_arities h.signature h.arities t h.term_over

pub keeps_over : (rules : List Rule) (line : Line) (s t : Tree) → IsOver rules s → IsStrategyStepBy rules line s t → IsOver rules t
keeps_over rules line s t h k =
    record {
      signature = h.signature;
      arities = h.arities;
      over = h.over;
      term_over = keeps_well h.signature rules h.over s t h.term_over (step_from_position (Contains rules) s t (k.first.redex.rule, among rules k.index k.first.redex.rule k.first.redex.there, line.position, k.rewrites));
    }

-- ---- replays

-- a term to which the lines lead is reached by the first of them, and then by the others
pub led_on : (rules : List Rule) (line : Line) (lines : List Line) (s t : Tree) → HoldVariables rules → IsStepBy rules line s t → term_limit t ≡ None → (u : Tree) → Leads rules (line ∷ lines) s u ↔ Leads rules lines t u
led_on rules line lines s t held h small u = (
  (λ (v, k, l, more). subst (λ x. Leads rules lines x u) (step_once rules line s v t held k h) more),
  (λ more. (t, h, small, more)),
)

-- the lines are equal where their places are
pub led_same : (rules : List Rule) (one other : List Line) (s u : Tree) → one ≡ other → Leads rules one s u ↔ Leads rules other s u
led_same rules one other s u e = (subst (λ x. Leads rules x s u) e, subst (λ x. Leads rules x s u) (sym e))

-- the result of a line's step that passes no limit
pub stepped_made : (rules : List Rule) (line : Line) (s u made : Tree) (rule : Rule) (m : ℕ → Tree) (next : Term) → HoldVariables rules → line.rule ≢ 0 → slice_get rules (line.rule - 1) ≡ Some rule → subtree_at s line.position ≡ Some u → instance m rule.left ≡ u → made ≡ instance m rule.right → IsSomeAnd (replace_at s line.position made) (λ v. IsLimitedAnswer v (Ok next)) → IsStepped rules line s (Some next)
stepped_made rules line s u made rule m next held some there at left is h =
    let r = rewrites_at rule line.position m s made (Ok next) (at ∙ ap Some (sym left)) is h in
    let w = subst (λ v. RewritesAt rule line.position s v) (sym r.2.0) r.1 in
    let step = step_of rules line s (tree_of next) rule some there w in
    (step, ap term_limit r.2.0 ∙ r.2.1, λ v k. step_once rules line s v (tree_of next) held k step)

-- the result passes a limit
pub stepped_large : (rules : List Rule) (line : Line) (s u made : Tree) (rule : Rule) (m : ℕ → Tree) (limit : Limit) → HoldVariables rules → line.rule ≢ 0 → slice_get rules (line.rule - 1) ≡ Some rule → subtree_at s line.position ≡ Some u → instance m rule.left ≡ u → made ≡ instance m rule.right → IsSomeAnd (replace_at s line.position made) (λ v. IsLimitedAnswer v (Err (Large limit))) → IsStepped rules line s None
stepped_large rules line s u made rule m limit held some there at left is h v k small =
    let r = rewrites_at rule line.position m s made (Err (Large limit)) (at ∙ ap Some (sym left)) is h in
    let step = step_of rules line s r.0 rule some there r.1 in
    let same = step_once rules line s v r.0 held k step in
    let clash : None ≡ Some limit = sym small ∙ ap term_limit same ∙ r.2 in
    absurd (cc)
