use Rattle.std.proofs.Common.{ℕ, ◌≡◌, ◌∙◌, ◌+◌, ◌-◌, ◌<◌, ◌||◌, Bool, List, length, take, get_or, arith, ap, refl, sym}
use Rattle.std.specs.List.{list_any}
use Rattle.std.proofs.lemmas.List.Folds.{list_any_at, list_any_more}
use Rattle.std.proofs.Math.Bool.{or-false}
use Rattle.kb_term.specs.declared.origin.RuleRef.{RuleRef}
use Rattle.mkb_agenda.specs.Open.{is_open_to}
use Rattle.mkb_agenda.proofs.due.Seen.has_open_rule.Goals as goal

-- of the first rules, one more than k, some passes the test where some of the first k does, or the next one
last_of : (f : RuleRef → Bool) (rules : List RuleRef) (i k : ℕ) → i < length rules → k ≡ length rules - 1 - i → list_any f (take (length rules - i) rules) ≡ (list_any f (take k rules) || f (get_or rules k (record { node = 0; dir = 0 })))
last_of f rules i k h e =
    ap (λ n. list_any f (take n rules)) (omega (arith, h, e)) ∙ list_any_more f rules k (record { node = 0; dir = 0 }) (omega (arith, h, e))

pub returns-then-is_open : goal.returns-then-is_open
returns-then-is_open c =
    let f = is_open_to c.args.node.now.known.now.board c.args.node.now.roles c.args.node.now.known.now.node.0 in
    let rules = c.args.self.now.rules.now in
    sym (list_any_at f rules (length rules - 1 - c.loop-i.i) (record { node = 0; dir = 0 }) (omega (arith, c.loop-i-test.true)) (sym c.is_open.ensures ∙ c.if-is_open.true))

pub loop-i-preserved : goal.loop-i-preserved
loop-i-preserved c =
    let f = is_open_to c.args.node.now.known.now.board c.args.node.now.roles c.args.node.now.known.now.node.0 in
    let rules = c.args.self.now.rules.now in
    let i = c.loop-i.i in
    let k = length rules - 1 - i in
    c.loop-i.invariant ∙ last_of f rules i k c.loop-i-test.true refl
    ∙ ap (λ (z : Bool). list_any f (take k rules) || z) (sym c.is_open.ensures ∙ c.if-is_open.false)
    ∙ or-false (list_any f (take k rules))
    ∙ ap (λ (n : ℕ). list_any f (take n rules)) {y = length rules - (i + 1)} (omega (arith, c.loop-i-test.true))

pub returns : goal.returns
returns c =
    let f = is_open_to c.args.node.now.known.now.board c.args.node.now.roles c.args.node.now.known.now.node.0 in
    let rules = c.args.self.now.rules.now in
    sym (c.loop-i.invariant ∙ ap (λ (n : ℕ). list_any f (take n rules)) {y = 0} (omega (arith, c.loop-i-test.false)))
