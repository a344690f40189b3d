use Rattle.std.proofs.Common.{◌≡◌, sym, ap, ap₂, ◌∙◌, List, Bool, ◌&&◌, ◌||◌, ◌+◌, drop}
use Rattle.std.proofs.lemmas.List.{drop_all}
use Rattle.std.specs.List.{list_any}
use Rattle.kb_term.specs.declared.origin.RuleRef.{RuleRef}
use Rattle.kb_label.specs.Names.{Name}
use Rattle.kb_node.specs.declared.node.NodeId.{NodeId}
use Rattle.mkb_model.specs.Plain.{Plain, is_rule}
use Rattle.mkb_rules.specs.Known.{NodeOn}
use Rattle.mkb_rules.specs.Roles.{roles_of}
use Rattle.mkb_rules.specs.declared.roles.Roles.{Roles}
use Rattle.mkb_agenda.specs.Open.{is_open_to}
use Rattle.mkb_agenda.specs.Looking.{is_gained}
use Rattle.mkb_agenda.proofs.OpenRules.{any_next}
use Rattle.mkb_agenda.proofs.due.Seen.is_gained.Goals as goal

-- the rule is one of the process, and open to the node in these roles
abbrev gains : Plain → Name → NodeOn → Roles → RuleRef → Bool
gains b p k r a = is_rule b p a && is_open_to k.board r k.node.0 a

by_what_is_known : (b : Plain) (p : Name) (rules : List RuleRef) (n : NodeId) (k : NodeOn) (r : Roles) → k ≡ record { board = b; node = n } → r ≡ roles_of b p n.0 → list_any (gains b p k r) rules ≡ is_gained b p rules n.0
by_what_is_known b p rules n k r h e = ap₂ (λ (x : NodeOn) (y : Roles). list_any (gains b p x y) rules) h e

pub returns-then-is_gained_by : goal.returns-then-is_gained_by
returns-then-is_gained_by c =
    let b = c.args.self.now.state.now in
    let p = c.args.self.now.process.now in
    let rules = c.args.rules.now in
    let i = c.loop-i.i in
    let f = gains b p c.known_on-known.result c.roles_of.result in
    sym (sym (by_what_is_known b p rules c.args.n c.known_on-known.result c.roles_of.result c.known_on-known.ensures c.roles_of.ensures) ∙ c.loop-i.invariant ∙ any_next f rules i (record { node = 0; dir = 0 }) c.loop-i-test.true
    ∙ ap (λ (z : Bool). z || list_any f (drop (i + 1) rules)) (sym c.is_gained_by.ensures ∙ c.if-is_gained_by.true))

pub loop-i-preserved : goal.loop-i-preserved
loop-i-preserved c =
    let rules = c.args.rules.now in
    let i = c.loop-i.i in
    let f = gains c.args.self.now.state.now c.args.self.now.process.now c.known_on-known.result c.roles_of.result in
    c.loop-i.invariant ∙ any_next f rules i (record { node = 0; dir = 0 }) c.loop-i-test.true
    ∙ ap (λ (z : Bool). z || list_any f (drop (i + 1) rules)) (sym c.is_gained_by.ensures ∙ c.if-is_gained_by.false)

pub returns : goal.returns
returns c =
    let b = c.args.self.now.state.now in
    let p = c.args.self.now.process.now in
    let rules = c.args.rules.now in
    let f = gains b p c.known_on-known.result c.roles_of.result in
    sym (sym (by_what_is_known b p rules c.args.n c.known_on-known.result c.roles_of.result c.known_on-known.ensures c.roles_of.ensures) ∙ c.loop-i.invariant ∙ ap (list_any f) (drop_all c.loop-i.i rules c.loop-i-test.false))
