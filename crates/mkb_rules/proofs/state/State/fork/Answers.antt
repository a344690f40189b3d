use Rattle.std.proofs.Common.{◌≤◌, List, length, ap, sym, subst, ◌∙◌, true, false}
use Rattle.kb_label.specs.Names.{Name, child, has, relabel}
use Rattle.mkb_model.specs.Plain.{Plain}
use Rattle.mkb_model.specs.Effects.{counted}
use Rattle.mkb_model.specs.declared.proposed.Proposed.TheVariants.{Both}
use Rattle.mkb_model.proofs.labels.NameLists.{child_lives}
use Rattle.mkb_rules.specs.Forking.{with_parts}
use Rattle.mkb_rules.specs.Kept.{plain_certificates}
use Rattle.mkb_rules.proofs.Answered.{at_ok}
use Rattle.mkb_rules.proofs.Limits.{committed, fork_room, fork_made, fork_of_nodes, fork_of_orders}
use Rattle.mkb_rules.proofs.state.State.fork.Goals as goal

pub try_fork-requires-clause-first : goal.try_fork-requires-clause-first
try_fork-requires-clause-first c =
    ap (λ (l : List Name). has l (child c.args.p.now false)) (at_ok c.fork.result (sym c.is_err.ensures.value ∙ c.if-is_err.false) c.fork.ensures.ok ∙ ap (λ (v : Plain). relabel c.args.p.now v.living) c.self.view_is) ∙ child_lives c.args.p.now false c.args.self.now.living c.requires.lives

pub try_fork-requires-clause-second : goal.try_fork-requires-clause-second
try_fork-requires-clause-second c =
    ap (λ (l : List Name). has l (child c.args.p.now true)) (at_ok c.fork.result (sym c.is_err.ensures.value ∙ c.if-is_err.false) c.fork.ensures.ok ∙ ap (λ (v : Plain). relabel c.args.p.now v.living) c.self.view_is) ∙ child_lives c.args.p.now true c.args.self.now.living c.requires.lives

pub returns-clause-ok : goal.returns-clause-ok
returns-clause-ok c =
    let b = c.args.self.now in
    let p = c.args.p.now in
    let n = c.args.n in
    let first = c.args.cert0.now in
    let second = c.args.cert1.now in
    let parts = c.in_ok-parts.parts in
    let ys = c.try_fork.new.nodes.now in
    let zs = plain_certificates c.fork_orders.new.certificates.items in
    let few : length b.nodes ≤ 4096 = subst {A = Plain} (λ v. length v.nodes ≤ 4096) c.self.view_is c.are_few.ensures in
    let nodes = at_ok c.try_fork.result (sym c.is_err-2.ensures.value ∙ c.if-is_err-2.false) c.try_fork.ensures.ok ∙ ap (λ (v : Plain). fork_of_nodes p n v.nodes) c.self.view_is in
    let orders = at_ok c.fork_orders.result (sym c.is_err-3.ensures.value ∙ c.if-is_err-3.false) c.fork_orders.ensures.ok ∙ ap (λ (v : Plain). fork_of_orders p first second v.certificates) c.self.view_is in
    let log = at_ok c.fork.result (sym c.is_err.ensures.value ∙ c.if-is_err.false) c.fork.ensures.ok ∙ ap (λ (v : Plain). relabel p v.living) c.self.view_is in
    let made = ap (λ (v : Plain). counted (with_parts parts (record v { living = c.fork.new.self; nodes = ys; certificates = zs }))) c.self.view_is in
    committed b c.take_over.new.self (Both p n first second) (fork_room b p n first second c.requires.room few)
    (c.take_over.ensures ∙ made ∙ fork_made b (record b { living = c.fork.new.self; nodes = ys; certificates = zs }) parts p n first second c.in_ok-parts.ensures.parts (λ i. record b { living = log i; nodes = nodes i; certificates = orders i }))
