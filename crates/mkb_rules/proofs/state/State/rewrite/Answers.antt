use Rattle.std.proofs.Common.{ℕ, ◌≡◌, ◌∙◌, List, Err, ap, ap₂, sym}
use Rattle.mkb_model.proofs.commits.Views.{there_pair}
use Rattle.kb_label.specs.declared.verdict.Reason.TheVariants.{Nodes}
use Rattle.mkb_model.specs.Plain.{Plain, PlainNode}
use Rattle.mkb_model.specs.Effects.{counted, give_up, limit_of, on_nodes}
use Rattle.kb_term.specs.View.{tree_of}
use Rattle.kb_term.specs.declared.origin.Origin.TheVariants.{Rewrite as ByRewrite}
use Rattle.mkb_model.specs.declared.proposed.Proposed.{Proposed}
use Rattle.mkb_model.specs.declared.proposed.Proposed.TheVariants.{Rewrite}
use Rattle.mkb_rules.specs.Applying.{Commits, applied_as}
use Rattle.mkb_rules.specs.declared.applied.Applied.{Applied}
use Rattle.mkb_rules.specs.declared.applied.Applied.TheVariants.{Done, Over}
use Rattle.mkb_rules.proofs.Answered.{ok_so}
use Rattle.mkb_rules.specs.Kept.{plain_certificates}
use Rattle.mkb_rules.specs.Over.{lists_of}
use Rattle.mkb_rules.specs.Parts.{board_of}
use Rattle.mkb_rules.specs.Rewriting.{LeadsFrom, gained, lost}
use Rattle.mkb_rules.proofs.Leading.{leads_from, no_limit, pairs_after, untargeted_none, untargeted_ok}
use Rattle.mkb_rules.proofs.Moving.{sources-all, rewrite-done, rewrite-given_up}
use Rattle.mkb_rules.proofs.state.State.rewrite.Goals as goal

pub returns-in-Ok-try_moving-clause-ok : goal.returns-in-Ok-try_moving-clause-ok
returns-in-Ok-try_moving-clause-ok c =
    let b = c.args.self.now in
    let n = c.args.n in
    let w = c.args.side in
    let s = c.in_ok-sources.sources in
    let o = c.in-Ok.target in
    let before = c.self.inside in
    let node = there_pair b.nodes n.0 c.requires.node in
    let all = sources-all b n w c.args.position.now c.args.rule c.args.kind c.args.outcome.now node.0 node.1 c.in_ok-names.names s c.in_ok-names.ensures
    c.in_ok-sources.ensures.names c.in_ok-sources.ensures.strict c.in_ok-sources.ensures.equation c.in_ok-sources.ensures.right c.in_ok-sources.ensures.left in
    let done = rewrite-done b n w c.args.position.now c.args.rule c.args.kind c.args.outcome.now node.0 node.1 o s (c.in-Ok.ensures node.0 node.1) all
    (rw (← c.self.view_is) c.in-Ok-try_moving.ensures.room) in (
      ap₂ (λ (xs : List PlainNode) (m : ℕ). board_of before.problem before.settings before.log xs before.done before.facts before.closed (lists_of before.over) before.asleep m (plain_certificates before.certificates.items)) c.in-Ok-try_moving.ensures.ok c.counted_up-self-inside.ensures
          ∙ ap (λ (z : Plain). counted (on_nodes (λ xs. gained o s (lost n.0 w s xs)) z)) c.self.view_is
          ∙ done.0,
      ap applied_as (sym done.1),
    )

pub returns-in-Err-Full-clause-ok : goal.returns-in-Err-Full-clause-ok
returns-in-Err-Full-clause-ok c =
    let b = c.args.self.now in
    let n = c.args.n in
    let w = c.args.side in
    let s = c.in_ok-sources.sources in
    let o = c.in-Ok.target in
    let before = c.self.inside in
    let with_nodes_now = λ (xs : List PlainNode). board_of before.problem before.settings before.log xs before.done before.facts before.closed (lists_of before.over) before.asleep before.commits (plain_certificates before.certificates.items) in
    let node = there_pair b.nodes n.0 c.requires.node in
    let all = sources-all b n w c.args.position.now c.args.rule c.args.kind c.args.outcome.now node.0 node.1 c.in_ok-names.names s c.in_ok-names.ensures
    c.in_ok-sources.ensures.names c.in_ok-sources.ensures.strict c.in_ok-sources.ensures.equation c.in_ok-sources.ensures.right c.in_ok-sources.ensures.left in
    let over = rewrite-given_up b n w c.args.position.now c.args.rule c.args.kind c.args.outcome.now node.0 node.1 o s (c.in-Ok.ensures node.0 node.1) all
    (rw (← c.self.view_is) (c.in-Err-Full.ensures.full (ap Err c.in-Err-Full.field-0-is))) in
    untargeted_ok c.give_up-applied.result c.without_target.result (Commits b (Rewrite n w c.args.position.now c.args.rule c.args.kind c.args.outcome.now) c.give_up-applied.new.self) c.without_target.ensures
    (ok_so c.give_up-applied.result (λ (answer : Applied). (c.give_up-applied.new.self ≡ counted (give_up Nodes s.names (with_nodes_now c.try_moving.new.nodes.now))) × (answer ≡ Over Nodes))
    (Commits b (Rewrite n w c.args.position.now c.args.rule c.args.kind c.args.outcome.now) c.give_up-applied.new.self)
    (λ answer h. (h.0 ∙ ap (λ (xs : List PlainNode). counted (give_up Nodes s.names (with_nodes_now xs))) c.in-Err-Full.ensures.err ∙ ap (λ (z : Plain). counted (give_up Nodes s.names z)) c.self.view_is ∙ over.0, h.1 ∙ ap applied_as (sym over.1)))
    c.give_up-applied.ensures.ok)

pub returns-in-Err-Full-clause-target : goal.returns-in-Err-Full-clause-target
returns-in-Err-Full-clause-target c =
    untargeted_none c.give_up-applied.result c.without_target.result (λ (a : Applied). a ≡ Over Nodes) (λ a o. a ≡ Done → LeadsFrom c.give_up-applied.new.self c.args.n.0 c.args.side (tree_of c.args.outcome.now) o) c.without_target.ensures
    (ok_so c.give_up-applied.result _ (λ (a : Applied). a ≡ Over Nodes) (λ a h. h.1) c.give_up-applied.ensures.ok)
    (λ a h d. absurd (cc))

pub returns-in-Ok-try_moving-clause-target : goal.returns-in-Ok-try_moving-clause-target
returns-in-Ok-try_moving-clause-target c = λ d.
    let b = c.args.self.now in
    let n = c.args.n in
    let x : Proposed = Rewrite n c.args.side c.args.position.now c.args.rule c.args.kind c.args.outcome.now in
    let node = there_pair b.nodes n.0 c.requires.node in
    let made = returns-in-Ok-try_moving-clause-ok c in
    leads_from b _ n.0 c.args.side (tree_of c.args.outcome.now) (ByRewrite n.0 c.args.side c.args.position.now c.args.rule) node.0 node.1
    (pairs_after b _ x made.0 (no_limit (limit_of b x) made.1)) c.are_distinct.ensures c.in-Ok-try_moving.target c.in-Ok.target (c.in-Ok.ensures node.0 node.1) c.in-Ok-try_moving.ensures.node
