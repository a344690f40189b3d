use Rattle.std.proofs.Common.{◌∙◌, ap, sym, ◌||◌, List}
use Rattle.std.proofs.Math.Bool.{or-false}
use Rattle.kb_label.specs.Names.{has, join, Name}
use Rattle.kb_label.proofs.Members.{has-join}
use Rattle.mkb_model.specs.Effects.{with_label}
use Rattle.mkb_rules.proofs.Forks.{put_itself}
use Rattle.mkb_rules.proofs.nodes.Nodes.gains.Goals as goal

pub returns-then-includes-clause-ok : goal.returns-then-includes-clause-ok
returns-then-includes-clause-ok c =
    let xs = c.args.self.now.now in
    let n = c.args.n.0 in
    let k = c.args.kind in
    sym (ap (λ l. with_label n k (join l c.args.names.now) xs) (sym c.label.ensures) ∙ ap (λ l. with_label n k l xs) (c.includes.ensures.same c.if-includes.true ∙ c.label.ensures) ∙ put_itself xs n k)

pub set-requires-clause-differs : goal.set-requires-clause-differs
set-requires-clause-differs c = λ q h.
    let l = c.label-2.result.now in
    sym (ap (λ (z : List Name). has z q) c.in_ok-label.ensures ∙ has-join l c.args.names.now q ∙ ap (λ b. has l q || b) h ∙ or-false (has l q) ∙ ap (λ (z : List Name). has z q) c.label-2.ensures)
