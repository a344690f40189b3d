use Rattle.std.proofs.Common.{◌∙◌, ap, sym, not, ◌&&◌, List}
use Rattle.kb_label.specs.Names.{has, minus, Name}
use Rattle.kb_label.proofs.Members.{has-minus}
use Rattle.mkb_model.specs.Effects.{with_label}
use Rattle.mkb_rules.proofs.Forks.{put_itself}
use Rattle.mkb_rules.proofs.nodes.Nodes.loses.Goals as goal

pub returns-then-is_disjoint-clause-ok : goal.returns-then-is_disjoint-clause-ok
returns-then-is_disjoint-clause-ok c =
    let xs = c.args.self.now.now in
    let n = c.args.n.0 in
    let k = c.args.kind in
    sym (ap (λ l. with_label n k (minus l c.args.names.now) xs) (sym c.label.ensures) ∙ ap (λ l. with_label n k l xs) (c.is_disjoint.ensures.same c.if-is_disjoint.true ∙ c.label.ensures) ∙ put_itself xs n k)

pub set-requires-clause-differs : goal.set-requires-clause-differs
set-requires-clause-differs c = λ q h.
    let l = c.label-2.result.now in
    sym (ap (λ (z : List Name). has z q) c.in_ok-label.ensures ∙ has-minus l c.args.names.now q ∙ ap (λ b. not b && has l q) h ∙ ap (λ (z : List Name). has z q) c.label-2.ensures)
