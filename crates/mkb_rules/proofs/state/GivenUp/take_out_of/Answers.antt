use Rattle.std.proofs.Common.{◌≡◌, filter, not, ap, ◌∙◌}
use Rattle.std.specs.List.{list_any}
use Rattle.kb_label.specs.Names.{has, minus}
use Rattle.mkb_model.specs.Plain.{GivenUp as OverFor}
use Rattle.mkb_rules.specs.Over.{lists_of}
use Rattle.mkb_rules.proofs.Sets.{out_of_six}
use Rattle.mkb_rules.proofs.Answered.{ok_then}
use Rattle.mkb_rules.proofs.state.GivenUp.take_out_of.Goals as goal

pub returns : goal.returns
returns c =
    let g = c.args.self.now in
    let l = c.args.names.now in
    let two = c.in_ok-minus-2.ensures.ok ∙ ap (λ z. minus z g.processes) c.in_ok-minus.ensures.ok in
    let three = c.in_ok-minus-3.ensures.ok ∙ ap (λ z. minus z g.size) two in
    let four = c.in_ok-minus-4.ensures.ok ∙ ap (λ z. minus z g.depth) three in
    let five = c.in_ok-minus-5.ensures.ok ∙ ap (λ z. minus z g.variables) four in
    ok_then c.minus-6.result (c.minus-6.new.self ≡ minus c.minus-5.new.self g.steps)
    (c.minus-6.new.self ≡ filter (λ p. not (list_any (λ (x : OverFor). has x.names p) (lists_of g))) l)
    (λ six. six ∙ ap (λ z. minus z g.steps) five ∙ out_of_six l g.nodes g.processes g.size g.depth g.variables g.steps) c.minus-6.ensures.ok
