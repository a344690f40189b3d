use Rattle.std.proofs.Common.{take, sym, ap, ◌∙◌, arith}
use Rattle.std.proofs.lemmas.List.{take-map, take_all}
use Rattle.term_bank.specs.Chains.{hashes_of}
use Rattle.term_bank.specs.declared.chains.Link.{Link}
use Rattle.term_bank.proofs.chains.Chains.truncate.Goals as goal

pub returns : goal.returns
returns c =
    let now = c.loop-self.self-inside.links.items in
    let old = c.self.inside.links.items in
    ap hashes_of (sym (take_all c.args.len now (omega (arith, c.loop-self-test.false, c.len.ensures))) ∙ c.loop-self.invariant.first)
    ∙ sym (take-map (λ (l : Link). l.hash) c.args.len old)
    ∙ ap (take c.args.len) c.self.view_is
