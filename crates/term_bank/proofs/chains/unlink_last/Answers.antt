use Rattle.std.proofs.Common.{◌≡◌, length, ap, subst, ◌∙◌, arith}
use Rattle.term_bank.specs.Chains.{slot_of, IsChained}
use Rattle.term_bank.proofs.Linking.{chained_pop}
use Rattle.term_bank.proofs.chains.unlink_last.Goals as goal

pub returns-in-Some-clause-chained : goal.returns-in-Some-clause-chained
returns-in-Some-clause-chained c =
    let heads = c.args.heads.now.items in
    let front = c.pop.new.self.items in
    let counted : c.len.result ≡ length heads = omega (arith, c.len.ensures) in
    let slot : c.slot_of-slot.result ≡ slot_of (length heads) c.in-Some.last.hash = c.slot_of-slot.ensures.slot ∙ ap (λ n. slot_of n c.in-Some.last.hash) counted in
    rw slot (chained_pop heads front c.in-Some.last (subst (IsChained heads) c.in-Some.ensures.items c.requires.chained))
